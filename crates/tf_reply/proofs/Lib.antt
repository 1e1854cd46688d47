mod Examples
mod Placing
mod Ascending
mod LineLaws
mod Showing
