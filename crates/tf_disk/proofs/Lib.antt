mod Changes
mod Images
mod Padding
