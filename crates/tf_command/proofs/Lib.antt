mod Examples
pub mod Options
mod Putting
pub mod LineParts
mod FormedLaws
mod Numerals
mod Rooms
mod Texts
mod Escapes
mod Words
mod Lexing
mod Sizes
