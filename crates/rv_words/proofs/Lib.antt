mod Additions
mod Levels
mod Numbers
mod Parsed
mod Plain
mod Ranged
mod Takes
