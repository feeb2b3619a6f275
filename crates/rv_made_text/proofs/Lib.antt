mod Numerals
mod Words
mod Tokens
mod Lexed
mod Trees
mod Derived
mod Nested
mod Sited
