pub mod Symbols
pub mod Tokens
pub mod Bytes
pub mod Numerals
pub mod Reserved
pub mod Lexing
pub mod Toks
