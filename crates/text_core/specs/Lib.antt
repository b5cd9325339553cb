pub mod Bytes
pub mod Piece
pub mod Lines
pub mod Words
pub mod Numbers
pub mod Groups
pub mod Extends
