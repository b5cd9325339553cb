pub mod Bodies
pub mod Entries
pub mod Fields
pub mod PrefixProofs
pub mod PrefixCodes
pub mod Reading
