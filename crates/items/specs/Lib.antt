pub mod ListLends
