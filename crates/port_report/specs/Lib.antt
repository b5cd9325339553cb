pub mod Reports
pub mod Infos
