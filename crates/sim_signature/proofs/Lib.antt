mod Adding
mod Ends
mod Evaluating
mod Hunts
mod Inverting
mod Picking
mod Reached
mod Rows
mod Signing
mod Wanted
pub mod SupportLemmas
