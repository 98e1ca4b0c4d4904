pub mod TextLemmas
pub mod Ascii
pub mod DefineLemmas
pub mod Faults
pub mod SettingPaths
