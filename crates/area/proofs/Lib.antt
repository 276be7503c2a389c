pub mod Diagnostics
pub mod SlotsHeld
pub mod Reporting
pub mod AreaExamples
