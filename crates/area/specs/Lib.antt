pub mod DiagnosticKind
pub mod Diagnostic
pub mod Reported
pub mod Source
pub mod Inside
