pub mod ScriptRuns
pub mod Text
pub mod PrintedRuns
pub mod ReportedRuns
