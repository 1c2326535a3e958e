pub mod ReportLemmas
pub mod RunLemmas
pub mod Values
pub mod CommandReading
pub mod CommandWalk
pub mod CommandEnds
