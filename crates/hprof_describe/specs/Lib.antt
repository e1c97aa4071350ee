pub mod Quoted
pub mod Findings
pub mod Nodes
pub mod References
pub mod Values
