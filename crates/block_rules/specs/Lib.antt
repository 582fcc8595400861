pub mod Scanning
pub mod Repeating
pub mod FrameScan
pub mod PortScan
