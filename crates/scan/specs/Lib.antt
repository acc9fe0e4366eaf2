pub mod Faults
pub mod Scan
pub mod Says
pub mod Stands
pub mod Fronts
