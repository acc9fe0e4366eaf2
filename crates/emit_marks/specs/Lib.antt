pub mod Roles
pub mod Locations
