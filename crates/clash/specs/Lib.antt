pub mod Carries
pub mod Wishes
pub mod Rules
pub mod Orders
pub mod EqualValues
pub mod Laws
