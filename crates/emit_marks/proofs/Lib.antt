pub mod AnyBelow
