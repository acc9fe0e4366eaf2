-- Proofs that a rule keeps its laws. The impl of a rule cites them, so they stand here and not in proofs/.
pub mod EqualValues
pub mod Plain
pub mod Shapes
