-- What one byte does to each end.
use Rattle.std.specs.Prelude.{ℕ, ◌+◌, ◌-◌, ◌^◌, cond, length, nat_lt, slice_set}
use Rattle.sinks.specs.declared.Count.{Count}
use Rattle.sinks.specs.declared.Filler.{Filler}

abbrev pub counted : Count → ℕ → Count
counted s b = record { n = cond (nat_lt s.n (2 ^ 64 - 1)) (s.n + 1) s.n }

abbrev pub filled : Filler → ℕ → Filler
filled s b = cond (nat_lt s.at (length s.out.now)) (record { out = record { ref_ptr = s.out.ref_ptr; ghost_name = s.out.ghost_name; now = slice_set s.out.now s.at b }; at = s.at + 1 }) s
