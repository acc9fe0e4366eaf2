-- The three wishes, and the number of a status.
use Rattle.std.specs.Prelude.{Bool, true, false, ℤ, pos, refl}
use Rattle.std.proofs.lemmas.Bool.{true≢false}
pub use Rattle.clash.specs.declared.wish.Status.{Status}
pub use Rattle.clash.specs.declared.wish.Wish.{Wish}
use Rattle.clash.specs.declared.wish.Status.TheVariants.{Nothing, Single, Clash}

abbrev pub none : Wish
none = record { status = Nothing; value = pos 0; canonical = λ _. refl }

abbrev pub single : ℤ → Wish
single v = record { status = Single; value = v; canonical = λ e. absurd (true≢false e) }

abbrev pub clash : Wish
clash = record { status = Clash; value = pos 0; canonical = λ _. refl }

abbrev pub status_number : Status → ℤ
status_number Nothing = pos 0
status_number Single = pos 1
status_number Clash = pos 2

abbrev pub is_clash : Status → Bool
is_clash Nothing = false
is_clash Single = false
is_clash Clash = true
