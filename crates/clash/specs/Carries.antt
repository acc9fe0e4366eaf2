-- Which wishes carry a value.
use Rattle.std.specs.Prelude.{Bool, true, false}
use Rattle.clash.specs.declared.wish.Status.{Status}
use Rattle.clash.specs.declared.wish.Status.TheVariants.{Nothing, Single, Clash}

abbrev pub carries : Status → Bool
carries Nothing = false
carries Single = true
carries Clash = false
