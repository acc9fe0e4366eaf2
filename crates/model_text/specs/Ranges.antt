-- The ranges of a model's variables.
use Rattle.std.specs.Prelude.{◌≡◌, ℕ, ◌≤◌, List, [], length, ℤ, pos, negsuc, ◌≤ℤ◌}
use Rattle.scan.specs.Stands.{Each}

-- the lowest and the highest value of a variable
pub record Span : Type 0 where
  pub low : ℤ
  pub high : ℤ

-- the last event; of each automaton the last choice and the last location; of each variable its values
pub record Ranges : Type 0 where
  pub events : ℕ
  pub choices : List ℕ
  pub locations : List ℕ
  pub values : List Span

pub record SpanFormed (v : Span) : Type 0 where
  pub bottom : negsuc 999 ≤ℤ v.low
  pub some : v.low ≤ℤ v.high
  pub top : v.high ≤ℤ pos 1000

pub record RangesFormed (r : Ranges) : Type 0 where
  pub events : r.events ≤ 63
  pub choices : Each (λ _ n. n ≤ 512) [] r.choices
  pub locations : Each (λ _ n. n ≤ 63) [] r.locations
  pub as_many : length r.choices ≡ length r.locations
  pub some_automaton : 1 ≤ length r.locations
  pub few_automata : length r.locations ≤ 12
  pub values : Each (λ _ v. SpanFormed v) [] r.values
  pub few_variables : length r.values ≤ 12
