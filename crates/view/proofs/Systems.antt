-- The system of a view is the one that it shows.
use Rattle.std.proofs.Common.{◌≡◌, ℕ, List, sym, refl, ap, ◌∙◌, subst}
use Rattle.std.proofs.Math.Nat.{ℕ_set}
use mathlib.Core.List.{is_set}
use mathlib.Core.Logic.{∥∥₁_elim}
use native.Mathlib.Bridge.{le_prop}
use Rattle.scan.specs.Scan.{Out, good, bad}
use Rattle.scan.specs.Stands.{Stands, Bytes}
use Rattle.system.specs.System.{System}
use Rattle.system.specs.Formed.{WellFormed}
use Rattle.system.specs.Scan.{answer}
use Rattle.system.specs.Shows.{Shows}
use Rattle.system.specs.declared.layout.Layout.{Layout}
use Rattle.system.proofs.Files.{accepted_encodes, encodes_accepted}
use Rattle.system.proofs.Verdicts.{refused_none}
use Rattle.view.specs.Systems.{system_in, read_system, LaidOut}
use Rattle.view.specs.Shown.{ViewOf, system_of}
use Rattle.view.specs.declared.view.View.{View}

pub read-answer : (s : List ℕ) (S : System) (end : ℕ) → answer s ≡ good S end → read_system s ≡ S
unfolding read_system
read-answer s S end is = ap system_in is

-- a layout shows no other system than that of the file
pub shows_only : (s : List ℕ) (l : Layout) (S : System) → Shows s l S → read_system s ≡ S
shows_only s l S h = read-answer s S _ (ap answer (sym h.bytes) ∙ encodes_accepted S h.formed)

pub system_only : (v : View) (S : System) → ViewOf v S → system_of v ≡ S
system_only v S h = shows_only v.file.now v.layout S h

module _ (s : List ℕ) (l : Layout) where
  pub laid_out : (S : System) → Shows s l S → Bytes s → LaidOut s l
  laid_out S h bytes = record { shows = subst (Shows s l) (sym (shows_only s l S h)) h; bytes = bytes }

  module _ (h : ∥ LaidOut s l ∥₁) where
    bytes : Bytes s
    bytes i = ∥∥₁_elim h le_prop (λ w. w.bytes i)

    formed : WellFormed (read_system s)
    unfolding read_system
    formed = go (answer s) refl
      where
        go : (m : Out System) → answer s ≡ m → WellFormed (system_in m)
        go (good S end) e = (accepted_encodes s bytes S end e).0
        go (bad f) e = absurd (∥∥₁_elim h (λ x y. absurd x) (λ w. refused_none s f e (read_system s) w.shows.formed w.shows.bytes))

    stands : (at : ℕ) (xs : List ℕ) → (LaidOut s l → Stands s at xs) → Stands s at xs
    stands at xs f = record { is = ∥∥₁_elim h (is_set ℕ_set _ _) (λ w. (f w).is) }

    pub shown : Shows s l (read_system s)
    shown = record {
      formed = formed;
      bytes = ∥∥₁_elim h (is_set ℕ_set _ _) (λ w. w.shows.bytes);
      events = ∥∥₁_elim h (ℕ_set _ _) (λ w. w.shows.events);
      variables = ∥∥₁_elim h (ℕ_set _ _) (λ w. w.shows.variables);
      automata = ∥∥₁_elim h (ℕ_set _ _) (λ w. w.shows.automata);
      transitions = ∥∥₁_elim h (ℕ_set _ _) (λ w. w.shows.transitions);
      heads = record { begin = λ k low. stands _ _ (λ w. w.shows.heads.begin k low) };
      rows = stands _ _ (λ w. w.shows.rows);
    }

-- what a view shows
pub viewed : (v : View) → ViewOf v (system_of v)
viewed v = shown v.file.now v.layout v.laid_out
