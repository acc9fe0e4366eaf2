-- Things that stand one after another: the first, and those after it.
use Rattle.std.proofs.Common.{◌≡◌, ℕ, ◌+◌, ◌-◌, List, [], ◌∷◌, length, sym, refl, ap, ◌∙◌, subst, arith, length-append}
use Rattle.std.proofs.lemmas.List.{nil_from_length}
use Rattle.std.specs.List.{flat_map}
use Rattle.scan.specs.Stands.{Stands}
use Rattle.scan.proofs.Standing.{stands_split}
use Rattle.view.specs.Walk.{OneAt, ManyAt}

-- a first one, and those after it from where it ends
pub record Front {A : Type 0} (enc : A → List ℕ) (P : A → Type 0) (s : List ℕ) (at left : ℕ) (xs : List A) : Type 0 where
  pub head : A
  pub tail : List A
  pub are : xs ≡ head ∷ tail
  pub first : OneAt enc P s at head
  pub rest : (end : ℕ) → end ≡ at + length (enc head) → ManyAt enc P s end (left - 1) tail

module _ {A : Type 0} {enc : A → List ℕ} {P : A → Type 0} {s : List ℕ} {at left : ℕ} where
  pub none_left : (xs : List A) → ManyAt enc P s at left xs → left ≡ 0 → xs ≡ []
  none_left xs h none = nil_from_length xs (h.count ∙ none)

  pub front_left : (xs : List A) → ManyAt enc P s at left xs → (left ≡ 0 → ⊥) → Front enc P s at left xs
  front_left [] h some = absurd (some (sym h.count))
  front_left (x ∷ xs) h some =
      let p = stands_split s at (enc x) (flat_map enc xs) h.stands in
      record {
        head = x;
        tail = xs;
        are = refl;
        first = record { stands = p.0; fine = h.fine.0 };
        rest = λ end e. record { stands = subst (λ i. Stands s i (flat_map enc xs)) (sym e) p.1; count = omega (arith, h.count); fine = h.fine.1 };
      }

-- what stands from a place on ends in front of another
pub record ManyTo {A : Type 0} (enc : A → List ℕ) (P : A → Type 0) (s : List ℕ) (at left end : ℕ) : Type 0 where
  pub xs : List A
  pub here : ManyAt enc P s at left xs
  pub ends : at + length (flat_map enc xs) ≡ end

module _ {A : Type 0} {enc : A → List ℕ} {P : A → Type 0} {s : List ℕ} {at left end : ℕ} where
  pub to_more : (stop fewer : ℕ) → ManyTo enc P s at left end → left - 1 ≡ fewer → (left ≡ 0 → ⊥) → ((x : A) → OneAt enc P s at x → stop ≡ at + length (enc x)) → ManyTo enc P s stop fewer end
  to_more stop fewer g one some is =
      let f = front_left g.xs g.here some in
      let e = is f.head f.first in
      let long = ap (λ xs. length (flat_map enc xs)) f.are in
      record { xs = f.tail; here = subst (λ n. ManyAt enc P s stop n f.tail) one (f.rest stop e); ends = omega (arith, g.ends, e, long, length-append (enc f.head) (flat_map enc f.tail)) }

  pub to_all : ManyTo enc P s at left end → left ≡ 0 → at ≡ end
  to_all g none = let e = ap (λ xs. length (flat_map enc xs)) (none_left g.xs g.here none) in omega (arith, g.ends)
