-- Bytes that stand one after another.
use Rattle.std.proofs.Common.{◌≡◌, ℕ, ◌+◌, ◌-◌, ◌<◌, ◌≤◌, List, [], ◌∷◌, ◌++◌, length, get_or, take, drop, sym, refl, ap, ◌∙◌, inl, inr, add-zero, arith, length-append, length-drop}
use Rattle.std.proofs.lemmas.List.{drop_all, drop_more, drop-drop, append_assoc, append_cancel_left, take_at, drop_at}
use Rattle.std.proofs.lemmas.Bool.{cases_lt}
use Rattle.scan.specs.Stands.{Stands}

pub stands_none : (s : List ℕ) (at : ℕ) → Stands s at []
stands_none s at = record { is = ap (λ n. drop n s) (sym (add-zero at)) }

pub stands_append : (s : List ℕ) (at : ℕ) (xs ys : List ℕ) → Stands s at xs → Stands s (at + length xs) ys → Stands s at (xs ++ ys)
stands_append s at xs ys h g =
    let e : (at + length xs) + length ys ≡ at + length (xs ++ ys) = simp length-append (omega arith) in
    record { is = h.is ∙ ap (λ zs. xs ++ zs) g.is ∙ sym (append_assoc xs ys _) ∙ ap (λ n. (xs ++ ys) ++ drop n s) e }

-- what stands as a list in front of another list
pub stands_front : (s : List ℕ) (at : ℕ) (xs rest : List ℕ) → drop at s ≡ xs ++ rest → Stands s at xs
stands_front s at xs rest h =
    let e : rest ≡ drop (at + length xs) s = sym (drop_at xs rest (length xs) refl) ∙ ap (λ zs. drop (length xs) zs) (sym h) ∙ drop-drop (length xs) at s in
    record { is = h ∙ ap (λ zs. xs ++ zs) e }

pub stands_split : (s : List ℕ) (at : ℕ) (xs ys : List ℕ) → Stands s at (xs ++ ys) → Stands s at xs × Stands s (at + length xs) ys
stands_split s at xs ys h =
    let whole : drop at s ≡ xs ++ (ys ++ drop (at + length (xs ++ ys)) s) = h.is ∙ append_assoc xs ys _ in
    let first = stands_front s at xs _ whole in
    let rest : drop (at + length xs) s ≡ ys ++ drop (at + length (xs ++ ys)) s = append_cancel_left xs _ _ (sym first.is ∙ whole) in
    (first, stands_front s (at + length xs) ys _ rest)

pub stands_one : (s : List ℕ) (at : ℕ) → at < length s → Stands s at (get_or s at 0 ∷ [])
stands_one s at h = record { is = drop_more s at 0 h }

pub stands_head : (s : List ℕ) (at x : ℕ) (xs : List ℕ) → Stands s at (x ∷ xs) → (at < length s) × (get_or s at 0 ≡ x) × Stands s (at + 1) xs
stands_head s at x xs h =
    elim (cases_lt at (length s)) [
      | inl under ↦
          let e : get_or s at 0 ∷ drop (at + 1) s ≡ x ∷ (xs ++ drop (at + length (x ∷ xs)) s) = sym (drop_more s at 0 under) ∙ h.is in
          (under, cc, stands_front s (at + 1) xs (drop (at + length (x ∷ xs)) s) (cc))
      | inr past ↦ absurd (let z : [] ≡ x ∷ (xs ++ drop (at + length (x ∷ xs)) s) = sym (drop_all at s past) ∙ h.is in let y : ◌≡◌ {A = ℕ} 0 1 = cc in omega arith)
    ]

pub stands_within : (s : List ℕ) (at : ℕ) (xs : List ℕ) → at ≤ length s → Stands s at xs → at + length xs ≤ length s
stands_within s at xs h g =
    let e : length s - at ≡ length xs + (length s - (at + length xs)) = sym (length-drop at s) ∙ ap length g.is ∙ length-append xs (drop (at + length xs) s) ∙ ap (λ n. length xs + n) (length-drop (at + length xs) s) in
    omega arith

-- a part of the file, as `&file[at..at + n]` is
pub stands_part : (s : List ℕ) (at n : ℕ) (xs : List ℕ) → n ≡ length xs → Stands s at xs → take n (drop at s) ≡ xs
stands_part s at n xs e h = ap (λ zs. take n zs) h.is ∙ take_at xs (drop (at + length xs) s) n (sym e)
