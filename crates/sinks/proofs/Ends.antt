-- What the two ends hold after a text: its length, and its bytes.
use Rattle.std.proofs.Common.{◌≡◌, ℕ, ◌+◌, ◌-◌, ◌^◌, ◌<◌, ◌≤◌, true, leb, List, [], ◌∷◌, ◌++◌, length, take, drop, set, Ok, Err, fold, sym, ap, ◌∙◌, append_assoc, add-zero, zero-add, arith, length-set, take-append-drop}
use Rattle.std.proofs.lemmas.List.{take_more_set, drop-set-lt}
use Rattle.std.proofs.lemmas.Bool.{le-leb, lt-ltb, cond-true}
use Rattle.sinks.specs.declared.Count.{Count}
use Rattle.sinks.specs.declared.Filler.{Filler}
use Rattle.sinks.specs.Post.{Written}
use Rattle.sinks.specs.Steps.{counted, filled}
use Rattle.sinks.specs.Text.{laid}

pub counts : (t : List ℕ) (s : Count) → s.n + length t < 2 ^ 64 → (fold counted s t).n ≡ s.n + length t
counts [] s h = sym (add-zero s.n)
counts (b ∷ t) s h =
    let one : (counted s b).n ≡ s.n + 1 = cond-true _ (s.n + 1) s.n (lt-ltb s.n (2 ^ 64 - 1) (omega arith)) in
    let rest = counts t (counted s b) (omega (arith, one)) in
    omega (arith, one, rest)

laid_more : (o : List ℕ) (i b : ℕ) (t : List ℕ) → i < length o → laid (set o i b) (i + 1) t ≡ laid o i (b ∷ t)
laid_more o i b t h =
    let e : (i + 1) + length t ≡ i + length (b ∷ t) = omega arith in
    rw (take_more_set o i b h, drop-set-lt ((i + 1) + length t) o i b (omega arith), e, append_assoc (take i o) (b ∷ []) (t ++ drop (i + length (b ∷ t)) o))

-- s with other bytes, at another place
abbrev moved : Filler → List ℕ → ℕ → Filler
moved s o i = record { out = record { ref_ptr = s.out.ref_ptr; ghost_name = s.out.ghost_name; now = o }; at = i }

moved_both : (s : Filler) (o p : List ℕ) (i j : ℕ) → o ≡ p → i ≡ j → moved s o i ≡ moved s p j
moved_both s o p i j e h = ap (λ q. moved s q i) e ∙ ap (λ k. moved s p k) h

abbrev pub at_end : Filler → List ℕ → Filler
at_end s t = moved s (laid s.out.now s.at t) (s.at + length t)

laid_none : (o : List ℕ) (i : ℕ) → o ≡ laid o i []
laid_none o i = sym (rw (add-zero i, take-append-drop i o))

pub fills : (t : List ℕ) (s : Filler) → s.at + length t ≤ length s.out.now → fold filled s t ≡ at_end s t
fills [] s h = moved_both s _ _ _ _ (laid_none s.out.now s.at) (sym (add-zero s.at))
fills (b ∷ t) s h =
    let o = s.out.now in
    let i = s.at in
    let next : Filler = moved s (set o i b) (i + 1) in
    let one : filled s b ≡ next = cond-true _ next s (lt-ltb i (length o) (omega arith)) in
    let room : next.at + length t ≤ length next.out.now = simp length-set (omega arith) in
    ap (λ f. fold filled f t) one ∙ fills t next room ∙ moved_both s _ _ _ _ (laid_more o i b t (omega arith)) (omega arith)

pub written : (t o a : List ℕ) (n : ℕ) → n ≡ length t → n ≤ length o → a ≡ laid o 0 t → Written t o a (Ok n)
written t o a n e h s =
    let fits : leb (length t) (length o) ≡ true = le-leb (length t) (length o) (omega arith) in
    record {
      answer = ap Ok e ∙ sym (cond-true _ (Ok (length t)) (Err (length t)) fits);
      bytes = s ∙ ap (λ k. t ++ drop k o) (zero-add (length t)) ∙ sym (cond-true _ (t ++ drop (length t) o) o fits);
    }
