-- An expression behind its length is read exactly where it is well formed.
use Rattle.std.proofs.Common.{◌≡◌, ℕ, zero, suc, ◌+◌, ◌-◌, ◌<◌, ◌≤◌, List, [], ◌∷◌, length, get_or, refl, ap, ◌∙◌, subst, arith, w16, SFits}
use Rattle.scan.specs.declared.refusal.Origin.{Origin}
use Rattle.scan.specs.Scan.{good, run}
use Rattle.scan.specs.Stands.{Stands, Bytes}
use Rattle.scan.proofs.Runs.{run-done, run-ask, run-then}
use Rattle.scan.proofs.Codecs.{Read, Codec, both_read, asked_read}
use Rattle.scan.proofs.Standing.{stands_append, stands_one, stands_head}
use Rattle.expr.specs.Expr.{Kind, Expr, truth, negate, join, test, literal, variable, sum, branch, bytes_of, depth, Leaves, Formed}
use Rattle.expr.specs.Scan.{Part, parse, leftover, finished, of_length, sized}
use Rattle.expr.specs.Sized.{sized_bytes}
use Rattle.expr.proofs.Parses.{sound, complete}

-- no expression is without bytes
pub some_bytes : {k : Kind} (e : Expr k) → 0 < length (bytes_of e)
some_bytes (truth b) = omega arith
some_bytes (negate a) = omega arith
some_bytes (join j a b) = omega arith
some_bytes (test o a b) = omega arith
some_bytes (literal v) = omega arith
some_bytes (variable v) = omega arith
some_bytes (sum o a b) = omega arith
some_bytes (branch g a b) = omega arith

module _ (n : ℕ) (o : Origin) (k : Kind) where
  never_over : (left : ℕ) (s : List ℕ) (at : ℕ) (e : Expr k) (end : ℕ) → run (leftover n o left) s at ≡ good e end → ⊥
  unfolding leftover run
  never_over zero s at e end is = let z : ◌≡◌ {A = ℕ} 0 1 = cc in omega arith
  never_over (suc left) s at e end is = let r = asked_read o (λ b. leftover n o left) s at e end is in never_over left s (at + 1) e end r.1

  finished_read : (p : Part k) (left : ℕ) (s : List ℕ) (at : ℕ) (e : Expr k) (end : ℕ) → run (finished n o p left) s at ≡ good e end → (left ≡ 0) × (p.expr ≡ e) × (at ≡ end)
  unfolding finished run
  finished_read p zero s at e end is = (refl, cc, cc)
  finished_read p (suc left) s at e end is = let r = asked_read o (λ b. leftover n o left) s at e end is in absurd (never_over left s (at + 1) e end r.1)

  -- an expression of the whole length
  whole_read : (s : List ℕ) → Bytes s → (left at : ℕ) (e : Expr k) (end : ℕ) → left ≤ 255 → run (of_length n o k left) s at ≡ good e end → Formed n e × Stands s at (bytes_of e) × (left ≡ length (bytes_of e)) × (end ≡ at + length (bytes_of e))
  unfolding of_length run
  whole_read s bytes zero at e end few is = absurd (let z : ◌≡◌ {A = ℕ} 0 1 = cc in omega arith)
  whole_read s bytes (suc left) at e end few is =
      let r = both_read (parse n o 16 k (suc left)) _ s at e end is in
      let p = r.0 in
      let f = finished_read p p.left s r.1 e end r.3 in
      let g = sound n o s bytes 16 k (suc left) at p r.1 r.2 in
      let long : length (bytes_of p.expr) ≡ length (bytes_of e) = ap (λ x. length (bytes_of x)) f.1 in (
        record {
          short = omega (arith, g.uses, f.0);
          shallow = subst (λ x. depth x ≤ 16) f.1 g.shallow;
          leaves = subst (λ x. Leaves (λ v. v < n) (SFits w16) x) f.1 g.leaves;
        },
        subst (λ x. Stands s at (bytes_of x)) f.1 g.stands,
        omega (arith, g.uses, f.0),
        omega (arith, g.ends, f.2),
      )

  finished_whole : (p : Part k) (left : ℕ) (s : List ℕ) (at : ℕ) → left ≡ 0 → run (finished n o p left) s at ≡ good p.expr at
  unfolding finished
  finished_whole p zero s at is = run-done p.expr s at
  finished_whole p (suc left) s at is = absurd (let z : ⊥ = omega arith in z)

  whole_met : (s : List ℕ) (left at : ℕ) (e : Expr k) → Formed n e → left ≡ length (bytes_of e) → Stands s at (bytes_of e) → run (of_length n o k left) s at ≡ good e (at + left)
  unfolding of_length
  whole_met s zero at e formed long stands = absurd (let z : ⊥ = omega (arith, some_bytes e) in z)
  whole_met s (suc left) at e formed long stands =
      let none : suc left - length (bytes_of e) ≡ 0 = omega arith in
      run-then (parse n o 16 k (suc left)) _ s at _ _ (complete n o s 16 e (suc left) at formed.shallow formed.leaves (omega arith) stands)
      ∙ finished_whole _ _ s (at + length (bytes_of e)) none ∙ ap (good e) (let q : at + length (bytes_of e) ≡ at + suc left = omega arith in q)

  sized_sound : (s : List ℕ) → Bytes s → (at : ℕ) (e : Expr k) (end : ℕ) → run (sized n o k) s at ≡ good e end → Read sized_bytes (Formed n) s at e end
  unfolding sized
  sized_sound s bytes at e end is =
      let r = asked_read o _ s at e end is in
      let b : get_or s at 0 < 256 = bytes at in
      let w = whole_read s bytes (get_or s at 0) (at + 1) e end (omega arith) r.1 in
      record {
        holds = w.0;
        stands = subst (λ x. Stands s at (x ∷ bytes_of e)) w.2 (stands_append s at (get_or s at 0 ∷ []) (bytes_of e) (stands_one s at r.0) w.1);
        ends = omega (arith, w.3);
      }

  sized_complete : (s : List ℕ) (at : ℕ) (e : Expr k) → Formed n e → Stands s at (sized_bytes e) → run (sized n o k) s at ≡ good e (at + length (sized_bytes e))
  unfolding sized
  sized_complete s at e formed stands =
      let h = stands_head s at (length (bytes_of e)) (bytes_of e) stands in
      run-ask o _ s at h.0 ∙ whole_met s (get_or s at 0) (at + 1) e formed h.1 h.2 ∙ ap (good e) (omega (arith, h.1))

  pub codec_sized : Codec (sized n o k) sized_bytes (Formed n)
  codec_sized = record { sound = sized_sound; complete = sized_complete }
