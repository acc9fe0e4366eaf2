-- The scanner of the variables reads exactly at most 12 well-formed variables behind their count.
use Rattle.std.proofs.Common.{◌≡◌, ℕ, ◌^◌, ◌<◌, ◌≤◌, true, List, [], ◌++◌, length, ℤ, pos, negsuc, ◌≤ℤ◌, sym, refl, ap, subst, arith, w16, SFits, to_z, of_z}
use borrow.Author.Gap.{read_sfits}
use lib.Signed.{le_z, ≤ℤ_refl}
use Rattle.std.proofs.lemmas.List.{append-nil}
use Rattle.std.proofs.lemmas.Int.{to_z-of_z, of_z-to_z, ints}
use Rattle.std.proofs.lemmas.Bool.{and_parts, and_from}
use Rattle.scan.specs.declared.refusal.Origin.{Origin}
use Rattle.scan.specs.declared.refusal.Section.TheVariants.{Variables}
use Rattle.scan.specs.declared.refusal.FileRule.TheVariants.{VariableValues}
use Rattle.scan.specs.Scan.{Scan, and_then}
use Rattle.scan.proofs.Codecs.{Codec, codec_as, codec_same, codec_map, codec_then, codec_when, codec_done, codec_pair, codec_listed}
use Rattle.expr.specs.Expr.{value_bytes}
use Rattle.system.specs.System.{Variable}
use Rattle.system.specs.Formed.{All, VariableFormed}
use Rattle.system.specs.Encode.{variable_bytes, variables_bytes}
use Rattle.system.specs.Scan.{origin, row_after, value, in_order, ruled, variable_row, variables}
use Rattle.system.proofs.Eaches.{each_all, all_each}

-- a value of 16 bits, in two's complement
value-under : (v : ℤ) → SFits w16 v → of_z w16 v < 65536
value-under (pos n) fits = let h : n < 2 ^ 15 = fits.sfits in omega arith
value-under (negsuc n) fits = let h : n < 2 ^ 15 = fits.sfits in omega arith

pub codec_value : (o : Origin) → Codec (value o) value_bytes (SFits w16)
unfolding value
codec_value o =
    codec_same (SFits w16) (codec_map (to_z w16) (of_z w16) (codec_pair o) (λ n h. of_z-to_z w16 n h))
    (λ v h. subst (SFits w16) (sym h.1) (read_sfits w16 (of_z w16 v)))
    (λ v h. (value-under v h, sym (to_z-of_z w16 v h)))

-- the rule of the five values
under_le_z : (a b : ℤ) → le_z a b ≡ true → a ≤ℤ b
under_le_z a b h = grind (arith, ints)

le_z_under : (a b : ℤ) → a ≤ℤ b → le_z a b ≡ true
le_z_under a b h = grind (arith, ints)

pub ordered_formed : (v : Variable) → in_order v ≡ true → VariableFormed v
ordered_formed v h =
    let r = and_parts _ _ h in
    let a = and_parts _ _ r.0 in
    let b = and_parts _ _ a.1 in
    let c = and_parts _ _ r.1 in
    let d = and_parts _ _ c.0 in
    let e = and_parts _ _ c.1 in
    let f = and_parts _ _ e.1 in
    record {
      bottom = under_le_z _ _ a.0;
      some = under_le_z _ _ b.0;
      top = under_le_z _ _ b.1;
      start_low = under_le_z _ _ d.0;
      start_high = under_le_z _ _ d.1;
      marked_bottom = under_le_z _ _ e.0;
      marked_some = under_le_z _ _ f.0;
      marked_top = under_le_z _ _ f.1;
    }

pub formed_ordered : (v : Variable) → VariableFormed v → in_order v ≡ true
formed_ordered v h =
    and_from _ _ (and_from _ _ (le_z_under _ _ h.bottom) (and_from _ _ (le_z_under _ _ h.some) (le_z_under _ _ h.top)))
    (and_from _ _ (and_from _ _ (le_z_under _ _ h.start_low) (le_z_under _ _ h.start_high))
    (and_from _ _ (le_z_under _ _ h.marked_bottom) (and_from _ _ (le_z_under _ _ h.marked_some) (le_z_under _ _ h.marked_top))))

-- between -1000 and 1000
small_fits : (v : ℤ) → negsuc 999 ≤ℤ v → v ≤ℤ pos 1000 → SFits w16 v
small_fits (pos n) low high = record { sfits = omega (arith, ints) }
small_fits (negsuc n) low high = record { sfits = omega (arith, ints) }

within-fits : (low high v : ℤ) → negsuc 999 ≤ℤ low → low ≤ℤ v → v ≤ℤ high → high ≤ℤ pos 1000 → SFits w16 v
within-fits low high v a b c d = small_fits v (omega (arith, ints)) (omega (arith, ints))

under_all : (a b c : ℤ) → a ≤ℤ b → b ≤ℤ c → a ≤ℤ c
under_all a b c h g = omega (arith, ints)

abbrev Fitting : Variable → Type 0
Fitting v = SFits w16 v.low × SFits w16 v.high × SFits w16 v.start × SFits w16 v.marked_low × SFits w16 v.marked_high

pub formed_fits : (v : Variable) → VariableFormed v → Fitting v
formed_fits v h =
    let fits : (x : ℤ) → v.low ≤ℤ x → x ≤ℤ v.high → SFits w16 x = λ x a b. within-fits v.low v.high x h.bottom a b h.top in (
      fits v.low (≤ℤ_refl v.low) h.some,
      fits v.high h.some (≤ℤ_refl v.high),
      fits v.start h.start_low h.start_high,
      fits v.marked_low h.marked_bottom (under_all _ _ _ h.marked_some h.marked_top),
      fits v.marked_high (under_all _ _ _ h.marked_bottom h.marked_some) h.marked_top,
    )

module _ (o : Origin) where
  -- a value, and then the rest of the variable
  value_then : (next : ℤ → Scan Variable) (enc : ℤ → Variable → List ℕ) (Q : ℤ → Variable → Type 0) (field : Variable → ℤ) → ((x : ℤ) → Codec (next x) (enc x) (Q x)) → ((x : ℤ) (v : Variable) → Q x v → field v ≡ x) → Codec (and_then (value o) next) (λ v. value_bytes (field v) ++ enc (field v) v) (λ v. SFits w16 (field v) × Q (field v) v)
  value_then next enc Q field rest back = codec_then (value o) next value_bytes (SFits w16) enc Q field (codec_value o) (λ x h. rest x) (λ x v h q. back x v q)

  codec_ruled : (v : Variable) → Codec (ruled o v) (λ w. []) (λ w. (in_order v ≡ true) × (w ≡ v))
  unfolding ruled
  codec_ruled v = codec_when (in_order v) o VariableValues (codec_done v)

  pub codec_variable_row : Codec (variable_row o) variable_bytes VariableFormed
  unfolding variable_row
  codec_variable_row =
      codec_as variable_bytes VariableFormed
      (value_then _ _ _ (λ v. v.low) (λ low. value_then _ _ _ (λ v. v.high) (λ high. value_then _ _ _ (λ v. v.start) (λ start.
      value_then _ _ _ (λ v. v.marked_low) (λ marked_low. value_then _ _ _ (λ v. v.marked_high) (λ marked_high. codec_ruled _)
      (λ x v q. ap (λ w. w.marked_high) q.1)) (λ x v q. ap (λ w. w.marked_low) q.1.1)) (λ x v q. ap (λ w. w.start) q.1.1.1)) (λ x v q. ap (λ w. w.high) q.1.1.1.1)) (λ x v q. ap (λ w. w.low) q.1.1.1.1.1))
      (λ v h. ordered_formed v h.1.1.1.1.1.0)
      (λ v h. let f = formed_fits v h in (f.0, (f.1, (f.2, (f.3, (f.4, (formed_ordered v h, refl)))))))
      (λ v h. ap (λ xs. value_bytes v.low ++ (value_bytes v.high ++ (value_bytes v.start ++ (value_bytes v.marked_low ++ xs)))) (append-nil (value_bytes v.marked_high)))

pub codec_variables : Codec variables variables_bytes (λ vs. (length vs ≤ 12) × All VariableFormed vs)
unfolding variables
codec_variables =
    codec_same (λ vs. (length vs ≤ 12) × All VariableFormed vs)
    (codec_listed (origin Variables 0) 0 12 (λ before. variable_row (row_after Variables before)) variable_bytes (λ before. VariableFormed) (λ before. codec_variable_row (row_after Variables before)))
    (λ vs h. (h.1, each_all VariableFormed [] vs h.2)) (λ vs h. (omega arith, h.0, all_each VariableFormed [] vs h.1))
