-- What is answered of a file in a buffer of 65,536 bytes is what is printed.
use Rattle.std.proofs.Common.{◌≡◌, ℕ, Bool, true, false, cond, leb, List, ◌++◌, length, take, drop, Ok, Err, Result, sym, refl, ap, ◌∙◌}
use Rattle.std.proofs.lemmas.List.{take_at}
use Rattle.scan.specs.declared.refusal.Fault.{Fault}
use Rattle.scan.specs.declared.refusal.Fault.TheVariants.{Buffer}
use Rattle.scan.specs.Scan.{Out, good, bad}
use Rattle.system.specs.System.{System}
use Rattle.system.specs.Scan.{answer}
use Rattle.model_text.specs.Models.{text}
use Rattle.translation.specs.Translate.{model_of}
use Rattle.writer.specs.Answered.{AnsweredBy, Answered, TextAnswered}
use Rattle.model.specs.Page.{rule_one, refusal_page, text_page, page_by, page}

fits_by : (b : Bool) (n k : ℕ) → Ok n ≡ cond {A = Result ℕ Fault} b (Ok k) (Err (Buffer k)) → (b ≡ true) × (n ≡ k)
fits_by true n k e = (refl, cc)
fits_by false n k e = absurd (cc)

long_by : (b : Bool) (f : Fault) (k : ℕ) → Err f ≡ cond {A = Result ℕ Fault} b (Ok k) (Err (Buffer k)) → (b ≡ false) × (f ≡ Buffer k)
long_by true f k e = absurd (cc)
long_by false f k e = (refl, cc)

module _ (before after : List ℕ) (room : length before ≡ 65536) where
  text_printed : (t : List ℕ) (n : ℕ) → TextAnswered t before after (Ok n) → take n after ≡ text_page t
  text_printed t n w =
      let fits = fits_by (leb (length t) (length before)) n (length t) w.answer in
      let test : leb (length t) 65536 ≡ true = ap (leb (length t)) (sym room) ∙ fits.0 in
      let is : after ≡ t ++ drop (length t) before = w.bytes ∙ ap (λ b. cond b (t ++ drop (length t) before) before) fits.0 in
      ap (take n) is ∙ take_at t (drop (length t) before) n (sym fits.1) ∙ sym (ap (λ b. cond b t (refusal_page (Buffer (length t)))) test)

  refusal_printed : (t : List ℕ) (f : Fault) → TextAnswered t before after (Err f) → refusal_page f ≡ text_page t
  refusal_printed t f w =
      let long = long_by (leb (length t) (length before)) f (length t) w.answer in
      let test : leb (length t) 65536 ≡ false = ap (leb (length t)) (sym room) ∙ long.0 in
      ap refusal_page long.1 ∙ sym (ap (λ b. cond b t (refusal_page (Buffer (length t)))) test)

  ok_by : (o : Out System) (n : ℕ) → AnsweredBy rule_one o before after (Ok n) → take n after ≡ page_by o
  ok_by (good S end) n w = text_printed (text (model_of S rule_one)) n w
  ok_by (bad f) n w = absurd (cc w.answer)

  err_by : (o : Out System) (f : Fault) → AnsweredBy rule_one o before after (Err f) → refusal_page f ≡ page_by o
  err_by (good S end) f w = refusal_printed (text (model_of S rule_one)) f w
  err_by (bad x) f w = let e = w.answer in let same : f ≡ x = cc in ap refusal_page same

  pub ok_page : (s : List ℕ) (n : ℕ) → Answered rule_one s before after (Ok n) → take n after ≡ page s
  ok_page s n a = ok_by (answer s) n a.by_file

  pub err_page : (s : List ℕ) (f : Fault) → Answered rule_one s before after (Err f) → refusal_page f ≡ page s
  err_page s f a = err_by (answer s) f a.by_file
