-- The text of a file, and what is answered of it.
use Rattle.std.proofs.Common.{◌≡◌, ℕ, ◌^◌, ◌<◌, Bool, true, false, cond, leb, List, ◌++◌, length, take, drop, Ok, Err, Result, sym, refl, ap, ◌∙◌, subst, arith}
use Rattle.std.proofs.lemmas.List.{take_at}
use Rattle.std.specs.Result.{MatchResult, IfOk, IsErrAnd}
use Rattle.sinks.specs.Post.{Written}
use Rattle.scan.specs.declared.refusal.Fault.{Fault}
use Rattle.scan.specs.declared.refusal.Fault.TheVariants.{Buffer}
use Rattle.scan.specs.Scan.{good, bad}
use Rattle.clash.specs.Rules.{ClashRule, Lawful}
use Rattle.system.specs.System.{System}
use Rattle.system.specs.Scan.{answer}
use Rattle.system.specs.Encode.{encode}
use Rattle.system.specs.Shows.{Shows}
use Rattle.system.specs.declared.layout.Layout.{Layout}
use Rattle.system.proofs.Files.{encodes_accepted, one_system}
use Rattle.model_text.specs.Models.{text}
use Rattle.model_text.proofs.OneToOne.{printing_one_to_one}
use Rattle.translation.specs.Translate.{model_of}
use Rattle.translation.proofs.ModelsFormed.{models_formed}
use Rattle.translation.proofs.TextsBounded.{texts_bounded}
use Rattle.emit.specs.Texts.{whole_text}
use Rattle.emit.proofs.GroupsWhole.{groups_whole}
use Rattle.writer.specs.Answered.{text_by, file_text, AnsweredBy, Answered, TextAnswered, SaysSystem}

module _ (R : ClashRule) (s : List ℕ) (l : Layout) (S : System) (h : Shows s l S) where
  shown_accepted : answer s ≡ good S (length (encode S))
  shown_accepted = ap answer (sym h.bytes) ∙ encodes_accepted S h.formed

  pub shown_text : text (model_of S R) ≡ file_text R s
  shown_text = sym (ap (text_by R) shown_accepted)

  pub shown_whole : whole_text S R ≡ file_text R s
  shown_whole = sym (groups_whole S R) ∙ shown_text

  pub shown_bounded : Lawful R → length (file_text R s) < 2 ^ 64
  shown_bounded lawful =
      let b = texts_bounded S R h.formed lawful in
      let e : length (file_text R s) ≡ length (text (model_of S R)) = ap length (sym shown_text) in
      omega arith

-- a length that does not fit is a refusal
abbrev pub refused_by : Result ℕ ℕ → Result ℕ Fault
refused_by (Ok n) = Ok n
refused_by (Err n) = Err (Buffer n)

refused_cond : (b : Bool) (n : ℕ) → refused_by (cond b (Ok n) (Err n)) ≡ cond b (Ok n) (Err (Buffer n))
refused_cond true n = refl
refused_cond false n = refl

ok_true : (b : Bool) (n k : ℕ) → Ok n ≡ cond {A = Result ℕ ℕ} b (Ok k) (Err k) → (b ≡ true) × (n ≡ k)
ok_true true n k e = (refl, cc)
ok_true false n k e = absurd (let z : ◌≡◌ {A = ℕ} 0 1 = cc in omega arith)

pub text_in_front : (t before after : List ℕ) (n : ℕ) → Written t before after (Ok n) → take n after ≡ t
text_in_front t before after n w =
    let fits = ok_true (leb (length t) (length before)) n (length t) w.answer in
    let is : after ≡ t ++ drop (length t) before = w.bytes ∙ ap (λ b. cond b (t ++ drop (length t) before) before) fits.0 in
    ap (take n) is ∙ take_at t (drop (length t) before) n (sym fits.1)

module _ (R : ClashRule) (s before after : List ℕ) where
  pub answered : (S : System) (end : ℕ) (r : Result ℕ ℕ) → answer s ≡ good S end → Written (file_text R s) before after r → Answered R s before after (refused_by r)
  answered S end r is w =
      let t = file_text R s in
      let same : t ≡ text (model_of S R) = ap (text_by R) is in
      let told : TextAnswered t before after (refused_by r) = record { answer = ap refused_by w.answer ∙ refused_cond (leb (length t) (length before)) (length t); bytes = w.bytes } in
      record { by_file = subst (λ o. AnsweredBy R o before after (refused_by r)) (sym is) (subst (λ x. TextAnswered x before after (refused_by r)) same told) }

  pub refused : (f : Fault) → answer s ≡ bad f → after ≡ before → Answered R s before after (Err f)
  refused f is kept = record { by_file = subst (λ o. AnsweredBy R o before after (Err f)) (sym is) (record { answer = refl; bytes = kept }) }

pub passed_on : (w : Result ℕ ℕ) (r : Result ℕ Fault) → MatchResult w (λ n. r ≡ Ok n) (λ n. IsErrAnd r (λ f. f ≡ Buffer n)) → r ≡ refused_by w
passed_on (Ok n) r e = e
passed_on (Err n) (Ok k) e = absurd e
passed_on (Err n) (Err f) e = ap Err e

-- what holds where a call and the answer made of it are both right
pub when_ok : (w : Result ℕ ℕ) (r : Result ℕ Fault) (Q : ℕ → Fault → Type 0) (P : ℕ → Type 0)
    → MatchResult w (λ n. r ≡ Ok n) (λ e. IsErrAnd r (Q e)) → ((n : ℕ) → w ≡ Ok n → P n) → IfOk r P
when_ok (Ok n) r Q P e f = subst (λ x. IfOk x P) (sym e) (f n refl)
when_ok (Err n) (Ok k) Q P e f = absurd e
when_ok (Err n) (Err k) Q P e f = tt

pub says-system : (R : ClashRule) (s : List ℕ) (l : Layout) (S : System) → Shows s l S → Lawful R → (t : List ℕ) → t ≡ file_text R s → SaysSystem R s t
says-system R s l S h lawful t is =
    let formed = models_formed S R h.formed lawful in
    record {
      system = S;
      stands = record { formed = h.formed; bytes = h.bytes; only = λ T f e. one_system T S f h.formed (e ∙ sym h.bytes) };
      is = is ∙ sym (shown_text R s l S h);
      formed = formed;
      only = printing_one_to_one (model_of S R) formed;
    }
