-- From what reading and checking tell to what the check of a text answers.
use Rattle.std.proofs.Common.{◌≡◌, ◌≢◌, ℕ, ◌+◌, ◌<◌, ◌^◌, List, length, Ok, Err, refl, sym, ◌∙◌, ap, subst, arith, ◌⊎◌, inl, inr}
use Rattle.std.specs.Prelude.{All, Result, OnOk}
use Rattle.ix_cert.specs.declared.report.CertErr.{CertErr}
use Rattle.ix_cert.specs.declared.report.CertErr.TheVariants.{Line, Dep, Window, Chain, Balance, Value, NotPositive, NotClosed, Memory}
use Rattle.ix_cert.specs.declared.report.Report.{Report}
use Rattle.ix_cert.specs.Layout.{is_weighted, lines_of, first_line, IsReportText, IsBadLine}
use Rattle.ix_cert.specs.Faults.{IsFirstFault, HasNoFault, steps_of}
use Rattle.ix_cert.specs.Checks.{Judges, lines_in, IsReadyIn}
use Rattle.ix_cert.specs.Certificates.{IsCertifiedText, IsFaultless, IsFaulty, IsRefused, Accepts, Refuses}
use Rattle.ix_cert.proofs.OneFault.{one_fault, no_fault}
use Rattle.ix_cert.proofs.Faultless.{all_certified}
use Rattle.ix_cert.proofs.LineCounts.{room_for_lines, all_ready, all_positive}

memory_or_not : (e : CertErr) → (e ≡ Memory) ⊎ (e ≢ Memory)
memory_or_not (Line n) = inr (λ h. cc)
memory_or_not (Dep n) = inr (λ h. cc)
memory_or_not (Window n) = inr (λ h. cc)
memory_or_not (Chain n) = inr (λ h. cc)
memory_or_not (Balance n) = inr (λ h. cc)
memory_or_not (Value n) = inr (λ h. cc)
memory_or_not (NotPositive n) = inr (λ h. cc)
memory_or_not (NotClosed n) = inr (λ h. cc)
memory_or_not Memory = inl refl

-- what reading answers for a text of a report, and for one whose first bad line is line n
abbrev ReadOrMemory : Result (Report × ℕ) CertErr → Report → ℕ → Type 0
ReadOrMemory res s first = (res ≡ Ok (s, first)) ⊎ (res ≡ Err Memory)

abbrev LineOrMemory : Result (Report × ℕ) CertErr → ℕ → Type 0
LineOrMemory res n = (res ≡ Err (Line n)) ⊎ (res ≡ Err Memory)

abbrev Answer : Type 0
Answer = Result (Report × ℕ) CertErr

ok_same : (x y : Report × ℕ) → ◌≡◌ {A = Answer} (Ok x) (Ok y) → x ≡ y
ok_same x y e = cc

ok_not_err : (x : Report × ℕ) (e : CertErr) → ◌≡◌ {A = Answer} (Ok x) (Err e) → ⊥
ok_not_err x e h = cc

-- ---- the text was read
module _ (bytes : List ℕ) (r : Report) (first : ℕ) (text : IsReportText bytes r) (at : first ≡ first_line (lines_of bytes)) (small : length bytes < 2 ^ 32) where
  pub room : first + 2 + lines_in r.blocks < 4294967296
  room = subst (λ n. n + 2 + lines_in r.blocks < 4294967296) (sym at) (room_for_lines bytes r text small)

  pub ready : All (λ b. IsReadyIn b b.mode) r.blocks
  ready = all_ready (is_weighted r.version) r.period r.blocks text.in_form.blocks (omega (arith, room))

  pub certified : (res : Result (Unit {0}) CertErr) → Judges (steps_of r first) res → OnOk res (IsCertifiedText bytes)
  certified (Ok done) none = record {
    report = r;
    text = text;
    certified = all_certified r.blocks (first + 2) ready (all_positive (is_weighted r.version) r.period r.blocks text.in_form.blocks) none;
  }
  certified (Err e) fault = tt

  module _ (told : (s : Report) → IsReportText bytes s → ReadOrMemory (Ok (r, first)) s (first_line (lines_of bytes))) where
    only : (s : Report) → IsReportText bytes s → r ≡ s
    only s text_of = elim (told s text_of) [
      | inl same ↦ ap (λ (x : Report × ℕ). x.0) (ok_same (r, first) (s, first_line (lines_of bytes)) same)
      | inr memory ↦ absurd (ok_not_err (r, first) Memory memory)
    ]

    same_none : IsFaultless bytes → HasNoFault (steps_of r first)
    same_none f =
        subst (λ n. HasNoFault (steps_of r n)) (sym at) (subst (λ s. HasNoFault (steps_of s (first_line (lines_of bytes)))) (sym (only f.report f.text)) f.faultless)

    same_fault : (e : CertErr) → IsFaulty bytes e → IsFirstFault (steps_of r first) e
    same_fault e f =
        subst (λ n. IsFirstFault (steps_of r n) e) (sym at) (subst (λ s. IsFirstFault (steps_of s (first_line (lines_of bytes))) e) (sym (only f.report f.text)) f.fault)

    pub accepted : (res : Result (Unit {0}) CertErr) → Judges (steps_of r first) res → IsFaultless bytes → Accepts res
    accepted (Ok done) none f = tt
    accepted (Err e) fault f = elim (memory_or_not e) [
      | inl memory ↦ memory
      | inr known ↦ absurd (no_fault (steps_of r first) e (same_none f) (fault known))
    ]

    pub refused : (res : Result (Unit {0}) CertErr) → Judges (steps_of r first) res → ((n : ℕ) → IsBadLine bytes n → LineOrMemory (Ok (r, first)) n) → (e : CertErr)
        → IsRefused bytes e → Refuses e res
    refused res judged no_bad e (inl bad) = elim (no_bad bad.0 bad.2) [
      | inl line ↦ absurd (ok_not_err (r, first) (Line bad.0) line)
      | inr memory ↦ absurd (ok_not_err (r, first) Memory memory)
    ]
    refused (Ok done) none no_bad e (inr f) = absurd (no_fault (steps_of r first) e none (same_fault e f))
    refused (Err g) fault no_bad e (inr f) = elim (memory_or_not g) [
      | inl memory ↦ inr memory
      | inr known ↦ inl (one_fault (steps_of r first) g e (fault known) (same_fault e f))
    ]

-- ---- the text was not read
unread_line : (error : CertErr) (n : ℕ) → LineOrMemory (Err error) n → (error ≡ Line n) ⊎ (error ≡ Memory)
unread_line error n (inl line) = inl cc
unread_line error n (inr memory) = inr cc

unread_text : (error : CertErr) (s : Report) (first : ℕ) → ReadOrMemory (Err error) s first → error ≡ Memory
unread_text error s first (inl read) = cc
unread_text error s first (inr memory) = cc

pub unread : (bytes : List ℕ) (error e : CertErr) → ((s : Report) → IsReportText bytes s → ReadOrMemory (Err error) s (first_line (lines_of bytes)))
    → ((n : ℕ) → IsBadLine bytes n → LineOrMemory (Err error) n) → IsRefused bytes e → (error ≡ e) ⊎ (error ≡ Memory)
unread bytes error e told bad (inl line) = elim (unread_line error line.0 (bad line.0 line.2)) [
  | inl same ↦ inl (same ∙ sym line.1)
  | inr memory ↦ inr memory
]
unread bytes error e told bad (inr f) = inr (unread_text error f.report (first_line (lines_of bytes)) (told f.report f.text))
