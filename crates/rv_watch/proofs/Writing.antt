-- The step of what a unit has to write.
use Rattle.std.proofs.Common.{◌≡◌, ◌∙◌, sym, ap, ℕ, ◌+◌, ◌<◌, ◌≤◌, List, length, Option, Some, None, true, arith}
use Rattle.std.specs.Prelude.{slice_get}
use Rattle.rv_asks.specs.declared.asks.Asks.{Asks}
use Rattle.rv_seq.specs.declared.commit.Commit.{Commit}
use Rattle.rv_seq.specs.declared.answer.StepAnswer.{StepAnswer}
use Rattle.rv_seq.specs.declared.answer.StepAnswer.TheVariants.{Done, Stopped}
use Rattle.rv_past.specs.declared.step.Step.{Step}
use Rattle.rv_past.specs.Steps.{step_at}
use Rattle.rv_trace.specs.declared.row.Row.{Row}
use Rattle.rv_trace.specs.Trace.{place, retirements, is_retired}
use Rattle.rv_lawful.specs.Settings.{Setting}
use Rattle.rv_rows.specs.Known.{IsOwing}
use Rattle.rv_past.specs.declared.due.Due.{Due}
use Rattle.rv_past.specs.Making.{IsWriting}
use Rattle.rv_owing.specs.Owing.{AreDueBehind, PlacedLaw}
use Rattle.rv_watch.specs.Parts.{IsDueStep}

word_of : StepAnswer → ℕ
word_of (Done c) = c.word
word_of (Stopped stop) = 0

same_word : (c d : Commit) → ◌≡◌ {A = StepAnswer} (Done c) (Done d) → c.word ≡ d.word
unfolding word_of
same_word c d e = ap word_of e

pub writing_is : (k : Setting) (rows : List Row) (steps : List Step) (due : Option (ℕ × ℕ × Asks)) (result : Option (ℕ × Due))
    → ((p : ℕ) (one : Step) → p < length steps → slice_get steps p ≡ Some one → one ≡ step_at k.course p) → retirements rows + 6 ≤ length steps
    → ((j : ℕ) → is_retired rows j ≡ true → place rows j < retirements rows) → IsOwing k rows → PlacedLaw k rows → AreDueBehind k rows due → IsDueStep steps due result → IsWriting k rows result
writing_is k rows steps None None are many low owing law is r = is
writing_is k rows steps None (Some w) are many low owing law is r = absurd r
writing_is k rows steps (Some d) None are many low owing law is r = absurd r
writing_is k rows steps (Some d) (Some w) are many low owing law is r =
    let lt = low d.0 (owing.retired d.0 is.word is.outstanding) in
    let at = is.place in
    let inside : d.1 < length steps = omega (arith, lt, at, many) in
    let same : d.1 ≡ place rows w.0 = at ∙ ap (place rows) (sym r.0) in
    let step : w.1.step ≡ step_at k.course (place rows w.0) = are d.1 w.1.step inside (r.2 inside) ∙ ap (step_at k.course) same in
    let of_run = law d.0 is.word is.outstanding in (
      is.granted ∙ ap (λ n. Some n) (sym r.0),
      record {
        step = step;
        asks = λ c e.
            let back : ◌≡◌ {A = StepAnswer} (Done of_run.0) (Done c) = sym of_run.1 ∙ ap (λ n. k.course.answer (place rows n)) (sym r.0) ∙ sym (ap (λ (o : Step). o.answer) step) ∙ e in
            r.1 ∙ is.asks ∙ ap k.asks (sym of_run.2 ∙ same_word of_run.0 c back);
      },
    )
