-- Cells show their first true hold by the marks of a row where they show it by the rows alone, and back.
use Rattle.std.proofs.Common.{◌≡◌, refl, ℕ, suc, List, Some, None, Bool, true, false, inl, inr}
use Rattle.rv_seq.specs.declared.commit.Stop.{Stop}
use Rattle.rv_trace.specs.declared.row.Cell.{Cell}
use Rattle.rv_trace.specs.declared.row.Row.{Row}
use Rattle.rv_trace.specs.declared.row.Hold.{Hold}
use Rattle.rv_trace.specs.Trace.{has_serial}
use Rattle.rv_lawful.specs.Settings.{Setting, Stands}
use Rattle.rv_lawful.specs.LawfulTrace.{TrueHold, StopsRun, ShowsHold, WritesUnit}
use Rattle.rv_rows.specs.Facts.{IsPlain, FirstFacts}
use Rattle.rv_rows.specs.Kinds.{IsStopped, TrueMarked, ShowsMarked, HoldsRightly, DoesOne}
use Rattle.rv_rows.specs.Laws.{AreEmptyUnits}
use Rattle.rv_rows.proofs.Own.{own_above, own_up, own_down}

module _ (k : Setting) (earlier : List Row) (row : Row) (plain : IsPlain k) (empty : AreEmptyUnits k.units) (first : FirstFacts k earlier row) (units : WritesUnit k earlier row)
    (marked : (stage : ℕ) (c : Cell) (stop : Stop) → Stands k row stage c → StopsRun k earlier row stage c stop → IsStopped k row stage)
    (stopped : (stage : ℕ) (c : Cell) → Stands k row stage c → IsStopped k row stage → (stop : Stop) × StopsRun k earlier row stage c stop) where
  true_up : (stage : ℕ) (c : Cell) (h : Hold) → Stands k row stage c → TrueHold k earlier row stage c h → TrueMarked k earlier row stage c h
  true_up stage c h s (inl o) = inl (own_up k earlier row plain empty first units stage c h (own_above k earlier row stage c h plain o) s o)
  true_up stage c h s (inr (e, w)) = inr (e, (w.0, w.1, elim w.2 [ inl x ↦ inl x | inr y ↦ inr (marked (suc stage) w.0 y.0 w.1 y.1) ]))

  true_down : (stage : ℕ) (c : Cell) (h : Hold) → TrueMarked k earlier row stage c h → TrueHold k earlier row stage c h
  true_down stage c h (inl o) = inl (own_down k earlier row plain empty first units stage c h o)
  true_down stage c h (inr (e, w)) = inr (e, (w.0, w.1, elim w.2 [ inl x ↦ inl x | inr y ↦ inr (stopped (suc stage) w.0 w.1 y) ]))

  pub holds_up : ((stage : ℕ) (c : Cell) → Stands k row stage c → ShowsHold k earlier row stage c) → HoldsRightly k earlier row
  holds_up shows stage c s unflushed going = record {
    shown = λ h e. true_up stage c h s ((shows stage c s).shown h e);
    shown_first = λ h g e t. (shows stage c s).shown_first h g e (true_down stage c g t);
    free = λ e h t. (shows stage c s).free e unflushed (λ stop r. going (marked stage c stop s r)) h (true_down stage c h t);
  }

  is_false : (b : Bool) → (b ≡ true → ⊥) → b ≡ false
  is_false true f = absurd (f refl)
  is_false false f = refl

  pub holds_down : ((stage : ℕ) (c : Cell) → Stands k row stage c → DoesOne k row stage c) → HoldsRightly k earlier row → (stage : ℕ) (c : Cell) → Stands k row stage c → ShowsHold k earlier row stage c
  holds_down one holds stage c s = record {
    flushed = (one stage c s).flushed;
    stopping = λ stop r. (one stage c s).stopped (marked stage c stop s r);
    shown = λ h e. true_down stage c h ((judged h e).shown h e);
    shown_first = λ h g e t. (judged h e).shown_first h g e (true_up stage c g s t);
    free = λ e unflushed going h t. (holds stage c s unflushed (λ m. let r = stopped stage c s m in going r.0 r.1)).free e h (true_up stage c h s t);
  } where
    held : (h : Hold) → c.hold ≡ Some h → c.hold ≡ None → ⊥
    held h e q = cc

    judged : (h : Hold) → c.hold ≡ Some h → ShowsMarked k earlier row stage c
    judged h e = holds stage c s (is_false (has_serial row.flushed c.serial) (λ f. held h e ((one stage c s).flushed f))) (λ m. held h e ((one stage c s).stopped m))
