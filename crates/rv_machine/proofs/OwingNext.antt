-- What is outstanding after a row: what retires into a unit, before what was outstanding and is not written.
use Rattle.std.proofs.Common.{◌≡◌, ℕ, ◌-◌, ◌≤◌, List, [], ◌∷◌, ◌++◌, Option, Some, None, Bool, true, false, refl, sym, ap, ◌∙◌, subst, arith, inl, inr, suc, zero}
use Rattle.std.specs.Prelude.{if◌then◌else◌, ◌==◌, ◌||◌, nat_lt, is_some, slice_get}
use Rattle.std.proofs.lemmas.Bool.Decides.{nat_tests}
use Rattle.std.proofs.lemmas.Bool.{false≢true}
use Rattle.rv_tried.specs.Parts.{spawned}
use Rattle.rv_trace.specs.declared.row.Row.{Row}
use Rattle.rv_trace.specs.Trace.{place, is_flushed, is_retired, retirements}
use Rattle.rv_unit.specs.declared.entry.Entry.{Entry}
use Rattle.rv_unit.specs.Entries.{stepped, entered, does_write}
use Rattle.rv_unit.specs.Numbering.{lasts_of}
use Rattle.rv_holds.specs.declared.token.Token.{Token}
use Rattle.rv_engine.specs.declared.owing.Owed.{Owed}
use Rattle.rv_engine.specs.Owing.{paying_among, unpaid_among, unit_entered, owed_by_entering}
use Rattle.rv_engine.specs.Settings.{Setting, Machine, shape_of}
use Rattle.rv_engine.specs.Rows.{seen_by, left_by, into_unit, entering_of, machine_after, IsRowOf}
use Rattle.rv_lawful.specs.Outstanding.{Decoupled, serial_written, is_serial, is_written, decoupled_in, decoupled, without, outstanding}
use Rattle.rv_lawful.specs.LawfulTrace.{IsWordOf}
use Rattle.rv_lawful.specs.Sight.{asked}
use Rattle.rv_machine.specs.Owing.{judged, IsOwing, AreBelow, Owing}
use Rattle.rv_machine.specs.Placed.{IsReady, Inv}
use Rattle.rv_machine.proofs.Recorded.{shown_word}
use Rattle.rv_machine.proofs.Unwritten.{without_append, without_either, serial_paid, some_kept, below_next, retired_more}
use Rattle.rv_machine.proofs.Flushing as F
use Rattle.rv_machine.proofs.Retiring as R
use Rattle.rv_machine.proofs.Worded as W
use Rattle.rv_holds.specs.Tokens.{Slots, cell_of, cells_of}
use Rattle.rv_machine.specs.Told.{out_of}

-- an entry that writes was outstanding
paid_retired : (k : Setting) (rows : List Row) (lasts : List ℕ) (all : List Entry) (s : ℕ) (outs : List Decoupled) (entries : List Entry) (owed : List Owed) →
    Owing k rows outs entries owed → is_serial (serial_paid (paying_among lasts all entries owed)) s ≡ true → is_retired rows s ≡ true
paid_retired k rows lasts all s [] [] [] h e = cc
paid_retired k rows lasts all s [] [] (w ∷ owed) h e = absurd h
paid_retired k rows lasts all s [] (x ∷ entries) owed h e = absurd h
paid_retired k rows lasts all s (o ∷ outs) [] owed h e = absurd h
paid_retired k rows lasts all s (o ∷ outs) (x ∷ entries) [] h e = absurd h
paid_retired k rows lasts all s (o ∷ outs) (x ∷ entries) (w ∷ owed) h e = by_case (does_write lasts all x) e (λ q. paid_retired k rows lasts all s outs entries owed h.2 q) where
  same_of : (a b : ℕ) → (a == b) ≡ true → a ≡ b
  same_of a b q = grind (arith, nat_tests)

  by_case : (c : Bool) → is_serial (serial_paid (if c then Some w else paying_among lasts all entries owed)) s ≡ true → (is_serial (serial_paid (paying_among lasts all entries owed)) s ≡ true → is_retired rows s ≡ true) → is_retired rows s ≡ true
  by_case true q rest = ap (λ n. is_retired rows n) (sym (same_of w.serial s q) ∙ h.0.owed) ∙ h.0.retired
  by_case false q rest = rest q

-- these are all below a place
all_below : (k : Setting) (rows : List Row) (p : ℕ) (outs : List Decoupled) (entries : List Entry) (owed : List Owed) → retirements rows ≤ p → Owing k rows outs entries owed → AreBelow rows p outs
all_below k rows p [] [] [] le h = tt
all_below k rows p [] [] (w ∷ owed) le h = absurd h
all_below k rows p [] (e ∷ entries) owed le h = absurd h
all_below k rows p (o ∷ outs) [] owed le h = absurd h
all_below k rows p (o ∷ outs) (e ∷ entries) [] le h = absurd h
all_below k rows p (o ∷ outs) (e ∷ entries) (w ∷ owed) le h = let lt = h.0.past in (omega (arith, lt, le), all_below k rows p outs entries owed le h.2)

module _ (k : Setting) (ready : IsReady k) (earlier : List Row) (m : Machine) (row : Row) (inv : Inv k earlier m) (is : IsRowOf k m row) where
  abbrev lasts : List ℕ
  lasts = lasts_of k.design.plans

  abbrev ws : Option ℕ
  ws = serial_written row.written

  is_paid : serial_written row.written ≡ serial_paid (paying_among (lasts_of k.design.plans) m.entries m.entries m.owed)
  is_paid = ap (λ w. serial_written w) is.written

  -- a serial that is written was retired before
  written_retired : (s : ℕ) → is_written (row ∷ earlier) s ≡ true → is_retired earlier s ≡ true
  unfolding is_written
  written_retired s h = by_case (is_serial (serial_written row.written) s) refl h where
    by_case : (b : Bool) → is_serial (serial_written row.written) s ≡ b → (b || is_written earlier s) ≡ true → is_retired earlier s ≡ true
    by_case true e q = paid_retired k earlier (lasts_of k.design.plans) m.entries s (outstanding (judged k) earlier) m.entries m.owed inv.owing (ap (λ z. is_serial z s) (sym is_paid) ∙ e)
    by_case false e q = inv.paid s q

  pub paid_next : (s : ℕ) → is_written (row ∷ earlier) s ≡ true → is_retired (row ∷ earlier) s ≡ true
  paid_next s h = retired_more k ready earlier m row inv is s (written_retired s h)

  -- of the retired ones before the row
  older_is : without (is_written (row ∷ earlier)) (decoupled (judged k) earlier) ≡ without (is_serial (serial_written row.written)) (outstanding (judged k) earlier)
  unfolding is_written
  older_is = without_either (λ s. is_serial (serial_written row.written) s) (λ s. is_written earlier s) (decoupled (judged k) earlier)

  outstanding_is : outstanding (judged k) (row ∷ earlier) ≡ without (is_written (row ∷ earlier)) (decoupled_in (judged k) row.retired) ++ without (is_serial (serial_written row.written)) (outstanding (judged k) earlier)
  unfolding decoupled
  outstanding_is =
      without_append (is_written (row ∷ earlier)) (decoupled_in (judged k) row.retired) (decoupled (judged k) earlier)
      ∙ ap (λ l. without (is_written (row ∷ earlier)) (decoupled_in (judged k) row.retired) ++ l) older_is

  pub older_next : Owing k (row ∷ earlier) (without (is_serial (serial_written row.written)) (outstanding (judged k) earlier)) (stepped (lasts_of k.design.plans) m.entries m.entries) (unpaid_among (lasts_of k.design.plans) m.entries m.entries m.owed)
  older_next = some_kept k ready earlier m row inv is ws (shape_of k).stages (lasts_of k.design.plans) m.entries (outstanding (judged k) earlier) m.entries m.owed refl inv.owing inv.timed is_paid

  -- what is outstanding, where this enters and these are the new ones
  abbrev Next : List Decoupled → Option (ℕ × Owed) → Type 0
  Next new enter = Owing k (row ∷ earlier) (new ++ without (is_serial (serial_written row.written)) (outstanding (judged k) earlier))
      (entered (shape_of k).stages (unit_entered enter) ++ stepped (lasts_of k.design.plans) m.entries m.entries) (owed_by_entering enter ++ unpaid_among (lasts_of k.design.plans) m.entries m.entries m.owed)

  -- what retires into a unit
  module _ (y : R.Retirement k ready earlier m row inv is (left_by k m) row.retired) (goes : out_of (seen_by k m) ≡ 1) where
    abbrev s : ℕ
    s = y.token.cell.serial

    here : (place (row ∷ earlier) y.token.cell.serial ≡ retirements earlier) × (is_flushed (row ∷ earlier) y.token.cell.serial ≡ false)
    here = R.left_serial k ready earlier m row inv is y.token y.is_left

    not_before : is_retired earlier y.token.cell.serial ≡ false
    not_before =
        F.before_retired k ready earlier m row inv is y.token.cell.serial here.1 ∙ ap (λ p. nat_lt p (retirements earlier)) here.0 ∙ same (retirements earlier) where
          same : (n : ℕ) → nat_lt n n ≡ false
          same n = grind (arith, nat_tests)

    unwritten : is_written (row ∷ earlier) y.token.cell.serial ≡ false
    unwritten = by_case (is_written (row ∷ earlier) y.token.cell.serial) refl where
      by_case : (b : Bool) → is_written (row ∷ earlier) y.token.cell.serial ≡ b → is_written (row ∷ earlier) y.token.cell.serial ≡ false
      by_case false e = e
      by_case true e = absurd (false≢true (sym not_before ∙ written_retired y.token.cell.serial e))

    now : is_retired (row ∷ earlier) y.token.cell.serial ≡ true
    unfolding is_retired
    now = rw y.is_retired (itself y.token.cell.serial) where
      itself : (n : ℕ) → ((n == n) || is_retired earlier n) ≡ true
      itself n = by_case (n == n) (same n) where
        same : (n : ℕ) → (n == n) ≡ true
        same n = grind (arith, nat_tests)

        by_case : (b : Bool) → b ≡ true → (b || is_retired earlier n) ≡ true
        by_case true e = refl
        by_case false e = cc

    known : IsWordOf (judged k) (row ∷ earlier) y.token.cell.serial y.token.cell.word
    known =
        let told = R.told k ready earlier m row inv is in
        let at = W.left_here k ready earlier m row inv is y.token y.is_left in
        let stage = (shape_of k).stages - 1 in
        inl (stage, y.token.cell, told.cells stage (told.left stage y.token at) ∙ cells_there (seen_by k m) stage y.token at, refl, refl) where
          cells_there : (l : Slots) (n : ℕ) (t : Token) → slice_get l n ≡ Some (Some t) → slice_get (cells_of l) n ≡ Some (Some t.cell)
          cells_there [] n t e = cc
          cells_there (o ∷ l) zero t e = ap (λ (q : Option Token). Some (cell_of q)) (one o t e) where
            one : (o : Option Token) (t : Token) → ◌≡◌ {A = Option (Option Token)} (Some o) (Some (Some t)) → o ≡ Some t
            one o t e = cc
          cells_there (o ∷ l) (suc n) t e = cells_there l n t e

    entering_owes : (u : ℕ) → (asked k.design y.token.cell.word).unit ≡ Some u →
        IsOwing k (row ∷ earlier) (y.token.cell.serial, y.token.cell.word) (record { serial = y.token.cell.serial; unit = u; time = (shape_of k).stages }) (R.owed_at k ready earlier m row inv is y.token.cell.serial y.token.cell.word y.commit)
    entering_owes u unit =
        let at = W.left_here k ready earlier m row inv is y.token y.is_left in
        let more = R.retired_now k ready earlier m row inv is in
        let p = here.0 in
        record {
          entry = refl;
          owed = refl;
          asks = refl;
          unit = unit;
          past = omega (arith, more, goes, p);
          alive = here.1;
          retired = now;
          unwritten = unwritten;
          known = known;
          only = λ word h. sym (F.words_now k ready earlier m row inv is y.token.cell.serial word h ((shape_of k).stages - 1) y.token at refl);
          commit = y.commit;
          step = ap (λ n. (judged k).course.answer n) p ∙ y.recorded;
          word = y.word;
          writes = ap (λ n. spawned (asked k.design y.token.cell.word) ((judged k).course.own n) y.commit) (sym p);
        }

    below : AreBelow (row ∷ earlier) (place (row ∷ earlier) y.token.cell.serial) (without (is_serial (serial_written row.written)) (outstanding (judged k) earlier))
    below =
        subst (λ p. AreBelow (row ∷ earlier) p (without (is_serial (serial_written row.written)) (outstanding (judged k) earlier))) (sym here.0)
        (below_next k ready earlier m row inv is (retirements earlier) (serial_written row.written) (outstanding (judged k) earlier) m.entries m.owed inv.owing (all_below k earlier (retirements earlier) (outstanding (judged k) earlier) m.entries m.owed (omega arith) inv.owing))

    new_is : (o : Option ℕ) → (asked k.design y.token.cell.word).unit ≡ o → without (is_written (row ∷ earlier)) (decoupled_in (judged k) row.retired) ≡ (if is_some o then (y.token.cell.serial, y.token.cell.word) ∷ [] else [])
    new_is o e =
        ap (λ r. without (is_written (row ∷ earlier)) (decoupled_in (judged k) r)) y.is_retired
        ∙ ap (λ w. without (is_written (row ∷ earlier)) (if is_some (asked k.design w).unit then (y.token.cell.serial, w) ∷ [] else [])) (shown_word (asked k.design y.token.cell.word) y.commit ∙ y.word)
        ∙ ap (λ q. without (is_written (row ∷ earlier)) (if is_some q then (y.token.cell.serial, y.token.cell.word) ∷ [] else [])) e
        ∙ by_case (is_some o) where
          by_case : (b : Bool) → without (is_written (row ∷ earlier)) (if b then (y.token.cell.serial, y.token.cell.word) ∷ [] else []) ≡ (if b then (y.token.cell.serial, y.token.cell.word) ∷ [] else [])
          by_case true = ap (λ (c : Bool). if c then [] else (y.token.cell.serial, y.token.cell.word) ∷ []) unwritten
          by_case false = refl

    enter_is : (o : Option ℕ) → (asked k.design y.token.cell.word).unit ≡ o → entering_of (left_by k m) ≡ into_unit o (Some (R.owed_at k ready earlier m row inv is y.token.cell.serial y.token.cell.word y.commit))
    enter_is o e = y.enters ∙ ap (λ q. into_unit q (Some (R.owed_at k ready earlier m row inv is y.token.cell.serial y.token.cell.word y.commit))) e

    retiring_next : (o : Option ℕ) → (asked k.design y.token.cell.word).unit ≡ o → Next (without (is_written (row ∷ earlier)) (decoupled_in (judged k) row.retired)) (entering_of (left_by k m))
    retiring_next None e = subst (λ new. Next new (entering_of (left_by k m))) (sym (new_is None e)) (subst (λ enter. Next [] enter) (sym (enter_is None e)) older_next)
    retiring_next (Some u) e =
        subst (λ new. Next new (entering_of (left_by k m))) (sym (new_is (Some u) e))
        (subst (λ enter. Next ((y.token.cell.serial, y.token.cell.word) ∷ []) enter) (sym (enter_is (Some u) e)) (entering_owes u e, below, older_next))

  pub owing_next : Owing k (row ∷ earlier) (outstanding (judged k) (row ∷ earlier)) (machine_after k m).entries (machine_after k m).owed
  owing_next =
      subst (λ l. Owing k (row ∷ earlier) l (machine_after k m).entries (machine_after k m).owed) (sym outstanding_is)
      (elim (R.goes_out k ready earlier m row inv is) [
        | inl n ↦
            subst (λ r. Next (without (is_written (row ∷ earlier)) (decoupled_in (judged k) r)) (entering_of (left_by k m))) (sym n.1)
            (subst (λ t. Next [] (entering_of t)) (sym n.0) older_next)
        | inr y ↦ retiring_next y.0 y.1 (asked k.design y.0.token.cell.word).unit refl
      ])
