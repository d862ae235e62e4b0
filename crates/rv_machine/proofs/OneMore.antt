-- One more row keeps the headline.
use Rattle.rv_machine.proofs.Carried.{row_at}
use Rattle.std.proofs.Common.{◌≡◌, ℕ, suc, ◌+◌, ◌-◌, ◌*◌, ◌≤◌, List, [], ◌∷◌, drop, length, Option, Some, Bool, true, false, None, refl, sym, ap, ◌∙◌, subst, arith}
use Rattle.std.specs.Prelude.{if◌then◌else◌, ◌&&◌, is_some, is_none}
use Rattle.rv_seq.specs.declared.commit.Stop.{Stop}
use Rattle.rv_waits.specs.Waits.{greatest}
use Rattle.rv_trace.specs.declared.row.Row.{Row}
use Rattle.rv_trace.specs.Trace.{newest, rows_without}
use Rattle.rv_engine.specs.Settings.{Setting, Machine, shape_of, tree_of}
use Rattle.rv_engine.specs.Rows.{advanced, seen_by, IsRowOf, machine_after}
use Rattle.rv_lawful.specs.Settings.{setting}
use Rattle.rv_lawful.specs.Entering.{places, is_interrupted}
use Rattle.rv_lawful.specs.Answering.{rows_interrupted, entry_bound, Answering}
use Rattle.rv_lawful.specs.Headline.{bound_of, Headline}
use Rattle.rv_machine.specs.Owing.{judged}
use Rattle.rv_machine.specs.Placed.{count, at_places, greatest_rank, IsReady, Inv}
use Rattle.rv_machine.proofs.Entered.{first_holds, second_holds}
use Rattle.rv_machine.proofs.Answered as A
use Rattle.rv_machine.proofs.EachRow as R

without_more : (row : Row) (earlier : List Row) → rows_without (row ∷ earlier) ≤ suc (rows_without earlier)
unfolding rows_without
without_more row earlier = by_case (is_some row.retired) where
  by_case : (b : Bool) → (if b then 0 else suc (rows_without earlier)) ≤ suc (rows_without earlier)
  by_case true = omega arith
  by_case false = omega arith

-- the rows without a retirement in rows of these
abbrev pub bound : Setting → ℕ
bound k = bound_of k.design k.waits k.lines

-- the bound is above the rank
bound_above : (k : Setting) → IsReady k → suc (greatest_rank k) ≤ bound k
bound_above k ready = by_lines k.lines where
  by_lines : (lines : Option (List ℕ)) → suc ((64 - (shape_of k).stages) + (32 + length (tree_of k).registers) + ((shape_of k).stages + greatest k.waits + 65) + (if is_some lines then (shape_of k).stages else 0)) ≤ bound_of k.design k.waits lines
  by_lines None = let a = ready.most in omega (arith, a)
  by_lines (Some l) = let a = ready.most in omega (arith, a)

-- the rows for which an interrupt was to be taken, with those that what stands above EX may still take
abbrev pub AreAnswered : Setting → List Row → Machine → Type 0
AreAnswered k rows m =
    rows_interrupted (setting k.design k.image k.waits k.lines) rows + count (drop (suc (shape_of k).ex) m.slots) * (bound k + 1) ≤ entry_bound (shape_of k) (bound k) + rows_without rows

-- what is known of one more row
pub record IsKept (k : Setting) (earlier : List Row) (row : Row) : Type 0 where
  pub headline : Headline k.design k.image k.waits k.lines (row ∷ earlier)

module _ (k : Setting) (ready : (ps : List ℕ) → IsReady (at_places k ps)) (earlier : List Row) (m : Machine) (row : Row) (inv : Inv (at_places k (places earlier)) earlier m) (is : IsRowOf k m row) (going : (newest earlier).stop ≡ None)
    (h : Headline k.design k.image k.waits k.lines earlier) (before : AreAnswered k earlier m) where
  abbrev here : Setting
  here = at_places k (places earlier)

  there : IsRowOf (at_places k (places earlier)) m row
  there = row_at k (places earlier) m row is

  few : rows_without (row ∷ earlier) ≤ bound k
  few =
      let a = inv.progress in
      let b = without_more row earlier in
      let c = bound_above here (ready (places earlier)) in
      omega (arith, a, b, c)

  few_before : rows_without earlier ≤ bound k
  few_before = let a = inv.progress in let c = bound_above here (ready (places earlier)) in omega (arith, a, c)

  -- in a row in which an interrupt is to be taken and is not
  abbrev Untaken : Bool
  Untaken = is_interrupted (judged (at_places k (places earlier))) earlier && is_none row.taken

  interrupted_more : rows_interrupted (setting k.design k.image k.waits k.lines) (row ∷ earlier) ≡ (if Untaken then suc (rows_interrupted (setting k.design k.image k.waits k.lines) earlier) else 0)
  unfolding rows_interrupted
  interrupted_more = refl

  pub answered_after : row.stop ≡ None → AreAnswered k (row ∷ earlier) (machine_after k m)
  answered_after stop = by_case Untaken refl where
    by_case : (b : Bool) → Untaken ≡ b → AreAnswered k (row ∷ earlier) (machine_after k m)
    by_case true e =
        let now = first_holds (is_interrupted (judged here) earlier) _ e in
        let none = second_holds (is_interrupted (judged here) earlier) (is_none row.taken) e in
        let a = A.answered here (ready (places earlier)) earlier m row inv there now none stop (bound k) (rows_interrupted (setting k.design k.image k.waits k.lines) earlier) (entry_bound (shape_of k) (bound k)) few_before before in
        let n = interrupted_more ∙ ap (λ (b : Bool). if b then suc (rows_interrupted (setting k.design k.image k.waits k.lines) earlier) else 0) e in
        omega (arith, a, n)
    by_case false e =
        let a = A.answered_new here (ready (places earlier)) earlier m row inv there (bound k) (rows_without (row ∷ earlier)) in
        let n = interrupted_more ∙ ap (λ (b : Bool). if b then suc (rows_interrupted (setting k.design k.image k.waits k.lines) earlier) else 0) e in
        omega (arith, a, n)

  interrupted_few : rows_interrupted (setting k.design k.image k.waits k.lines) (row ∷ earlier) ≤ entry_bound (shape_of k) (bound k)
  interrupted_few = by_case Untaken refl row.stop refl where
    by_case : (b : Bool) → Untaken ≡ b → (o : Option Stop) → row.stop ≡ o → rows_interrupted (setting k.design k.image k.waits k.lines) (row ∷ earlier) ≤ entry_bound (shape_of k) (bound k)
    by_case false e o q =
        let n = interrupted_more ∙ ap (λ (b : Bool). if b then suc (rows_interrupted (setting k.design k.image k.waits k.lines) earlier) else 0) e in
        omega (arith, n)
    by_case true e None q =
        let now = first_holds (is_interrupted (judged here) earlier) _ e in
        let none = second_holds (is_interrupted (judged here) earlier) (is_none row.taken) e in
        let w = rows_interrupted (setting k.design k.image k.waits k.lines) earlier in
        let a = A.answered here (ready (places earlier)) earlier m row inv there now none q (bound k) w (entry_bound (shape_of k) (bound k)) few_before before in
        let low = A.answered_low here (ready (places earlier)) earlier m row inv there now none q (bound k) w (entry_bound (shape_of k) (bound k)) few a in
        let n = interrupted_more ∙ ap (λ (b : Bool). if b then suc (rows_interrupted (setting k.design k.image k.waits k.lines) earlier) else 0) e in
        omega (arith, low, n)
    by_case true e (Some stop) q =
        let now = first_holds (is_interrupted (judged here) earlier) _ e in
        let none = second_holds (is_interrupted (judged here) earlier) (is_none row.taken) e in
        absurd (not_both row.taken none (A.stop_takes here (ready (places earlier)) earlier m row inv there stop q now)) where
          not_both : (o : Option ℕ) → is_none o ≡ true → is_some o ≡ true → ⊥
          not_both None a b = cc
          not_both (Some at) a b = cc

  pub one_more_row : Headline k.design k.image k.waits k.lines (row ∷ earlier)
  one_more_row =
      record {
        lawful = (R.lawful here (ready (places earlier)) earlier m row inv there, going, h.lawful);
        agrees = (R.agrees here (ready (places earlier)) earlier m row inv there, h.agrees);
        progress = (few, h.progress);
        answers = (interrupted_few, λ stop q now. A.stop_takes here (ready (places earlier)) earlier m row inv there stop q now, h.answers);
      }
