use Rattle.std.proofs.Common.{◌≡◌, ◌∙◌, sym, subst, ap, ℕ, suc, ◌+◌, ◌≤◌, List, arith}
use Rattle.rv_waits.specs.Lines.{rows_end, next_row}
use Rattle.rv_waits.proofs.Ascents.{behind_last, behind_below}
use Rattle.rv_waits.proofs.lines.Lines.next.Goals as goal

pub overflow_add-result : goal.overflow_add-result
overflow_add-result c =
    let e = behind_last c.in-Some.row.now c.as_slice.result.now (sym c.in-Some.ensures.value) in
    let le = subst (λ (l : List ℕ). next_row l ≤ rows_end) (sym c.as_slice.ensures) (behind_below c.self.inside.list c.self.invariant.1) in
    omega (arith, e, le)

pub returns-in-Some-clause-value : goal.returns-in-Some-clause-value
returns-in-Some-clause-value c =
    let e = behind_last c.in-Some.row.now c.as_slice.result.now (sym c.in-Some.ensures.value) in
    let same : c.in-Some.row.now + 1 ≡ suc c.in-Some.row.now = omega arith in
    same ∙ sym e ∙ ap (λ (l : List ℕ). next_row l) (c.as_slice.ensures ∙ c.self.view_is)

pub returns-in-Some-clause-most : goal.returns-in-Some-clause-most
returns-in-Some-clause-most c =
    let e = behind_last c.in-Some.row.now c.as_slice.result.now (sym c.in-Some.ensures.value) in
    let le = subst (λ (l : List ℕ). next_row l ≤ rows_end) (sym c.as_slice.ensures) (behind_below c.self.inside.list c.self.invariant.1) in
    omega (arith, e, le)
