use Rattle.std.proofs.Common.{◌∙◌, sym, subst, ap, ℕ, List}
use Rattle.rv_waits.specs.Lines.{Ascending, is_raised}
use Rattle.rv_waits.proofs.Ascents.{searched_rows}
use Rattle.rv_waits.proofs.lines.Lines.is_raised.Goals as goal

pub returns : goal.returns
returns c =
    c.is_ok.ensures.value
    ∙ searched_rows c.args.row c.as_slice.result.now c.binary_search.result (subst (λ (l : List ℕ). Ascending 0 l) (sym c.as_slice.ensures) c.self.invariant.1) c.binary_search.ensures.position
    ∙ ap (λ (l : List ℕ). is_raised l c.args.row) (c.as_slice.ensures ∙ c.self.view_is)
