use Rattle.std.proofs.Common.{◌∙◌, sym, ap, List, ℕ}
use Rattle.std.specs.Prelude.{slice_get}
use Rattle.ix_plan.specs.declared.design.Target.{Target}
use Rattle.rv_barrel.proofs.Nths.{listed_is, none_past}
use Rattle.rv_barrel.proofs.outstanding.nth_outstanding.Goals as goal

pub returns-in-Ok : goal.returns-in-Ok
returns-in-Ok c s all h = sym c.in-Ok.ensures ∙ ap (λ (l : List (ℕ × Target)). slice_get l c.args.k) (listed_is s c.args.owed.now all h)

pub returns-in-Err : goal.returns-in-Err
returns-in-Err c s all h = sym (none_past c.args.owed.now c.args.k _ c.in-Err.ensures) ∙ ap (λ (l : List (ℕ × Target)). slice_get l c.args.k) (listed_is s c.args.owed.now all h)
