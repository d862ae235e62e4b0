use Rattle.std.proofs.Common.{◌≡◌, sym, subst}
use Rattle.std.specs.Prelude.{All}
use Rattle.std.proofs.lemmas.Result.{IfOk-weaker}
use Rattle.ix_extension.specs.Extensions.{view_extension}
use Rattle.ix_behaviour.specs.Behaviours.{HasBehaviour}
use Rattle.ix_standing.specs.Standing.{behaviours_of}
use Rattle.ix_schedules.proofs.Turns.{in_range}
use Rattle.ix_design.proofs.building.all_behaviours.Goals as goal

pub returns-clause-in_range : goal.returns-clause-in_range
returns-clause-in_range c =
    let x = view_extension c.args.ext.now in
    IfOk-weaker c.behaviours_in.result (λ list. list ≡ behaviours_of x) (λ list. All (HasBehaviour x) list) (λ list e. subst (λ l. All (HasBehaviour x) l) (sym e) (in_range x)) c.behaviours_in.ensures
