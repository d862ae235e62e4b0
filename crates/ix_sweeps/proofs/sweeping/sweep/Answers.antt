use Rattle.std.proofs.Common.{◌∙◌, sym, subst}
use Rattle.std.specs.Prelude.{All}
use Rattle.ix_extension.specs.Extensions.{view_extension}
use Rattle.ix_behaviour.specs.Behaviours.{HasBehaviour}
use Rattle.ix_schedules.proofs.Turns.{in_range}
use Rattle.ix_sweeps.proofs.sweeping.sweep.Goals as goal

pub sweeps_of-requires-clause-in_range : goal.sweeps_of-requires-clause-in_range
sweeps_of-requires-clause-in_range c =
    let x = view_extension c.args.ext.now in
    subst (λ l. All (HasBehaviour x) l) (sym (c.as_slice.ensures ∙ c.in_ok-list.ensures)) (in_range x)
