use Rattle.std.proofs.Common.{refl, Ok, Err}
use Rattle.ix_extension.specs.Extensions.{view_extension}
use Rattle.ix_plan.specs.declared.design.Design.{Design}
use Rattle.ix_design.proofs.Exact.{answers}
use Rattle.ix_design.proofs.designing.design.Goals as goal

pub returns-in-Ok-clause-exact : goal.returns-in-Ok-clause-exact
returns-in-Ok-clause-exact c =
    let made : Design = record { extension = c.args.extension; sheet = c.args.sheet; plans = c.in-Ok.built.plans; nets = c.in-Ok.built.nets } in
    answers (view_extension c.args.extension) c.args.sheet (Ok made) (record { well_formed = c.requires.well_formed; sheet = c.requires.sheet; built = c.in-Ok.ensures.built }) refl refl tt

pub returns-in-Err-clause-exact : goal.returns-in-Err-clause-exact
returns-in-Err-clause-exact c = answers (view_extension c.args.extension) c.args.sheet (Err c.in-Err.error) tt tt tt c.in-Err.ensures.refused
