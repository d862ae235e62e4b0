use Rattle.std.proofs.Common.{◌∙◌}
use Rattle.std.proofs.lemmas.Result.{IfOk-weaker}
use Rattle.ix_extension.specs.Extensions.{view_extension}
use Rattle.ix_design.specs.Building.{IsModuleBy, IsModuleOf}
use Rattle.ix_design.proofs.Turns.{module_of}
use Rattle.ix_design.proofs.building.built_at.Goals as goal

pub returns-in-Ok-clause-built : goal.returns-in-Ok-clause-built
returns-in-Ok-clause-built c =
    let x = view_extension c.args.ext.now in
    let sheet = c.args.sheet.now in
    IfOk-weaker c.built_by.result (IsModuleBy c.in_ok-name.name c.in-Ok.graph sheet c.is_block.result) (IsModuleOf x sheet c.args.which)
    (λ m h. module_of x sheet c.args.which c.in_ok-name.name c.in-Ok.graph c.is_block.result m c.in-Ok.ensures.graph (c.in_ok-name.ensures ∙ c.name_of.ensures.value) c.is_block.ensures h)
    c.built_by.ensures.built
