use Rattle.std.proofs.Common.{◌∙◌, ap, take}
use Rattle.std.specs.Option.{option_copied}
use Rattle.rv_engine.specs.Settings.{setting}
use Rattle.rv_engine.specs.Showing.{shown_of}
use Rattle.rv_engine.specs.Kept.{machine_with}
use Rattle.rv_engine.proofs.engine.row_in.Goals as goal

pub returns-clause-shown : goal.returns-clause-shown
returns-clause-shown c =
    λ is. c.row_of.ensures.shown is
    ∙ ap (λ n. shown_of (setting c.args.design.now c.args.image.now c.args.waits.now (option_copied c.args.lines)) (machine_with c.args.front.now c.args.future.now c.args.arch.now c.args.owing.now (take n c.args.slots.now))) c.from-stages.ensures
