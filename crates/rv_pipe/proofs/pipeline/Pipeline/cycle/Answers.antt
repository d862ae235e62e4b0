use Rattle.std.proofs.Common.{◌≡◌, subst}
use Rattle.std.specs.Option.{option_copied}
use Rattle.rv_engine.specs.Settings.{setting}
use Rattle.rv_engine.specs.Rows.{IsRowOf}
use Rattle.rv_engine.specs.Showing.{shown_of}
use Rattle.rv_pipe.specs.Machines.{Between}
use Rattle.rv_pipe.proofs.Sound.{steady_after}
use Rattle.rv_pipe.proofs.pipeline.Pipeline.cycle.Goals as goal

pub invariant_of-self : goal.invariant_of-self
invariant_of-self c =
    steady_after (setting c.self.inside.design.now c.self.inside.words.now c.self.inside.waits.now (option_copied c.self.inside.lines)) c.self.inside.asking c.self.inside.scratch c.make_row.new.scratch c.self.inside.kept c.make_row.new.kept
    c.self.invariant c.make_row.ensures.after c.make_row.ensures.fit c.make_row.ensures.owing c.make_row.ensures.scratch

pub returns-clause-row : goal.returns-clause-row
returns-clause-row c = subst (λ (v : Between). IsRowOf v.setting v.machine c.make_row.new.row) c.self.view_is c.make_row.ensures.row

pub returns-clause-shown : goal.returns-clause-shown
returns-clause-shown c = λ is. subst (λ (v : Between). c.make_row.new.shown ≡ shown_of v.setting v.machine) c.self.view_is (c.make_row.ensures.shown is)
