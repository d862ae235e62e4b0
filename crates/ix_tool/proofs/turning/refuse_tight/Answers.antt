use Rattle.std.proofs.Common.{◌≡◌, ◌∙◌, subst, inr}
use Rattle.ix_words.specs.declared.status.Status.TheVariants.{Barrel}
use Rattle.ix_tool.specs.BarrelOutput.{tight_line}
use Rattle.ix_tool.specs.CommandOutput.{Writes}
use Rattle.ix_tool.proofs.turning.refuse_tight.Goals as goal

pub returns-in-Ok : goal.returns-in-Ok
returns-in-Ok g c =
    let text : c.as_bytes.result.now ≡ tight_line c.args.name.now = c.as_bytes.ensures.value ∙ c.in-Ok.ensures.ok in
    inr (subst (λ t. Writes Barrel t (g.S.Sink.written c.args.sink.now) (g.S.Sink.written c.finish.new.sink) (g.S.Sink.faults c.args.sink.now) (g.S.Sink.faults c.finish.new.sink) c.finish.result) text c.finish.ensures)
