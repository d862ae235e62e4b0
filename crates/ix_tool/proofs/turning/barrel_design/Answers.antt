use Rattle.std.proofs.Common.{◌∙◌, sym, subst, inl, inr}
use Rattle.ix_extension.specs.Extensions.{view_extension}
use Rattle.ix_words.specs.declared.status.Status.TheVariants.{Barrel}
use Rattle.ix_tool.specs.BarrelOutput.{tight_line}
use Rattle.ix_tool.specs.CommandOutput.{Writes}
use Rattle.ix_tool.proofs.TightPlans.{tight_is, turning}
use Rattle.ix_tool.proofs.turning.barrel_design.Goals as goal

pub name_of-requires : goal.name_of-requires
name_of-requires g c = tight_is (view_extension c.args.design.now.extension) c.args.design.now.plans c.in-Ok-Some.which (sym c.in-Ok-Some.ensures ∙ c.in-Ok-Some.field-0-is)

pub run_barrel-requires-clause-turns : goal.run_barrel-requires-clause-turns
run_barrel-requires-clause-turns g c = turning c.args.design.now c.requires.stands (sym c.in-Ok-None.ensures ∙ c.in-Ok-None.field-0-is) c.requires.near

pub returns-in-Ok-Some : goal.returns-in-Ok-Some
returns-in-Ok-Some g c = elim c.refuse_tight.ensures [
  | inl memory ↦ inl memory
  | inr told ↦
      inr (inl (
        c.in-Ok-Some.which,
        sym c.in-Ok-Some.ensures ∙ c.in-Ok-Some.field-0-is,
        subst (λ n. Writes Barrel (tight_line n) (g.S.Sink.written c.args.sink.now) (g.S.Sink.written c.refuse_tight.new.sink) (g.S.Sink.faults c.args.sink.now) (g.S.Sink.faults c.refuse_tight.new.sink) c.refuse_tight.result) c.name_of.ensures.value told,
      ))
]
