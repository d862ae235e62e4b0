use Rattle.std.proofs.Common.{subst, inl, inr, List, ℕ, None}
use Rattle.rv_engine.specs.Settings.{setting}
use Rattle.rv_machine.specs.DesignText.{IsDesignText}
use Rattle.ix_tool.proofs.tool.run_image.Goals as goal

pub returns-in-Ok : goal.returns-in-Ok
returns-in-Ok g c = elim c.run_design.ensures [
  | inl memory ↦ inl memory
  | inr done ↦
      inr (
        done.0,
        record {
          design = c.in-Ok.design;
          plain = c.in-Ok.ensures;
          runs = subst (λ (w : List ℕ). IsDesignText (setting c.in-Ok.design c.args.image.now w None) c.args.cycles done.0) c.new-waits.ensures done.1;
        },
        done.2,
      )
]
