use Rattle.std.proofs.Common.{◌+◌, ◌∙◌, refl, subst, inl, inr, reverse}
use Rattle.rv_bench.specs.Summary.{summary_text}
use Rattle.rv_machine.specs.Running.{AreRows}
use Rattle.ix_tool.proofs.Summaries.{design_summary}
use Rattle.ix_tool.proofs.benching.bench_design.Goals as goal

pub returns-in-Ok-write_summary : goal.returns-in-Ok-write_summary
returns-in-Ok-write_summary g c =
    inr (
      summary_text (c.args.count + 2) (reverse c.trace.result.now.rows),
      design_summary c.args.design.now c.args.number c.args.count c.in-Ok-drawn_image.image c.new-waits.result c.run_machine.new.machine.rows c.trace.result.now.rows c.in-Ok-drawn_image.ensures c.new-waits.ensures
          (subst (λ z. AreRows z c.run_machine.new.machine.rows) (c.run_machine.ensures.setting ∙ c.in-Ok-new.ensures.setting) c.trace.ensures.are_rows) c.run_machine.ensures.few c.run_machine.ensures.whole c.trace.ensures.rows,
      inl (refl, c.in-Ok-write_summary.ensures.whole),
    )

pub returns : goal.returns
returns g c =
    inr (
      summary_text (c.args.count + 2) (reverse c.trace.result.now.rows),
      design_summary c.args.design.now c.args.number c.args.count c.in-Ok-drawn_image.image c.new-waits.result c.run_machine.new.machine.rows c.trace.result.now.rows c.in-Ok-drawn_image.ensures c.new-waits.ensures
          (subst (λ z. AreRows z c.run_machine.new.machine.rows) (c.run_machine.ensures.setting ∙ c.in-Ok-new.ensures.setting) c.trace.ensures.are_rows) c.run_machine.ensures.few c.run_machine.ensures.whole c.trace.ensures.rows,
      inr (refl, c.in-Err.ensures.fault, c.in-Err.ensures.front),
    )
