use Rattle.std.proofs.Common.{◌∙◌, ap, map}
use Rattle.ix_reports.specs.Blocks.{kind_text}
use Rattle.ix_reports.proofs.Sounding.{sound_cycle}
use Rattle.ix_reports.proofs.block.unscheduled_block.Goals as goal

pub returns-clause-sound : goal.returns-clause-sound
returns-clause-sound c =
    rw (c.new.ensures, c.new-2.ensures)
    (sound_cycle c.args.graph.now c.args.sheet.now c.args.block c.args.problem c.args.cycle c.in_ok-kinds.kinds c.args.name c.problem_law.ensures c.requires.graph c.requires.sheet
    c.requires.unschedulable c.requires.named (c.in_ok-kinds.ensures ∙ ap (λ ops. map kind_text ops) c.as_slice.ensures))
