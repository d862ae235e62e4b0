use Rattle.std.proofs.Common.{map}
use Rattle.rv_shown.specs.Shown.{shown_in}
use Rattle.rv_reader.proofs.Unique.{only_memory, same_bad, not_both, one_trace}
use Rattle.rv_reader.proofs.read.read_trace.Goals as goal

pub returns-in-Ok-clause-one : goal.returns-in-Ok-clause-one
returns-in-Ok-clause-one c = λ rows state t. one_trace c.args.widths.now c.args.stages c.args.text.now (map (shown_in c.args.stages c.args.text.now) c.in-Ok.read.rows) rows _ state c.requires.short c.in-Ok.ensures.read t

pub returns-in-Ok-clause-refuses : goal.returns-in-Ok-clause-refuses
returns-in-Ok-clause-refuses c = λ n b. not_both c.args.widths.now c.args.stages c.args.text.now n _ _ b c.in-Ok.ensures.read

pub returns-in-Err-clause-only : goal.returns-in-Err-clause-only
returns-in-Err-clause-only c = λ rows state t. only_memory c.args.widths.now c.args.stages c.args.text.now c.in-Err.error rows state c.in-Err.ensures.refused t

pub returns-in-Err-clause-refuses : goal.returns-in-Err-clause-refuses
returns-in-Err-clause-refuses c = λ n b. same_bad c.args.widths.now c.args.stages c.args.text.now c.in-Err.error n c.in-Err.ensures.refused b
