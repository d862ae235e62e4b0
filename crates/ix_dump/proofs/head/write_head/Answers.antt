use Rattle.std.proofs.Common.{refl, ◌++◌}
use Rattle.std.specs.Prelude.{codes}
use Rattle.ix_dump.specs.Dump.{modules_text}
use Rattle.ix_dump.proofs.Passing.{breaks_of_more, part_start, part_step, part_breaks, part_last, part_last_breaks, at_err}
use Rattle.ix_dump.proofs.head.write_head.Goals as goal

pub returns-in_err-write_text-clause-front : goal.returns-in_err-write_text-clause-front
returns-in_err-write_text-clause-front g c =
    at_err c.from_residual.result
    (breaks_of_more (g.S.Sink.written c.args.sink.now) (g.S.Sink.written c.write_text.new.sink) c.args.out.now (codes "$timescale 1ns $end\n")
    (modules_text 0 c.args.nets.now ++ codes "$enddefinitions $end\n") c.in_err-write_text.ensures.front)

pub returns-in_err-write_modules-clause-front : goal.returns-in_err-write_modules-clause-front
returns-in_err-write_modules-clause-front g c =
    at_err c.from_residual-in_err-write_modules.result
    (part_breaks _ _ (part_step (part_start refl) refl c.in_ok-write_text.ensures.whole) refl c.in_err-write_modules.ensures.front)

pub returns-clause-whole : goal.returns-clause-whole
returns-clause-whole g c =
    part_last _ _ c.write_text-2.result
    (part_step (part_step (part_start refl) refl c.in_ok-write_text.ensures.whole) refl c.in_ok-write_modules.ensures.whole) c.write_text-2.ensures.whole

pub returns-clause-front : goal.returns-clause-front
returns-clause-front g c =
    part_last_breaks _ c.write_text-2.result
    (part_step (part_step (part_start refl) refl c.in_ok-write_text.ensures.whole) refl c.in_ok-write_modules.ensures.whole) c.write_text-2.ensures.front
