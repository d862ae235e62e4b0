use Rattle.std.proofs.Common.{arith}
use Rattle.rv_reader.proofs.Readings.{free_more, split_found, split_end}
use Rattle.rv_reader.proofs.word.split.Goals as goal

pub returns-then-byte-by-clause-before : goal.returns-then-byte-by-clause-before
returns-then-byte-by-clause-before c = (split_found c.args.by c.args.text.now c.loop-end.end 0 (omega (arith, c.loop-end-test.true, c.loop-end.auto.end-end)) c.loop-end.invariant.free c.if-byte-by.true).0

pub returns-then-byte-by-clause-rest : goal.returns-then-byte-by-clause-rest
returns-then-byte-by-clause-rest c = (split_found c.args.by c.args.text.now c.loop-end.end 0 (omega (arith, c.loop-end-test.true, c.loop-end.auto.end-end)) c.loop-end.invariant.free c.if-byte-by.true).1

pub loop-end-preserved : goal.loop-end-preserved
loop-end-preserved c = record { free = free_more c.args.by c.args.text.now c.loop-end.end 0 (omega (arith, c.loop-end-test.true, c.loop-end.auto.end-end)) c.loop-end.invariant.free c.if-byte-by.false }

pub returns-clause-before : goal.returns-clause-before
returns-clause-before c = (split_end c.args.by c.args.text.now c.loop-end.end (omega (arith, c.loop-end-test.false, c.loop-end.auto.end-end)) c.loop-end.invariant.free).0

pub returns-clause-rest : goal.returns-clause-rest
returns-clause-rest c = (split_end c.args.by c.args.text.now c.loop-end.end (omega (arith, c.loop-end-test.false, c.loop-end.auto.end-end)) c.loop-end.invariant.free).1
