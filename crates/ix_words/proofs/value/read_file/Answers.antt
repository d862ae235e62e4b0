use Rattle.std.proofs.Common.{ap, subst, Err}
use Rattle.ix_words.specs.WordsRead.{Judged, RoseIn}
use Rattle.ix_words.proofs.Judging.{judged_read, fault_read, long_read}
use Rattle.ix_words.proofs.value.read_file.Goals as goal

pub returns-in-Ok-clause-read : goal.returns-in-Ok-clause-read
returns-in-Ok-clause-read g c =
    judged_read (g.F.Shelf.files c.args.shelf.now) (RoseIn (g.F.Shelf.faults c.args.shelf.now) (g.F.Shelf.faults c.read_all.new.shelf)) c.args.kind c.args.name.now c.in-Ok.file c.judge.result
    (record { told = c.in-Ok.ensures.whole; within = c.in-Ok.ensures.short }) (subst (λ f. Judged c.args.kind f c.judge.result) c.as_slice.ensures c.judge.ensures)

pub returns-in-Err-Fault-clause-read : goal.returns-in-Err-Fault-clause-read
returns-in-Err-Fault-clause-read g c =
    fault_read (g.F.Shelf.files c.args.shelf.now) (RoseIn (g.F.Shelf.faults c.args.shelf.now) (g.F.Shelf.faults c.read_all.new.shelf)) c.args.kind c.args.name.now c.file_refusal.result
    (c.in-Err-Fault.ensures.fault (ap Err c.in-Err-Fault.field-0-is)) c.file_refusal.ensures

pub returns-in-Err-TooLong-clause-read : goal.returns-in-Err-TooLong-clause-read
returns-in-Err-TooLong-clause-read g c =
    long_read (g.F.Shelf.files c.args.shelf.now) (RoseIn (g.F.Shelf.faults c.args.shelf.now) (g.F.Shelf.faults c.read_all.new.shelf)) c.args.kind c.args.name.now c.file_refusal-in-Err-TooLong.result
    (c.in-Err-TooLong.ensures.too_long (ap Err c.in-Err-TooLong.field-0-is)) c.file_refusal-in-Err-TooLong.ensures
