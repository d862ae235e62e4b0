use Rattle.std.proofs.Common.{◌∙◌, ap}
use Rattle.ix_extension.specs.Extensions.{view_extension}
use Rattle.rv_seq.specs.declared.arch.Arch.{Arch}
use Rattle.rv_lawful.specs.Outstanding.{after_written}
use Rattle.rv_past.proofs.Told.{past_more}
use Rattle.rv_past.proofs.past.Past.next.Goals as goal

pub returns : goal.returns
returns c = λ k earlier same untaken of_retired of_executed written is.
    past_more (view_extension c.args.ext.now) k earlier c.args.row.now c.args.retired.now c.args.executed.now c.executing-cell.result c.args.self.now _ untaken (c.executing-cell.ensures k same) of_retired of_executed written is
    (c.pay_written.ensures ∙ ap (λ (s : Arch). after_written c.args.row.now.written s) c.retire.ensures) c.file_row.ensures
