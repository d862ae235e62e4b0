use Rattle.rv_audit.proofs.Rows.{none_so_far}
use Rattle.rv_audit.proofs.auditing.rows.Goals as goal

pub loop-at-init : goal.loop-at-init
loop-at-init c = record { scratch = c.requires.scratch; right = none_so_far c.args.against.now c.args.text.now c.args.read.now.rows c.args.watch.now c.requires.watched }
