use Rattle.std.proofs.Common.{◌<◌, length, arith}
use Rattle.ix_resolve.proofs.FlagLists.{flag_more}
use Rattle.ix_resolve.proofs.marks.flags.Goals as goal

pub loop-flags-preserved : goal.loop-flags-preserved
loop-flags-preserved c =
    let fewer : length c.loop-flags.flags.items < length c.args.targets.now = omega arith in
    flag_more c.loop-flags.flags.items c.push.new.self.items c.args.targets.now _ fewer c.in_ok-push.ensures.items c.loop-flags.invariant
