use Rattle.std.proofs.Common.{lit≤}
use Rattle.ix_tool.proofs.NativeWindows.{native_inside, zeros_small}
use Rattle.ix_tool.proofs.plain.plain_sheet.Goals as goal

pub returns-clause-valid : goal.returns-clause-valid
returns-clause-valid c =
    record {
      some_period = lit≤ tt;
      most_period = lit≤ tt;
      delays = zeros_small 34;
      windows = λ k h. rw c.native_windows.ensures (native_inside c.shape-shape.result k h);
    }
