use Rattle.std.proofs.Common.{refl}
use Rattle.ix_extension.specs.Extensions.{view_extension}
use Rattle.rv_past.proofs.Told.{past_first}
use Rattle.rv_past.proofs.past.Past.new.Goals as goal

pub returns : goal.returns
returns c = λ k no_line initial. past_first (view_extension c.args.ext.now) k (record { arch = c.in_ok-arch.arch; file = c.in_ok-arch.arch.custom }) c.in_ok-arch.ensures.first refl c.in_ok-arch.ensures.wide no_line initial
