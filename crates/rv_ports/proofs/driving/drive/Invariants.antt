use Rattle.std.proofs.Common.{◌≡◌, length, map, take}
use Rattle.ix_bits.specs.declared.number.Bits.{Bits}
use Rattle.rv_ports.specs.Feeds.{feed_value, feed_width}
use Rattle.rv_ports.proofs.driving.drive.Given as goal

abbrev pub invariant-loop-number : goal.invariant-loop-number
invariant-loop-number l = record {
  count : length l.inputs ≡ length l.feeds;
  values : map (λ (b : Bits). b.raw) (take l.number l.inputs) ≡ map (feed_value l.driven l.shown) (take l.number l.feeds);
  widths : map (λ (b : Bits). b.width) (take l.number l.inputs) ≡ map feed_width (take l.number l.feeds);
}
