use Rattle.std.proofs.Common.{◌≡◌, length, take}
use Rattle.ix_dump.specs.Dump.{raws, widths, dump_widths}
use Rattle.rv_nets.specs.Modules.{ports_shown}
use Rattle.rv_ports.specs.Driven.{ports_of}
use Rattle.rv_wave.proofs.reading.read_ports.Given as goal

abbrev pub invariant-loop-k : goal.invariant-loop-k
invariant-loop-k l = record {
  long : length l.now ≡ length (ports_of l.machine.setting.design.nets);
  values : raws (take l.k l.now) ≡ take l.k (ports_shown l.machine.modules);
  widths : widths (take l.k l.now) ≡ take l.k (dump_widths l.machine.setting.design.nets);
}
