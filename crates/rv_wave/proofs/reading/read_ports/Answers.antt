use Rattle.std.proofs.Common.{◌≡◌, ◌<◌, length, sym, rules, arith}
use Rattle.ix_bits.specs.declared.number.Bits.{Bits}
use Rattle.ix_dump.specs.Dump.{dump_ports, dump_widths}
use Rattle.rv_nets.specs.Modules.{ports_shown}
use Rattle.rv_wave.proofs.Ports.{one_more_read, width_at}
use Rattle.rv_wave.proofs.reading.read_ports.Goals as goal

pub loop-k-preserved : goal.loop-k-preserved
loop-k-preserved c =
    let k = c.loop-k.k in
    let nets = c.args.machine.now.setting.design.nets in
    let inside : k < length c.loop-k.now = omega (arith, c.loop-k-test.true) in
    let of_port : k < length (dump_ports nets) = rw (sym c.loop-k.invariant.long) inside in
    record {
      long = search rules;
      values = one_more_read (λ (b : Bits). b.raw) c.loop-k.now (ports_shown c.args.machine.now.modules) k c.port-shown.result inside c.port-shown.ensures.value c.loop-k.invariant.values;
      widths = one_more_read (λ (b : Bits). b.width) c.loop-k.now (dump_widths nets) k c.port-shown.result inside (width_at (dump_ports nets) k c.port-shown.result.width of_port c.port-shown.ensures.width) c.loop-k.invariant.widths;
    }
