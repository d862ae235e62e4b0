use Rattle.std.proofs.Common.{Some, ap, ◌∙◌, arith}
use Rattle.std.specs.Prelude.{cond}
use Rattle.std.specs.Str.{bytes_eq}
use Rattle.std.proofs.lemmas.Map.Text.{btree_map_updates_str}
use Rattle.ix_vnets.specs.WidthTables.{found}
use Rattle.ix_vnets.proofs.Holding.{first_port, next_port, last_port}
use Rattle.ix_vnets.proofs.table.put.Goals as goal

pub loop-port-init : goal.loop-port-init
loop-port-init c = λ front apart h. first_port c.args.widths.now front h

pub loop-port-preserved : goal.loop-port-preserved
loop-port-preserved c = λ front apart h.
    next_port c.loop-port.widths c.insert.new.self front c.args.ports.now c.loop-port.port-index c.port-item.result c.port-item.is c.loop-port-test.true apart (c.loop-port.invariant front apart h)
    (λ q. btree_map_updates_str c.as_str.result.now c.loop-port.widths c.insert.new.self (Some c.port-item.result.width) c.in_ok-insert.ensures.updates q
    ∙ ap (λ z. cond (bytes_eq z q) (Some c.port-item.result.width) (found c.loop-port.widths q)) c.as_str.ensures.text)

pub returns : goal.returns
returns c = λ front apart h. last_port c.loop-port.widths front c.args.ports.now c.loop-port.port-index (omega (arith, c.loop-port-test.false)) (c.loop-port.invariant front apart h)
