use Rattle.std.proofs.Common.{refl, ap, ◌+◌}
use Rattle.ix_dump.proofs.Passing.{part_start, part_step, part_breaks, part_last, part_last_breaks, at_err}
use Rattle.ix_dump.proofs.Lists.{module_is}
use Rattle.ix_dump.proofs.head.write_module.Goals as goal

pub returns-in_err-write_scope-clause-front : goal.returns-in_err-write_scope-clause-front
returns-in_err-write_scope-clause-front g c =
    let net = c.args.net.now in
    let first = c.args.first in
    let is = module_is first (first + c.len.result) net net.inputs net.outputs (ap (λ n. first + n) c.len.ensures) refl refl in
    at_err c.from_residual.result (part_breaks _ _ (part_start refl) is c.in_err-write_scope.ensures.front)

pub returns-in_err-write_ports-clause-front : goal.returns-in_err-write_ports-clause-front
returns-in_err-write_ports-clause-front g c =
    let net = c.args.net.now in
    let first = c.args.first in
    let is = module_is first (first + c.len.result) net c.as_slice.result.now net.outputs (ap (λ n. first + n) c.len.ensures) c.as_slice.ensures refl in
    let named = part_step (part_start refl) is c.in_ok-write_scope.ensures.whole in
    at_err c.from_residual-in_err-write_ports.result (part_breaks _ _ named refl c.in_err-write_ports.ensures.front)

pub returns-in_err-write_ports-2-clause-front : goal.returns-in_err-write_ports-2-clause-front
returns-in_err-write_ports-2-clause-front g c =
    let net = c.args.net.now in
    let first = c.args.first in
    let is = module_is first (first + c.len.result) net c.as_slice.result.now c.as_slice-2.result.now (ap (λ n. first + n) c.len.ensures) c.as_slice.ensures c.as_slice-2.ensures in
    let named = part_step (part_start refl) is c.in_ok-write_scope.ensures.whole in
    let read = part_step named refl c.in_ok-write_ports.ensures.whole in
    at_err c.from_residual-in_err-write_ports-2.result (part_breaks _ _ read refl c.in_err-write_ports-2.ensures.front)

pub returns-clause-whole : goal.returns-clause-whole
returns-clause-whole g c =
    let net = c.args.net.now in
    let first = c.args.first in
    let is = module_is first (first + c.len.result) net c.as_slice.result.now c.as_slice-2.result.now (ap (λ n. first + n) c.len.ensures) c.as_slice.ensures c.as_slice-2.ensures in
    let named = part_step (part_start refl) is c.in_ok-write_scope.ensures.whole in
    let read = part_step named refl c.in_ok-write_ports.ensures.whole in
    let shown = part_step read refl c.in_ok-write_ports-2.ensures.whole in
    part_last _ _ c.write_text.result shown c.write_text.ensures.whole

pub returns-clause-front : goal.returns-clause-front
returns-clause-front g c =
    let net = c.args.net.now in
    let first = c.args.first in
    let is = module_is first (first + c.len.result) net c.as_slice.result.now c.as_slice-2.result.now (ap (λ n. first + n) c.len.ensures) c.as_slice.ensures c.as_slice-2.ensures in
    let named = part_step (part_start refl) is c.in_ok-write_scope.ensures.whole in
    let read = part_step named refl c.in_ok-write_ports.ensures.whole in
    let shown = part_step read refl c.in_ok-write_ports-2.ensures.whole in
    part_last_breaks _ c.write_text.result shown c.write_text.ensures.front
