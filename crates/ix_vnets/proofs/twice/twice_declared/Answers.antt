use Rattle.std.proofs.Common.{◌≡◌, [], ◌∷◌, ◌++◌, false, refl, rules}
use Rattle.std.specs.BTreeSet.{contains_text}
use Rattle.ix_net.specs.Valid.{names}
use Rattle.ix_vnets.proofs.Seen.{set_one, some_seen, none_seen, last_seen, early, inputs_early, outputs_early, with_inputs, with_outputs, with_wires}
use Rattle.ix_vnets.proofs.twice.twice_declared.Goals as goal

pub returns-in-Some : goal.returns-in-Some
returns-in-Some c =
    let s = c.args.source.now in
    let one = set_one c.new-seen.result c.see.new.seen s.name c.as_str.result.now c.as_str.ensures.text (λ q. search rules) c.in_ok-see.ensures.more in
    let t = some_seen c.see.new.seen c.see_ports.new.seen c.as_slice.result.now s.inputs c.in_ok-name.field-0 c.in-Some.name (s.name ∷ []) c.in_ok-name.ensures c.as_slice.ensures c.in-Some.is one in
    early s (with_inputs s) (names s.outputs ++ (names s.wires ++ names s.registers)) c.in-Some.name t (inputs_early s)

pub returns-in-Some-2 : goal.returns-in-Some-2
returns-in-Some-2 c =
    let s = c.args.source.now in
    let one = set_one c.new-seen.result c.see.new.seen s.name c.as_str.result.now c.as_str.ensures.text (λ q. search rules) c.in_ok-see.ensures.more in
    let two = none_seen c.see.new.seen c.see_ports.new.seen c.as_slice.result.now s.inputs c.in_ok-name.field-0 (s.name ∷ []) c.in_ok-name.ensures c.as_slice.ensures c.in_default.is one in
    let t = some_seen c.see_ports.new.seen c.see_ports-2.new.seen c.as_slice-2.result.now s.outputs c.in_ok-name-2.field-0 c.in-Some-2.name (with_inputs s) c.in_ok-name-2.ensures c.as_slice-2.ensures c.in-Some-2.is two in
    early s (with_outputs s) (names s.wires ++ names s.registers) c.in-Some-2.name t (outputs_early s)

pub returns-in-Some-3 : goal.returns-in-Some-3
returns-in-Some-3 c =
    let s = c.args.source.now in
    let one = set_one c.new-seen.result c.see.new.seen s.name c.as_str.result.now c.as_str.ensures.text (λ q. search rules) c.in_ok-see.ensures.more in
    let two = none_seen c.see.new.seen c.see_ports.new.seen c.as_slice.result.now s.inputs c.in_ok-name.field-0 (s.name ∷ []) c.in_ok-name.ensures c.as_slice.ensures c.in_default.is one in
    let three = none_seen c.see_ports.new.seen c.see_ports-2.new.seen c.as_slice-2.result.now s.outputs c.in_ok-name-2.field-0 (with_inputs s) c.in_ok-name-2.ensures c.as_slice-2.ensures c.in_default-2.is two in
    let t = some_seen c.see_ports-2.new.seen c.see_ports-3.new.seen c.as_slice-3.result.now s.wires c.in_ok-name-3.field-0 c.in-Some-3.name (with_outputs s) c.in_ok-name-3.ensures c.as_slice-3.ensures c.in-Some-3.is three in
    early s (with_wires s) (names s.registers) c.in-Some-3.name t refl

pub returns : goal.returns
returns c =
    let s = c.args.source.now in
    let one = set_one c.new-seen.result c.see.new.seen s.name c.as_str.result.now c.as_str.ensures.text (λ q. search rules) c.in_ok-see.ensures.more in
    let two = none_seen c.see.new.seen c.see_ports.new.seen c.as_slice.result.now s.inputs c.in_ok-name.field-0 (s.name ∷ []) c.in_ok-name.ensures c.as_slice.ensures c.in_default.is one in
    let three = none_seen c.see_ports.new.seen c.see_ports-2.new.seen c.as_slice-2.result.now s.outputs c.in_ok-name-2.field-0 (with_inputs s) c.in_ok-name-2.ensures c.as_slice-2.ensures c.in_default-2.is two in
    let four = none_seen c.see_ports-2.new.seen c.see_ports-3.new.seen c.as_slice-3.result.now s.wires c.in_ok-name-3.field-0 (with_outputs s) c.in_ok-name-3.ensures c.as_slice-3.ensures c.in_default-3.is three in
    last_seen s c.see_ports-3.new.seen c.see_ports-4.new.seen c.as_slice-4.result.now c.see_ports-4.result c.see_ports-4.ensures c.as_slice-4.ensures four
