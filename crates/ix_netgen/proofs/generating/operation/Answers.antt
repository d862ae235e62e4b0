use Rattle.std.proofs.Common.{◌≡◌, ℕ, ◌+◌, ◌<◌, List, Option, Some, length, map, get_or, arith, refl, ap, sym, ◌∙◌, subst, All}
use Rattle.std.specs.Prelude.{slice_get}
use Rattle.std.proofs.lemmas.Option.{slice_get_read}
use Rattle.ix_bits.specs.declared.number.Ty.{Ty}
use Rattle.ix_graph.specs.declared.args.Arg.{Arg}
use Rattle.ix_graph.specs.declared.graph.Op.{Op}
use Rattle.ix_graph.specs.Roles.{role_of}
use Rattle.ix_cells.specs.declared.operand.Operand.{Operand}
use Rattle.ix_netgen.specs.Standing.{Timetable}
use Rattle.ix_netgen.specs.KeptWires.{timetable_of, IsInReach, Supplies, ResultsAs}
use Rattle.ix_netgen.proofs.Operations.{args_in_reach, supplied_types, operation_made, until_few}
use Rattle.ix_netgen.specs.Uses.{uses_until}
use Rattle.ix_netgen.proofs.generating.operation.Goals as goal

-- the operation stands at its number
at_number : (ops xs : List Op) (k : ℕ) (op : Op) → xs ≡ ops → k < length ops → op ≡ get_or xs k op → slice_get ops k ≡ Some op
at_number ops xs k op e l h = (let P : List Op → Type 0 = λ ys. op ≡ get_or ys k op in slice_get_read ops (length ops) k op refl l (subst P e h))

supplies_at :
    (ops xs : List Op) (args ys : List Arg) (kept : List Rattle.ix_netgen.specs.declared.kept.Kept.Kept) (t : ℕ) (old new : Rattle.ix_net.specs.declared.netlist.Net.Net) (os : List Operand)
    → xs ≡ ops → ys ≡ args → Supplies xs kept t ys old new os → Supplies ops kept t args old new os
supplies_at ops xs args ys kept t old new os e f h =
    let P : List Op → Type 0 = λ z. Supplies z kept t args old new os in
    let Q : List Arg → Type 0 = λ z. Supplies xs kept t z old new os in
    subst P e (subst Q f h)

pub arguments-requires : goal.arguments-requires
arguments-requires c =
    let p : Timetable = timetable_of c.args.shape c.args.graph.now c.args.times.now in
    let at = at_number c.args.graph.now.ops c.as_slice-ops.result.now c.args.number c.index-ops-number.result c.as_slice-ops.ensures c.requires.within c.index-ops-number.is in
    let P : List Op → Type 0 = λ z. All (IsInReach z c.args.kept.now (get_or c.args.times.now c.args.number 0)) c.as_slice.result.now in
    let Q : List Arg → Type 0 = λ z. All (IsInReach c.args.graph.now.ops c.args.kept.now (get_or c.args.times.now c.args.number 0)) z in
    subst P (sym c.as_slice-ops.ensures) (subst Q (sym c.as_slice.ensures.items)
    (args_in_reach p c.args.last c.args.number c.index-ops-number.result c.requires.valid c.requires.timed c.requires.last at c.args.net.now c.args.kept.now c.requires.stage))

-- the last time at which the result is used
until_is : (k : ℕ) (ops xs : List Op) (times : List ℕ) (n : ℕ) → xs ≡ ops → n ≡ uses_until k xs times → n ≡ uses_until k ops times
until_is k ops xs times n e h = h ∙ ap (λ (z : List Op). uses_until k z times) e

pub results-requires-clause-last : goal.results-requires-clause-last
results-requires-clause-last c =
    let e = until_is c.args.number c.args.graph.now.ops c.as_slice-ops.result.now c.args.times.now c.last_use-until.result c.as_slice-ops.ensures c.last_use-until.ensures in
    let l = until_few (timetable_of c.args.shape c.args.graph.now c.args.times.now) c.args.last c.args.number c.requires.last c.requires.most in
    omega arith

pub results-requires-clause-typed : goal.results-requires-clause-typed
results-requires-clause-typed c =
    let at = at_number c.args.graph.now.ops c.as_slice-ops.result.now c.args.number c.index-ops-number.result c.as_slice-ops.ensures c.requires.within c.index-ops-number.is in
    (c.requires.valid.ops c.args.number c.index-ops-number.result at).typed

pub results-requires-clause-types : goal.results-requires-clause-types
results-requires-clause-types c =
    let p : Timetable = timetable_of c.args.shape c.args.graph.now c.args.times.now in
    let at = at_number c.args.graph.now.ops c.as_slice-ops.result.now c.args.number c.index-ops-number.result c.as_slice-ops.ensures c.requires.within c.index-ops-number.is in
    let s = supplies_at c.args.graph.now.ops c.as_slice-ops.result.now c.index-ops-number.result.args c.as_slice.result.now c.args.kept.now (get_or c.args.times.now c.args.number 0) _ _ c.in_ok-operands.operands.items
    c.as_slice-ops.ensures c.as_slice.ensures.items c.in_ok-operands.ensures in
    ap (map (λ (o : Operand). let y : Option Ty = Some o.ty in y)) c.deref.ensures.value
    ∙ supplied_types p c.args.last c.args.number c.index-ops-number.result c.requires.valid c.requires.timed c.requires.last at c.args.net.now c.arguments.new.net c.args.kept.now c.in_ok-operands.operands.items
    c.requires.stage s

pub returns : goal.returns
returns c =
    let p : Timetable = timetable_of c.args.shape c.args.graph.now c.args.times.now in
    let at = at_number c.args.graph.now.ops c.as_slice-ops.result.now c.args.number c.index-ops-number.result c.as_slice-ops.ensures c.requires.within c.index-ops-number.is in
    let s = supplies_at c.args.graph.now.ops c.as_slice-ops.result.now c.index-ops-number.result.args c.as_slice.result.now c.args.kept.now (get_or c.args.times.now c.args.number 0) _ _ c.in_ok-operands.operands.items
    c.as_slice-ops.ensures c.as_slice.ensures.items c.in_ok-operands.ensures in
    let R : List Operand → Type 0 = λ os. ResultsAs (role_of c.index-ops-number.result.kind) c.args.graph.now c.index-ops-number.result c.args.number os (get_or c.args.times.now c.args.number 0 + c.latency.result) c.last_use-until.result
    c.arguments.new.net c.results.new.net c.in_ok-wires.wires.items in
    let U : ℕ → Type 0 = λ n. ResultsAs (role_of c.index-ops-number.result.kind) c.args.graph.now c.index-ops-number.result c.args.number c.in_ok-operands.operands.items (get_or c.args.times.now c.args.number 0 + c.latency.result) n
    c.arguments.new.net c.results.new.net c.in_ok-wires.wires.items in
    let e = until_is c.args.number c.args.graph.now.ops c.as_slice-ops.result.now c.args.times.now c.last_use-until.result c.as_slice-ops.ensures c.last_use-until.ensures in
    operation_made p c.args.last c.args.number c.index-ops-number.result c.requires.valid c.requires.timed c.requires.last at c.requires.most c.args.net.now c.arguments.new.net c.results.new.net c.args.kept.now
    c.in_ok-operands.operands.items c.requires.stage s
    (record { from = get_or c.args.times.now c.args.number 0 + c.latency.result; wires = c.in_ok-wires.wires; operands = c.in_ok-operands.operands })
    (ap (λ n. get_or c.args.times.now c.args.number 0 + n) c.latency.ensures.value) refl (subst U e (subst R c.deref.ensures.value c.in_ok-wires.ensures))
