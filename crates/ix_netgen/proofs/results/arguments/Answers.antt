use Rattle.std.proofs.Common.{◌≡◌, ◌+◌, List, [], ◌∷◌, ◌++◌, take, arith, ap, sym, ◌∙◌, subst}
use Rattle.std.proofs.lemmas.List.{take_more, take_all}
use Rattle.ix_graph.specs.declared.args.Arg.{Arg}
use Rattle.ix_cells.specs.declared.operand.Operand.{Operand}
use Rattle.ix_netgen.specs.KeptWires.{Supplies}
use Rattle.ix_netgen.proofs.Supplied.{supplies_none, supplies_next}
use Rattle.ix_netgen.proofs.results.arguments.Goals as goal

pub loop-arg-init : goal.loop-arg-init
loop-arg-init c =
    let S : List Operand → Type 0 = λ os. Supplies c.args.ops.now c.args.kept.now c.args.time [] c.args.net.now c.args.net.now os in
    subst S (sym c.new-operands.ensures.items) (supplies_none c.args.ops.now c.args.kept.now c.args.time c.args.net.now)

pub loop-arg-preserved : goal.loop-arg-preserved
loop-arg-preserved c =
    let more : take (c.loop-arg.arg-index + 1) c.args.args.now ≡ take c.loop-arg.arg-index c.args.args.now ++ c.arg-item.result ∷ [] =
    take_more c.args.args.now c.loop-arg.arg-index c.arg-item.result (omega arith) ∙ ap (λ (a : Arg). take c.loop-arg.arg-index c.args.args.now ++ a ∷ []) (sym c.arg-item.is) in
    let S : List Operand → Type 0 = λ os. Supplies c.args.ops.now c.args.kept.now c.args.time (take (c.loop-arg.arg-index + 1) c.args.args.now) c.args.net.now c.argument.new.net os in
    let T : List Arg → Type 0 = λ as'. Supplies c.args.ops.now c.args.kept.now c.args.time as' c.args.net.now c.argument.new.net (c.loop-arg.operands.items ++ c.in_ok-operand.operand ∷ []) in
    subst S (sym c.in_ok-push.ensures.items)
    (subst T (sym more)
    (supplies_next c.args.ops.now c.args.kept.now c.args.time (take c.loop-arg.arg-index c.args.args.now) c.arg-item.result c.args.net.now c.loop-arg.net c.argument.new.net
    c.loop-arg.operands.items c.in_ok-operand.operand c.loop-arg.invariant c.in_ok-operand.ensures))

pub returns : goal.returns
returns c =
    let whole : take c.loop-arg.arg-index c.args.args.now ≡ c.args.args.now = take_all c.loop-arg.arg-index c.args.args.now (omega arith) in
    let T : List Arg → Type 0 = λ as'. Supplies c.args.ops.now c.args.kept.now c.args.time as' c.args.net.now c.loop-arg.net c.loop-arg.operands.items in
    subst T whole c.loop-arg.invariant
