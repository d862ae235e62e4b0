use Rattle.std.proofs.Common.{[], ◌∷◌, map}
use Rattle.ix_graph.specs.declared.kind.Kind.TheVariants.{Not, Neg, Lnot, Range, Cast, Mux, Rom}
use Rattle.ix_graph.specs.Graphs.{arg_type}
use Rattle.ix_mean.specs.GraphValues.{kind_value}
use Rattle.ix_cells.proofs.Forms.{if_ok}
use Rattle.ix_cells.proofs.Dispatch.{on_operands}
use Rattle.ix_cells.proofs.kinds.other_operands.Goals as goal

pub returns-in-Not : goal.returns-in-Not
unfolding kind_value
returns-in-Not c =
    if_ok c.inverted.result _ _
    (λ r p. on_operands c.args.graph.now.tables c.args.op.now.kind Not (map (arg_type c.args.graph.now.ops) c.args.op.now.args) c.args.operands.now (c.one.result ∷ []) _ _ r c.args.op.now.ty
    c.in-Not.is c.one.ensures c.requires.types p) c.inverted.ensures

pub returns-in-Neg : goal.returns-in-Neg
unfolding kind_value
returns-in-Neg c =
    if_ok c.negated.result _ _
    (λ r p. on_operands c.args.graph.now.tables c.args.op.now.kind Neg (map (arg_type c.args.graph.now.ops) c.args.op.now.args) c.args.operands.now (c.one-in-Neg.result ∷ []) _ _ r c.args.op.now.ty
    c.in-Neg.is c.one-in-Neg.ensures c.requires.types p) c.negated.ensures

pub returns-in-Lnot : goal.returns-in-Lnot
unfolding kind_value
returns-in-Lnot c =
    if_ok c.none_true.result _ _
    (λ r p. on_operands c.args.graph.now.tables c.args.op.now.kind Lnot (map (arg_type c.args.graph.now.ops) c.args.op.now.args) c.args.operands.now (c.one-in-Lnot.result ∷ []) _ _ r c.args.op.now.ty
    c.in-Lnot.is c.one-in-Lnot.ensures c.requires.types p) c.none_true.ensures

pub returns-in-Range : goal.returns-in-Range
unfolding kind_value
returns-in-Range c =
    if_ok c.ranged.result _ _
    (λ r p. on_operands c.args.graph.now.tables c.args.op.now.kind (Range c.in-Range.hi c.in-Range.lo) (map (arg_type c.args.graph.now.ops) c.args.op.now.args) c.args.operands.now (c.one-in-Range.result ∷ []) _ _ r c.args.op.now.ty
    c.in-Range.is c.one-in-Range.ensures c.requires.types p) c.ranged.ensures

pub returns-in-Cast : goal.returns-in-Cast
unfolding kind_value
returns-in-Cast c =
    if_ok c.cast.result _ _
    (λ r p. on_operands c.args.graph.now.tables c.args.op.now.kind Cast (map (arg_type c.args.graph.now.ops) c.args.op.now.args) c.args.operands.now (c.one-in-Cast.result ∷ []) _ _ r c.args.op.now.ty
    c.in-Cast.is c.one-in-Cast.ensures c.requires.types p) c.cast.ensures

pub returns-in-Rom : goal.returns-in-Rom
unfolding kind_value
returns-in-Rom c =
    if_ok c.entry_of.result _ _
    (λ r p. on_operands c.args.graph.now.tables c.args.op.now.kind (Rom c.in-Rom.table) (map (arg_type c.args.graph.now.ops) c.args.op.now.args) c.args.operands.now (c.one-in-Rom.result ∷ []) _ _ r c.args.op.now.ty
    c.in-Rom.is c.one-in-Rom.ensures c.requires.types p) c.entry_of.ensures

pub returns-in-Mux : goal.returns-in-Mux
unfolding kind_value
returns-in-Mux c =
    if_ok c.choice.result _ _
    (λ r p. on_operands c.args.graph.now.tables c.args.op.now.kind Mux (map (arg_type c.args.graph.now.ops) c.args.op.now.args) c.args.operands.now (c.three.result.0 ∷ c.three.result.1 ∷ c.three.result.2 ∷ []) _ _ r c.args.op.now.ty
    c.in-Mux.is c.three.ensures c.requires.types p) c.choice.ensures
