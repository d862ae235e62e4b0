use Rattle.std.proofs.Common.{◌≡◌, ◌++◌, drop, map}
use Rattle.ix_tree.specs.TypedView.{typed_whole}
use Rattle.rv_asm_text.specs.Operands.{register_from}
use Rattle.rv_asm_text.proofs.operand.push_register.Given as goal

abbrev pub invariant-loop-k : goal.invariant-loop-k
invariant-loop-k l = l.operands.items ++ register_from l.place (map typed_whole l.body) l.k (drop l.k l.pieces) ≡ l.fn.operands.items ++ register_from l.place (map typed_whole l.body) 0 l.pieces
