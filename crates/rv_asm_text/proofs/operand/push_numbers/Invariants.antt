use Rattle.std.proofs.Common.{◌≡◌, ◌++◌, [], drop, take, map}
use Rattle.ix_tree.specs.TypedView.{typed_whole}
use Rattle.rv_asm_text.specs.Operands.{numbers_from}
use Rattle.rv_asm_text.proofs.operand.push_numbers.Given as goal

abbrev pub invariant-loop-k : goal.invariant-loop-k
invariant-loop-k l = l.operands.items ++ numbers_from (map typed_whole l.body) (take l.k l.pieces) l.k (drop l.k l.pieces) ≡ l.fn.operands.items ++ numbers_from (map typed_whole l.body) [] 0 l.pieces
