use Rattle.std.proofs.Common.{◌≡◌, ◌++◌, length, map, drop}
use Rattle.ix_tree.specs.View.{view_instr}
use Rattle.ix_tree.specs.Unrolling.{alone_instr, met_instrs}
use Rattle.ix_unroll.proofs.Going.{Going}
use Rattle.ix_unroll.proofs.text.unrolled_instructions.Given as goal

abbrev pub invariant-loop-instr : goal.invariant-loop-instr
invariant-loop-instr l =
    let rest = drop (length l.yielded) l.fn.all in
    record {
      tree : map view_instr l.out.items ++ map (λ x. alone_instr (view_instr x)) rest ≡ map (λ x. alone_instr (view_instr x)) l.fn.all;
      marks : Going l.fn.room.statements (met_instrs (map view_instr l.fn.all)) (met_instrs (map view_instr rest)) l.room.statements;
    }
