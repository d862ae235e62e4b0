use Rattle.std.proofs.Common.{◌≡◌, ◌++◌, length, map, drop}
use Rattle.ix_tree.specs.View.{view_section}
use Rattle.ix_tree.specs.Unrolling.{alone_section, met_sections}
use Rattle.ix_unroll.proofs.Going.{Going}
use Rattle.ix_unroll.proofs.text.unrolled_sections.Given as goal

abbrev pub invariant-loop-section : goal.invariant-loop-section
invariant-loop-section l =
    let rest = drop (length l.yielded) l.fn.sections in
    record {
      tree : map view_section l.out.items ++ map (λ x. alone_section (view_section x)) rest ≡ map (λ x. alone_section (view_section x)) l.fn.sections;
      marks : Going 0 (met_sections (map view_section l.fn.sections)) (met_sections (map view_section rest)) l.room.statements;
    }
