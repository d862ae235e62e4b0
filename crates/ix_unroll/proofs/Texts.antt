-- The behaviours of a text, one after another.
use Rattle.std.proofs.Common.{◌≡◌, ℕ, ◌+◌, ◌<◌, List, [], ◌++◌, length, get_or, drop, map, refl, drop-cons, add-one}
use Rattle.ix_tree.specs.declared.section.Instr.{Instr}
use Rattle.ix_tree.specs.declared.section.BlockText.{BlockText}
use Rattle.ix_tree.specs.declared.section.Section.{Section}
use Rattle.ix_tree.specs.View.{view_instr, view_block, view_section}
use Rattle.ix_tree.specs.Rows.{view_whole}
use Rattle.ix_tree.specs.Unrolling.{met, met_instrs, met_blocks, met_kind, met_sections}

pub instrs_rest : (xs : List Instr) (k : ℕ) (x : Instr) → k < length xs → x ≡ get_or xs k x
    → met_instrs (map view_instr (drop k xs)) ≡ met (view_whole x.body) [] ++ met_instrs (map view_instr (drop (k + 1) xs))
instrs_rest xs k x h e = rw (add-one, drop-cons xs k x, ← e) refl

pub blocks_rest : (xs : List BlockText) (k : ℕ) (x : BlockText) → k < length xs → x ≡ get_or xs k x
    → met_blocks (map view_block (drop k xs)) ≡ met (view_whole x.body) [] ++ met_blocks (map view_block (drop (k + 1) xs))
blocks_rest xs k x h e = rw (add-one, drop-cons xs k x, ← e) refl

pub sections_rest : (xs : List Section) (k : ℕ) (x : Section) → k < length xs → x ≡ get_or xs k x
    → met_sections (map view_section (drop k xs)) ≡ met_kind (view_section x).kind ++ met_sections (map view_section (drop (k + 1) xs))
sections_rest xs k x h e = rw (add-one, drop-cons xs k x, ← e) refl
