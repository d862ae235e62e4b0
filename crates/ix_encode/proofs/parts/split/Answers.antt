use Rattle.std.proofs.Common.{refl}
use Rattle.ix_tree.specs.TypedView.{typed_state, typed_instr, typed_block}
use Rattle.ix_extension.specs.Extensions.{states_in, instrs_in, blocks_in}
use Rattle.ix_encode.proofs.Gathered.{section_push}
use Rattle.ix_encode.proofs.parts.split.Goals as goal

pub loop-section-preserved : goal.loop-section-preserved
loop-section-preserved c =
    let ys = c.loop-section.yielded in
    let x = c.in-Some.section in
    let i = c.loop-section.invariant in
    record {
      states = section_push typed_state (λ x. states_in x.kind) ys x c.loop-section.parts.states.items _ _ i.states c.in-Ok.ensures.states refl;
      instructions = section_push typed_instr (λ x. instrs_in x.kind) ys x c.loop-section.parts.instructions.items _ _ i.instructions c.in-Ok.ensures.instructions refl;
      blocks = section_push typed_block (λ x. blocks_in x.kind) ys x c.loop-section.parts.blocks.items _ _ i.blocks c.in-Ok.ensures.blocks refl;
    }
