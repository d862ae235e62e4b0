use Rattle.std.proofs.Common.{arith}
use Rattle.std.specs.Prelude.{string_bytes}
use Rattle.ix_extension.specs.Extensions.{view_instruction}
use Rattle.ix_listing.specs.Listing.{instruction_text}
use Rattle.ix_listing.proofs.Texts.{text_next}
use Rattle.ix_listing.proofs.listed.put_instructions.Goals as goal

pub loop-instruction-preserved : goal.loop-instruction-preserved
loop-instruction-preserved c = record {
  so_far = text_next (λ i. instruction_text (view_instruction i)) c.args.instructions.now c.loop-instruction.instruction-index c.instruction-item.result (string_bytes c.args.out.now) (string_bytes c.loop-instruction.out) (string_bytes c.put_instruction.new.out)
      c.loop-instruction-test.true c.instruction-item.is c.loop-instruction.invariant.so_far c.in_ok-put_instruction.ensures;
}
