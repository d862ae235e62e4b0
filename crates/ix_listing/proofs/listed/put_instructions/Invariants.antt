use Rattle.std.proofs.Common.{◌≡◌, ◌++◌, take}
use Rattle.std.specs.Prelude.{string_bytes}
use Rattle.std.specs.List.{flat_map}
use Rattle.ix_extension.specs.Extensions.{view_instruction}
use Rattle.ix_listing.specs.Listing.{instruction_text}
use Rattle.ix_listing.proofs.listed.put_instructions.Given as goal

abbrev pub invariant-loop-instruction : goal.invariant-loop-instruction
invariant-loop-instruction l = record { so_far : string_bytes l.out ≡ string_bytes l.initial.out ++ flat_map (λ i. instruction_text (view_instruction i)) (take l.instruction-index l.instructions) }
