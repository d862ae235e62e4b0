use Rattle.std.proofs.Common.{◌≡◌, ◌∙◌, ap, map, List, ℕ, Bor, arith}
use Rattle.ix_tree.specs.declared.extension.Instruction.{Instruction}
use Rattle.ix_extension.specs.Extensions.{view_instruction}
use Rattle.rv_asm_text.specs.Lines.{lines_of}
use Rattle.rv_asm.specs.Labels.{found, place_of}
use Rattle.rv_asm.specs.Sources.{assembled_from}
use Rattle.rv_asm.proofs.Placing.{lines_few, assembled_same, only_memory}
use Rattle.rv_asm.proofs.source.assemble.Goals as goal

abbrev now_of : Bor (List ℕ) → List ℕ
now_of x = x.now

pub labels-requires : goal.labels-requires
labels-requires c =
    let few = lines_few c.args.bytes.now c.as_slice.result.now (ap (map now_of) c.as_slice.ensures.value ∙ c.in-Ok.ensures) in
    omega (arith, few, c.requires)

pub assemble_lines-requires : goal.assemble_lines-requires
assemble_lines-requires c =
    let few = lines_few c.args.bytes.now c.as_slice-2.result.now (ap (map now_of) c.as_slice-2.ensures.value ∙ c.in-Ok.ensures) in
    record { known = c.in-Ok-custom_forms.ensures; short = omega (arith, few, c.requires) }

pub returns-clause-only : goal.returns-clause-only
returns-clause-only c = λ words h.
    let own = map view_instruction c.args.extension.now.instructions in
    let places = found c.in-Ok-labels.labels in
    let here = map now_of c.as_slice-2.result.now in
    let there : map now_of c.as_slice.result.now ≡ lines_of c.args.bytes.now = ap (map now_of) c.as_slice.ensures.value ∙ c.in-Ok.ensures in
    let same_lines : here ≡ lines_of c.args.bytes.now = ap (map now_of) c.as_slice-2.ensures.value ∙ c.in-Ok.ensures in
    let a = ap (λ (is : List Instruction). assembled_from (map view_instruction is) places 0 0 here) c.as_slice-instructions.ensures in
    let b = assembled_same own places (place_of (map now_of c.as_slice.result.now)) c.in-Ok-labels.ensures 0 0 here in
    let d = ap (λ (ls : List (List ℕ)). assembled_from own (place_of ls) 0 0 here) there in
    let f = ap (assembled_from own (place_of (lines_of c.args.bytes.now)) 0 0) same_lines in
    only_memory (assembled_from (map view_instruction c.as_slice-instructions.result.now) places 0 0 here) c.in-Err.error words c.in-Err.ensures.refused (a ∙ b ∙ d ∙ f ∙ h)
