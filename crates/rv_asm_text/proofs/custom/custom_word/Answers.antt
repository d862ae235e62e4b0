use Rattle.std.proofs.Common.{◌≡◌, ◌∙◌, sym, ap, map, List, ℕ, Some, Bor, arith}
use Rattle.std.specs.Prelude.{option_map}
use Rattle.ix_tree.specs.declared.extension.Instruction.{Instruction}
use Rattle.ix_tree.specs.declared.extension.Piece.{Piece}
use Rattle.ix_extension.specs.Extensions.{view_instruction}
use Rattle.rv_asm_text.specs.declared.custom.CustomForm.{CustomForm}
use Rattle.rv_asm_text.specs.declared.operand.Operand.{Operand}
use Rattle.rv_asm_text.specs.declared.verdict.Verdict.TheVariants.{Word}
use Rattle.rv_asm_text.specs.Filling.{filled, found_verdict}
use Rattle.rv_asm_text.specs.Customs.{found}
use Rattle.rv_asm_text.proofs.Customs.{none_named, one_named, place_within, word_is}
use Rattle.rv_asm_text.proofs.custom.custom_word.Goals as goal

pub prove-unreachable-requires : goal.prove-unreachable-requires
prove-unreachable-requires c =
    let xs = c.args.instructions.now in
    let form = c.in-Some.form.now in
    let e : Some form ≡ found c.args.forms.now c.args.name.now = sym (ap (option_map (λ (f : Bor CustomForm). f.now)) c.in-Some.is) ∙ c.form.ensures in
    let within = place_within xs c.args.name.now form (one_named (map view_instruction xs) c.args.forms.now c.args.name.now form c.requires e) in
    omega (arith, c.if-prove.true, within)

pub returns-in-None : goal.returns-in-None
returns-in-None c =
    let own = map view_instruction c.args.instructions.now in
    sym (ap (found_verdict (map (λ (x : Bor (List ℕ)). x.now) c.args.texts.now)) (none_named own c.args.forms.now c.args.name.now c.requires c.in-None.ensures))

pub returns-in-Some : goal.returns-in-Some
returns-in-Some c =
    let xs = c.args.instructions.now in
    let form = c.in-Some.form.now in
    let x = c.index-instructions-form.result in
    let texts = map (λ (t : Bor (List ℕ)). t.now) c.args.texts.now in
    let e : Some form ≡ found c.args.forms.now c.args.name.now = sym (ap (option_map (λ (f : Bor CustomForm). f.now)) c.in-Some.is) ∙ c.form.ensures in
    let named = one_named (map view_instruction xs) c.args.forms.now c.args.name.now form c.requires e in
    c.filled.ensures
    ∙ ap (λ (ps : List Piece). filled ps (Word x.matches) c.as_slice-in-Some.result.now texts) c.as_slice.ensures
    ∙ ap (λ (os : List Operand). filled x.pieces (Word x.matches) os texts) c.as_slice-in-Some.ensures.value
    ∙ ap (λ (y : Instruction). filled y.pieces (Word y.matches) form.operands.items texts) c.index-instructions-form.is
    ∙ word_is xs c.args.name.now form named x texts
