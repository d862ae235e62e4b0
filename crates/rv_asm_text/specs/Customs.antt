-- The instructions of an extension by name, with the operands of each (this project's choice: a name is looked up line by line, the operands once).
use Rattle.std.specs.Prelude.{◌≡◌, ℕ, ◌+◌, List, [], ◌∷◌, Option, Some, None, option_map, if◌then◌else◌}
use Rattle.std.specs.BTreeMap.{BTreeMap, get_by}
use Rattle.std.specs.Cmp.Lexicographic.{slice_cmp}
use Rattle.std.specs.Ordering.{nat_cmp}
use denote.Ref.{Bor}
use Rattle.ix_tree.specs.Lexing.{same_bytes}
use Rattle.ix_extension.specs.Extensions.{InstructionTree}
use Rattle.rv_asm_text.specs.declared.custom.CustomForm.{CustomForm}
use Rattle.rv_asm_text.specs.declared.operand.Operand.{Operand}
use Rattle.rv_asm_text.specs.Operands.{operands_of}

-- the map of the code
abbrev pub Forms : Type 0
Forms = BTreeMap (Bor (List ℕ)) CustomForm

abbrev pub found : Forms → List ℕ → Option CustomForm
found forms name = get_by (λ (k : Bor (List ℕ)). slice_cmp nat_cmp name k.now) forms

-- the place of an instruction in its extension, and its operands
abbrev pub parts_of : CustomForm → ℕ × List Operand
parts_of form = (form.place, form.operands.items)

-- what the map has under a name
abbrev pub form_in : Forms → List ℕ → Option (ℕ × List Operand)
form_in forms name = option_map parts_of (found forms name)

-- the first of these instructions with a name, by its place, which is counted from k on, and its operands
abbrev pub form_from : ℕ → List ℕ → List InstructionTree → Option (ℕ × List Operand)
form_from k name [] = None
form_from k name (i ∷ is) = if same_bytes i.behaviour.name name then Some (k, operands_of i.behaviour.body i.pieces) else form_from (k + 1) name is

-- the map has under each name the first of these instructions with it
abbrev pub AreForms : List InstructionTree → Forms → Type 0
AreForms own forms = (name : List ℕ) → form_in forms name ≡ form_from 0 name own
