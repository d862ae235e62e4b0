-- Instructions of an extension by name: the map is filled from the last to the first, and a name is found where the first of it stands.
use Rattle.std.proofs.Common.{◌≡◌, ◌∙◌, sym, ap, refl, ℕ, suc, ◌+◌, ◌<◌, List, [], ◌∷◌, length, map, get_or, Bool, true, false, cond, Option, Some, None, arith}
use Rattle.std.specs.Prelude.{slice_get, option_map, if◌then◌else◌}
use Rattle.std.specs.Str.{bytes_eq}
use Rattle.std.proofs.lemmas.List.{length-map}
use Rattle.std.proofs.lemmas.Option.{slice_get-map, slice_get-get_or, slice_get_within}
use Rattle.ix_tree.specs.declared.extension.Instruction.{Instruction}
use Rattle.ix_tree.specs.Lexing.{same_bytes}
use Rattle.ix_tree.specs.TypedView.{typed_whole}
use Rattle.ix_tree.proofs.Names.{same_is}
use Rattle.ix_extension.specs.Extensions.{InstructionTree, view_instruction}
use Rattle.rv_asm_text.specs.declared.custom.CustomForm.{CustomForm}
use Rattle.rv_asm_text.specs.declared.operand.Operand.{Operand}
use Rattle.rv_asm_text.specs.declared.verdict.Verdict.TheVariants.{Word}
use Rattle.rv_asm_text.specs.Operands.{operands_of}
use Rattle.rv_asm_text.specs.Filling.{filled, own_verdict, named_instruction, found_verdict}
use Rattle.rv_asm_text.specs.Customs.{Forms, found, parts_of, form_in, form_from, AreForms}

-- ---- filling the map
picked : (b : Bool) (form : CustomForm) (o : Option CustomForm) → option_map parts_of (cond b (Some form) o) ≡ (if b then Some (parts_of form) else option_map parts_of o)
picked true form o = refl
picked false form o = refl

-- the form of an instruction under its name
pub one_more : (m new : Forms) (key : List ℕ) (form : CustomForm) (x : Instruction) → ((q : List ℕ) → found new q ≡ cond (bytes_eq key q) (Some form) (found m q)) → key ≡ x.behaviour.name
    → form.operands.items ≡ operands_of (map typed_whole x.behaviour.body) x.pieces → (q : List ℕ)
    → form_in new q ≡ (if same_bytes x.behaviour.name q then Some (form.place, operands_of (map typed_whole x.behaviour.body) x.pieces) else form_in m q)
one_more m new key form x h e o q =
    ap (option_map parts_of) (h q)
    ∙ picked (bytes_eq key q) form (found m q)
    ∙ ap (λ (b : Bool). if b then Some (parts_of form) else form_in m q) (same_is key q)
    ∙ ap (λ (n : List ℕ). if same_bytes n q then Some (parts_of form) else form_in m q) e
    ∙ ap (λ (os : List Operand). if same_bytes x.behaviour.name q then Some (form.place, os) else form_in m q) o

-- the map has these instructions, whose places are counted from k on
abbrev pub FormsFrom : ℕ → List Instruction → Forms → Type 0
FormsFrom k xs m = (q : List ℕ) → form_in m q ≡ form_from k q (map view_instruction xs)

pub forms_more : (k : ℕ) (x : Instruction) (xs : List Instruction) (m new : Forms)
    → ((q : List ℕ) → form_in new q ≡ (if same_bytes x.behaviour.name q then Some (k, operands_of (map typed_whole x.behaviour.body) x.pieces) else form_in m q))
    → FormsFrom (k + 1) xs m → FormsFrom k (x ∷ xs) new
forms_more k x xs m new h g q =
    h q ∙ ap (λ (o : Option (ℕ × List Operand)). if same_bytes x.behaviour.name q then Some (k, operands_of (map typed_whole x.behaviour.body) x.pieces) else o) (g q)

-- ---- finding a name
none_from : (k : ℕ) (name : List ℕ) (own : List InstructionTree) → None ≡ form_from k name own → named_instruction name own ≡ None
none_from k name [] e = refl
none_from k name (i ∷ is) e = by_case (λ h. none_from (k + 1) name is h) (same_bytes i.behaviour.name name) e where
  by_case : (None ≡ form_from (k + 1) name is → named_instruction name is ≡ None) → (b : Bool) → None ≡ (if b then Some (k, operands_of i.behaviour.body i.pieces) else form_from (k + 1) name is)
      → (if b then Some i else named_instruction name is) ≡ None
  by_case rest true h = absurd cc
  by_case rest false h = rest h

-- no instruction has the name
pub none_named : (own : List InstructionTree) (forms : Forms) (name : List ℕ) → AreForms own forms → None ≡ found forms name → named_instruction name own ≡ None
none_named own forms name h e = none_from 0 name own (ap (option_map parts_of) e ∙ h name)

-- the first instruction with a name, where it stands and what its operands are
pub record IsNamed (k : ℕ) (name : List ℕ) (own : List InstructionTree) (place : ℕ) (operands : List Operand) : Type 0 where
  pub at : ℕ
  pub instruction : InstructionTree
  pub place_is : place ≡ k + at
  pub stands : slice_get own at ≡ Some instruction
  pub named : named_instruction name own ≡ Some instruction
  pub operands_are : operands ≡ operands_of instruction.behaviour.body instruction.pieces

abbrev one : ℕ → List Operand → Option (ℕ × List Operand)
one place operands = Some (place, operands)

abbrev pair_of : Option (ℕ × List Operand) → ℕ × List Operand
pair_of None = (0, [])
pair_of (Some p) = p

first_from : (k : ℕ) (name : List ℕ) (own : List InstructionTree) (place : ℕ) (operands : List Operand) → one place operands ≡ form_from k name own → IsNamed k name own place operands
first_from k name [] place operands e = absurd cc
first_from k name (i ∷ is) place operands e = by_case (λ h. first_from (k + 1) name is place operands h) (same_bytes i.behaviour.name name) refl e where
  here : same_bytes i.behaviour.name name ≡ true → one place operands ≡ Some (k, operands_of i.behaviour.body i.pieces) → IsNamed k name (i ∷ is) place operands
  here t h =
      let where_it_is : place ≡ k = ap (λ (o : Option (ℕ × List Operand)). (pair_of o).0) h in
      record {
        at = 0;
        instruction = i;
        place_is = omega (arith, where_it_is);
        stands = refl;
        named = ap (λ (b : Bool). if b then Some i else named_instruction name is) t;
        operands_are = ap (λ (o : Option (ℕ × List Operand)). (pair_of o).1) h;
      }

  further : same_bytes i.behaviour.name name ≡ false → IsNamed (k + 1) name is place operands → IsNamed k name (i ∷ is) place operands
  further t n =
      record {
        at = suc n.at;
        instruction = n.instruction;
        place_is = omega (arith, n.place_is);
        stands = n.stands;
        named = ap (λ (b : Bool). if b then Some i else named_instruction name is) t ∙ n.named;
        operands_are = n.operands_are;
      }

  by_case : (one place operands ≡ form_from (k + 1) name is → IsNamed (k + 1) name is place operands) → (b : Bool) → same_bytes i.behaviour.name name ≡ b
      → one place operands ≡ (if b then Some (k, operands_of i.behaviour.body i.pieces) else form_from (k + 1) name is) → IsNamed k name (i ∷ is) place operands
  by_case rest true t h = here t h
  by_case rest false t h = further t (rest h)

pub one_named : (own : List InstructionTree) (forms : Forms) (name : List ℕ) (form : CustomForm) → AreForms own forms → Some form ≡ found forms name → IsNamed 0 name own form.place form.operands.items
one_named own forms name form h e = first_from 0 name own form.place form.operands.items (ap (option_map parts_of) e ∙ h name)

same_tree : (x y : InstructionTree) → Some x ≡ Some y → x ≡ y
same_tree x y e = cc

module _ (xs : List Instruction) (name : List ℕ) (form : CustomForm) (n : IsNamed 0 name (map view_instruction xs) form.place form.operands.items) where
  stands : slice_get (map view_instruction xs) form.place ≡ Some n.instruction
  stands = let here : form.place ≡ n.at = omega (arith, n.place_is) in ap (slice_get (map view_instruction xs)) here ∙ n.stands

  pub place_within : form.place < length xs
  place_within =
      let within = slice_get_within (map view_instruction xs) form.place n.instruction stands in
      let size = length-map xs view_instruction in
      omega (arith, within, size)

  instruction_is : (d : Instruction) → view_instruction (get_or xs form.place d) ≡ n.instruction
  instruction_is d =
      same_tree (view_instruction (get_or xs form.place d)) n.instruction
      (sym (ap (option_map view_instruction) (slice_get-get_or xs form.place d place_within)) ∙ sym (slice_get-map view_instruction xs form.place) ∙ stands)

  -- what the operands make of the instruction is what is said of its name
  pub word_is : (d : Instruction) (texts : List (List ℕ))
      → filled (get_or xs form.place d).pieces (Word (get_or xs form.place d).matches) form.operands.items texts ≡ found_verdict texts (named_instruction name (map view_instruction xs))
  unfolding own_verdict
  word_is d texts =
      let x = get_or xs form.place d in
      let same = instruction_is d in
      ap (λ (os : List Operand). filled x.pieces (Word x.matches) os texts) (n.operands_are ∙ ap (λ (i : InstructionTree). operands_of i.behaviour.body i.pieces) (sym same))
      ∙ ap (λ (i : InstructionTree). own_verdict i texts) same
      ∙ ap (found_verdict texts) (sym n.named)
