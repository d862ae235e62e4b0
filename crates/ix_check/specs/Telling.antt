-- What the checker answers of instructions, always-blocks, sections and texts, against what is judged.
use Rattle.std.specs.Prelude.{◌≡◌, ℕ, List, map, Option, Some, None, if◌then◌else◌, Result, Ok, Err, ◌⊎◌}
use Rattle.ix_tree.specs.declared.token.Span.{Span}
use Rattle.ix_tree.specs.declared.typed.TypedStmt.{TypedStmt}
use Rattle.ix_tree.specs.declared.typed.TypedInstr.{TypedInstr}
use Rattle.ix_tree.specs.declared.typed.TypedBlockText.{TypedBlockText}
use Rattle.ix_tree.specs.declared.typed.TypedSectionKind.{TypedSectionKind}
use Rattle.ix_tree.specs.declared.typed.TypedSection.{TypedSection}
use Rattle.ix_tree.specs.declared.typed.Typed.{Typed}
use Rattle.ix_tree.specs.Trees.{InstrTree, BlockTree}
use Rattle.ix_tree.specs.TypedTrees.{TypedStmtTree, TypedInstrTree, TypedBlockTree, TypedSectionKindTree, TypedSectionTree, TypedTextTree}
use Rattle.ix_tree.specs.TypedView.{typed_whole, typed_instr, typed_block, typed_section_kind, typed_section, typed_tree}
use Rattle.ix_typing.specs.declared.state.Front.{Front}
use Rattle.ix_typing.specs.Refusals.{Refusal, twice, Step}
use Rattle.ix_typing.specs.Names.{is_listed}
use Rattle.ix_check_parts.specs.declared.error.CheckErr.{CheckErr}
use Rattle.ix_check_parts.specs.declared.error.CheckErr.TheVariants.{Memory}
use Rattle.ix_check_parts.specs.StateTelling.{items_of}
use Rattle.ix_check_parts.specs.Telling.{Refuses}

-- a name that a behaviour before has is refused
abbrev pub name_fault : List (List ℕ) → Span → List ℕ → Option Refusal
name_fault seen s n = if is_listed seen n then Some (record { rule = twice; at = s }) else None

abbrev pub TellsBody : Result TypedStmt CheckErr → Result TypedStmtTree Refusal → Type 0
TellsBody (Ok t) r = r ≡ Ok (typed_whole t)
TellsBody (Err e) r = Refuses e r

-- the behaviour of an instruction that is judged, and the names of behaviours behind it
abbrev pub TellsInstrBody : Result TypedStmt CheckErr → InstrTree → List (List ℕ) → Result (Step (List (List ℕ)) TypedInstrTree) Refusal → Type 0
TellsInstrBody (Ok t) x after r = r ≡ Ok (record { item = record { span = x.span; name = x.name; pieces = x.pieces; body = typed_whole t }; after = after })
TellsInstrBody (Err e) x after r = Refuses e r

-- an instruction, and the names of behaviours behind it
abbrev pub TellsInstr : Result TypedInstr CheckErr → List (List ℕ) → Result (Step (List (List ℕ)) TypedInstrTree) Refusal → Type 0
TellsInstr (Ok t) after r = r ≡ Ok (record { item = typed_instr t; after = after })
TellsInstr (Err e) after r = Refuses e r

abbrev pub TellsInstrs : Result (List TypedInstr) CheckErr → List (List ℕ) → Result (Step (List (List ℕ)) (List TypedInstrTree)) Refusal → Type 0
TellsInstrs (Ok ts) after r = r ≡ Ok (record { item = map typed_instr ts; after = after })
TellsInstrs (Err e) after r = Refuses e r

-- the same of always-blocks
abbrev pub TellsBlockBody : Result TypedStmt CheckErr → BlockTree → List (List ℕ) → Result (Step (List (List ℕ)) TypedBlockTree) Refusal → Type 0
TellsBlockBody (Ok t) x after r = r ≡ Ok (record { item = record { span = x.span; name = x.name; body = typed_whole t }; after = after })
TellsBlockBody (Err e) x after r = Refuses e r

abbrev pub TellsBlock : Result TypedBlockText CheckErr → List (List ℕ) → Result (Step (List (List ℕ)) TypedBlockTree) Refusal → Type 0
TellsBlock (Ok t) after r = r ≡ Ok (record { item = typed_block t; after = after })
TellsBlock (Err e) after r = Refuses e r

abbrev pub TellsBlocks : Result (List TypedBlockText) CheckErr → List (List ℕ) → Result (Step (List (List ℕ)) (List TypedBlockTree)) Refusal → Type 0
TellsBlocks (Ok ts) after r = r ≡ Ok (record { item = map typed_block ts; after = after })
TellsBlocks (Err e) after r = Refuses e r

abbrev pub TellsKind : Result TypedSectionKind CheckErr → Front → Result (Step Front TypedSectionKindTree) Refusal → Type 0
TellsKind (Ok t) after r = r ≡ Ok (record { item = typed_section_kind t; after = after })
TellsKind (Err e) after r = Refuses e r

abbrev pub TellsSection : Result TypedSection CheckErr → Front → Result (Step Front TypedSectionTree) Refusal → Type 0
TellsSection (Ok t) after r = r ≡ Ok (record { item = typed_section t; after = after })
TellsSection (Err e) after r = Refuses e r

abbrev pub TellsSections : Result (List TypedSection) CheckErr → Result (Step Front (List TypedSectionTree)) Refusal → Type 0
TellsSections (Ok ts) r = items_of r ≡ Ok (map typed_section ts)
TellsSections (Err e) r = Refuses e r

abbrev pub TellsText : Result Typed CheckErr → Result TypedTextTree Refusal → Type 0
TellsText (Ok t) r = r ≡ Ok (typed_tree t)
TellsText (Err e) r = Refuses e r

-- The answer is this error only where P holds, and where P holds the answer is this error unless memory fails.
pub record ComesWhere (result : Result Typed CheckErr) (e : CheckErr) (P : Type 0) : Type 0 where
  pub only : result ≡ Err e → P
  pub whenever : P → (result ≡ Err e) ⊎ (result ≡ Err Memory)
