-- Typed registers, tables, instructions, always-blocks and texts, one case a form (the rules are this project's choice).
use Rattle.std.specs.Prelude.{◌≡◌, ℕ, ◌+◌, List, [], ◌∷◌, ◌++◌, length, map, Some, None, Bool, true, false}
use Rattle.ix_bits.specs.declared.number.Ty.{Ty}
use Rattle.ix_tree.specs.TypedTrees.{TypedExprTree, TypedStmtTree, TypedStateTree, TypedStateKindTree, tk_register, tk_table, TypedInstrTree, TypedBlockTree, TypedSectionTree, TypedSectionKindTree, tk_states, tk_instructions, tk_always, TypedTextTree, type_of, erased_section}
use Rattle.ix_typing.specs.declared.role.Named.{Named}
use Rattle.ix_typing.specs.declared.state.Body.{Body}
use Rattle.ix_typing.specs.declared.state.Body.TheVariants as B
use Rattle.ix_typing.specs.declared.state.Front.{Front}
use Rattle.ix_typing.specs.declared.state.State.{State}
use Rattle.ix_typing.specs.Names.{role_of, is_listed}
use Rattle.ix_typing.specs.Expressions.{embeds}
use Rattle.ix_typing.specs.Texts.{globals, is_numbered, constant_setting, fields, pieces_fault, global_state, no_front}
use Rattle.ix_typed.specs.Expressions.{IsWritten, IsExpr}
use Rattle.ix_typed.specs.Statements.{IsStmt}

-- a constant has no names in it, and goes into the type
abbrev pub IsConstant : State → Ty → TypedExprTree → Type 0
IsConstant st ty e = (c : Bool) × IsExpr constant_setting st false e c × (embeds (type_of e) ty ≡ true)

abbrev pub AreConstants : State → Ty → List TypedExprTree → Type 0
AreConstants st ty [] = Unit {0}
AreConstants st ty (e ∷ es) = IsConstant st ty e × AreConstants st ty es

-- a table has as many entries as its length says
abbrev pub IsStateKind : State → Ty → TypedStateKindTree → Type 0
IsStateKind st ty (tk_register None) = Unit {0}
IsStateKind st ty (tk_register (Some e)) = IsConstant st ty e
IsStateKind st ty (tk_table len es) = AreConstants st ty es × (length es ≡ len)

-- its name stands for it, as that of no register or table before it
abbrev pub IsState : State → TypedStateTree → ℕ → Type 0
IsState st x k = (is_numbered (role_of st.names x.name) k ≡ true) × ((ty : Ty) × IsWritten x.ty.kind ty × IsStateKind st ty x.kind)

abbrev pub AreStates : State → List TypedStateTree → ℕ → Type 0
AreStates st [] k = Unit {0}
AreStates st (x ∷ xs) k = IsState st x k × AreStates st xs (k + 1)

-- a behaviour begins with nothing written
abbrev pub IsBehaviour : Body → List Named → TypedStmtTree → Type 0
IsBehaviour body names x = (after : State) × IsStmt (record { body = body; in_spawn = false; below_if = false }) (global_state names) x after

-- no behaviour before it has its name, its pieces break no rule, and in its behaviour its fields are visible
abbrev pub IsInstr : List Named → TypedInstrTree → List (List ℕ) → Type 0
IsInstr names x seen = (is_listed seen x.name ≡ false) × (pieces_fault names x.pieces ≡ None) × IsBehaviour B.Instruction (fields names x.pieces).names x.body

abbrev pub AreInstrs : List Named → List TypedInstrTree → List (List ℕ) → List (List ℕ) → Type 0
AreInstrs names [] seen after = after ≡ seen
AreInstrs names (x ∷ xs) seen after = IsInstr names x seen × AreInstrs names xs (seen ++ x.name ∷ []) after

abbrev pub IsBlock : List Named → TypedBlockTree → List (List ℕ) → Type 0
IsBlock names x seen = (is_listed seen x.name ≡ false) × IsBehaviour B.Always names x.body

abbrev pub AreBlocks : List Named → List TypedBlockTree → List (List ℕ) → List (List ℕ) → Type 0
AreBlocks names [] seen after = after ≡ seen
AreBlocks names (x ∷ xs) seen after = IsBlock names x seen × AreBlocks names xs (seen ++ x.name ∷ []) after

-- there is one section of a kind at most
abbrev pub IsKind : State → TypedSectionKindTree → Front → Front → Type 0
IsKind st (tk_states xs) f after =
    (f.states ≡ false) × AreStates st xs 0 × (after ≡ record { states = true; instructions = f.instructions; always = f.always; behaviours = f.behaviours })
IsKind st (tk_instructions xs) f after =
    (f.instructions ≡ false) × ((seen : List (List ℕ)) × AreInstrs st.names xs f.behaviours seen
    × (after ≡ record { states = f.states; instructions = true; always = f.always; behaviours = seen }))
IsKind st (tk_always xs) f after =
    (f.always ≡ false) × ((seen : List (List ℕ)) × AreBlocks st.names xs f.behaviours seen
    × (after ≡ record { states = f.states; instructions = f.instructions; always = true; behaviours = seen }))

abbrev pub AreSections : State → List TypedSectionTree → Front → Type 0
AreSections st [] f = Unit {0}
AreSections st (x ∷ xs) f = (mid : Front) × IsKind st x.kind f mid × AreSections st xs mid

-- the text is typed: the registers and tables of all its sections are visible in the whole of it
abbrev pub IsText : TypedTextTree → Type 0
IsText u = AreSections (global_state (globals [] (map erased_section u.sections))) u.sections no_front
