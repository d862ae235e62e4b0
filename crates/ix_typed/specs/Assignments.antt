-- Typed assignments, one case a place: what is written, and which value goes into it (the rules are this project's choice).
use Rattle.std.specs.Prelude.{◌≡◌, Option, Some, None, Bool, true, false}
use Rattle.ix_bits.specs.declared.number.Ty.{Ty}
use Rattle.ix_bits.specs.declared.operator.BinOp.{BinOp}
use Rattle.ix_tree.specs.TypedTrees.{TypedLvalueTree, tl_name, tl_pc, tl_x, tl_mem, TypedAssignTree, type_of, erased}
use Rattle.ix_typing.specs.declared.role.Role.{Role}
use Rattle.ix_typing.specs.declared.role.Role.TheVariants as R
use Rattle.ix_typing.specs.declared.state.Setting.{Setting}
use Rattle.ix_typing.specs.declared.state.State.{State}
use Rattle.ix_typing.specs.declared.targets.Target.{Target}
use Rattle.ix_typing.specs.declared.targets.Target.TheVariants as T
use Rattle.ix_typing.specs.Names.{role_of, is_among}
use Rattle.ix_typing.specs.Expressions.{u32, embeds, is_instruction, field_of, lies_in_destination, width_loaded}
use Rattle.ix_typing.specs.Assignments.{is_update, behind_write}
use Rattle.ix_typed.specs.Expressions.{IsLoaded, HasBinary, IsExpr}

-- a name is a local, or a custom register that no path wrote
abbrev pub IsAssigned : State → Option Role → Ty → Option Target → Type 0
IsAssigned st None ty w = ⊥
IsAssigned st (Some (R.Table k shape)) ty w = ⊥
IsAssigned st (Some (R.Field f)) ty w = ⊥
IsAssigned st (Some (R.Local t)) ty w = (ty ≡ t) × (w ≡ None)
IsAssigned st (Some (R.Register k t)) ty w = (is_among st.written (T.Register k) ≡ false) × (ty ≡ t) × (w ≡ Some (T.Register k))

-- memory that no path wrote, where MEM does not occur before and nothing is updated, in an instruction and in no `spawn`
abbrev pub IsStored : Setting → State → Bool → Bool → Type 0
IsStored g st updates a = (is_instruction g.body ≡ true) × (is_among st.written T.Memory ≡ false) × (a ≡ false) × (updates ≡ false) × (g.in_spawn ≡ false)

-- The place is typed: the type of what it holds, the target (none for a local), and whether MEM occurs up to its end.
abbrev pub IsPlace : Setting → State → Bool → TypedLvalueTree → Ty → Option Target → Bool → Type 0
IsPlace g st updates (tl_name n) ty w c = IsAssigned st (role_of st.names n) ty w × (c ≡ st.accessed)
IsPlace g st updates tl_pc ty w c = (is_among st.written T.Pc ≡ false) × (g.in_spawn ≡ false) × (ty ≡ u32) × (w ≡ Some T.Pc) × (c ≡ st.accessed)
IsPlace g st updates (tl_x i) ty w c =
    IsExpr g st st.accessed i c × (is_instruction g.body ≡ true) × (updates ≡ false) × (lies_in_destination (field_of st (erased i)) ≡ true)
    × (is_among st.written T.Rd ≡ false) × (ty ≡ u32) × (w ≡ Some T.Rd)
IsPlace g st updates (tl_mem x None) ty w c =
    (b : Bool) × IsExpr g st st.accessed x b × IsLoaded (Some 8) (type_of x) ty × IsStored g st updates b × (w ≡ Some T.Memory) × (c ≡ true)
IsPlace g st updates (tl_mem h (Some l)) ty w c =
    (b : Bool) × (d : Bool) × IsExpr g st st.accessed h b × IsExpr g st b l d × IsLoaded (width_loaded (erased h) (erased l)) (type_of l) ty
    × IsStored g st updates d × (w ≡ Some T.Memory) × (c ≡ true)

-- a value goes into a place of a type that holds its numbers; with an operator the result is cast, so it only has to have a type
abbrev pub GoesInto : Option BinOp → Ty → Ty → Type 0
GoesInto None place value = embeds value place ≡ true
GoesInto (Some op) place value = (ty : Ty) × HasBinary op place value ty

-- The assignment is typed, and the state behind it. The value is read before the place is written.
abbrev pub IsAssign : Setting → State → TypedAssignTree → State → Type 0
IsAssign g st x after =
    (ty : Ty) × (w : Option Target) × (b : Bool) × (c : Bool) × IsPlace g st (is_update x.op) x.target.tree ty w b × IsExpr g st b x.value c
    × GoesInto x.op ty (type_of x.value) × (after ≡ behind_write st w c)
