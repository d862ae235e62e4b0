-- Assignments: the place that is written, then the value, then whether the value goes into the place (the rules and their order are this project's choice).
use Rattle.std.specs.Prelude.{ℕ, List, [], ◌∷◌, ◌++◌, Option, Some, None, Bool, true, false, not, ◌||◌, if◌then◌else◌, Result, Ok}
use Rattle.ix_bits.specs.declared.number.Ty.{Ty}
use Rattle.ix_bits.specs.declared.operator.BinOp.{BinOp}
use Rattle.ix_tree.specs.declared.token.Span.{Span}
use Rattle.ix_tree.specs.Trees.{ExprTree, e_literal, e_name, e_pc, e_x, e_mem, e_index, e_range, e_unary, e_cast, e_binary, e_choose, LvalueTree, l_name, l_pc, l_x, l_mem, AssignTree}
use Rattle.ix_tree.specs.TypedTrees.{TypedPlace, tl_name, tl_pc, tl_x, tl_mem, TypedAssignTree}
use Rattle.ix_typing.specs.declared.role.Role.{Role}
use Rattle.ix_typing.specs.declared.role.Role.TheVariants as R
use Rattle.ix_typing.specs.declared.state.Setting.{Setting}
use Rattle.ix_typing.specs.declared.state.State.{State}
use Rattle.ix_typing.specs.declared.targets.Target.{Target}
use Rattle.ix_typing.specs.declared.targets.Target.TheVariants as T
use Rattle.ix_typing.specs.Names.{role_of, is_among}
use Rattle.ix_typing.specs.Refusals.{Refusal, unknown, narrow, index, read_after_write, double_write, second_access, in_spawn, refuse, and_then, Step}
use Rattle.ix_typing.specs.Expressions.{Judged, judged, u32, embeds, binary_type, is_instruction, field_of, lies_in_destination, loaded_range, width_loaded}

-- a place that may be written: its type, the target (none for a local), and whether MEM occurs up to its end
pub record Placed : Type 0 where
  pub tree : TypedPlace
  pub ty : Ty
  pub writes : Option Target
  pub accessed : Bool

-- A target that is written: no path wrote it before. Where it is updated, it is read first.
abbrev pub writable : State → Bool → Span → Target → Ty → Result Ty Refusal
writable st updates s t ty =
    if is_among st.written t then (if updates then refuse read_after_write s else refuse double_write s)
    else Ok ty

-- the place of a name
abbrev pub named_place : State → Span → List ℕ → Option Target → Ty → Placed
named_place st s n writes ty = record { tree = record { span = s; tree = tl_name n }; ty = ty; writes = writes; accessed = st.accessed }

abbrev pub place_of_role : State → Bool → Span → List ℕ → Option Role → Result Placed Refusal
place_of_role st updates s n None = refuse unknown s
place_of_role st updates s n (Some (R.Table k shape)) = refuse unknown s
place_of_role st updates s n (Some (R.Field f)) = refuse unknown s
place_of_role st updates s n (Some (R.Local ty)) = Ok (named_place st s n None ty)
place_of_role st updates s n (Some (R.Register k ty)) = and_then (writable st updates s (T.Register k) ty) (λ t. Ok (named_place st s n (Some (T.Register k)) t))

abbrev pub pc_place : Setting → State → Bool → Span → Result Placed Refusal
pc_place g st updates s =
    and_then (writable st updates s T.Pc u32) (λ ty.
    if g.in_spawn then refuse in_spawn s
    else Ok (record { tree = record { span = s; tree = tl_pc }; ty = ty; writes = Some T.Pc; accessed = st.accessed }))

-- `X[i]`: a field in the place of rd, and never updated
abbrev pub x_place : Setting → State → Bool → Span → ExprTree → Result Judged Refusal → Result Placed Refusal
x_place g st updates s i r =
    and_then r (λ j.
    if not (is_instruction g.body) || updates || not (lies_in_destination (field_of st i)) then refuse index s
    else if is_among st.written T.Rd then refuse double_write s
    else Ok (record { tree = record { span = s; tree = tl_x j.tree }; ty = u32; writes = Some T.Rd; accessed = j.accessed }))

-- memory is written once on a path, occurs once in a behaviour, and in no `spawn`
abbrev pub stored : Setting → State → Bool → Bool → Span → Ty → Result Ty Refusal
stored g st updates accessed s ty =
    if is_among st.written T.Memory then refuse double_write s
    else if accessed || updates then refuse second_access s
    else if g.in_spawn then refuse in_spawn s
    else Ok ty

abbrev pub stored_type : Setting → State → Bool → Bool → Span → Option ℕ → Ty → Result Ty Refusal
stored_type g st updates accessed s width at =
    if not (is_instruction g.body) then refuse index s
    else and_then (loaded_range s width at) (λ ty. stored g st updates accessed s ty)

abbrev pub byte_place : Setting → State → Bool → Span → Result Judged Refusal → Result Placed Refusal
byte_place g st updates s r =
    and_then r (λ j. and_then (stored_type g st updates j.accessed s (Some 8) j.ty) (λ ty.
    Ok (record { tree = record { span = s; tree = tl_mem j.tree None }; ty = ty; writes = Some T.Memory; accessed = true })))

abbrev pub word_place : Setting → State → Bool → Span → ExprTree → ExprTree → Judged → Result Judged Refusal → Result Placed Refusal
word_place g st updates s h l x r =
    and_then r (λ j. and_then (stored_type g st updates j.accessed s (width_loaded h l) j.ty) (λ ty.
    Ok (record { tree = record { span = s; tree = tl_mem x.tree (Some j.tree) }; ty = ty; writes = Some T.Memory; accessed = true })))

-- the place that an assignment writes: its indices are judged before it
abbrev pub placed : Setting → State → Bool → Span → LvalueTree → Result Placed Refusal
placed g st updates s (l_name n) = place_of_role st updates s n (role_of st.names n)
placed g st updates s l_pc = pc_place g st updates s
placed g st updates s (l_x i) = x_place g st updates s i (judged g st i st.accessed)
placed g st updates s (l_mem a None) = byte_place g st updates s (judged g st a st.accessed)
placed g st updates s (l_mem h (Some l)) = and_then (judged g st h st.accessed) (λ x. word_place g st updates s h l x (judged g st l x.accessed))

-- the place of an expression in the text
abbrev pub span_of : ExprTree → Span
span_of (e_literal s ty b) = s
span_of (e_name s n) = s
span_of (e_pc s) = s
span_of (e_x s) = s
span_of (e_mem s) = s
span_of (e_index s x i) = s
span_of (e_range s x h l) = s
span_of (e_unary s op x) = s
span_of (e_cast s to x) = s
span_of (e_binary s op x y) = s
span_of (e_choose s c x y) = s

-- a value of one type in a place of another: Narrow at the value
abbrev pub fits_into : Span → Ty → Ty → Result Ty Refusal
fits_into at place value = if embeds value place then Ok place else refuse narrow at

-- with an operator the result is cast, so it only has to have a type
abbrev pub goes_into : Span → Option BinOp → Span → Ty → Ty → Result Ty Refusal
goes_into s None at place value = fits_into at place value
goes_into s (Some op) at place value = and_then (binary_type s op place value) (λ t. Ok place)

abbrev pub is_update : Option BinOp → Bool
is_update None = false
is_update (Some op) = true

abbrev pub with_write : List Target → Option Target → List Target
with_write ts None = ts
with_write ts (Some t) = ts ++ t ∷ []

abbrev pub behind_write : State → Option Target → Bool → State
behind_write st t accessed = record { names = st.names; written = with_write st.written t; accessed = accessed; spawned = st.spawned }

abbrev pub assigned : State → Span → Option BinOp → Span → Placed → Result Judged Refusal → Result (Step State TypedAssignTree) Refusal
assigned st s op at p r =
    and_then r (λ v. and_then (goes_into s op at p.ty v.ty) (λ t.
    Ok (record { item = record { span = s; target = p.tree; op = op; value = v.tree }; after = behind_write st p.writes v.accessed })))

-- the value is read before the place is written
abbrev pub judged_assign : Setting → AssignTree → State → Result (Step State TypedAssignTree) Refusal
judged_assign g a st =
    and_then (placed g st (is_update a.op) a.target.span a.target.tree) (λ p. assigned st a.span a.op (span_of a.value) p (judged g st a.value p.accessed))
