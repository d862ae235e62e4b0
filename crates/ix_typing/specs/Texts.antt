-- Registers, tables, encodings, instructions, always-blocks and whole texts (the rules and their order are this project's choice).
use Rattle.std.specs.Prelude.{ℕ, ◌+◌, ◌-◌, min, max, List, [], ◌∷◌, ◌++◌, length, Option, Some, None, Bool, true, false, ◌&&◌, ◌||◌, if◌then◌else◌, nat_eq, nat_le, nat_lt, Result, Ok, Err}
use Rattle.ix_bits.specs.declared.number.Ty.{Ty}
use Rattle.ix_bits.specs.NearTypes.{type_near, int_type}
use Rattle.ix_tree.specs.declared.token.Span.{Span}
use Rattle.ix_tree.specs.declared.expr.TypeKind.{TypeKind}
use Rattle.ix_tree.specs.declared.expr.TypeKind.TheVariants as K
use Rattle.ix_tree.specs.declared.section.PieceText.{PieceText}
use Rattle.ix_tree.specs.declared.section.PieceKind.{PieceKind}
use Rattle.ix_tree.specs.declared.section.PieceKind.TheVariants as P
use Rattle.ix_tree.specs.Trees.{ExprTree, StmtTree, StateTree, StateKindTree, k_register, k_table, InstrTree, BlockTree, SectionTree, SectionKindTree, k_states, k_instructions, k_always, TextTree}
use Rattle.ix_tree.specs.TypedTrees.{TypedExprTree, TypedStmtTree, TypedStateTree, TypedStateKindTree, tk_register, tk_table, TypedInstrTree, TypedBlockTree, TypedSectionTree, TypedSectionKindTree, tk_states, tk_instructions, tk_always, TypedTextTree}
use Rattle.ix_typing.specs.declared.role.Role.{Role}
use Rattle.ix_typing.specs.declared.role.Role.TheVariants as R
use Rattle.ix_typing.specs.declared.role.Field.{Field}
use Rattle.ix_typing.specs.declared.role.Named.{Named}
use Rattle.ix_typing.specs.declared.state.Body.{Body}
use Rattle.ix_typing.specs.declared.state.Body.TheVariants as B
use Rattle.ix_typing.specs.declared.state.Setting.{Setting}
use Rattle.ix_typing.specs.declared.state.State.{State}
use Rattle.ix_typing.specs.declared.state.Front.{Front}
use Rattle.ix_typing.specs.Names.{role_of, is_listed}
use Rattle.ix_typing.specs.Refusals.{Refusal, twice, range, rom, refuse, and_then, Step, each}
use Rattle.ix_typing.specs.Expressions.{judged, written}
use Rattle.ix_typing.specs.Assignments.{span_of, fits_into}
use Rattle.ix_typing.specs.Statements.{judged_stmt}

-- ---- registers and tables: each name stands for its first one

-- the written type, or that which is next to it where its width is 0 or over 128
abbrev pub nearest : TypeKind → Ty
nearest (K.Signed width) = type_near true width
nearest (K.Unsigned width) = type_near false width
nearest K.Int = int_type
nearest K.Bool = type_near false 1

abbrev pub role_by : ℕ → Ty → StateKindTree → Role
role_by k ty (k_register value) = R.Register k ty
role_by k ty (k_table len entries) = R.Table k (record { ty = ty; length = len })

abbrev pub unless_declared : Option Role → List Named → StateTree → List Named
unless_declared (Some role) names x = names
unless_declared None names x = names ++ record { name = x.name; role = role_by (length names) (nearest x.ty.kind) x.kind } ∷ []

abbrev pub declared_state : List Named → StateTree → List Named
declared_state names x = unless_declared (role_of names x.name) names x

abbrev pub declared_states : List Named → List StateTree → List Named
declared_states names [] = names
declared_states names (x ∷ xs) = declared_states (declared_state names x) xs

abbrev pub states_of : SectionKindTree → List StateTree
states_of (k_states xs) = xs
states_of (k_instructions xs) = []
states_of (k_always xs) = []

-- the registers and tables of all sections
abbrev pub globals : List Named → List SectionTree → List Named
globals names [] = names
globals names (x ∷ xs) = globals (declared_states names (states_of x.kind)) xs

-- the name stands for the register or table of this number
abbrev pub is_numbered : Option Role → ℕ → Bool
is_numbered (Some (R.Register n ty)) k = nat_eq n k
is_numbered (Some (R.Table n shape)) k = nat_eq n k
is_numbered _ k = false

-- ---- initial values and entries are constants that go into the type
abbrev pub constant_setting : Setting
constant_setting = record { body = B.Constant; in_spawn = false; below_if = false }

abbrev pub constant : Ty → ExprTree → State → Result (Step State TypedExprTree) Refusal
constant ty e st = and_then (judged constant_setting st e false) (λ v. and_then (fits_into (span_of e) ty v.ty) (λ t. Ok (record { item = v.tree; after = st })))

abbrev pub entries_of : Span → ℕ → ℕ → Result (Step State (List TypedExprTree)) Refusal → Result TypedStateKindTree Refusal
entries_of s count len r = and_then r (λ k. if nat_eq count len then Ok (tk_table len k.item) else refuse rom s)

abbrev pub state_kind : State → Span → Ty → StateKindTree → Result TypedStateKindTree Refusal
state_kind st s ty (k_register None) = Ok (tk_register None)
state_kind st s ty (k_register (Some e)) = and_then (constant ty e st) (λ k. Ok (tk_register (Some k.item)))
state_kind st s ty (k_table len entries) = entries_of s (length entries) len (each (constant ty) entries st)

-- a register or table: its type, Twice, then its value or its entries, then their count
abbrev pub judged_state : State → StateTree → ℕ → Result (Step ℕ TypedStateTree) Refusal
judged_state st x k =
    and_then (written x.ty.span x.ty.kind) (λ ty.
    if is_numbered (role_of st.names x.name) k
    then and_then (state_kind st x.span ty x.kind) (λ t. Ok (record { item = record { span = x.span; name = x.name; ty = x.ty; kind = t }; after = k + 1 }))
    else refuse twice x.span)

-- ---- fields of an encoding, whose pieces stand from bit 31 down

-- how many bits from hi to lo, and 128 for more
abbrev pub width_between : ℕ → ℕ → ℕ
width_between hi lo = min (hi - lo) 127 + 1

-- the place behind a piece; 32 for each past the word
abbrev pub moved : ℕ → ℕ → ℕ
moved at width = min (at + width) 32

-- bits hi to lo, which lie from `at` on, are among bits 4 to 0 of what lies from `base` on
abbrev pub stands : ℕ → ℕ → ℕ → ℕ → Bool
stands base at hi lo = nat_le hi 4 && nat_le lo hi && nat_eq at (base + lo)

-- a field with one more piece
abbrev pub grown : Field → ℕ → ℕ → ℕ → Field
grown f at hi lo =
    record {
      ty = type_near false (max f.ty.width (min hi 127 + 1));
      count = min (f.count + width_between hi lo) 6;
      is_rs1 = f.is_rs1 && stands 15 at hi lo;
      is_rs2 = f.is_rs2 && stands 20 at hi lo;
      is_rd = f.is_rd && stands 7 at hi lo;
    }

abbrev pub no_field : Field
no_field = record { ty = type_near false 1; count = 0; is_rs1 = true; is_rs2 = true; is_rd = true }

abbrev pub field_so_far : Option Role → Field
field_so_far (Some (R.Field f)) = f
field_so_far _ = no_field

-- the names with the fields of an encoding, and the place before its pieces
pub record Fields : Type 0 where
  pub names : List Named
  pub at : ℕ

abbrev pub with_piece : PieceKind → Fields → Fields
with_piece (P.Fixed b) f = record { names = f.names; at = moved f.at b.width }
with_piece (P.Field n hi lo) f =
    record {
      names = f.names ++ record { name = n; role = R.Field (grown (field_so_far (role_of f.names n)) f.at hi lo) } ∷ [];
      at = moved f.at (width_between hi lo);
    }

abbrev pub fields : List Named → List PieceText → Fields
fields names [] = record { names = names; at = 0 }
fields names (p ∷ ps) = with_piece p.kind (fields names ps)

-- a field has no name that a register or a table has, and no bit past 31; its low bit is not above its high one
abbrev pub field_fault : Span → Option Role → ℕ → ℕ → Option Refusal
field_fault s (Some role) hi lo = Some (record { rule = twice; at = s })
field_fault s None hi lo = if nat_lt 31 hi || nat_lt hi lo then Some (record { rule = range; at = s }) else None

abbrev pub piece_fault : List Named → Span → PieceKind → Option Refusal
piece_fault names s (P.Fixed b) = None
piece_fault names s (P.Field n hi lo) = field_fault s (role_of names n) hi lo

abbrev pub or_fault : Option Refusal → Option Refusal → Option Refusal
or_fault (Some r) y = Some r
or_fault None y = y

-- the first piece that breaks a rule
abbrev pub pieces_fault : List Named → List PieceText → Option Refusal
pieces_fault names [] = None
pieces_fault names (p ∷ ps) = or_fault (piece_fault names p.span p.kind) (pieces_fault names ps)

-- ---- instructions and always-blocks, which share one space of names
-- a behaviour, in which nothing is written yet
abbrev pub behaviour : Body → List Named → StmtTree → Result TypedStmtTree Refusal
behaviour body names x =
    and_then (judged_stmt x (record { body = body; in_spawn = false; below_if = false }) (record { names = names; written = []; accessed = false; spawned = false })) (λ k. Ok k.item)

abbrev pub unless : {A : Type 0} → Option Refusal → Result A Refusal → Result A Refusal
unless (Some r) x = Err r
unless None x = x

-- an instruction: Twice, then its pieces, then its behaviour
abbrev pub judged_instr : List Named → InstrTree → List (List ℕ) → Result (Step (List (List ℕ)) TypedInstrTree) Refusal
judged_instr names x seen =
    if is_listed seen x.name then refuse twice x.span
    else unless (pieces_fault names x.pieces)
    (and_then (behaviour B.Instruction (fields names x.pieces).names x.body) (λ t.
    Ok (record { item = record { span = x.span; name = x.name; pieces = x.pieces; body = t }; after = seen ++ x.name ∷ [] })))

abbrev pub judged_block : List Named → BlockTree → List (List ℕ) → Result (Step (List (List ℕ)) TypedBlockTree) Refusal
judged_block names x seen =
    if is_listed seen x.name then refuse twice x.span
    else and_then (behaviour B.Always names x.body) (λ t. Ok (record { item = record { span = x.span; name = x.name; body = t }; after = seen ++ x.name ∷ [] }))

-- ---- sections, of which there is one of a kind at most

abbrev pub judged_kind : State → Span → SectionKindTree → Front → Result (Step Front TypedSectionKindTree) Refusal
judged_kind st s (k_states xs) f =
    if f.states then refuse twice s
    else and_then (each (judged_state st) xs 0) (λ k. Ok (record { item = tk_states k.item; after = record { states = true; instructions = f.instructions; always = f.always; behaviours = f.behaviours } }))
judged_kind st s (k_instructions xs) f =
    if f.instructions then refuse twice s
    else and_then (each (judged_instr st.names) xs f.behaviours) (λ k. Ok (record { item = tk_instructions k.item; after = record { states = f.states; instructions = true; always = f.always; behaviours = k.after } }))
judged_kind st s (k_always xs) f =
    if f.always then refuse twice s
    else and_then (each (judged_block st.names) xs f.behaviours) (λ k. Ok (record { item = tk_always k.item; after = record { states = f.states; instructions = f.instructions; always = true; behaviours = k.after } }))

abbrev pub judged_section : State → SectionTree → Front → Result (Step Front TypedSectionTree) Refusal
judged_section st x f = and_then (judged_kind st x.span x.kind f) (λ k. Ok (record { item = record { span = x.span; kind = k.item }; after = k.after }))

abbrev pub no_front : Front
no_front = record { states = false; instructions = false; always = false; behaviours = [] }

abbrev pub global_state : List Named → State
global_state names = record { names = names; written = []; accessed = false; spawned = false }

-- the text with its types, or the first rule that it breaks, in the order of the source
abbrev pub judged_text : TextTree → Result TypedTextTree Refusal
judged_text t =
    and_then (each (judged_section (global_state (globals [] t.sections))) t.sections no_front) (λ k. Ok (record { span = t.span; name = t.name; sections = k.item }))
