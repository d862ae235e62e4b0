-- Resolved behaviours of the code without where they lie in memory.
use Rattle.std.specs.Prelude.{ℕ, ℤ, List, [], ◌∷◌, map, get_or}
use Rattle.ix_bits.specs.declared.number.Ty.{Ty}
use Rattle.ix_bits.specs.declared.number.Bits.{Bits}
use Rattle.ix_bits.specs.Operators.{value_of}
use Rattle.ix_mean.specs.declared.resolved.ResolvedExpr as E
use Rattle.ix_mean.specs.declared.resolved.ResolvedExpr.{ResolvedExpr}
use Rattle.ix_mean.specs.declared.resolved.ResolvedStmt as S
use Rattle.ix_mean.specs.declared.resolved.ResolvedStmt.{ResolvedStmt}
use Rattle.ix_mean.specs.declared.resolved.Types.{Types}
use Rattle.ix_bits.specs.declared.number.Value.{Value}
use Rattle.ix_mean.specs.Core.{Expression, x_const, x_slot, x_read, x_load, x_one, x_cast, x_entry, x_two, x_choose, Statement, st_skip, st_then, st_set, st_write, st_if}
use Rattle.ix_mean.specs.Typing.{Frame}

abbrev pub raw_of : Bits → ℕ
raw_of b = b.raw

-- the patterns of a table, by its number
abbrev pub patterns_of : List (List Bits) → ℕ → List ℕ
patterns_of tables n = map raw_of (get_or tables n [])

abbrev pub view_expression : List (List Bits) → ResolvedExpr → Expression
view_expression ts (E.Const ty b) = x_const ty b.raw
view_expression ts (E.Slot n ty) = x_slot n ty
view_expression ts (E.Read k ty) = x_read k ty
view_expression ts (E.Load' ty p a) = x_load ty (view_expression ts a)
view_expression ts (E.One' k ty p a) = x_one k ty (view_expression ts a)
view_expression ts (E.Cast' ty p a) = x_cast ty (view_expression ts a)
view_expression ts (E.Entry' n ty p a) = x_entry n (patterns_of ts n) ty (view_expression ts a)
view_expression ts (E.Two' op ty p a q b) = x_two op ty (view_expression ts a) (view_expression ts b)
view_expression ts (E.Choose' ty p c q a r b) = x_choose ty (view_expression ts c) (view_expression ts a) (view_expression ts b)

-- a spawned body acts as any other
abbrev mutual
  pub view_statement : List (List Bits) → ResolvedStmt → Statement
  view_statement ts (S.Block' shape all) = view_row ts all
  view_statement ts (S.Set n ty e) = st_set n ty (view_expression ts e)
  view_statement ts (S.Write w) = st_write w.target w.ty (view_expression ts w.value) (view_expression ts w.address)
  view_statement ts (S.If' c p x q y) = st_if (view_expression ts c) (view_statement ts x) (view_statement ts y)
  view_statement ts (S.Spawn' p x) = view_statement ts x

  pub view_row : {m : _} → List (List Bits) → S.Row_of-ResolvedStmt m → Statement
  view_row ts S.end_of-ResolvedStmt = st_skip
  view_row ts (S.more_of-ResolvedStmt x rest) = st_then (view_statement ts x) (view_row ts rest)

abbrev pub view_statements : List (List Bits) → List ResolvedStmt → Statement
view_statements ts [] = st_skip
view_statements ts (x ∷ xs) = st_then (view_statement ts x) (view_statements ts xs)

-- the number of a value
abbrev pub seen : Value → ℤ
seen v = value_of v.ty v.bits.raw

abbrev pub type_seen : Value → Ty
type_seen v = v.ty

abbrev pub frame_of : Types → Frame
frame_of t = record { slots = t.slots; targets = t.targets }
