-- The targets that statements write, and those that spawned bodies in them write, by their numbers.
use Rattle.std.specs.Prelude.{ℕ, List, [], ◌∷◌, ◌++◌}
use Rattle.ix_tree.specs.TypedTrees.{TypedStmtTree, ts_block, ts_empty, ts_locals, ts_assign, ts_if, ts_if_else, ts_spawn, TypedRow, typed_end, typed_more}
use Rattle.ix_mean.specs.declared.resolved.ResolvedStmt as S
use Rattle.ix_mean.specs.declared.resolved.ResolvedStmt.{ResolvedStmt}
use Rattle.ix_mean.specs.Core.{Statement, st_skip, st_then, st_set, st_write, st_if}
use Rattle.ix_mean.specs.ByName.{Names}
use Rattle.ix_mean.specs.ResolvingStatements.{Scope, left}
use Rattle.ix_slots.specs.Made.{made_step}

-- the targets that a statement writes
abbrev pub written_by : Statement → List ℕ
written_by st_skip = []
written_by (st_then x y) = written_by x ++ written_by y
written_by (st_set k ty e) = []
written_by (st_write k ty e a) = k ∷ []
written_by (st_if c x y) = written_by x ++ written_by y

-- ---- statements of the code
abbrev mutual
  pub written_in : ResolvedStmt → List ℕ
  written_in (S.Block' shape all) = written_row all
  written_in (S.Set n ty e) = []
  written_in (S.Write w) = w.target ∷ []
  written_in (S.If' c p x q y) = written_in x ++ written_in y
  written_in (S.Spawn' p x) = written_in x

  pub written_row : {m : _} → S.Row_of-ResolvedStmt m → List ℕ
  written_row S.end_of-ResolvedStmt = []
  written_row (S.more_of-ResolvedStmt x rest) = written_in x ++ written_row rest

abbrev mutual
  pub spawned_in : ResolvedStmt → List ℕ
  spawned_in (S.Block' shape all) = spawned_row all
  spawned_in (S.Set n ty e) = []
  spawned_in (S.Write w) = []
  spawned_in (S.If' c p x q y) = spawned_in x ++ spawned_in y
  spawned_in (S.Spawn' p x) = written_in x

  pub spawned_row : {m : _} → S.Row_of-ResolvedStmt m → List ℕ
  spawned_row S.end_of-ResolvedStmt = []
  spawned_row (S.more_of-ResolvedStmt x rest) = spawned_in x ++ spawned_row rest

abbrev pub written_among : List ResolvedStmt → List ℕ
written_among [] = []
written_among (x ∷ xs) = written_in x ++ written_among xs

abbrev pub spawned_among : List ResolvedStmt → List ℕ
spawned_among [] = []
spawned_among (x ∷ xs) = spawned_in x ++ spawned_among xs

-- ---- statements of typed trees
abbrev mutual
  pub made_spawned : Names → TypedStmtTree → Scope → List ℕ
  made_spawned ns (ts_block s all) sc = made_row_spawned ns all sc
  made_spawned ns (ts_empty s) sc = []
  made_spawned ns (ts_locals s ty ds) sc = []
  made_spawned ns (ts_assign s a) sc = []
  made_spawned ns (ts_if s c x) sc = made_spawned ns x sc
  made_spawned ns (ts_if_else s c x y) sc = made_spawned ns x sc ++ made_spawned ns y (left sc (made_step ns x sc).scope)
  made_spawned ns (ts_spawn s x) sc = written_by (made_step ns x sc).body

  pub made_row_spawned : Names → TypedRow → Scope → List ℕ
  made_row_spawned ns typed_end sc = []
  made_row_spawned ns (typed_more x rest) sc = made_spawned ns x sc ++ made_row_spawned ns rest (made_step ns x sc).scope
