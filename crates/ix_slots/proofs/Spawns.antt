-- The targets of statements and of spawned bodies, of the code and of what they are seen as.
use Rattle.std.proofs.Common.{◌≡◌, ◌∙◌, sym, ap, refl, rules, ℕ, ◌+◌, ◌<◌, ◌≤◌, List, [], ◌∷◌, ◌++◌, append_assoc, drop, drop-cons, add-one, length, get_or}
use Rattle.std.proofs.lemmas.List.{drop_all, append-nil}
use Rattle.ix_bits.specs.declared.number.Bits.{Bits}
use Rattle.ix_tree.specs.declared.typed.TypedStmt.{TypedStmt}
use Rattle.ix_tree.specs.TypedView.{typed_whole, typed_items}
use Rattle.ix_mean.specs.declared.resolved.ResolvedStmt as S
use Rattle.ix_mean.specs.declared.resolved.ResolvedStmt.{ResolvedStmt, Row_of-ResolvedStmt, items-the_row-ResolvedStmt}
use Rattle.ix_mean.specs.declared.resolved.ResolvedStmt.TheViews.{the_lemmas}
use Rattle.ix_mean.specs.View.{view_statement, view_row}
use Rattle.ix_mean.specs.ByName.{Names}
use Rattle.ix_mean.specs.ResolvingStatements.{Scope}
use Rattle.ix_slots.specs.Made.{made_step}
use Rattle.ix_slots.specs.Spawned.{written_by, written_in, written_row, written_among, spawned_in, spawned_row, spawned_among, made_spawned, made_row_spawned}

mutual
  pub written_view : (ts : List (List Bits)) (x : ResolvedStmt) → written_in x ≡ written_by (view_statement ts x)
  written_view ts (S.Block' shape all) = written_row_view ts all
  written_view ts (S.Set n ty e) = refl
  written_view ts (S.Write w) = refl
  written_view ts (S.If' c p x q y) =
      ap (λ (z : List ℕ). z ++ written_in y) (written_view ts x) ∙ ap (λ (z : List ℕ). written_by (view_statement ts x) ++ z) (written_view ts y)
  written_view ts (S.Spawn' p x) = written_view ts x

  written_row_view : {m : _} → (ts : List (List Bits)) (r : Row_of-ResolvedStmt m) → written_row r ≡ written_by (view_row ts r)
  written_row_view ts S.end_of-ResolvedStmt = refl
  written_row_view ts (S.more_of-ResolvedStmt x rest) =
      ap (λ (z : List ℕ). z ++ written_row rest) (written_view ts x) ∙ ap (λ (z : List ℕ). written_by (view_statement ts x) ++ z) (written_row_view ts rest)

-- ---- blocks
spawned_rows : (n : _) (r : Row_of-ResolvedStmt n) → spawned_row r ≡ spawned_among (items-the_row-ResolvedStmt n r)
spawned_rows n S.end_of-ResolvedStmt = refl
spawned_rows n (S.more_of-ResolvedStmt {n = m} x rest) = ap (λ (z : List ℕ). spawned_in x ++ z) (spawned_rows m rest)

pub spawned_block : (all : List ResolvedStmt) → spawned_in (S.Block all) ≡ spawned_among all
spawned_block all = search (rules, the_lemmas, spawned_rows)

written_rows : (n : _) (r : Row_of-ResolvedStmt n) → written_row r ≡ written_among (items-the_row-ResolvedStmt n r)
written_rows n S.end_of-ResolvedStmt = refl
written_rows n (S.more_of-ResolvedStmt {n = m} x rest) = ap (λ (z : List ℕ). written_in x ++ z) (written_rows m rest)

pub written_block : (all : List ResolvedStmt) → written_in (S.Block all) ≡ written_among all
written_block all = search (rules, the_lemmas, written_rows)

-- ---- lists of statements
pub spawned_push : (xs : List ResolvedStmt) (x : ResolvedStmt) → spawned_among (xs ++ x ∷ []) ≡ spawned_among xs ++ spawned_in x
spawned_push [] x = append-nil (spawned_in x)
spawned_push (y ∷ ys) x = ap (λ (z : List ℕ). spawned_in y ++ z) (spawned_push ys x) ∙ sym (append_assoc (spawned_in y) (spawned_among ys) (spawned_in x))

-- one more statement
pub spawned_more : (ns : Names) (xs : List TypedStmt) (k : ℕ) (x : TypedStmt) (out : List ResolvedStmt) (y : ResolvedStmt) (sc mid : Scope) → k < length xs → x ≡ get_or xs k x
    → spawned_in y ≡ made_spawned ns (typed_whole x) sc → mid ≡ (made_step ns (typed_whole x) sc).scope
    → spawned_among (out ++ y ∷ []) ++ made_row_spawned ns (typed_items (drop (k + 1) xs)) mid ≡ spawned_among out ++ made_row_spawned ns (typed_items (drop k xs)) sc
spawned_more ns xs k x out y sc mid h i e f =
    let front : drop k xs ≡ x ∷ drop (k + 1) xs = rw (add-one, drop-cons xs k x, ← i) refl in
    let rest = typed_items (drop (k + 1) xs) in
    ap (λ (z : List ℕ). z ++ made_row_spawned ns rest mid) (spawned_push out y)
    ∙ append_assoc (spawned_among out) (spawned_in y) (made_row_spawned ns rest mid)
    ∙ ap (λ (z : List ℕ). spawned_among out ++ (z ++ made_row_spawned ns rest mid)) e
    ∙ ap (λ (z : Scope). spawned_among out ++ (made_spawned ns (typed_whole x) sc ++ made_row_spawned ns rest z)) f
    ∙ ap (λ (zs : List TypedStmt). spawned_among out ++ made_row_spawned ns (typed_items zs) sc) (sym front)

-- nothing is left
pub spawned_ended : (ns : Names) (xs : List TypedStmt) (k : ℕ) (out : List ResolvedStmt) (sc : Scope) (all : List ℕ) → length xs ≤ k
    → spawned_among out ++ made_row_spawned ns (typed_items (drop k xs)) sc ≡ all → spawned_among out ≡ all
spawned_ended ns xs k out sc all h e =
    let none = drop_all k xs h in
    sym (append-nil (spawned_among out)) ∙ ap (λ (zs : List TypedStmt). spawned_among out ++ made_row_spawned ns (typed_items zs) sc) (sym none) ∙ e
