-- Slots and targets that are set, and the statements of a block.
use Rattle.std.proofs.Common.{◌≡◌, ℕ, ◌+◌, ◌<◌, ◌≤◌, refl, sym, ap, subst, ◌∙◌, rules, Option, Some, ℤ, List, map, get_or, set, length, drop, drop-cons, add-one}
use Rattle.std.specs.Prelude.{option_map}
use Rattle.std.proofs.lemmas.List.{map-set, set-get_or, drop_all}
use Rattle.ix_bits.specs.declared.number.Ty.{Ty}
use Rattle.ix_bits.specs.declared.number.Bits.{Bits}
use Rattle.ix_mean.specs.declared.evaluate.State.{State}
use Rattle.ix_mean.specs.declared.evaluate.Written.{Written}
use Rattle.ix_bits.specs.declared.number.Value.{Value}
use Rattle.ix_mean.specs.declared.resolved.ResolvedStmt as S
use Rattle.ix_mean.specs.declared.resolved.ResolvedStmt.{ResolvedStmt, Row_of-ResolvedStmt, items-the_row-ResolvedStmt}
use Rattle.ix_mean.specs.declared.resolved.ResolvedStmt.TheViews.{the_lemmas}
use Rattle.ix_mean.specs.Core.{u1, Statement, st_then}
use Rattle.ix_mean.specs.Meaning.{Inputs, Write, Numbers, run}
use Rattle.ix_mean.specs.declared.resolved.ResolvedExpr.{ResolvedExpr}
use Rattle.ix_mean.specs.Typing.{Frame, IsTypedStatement}
use Rattle.ix_mean.specs.View.{seen, type_seen, view_statement, view_row, view_statements}
use Rattle.ix_mean.specs.Given.{write_seen, numbers_of, IsTypedStatementAt}

pub set_types : (xs : List Value) (k : ℕ) (v : Value) → get_or (map type_seen xs) k u1 ≡ type_seen v → map type_seen (set xs k v) ≡ map type_seen xs
set_types xs k v e = map-set type_seen xs k v ∙ ap (set (map type_seen xs) k) (sym e) ∙ set-get_or (map type_seen xs) k u1

pub set_numbers : (xs : List Value) (ts : List (Option Written)) (k : ℕ) (v : Value) (n : ℤ) → seen v ≡ n
    → let m : Numbers = record { slots = set (map seen xs) k n; targets = map (option_map write_seen) ts } in
    numbers_of (set xs k v) ts ≡ m
set_numbers xs ts k v n e =
    ap (λ (z : List ℤ). let m : Numbers = record { slots = z; targets = map (option_map write_seen) ts } in m) (map-set seen xs k v ∙ ap (set (map seen xs) k) e)

pub put_numbers : (xs : List Value) (ts : List (Option Written)) (k : ℕ) (w : Written) (n a : ℤ) → seen w.value ≡ n → seen w.address ≡ a
    → let m : Numbers = record { slots = map seen xs; targets = set (map (option_map write_seen) ts) k (Some (record { value = n; address = a })) } in
    numbers_of xs (set ts k (Some w)) ≡ m
put_numbers xs ts k w n a e f =
    ap (λ (z : List (Option Write)). let m : Numbers = record { slots = map seen xs; targets = z } in m)
    (map-set (option_map write_seen) ts k (Some w)
    ∙ ap (λ (z : ℤ). set (map (option_map write_seen) ts) k (Some (let y : Write = record { value = z; address = seen w.address } in y))) e
    ∙ ap (λ (z : ℤ). set (map (option_map write_seen) ts) k (Some (let y : Write = record { value = n; address = z } in y))) f)

pub set_typed : (ts : List (List Bits)) (f : Frame) (x : ResolvedStmt) (k : ℕ) (ty : Ty) (e : ResolvedExpr) → x ≡ S.Set k ty e → IsTypedStatement f (view_statement ts x) → get_or f.slots k u1 ≡ ty
set_typed ts f x k ty e i h = (subst (λ (z : ResolvedStmt). IsTypedStatement f (view_statement ts z)) i h).2

-- ---- blocks
pub row_views : (ts : List (List Bits)) (n : _) (r : Row_of-ResolvedStmt n) → view_row ts r ≡ view_statements ts (items-the_row-ResolvedStmt n r)
row_views ts n S.end_of-ResolvedStmt = refl
row_views ts n (S.more_of-ResolvedStmt {n = m} x rest) = ap (λ (r : Statement). st_then (view_statement ts x) r) (row_views ts m rest)

pub block_view : (ts : List (List Bits)) (all : List ResolvedStmt) → view_statement ts (S.Block all) ≡ view_statements ts all
block_view ts all = search (rules, the_lemmas, row_views)

pub block_is : (ts : List (List Bits)) (x : ResolvedStmt) (all items : List ResolvedStmt) → x ≡ S.Block all → items ≡ all → view_statement ts x ≡ view_statements ts items
block_is ts x all items e f = ap (view_statement ts) e ∙ block_view ts all ∙ ap (view_statements ts) (sym f)

pub block_typed : (ts : List (List Bits)) (s : State) (slots : List Value) (n : ℕ) (x : ResolvedStmt) (all items : List ResolvedStmt) → x ≡ S.Block all → items ≡ all
    → IsTypedStatementAt s slots n (view_statement ts x) → IsTypedStatementAt s slots n (view_statements ts items)
block_typed ts s slots n x all items e f h = subst (IsTypedStatementAt s slots n) (block_is ts x all items e f) h

pub all_rest : (ts : List (List Bits)) (xs : List ResolvedStmt) (k : ℕ) (x : ResolvedStmt) → k < length xs → x ≡ get_or xs k x → view_statements ts (drop k xs) ≡ st_then (view_statement ts x) (view_statements ts (drop (k + 1) xs))
all_rest ts xs k x h e = rw (add-one, drop-cons xs k x, ← e) refl

pub all_done : (ts : List (List Bits)) (i : Inputs) (xs : List ResolvedStmt) (k : ℕ) (s : Numbers) → length xs ≤ k → s ≡ run i (view_statements ts (drop k xs)) s
all_done ts i xs k s h = ap (λ (ys : List ResolvedStmt). run i (view_statements ts ys) s) (sym (drop_all k xs h))
