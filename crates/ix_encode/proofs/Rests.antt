-- What is left of a list from an element on.
use Rattle.std.proofs.Common.{◌≡◌, ℕ, ◌+◌, ◌<◌, refl, ap, ◌∙◌, List, length, get_or, drop, drop-cons, add-one, ◌≤◌, cond, Some, None, ◌||◌}
use Rattle.std.proofs.lemmas.List.{get_or_default}
use Rattle.std.proofs.Math.ListN.{drop_of_length-le}
use Rattle.rv_isa.specs.Table.{pattern_of}
use Rattle.ix_tree.specs.declared.typed.TypedStmt.{TypedStmt}
use Rattle.ix_tree.specs.TypedView.{typed_items, typed_whole}
use Rattle.ix_bits.specs.BaseTable.{are_apart, base_patterns}
use Rattle.ix_extension.specs.Faults.{writes_pc, row_writes_pc, shared_word, word_of_both}

pub row_pc_rest : (xs : List TypedStmt) (k : ℕ) (x : TypedStmt) → k < length xs → x ≡ get_or xs k x
    → row_writes_pc (typed_items (drop k xs)) ≡ (writes_pc (typed_whole x) || row_writes_pc (typed_items (drop (k + 1) xs)))
row_pc_rest xs k x h e = rw (add-one, drop-cons xs k x, ← e) refl

pub word_rest : (p : ℕ × ℕ) (qs : List (ℕ × ℕ)) (k : ℕ) (q : ℕ × ℕ) → k < length qs → q ≡ get_or qs k q
    → shared_word p (drop k qs) ≡ cond (are_apart p q) (shared_word p (drop (k + 1) qs)) (Some (word_of_both p q))
word_rest p qs k q h e = rw (add-one, drop-cons qs k q, ← e) refl

-- the base rows, by their numbers
base_length : length base_patterns ≡ 40
unfolding base_patterns
base_length = refl

pub base_rest : (p : ℕ × ℕ) (row : ℕ) (q : ℕ × ℕ) → row < 40 → q ≡ pattern_of row
    → shared_word p (drop row base_patterns) ≡ cond (are_apart p q) (shared_word p (drop (row + 1) base_patterns)) (Some (word_of_both p q))
unfolding pattern_of
base_rest p row q h e =
    let m : row < length base_patterns = rw base_length h in
    word_rest p base_patterns row q m (e ∙ get_or_default base_patterns row (0, 0) q m)

-- past the last row
pub base_end : (p : ℕ × ℕ) (row : ℕ) → 40 ≤ row → shared_word p (drop row base_patterns) ≡ None
base_end p row h = ap (shared_word p) (drop_of_length-le base_patterns (rw base_length h))
