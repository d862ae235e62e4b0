-- Whether a list of declarations or statements touches a name, one after another.
use Rattle.std.proofs.Common.{◌≡◌, ℕ, ◌+◌, ◌<◌, List, length, get_or, drop, map, ◌||◌, refl, ap, drop-cons, add-one}
use Rattle.ix_tree.specs.declared.stmt.Decl.{Decl}
use Rattle.ix_tree.specs.declared.stmt.Stmt.{Stmt}
use Rattle.ix_tree.specs.Lexing.{same_bytes}
use Rattle.ix_tree.specs.View.{view_decl}
use Rattle.ix_tree.specs.Rows.{view_whole, view_items}
use Rattle.ix_tree.specs.Unrolling.{touches, touches_row, declares}
use Rattle.ix_tree.proofs.Views.{items_rest}

-- the first declaration that is left, and those behind it
pub declares_rest : (n : List ℕ) (ds : List Decl) (k : ℕ) (d : Decl) → k < length ds → d ≡ get_or ds k d
    → declares n (map view_decl (drop k ds)) ≡ (same_bytes d.name n || declares n (map view_decl (drop (k + 1) ds)))
declares_rest n ds k d h e = rw (add-one, drop-cons ds k d, ← e) refl

pub touches_rest : (n : List ℕ) (xs : List Stmt) (k : ℕ) (x : Stmt) → k < length xs → x ≡ get_or xs k x
    → touches_row n (view_items (drop k xs)) ≡ (touches n (view_whole x) || touches_row n (view_items (drop (k + 1) xs)))
touches_rest n xs k x h e = ap (touches_row n) (items_rest xs k x h e)
