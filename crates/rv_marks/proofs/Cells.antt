-- Cells by stage, and what tests of them tell.
use Rattle.std.proofs.Common.{◌≡◌, ◌∙◌, refl, sym, ap, ℕ, zero, suc, ◌≤◌, List, [], ◌∷◌, length, Option, Some, None, Bool, true, false, arith}
use Rattle.std.specs.Prelude.{Decides, ◌&&◌, ◌||◌, not, ◌==◌, if◌then◌else◌, is_some, slice_get}
use Rattle.std.proofs.lemmas.Bool.Decides.{Decides-and, Decides-not, Decides-like, Decides-eqb}
use Rattle.rv_trace.specs.declared.row.Cell.{Cell}
use Rattle.rv_trace.specs.declared.row.Row.{Row}
use Rattle.rv_trace.specs.Trace.{has_serial}
use Rattle.rv_trace.specs.RowParts.{Name, name_of, stays, leaves, front}
use Rattle.rv_rows.specs.Kinds.{with_cell}
use Rattle.rv_marks.specs.Marks.{same_name, cell_of, lacks}

pub none_some : {A : Type 0} (x : A) → ◌≡◌ {A = Option A} None (Some x) → ⊥
none_some x e = cc

pub some_inside : {A : Type 0} (x y : A) → ◌≡◌ {A = Option A} (Some x) (Some y) → x ≡ y
some_inside x y e = cc

pub true_false : (b : Bool) → b ≡ true → b ≡ false → ⊥
true_false b t f = cc

-- cells of a list

pub with_cell_past : (stage : ℕ) (c : Option Cell) (cells : List (Option Cell)) → length cells ≤ stage → with_cell stage c cells ≡ cells
with_cell_past stage c [] le = refl
with_cell_past zero c (was ∷ rest) le = absurd (omega (arith, le))
with_cell_past (suc stage) c (was ∷ rest) le = ap (λ l. was ∷ l) (with_cell_past stage c rest (omega (arith, le)))

pub at_stage : (o : Option (Option Cell)) (c : Cell) → cell_of o ≡ Some c → o ≡ Some (Some c)
at_stage None c e = absurd (none_some c e)
at_stage (Some d) c e = ap (λ x. Some x) e

pub in_front : (cells : List (Option Cell)) (c : Cell) → slice_get cells 0 ≡ Some (Some c) → front cells ≡ Some c
in_front [] c e = absurd (none_some (Some c) e)
in_front (d ∷ rest) c e = some_inside d (Some c) e

pub front_is : (cells : List (Option Cell)) (c : Cell) → front cells ≡ Some c → slice_get cells 0 ≡ Some (Some c)
front_is [] c e = absurd (none_some c e)
front_is (d ∷ rest) c e = ap (λ x. Some x) e

-- names

pub same_name_tells : (n m : Option Name) → Decides (same_name n m) (n ≡ m)
same_name_tells None None = (λ x. refl, λ x. refl)
same_name_tells None (Some m) = (λ e. cc, λ e. absurd (none_some m e))
same_name_tells (Some n) None = (λ e. cc, λ e. absurd (none_some n (sym e)))
same_name_tells (Some n) (Some m) =
    Decides-like (((n.0 == m.0) && (n.1 == m.1)) && (n.2 == m.2)) whole parts (Decides-and ((n.0 == m.0) && (n.1 == m.1)) (n.2 == m.2) (Decides-and (n.0 == m.0) (n.1 == m.1) (Decides-eqb n.0 m.0) (Decides-eqb n.1 m.1)) (Decides-eqb n.2 m.2)) where
      three : (a b c d e f : ℕ) → a ≡ d → b ≡ e → c ≡ f → ◌≡◌ {A = Name} (a, b, c) (d, e, f)
      three a b c d e f p q r = cc

      whole : ((n.0 ≡ m.0) × (n.1 ≡ m.1)) × (n.2 ≡ m.2) → ◌≡◌ {A = Option Name} (Some n) (Some m)
      whole h = let first = h.0 in ap (λ x. Some x) (three n.0 n.1 n.2 m.0 m.1 m.2 first.0 first.1 h.1)

      parts : ◌≡◌ {A = Option Name} (Some n) (Some m) → ((n.0 ≡ m.0) × (n.1 ≡ m.1)) × (n.2 ≡ m.2)
      parts e = let q = some_inside n m e in ((ap (λ (x : Name). x.0) q, ap (λ (x : Name). x.1) q), ap (λ (x : Name). x.2) q)

pub same_stays : (row like : Row) → like.flushed ≡ row.flushed → (c : Option Cell) → stays like c ≡ stays row c
same_stays row like e None = refl
same_stays row like e (Some c) = ap (λ f. if is_some c.hold && not (has_serial f c.serial) then name_of (Some c) else None) e

pub same_leaves : (row like : Row) → like.flushed ≡ row.flushed → (c : Option Cell) → leaves like c ≡ leaves row c
same_leaves row like e None = refl
same_leaves row like e (Some c) = ap (λ f. if is_some c.hold || has_serial f c.serial then None else name_of (Some c)) e

-- a cell that leaves
pub left : (row : Row) (o : Option Cell) (m : Name) → leaves row o ≡ Some m → (c : Cell) × (o ≡ Some c) × (leaves row (Some c) ≡ name_of (Some c)) × (c.serial ≡ m.0)
left row None m e = absurd (none_some m e)
left row (Some c) m e = let x = by_case (is_some c.hold || has_serial row.flushed c.serial) e in (c, refl, x.0, x.1) where
  by_case : (b : Bool) → (if b then None else name_of (Some c)) ≡ Some m → ((if b then None else name_of (Some c)) ≡ name_of (Some c)) × (c.serial ≡ m.0)
  by_case true q = absurd (none_some m q)
  by_case false q = (refl, ap (λ (x : Name). x.0) (some_inside (c.serial, c.at, c.word) m q))

-- tests

pub implied : {P : Type 0} (b r : Bool) → Decides r P → Decides (not b || r) (b ≡ true → P)
implied true r d = (λ e x. d.0 e, λ f. d.1 (f refl))
implied false r d = (λ e x. absurd (true_false false x refl), λ f. refl)

pub is_itself : (b : Bool) → Decides b (b ≡ true)
is_itself b = (λ e. e, λ e. e)

pub lacks_tells : (s : ℕ) (cells : List (Option Cell)) → Decides (lacks s cells) ((stage : ℕ) (d : Cell) → slice_get cells stage ≡ Some (Some d) → d.serial ≡ s → ⊥)
lacks_tells s [] = (λ x stage d e q. none_some (Some d) e, λ x. refl)
lacks_tells s (None ∷ rest) = Decides-like (lacks s rest) more (λ f stage d e q. f (suc stage) d e q) (lacks_tells s rest) where
  more : ((stage : ℕ) (d : Cell) → slice_get rest stage ≡ Some (Some d) → d.serial ≡ s → ⊥) → (stage : ℕ) (d : Cell) → slice_get (None ∷ rest) stage ≡ Some (Some d) → d.serial ≡ s → ⊥
  more f zero d e q = none_some d (some_inside None (Some d) e)
  more f (suc stage) d e q = f stage d e q
lacks_tells s (Some x ∷ rest) =
    Decides-like (not (x.serial == s) && lacks s rest) more (λ f. (λ q. f 0 x refl q, λ stage d e q. f (suc stage) d e q)) (Decides-and (not (x.serial == s)) (lacks s rest) (Decides-not (x.serial == s) (Decides-eqb x.serial s)) (lacks_tells s rest)) where
      more : ¬ (x.serial ≡ s) × ((stage : ℕ) (d : Cell) → slice_get rest stage ≡ Some (Some d) → d.serial ≡ s → ⊥) → (stage : ℕ) (d : Cell) → slice_get (Some x ∷ rest) stage ≡ Some (Some d) → d.serial ≡ s → ⊥
      more h zero d e q = h.0 (ap (λ (c : Cell). c.serial) (some_inside x d (some_inside (Some x) (Some d) e)) ∙ q)
      more h (suc stage) d e q = h.1 stage d e q
