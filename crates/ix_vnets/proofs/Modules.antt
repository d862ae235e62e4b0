-- The lines of a module and modules one after another.
use Rattle.std.proofs.Common.{◌≡◌, inl, inr, ℕ, suc, ◌+◌, ◌<◌, List, [], ◌∷◌, ◌++◌, length, take, drop, get_or, map, refl, ap, sym, ◌∙◌, subst, arith, append_assoc}
use Rattle.std.specs.Prelude.{Contains}
use Rattle.std.specs.List.{AllZip, AllByRecursion}
use Rattle.std.proofs.lemmas.List.{length-map, append-nil}
use Rattle.ix_net.specs.declared.netlist.Net.{Net}
use Rattle.ix_net.specs.declared.netlist.Cell.{Cell}
use Rattle.ix_net.specs.declared.netlist.Bank.{Bank}
use Rattle.ix_verilog.specs.declared.source.Source.{Source}
use Rattle.ix_verilog.specs.Words.{Word}
use Rattle.ix_verilog.specs.Subset.{declared}
use Rattle.ix_verilog.proofs.Pairs.{head_case}
use Rattle.ix_vnets.specs.Names.{AllOnce, said, said_in}
use Rattle.ix_vnets.specs.WidthTables.{Map, AreApart, Holds}
use Rattle.ix_vnets.specs.Finished.{IsFinished}
use Rattle.ix_vnets.specs.Nets.{IsCellOf, IsBankOf, IsMadeOf}
use Rattle.ix_vnets.specs.Drives.{assigning, updating, drives_in, drives, DriveFits, IsFirstNot, IsMisfit}
use Rattle.ix_vnets.specs.Tables.{IsCellBy, IsBankBy, HasCell, HasBank}
use Rattle.ix_vnets.proofs.Listed.{zip_to, zip_some, each_map, each_both, first_mapped, first_behind, first_before, item_at, taken}
use Rattle.ix_vnets.proofs.Bridging.{cell_to, cell_from, bank_to, bank_from}

-- ---- one module
module _ (s : Source) (m : Map) (fin : IsFinished s) (once : AllOnce (said_in s)) (holds : AreApart (declared s) → Holds (declared s) m) where
  pub cells_are : (cells : List Cell) → AllZip (IsCellBy m) s.assigns cells → AllZip (IsCellOf s) s.assigns cells
  cells_are cells h = zip_to (IsCellBy m) (IsCellOf s) s.assigns cells (λ a i c r. cell_to s m fin once holds a i c r) h

  pub banks_are : (banks : List Bank) → AllZip (IsBankBy m) s.updates banks → AllZip (IsBankOf s) s.updates banks
  banks_are banks h = zip_to (IsBankBy m) (IsBankOf s) s.updates banks (λ u i b r. bank_to s m fin once holds u i b r) h

  pub no_cell_in : (k : ℕ) → IsFirstNot (HasCell m) s.assigns k → IsFirstNot DriveFits (drives_in s) k
  no_cell_in k f =
      first_mapped (assigning s) (HasCell m) DriveFits s.assigns (map (updating s) s.updates) k (λ a i h. (h.0, cell_to s m fin once holds a i h.0 h.1)) (λ a i h. (h.0, cell_from s m fin once holds a h.0 h.1)) f

  pub no_bank_in : (cells : List Cell) → AllZip (IsCellBy m) s.assigns cells → (k n : ℕ) → n ≡ length s.assigns + k → IsFirstNot (HasBank m) s.updates k → IsFirstNot DriveFits (drives_in s) n
  no_bank_in cells h k n e f =
      let g : IsFirstNot DriveFits (map (updating s) s.updates ++ []) k =
      first_mapped (updating s) (HasBank m) DriveFits s.updates [] k (λ u i r. (r.0, bank_to s m fin once holds u i r.0 r.1)) (λ u i r. (r.0, bank_from s m fin once holds u r.0 r.1)) f in
      let g' : IsFirstNot DriveFits (map (updating s) s.updates) k = subst (λ z. IsFirstNot DriveFits z k) (append-nil (map (updating s) s.updates)) g in
      first_behind DriveFits (map (assigning s) s.assigns) (map (updating s) s.updates) k n
      (each_map (assigning s) DriveFits s.assigns (zip_some (IsCellOf s) s.assigns cells (cells_are cells h))) (omega (arith, e, length-map s.assigns (assigning s))) g'

-- ---- modules one after another
made_fits : (s : Source) (net : Net) → IsMadeOf s net → AllByRecursion DriveFits (drives_in s)
made_fits s net h =
    each_both DriveFits (map (assigning s) s.assigns) (map (updating s) s.updates) (each_map (assigning s) DriveFits s.assigns (zip_some (IsCellOf s) s.assigns net.cells h.cells))
    (each_map (updating s) DriveFits s.updates (zip_some (IsBankOf s) s.updates net.banks h.banks))

pub all_fit : (ss : List Source) (nets : List Net) → AllZip IsMadeOf ss nets → AllByRecursion DriveFits (drives ss)
all_fit [] [] h = tt
all_fit [] (n ∷ nets) h = absurd h
all_fit (s ∷ ss) [] h = absurd h
all_fit (s ∷ ss) (n ∷ nets) h = each_both DriveFits (drives_in s) (drives ss) (made_fits s n h.0) (all_fit ss nets h.1)

pub misfit_at : (ss : List Source) (i : ℕ) (s : Source) (d : ℕ) (nets : List Net) → s ≡ get_or ss i s → i < length ss → AllZip IsMadeOf (take i ss) nets → IsFirstNot DriveFits (drives_in s) d → IsMisfit ss i d
misfit_at ss i s d nets e l h f =
    let t = item_at ss i s e l in
    record { front = take i ss; item = s; rest = drop (suc i) ss; are = t.0; number = sym (taken ss i (omega (arith, l))); before = all_fit (take i ss) nets h; here = f }

-- names of one module
once_left : (xss yss : List (List Word)) → AllOnce (xss ++ yss) → AllOnce xss
once_left [] yss h = tt
once_left (xs ∷ xss) yss h = (h.0, once_left xss yss h.1)

once_right : (xss yss : List (List Word)) → AllOnce (xss ++ yss) → AllOnce yss
once_right [] yss h = h
once_right (xs ∷ xss) yss h = once_right xss yss h.1

pub once_at : (before : List Word) (ss : List Source) → AllOnce (said before ss) → (s : Source) → Contains ss s → AllOnce (said_in s)
once_at before [] h s c = absurd (omega (arith, c.1))
once_at before (x ∷ ss) h s c = elim (head_case x ss s c) [
  | inl e ↦ subst (λ (z : Source). AllOnce (said_in z)) e (once_left (said_in x) (said (before ++ x.name ∷ []) ss) h.1)
  | inr k ↦ once_at (before ++ x.name ∷ []) ss (once_right (said_in x) (said (before ++ x.name ∷ []) ss) h.1) s k
]

pub here : {X : Type 0} (xs : List X) (i : ℕ) (x : X) → x ≡ get_or xs i x → i < length xs → Contains xs x
here xs i x e l = (i, l, sym e)

-- ---- all lines
flat_both : (xs ys : List Source) → drives (xs ++ ys) ≡ drives xs ++ drives ys
flat_both [] ys = refl
flat_both (x ∷ xs) ys = ap (λ z. drives_in x ++ z) (flat_both xs ys) ∙ sym (append_assoc (drives_in x) (drives xs) (drives ys))

front_taken : {X : Type 0} (xs ys : List X) → take (length xs) (xs ++ ys) ≡ xs
front_taken [] [] = refl
front_taken [] (y ∷ ys) = refl
front_taken (x ∷ xs) ys = ap (λ z. x ∷ z) (front_taken xs ys)

pub first_of_all : (ss : List Source) (i d : ℕ) → IsMisfit ss i d → IsFirstNot DriveFits (drives ss) (length (drives (take i ss)) + d)
first_of_all ss i d f =
    let front : take i ss ≡ f.front = ap (λ n. take n ss) f.number ∙ ap (take (length f.front)) f.are ∙ front_taken f.front (f.item ∷ f.rest) in
    let all : drives ss ≡ drives f.front ++ (drives_in f.item ++ drives f.rest) = ap drives f.are ∙ flat_both f.front (f.item ∷ f.rest) in
    let g : IsFirstNot DriveFits (drives f.front ++ (drives_in f.item ++ drives f.rest)) (length (drives f.front) + d) =
    first_behind DriveFits (drives f.front) (drives_in f.item ++ drives f.rest) d (length (drives f.front) + d) f.before refl (first_before DriveFits (drives_in f.item) (drives f.rest) d f.here) in
    subst (λ z. IsFirstNot DriveFits z (length (drives (take i ss)) + d)) (sym all) (subst (λ z. IsFirstNot DriveFits (drives f.front ++ (drives_in f.item ++ drives f.rest)) (length (drives z) + d)) (sym front) g)

none_breaks : {X : Type 0} (P : X → Type 0) (xs : List X) (k : ℕ) → AllByRecursion P xs → IsFirstNot P xs k → ⊥
none_breaks {X} P xs k h f = f.breaks (at f.front (subst (AllByRecursion P) f.are h))
  where
    at : (ys : List X) → AllByRecursion P (ys ++ f.item ∷ f.rest) → P f.item
    at [] t = t.0
    at (y ∷ ys) t = at ys t.1

pub no_misfit : (ss : List Source) (nets : List Net) (k : ℕ) → AllZip IsMadeOf ss nets → IsFirstNot DriveFits (drives ss) k → ⊥
no_misfit ss nets k h f = none_breaks DriveFits (drives ss) k (all_fit ss nets h) f
