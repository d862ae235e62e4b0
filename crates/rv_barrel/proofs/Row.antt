-- What a row shows of a hart.
use Rattle.std.proofs.Common.{◌≡◌, ◌∙◌, refl, sym, ap, subst, ℕ, zero, suc, ◌+◌, ◌-◌, ◌<◌, ◌≤◌, List, [], ◌∷◌, ◌++◌, map, length, take, get_or, reverse, Option, Some, None, arith}
use Rattle.std.specs.Prelude.{replicate, slice_get, option_map}
use Rattle.std.proofs.Math.ListN.{set}
use Rattle.std.proofs.lemmas.Option.{none-some}
use Rattle.std.proofs.lemmas.List.{reverse-append}
use Rattle.ix_eval.specs.Tables.{table}
use Rattle.rv_harts.specs.declared.event.EventAt.{EventAt}
use Rattle.rv_harts.specs.declared.row.BarrelCell.{BarrelCell}
use Rattle.rv_harts.specs.declared.row.Turn.{Turn}
use Rattle.rv_harts.specs.Events.{standing}
use Rattle.rv_harts.specs.Harts.{Fetched}
use Rattle.rv_harts.specs.HartRows.{cell_with, turn_at, retired_of}
use Rattle.rv_hart_runs.specs.HartRuns.{IsGoingOn}
use Rattle.rv_holds.specs.Tokens.{commit_in}
use Rattle.rv_lawful.specs.Settings.{Setting}
use Rattle.rv_seq.specs.declared.answer.StepAnswer.{StepAnswer}
use Rattle.rv_seq.specs.declared.answer.StepAnswer.TheVariants.{Done}
use Rattle.rv_seq.specs.declared.commit.Commit.{Commit}
use Rattle.rv_past.specs.declared.step.Step.{Step}
use Rattle.rv_tried.specs.Parts.{shown}
use Rattle.rv_barrel.specs.declared.cell.InFlight.{InFlight}
use Rattle.rv_barrel.specs.Cells.{Slots, count, fetched_at, fetched_of, AreAsked}
use Rattle.rv_barrel.specs.Moving.{fetched_in}
use Rattle.rv_barrel.specs.Showing.{cell_from, cells_from, serials_of, retired_by, step_by, answer_by}
use Rattle.rv_barrel.specs.Turning.{IsStepAt, IsTriedAt, AreTried}
use Rattle.rv_barrel.proofs.Views.{unsome, none_first, last_slot}

-- Cells

pub table_same : {A : Type 0} (f g : ℕ → A) (n : ℕ) → ((r : ℕ) → f r ≡ g r) → table f n ≡ table g n
table_same f g zero e = refl
table_same {A} f g (suc n) e = ap (λ (a : A). a ∷ table (λ r. f (suc r)) n) (e 0) ∙ ap (λ (l : List A). g 0 ∷ l) (table_same (λ r. f (suc r)) (λ r. g (suc r)) n (λ r. e (suc r)))

cell_is : (hart : ℕ) (ev : Option EventAt) (stage q : ℕ) (s : Option InFlight) → cell_from hart (turn_at stage ev) s ≡ cell_with hart (turn_at stage ev) (Some (fetched_in q s))
cell_is hart ev stage q None = refl
cell_is hart ev stage q (Some c) = refl

abbrev cell_there : ℕ → Option EventAt → List (Option Fetched) → ℕ → ℕ → Option BarrelCell
cell_there hart ev fs stage r = cell_with hart (turn_at (stage + r) ev) (slice_get fs r)

no_cells : (hart : ℕ) (ev : Option EventAt) (stage m : ℕ) → ◌≡◌ {A = List (Option BarrelCell)} (replicate m None) (table (cell_there hart ev [] stage) m)
no_cells hart ev stage zero = refl
no_cells hart ev stage (suc m) = ap (λ (l : List (Option BarrelCell)). None ∷ l) (no_cells hart ev (suc stage) m)

pub cells_are : (hart : ℕ) (ev : Option EventAt) (q stage m : ℕ) (s : Slots) → length s ≤ m → cells_from hart ev stage s ++ replicate (m - length s) None ≡ table (cell_there hart ev (fetched_of q s) stage) m
cells_are hart ev q stage m [] le = ap (λ (i : ℕ). replicate i None) (omega arith) ∙ no_cells hart ev stage m
cells_are hart ev q stage zero (s ∷ older) le = absurd (omega (arith, le))
cells_are hart ev q stage (suc m) (s ∷ older) le = by_slot s (cells_are hart ev q (suc stage) m older (omega (arith, le))) where
  on : (f : Option Fetched) (r : ℕ) → cell_there hart ev (fetched_of q older) (suc stage) r ≡ cell_there hart ev (f ∷ fetched_of q older) stage (suc r)
  on f r = ap (λ (i : ℕ). cell_with hart (turn_at i ev) (slice_get (fetched_of q older) r)) (omega arith)

  rest : (f : Option Fetched) → cells_from hart ev (suc stage) older ++ replicate (m - length older) None ≡ table (cell_there hart ev (fetched_of q older) (suc stage)) m → cells_from hart ev (suc stage) older ++ replicate (m - length older) None ≡ table (λ r. cell_there hart ev (f ∷ fetched_of q older) stage (suc r)) m
  rest f e = e ∙ table_same (cell_there hart ev (fetched_of q older) (suc stage)) (λ r. cell_there hart ev (f ∷ fetched_of q older) stage (suc r)) m (on f)

  begun : stage ≡ stage + 0
  begun = omega arith

  fewer : suc m - suc (length older) ≡ m - length older
  fewer = omega arith

  by_slot : (s : Option InFlight) → cells_from hart ev (suc stage) older ++ replicate (m - length older) None ≡ table (cell_there hart ev (fetched_of q older) (suc stage)) m → cells_from hart ev stage (s ∷ older) ++ replicate (suc m - suc (length older)) None ≡ table (cell_there hart ev (fetched_of q (s ∷ older)) stage) (suc m)
  by_slot None e = ap (λ (i : ℕ). none_first (cells_from hart ev (suc stage) older ++ replicate i None)) fewer ∙ ap (λ (l : List (Option BarrelCell)). None ∷ l) (rest None e)
  by_slot (Some c) e =
      ap (λ (i : ℕ). cell_from hart (turn_at stage ev) (Some c) ∷ (cells_from hart ev (suc stage) older ++ replicate i None)) fewer
      ∙ ap (λ (l : List (Option BarrelCell)). cell_from hart (turn_at stage ev) (Some c) ∷ l) (rest (Some (fetched_at (q + count older) c)) e)
      ∙ ap (λ (i : ℕ). cell_from hart (turn_at i ev) (Some c) ∷ table (λ r. cell_there hart ev (fetched_of q (Some c ∷ older)) stage (suc r)) m) begun

-- one stage more is shown
more_shown : (hart : ℕ) (ev : Option EventAt) (stage : ℕ) (s : Slots) (n m : ℕ) (slot : Option InFlight) → n < length s →
    set (cells_from hart ev stage (take n s) ++ replicate (suc m) None) n (cell_from hart (turn_at (stage + n) ev) (get_or s n slot)) ≡ cells_from hart ev stage (take (suc n) s) ++ replicate m None
more_shown hart ev stage [] n m slot lt = absurd (omega (arith, lt))
more_shown hart ev stage (s ∷ older) zero m slot lt = ap (λ (i : ℕ). cell_from hart (turn_at i ev) s ∷ replicate m None) (omega arith)
more_shown hart ev stage (s ∷ older) (suc n) m slot lt =
    let up : stage + suc n ≡ suc stage + n = omega arith in
    ap (λ (l : List (Option BarrelCell)). cell_from hart (turn_at stage ev) s ∷ l)
    (ap (λ (i : ℕ). set (cells_from hart ev (suc stage) (take n older) ++ replicate (suc m) None) n (cell_from hart (turn_at i ev) (get_or older n slot))) up
    ∙ more_shown hart ev (suc stage) older n m slot (omega (arith, lt)))

pub more_cells : (hart : ℕ) (ev : Option EventAt) (s : Slots) (n : ℕ) (slot : Option InFlight) (turned : Option Turn) (all : List (Option BarrelCell)) (cell : Option BarrelCell) → n < length s → n < 5 →
    all ≡ cells_from hart ev 0 (take n s) ++ replicate (5 - n) None → slot ≡ get_or s n slot → turned ≡ turn_at n ev → cell ≡ cell_from hart turned slot →
    set all n cell ≡ cells_from hart ev 0 (take (n + 1) s) ++ replicate (5 - (n + 1)) None
more_cells hart ev s n slot turned all cell lt few e is t c =
    let one : 5 - n ≡ suc (5 - (n + 1)) = omega (arith, few) in
    let two : n + 1 ≡ suc n = omega arith in
    let three : n ≡ 0 + n = omega arith in
    ap (λ (l : List (Option BarrelCell)). set l n cell) (e ∙ ap (λ (j : ℕ). cells_from hart ev 0 (take n s) ++ replicate j None) one)
    ∙ ap (λ (v : Option BarrelCell). set (cells_from hart ev 0 (take n s) ++ replicate (suc (5 - (n + 1))) None) n v) (c ∙ ap (λ (u : Option Turn). cell_from hart u slot) (t ∙ ap (λ (i : ℕ). turn_at i ev) three) ∙ ap (λ (u : Option InFlight). cell_from hart (turn_at (0 + n) ev) u) is)
    ∙ more_shown hart ev 0 s n (5 - (n + 1)) slot lt
    ∙ ap (λ (j : ℕ). cells_from hart ev 0 (take j s) ++ replicate (5 - (n + 1)) None) (sym two)

-- Serials

pub serials_are : (q b : ℕ) (s : Slots) → serials_of (take b s) ≡ reverse (map (λ (c : Fetched). c.serial) (standing (take b (fetched_of q s))))
serials_are q zero s = refl
serials_are q (suc b) [] = refl
serials_are q (suc b) (None ∷ older) = serials_are q b older
serials_are q (suc b) (Some c ∷ older) =
    ap (λ (l : List ℕ). l ++ c.serial ∷ []) (serials_are q b older)
    ∙ sym (reverse-append (c.serial ∷ []) (map (λ (f : Fetched). f.serial) (standing (take b (fetched_of q older)))))

-- What retires

pub last_at : (q n : ℕ) (s : Slots) → length s ≡ suc n → slice_get (fetched_of q s) n ≡ Some (fetched_in q (last_slot s))
last_at q n [] e = absurd (omega (arith, e))
last_at q zero (None ∷ []) e = refl
last_at q zero (Some c ∷ []) e = ap (λ (m : ℕ). Some (Some (fetched_at m c))) (omega arith)
last_at q (suc n) (s ∷ []) e = absurd (omega (arith, e))
last_at q zero (s ∷ t ∷ older) e = absurd (omega (arith, e))
last_at q (suc n) (None ∷ t ∷ older) e = last_at q n (t ∷ older) (omega (arith, e))
last_at q (suc n) (Some c ∷ t ∷ older) e = last_at q n (t ∷ older) (omega (arith, e))

-- it is asked what its word asks, and was tried
pub last_asked : (k : Setting) (s : Slots) (c : InFlight) → AreAsked k s → last_slot s ≡ Some c → c.asks ≡ k.asks c.word
last_asked k [] c h e = absurd (none-some _ e)
last_asked k (None ∷ []) c h e = absurd (none-some _ e)
last_asked k (Some d ∷ []) c h e = subst (λ (c : InFlight). c.asks ≡ k.asks c.word) (unsome _ _ e) h.0
last_asked k (None ∷ t ∷ older) c h e = last_asked k (t ∷ older) c h e
last_asked k (Some d ∷ t ∷ older) c h e = last_asked k (t ∷ older) c h.1 e

pub last_tried : (k : Setting) (from q stage n : ℕ) (s : Slots) (c : InFlight) → length s ≡ suc n → from ≤ stage + n → AreTried k from q stage s → last_slot s ≡ Some c → IsTriedAt k q c
last_tried k from q stage n [] c long le h e = absurd (none-some _ e)
last_tried k from q stage n (None ∷ []) c long le h e = absurd (none-some _ e)
last_tried k from q stage n (Some d ∷ []) c long le h e =
    let only : n ≡ 0 = omega (arith, long) in
    subst (λ (c : InFlight). IsTriedAt k q c) (unsome _ _ e) (subst (λ (p : ℕ). IsTriedAt k p d) (omega arith) (h.0 (omega (arith, le, only))))
last_tried k from q stage zero (s ∷ t ∷ older) c long le h e = absurd (omega (arith, long))
last_tried k from q stage (suc n) (None ∷ t ∷ older) c long le h e = last_tried k from q (suc stage) n (t ∷ older) c (omega (arith, long)) (omega (arith, le)) h e
last_tried k from q stage (suc n) (Some d ∷ t ∷ older) c long le h e = last_tried k from q (suc stage) n (t ∷ older) c (omega (arith, long)) (omega (arith, le)) h.1 e

-- what is known of what goes out of the last stage
pub record IsGoingOut (k : Setting) (q : ℕ) (c : InFlight) : Type 0 where
  pub step : Step
  pub commit : Commit
  pub tried : c.step ≡ Some step
  pub placed : IsStepAt k q step
  pub answer : step.answer ≡ Done commit
  pub course : k.course.answer q ≡ Done commit
  pub asks : c.asks ≡ k.asks commit.word

pub going_out : (k : Setting) (q : ℕ) (c : InFlight) → c.asks ≡ k.asks c.word → IsTriedAt k q c → IsGoingOn k (fetched_at q c) → IsGoingOut k q c
going_out k q c asks tried on = record {
  step = tried.step;
  commit = on.0;
  tried = tried.tried;
  placed = tried.placed;
  answer = tried.placed.answer ∙ on.1;
  course = on.1;
  asks = asks ∙ sym (ap (λ (w : ℕ). k.asks w) on.2);
}

pub retired_is : (k : Setting) (q : ℕ) (c : InFlight) → IsGoingOut k q c → retired_by (Some c) ≡ retired_of k (Some (fetched_at q c))
retired_is k q c h =
    ap (λ (s : Option Step). step_by c.serial c.asks s) h.tried
    ∙ ap (λ (a : StepAnswer). answer_by c.serial c.asks a) h.answer
    ∙ ap (λ a. Some (c.serial, shown a h.commit)) h.asks
    ∙ sym (ap (λ (a : StepAnswer). option_map (λ (d : Commit). (c.serial, shown (k.asks d.word) d)) (commit_in a)) h.course)
