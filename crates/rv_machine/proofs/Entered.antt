-- A row in which the handler is entered leaves no token.
use Rattle.rv_lawful.specs.Settings.{entries_at}
use Rattle.rv_seq.specs.Steps.{step, after}
use Rattle.rv_seq.specs.Runs.{start, run_with, entered}
use Rattle.std.proofs.Common.{◌≡◌, ℕ, zero, suc, ◌+◌, ◌<◌, ◌≤◌, [], ◌∷◌, drop, length, Option, Some, None, Bool, true, false, refl, sym, ap, ◌∙◌, subst, arith, List}
use Rattle.std.specs.Prelude.{◌&&◌, not, if◌then◌else◌, is_some, slice_get}
use Rattle.rv_trace.specs.declared.row.Row.{Row}
use Rattle.rv_trace.specs.Trace.{retirements}
use Rattle.rv_seq.specs.Interrupts.{is_enabled, diverted}
use Rattle.rv_seq.specs.declared.arch.Arch.{Arch}
use Rattle.rv_holds.specs.declared.token.Token.{Token}
use Rattle.rv_holds.specs.Tokens.{Slots}
use Rattle.rv_holds.specs.Flushing.{struck, cleared, remains}
use Rattle.rv_engine.specs.Settings.{Setting, Machine, shape_of, pending_by, interrupted_by, tree_of}
use Rattle.rv_engine.specs.Rows.{waited, going, advanced, loaded_by, turn_by, seen_by, entered_by}
use Rattle.rv_lawful.specs.Entering.{is_interrupted, is_line_pending}
use Rattle.rv_machine.specs.Owing.{judged}
use Rattle.rv_machine.specs.Placed.{run, count, Placed, Serials, IsReady, Inv, is_entry}
use Rattle.rv_machine.proofs.Clearing.{cleared_drop}
use Rattle.rv_machine.proofs.Repaid.{repaid_trap}
use Rattle.rv_machine.proofs.Turns.{entry_turn}

pub first_holds : (a b : Bool) → (a && b) ≡ true → a ≡ true
first_holds true b e = refl
first_holds false b e = cc

pub second_holds : (a b : Bool) → (a && b) ≡ true → b ≡ true
second_holds true b e = e
second_holds false b e = cc

not_true : (b : Bool) → not b ≡ true → b ≡ false
not_true false e = refl
not_true true e = cc

-- where none remains, all go
pub none_remain : (l : Slots) → remains l ≡ false → count (advanced None l) ≡ 0
none_remain [] h = refl
none_remain (None ∷ l) h = none_remain l h
none_remain (Some t ∷ []) h = ap (λ (b : Bool). count ((if b then Some (waited t) else None) ∷ [])) h
none_remain (Some t ∷ u ∷ l) h = cc

pub cleared_remains : (n : ℕ) (l : Slots) → n ≤ length l → remains (cleared n l) ≡ remains (drop n l)
cleared_remains zero l le = refl
cleared_remains (suc n) [] le = absurd (omega (arith, le))
cleared_remains (suc n) (s ∷ l) le = cleared_remains n l (omega (arith, le))

-- without tokens all stand in their places
pub empty_placed : (k : Setting) (r stage : ℕ) (l : Slots) → count l ≡ 0 → Placed k r stage l
empty_placed k r stage [] e = tt
empty_placed k r stage (None ∷ l) e = (tt, empty_placed k r (suc stage) l e)
empty_placed k r stage (Some t ∷ l) e = absurd (omega (arith, e))

-- a slot past a stage
pub get_drop : (a n : ℕ) (l : Slots) → slice_get (drop a l) n ≡ slice_get l (a + n)
get_drop zero n l = let z : n ≡ 0 + n = omega arith in ap (λ i. slice_get l i) z
get_drop (suc a) n [] = refl
get_drop (suc a) n (s ∷ l) = get_drop a n l ∙ ap (λ i. slice_get (s ∷ l) i) (let z : suc (a + n) ≡ suc a + n = omega arith in z)

-- a token with an older stage remains
pub remains_at : (n : ℕ) (l older : Slots) (t : Token) → drop n l ≡ Some t ∷ older → 0 < length older → remains l ≡ true
remains_at zero [] older t e lt = cc
remains_at zero (s ∷ []) older t e lt = let same : older ≡ [] = cc in let z = ap length same in absurd (omega (arith, z, lt))
remains_at zero (None ∷ u ∷ l) older t e lt = cc
remains_at zero (Some v ∷ u ∷ l) older t e lt = refl
remains_at (suc n) [] older t e lt = cc
remains_at (suc n) (None ∷ l) older t e lt = remains_at n l older t e lt
remains_at (suc n) (Some v ∷ []) older t e lt = nothing n e where
  nothing : {A : Type 0} (m : ℕ) → drop {A = Option Token} m [] ≡ Some t ∷ older → A
  nothing zero q = cc
  nothing (suc m) q = cc
remains_at (suc n) (Some v ∷ u ∷ l) older t e lt = refl

module _ (k : Setting) (ready : IsReady k) (m : Machine) (long : length (loaded_by k m) ≡ (shape_of k).stages) where
  -- no token remains above EX
  pub entry_remains : entered_by k m ≡ true → remains (drop (suc (shape_of k).ex) (loaded_by k m)) ≡ false
  entry_remains e = not_true (remains (drop (suc (shape_of k).ex) (loaded_by k m))) (second_holds (interrupted_by k m) _ e)

  pub entry_struck : entered_by k m ≡ true → struck (turn_by k m) ≡ suc (shape_of k).ex
  entry_struck e = ap (λ o. struck o) (entry_turn k m e)

  -- none remains at all
  pub entry_seen : entered_by k m ≡ true → remains (seen_by k m) ≡ false
  entry_seen e =
      let a = ready.ex_last in
      ap (λ n. remains (cleared n (loaded_by k m))) (entry_struck e)
      ∙ cleared_remains (suc (shape_of k).ex) (loaded_by k m) (omega (arith, a, long))
      ∙ entry_remains e

  pub entry_empties : entered_by k m ≡ true → count (advanced None (seen_by k m)) ≡ 0
  entry_empties e = none_remain (seen_by k m) (entry_seen e)

-- an interrupt is to be taken where the rows say so
pub interrupted_is : (k : Setting) (earlier : List Row) (m : Machine) → Inv k earlier m → interrupted_by k m ≡ is_interrupted (judged k) earlier
interrupted_is k earlier m inv =
    ap (λ b. b && is_enabled m.arch.trap) inv.line
    ∙ ap (λ t. is_line_pending k.lines earlier && is_enabled t) (sym (repaid_trap m.owed m.arch) ∙ ap (λ (s : Arch). s.trap) inv.arch)

-- where the handler is entered there is a line
pub entry_line : (k : Setting) (earlier : List Row) (m : Machine) → Inv k earlier m → entered_by k m ≡ true → is_some k.lines ≡ true
entry_line k earlier m inv e = by_lines k.lines (sym inv.line ∙ first_holds (pending_by k m) _ (first_holds (interrupted_by k m) _ e)) where
  by_lines : (lines : Option (List ℕ)) → is_line_pending lines earlier ≡ true → is_some lines ≡ true
  by_lines None h = cc
  by_lines (Some l) h = refl

-- behind an entry no interrupt is taken
disabled : (k : Setting) (p : ℕ) → is_some k.lines ≡ true → is_entry k p ≡ true → is_enabled (run k p).trap ≡ false
unfolding run_with diverted
disabled k zero some e = by_lines k.lines some where
  by_lines : (lines : Option (List ℕ)) → is_some lines ≡ true → is_enabled (entered (entries_at (shape_of k).trap lines k.places) zero (start (tree_of k) (entries_at (shape_of k).trap lines k.places))).trap ≡ false
  by_lines None h = cc
  by_lines (Some l) h = ap (λ b. is_enabled (if b then diverted (shape_of k).trap (start (tree_of k) (entries_at (shape_of k).trap (Some l) k.places)) else start (tree_of k) (entries_at (shape_of k).trap (Some l) k.places)).trap) e
disabled k (suc p) some e = by_lines k.lines some (after (tree_of k) (run k p) (step (tree_of k) k.image (run k p))) where
  by_lines : (lines : Option (List ℕ)) → is_some lines ≡ true → (s : Arch) → is_enabled (entered (entries_at (shape_of k).trap lines k.places) (suc p) s).trap ≡ false
  by_lines None h s = cc
  by_lines (Some l) h s = ap (λ b. is_enabled (if b then diverted (shape_of k).trap s else s).trap) e

-- so the run does not go there twice
pub entry_fresh : (k : Setting) (ready : IsReady k) (earlier : List Row) (m : Machine) (row : Row) → Inv k earlier m → (n : ℕ) → retirements (row ∷ earlier) ≡ retirements earlier + n → entered_by k m ≡ true → is_entry k (retirements (row ∷ earlier)) ≡ false
entry_fresh k ready earlier m row inv zero now e =
    let z : retirements (row ∷ earlier) ≡ retirements earlier = omega (arith, now) in
    ap (λ p. is_entry k p) z ∙ by_flag (is_entry k (retirements earlier)) refl where
      enabled : is_enabled (run k (retirements earlier)).trap ≡ true
      enabled =
          ap (λ (s : Arch). is_enabled s.trap) (sym inv.arch) ∙ ap (λ t. is_enabled t) (repaid_trap m.owed m.arch)
          ∙ second_holds (pending_by k m) (is_enabled m.arch.trap) (first_holds (interrupted_by k m) _ e)

      by_flag : (b : Bool) → is_entry k (retirements earlier) ≡ b → is_entry k (retirements earlier) ≡ false
      by_flag false q = q
      by_flag true q = cc (disabled k (retirements earlier) (entry_line k earlier m inv e) q, enabled)
entry_fresh k ready earlier m row inv (suc n) now e = inv.past (retirements (row ∷ earlier)) (omega (arith, now))
