-- The token of EX that waits for no register and no pc has been tried.
use Rattle.std.proofs.Common.{◌≡◌, ℕ, zero, suc, ◌≤◌, List, [], ◌∷◌, length, Option, Some, None, Bool, true, false, refl, sym, ◌∙◌, arith}
use Rattle.std.specs.Prelude.{if◌then◌else◌, ◌==◌, ◌&&◌, is_some, is_none}
use Rattle.ix_bits.specs.declared.number.Bits.{Bits}
use Rattle.ix_extension.specs.Extensions.{ExtensionTree}
use Rattle.rv_core.specs.declared.Shape.{Shape}
use Rattle.rv_trace.specs.declared.row.Hold.{Hold}
use Rattle.rv_tried.specs.declared.trial.Trial.{Trial}
use Rattle.rv_holds.specs.declared.token.Token.{Token}
use Rattle.rv_holds.specs.Tokens.{Slots}
use Rattle.rv_holds.specs.Holds.{waiting_hold, decided}
use Rattle.rv_holds.specs.Flushing.{cleared}
use Rattle.rv_engine.specs.Settings.{Setting, shape_of}
use Rattle.rv_engine.specs.Rows.{tried_with, seeing, is_ripe, trying, is_loading, loading}
use Rattle.rv_machine.proofs.Deciding.{same_test}
use Rattle.rv_machine.proofs.Alike.{trying_alike, loading_alike, decided_alike}
use Rattle.rv_machine.proofs.Over.{waiting_over}

abbrev pub RipeSlot : Setting → ℕ → Option Token → Slots → Type 0
RipeSlot k stage None older = Unit {0}
RipeSlot k stage (Some t) older = stage ≡ (shape_of k).ex → waiting_hold (shape_of k) stage t older ≡ None → is_some t.trial ≡ true

abbrev pub Ripe : Setting → ℕ → Slots → Type 0
Ripe k stage [] = Unit {0}
Ripe k stage (s ∷ older) = RipeSlot k stage s older × Ripe k (suc stage) older

was_tried : (k : Shape) (stage : ℕ) (t : Token) (older : Slots) → is_ripe k stage t older ≡ false → stage ≡ k.ex → waiting_hold k stage t older ≡ None → is_some t.trial ≡ true
was_tried k stage t older h e w = by_case (stage == k.ex) t.trial (waiting_hold k stage t older) (same_test stage k.ex e) w h where
  by_case : (a : Bool) (o : Option Trial) (p : Option Hold) → a ≡ true → p ≡ None → (a && (is_none o && is_none p)) ≡ false → is_some o ≡ true
  by_case true None None ea ep q = cc
  by_case true (Some x) p ea ep q = refl
  by_case true None (Some x) ea ep q = cc
  by_case false o p ea ep q = cc

pub trying_ripe : (k : Setting) (x : ExtensionTree) (future : List Bits) (memory : List ℕ) (stage : ℕ) (slots : Slots) → Ripe k stage (trying x (shape_of k) future memory stage slots)
trying_ripe k x future memory stage [] = tt
trying_ripe k x future memory stage (None ∷ older) = (tt, trying_ripe k x future memory (suc stage) older)
trying_ripe k x future memory stage (Some t ∷ older) = (by_case (is_ripe (shape_of k) stage t older) refl, trying_ripe k x future memory (suc stage) older) where
  later : Slots
  later = trying x (shape_of k) future memory (suc stage) older

  by_case : (b : Bool) → is_ripe (shape_of k) stage t older ≡ b → RipeSlot k stage (if b then Some (tried_with x memory (seeing future t.inputs) t) else Some t) later
  by_case true e = λ at w. refl
  by_case false e = λ at w. was_tried (shape_of k) stage t older e at (sym (waiting_over (shape_of k) stage t older later (trying_alike x (shape_of k) future memory (suc stage) older)) ∙ w)

pub decided_ripe : (k : Setting) (stage : ℕ) (slots : Slots) → Ripe k stage slots → Ripe k stage (decided (shape_of k) stage slots)
decided_ripe k stage [] h = tt
decided_ripe k stage (None ∷ older) h = (tt, decided_ripe k (suc stage) older h.1)
decided_ripe k stage (Some t ∷ older) h =
    let later = decided (shape_of k) (suc stage) older in
    (λ at w. h.0 at (sym (waiting_over (shape_of k) stage t older later (decided_alike (shape_of k) (suc stage) older)) ∙ w), decided_ripe k (suc stage) older h.1)

pub loading_ripe : (k : Setting) (x : ExtensionTree) (memory : List ℕ) (stage : ℕ) (slots : Slots) → Ripe k stage slots → Ripe k stage (loading x (shape_of k) memory stage slots)
loading_ripe k x memory stage [] h = tt
loading_ripe k x memory stage (None ∷ older) h = (tt, loading_ripe k x memory (suc stage) older h.1)
loading_ripe k x memory stage (Some t ∷ older) h = (by_case (is_loading (shape_of k) stage t), loading_ripe k x memory (suc stage) older h.1) where
  later : Slots
  later = loading x (shape_of k) memory (suc stage) older

  by_case : (b : Bool) → RipeSlot k stage (if b then Some (tried_with x memory t.inputs t) else Some t) later
  by_case true = λ at w. refl
  by_case false = λ at w. h.0 at (sym (waiting_over (shape_of k) stage t older later (loading_alike x (shape_of k) memory (suc stage) older)) ∙ w)

pub cleared_ripe : (k : Setting) (stage n : ℕ) (slots : Slots) → n ≤ length slots → Ripe k stage slots → Ripe k stage (cleared n slots)
cleared_ripe k stage zero slots le h = h
cleared_ripe k stage (suc n) [] le h = absurd (omega arith)
cleared_ripe k stage (suc n) (s ∷ older) le h = (tt, cleared_ripe k (suc stage) n older (omega (arith, le)) h.1)
