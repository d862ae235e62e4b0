-- What each token meets beside the stages in a row is found of what is outstanding before it.
use Rattle.std.proofs.Common.{◌≡◌, ℕ, zero, suc, ◌+◌, ◌≤◌, List, [], ◌∷◌, drop, length, Option, Some, None, Bool, true, false, refl, subst, arith}
use Rattle.std.specs.Prelude.{if◌then◌else◌}
use Rattle.ix_bits.specs.declared.number.Bits.{Bits}
use Rattle.ix_extension.specs.Extensions.{ExtensionTree}
use Rattle.rv_core.specs.declared.Shape.{Shape}
use Rattle.rv_holds.specs.declared.token.Token.{Token}
use Rattle.rv_holds.specs.Tokens.{Slots}
use Rattle.rv_holds.specs.Holds.{decided}
use Rattle.rv_holds.specs.Flushing.{cleared, struck}
use Rattle.rv_engine.specs.Owing.{Outstanding, beside_of}
use Rattle.rv_engine.specs.Settings.{Setting, Machine, shape_of, tree_of, outstanding_in, interrupted_by}
use Rattle.rv_engine.specs.Rows.{reading, tried_with, seeing, is_ripe, trying, is_loading, loading, filled_by, owed_by, read_by, held_by, loaded_by, turn_by, seen_by}

abbrev pub MeetsSlot : Shape → Bool → Outstanding → ℕ → Option Token → Type 0
MeetsSlot k now o stage None = Unit {0}
MeetsSlot k now o stage (Some t) = t.beside ≡ beside_of k now o stage t.asks

abbrev pub Meets : Shape → Bool → Outstanding → ℕ → Slots → Type 0
Meets k now o stage [] = Unit {0}
Meets k now o stage (s ∷ older) = MeetsSlot k now o stage s × Meets k now o (suc stage) older

pub reading_meets : (k : Shape) (file : List ℕ) (wait : ℕ) (now : Bool) (o : Outstanding) (stage : ℕ) (slots : Slots) → Meets k now o stage (reading k file wait now o stage slots)
reading_meets k file wait now o stage [] = tt
reading_meets k file wait now o stage (None ∷ older) = (tt, reading_meets k file wait now o (suc stage) older)
reading_meets k file wait now o stage (Some t ∷ older) = (refl, reading_meets k file wait now o (suc stage) older)

trying_meets : (x : ExtensionTree) (k : Shape) (future : List Bits) (memory : List ℕ) (now : Bool) (o : Outstanding) (stage : ℕ) (slots : Slots) → Meets k now o stage slots → Meets k now o stage (trying x k future memory stage slots)
trying_meets x k future memory now o stage [] h = tt
trying_meets x k future memory now o stage (None ∷ older) h = (tt, trying_meets x k future memory now o (suc stage) older h.1)
trying_meets x k future memory now o stage (Some t ∷ older) h = (by_case (is_ripe k stage t older), trying_meets x k future memory now o (suc stage) older h.1) where
  by_case : (b : Bool) → MeetsSlot k now o stage (if b then Some (tried_with x memory (seeing future t.inputs) t) else Some t)
  by_case true = h.0
  by_case false = h.0

decided_meets : (k : Shape) (now : Bool) (o : Outstanding) (stage : ℕ) (slots : Slots) → Meets k now o stage slots → Meets k now o stage (decided k stage slots)
decided_meets k now o stage [] h = tt
decided_meets k now o stage (None ∷ older) h = (tt, decided_meets k now o (suc stage) older h.1)
decided_meets k now o stage (Some t ∷ older) h = (h.0, decided_meets k now o (suc stage) older h.1)

loading_meets : (x : ExtensionTree) (k : Shape) (memory : List ℕ) (now : Bool) (o : Outstanding) (stage : ℕ) (slots : Slots) → Meets k now o stage slots → Meets k now o stage (loading x k memory stage slots)
loading_meets x k memory now o stage [] h = tt
loading_meets x k memory now o stage (None ∷ older) h = (tt, loading_meets x k memory now o (suc stage) older h.1)
loading_meets x k memory now o stage (Some t ∷ older) h = (by_case (is_loading k stage t), loading_meets x k memory now o (suc stage) older h.1) where
  by_case : (b : Bool) → MeetsSlot k now o stage (if b then Some (tried_with x memory t.inputs t) else Some t)
  by_case true = h.0
  by_case false = h.0

cleared_meets : (k : Shape) (now : Bool) (o : Outstanding) (stage n : ℕ) (slots : Slots) → n ≤ length slots → Meets k now o stage slots → Meets k now o stage (cleared n slots)
cleared_meets k now o stage zero slots le h = h
cleared_meets k now o stage (suc n) [] le h = absurd (omega (arith, le))
cleared_meets k now o stage (suc n) (s ∷ older) le h = (tt, cleared_meets k now o (suc stage) n older (omega (arith, le)) h.1)

pub loaded_meets : (k : Setting) (m : Machine) → Meets (shape_of k) (interrupted_by k m) (outstanding_in k m) 0 (loaded_by k m)
loaded_meets k m =
    let o = outstanding_in k m in
    let now = interrupted_by k m in
    let read = read_by k m in
    loading_meets (tree_of k) (shape_of k) m.arch.mem now o 0 (held_by k m)
    (decided_meets (shape_of k) now o 0 (trying (tree_of k) (shape_of k) m.future m.arch.mem 0 read)
    (trying_meets (tree_of k) (shape_of k) m.future m.arch.mem now o 0 read (reading_meets (shape_of k) m.arch.x (owed_by k m) now o 0 (filled_by k m))))

pub seen_meets : (k : Setting) (m : Machine) → struck (turn_by k m) ≤ length (loaded_by k m) → Meets (shape_of k) (interrupted_by k m) (outstanding_in k m) 0 (seen_by k m)
seen_meets k m le = cleared_meets (shape_of k) (interrupted_by k m) (outstanding_in k m) 0 (struck (turn_by k m)) (loaded_by k m) le (loaded_meets k m)

meets_from : (k : Shape) (now : Bool) (o : Outstanding) (base n : ℕ) (slots older : Slots) (t : Token) → Meets k now o base slots → drop n slots ≡ Some t ∷ older → t.beside ≡ beside_of k now o (base + n) t.asks
meets_from k now o base zero [] older t h e = cc
meets_from k now o base zero (None ∷ l) older t h e = cc
meets_from k now o base zero (Some u ∷ l) older t h e =
    let same : u ≡ t = cc in
    subst (λ (v : Token). v.beside ≡ beside_of k now o (base + 0) v.asks) same (subst (λ b. u.beside ≡ beside_of k now o b u.asks) (let z : base ≡ base + 0 = omega arith in z) h.0)
meets_from k now o base (suc n) [] older t h e = cc
meets_from k now o base (suc n) (s ∷ l) older t h e =
    let z : suc base + n ≡ base + suc n = omega arith in
    subst (λ b. t.beside ≡ beside_of k now o b t.asks) z (meets_from k now o (suc base) n l older t h.1 e)

-- the token of a stage
pub meets_at : (k : Shape) (now : Bool) (o : Outstanding) (n : ℕ) (slots older : Slots) (t : Token) → Meets k now o 0 slots → drop n slots ≡ Some t ∷ older → t.beside ≡ beside_of k now o n t.asks
meets_at k now o n slots older t h e =
    let z : 0 + n ≡ n = omega arith in
    subst (λ b. t.beside ≡ beside_of k now o b t.asks) z (meets_from k now o 0 n slots older t h e)
