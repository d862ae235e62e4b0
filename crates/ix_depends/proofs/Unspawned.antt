-- What writes memory or the pc is not spawned.
use Rattle.std.proofs.Common.{◌≡◌, ◌≢◌, ◌∙◌, refl, ap, ℕ, zero, suc, List, [], ◌∷◌, map, get_or, Some, Bool, true, false}
use Rattle.std.specs.Prelude.{slice_get, set}
use Rattle.ix_bits.specs.declared.number.Ty.{Ty}
use Rattle.ix_graph.specs.declared.graph.Op.{Op}
use Rattle.ix_extension.specs.Extensions.{ExtensionTree}
use Rattle.ix_behaviour.specs.declared.which.Which.{Which}
use Rattle.ix_behaviour.specs.Behaviours.{targets_at, spawned_at}
use Rattle.ix_behaviour.specs.Flags.{unmarked, marked, flags_at}
use Rattle.ix_flow.specs.Flows.{target_of, flag_at, flag_of}
use Rattle.ix_spawns.specs.Targets.{AreRegisters}

set_other : (fs : List Bool) (t n : ℕ) → t ≢ n → get_or (set fs t true) n false ≡ get_or fs n false
set_other [] t n ne = refl
set_other (f ∷ fs) zero zero ne = absurd (ne refl)
set_other (f ∷ fs) zero (suc n) ne = refl
set_other (f ∷ fs) (suc t) zero ne = refl
set_other (f ∷ fs) (suc t) (suc n) ne = set_other fs t n (λ e. ne (ap suc e))

none_marked : (ts : List Ty) (n : ℕ) → get_or (map unmarked ts) n false ≡ false
none_marked [] n = refl
none_marked (t ∷ ts) zero = refl
none_marked (t ∷ ts) (suc n) = none_marked ts n

memory_kept : (fs : List Bool) (ts : List ℕ) → AreRegisters ts → get_or (marked fs ts) 0 false ≡ get_or fs 0 false
memory_kept fs [] h = refl
memory_kept fs (t ∷ ts) h = memory_kept (set fs t true) ts h.1 ∙ set_other fs t 0 h.0.0

pc_kept : (fs : List Bool) (ts : List ℕ) → AreRegisters ts → get_or (marked fs ts) 2 false ≡ get_or fs 2 false
pc_kept fs [] h = refl
pc_kept fs (t ∷ ts) h = pc_kept (set fs t true) ts h.1 ∙ set_other fs t 2 h.0.1

pub memory_unspawned : (x : ExtensionTree) (w : Which) (o : Op) → AreRegisters (spawned_at x w) → target_of o.kind ≡ Some 0 → flag_of (flags_at x w) o ≡ false
memory_unspawned x w o h e = ap (flag_at (flags_at x w)) e ∙ memory_kept (map unmarked (targets_at x w)) (spawned_at x w) h ∙ none_marked (targets_at x w) 0

pub pc_unspawned : (x : ExtensionTree) (w : Which) (o : Op) → AreRegisters (spawned_at x w) → target_of o.kind ≡ Some 2 → flag_of (flags_at x w) o ≡ false
pc_unspawned x w o h e = ap (flag_at (flags_at x w)) e ∙ pc_kept (map unmarked (targets_at x w)) (spawned_at x w) h ∙ none_marked (targets_at x w) 2

-- the flag of an operation, whatever stands past the end
pub flag_there : (f : Op → Bool) (os : List Op) (flags : List Bool) (k : ℕ) (o : Op) (d : Bool) → flags ≡ map f os → slice_get os k ≡ Some o → get_or flags k d ≡ f o
flag_there f os flags k o d e h = ap (λ (l : List Bool). get_or l k d) e ∙ at os k h
  where
    at : (os : List Op) (k : ℕ) → slice_get os k ≡ Some o → get_or (map f os) k d ≡ f o
    at [] k q = cc
    at (p ∷ os) zero q = (let same : p ≡ o = cc in ap f same)
    at (p ∷ os) (suc k) q = at os k q
