-- The holds kind by kind, and the first of those of some kinds.
use Rattle.std.proofs.Common.{◌≡◌, ℕ, suc, ◌<◌, ◌≤◌, Option, Some, None, refl, arith, inl, inr}
use Rattle.std.specs.Option.{option_or}
use Rattle.std.proofs.lemmas.Bool.{cases_lt}
use Rattle.ix_plan.specs.declared.design.Target.{Target}
use Rattle.rv_trace.specs.declared.row.Hold.{Hold}
use Rattle.rv_trace.specs.declared.row.Hold.TheVariants.{Operand, Board, Custom, Late, Trap, Drain, Wait, StoreAhead, Tail, UnitFull, Port, Behind}
use Rattle.rv_trace.specs.RowParts.{kind_of, ComesFirst}

-- Which hold is of which kind

pub operand_kind : (h : Hold) → kind_of h ≡ 0 → (r : ℕ) × (j : ℕ) × (h ≡ Operand r j)
operand_kind (Operand r j) e = (r, j, refl)
operand_kind (Board target j) e = absurd (omega (arith, e))
operand_kind (Custom r j) e = absurd (omega (arith, e))
operand_kind (Late j) e = absurd (omega (arith, e))
operand_kind Trap e = absurd (omega (arith, e))
operand_kind (Drain j) e = absurd (omega (arith, e))
operand_kind (Wait left) e = absurd (omega (arith, e))
operand_kind (StoreAhead j) e = absurd (omega (arith, e))
operand_kind (Tail left) e = absurd (omega (arith, e))
operand_kind (UnitFull u) e = absurd (omega (arith, e))
operand_kind (Port j) e = absurd (omega (arith, e))
operand_kind Behind e = absurd (omega (arith, e))

pub board_kind : (h : Hold) → kind_of h ≡ 1 → (target : Target) × (j : ℕ) × (h ≡ Board target j)
board_kind (Operand r j) e = absurd (omega (arith, e))
board_kind (Board target j) e = (target, j, refl)
board_kind (Custom r j) e = absurd (omega (arith, e))
board_kind (Late j) e = absurd (omega (arith, e))
board_kind Trap e = absurd (omega (arith, e))
board_kind (Drain j) e = absurd (omega (arith, e))
board_kind (Wait left) e = absurd (omega (arith, e))
board_kind (StoreAhead j) e = absurd (omega (arith, e))
board_kind (Tail left) e = absurd (omega (arith, e))
board_kind (UnitFull u) e = absurd (omega (arith, e))
board_kind (Port j) e = absurd (omega (arith, e))
board_kind Behind e = absurd (omega (arith, e))

pub custom_kind : (h : Hold) → kind_of h ≡ 2 → (r : ℕ) × (j : ℕ) × (h ≡ Custom r j)
custom_kind (Operand r j) e = absurd (omega (arith, e))
custom_kind (Board target j) e = absurd (omega (arith, e))
custom_kind (Custom r j) e = (r, j, refl)
custom_kind (Late j) e = absurd (omega (arith, e))
custom_kind Trap e = absurd (omega (arith, e))
custom_kind (Drain j) e = absurd (omega (arith, e))
custom_kind (Wait left) e = absurd (omega (arith, e))
custom_kind (StoreAhead j) e = absurd (omega (arith, e))
custom_kind (Tail left) e = absurd (omega (arith, e))
custom_kind (UnitFull u) e = absurd (omega (arith, e))
custom_kind (Port j) e = absurd (omega (arith, e))
custom_kind Behind e = absurd (omega (arith, e))

pub late_kind : (h : Hold) → kind_of h ≡ 3 → (j : ℕ) × (h ≡ Late j)
late_kind (Operand r j) e = absurd (omega (arith, e))
late_kind (Board target j) e = absurd (omega (arith, e))
late_kind (Custom r j) e = absurd (omega (arith, e))
late_kind (Late j) e = (j, refl)
late_kind Trap e = absurd (omega (arith, e))
late_kind (Drain j) e = absurd (omega (arith, e))
late_kind (Wait left) e = absurd (omega (arith, e))
late_kind (StoreAhead j) e = absurd (omega (arith, e))
late_kind (Tail left) e = absurd (omega (arith, e))
late_kind (UnitFull u) e = absurd (omega (arith, e))
late_kind (Port j) e = absurd (omega (arith, e))
late_kind Behind e = absurd (omega (arith, e))

pub drain_kind : (h : Hold) → kind_of h ≡ 5 → (j : ℕ) × (h ≡ Drain j)
drain_kind (Operand r j) e = absurd (omega (arith, e))
drain_kind (Board target j) e = absurd (omega (arith, e))
drain_kind (Custom r j) e = absurd (omega (arith, e))
drain_kind (Late j) e = absurd (omega (arith, e))
drain_kind Trap e = absurd (omega (arith, e))
drain_kind (Drain j) e = (j, refl)
drain_kind (Wait left) e = absurd (omega (arith, e))
drain_kind (StoreAhead j) e = absurd (omega (arith, e))
drain_kind (Tail left) e = absurd (omega (arith, e))
drain_kind (UnitFull u) e = absurd (omega (arith, e))
drain_kind (Port j) e = absurd (omega (arith, e))
drain_kind Behind e = absurd (omega (arith, e))

pub wait_kind : (h : Hold) → kind_of h ≡ 6 → (left : ℕ) × (h ≡ Wait left)
wait_kind (Operand r j) e = absurd (omega (arith, e))
wait_kind (Board target j) e = absurd (omega (arith, e))
wait_kind (Custom r j) e = absurd (omega (arith, e))
wait_kind (Late j) e = absurd (omega (arith, e))
wait_kind Trap e = absurd (omega (arith, e))
wait_kind (Drain j) e = absurd (omega (arith, e))
wait_kind (Wait left) e = (left, refl)
wait_kind (StoreAhead j) e = absurd (omega (arith, e))
wait_kind (Tail left) e = absurd (omega (arith, e))
wait_kind (UnitFull u) e = absurd (omega (arith, e))
wait_kind (Port j) e = absurd (omega (arith, e))
wait_kind Behind e = absurd (omega (arith, e))

pub store_kind : (h : Hold) → kind_of h ≡ 7 → (j : ℕ) × (h ≡ StoreAhead j)
store_kind (Operand r j) e = absurd (omega (arith, e))
store_kind (Board target j) e = absurd (omega (arith, e))
store_kind (Custom r j) e = absurd (omega (arith, e))
store_kind (Late j) e = absurd (omega (arith, e))
store_kind Trap e = absurd (omega (arith, e))
store_kind (Drain j) e = absurd (omega (arith, e))
store_kind (Wait left) e = absurd (omega (arith, e))
store_kind (StoreAhead j) e = (j, refl)
store_kind (Tail left) e = absurd (omega (arith, e))
store_kind (UnitFull u) e = absurd (omega (arith, e))
store_kind (Port j) e = absurd (omega (arith, e))
store_kind Behind e = absurd (omega (arith, e))

pub module_kind : (h : Hold) → kind_of h ≡ 8 → (left : ℕ) × (h ≡ Tail left)
module_kind (Operand r j) e = absurd (omega (arith, e))
module_kind (Board target j) e = absurd (omega (arith, e))
module_kind (Custom r j) e = absurd (omega (arith, e))
module_kind (Late j) e = absurd (omega (arith, e))
module_kind Trap e = absurd (omega (arith, e))
module_kind (Drain j) e = absurd (omega (arith, e))
module_kind (Wait left) e = absurd (omega (arith, e))
module_kind (StoreAhead j) e = absurd (omega (arith, e))
module_kind (Tail left) e = (left, refl)
module_kind (UnitFull u) e = absurd (omega (arith, e))
module_kind (Port j) e = absurd (omega (arith, e))
module_kind Behind e = absurd (omega (arith, e))

pub unit_kind : (h : Hold) → kind_of h ≡ 9 → (u : ℕ) × (h ≡ UnitFull u)
unit_kind (Operand r j) e = absurd (omega (arith, e))
unit_kind (Board target j) e = absurd (omega (arith, e))
unit_kind (Custom r j) e = absurd (omega (arith, e))
unit_kind (Late j) e = absurd (omega (arith, e))
unit_kind Trap e = absurd (omega (arith, e))
unit_kind (Drain j) e = absurd (omega (arith, e))
unit_kind (Wait left) e = absurd (omega (arith, e))
unit_kind (StoreAhead j) e = absurd (omega (arith, e))
unit_kind (Tail left) e = absurd (omega (arith, e))
unit_kind (UnitFull u) e = (u, refl)
unit_kind (Port j) e = absurd (omega (arith, e))
unit_kind Behind e = absurd (omega (arith, e))

pub port_kind : (h : Hold) → kind_of h ≡ 10 → (j : ℕ) × (h ≡ Port j)
port_kind (Operand r j) e = absurd (omega (arith, e))
port_kind (Board target j) e = absurd (omega (arith, e))
port_kind (Custom r j) e = absurd (omega (arith, e))
port_kind (Late j) e = absurd (omega (arith, e))
port_kind Trap e = absurd (omega (arith, e))
port_kind (Drain j) e = absurd (omega (arith, e))
port_kind (Wait left) e = absurd (omega (arith, e))
port_kind (StoreAhead j) e = absurd (omega (arith, e))
port_kind (Tail left) e = absurd (omega (arith, e))
port_kind (UnitFull u) e = absurd (omega (arith, e))
port_kind (Port j) e = (j, refl)
port_kind Behind e = absurd (omega (arith, e))

pub trap_kind : (h : Hold) → kind_of h ≡ 4 → h ≡ Trap
trap_kind (Operand r j) e = absurd (omega (arith, e))
trap_kind (Board t j) e = absurd (omega (arith, e))
trap_kind (Custom r j) e = absurd (omega (arith, e))
trap_kind (Late j) e = absurd (omega (arith, e))
trap_kind Trap e = refl
trap_kind (Drain j) e = absurd (omega (arith, e))
trap_kind (Wait left) e = absurd (omega (arith, e))
trap_kind (StoreAhead j) e = absurd (omega (arith, e))
trap_kind (Tail left) e = absurd (omega (arith, e))
trap_kind (UnitFull u) e = absurd (omega (arith, e))
trap_kind (Port j) e = absurd (omega (arith, e))
trap_kind Behind e = absurd (omega (arith, e))

pub behind_kind : (h : Hold) → kind_of h ≡ 11 → h ≡ Behind
behind_kind (Operand r j) e = absurd (omega (arith, e))
behind_kind (Board t j) e = absurd (omega (arith, e))
behind_kind (Custom r j) e = absurd (omega (arith, e))
behind_kind (Late j) e = absurd (omega (arith, e))
behind_kind Trap e = absurd (omega (arith, e))
behind_kind (Drain j) e = absurd (omega (arith, e))
behind_kind (Wait left) e = absurd (omega (arith, e))
behind_kind (StoreAhead j) e = absurd (omega (arith, e))
behind_kind (Tail left) e = absurd (omega (arith, e))
behind_kind (UnitFull u) e = absurd (omega (arith, e))
behind_kind (Port j) e = absurd (omega (arith, e))
behind_kind Behind e = refl

-- The first of those that are true, of the kinds from n on and below m

abbrev pub FirstIn : (Hold → Type 0) → ℕ → ℕ → Option Hold → Type 0
FirstIn P n m None = (h : Hold) → n ≤ kind_of h → kind_of h < m → P h → ⊥
FirstIn P n m (Some h) = (n ≤ kind_of h) × (kind_of h < m) × P h × ((g : Hold) → n ≤ kind_of g → kind_of g < m → P g → ComesFirst h g)

pub joined : (P : Hold → Type 0) (n m l : ℕ) (o p : Option Hold) → n ≤ m → m ≤ l → FirstIn P n m o → FirstIn P m l p → FirstIn P n l (option_or o p)
joined P n m l (Some h) p nm ml x y =
    let low = x.1 in (
      x.0,
      omega (arith, low, ml),
      x.2,
      λ g a b t. elim (cases_lt (kind_of g) m) [
        | inl less ↦ x.3 g a less t
        | inr more ↦ inl (omega (arith, low, more))
      ],
    )
joined P n m l None None nm ml x y = λ h a b t. elim (cases_lt (kind_of h) m) [
  | inl less ↦ x h a less t
  | inr more ↦ y h more b t
]
joined P n m l None (Some h) nm ml x y =
    let high = y.0 in (
      omega (arith, nm, high),
      y.1,
      y.2,
      λ g a b t. elim (cases_lt (kind_of g) m) [
        | inl less ↦ absurd (x g a less t)
        | inr more ↦ y.3 g more b t
      ],
    )

-- a kind from n on and below the next one is n
pub one_kind : (n x : ℕ) → n ≤ x → x < suc n → x ≡ n
one_kind n x a b = omega (arith, a, b)
