-- The holds kind by kind: the first true one is the first one of the first kind that has a true one.
use Rattle.std.proofs.Common.{◌≡◌, ℕ, suc, ◌<◌, ◌≤◌, List, Option, Some, None, Bool, true, false, refl, arith, inl, inr}
use Rattle.std.specs.Prelude.{if◌then◌else◌}
use Rattle.std.proofs.lemmas.Bool.{cases_lt}
use Rattle.ix_plan.specs.declared.design.Target.{Target}
use Rattle.rv_trace.specs.declared.row.Cell.{Cell}
use Rattle.rv_trace.specs.declared.row.Hold.{Hold}
use Rattle.rv_trace.specs.declared.row.Hold.TheVariants.{Operand, Board, Custom, Late, Trap, Drain, Wait, StoreAhead, Tail, UnitFull, Port, Behind}
use Rattle.rv_trace.specs.declared.row.Row.{Row}
use Rattle.rv_trace.specs.RowParts.{kind_of, ComesFirst}
use Rattle.rv_holds.specs.Tokens.{or_else}
use Rattle.rv_lawful.specs.Settings.{Setting}
use Rattle.rv_lawful.specs.LawfulTrace.{OwnHold}

-- Which hold is of which kind

pub operand_kind : (h : Hold) → kind_of h ≡ 0 → (r : ℕ) × (j : ℕ) × (h ≡ Operand r j)
operand_kind (Operand r j) e = (r, j, refl)
operand_kind (Board target j) e = absurd (omega (arith, e))
operand_kind (Custom r j) e = absurd (omega (arith, e))
operand_kind (Late j) e = absurd (omega (arith, e))
operand_kind Trap e = absurd (omega (arith, e))
operand_kind (Drain j) e = absurd (omega (arith, e))
operand_kind (Wait left) e = absurd (omega (arith, e))
operand_kind (StoreAhead j) e = absurd (omega (arith, e))
operand_kind (Tail left) e = absurd (omega (arith, e))
operand_kind (UnitFull u) e = absurd (omega (arith, e))
operand_kind (Port j) e = absurd (omega (arith, e))
operand_kind Behind e = absurd (omega (arith, e))

pub board_kind : (h : Hold) → kind_of h ≡ 1 → (target : Target) × (j : ℕ) × (h ≡ Board target j)
board_kind (Operand r j) e = absurd (omega (arith, e))
board_kind (Board target j) e = (target, j, refl)
board_kind (Custom r j) e = absurd (omega (arith, e))
board_kind (Late j) e = absurd (omega (arith, e))
board_kind Trap e = absurd (omega (arith, e))
board_kind (Drain j) e = absurd (omega (arith, e))
board_kind (Wait left) e = absurd (omega (arith, e))
board_kind (StoreAhead j) e = absurd (omega (arith, e))
board_kind (Tail left) e = absurd (omega (arith, e))
board_kind (UnitFull u) e = absurd (omega (arith, e))
board_kind (Port j) e = absurd (omega (arith, e))
board_kind Behind e = absurd (omega (arith, e))

pub custom_kind : (h : Hold) → kind_of h ≡ 2 → (r : ℕ) × (j : ℕ) × (h ≡ Custom r j)
custom_kind (Operand r j) e = absurd (omega (arith, e))
custom_kind (Board target j) e = absurd (omega (arith, e))
custom_kind (Custom r j) e = (r, j, refl)
custom_kind (Late j) e = absurd (omega (arith, e))
custom_kind Trap e = absurd (omega (arith, e))
custom_kind (Drain j) e = absurd (omega (arith, e))
custom_kind (Wait left) e = absurd (omega (arith, e))
custom_kind (StoreAhead j) e = absurd (omega (arith, e))
custom_kind (Tail left) e = absurd (omega (arith, e))
custom_kind (UnitFull u) e = absurd (omega (arith, e))
custom_kind (Port j) e = absurd (omega (arith, e))
custom_kind Behind e = absurd (omega (arith, e))

pub late_kind : (h : Hold) → kind_of h ≡ 3 → (j : ℕ) × (h ≡ Late j)
late_kind (Operand r j) e = absurd (omega (arith, e))
late_kind (Board target j) e = absurd (omega (arith, e))
late_kind (Custom r j) e = absurd (omega (arith, e))
late_kind (Late j) e = (j, refl)
late_kind Trap e = absurd (omega (arith, e))
late_kind (Drain j) e = absurd (omega (arith, e))
late_kind (Wait left) e = absurd (omega (arith, e))
late_kind (StoreAhead j) e = absurd (omega (arith, e))
late_kind (Tail left) e = absurd (omega (arith, e))
late_kind (UnitFull u) e = absurd (omega (arith, e))
late_kind (Port j) e = absurd (omega (arith, e))
late_kind Behind e = absurd (omega (arith, e))

pub drain_kind : (h : Hold) → kind_of h ≡ 5 → (j : ℕ) × (h ≡ Drain j)
drain_kind (Operand r j) e = absurd (omega (arith, e))
drain_kind (Board target j) e = absurd (omega (arith, e))
drain_kind (Custom r j) e = absurd (omega (arith, e))
drain_kind (Late j) e = absurd (omega (arith, e))
drain_kind Trap e = absurd (omega (arith, e))
drain_kind (Drain j) e = (j, refl)
drain_kind (Wait left) e = absurd (omega (arith, e))
drain_kind (StoreAhead j) e = absurd (omega (arith, e))
drain_kind (Tail left) e = absurd (omega (arith, e))
drain_kind (UnitFull u) e = absurd (omega (arith, e))
drain_kind (Port j) e = absurd (omega (arith, e))
drain_kind Behind e = absurd (omega (arith, e))

pub wait_kind : (h : Hold) → kind_of h ≡ 6 → (left : ℕ) × (h ≡ Wait left)
wait_kind (Operand r j) e = absurd (omega (arith, e))
wait_kind (Board target j) e = absurd (omega (arith, e))
wait_kind (Custom r j) e = absurd (omega (arith, e))
wait_kind (Late j) e = absurd (omega (arith, e))
wait_kind Trap e = absurd (omega (arith, e))
wait_kind (Drain j) e = absurd (omega (arith, e))
wait_kind (Wait left) e = (left, refl)
wait_kind (StoreAhead j) e = absurd (omega (arith, e))
wait_kind (Tail left) e = absurd (omega (arith, e))
wait_kind (UnitFull u) e = absurd (omega (arith, e))
wait_kind (Port j) e = absurd (omega (arith, e))
wait_kind Behind e = absurd (omega (arith, e))

pub store_kind : (h : Hold) → kind_of h ≡ 7 → (j : ℕ) × (h ≡ StoreAhead j)
store_kind (Operand r j) e = absurd (omega (arith, e))
store_kind (Board target j) e = absurd (omega (arith, e))
store_kind (Custom r j) e = absurd (omega (arith, e))
store_kind (Late j) e = absurd (omega (arith, e))
store_kind Trap e = absurd (omega (arith, e))
store_kind (Drain j) e = absurd (omega (arith, e))
store_kind (Wait left) e = absurd (omega (arith, e))
store_kind (StoreAhead j) e = (j, refl)
store_kind (Tail left) e = absurd (omega (arith, e))
store_kind (UnitFull u) e = absurd (omega (arith, e))
store_kind (Port j) e = absurd (omega (arith, e))
store_kind Behind e = absurd (omega (arith, e))

pub module_kind : (h : Hold) → kind_of h ≡ 8 → (left : ℕ) × (h ≡ Tail left)
module_kind (Operand r j) e = absurd (omega (arith, e))
module_kind (Board target j) e = absurd (omega (arith, e))
module_kind (Custom r j) e = absurd (omega (arith, e))
module_kind (Late j) e = absurd (omega (arith, e))
module_kind Trap e = absurd (omega (arith, e))
module_kind (Drain j) e = absurd (omega (arith, e))
module_kind (Wait left) e = absurd (omega (arith, e))
module_kind (StoreAhead j) e = absurd (omega (arith, e))
module_kind (Tail left) e = (left, refl)
module_kind (UnitFull u) e = absurd (omega (arith, e))
module_kind (Port j) e = absurd (omega (arith, e))
module_kind Behind e = absurd (omega (arith, e))

pub unit_kind : (h : Hold) → kind_of h ≡ 9 → (u : ℕ) × (h ≡ UnitFull u)
unit_kind (Operand r j) e = absurd (omega (arith, e))
unit_kind (Board target j) e = absurd (omega (arith, e))
unit_kind (Custom r j) e = absurd (omega (arith, e))
unit_kind (Late j) e = absurd (omega (arith, e))
unit_kind Trap e = absurd (omega (arith, e))
unit_kind (Drain j) e = absurd (omega (arith, e))
unit_kind (Wait left) e = absurd (omega (arith, e))
unit_kind (StoreAhead j) e = absurd (omega (arith, e))
unit_kind (Tail left) e = absurd (omega (arith, e))
unit_kind (UnitFull u) e = (u, refl)
unit_kind (Port j) e = absurd (omega (arith, e))
unit_kind Behind e = absurd (omega (arith, e))

pub port_kind : (h : Hold) → kind_of h ≡ 10 → (j : ℕ) × (h ≡ Port j)
port_kind (Operand r j) e = absurd (omega (arith, e))
port_kind (Board target j) e = absurd (omega (arith, e))
port_kind (Custom r j) e = absurd (omega (arith, e))
port_kind (Late j) e = absurd (omega (arith, e))
port_kind Trap e = absurd (omega (arith, e))
port_kind (Drain j) e = absurd (omega (arith, e))
port_kind (Wait left) e = absurd (omega (arith, e))
port_kind (StoreAhead j) e = absurd (omega (arith, e))
port_kind (Tail left) e = absurd (omega (arith, e))
port_kind (UnitFull u) e = absurd (omega (arith, e))
port_kind (Port j) e = (j, refl)
port_kind Behind e = absurd (omega (arith, e))

pub trap_kind : (h : Hold) → kind_of h ≡ 4 → h ≡ Trap
trap_kind (Operand r j) e = absurd (omega (arith, e))
trap_kind (Board t j) e = absurd (omega (arith, e))
trap_kind (Custom r j) e = absurd (omega (arith, e))
trap_kind (Late j) e = absurd (omega (arith, e))
trap_kind Trap e = refl
trap_kind (Drain j) e = absurd (omega (arith, e))
trap_kind (Wait left) e = absurd (omega (arith, e))
trap_kind (StoreAhead j) e = absurd (omega (arith, e))
trap_kind (Tail left) e = absurd (omega (arith, e))
trap_kind (UnitFull u) e = absurd (omega (arith, e))
trap_kind (Port j) e = absurd (omega (arith, e))
trap_kind Behind e = absurd (omega (arith, e))

-- The first of a kind, and the first of a kind or a later one

-- it is the first of the true holds of this kind, or there is none
abbrev pub FirstOf : Setting → List Row → Row → ℕ → Cell → ℕ → Option Hold → Type 0
FirstOf k earlier row stage c n None = (h : Hold) → kind_of h ≡ n → OwnHold k earlier row stage c h → ⊥
FirstOf k earlier row stage c n (Some h) = (kind_of h ≡ n) × OwnHold k earlier row stage c h × ((g : Hold) → kind_of g ≡ n → OwnHold k earlier row stage c g → ComesFirst h g)

-- the same of this kind and the later ones
abbrev pub FirstFrom : Setting → List Row → Row → ℕ → Cell → ℕ → Option Hold → Type 0
FirstFrom k earlier row stage c n None = (h : Hold) → n ≤ kind_of h → OwnHold k earlier row stage c h → ⊥
FirstFrom k earlier row stage c n (Some h) = OwnHold k earlier row stage c h × ((g : Hold) → n ≤ kind_of g → OwnHold k earlier row stage c g → ComesFirst h g)

pub joined : (k : Setting) (earlier : List Row) (row : Row) (stage : ℕ) (c : Cell) (n : ℕ) (o p : Option Hold) → FirstOf k earlier row stage c n o → (o ≡ None → FirstFrom k earlier row stage c (suc n) p) → FirstFrom k earlier row stage c n (or_else o p)
joined k earlier row stage c n (Some h) p x y = (
  x.1,
  λ g le own. elim (cases_lt n (kind_of g)) [
    | inl less ↦ let e = x.0 in inl (omega (arith, less, e))
    | inr more ↦ let e : kind_of g ≡ n = omega (arith, le, more) in x.2 g e own
  ],
)
joined k earlier row stage c n None None x y = λ h le own. elim (cases_lt n (kind_of h)) [
  | inl less ↦ y refl h (omega (arith, less)) own
  | inr more ↦ let e : kind_of h ≡ n = omega (arith, le, more) in x h e own
]
joined k earlier row stage c n None (Some h) x y =
    let z = y refl in (
      z.0,
      λ g le own. elim (cases_lt n (kind_of g)) [
        | inl less ↦ z.1 g (omega (arith, less)) own
        | inr more ↦ let e : kind_of g ≡ n = omega (arith, le, more) in absurd (x g e own)
      ],
    )

-- whatever is true of a cell of its own comes before Behind
pub own_kind : (k : Setting) (earlier : List Row) (row : Row) (stage : ℕ) (c : Cell) (h : Hold) → OwnHold k earlier row stage c h → kind_of h < 11
own_kind k earlier row stage c (Operand r j) o = omega arith
own_kind k earlier row stage c (Board target j) o = omega arith
own_kind k earlier row stage c (Custom r j) o = omega arith
own_kind k earlier row stage c (Late j) o = omega arith
own_kind k earlier row stage c Trap o = omega arith
own_kind k earlier row stage c (Drain j) o = omega arith
own_kind k earlier row stage c (Wait left) o = omega arith
own_kind k earlier row stage c (StoreAhead j) o = omega arith
own_kind k earlier row stage c (Tail left) o = omega arith
own_kind k earlier row stage c (UnitFull u) o = omega arith
own_kind k earlier row stage c (Port j) o = omega arith
own_kind k earlier row stage c Behind o = absurd o

-- The order in which they are decided

pub or_assoc : (a b c : Option Hold) → or_else (or_else a b) c ≡ or_else a (or_else b c)
or_assoc None b c = refl
or_assoc (Some h) b c = refl

pub if_or : (b : Bool) (x y : Option Hold) → (if b then or_else x y else None) ≡ or_else (if b then x else None) (if b then y else None)
if_or true x y = refl
if_or false x y = refl

-- where nothing is there the next one is
pub or_none : (a b : Option Hold) → a ≡ None → or_else a b ≡ b
or_none None b e = refl
or_none (Some h) b e = cc

pub or_right : (a : Option Hold) → or_else a None ≡ a
or_right None = refl
or_right (Some h) = refl
