-- The cycles of the adder that the rows drive, and those that they do not.
use Rattle.std.proofs.Common.{◌≡◌, ℕ, zero, suc, ◌<◌, ◌^◌, List, [], ◌∷◌, arith, refl, sym, ap, ◌∙◌, All}
use Rattle.std.specs.Prelude.{codes, length}
use Rattle.ix_net.specs.declared.netlist.Form.TheVariants.{Add}
use Rattle.ix_net.specs.declared.netlist.Cell.{Cell}
use Rattle.ix_net.specs.Run.{IsRun}
use Rattle.ix_net.specs.Valuation.{IsValuation, value_of, right_side}
use Rattle.port_laws.specs.Summing.{adder, cycle, cycles_to, cycle_more, unclocked, AreCycles, AreNotCycles, PortsShow}
use Rattle.port_laws.proofs.AddingInputs.{inputs_are}

is_cycle : (en a b sum kept : ℕ) → en < 2 ^ 1 → a < 2 ^ 32 → b < 2 ^ 32 → sum < 2 ^ 32 → kept < 2 ^ 32 → sum ≡ right_side adder (cycle en a b sum kept) (record { target = codes "sum"; width = 32; form = Add (codes "in0") (codes "in1") })
    → IsValuation adder (cycle en a b sum kept)
is_cycle en a b sum kept le la lb ls lk adds = record { fit = (le, (la, (lb, (ls, (lk, (omega arith, (lk, tt))))))); holds = holds } where
  holds : All (λ (c : Cell). value_of adder (cycle en a b sum kept) c.target ≡ right_side adder (cycle en a b sum kept) c) adder.cells
  holds zero d l = adds
  holds (suc zero) d l = refl
  holds (suc (suc zero)) d l = refl
  holds (suc (suc (suc k))) d l = absurd (omega (arith, l))

empty : (en : ℕ) → en < 2 ^ 1 → IsValuation adder (cycle en 0 0 0 0)
empty en le = is_cycle en 0 0 0 0 le (omega arith) (omega arith) (omega arith) (omega arith) refl

going : IsValuation adder (cycle 1 5 7 12 0)
going = is_cycle 1 5 7 12 0 (omega arith) (omega arith) (omega arith) (omega arith) (omega arith) refl

last : IsValuation adder (cycle 0 0 0 0 12)
last = is_cycle 0 0 0 0 12 (omega arith) (omega arith) (omega arith) (omega arith) (omega arith) refl

is_run : IsRun adder (cycles_to 12)
is_run =
    (empty 0 (omega arith), refl, (empty 1 (omega arith), refl, (empty 1 (omega arith), refl, (empty 0 (omega arith), refl, (going, refl, (last, refl, tt))))))

pub cycles_are : AreCycles (cycles_to 12)
cycles_are = record { run = is_run; inputs = sym inputs_are }

pub ports_show : PortsShow
ports_show = (refl, refl, refl)

pub unclocked_refused : AreNotCycles unclocked
unclocked_refused e = not_kept (kept e.run) where
  kept : IsRun adder unclocked → ◌≡◌ {A = List ℕ} (0 ∷ []) (12 ∷ [])
  kept r = r.2.2.2.2.2.1

  not_kept : ◌≡◌ {A = List ℕ} (0 ∷ []) (12 ∷ []) → ⊥
  not_kept q = cc

pub cycle_more_refused : AreNotCycles cycle_more
cycle_more_refused e = not_seven (ap length e.inputs ∙ ap length inputs_are) where
  not_seven : ◌≡◌ {A = ℕ} 7 6 → ⊥
  not_seven q = omega (arith, q)
