-- A module of the instruction that adds, driven by the rows of the run of three stages: its cycles, what its ports show, and cycles that those rows do not drive (this project's
-- choice).
use Rattle.std.specs.Prelude.{◌≡◌, ℕ, List, [], ◌∷◌, codes}
use Rattle.ix_net.specs.declared.netlist.Net.{Net}
use Rattle.ix_net.specs.declared.netlist.Form.TheVariants.{Hex, Copy, Add}
use Rattle.rv_ports.specs.Driven.{IsDriven, port_values}
use Rattle.port_laws.specs.Hands.{one_1, addx, by_hand}
use Rattle.port_laws.specs.Adding.{adding, adding_rows}

-- the sum of both operands, kept where a token leaves time 1, and shown at time 2
abbrev pub adder : Net
adder =
    record {
      name = codes "ixt_addx";
      inputs = record { name = codes "en1"; width = 1 } ∷ record { name = codes "in0"; width = 32 } ∷ record { name = codes "in1"; width = 32 } ∷ [];
      cells =
          record { target = codes "sum"; width = 32; form = Add (codes "in0") (codes "in1") }
          ∷ record { target = codes "out4_v"; width = 32; form = Copy (codes "kept") }
          ∷ record { target = codes "out4_c"; width = 1; form = Hex one_1 }
          ∷ [];
      banks = record { target = codes "kept"; width = 32; enable = codes "en1"; source = codes "sum" } ∷ [];
      outputs = record { name = codes "out4_v"; width = 32 } ∷ record { name = codes "out4_c"; width = 1 } ∷ [];
    }

-- the values of its names in a cycle with these inputs, this sum and this number kept
abbrev pub cycle : ℕ → ℕ → ℕ → ℕ → ℕ → List ℕ
cycle en a b sum kept = en ∷ a ∷ b ∷ sum ∷ kept ∷ 1 ∷ kept ∷ []

-- its cycles, with this number kept in the last one
abbrev pub cycles_to : ℕ → List (List ℕ)
cycles_to last = cycle 0 0 0 0 0 ∷ cycle 1 0 0 0 0 ∷ cycle 1 0 0 0 0 ∷ cycle 0 0 0 0 0 ∷ cycle 1 5 7 12 0 ∷ cycle 0 0 0 0 last ∷ []

-- the rows drive these cycles
abbrev pub AreCycles : List (List ℕ) → Type 0
AreCycles cycles = IsDriven (λ places. by_hand adding) 0 addx adder adding_rows cycles

-- they do not
abbrev pub AreNotCycles : List (List ℕ) → Type 0
AreNotCycles cycles = AreCycles cycles → ⊥

-- what its ports show in the row in which the instruction is held, the one in which it leaves EX, and the one in which it retires, with the sum
abbrev pub PortsShow : Type 0
PortsShow =
    (port_values (adder ∷ []) (cycles_to 12 ∷ []) 3 ≡ 0 ∷ 0 ∷ 0 ∷ 0 ∷ 1 ∷ [])
    × (port_values (adder ∷ []) (cycles_to 12 ∷ []) 4 ≡ 1 ∷ 5 ∷ 7 ∷ 0 ∷ 1 ∷ [])
    × (port_values (adder ∷ []) (cycles_to 12 ∷ []) 5 ≡ 0 ∷ 0 ∷ 0 ∷ 12 ∷ 1 ∷ [])

-- the registers of the module are never clocked
abbrev pub unclocked : List (List ℕ)
unclocked = cycles_to 0

-- a cycle more than there are rows
abbrev pub cycle_more : List (List ℕ)
cycle_more = cycle 0 0 0 0 0 ∷ cycles_to 12
