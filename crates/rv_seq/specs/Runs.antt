-- The sequential run: step behind step from the first state, and what a pipeline is judged by in each step (this project's choice).
use Rattle.std.specs.Prelude.{ℕ, zero, suc, ◌+◌, List, [], ◌∷◌, ◌++◌, get_or, Option, Some, None, Bool, not, ◌&&◌, nat_eq, if◌then◌else◌}
use Rattle.std.specs.List.{list_any}
use Rattle.std.specs.Option.{option_or, option_map}
use Rattle.ix_bits.specs.declared.number.Bits.{Bits}
use Rattle.ix_extension.specs.Extensions.{ExtensionTree}
use Rattle.ix_behaviour.specs.declared.which.Which.TheVariants as W
use Rattle.ix_behaviour.specs.Behaviours.{spawned_at}
use Rattle.ix_eval.specs.declared.access.Access.{Access}
use Rattle.ix_eval.specs.declared.effect.Effect.{Effect}
use Rattle.rv_isa.specs.Fields.{rd_of}
use Rattle.rv_seq.specs.declared.decoded.Decoded.{Decoded}
use Rattle.rv_seq.specs.declared.decoded.Decoded.TheVariants as D
use Rattle.rv_seq.specs.declared.arch.Arch.{Arch}
use Rattle.rv_seq.specs.declared.answer.StepAnswer.{StepAnswer}
use Rattle.rv_seq.specs.States.{first}
use Rattle.rv_seq.specs.Steps.{step, after}
use Rattle.rv_seq.specs.Interrupts.{with_line, diverted}

-- where the run of a core with an interrupt line goes to the handler: the address at which that begins, and the places, each before the step there
pub record Entries : Type 0 where
  pub handler : ℕ
  pub places : List ℕ

-- the first state, with an interrupt line or without one
abbrev pub start : ExtensionTree → Option Entries → Arch
start x None = first x
start x (Some e) = with_line (first x)

-- the state at a place, where the run may go to the handler
abbrev pub entered : Option Entries → ℕ → Arch → Arch
entered None p s = s
entered (Some e) p s = if list_any (λ q. nat_eq q p) e.places then diverted e.handler s else s

-- the state after so many steps, where the run goes to the handler at these places
unfoldable pub run_with : ExtensionTree → List ℕ → Option Entries → ℕ → Arch
run_with x image e zero = entered e 0 (start x e)
run_with x image e (suc k) = entered e (suc k) (after x (run_with x image e k) (step x image (run_with x image e k)))

-- the same on a core without an interrupt line
abbrev pub run : ExtensionTree → List ℕ → ℕ → Arch
run x image k = run_with x image None k

-- what the step at each place comes to
abbrev pub answer_at : ExtensionTree → List ℕ → ℕ → StepAnswer
answer_at x image k = step x image (run x image k)

-- ---- the memory access of an instruction with this effect, if its condition is true
abbrev pub stored_at : Access × ℕ → Access
stored_at s = s.0

abbrev pub access_in : Effect → Option Access
access_in e = option_or e.load (option_map stored_at e.store)

-- ---- the writes of spawned bodies: which target, and what is written
pub data Spawn : Type 0 where
  to_x : ℕ → ℕ → Spawn
  to_custom : ℕ → Bits → Spawn

-- the targets that spawned bodies of the instruction write, by their numbers: rd is 1, custom register r is 3 + r
abbrev pub targets_in : ExtensionTree → Decoded → List ℕ
targets_in x (D.Base b) = []
targets_in x (D.Own n) = spawned_at x (W.Instruction n)

abbrev pub is_target : List ℕ → ℕ → Bool
is_target ts k = list_any (λ t. nat_eq t k) ts

-- a write of x0 is no write
abbrev pub x_spawn : List ℕ → ℕ → Option ℕ → List Spawn
x_spawn ts rd None = []
x_spawn ts rd (Some value) = if is_target ts 1 && not (nat_eq rd 0) then to_x rd value ∷ [] else []

abbrev pub custom_spawn : List ℕ → ℕ → Option Bits → List Spawn
custom_spawn ts r None = []
custom_spawn ts r (Some value) = if is_target ts (3 + r) then to_custom r value ∷ [] else []

abbrev pub custom_spawns : List ℕ → ℕ → List (Option Bits) → List Spawn
custom_spawns ts r [] = []
custom_spawns ts r (o ∷ os) = custom_spawn ts r o ++ custom_spawns ts (suc r) os

-- what the instruction of a word with this effect writes by spawned bodies, the x register before the custom ones
abbrev pub spawned_in : ExtensionTree → ℕ → Decoded → Effect → List Spawn
spawned_in x word d e = x_spawn (targets_in x d) (rd_of word) e.rd ++ custom_spawns (targets_in x d) 0 e.custom
