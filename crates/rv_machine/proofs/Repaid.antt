-- What is owed beside the stages changes registers alone.
use Rattle.std.proofs.Common.{◌≡◌, ◌∙◌, ap, List, [], ◌∷◌, Bool, refl, ℕ}
use Rattle.rv_seq.specs.declared.arch.Arch.{Arch}
use Rattle.rv_seq.specs.Interrupts.{resumed, diverted}
use Rattle.rv_tried.specs.declared.parts.Spawned.{Spawned}
use Rattle.rv_tried.specs.Parts.{paid}
use Rattle.rv_engine.specs.declared.owing.Owed.{Owed}
use Rattle.rv_machine.specs.Owing.{repaid}

-- what is owed is no memory
pub repaid_memory : (owed : List Owed) (s : Arch) → (repaid owed s).mem ≡ s.mem
unfolding paid
repaid_memory [] s = refl
repaid_memory (o ∷ older) s = repaid_memory older s

pub repaid_pc : (owed : List Owed) (s : Arch) → (repaid owed s).pc ≡ s.pc
unfolding paid
repaid_pc [] s = refl
repaid_pc (o ∷ older) s = repaid_pc older s

-- the entry of the handler and what is owed are apart
pub paid_diverted : (handler : ℕ) (w : Spawned) (s : Arch) → paid w (diverted handler s) ≡ diverted handler (paid w s)
unfolding paid diverted
paid_diverted handler w s = refl

pub repaid_diverted : (handler : ℕ) (owed : List Owed) (s : Arch) → repaid owed (diverted handler s) ≡ diverted handler (repaid owed s)
repaid_diverted handler [] s = refl
repaid_diverted handler (o ∷ older) s = ap (λ t. paid o.writes t) (repaid_diverted handler older s) ∙ paid_diverted handler o.writes (repaid older s)

pub repaid_trap : (owed : List Owed) (s : Arch) → (repaid owed s).trap ≡ s.trap
unfolding paid
repaid_trap [] s = refl
repaid_trap (o ∷ older) s = repaid_trap older s

-- that interrupts are taken again changes nothing else
pub paid_resumed : (returns : Bool) (w : Spawned) (s : Arch) → paid w (resumed returns s) ≡ resumed returns (paid w s)
unfolding paid
paid_resumed returns w s = refl

pub repaid_resumed : (returns : Bool) (owed : List Owed) (s : Arch) → repaid owed (resumed returns s) ≡ resumed returns (repaid owed s)
repaid_resumed returns [] s = refl
repaid_resumed returns (o ∷ older) s = ap (λ (t : Arch). paid o.writes t) (repaid_resumed returns older s) ∙ paid_resumed returns o.writes (repaid older s)
