-- Interrupts, as a run one instruction at a time knows them: the entry of the handler and the return from it (RISC-V Privileged ISA, MRET; that an address and a flag
-- are all that is kept of them, and where the handler begins, is this project's choice).
use Rattle.std.specs.Prelude.{◌≡◌, ℕ, Option, Some, None, Bool, true, false, ◌&&◌, if◌then◌else◌, nat_eq, is_none}
use Rattle.ix_extension.specs.Extensions.{ExtensionTree}
use Rattle.rv_seq.specs.Decoding.{decoded_in}
use Rattle.rv_seq.specs.declared.arch.TrapState.{TrapState}
use Rattle.rv_seq.specs.declared.arch.Arch.{Arch}

-- the word 30200073, MRET (RISC-V Privileged ISA, trap-return instructions)
abbrev pub mret : ℕ
mret = 807403635

-- where a word that is no instruction goes on: MRET goes on where the interrupt was taken, on a core with an interrupt line
abbrev pub return_to : ℕ → Option TrapState → Option ℕ
return_to word None = None
return_to word (Some t) = if nat_eq word mret then Some t.epc else None

-- a word is a return where it is MRET, and no instruction of the base set or of the extension
abbrev pub is_return : ExtensionTree → ℕ → Bool
is_return x word = nat_eq word mret && is_none (decoded_in x word)

-- behind a return interrupts are taken again
abbrev pub enabled_again : Option TrapState → Option TrapState
enabled_again None = None
enabled_again (Some t) = Some (record { epc = t.epc; enabled = true })

abbrev pub resumed : Bool → Arch → Arch
resumed returns s = record { pc = s.pc; x = s.x; custom = s.custom; mem = s.mem; trap = if returns then enabled_again s.trap else s.trap }

-- the state of a core with an interrupt line, before its first interrupt
abbrev pub with_line : Arch → Arch
with_line s = record { pc = s.pc; x = s.x; custom = s.custom; mem = s.mem; trap = Some (record { epc = 0; enabled = true }) }

-- is an interrupt taken in this state?
abbrev pub is_enabled : Option TrapState → Bool
is_enabled None = false
is_enabled (Some t) = t.enabled

-- the state behind the entry of a handler that begins at this address
unfoldable pub diverted : ℕ → Arch → Arch
diverted entry s = record { pc = entry; x = s.x; custom = s.custom; mem = s.mem; trap = Some (record { epc = s.pc; enabled = false }) }
