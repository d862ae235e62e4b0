-- Where an instruction stops the run (RV32I: environment calls, misaligned addresses; that each of these stops the run is this project's choice).
use Rattle.std.specs.Prelude.{ℕ, ◌%◌, Option, Some, None, if◌then◌else◌, nat_eq}
use Rattle.std.specs.Option.{option_or}
use Rattle.rv_base.specs.declared.operation.Operation.{Operation}
use Rattle.rv_base.specs.declared.operation.Operation.TheVariants.{Call, Break}
use Rattle.rv_base.specs.Operations.{operation_at}
use Rattle.rv_memory.specs.Room.{is_inside}
use Rattle.ix_eval.specs.declared.access.Access.{Access}
use Rattle.ix_eval.specs.declared.effect.Effect.{Effect}
use Rattle.rv_seq.specs.declared.decoded.Decoded.{Decoded}
use Rattle.rv_seq.specs.declared.decoded.Decoded.TheVariants as D
use Rattle.rv_seq.specs.declared.commit.Stop.{Stop}
use Rattle.rv_seq.specs.declared.commit.Stop.TheVariants.{Ecall, Ebreak, Misaligned, DataRange, Target}

-- an access stops where its size does not divide its address, else where it leaves the memory
abbrev pub access_stop : Access → Option Stop
access_stop a = if nat_eq (a.at % a.bytes) 0 then (if is_inside a.at a.bytes then None else Some DataRange) else Some Misaligned

abbrev pub load_stop : Option Access → Option Stop
load_stop None = None
load_stop (Some a) = access_stop a

abbrev pub store_stop : Option (Access × ℕ) → Option Stop
store_stop None = None
store_stop (Some s) = access_stop s.0

-- ECALL and EBREAK stop
abbrev pub operation_stop : Operation → Option Stop
operation_stop Call = Some Ecall
operation_stop Break = Some Ebreak
operation_stop _ = None

abbrev pub call_stop : Decoded → Option Stop
call_stop (D.Base b) = operation_stop (operation_at b.row)
call_stop (D.Own n) = None

-- a base jump or a taken branch stops where 4 does not divide its address; after that of an extension the next fetch stops
abbrev pub target_stop : Decoded → Option ℕ → Option Stop
target_stop (D.Base b) (Some a) = if nat_eq (a % 4) 0 then None else Some Target
target_stop (D.Base b) None = None
target_stop (D.Own n) a = None

-- why an instruction with this effect stops, if it does
abbrev pub stop_of : Decoded → Effect → Option Stop
stop_of d e = option_or (option_or (option_or (call_stop d) (load_stop e.load)) (store_stop e.store)) (target_stop d e.pc)
