-- The future file with what is owed beside the stages.
use Rattle.std.proofs.Common.{◌≡◌, ◌∙◌, ap, refl, ℕ, ◌+◌, ◌<◌, List, [], ◌∷◌, get_or, None, Bool, false}
use Rattle.std.specs.Prelude.{if◌then◌else◌, ◌&&◌}
use Rattle.ix_bits.specs.declared.number.Bits.{Bits}
use Rattle.ix_eval.proofs.Tables.{table_at}
use Rattle.rv_asks.specs.declared.asks.Asks.{Asks}
use Rattle.rv_seq.specs.declared.commit.Commit.{Commit}
use Rattle.rv_seq.specs.declared.commit.Slot.TheVariants.{Absent}
use Rattle.rv_seq.specs.Commits.{with_slot}
use Rattle.rv_seq.specs.States.{zero_bit}
use Rattle.rv_tried.specs.declared.parts.Spawned.{Spawned}
use Rattle.rv_tried.specs.Parts.{spawned}
use Rattle.rv_trace.specs.declared.row.Row.{Row}
use Rattle.rv_trace.specs.Trace.{place}
use Rattle.rv_unit.specs.declared.entry.Entry.{Entry}
use Rattle.rv_engine.specs.declared.owing.Owed.{Owed}
use Rattle.rv_engine.specs.Owing.{holder}
use Rattle.rv_engine.specs.Settings.{Setting}
use Rattle.rv_lawful.specs.Outstanding.{Decoupled, has_target}
use Rattle.rv_machine.specs.Owing.{judged, paid_owed, Owing}
use Rattle.rv_machine.specs.Placed.{paid_file}
use Rattle.rv_machine.proofs.Apart.{holder_parts}
use Rattle.rv_machine.proofs.Numbers.{custom_at}
use Rattle.rv_machine.proofs.Trying.{UnowedFile}

-- what a `spawn` body writes to one of the sixteen
pub spawned_at : (a : Asks) (own : List Bool) (c : Commit) (reg : ℕ) → reg < 16 → get_or (spawned a own c).custom reg Absent ≡ (if get_or a.spawned_customs reg false && get_or own reg false then get_or c.custom reg Absent else Absent)
unfolding spawned
spawned_at a own c reg few = table_at (λ n. if get_or a.spawned_customs n false && get_or own n false then get_or c.custom n Absent else Absent) 16 reg Absent few

-- nothing where it is no target
pub unspawned_at : (a : Asks) (own : List Bool) (c : Commit) (reg : ℕ) → reg < 16 → get_or a.spawned_customs reg false ≡ false → get_or (spawned a own c).custom reg Absent ≡ Absent
unspawned_at a own c reg few none = spawned_at a own c reg few ∙ ap (λ (b : Bool). if b && get_or own reg false then get_or c.custom reg Absent else Absent) none

-- a register that nothing owes
pub unowed_custom : (k : Setting) (rows : List Row) (outs : List Decoupled) (entries : List Entry) (owed : List Owed) (reg : ℕ) (v : Bits) → reg < 16 → Owing k rows outs entries owed → holder (32 + reg) owed ≡ None → paid_owed reg owed v ≡ v
unowed_custom k rows [] [] [] reg v few h none = refl
unowed_custom k rows [] [] (w ∷ owed) reg v few h none = absurd h
unowed_custom k rows [] (e ∷ entries) owed reg v few h none = absurd h
unowed_custom k rows (o ∷ outs) [] owed reg v few h none = absurd h
unowed_custom k rows (o ∷ outs) (e ∷ entries) [] reg v few h none = absurd h
unowed_custom k rows (o ∷ outs) (e ∷ entries) (w ∷ owed) reg v few h none =
    let x = holder_parts (32 + reg) w owed none in
    ap (λ s. with_slot (paid_owed reg owed v) s)
    (ap (λ (z : Spawned). get_or z.custom reg Absent) h.0.writes ∙ unspawned_at w.asks ((judged k).course.own (place rows o.0)) h.0.commit reg few (ap (λ g. has_target w.asks g) (custom_at reg) ∙ x.0))
    ∙ unowed_custom k rows outs entries owed reg v few h.2 x.1

pub paid_at : (owed : List Owed) (file : List Bits) (reg : ℕ) → reg < 16 → get_or (paid_file owed file) reg zero_bit ≡ paid_owed reg owed (get_or file reg zero_bit)
paid_at owed file reg few = table_at (λ n. paid_owed n owed (get_or file n zero_bit)) 16 reg zero_bit few

pub unowed_file : (k : Setting) (rows : List Row) (outs : List Decoupled) (entries : List Entry) (owed : List Owed) (future : List Bits) → Owing k rows outs entries owed → UnowedFile owed (paid_file owed future) future
unowed_file k rows outs entries owed future h reg few none = paid_at owed future reg few ∙ unowed_custom k rows outs entries owed reg (get_or future reg zero_bit) few h none
