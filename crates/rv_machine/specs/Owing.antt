-- What is outstanding beside the stages of a machine, against the rows before (this project's choice).
use Rattle.std.specs.Prelude.{◌≡◌, ℕ, suc, ◌<◌, List, [], ◌∷◌, ◌++◌, map, get_or, Some, None, true, false, ◌⊎◌}
use Rattle.ix_bits.specs.declared.number.Bits.{Bits}
use Rattle.ix_plan.specs.declared.design.Target.{Target}
use Rattle.rv_seq.specs.declared.arch.Arch.{Arch}
use Rattle.rv_seq.specs.declared.answer.StepAnswer.TheVariants.{Done}
use Rattle.rv_seq.specs.declared.commit.Commit.{Commit}
use Rattle.rv_seq.specs.declared.commit.Slot.TheVariants.{Absent}
use Rattle.rv_seq.specs.Commits.{with_slot}
use Rattle.rv_tried.specs.Parts.{spawned, paid}
use Rattle.rv_trace.specs.declared.row.Row.{Row}
use Rattle.rv_trace.specs.Trace.{place, is_flushed, is_retired, retirements}
use Rattle.rv_unit.specs.declared.entry.Entry.{Entry}
use Rattle.rv_holds.specs.declared.token.Token.{Token}
use Rattle.rv_holds.specs.Tokens.{Slots}
use Rattle.rv_holds.specs.Holds.{oldest, register_at, spawns_at}
use Rattle.rv_engine.specs.declared.owing.Owed.{Owed}
use Rattle.rv_engine.specs.Owing.{holder}
use Rattle.rv_engine.specs.Settings.{Setting, shape_of}
use Rattle.rv_lawful.specs.Settings as Lawful
use Rattle.rv_lawful.specs.Outstanding.{Decoupled, touches, has_target, targets_of, is_written}
use Rattle.rv_lawful.specs.LawfulTrace.{IsWordOf}
use Rattle.rv_lawful.specs.Sight.{asked}

-- what the rows of a setting are judged against, where the run goes to the handler at its places
abbrev pub judged : Setting → Lawful.Setting
judged k = Lawful.setting k.design k.image k.waits k.lines k.places

-- the state with what these owe, the oldest first
abbrev pub repaid : List Owed → Arch → Arch
repaid [] s = s
repaid (o ∷ older) s = paid o.writes (repaid older s)

-- the registers that these owe, in the order of retirement, each with the serial of its instruction
abbrev pub targets_owed : List Owed → List (ℕ × Target)
targets_owed [] = []
targets_owed (o ∷ older) = targets_owed older ++ map (λ t. (o.serial, t)) (targets_of o.asks)

-- a custom register with what these owe it, the oldest first
abbrev pub paid_owed : ℕ → List Owed → Bits → Bits
paid_owed reg [] v = v
paid_owed reg (o ∷ older) v = with_slot (paid_owed reg older v) (get_or o.writes.custom reg Absent)

-- an entry, and what it owes, are those of a retired instruction with this serial and word: it has this unit, and owes what the step at its place spawns
pub record IsOwing (k : Setting) (rows : List Row) (o : Decoupled) (e : Entry) (w : Owed) : Type 0 where
  pub entry : e.serial ≡ o.0
  pub owed : w.serial ≡ o.0
  pub asks : w.asks ≡ asked k.design o.1
  pub unit : w.asks.unit ≡ Some e.unit
  pub past : place rows o.0 < retirements rows
  pub alive : is_flushed rows o.0 ≡ false
  pub retired : is_retired rows o.0 ≡ true
  pub unwritten : is_written rows o.0 ≡ false
  pub known : IsWordOf (judged k) rows o.0 o.1
  pub only : (word : ℕ) → IsWordOf (judged k) rows o.0 word → word ≡ o.1
  pub commit : Commit
  pub step : (judged k).course.answer (place rows o.0) ≡ Done commit
  pub word : commit.word ≡ o.1
  pub writes : w.writes ≡ spawned w.asks ((judged k).course.own (place rows o.0)) commit

-- these have lower places
abbrev pub AreBelow : List Row → ℕ → List Decoupled → Type 0
AreBelow rows p [] = Unit {0}
AreBelow rows p (o ∷ older) = (place rows o.0 < p) × AreBelow rows p older

-- the entries, and what they owe, are those of the outstanding instructions, one by one, the newest first
abbrev pub Owing : Setting → List Row → List Decoupled → List Entry → List Owed → Type 0
Owing k rows [] [] [] = Unit {0}
Owing k rows (o ∷ outs) (e ∷ entries) (w ∷ owed) = IsOwing k rows o e w × AreBelow rows (place rows o.0) outs × Owing k rows outs entries owed
Owing k rows [] [] (w ∷ owed) = ⊥
Owing k rows [] (e ∷ entries) owed = ⊥
Owing k rows (o ∷ outs) [] owed = ⊥
Owing k rows (o ∷ outs) (e ∷ entries) [] = ⊥

-- a row of these retires an instruction of this serial with this word
abbrev pub RetiredAs : List Row → ℕ → ℕ → Type 0
RetiredAs [] s word = ⊥
RetiredAs (row ∷ earlier) s word = ((c : Commit) × (row.retired ≡ Some (s, c)) × (c.word ≡ word)) ⊎ RetiredAs earlier s word

-- no two of these owe one register
abbrev pub Distinct : List Owed → Type 0
Distinct [] = Unit {0}
Distinct (o ∷ older) = ((n : ℕ) → n < 48 → has_target o.asks (register_at n) ≡ true → holder n older ≡ None) × Distinct older

-- the token touches no register that an older one spawns, or that is owed
pub record IsApart (owed : List Owed) (older : Slots) (t : Token) : Type 0 where
  pub tokens : (n : ℕ) → n < 48 → touches t.asks (register_at n) ≡ true → oldest (spawns_at n) older ≡ None
  pub entries : (n : ℕ) → n < 48 → touches t.asks (register_at n) ≡ true → holder n owed ≡ None

-- so of each token past RD
abbrev pub Apart : Setting → List Owed → ℕ → Slots → Type 0
Apart k owed stage [] = Unit {0}
Apart k owed stage (None ∷ older) = Apart k owed (suc stage) older
Apart k owed stage (Some t ∷ older) = ((shape_of k).rd < stage → IsApart owed older t) × Apart k owed (suc stage) older
