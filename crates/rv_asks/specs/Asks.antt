-- What the laws of rows ask of an instruction of a design. That a FENCE reads and writes no register is this project's choice.
use Rattle.std.specs.Prelude.{◌≡◌, ℕ, zero, suc, ◌-◌, Bool, false, ◌||◌, if◌then◌else◌, ◌==◌, List, [], ◌∷◌, length, map, drop, Option, Some, None, is_some, slice_index_or}
use Rattle.std.specs.List.{list_any}
use Rattle.rv_isa.specs.declared.base.Base.{Base}
use Rattle.rv_isa.specs.declared.rows.TheConstants.{FENCE}
use Rattle.rv_isa.specs.Fields.{rd_of, rs1_of, rs2_of}
use Rattle.rv_base.specs.Effects.{load_at, store_at}
use Rattle.rv_core.specs.declared.Shape.{Shape}
use Rattle.rv_seq.specs.declared.decoded.Decoded.{Decoded}
use Rattle.rv_seq.specs.declared.decoded.Decoded.TheVariants as D
use Rattle.ix_graph.specs.declared.graph.Mode.{Mode}
use Rattle.ix_graph.specs.declared.graph.Mode.TheVariants.{Tight}
use Rattle.ix_plan.specs.declared.design.Plan.{Plan}
use Rattle.ix_plan.specs.declared.design.Design.{Design}
use Rattle.rv_asks.specs.declared.asks.Act.{Act}
use Rattle.rv_asks.specs.declared.asks.Asks.{Asks}
use Rattle.rv_asks.specs.declared.asks.Outline.{Outline}
use Rattle.rv_asks.specs.declared.asking.Asking.{Asking}
use Rattle.rv_asks.specs.Acts as acts
use Rattle.rv_unit.specs.Numbering.{unit_of}

-- f 0 to f (n - 1)
abbrev pub flags : (ℕ → Bool) → ℕ → List Bool
flags f zero = []
flags f (suc n) = f 0 ∷ flags (λ r. f (suc r)) n

-- for how many cycles a module of this mode goes on past the entry to the last stage, where its last time is this
abbrev pub tail_of : Mode → ℕ → ℕ → ℕ
tail_of Tight stages last = last - (stages - 1)
tail_of mode stages last = 0

-- what is asked of the instruction with these operations of its own, beside always-blocks with those
abbrev pub outline_of : ℕ → ℕ → List Act → List Act → Outline
outline_of ex tail blocks own =
    record {
      first = list_any acts.reads_first own;
      second = list_any acts.reads_second own;
      destination = list_any acts.writes_own own;
      x_time = acts.time_of acts.writes_own own;
      spawned = list_any acts.spawns_x own;
      loads = list_any acts.loads own;
      stores = list_any acts.stores own;
      late = list_any (acts.jumps_late ex) own;
      tail = tail;
      customs = flags (λ r. list_any (acts.touches r) own || list_any (acts.touches r) blocks) 16;
      late_customs = flags (λ r. list_any (acts.writes_late ex r) own) 16;
      spawned_customs = flags (λ r. list_any (acts.spawns_custom r) own) 16;
    }

-- what is asked of the instruction with this plan
unfoldable pub plan_outline : Shape → List Act → Plan → Outline
plan_outline shape blocks p = outline_of shape.ex (tail_of p.mode shape.stages p.last) blocks (acts.acts_of p)

-- the operations of the design's always-blocks
abbrev pub block_acts : Design → List Act
block_acts d = acts.acts_of_all (drop (length d.extension.instructions) d.plans)

-- what is asked by the blocks alone
abbrev pub blank_outline : Shape → List Act → Outline
blank_outline shape blocks = outline_of shape.ex 0 blocks []

-- the number, where it counts
abbrev pub where_so : Bool → ℕ → ℕ
where_so b n = if b then n else 0

-- the number, where there is one
abbrev pub some_so : Bool → ℕ → Option ℕ
some_so b n = if b then Some n else None

-- what is asked of the instruction with this outline and this unit, whose word is this
abbrev pub with_word : ℕ → Option ℕ → Outline → Asks
with_word word unit o =
    record {
      first = where_so o.first (rs1_of word);
      second = where_so o.second (rs2_of word);
      destination = where_so o.destination (rd_of word);
      x_time = o.x_time;
      spawned = some_so o.spawned (rd_of word);
      loads = o.loads;
      stores = o.stores;
      late = o.late;
      tail = o.tail;
      customs = o.customs;
      late_customs = o.late_customs;
      spawned_customs = o.spawned_customs;
      unit = unit;
    }

-- the time at which a base instruction writes its x register: a load at MEM, any other at EX
abbrev pub base_time : Shape → Base → ℕ
base_time shape b = if is_some (load_at b) then shape.mem else shape.ex

-- the x register that a base instruction writes; a FENCE has no such field
abbrev pub base_destination : Base → ℕ
base_destination b = if b.row == FENCE then 0 else b.rd

-- what is asked of a base instruction beside these custom registers of blocks; a FENCE has no field of a second operand
abbrev pub base_asks : Shape → List Bool → Base → Asks
base_asks shape customs b =
    record {
      first = if b.row == FENCE then 0 else b.rs1;
      second = b.rs2;
      destination = base_destination b;
      x_time = if base_destination b == 0 then 0 else base_time shape b;
      spawned = None;
      loads = is_some (load_at b);
      stores = is_some (store_at b);
      late = false;
      tail = 0;
      customs = customs;
      late_customs = flags (λ r. false) 16;
      spawned_customs = flags (λ r. false) 16;
      unit = None;
    }

-- what is asked of an instruction on a core of this shape, with the outlines of the plans, the unit of each, and the outline of the blocks alone
abbrev pub asks_with : Shape → List Outline → (ℕ → Option ℕ) → Outline → ℕ → Option Decoded → Asks
asks_with shape outlines unit blank word (Some (D.Base b)) = base_asks shape blank.customs b
asks_with shape outlines unit blank word (Some (D.Own n)) = with_word word (unit n) (slice_index_or outlines n blank)
asks_with shape outlines unit blank word None = with_word word None blank

-- what is asked of each plan's instruction but for the numbers of the x registers
abbrev pub outlines_in : Design → List Outline
outlines_in d = map (plan_outline d.sheet.shape (block_acts d)) d.plans

-- what is asked where there is no instruction
abbrev pub blank_in : Design → Outline
blank_in d = blank_outline d.sheet.shape (block_acts d)

-- what the laws of rows ask of the instruction that a word is on the design's core
unfoldable pub asks_in : Design → ℕ → Option Decoded → Asks
asks_in d word what = asks_with d.sheet.shape (outlines_in d) (unit_of d.plans) (blank_in d) word what

-- a design's outlines, its units, and the outline of its blocks alone
pub record IsAskingOf (d : Design) (a : Asking) : Type 0 where
  pub shape : a.shape ≡ d.sheet.shape
  pub outlines : a.outlines ≡ outlines_in d
  pub units : (n : ℕ) → slice_index_or a.units n None ≡ unit_of d.plans n
  pub blank : a.blank ≡ blank_in d
