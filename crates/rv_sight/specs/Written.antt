-- Which x register the record of a step writes (this project's choice).
use Rattle.std.specs.Prelude.{◌≡◌, ◌≢◌, ◌⊎◌, ℕ, ◌<◌, ◌^◌, Some}
use Rattle.ix_extension.specs.Extensions.{view_extension}
use Rattle.ix_plan.specs.declared.design.Design.{Design}
use Rattle.rv_asks.specs.declared.asks.Asks.{Asks}
use Rattle.rv_seq.specs.Decoding.{decoded_in}
use Rattle.rv_seq.specs.WordEffects.{AreWide}
use Rattle.rv_seq.specs.declared.arch.Arch.{Arch}
use Rattle.rv_seq.specs.declared.answer.StepAnswer.TheVariants.{Done}
use Rattle.rv_seq.specs.declared.commit.Commit.{Commit}
use Rattle.rv_seq.specs.declared.commit.Slot.TheVariants.{Now}
use Rattle.rv_seq.specs.Steps.{of_decoded}
use Rattle.rv_lawful.specs.Sight.{asked, HasWords}

-- where a record writes an x register, that is not x0, and it is one that the instruction asks to write, itself or by `spawn`, and the spawn target where there is one
pub record IsAskedFor (a : Asks) (c : Commit) : Type 0 where
  pub some : (v : ℕ) → c.rd ≡ Now v → c.rd_index ≢ 0
  pub own : (v : ℕ) → c.rd ≡ Now v → (c.rd_index ≡ a.destination) ⊎ (a.spawned ≡ Some c.rd_index)
  pub spawned : (v r : ℕ) → c.rd ≡ Now v → a.spawned ≡ Some r → c.rd_index ≡ r

-- so does the record of each step
abbrev pub WrittenLaw : Design → Type 0
WrittenLaw d =
    (word : ℕ) (s : Arch) (c : Commit) → AreWide (view_extension d.extension) s.custom → HasWords s → word < 2 ^ 32 → s.pc < 2 ^ 32 →
    of_decoded (view_extension d.extension) s word (decoded_in (view_extension d.extension) word) ≡ Done c → IsAskedFor (asked d word) c
