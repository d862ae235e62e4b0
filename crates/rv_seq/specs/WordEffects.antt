-- The effect of an instruction, and of always-blocks, from one state before (this project's choice: blocks act in the order of the source, then the instruction).
use Rattle.std.specs.Prelude.{◌≡◌, ℕ, zero, suc, List, length, replicate, get_or, slice_get, Option, None, IfSome}
use Rattle.std.specs.Option.{option_or}
use Rattle.ix_bits.specs.declared.number.Bits.{Bits}
use Rattle.ix_extension.specs.Extensions.{ExtensionTree}
use Rattle.ix_mean.specs.Meaning.{Inputs}
use Rattle.ix_behaviour.specs.declared.which.Which.TheVariants as W
use Rattle.ix_eval.specs.Tables.{table}
use Rattle.ix_eval.specs.Evaluated.{type_of_custom, effect_at}
use Rattle.ix_eval.specs.declared.effect.Effect.{Effect}
use Rattle.rv_seq.specs.declared.decoded.Decoded.{Decoded}
use Rattle.rv_seq.specs.declared.decoded.Decoded.TheVariants as D
use Rattle.rv_seq.specs.BaseEffects.{base_effect}

-- what an instruction does
unfoldable pub effect_of : ExtensionTree → Decoded → Inputs → Effect
effect_of x (D.Base b) i = base_effect b i
effect_of x (D.Own n) i = effect_at x (W.Instruction n) i

-- custom register by custom register, the later write, or the earlier one where there is no later
abbrev pub customs_over : List (Option Bits) → List (Option Bits) → List (Option Bits)
customs_over later earlier = table (λ r. option_or (get_or later r None) (get_or earlier r None)) 16

-- an effect behind those of always-blocks, which know neither x registers nor memory: what both write is as the later one writes it
unfoldable pub over : Effect → Effect → Effect
over later earlier =
    record {
      rd = later.rd;
      pc = option_or later.pc earlier.pc;
      custom = customs_over later.custom earlier.custom;
      load = later.load;
      store = later.store;
    }

abbrev pub no_effect : Effect
no_effect = record { rd = None; pc = None; custom = replicate 16 None; load = None; store = None }

-- the first n always-blocks, one behind the other
unfoldable pub blocks_effect : ExtensionTree → Inputs → ℕ → Effect
blocks_effect x i zero = no_effect
blocks_effect x i (suc n) = over (effect_at x (W.Block n) i) (blocks_effect x i n)

-- custom registers have patterns of their widths, those past the extension's of one bit
pub record AreWide (x : ExtensionTree) (custom : List Bits) : Type 0 where
  pub count : length custom ≡ 16
  pub widths : (r : ℕ) → IfSome (slice_get custom r) (λ b. b.width ≡ (type_of_custom x r).width)
