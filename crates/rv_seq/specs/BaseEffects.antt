-- The effect of an instruction of the base set, in the form of the effects of behaviours (RISC-V Unprivileged ISA, RV32I).
use Rattle.std.specs.Prelude.{ℕ, List, replicate, Option, Some, None, option_map}
use Rattle.rv_isa.specs.declared.base.Base.{Base}
use Rattle.rv_base.specs.declared.operation.Size.{Size}
use Rattle.rv_base.specs.Operations.{bytes_in}
use Rattle.rv_base.specs.Effects.{result_at, target_at, address_at, load_at, loaded_at, store_at}
use Rattle.ix_mean.specs.Meaning.{Inputs}
use Rattle.ix_eval.specs.Sizes.{sized}
use Rattle.ix_eval.specs.declared.access.Access.{Access}
use Rattle.ix_eval.specs.declared.effect.Effect.{Effect}

-- the bytes that a load or a store moves
abbrev pub base_access : Base → ℕ → Size → Access
base_access b x size = sized (bytes_in size) (address_at b x)

-- what is stored: the low bytes of the word in rs2
abbrev pub base_store : Base → ℕ → ℕ → Size → Access × ℕ
base_store b x y size = (base_access b x size, y)

-- what is written to rd: what a load makes of the bytes that it reads, or what the instruction computes
abbrev pub base_rd : Base → Inputs → Option Size → Option ℕ
base_rd b i (Some size) = Some (loaded_at b (i.memory (address_at b i.rs1) (bytes_in size)))
base_rd b i None = result_at b i.pc i.rs1 i.rs2

-- FENCE, ECALL and EBREAK do nothing
abbrev pub base_effect : Base → Inputs → Effect
base_effect b i =
    record {
      rd = base_rd b i (load_at b);
      pc = target_at b i.pc i.rs1 i.rs2;
      custom = replicate 16 None;
      load = option_map (base_access b i.rs1) (load_at b);
      store = option_map (base_store b i.rs1 i.rs2) (store_at b);
    }
