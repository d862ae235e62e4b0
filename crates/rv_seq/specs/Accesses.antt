-- The memory access of an instruction of an extension, by the names in its behaviour.
use Rattle.std.specs.Prelude.{◌≡◌, ℕ, ◌<◌, ◌^◌, length, Option, option_map}
use Rattle.std.specs.Option.{option_or}
use Rattle.ix_tree.specs.TypedTrees.{TypedTextTree}
use Rattle.ix_extension.specs.Extensions.{ExtensionTree}
use Rattle.ix_extension.specs.WellFormed.{IsOf}
use Rattle.ix_mean.specs.Meaning.{Inputs}
use Rattle.ix_behaviour.specs.declared.which.Which.TheVariants as W
use Rattle.ix_behaviour.specs.Behaviours.{statement_at, stored_type, effect_by_name, reads_by_name}
use Rattle.ix_eval.specs.Evaluated.{store_of, read_of, written}
use Rattle.ix_eval.specs.Readings.{first_of}
use Rattle.ix_eval.specs.declared.access.Access.{Access}
use Rattle.rv_seq.specs.declared.arch.Arch.{Arch}
use Rattle.rv_seq.specs.declared.decoded.Decoded.TheVariants as D
use Rattle.rv_seq.specs.Runs.{stored_at, access_in}
use Rattle.rv_seq.specs.States.{inputs_at}
use Rattle.rv_seq.specs.Steps.{own_effect}

-- the first read, or else where the write of memory stores
abbrev pub access_by_name : ExtensionTree → ℕ → Inputs → Option Access
access_by_name x n i =
    option_or (option_map read_of (first_of (reads_by_name x (W.Instruction n) i)))
    (option_map stored_at (option_map (store_of (stored_type (statement_at x (W.Instruction n)))) (written (effect_by_name x (W.Instruction n) i) 0)))

-- in any state the access of an instruction of a well-formed extension is what its behaviour does by its names
abbrev pub AccessLaw : Type 0
AccessLaw = (t : TypedTextTree) (x : ExtensionTree) (n word : ℕ) (s : Arch) → IsOf t x → n < length x.instructions → word < 2 ^ 32
    → access_in (own_effect x s word (D.Own n)) ≡ access_by_name x n (inputs_at word s)
