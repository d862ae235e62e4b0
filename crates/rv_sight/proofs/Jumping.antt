-- Always-blocks jump to the same address whatever the memory holds.
use Rattle.std.proofs.Common.{◌≡◌, refl, ap, ℕ, zero, suc, ◌<◌, ◌≤◌, arith, List, [], length, Option}
use Rattle.ix_extension.specs.Extensions.{ExtensionTree, view_extension}
use Rattle.ix_mean.specs.declared.evaluate.State.{State}
use Rattle.ix_mean.specs.Given.{inputs_of}
use Rattle.ix_mean.specs.Meaning.{Inputs, Write}
use Rattle.ix_behaviour.specs.declared.which.Which.TheVariants as W
use Rattle.ix_behaviour.specs.Behaviours.{effect_by_name}
use Rattle.ix_depends.specs.Depends.{AreLowWrites, value_written}
use Rattle.ix_depends.specs.Laws.{BlindLaw}
use Rattle.ix_eval.specs.Evaluated.{effect_at}
use Rattle.ix_plan.specs.declared.design.Design.{Design}
use Rattle.ix_standing.specs.Standing.{Stands}
use Rattle.rv_seq.specs.Memory.{peeked}
use Rattle.rv_seq.specs.WordEffects.{blocks_effect}
use Rattle.rv_lawful.specs.Sight.{JumpLaw}
use Rattle.rv_sight.proofs.Coming.{IsSameBlocks, over_blocks}
use Rattle.rv_sight.proofs.Parts.{pc_same, customs_same}

module _ (blind : BlindLaw) (d : Design) (stands : Stands d) where
  abbrev x : ExtensionTree
  x = view_extension d.extension

  module _ (i : State) (memory other : List ℕ) where
    abbrev here : Inputs
    here = inputs_of i (peeked memory)

    abbrev there : Inputs
    there = inputs_of i (peeked other)

    -- one block
    block_same : (m : ℕ) → m < length x.blocks → IsSameBlocks (effect_at x (W.Block m) here) (effect_at x (W.Block m) there)
    block_same m l =
        let w = W.Block m in
        let named : effect_by_name x w here ≡ effect_by_name x w there = blind stands.well_formed.0 x m here here.rs1 here.rs2 there.memory stands.well_formed.1 l in
        let values : (n : ℕ) → AreLowWrites [] (λ q. Unit {0}) n → value_written (effect_by_name x w here) n ≡ value_written (effect_by_name x w there) n =
        λ n h. ap (λ (z : List (Option Write)). value_written z n) named in
        record {
          pc = pc_same x w [] here there (λ q. Unit {0}) values (λ n o e t. tt);
          custom = customs_same x w [] here there (λ q. Unit {0}) values (λ r n o e t. tt);
        }

    -- the blocks up to one
    blocks_same : (m : ℕ) → m ≤ length x.blocks → IsSameBlocks (blocks_effect x here m) (blocks_effect x there m)
    unfolding blocks_effect
    blocks_same zero l = record { pc = refl; custom = refl }
    blocks_same (suc m) l =
        let b = block_same m (omega (arith, l)) in
        over_blocks (effect_at x (W.Block m) here) (effect_at x (W.Block m) there) (blocks_effect x here m) (blocks_effect x there m) b.pc b.custom (blocks_same m (omega (arith, l)))

  pub jump_law : JumpLaw d
  jump_law file at word memory =
      (blocks_same (record { word = word; rs1 = 0; rs2 = 0; pc = at; custom = file }) memory [] (length x.blocks) (omega arith)).pc
