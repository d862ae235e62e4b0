-- The setting of a hart of a design that stands is what the proofs ask for.
use Rattle.std.proofs.Common.{◌≡◌, refl, sym, ap, ℕ, zero, suc, ◌+◌, ◌-◌, List, [], ◌∷◌, length, Option, Some, None, arith}
use Rattle.std.specs.Prelude.{replicate, slice_get}
use Rattle.ix_extension.specs.Extensions.{ExtensionTree, view_extension}
use Rattle.ix_graph.specs.declared.graph.Mode.{Mode}
use Rattle.ix_graph.specs.declared.graph.Mode.TheVariants.{InPipeline, Tight, Decoupled, Always}
use Rattle.ix_plan.specs.declared.design.Plan.{Plan}
use Rattle.ix_plan.specs.declared.design.Design.{Design}
use Rattle.ix_plan.specs.Units.{Slots, unit_in, first_units}
use Rattle.ix_standing.specs.Standing.{Stands}
use Rattle.rv_seq.specs.declared.decoded.Decoded.{Decoded}
use Rattle.rv_seq.specs.Decoding.{decoded_in}
use Rattle.rv_seq.specs.declared.arch.Arch.{Arch}
use Rattle.rv_seq.specs.declared.answer.StepAnswer.TheVariants.{Done}
use Rattle.rv_seq.specs.declared.commit.Commit.{Commit}
use Rattle.rv_seq.specs.declared.commit.Stop.{Stop}
use Rattle.rv_seq.specs.Commits.{commit_of}
use Rattle.rv_seq.specs.Interrupts.{return_to}
use Rattle.rv_seq.specs.Runs.{run_with}
use Rattle.rv_seq.specs.States.{first}
use Rattle.rv_seq.specs.Stops.{stop_of}
use Rattle.rv_seq.specs.Steps.{word_at, own_effect, whole_effect, unless_stopped, attempted, of_return, of_decoded, of_word, step}
use Rattle.rv_unit.specs.Numbering.{lasts_of, with_last, is_decoupled}
use Rattle.rv_sight.specs.InUnits.{AreInUnits}
use Rattle.rv_harts.specs.BarrelRows.{hart_setting}
use Rattle.rv_hart_runs.specs.HartRuns.{KnownLaw, PrefixesLaw}
use Rattle.rv_hart_runs.proofs.Free.{same_some}
use Rattle.rv_hart_runs.proofs.Known.{IsSound}
use Rattle.rv_hart_runs.proofs.Knowing.{known_hart, next_record}

-- ---- a step that is done is of the word at its pc

unless_word : (o : Option Stop) (c d : Commit) → unless_stopped o (Done c) ≡ Done d → d.word ≡ c.word
unless_word (Some stop) c d e = cc
unless_word None c d e = let same : c ≡ d = cc in ap (λ (z : Commit). z.word) (sym same)

return_word : (x : ExtensionTree) (s : Arch) (word : ℕ) (back : Option ℕ) (c : Commit) → of_return x s word back ≡ Done c → c.word ≡ word
unfolding of_return commit_of
return_word x s word None c e = cc
return_word x s word (Some at) c e = unless_word None _ c e

decoded_word : (x : ExtensionTree) (s : Arch) (word : ℕ) (o : Option Decoded) (c : Commit) → of_decoded x s word o ≡ Done c → c.word ≡ word
unfolding attempted commit_of
decoded_word x s word None c e = return_word x s word (return_to word s.trap) c e
decoded_word x s word (Some d) c e = unless_word (stop_of d (own_effect x s word d)) (commit_of s.pc word (whole_effect x s word d)) c e

done_word : (x : ExtensionTree) (image : List ℕ) (s : Arch) (c : Commit) → step x image s ≡ Done c → word_at image s.pc ≡ Some c.word
unfolding step
done_word x image s c e = by_word (word_at image s.pc) e where
  by_word : (o : Option ℕ) → of_word x s o ≡ Done c → o ≡ Some c.word
  by_word None q = cc
  by_word (Some word) q = ap (λ w. Some w) (sym (decoded_word x s word (decoded_in x word) c q))

begins_at : (x : ExtensionTree) (image : List ℕ) → (run_with x image None 0).pc ≡ 0
unfolding run_with first
begins_at x image = refl

-- ---- units

unit_count : (stages : ℕ) (plans : List Plan) → length (first_units stages plans) ≡ length (lasts_of plans)
unit_count stages [] = refl
unit_count stages (p ∷ plans) = by_mode p.mode (unit_count stages plans) where
  by_mode : (m : Mode) → length (first_units stages plans) ≡ length (lasts_of plans) →
      length (unit_in stages m p.last (first_units stages plans)) ≡ length (with_last (is_decoupled m) p.last (lasts_of plans))
  by_mode Decoupled e = ap suc e
  by_mode InPipeline e = e
  by_mode Tight e = e
  by_mode Always e = e

vacant_at : (stages : ℕ) (plans : List Plan) (u : ℕ) (slots : Slots) → slice_get (first_units stages plans) u ≡ Some slots → (n : ℕ) × (slots ≡ replicate n None)
vacant_at stages [] u slots e = cc
vacant_at stages (p ∷ plans) u slots e = by_mode p.mode u e (vacant_at stages plans) where
  by_mode : (m : Mode) (u : ℕ) → slice_get (unit_in stages m p.last (first_units stages plans)) u ≡ Some slots →
      ((v : ℕ) (x : Slots) → slice_get (first_units stages plans) v ≡ Some x → (n : ℕ) × (x ≡ replicate n None)) → (n : ℕ) × (slots ≡ replicate n None)
  by_mode Decoupled zero e rest = (p.last + 1 - stages, sym (same_some (replicate (p.last + 1 - stages) None) slots e))
  by_mode Decoupled (suc v) e rest = rest v slots e
  by_mode InPipeline v e rest = rest v slots e
  by_mode Tight v e rest = rest v slots e
  by_mode Always v e rest = rest v slots e

sound_setting : (d : Design) (image : List ℕ) → AreInUnits d → IsSound (hart_setting d image)
sound_setting d image units =
    record {
      begins = begins_at (view_extension d.extension) image;
      words = λ p c e. done_word (view_extension d.extension) image (run_with (view_extension d.extension) image None p) c e;
      vacant = λ u slots e. vacant_at d.sheet.shape.stages d.plans u slots e;
      below = λ word u e. (let lt = units.numbering word u e in let same = unit_count d.sheet.shape.stages d.plans in omega (arith, lt, same));
    }

-- ---- the laws, of designs whose units can be

pub known_law : ((d : Design) → Stands d → AreInUnits d) → KnownLaw
known_law units d image h n stands low = known_hart (hart_setting d image) (sound_setting d image (units d stands)) h n low

pub prefixes_law : ((d : Design) → Stands d → AreInUnits d) → PrefixesLaw
prefixes_law units d image stands h n s c low e = next_record (hart_setting d image) (sound_setting d image (units d stands)) h n s c e
