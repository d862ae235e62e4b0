-- The four laws of what a word may see, for a standing design.
use Rattle.std.proofs.Common.{◌≡◌, ◌≢◌, refl, sym, ap, subst, ◌∙◌, ℕ, ◌<◌, ◌≤◌, ◌^◌, arith, List, length, Option, Some, None, true}
use Rattle.ix_graph.specs.declared.graph.Mode.{Mode}
use Rattle.ix_graph.specs.declared.graph.Mode.TheVariants.{InPipeline, Tight, Decoupled, Always}
use Rattle.ix_extension.specs.Extensions.{ExtensionTree, view_extension}
use Rattle.ix_mean.specs.declared.evaluate.State.{State}
use Rattle.ix_mean.specs.Given.{inputs_of}
use Rattle.ix_mean.specs.Meaning.{Inputs}
use Rattle.ix_behaviour.specs.declared.which.Which.TheVariants as W
use Rattle.ix_plan.specs.declared.design.Design.{Design}
use Rattle.ix_standing.specs.Standing.{Stands}
use Rattle.ix_eval.specs.Evaluated.{effect_at}
use Rattle.ix_eval.specs.declared.effect.Effect.{Effect}
use Rattle.rv_seq.specs.BaseEffects.{base_effect}
use Rattle.rv_seq.specs.Decoding.{decoded_in}
use Rattle.rv_seq.specs.Memory.{peeked}
use Rattle.rv_seq.specs.WordEffects.{over, blocks_effect, AreWide}
use Rattle.rv_seq.specs.declared.decoded.Decoded.{Decoded}
use Rattle.rv_seq.specs.declared.decoded.Decoded.TheVariants as D
use Rattle.rv_asks.specs.declared.asks.Asks.{Asks}
use Rattle.rv_unit.specs.Numbering.{unit_of}
use Rattle.rv_asks.specs.Asks.{tail_of, with_word, base_asks, blank_in, asks_in}
use Rattle.rv_seq.specs.declared.arch.Arch.{Arch}
use Rattle.rv_seq.specs.declared.commit.Commit.{Commit}
use Rattle.rv_seq.specs.declared.answer.StepAnswer.TheVariants.{Done}
use Rattle.rv_seq.specs.Commits.{commit_of}
use Rattle.rv_seq.specs.States.{inputs_at, state_at}
use Rattle.rv_seq.specs.Interrupts.{return_to}
use Rattle.rv_seq.specs.Steps.{own_effect, whole_effect, of_decoded}
use Rattle.rv_tried.specs.Tried.{effect_seen, whole_seen, tried}
use Rattle.rv_lawful.specs.Forwarding.{x_written}
use Rattle.rv_lawful.specs.Settings.{does_access}
use Rattle.rv_lawful.specs.Sight.{IsSeen, HasWords, AreWords, IsEarlyCommit, IsEarly, EarlyLaw, ExactLaw, KeepsLaw, TailLaw}
use Rattle.rv_sight.proofs.Asking.{asks_of, own_asks, base_asks_are, none_asks}
use Rattle.rv_sight.specs.Written.{WrittenLaw}
use Rattle.rv_sight.proofs.Coming.{over_same, exact_answer, early_commit, early_answer, same_access, same_load, same_blocks, same_own, same_x, unknown_answer, unknown_access, unknown_load, unknown_blocks, unknown_own, early_itself, own_stop, base_stop, IsHeld, held_by, held_return, IsEarlyEffect}
use Rattle.rv_sight.proofs.Plans.{plan_of, own_within, base_decoded}
use Rattle.rv_sight.proofs.Seeing.{Laws, own_is, base_is, own_blocks, base_blocks, blank_blocks, keeps_return, keeps_own, keeps_base, all_blocks, exact_own, early_own, own_x, exact_base, early_base, base_x}
use Rattle.rv_seq.specs.declared.answer.StepAnswer.{StepAnswer}

module _ (laws : Laws) (d : Design) (stands : Stands d) where
  abbrev x : ExtensionTree
  x = view_extension d.extension

  module _ (code : ℕ) (s : Arch) (i : State) (memory : List ℕ) (ws : AreWide x s.custom) (wi : AreWide x i.custom) (hw : HasWords s) (aw : AreWords i) where
    abbrev here : Inputs
    here = inputs_of i (peeked memory)

    abbrev there : Inputs
    there = inputs_at code s

    abbrev back : Option ℕ
    back = return_to code s.trap

    pub record Exact (o : Option Decoded) : Type 0 where
      pub answer : (tried x i memory back o).answer ≡ of_decoded x s code o
      pub own : (tried x i memory back o).own ≡ (tried x (state_at code s) s.mem back o).own

    abbrev ExactOf : Option Decoded → Type 0
    ExactOf o = IsSeen (asks_in d code o) code s i → ((asks_in d code o).loads ≡ true → memory ≡ s.mem) → Exact o

    abbrev blocks_of : Inputs → Effect
    blocks_of inputs = blocks_effect x inputs (length x.blocks)

    exact_of : (o : Option Decoded) → decoded_in x code ≡ o → ExactOf o
    exact_of None is seen loads =
        let a = with_word code None (blank_in d) in
        let saw : IsSeen a code s i = subst (λ (z : Asks). IsSeen z code s i) (none_asks d code) seen in
        let word : code < 2 ^ 32 = subst (λ (z : ℕ). z < 2 ^ 32) saw.word aw.word in
        let pc : s.pc < 2 ^ 32 = subst (λ (z : ℕ). z < 2 ^ 32) saw.pc aw.pc in
        let blocks = all_blocks laws d stands code s ws hw word pc i memory wi aw a (blank_blocks laws d stands code) saw in
        record { answer = unknown_answer x i memory back s code saw.word saw.pc blocks; own = unknown_own x i memory back s code }
    exact_of (Some (D.Own n)) is seen loads =
        let l = own_within x code n is in
        let p = plan_of d stands n l in
        let e = own_asks d code n p.plan p.there in
        let saw : IsSeen (asks_of d code (unit_of d.plans n) p.plan) code s i = subst (λ (z : Asks). IsSeen z code s i) e seen in
        let word : code < 2 ^ 32 = subst (λ (z : ℕ). z < 2 ^ 32) saw.word aw.word in
        let pc : s.pc < 2 ^ 32 = subst (λ (z : ℕ). z < 2 ^ 32) saw.pc aw.pc in
        let same = exact_own laws d stands code s ws hw word pc i memory wi aw n l saw (λ h. loads (ap (λ (z : Asks). z.loads) e ∙ h)) in
        let blocks = all_blocks laws d stands code s ws hw word pc i memory wi aw (asks_of d code (unit_of d.plans n) p.plan) (own_blocks laws d stands code (unit_of d.plans n) p.plan) saw in
        let effects : effect_seen x i memory (D.Own n) ≡ own_effect x s code (D.Own n) = own_is x n here ∙ same ∙ sym (own_is x n there) in
        record {
          answer = exact_answer x i memory back s code (D.Own n) saw.word saw.pc effects (over_same (effect_seen x i memory (D.Own n)) (own_effect x s code (D.Own n)) (blocks_of here) (blocks_of there) effects blocks);
          own = same_own x i memory back s code (D.Own n) effects;
        }
    exact_of (Some (D.Base b)) is seen loads =
        let e = base_asks_are d code b in
        let a = base_asks d.sheet.shape (blank_in d).customs b in
        let saw : IsSeen a code s i = subst (λ (z : Asks). IsSeen z code s i) e seen in
        let word : code < 2 ^ 32 = subst (λ (z : ℕ). z < 2 ^ 32) saw.word aw.word in
        let pc : s.pc < 2 ^ 32 = subst (λ (z : ℕ). z < 2 ^ 32) saw.pc aw.pc in
        let same = exact_base laws d stands code s ws hw word pc i memory wi aw b (base_decoded x code b is) saw (λ h. loads (ap (λ (z : Asks). z.loads) e ∙ h)) in
        let blocks = all_blocks laws d stands code s ws hw word pc i memory wi aw a (base_blocks laws d stands b) saw in
        let effects : effect_seen x i memory (D.Base b) ≡ own_effect x s code (D.Base b) = base_is x b here ∙ same ∙ sym (base_is x b there) in
        record {
          answer = exact_answer x i memory back s code (D.Base b) saw.word saw.pc effects (over_same (effect_seen x i memory (D.Base b)) (own_effect x s code (D.Base b)) (blocks_of here) (blocks_of there) effects blocks);
          own = same_own x i memory back s code (D.Base b) effects;
        }

    -- ---- by EX
    pub record Early (o : Option Decoded) (a : Asks) : Type 0 where
      pub answer : IsEarly a (tried x i memory back o).answer (of_decoded x s code o)
      pub accesses : (tried x i memory back o).accesses ≡ does_access x s code o
      pub load : (tried x i memory back o).load ≡ (tried x (state_at code s) s.mem back o).load
      pub blocks : (tried x i memory back o).blocks ≡ (tried x (state_at code s) s.mem back o).blocks
      pub writes : a.destination ≢ 0 → a.x_time < d.sheet.shape.mem → x_written (tried x i memory back o).answer ≡ x_written (of_decoded x s code o)

    early_of : (o : Option Decoded) → decoded_in x code ≡ o → IsSeen (asks_in d code o) code s i → Early o (asks_in d code o)
    early_of None is seen =
        let a = with_word code None (blank_in d) in
        let saw : IsSeen a code s i = subst (λ (z : Asks). IsSeen z code s i) (none_asks d code) seen in
        let word : code < 2 ^ 32 = subst (λ (z : ℕ). z < 2 ^ 32) saw.word aw.word in
        let pc : s.pc < 2 ^ 32 = subst (λ (z : ℕ). z < 2 ^ 32) saw.pc aw.pc in
        let blocks = all_blocks laws d stands code s ws hw word pc i memory wi aw a (blank_blocks laws d stands code) saw in
        let same = unknown_answer x i memory back s code saw.word saw.pc blocks in
        record {
          answer = subst (λ (z : StepAnswer). IsEarly (asks_in d code None) z (of_decoded x s code None)) (sym same) (early_itself (asks_in d code None) (of_decoded x s code None));
          accesses = unknown_access x i memory back s code;
          load = unknown_load x i memory back s code;
          blocks = unknown_blocks x i memory back s code blocks.custom;
          writes = λ some low. ap x_written same;
        }
    early_of (Some (D.Own n)) is seen =
        let l = own_within x code n is in
        let p = plan_of d stands n l in
        let e = own_asks d code n p.plan p.there in
        let a = asks_of d code (unit_of d.plans n) p.plan in
        let saw : IsSeen a code s i = subst (λ (z : Asks). IsSeen z code s i) e seen in
        let word : code < 2 ^ 32 = subst (λ (z : ℕ). z < 2 ^ 32) saw.word aw.word in
        let pc : s.pc < 2 ^ 32 = subst (λ (z : ℕ). z < 2 ^ 32) saw.pc aw.pc in
        let same = early_own laws d stands code s ws hw word pc i memory wi aw n l saw in
        let blocks = all_blocks laws d stands code s ws hw word pc i memory wi aw a (own_blocks laws d stands code (unit_of d.plans n) p.plan) saw in
        let E : Effect → Effect → Type 0 = λ y z. IsEarlyEffect a y z in
        let effects : E (effect_seen x i memory (D.Own n)) (own_effect x s code (D.Own n)) =
        subst (λ (y : Effect). E y (own_effect x s code (D.Own n))) (sym (own_is x n here)) (subst (λ (z : Effect). E (effect_at x (W.Instruction n) here) z) (sym (own_is x n there)) same) in
        let stops = own_stop n (effect_seen x i memory (D.Own n)) (own_effect x s code (D.Own n)) effects.load effects.store in
        let commits : IsEarlyCommit a (commit_of s.pc code (whole_seen x i memory (D.Own n))) (commit_of s.pc code (whole_effect x s code (D.Own n))) =
        early_commit a s.pc code (effect_seen x i memory (D.Own n)) (own_effect x s code (D.Own n)) (blocks_of here) (blocks_of there) effects blocks in
        let done : Early (Some (D.Own n)) a =
        record {
          answer = early_answer a x i memory back s code (D.Own n) saw.word saw.pc stops commits;
          accesses = same_access x i memory back s code (D.Own n) stops effects.load effects.store;
          load = same_load x i memory back s code (D.Own n) stops effects.load;
          blocks = same_blocks x i memory back s code (D.Own n) stops blocks.custom;
          writes = λ some low.
              same_x x i memory back s code (D.Own n) saw.word stops
              (ap (λ (z : Effect). z.rd) (own_is x n here) ∙ own_x laws d stands code s ws hw word pc i memory wi aw n l saw some low ∙ ap (λ (z : Effect). z.rd) (sym (own_is x n there)));
        } in
        subst (λ (z : Asks). Early (Some (D.Own n)) z) (sym e) done
    early_of (Some (D.Base b)) is seen =
        let e = base_asks_are d code b in
        let a = base_asks d.sheet.shape (blank_in d).customs b in
        let saw : IsSeen a code s i = subst (λ (z : Asks). IsSeen z code s i) e seen in
        let word : code < 2 ^ 32 = subst (λ (z : ℕ). z < 2 ^ 32) saw.word aw.word in
        let pc : s.pc < 2 ^ 32 = subst (λ (z : ℕ). z < 2 ^ 32) saw.pc aw.pc in
        let same = early_base laws d stands code s ws hw word pc i memory wi aw b (base_decoded x code b is) saw in
        let blocks = all_blocks laws d stands code s ws hw word pc i memory wi aw a (base_blocks laws d stands b) saw in
        let E : Effect → Effect → Type 0 = λ y z. IsEarlyEffect a y z in
        let effects : E (effect_seen x i memory (D.Base b)) (own_effect x s code (D.Base b)) =
        subst (λ (y : Effect). E y (own_effect x s code (D.Base b))) (sym (base_is x b here)) (subst (λ (z : Effect). E (base_effect b here) z) (sym (base_is x b there)) same) in
        let stops = base_stop b (effect_seen x i memory (D.Base b)) (own_effect x s code (D.Base b)) effects.load effects.store (effects.pc refl) in
        let commits : IsEarlyCommit a (commit_of s.pc code (whole_seen x i memory (D.Base b))) (commit_of s.pc code (whole_effect x s code (D.Base b))) =
        early_commit a s.pc code (effect_seen x i memory (D.Base b)) (own_effect x s code (D.Base b)) (blocks_of here) (blocks_of there) effects blocks in
        let done : Early (Some (D.Base b)) a =
        record {
          answer = early_answer a x i memory back s code (D.Base b) saw.word saw.pc stops commits;
          accesses = same_access x i memory back s code (D.Base b) stops effects.load effects.store;
          load = same_load x i memory back s code (D.Base b) stops effects.load;
          blocks = same_blocks x i memory back s code (D.Base b) stops blocks.custom;
          writes = λ some low.
              same_x x i memory back s code (D.Base b) saw.word stops
              (ap (λ (z : Effect). z.rd) (base_is x b here) ∙ base_x laws d stands code s ws hw word pc i memory wi aw b (base_decoded x code b is) saw some low ∙ ap (λ (z : Effect). z.rd) (sym (base_is x b there)));
        } in
        subst (λ (z : Asks). Early (Some (D.Base b)) z) (sym e) done

  held_of : (code : ℕ) (s : Arch) (c : Commit) → AreWide x s.custom → HasWords s → code < 2 ^ 32 → s.pc < 2 ^ 32 → (o : Option Decoded) → decoded_in x code ≡ o → of_decoded x s code o ≡ Done c
      → IsHeld (asks_in d code o) s code c
  held_of code s c ws hw word pc None is e =
      subst (λ (z : Asks). IsHeld z s code c) (sym (none_asks d code))
      (held_return (with_word code None (blank_in d)) x s code (return_to code s.trap) c (keeps_return laws d stands code s ws hw word pc) e)
  held_of code s c ws hw word pc (Some (D.Own n)) is e =
      let l = own_within x code n is in
      let p = plan_of d stands n l in
      let there : Inputs = inputs_at code s in
      let kept = keeps_own laws d stands code s ws hw word pc n l in
      let P : Effect → Type 0 = λ z. IsHeld (asks_of d code (unit_of d.plans n) p.plan) s code (commit_of s.pc code (over z (blocks_effect x there (length x.blocks)))) in
      subst (λ (z : Asks). IsHeld z s code c) (sym (own_asks d code n p.plan p.there)) (held_by (asks_of d code (unit_of d.plans n) p.plan) x s code (D.Own n) c (subst P (sym (own_is x n there)) kept) e)
  held_of code s c ws hw word pc (Some (D.Base b)) is e =
      let there : Inputs = inputs_at code s in
      let kept = keeps_base laws d stands code s ws hw word pc b (base_decoded x code b is) in
      let a = base_asks d.sheet.shape (blank_in d).customs b in
      let P : Effect → Type 0 = λ z. IsHeld a s code (commit_of s.pc code (over z (blocks_effect x there (length x.blocks)))) in
      subst (λ (z : Asks). IsHeld z s code c) (sym (base_asks_are d code b)) (held_by a x s code (D.Base b) c (subst P (sym (base_is x b there)) kept) e)

  tail_most : (mode : Mode) (stages last : ℕ) → last ≤ 64 → tail_of mode stages last ≤ 64
  tail_most Tight stages last l = omega (arith, l)
  tail_most InPipeline stages last l = omega arith
  tail_most Decoupled stages last l = omega arith
  tail_most Always stages last l = omega arith

  tail_at : (code : ℕ) (o : Option Decoded) → decoded_in x code ≡ o → (asks_in d code o).tail ≤ 64
  tail_at code None is = subst (λ (z : Asks). z.tail ≤ 64) (sym (none_asks d code)) (omega arith)
  tail_at code (Some (D.Base b)) is = subst (λ (z : Asks). z.tail ≤ 64) (sym (base_asks_are d code b)) (omega arith)
  tail_at code (Some (D.Own n)) is =
      let l = own_within x code n is in
      let p = plan_of d stands n l in
      let times = laws.times stands.well_formed.0 x d.sheet (W.Instruction n) p.plan stands.well_formed.1 l stands.sheet p.planned in
      subst (λ (z : Asks). z.tail ≤ 64) (sym (own_asks d code n p.plan p.there)) (tail_most p.plan.mode d.sheet.shape.stages p.plan.last times.last)

  pub exact_law : ExactLaw d
  exact_law code s i memory ws wi hw aw seen loads =
      let r = exact_of code s i memory ws wi hw aw (decoded_in x code) refl seen loads in
      record { answer = r.answer; own = r.own }

  pub early_law : EarlyLaw d
  early_law code s i memory ws wi hw aw seen =
      let r = early_of code s i memory ws wi hw aw (decoded_in x code) refl seen in
      record { answer = r.answer; accesses = r.accesses; load = r.load; blocks = r.blocks; x = r.writes }

  pub keeps_law : KeepsLaw d
  keeps_law code s c ws hw word pc e = (held_of code s c ws hw word pc (decoded_in x code) refl e).kept

  pub written_law : WrittenLaw d
  written_law code s c ws hw word pc e = (held_of code s c ws hw word pc (decoded_in x code) refl e).asked

  pub tail_law : TailLaw d
  tail_law code = tail_at code (decoded_in x code) refl
