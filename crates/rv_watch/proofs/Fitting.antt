-- A design that stands has its numbers in range.
use Rattle.std.proofs.Common.{◌≡◌, ℕ, suc, ◌+◌, ◌≤◌, List, [], ◌∷◌, length, map, refl, arith, Option, Some, None, Bool, true, false, length-append}
use Rattle.std.specs.List.{range_with_len}
use Rattle.std.proofs.lemmas.List.{length-map}
use Rattle.ix_bits.specs.declared.number.Bits.{Bits}
use Rattle.ix_extension.specs.Extensions.{ExtensionTree, view_extension}
use Rattle.ix_behaviour.specs.Laws.{FewLaw}
use Rattle.ix_mean.specs.declared.evaluate.State.{State}
use Rattle.ix_plan.specs.declared.design.Design.{Design}
use Rattle.ix_plan.specs.declared.design.Plan.{Plan}
use Rattle.ix_standing.specs.Standing.{instruction_number, block_number, behaviours_of, Stands}
use Rattle.ix_graph_laws.specs.Laws.{ValidLaw}
use Rattle.rv_unit.specs.Numbering.{is_decoupled, with_last, lasts_of}
use Rattle.rv_seq.specs.declared.decoded.Decoded.{Decoded}
use Rattle.rv_seq.specs.Decoding.{decoded_in}
use Rattle.rv_seq.specs.declared.arch.Arch.{Arch}
use Rattle.rv_seq.specs.declared.commit.Stop.{Stop}
use Rattle.rv_seq.specs.States.{state_at}
use Rattle.rv_seq.specs.Interrupts.{return_to}
use Rattle.rv_seq.specs.Steps.{word_at}
use Rattle.rv_seq.specs.Runs.{run_with}
use Rattle.rv_seq.specs.Stops.{stop_of}
use Rattle.rv_tried.specs.Tried.{effect_seen, blocks_seen, unless_stopping, tried_instruction, tried_return, tried_unknown, tried}
use Rattle.rv_lawful.specs.Settings.{state_trial}
use Rattle.rv_lawful.specs.Sight.{TailLaw}
use Rattle.rv_sight.specs.InUnits.{AreInUnits}
use Rattle.rv_watch.specs.Printed.{plain, AreGiven}
use Rattle.rv_watch.proofs.CountingText.{AreOwn, blocks_own, none_at_all}
use Rattle.rv_watch.proofs.Committed.{run_calm, blocks_jump}
use Rattle.rv_watch.proofs.Asked.{asked_few}
use Rattle.rv_watch.proofs.Named.{HasRanges}
use Rattle.rv_watch.proofs.Late.{late_within, range_long}

-- ---- units
last_few : (b : Bool) (n : ℕ) (ns : List ℕ) → length (with_last b n ns) ≤ suc (length ns)
last_few true n ns = omega arith
last_few false n ns = omega arith

lasts_few : (plans : List Plan) → length (lasts_of plans) ≤ length plans
lasts_few [] = omega arith
lasts_few (p ∷ plans) = let l = lasts_few plans in let m = last_few (is_decoupled p.mode) p.last (lasts_of plans) in omega (arith, l, m)

behaviours_long : (x : ExtensionTree) → length (behaviours_of x) ≡ length x.instructions + length x.blocks
behaviours_long x =
    let a = length-append (map instruction_number (range_with_len 0 (length x.instructions))) (map block_number (range_with_len 0 (length x.blocks))) in
    let b = length-map (range_with_len 0 (length x.instructions)) instruction_number in
    let c = length-map (range_with_len 0 (length x.blocks)) block_number in
    let e = range_long 0 (length x.instructions) in
    let f = range_long 0 (length x.blocks) in
    omega (arith, a, b, c, e, f)

-- ---- what always-blocks write
unless_own : (x : ExtensionTree) (stop : Option Stop) (customs : List (Option Bits)) → AreOwn x customs → AreOwn x (unless_stopping stop customs)
unless_own x None customs h = h
unless_own x (Some stop) customs h = none_at_all x

unknown_own : (x : ExtensionTree) (i : State) (memory : List ℕ) (back : Option ℕ) → AreOwn x (tried_unknown x i memory back).blocks
unfolding tried_return
unknown_own x i memory None = none_at_all x
unknown_own x i memory (Some at) = blocks_own x _ (length x.blocks)

tried_own : (x : ExtensionTree) (i : State) (memory : List ℕ) (back : Option ℕ) (o : Option Decoded) → AreOwn x (tried x i memory back o).blocks
unfolding tried tried_instruction
tried_own x i memory back None = unknown_own x i memory back
tried_own x i memory back (Some d) = unless_own x (stop_of d (effect_seen x i memory d)) (blocks_seen x i memory).custom (blocks_own x _ (length x.blocks))

trial_own : (x : ExtensionTree) (s : Arch) (o : Option ℕ) → AreOwn x (state_trial x s o).blocks
trial_own x s None = none_at_all x
trial_own x s (Some word) = tried_own x (state_at word s) s.mem (return_to word s.trap) (decoded_in x word)

pub course_own : (d : Design) (image waits : List ℕ) (p : ℕ) → AreOwn (view_extension d.extension) ((plain d image waits).course.blocks p)
course_own d image waits p = trial_own (view_extension d.extension) (run_with (view_extension d.extension) image None p) (word_at image (run_with (view_extension d.extension) image None p).pc)

-- ---- a setting
pub ranges_of : FewLaw → ValidLaw → (d : Design) (image waits : List ℕ) → Stands d → AreGiven image waits → AreInUnits d → TailLaw d → HasRanges (plain d image waits) (length (view_extension d.extension).registers)
ranges_of few valid d image waits stands given units tails =
    let x = view_extension d.extension in
    let lawful = d.sheet.shape.lawful in
    let least = lawful.least in
    let is_few = few stands.well_formed.0 x stands.well_formed.1 in
    record {
      no_line = refl;
      some = omega (arith, least);
      most = lawful.most;
      pcs = λ p. (run_calm x image p).pc;
      jumps = λ file at word. blocks_jump x _ (length x.blocks);
      few = λ word. asked_few d word;
      spawned = λ word c h. units.few word c h;
      late = λ word c h. late_within d stands valid word c h;
      tails = tails;
      units = λ word u e. (let n = units.numbering word u e in let l = lasts_few d.plans in let m = stands.built.plan_count in let b = behaviours_long x in let i = is_few.instructions in let j = is_few.blocks in omega (arith, n, l, m, b, i, j));
      waits = given.short;
      registers = is_few.registers;
    }
