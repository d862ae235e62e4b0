-- An instruction of an extension without always-blocks: what it does itself is the whole.
use Rattle.std.proofs.Common.{◌≡◌, ◌∙◌, refl, sym, ap, subst, ℕ, ◌+◌, ◌%◌, ◌^◌, List, length, replicate, get_or, Option, Some, None, Bool, true}
use Rattle.std.specs.Prelude.{is_some, is_none, ◌&&◌, ◌==◌, unwrap_or}
use Rattle.std.specs.Option.{option_or}
use Rattle.std.proofs.lemmas.List.{get_or-replicate}
use Rattle.std.proofs.Common.{eqb-true}
use Rattle.ix_bits.specs.declared.number.Bits.{Bits}
use Rattle.ix_extension.specs.Extensions.{ExtensionTree}
use Rattle.ix_mean.specs.declared.evaluate.State.{State}
use Rattle.ix_mean.specs.Given.{inputs_of}
use Rattle.ix_mean.specs.Meaning.{Inputs}
use Rattle.ix_eval.proofs.Tables.{table_at, table_is, table_length}
use Rattle.ix_eval.specs.declared.effect.Effect.{Effect}
use Rattle.rv_seq.specs.declared.answer.StepAnswer.TheVariants.{Done}
use Rattle.rv_seq.specs.declared.commit.Commit.{Commit}
use Rattle.rv_seq.specs.declared.commit.Slot.{Slot}
use Rattle.rv_seq.specs.declared.commit.Slot.TheVariants.{Absent}
use Rattle.rv_seq.specs.declared.decoded.Decoded.{Decoded}
use Rattle.rv_seq.specs.Commits.{slot_of, slots_of, commit_of}
use Rattle.rv_seq.specs.Memory.{peeked}
use Rattle.rv_seq.specs.Runs.{access_in}
use Rattle.rv_seq.specs.Sound.{IsSoundCommit}
use Rattle.rv_seq.specs.Steps.{unless_stopped}
use Rattle.rv_seq.specs.Stops.{stop_of}
use Rattle.rv_seq.proofs.Soundness.{sound_commit}
use Rattle.rv_seq.specs.WordEffects.{customs_over, effect_of, over, no_effect, blocks_effect}
use Rattle.rv_tried.specs.declared.trial.Trial.{Trial}
use Rattle.rv_tried.specs.Tried.{effect_seen, blocks_seen, whole_seen, no_customs, marked, unless_stopping, load_unless, tried_instruction}

or_none : {A : Type 0} (o : Option A) → option_or o None ≡ o
or_none None = refl
or_none (Some a) = refl

-- register by register, a write over none is that write
slots_alone : (own : List (Option Bits)) → slots_of (customs_over own (replicate 16 None)) ≡ slots_of own
slots_alone own =
    let whole = customs_over own (replicate 16 None) in
    let none : Option Bits = None in
    table_is (slots_of whole) (λ r. slot_of (get_or own r None)) 16 Absent (table_length (λ r. slot_of (get_or whole r None)) 16)
    (λ r lt. table_at (λ k. slot_of (get_or whole k None)) 16 r Absent lt
    ∙ ap slot_of (table_at (λ k. option_or (get_or own k None) (get_or (replicate 16 none) k None)) 16 r None lt
    ∙ ap (option_or (get_or own r None)) (get_or-replicate 16 r none none lt) ∙ or_none (get_or own r None)))

-- the record of an effect over nothing
alone_commit : (at word : ℕ) (own : Effect) → commit_of at word (over own no_effect) ≡ commit_of at word own
unfolding commit_of over
alone_commit at word own =
    let with_parts : List (Slot Bits) → Option ℕ → Commit =
    λ slots pc. record {
      at = at;
      word = word;
      rd_index = (commit_of at word own).rd_index;
      rd = (commit_of at word own).rd;
      custom = slots;
      store = own.store;
      next = unwrap_or pc ((at + 4) % 2 ^ 32);
    } in
    ap (λ slots. with_parts slots (option_or own.pc None)) (slots_alone own.custom) ∙ ap (λ pc. with_parts (slots_of own.custom) pc) (or_none own.pc)

pub over_no_blocks : (x : ExtensionTree) (i : Inputs) (n at word : ℕ) (own : Effect) → n ≡ 0 → commit_of at word (over own (blocks_effect x i n)) ≡ commit_of at word own
unfolding blocks_effect
over_no_blocks x i n at word own none = subst (λ n. commit_of at word (over own (blocks_effect x i n)) ≡ commit_of at word own) (sym none) (alone_commit at word own)

-- an instruction that goes on, without always-blocks
pub alone_is : (x : ExtensionTree) (s : State) (memory : List ℕ) (d : Decoded) (own : Effect) (t : Trial) → own ≡ effect_seen x s memory d → length x.blocks ≡ 0 → stop_of d own ≡ None
    → t.answer ≡ Done (commit_of s.pc s.word own) → t.accesses ≡ is_some (access_in own) → t.load ≡ own.load → t.blocks ≡ no_customs → t.own ≡ marked own.custom
    → t ≡ tried_instruction x s memory d
unfolding tried_instruction blocks_effect
alone_is x s memory d own t is none goes answer accesses load blocks marks =
    let e = effect_seen x s memory d in
    let i = inputs_of s (peeked memory) in
    let on : stop_of d e ≡ None = ap (stop_of d) (sym is) ∙ goes in
    let no_writes : (blocks_seen x s memory).custom ≡ no_customs = ap (λ n. (blocks_effect x i n).custom) none in
    let a = answer ∙ ap (λ o. Done (commit_of s.pc s.word o)) is ∙ ap Done (sym (over_no_blocks x i (length x.blocks) s.pc s.word e none)) ∙ ap (λ o. unless_stopped o (Done (commit_of s.pc s.word (whole_seen x s memory d)))) (sym on) in
    let b = accesses ∙ ap (λ o. is_some (access_in o)) is ∙ ap (λ o. is_none o && is_some (access_in e)) (sym on) in
    let l = load ∙ ap (λ (o : Effect). o.load) is ∙ ap (λ o. load_unless o e.load) (sym on) in
    let c = blocks ∙ sym no_writes ∙ ap (λ o. unless_stopping o (blocks_seen x s memory).custom) (sym on) in
    let m = marks ∙ ap (λ (o : Effect). marked o.custom) is ∙ ap (λ o. marked (unless_stopping o e.custom)) (sym on) in
    λ i. record { answer = a i; accesses = b i; load = l i; blocks = c i; own = m i }

-- so does what it writes have the widths of the extension
pub alone_sound : (x : ExtensionTree) (d : Decoded) (i : Inputs) (n at word : ℕ) (own : Effect) (c : Commit) → own ≡ effect_of x d i → n ≡ 0 → stop_of d own ≡ None → c ≡ commit_of at word own → IsSoundCommit x c
alone_sound x d i n at word own c is none goes e =
    sound_commit x d i n at word own (blocks_effect x i n) (over own (blocks_effect x i n)) c is refl goes refl (e ∙ sym (over_no_blocks x i n at word own none))

-- no elements, by the test
pub none_there : (b : Bool) (n : ℕ) → b ≡ (n == 0) → b ≡ true → n ≡ 0
none_there b n e h = eqb-true n 0 (sym e ∙ h)
