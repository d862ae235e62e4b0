-- What a standing design promises of what a word may see.
use Rattle.std.proofs.Common.{inl, inr, ◌≡◌, ◌≢◌, refl, sym, ap, subst, ◌∙◌, ℕ, zero, suc, ◌+◌, ◌<◌, ◌≤◌, ◌^◌, arith, List, [], ◌∷◌, map, get_or, length, replicate, Option, Some, None, Bool, true, false}
use Rattle.std.specs.Prelude.{◌⊎◌, option_map, slice_get, slice_index, is_some, nat_lt, ◌||◌}
use Rattle.std.specs.List.{list_any}
use Rattle.std.specs.Option.{option_or}
use Rattle.std.proofs.lemmas.Bool.{or_right, ltb-true, ltb-false, eq-eqb}
use Rattle.ix_bits.specs.declared.number.Bits.{Bits}
use Rattle.ix_graph.specs.declared.kind.Kind.{Kind}
use Rattle.ix_graph.specs.declared.kind.Kind.TheVariants as k
use Rattle.ix_graph.specs.declared.graph.Op.{Op}
use Rattle.ix_extension.specs.Extensions.{ExtensionTree, view_extension}
use Rattle.ix_mean.specs.declared.evaluate.State.{State}
use Rattle.ix_mean.specs.Given.{inputs_of, raw_seen}
use Rattle.ix_mean.specs.Meaning.{Inputs, read, Write}
use Rattle.ix_mean.specs.Typing.{AreInputs}
use Rattle.ix_behaviour.specs.declared.which.Which.{Which}
use Rattle.ix_behaviour.specs.declared.which.Which.TheVariants as W
use Rattle.ix_behaviour.specs.Behaviours.{targets_at, effect_by_name}
use Rattle.ix_flow.specs.Flows.{target_of}
use Rattle.ix_plan.specs.declared.design.Plan.{Plan}
use Rattle.ix_plan.specs.declared.design.Design.{Design}
use Rattle.ix_standing.specs.Standing.{Stands}
use Rattle.ix_depends.specs.Depends.{Agrees, AreLowWrites, value_written, IsSameWhereLow}
use Rattle.ix_depends.specs.Laws.{DependsLaw, BeforeMemoryLaw, IsBeforeMemory, TimesLaw, SingleLaw, BlindLaw, UnwrittenLaw}
use Rattle.ix_eval.specs.Evaluated.{effect_at}
use Rattle.rv_base.specs.declared.operation.Size.{Size}
use Rattle.rv_base.specs.Effects.{load_at, store_at}
use Rattle.rv_isa.specs.declared.base.Base.{Base}
use Rattle.rv_isa.specs.Fields.{rd_of, rs1_of, rs2_of}
use Rattle.rv_isa.specs.Decoded.{decoded}
use Rattle.rv_seq.specs.BaseEffects.{base_store, base_effect}
use Rattle.rv_seq.specs.Memory.{peeked}
use Rattle.rv_seq.specs.WordEffects.{effect_of, over, blocks_effect, AreWide}
use Rattle.rv_seq.specs.declared.decoded.Decoded.TheVariants as D
use Rattle.rv_asks.specs.declared.asks.Asks.{Asks}
use Rattle.rv_asks.specs.Acts as acts
use Rattle.rv_unit.specs.Numbering.{unit_of}
use Rattle.rv_asks.specs.Asks.{block_acts, where_so, some_so, with_word, base_asks, blank_in}
use Rattle.rv_seq.specs.declared.arch.Arch.{Arch}
use Rattle.rv_seq.specs.States.{zero_bit, state_at, inputs_at}
use Rattle.rv_seq.specs.Steps.{return_effect}
use Rattle.rv_lawful.specs.Sight.{IsSeen, HasWords, AreWords}
use Rattle.rv_sight.proofs.Parts.{effect_from, rd_same, pc_same, custom_same, customs_same, load_same, store_same, rd_none, store_none, custom_none, table_none, are_inputs, raw_of_custom}
use Rattle.rv_sight.proofs.Asking.{asks_of, flags_at, not_any, asks_first, asks_second, asks_loads, asks_stores, asks_customs, writes_any, asks_late, asks_late_customs, blocks_any, target_is_pc, target_is_rd, target_is_memory, target_is_custom}
use Rattle.rv_sight.proofs.Base.{SameUsed, base_same, base_rd_same, base_rd_writes, names}
use Rattle.rv_sight.proofs.Coming.{IsSameBlocks, over_blocks, IsEarlyEffect, IsHeld, held_from}
use Rattle.rv_sight.proofs.Plans.{plan_of, plan_of_block}
use Rattle.rv_sight.proofs.Timing.{has_write, load_late}
use Rattle.rv_seq.specs.Commits.{commit_of}

-- the laws on behaviours that all rests on
pub record Laws : Type 0 where
  pub depends : DependsLaw
  pub before_memory : BeforeMemoryLaw
  pub times : TimesLaw
  pub single : SingleLaw
  pub blind : BlindLaw
  pub unwritten : UnwrittenLaw

agrees : (i j : Inputs) (kind : Kind) → i.word ≡ j.word → i.pc ≡ j.pc → (acts.is_first kind ≡ true → i.rs1 ≡ j.rs1) → (acts.is_second kind ≡ true → i.rs2 ≡ j.rs2) → ((r : ℕ) → kind ≡ k.RdCustReg r → i.custom r ≡ j.custom r)
    → (kind ≡ k.RdMem → i.memory ≡ j.memory) → Agrees i j kind
agrees i j kind w p a b c m = record { read = by kind a b c; memory = m }
  where
    by : (kind : Kind) → (acts.is_first kind ≡ true → i.rs1 ≡ j.rs1) → (acts.is_second kind ≡ true → i.rs2 ≡ j.rs2) → ((r : ℕ) → kind ≡ k.RdCustReg r → i.custom r ≡ j.custom r) → read i kind ≡ read j kind
    by k.RdInstr a b c = w
    by k.RdRS1 a b c = a refl
    by k.RdRS2 a b c = b refl
    by k.RdPC a b c = p
    by (k.RdCustReg r) a b c = c r refl
    by _ a b c = refl

beyond : (xs : List Bits) (r : ℕ) → length xs ≤ r → get_or xs r zero_bit ≡ zero_bit
beyond [] r l = refl
beyond (x ∷ xs) zero l = absurd (omega (arith, l))
beyond (x ∷ xs) (suc r) l = beyond xs r (omega (arith, l))

custom_agree : (x : ExtensionTree) (a : Asks) (s : Arch) (i : State) (code : ℕ) → IsSeen a code s i → AreWide x s.custom → AreWide x i.custom → (r : ℕ) → (r < 16 → get_or a.customs r false ≡ true)
    → get_or (map raw_seen i.custom) r 0 ≡ get_or (map raw_seen s.custom) r 0
custom_agree x a s i code seen ws wi r h = raw_of_custom i.custom r ∙ ap raw_seen (by (nat_lt r 16) refl) ∙ sym (raw_of_custom s.custom r)
  where
    by : (b : Bool) → nat_lt r 16 ≡ b → get_or i.custom r zero_bit ≡ get_or s.custom r zero_bit
    by true e = seen.customs r (h (ltb-true r 16 e))
    by false e =
        let past = ltb-false r 16 e in let one = wi.count in let two = ws.count in
        beyond i.custom r (omega (arith, past, one)) ∙ sym (beyond s.custom r (omega (arith, past, two)))

abbrev no_bits : Option Bits
no_bits = None

none_repeated : (n r : ℕ) → get_or (replicate n no_bits) r None ≡ None
none_repeated zero r = refl
none_repeated (suc n) zero = refl
none_repeated (suc n) (suc r) = none_repeated n r

pub own_is : (x : ExtensionTree) (n : ℕ) (i : Inputs) → effect_of x (D.Own n) i ≡ effect_at x (W.Instruction n) i
unfolding effect_of
own_is x n i = refl

pub base_is : (x : ExtensionTree) (b : Base) (i : Inputs) → effect_of x (D.Base b) i ≡ base_effect b i
unfolding effect_of
base_is x b i = refl

module _ (laws : Laws) (d : Design) (stands : Stands d) where
  abbrev x : ExtensionTree
  x = view_extension d.extension

  -- each custom register that a block touches is asked for
  abbrev AsksBlocks : Asks → Type 0
  AsksBlocks a = (r : ℕ) → r < 16 → list_any (acts.touches r) (block_acts d) ≡ true → get_or a.customs r false ≡ true

  pub own_blocks : (code : ℕ) (unit : Option ℕ) (p : Plan) → AsksBlocks (asks_of d code unit p)
  own_blocks code unit p r few h =
      flags_at (λ m. list_any (acts.touches m) (acts.acts_of p) || list_any (acts.touches m) (block_acts d)) 16 r few
      ∙ or_right (list_any (acts.touches r) (acts.acts_of p)) (list_any (acts.touches r) (block_acts d)) h

  pub base_blocks : (b : Base) → AsksBlocks (base_asks d.sheet.shape (blank_in d).customs b)
  base_blocks b r few h = flags_at (λ m. list_any (acts.touches m) [] || list_any (acts.touches m) (block_acts d)) 16 r few ∙ h

  pub blank_blocks : (code : ℕ) → AsksBlocks (with_word code None (blank_in d))
  blank_blocks code r few h = flags_at (λ m. list_any (acts.touches m) [] || list_any (acts.touches m) (block_acts d)) 16 r few ∙ h

  -- ---- in a state
  module _ (code : ℕ) (s : Arch) (ws : AreWide x s.custom) (hw : HasWords s) (word : code < 2 ^ 32) (pc : s.pc < 2 ^ 32) where
    abbrev there : Inputs
    there = inputs_at code s

    there_inputs : (w : Which) → AreInputs (targets_at x w) there
    there_inputs w = are_inputs x w (state_at code s) (peeked s.mem) ws word (hw (rs1_of code)) (hw (rs2_of code)) pc

    -- what blocks leave alone
    block_none : (a : Asks) → AsksBlocks a → (r : ℕ) → r < 16 → get_or a.customs r false ≡ false → (m : ℕ) → m < length x.blocks → get_or (effect_at x (W.Block m) there).custom r None ≡ None
    block_none a asks r few none m l =
        let p = plan_of_block d stands m l in
        custom_none x (W.Block m) there r
        (laws.unwritten stands.well_formed.0 x (W.Block m) p.plan.graph.ops there stands.well_formed.1 l p.planned.graph.ops (there_inputs (W.Block m)) (3 + r)
        (λ n o e t. not_any (get_or a.customs r false) none
        (asks r few (blocks_any d r (length d.extension.instructions + m) m p.plan refl p.there n o e (ap (acts.is_custom r) (target_is_custom o.kind r t) ∙ eq-eqb r r refl)))))

    blocks_none : (a : Asks) → AsksBlocks a → (r : ℕ) → r < 16 → get_or a.customs r false ≡ false → (m : ℕ) → m ≤ length x.blocks → get_or (blocks_effect x there m).custom r None ≡ None
    unfolding blocks_effect over
    blocks_none a asks r few none zero l = none_repeated 16 r
    blocks_none a asks r few none (suc m) l =
        let rest = blocks_none a asks r few none m (omega (arith, l)) in
        let here = block_none a asks r few none m (omega (arith, l)) in
        table_none (λ q. option_or (get_or (effect_at x (W.Block m) there).custom q None) (get_or (blocks_effect x there m).custom q None)) 16 r None
        (λ less. ap (λ (z : Option Bits). option_or z (get_or (blocks_effect x there m).custom r None)) here ∙ rest)

    named_target : (b : Bool) (n r : ℕ) → some_so b n ≡ Some r → n ≡ r
    named_target true n r e = cc
    named_target false n r e = cc

    pub keeps_return : (at : ℕ) → IsHeld (with_word code None (blank_in d)) s code (commit_of s.pc code (over (return_effect at) (blocks_effect x there (length x.blocks))))
    keeps_return at =
        let a = with_word code None (blank_in d) in
        held_from a s code (return_effect at) (blocks_effect x there (length x.blocks))
        (record {
          rd = λ v is. absurd (cc is);
          target = λ r e. absurd (cc e);
          own = λ r few none. none_repeated 16 r;
          blocks = λ r few none. blocks_none a (blank_blocks code) r few none (length x.blocks) (omega arith);
          store = λ none. refl;
        })

    pub keeps_own : (n : ℕ) (l : n < length x.instructions)
        → IsHeld (asks_of d code (unit_of d.plans n) (plan_of d stands n l).plan) s code (commit_of s.pc code (over (effect_at x (W.Instruction n) there) (blocks_effect x there (length x.blocks))))
    keeps_own n l =
        let p = plan_of d stands n l in
        let w = W.Instruction n in
        let a = asks_of d code (unit_of d.plans n) p.plan in
        let unwritten = laws.unwritten stands.well_formed.0 x w p.plan.graph.ops there stands.well_formed.1 l p.planned.graph.ops (there_inputs w) in
        held_from a s code (effect_at x w there) (blocks_effect x there (length x.blocks))
        (record {
          rd = λ v is. by v is (list_any acts.writes_own (acts.acts_of p.plan)) (list_any acts.spawns_x (acts.acts_of p.plan)) refl refl;
          target = λ r e. named_target (list_any acts.spawns_x (acts.acts_of p.plan)) (rd_of code) r e;
          own = λ r few none. custom_none x w there r (unwritten (3 + r)
              (λ m o e t. not_any (get_or a.customs r false) none (asks_customs d code (unit_of d.plans n) p.plan r few m o e (ap (acts.is_custom r) (target_is_custom o.kind r t) ∙ eq-eqb r r refl))));
          blocks = λ r few none. blocks_none a (own_blocks code (unit_of d.plans n) p.plan) r few none (length x.blocks) (omega arith);
          store = λ none. store_none x w there (unwritten 0 (λ m o e t. not_any a.stores none (asks_stores d code (unit_of d.plans n) p.plan m o e (ap acts.is_store (target_is_memory o.kind t)))));
        })
      where
        by : (v : ℕ) → (effect_at x (W.Instruction n) there).rd ≡ Some v → (b c : Bool) → list_any acts.writes_own (acts.acts_of (plan_of d stands n l).plan) ≡ b
            → list_any acts.spawns_x (acts.acts_of (plan_of d stands n l).plan) ≡ c
            → ((asks_of d code (unit_of d.plans n) (plan_of d stands n l).plan).destination ≡ rd_of code) ⊎ ((asks_of d code (unit_of d.plans n) (plan_of d stands n l).plan).spawned ≡ Some (rd_of code))
        by v is true c e f = inl (ap (λ (b : Bool). where_so b (rd_of code)) e)
        by v is false true e f = inr (ap (λ (b : Bool). some_so b (rd_of code)) f)
        by v is false false e f =
            let p = plan_of d stands n l in
            let w = W.Instruction n in
            let nothing = rd_none x w there
            (laws.unwritten stands.well_formed.0 x w p.plan.graph.ops there stands.well_formed.1 l p.planned.graph.ops (there_inputs w) 1
            (λ m o g t. elim (writes_any d code (unit_of d.plans n) p.plan m o g (target_is_rd o.kind t)) [
              | inl h ↦ not_any (list_any acts.writes_own (acts.acts_of p.plan)) e h
              | inr h ↦ not_any (list_any acts.spawns_x (acts.acts_of p.plan)) f h
            ])) in
            cc (sym is ∙ nothing)

    store_absent : (b : Base) (m n : ℕ) (o : Option Size) → is_some o ≡ false → option_map (base_store b m n) o ≡ None
    store_absent b m n None e = refl
    store_absent b m n (Some size) e = cc

    pub keeps_base : (b : Base) → decoded code ≡ Some b
        → IsHeld (base_asks d.sheet.shape (blank_in d).customs b) s code (commit_of s.pc code (over (base_effect b there) (blocks_effect x there (length x.blocks))))
    keeps_base b is =
        let a = base_asks d.sheet.shape (blank_in d).customs b in
        held_from a s code (base_effect b there) (blocks_effect x there (length x.blocks))
        (record {
          rd = λ v e. inl ((names b code is).target (base_rd_writes b there v e));
          target = λ r e. cc e;
          own = λ r few none. none_repeated 16 r;
          blocks = λ r few none. blocks_none a (base_blocks b) r few none (length x.blocks) (omega arith);
          store = λ none. store_absent b there.rs1 there.rs2 (store_at b) none;
        })

    -- ---- with what is seen
    module _ (i : State) (memory : List ℕ) (wi : AreWide x i.custom) (aw : AreWords i) where
      abbrev here : Inputs
      here = inputs_of i (peeked memory)

      here_inputs : (w : Which) → AreInputs (targets_at x w) here
      here_inputs w = are_inputs x w i (peeked memory) wi aw.word aw.rs1 aw.rs2 aw.pc

      abbrev mixed : State
      mixed = record { word = i.word; rs1 = slice_index s.x (rs1_of code); rs2 = slice_index s.x (rs2_of code); pc = i.pc; custom = i.custom }

      mixed_inputs : (w : Which) → AreInputs (targets_at x w) (inputs_of mixed (peeked s.mem))
      mixed_inputs w = are_inputs x w mixed (peeked s.mem) wi aw.word (hw (rs1_of code)) (hw (rs2_of code)) aw.pc

      block_same : (a : Asks) → AsksBlocks a → IsSeen a code s i → (m : ℕ) → m < length x.blocks → IsSameBlocks (effect_at x (W.Block m) here) (effect_at x (W.Block m) there)
      block_same a asks seen m l =
          let p = plan_of_block d stands m l in
          let w = W.Block m in
          let ops = p.plan.graph.ops in
          let between : Inputs = inputs_of mixed (peeked s.mem) in
          let blind : effect_by_name x w here ≡ effect_by_name x w between = laws.blind stands.well_formed.0 x m here there.rs1 there.rs2 there.memory stands.well_formed.1 l in
          let agree : (n : ℕ) (o : Op) → slice_get ops n ≡ Some o → Agrees between there o.kind =
          λ n o e. agrees between there o.kind seen.word seen.pc (λ q. refl) (λ q. refl)
          (λ r q. custom_agree x a s i code seen ws wi r
          (λ few. asks r few (blocks_any d r (length d.extension.instructions + m) m p.plan refl p.there n o e (ap (acts.is_custom r) q ∙ eq-eqb r r refl))))
          (λ q. refl) in
          let same = laws.depends stands.well_formed.0 x w ops between there stands.well_formed.1 l p.planned.graph.ops (mixed_inputs w) (there_inputs w) agree in
          let values : (n : ℕ) → AreLowWrites ops (λ q. Unit {0}) n → value_written (effect_by_name x w here) n ≡ value_written (effect_by_name x w there) n =
          λ n h. ap (λ (z : List (Option Write)). value_written z n) blind ∙ same.values n h in
          record {
            pc = pc_same x w ops here there (λ q. Unit {0}) values (λ n o e t. tt);
            custom = customs_same x w ops here there (λ q. Unit {0}) values (λ r n o e t. tt);
          }

      blocks_same : (a : Asks) → AsksBlocks a → IsSeen a code s i → (m : ℕ) → m ≤ length x.blocks → IsSameBlocks (blocks_effect x here m) (blocks_effect x there m)
      unfolding blocks_effect
      blocks_same a asks seen zero l = record { pc = refl; custom = refl }
      blocks_same a asks seen (suc m) l =
          let b = block_same a asks seen m (omega (arith, l)) in
          over_blocks (effect_at x (W.Block m) here) (effect_at x (W.Block m) there) (blocks_effect x here m) (blocks_effect x there m) b.pc b.custom (blocks_same a asks seen m (omega (arith, l)))

      pub all_blocks : (a : Asks) → AsksBlocks a → IsSeen a code s i → IsSameBlocks (blocks_effect x here (length x.blocks)) (blocks_effect x there (length x.blocks))
      all_blocks a asks seen = blocks_same a asks seen (length x.blocks) (omega arith)

      -- ---- an instruction of the extension
      own_agrees : (unit : Option ℕ) (p : Plan) → IsSeen (asks_of d code unit p) code s i → (n : ℕ) (o : Op) → slice_get p.graph.ops n ≡ Some o → (o.kind ≡ k.RdMem → peeked memory ≡ peeked s.mem) → Agrees here there o.kind
      own_agrees unit p seen n o e m =
          agrees here there o.kind seen.word seen.pc (λ q. seen.first (asks_first d code unit p n o e q)) (λ q. seen.second (asks_second d code unit p n o e q))
          (λ r q. custom_agree x (asks_of d code unit p) s i code seen ws wi r (λ few. asks_customs d code unit p r few n o e (ap (acts.is_custom r) q ∙ eq-eqb r r refl))) m

      pub exact_own : (n : ℕ) (l : n < length x.instructions) → IsSeen (asks_of d code (unit_of d.plans n) (plan_of d stands n l).plan) code s i → ((asks_of d code (unit_of d.plans n) (plan_of d stands n l).plan).loads ≡ true → memory ≡ s.mem)
          → effect_at x (W.Instruction n) here ≡ effect_at x (W.Instruction n) there
      exact_own n l seen loads =
          let p = plan_of d stands n l in
          let w = W.Instruction n in
          let ops = p.plan.graph.ops in
          let same = laws.depends stands.well_formed.0 x w ops here there stands.well_formed.1 l p.planned.graph.ops (here_inputs w) (there_inputs w)
          (λ m o e. own_agrees (unit_of d.plans n) p.plan seen m o e (λ is. ap peeked (loads (asks_loads d code (unit_of d.plans n) p.plan m o e (ap acts.is_load is))))) in
          effect_from (effect_at x w here) (effect_at x w there) (rd_same x w ops here there (λ q. Unit {0}) same.values (λ m o e t. tt)) (pc_same x w ops here there (λ q. Unit {0}) same.values (λ m o e t. tt))
          (customs_same x w ops here there (λ q. Unit {0}) same.values (λ r m o e t. tt)) (load_same x w here there (same.reads (λ m o e t. tt))) (store_same x w here there (same.store (λ m o e t. tt)))

      -- what it does before MEM
      before_memory : (n : ℕ) (l : n < length x.instructions) → IsSeen (asks_of d code (unit_of d.plans n) (plan_of d stands n l).plan) code s i
          → IsSameWhereLow x (W.Instruction n) (plan_of d stands n l).plan.graph.ops here there (IsBeforeMemory d.sheet (plan_of d stands n l).plan)
      before_memory n l seen =
          let p = plan_of d stands n l in
          let w = W.Instruction n in
          laws.before_memory stands.well_formed.0 x d.sheet w p.plan here there stands.well_formed.1 l stands.sheet p.planned (here_inputs w) (there_inputs w)
          (λ m o e other. own_agrees (unit_of d.plans n) p.plan seen m o e (λ is. absurd (other is)))

      -- what is at EX at the latest is before MEM
      low_by_execute : (t : ℕ) → t ≤ d.sheet.shape.ex → t < d.sheet.shape.mem
      low_by_execute t h = (let late = d.sheet.shape.lawful.memory_late in omega (arith, h, late))

      pub early_own : (n : ℕ) (l : n < length x.instructions) → IsSeen (asks_of d code (unit_of d.plans n) (plan_of d stands n l).plan) code s i
          → IsEarlyEffect (asks_of d code (unit_of d.plans n) (plan_of d stands n l).plan) (effect_at x (W.Instruction n) here) (effect_at x (W.Instruction n) there)
      early_own n l seen =
          let p = plan_of d stands n l in
          let w = W.Instruction n in
          let ops = p.plan.graph.ops in
          let same = before_memory n l seen in
          let times = laws.times stands.well_formed.0 x d.sheet w p.plan stands.well_formed.1 l stands.sheet p.planned in
          record {
            load = load_same x w here there (same.reads (λ m o e is. low_by_execute (slice_index p.plan.times m) (times.loads m o e is)));
            store = store_same x w here there (same.store (λ m o e t. low_by_execute (slice_index p.plan.times m) (times.stores m o e (target_is_memory o.kind t))));
            pc = λ late. pc_same x w ops here there (IsBeforeMemory d.sheet p.plan) same.values
                (λ m o e t. low_by_execute (slice_index p.plan.times m) (asks_late d code (unit_of d.plans n) p.plan late m o e (target_is_pc o.kind t) (times.jumps m o e (target_is_pc o.kind t))));
            customs = λ r late spawn.
                custom_same x w ops here there (IsBeforeMemory d.sheet p.plan) same.values r
                (λ few m o e t. low_by_execute (slice_index p.plan.times m) (asks_late_customs d code (unit_of d.plans n) p.plan r few late spawn m o e (target_is_custom o.kind r t)));
          }

      -- it writes the same to its x register, where the time of that write is below MEM
      pub own_x : (n : ℕ) (l : n < length x.instructions) → IsSeen (asks_of d code (unit_of d.plans n) (plan_of d stands n l).plan) code s i → (asks_of d code (unit_of d.plans n) (plan_of d stands n l).plan).destination ≢ 0
          → (asks_of d code (unit_of d.plans n) (plan_of d stands n l).plan).x_time < d.sheet.shape.mem → (effect_at x (W.Instruction n) here).rd ≡ (effect_at x (W.Instruction n) there).rd
      own_x n l seen some low =
          let p = plan_of d stands n l in
          let w = W.Instruction n in
          let write = has_write d code (unit_of d.plans n) p.plan some in
          let single = laws.single stands.well_formed.0 x d.sheet w p.plan stands.well_formed.1 l p.planned in
          let there_low : IsBeforeMemory d.sheet p.plan write.number = subst (λ (t : ℕ). t < d.sheet.shape.mem) write.time low in
          rd_same x w p.plan.graph.ops here there (IsBeforeMemory d.sheet p.plan) (before_memory n l seen).values
          (λ m o e t. subst (IsBeforeMemory d.sheet p.plan) (single 1 write.number m write.op o write.is e (ap target_of write.kind) t) there_low)

      -- ---- a base instruction
      base_used : (b : Base) → decoded code ≡ Some b → IsSeen (base_asks d.sheet.shape (blank_in d).customs b) code s i → SameUsed b here.rs1 here.rs2 there.rs1 there.rs2
      base_used b is seen = (let n = names b code is in record { first = λ h. seen.first (sym (n.first h)); second = λ h. seen.second (sym (n.second h)) })

      pub exact_base : (b : Base) → decoded code ≡ Some b → IsSeen (base_asks d.sheet.shape (blank_in d).customs b) code s i → (is_some (load_at b) ≡ true → memory ≡ s.mem) → base_effect b here ≡ base_effect b there
      exact_base b is seen loads =
          let used = base_used b is seen in
          let most = base_same b here there seen.pc used in
          effect_from (base_effect b here) (base_effect b there) (base_rd_same b here there seen.pc used (λ h. ap peeked (loads h))) most.pc most.custom most.load most.store

      pub early_base : (b : Base) → decoded code ≡ Some b → IsSeen (base_asks d.sheet.shape (blank_in d).customs b) code s i → IsEarlyEffect (base_asks d.sheet.shape (blank_in d).customs b) (base_effect b here) (base_effect b there)
      early_base b is seen =
          let most = base_same b here there seen.pc (base_used b is seen) in
          record { load = most.load; store = most.store; pc = λ late. most.pc; customs = λ r late spawn. refl }

      -- it writes the same to its x register, where the time of that write is below MEM: then it is no load
      pub base_x : (b : Base) → decoded code ≡ Some b → IsSeen (base_asks d.sheet.shape (blank_in d).customs b) code s i → (base_asks d.sheet.shape (blank_in d).customs b).destination ≢ 0
          → (base_asks d.sheet.shape (blank_in d).customs b).x_time < d.sheet.shape.mem → (base_effect b here).rd ≡ (base_effect b there).rd
      base_x b is seen some low =
          base_rd_same b here there seen.pc (base_used b is seen) (λ loads. (let late = load_late d b some loads in absurd (omega (arith, late, low))))
