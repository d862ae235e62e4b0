-- The rows of a machine keep what is promised of them, where its design stands.
use Rattle.rv_machine.proofs.EachRow.{state_after}
use Rattle.rv_machine.proofs.Carried.{same_decoupled_at, row_at}
use Rattle.std.specs.List.{flat_map}
use Rattle.rv_lawful.specs.Answering.{rows_interrupted}
use Rattle.rv_lawful.specs.Entering.{places}
use Rattle.rv_lawful.specs.Settings.{entries_at}
use Rattle.std.proofs.Common.{◌≡◌, ℕ, ◌≤◌, List, [], ◌∷◌, ◌++◌, length, take, None, refl, ap, subst, ◌∙◌, arith, sym, zero, suc, ◌+◌, ◌*◌, drop, Option, Some}
use Rattle.std.specs.Prelude.{reverse, replicate}
use Rattle.std.proofs.lemmas.List.{take_all}
use Rattle.ix_extension.specs.Extensions.{ExtensionTree, view_extension}
use Rattle.ix_plan.specs.declared.design.Design.{Design}
use Rattle.ix_plan.specs.declared.design.Target.{Target}
use Rattle.ix_standing.specs.Standing.{Stands}
use Rattle.rv_seq.specs.declared.arch.Arch.{Arch}
use Rattle.rv_seq.specs.Runs.{start, entered, run_with}
use Rattle.rv_seq.specs.States.{first as first_state}
use Rattle.rv_trace.specs.declared.row.Row.{Row}
use Rattle.rv_trace.specs.Trace.{newest, retirements}
use Rattle.rv_trace.specs.TraceText.{trace_text}
use Rattle.rv_text.specs.RunText.{state_text}
use Rattle.rv_engine.specs.Settings.{Setting, setting, tree_of, shape_of, first_machine}
use Rattle.rv_engine.specs.Rows.{machine_after}
use Rattle.rv_lawful.specs.Outstanding.{decoupled, outstanding, outstanding_targets, architecture, applied_state, Decoupled, without, is_written, owed_targets}
use Rattle.rv_lawful.specs.Future.{future_file}
use Rattle.rv_lawful.specs.Headline.{Agreeing, Headline}
use Rattle.rv_sight.specs.InUnits.{AreInUnits}
use Rattle.rv_lawful.specs.Sight.{EarlyLaw, ExactLaw, KeepsLaw, TailLaw, TimeLaw, JumpLaw}
use Rattle.rv_machine.specs.Running.{AreRows, machine_at}
use Rattle.rv_machine.specs.DesignText.{most_targets}
use Rattle.rv_machine.specs.Promises.{IsRunnable, RowsLaw, StateLaw, ShownLaw, TextLaw}
use Rattle.rv_tried.specs.Whole.{WholeLaw, WideLaw}
use Rattle.rv_machine.specs.Owing.{judged, targets_owed}
use Rattle.rv_machine.specs.Placed.{Inv, IsReady, AnswerLaw, count, at_places}
use Rattle.rv_machine.proofs.ApartNext as A
use Rattle.rv_machine.proofs.Listed.{targets_listed, few_targets}
use Rattle.rv_machine.proofs.OwingNext as O
use Rattle.rv_machine.proofs.First.{first, start_is}
use Rattle.rv_machine.proofs.ShownTold.{shown_told}
use Rattle.rv_machine.proofs.GoesOn.{goes_on}
use Rattle.rv_machine.proofs.OneMore.{one_more_row, bound, AreAnswered, answered_after}
use Rattle.rv_machine.proofs.RunWords.{run_words, blocks_below, guess_below, handled}
use Rattle.rv_tried.specs.Tried.{blocks_seen}
use Rattle.rv_machine.proofs.RunWidths.{run_wide}
use Rattle.rv_sight.specs.Written.{WrittenLaw}

-- the laws of what a word may see
pub record Sights : Type 0 where
  pub early : (d : Design) → Stands d → EarlyLaw d
  pub exact : (d : Design) → Stands d → ExactLaw d
  pub keeps : (d : Design) → Stands d → KeepsLaw d
  pub tails : (d : Design) → Stands d → TailLaw d
  pub times : (d : Design) → Stands d → TimeLaw d
  pub jumps : (d : Design) → Stands d → JumpLaw d
  pub units : (d : Design) → Stands d → AreInUnits d
  pub written : (d : Design) → Stands d → WrittenLaw d
  pub whole : WholeLaw
  pub blocks_wide : WideLaw
  pub answers : AnswerLaw

-- so a design that stands is ready
pub ready_of : Sights → (d : Design) (image waits : List ℕ) (lines : Option (List ℕ)) → IsRunnable d image → (ps : List ℕ) → IsReady (at_places (setting d image waits lines) ps)
ready_of sights d image waits lines h ps =
    let law = d.sheet.shape.lawful in
    let a = law.memory_late in
    let b = law.memory_inside in
    let formed = h.stands.well_formed in
    record {
      rd_pos = law.reads_late;
      rd_ex = law.reads_first;
      ex_rd = law.reads_near;
      ex_mem = law.memory_late;
      mem_last = omega (arith, b);
      ex_last = omega (arith, a, b);
      most = law.most;
      handler = h.handler;
      early = sights.early d h.stands;
      exact = sights.exact d h.stands;
      keeps = sights.keeps d h.stands;
      tails = sights.tails d h.stands;
      times = sights.times d h.stands;
      jumps = sights.jumps d h.stands;
      in_units = sights.units d h.stands;
      written = sights.written d h.stands;
      whole = sights.whole;
      blocks_wide = sights.blocks_wide;
      answers = sights.answers;
      wide = λ p. run_wide formed.0 (view_extension d.extension) image (entries_at d.sheet.shape.trap lines ps) p formed.1;
      words = λ p. (run_words (view_extension d.extension) image (entries_at d.sheet.shape.trap lines ps) (handled d.sheet.shape.trap lines ps h.handler) p).registers;
      pcs = λ p. (run_words (view_extension d.extension) image (entries_at d.sheet.shape.trap lines ps) (handled d.sheet.shape.trap lines ps h.handler) p).pc;
      image = h.words;
      guesses = λ file memory at word. guess_below d.sheet.shape.predict (blocks_seen (view_extension d.extension) (record { word = word; rs1 = 0; rs2 = 0; pc = at; custom = file }) memory).pc at (blocks_below (view_extension d.extension) _ _).pc;
    }

-- what is known of the rows of a machine, the newest first
pub record IsKnown (k : Setting) (rows : List Row) : Type 0 where
  pub headline : Headline k.design k.image k.waits k.lines rows
  pub going : (newest rows).stop ≡ None → Inv (at_places k (places rows)) rows (machine_at k rows)
  pub answers : (newest rows).stop ≡ None → AreAnswered k rows (machine_at k rows)

-- before the first row no token stands
none_first : (n i : ℕ) → count (drop i (replicate n None)) ≡ 0
none_first zero zero = refl
none_first zero (suc i) = refl
none_first (suc n) zero = none_first n zero
none_first (suc n) (suc i) = none_first n i

answered_first : (k : Setting) → AreAnswered k [] (first_machine k)
unfolding rows_interrupted
answered_first k =
    let z = ap (λ c. c * (bound k + 1)) (none_first (shape_of k).stages (suc (shape_of k).ex)) in
    omega (arith, z)

pub known : (k : Setting) → ((ps : List ℕ) → IsReady (at_places k ps)) → (rows : List Row) → AreRows k rows → IsKnown k rows
unfolding machine_at places
known k ready [] are = record { headline = record { lawful = tt; agrees = tt; progress = tt; answers = tt }; going = λ _. first (at_places k []) (ready []) refl; answers = λ _. answered_first k }
known k ready (row ∷ earlier) are =
    let before = known k ready earlier are.2 in
    let inv = before.going are.1 in
    record {
      headline = one_more_row k ready earlier (machine_at k earlier) row inv are.0 are.1 before.headline (before.answers are.1);
      going = λ none. goes_on (at_places k (places earlier)) (ready (places earlier)) earlier (machine_at k earlier) row inv (row_at k (places earlier) (machine_at k earlier) row are.0) none;
      answers = λ none. answered_after k ready earlier (machine_at k earlier) row inv are.0 are.1 before.headline (before.answers are.1) none;
    }

pub rows_law : Sights → RowsLaw
rows_law sights d image waits lines rows h are = (known (setting d image waits lines) (ready_of sights d image waits lines h) rows are).headline

-- the list of what is outstanding, with other places
listed_at : (k : Setting) (ps : List ℕ) (rows : List Row) → outstanding (judged (at_places k ps)) rows ≡ outstanding (judged k) rows
listed_at k ps rows = ap (λ l. without (is_written rows) l) (decoupled_at rows) where
  decoupled_at : (rows : List Row) → decoupled (judged (at_places k ps)) rows ≡ decoupled (judged k) rows
  decoupled_at rows = same_decoupled_at k ps rows

-- after rows: the list of what is outstanding, and how long it is
record IsListed (k : Setting) (rows : List Row) : Type 0 where
  targets : targets_owed (machine_at k rows).owed ≡ outstanding_targets (judged (at_places k (places rows))) rows
  few : length (targets_owed (machine_at k rows).owed) ≤ 48

listed : (k : Setting) → ((ps : List ℕ) → IsReady (at_places k ps)) → (rows : List Row) → AreRows k rows → IsListed k rows
unfolding machine_at decoupled
listed k ready [] are = record { targets = refl; few = omega arith }
listed k ready (row ∷ earlier) are =
    let m = machine_at k earlier in
    let here = at_places k (places earlier) in
    let inv = (known k ready earlier are.2).going are.1 in
    let owing = O.owing_next here (ready (places earlier)) earlier m row inv (row_at k (places earlier) m row are.0) in
    let outs = outstanding (judged here) (row ∷ earlier) in
    record {
      targets =
          targets_listed here (row ∷ earlier) outs (machine_after k m).entries (machine_after k m).owed owing
          ∙ ap (λ (l : List Decoupled). flat_map (owed_targets (judged k)) (reverse l)) (listed_at k (places earlier) (row ∷ earlier) ∙ sym (listed_at k (places (row ∷ earlier)) (row ∷ earlier)));
      few = few_targets here (ready (places earlier)) (row ∷ earlier) outs (machine_after k m).entries (machine_after k m).owed owing (A.distinct_next here (ready (places earlier)) earlier m row inv (row_at k (places earlier) m row are.0));
    }

-- the state of the machine is that which its rows tell
pub arch_is : (k : Setting) → ((ps : List ℕ) → IsReady (at_places k ps)) → (rows : List Row) → AreRows k rows → (machine_at k rows).arch ≡ architecture (tree_of k) (judged (at_places k (places rows))) rows
unfolding machine_at architecture
arch_is k ready [] are = sym (start_is (tree_of k) (shape_of k).trap k.lines (places []))
arch_is k ready (row ∷ earlier) are =
    let m = machine_at k earlier in
    let inv = (known k ready earlier are.2).going are.1 in
    sym (state_after (at_places k (places earlier)) (ready (places earlier)) earlier m row inv (row_at k (places earlier) m row are.0))

-- with what is outstanding it is the run's
pub applied_is : (k : Setting) (x : ExtensionTree) (rows : List Row) → Agreeing x (λ ps. judged (at_places k ps)) rows → applied_state x (judged (at_places k (places rows))) rows ≡ run_with x k.image (entries_at (shape_of k).trap k.lines (places rows)) (retirements rows)
unfolding architecture decoupled retirements run_with places
applied_is k x [] h = by_lines k.lines where
  by_lines : (lines : Option (List ℕ)) → start x (entries_at (shape_of k).trap lines []) ≡ entered (entries_at (shape_of k).trap lines []) 0 (start x (entries_at (shape_of k).trap lines []))
  by_lines None = refl
  by_lines (Some l) = refl
applied_is k x (row ∷ earlier) h = h.0.state

pub state_law : Sights → StateLaw
state_law sights d image waits lines rows h are =
    let k = setting d image waits lines in
    let ready = ready_of sights d image waits lines h in
    let list = listed k ready rows are in
    record {
      state = arch_is k ready rows are;
      applied = applied_is k (view_extension d.extension) rows (rows_law sights d image waits lines rows h are).agrees;
      targets = list.targets;
      few = subst (λ (l : List (ℕ × Target)). length l ≤ 48) list.targets list.few;
    }

-- the future file of the machine is that which its rows tell
pub file_is : (k : Setting) → ((ps : List ℕ) → IsReady (at_places k ps)) → (rows : List Row) → AreRows k rows → (newest rows).stop ≡ None → future_file (judged (at_places k (places rows))) rows ≡ (machine_at k rows).future
file_is k ready rows are going = ((known k ready rows are).going going).file

pub shown_law : Sights → ShownLaw
shown_law sights d image waits lines row earlier h are =
    let k = setting d image waits lines in
    let ready = ready_of sights d image waits lines h in
    let inv = (known k ready earlier are.2).going are.1 in
    shown_told (at_places k (places earlier)) (ready (places earlier)) earlier (machine_at k earlier) row inv (row_at k (places earlier) (machine_at k earlier) row are.0) (file_is k ready earlier are.2 are.1)

pub text_law : Sights → TextLaw
text_law sights d image waits lines cycles text h t =
    let k = setting d image waits lines in
    let s = state_law sights d image waits lines t.rows h t.are_rows in
    let x = view_extension d.extension in
    let there = judged (at_places k (places t.rows)) in
    let all = trace_text d.sheet.shape.stages 0 (reverse t.rows) in
    let whole : take most_targets (targets_owed (machine_at k t.rows).owed) ≡ outstanding_targets there t.rows = ap (take most_targets) s.targets ∙ take_all most_targets _ s.few in
    record {
      rows = t.rows;
      headline = rows_law sights d image waits lines t.rows h t.are_rows;
      few = t.few;
      whole = t.whole;
      text_is =
          t.text_is
          ∙ ap (λ (a : Arch). all ++ state_text x (take most_targets (targets_owed (machine_at k t.rows).owed)) a) s.state
          ∙ ap (λ (l : List (ℕ × Target)). all ++ state_text x l (architecture x there t.rows)) whole;
    }
