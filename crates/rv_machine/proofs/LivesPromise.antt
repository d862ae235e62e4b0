-- What is promised of outputs follows from lives and from what inputs carry in them.
use Rattle.std.proofs.Common.{◌≡◌, ◌≢◌, ℕ, zero, suc, ◌+◌, ◌<◌, ◌≤◌, ◌^◌, List, [], ◌∷◌, ◌++◌, map, length, take, append_assoc, Option, Some, Bool, refl, sym, ap, ◌∙◌, subst, arith, inl, inr}
use Rattle.std.specs.Prelude.{slice_get, slice_index}
use Rattle.std.proofs.lemmas.Bool.{cases_lt}
use Rattle.std.proofs.lemmas.List.{length-map, get_or-take}
use Rattle.ix_behaviour.specs.declared.which.Which.{Which}
use Rattle.ix_behaviour.specs.Behaviours.{targets_at}
use Rattle.ix_extension.specs.Extensions.{view_extension}
use Rattle.ix_flow.specs.Flows.{flag_of}
use Rattle.ix_graph_laws.specs.GraphEffects.{values_under}
use Rattle.ix_mean.specs.Typing.{AreInputs}
use Rattle.ix_net.specs.declared.netlist.Net.{Net}
use Rattle.ix_net.specs.Run.{IsRunFrom, next_banks, cycle_at}
use Rattle.ix_net.specs.Valuation.{inputs_of}
use Rattle.ix_plan.specs.declared.design.Design.{Design}
use Rattle.ix_plan.specs.declared.design.Plan.{Plan}
use Rattle.ix_plan.specs.Service.{Carries, Shows, ShowsTerms}
use Rattle.ix_behaviour.specs.Flags.{flags_at}
use Rattle.ix_standing.specs.Served.{ServedLaw}
use Rattle.rv_core.specs.declared.Shape.{Shape}
use Rattle.rv_engine.specs.Settings.{setting}
use Rattle.rv_lawful.specs.Entering.{places}
use Rattle.rv_lawful.specs.Settings.{entries_at}
use Rattle.rv_lawful.specs.LawfulTrace.{IsWordOf}
use Rattle.rv_machine.specs.Promises.{IsRunnable}
use Rattle.rv_machine.specs.Running.{AreRows}
use Rattle.rv_seq.specs.Runs.{run_with}
use Rattle.rv_seq.specs.States.{inputs_at}
use Rattle.rv_trace.specs.declared.row.Row.{Row}
use Rattle.rv_trace.specs.Trace.{place}
use Rattle.rv_ports.specs.declared.modules.Module.{Module}
use Rattle.rv_ports.specs.Drives.{Drives, drives_of}
use Rattle.rv_ports.specs.Driven.{Driving, inputs_over, IsDriven}
use Rattle.rv_ports.specs.Inputs.{module_of}
use Rattle.rv_machine.specs.Promise.{ShowsRun, IsPromised, Promised}
use Rattle.rv_machine.specs.Lives.{IsTokenAt, IsWatched, HasLife, IsDrivenBy, LivesLaw, HasRead, ReadsLaw}
use Rattle.rv_machine.proofs.LivesDesign.{which_of, core_is}
use Rattle.rv_machine.proofs.LivesInputs.{over_length}
use Rattle.rv_machine.proofs.LivesOutputs.{output_late, output_last}

-- ---- two rows in succession

record Succession (rows : List Row) (i : ℕ) : Type 0 where
  newer : List Row
  next : Row
  past : Row
  older : List Row
  are : rows ≡ newer ++ (next ∷ past ∷ older)
  count : length older ≡ i

one_further : (row : Row) (rows : List Row) (i : ℕ) → Succession rows i → Succession (row ∷ rows) i
one_further row rows i y = record { newer = row ∷ y.newer; next = y.next; past = y.past; older = y.older; are = ap (λ (l : List Row). row ∷ l) y.are; count = y.count }

succession : (rows : List Row) (i : ℕ) → i + 1 < length rows → Succession rows i
succession [] i lt = absurd (omega (arith, lt))
succession (a ∷ []) i lt = absurd (omega (arith, lt))
succession (a ∷ b ∷ rest) i lt = elim (cases_lt i (length rest)) [
  | inl less ↦ one_further a (b ∷ rest) i (succession (b ∷ rest) i (omega (arith, less)))
  | inr ge ↦ record { newer = []; next = a; past = b; older = rest; are = refl; count = omega (arith, lt, ge) }
]

-- ---- one row

module _ (lives : LivesLaw) (reads : ReadsLaw) (served : ServedLaw) (d : Design) (image waits : List ℕ) (lines : Option (List ℕ))
    (seen : (ps : List ℕ) (word p : ℕ) (w : Which) → word < 2 ^ 32 → AreInputs (targets_at (view_extension d.extension) w) (inputs_at word (run_with (view_extension d.extension) image (entries_at d.sheet.shape.trap lines ps) p)))
    (n : ℕ) (p : Plan) (net : Net) (row : Row) (earlier : List Row) (cycles : List (List ℕ)) (h : IsDrivenBy d image waits lines n p net (row ∷ earlier) cycles)
    (worded : (s word : ℕ) → IsWordOf (drives_of d image waits lines (places earlier)).setting (row ∷ earlier) s word → word < 2 ^ 32) where
  abbrev x : Drives
  x = drives_of d image waits lines (places earlier)

  abbrev m : Module
  m = module_of x n p

  abbrev shape : Shape
  shape = d.sheet.shape

  module _ (s word t : ℕ) (watched : IsWatched x m earlier row s word t) (known : IsWordOf x.setting (row ∷ earlier) s word) where
    abbrev k : ℕ
    k = place (row ∷ earlier) s

    abbrev terms : ℕ → ℕ
    terms = values_under p.graph (inputs_at word (run_with x.extension image x.setting.entries k))

    -- with a life of the token, the outputs show the run's values
    shown_by_life : (life : HasLife x m net (row ∷ earlier) cycles s word t) → shape.ex ≤ t → Shows p.graph p.times net terms t (cycle_at cycles (length earlier))
    shown_by_life life late =
        let w = which_of d image waits lines [] h.runnable.stands n p net h.plan h.net_is in
        let l = life.long in
        let r = life.reaches in
        let at : life.first + life.before ≡ length earlier = omega (arith, l, r) in
        let read = reads d image waits lines n p net row earlier cycles h s word t watched in
        let terms_shown : ShowsTerms shape p.graph p.times net terms = (served d h.runnable.stands n w.which p net w.is h.plan h.net_is (inputs_at word (run_with x.extension image x.setting.entries k)) (seen (places earlier) word k w.which (worded s word known))).shows in
        let now : Carries shape p.graph p.times net terms (slice_index life.life life.before) (cycle_at cycles (life.first + life.before)) =
        subst (λ i. Carries shape p.graph p.times net terms (slice_index life.life life.before) (cycle_at cycles i)) (sym at)
        (subst (λ u. Carries shape p.graph p.times net terms u (cycle_at cycles (length earlier))) (sym life.last) (read.now late)) in
        let whole = terms_shown cycles h.driven.run life.first life.life life.is life.before (omega (arith, l)) (carried read) now in
        subst (λ i. Shows p.graph p.times net terms t (cycle_at cycles i)) at (subst (λ u. Shows p.graph p.times net terms u (cycle_at cycles (life.first + life.before))) life.last whole) where
          carried : HasRead x m p net earlier row cycles s word t → (i : ℕ) → i < life.before → slice_index life.life (i + 1) ≢ slice_index life.life i → Carries shape p.graph p.times net terms (slice_index life.life i) (cycle_at cycles (life.first + i))
          carried read i lt moves =
              let l = life.long in
              let r = life.reaches in
              let y = succession (row ∷ earlier) (life.first + i) (omega (arith, l, r, lt)) in
              let c = y.count in
              let one : row ∷ earlier ≡ (y.newer ++ y.next ∷ []) ++ (y.past ∷ y.older) = y.are ∙ sym (append_assoc y.newer (y.next ∷ []) (y.past ∷ y.older)) in
              let before : IsTokenAt x m y.older y.past s word (slice_index life.life i) = life.each i (y.newer ++ y.next ∷ []) y.older y.past (omega (arith, l, lt)) one c in
              let after : IsTokenAt x m (y.past ∷ y.older) y.next s word (slice_index life.life (i + 1)) = life.each (i + 1) y.newer (y.past ∷ y.older) y.next (omega (arith, l, lt)) y.are (omega (arith, c)) in
              subst (λ j. Carries shape p.graph p.times net terms (slice_index life.life i) (cycle_at cycles j)) c
              (read.left y.newer y.older y.next y.past (slice_index life.life i) (slice_index life.life (i + 1)) y.are before after (λ e. moves (sym e)))

    -- so do they, since each output is of a time from EX to the last one
    pub shown_there : ShowsRun x p net (cycle_at cycles (length earlier)) t word (place (row ∷ earlier) s)
    shown_there i op e at j letter a lj aj =
        let w = which_of d image waits lines [] h.runnable.stands n p net h.plan h.net_is in
        let planned = w.built.planned in
        let flags : length p.graph.spawned ≡ length p.graph.ops = ap (λ (fs : List Bool). length fs) planned.graph.flags ∙ length-map p.graph.ops (flag_of (flags_at x.extension w.which)) in
        let late = output_late p.graph d.sheet p.mode flags h.runnable.stands.sheet p.times planned.schedule i op e j letter lj in
        let end = output_last p.graph d.sheet p.mode flags h.runnable.stands.sheet p.times planned.schedule i op e in
        let last = planned.last in
        let core = (core_is d image waits lines [] h.runnable.stands n p net h.plan h.net_is).rd_ex in
        let life = lives d image waits lines n p net row earlier cycles h s word t watched (omega (arith, core, late, at)) (omega (arith, end, last, at)) in
        shown_by_life life (omega (arith, late, at)) i op e at j letter a lj aj

  pub promised_now : IsPromised x n p net earlier row (cycle_at cycles (length earlier))
  promised_now = record {
    in_stage = λ t c y.
        let w : IsWatched x m earlier row c.serial c.word t = inl (record { cell = c; in_stage = y; serial = refl; word_is = refl }) in
        shown_there c.serial c.word t w (inl (y.stage, c, y.stands, refl, refl));
    in_unit = λ t s word y. shown_there s word t (inr y) y.word_is;
  }

-- ---- all rows

run_taken : (net : Net) (i : ℕ) (banks : List ℕ) (cycles : List (List ℕ)) → IsRunFrom net banks cycles → IsRunFrom net banks (take i cycles)
run_taken net zero banks cycles h = tt
run_taken net (suc i) banks [] h = tt
run_taken net (suc i) banks (values ∷ rest) h = (h.0, h.1, run_taken net i (next_banks net values) rest h.2)

map_taken : (net : Net) (i : ℕ) (cycles : List (List ℕ)) → map (inputs_of net) (take i cycles) ≡ take i (map (inputs_of net) cycles)
map_taken net zero cycles = refl
map_taken net (suc i) [] = refl
map_taken net (suc i) (values ∷ rest) = ap (λ l. inputs_of net values ∷ l) (map_taken net i rest)

take_front : (xs : List (List ℕ)) (y : List ℕ) (i : ℕ) → length xs ≡ i → take i (xs ++ y ∷ []) ≡ xs
take_front [] y zero e = refl
take_front [] y (suc i) e = absurd (omega (arith, e))
take_front (x ∷ xs) y zero e = absurd (omega (arith, e))
take_front (x ∷ xs) y (suc i) e = ap (λ l. x ∷ l) (take_front xs y i (omega (arith, e)))

-- the cycles of the rows before the newest
driven_before : (x : Driving) (n : ℕ) (p : Plan) (net : Net) (row : Row) (earlier : List Row) (cycles : List (List ℕ)) → IsDriven x n p net (row ∷ earlier) cycles → IsDriven x n p net earlier (take (length earlier) cycles)
unfolding inputs_over
driven_before x n p net row earlier cycles h = record {
  run = run_taken net (length earlier) _ cycles h.run;
  inputs = map_taken net (length earlier) cycles ∙ ap (λ l. take (length earlier) l) h.inputs ∙ take_front (inputs_over x n p earlier) _ (length earlier) (over_length x n p earlier);
}

same_promised : (x : Driving) (n : ℕ) (p : Plan) (net : Net) (i : ℕ) (cycles : List (List ℕ)) (rows : List Row) → length rows ≤ i → Promised x n p net rows (take i cycles) → Promised x n p net rows cycles
same_promised x n p net i cycles [] le h = tt
same_promised x n p net i cycles (row ∷ earlier) le h = (
  subst (λ v. IsPromised (x (places earlier)) n p net earlier row v) (get_or-take i cycles (length earlier) [] (omega (arith, le))) h.0,
  same_promised x n p net i cycles earlier (omega (arith, le)) h.1,
)

module _ (lives : LivesLaw) (reads : ReadsLaw) (served : ServedLaw) (d : Design) (image waits : List ℕ) (lines : Option (List ℕ))
    (seen : (ps : List ℕ) (word p : ℕ) (w : Which) → word < 2 ^ 32 → AreInputs (targets_at (view_extension d.extension) w) (inputs_at word (run_with (view_extension d.extension) image (entries_at d.sheet.shape.trap lines ps) p)))
    (runnable : IsRunnable d image) (n : ℕ) (p : Plan) (net : Net) (plan : slice_get d.plans n ≡ Some p) (net_is : slice_get d.nets n ≡ Some net) where
  pub promised_rows : (rows : List Row) (cycles : List (List ℕ)) → AreRows (setting d image waits lines) rows → IsDriven (drives_of d image waits lines) n p net rows cycles
      → ((ps : List ℕ) (s word : ℕ) → IsWordOf (drives_of d image waits lines ps).setting rows s word → word < 2 ^ 32) → Promised (drives_of d image waits lines) n p net rows cycles
  promised_rows [] cycles are driven worded = tt
  promised_rows (row ∷ earlier) cycles are driven worded = (
    promised_now lives reads served d image waits lines seen n p net row earlier cycles (record { runnable = runnable; are_rows = are; plan = plan; net_is = net_is; driven = driven }) (worded (places earlier)),
    same_promised (drives_of d image waits lines) n p net (length earlier) cycles earlier (omega arith)
        (promised_rows earlier (take (length earlier) cycles) are.2 (driven_before (drives_of d image waits lines) n p net row earlier cycles driven) (λ ps s word y. worded ps s word (inr y))),
  )
