-- What is said of a behaviour has the form of a report and no fault.
use Rattle.std.proofs.Common.{◌≡◌, ◌≢◌, ◌∙◌, sym, refl, ap, subst, ℕ, ◌^◌, ◌≤◌, ◌<◌, List, [], ◌∷◌, length, map, slice_index, Some, None, Bool, arith}
use Rattle.std.specs.Prelude.{All, sum_by}
use Rattle.std.proofs.lemmas.List.{length-map}
use Rattle.std.proofs.lemmas.List.Elements.{All-weaker, All-cons, All-nil, All-head, All-tail, All-get_or, All-from_get_or}
use Rattle.ix_graph.specs.declared.graph.Graph.{Graph}
use Rattle.ix_graph.specs.declared.graph.Mode.{Mode}
use Rattle.ix_graph.specs.Graphs.{IsValidGraph}
use Rattle.ix_sheet.specs.declared.sheet.Sheet.{Sheet}
use Rattle.ix_sheet.specs.declared.problem.Bound.{Bound}
use Rattle.ix_sheet.specs.declared.problem.Problem.{Problem}
use Rattle.ix_sheet.specs.Sheets.{IsValidSheet}
use Rattle.ix_sheet.specs.BehaviourLaws.{ProblemLaw}
use Rattle.ix_sheet.specs.Schedules.{IsValidProblem, node_at, IsSchedule}
use Rattle.ix_sheet.specs.Behaviours.{problem_of, AreEdges}
use Rattle.ix_solve.specs.Answers.{AreWords}
use Rattle.ix_sheet.specs.Bounds.{IsBoundOf, arc_of, Flow}
use Rattle.ix_modes.specs.declared.scheduled.Scheduled.{Scheduled}
use Rattle.ix_modes.specs.Modes.{IsScheduled, IsUnschedulable}
use Rattle.ix_cert.specs.declared.report.ReportBlock.{ReportBlock}
use Rattle.ix_cert.specs.Layout.{IsName, IsNodeInForm, IsBoundInForm, IsPartInForm, HasCertificate, IsBlockInForm}
use Rattle.ix_reports.specs.Blocks.{kind_text, IsSound}
use Rattle.ix_reports.proofs.Faultless.{schedule_faultless, cycle_faultless}
use Rattle.ix_reports.proofs.Forming.{bound_in_form, nodes_in_form, weights_in_form, count_of_nodes, period_of_problem, kinds_in_form}

parts_in_form : (p : Problem) (flow : Flow) → IsValidProblem p → All (λ c. IsBoundOf p c.0) flow → All (λ c. 0 < c.1) flow → AreWords flow
    → All (IsPartInForm (length p.ops)) flow
parts_in_form p [] valid bounds positive words = All-nil (IsPartInForm (length p.ops))
parts_in_form p (c ∷ cs) valid bounds positive words =
    All-cons (IsPartInForm (length p.ops)) c cs
    (record { bound = bound_in_form p c.0 valid (All-head (λ c. IsBoundOf p c.0) c cs bounds); positive = All-head (λ c. 0 < c.1) c cs positive; small = All-head (λ c. c.1 < 2 ^ 64) c cs words })
    (parts_in_form p cs valid (All-tail (λ c. IsBoundOf p c.0) c cs bounds) (All-tail (λ c. 0 < c.1) c cs positive) (All-tail (λ c. c.1 < 2 ^ 64) c cs words))

early_time : (t late : ℕ) → t ≤ late → late ≤ 255 → t ≤ 255
early_time t late h g = omega arith

times_in_form : (p : Problem) (times : List ℕ) → IsSchedule p times → All IsNodeInForm p.ops → All (λ t. t ≤ 255) times
times_in_form p times s nodes =
    All-from_get_or (λ t. t ≤ 255) times 0
    (λ k h. (let count = s.count in
    let here : k < length p.ops = omega arith in
    early_time (slice_index times k) (node_at p k).late (s.legal.windows k here).1 (All-get_or IsNodeInForm p.ops k (record { delay = 0; latency = 0; weight = 0; early = 0; late = 0 }) here nodes).late))

few_ops : (n m : ℕ) → n ≡ m → m ≤ 256 → n ≤ 65536
few_ops n m e h = omega arith

-- a block over the problem of a behaviour, with a certificate in form
form_over : (g : Graph) (sheet : Sheet) (mode : Mode) (p : Problem) (b : ReportBlock) → ProblemLaw → IsValidGraph g → IsValidSheet sheet → p ≡ problem_of g sheet mode
    → AreEdges g.ops p.edges → b.problem ≡ p → IsName b.name → b.kinds ≡ map kind_text g.ops → HasCertificate b b.mode → IsBlockInForm sheet.weighted sheet.period b
form_over g sheet mode p b law valid good problem_is edges_are is named kinds_are certificate =
    let all : b.problem ≡ problem_of g sheet mode = is ∙ problem_is in
    let sound : IsValidProblem (problem_of g sheet mode) = law g sheet mode valid in
    let count : length (problem_of g sheet mode).ops ≡ length g.ops = count_of_nodes g sheet mode valid in
    let here : length b.problem.ops ≡ length g.ops = ap (λ (q : Problem). length q.ops) all ∙ count in
    record {
      named = named;
      few = few_ops (length b.problem.ops) (length g.ops) here valid.few;
      count = ap length kinds_are ∙ length-map g.ops kind_text ∙ sym here;
      kinds = rw kinds_are (kinds_in_form g valid);
      nodes = rw all (nodes_in_form g sheet mode good);
      weights = rw all (weights_in_form g sheet mode);
      edges = rw all sound.forward;
      ordered = rw is edges_are.order;
      period_is = ap (λ (q : Problem). q.period) all ∙ period_of_problem g sheet mode;
      certificate = certificate;
    }

pub sound_schedule : (g : Graph) (sheet : Sheet) (block : Bool) (s : Scheduled) (kinds : List (List ℕ)) (name : List ℕ) → ProblemLaw → IsValidGraph g → IsValidSheet sheet
    → IsScheduled g sheet block s → IsName name → kinds ≡ map kind_text g.ops → s.cost < 2 ^ 64
    → IsSound sheet.weighted sheet.period (record { name = name; mode = Some s.mode; kinds = kinds; problem = s.problem; times = s.times; cost = s.cost; flow = s.flow; cycle = [] })
sound_schedule g sheet block s kinds name law valid good h named kinds_are cost_small =
    let sound : IsValidProblem (problem_of g sheet s.mode) = law g sheet s.mode valid in
    let here : IsValidProblem s.problem = rw h.problem_is sound in
    let b : ReportBlock = record { name = name; mode = Some s.mode; kinds = kinds; problem = s.problem; times = s.times; cost = s.cost; flow = s.flow; cycle = [] } in
    let certificate : HasCertificate b (Some s.mode) =
    (h.schedule.count, times_in_form s.problem s.times h.schedule (rw h.problem_is (nodes_in_form g sheet s.mode good)), cost_small, parts_in_form s.problem s.flow here h.flow_is.bounds h.flow_is.positive h.amounts, refl) in
    record {
      in_form = form_over g sheet s.mode s.problem b law valid good h.problem_is h.edges_are refl named kinds_are certificate;
      faultless = schedule_faultless b h.schedule h.cost_is h.flow_is h.value;
    }

some_bounds : (p : Problem) (cycle : List Bound) → sum_by (λ x. (arc_of p x).down) cycle < sum_by (λ x. (arc_of p x).up) cycle → cycle ≢ []
some_bounds p cycle h e =
    let P : List Bound → Type 0 = λ xs. sum_by (λ x. (arc_of p x).down) xs < sum_by (λ x. (arc_of p x).up) xs in
    let at : P [] = subst P e h in
    omega arith

pub sound_cycle : (g : Graph) (sheet : Sheet) (block : Bool) (p : Problem) (cycle : List Bound) (kinds : List (List ℕ)) (name : List ℕ) → ProblemLaw → IsValidGraph g → IsValidSheet sheet
    → IsUnschedulable g sheet block p cycle → IsName name → kinds ≡ map kind_text g.ops
    → IsSound sheet.weighted sheet.period (record { name = name; mode = None; kinds = kinds; problem = p; times = []; cost = 0; flow = []; cycle = cycle })
sound_cycle g sheet block p cycle kinds name law valid good h named kinds_are =
    let sound : IsValidProblem (problem_of g sheet h.widest) = law g sheet h.widest valid in
    let here : IsValidProblem p = rw h.problem_is sound in
    let b : ReportBlock = record { name = name; mode = None; kinds = kinds; problem = p; times = []; cost = 0; flow = []; cycle = cycle } in
    let certificate : HasCertificate b None =
    (refl, refl, refl, All-weaker (IsBoundOf p) (IsBoundInForm (length p.ops)) (λ x e. bound_in_form p x here e) cycle h.cycle_is.bounds, some_bounds p cycle h.cycle_is.positive) in
    record {
      in_form = form_over g sheet h.widest p b law valid good h.problem_is h.edges_are refl named kinds_are certificate;
      faultless = cycle_faultless b h.cycle_is;
    }
