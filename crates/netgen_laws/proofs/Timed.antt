-- A legal schedule of a behaviour's problem gives times that its netlist may have.
use Rattle.std.proofs.Common.{◌≡◌, ℕ, ◌+◌, ◌-◌, ◌<◌, ◌≤◌, Bool, true, false, List, [], ◌∷◌, Some, length, map, min, get_or, arith, refl, ap, sym, ◌∙◌, subst, All, Contains}
use Rattle.std.specs.Prelude.{slice_get}
use Rattle.std.specs.List.{zip}
use Rattle.std.proofs.lemmas.Bool.{cond_both, ltb-true}
use Rattle.std.proofs.lemmas.List.{length-map, get_or-map, get_or_default}
use Rattle.std.proofs.lemmas.List.Elements.{All-from_recursion, All-contains}
use Rattle.std.proofs.lemmas.Option.{slice_get_within, get_or_from_slice_get}
use Rattle.std.proofs.lemmas.Slice.Zip.{length-zip, get_or-zip}
use Rattle.rv_core.specs.declared.Shape.{Shape}
use Rattle.ix_graph.specs.declared.args.Arg.TheVariants as arg
use Rattle.ix_graph.specs.declared.graph.Op.{Op}
use Rattle.ix_graph.specs.declared.graph.Graph.{Graph}
use Rattle.ix_graph.specs.declared.graph.Mode.{Mode}
use Rattle.ix_graph.specs.declared.graph.Mode.TheVariants.{InPipeline, Tight, Decoupled, Always}
use Rattle.ix_graph.specs.declared.kind.Kind.{Kind}
use Rattle.ix_graph.specs.declared.kind.Kind.TheVariants.{WrRD, WrPC, WrCustReg}
use Rattle.ix_graph.specs.Graphs.{IsValidGraph}
use Rattle.ix_graph.specs.Kinds.{place_of}
use Rattle.ix_sheet.specs.declared.problem.Node.{Node}
use Rattle.ix_sheet.specs.declared.problem.Problem.{Problem}
use Rattle.ix_sheet.specs.declared.sheet.Sheet.{Sheet}
use Rattle.ix_sheet.specs.Sheets.{IsValidSheet, native_windows_of, window_at}
use Rattle.ix_sheet.specs.Schedules.{node_at, IsSchedule, IsAfter}
use Rattle.ix_sheet.specs.Behaviours.{window_of, window_in, last_if_tight, node_of, latency_of, problem_of, IsEdge, AreEdges}
use Rattle.ix_netgen.specs.KeptWires.{timetable_of, IsTimed}

-- the window begins at the stage of operands at the earliest, and ends at the last time at the latest
abbrev IsBetween : ℕ → ℕ × ℕ → Type 0
IsBetween rd window = (rd ≤ window.0) × (window.1 ≤ 64)

-- ---- windows
natives : (shape : Shape) → All (IsBetween shape.rd) (native_windows_of shape)
natives shape =
    let first = shape.lawful.reads_first in
    let late = shape.lawful.memory_late in
    let inside = shape.lawful.memory_inside in
    let most = shape.lawful.most in
    let any : IsBetween shape.rd (shape.rd, shape.stages - 1) = (omega arith, omega arith) in
    let operand : IsBetween shape.rd (shape.rd, shape.ex) = (omega arith, omega arith) in
    let execute : IsBetween shape.rd (shape.ex, shape.ex) = (omega arith, omega arith) in
    let write : IsBetween shape.rd (shape.ex, shape.stages - 1) = (omega arith, omega arith) in
    All-from_recursion (IsBetween shape.rd) (native_windows_of shape) (any, (operand, (operand, (any, (execute, (execute, (write, (write, (write, (execute, tt))))))))))

of_sheet : (sheet : Sheet) (k : ℕ) → IsValidSheet sheet → k < 10 → IsBetween sheet.shape.rd (window_at sheet.window k)
of_sheet sheet k valid l =
    let native : IsBetween sheet.shape.rd (window_at (native_windows_of sheet.shape) k) = natives sheet.shape k (0, 0) l in
    let inside = valid.windows k l in
    let low = native.0 in let high = native.1 in let first = inside.first in let last = inside.last in
    (omega arith, omega arith)

of_kind : (sheet : Sheet) (kind : Kind) → IsValidSheet sheet → IsBetween sheet.shape.rd (window_of sheet kind)
of_kind sheet kind valid =
    cond_both _ (window_at sheet.window (place_of kind)) (sheet.shape.rd, 64) (IsBetween sheet.shape.rd)
    (λ t. of_sheet sheet (place_of kind) valid (ltb-true (place_of kind) 10 t)) (λ f. (omega arith, omega arith))

tight_last : (kind : Kind) (last : ℕ) → last ≤ 64 → last_if_tight kind last ≤ 64
tight_last WrRD last l = omega arith
tight_last WrPC last l = omega arith
tight_last (WrCustReg r) last l = omega arith
tight_last kind last l = l

spawned_is : (sheet : Sheet) → IsBetween sheet.shape.rd (sheet.shape.stages, 64)
spawned_is sheet =
    let first = sheet.shape.lawful.reads_first in let late = sheet.shape.lawful.memory_late in let inside = sheet.shape.lawful.memory_inside in
    (omega arith, omega arith)

pub in_mode : (sheet : Sheet) (mode : Mode) (kind : Kind) (spawned : Bool) → IsValidSheet sheet → IsBetween sheet.shape.rd (window_in sheet mode kind spawned)
in_mode sheet Always kind spawned valid =
    let first = sheet.shape.lawful.reads_first in let late = sheet.shape.lawful.memory_late in
    let inside = sheet.shape.lawful.memory_inside in let most = sheet.shape.lawful.most in
    (omega arith, omega arith)
in_mode sheet Decoupled kind true valid = spawned_is sheet
in_mode sheet Decoupled kind false valid = of_kind sheet kind valid
in_mode sheet InPipeline kind true valid = spawned_is sheet
in_mode sheet InPipeline kind false valid = of_kind sheet kind valid
in_mode sheet Tight kind true valid = spawned_is sheet
in_mode sheet Tight kind false valid = (let h = of_kind sheet kind valid in (h.0, tight_last kind (window_of sheet kind).1 h.1))

-- ---- operations
module _ (g : Graph) (sheet : Sheet) (mode : Mode) (valid : IsValidGraph g) where
  count_is : length (problem_of g sheet mode).ops ≡ length g.ops
  unfolding problem_of
  count_is =
      let size = length-map (zip g.ops g.spawned) (node_of sheet mode) in
      let both = length-zip g.ops g.spawned in
      let flags = valid.flags in
      size ∙ both ∙ omega arith

  node_is : (k : ℕ) (op : Op) → k < length g.ops → node_at (problem_of g sheet mode) k ≡ node_of sheet mode (get_or g.ops k op, get_or g.spawned k true)
  unfolding problem_of
  node_is k op l =
      let both = length-zip g.ops g.spawned in
      let flags = valid.flags in
      get_or-map (node_of sheet mode) (zip g.ops g.spawned) k (op, true) (record { delay = 0; latency = 0; weight = 0; early = 0; late = 0 }) (omega arith)
      ∙ ap (node_of sheet mode) (get_or-zip g.ops g.spawned k (op, true) l (omega arith))

-- ---- times
within : (rd t : ℕ) (node : Node) (sheet : Sheet) (mode : Mode) (e : Op × Bool) → IsValidSheet sheet → rd ≡ sheet.shape.rd → node ≡ node_of sheet mode e
    → node.early ≤ t → t ≤ node.late → (rd ≤ t) × (t ≤ 64)
within rd t node sheet mode e valid er en low high =
    let h = in_mode sheet mode e.0.kind e.1 valid in
    let first = h.0 in let last = h.1 in
    let early = ap (λ (n : Node). n.early) en in
    let late = ap (λ (n : Node). n.late) en in
    (omega arith, omega arith)

some_op : (xs : List Op) (k : ℕ) → k < length xs → Op
some_op [] k l = absurd (omega arith)
some_op (x ∷ xs) k l = x

pub timed_from : (g : Graph) (sheet : Sheet) (mode : Mode) (times : List ℕ) → IsValidGraph g → IsValidSheet sheet → AreEdges g.ops (problem_of g sheet mode).edges
    → IsSchedule (problem_of g sheet mode) times → IsTimed (timetable_of sheet.shape g times)
timed_from g sheet mode times graph valid arguments h =
    let size = count_is g sheet mode graph in
    let count = h.count in
    let at : (k : ℕ) (d : ℕ) → k < length times → (sheet.shape.rd ≤ get_or times k d) × (get_or times k d ≤ 64) =
    λ k d l.
    (let inside : k < length g.ops = omega arith in
    let op : Op = some_op g.ops k inside in
    let window = h.legal.windows k (omega arith) in
    let P : ℕ → Type 0 = λ t. (sheet.shape.rd ≤ t) × (t ≤ 64) in
    subst P (get_or_default times k 0 d l)
    (within sheet.shape.rd (get_or times k 0) (node_at (problem_of g sheet mode) k) sheet mode (get_or g.ops k op, get_or g.spawned k true) valid refl (node_is g sheet mode graph k op inside) window.0 window.1)) in
    record {
      count = count ∙ size;
      from_rd = λ k d l. (at k d l).0;
      most = λ k d l. (at k d l).1;
      edges = λ k j op x hk c hj.
          (let e : Contains (problem_of g sheet mode).edges (j, k) = arguments.all (j, k) (record { op = op; end = hk; argument = c }) in
          let after = All-contains (IsAfter (problem_of g sheet mode) (λ i. get_or times i 0)) (problem_of g sheet mode).edges (j, k) h.legal.edges e in
          let node = node_is g sheet mode graph j x (slice_get_within g.ops j x hj) in
          let same : get_or g.ops j x ≡ x = get_or_from_slice_get g.ops j x x hj in
          let latency = ap (λ (n : Node). n.latency) node ∙ ap (λ (o : Op). latency_of sheet.shape o.kind) same in
          omega arith);
    }
