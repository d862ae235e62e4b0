-- Outputs are of times from EX to the last time of their behaviour.
use Rattle.std.proofs.Common.{◌≡◌, ℕ, zero, suc, ◌<◌, ◌≤◌, List, [], ◌∷◌, length, get_or, Some, Bool, true, false, ap, ◌∙◌, subst, arith, lit<}
use Rattle.std.specs.Prelude.{slice_get, slice_index}
use Rattle.std.specs.List.{zip}
use Rattle.std.proofs.lemmas.List.{length-map, get_or-map}
use Rattle.std.proofs.lemmas.Option.{slice_get_within, get_or_from_slice_get}
use Rattle.std.proofs.lemmas.Slice.Zip.{length-zip, get_or-zip}
use Rattle.ix_graph.specs.declared.graph.Graph.{Graph}
use Rattle.ix_graph.specs.declared.graph.Mode.{Mode}
use Rattle.ix_graph.specs.declared.graph.Mode.TheVariants.{InPipeline, Tight, Decoupled, Always}
use Rattle.ix_graph.specs.declared.graph.Op.{Op}
use Rattle.ix_graph.specs.declared.kind.Kind.{Kind}
use Rattle.ix_graph.specs.declared.kind.Kind.TheVariants.{RdMem, WrRD, WrPC, WrCustReg, WrMem}
use Rattle.ix_ports.specs.declared.letter.Letter.{Letter}
use Rattle.ix_ports.specs.Ports.{last_from, letters_of}
use Rattle.ix_sheet.specs.declared.problem.Node.{Node}
use Rattle.ix_sheet.specs.declared.sheet.Sheet.{Sheet}
use Rattle.ix_sheet.specs.Behaviours.{window_of, window_in, node_of, problem_of}
use Rattle.ix_sheet.specs.Schedules.{node_at, IsSchedule, IsInWindow}
use Rattle.ix_sheet.specs.Sheets.{IsValidSheet}

-- what has an output has its window from EX on
late_window : (sheet : Sheet) → IsValidSheet sheet → (kind : Kind) (j : ℕ) (letter : Letter) → slice_get (letters_of kind) j ≡ Some letter → sheet.shape.ex ≤ (window_of sheet kind).0
late_window sheet valid RdMem j letter e = (valid.windows 5 (lit< tt)).first
late_window sheet valid WrRD j letter e = (valid.windows 6 (lit< tt)).first
late_window sheet valid WrPC j letter e = (valid.windows 7 (lit< tt)).first
late_window sheet valid (WrCustReg r) j letter e = (valid.windows 8 (lit< tt)).first
late_window sheet valid WrMem j letter e = (valid.windows 9 (lit< tt)).first
late_window sheet valid kind j letter e = cc

late_in : (sheet : Sheet) (mode : Mode) (kind : Kind) (spawned : Bool) → sheet.shape.ex ≤ (window_of sheet kind).0 → sheet.shape.ex ≤ (window_in sheet mode kind spawned).0
late_in sheet Always kind spawned h = omega arith
late_in sheet Decoupled kind true h = (let a = sheet.shape.lawful.memory_late in let b = sheet.shape.lawful.memory_inside in omega (arith, a, b))
late_in sheet Decoupled kind false h = h
late_in sheet InPipeline kind true h = (let a = sheet.shape.lawful.memory_late in let b = sheet.shape.lawful.memory_inside in omega (arith, a, b))
late_in sheet InPipeline kind false h = h
late_in sheet Tight kind true h = (let a = sheet.shape.lawful.memory_late in let b = sheet.shape.lawful.memory_inside in omega (arith, a, b))
late_in sheet Tight kind false h = h

time_within : (rd : ℕ) (ts : List ℕ) (k : ℕ) → k < length ts → slice_index ts k ≤ last_from rd ts
time_within rd [] k l = absurd (omega (arith, l))
time_within rd (t ∷ ts) zero l = omega arith
time_within rd (t ∷ ts) (suc k) l = (let rest = time_within rd ts k (omega (arith, l)) in omega (arith, rest))

module _ (g : Graph) (sheet : Sheet) (mode : Mode) (whole : length g.spawned ≡ length g.ops) (right : IsValidSheet sheet) (times : List ℕ) (schedule : IsSchedule (problem_of g sheet mode) times) where
  count_is : length (problem_of g sheet mode).ops ≡ length g.ops
  unfolding problem_of
  count_is =
      let size = length-map (zip g.ops g.spawned) (node_of sheet mode) in
      let both = length-zip g.ops g.spawned in
      size ∙ both ∙ omega (arith, whole)

  node_is : (k : ℕ) (op : Op) → slice_get g.ops k ≡ Some op → node_at (problem_of g sheet mode) k ≡ node_of sheet mode (op, get_or g.spawned k true)
  unfolding problem_of
  node_is k op e =
      let l = slice_get_within g.ops k op e in
      let both = length-zip g.ops g.spawned in
      get_or-map (node_of sheet mode) (zip g.ops g.spawned) k (op, true) (record { delay = 0; latency = 0; weight = 0; early = 0; late = 0 }) (omega (arith, l, both, whole))
      ∙ ap (node_of sheet mode) (get_or-zip g.ops g.spawned k (op, true) l (omega (arith, l, whole)))
      ∙ ap (λ (z : Op). node_of sheet mode (z, get_or g.spawned k true)) (get_or_from_slice_get g.ops k op op e)

  pub output_late : (k : ℕ) (op : Op) → slice_get g.ops k ≡ Some op → (j : ℕ) (letter : Letter) → slice_get (letters_of op.kind) j ≡ Some letter → sheet.shape.ex ≤ slice_index times k
  output_late k op e j letter f =
      let size = count_is in
      let within = slice_get_within g.ops k op e in
      let early = (subst (λ (z : Node). IsInWindow z (slice_index times k)) (node_is k op e) (schedule.legal.windows k (omega (arith, size, within)))).0 in
      let late = late_in sheet mode op.kind (get_or g.spawned k true) (late_window sheet right op.kind j letter f) in
      omega (arith, early, late)

  pub output_last : (k : ℕ) (op : Op) → slice_get g.ops k ≡ Some op → slice_index times k ≤ last_from sheet.shape.rd times
  output_last k op e =
      let size = count_is in
      let count = schedule.count in
      let within = slice_get_within g.ops k op e in
      time_within sheet.shape.rd times k (omega (arith, size, count, within))
