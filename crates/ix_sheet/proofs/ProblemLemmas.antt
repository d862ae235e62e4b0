-- The problem of a valid graph is valid.
use Rattle.std.proofs.Common.{◌≡◌, ◌+◌, ◌≤◌, Bool, true, false, length, map, min, get_or, arith}
use Rattle.std.specs.List.{zip}
use Rattle.std.proofs.lemmas.List.{length-map}
use Rattle.std.proofs.lemmas.List.Elements.{All-weaker, All-map}
use Rattle.std.proofs.lemmas.Slice.Zip.{length-zip}
use Rattle.ix_graph.specs.declared.graph.Op.{Op}
use Rattle.ix_graph.specs.declared.graph.Graph.{Graph}
use Rattle.ix_graph.specs.declared.graph.Mode.{Mode}
use Rattle.ix_graph.specs.Graphs.{IsValidGraph}
use Rattle.ix_sheet.specs.declared.sheet.Sheet.{Sheet}
use Rattle.ix_sheet.specs.Schedules.{IsWeighed, IsValidProblem, IsForward}
use Rattle.ix_sheet.specs.Behaviours.{weight_by, node_of, edges_from, problem_of}
use Rattle.ix_sheet.proofs.Edges.{IsBetween, edges_between, edges_apart}

count : (g : Graph) (sheet : Sheet) (mode : Mode) → IsValidGraph g → length (problem_of g sheet mode).ops ≡ length g.ops
unfolding problem_of
count g sheet mode valid =
    let zipped : length (zip g.ops g.spawned) ≡ min (length g.ops) (length g.spawned) = length-zip g.ops g.spawned in
    let mapped : length (map (node_of sheet mode) (zip g.ops g.spawned)) ≡ length (zip g.ops g.spawned) = length-map (zip g.ops g.spawned) (node_of sheet mode) in
    omega (arith, valid.flags)

-- a weight is a width or 1
weighed : (weighted : Bool) (op : Op) → (1 ≤ weight_by weighted op) × (weight_by weighted op ≤ 128)
weighed true op = (op.ty.some_width, op.ty.most_width)
weighed false op = (omega arith, omega arith)

pub problem_is_valid : (g : Graph) (sheet : Sheet) (mode : Mode) → IsValidGraph g → IsValidProblem (problem_of g sheet mode)
unfolding problem_of
problem_is_valid g sheet mode valid =
    let same = count g sheet mode valid in
    record {
      few = omega (arith, valid.few);
      weights = All-map IsWeighed (node_of sheet mode) (zip g.ops g.spawned) (λ k d h. weighed sheet.weighted (get_or (zip g.ops g.spawned) k d).0);
      forward =
          All-weaker (IsBetween 0 (0 + length g.ops)) (IsForward (problem_of g sheet mode)) (λ e h. (h.forward, omega (arith, h.below)))
          (edges_from 0 g.ops) (edges_between 0 g.ops);
      once = edges_apart 0 g.ops;
    }
