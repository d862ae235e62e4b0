-- Schedules and netlists (Longnail, scheduling; that a netlist is made from any legal schedule is this project's choice).
use Rattle.std.specs.Prelude.{ℕ, List}
use Rattle.ix_graph.specs.declared.graph.Graph.{Graph}
use Rattle.ix_graph.specs.declared.graph.Mode.{Mode}
use Rattle.ix_graph.specs.Graphs.{IsValidGraph}
use Rattle.ix_sheet.specs.declared.sheet.Sheet.{Sheet}
use Rattle.ix_sheet.specs.Sheets.{IsValidSheet}
use Rattle.ix_sheet.specs.Schedules.{IsSchedule}
use Rattle.ix_sheet.specs.Behaviours.{problem_of, AreEdges}
use Rattle.ix_netgen.specs.KeptWires.{timetable_of, IsTimed}

-- times of a legal schedule are one for each operation, from the stage of operands to 64, and meet each edge with its latency
abbrev pub TimesFit : Type 0
TimesFit =
    (g : Graph) (sheet : Sheet) (mode : Mode) (times : List ℕ) → IsValidGraph g → IsValidSheet sheet →
    AreEdges g.ops (problem_of g sheet mode).edges → IsSchedule (problem_of g sheet mode) times →
    IsTimed (timetable_of sheet.shape g times)
