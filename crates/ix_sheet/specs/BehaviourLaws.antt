-- Laws on the problems of behaviours.
use Rattle.ix_graph.specs.declared.graph.Graph.{Graph}
use Rattle.ix_graph.specs.declared.graph.Mode.{Mode}
use Rattle.ix_graph.specs.Graphs.{IsValidGraph}
use Rattle.ix_sheet.specs.declared.sheet.Sheet.{Sheet}
use Rattle.ix_sheet.specs.Schedules.{IsValidProblem}
use Rattle.ix_sheet.specs.Behaviours.{problem_of}

-- the problem of a valid graph is valid
abbrev pub ProblemLaw : Type 0
ProblemLaw = (g : Graph) (sheet : Sheet) (mode : Mode) → IsValidGraph g → IsValidProblem (problem_of g sheet mode)
