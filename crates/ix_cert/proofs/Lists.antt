-- Parts of lines put one behind the other.
use Rattle.std.proofs.Common.{List, [], ◌∷◌, ◌++◌, Bool}
use Rattle.std.specs.Prelude.{codes}
use Rattle.ix_sheet.specs.declared.problem.Node.{Node}
use Rattle.ix_cert.specs.Layout.{Line, field, width_text}

-- parts put one behind the other
abbrev pub run_on : Line → List Line → Line
run_on o [] = o
run_on o (p ∷ ps) = run_on (o ++ p) ps

-- what stands behind ` delay` in an operation's line
abbrev pub node_parts : Bool → Node → List Line → List Line
node_parts weighted node rest = field node.delay ∷ codes " latency" ∷ field node.latency ∷ width_text weighted node.weight ∷ codes " early" ∷ field node.early ∷ codes " late" ∷ field node.late ∷ rest
