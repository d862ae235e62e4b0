-- An operation alone, on constants (this project's choice).
use Rattle.ix_graph.specs.declared.args.Arg.{Arg}
use Rattle.ix_graph.specs.declared.args.Arg.TheVariants as arg
use Rattle.number_cases.specs.declared.given.Given.{Given}

-- a pattern as an argument
abbrev pub constant : Given → Arg
constant g = arg.Const g.ty g.bits
