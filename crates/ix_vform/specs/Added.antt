-- The module that is open, with one more line.
use Rattle.std.specs.Prelude.{Option, Some, None}
use Rattle.ix_verilog.specs.declared.source.Source.{Source}
use Rattle.ix_verilog.specs.declared.source.Stage.{Stage}
use Rattle.ix_verilog.specs.Lines.{Line}
use Rattle.ix_verilog.specs.Subset.{with_line}

abbrev pub added : Option Source → Line → Option Source
added None line = None
added (Some s) line = Some (with_line s line)

-- with another stage
abbrev pub moved : Option Source → Stage → Option Source
moved None stage = None
moved (Some s) stage = Some (record s { stage = stage })
