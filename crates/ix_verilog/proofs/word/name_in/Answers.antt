use Rattle.ix_verilog.proofs.Named.{name_utf8}
use Rattle.ix_verilog.proofs.word.name_in.Goals as goal

pub returns-in-Err : goal.returns-in-Err
returns-in-Err c = λ n. c.in-Err.ensures.cases.0 (name_utf8 c.args.word.now n)
