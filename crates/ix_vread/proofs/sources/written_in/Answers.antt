use Rattle.std.proofs.Common.{subst}
use Rattle.ix_verilog.specs.Words.{words_of}
use Rattle.ix_vparse.specs.Answers.{IsTold}
use Rattle.ix_vread.proofs.Places.{leaves_at}
use Rattle.ix_vread.proofs.sources.written_in.Goals as goal

pub returns-in-Err-At-clause-refused : goal.returns-in-Err-At-clause-refused
returns-in-Err-At-clause-refused c =
    let ts = c.args.tokens.now in
    let l = subst (λ e. IsTold (words_of ts) e) c.in-Err-At.field-0-is c.in-Err-At.ensures.refused in
    leaves_at c.args.bytes.now ts c.in-Err-At.word c.place_of.result c.requires.spelled l c.place_of.ensures
