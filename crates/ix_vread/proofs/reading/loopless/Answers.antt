use Rattle.std.specs.Prelude.{All}
use Rattle.std.proofs.lemmas.Option.{MatchOption-at_none}
use Rattle.ix_vread.specs.Loops.{IsLoopless, FirstLoop}
use Rattle.ix_vread.proofs.Denoted.{driven_once, denotes_made}
use Rattle.ix_vread.proofs.reading.loopless.Goals as goal

pub first_loop_in-requires : goal.first_loop_in-requires
first_loop_in-requires c = driven_once c.args.modules.now c.args.nets c.as_slice.result.now c.as_slice.ensures c.requires.once c.requires.made

pub returns-in-Ok-None-clause-denotes : goal.returns-in-Ok-None-clause-denotes
returns-in-Ok-None-clause-denotes c =
    let l : All IsLoopless c.as_slice.result.now = MatchOption-at_none (All IsLoopless c.as_slice.result.now) (FirstLoop c.as_slice.result.now) c.in-Ok-None.field-0-is c.in-Ok-None.ensures in
    denotes_made c.nets_laws.ensures.finished c.nets_laws.ensures.net c.args.bytes.now c.args.modules.now c.args.nets c.as_slice.result.now c.as_slice.ensures c.requires.written c.requires.once c.requires.made l
