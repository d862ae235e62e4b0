use Rattle.std.proofs.Common.{length}
use Rattle.ix_extension.specs.Extensions.{view_extension}
use Rattle.ix_mean.specs.Given.{inputs_of}
use Rattle.rv_seq.specs.Memory.{peeked}
use Rattle.rv_seq.proofs.Soundness.{sound_return}
use Rattle.rv_tried.proofs.trial.try_unknown.Goals as goal

pub returns-clause-sound : goal.returns-clause-sound
returns-clause-sound c =
    sound_return (view_extension c.args.ext.now) (inputs_of c.args.inputs.now (peeked c.args.memory.now)) (length c.args.ext.now.blocks)
    c.args.inputs.now.pc c.args.inputs.now.word c.in-Some.at c.return_effect-own.result c.blocks_effect-blocks.result c.over.result c.commit_of.result
    c.return_effect-own.ensures c.blocks_effect-blocks.ensures.effect c.over.ensures c.commit_of.ensures
