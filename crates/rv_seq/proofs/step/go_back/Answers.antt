use Rattle.std.proofs.Common.{length}
use Rattle.ix_extension.specs.Extensions.{view_extension}
use Rattle.ix_mean.specs.Given.{inputs_of}
use Rattle.rv_seq.specs.Memory.{peeked}
use Rattle.rv_seq.proofs.Soundness.{sound_return}
use Rattle.rv_seq.proofs.step.go_back.Goals as goal

pub returns-clause-sound : goal.returns-clause-sound
returns-clause-sound c =
    sound_return (view_extension c.args.ext.now) (inputs_of c.state_at-inputs.result (peeked c.args.arch.now.mem)) (length c.args.ext.now.blocks)
    c.args.arch.now.pc c.args.word c.in-Some.at c.return_effect.result c.blocks_effect-blocks.result c.over.result c.commit_of.result
    c.return_effect.ensures c.blocks_effect-blocks.ensures.effect c.over.ensures c.commit_of.ensures
