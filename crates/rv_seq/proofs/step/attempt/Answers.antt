use Rattle.std.proofs.Common.{◌≡◌, ◌∙◌, sym, length}
use Rattle.ix_extension.specs.Extensions.{view_extension}
use Rattle.ix_mean.specs.Given.{inputs_of}
use Rattle.rv_seq.specs.Memory.{peeked}
use Rattle.rv_seq.proofs.Soundness.{sound_commit}
use Rattle.rv_seq.proofs.step.attempt.Goals as goal

pub returns-in-None-clause-sound : goal.returns-in-None-clause-sound
returns-in-None-clause-sound c =
    sound_commit (view_extension c.args.ext.now) c.args.decoded (inputs_of c.state_at-inputs.result (peeked c.args.arch.now.mem)) (length c.args.ext.now.blocks)
    c.args.arch.now.pc c.args.word c.effect_of-own.result c.blocks_effect-blocks.result c.over.result c.commit_of.result
    c.effect_of-own.ensures.effect c.blocks_effect-blocks.ensures.effect (sym c.stop_of.ensures ∙ c.in-None.is) c.over.ensures c.commit_of.ensures
