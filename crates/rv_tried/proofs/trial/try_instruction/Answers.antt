use Rattle.std.proofs.Common.{◌≡◌, ◌∙◌, refl, sym, subst, length}
use Rattle.std.proofs.lemmas.List.{length-map}
use Rattle.ix_extension.specs.Extensions.{view_behaviour, view_extension}
use Rattle.ix_mean.specs.Given.{inputs_of}
use Rattle.rv_seq.specs.Memory.{peeked}
use Rattle.rv_seq.specs.Commits.{commit_of}
use Rattle.rv_seq.specs.Sound.{IsSound}
use Rattle.rv_seq.proofs.Soundness.{sound_commit}
use Rattle.rv_tried.proofs.Alone.{alone_is, alone_sound, none_there}
use Rattle.rv_tried.proofs.trial.try_instruction.Goals as goal

pub returns-in-None-clause-trial : goal.returns-in-None-clause-trial
returns-in-None-clause-trial c =
    let x = view_extension c.args.ext.now in
    let none : length x.blocks ≡ 0 = length-map c.args.ext.now.blocks view_behaviour ∙ none_there c.is_empty.result (length c.args.ext.now.blocks) c.is_empty.ensures c.if-is_empty.true in
    alone_is x c.args.inputs.now c.args.memory.now c.args.decoded c.effect_of-own.result c.alone.result c.effect_of-own.ensures.effect none (sym c.stop_of.ensures ∙ c.in-None.is) c.alone.ensures.answer c.alone.ensures.accesses c.alone.ensures.load c.alone.ensures.blocks c.alone.ensures.own

pub returns-in-None-clause-sound : goal.returns-in-None-clause-sound
returns-in-None-clause-sound c =
    let x = view_extension c.args.ext.now in
    let none : length x.blocks ≡ 0 = length-map c.args.ext.now.blocks view_behaviour ∙ none_there c.is_empty.result (length c.args.ext.now.blocks) c.is_empty.ensures c.if-is_empty.true in
    subst (IsSound x) (sym c.alone.ensures.answer)
    (alone_sound x c.args.decoded (inputs_of c.args.inputs.now (peeked c.args.memory.now)) (length x.blocks) c.args.inputs.now.pc c.args.inputs.now.word c.effect_of-own.result (commit_of c.args.inputs.now.pc c.args.inputs.now.word c.effect_of-own.result) c.effect_of-own.ensures.effect none (sym c.stop_of.ensures ∙ c.in-None.is) refl)

pub returns-in-None-2-clause-sound : goal.returns-in-None-2-clause-sound
returns-in-None-2-clause-sound c =
    sound_commit (view_extension c.args.ext.now) c.args.decoded (inputs_of c.args.inputs.now (peeked c.args.memory.now)) (length c.args.ext.now.blocks)
    c.args.inputs.now.pc c.args.inputs.now.word c.effect_of-own.result c.blocks_effect-blocks.result c.over.result c.commit_of.result
    c.effect_of-own.ensures.effect c.blocks_effect-blocks.ensures.effect (sym c.stop_of.ensures ∙ c.in-None-2.is) c.over.ensures c.commit_of.ensures
