use Rattle.std.proofs.Common.{◌≡◌, ◌∙◌, sym, ap, suc, ◌+◌, ℕ, add-one, arith}
use Rattle.ix_extension.specs.Extensions.{view_extension}
use Rattle.ix_mean.specs.Given.{inputs_of}
use Rattle.ix_behaviour.specs.declared.which.Which.TheVariants as W
use Rattle.ix_eval.specs.Evaluated.{effect_at}
use Rattle.ix_eval.specs.declared.effect.Effect.{Effect}
use Rattle.rv_seq.specs.Memory.{peeked}
use Rattle.rv_seq.specs.WordEffects.{over, blocks_effect}
use Rattle.rv_seq.proofs.word_effect.blocks_effect.Goals as goal

pub loop-n-init : goal.loop-n-init
unfolding blocks_effect
loop-n-init c = (c.requires.scratch, c.no_effect-all.ensures)

pub loop-n-preserved : goal.loop-n-preserved
unfolding blocks_effect
loop-n-preserved c =
    let x = view_extension c.args.ext.now in
    let i = inputs_of c.args.inputs.now (peeked c.args.memory.now) in
    let n = c.loop-n.n in
    let e : suc n ≡ n + 1 = omega arith in
    let all : c.over-all.result ≡ blocks_effect x i (suc n) =
    c.over-all.ensures
    ∙ ap (λ (z : Effect). over z c.loop-n.all) c.behaviour_effect-block.ensures.effect
    ∙ ap (λ (z : Effect). over (effect_at x (W.Block n) i) z) c.loop-n.invariant.1 in
    (c.behaviour_effect-block.ensures.scratch, all ∙ ap (λ (k : ℕ). blocks_effect x i k) e)
