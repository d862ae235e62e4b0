use Rattle.std.proofs.Common.{sym, ◌∙◌, arith}
use Rattle.ix_tree.specs.Lexing.{same_bytes}
use Rattle.ix_lex.proofs.Words.{position_found, position_none, more_words}
use Rattle.rv_asm_text.specs.Names.{register_names}
use Rattle.rv_asm_text.proofs.names.register_place.Goals as goal

pub returns-then-same : goal.returns-then-same
returns-then-same c =
    position_found (λ w. same_bytes w c.args.word.now) register_names c.loop-n.n c.register_name.result.now c.register_name.ensures (sym c.same.ensures ∙ c.if-same.true) c.loop-n.invariant

pub loop-n-preserved : goal.loop-n-preserved
loop-n-preserved c =
    more_words (λ w. same_bytes w c.args.word.now) register_names c.loop-n.n c.register_name.result.now c.register_name.ensures (sym c.same.ensures ∙ c.if-same.false) c.loop-n.invariant

pub returns : goal.returns
returns c = position_none (λ w. same_bytes w c.args.word.now) register_names (λ k w l e. c.loop-n.invariant k w (omega arith) e)
