use Rattle.std.proofs.Common.{sym, ◌∙◌, arith}
use Rattle.ix_tree.specs.Lexing.{same_bytes}
use Rattle.ix_lex.proofs.Words.{position_found, position_none, more_words}
use Rattle.rv_asm_text.specs.Names.{mnemonics, mnemonic_of}
use Rattle.rv_asm_text.proofs.names.mnemonic.Goals as goal

pub returns-then-same-clause-value : goal.returns-then-same-clause-value
unfolding mnemonic_of
returns-then-same-clause-value c =
    position_found (λ w. same_bytes w c.args.word.now) mnemonics c.loop-n.n c.mnemonic_name.result.now c.mnemonic_name.ensures (sym c.same.ensures ∙ c.if-same.true) c.loop-n.invariant

pub loop-n-preserved : goal.loop-n-preserved
loop-n-preserved c =
    more_words (λ w. same_bytes w c.args.word.now) mnemonics c.loop-n.n c.mnemonic_name.result.now c.mnemonic_name.ensures (sym c.same.ensures ∙ c.if-same.false) c.loop-n.invariant

pub returns-clause-value : goal.returns-clause-value
unfolding mnemonic_of
returns-clause-value c = position_none (λ w. same_bytes w c.args.word.now) mnemonics (λ k w l e. c.loop-n.invariant k w (omega arith) e)
