use Rattle.std.proofs.Common.{◌≡◌, ◌∙◌, false, true, [], get_or, sym, below_more, arith}
use Rattle.std.specs.Str.{bytes_eq}
use Rattle.ix_graph.specs.Kinds.{kind_words, number_of}
use Rattle.ix_graph.proofs.Positions.{position-at, position-none}
use Rattle.ix_graph.proofs.KindLemmas.{length-kind_words}
use Rattle.ix_graph.proofs.kind.kind_number.Goals as goal

pub loop-number-preserved : goal.loop-number-preserved
loop-number-preserved c =
    let differs : bytes_eq (get_or kind_words c.loop-number.number []) c.args.text.now ≡ false =
    rw (← c.kind_word.ensures.value) (sym c.eq.ensures ∙ c.if-eq.false)
    in
    below_more _ _ c.loop-number.invariant differs

pub returns-then-eq-clause-value : goal.returns-then-eq-clause-value
unfolding number_of
returns-then-eq-clause-value c =
    let same : bytes_eq (get_or kind_words c.loop-number.number []) c.args.text.now ≡ true =
    rw (← c.kind_word.ensures.value) (sym c.eq.ensures ∙ c.if-eq.true)
    in
    sym (position-at _ kind_words c.loop-number.number [] (omega (arith, length-kind_words)) c.loop-number.invariant same)

pub returns-clause-value : goal.returns-clause-value
unfolding number_of
returns-clause-value c = sym (position-none _ kind_words [] (λ k h. c.loop-number.invariant k (omega (arith, length-kind_words))))
