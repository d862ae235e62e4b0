use Rattle.std.proofs.Common.{◌≡◌, ◌∙◌, ap, ◌++◌, subst}
use Rattle.rv_text.specs.RunText.{memory_word}
use Rattle.rv_ending.specs.Differing.{IsCompared}
use Rattle.rv_ending.proofs.state.word_line.Goals as goal

pub returns-clause-compared : goal.returns-clause-compared
returns-clause-compared c = λ first so_far is.
    let line : c.put_memory_word.new.out ≡ memory_word c.args.memory.now c.args.word = c.put_memory_word.ensures.text ∙ ap (λ l. l ++ memory_word c.args.memory.now c.args.word) c.requires.empty in
    subst (λ l. IsCompared first c.args.text.now (so_far ++ l) c.pass.result) line (c.pass.ensures.compared first so_far is)
