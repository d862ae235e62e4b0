use Rattle.std.proofs.Common.{◌≡◌, ◌∙◌, ap, sym, ◌++◌, ◌+◌, suc, subst, arith}
use Rattle.std.proofs.lemmas.List.{append_assoc, append-nil}
use Rattle.rv_text.specs.RunText.{memory_word, memory_lines}
use Rattle.rv_ending.specs.Differing.{IsCompared}
use Rattle.rv_ending.proofs.Pieces.{words_more, words_nothing}
use Rattle.rv_ending.proofs.state.words.Goals as goal

pub loop-word-init : goal.loop-word-init
loop-word-init c = (
  c.requires.room,
  c.requires.empty,
  λ first told is.
      subst (λ l. IsCompared first c.args.text.now l c.args.compared) (sym (ap (λ l. told ++ l) (words_nothing c.args.memory.now) ∙ append-nil told)) is,
)

pub loop-word-preserved : goal.loop-word-preserved
loop-word-preserved c = (
  c.word_line-so_far.ensures.room,
  c.word_line-so_far.ensures.empty,
  λ first told is.
      (let memory = c.args.memory.now in
      let n = c.loop-word.word in
      let up : n + 1 ≡ suc n = omega arith in
      let line : (told ++ memory_lines memory n 0) ++ memory_word memory n ≡ told ++ memory_lines memory (n + 1) 0 =
      append_assoc told (memory_lines memory n 0) (memory_word memory n) ∙ ap (λ l. told ++ l) (sym (words_more memory n)) ∙ ap (λ m. told ++ memory_lines memory m 0) (sym up) in
      subst (λ l. IsCompared first c.args.text.now l c.word_line-so_far.result) line (c.word_line-so_far.ensures.compared first (told ++ memory_lines memory n 0) (c.loop-word.invariant.2 first told is))),
)

pub returns : goal.returns
returns c = record {
  compared = λ first so_far is.
      (let test = c.loop-word-test.false in
      let most = c.loop-word.auto.word-end in
      let e : c.loop-word.word ≡ 262144 = omega (arith, test, most) in
      subst (λ n. IsCompared first c.args.text.now (so_far ++ memory_lines c.args.memory.now n 0) c.loop-word.so_far) e (c.loop-word.invariant.2 first so_far is));
}
