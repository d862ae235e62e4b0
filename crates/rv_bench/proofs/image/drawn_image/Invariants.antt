use Rattle.std.proofs.Common.{◌≡◌, ◌*◌, ◌∷◌}
use Rattle.ix_extension.specs.Extensions.{view_extension}
use Rattle.rv_bench.specs.Drawing.{state_after}
use Rattle.rv_bench.specs.DrawnImage.{first_word, drawn_words}
use Rattle.rv_bench.proofs.image.drawn_image.Given as goal

abbrev pub invariant-loop : goal.invariant-loop
invariant-loop l = record {
  image : l.image ≡ first_word ∷ drawn_words (view_extension l.fn.extension) l.fn.number l.counter;
  state : l.generator.state ≡ state_after l.fn.number (5 * l.counter);
}
