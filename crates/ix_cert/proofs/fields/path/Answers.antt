use Rattle.std.proofs.Common.{arith, sym, ◌∙◌, ap, subst, All, Bor, List, ℕ, [], decimal, map}
use Rattle.std.proofs.lemmas.List.Elements.{All-push}
use Rattle.ix_cert.specs.Items.{IsWide}
use Rattle.ix_cert.proofs.Wordings.{number_at, path_more}
use Rattle.ix_cert.proofs.fields.path.Goals as goal

abbrev none_word : Bor (List ℕ)
none_word = record { ref_ptr = (0, 0); now = [] }

pub returns-in-None : goal.returns-in-None
returns-in-None c = λ x w e.
    let n = number_at x c.args.words.now c.loop-word.word-index none_word e w (omega (arith, c.loop-word-test.true, c.loop-word.auto.word-index-end)) in
    c.in-None.ensures n.number n.wide n.is

pub loop-word-preserved : goal.loop-word-preserved
loop-word-preserved c = record {
  so_far = ap (λ l. map decimal l) c.in-Ok.ensures.ok ∙ path_more c.loop-word.path c.in-Some.number c.args.words.now c.loop-word.word-index none_word c.loop-word.invariant.so_far c.in-Some.ensures.1 (omega (arith, c.loop-word-test.true, c.loop-word.auto.word-index-end));
  wide = subst (All IsWide) (sym c.in-Ok.ensures.ok) (All-push IsWide c.loop-word.path c.in-Some.number c.loop-word.invariant.wide c.in-Some.ensures.0);
}
