use Rattle.std.proofs.lemmas.Bool.{leb-true, le-leb, ltb-true, lt-ltb, both_ways}
use Rattle.ix_bits.proofs.Embeddings.{embeds_where, fits_where}
use Rattle.ix_types.proofs.BySigns.{alike, into_signed, into_unsigned}
use Rattle.ix_types.proofs.result_type.embeds.Goals as goal

pub returns-then-a-b : goal.returns-then-a-b
returns-then-a-b c =
    let t = alike c.args.a.signed c.args.b.signed c.args.a.width c.args.b.width c.if-a-b.true in
    (λ h. embeds_where c.args.a c.args.b (t.0 (leb-true c.args.a.width c.args.b.width h)), λ f. le-leb c.args.a.width c.args.b.width (t.1 (fits_where c.args.a c.args.b f)))

pub returns-then-b : goal.returns-then-b
returns-then-b c =
    let t = into_signed c.args.a.signed c.args.b.signed c.args.a.width c.args.b.width c.if-a-b.false c.if-b.true in
    (λ h. embeds_where c.args.a c.args.b (t.0 (ltb-true c.args.a.width c.args.b.width h)), λ f. lt-ltb c.args.a.width c.args.b.width (t.1 (fits_where c.args.a c.args.b f)))

pub returns-else-b : goal.returns-else-b
returns-else-b c =
    (λ h. absurd (both_ways c.args.b.signed c.if-b.false h), λ f. absurd (into_unsigned c.args.a.signed c.args.b.signed c.args.a.width c.args.b.width c.if-a-b.false c.if-b.false (fits_where c.args.a c.args.b f)))
