use Rattle.std.proofs.Common.{drop, length}
use Rattle.std.proofs.lemmas.Slice.Eq.{starts_is}
use Rattle.std.proofs.lemmas.Bool.Decides.{Decides-eqb}
use Rattle.ix_lex.proofs.symbol.begins.Goals as goal

pub returns : goal.returns
returns c =
    let r = starts_is Decides-eqb c.args.bytes.now c.args.front.now c.starts_with.result c.starts_with.ensures.value in
    (λ e. (drop (length c.args.front.now) c.args.bytes.now, r.0 e), λ b. r.1 b.0 b.1)
