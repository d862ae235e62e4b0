use Rattle.std.proofs.Common.{ap, ◌∙◌}
use Rattle.std.specs.Str.{bytes_eq}
use Rattle.ix_vform.proofs.Named.{next_some, next_none}
use Rattle.ix_vform.proofs.scope.is_next.Goals as goal

pub returns-in-Some : goal.returns-in-Some
returns-in-Some c =
    let k = c.in-Some.ensures.lookup in
    next_some c.args.source.now c.as_slice.result.now c.as_slice-2.result.now c.as_slice-3.result.now c.in-Some.name.now c.args.word.now c.eq.result c.as_slice.ensures c.as_slice-2.ensures c.as_slice-3.ensures k.3.0 k.1
    (c.eq.ensures ∙ ap (λ z. bytes_eq z c.args.word.now) (c.as_bytes.ensures.value ∙ c.as_str.ensures.text))

pub returns-in-None : goal.returns-in-None
returns-in-None c = next_none c.args.source.now c.as_slice.result.now c.as_slice-2.result.now c.as_slice-3.result.now c.args.word.now c.as_slice.ensures c.as_slice-2.ensures c.as_slice-3.ensures c.in-None.ensures.lookup.3
