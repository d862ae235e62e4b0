use Rattle.std.specs.List.{list_any}
use Rattle.std.specs.Str.{bytes_eq}
use Rattle.std.proofs.Common.{◌≡◌}
use Rattle.ix_net.specs.Name.{keywords}
use Rattle.ix_net.proofs.NameLemmas.{list_any-bytes_eq}
use Rattle.ix_net.proofs.keywords.is_keyword.Goals as goal

pub returns : goal.returns
returns c =
    let e : c.contains.result ≡ list_any (λ k. bytes_eq k c.args.text.now) keywords = c.contains.ensures.value in
    list_any-bytes_eq keywords c.args.text.now c.contains.result e
