use Rattle.ix_net.proofs.NameLemmas.{name_unless_keyword_of}
use Rattle.ix_net.proofs.keywords.is_name.Goals as goal

pub returns : goal.returns
returns c =
    name_unless_keyword_of
    c.args.text.now
    c.as_bytes-bytes.result.now
    c.is_keyword.result
    c.as_bytes-bytes.ensures.value
    (c.starts_with_letter.ensures.0 c.if-not-starts_with_letter.false)
    (c.is_plain.ensures.0 c.if-not-is_plain.false)
    (c.is_marked.ensures.0 c.if-not-is_marked.false)
    c.is_keyword.ensures
