use Rattle.ix_typing.proofs.Embedded.{embeds_is}
use Rattle.ix_check_parts.proofs.types.goes_into.Goals as goal

pub returns : goal.returns
returns c = embeds_is c.embeds.result c.args.a c.args.b c.embeds.ensures.0 c.embeds.ensures.1
