use Rattle.std.proofs.Common.{sym, ap, ◌∙◌}
use Rattle.ix_graph.specs.Kinds.{number_of}
use Rattle.ix_cert.proofs.KindNames.{found_told, none_told, kind_short, plain_kind}
use Rattle.ix_cert.proofs.word.is_plain_kind.Goals as goal

pub returns-in_default : goal.returns-in_default
returns-in_default c = λ p. c.in_default.ensures.cases.0 (kind_short c.args.word.now (plain_kind c.args.word.now p)).0

pub returns-in_default-kind_number : goal.returns-in_default-kind_number
returns-in_default-kind_number c = none_told c.args.word.now (sym c.in_default-kind_number.is ∙ c.kind_number.ensures.value ∙ ap number_of c.in-Ok.ensures.cases.0)

pub returns : goal.returns
returns c = found_told c.is_unregistered.result c.args.word.now c.in-Some.place (sym c.in-Some.is ∙ c.kind_number.ensures.value ∙ ap number_of c.in-Ok.ensures.cases.0) c.in-Some.ensures.below c.is_unregistered.ensures
