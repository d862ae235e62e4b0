use Rattle.ix_cert.proofs.KindNames.{read_told, write_told, plain_told}
use Rattle.ix_cert.proofs.word.is_kind.Goals as goal

pub returns-in-Some : goal.returns-in-Some
returns-in-Some c = read_told c.is_register.result c.args.word.now c.in-Some.register.now c.in-Some.ensures c.is_register.ensures

pub returns-in-Some-behind : goal.returns-in-Some-behind
returns-in-Some-behind c = write_told c.is_register-in-Some-behind.result c.args.word.now c.in-Some-behind.register.now c.in-Some-behind.ensures c.is_register-in-Some-behind.ensures

pub returns : goal.returns
returns c = plain_told c.is_plain_kind.result c.args.word.now c.in_default.ensures c.in_default-behind.ensures c.is_plain_kind.ensures
