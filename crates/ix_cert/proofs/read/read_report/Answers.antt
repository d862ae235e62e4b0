use Rattle.std.proofs.Common.{refl}
use Rattle.ix_cert.specs.declared.report.CertErr.TheVariants as err
use Rattle.ix_cert.proofs.Outcomes.{not_both, err_moved}
use Rattle.ix_cert.proofs.read.read_report.Goals as goal

pub returns-in-Ok-clause-refuses : goal.returns-in-Ok-clause-refuses
returns-in-Ok-clause-refuses c = λ n bad. absurd (not_both c.args.bytes.now c.in-Ok.report n c.in-Ok.ensures.read bad)

pub returns-in-Err-clause-refuses : goal.returns-in-Err-clause-refuses
returns-in-Err-clause-refuses c = λ n bad. err_moved _ _ c.in-Err.error (err.Line n) err.Memory (_, refl, c.in-Err.ensures.refuses n bad) _ refl
