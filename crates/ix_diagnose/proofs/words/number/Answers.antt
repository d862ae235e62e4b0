use Rattle.std.proofs.Common.{◌≡◌, ap, ℕ, Result, Ok, Err, Option}
use Rattle.std.specs.Result.{result_ok}
use Rattle.std.proofs.lemmas.Fmt.{parse-decimal}
use Rattle.ix_diagnose.proofs.words.number.Goals as goal

value : (r s : Result ℕ (Unit {0})) → r ≡ s → result_ok r ≡ result_ok s
value r s e = ap {B = Option ℕ} (λ (x : Result ℕ (Unit {0})). result_ok x) e

pub returns-in-Ok : goal.returns-in-Ok
returns-in-Ok c n small e = value (Ok c.in-Ok.n) (Ok n) (parse-decimal 64 n c.args.word.now (Ok c.in-Ok.n) small small e c.in-Ok.ensures.value.0)

pub returns-in-Err : goal.returns-in-Err
returns-in-Err c n small e = value (Err tt) (Ok n) (parse-decimal 64 n c.args.word.now (Err tt) small small e c.in-Err.ensures.value.0)
