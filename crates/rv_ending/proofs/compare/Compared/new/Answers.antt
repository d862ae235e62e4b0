use Rattle.std.proofs.Common.{refl, sym, ap, ◌∙◌, length, arith}
use Rattle.rv_reader.specs.Traces.{feeds}
use Rattle.rv_ending.proofs.Common.{common_nothing, feeds_nothing}
use Rattle.rv_ending.proofs.compare.Compared.new.Goals as goal

pub returns-clause-compared : goal.returns-clause-compared
returns-clause-compared c = λ text. record {
  at = sym (ap (λ l. length l) (common_nothing text));
  line = (let e = ap (λ l. feeds l) (common_nothing text) ∙ feeds_nothing in omega (arith, e));
  only = λ e. (text, refl);
  all = λ rest e. refl;
}
