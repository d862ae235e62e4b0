use Rattle.std.proofs.Common.{◌<◌, sym, subst, length}
use Rattle.std.specs.Prelude.{IfSome}
use Rattle.rv_asks.specs.declared.asks.Asks.{Asks}
use Rattle.rv_unit.specs.Numbering.{lasts_of}
use Rattle.rv_engine.proofs.Fitting.{asked_unit}
use Rattle.rv_engine.proofs.filling.new_token.Goals as goal

pub returns-clause-fitting : goal.returns-clause-fitting
returns-clause-fitting c =
    let d = c.args.design.now in
    record {
      is_in = c.decode_in-decoded.ensures.is_in;
      unit = subst (λ (a : Asks). IfSome a.unit (λ u. u < length (lasts_of d.plans))) (sym (c.asks_of-asks.ensures.asks d c.requires.asking)) (asked_unit d c.args.word c.decode_in-decoded.result);
      wide = c.requires.future;
      sound = tt;
    }
