use Rattle.std.proofs.Common.{◌∙◌, ◌<◌, sym, length, false, arith}
use Rattle.std.proofs.lemmas.Bool.{eqb-true}
use Rattle.ix_eval.proofs.Tables.{table_is}
use Rattle.rv_unit.specs.Entries.{is_frozen}
use Rattle.rv_engine.proofs.Owings.{idle_frozen}
use Rattle.rv_engine.proofs.showing.frozen_in.Goals as goal

pub returns-then-is_idle : goal.returns-then-is_idle
returns-then-is_idle c = idle_frozen c.args.owing.now.lasts c.args.owing.now.entries (eqb-true (length c.args.owing.now.entries) 0 (sym c.is_idle.ensures ∙ c.if-is_idle.true))

pub returns : goal.returns
returns c =
    table_is c.loop-unit.all (is_frozen c.args.owing.now.lasts c.args.owing.now.entries) 64 false c.loop-unit.invariant.long
    (λ u less. let below : u < c.loop-unit.unit = omega arith in c.loop-unit.invariant.done u below)
