use Rattle.std.proofs.Common.{take}
use Rattle.std.proofs.lemmas.Option.{MatchOption-at_some, MatchOption-at_none}
use Rattle.ix_verilog.specs.declared.source.Update.{Update}
use Rattle.ix_vnets.specs.Tables.{IsBankBy, HasBank}
use Rattle.ix_vnets.proofs.Listed.{zip_more, zip_some, first_at}
use Rattle.ix_vnets.proofs.lines.put_banks.Goals as goal

pub returns-in-None : goal.returns-in-None
returns-in-None c =
    let m = c.args.widths.now in
    let x : Update = c.index-updates-number.result in
    first_at (HasBank m) c.args.updates.now c.loop-number.number x c.index-updates-number.is c.loop-number-test.true (zip_some (IsBankBy m) (take c.loop-number.number c.args.updates.now) c.loop-number.banks c.loop-number.invariant)
    (MatchOption-at_none (HasBank m x → ⊥) (IsBankBy m x) c.in-None.is c.in_ok-bank.ensures)

pub loop-number-preserved : goal.loop-number-preserved
loop-number-preserved c =
    let m = c.args.widths.now in
    let x : Update = c.index-updates-number.result in
    zip_more (IsBankBy m) c.args.updates.now c.loop-number.banks c.push.new.self c.loop-number.number x c.in-Some.bank c.index-updates-number.is c.loop-number-test.true c.loop-number.invariant c.in_ok-push-in-Some.ensures.ok
    (MatchOption-at_some (HasBank m x → ⊥) (IsBankBy m x) c.in-Some.bank c.in-Some.is c.in_ok-bank.ensures)
