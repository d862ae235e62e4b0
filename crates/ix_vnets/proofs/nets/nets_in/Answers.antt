use Rattle.std.proofs.Common.{[]}
use Rattle.std.proofs.lemmas.Option.{MatchOption-at_some, MatchOption-at_none}
use Rattle.ix_verilog.specs.declared.source.Source.{Source}
use Rattle.ix_vnets.specs.Nets.{IsMadeOf, Puts}
use Rattle.ix_vnets.specs.Drives.{IsFirstNot, DriveFits, drives_in}
use Rattle.ix_vnets.proofs.Listed.{zip_more}
use Rattle.ix_vnets.proofs.Modules.{misfit_at, once_at, here}
use Rattle.ix_vnets.proofs.nets.nets_in.Goals as goal

pub put_net-requires-clause-once : goal.put_net-requires-clause-once
put_net-requires-clause-once c =
    let s : Source = c.index-modules-module.result in
    once_at [] c.args.modules.now c.requires.once s (here c.args.modules.now c.loop-module.«module» s c.index-modules-module.is c.loop-module-test.true)

pub returns-in-Ok-Some-clause-misfit : goal.returns-in-Ok-Some-clause-misfit
returns-in-Ok-Some-clause-misfit c =
    let s : Source = c.index-modules-module.result in
    let f : IsFirstNot DriveFits (drives_in s) c.in-Ok-Some.drive = MatchOption-at_some (Puts s c.loop-module.nets c.put_net.new.nets) (IsFirstNot DriveFits (drives_in s)) c.in-Ok-Some.drive c.in-Ok-Some.field-0-is c.in-Ok-Some.ensures in
    misfit_at c.args.modules.now c.loop-module.«module» s c.in-Ok-Some.drive c.loop-module.nets c.index-modules-module.is c.loop-module-test.true c.loop-module.invariant f

pub loop-module-preserved : goal.loop-module-preserved
loop-module-preserved c =
    let s : Source = c.index-modules-module.result in
    let p : Puts s c.loop-module.nets c.put_net.new.nets = MatchOption-at_none (Puts s c.loop-module.nets c.put_net.new.nets) (IsFirstNot DriveFits (drives_in s)) c.in-Ok-None.field-0-is c.in-Ok-None.ensures in
    zip_more IsMadeOf c.args.modules.now c.loop-module.nets c.put_net.new.nets c.loop-module.«module» s p.0 c.index-modules-module.is c.loop-module-test.true c.loop-module.invariant p.2 p.1
