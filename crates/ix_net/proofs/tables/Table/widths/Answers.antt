use Rattle.std.proofs.Common.{map, ap, ◌∙◌}
use Rattle.ix_net.specs.declared.netlist.Port.{Port}
use Rattle.ix_net.specs.declared.tables.Signal.{Signal}
use Rattle.ix_net.proofs.TableLemmas.{IfOk_same, widths-ports}
use Rattle.ix_net.proofs.tables.Table.widths.Goals as goal

pub returns : goal.returns
returns c =
    IfOk_same c.widths_of.result (λ v. v.items) (map (λ (s : Signal). s.width) c.deref.result.now) (map (λ (p : Port). p.width) c.args.self.now)
    (ap (map (λ (s : Signal). s.width)) c.deref.ensures.value ∙ widths-ports c.self.inside.signals.items ∙ ap (map (λ (p : Port). p.width)) c.self.view_is)
    c.widths_of.ensures
