use Rattle.ix_graph_laws.proofs.Graphs.{lawful, valid_graph, does_same, has_values}
use Rattle.ix_graph_laws.proofs.laws.graph_laws.Goals as goal

pub returns-clause-valid : goal.returns-clause-valid
returns-clause-valid c t x w g h b p =
    valid_graph x w g
    (lawful c.behaviour_laws.ensures.typed c.behaviour_laws.ensures.few c.access_laws.ensures.accesses c.access_laws.ensures.stored c.access_laws.ensures.tables c.access_laws.ensures.widths t x w h b) p

pub returns-clause-effect : goal.returns-clause-effect
returns-clause-effect c t x w g h b p i terms inputs means reads =
    does_same x w g
    (lawful c.behaviour_laws.ensures.typed c.behaviour_laws.ensures.few c.access_laws.ensures.accesses c.access_laws.ensures.stored c.access_laws.ensures.tables c.access_laws.ensures.widths t x w h b) p i
    inputs terms means reads t h b c.behaviour_laws.ensures.effect c.behaviour_laws.ensures.one_access

pub returns-clause-values : goal.returns-clause-values
returns-clause-values c t x w g h b p i inputs =
    has_values x w g
    (lawful c.behaviour_laws.ensures.typed c.behaviour_laws.ensures.few c.access_laws.ensures.accesses c.access_laws.ensures.stored c.access_laws.ensures.tables c.access_laws.ensures.widths t x w h b) p i
    inputs
