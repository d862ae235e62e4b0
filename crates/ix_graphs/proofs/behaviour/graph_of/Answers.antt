use Rattle.ix_extension.specs.Extensions.{view_extension}
use Rattle.ix_graphs.proofs.Told.{valid_told, effect_told, values_told}
use Rattle.ix_graphs.proofs.behaviour.graph_of.Goals as goal

pub returns-clause-valid : goal.returns-clause-valid
returns-clause-valid c =
    valid_told c.graph_laws.ensures.valid c.requires.well_formed.0 (view_extension c.args.ext.now) c.args.which c.requires.well_formed.1 c.requires.in_range c.graph_at.result c.graph_at.ensures

pub returns-clause-effect : goal.returns-clause-effect
returns-clause-effect c =
    effect_told c.graph_laws.ensures.effect c.requires.well_formed.0 (view_extension c.args.ext.now) c.args.which c.requires.well_formed.1 c.requires.in_range c.graph_at.result c.graph_at.ensures

pub returns-clause-values : goal.returns-clause-values
returns-clause-values c =
    values_told c.graph_laws.ensures.values c.requires.well_formed.0 (view_extension c.args.ext.now) c.args.which c.requires.well_formed.1 c.requires.in_range c.graph_at.result c.graph_at.ensures
