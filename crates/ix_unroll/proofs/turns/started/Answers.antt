use Rattle.std.proofs.Common.{◌∙◌, sym, refl}
use Rattle.ix_tree.specs.Unrolling.{most_turns, next_value, is_known, touches}
use Rattle.ix_tree.specs.Rows.{view_whole}
use Rattle.ix_unroll.specs.Scopes.{bindings}
use Rattle.ix_unroll.specs.Values.{seen}
use Rattle.ix_unroll.specs.Turning.{head_of}
use Rattle.ix_unroll.proofs.Turned.{turns_out, started_out}
use Rattle.ix_unroll.proofs.turns.started.Goals as goal

pub returns-in-None-clause-broken : goal.returns-in-None-clause-broken
returns-in-None-clause-broken c =
    let bs = bindings c.args.scope.now in
    let h = head_of c.args.head.now in
    let x = seen c.args.first in
    (refl, started_out (is_known (next_value bs h x.number)) (touches c.args.head.now.name (view_whole c.args.head.now.body)) _ (turns_out most_turns bs h x (sym c.in-None.is ∙ c.in_int.ensures)))
