use Rattle.std.proofs.Common.{◌∙◌, ap, ◌++◌, ◌∷◌, []}
use Rattle.rv_nets.proofs.Placing.{place_more}
use Rattle.rv_nets.proofs.modules.put_places.Goals as goal

pub loop-port-preserved : goal.loop-port-preserved
loop-port-preserved c = c.in_ok-push.ensures.items ∙ ap (λ l. l ++ record { driver = c.args.driver; port = c.loop-port.port } ∷ []) c.loop-port.invariant ∙ place_more c.args.places.now.items c.args.driver c.loop-port.port
