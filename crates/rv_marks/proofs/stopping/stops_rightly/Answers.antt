use Rattle.std.proofs.Common.{◌≡◌, ◌∙◌, sym, ap}
use Rattle.rv_trace.specs.declared.row.Row.{Row}
use Rattle.rv_trace.specs.Trace.{newest}
use Rattle.rv_marks.specs.Stops.{due_stop}
use Rattle.rv_marks.proofs.Stopped.{stops_tell}
use Rattle.rv_marks.proofs.stopping.stops_rightly.Goals as goal

pub returns : goal.returns
returns c k earlier shape image plain empty lawful before is moves fetches succeeds units held =
    let known = c.args.known.now in
    let row = c.args.row.now in
    let same : due_stop c.args.shape known c.args.held c.args.image.now row ≡ due_stop k.shape known c.args.held k.image row =
    ap (λ s. due_stop s known c.args.held c.args.image.now row) (sym shape) ∙ ap (λ i. due_stop k.shape known c.args.held i row) (sym image) in
    let stop : (newest earlier).stop ≡ c.args.before.now.stop = ap (λ (b : Row). b.stop) before in
    stops_tell k earlier row known c.args.held c.stops.result plain empty lawful c.row_facts.ensures is moves fetches succeeds units held
    (λ e. (let x = c.stops.ensures.only e in (stop ∙ x.0, x.1 ∙ same)))
    (λ e q. c.stops.ensures.all (sym stop ∙ e) (q ∙ sym same))
