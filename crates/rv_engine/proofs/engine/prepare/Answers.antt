use Rattle.std.proofs.Common.{◌≡◌, ◌∙◌, ap, sym, subst, length}
use Rattle.rv_holds.specs.Tokens.{Slots}
use Rattle.rv_holds.specs.Holds.{decided}
use Rattle.rv_engine.specs.Rows.{reading, trying, loading}
use Rattle.rv_engine.specs.Kept.{AreFitting, IsLastOpen}
use Rattle.ix_extension.specs.Extensions.{view_extension}
use Rattle.rv_engine.proofs.Fitting.{reading_fitting, decided_fitting}
use Rattle.rv_engine.proofs.Opening.{last_open}
use Rattle.rv_engine.proofs.engine.prepare.Goals as goal

pub try_executing-requires-clause-fitting : goal.try_executing-requires-clause-fitting
try_executing-requires-clause-fitting c =
    let d = c.args.design.now in
    subst (λ (z : Slots). AreFitting d z) (sym c.read.ensures)
    (reading_fitting d d.sheet.shape c.args.arch.now.x c.owed_in.result c.args.interrupted c.args.owing.now 0 c.guess.new.slots c.guess.ensures.fitting)

pub load-requires-clause-fitting : goal.load-requires-clause-fitting
load-requires-clause-fitting c =
    let d = c.args.design.now in
    subst (λ (z : Slots). AreFitting d z) (sym c.decide.ensures)
    (decided_fitting d d.sheet.shape 0 c.try_executing.new.slots c.try_executing.ensures.fitting)

pub returns-clause-open : goal.returns-clause-open
returns-clause-open c =
    let d = c.args.design.now in
    let x = view_extension d.extension in
    let k = d.sheet.shape in
    let o = c.args.owing.now in
    let file = c.args.arch.now.x in
    let memory = c.args.arch.now.mem in
    let future = c.args.future.now in
    let tried : c.try_executing.new.slots ≡ trying x k future memory 0 (reading k file c.owed_in.result c.args.interrupted o 0 c.guess.new.slots) =
    c.try_executing.ensures.slots ∙ ap (λ (l : Slots). trying x k future memory 0 l) c.read.ensures in
    let whole : c.load.new.slots ≡ loading x k memory 0 (decided k 0 (trying x k future memory 0 (reading k file c.owed_in.result c.args.interrupted o 0 c.guess.new.slots))) =
    c.load.ensures.slots ∙ ap (λ (l : Slots). loading x k memory 0 l) (c.decide.ensures ∙ ap (λ (l : Slots). decided k 0 l) tried) in
    let long : length (trying x k future memory 0 (reading k file c.owed_in.result c.args.interrupted o 0 c.guess.new.slots)) ≡ k.stages =
    sym (ap length tried) ∙ c.try_executing.auto.slots ∙ c.read.auto.slots ∙ c.guess.auto.slots ∙ c.fetch-next.auto.slots ∙ c.requires.stages in
    subst (λ (l : Slots). IsLastOpen o l) (sym whole) (last_open x k file c.owed_in.result c.args.interrupted o future memory c.guess.new.slots long)
