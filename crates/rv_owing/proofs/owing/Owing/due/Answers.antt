use Rattle.std.proofs.Common.{◌≡◌, ◌∙◌, sym, ap, Some, None}
use Rattle.rv_owing.specs.Owing.{serial_granted}
use Rattle.rv_owing.specs.Kept.{place_from}
use Rattle.rv_owing.proofs.Going.{due_is, due_there}
use Rattle.rv_owing.proofs.owing.Owing.due.Goals as goal

pub returns-in_default-place_of : goal.returns-in_default-place_of
returns-in_default-place_of c k rows is owing law =
    let granted : serial_granted k rows ≡ Some c.in-Some.serial = sym (c.granted.ensures.serial k rows is) ∙ c.in-Some.is in
    let at : place_from 0 c.in-Some.serial c.args.self.now.owed.items ≡ None =
    sym (c.place_of.ensures.place ∙ ap (λ l. place_from 0 c.in-Some.serial l) c.as_slice.ensures.value) ∙ c.in_default-place_of.is in
    absurd (due_there k rows c.args.self.now c.in-Some.serial is law granted at)

pub returns : goal.returns
returns c k rows is owing law =
    let granted : serial_granted k rows ≡ Some c.in-Some.serial = sym (c.granted.ensures.serial k rows is) ∙ c.in-Some.is in
    let at : place_from 0 c.in-Some.serial c.args.self.now.owed.items ≡ Some c.in-Some-place_of.at =
    sym (c.place_of.ensures.place ∙ ap (λ l. place_from 0 c.in-Some.serial l) c.as_slice.ensures.value) ∙ c.in-Some-place_of.is in
    due_is k rows c.args.self.now c.in-Some.serial c.in-Some-place_of.at c.index.result.now c.index-2.result.now is owing law granted at c.index.ensures c.index-2.ensures
