use Rattle.std.proofs.Common.{◌≡◌, ◌∙◌, ap, subst, List, [], ◌∷◌, ◌++◌, Bool, Option, option_to_list}
use Rattle.ix_typing.specs.declared.targets.Target.{Target}
use Rattle.ix_typing.specs.Kept.{IsMarked}
use Rattle.ix_typing.proofs.Marking.{marked_pop}
use Rattle.ix_typing.proofs.targets.Targets.take_last.Goals as goal

pub invariant_of-self : goal.invariant_of-self
invariant_of-self c =
    let items = c.pop-last.new.self.items in
    let first = c.pop-first.new.self.items in
    let numbers = c.self.inside.numbers in
    let t = c.in-Some-Some.target in
    let flag = c.in-Some-Some.first in
    let e : c.self.inside.items.items ≡ items ++ t ∷ [] = c.pop-last.ensures.items ∙ ap (λ (o : Option Target). items ++ option_to_list o) c.in-Some-Some.is-0 in
    let f : c.self.inside.first.items ≡ first ++ flag ∷ [] = c.pop-first.ensures.items ∙ ap (λ (o : Option Bool). first ++ option_to_list o) c.in-Some-Some.is-1 in
    let P : List Target → Type 0 = λ z. IsMarked z c.self.inside.first.items numbers in
    let Q : List Bool → Type 0 = λ z. IsMarked (items ++ t ∷ []) z numbers in
    marked_pop items first numbers c.take_back.new.numbers t flag (subst Q f (subst P e c.self.invariant)) c.take_back.ensures
