use Rattle.std.proofs.Common.{◌≡◌, ◌∙◌, ap, sym, subst, drop, ℕ, List, [], ◌∷◌, ◌++◌, Option, option_to_list, IsSome}
use Rattle.std.specs.BTreeMap.{get_by_text}
use Rattle.std.specs.Map.{update}
use Rattle.std.specs.Str.{bytes_eq}
use Rattle.ix_slots.specs.declared.locals.Local.{Local}
use Rattle.ix_slots.specs.declared.locals.Place.{Place}
use Rattle.ix_mean.specs.Resolving.{Slot}
use Rattle.ix_mean.specs.ResolvingStatements.{Scope}
use Rattle.ix_slots.specs.Kept.{newest_first, IsKept}
use Rattle.ix_slots.proofs.Keeping.{newest_push, kept_last, kept_pop}
use Rattle.ix_slots.proofs.locals.Locals.take_last.Goals as goal

pub invariant_of-self : goal.invariant_of-self
invariant_of-self c =
    let items = c.pop-last.new.self.items in
    let before = c.pop-before.new.self.items in
    let places = c.self.inside.places in
    let new = c.set.new.places in
    let x = c.in-Some-Some.local in
    let old = c.in-Some-Some.before in
    let e : c.self.inside.items.items ≡ items ++ x ∷ [] = c.pop-last.ensures.items ∙ ap (λ (o : Option Local). items ++ option_to_list o) c.in-Some-Some.is-0 in
    let f : c.self.inside.before.items ≡ before ++ old ∷ [] = c.pop-before.ensures.items ∙ ap (λ (o : Option (Option Place)). before ++ option_to_list o) c.in-Some-Some.is-1 in
    let P : List Local → Type 0 = λ z. IsKept z c.self.inside.before.items places in
    let Q : List (Option Place) → Type 0 = λ z. IsKept (items ++ x ∷ []) z places in
    let kept : IsKept (items ++ x ∷ []) (before ++ old ∷ []) places = subst Q f (subst P e c.self.invariant) in
    let n = c.as_str.ensures.text in
    let R : List ℕ → Type 0 = λ z. IsSome (get_by_text places z) in
    let seen = subst R (sym n) (kept_last items (before ++ old ∷ []) places x kept) in
    kept_pop items before places new x old kept (λ m. c.set.ensures seen m ∙ ap (λ (k : List ℕ). update bytes_eq (get_by_text places) k old m) n)

pub returns-in-Some-Some-clause-locals : goal.returns-in-Some-Some-clause-locals
returns-in-Some-Some-clause-locals c =
    let items = c.pop-last.new.self.items in
    let x = c.in-Some-Some.local in
    let e : c.self.inside.items.items ≡ items ++ x ∷ [] = c.pop-last.ensures.items ∙ ap (λ (o : Option Local). items ++ option_to_list o) c.in-Some-Some.is-0 in
    sym (ap (λ (ls : List Slot). drop 1 ls) (ap newest_first e ∙ newest_push items x)) ∙ ap (λ (s : Scope). drop 1 s.locals) c.self.view_is
