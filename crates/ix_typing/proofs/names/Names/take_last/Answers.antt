use Rattle.std.proofs.Common.{◌≡◌, ◌∙◌, ap, sym, subst, ℕ, List, [], ◌∷◌, ◌++◌, Option, option_to_list, IsSome}
use Rattle.std.specs.BTreeMap.{get_by_text}
use Rattle.std.specs.Map.{update}
use Rattle.std.specs.Str.{bytes_eq}
use Rattle.ix_typing.specs.declared.role.Named.{Named}
use Rattle.ix_typing.specs.declared.role.Role.{Role}
use Rattle.ix_typing.specs.Kept.{IsKept}
use Rattle.ix_typing.proofs.Keeping.{kept_last, kept_pop}
use Rattle.ix_typing.proofs.names.Names.take_last.Goals as goal

pub invariant_of-self : goal.invariant_of-self
invariant_of-self c =
    let items = c.pop-last.new.self.items in
    let before = c.pop-before.new.self.items in
    let roles = c.self.inside.roles in
    let new = c.set.new.roles in
    let x = c.in-Some-Some.named in
    let old = c.in-Some-Some.before in
    let e : c.self.inside.items.items ≡ items ++ x ∷ [] = c.pop-last.ensures.items ∙ ap (λ (o : Option Named). items ++ option_to_list o) c.in-Some-Some.is-0 in
    let f : c.self.inside.before.items ≡ before ++ old ∷ [] = c.pop-before.ensures.items ∙ ap (λ (o : Option (Option Role)). before ++ option_to_list o) c.in-Some-Some.is-1 in
    let P : List Named → Type 0 = λ z. IsKept z c.self.inside.before.items roles in
    let Q : List (Option Role) → Type 0 = λ z. IsKept (items ++ x ∷ []) z roles in
    let kept : IsKept (items ++ x ∷ []) (before ++ old ∷ []) roles = subst Q f (subst P e c.self.invariant) in
    let n = c.as_str.ensures.text in
    let R : List ℕ → Type 0 = λ z. IsSome (get_by_text roles z) in
    let seen = subst R (sym n) (kept_last items (before ++ old ∷ []) roles x kept) in
    kept_pop items before roles new x old kept (λ m. c.set.ensures seen m ∙ ap (λ (k : List ℕ). update bytes_eq (get_by_text roles) k old m) n)
