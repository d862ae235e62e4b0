use Rattle.std.proofs.Common.{◌≡◌, ◌∙◌, ap, subst, ℕ, true, cond, not}
use Rattle.std.specs.Ordering.{nat_cmp}
use Rattle.std.specs.BTreeMap.{is_at}
use Rattle.std.specs.BTreeSet.{contains}
use Rattle.ix_typing.specs.Names.{number_of}
use Rattle.ix_typing.proofs.Marking.{marked_push}
use Rattle.ix_typing.proofs.targets.put.Goals as goal

pub returns-in-Ok-push-2-clause-kept : goal.returns-in-Ok-push-2-clause-kept
returns-in-Ok-push-2-clause-kept c =
    let numbers = c.args.numbers.now in
    let new = c.insert.new.self in
    let t = c.args.target in
    let n : c.number.result ≡ number_of t = c.number.ensures in
    let P : ℕ → Type 0 = λ m. (q : ℕ) → contains nat_cmp new q ≡ cond (is_at (nat_cmp m) q) true (contains nat_cmp numbers q) in
    marked_push c.args.items.now.items c.push-in-Ok-push.new.self.items c.args.first.now.items c.push.new.self.items numbers new t c.in-Ok.added
    (subst P n c.in-Ok.ensures.updates.0) (c.in-Ok.ensures.added ∙ ap (λ (m : ℕ). not (contains nat_cmp numbers m)) n) c.in-Ok-push-2.ensures.items c.in-Ok-push.ensures.items
