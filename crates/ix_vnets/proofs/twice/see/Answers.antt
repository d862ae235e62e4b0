use Rattle.std.proofs.Common.{◌≡◌, Bool, true, not, ap, sym, ◌∙◌, subst, List, ℕ}
use Rattle.std.specs.Prelude.{◌||◌}
use Rattle.std.specs.BTreeSet.{contains_text}
use Rattle.std.specs.Str.{bytes_eq}
use Rattle.std.specs.String.{string_bytes}
use Rattle.std.proofs.lemmas.Map.Text.{btree_set_updates_text}
use Rattle.ix_vnets.proofs.Seen.{cond_or}
use Rattle.ix_vnets.proofs.twice.see.Goals as goal

pub returns-clause-first : goal.returns-clause-first
returns-clause-first c = c.in_ok-first.ensures.added ∙ ap (λ z. not (contains_text c.args.seen.now z)) c.in_ok-copy.ensures.ok

pub returns-clause-more : goal.returns-clause-more
returns-clause-more c = λ q.
    btree_set_updates_text (string_bytes c.in_ok-copy.copy) c.args.seen.now c.insert.new.self true c.in_ok-first.ensures.updates q
    ∙ cond_or (bytes_eq (string_bytes c.in_ok-copy.copy) q) (contains_text c.args.seen.now q) ∙ ap (λ z. bytes_eq z q || contains_text c.args.seen.now q) c.in_ok-copy.ensures.ok
