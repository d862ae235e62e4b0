use Rattle.std.proofs.Common.{◌∙◌, ap, sym}
use Rattle.ix_terms.specs.Stores.{Held}
use Rattle.ix_terms.proofs.Storing.{tables_kept}
use Rattle.ix_terms.proofs.store.Store.tables.Goals as goal

pub returns : goal.returns
returns c = c.as_slice.ensures ∙ ap (λ (h : Held). h.tables) c.self.view_is ∙ sym (tables_kept c.args.self.now)
