use Rattle.std.proofs.Common.{◌≡◌, subst, sym, Ok}
use Rattle.ix_tree.specs.Trees.{TextTree}
use Rattle.ix_typing.specs.Texts.{judged_text}
use Rattle.ix_typing.proofs.Embedded.{embeds_true, true_embeds}
use Rattle.ix_typing.proofs.ErasingTexts.{text_erased}
use Rattle.ix_typing.proofs.HeadTypes.{head_type}
use Rattle.ix_typing.proofs.Scopes.{front_is, stmt_grows}
use Rattle.ix_typing.proofs.laws.typing_laws.Goals as goal

pub returns-clause-typed : goal.returns-clause-typed
returns-clause-typed c =
    λ t u. (
      λ e.
          let h = text_erased t u e in
          let P : TextTree → Type 0 = λ z. judged_text z ≡ Ok u in
          record { typed = subst P (sym h) e; tree = h },
      λ w. let Q : TextTree → Type 0 = λ z. judged_text z ≡ Ok u in subst Q w.tree w.typed,
    )

pub returns-clause-scope : goal.returns-clause-scope
returns-clause-scope c = λ x g st k e. front_is st.names k.after.names (stmt_grows x g st k e)

pub returns-clause-embeds : goal.returns-clause-embeds
returns-clause-embeds c = λ a b. (embeds_true a b, true_embeds a b)

pub returns-clause-heads : goal.returns-clause-heads
returns-clause-heads c = λ g st bs x a j v h e f. head_type g st bs x a j v h e f
