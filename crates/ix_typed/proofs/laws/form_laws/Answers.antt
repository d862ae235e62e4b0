use Rattle.std.proofs.Common.{◌≡◌, subst, Ok}
use Rattle.ix_tree.specs.Trees.{ExprTree, TextTree}
use Rattle.ix_typing.specs.Expressions.{judged}
use Rattle.ix_typing.specs.Texts.{judged_text}
use Rattle.ix_typing.proofs.Erasing.{judged_erased}
use Rattle.ix_typing.proofs.ErasingTexts.{text_erased}
use Rattle.ix_typed.proofs.ExprJudged.{made, expr_judged}
use Rattle.ix_typed.proofs.ExprCases.{expr_formed}
use Rattle.ix_typed.proofs.Texting.{text_judged, text_formed}
use Rattle.ix_typed.proofs.laws.form_laws.Goals as goal

pub returns-clause-texts : goal.returns-clause-texts
returns-clause-texts c =
    λ t u. (
      λ e. record { typed = text_formed t u e; tree = text_erased t u e },
      λ w. let P : TextTree → Type 0 = λ z. judged_text z ≡ Ok u in subst P w.tree (text_judged u w.typed),
    )

pub returns-clause-expressions : goal.returns-clause-expressions
returns-clause-expressions c =
    λ g st a b e t. (
      λ h. record { typed = (expr_formed g st e a (made t b) h).typed; tree = judged_erased g st e a (made t b) h },
      λ w. let P : ExprTree → Type 0 = λ z. judged g st z a ≡ Ok (made t b) in subst P w.tree (expr_judged g st a t b w.typed),
    )
