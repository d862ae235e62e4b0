use Rattle.std.proofs.Common.{◌≡◌, ◌∙◌, sym, ap, true, false}
use Rattle.std.proofs.lemmas.Bool.{true≢false}
use Rattle.rv_owing.specs.Kept.{are_all}
use Rattle.rv_owing.proofs.Going.{settled_from, settled_old, settled_new}
use Rattle.rv_owing.proofs.owing.Owing.settled.Goals as goal

pub returns-then-not-are_all : goal.returns-then-not-are_all
returns-then-not-are_all c k earlier row is written_is enters_is fresh =
    let owed = c.args.self.now.owed.items in
    let not_all : are_all c.args.written owed ≡ false = sym (c.if-not-are_all.ensures ∙ ap (λ l. are_all c.args.written l) c.as_slice.ensures.value) in
    (λ e. absurd (true≢false (sym e)), λ e. sym not_all ∙ settled_old k earlier row c.args.written c.args.entering owed is.owed written_is enters_is fresh e)

pub returns : goal.returns
returns c k earlier row is written_is enters_is fresh =
    let owed = c.args.self.now.owed.items in
    let all : are_all c.args.written owed ≡ true = sym (c.if-not-are_all.ensures ∙ ap (λ l. are_all c.args.written l) c.as_slice.ensures.value) in (
      λ e. settled_from k earlier row c.args.written c.args.entering owed is.owed written_is enters_is fresh all (sym c.is_none_but.ensures ∙ e),
      λ e. c.is_none_but.ensures ∙ settled_new k earlier row c.args.written c.args.entering owed is.owed written_is enters_is fresh e,
    )
