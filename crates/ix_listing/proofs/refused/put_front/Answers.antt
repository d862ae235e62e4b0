use Rattle.std.proofs.Common.{◌++◌, ◌∙◌, ap, append_assoc}
use Rattle.std.specs.Prelude.{codes, string_bytes}
use Rattle.std.proofs.lemmas.Result.{on_ok_weaker}
use Rattle.ix_listing.specs.RefusalLine.{front}
use Rattle.ix_listing.proofs.refused.put_front.Goals as goal

pub returns : goal.returns
unfolding front
returns c =
    on_ok_weaker c.put-2.result
    (λ e. e ∙ ap (λ z. z ++ c.args.rule.now) c.in_ok-put.ensures ∙ append_assoc (string_bytes c.args.out.now) (codes "refused Extension ") c.args.rule.now) c.put-2.ensures
