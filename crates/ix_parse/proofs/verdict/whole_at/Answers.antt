use Rattle.std.proofs.Common.{◌≡◌, [], IfSome, IfNone, subst, sym}
use Rattle.ix_tree.specs.View.{view_tree}
use Rattle.ix_tree.specs.Machine.{State, ended, finish, stuck}
use Rattle.ix_parse.proofs.Places.{at_text, finish_place}
use Rattle.ix_parse.proofs.verdict.whole_at.Goals as goal

pub returns-in-Text-clause-some : goal.returns-in-Text-clause-some
returns-in-Text-clause-some c =
    subst (λ (z : State). IfSome c.ended_tree.result (λ tree. z ≡ ended (view_tree tree))) (sym (at_text c.args.place c.in-Text.goal c.in-Text.is)) c.ended_tree.ensures.some

pub returns-in-Text-clause-none : goal.returns-in-Text-clause-none
returns-in-Text-clause-none c =
    subst (λ (z : State). IfNone c.ended_tree.result (finish z ≡ stuck [])) (sym (at_text c.args.place c.in-Text.goal c.in-Text.is)) c.ended_tree.ensures.none

pub returns-in_default : goal.returns-in_default
returns-in_default c = record { some = tt; none = finish_place c.args.place c.in_default.not-Text }
