use Rattle.std.proofs.Common.{◌≡◌, [], IfSome, IfNone, subst, sym}
use Rattle.ix_tree.specs.View.{view_tree}
use Rattle.ix_tree.specs.Machine.{State, ended, finish, stuck}
use Rattle.ix_parse.proofs.Places.{at_place, finish_behind}
use Rattle.ix_parse.proofs.verdict.whole.Goals as goal

pub returns-in-None-clause-some : goal.returns-in-None-clause-some
returns-in-None-clause-some c = subst (λ (z : State). IfSome c.whole_at.result (λ tree. z ≡ ended (view_tree tree))) (sym (at_place c.args.reader c.in-None.is)) c.whole_at.ensures.some

pub returns-in-None-clause-none : goal.returns-in-None-clause-none
returns-in-None-clause-none c = subst (λ (z : State). IfNone c.whole_at.result (finish z ≡ stuck [])) (sym (at_place c.args.reader c.in-None.is)) c.whole_at.ensures.none

pub returns-in_default : goal.returns-in_default
returns-in_default c = record { some = tt; none = finish_behind c.args.reader c.in_default.not-None }
