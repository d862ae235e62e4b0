use Rattle.std.proofs.Common.{List, ap, ◌∙◌, arith}
use Rattle.std.proofs.lemmas.List.{nil_from_length}
use Rattle.ix_parse_state.specs.declared.frame.Frame.{Frame}
use Rattle.ix_parse_state.specs.Views.{stack_of}
use Rattle.ix_parse_state.proofs.Stacks.{pushed, none_open}
use Rattle.ix_parse_state.proofs.stack.pop.Goals as goal

pub returns-in-Some-clause-some : goal.returns-in-Some-clause-some
returns-in-Some-clause-some c = ap (λ (fs : List Frame). stack_of fs) c.in-Some.ensures.items ∙ pushed c.pop.new.self.items c.in-Some.frame

pub returns-in-None-clause-none : goal.returns-in-None-clause-none
returns-in-None-clause-none c =
    ap (λ (fs : List Frame). stack_of fs) (nil_from_length c.args.stack.items (omega (arith, c.args.stack.ok.0, c.in-None.ensures.cases.0))) ∙ none_open
