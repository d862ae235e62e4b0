use Rattle.std.proofs.Common.{List, ap, ◌∙◌}
use Rattle.ix_parse_state.specs.declared.frame.Frame.{Frame}
use Rattle.ix_parse_state.specs.Views.{stack_of}
use Rattle.ix_parse_state.proofs.Stacks.{pushed}
use Rattle.ix_parse_state.proofs.stack.push.Goals as goal

pub returns-in-Ok : goal.returns-in-Ok
returns-in-Ok c = ap (λ (fs : List Frame). stack_of fs) c.in-Ok.ensures ∙ pushed c.args.stack.items c.args.frame
