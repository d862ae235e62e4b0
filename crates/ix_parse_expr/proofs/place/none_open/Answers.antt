use Rattle.std.proofs.Common.{List, ap, ◌∙◌}
use Rattle.ix_parse_state.specs.declared.frame.Frame.{Frame}
use Rattle.ix_parse_state.specs.Views.{stack_of}
use Rattle.ix_parse_state.proofs.Stacks.{none_open}
use Rattle.ix_parse_expr.proofs.place.none_open.Goals as goal

pub returns : goal.returns
returns c = ap (λ (fs : List Frame). stack_of fs) c.new.ensures.items ∙ none_open
