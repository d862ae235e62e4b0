use Rattle.std.proofs.Common.{sym, ap, ◌∙◌}
use Rattle.ix_tree.specs.Machine.{around}
use Rattle.ix_parse_expr.proofs.Tops.{last_open, no_last}
use Rattle.ix_parse_expr.proofs.place.around.Goals as goal

pub returns-in-None : goal.returns-in-None
returns-in-None c = ap around (sym (no_last c.args.stack.now c.in-None.ensures.value))

pub returns-in-Some : goal.returns-in-Some
returns-in-Some c =
    let j = last_open c.args.stack.now c.in-Some.frame.now c.in-Some.ensures.value in
    c.around_of.ensures j.0 ∙ ap around (sym j.1)
