use Rattle.std.proofs.Common.{◌∙◌, ap, ◌++◌, append_assoc, codes}
use Rattle.ix_dump.proofs.lines.put_scope_line.Goals as goal

pub returns : goal.returns
returns c =
    let front = codes "$scope module " in
    let end = codes " $end\n" in
    c.text-3.ensures
    ∙ ap (λ l. l ++ end) (c.text-2.ensures ∙ ap (λ l. l ++ c.args.name.now) c.text.ensures ∙ append_assoc c.args.out.now front c.args.name.now)
    ∙ append_assoc c.args.out.now (front ++ c.args.name.now) end
