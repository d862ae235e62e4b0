use Rattle.std.proofs.Common.{◌≡◌, ◌∙◌, sym, true, false, refl}
use Rattle.ix_tree.specs.Lexing.{same_bytes}
use Rattle.ix_tree.proofs.Names.{name_test}
use Rattle.ix_unroll.proofs.assigned.is_head_of.Goals as goal

pub returns-then-eq : goal.returns-then-eq
returns-then-eq c =
    let t : same_bytes c.args.head.now.name c.args.name.now ≡ true = sym (name_test c.eq.result c.as_str.result.now c.args.head.now.name c.args.name.now c.eq.ensures c.as_str.ensures.text) ∙ c.if-eq.true in
    rw (c.if-eq.true, t) refl

pub returns-else-eq : goal.returns-else-eq
returns-else-eq c =
    let t : same_bytes c.args.head.now.name c.args.name.now ≡ false = sym (name_test c.eq.result c.as_str.result.now c.args.head.now.name c.args.name.now c.eq.ensures c.as_str.ensures.text) ∙ c.if-eq.false in
    rw t c.is_variable.ensures
