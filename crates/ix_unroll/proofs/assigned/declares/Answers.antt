use Rattle.std.proofs.Common.{◌≡◌, ◌∙◌, sym, true, false, refl}
use Rattle.ix_tree.specs.Lexing.{same_bytes}
use Rattle.ix_tree.proofs.Names.{name_test}
use Rattle.ix_unroll.proofs.Assigning.{declares_rest}
use Rattle.ix_unroll.proofs.assigned.declares.Goals as goal

pub returns-then-eq : goal.returns-then-eq
returns-then-eq c =
    let d = c.decl-item.result in
    let t : same_bytes d.name c.args.name.now ≡ true = sym (name_test c.eq.result c.as_str.result.now d.name c.args.name.now c.eq.ensures c.as_str.ensures.text) ∙ c.if-eq.true in
    sym (c.loop-decl.invariant ∙ declares_rest c.args.name.now c.args.decls.now c.loop-decl.decl-index d c.loop-decl-test.true c.decl-item.is ∙ rw t refl)

pub loop-decl-preserved : goal.loop-decl-preserved
loop-decl-preserved c =
    let d = c.decl-item.result in
    let t : same_bytes d.name c.args.name.now ≡ false = sym (name_test c.eq.result c.as_str.result.now d.name c.args.name.now c.eq.ensures c.as_str.ensures.text) ∙ c.if-eq.false in
    c.loop-decl.invariant ∙ declares_rest c.args.name.now c.args.decls.now c.loop-decl.decl-index d c.loop-decl-test.true c.decl-item.is ∙ rw t refl
