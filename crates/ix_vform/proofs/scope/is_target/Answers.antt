use Rattle.std.proofs.Common.{subst, ◌++◌}
use Rattle.ix_verilog.specs.Subset.{assigned}
use Rattle.ix_vform.specs.Roles.{IsRole}
use Rattle.ix_vform.proofs.Named.{names_left, names_right}
use Rattle.ix_vform.proofs.scope.is_target.Goals as goal

pub returns-in-Register : goal.returns-in-Register
returns-in-Register c =
    let s = c.args.opened.now in
    let n = c.args.word.now in
    let h = subst (λ r. IsRole s n r) c.in-Register.is c.in-Some.ensures.1 in
    ((λ t. absurd (cc)), λ r. absurd (h.0 (names_right s.inputs (assigned s) n r.declared_so)))

pub returns-in-None : goal.returns-in-None
returns-in-None c =
    let s = c.args.opened.now in
    let n = c.args.word.now in
    ((λ t. absurd (cc)), λ r. absurd (c.in-None.ensures r.named (names_left (s.inputs ++ assigned s) s.registers n (names_right s.inputs (assigned s) n r.declared_so))))
