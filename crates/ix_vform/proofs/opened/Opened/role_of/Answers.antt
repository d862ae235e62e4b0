use Rattle.std.proofs.Common.{◌≡◌, ◌∙◌, ap, sym, subst, Option}
use Rattle.std.specs.Prelude.{MatchOption}
use Rattle.ix_verilog.specs.Subset.{Names, declared}
use Rattle.ix_vform.specs.Roles.{IsRole}
use Rattle.ix_vform.specs.Kept.{role_in}
use Rattle.ix_vform.specs.declared.role.Role.{Role}
use Rattle.ix_vform.proofs.Keeping.{role_is}
use Rattle.ix_vform.proofs.opened.Opened.role_of.Goals as goal

pub returns : goal.returns
returns c =
    let s = c.args.self.now in
    let n = c.args.name.now in
    let e : c.copied.result ≡ role_in s n = c.copied.ensures ∙ c.get.ensures.value ∙ c.self.invariant.found n ∙ ap (λ z. role_in z n) c.self.view_is in
    subst (λ (o : Option Role). MatchOption o (Names (declared s) n → ⊥) (IsRole s n)) (sym e) (role_is s n)
