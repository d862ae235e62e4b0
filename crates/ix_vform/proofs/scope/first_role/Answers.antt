use Rattle.std.proofs.Common.{◌≡◌, subst, Option, Some, None}
use Rattle.std.specs.Prelude.{MatchOption}
use Rattle.ix_net.specs.Name.{IsName}
use Rattle.ix_verilog.specs.declared.source.Source.{Source}
use Rattle.ix_verilog.specs.Words.{Word}
use Rattle.ix_verilog.specs.Subset.{Names, declared}
use Rattle.ix_vform.specs.declared.role.Role.{Role}
use Rattle.ix_vform.specs.Roles.{IsRole}
use Rattle.ix_vform.proofs.scope.first_role.Goals as goal

-- the role of a name as that of a word
of_word : (s : Source) (w t : Word) (o : Option Role) → t ≡ w → IsName w → MatchOption o (Names (declared s) t → ⊥) (IsRole s t)
    → MatchOption o (IsName w → Names (declared s) w → ⊥) (λ r. IsName w × IsRole s w r)
of_word s w t None e n h = λ i. subst (λ z. Names (declared s) z → ⊥) e h
of_word s w t (Some r) e n h = (n, subst (λ z. IsRole s z r) e h)

pub returns-in-Some : goal.returns-in-Some
returns-in-Some c = of_word c.args.opened.now c.args.word.now c.in-Some.name.now c.role_of.result c.in-Some.ensures.0 c.in-Some.ensures.1 c.role_of.ensures
