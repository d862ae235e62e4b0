use Rattle.std.proofs.Common.{◌≡◌, ◌∙◌, sym, ap, subst, List}
use Rattle.ix_bits.specs.declared.number.Bits.{Bits}
use Rattle.ix_tree.specs.declared.extension.Register.{Register}
use Rattle.ix_extension.specs.Extensions.{view_extension}
use Rattle.rv_seq.specs.WordEffects.{AreWide}
use Rattle.rv_seq.specs.States.{initials}
use Rattle.rv_seq.proofs.Wide.{wide_first}
use Rattle.rv_seq.proofs.arch.Arch.new.Goals as goal

pub returns-in-Ok-clause-wide : goal.returns-in-Ok-clause-wide
returns-in-Ok-clause-wide c =
    let x = view_extension c.args.ext.now in
    subst (λ (z : List Bits). AreWide x z)
    (sym (c.initials_of-custom.ensures ∙ ap (λ (rs : List Register). initials rs) c.as_slice.ensures))
    (wide_first c.requires.0 x c.requires.1)
