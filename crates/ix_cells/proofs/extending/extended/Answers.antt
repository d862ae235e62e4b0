use Rattle.std.proofs.Common.{sym, ap, ◌∙◌}
use Rattle.ix_bits.specs.Operators.{pattern_of}
use Rattle.ix_bits.proofs.Patterns.{pattern_of_number}
use Rattle.ix_cells.specs.Operands.{wire_of, shown}
use Rattle.ix_cells.proofs.Growing.{of_width, same_adds}
use Rattle.ix_cells.proofs.extending.extended.Goals as goal

pub returns-then-wire-width : goal.returns-then-wire-width
returns-then-wire-width c =
    of_width c.args.a.ty.width c.args.width c.if-wire-width.true
    (same_adds c.args.net.now (wire_of c.args.a) (λ see. pattern_of c.args.width (shown c.args.a see))
    (λ see fit. sym (ap (λ n. pattern_of n (shown c.args.a see)) (sym c.if-wire-width.true) ∙ pattern_of_number c.args.a.ty.signed c.args.a.ty.width (see c.args.a.signal) c.args.a.ty.some_width fit)))

pub returns-then-a : goal.returns-then-a
returns-then-a c = rw c.if-a.true c.extended_signed.ensures

pub returns-else-a : goal.returns-else-a
returns-else-a c = rw c.if-a.false c.extended_unsigned.ensures
