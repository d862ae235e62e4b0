use Rattle.std.proofs.Common.{refl, lit<}
use Rattle.std.proofs.lemmas.Fmt.{decimal_digit}
use Rattle.ix_ports.proofs.laws.worked_ports.Goals as goal

pub returns : goal.returns
returns c = λ one.
    let zero = decimal_digit 0 (lit< tt) in
    let first = decimal_digit 1 (lit< tt) in
    let fourth = decimal_digit 4 (lit< tt) in
    record { inputs = rw (zero, first) refl; outputs = rw fourth refl }
