use Rattle.std.proofs.Common.{◌∙◌, ap, subst}
use Rattle.std.specs.Prelude.{◌≡◌, Decides}
use Rattle.std.proofs.lemmas.Bool.Decides.{Decides-at}
use Rattle.rv_lawful.specs.Outstanding.{serial_written}
use Rattle.rv_marks.specs.Marks.{same_serial}
use Rattle.rv_marks.proofs.Fetched.{same_serial_tells}
use Rattle.rv_marks.proofs.fetching.unit_rightly.Goals as goal

pub returns : goal.returns
returns c k earlier is =
    let written = serial_written c.args.row.now.written in
    Decides-at c.is_same_serial.result (same_serial written c.args.known.now.granted)
    (c.is_same_serial.ensures ∙ ap (λ s. same_serial s c.args.known.now.granted) c.written_in.ensures)
    (subst (λ g. Decides (same_serial written c.args.known.now.granted) (written ≡ g)) is.granted (same_serial_tells written c.args.known.now.granted))
