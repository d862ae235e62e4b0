use Rattle.std.proofs.Common.{refl}
use Rattle.library_tests.proofs.Additions.{addition_is_valid}
use Rattle.library_tests.proofs.problems.addition.Goals as goal

pub returns : goal.returns
returns c =
    rw (c.from_vec.ensures, c.in_ok-ops.ensures.items, c.of.ensures, c.of-2.ensures, c.of-3.ensures, c.of-4.ensures, c.of-5.ensures, c.from_vec-2.ensures, c.in_ok-spawned.ensures.items, c.new.ensures)
    (addition_is_valid _ _ _ _ _ _ _ refl refl refl refl refl refl refl refl refl refl refl refl refl)
