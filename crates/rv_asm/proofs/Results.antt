-- Facts on results.
use Rattle.std.proofs.Common.{◌≡◌, true, Result, Ok, Err}
use Rattle.std.specs.Prelude.{OnOk, is_ok}

-- what holds at an Ok, where the result is one
pub on_ok : {T E P : Type 0} (r : Result T E) → OnOk r P → is_ok r ≡ true → P
on_ok (Ok x) h e = h
on_ok (Err x) h e = cc
