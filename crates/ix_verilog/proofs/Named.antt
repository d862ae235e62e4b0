-- Names are text.
use Rattle.std.proofs.Common.{◌≡◌, ℕ, ◌<◌, [], ◌∷◌, true, arith}
use Rattle.std.specs.Prelude.{All, IsTrue, ◌||◌, IsUtf8}
use Rattle.std.specs.Str.{IsAscii}
use Rattle.std.proofs.lemmas.Bool.Decides.{nat_tests}
use Rattle.std.proofs.lemmas.List.Elements.{All-head, All-tail}
use Rattle.std.proofs.lemmas.Str.{IsUtf8-from_ascii}
use Rattle.std.proofs.lemmas.Str.Ascii.{IsAscii-nil, IsAscii-cons}
use Rattle.ix_net.specs.Name.{IsName, is_letter, is_mark}
use Rattle.ix_verilog.specs.Words.{Word}

name_byte_small : (b : ℕ) → (is_letter b || is_mark b) ≡ true → b < 128
name_byte_small b e = grind (arith, nat_tests)

name_ascii : (n : Word) → All (λ b. IsTrue (is_letter b || is_mark b)) n → IsAscii n
name_ascii [] h = IsAscii-nil
name_ascii (b ∷ n) h =
    IsAscii-cons b n (name_byte_small b (All-head (λ x. IsTrue (is_letter x || is_mark x)) b n h)) (name_ascii n (All-tail (λ x. IsTrue (is_letter x || is_mark x)) b n h))

pub name_utf8 : (n : Word) → IsName n → IsUtf8 n
name_utf8 n h = IsUtf8-from_ascii n (name_ascii n h.plain)
