-- Decimal numbers of words.
use Rattle.std.proofs.Common.{◌≡◌, ℕ, ◌<◌, ◌^◌, subst, arith}
use Rattle.std.specs.Prelude.{IsUtf8, Result, Ok, decimal}
use Rattle.std.specs.Str.Parse.{ParsesUnsigned}
use Rattle.std.proofs.lemmas.Fmt.{IsAscii-decimal, parse-decimal, decimal_injective}
use Rattle.std.proofs.lemmas.Str.{IsUtf8-from_ascii}
use Rattle.ix_verilog.specs.Words.{Word}

wide : (n : ℕ) → n < 256 → n < 2 ^ 64
wide n h = omega (arith, h)

pub decimal_utf8 : (w : Word) (n : ℕ) → n < 256 → decimal n ≡ w → IsUtf8 w
decimal_utf8 w n h e = subst IsUtf8 e (IsUtf8-from_ascii (decimal n) (IsAscii-decimal n (wide n h)))

pub decimal_read : {E : Type 0} (w text : Word) (n : ℕ) (r : Result ℕ E) → n < 256 → decimal n ≡ w → text ≡ w → ParsesUnsigned 8 10 text r → r ≡ Ok n
decimal_read w text n r h e f p = parse-decimal 8 n text r (omega (arith, h)) (wide n h) (let g : text ≡ decimal n = cc in g) p

pub decimal_read_same : {E : Type 0} (n m : ℕ) (r : Result ℕ E) → r ≡ Ok n → r ≡ Ok m → m ≡ n
decimal_read_same n m r a b = cc

pub decimal_same : (n m : ℕ) (w : Word) → n < 256 → m < 256 → decimal n ≡ w → decimal m ≡ w → n ≡ m
decimal_same n m w h k e f = decimal_injective n m (wide n h) (wide m k) (let g : decimal n ≡ decimal m = cc in g)
