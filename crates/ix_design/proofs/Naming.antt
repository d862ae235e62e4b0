-- A name of the language is a front of a module's name.
use Rattle.std.proofs.Common.{◌≡◌, ℕ, ◌≤◌, List, [], ◌∷◌, length, true, ◌||◌, arith}
use Rattle.std.specs.Prelude.{All, IsTrue}
use Rattle.std.specs.List.{list_all}
use Rattle.std.proofs.lemmas.Bool.{and_parts}
use Rattle.std.proofs.lemmas.Bool.Decides.{nat_tests}
use Rattle.std.proofs.lemmas.List.Elements.{All-nil, All-cons}
use Rattle.ix_cert.specs.Layout.{IsName, is_letter, is_name_byte}
use Rattle.ix_net.specs.Name as net

abbrev IsPlain : ℕ → Type 0
IsPlain b = IsTrue (net.is_letter b || net.is_mark b)

letter_plain : (b : ℕ) → is_letter b ≡ true → IsPlain b
letter_plain b e = grind (arith, nat_tests)

byte_plain : (b : ℕ) → is_name_byte b ≡ true → IsPlain b
byte_plain b e = grind (arith, nat_tests)

bytes_plain : (bs : List ℕ) → list_all is_name_byte bs ≡ true → All IsPlain bs
bytes_plain [] e = All-nil IsPlain
bytes_plain (b ∷ bs) e = let p = and_parts (is_name_byte b) (list_all is_name_byte bs) e in All-cons IsPlain b bs (byte_plain b p.0) (bytes_plain bs p.1)

pub name_plain : (bs : List ℕ) → IsName bs → All (λ b. IsTrue (net.is_letter b || net.is_mark b)) bs
name_plain [] h = absurd h
name_plain (b ∷ bs) h = All-cons IsPlain b bs (letter_plain b h.0) (bytes_plain bs h.1)

pub name_short : (bs : List ℕ) → IsName bs → length bs ≤ 76
name_short [] h = absurd h
name_short (b ∷ bs) h = let few = h.2 in omega (arith, few)
