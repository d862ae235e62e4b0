-- Names of a netlist (IEEE 1364-2005, 3.7.1, simple identifiers without `$`; that a name has a digit or a `_`, and so
-- differs from most keywords, is this project's choice).
use Rattle.std.specs.Prelude.{ℕ, List, [], ◌∷◌, Bool, ◌||◌, ◌&&◌, ◌==◌, nat_le, IsTrue, All, Any, Contains, codes}

-- a letter or `_`
abbrev pub is_letter : ℕ → Bool
is_letter b = (nat_le 65 b && nat_le b 90) || (nat_le 97 b && nat_le b 122) || (b == 95)

-- a digit or `_`
abbrev pub is_mark : ℕ → Bool
is_mark b = (nat_le 48 b && nat_le b 57) || (b == 95)

-- the keywords of the standard that have a digit or a `_` (IEEE 1364-2005, annex B)
abbrev pub keywords : List (List ℕ)
keywords =
    codes "pulsestyle_onevent" ∷ codes "pulsestyle_ondetect" ∷ codes "bufif0" ∷ codes "bufif1" ∷ codes "highz0" ∷ codes "highz1"
    ∷ codes "notif0" ∷ codes "notif1" ∷ codes "pull0" ∷ codes "pull1" ∷ codes "rtranif0" ∷ codes "rtranif1" ∷ codes "strong0"
    ∷ codes "strong1" ∷ codes "supply0" ∷ codes "supply1" ∷ codes "tranif0" ∷ codes "tranif1" ∷ codes "tri0" ∷ codes "tri1"
    ∷ codes "weak0" ∷ codes "weak1" ∷ []

-- the first byte of a text is a letter or `_`
abbrev pub StartsWithLetter : List ℕ → Type 0
StartsWithLetter [] = ⊥
StartsWithLetter (b ∷ bs) = IsTrue (is_letter b)

-- a letter or `_`, then letters, digits and `_`, with at least one digit or `_`, and no keyword
pub record IsName (text : List ℕ) : Type 0 where
  pub starts : StartsWithLetter text
  pub plain : All (λ b. IsTrue (is_letter b || is_mark b)) text
  pub marked : Any (λ b. IsTrue (is_mark b)) text
  pub free : Contains keywords text → ⊥
