-- The table of the kinds.
use Rattle.std.proofs.lemmas.Bool.{agree_below, agree_below_at, eqb-true, leb-true}
use Rattle.std.proofs.Common.{None, Option, Bool, true, false, ◌<◌, ◌==◌, ◌≡◌, ℕ, List, Some, [], length, get_or, refl, ◌∙◌, ap}
use Rattle.std.specs.Prelude.{slice_get, nat_le, ◌≤◌}
use Rattle.std.specs.Str.{bytes_eq}
use Rattle.std.proofs.lemmas.List.Quantifiers.{position-Some}
use Rattle.std.proofs.lemmas.Option.{slice_get-get_or}
use Rattle.std.proofs.lemmas.Slice.Eq.{bytes_eq-Decides}
use Rattle.ix_graph.specs.declared.kind.Kind.{Kind}
use Rattle.ix_graph.specs.declared.kind.Kind.TheVariants.{RdInstr, RdRS1, RdRS2, RdPC, RdCustReg, RdMem, WrRD, WrPC, WrCustReg, WrMem, Add, Sub, Mul, And, Or, Xor, Not, Neg, Shl, Shr, Eq, Ne, Lt, Le, Gt, Ge, Land, Lor, Lnot, Concat, Range, Cast, Mux, Rom}
use Rattle.ix_graph.specs.Kinds.{kind_words, place_of, word_of, number_of}

pub length-kind_words : length kind_words ≡ 34
unfolding kind_words
length-kind_words = refl

-- no name has more than nine bytes
abbrev is_short : ℕ → Bool
is_short k = nat_le (length (get_or kind_words k [])) 9

short_words : agree_below is_short (λ _. true) 34 ≡ true
unfolding kind_words
short_words = refl

pub word_short : (number : ℕ) → number < 34 → length (get_or kind_words number []) ≤ 9
word_short number h = leb-true _ 9 (agree_below_at is_short (λ _. true) 34 number short_words h)

-- the name of a kind has that kind's place as number
pub number_of-word_of : (kind : Kind) → number_of (word_of kind) ≡ Some (place_of kind)
unfolding kind_words number_of
number_of-word_of RdInstr = refl
number_of-word_of RdRS1 = refl
number_of-word_of RdRS2 = refl
number_of-word_of RdPC = refl
number_of-word_of (RdCustReg register) = refl
number_of-word_of RdMem = refl
number_of-word_of WrRD = refl
number_of-word_of WrPC = refl
number_of-word_of (WrCustReg register) = refl
number_of-word_of WrMem = refl
number_of-word_of Add = refl
number_of-word_of Sub = refl
number_of-word_of Mul = refl
number_of-word_of And = refl
number_of-word_of Or = refl
number_of-word_of Xor = refl
number_of-word_of Not = refl
number_of-word_of Neg = refl
number_of-word_of Shl = refl
number_of-word_of Shr = refl
number_of-word_of Eq = refl
number_of-word_of Ne = refl
number_of-word_of Lt = refl
number_of-word_of Le = refl
number_of-word_of Gt = refl
number_of-word_of Ge = refl
number_of-word_of Land = refl
number_of-word_of Lor = refl
number_of-word_of Lnot = refl
number_of-word_of Concat = refl
number_of-word_of (Range hi lo) = refl
number_of-word_of Cast = refl
number_of-word_of Mux = refl
number_of-word_of (Rom table) = refl

-- a text that has a number is the name at that place
pub word_at_number : (text : List ℕ) (number : ℕ) → number_of text ≡ Some number → slice_get kind_words number ≡ Some text
unfolding number_of
word_at_number text number e =
    let found = position-Some (λ word. bytes_eq word text) kind_words number [] e in
    let same : get_or kind_words number [] ≡ text = (bytes_eq-Decides (get_or kind_words number []) text).0 found.1 in
    slice_get-get_or kind_words number [] found.0 ∙ ap Some same

-- the name at a place has that place as number
abbrev is_at : Option ℕ → ℕ → Bool
is_at None k = false
is_at (Some number) k = number == k

abbrev is_own_number : ℕ → Bool
is_own_number k = is_at (number_of (get_or kind_words k [])) k

own_numbers : agree_below is_own_number (λ _. true) 34 ≡ true
unfolding kind_words number_of
own_numbers = refl

from_test : (o : Option ℕ) (k : ℕ) → is_at o k ≡ true → o ≡ Some k
from_test None k h = cc
from_test (Some number) k h = ap Some (eqb-true number k h)

pub number_of-place : (number : ℕ) → number < 34 → number_of (get_or kind_words number []) ≡ Some number
number_of-place number h = from_test _ number (agree_below_at is_own_number (λ _. true) 34 number own_numbers h)
