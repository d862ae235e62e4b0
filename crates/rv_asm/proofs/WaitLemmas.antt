-- Facts on the text of waits.
use Rattle.std.proofs.Common.{◌≡◌, ◌≢◌, ℕ, suc, ◌≤◌, List, [], ◌∷◌, length, Some, refl, sym, ap, ◌∙◌, arith, inl, inr}
use Rattle.std.specs.Prelude.{slice_get, map}
use Rattle.std.proofs.Common.{length-append, take, drop}
use Rattle.rv_asm.specs.declared.image_text.TextErr.{TextErr}
use Rattle.rv_asm.specs.declared.image_text.TextErr.TheVariants.{At, Memory}
use Rattle.rv_asm.specs.NumbersText.{parts_of, words_among, words_of}
use Rattle.rv_asm.specs.WaitsText.{wait_in, AreWaits, IsWaitsText, IsRefusedBehind, IsBadWait, IsWordRefusal, IsWaitsRefusal}
use Rattle.rv_asm.proofs.NumberLemmas.{counted, words_at, all_numbers, one_list, reached}

-- the first word that is refused, in the text
pub bad_wait : (bytes waits : List ℕ) (i number : ℕ) (part : List ℕ) → slice_get (parts_of bytes) i ≡ Some part → part ≢ []
    → AreWaits (words_among (take i (parts_of bytes))) waits → length waits ≤ 65536 → number ≡ length waits → IsRefusedBehind waits part → IsBadWait bytes number
bad_wait bytes waits i number part h some are few n why =
    record {
      before = words_among (take i (parts_of bytes));
      word = part;
      behind = words_among (drop (suc i) (parts_of bytes));
      waits = waits;
      words = words_at (parts_of bytes) i part h some;
      number_is = n ∙ sym (counted wait_in (words_among (take i (parts_of bytes))) waits are);
      waits_are = are;
      few = few;
      refused = why;
    }

pub all_waits : (bytes waits : List ℕ) (i : ℕ) → AreWaits (words_among (take i (parts_of bytes))) waits → length (parts_of bytes) ≤ i → length waits ≤ 65536 → IsWaitsText bytes waits
all_waits bytes waits i are le few = record { waits_are = all_numbers wait_in (parts_of bytes) waits i are le; few = few }

pub one_text : (bytes xs ys : List ℕ) → IsWaitsText bytes xs → IsWaitsText bytes ys → xs ≡ ys
one_text bytes xs ys x y = one_list wait_in (words_of bytes) xs ys x.waits_are y.waits_are

-- a text of waits has no refused word
pub text_not_refused : (bytes waits : List ℕ) (number : ℕ) → IsWaitsText bytes waits → IsBadWait bytes number → ⊥
text_not_refused bytes waits number text bad =
    let r = reached wait_in bad.before bad.word bad.behind bad.waits waits bad.waits_are (sym (ap (map wait_in) bad.words) ∙ text.waits_are) in
    elim bad.refused [
      | inl none ↦ let is = r.is in cc (none, is)
      | inr full ↦
          let l = ap length r.all_are ∙ length-append bad.waits (r.number ∷ r.rest) in
          let few = text.few in
          absurd (omega (arith, l, full, few))
    ]

-- what a refusal of a word says of the text
pub refused_in : (bytes waits : List ℕ) (i : ℕ) (part : List ℕ) (e : TextErr) → slice_get (parts_of bytes) i ≡ Some part → part ≢ []
    → AreWaits (words_among (take i (parts_of bytes))) waits → length waits ≤ 65536 → IsWordRefusal waits part e → IsWaitsRefusal bytes e
refused_in bytes waits i part (At number) h some are few why = bad_wait bytes waits i number part h some are few why.0 why.1
refused_in bytes waits i part Memory h some are few why = tt

pub only_memory : (bytes waits : List ℕ) (e : TextErr) → IsWaitsText bytes waits → IsWaitsRefusal bytes e → e ≡ Memory
only_memory bytes waits (At number) text bad = absurd (text_not_refused bytes waits number text bad)
only_memory bytes waits Memory text bad = refl
