-- What the texts of an image and of waits give an audit: words of 32 bits, and waits of at most 255 rows.
use Rattle.std.proofs.Common.{◌≡◌, ℕ, zero, suc, ◌≤◌, Bool, true, false, ◌&&◌, if◌then◌else◌, nat_le, List, [], ◌∷◌, length, Option, Some, None, refl, subst, arith}
use Rattle.std.specs.Option.{option_and_then}
use Rattle.std.proofs.lemmas.Bool.{leb-true}
use Rattle.rv_waits.specs.Waits.{wait_at}
use Rattle.rv_asm.specs.ImageText.{IsImageText}
use Rattle.rv_asm.specs.NumbersText.{words_of, decimal_number}
use Rattle.rv_asm.specs.WaitsText.{at_most_255, wait_in, AreWaits, IsWaitsText}
use Rattle.rv_watch.specs.Printed.{AreGiven}
use Rattle.ix_tool.proofs.ImageWords.{words_of_text}

same : (m n : ℕ) → ◌≡◌ {A = Option ℕ} (Some m) (Some n) → m ≡ n
same m n e = cc

-- a wait is at most 255
few_of : (n wait : ℕ) (t : Bool) → nat_le n 255 ≡ t → (if t then Some n else None) ≡ Some wait → wait ≤ 255
few_of n wait true p e = subst (λ k. k ≤ 255) (same n wait e) (leb-true n 255 p)
few_of n wait false p e = absurd cc

number_few : (o : Option ℕ) (wait : ℕ) → option_and_then at_most_255 o ≡ Some wait → wait ≤ 255
number_few None wait e = absurd cc
number_few (Some n) wait e = few_of n wait (nat_le n 255) refl e

word_few : (word : List ℕ) (wait : ℕ) (t : Bool) → (nat_le 1 (length word) && nat_le (length word) 3) ≡ t → (if t then option_and_then at_most_255 (decimal_number 0 word) else None) ≡ Some wait → wait ≤ 255
word_few word wait true p e = number_few (decimal_number 0 word) wait e
word_few word wait false p e = absurd cc

one_few : (word : List ℕ) (wait : ℕ) → wait_in word ≡ Some wait → wait ≤ 255
one_few word wait e = word_few word wait (nat_le 1 (length word) && nat_le (length word) 3) refl e

waits_few : (words : List (List ℕ)) (waits : List ℕ) (n : ℕ) → AreWaits words waits → wait_at waits n ≤ 255
waits_few words [] n h = omega arith
waits_few [] (wait ∷ waits) n h = absurd (cc)
waits_few (word ∷ words) (wait ∷ waits) zero h =
    let e : wait_in word ≡ Some wait = cc in
    one_few word wait e
waits_few (word ∷ words) (wait ∷ waits) (suc n) h =
    let e : AreWaits words waits = cc in
    waits_few words waits n e

pub given_by : (program image bytes waits : List ℕ) → IsImageText program image → IsWaitsText bytes waits → AreGiven image waits
given_by program image bytes waits i w = record { words = words_of_text program image i; short = λ n. waits_few (words_of bytes) waits n w.waits_are }
