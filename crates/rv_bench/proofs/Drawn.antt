-- Drawn words, one behind another.
use Rattle.std.proofs.Common.{◌≡◌, ℕ, suc, ◌+◌, ◌*◌, List, [], ◌∷◌, ◌++◌, length, refl, ap, sym, ◌∙◌, arith}
use Rattle.std.proofs.lemmas.List.FromFn.{map-range_with_len_more, length-map-range_with_len}
use Rattle.ix_extension.specs.Extensions.{ExtensionTree}
use Rattle.rv_bench.specs.Drawing.{state_after, draws_of}
use Rattle.rv_bench.specs.DrawnImage.{drawn_word, drawn_words}

-- none at first
pub none : (x : ExtensionTree) (number : ℕ) → drawn_words x number 0 ≡ []
none x number = refl

pub at_first : (number : ℕ) → state_after number 0 ≡ number
unfolding state_after
at_first number = refl

-- one more behind the last
pub grown : (x : ExtensionTree) (number count : ℕ) → drawn_words x number (count + 1) ≡ drawn_words x number count ++ drawn_word x.instructions (draws_of number count) ∷ []
grown x number count = map-range_with_len_more (λ place. drawn_word x.instructions (draws_of number place)) 0 count count (omega arith)

pub size : (x : ExtensionTree) (number count : ℕ) → length (drawn_words x number count) ≡ count
size x number count = length-map-range_with_len (λ place. drawn_word x.instructions (draws_of number place)) 0 count

-- each word takes five draws
five_more : (s : ℕ) (count : ℕ) → state_after (state_after s count) 5 ≡ state_after s (suc (suc (suc (suc (suc count)))))
unfolding state_after
five_more s count = refl

pub stepped : (s count : ℕ) → state_after (state_after s (5 * count)) 5 ≡ state_after s (5 * (count + 1))
stepped s count =
    let e : suc (suc (suc (suc (suc (5 * count))))) ≡ 5 * (count + 1) = omega arith in
    five_more s (5 * count) ∙ ap (state_after s) e

-- the words so far and one more
pub one_more : (x : ExtensionTree) (number count first word : ℕ) (before now : List ℕ) → before ≡ first ∷ drawn_words x number count → now ≡ before ++ word ∷ [] → word ≡ drawn_word x.instructions (draws_of number count) → now ≡ first ∷ drawn_words x number (count + 1)
one_more x number count first word before now b n w =
    n ∙ ap (λ ws. ws ++ word ∷ []) b ∙ ap (λ v. first ∷ (drawn_words x number count ++ v ∷ [])) w ∙ ap (λ ws. first ∷ ws) (sym (grown x number count))

-- how many there are, with the first
pub sized : (x : ExtensionTree) (number count first : ℕ) (words : List ℕ) → words ≡ first ∷ drawn_words x number count → length words ≡ count + 1
sized x number count first words e =
    let n = size x number count in
    ap length e ∙ omega (arith, n)
