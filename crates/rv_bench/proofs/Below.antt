-- The words of a drawn image have 32 bits.
use Rattle.std.proofs.Common.{◌≡◌, ℕ, zero, suc, ◌+◌, ◌*◌, ◌%◌, ◌^◌, ◌<◌, ◌≤◌, List, [], ◌∷◌, ◌++◌, length, map, get_or, Option, Some, None, Bool, true, false, cond, refl, sym, subst, arith, bit_and, pow-add}
use Rattle.std.specs.Prelude.{All, nat_eq}
use Rattle.std.specs.Int.{bit_not, w32}
use Rattle.std.specs.Int.Bits.{and_le_l}
use Rattle.std.specs.List.{range_with_len}
use Rattle.std.proofs.lemmas.Bool.{eqb-true}
use Rattle.std.proofs.lemmas.Nat.{or_lt, pow_pos}
use Rattle.std.proofs.lemmas.List.Elements.{All-nil, All-cons, All-head, All-tail, All-map, All-append}
use Rattle.rv_isa.specs.declared.base.Base.{Base}
use Rattle.rv_isa.specs.Fields.{IsInRange}
use Rattle.rv_isa.specs.Encoded.{encoded}
use Rattle.rv_isa.proofs.RoundLemmas.{encoded-lt}
use Rattle.ix_tree.specs.declared.section.PieceText.{PieceText}
use Rattle.ix_tree.specs.declared.section.PieceKind.{PieceKind}
use Rattle.ix_tree.specs.declared.section.PieceKind.TheVariants as P
use Rattle.ix_tree.specs.TypedTrees.{TypedInstrTree, TypedTextTree}
use Rattle.ix_extension.specs.Encodings.{width_of, bits_of, fixed_value, match_of}
use Rattle.ix_extension.specs.Extensions.{InstructionTree, ExtensionTree, all_instrs, instruction_of}
use Rattle.ix_extension.specs.Faults.{Fault, or_fault, width_fault, encoding_width}
use Rattle.ix_extension.specs.WellFormed.{IsOf}
use Rattle.rv_bench.specs.declared.draws.Draws.{Draws}
use Rattle.rv_bench.specs.Drawing.{given, next, draws_of}
use Rattle.rv_bench.specs.DrawnImage.{bases, open_bits, extension_word, candidates, drawn_word, drawn_words, first_word, last_word}
use Rattle.rv_bench.specs.Words.{IsWord, WordsLaw}
use Rattle.rv_bench.proofs.InRange.{all_in_range, first_in_range, last_in_range}

-- ---- the fixed bits of an encoding
fixed_below : (k : PieceKind) → fixed_value k < 2 ^ width_of k
fixed_below (P.Fixed b) = b.in_width
fixed_below (P.Field n hi lo) = pow_pos (width_of (P.Field n hi lo))

join_below : (v m w p : ℕ) → v < w → m < p → v * p + m < w * p
join_below v m w p h k =
    let l : suc v * p ≤ w * p = search (Rattle.std.proofs.Math.Nat.mul-le-mul_right) in
    let e : suc v * p ≡ v * p + p = grind arith in
    omega (arith, l, e, k)

match_below : (ps : List PieceText) → match_of ps < 2 ^ bits_of ps
match_below [] = omega arith
match_below (p ∷ ps) =
    subst (λ n. fixed_value p.kind * 2 ^ bits_of ps + match_of ps < n) (sym (pow-add 2 (width_of p.kind) (bits_of ps)))
    (join_below (fixed_value p.kind) (match_of ps) (2 ^ width_of p.kind) (2 ^ bits_of ps) (fixed_below p.kind) (match_below ps))

-- where no rule is broken, none of its parts is
none_where : (b : Bool) (rest : Option Fault) (f : Fault) (G : Type 0) → (b ≡ true → rest ≡ None → G) → cond b rest (Some f) ≡ None → G
none_where true rest f G h e = h refl e
none_where false rest f G h e = cc

none_first : (o p : Option Fault) → or_fault o p ≡ None → o ≡ None
none_first None p e = refl
none_first (Some f) p e = cc

HasWord : InstructionTree → Type 0
HasWord i = IsWord i.matches

whole : (x : TypedInstrTree) → bits_of x.pieces ≡ 32 → IsWord (match_of x.pieces)
whole x e = subst (λ n. match_of x.pieces < 2 ^ n) e (match_below x.pieces)

all_whole : (xs : List TypedInstrTree) → width_fault xs ≡ None → All (λ x. IsWord (match_of x.pieces)) xs
all_whole [] e = All-nil (λ (x : TypedInstrTree). IsWord (match_of x.pieces))
all_whole (x ∷ xs) e =
    none_where (nat_eq (bits_of x.pieces) 32) (width_fault xs) (encoding_width x.name) _ (λ w r.
    All-cons (λ (x : TypedInstrTree). IsWord (match_of x.pieces)) x xs (whole x (eqb-true (bits_of x.pieces) 32 w)) (all_whole xs r)) e

matches_are : (t : TypedTextTree) (x : ExtensionTree) → IsOf t x → All (λ i. IsWord i.matches) x.instructions
matches_are t x h =
    subst (λ (z : ExtensionTree). All (λ (i : InstructionTree). IsWord i.matches) z.instructions) (sym h.parts)
    (All-map (λ (i : InstructionTree). IsWord i.matches) instruction_of (all_instrs t.sections) (all_whole (all_instrs t.sections) (none_first (width_fault (all_instrs t.sections)) _ h.sound)))

-- ---- drawn words
given_below : (s : ℕ) → given (next s) < 2 ^ 24
given_below s = omega arith

value_below : (number place : ℕ) → (draws_of number place).value < 2 ^ 24
value_below number place = given_below _

open_below : (d : Draws) → d.value < 2 ^ 24 → open_bits d < 2 ^ 32
open_below d h = omega (arith, h)

word_below : (d : Draws) (i : InstructionTree) → d.value < 2 ^ 24 → IsWord i.matches → IsWord (extension_word d i)
word_below d i h m =
    let o = open_below d h in
    let l = and_le_l (open_bits d) (bit_not w32 i.mask) in
    let a : bit_and (open_bits d) (bit_not w32 i.mask) < 2 ^ 32 = omega (arith, o, l) in
    or_lt 32 i.matches (bit_and (open_bits d) (bit_not w32 i.mask)) m a

words_below : (d : Draws) (xs : List InstructionTree) → d.value < 2 ^ 24 → All (λ i. IsWord i.matches) xs → All IsWord (map (extension_word d) xs)
words_below d [] h all = All-nil IsWord
words_below d (i ∷ xs) h all =
    All-cons IsWord (extension_word d i) (map (extension_word d) xs) (word_below d i h (All-head (λ (i : InstructionTree). IsWord i.matches) i xs all)) (words_below d xs h (All-tail (λ (i : InstructionTree). IsWord i.matches) i xs all))

encoded_below : (bs : List Base) → All IsInRange bs → All IsWord (map (λ b. encoded b) bs)
encoded_below [] all = All-nil IsWord
encoded_below (b ∷ bs) all = All-cons IsWord (encoded b) (map (λ b. encoded b) bs) (encoded-lt b (All-head IsInRange b bs all)) (encoded_below bs (All-tail IsInRange b bs all))

at_any : (xs : List ℕ) (k : ℕ) → All IsWord xs → IsWord (get_or xs k 0)
at_any [] k all = omega arith
at_any (x ∷ xs) zero all = All-head IsWord x xs all
at_any (x ∷ xs) (suc k) all = at_any xs k (All-tail IsWord x xs all)

drawn_below : (d : Draws) (xs : List InstructionTree) → d.value < 2 ^ 24 → All (λ i. IsWord i.matches) xs → IsWord (drawn_word xs d)
drawn_below d xs h all =
    at_any (candidates xs d) (d.choice % (8 + length xs)) (All-append IsWord (map (λ b. encoded b) (bases d)) (map (extension_word d) xs) (encoded_below (bases d) (all_in_range d)) (words_below d xs h all))

all_drawn : (f : ℕ → ℕ) → ((n : ℕ) → IsWord (f n)) → (ns : List ℕ) → All IsWord (map f ns)
all_drawn f h [] = All-nil IsWord
all_drawn f h (n ∷ ns) = All-cons IsWord (f n) (map f ns) (h n) (all_drawn f h ns)

pub words_law : WordsLaw
words_law t x number count h =
    let words : All IsWord (drawn_words x number count) =
    all_drawn (λ place. drawn_word x.instructions (draws_of number place)) (λ place. drawn_below (draws_of number place) x.instructions (value_below number place) (matches_are t x h)) (range_with_len 0 count) in
    let last : All IsWord (last_word ∷ []) = All-cons IsWord last_word [] (encoded-lt _ last_in_range) (All-nil IsWord) in
    All-cons IsWord first_word (drawn_words x number count ++ last_word ∷ []) (encoded-lt _ first_in_range) (All-append IsWord (drawn_words x number count) (last_word ∷ []) words last)
