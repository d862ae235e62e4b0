-- Lines piece by piece.
use Rattle.std.proofs.Common.{◌≡◌, ◌∙◌, refl, sym, ap, ℕ, zero, suc, ◌+◌, List, [], ◌∷◌, ◌++◌, map, Option, Some, None, Bool, true, false, arith}
use Rattle.std.specs.Prelude.{codes, get_or, take, length, slice_get, if◌then◌else◌, ◌≤◌}
use Rattle.std.specs.List.{flat_map}
use Rattle.std.proofs.lemmas.List.{append-nil, append_assoc}
use Rattle.ix_plan.specs.declared.design.Target.{Target}
use Rattle.ix_plan.specs.declared.design.Target.TheVariants.{X, Custom}
use Rattle.rv_lawful.specs.Outstanding.{x_target, custom_targets}
use Rattle.ix_extension.specs.Extensions.{ExtensionTree}
use Rattle.rv_seq.specs.declared.arch.Arch.{Arch}
use Rattle.rv_trace.specs.TraceText.{hex_word_text, registers_text}
use Rattle.rv_text.specs.RunText.{outstanding_line, memory_word, memory_lines, trap_text, custom_lines, head_text, state_text}
use Rattle.rv_rows.specs.declared.known.Owed.{Owed}
use Rattle.rv_ending.specs.Owed.{owed_pairs, x_part, custom_part, customs_from, owed_lines, HasSixteen, AreSixteen}

customs_more_from : (o : Owed) (c n : ℕ) → customs_from o c (suc n) ≡ customs_from o c n ++ custom_part o (c + n)
customs_more_from o c zero = append-nil (custom_part o c) ∙ ap (λ m. custom_part o m) (omega arith)
customs_more_from o c (suc n) =
    ap (λ l. custom_part o c ++ l) (customs_more_from o (suc c) n)
    ∙ sym (append_assoc (custom_part o c) (customs_from o (suc c) n) (custom_part o (suc c + n)))
    ∙ ap (λ m. (custom_part o c ++ customs_from o (suc c) n) ++ custom_part o m) (omega arith)

-- one custom register more
pub customs_more : (o : Owed) (n : ℕ) → customs_from o 0 (suc n) ≡ customs_from o 0 n ++ custom_part o n
customs_more o n = customs_more_from o 0 n ∙ ap (λ m. customs_from o 0 n ++ custom_part o m) (omega arith)

words_more_from : (memory : List ℕ) (n k : ℕ) → memory_lines memory (suc n) k ≡ memory_lines memory n k ++ memory_word memory (k + n)
unfolding memory_lines
words_more_from memory zero k = append-nil (memory_word memory k) ∙ ap (λ m. memory_word memory m) (omega arith)
words_more_from memory (suc n) k =
    ap (λ l. memory_word memory k ++ l) (words_more_from memory n (suc k))
    ∙ sym (append_assoc (memory_word memory k) (memory_lines memory n (suc k)) (memory_word memory (suc k + n)))
    ∙ ap (λ m. (memory_word memory k ++ memory_lines memory n (suc k)) ++ memory_word memory m) (omega arith)

-- one word more
pub words_more : (memory : List ℕ) (n : ℕ) → memory_lines memory (suc n) 0 ≡ memory_lines memory n 0 ++ memory_word memory n
words_more memory n = words_more_from memory n 0 ∙ ap (λ m. memory_lines memory n 0 ++ memory_word memory m) (omega arith)

pub words_nothing : (memory : List ℕ) → memory_lines memory 0 0 ≡ []
unfolding memory_lines
words_nothing memory = refl

-- one instruction more
pub lines_more : (owed : List Owed) (n : ℕ) (o : Owed) → slice_get owed n ≡ Some o → flat_map owed_lines (take (n + 1) owed) ≡ flat_map owed_lines (take n owed) ++ owed_lines o
lines_more owed n o e = (let up : n + 1 ≡ suc n = omega arith in ap (λ m. flat_map owed_lines (take m owed)) up ∙ by owed n o e) where
  some_same : (x y : Owed) → Some x ≡ Some y → x ≡ y
  some_same x y e = cc

  by : (owed : List Owed) (n : ℕ) (o : Owed) → slice_get owed n ≡ Some o → flat_map owed_lines (take (suc n) owed) ≡ flat_map owed_lines (take n owed) ++ owed_lines o
  by [] n o e = cc
  by (p ∷ owed) zero o e = append-nil (owed_lines p) ∙ ap (λ q. owed_lines q) (some_same p o e)
  by (p ∷ owed) (suc n) o e = ap (λ l. owed_lines p ++ l) (by owed n o e) ∙ sym (append_assoc (owed_lines p) (flat_map owed_lines (take n owed)) (owed_lines o))

-- The lines of the outstanding targets of an instruction

abbrev with_serial : ℕ → Target → ℕ × Target
with_serial s t = (s, t)

abbrev target_lines : ℕ → List Target → List ℕ
target_lines s l = flat_map outstanding_line (map (λ t. (s, t)) l)

flags_past : (o : Owed) (c n : ℕ) → length o.asks.spawned_customs ≤ c → customs_from o c n ≡ []
flags_past o c zero le = refl
flags_past o c (suc n) le =
    ap (λ b. (if b then outstanding_line (o.serial, Custom c) else []) ++ customs_from o (suc c) n) (past o.asks.spawned_customs c le)
    ∙ flags_past o (suc c) n (omega (arith, le)) where
      past : (l : List Bool) (c : ℕ) → length l ≤ c → get_or l c false ≡ false
      past [] c le = refl
      past (b ∷ l) zero le = absurd (omega (arith, le))
      past (b ∷ l) (suc c) le = past l c (omega (arith, le))

-- with one flag more
one_flag : (o : Owed) (l : List Bool) (c n : ℕ) (x : Bool) → target_lines o.serial (custom_targets (suc c) l) ≡ customs_from o (suc c) n → get_or o.asks.spawned_customs c false ≡ x
    → target_lines o.serial (custom_targets c (x ∷ l)) ≡ customs_from o c (suc n)
one_flag o l c n true rest e = ap (λ t. outstanding_line (o.serial, Custom c) ++ t) rest ∙ ap (λ (y : Bool). (if y then outstanding_line (o.serial, Custom c) else []) ++ customs_from o (suc c) n) (sym e)
one_flag o l c n false rest e = rest ∙ ap (λ (y : Bool). (if y then outstanding_line (o.serial, Custom c) else []) ++ customs_from o (suc c) n) (sym e)

customs_are : (o : Owed) (l : List Bool) (c n : ℕ) → length l ≤ n → ((i : ℕ) → get_or o.asks.spawned_customs (c + i) false ≡ get_or l i false) → length o.asks.spawned_customs ≤ c + length l
    → target_lines o.serial (custom_targets c l) ≡ customs_from o c n
customs_are o [] c n le f few = sym (flags_past o c n (omega (arith, few)))
customs_are o (b ∷ l) c zero le f few = absurd (omega (arith, le))
customs_are o (b ∷ l) c (suc n) le f few =
    let here : c ≡ c + 0 = omega arith in
    let next : (i : ℕ) → suc c + i ≡ c + suc i = λ i. omega arith in
    one_flag o l c n b
    (customs_are o l (suc c) n (omega (arith, le)) (λ i. ap (λ m. get_or o.asks.spawned_customs m false) (next i) ∙ f (suc i)) (omega (arith, few)))
    (ap (λ m. get_or o.asks.spawned_customs m false) here ∙ f 0)

one_owed : (o : Owed) → HasSixteen o → flat_map outstanding_line (owed_pairs o) ≡ owed_lines o
one_owed o few = by o.asks.spawned where
  customs : target_lines o.serial (custom_targets 0 o.asks.spawned_customs) ≡ customs_from o 0 16
  customs = customs_are o o.asks.spawned_customs 0 16 few (λ i. (let e : 0 + i ≡ i = omega arith in ap (λ m. get_or o.asks.spawned_customs m false) e)) (omega arith)

  by : (r : Option ℕ) → target_lines o.serial (x_target r ++ custom_targets 0 o.asks.spawned_customs) ≡ x_part o.serial r ++ customs_from o 0 16
  by None = customs
  by (Some r) = ap (λ l. outstanding_line (o.serial, X r) ++ l) customs

-- the lines of what is outstanding are those of its targets
pub owed_are : (owed : List Owed) → AreSixteen owed → flat_map outstanding_line (flat_map owed_pairs owed) ≡ flat_map owed_lines owed
owed_are [] all = refl
owed_are (o ∷ owed) all =
    flat_append (owed_pairs o) (flat_map owed_pairs owed)
    ∙ ap (λ l. l ++ flat_map outstanding_line (flat_map owed_pairs owed)) (one_owed o all.0)
    ∙ ap (λ l. owed_lines o ++ l) (owed_are owed all.1) where
      flat_append : (a b : List (ℕ × Target)) → flat_map outstanding_line (a ++ b) ≡ flat_map outstanding_line a ++ flat_map outstanding_line b
      flat_append [] b = refl
      flat_append (p ∷ a) b = ap (λ l. outstanding_line p ++ l) (flat_append a b) ∙ sym (append_assoc (outstanding_line p) (flat_map outstanding_line a) (flat_map outstanding_line b))

abbrev head_front : ℕ → Arch → List ℕ
head_front r s = codes "state\npc " ++ hex_word_text s.pc ++ codes "\n" ++ trap_text s.trap ++ registers_text 0 s.x ++ custom_lines 0 (take r s.custom)

head_split : (r : ℕ) (outs : List (ℕ × Target)) (s : Arch) → head_text r [] s ++ flat_map outstanding_line outs ≡ head_text r outs s
head_split r outs s = ap (λ t. t ++ flat_map outstanding_line outs) (append-nil (head_front r s))

-- the text of a state piece by piece
pub state_pieces : (x : ExtensionTree) (owed : List Owed) (s : Arch) → AreSixteen owed
    → (head_text (length x.registers) [] s ++ flat_map owed_lines owed) ++ memory_lines s.mem 262144 0 ≡ state_text x (flat_map owed_pairs owed) s
unfolding state_text
state_pieces x owed s all =
    ap (λ l. (head_text (length x.registers) [] s ++ l) ++ memory_lines s.mem 262144 0) (sym (owed_are owed all))
    ∙ ap (λ l. l ++ memory_lines s.mem 262144 0) (head_split (length x.registers) (flat_map owed_pairs owed) s)
