-- The text of a state is in form.
use Rattle.std.proofs.Common.{◌≡◌, ℕ, zero, suc, ◌+◌, ◌*◌, ◌/◌, ◌<◌, ◌≤◌, ◌^◌, ◌==◌, inl, List, [], ◌∷◌, ◌++◌, length, take, map, refl, sym, ap, ◌∙◌, subst, arith, append_assoc, Option, Some, None, Bool, true, false}
use Rattle.std.specs.Prelude.{decimal, codes, if◌then◌else◌, is_some, slice_index_or}
use Rattle.std.specs.List.{flat_map}
use Rattle.std.proofs.lemmas.List.{append-nil}
use Rattle.std.proofs.Math.Nat.{pow-le-pow_right}
use Rattle.ix_bits.specs.declared.number.Bits.{Bits}
use Rattle.ix_io.specs.Out.{hex_digits}
use Rattle.ix_io.proofs.Digits.{pow_four_times}
use Rattle.ix_extension.specs.Extensions.{ExtensionTree}
use Rattle.ix_lines.specs.Lines.{text_of}
use Rattle.ix_plan.specs.declared.design.Target.{Target}
use Rattle.ix_plan.specs.declared.design.Target.TheVariants.{X, Custom as custom_target}
use Rattle.rv_memory.specs.Room.{base, read}
use Rattle.rv_seq.specs.declared.arch.Arch.{Arch}
use Rattle.rv_seq.specs.declared.arch.TrapState.{TrapState}
use Rattle.rv_trace.specs.TraceText.{target_text, registers_text}
use Rattle.rv_text.specs.RunText.{custom_lines, trap_text, outstanding_line, memory_lines, state_text}
use Rattle.rv_reader.specs.Words.{Free, and_then, from, behind_in, below_in, digits_in}
use Rattle.rv_reader.specs.Writes.{value_in, is_pc_line, is_x_line, is_custom_line, is_target, is_outstanding_line, is_memory_line, is_address_behind, group_of, is_in_group}
use Rattle.rv_reader.specs.Forms.{IsWord, IsByte, IsTarget}
use Rattle.rv_reader.specs.Traces.{AreGrouped, IsState}
use Rattle.rv_reader.proofs.Readings.{until_at, from_at}
use Rattle.rv_reader.proofs.Frees.{IsOut, free_join, free_by_test, free_word, free_byte, free_hex}
use Rattle.rv_reader.proofs.Holds.{below_back}
use Rattle.rv_reader.proofs.BadLines.{serial_back}
use Rattle.rv_reader.proofs.WriteLaws.{value_back}
use Rattle.rv_watch.proofs.Hexes.{are_digits, address_at}

feed_out : IsOut 10
feed_out = inl (omega arith)

space_out : IsOut 32
space_out = inl (omega arith)

-- ---- lines of one group
-- each of these lines is in form in this group
abbrev AreIn : List ℕ → ℕ → List (List ℕ) → Type 0
AreIn widths g [] = Unit {0}
AreIn widths g (line ∷ lines) = Free 10 line × (group_of line ≡ g) × (is_in_group widths g line ≡ true) × AreIn widths g lines

grouped_below : (widths : List ℕ) (low g : ℕ) (lines : List (List ℕ)) → low ≤ g → AreGrouped widths g lines → AreGrouped widths low lines
grouped_below widths low g [] l h = tt
grouped_below widths low g (line ∷ lines) l h = let e = h.1 in (h.0, omega (arith, l, e), h.2, h.3)

grouped_join : (widths : List ℕ) (low g : ℕ) (xs ys : List (List ℕ)) → low ≤ g → AreIn widths g xs → AreGrouped widths g ys → AreGrouped widths low (xs ++ ys)
grouped_join widths low g [] ys l h r = grouped_below widths low g ys l r
grouped_join widths low g (line ∷ xs) ys l h r =
    let e = h.1 in (
      h.0,
      omega (arith, l, e),
      ap (λ n. is_in_group widths n line) e ∙ h.2,
      grouped_join widths (group_of line) g xs ys (omega (arith, e)) h.3 r,
    )

grouped_all : (widths : List ℕ) (g : ℕ) (xs : List (List ℕ)) → AreIn widths g xs → AreGrouped widths g xs
grouped_all widths g [] h = tt
grouped_all widths g (line ∷ xs) h =
    let e = h.1 in (h.0, omega (arith, e), ap (λ n. is_in_group widths n line) e ∙ h.2, subst (λ n. AreGrouped widths n xs) (sym e) (grouped_all widths g xs h.3))

text_join : (xs ys : List (List ℕ)) → text_of (xs ++ ys) ≡ text_of xs ++ text_of ys
text_join [] ys = refl
text_join (x ∷ xs) ys = ap (λ t. (x ++ 10 ∷ []) ++ t) (text_join xs ys) ∙ sym (append_assoc (x ++ 10 ∷ []) (text_of xs) (text_of ys))

-- a line that may be left out
skip_text : (b : Bool) (line text rest : List ℕ) (lines : List (List ℕ)) → text ≡ line ++ 10 ∷ [] → text_of lines ≡ rest → text_of (if b then lines else line ∷ lines) ≡ (if b then [] else text) ++ rest
skip_text true line text rest lines e f = f
skip_text false line text rest lines e f = ap (λ t. (line ++ 10 ∷ []) ++ t) f ∙ ap (λ t. t ++ rest) (sym e)

skip_in : (widths : List ℕ) (g : ℕ) (b : Bool) (line : List ℕ) (lines : List (List ℕ)) → Free 10 line → group_of line ≡ g → is_in_group widths g line ≡ true → AreIn widths g lines → AreIn widths g (if b then lines else line ∷ lines)
skip_in widths g true line lines f e i h = h
skip_in widths g false line lines f e i h = (f, e, i, h)

-- ---- x registers
abbrev x_line : ℕ → ℕ → List ℕ
x_line n value = codes "x" ++ (decimal n ++ 32 ∷ hex_digits 8 value)

abbrev x_lines : ℕ → List ℕ → List (List ℕ)
x_lines n [] = []
x_lines n (value ∷ rest) = if value == 0 then x_lines (suc n) rest else x_line n value ∷ x_lines (suc n) rest

x_line_text : (n value : ℕ) → codes "x" ++ decimal n ++ codes " " ++ hex_digits 8 value ++ codes "\n" ≡ x_line n value ++ 10 ∷ []
x_line_text n value = ap (λ t. t ++ 10 ∷ []) (append_assoc (codes "x" ++ decimal n) (codes " ") (hex_digits 8 value) ∙ append_assoc (codes "x") (decimal n) (32 ∷ hex_digits 8 value))

x_lines_text : (n : ℕ) (x : List ℕ) → text_of (x_lines n x) ≡ registers_text n x
x_lines_text n [] = refl
x_lines_text n (value ∷ rest) = skip_text (value == 0) (x_line n value) (codes "x" ++ decimal n ++ codes " " ++ hex_digits 8 value ++ codes "\n") (registers_text (suc n) rest) (x_lines (suc n) rest) (x_line_text n value) (x_lines_text (suc n) rest)

x_line_in : (n value : ℕ) → n < 32 → is_x_line (x_line n value) ≡ true
unfolding is_x_line behind_in
x_line_in n value l =
    let b : IsByte n = omega (arith, l) in
    let free = free_byte 32 n space_out b in
    let word = hex_digits 8 value in
    let a = decimal n ++ 32 ∷ word in
    ap (λ t. is_some (and_then (below_in 32 t) (λ n. and_then (behind_in (codes " ") (from 32 a)) (λ word. digits_in 8 word)))) (until_at 32 (decimal n) word free)
    ∙ ap (λ o. is_some (and_then o (λ n. and_then (behind_in (codes " ") (from 32 a)) (λ word. digits_in 8 word)))) (below_back 32 n b l)
    ∙ ap (λ t. is_some (and_then (behind_in (codes " ") t) (λ word. digits_in 8 word))) (from_at 32 (decimal n) word free)
    ∙ are_digits 8 value

x_line_free : (n value : ℕ) → n < 32 → Free 10 (x_line n value)
x_line_free n value l = let b : IsByte n = omega (arith, l) in free_join 10 (codes "x") _ (free_by_test 10 (codes "x") refl) (free_join 10 (decimal n) _ (free_byte 10 n feed_out b) (refl, free_hex 10 8 value refl))

x_lines_in : (widths : List ℕ) (n : ℕ) (x : List ℕ) → n + length x ≤ 32 → AreIn widths 1 (x_lines n x)
x_lines_in widths n [] l = tt
x_lines_in widths n (value ∷ rest) l = skip_in widths 1 (value == 0) (x_line n value) (x_lines (suc n) rest) (x_line_free n value (omega (arith, l))) refl (x_line_in n value (omega (arith, l))) (x_lines_in widths (suc n) rest (omega (arith, l)))

-- ---- custom registers
-- patterns of these widths, the first of which has this number
abbrev pub ArePatterns : List ℕ → ℕ → List Bits → Type 0
ArePatterns widths k [] = Unit {0}
ArePatterns widths k (b ∷ rest) = IsByte k × (k < length widths) × (b.width ≡ slice_index_or widths k 0) × ArePatterns widths (suc k) rest

abbrev c_line : ℕ → Bits → List ℕ
c_line k b = codes "c" ++ (decimal k ++ 32 ∷ hex_digits ((b.width + 3) / 4) b.raw)

abbrev c_lines : ℕ → List Bits → List (List ℕ)
c_lines k [] = []
c_lines k (b ∷ rest) = c_line k b ∷ c_lines (suc k) rest

c_lines_text : (k : ℕ) (bs : List Bits) → text_of (c_lines k bs) ≡ custom_lines k bs
c_lines_text k [] = refl
c_lines_text k (b ∷ rest) =
    ap (λ t. (c_line k b ++ 10 ∷ []) ++ t) (c_lines_text (suc k) rest)
    ∙ ap (λ t. (t ++ 10 ∷ []) ++ custom_lines (suc k) rest) (sym (append_assoc (codes "c" ++ decimal k) (codes " ") (hex_digits ((b.width + 3) / 4) b.raw) ∙ append_assoc (codes "c") (decimal k) (32 ∷ hex_digits ((b.width + 3) / 4) b.raw)))

-- a pattern fits the digits of its width
pub pattern_fits : (width v : ℕ) → v < 2 ^ width → v < 16 ^ ((width + 3) / 4)
pattern_fits width v h =
    let four = pow_four_times ((width + 3) / 4) in
    let l : width ≤ 4 * ((width + 3) / 4) = omega arith in
    let more : 2 ^ width ≤ 2 ^ (4 * ((width + 3) / 4)) = pow-le-pow_right (omega arith) l in
    omega (arith, four, more, h)

c_line_in : (widths : List ℕ) (k : ℕ) (b : Bits) → IsByte k → k < length widths → b.width ≡ slice_index_or widths k 0 → is_custom_line widths (c_line k b) ≡ true
unfolding is_custom_line behind_in
c_line_in widths k b i l w =
    let free = free_byte 32 k space_out i in
    let word = hex_digits ((b.width + 3) / 4) b.raw in
    let a = decimal k ++ 32 ∷ word in
    ap (λ t. is_some (and_then (below_in (length widths) t) (λ k. and_then (behind_in (codes " ") (from 32 a)) (λ word. value_in (slice_index_or widths k 0) word)))) (until_at 32 (decimal k) word free)
    ∙ ap (λ o. is_some (and_then o (λ k. and_then (behind_in (codes " ") (from 32 a)) (λ word. value_in (slice_index_or widths k 0) word)))) (below_back (length widths) k i l)
    ∙ ap (λ t. is_some (and_then (behind_in (codes " ") t) (λ word. value_in (slice_index_or widths k 0) word))) (from_at 32 (decimal k) word free)
    ∙ ap (λ n. is_some (value_in n word)) (sym w)
    ∙ value_back false b.width b.raw b.in_width (pattern_fits b.width b.raw b.in_width)

c_line_free : (k : ℕ) (b : Bits) → IsByte k → Free 10 (c_line k b)
c_line_free k b i = free_join 10 (codes "c") _ (free_by_test 10 (codes "c") refl) (free_join 10 (decimal k) _ (free_byte 10 k feed_out i) (refl, free_hex 10 ((b.width + 3) / 4) b.raw refl))

c_lines_in : (widths : List ℕ) (k : ℕ) (bs : List Bits) → ArePatterns widths k bs → AreIn widths 2 (c_lines k bs)
c_lines_in widths k [] h = tt
c_lines_in widths k (b ∷ rest) h = (c_line_free k b h.0, refl, c_line_in widths k b h.0 h.1 h.2, c_lines_in widths (suc k) rest h.3)

-- ---- outstanding writes
-- serials of 32 bits, and registers that there are
abbrev pub AreOwed : ℕ → List (ℕ × Target) → Type 0
AreOwed count [] = Unit {0}
AreOwed count (p ∷ rest) = IsWord p.0 × IsTarget count p.1 × AreOwed count rest

abbrev o_line : ℕ × Target → List ℕ
o_line p = codes "o " ++ (decimal p.0 ++ 32 ∷ target_text p.1)

o_lines_text : (os : List (ℕ × Target)) → text_of (map o_line os) ≡ flat_map outstanding_line os
o_lines_text [] = refl
o_lines_text (p ∷ rest) =
    ap (λ t. (o_line p ++ 10 ∷ []) ++ t) (o_lines_text rest)
    ∙ ap (λ t. (t ++ 10 ∷ []) ++ flat_map outstanding_line rest) (sym (append_assoc (codes "o " ++ decimal p.0) (codes " ") (target_text p.1) ∙ append_assoc (codes "o ") (decimal p.0) (32 ∷ target_text p.1)))

target_back : (count : ℕ) (t : Target) → IsTarget count t → is_target count (target_text t) ≡ true
unfolding is_target behind_in
target_back count (X r) h = ap is_some (below_back 32 r h.0 h.1)
target_back count (custom_target k) h = ap is_some (below_back count k h.0 h.1)

o_line_in : (count : ℕ) (p : ℕ × Target) → IsWord p.0 → IsTarget count p.1 → is_outstanding_line count (o_line p) ≡ true
unfolding is_outstanding_line behind_in
o_line_in count p w t =
    ap (λ o. is_some (and_then o (λ a. and_then (behind_in (codes " ") a) (λ word. if is_target count word then Some word else None)))) (serial_back (codes "o ") p.0 (o_line p) (32 ∷ target_text p.1) refl w refl)
    ∙ ap (λ b. is_some (if b then Some (target_text p.1) else None)) (target_back count p.1 t)

target_free : (count : ℕ) (t : Target) → IsTarget count t → Free 10 (target_text t)
target_free count (X r) h = free_join 10 (codes "x") (decimal r) (free_by_test 10 (codes "x") refl) (free_byte 10 r feed_out h.0)
target_free count (custom_target k) h = free_join 10 (codes "c") (decimal k) (free_by_test 10 (codes "c") refl) (free_byte 10 k feed_out h.0)

o_lines_in : (widths : List ℕ) (os : List (ℕ × Target)) → AreOwed (length widths) os → AreIn widths 3 (map o_line os)
o_lines_in widths [] h = tt
o_lines_in widths (p ∷ rest) h = (
  free_join 10 (codes "o ") _ (free_by_test 10 (codes "o ") refl) (free_join 10 (decimal p.0) _ (free_word 10 p.0 feed_out h.0) (refl, target_free (length widths) p.1 h.1)),
  refl,
  o_line_in (length widths) p h.0 h.1,
  o_lines_in widths rest h.2,
)

-- ---- memory
abbrev m_line : ℕ → ℕ → List ℕ
m_line at value = codes "m " ++ (hex_digits 8 at ++ 32 ∷ hex_digits 8 value)

unfoldable m_lines : List ℕ → ℕ → ℕ → List (List ℕ)
m_lines memory zero k = []
m_lines memory (suc n) k =
    if read memory (base + 4 * k) 4 == 0 then m_lines memory n (suc k) else m_line (base + 4 * k) (read memory (base + 4 * k) 4) ∷ m_lines memory n (suc k)

m_line_text : (at value : ℕ) → codes "m " ++ hex_digits 8 at ++ codes " " ++ hex_digits 8 value ++ codes "\n" ≡ m_line at value ++ 10 ∷ []
m_line_text at value = ap (λ t. t ++ 10 ∷ []) (append_assoc (codes "m " ++ hex_digits 8 at) (codes " ") (hex_digits 8 value) ∙ append_assoc (codes "m ") (hex_digits 8 at) (32 ∷ hex_digits 8 value))

m_lines_text : (memory : List ℕ) (n k : ℕ) → text_of (m_lines memory n k) ≡ memory_lines memory n k
unfolding memory_lines m_lines
m_lines_text memory zero k = refl
m_lines_text memory (suc n) k =
    let at = base + 4 * k in
    let value = read memory (base + 4 * k) 4 in
    skip_text (value == 0) (m_line at value) (codes "m " ++ hex_digits 8 at ++ codes " " ++ hex_digits 8 value ++ codes "\n") (memory_lines memory n (suc k)) (m_lines memory n (suc k)) (m_line_text at value) (m_lines_text memory n (suc k))

m_line_in : (at value : ℕ) → is_memory_line (m_line at value) ≡ true
unfolding is_memory_line behind_in
m_line_in at value =
    ap (λ o. is_some (and_then o (λ a. if is_address_behind (codes " ") a then Some a else None))) (address_at (codes "m ") at (m_line at value) (32 ∷ hex_digits 8 value) refl refl)
    ∙ ap (λ b. is_some (if b then Some (32 ∷ hex_digits 8 value) else None)) (are_digits 8 value)

m_lines_in : (widths memory : List ℕ) (n k : ℕ) → AreIn widths 4 (m_lines memory n k)
unfolding m_lines
m_lines_in widths memory zero k = tt
m_lines_in widths memory (suc n) k =
    let at = base + 4 * k in
    let value = read memory (base + 4 * k) 4 in
    skip_in widths 4 (value == 0) (m_line at value) (m_lines memory n (suc k))
    (free_join 10 (codes "m ") _ (free_by_test 10 (codes "m ") refl) (free_join 10 (hex_digits 8 at) _ (free_hex 10 8 at refl) (refl, free_hex 10 8 value refl)))
    refl (m_line_in at value) (m_lines_in widths memory n (suc k))

-- ---- the whole
-- a state whose text is in form: no trap state, 32 x registers, and patterns of these widths
pub record IsPrintedState (widths : List ℕ) (count : ℕ) (s : Arch) : Type 0 where
  pub trap : s.trap ≡ None
  pub x : length s.x ≤ 32
  pub custom : ArePatterns widths 0 (take count s.custom)

abbrev pc_line : ℕ → List ℕ
pc_line pc = codes "pc " ++ hex_digits 8 pc

pc_line_in : (pc : ℕ) → is_pc_line (pc_line pc) ≡ true
unfolding is_pc_line behind_in
pc_line_in pc = are_digits 8 pc

trap_gone : (t : Option TrapState) → t ≡ None → trap_text t ≡ []
trap_gone t e = ap trap_text e

abbrev the_lines : ℕ → List (ℕ × Target) → Arch → ℕ → List (List ℕ)
the_lines count os s n = x_lines 0 s.x ++ (c_lines 0 (take count s.custom) ++ (map o_line os ++ m_lines s.mem n 0))

lines_text : (count : ℕ) (os : List (ℕ × Target)) (s : Arch) (n : ℕ) → text_of (the_lines count os s n) ≡ registers_text 0 s.x ++ (custom_lines 0 (take count s.custom) ++ (flat_map outstanding_line os ++ memory_lines s.mem n 0))
lines_text count os s n =
    text_join (x_lines 0 s.x) (c_lines 0 (take count s.custom) ++ (map o_line os ++ m_lines s.mem n 0))
    ∙ ap (λ t. t ++ text_of (c_lines 0 (take count s.custom) ++ (map o_line os ++ m_lines s.mem n 0))) (x_lines_text 0 s.x)
    ∙ ap (λ t. registers_text 0 s.x ++ t) (
    text_join (c_lines 0 (take count s.custom)) (map o_line os ++ m_lines s.mem n 0)
    ∙ ap (λ t. t ++ text_of (map o_line os ++ m_lines s.mem n 0)) (c_lines_text 0 (take count s.custom))
    ∙ ap (λ t. custom_lines 0 (take count s.custom) ++ t) (
    text_join (map o_line os) (m_lines s.mem n 0)
    ∙ ap (λ t. t ++ text_of (m_lines s.mem n 0)) (o_lines_text os)
    ∙ ap (λ t. flat_map outstanding_line os ++ t) (m_lines_text s.mem n 0)))

joined : (front trap x c o m : List ℕ) → trap ≡ [] → (front ++ trap ++ x ++ c ++ o) ++ m ≡ front ++ (x ++ (c ++ (o ++ m)))
joined front trap x c o m e =
    ap (λ t. (front ++ t ++ x ++ c ++ o) ++ m) e
    ∙ ap (λ t. (t ++ x ++ c ++ o) ++ m) (append-nil front)
    ∙ append_assoc (front ++ x ++ c) o m
    ∙ append_assoc (front ++ x) c (o ++ m)
    ∙ append_assoc front x (c ++ (o ++ m))

front_text : (pc rest : List ℕ) → (codes "state\npc " ++ pc ++ codes "\n") ++ rest ≡ (codes "state" ++ 10 ∷ []) ++ (((codes "pc " ++ pc) ++ 10 ∷ []) ++ rest)
front_text pc rest = refl

pub state_good : (widths : List ℕ) (x : ExtensionTree) (os : List (ℕ × Target)) (s : Arch) → AreOwed (length widths) os → IsPrintedState widths (length x.registers) s → IsState widths (state_text x os s)
unfolding state_text
state_good widths x os s o h =
    let count = length x.registers in
    record {
      pc = pc_line s.pc;
      free = free_join 10 (codes "pc ") (hex_digits 8 s.pc) (free_by_test 10 (codes "pc ") refl) (free_hex 10 8 s.pc refl);
      pc_is = pc_line_in s.pc;
      lines = the_lines count os s 262144;
      grouped =
          grouped_join widths 1 1 (x_lines 0 s.x) _ (omega arith) (x_lines_in widths 0 s.x (let l = h.x in omega (arith, l)))
          (grouped_join widths 1 2 (c_lines 0 (take count s.custom)) _ (omega arith) (c_lines_in widths 0 (take count s.custom) h.custom)
          (grouped_join widths 2 3 (map o_line os) _ (omega arith) (o_lines_in widths os o)
          (grouped_below widths 3 4 (m_lines s.mem 262144 0) (omega arith) (grouped_all widths 4 (m_lines s.mem 262144 0) (m_lines_in widths s.mem 262144 0)))));
      is =
          joined (codes "state\npc " ++ hex_digits 8 s.pc ++ codes "\n") (trap_text s.trap) (registers_text 0 s.x) (custom_lines 0 (take count s.custom)) (flat_map outstanding_line os) (memory_lines s.mem 262144 0) (trap_gone s.trap h.trap)
          ∙ front_text (hex_digits 8 s.pc) _
          ∙ ap (λ t. (codes "state" ++ 10 ∷ []) ++ (((codes "pc " ++ hex_digits 8 s.pc) ++ 10 ∷ []) ++ t)) (sym (lines_text count os s 262144));
    }
