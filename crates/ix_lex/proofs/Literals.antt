-- Literals with and without a width.
use Rattle.std.proofs.Common.{◌≡◌, ℕ, zero, suc, ◌+◌, ◌^◌, ◌<◌, ◌≤◌, List, [], ◌∷◌, ◌++◌, length, take, drop, get_or, true, false, Some, None, refl, ap, sym, ◌∙◌, subst, arith, drop-cons, add-one}
use Rattle.std.specs.List.{list_all}
use Rattle.std.proofs.Math.Pow.{pow_mono}
use Rattle.std.proofs.lemmas.List.{append_cancel_left, take-append-drop}
use Rattle.ix_bits.specs.declared.number.Bits.{Bits}
use Rattle.ix_tree.specs.declared.token.TokenKind.{TokenKind}
use Rattle.ix_tree.specs.declared.token.TokenKind.TheVariants.{Unsized, Sized}
use Rattle.ix_tree.specs.Lexing.{digit_value, base_of, IsRun, run_end, IsDigits, digits, IsNumber, decimal, hexadecimal, binary, sized}
use Rattle.ix_tree.proofs.Lexemes.{fronts, digits_plain, digits_unique, has_tick}
use Rattle.ix_lex.specs.Numbers.{NoDigits, IsWidth, NoWidth, IsUnsizedKind, IsSizedKind, NoNumber, NoRun, not_tick}

-- ---- digits by their first byte
pub digits_from : (base x v : ℕ) (text : List ℕ) → 0 < length text → digit_value base (get_or text 0 0) ≡ Some x → IsRun base x (drop 1 text) v → IsDigits base text v
digits_from base x v [] h e r = absurd (omega arith)
digits_from base x v (c ∷ cs) h e r = digits c x e r

pub no_digits_empty : (base : ℕ) (text : List ℕ) → length text ≡ 0 → NoDigits base text
no_digits_empty base text h v l d = go d h
  where
    go : {cs : List ℕ} → IsDigits base cs v → length cs ≡ 0 → ⊥
    go (digits c x e r) h = omega arith

pub no_digits_first : (base : ℕ) (text : List ℕ) → digit_value base (get_or text 0 0) ≡ None → NoDigits base text
no_digits_first base text n v l d = go d n
  where
    go : {cs : List ℕ} → IsDigits base cs v → digit_value base (get_or cs 0 0) ≡ None → ⊥
    go (digits c x e r) n = let k : None ≡ Some x = sym n ∙ e in cc

pub no_digits_run : (base x : ℕ) (text : List ℕ) → digit_value base (get_or text 0 0) ≡ Some x → NoRun base x (drop 1 text) → NoDigits base text
no_digits_run base x text s n v l d = go d s n
  where
    go : {cs : List ℕ} → IsDigits base cs v → digit_value base (get_or cs 0 0) ≡ Some x → NoRun base x (drop 1 cs) → ⊥
    go (digits {cs = cs} c y e r) s n =
        let k : Some x ≡ Some y = sym s ∙ e in
        let m : y ≡ x = cc in
        n v l (subst (λ (z : ℕ). IsRun base z cs v) m r)

-- ---- widths
pub width_is : (text : List ℕ) (w : ℕ) → 0 < length text → (get_or text 0 0 ≡ 48 → ⊥) → IsDigits 10 text w → 1 ≤ w → w ≤ 128 → IsWidth text w
width_is [] w h n d s m = absurd (omega arith)
width_is (c ∷ cs) w h n d s m = record { c = c; cs = cs; is = refl; first = n; digits = d; some = s; most = m }

pub no_width_empty : (text : List ℕ) → length text ≡ 0 → NoWidth text
no_width_empty text h c cs w e n d s m = let k : length text ≡ suc (length cs) = ap length e in omega arith

pub no_width_zero : (text : List ℕ) → get_or text 0 0 ≡ 48 → NoWidth text
no_width_zero text h c cs w e n d s m = n (sym (ap (λ (z : List ℕ). get_or z 0 0) e) ∙ h)

small : (w : ℕ) → w ≤ 128 → w < 2 ^ 128
small w h = omega arith

pub no_width_digits : (text : List ℕ) → NoDigits 10 text → NoWidth text
no_width_digits text h c cs w e n d s m = h w (small w m) (subst (λ (z : List ℕ). IsDigits 10 z w) (sym e) d)

pub no_width_range : (text : List ℕ) (v : ℕ) → IsDigits 10 text v → (1 ≤ v → v ≤ 128 → ⊥) → NoWidth text
no_width_range text v h r c cs w e n d s m =
    let k : v ≡ w = digits_unique h d e in
    r (rw k s) (rw k m)

-- ---- values are below 2^128
power_most : (w : ℕ) → w ≤ 128 → 2 ^ w ≤ 2 ^ 128
power_most w h = pow_mono h

bits_small : (b : Bits) → b.raw < 2 ^ 128
bits_small b = let p = power_most b.width b.most_width in let q = b.in_width in less b.raw (2 ^ b.width) (2 ^ 128) q p
  where
    less : (a b c : ℕ) → a < b → b ≤ c → a < c
    less a b c h k = omega arith

value_small : (v : ℕ) (b : Bits) → b.raw ≡ v → v < 2 ^ 128
value_small v b e = rw (sym e) (bits_small b)

-- ---- a literal with a width
pub record Parts (head tail : List ℕ) : Type 0 where
  pub c : ℕ
  pub cs : List ℕ
  pub w : ℕ
  pub l : ℕ
  pub ds : List ℕ
  pub base : ℕ
  pub v : ℕ
  pub head_is : head ≡ c ∷ cs
  pub first : c ≡ 48 → ⊥
  pub width : IsDigits 10 (c ∷ cs) w
  pub some : 1 ≤ w
  pub most : w ≤ 128
  pub tail_is : tail ≡ l ∷ ds
  pub letter : base_of l ≡ Some base
  pub digits : IsDigits base ds v
  pub small : v < 2 ^ 128
  pub fits : v < 2 ^ w

tick_in : (es head tail : List ℕ) → list_all not_tick es ≡ true → es ≡ head ++ 39 ∷ tail → list_all not_tick head ≡ true → ⊥
tick_in es [] tail a e h = true_false (subst (λ (z : List ℕ). list_all not_tick z ≡ true) e a)
  where
    true_false : false ≡ true → ⊥
    true_false e = cc
tick_in [] (c ∷ head) tail a e h = cc
tick_in (d ∷ es) (c ∷ head) tail a e h =
    let k : es ≡ head ++ 39 ∷ tail = cc in
    tick_in es head tail (tail_all d es a) k (tail_all c head h)
  where
    tail_all : (c : ℕ) (cs : List ℕ) → list_all not_tick (c ∷ cs) ≡ true → list_all not_tick cs ≡ true
    tail_all c cs e = grind arith

pub parts : {text : List ℕ} {kind : TokenKind} → IsNumber text kind → (head tail : List ℕ) → text ≡ head ++ 39 ∷ tail → list_all not_tick head ≡ true → Parts head tail
parts (decimal {cs = cs} c ty b d z u) head tail e h = absurd (tick_in (c ∷ cs) head tail (digits_plain d) e h)
parts (hexadecimal {cs = cs} ty b d u) head tail e h = absurd (tick_in (48 ∷ 120 ∷ cs) head tail (digits_plain d) e h)
parts (binary {cs = cs} ty b d u) head tail e h = absurd (tick_in (48 ∷ 98 ∷ cs) head tail (digits_plain d) e h)
parts (sized {cs = cs} {ds = ds} {w = w} {v = v} {base = base} c l ty b d n f g s) head tail e h =
    let p = fronts not_tick (c ∷ cs) (39 ∷ l ∷ ds) head (39 ∷ tail) (digits_plain d) refl h refl e in
    let q : 39 ∷ l ∷ ds ≡ 39 ∷ tail = append_cancel_left (c ∷ cs) (39 ∷ l ∷ ds) (39 ∷ tail) (e ∙ ap (λ (r : List ℕ). r ++ 39 ∷ tail) (sym p)) in
    let r : tail ≡ l ∷ ds = rest tail (l ∷ ds) q in
    record {
      c = c;
      cs = cs;
      w = w;
      l = l;
      ds = ds;
      base = base;
      v = v;
      head_is = sym p;
      first = n;
      width = d;
      some = subst (λ (z : ℕ). 1 ≤ z) s.type_width ty.some_width;
      most = subst (λ (z : ℕ). z ≤ 128) s.type_width ty.most_width;
      tail_is = r;
      letter = f;
      digits = g;
      small = value_small v b s.value;
      fits = subst (λ (z : ℕ). z < 2 ^ w) s.value (subst (λ (z : ℕ). b.raw < 2 ^ z) s.width b.in_width);
    }
  where
    rest : (xs ys : List ℕ) → 39 ∷ ys ≡ 39 ∷ xs → xs ≡ ys
    rest xs ys e = cc

-- the text is what stands before, at and behind the place
pub split_at : (text : List ℕ) (i : ℕ) → i < length text → get_or text i 0 ≡ 39 → text ≡ take i text ++ 39 ∷ drop (i + 1) text
split_at text i h e =
    let d : drop i text ≡ 39 ∷ drop (i + 1) text = rw add-one (subst (λ (z : ℕ). drop i text ≡ z ∷ drop (suc i) text) e (drop-cons text i 0 h)) in
    sym (take-append-drop i text) ∙ ap (λ (z : List ℕ). take i text ++ z) d

pub sized_is : (head ds text : List ℕ) (w v base l : ℕ) (kind : TokenKind) → text ≡ head ++ 39 ∷ l ∷ ds → IsWidth head w → base_of l ≡ Some base → IsDigits base ds v → IsSizedKind w v kind → IsNumber text kind
sized_is head ds text w v base l kind e i f d k =
    let n : IsNumber ((i.c ∷ i.cs) ++ 39 ∷ l ∷ ds) (Sized k.ty k.bits) = sized i.c l k.ty k.bits i.digits i.first f d k.holds in
    let m : IsNumber ((i.c ∷ i.cs) ++ 39 ∷ l ∷ ds) kind = subst (λ (z : TokenKind). IsNumber ((i.c ∷ i.cs) ++ 39 ∷ l ∷ ds) z) (sym k.is) n in
    subst (λ (z : List ℕ). IsNumber z kind) (sym (e ∙ ap (λ (z : List ℕ). z ++ 39 ∷ l ∷ ds) i.is)) m

-- ---- a literal without a width
pub data Plain (text : List ℕ) : Type 0 where
  plain_decimal : (c : ℕ) (cs : List ℕ) (v : ℕ) → text ≡ c ∷ cs → (c ≡ 48 → cs ≡ []) → IsDigits 10 text v → v < 2 ^ 128 → Plain text
  plain_hexadecimal : (cs : List ℕ) (v : ℕ) → text ≡ 48 ∷ 120 ∷ cs → IsDigits 16 cs v → v < 2 ^ 128 → Plain text
  plain_binary : (cs : List ℕ) (v : ℕ) → text ≡ 48 ∷ 98 ∷ cs → IsDigits 2 cs v → v < 2 ^ 128 → Plain text

pub plain : {text : List ℕ} {kind : TokenKind} → IsNumber text kind → list_all not_tick text ≡ true → Plain text
plain (decimal {cs = cs} {v = v} c ty b d z u) a = plain_decimal c cs v refl z d (value_small v b u.value)
plain (hexadecimal {cs = cs} {v = v} ty b d u) a = plain_hexadecimal cs v refl d (value_small v b u.value)
plain (binary {cs = cs} {v = v} ty b d u) a = plain_binary cs v refl d (value_small v b u.value)
plain (sized {cs = cs} {ds = ds} c l ty b d n f g s) a = absurd (has_tick c l cs ds ((c ∷ cs) ++ 39 ∷ l ∷ ds) a refl)

-- ---- what the parts of a literal with a width are
record Letter (text : List ℕ) (i l : ℕ) (ds : List ℕ) : Type 0 where
  pub within : i + 1 < length text
  pub letter : get_or text (i + 1) 0 ≡ l
  pub rest : drop (i + 2) text ≡ ds

heads : (b c : ℕ) (xs ys : List ℕ) → b ∷ xs ≡ c ∷ ys → b ≡ c
heads b c xs ys e = cc

rests : (b c : ℕ) (xs ys : List ℕ) → b ∷ xs ≡ c ∷ ys → xs ≡ ys
rests b c xs ys e = cc

dropped : (n : ℕ) (xs : List ℕ) (l : ℕ) (ds : List ℕ) → drop n xs ≡ l ∷ ds → n < length xs
dropped zero [] l ds e = cc
dropped zero (x ∷ xs) l ds e = omega arith
dropped (suc n) [] l ds e = cc
dropped (suc n) (x ∷ xs) l ds e = let h = dropped n xs l ds e in omega arith

letter_at : (text : List ℕ) (i l : ℕ) (ds : List ℕ) → drop (i + 1) text ≡ l ∷ ds → Letter text i l ds
letter_at text i l ds e =
    let h = dropped (i + 1) text l ds e in
    let d : get_or text (i + 1) 0 ∷ drop (suc (i + 1)) text ≡ l ∷ ds = sym (drop-cons text (i + 1) 0 h) ∙ e in
    let n : suc (i + 1) ≡ i + 2 = omega arith in
    record {
      within = h;
      letter = heads (get_or text (i + 1) 0) l (drop (suc (i + 1)) text) ds d;
      rest = subst (λ (z : ℕ). drop z text ≡ ds) n (rests (get_or text (i + 1) 0) l (drop (suc (i + 1)) text) ds d);
    }

pub sized_no_width : (text : List ℕ) (i : ℕ) → i < length text → get_or text i 0 ≡ 39 → list_all not_tick (take i text) ≡ true → NoWidth (take i text) → NoNumber text
sized_no_width text i h e a w kind n =
    let p = parts n (take i text) (drop (i + 1) text) (split_at text i h e) a in
    w p.c p.cs p.w p.head_is p.first p.width p.some p.most

pub sized_no_letter : (text : List ℕ) (i : ℕ) → i < length text → get_or text i 0 ≡ 39 → list_all not_tick (take i text) ≡ true → i + 1 ≡ length text → NoNumber text
sized_no_letter text i h e a f kind n =
    let p = parts n (take i text) (drop (i + 1) text) (split_at text i h e) a in
    let l = letter_at text i p.l p.ds p.tail_is in
    let k = l.within in
    omega arith

pub sized_no_base : (text : List ℕ) (i : ℕ) → i < length text → get_or text i 0 ≡ 39 → list_all not_tick (take i text) ≡ true → base_of (get_or text (i + 1) 0) ≡ None → NoNumber text
sized_no_base text i h e a f kind n =
    let p = parts n (take i text) (drop (i + 1) text) (split_at text i h e) a in
    let l = letter_at text i p.l p.ds p.tail_is in
    let g : base_of p.l ≡ None = subst (λ (z : ℕ). base_of z ≡ None) l.letter f in
    let k : None ≡ Some p.base = sym g ∙ p.letter in
    cc

same_base : (text : List ℕ) (i base : ℕ) → base_of (get_or text (i + 1) 0) ≡ Some base → (l b : ℕ) → get_or text (i + 1) 0 ≡ l → base_of l ≡ Some b → b ≡ base
same_base text i base f l b e g =
    let k : Some b ≡ Some base = sym g ∙ ap base_of (sym e) ∙ f in
    cc

pub sized_no_digits : (text : List ℕ) (i base : ℕ) → i < length text → get_or text i 0 ≡ 39 → list_all not_tick (take i text) ≡ true → base_of (get_or text (i + 1) 0) ≡ Some base
    → NoDigits base (drop (i + 2) text) → NoNumber text
sized_no_digits text i base h e a f m kind n =
    let p = parts n (take i text) (drop (i + 1) text) (split_at text i h e) a in
    let l = letter_at text i p.l p.ds p.tail_is in
    let b = same_base text i base f p.l p.base l.letter p.letter in
    let d : IsDigits base (drop (i + 2) text) p.v =
    subst (λ (z : List ℕ). IsDigits base z p.v) (sym l.rest) (subst (λ (z : ℕ). IsDigits z p.ds p.v) b p.digits) in
    m p.v p.small d

pub sized_too_large : (text : List ℕ) (i w base v : ℕ) → i < length text → get_or text i 0 ≡ 39 → list_all not_tick (take i text) ≡ true → IsWidth (take i text) w
    → base_of (get_or text (i + 1) 0) ≡ Some base → IsDigits base (drop (i + 2) text) v → 2 ^ w ≤ v → NoNumber text
sized_too_large text i w base v h e a x f d m kind n =
    let p = parts n (take i text) (drop (i + 1) text) (split_at text i h e) a in
    let l = letter_at text i p.l p.ds p.tail_is in
    let b = same_base text i base f p.l p.base l.letter p.letter in
    let d' : IsDigits base p.ds p.v = subst (λ (z : ℕ). IsDigits z p.ds p.v) b p.digits in
    let j : v ≡ p.v = digits_unique d d' l.rest in
    let k : w ≡ p.w = digits_unique x.digits p.width (sym x.is ∙ p.head_is) in
    let fits : v < 2 ^ w = rw (j, k) p.fits in
    apart (2 ^ w) v m fits
  where
    apart : (a b : ℕ) → a ≤ b → b < a → ⊥
    apart a b h k = omega arith

pub sized_some : (text : List ℕ) (i w base v : ℕ) (kind : TokenKind) → i < length text → get_or text i 0 ≡ 39 → i + 1 < length text → IsWidth (take i text) w
    → base_of (get_or text (i + 1) 0) ≡ Some base → IsDigits base (drop (i + 2) text) v → IsSizedKind w v kind → IsNumber text kind
sized_some text i w base v kind h e j x f d k =
    let n : suc (i + 1) ≡ i + 2 = omega arith in
    let r : drop (i + 1) text ≡ get_or text (i + 1) 0 ∷ drop (i + 2) text =
    subst (λ (z : ℕ). drop (i + 1) text ≡ get_or text (i + 1) 0 ∷ drop z text) n (drop-cons text (i + 1) 0 j) in
    sized_is (take i text) (drop (i + 2) text) text w v base (get_or text (i + 1) 0) kind (split_at text i h e ∙ ap (λ (z : List ℕ). take i text ++ 39 ∷ z) r) x f d k

-- ---- a literal without a width
kind_is : (text : List ℕ) (v : ℕ) (kind : TokenKind) (k : IsUnsizedKind v kind) → IsNumber text (Unsized k.ty k.bits) → IsNumber text kind
kind_is text v kind k n = subst (λ (z : TokenKind). IsNumber text z) (sym k.is) n

pub decimal_is : (text : List ℕ) (v : ℕ) (kind : TokenKind) → 0 < length text → (get_or text 0 0 ≡ 48 → ⊥) → IsDigits 10 text v → IsUnsizedKind v kind → IsNumber text kind
decimal_is [] v kind h n d k = absurd (omega arith)
decimal_is (c ∷ cs) v kind h n d k = kind_is (c ∷ cs) v kind k (decimal c k.ty k.bits d (λ e. absurd (n e)) k.holds)

pub zero_is : (text : List ℕ) (kind : TokenKind) → length text ≡ 1 → get_or text 0 0 ≡ 48 → IsUnsizedKind 0 kind → IsNumber text kind
zero_is [] kind h e k = absurd (omega arith)
zero_is (c ∷ []) kind h e k =
    let d : IsDigits 10 (48 ∷ []) 0 = digits 48 0 refl run_end in
    let n : IsNumber (48 ∷ []) kind = kind_is (48 ∷ []) 0 kind k (decimal 48 k.ty k.bits d (λ e. refl) k.holds) in
    subst (λ (z : ℕ). IsNumber (z ∷ []) kind) (sym e) n
zero_is (c ∷ d ∷ cs) kind h e k = absurd (omega arith)

pub hexadecimal_is : (text : List ℕ) (v : ℕ) (kind : TokenKind) → 0 < length text → (length text ≡ 1 → ⊥) → get_or text 0 0 ≡ 48 → get_or text 1 0 ≡ 120 → IsDigits 16 (drop 2 text) v → IsUnsizedKind v kind → IsNumber text kind
hexadecimal_is [] v kind h l e f d k = absurd (omega arith)
hexadecimal_is (c ∷ []) v kind h l e f d k = absurd (l (omega arith))
hexadecimal_is (c ∷ b ∷ cs) v kind h l e f d k =
    let n : IsNumber (48 ∷ 120 ∷ cs) kind = kind_is (48 ∷ 120 ∷ cs) v kind k (hexadecimal k.ty k.bits d k.holds) in
    subst (λ (z : ℕ). IsNumber (z ∷ b ∷ cs) kind) (sym e) (subst (λ (z : ℕ). IsNumber (48 ∷ z ∷ cs) kind) (sym f) n)

pub binary_is : (text : List ℕ) (v : ℕ) (kind : TokenKind) → 0 < length text → (length text ≡ 1 → ⊥) → get_or text 0 0 ≡ 48 → get_or text 1 0 ≡ 98 → IsDigits 2 (drop 2 text) v → IsUnsizedKind v kind → IsNumber text kind
binary_is [] v kind h l e f d k = absurd (omega arith)
binary_is (c ∷ []) v kind h l e f d k = absurd (l (omega arith))
binary_is (c ∷ b ∷ cs) v kind h l e f d k =
    let n : IsNumber (48 ∷ 98 ∷ cs) kind = kind_is (48 ∷ 98 ∷ cs) v kind k (binary k.ty k.bits d k.holds) in
    subst (λ (z : ℕ). IsNumber (z ∷ b ∷ cs) kind) (sym e) (subst (λ (z : ℕ). IsNumber (48 ∷ z ∷ cs) kind) (sym f) n)

first_byte : (text : List ℕ) (c : ℕ) (cs : List ℕ) → text ≡ c ∷ cs → get_or text 0 0 ≡ c
first_byte text c cs e = ap (λ (z : List ℕ). get_or z 0 0) e

second_byte : (text : List ℕ) (c b : ℕ) (cs : List ℕ) → text ≡ c ∷ b ∷ cs → get_or text 1 0 ≡ b
second_byte text c b cs e = ap (λ (z : List ℕ). get_or z 1 0) e

behind_two : (text : List ℕ) (c b : ℕ) (cs : List ℕ) → text ≡ c ∷ b ∷ cs → cs ≡ drop 2 text
behind_two text c b cs e = ap (λ (z : List ℕ). drop 2 z) (sym e)

pub no_decimal : (text : List ℕ) → list_all not_tick text ≡ true → (get_or text 0 0 ≡ 48 → ⊥) → NoDigits 10 text → NoNumber text
no_decimal text a n d kind m = go (plain m a)
  where
    go : Plain text → ⊥
    go (plain_decimal c cs v e f g h) = d v h g
    go (plain_hexadecimal cs v e g h) = n (first_byte text 48 (120 ∷ cs) e)
    go (plain_binary cs v e g h) = n (first_byte text 48 (98 ∷ cs) e)

pub no_prefixed : (text : List ℕ) → list_all not_tick text ≡ true → get_or text 0 0 ≡ 48 → (length text ≡ 1 → ⊥) → (get_or text 1 0 ≡ 120 → NoDigits 16 (drop 2 text)) → (get_or text 1 0 ≡ 98 → NoDigits 2 (drop 2 text))
    → NoNumber text
no_prefixed text a z l x y kind m = go (plain m a)
  where
    go : Plain text → ⊥
    go (plain_decimal c cs v e f g h) =
        let i : c ≡ 48 = sym (first_byte text c cs e) ∙ z in
        let j : text ≡ c ∷ [] = e ∙ ap (λ (k : List ℕ). c ∷ k) (f i) in
        l (ap length j)
    go (plain_hexadecimal cs v e g h) = x (second_byte text 48 120 cs e) v h (subst (λ (k : List ℕ). IsDigits 16 k v) (behind_two text 48 120 cs e) g)
    go (plain_binary cs v e g h) = y (second_byte text 48 98 cs e) v h (subst (λ (k : List ℕ). IsDigits 2 k v) (behind_two text 48 98 cs e) g)

pub two_values : (n : ℕ) → n ≡ 120 → n ≡ 98 → ⊥
two_values n e f = omega arith
