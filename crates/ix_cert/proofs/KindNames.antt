-- Names of kinds: plain words of the table, and registers.
use Rattle.std.proofs.Common.{◌≡◌, ◌≢◌, ℕ, ◌<◌, ◌≤◌, ◌==◌, List, [], ◌∷◌, ◌++◌, length, Some, None, Bool, true, false, refl, sym, ap, ◌∙◌, subst, arith, ◌⊎◌, inl, inr, get_or, lit<}
use Rattle.std.specs.Prelude.{codes, decimal, IsUtf8, slice_index_or}
use Rattle.std.specs.List.{list_all}
use Rattle.std.specs.Str.{IsAscii}
use Rattle.std.specs.Prelude.{nat_lt, nat_le, ◌^◌}
use Rattle.std.proofs.lemmas.Str.{IsUtf8-from_ascii, IsAscii-append}
use Rattle.std.proofs.lemmas.Str.Ascii.{IsAscii-nil, IsAscii-cons}
use Rattle.std.proofs.lemmas.Fmt.{IsAscii-decimal, length-decimal-le}
use Rattle.std.proofs.Common.{length-append}
use Rattle.std.specs.Prelude.{Option, ◌&&◌, if◌then◌else◌, slice_get}
use Rattle.std.specs.Str.{bytes_eq}
use Rattle.std.proofs.lemmas.Bool.{agree_below, agree_below_at, and_parts}
use Rattle.std.proofs.lemmas.Bool.Decides.{nat_tests}
use Rattle.std.proofs.lemmas.Option.{slice_get-get_or, slice_get_within}
use Rattle.std.proofs.lemmas.Slice.Eq.{bytes_eq-Decides}
use Rattle.ix_graph.proofs.KindLemmas.{word_at_number, number_of-place}
use Rattle.ix_graph.specs.declared.kind.Kind.{Kind}
use Rattle.ix_graph.specs.declared.kind.Kind.TheVariants.{RdInstr, RdRS1, RdRS2, RdPC, RdCustReg, RdMem, WrRD, WrPC, WrCustReg, WrMem, Add, Sub, Mul, And, Or, Xor, Not, Neg, Shl, Shr, Eq, Ne, Lt, Le, Gt, Ge, Land, Lor, Lnot, Concat, Range, Cast, Mux, Rom}
use Rattle.ix_graph.specs.Kinds.{kind_words, register_of, printed_name, number_of}
use Rattle.ix_cert.specs.Layout.{Line, IsName, is_letter, is_name_byte, IsKindName, IsSmallRegister}
use Rattle.ix_cert.specs.Items.{IsPlainKind, IsRegister}
use Rattle.ix_lines.specs.Readings.{Tells}

pub record IsRegisterOf (front text : Line) : Type 0 where
  pub register : ℕ
  pub small : register ≤ 15
  pub is : text ≡ front ++ decimal register

abbrev pub reads : Line
reads = codes "RdCustReg."

abbrev pub writes : Line
writes = codes "WrCustReg."

-- a plain word, or a register that is read or written
abbrev pub KindForm : Line → Type 0
KindForm text = IsPlainKind text ⊎ (IsRegisterOf reads text ⊎ IsRegisterOf writes text)

plain : (text : Line) (p : ℕ) → p < 34 → p ≢ 4 → p ≢ 8 → text ≡ slice_index_or kind_words p [] → KindForm text
plain text p b r w e = inl (record { place = p; below = b; no_read = r; no_write = w; is = e })

form_of : (kind : Kind) (text : Line) → IsSmallRegister (register_of kind) → text ≡ printed_name kind → KindForm text
unfolding kind_words
form_of RdInstr text s e = plain text 0 (lit< tt) (λ h. cc) (λ h. cc) e
form_of RdRS1 text s e = plain text 1 (lit< tt) (λ h. cc) (λ h. cc) e
form_of RdRS2 text s e = plain text 2 (lit< tt) (λ h. cc) (λ h. cc) e
form_of RdPC text s e = plain text 3 (lit< tt) (λ h. cc) (λ h. cc) e
form_of (RdCustReg register) text s e = inr (inl (record { register = register; small = s; is = e }))
form_of RdMem text s e = plain text 5 (lit< tt) (λ h. cc) (λ h. cc) e
form_of WrRD text s e = plain text 6 (lit< tt) (λ h. cc) (λ h. cc) e
form_of WrPC text s e = plain text 7 (lit< tt) (λ h. cc) (λ h. cc) e
form_of (WrCustReg register) text s e = inr (inr (record { register = register; small = s; is = e }))
form_of WrMem text s e = plain text 9 (lit< tt) (λ h. cc) (λ h. cc) e
form_of Add text s e = plain text 10 (lit< tt) (λ h. cc) (λ h. cc) e
form_of Sub text s e = plain text 11 (lit< tt) (λ h. cc) (λ h. cc) e
form_of Mul text s e = plain text 12 (lit< tt) (λ h. cc) (λ h. cc) e
form_of And text s e = plain text 13 (lit< tt) (λ h. cc) (λ h. cc) e
form_of Or text s e = plain text 14 (lit< tt) (λ h. cc) (λ h. cc) e
form_of Xor text s e = plain text 15 (lit< tt) (λ h. cc) (λ h. cc) e
form_of Not text s e = plain text 16 (lit< tt) (λ h. cc) (λ h. cc) e
form_of Neg text s e = plain text 17 (lit< tt) (λ h. cc) (λ h. cc) e
form_of Shl text s e = plain text 18 (lit< tt) (λ h. cc) (λ h. cc) e
form_of Shr text s e = plain text 19 (lit< tt) (λ h. cc) (λ h. cc) e
form_of Eq text s e = plain text 20 (lit< tt) (λ h. cc) (λ h. cc) e
form_of Ne text s e = plain text 21 (lit< tt) (λ h. cc) (λ h. cc) e
form_of Lt text s e = plain text 22 (lit< tt) (λ h. cc) (λ h. cc) e
form_of Le text s e = plain text 23 (lit< tt) (λ h. cc) (λ h. cc) e
form_of Gt text s e = plain text 24 (lit< tt) (λ h. cc) (λ h. cc) e
form_of Ge text s e = plain text 25 (lit< tt) (λ h. cc) (λ h. cc) e
form_of Land text s e = plain text 26 (lit< tt) (λ h. cc) (λ h. cc) e
form_of Lor text s e = plain text 27 (lit< tt) (λ h. cc) (λ h. cc) e
form_of Lnot text s e = plain text 28 (lit< tt) (λ h. cc) (λ h. cc) e
form_of Concat text s e = plain text 29 (lit< tt) (λ h. cc) (λ h. cc) e
form_of (Range hi lo) text s e = plain text 30 (lit< tt) (λ h. cc) (λ h. cc) e
form_of Cast text s e = plain text 31 (lit< tt) (λ h. cc) (λ h. cc) e
form_of Mux text s e = plain text 32 (lit< tt) (λ h. cc) (λ h. cc) e
form_of (Rom table) text s e = plain text 33 (lit< tt) (λ h. cc) (λ h. cc) e

pub kind_form : (text : Line) → IsKindName text → KindForm text
kind_form text k = form_of k.kind text k.register k.name

some_same : {a b : ℕ} → Some a ≡ Some b → a ≡ b
some_same e = cc

differ : (b : Bool) → b ≡ true → b ≡ false → ⊥
differ b t f = cc

some_list : {a b : Line} → Some a ≡ Some b → a ≡ b
some_list e = cc

get_or-of : (p : ℕ) (text : Line) → slice_get kind_words p ≡ Some text → get_or kind_words p [] ≡ text
get_or-of p text e = let h = slice_get_within kind_words p text e in let g = slice_get-get_or kind_words p [] h in some_list (sym g ∙ e)

named : (kind : Kind) (text : Line) → IsSmallRegister (register_of kind) → text ≡ printed_name kind → IsKindName text
named kind text s e = record { kind = kind; register = s; name = e }

-- a kind for each place that has a plain word
abbrev plain_kinds : List Kind
plain_kinds =
    RdInstr ∷ RdRS1 ∷ RdRS2 ∷ RdPC ∷ (Rom 0) ∷ RdMem ∷ WrRD ∷ WrPC ∷ (Rom 0) ∷ WrMem ∷ Add ∷ Sub ∷ Mul ∷ And ∷ Or ∷ Xor ∷ Not ∷ Neg ∷ Shl ∷ Shr ∷ Eq ∷ Ne ∷ Lt ∷ Le ∷ Gt ∷ Ge ∷ Land ∷ Lor ∷ Lnot ∷ Concat ∷ (Range 0 0) ∷ Cast ∷ Mux ∷ (Rom 0) ∷ []

abbrev kind_at : ℕ → Kind
kind_at k = get_or plain_kinds k (Rom 0)

is_unregistered : Option ℕ → Bool
is_unregistered None = true
is_unregistered (Some register) = false

abbrev is_own_kind : ℕ → Bool
is_own_kind k = if k == 4 then true else if k == 8 then true else bytes_eq (get_or kind_words k []) (printed_name (kind_at k)) && is_unregistered (register_of (kind_at k))

own_kinds : agree_below is_own_kind (λ _. true) 34 ≡ true
unfolding kind_words is_unregistered
own_kinds = refl

small_none : (o : Option ℕ) → is_unregistered o ≡ true → IsSmallRegister o
unfolding is_unregistered
small_none None e = tt
small_none (Some register) e = cc

other : (a b : ℕ) → a ≢ b → (a == b) ≡ false
other a b n = grind (arith, nat_tests)

by_test : (p : ℕ) (text : Line) (kind : Kind) (same none : Bool) → bytes_eq (get_or kind_words p []) (printed_name kind) ≡ same → is_unregistered (register_of kind) ≡ none → p ≢ 4 → p ≢ 8
    → (if p == 4 then true else if p == 8 then true else same && none) ≡ true → text ≡ get_or kind_words p [] → IsKindName text
by_test p text kind same none s n r w e t =
    let four : (p == 4) ≡ false = other p 4 r in
    let eight : (p == 8) ≡ false = other p 8 w in
    let both : (same && none) ≡ true = sym (rw (four, eight) refl) ∙ e in
    let parts = and_parts same none both in
    let word : get_or kind_words p [] ≡ printed_name kind = (bytes_eq-Decides (get_or kind_words p []) (printed_name kind)).0 (s ∙ parts.0) in
    named kind text (small_none (register_of kind) (n ∙ parts.1)) (t ∙ word)

plain_named : (p : ℕ) (text : Line) → p < 34 → p ≢ 4 → p ≢ 8 → text ≡ slice_index_or kind_words p [] → IsKindName text
plain_named p text b r w e = by_test p text (kind_at p) _ _ refl refl r w (agree_below_at is_own_kind (λ _. true) 34 p own_kinds b) e

pub form_kind : (text : Line) → KindForm text → IsKindName text
unfolding kind_words
form_kind text (inl p) = plain_named p.place text p.below p.no_read p.no_write p.is
form_kind text (inr (inl g)) = named (RdCustReg g.register) text g.small g.is
form_kind text (inr (inr g)) = named (WrCustReg g.register) text g.small g.is

-- no plain word has a point
has_point : Line → Bool
has_point [] = false
has_point (b ∷ rest) = if b == 46 then true else has_point rest

no_points : agree_below (λ k. has_point (get_or kind_words k [])) (λ _. false) 34 ≡ true
unfolding kind_words has_point
no_points = refl

plain_pointless : (text : Line) → IsPlainKind text → has_point text ≡ false
plain_pointless text p = ap has_point p.is ∙ agree_below_at (λ k. has_point (get_or kind_words k [])) (λ _. false) 34 p.place no_points p.below

reads_point : (rest : Line) → has_point (reads ++ rest) ≡ true
unfolding has_point
reads_point rest = refl

writes_point : (rest : Line) → has_point (writes ++ rest) ≡ true
unfolding has_point
writes_point rest = refl

register_behind : (front text rest : Line) → text ≡ front ++ rest → IsRegister rest → IsRegisterOf front text
register_behind front text rest e g = record { register = g.register; small = g.small; is = e ∙ ap (λ l. front ++ l) g.is }

same_behind : (rest : Line) (n : ℕ) → reads ++ decimal n ≡ reads ++ rest → rest ≡ decimal n
same_behind rest n e = let h : decimal n ≡ rest = cc in sym h

same_behind_write : (rest : Line) (n : ℕ) → writes ++ decimal n ≡ writes ++ rest → rest ≡ decimal n
same_behind_write rest n e = let h : decimal n ≡ rest = cc in sym h

abbrev first_byte : Line → ℕ
first_byte [] = 0
first_byte (b ∷ rest) = b

read_of : (text rest : Line) → text ≡ reads ++ rest → KindForm text → IsRegister rest
read_of text rest e (inl p) = let h = plain_pointless text p in let g = ap has_point e ∙ reads_point rest in absurd (differ (has_point text) g h)
read_of text rest e (inr (inl g)) = record { register = g.register; small = g.small; is = same_behind rest g.register (sym g.is ∙ e) }
read_of text rest e (inr (inr g)) = let h : 87 ≡ 82 = ap first_byte (sym g.is ∙ e) in absurd (omega (arith, h))

write_of : (text rest : Line) → text ≡ writes ++ rest → KindForm text → IsRegister rest
write_of text rest e (inl p) = let h = plain_pointless text p in let g = ap has_point e ∙ writes_point rest in absurd (differ (has_point text) g h)
write_of text rest e (inr (inl g)) = let h : 82 ≡ 87 = ap first_byte (sym g.is ∙ e) in absurd (omega (arith, h))
write_of text rest e (inr (inr g)) = record { register = g.register; small = g.small; is = same_behind_write rest g.register (sym g.is ∙ e) }

-- behind the front of a register's name a register stands, or the text names no kind
pub read_told : (told : Bool) (text rest : Line) → text ≡ reads ++ rest → Tells told (IsRegister rest) → Tells told (IsKindName text)
read_told true text rest e g = form_kind text (inr (inl (register_behind reads text rest e g)))
read_told false text rest e g = λ k. g (read_of text rest e (kind_form text k))

pub write_told : (told : Bool) (text rest : Line) → text ≡ writes ++ rest → Tells told (IsRegister rest) → Tells told (IsKindName text)
write_told true text rest e g = form_kind text (inr (inr (register_behind writes text rest e g)))
write_told false text rest e g = λ k. g (write_of text rest e (kind_form text k))

pub plain_told : (told : Bool) (text : Line) → ((rest : Line) → text ≢ reads ++ rest) → ((rest : Line) → text ≢ writes ++ rest) → Tells told (IsPlainKind text) → Tells told (IsKindName text)
plain_told true text r w p = form_kind text (inl p)
plain_told false text r w p = λ k. elim (kind_form text k) [ inl q ↦ p q | inr g ↦ elim g [ inl x ↦ r _ x.is | inr x ↦ w _ x.is ] ]

-- the number of a plain word
plain_number : (text : Line) → (p : IsPlainKind text) → number_of text ≡ Some p.place
plain_number text p = ap number_of p.is ∙ number_of-place p.place p.below

pub found_told : (told : Bool) (text : Line) (place : ℕ) → Some place ≡ number_of text → place < 34 → Tells told ((place ≢ 4) × (place ≢ 8)) → Tells told (IsPlainKind text)
found_told true text place e b y = record { place = place; below = b; no_read = y.0; no_write = y.1; is = sym (get_or-of place text (word_at_number text place (sym e))) }
found_told false text place e b y = λ p. let same : place ≡ p.place = some_same (e ∙ plain_number text p) in y ((λ h. p.no_read (sym same ∙ h)), (λ h. p.no_write (sym same ∙ h)))

pub none_told : (text : Line) → None ≡ number_of text → IsPlainKind text → ⊥
none_told text e p = let h = e ∙ plain_number text p in cc

-- ---- names are texts, and short
is_short_ascii : Line → Bool
is_short_ascii word = list_all (λ b. nat_lt b 128) word && nat_le (length word) 9

short_words : agree_below (λ k. is_short_ascii (get_or kind_words k [])) (λ _. true) 34 ≡ true
unfolding kind_words is_short_ascii
short_words = refl

all_ascii : (word : Line) → list_all (λ b. nat_lt b 128) word ≡ true → IsAscii word
all_ascii [] e = IsAscii-nil
all_ascii (b ∷ rest) e = let p = and_parts (nat_lt b 128) (list_all (λ b. nat_lt b 128) rest) e in IsAscii-cons b rest (below_128 b p.0) (all_ascii rest p.1) where
  below_128 : (b : ℕ) → nat_lt b 128 ≡ true → b < 128
  below_128 b e = grind (arith, nat_tests)

plain_short : (word : Line) → is_short_ascii word ≡ true → IsUtf8 word × (length word ≤ 80)
unfolding is_short_ascii
plain_short word e =
    let p = and_parts (list_all (λ b. nat_lt b 128) word) (nat_le (length word) 9) e in
    (IsUtf8-from_ascii word (all_ascii word p.0), short p.1) where
      short : nat_le (length word) 9 ≡ true → length word ≤ 80
      short h = grind (arith, nat_tests)

numbered_short : (front : Line) (n : ℕ) → length front ≡ 10 → IsAscii front → n ≤ 15 → IsUtf8 (front ++ decimal n) × (length (front ++ decimal n) ≤ 80)
numbered_short front n l a h =
    let d : length (decimal n) ≤ 20 = length-decimal-le 20 n (lit< tt) (omega (arith, h, few)) (omega (arith, h, wide)) in
    (IsUtf8-from_ascii (front ++ decimal n) (IsAscii-append front (decimal n) a (IsAscii-decimal n (omega (arith, h, wide)))), omega (arith, l, d, length-append front (decimal n))) where
      few : 15 < 10 ^ 20
      few = lit< tt

      wide : 15 < 2 ^ 64
      wide = lit< tt

pub kind_short : (word : Line) → IsKindName word → IsUtf8 word × (length word ≤ 80)
kind_short word k = elim (kind_form word k) [
  | inl p ↦ plain_short word (ap is_short_ascii p.is ∙ agree_below_at (λ k. is_short_ascii (get_or kind_words k [])) (λ _. true) 34 p.place short_words p.below)
  | inr g ↦ elim g [
    | inl x ↦ subst (λ w. IsUtf8 w × (length w ≤ 80)) (sym x.is) (numbered_short reads x.register refl (all_ascii reads refl) x.small)
    | inr x ↦ subst (λ w. IsUtf8 w × (length w ≤ 80)) (sym x.is) (numbered_short writes x.register refl (all_ascii writes refl) x.small)
  ]
]

pub plain_kind : (word : Line) → IsPlainKind word → IsKindName word
plain_kind word p = form_kind word (inl p)

name_byte_small : (b : ℕ) → is_name_byte b ≡ true → b < 128
name_byte_small b e = grind (arith, nat_tests)

letter_small : (b : ℕ) → is_letter b ≡ true → b < 128
letter_small b e = grind (arith, nat_tests)

names_ascii : (word : Line) → list_all is_name_byte word ≡ true → IsAscii word
names_ascii [] e = IsAscii-nil
names_ascii (b ∷ rest) e = let p = and_parts (is_name_byte b) (list_all is_name_byte rest) e in IsAscii-cons b rest (name_byte_small b p.0) (names_ascii rest p.1)

pub name_short : (word : Line) → IsName word → IsUtf8 word × (length word ≤ 80)
name_short [] n = absurd n
name_short (b ∷ rest) n = (IsUtf8-from_ascii (b ∷ rest) (IsAscii-cons b rest (letter_small b n.0) (names_ascii rest n.1)), omega (arith, n.2))
