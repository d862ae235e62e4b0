-- Where two lines may stand, no words begin with both.
use Rattle.std.proofs.Common.{◌≡◌, ◌≢◌, ℕ, ◌-◌, List, [], ◌∷◌, ◌++◌, Bool, true, false, refl, ap, sym, ◌∙◌, subst, arith, append_assoc, inl, inr, Option, Some, None}
use Rattle.std.specs.Prelude.{codes, decimal, if◌then◌else◌, nat_eq, nat_le, ◌&&◌, ◌||◌}
use Rattle.std.specs.Str.{bytes_eq}
use Rattle.std.proofs.lemmas.Bool.{true≢false, eq-eqb, and_parts, or_cases, leb-true, eqb-true, false_from_ne_true}
use Rattle.std.proofs.lemmas.Slice.Eq.{bytes_eq-Decides}
use Rattle.std.proofs.lemmas.Fmt.{decimal_injective}
use Rattle.ix_net.specs.declared.netlist.Port.{Port}
use Rattle.ix_net.specs.Name.{IsName, StartsWithLetter, is_letter}
use Rattle.ix_net.specs.Valid.{IsWidth}
use Rattle.ix_verilog.specs.declared.right.Sign.{Sign}
use Rattle.ix_verilog.specs.declared.right.Sign.TheVariants.{Plus, Minus, Times, And, Or, Xor, Equal, Less}
use Rattle.ix_verilog.specs.declared.right.RightSide.{RightSide}
use Rattle.ix_verilog.specs.declared.right.RightSide.TheVariants as side
use Rattle.ix_verilog.specs.declared.source.Assign.{Assign}
use Rattle.ix_verilog.specs.declared.source.Update.{Update}
use Rattle.ix_verilog.specs.declared.source.Source.{Source}
use Rattle.ix_verilog.specs.declared.source.Stage.{Stage}
use Rattle.ix_verilog.specs.declared.source.Stage.TheVariants.{Ports, Lines, Clocked, Ended}
use Rattle.ix_verilog.specs.Words.{Word, is_digit}
use Rattle.ix_verilog.specs.Lines.{Line, head, port, heading, input, output, wire, register, assign, always, update, done, finish, line_words, port_words, right_words, sign_word, IsRight, IsLiteral, IsNumber}
use Rattle.ix_verilog.specs.Subset.{MayStandIn, MayStand, IsOperand}

-- ---- words that differ
pub differ : (a b : Word) → bytes_eq a b ≡ false → a ≢ b
differ a b e f = true≢false (sym ((bytes_eq-Decides a b).1 f) ∙ e)

abbrev pub semicolon : Word
semicolon = codes ";"

starts_no_sign : (n : Word) (b : ℕ) → is_letter b ≡ false → StartsWithLetter n → n ≢ b ∷ []
starts_no_sign [] b e h f = h
starts_no_sign (c ∷ n) b e h f = (let k : c ≡ b = cc in true≢false (sym h ∙ ap is_letter k ∙ e))

pub name_differs : (n : Word) (b : ℕ) → is_letter b ≡ false → IsName n → n ≢ b ∷ []
name_differs n b e h = starts_no_sign n b e h.starts

number_no_sign : (n : Word) → IsNumber n → n ≢ semicolon
number_no_sign [] h f = h
number_no_sign (c ∷ n) h f = (let k : c ≡ 59 = cc in true≢false (sym h.0 ∙ ap is_digit k))

literal_no_sign : (w : Word) → IsLiteral w → w ≢ semicolon
literal_no_sign w l f = go l.width l.wide (sym l.is ∙ f)
  where
    go : (width : Word) → IsNumber width → width ++ (codes "'h" ++ l.digits) ≡ semicolon → ⊥
    go [] h e = h
    go (c ∷ width) h e = (let k : c ≡ 59 = cc in true≢false (sym h.0 ∙ ap is_digit k))

sign_no_end : (s : Sign) → sign_word s ≢ semicolon
sign_no_end Plus = differ (codes "+") semicolon refl
sign_no_end Minus = differ (codes "-") semicolon refl
sign_no_end Times = differ (codes "*") semicolon refl
sign_no_end And = differ (codes "&") semicolon refl
sign_no_end Or = differ (codes "|") semicolon refl
sign_no_end Xor = differ (codes "^") semicolon refl
sign_no_end Equal = differ (codes "==") semicolon refl
sign_no_end Less = differ (codes "<") semicolon refl

-- ---- right sides have no semicolon
abbrev pub NoEnd : List Word → Type 0
NoEnd [] = Unit {0}
NoEnd (w ∷ ws) = (w ≢ semicolon) × NoEnd ws

plain : (n : Word) → IsName n → n ≢ semicolon
plain n h = name_differs n 59 refl h

no_end : (r : RightSide) → IsRight IsName r → NoEnd (right_words r)
no_end (side.Literal w) l = (literal_no_sign w l, tt)
no_end (side.Copy a) h = (plain a h, tt)
no_end (side.Both s a b) h = (plain a h.0, (sign_no_end s, (plain b h.1, tt)))
no_end (side.Turned a) h = (differ (codes "~") semicolon refl, (plain a h, tt))
no_end (side.Signed a b) h = (differ (codes "$signed") semicolon refl, (differ (codes "(") semicolon refl, (plain a h.0, (differ (codes ")") semicolon refl, (differ (codes "<") semicolon refl, (differ (codes "$signed") semicolon refl, (differ (codes "(") semicolon refl, (plain b h.1, (differ (codes ")") semicolon refl, tt)))))))))
no_end (side.Joined a b) h = (differ (codes "{") semicolon refl, (plain a h.0, (differ (codes ",") semicolon refl, (plain b h.1, (differ (codes "}") semicolon refl, tt)))))
no_end (side.Range a h l) k = (plain a k.0, (differ (codes "[") semicolon refl, (number_no_sign h k.1, (differ (codes ":") semicolon refl, (number_no_sign l k.2, (differ (codes "]") semicolon refl, tt))))))
no_end (side.Choice c a b) h = (plain c h.0, (differ (codes "?") semicolon refl, (plain a h.1, (differ (codes ":") semicolon refl, (plain b h.2, tt)))))

-- the words before the first semicolon
pub one_end : (x y z w : List Word) → NoEnd x → NoEnd z → x ++ semicolon ∷ y ≡ z ++ semicolon ∷ w → x ≡ z
one_end [] y [] w h k e = refl
one_end [] y (a ∷ z) w h k e = absurd (k.0 (let f : semicolon ≡ a = first semicolon a y (z ++ semicolon ∷ w) e in sym f))
  where
    first : (b c : Word) (s t : List Word) → b ∷ s ≡ c ∷ t → b ≡ c
    first b c s t e = cc
one_end (a ∷ x) y [] w h k e = absurd (h.0 (first a semicolon (x ++ semicolon ∷ y) w e))
  where
    first : (b c : Word) (s t : List Word) → b ∷ s ≡ c ∷ t → b ≡ c
    first b c s t e = cc
one_end (a ∷ x) y (b ∷ z) w h k e =
    let f : a ≡ b = first a b (x ++ semicolon ∷ y) (z ++ semicolon ∷ w) e in
    let g : x ++ semicolon ∷ y ≡ z ++ semicolon ∷ w = rest a b (x ++ semicolon ∷ y) (z ++ semicolon ∷ w) e in
    ap (λ q. q ∷ x) f ∙ ap (λ q. b ∷ q) (one_end x y z w h.1 k.1 g)
  where
    first : (b c : Word) (s t : List Word) → b ∷ s ≡ c ∷ t → b ≡ c
    first b c s t e = cc

    rest : (b c : Word) (s t : List Word) → b ∷ s ≡ c ∷ t → s ≡ t
    rest b c s t e = cc

-- ---- what holds of a line wherever it may stand
abbrev pub IsWell : Line → Type 0
IsWell (input p) = IsWidth p.width
IsWell (output p) = IsWidth p.width
IsWell (wire p) = IsWidth p.width
IsWell (register p) = IsWidth p.width
IsWell (assign a) = IsRight IsName a.right
IsWell line = Unit {0}

named : (s : Source) (r : RightSide) → IsRight (IsOperand s) r → IsRight IsName r
named s (side.Literal w) l = l
named s (side.Copy a) h = h.named
named s (side.Both o a b) h = (h.0.named, h.1.named)
named s (side.Turned a) h = h.named
named s (side.Signed a b) h = (h.0.named, h.1.named)
named s (side.Joined a b) h = (h.0.named, h.1.named)
named s (side.Range a h l) k = (k.0.named, k.1, k.2)
named s (side.Choice c a b) h = (h.0.named, h.1.named, h.2.named)

input_well : (s : Source) (stage : Stage) (p : Port) → MayStandIn s stage (input p) → IsWidth p.width
input_well s Ports p h = absurd h
input_well s Lines p h = h.1
input_well s Clocked p h = absurd h
input_well s Ended p h = absurd h

output_well : (s : Source) (stage : Stage) (p : Port) → MayStandIn s stage (output p) → IsWidth p.width
output_well s Ports p h = absurd h
output_well s Lines p h = h.1
output_well s Clocked p h = absurd h
output_well s Ended p h = absurd h

wire_well : (s : Source) (stage : Stage) (p : Port) → MayStandIn s stage (wire p) → IsWidth p.width
wire_well s Ports p h = absurd h
wire_well s Lines p h = h.1.1
wire_well s Clocked p h = absurd h
wire_well s Ended p h = absurd h

register_well : (s : Source) (stage : Stage) (p : Port) → MayStandIn s stage (register p) → IsWidth p.width
register_well s Ports p h = absurd h
register_well s Lines p h = h.1.1
register_well s Clocked p h = absurd h
register_well s Ended p h = absurd h

assign_well : (s : Source) (stage : Stage) (a : Assign) → MayStandIn s stage (assign a) → IsRight IsName a.right
assign_well s Ports a h = absurd h
assign_well s Lines a h = named s a.right h.2
assign_well s Clocked a h = absurd h
assign_well s Ended a h = absurd h

well_in : (s : Source) (stage : Stage) (l : Line) → MayStandIn s stage l → IsWell l
well_in s stage (input p) h = input_well s stage p h
well_in s stage (output p) h = output_well s stage p h
well_in s stage (wire p) h = wire_well s stage p h
well_in s stage (register p) h = register_well s stage p h
well_in s stage (assign a) h = assign_well s stage a h
well_in s stage (head n) h = tt
well_in s stage (port n) h = tt
well_in s stage heading h = tt
well_in s stage always h = tt
well_in s stage (update u) h = tt
well_in s stage done h = tt
well_in s stage finish h = tt

pub well : (o : Option Source) (l : Line) → MayStand o l → IsWell l
well (Some s) l h = well_in s s.stage l h
well None (head n) h = tt
well None (port n) h = absurd h
well None heading h = absurd h
well None (input p) h = absurd h
well None (output p) h = absurd h
well None (wire p) h = absurd h
well None (register p) h = absurd h
well None (assign a) h = absurd h
well None always h = absurd h
well None (update u) h = absurd h
well None done h = absurd h
well None finish h = absurd h

-- ---- the first word tells which line it is
abbrev pub order : Line → ℕ
order (head n) = 0
order (port n) = 1
order heading = 2
order (input p) = 3
order (output p) = 4
order (wire p) = 5
order (register p) = 6
order (assign a) = 7
order always = 8
order (update u) = 9
order done = 10
order finish = 11

abbrev pub order_of : List Word → ℕ
order_of [] = 12
order_of (w ∷ ws) = if bytes_eq w (codes "module") then 0 else if bytes_eq w (codes ",") then 1 else if bytes_eq w (codes ")") then 2 else if bytes_eq w (codes "input") then 3 else if bytes_eq w (codes "output") then 4 else if bytes_eq w (codes "wire") then 5 else if bytes_eq w (codes "reg") then 6 else if bytes_eq w (codes "assign") then 7 else if bytes_eq w (codes "always") then 8 else if bytes_eq w (codes "if") then 9 else if bytes_eq w (codes "end") then 10 else 11

pub order_is : (l : Line) (r : List Word) → order_of (line_words l ++ r) ≡ order l
order_is (head n) r = refl
order_is (port n) r = refl
order_is heading r = refl
order_is (input p) r = refl
order_is (output p) r = refl
order_is (wire p) r = refl
order_is (register p) r = refl
order_is (assign a) r = refl
order_is always r = refl
order_is (update u) r = refl
order_is done r = refl
order_is finish r = refl

-- ---- one line
pub apart : (m n : ℕ) → nat_eq m n ≡ false → m ≡ n → ⊥
apart m n e f = true≢false (sym (eq-eqb m n f) ∙ e)

port_same : (p q : Port) → p.name ≡ q.name → p.width ≡ q.width → p ≡ q
port_same p q n w =
    (let a : p ≡ record { name = q.name; width = p.width } = ap (λ (x : Word). let r : Port = record { name = x; width = p.width } in r) n in
    a ∙ ap (λ (x : ℕ). let r : Port = record { name = q.name; width = x } in r) w)

one_port : (word : Word) (p q : Port) (r t : List Word) → IsWidth p.width → IsWidth q.width → port_words word p ++ r ≡ port_words word q ++ t → p ≡ q
one_port word p q r t h k e =
    let n : p.name ≡ q.name = cc in
    let d : decimal (p.width - 1) ≡ decimal (q.width - 1) = cc in
    let w : p.width - 1 ≡ q.width - 1 = decimal_injective (p.width - 1) (q.width - 1) (omega (arith, h.most)) (omega (arith, k.most)) d in
    port_same p q n (omega (arith, w, h.some, k.some))

-- ---- words are one right side
abbrev begins_number : Word → Bool
begins_number [] = false
begins_number (b ∷ bs) = is_digit b

-- which right side the words are, but for its sign
abbrev kind : List Word → ℕ
kind [] = 15
kind (w ∷ []) = if begins_number w then 0 else 1
kind (a ∷ b ∷ []) = 8
kind (a ∷ o ∷ b ∷ []) = 2
kind (a ∷ b ∷ c ∷ d ∷ []) = 15
kind (a ∷ b ∷ c ∷ d ∷ e ∷ []) = if bytes_eq a (codes "{") then 12 else 14
kind (a ∷ b ∷ c ∷ d ∷ e ∷ f ∷ []) = 13
kind (a ∷ b ∷ c ∷ d ∷ e ∷ f ∷ g ∷ ws) = 11

abbrev kind_of : RightSide → ℕ
kind_of (side.Literal w) = 0
kind_of (side.Copy a) = 1
kind_of (side.Both s a b) = 2
kind_of (side.Turned a) = 8
kind_of (side.Signed a b) = 11
kind_of (side.Joined a b) = 12
kind_of (side.Range a h l) = 13
kind_of (side.Choice c a b) = 14

abbrev sign_shape : Word → ℕ
sign_shape o =
    if bytes_eq o (codes "+") then 2 else if bytes_eq o (codes "-") then 3 else if bytes_eq o (codes "*") then 4 else if bytes_eq o (codes "&") then 5
    else if bytes_eq o (codes "|") then 6 else if bytes_eq o (codes "^") then 7 else if bytes_eq o (codes "==") then 9 else 10

abbrev pub sign_number : Sign → ℕ
sign_number Plus = 2
sign_number Minus = 3
sign_number Times = 4
sign_number And = 5
sign_number Or = 6
sign_number Xor = 7
sign_number Equal = 9
sign_number Less = 10

-- which right side it is
abbrev pub shape_of : RightSide → ℕ
shape_of (side.Literal w) = 0
shape_of (side.Copy a) = 1
shape_of (side.Both s a b) = sign_number s
shape_of (side.Turned a) = 8
shape_of (side.Signed a b) = 11
shape_of (side.Joined a b) = 12
shape_of (side.Range a h l) = 13
shape_of (side.Choice c a b) = 14

sign_is : (s : Sign) → sign_shape (sign_word s) ≡ sign_number s
sign_is Plus = refl
sign_is Minus = refl
sign_is Times = refl
sign_is And = refl
sign_is Or = refl
sign_is Xor = refl
sign_is Equal = refl
sign_is Less = refl

sign_same : (s t : Sign) → sign_number s ≡ sign_number t → s ≡ t
sign_same Plus Plus e = refl
sign_same Minus Minus e = refl
sign_same Times Times e = refl
sign_same And And e = refl
sign_same Or Or e = refl
sign_same Xor Xor e = refl
sign_same Equal Equal e = refl
sign_same Less Less e = refl
sign_same s t e = absurd (apart (sign_number s) (sign_number t) refl e)

literal_begins : (w : Word) (l : IsLiteral w) → begins_number w ≡ true
literal_begins w l = go l.width l.wide (sym l.is)
  where
    go : (width : Word) → IsNumber width → width ++ (codes "'h" ++ l.digits) ≡ w → begins_number w ≡ true
    go [] h e = absurd h
    go (c ∷ width) h e = subst (λ (z : Word). begins_number z ≡ true) e h.0

letter_no_digit : (b : ℕ) → is_letter b ≡ true → is_digit b ≡ false
letter_no_digit b e = false_from_ne_true (is_digit b) (λ f. (let l = leb-true 48 b (and_parts (nat_le 48 b) (nat_le b 57) f).0 in let g = leb-true b 57 (and_parts (nat_le 48 b) (nat_le b 57) f).1 in
    elim (or_cases ((nat_le 65 b && nat_le b 90) || (nat_le 97 b && nat_le b 122)) (nat_eq b 95) e) [
      | inl h ↦ elim (or_cases (nat_le 65 b && nat_le b 90) (nat_le 97 b && nat_le b 122) h) [
        | inl i ↦ (let k = leb-true 65 b (and_parts (nat_le 65 b) (nat_le b 90) i).0 in omega (arith, g, k))
        | inr i ↦ (let k = leb-true 97 b (and_parts (nat_le 97 b) (nat_le b 122) i).0 in omega (arith, g, k))
      ]
      | inr h ↦ (let k = eqb-true b 95 h in omega (arith, g, k))
    ]))

name_begins : (n : Word) → IsName n → begins_number n ≡ false
name_begins [] h = absurd h.starts
name_begins (b ∷ n) h = letter_no_digit b h.starts

no_brace : (n : Word) → IsName n → bytes_eq n (codes "{") ≡ false
no_brace n h = false_from_ne_true (bytes_eq n (codes "{")) (λ t. name_differs n 123 refl h ((bytes_eq-Decides n (codes "{")).0 t))

kind_is : (r : RightSide) → IsRight IsName r → kind (right_words r) ≡ kind_of r
kind_is (side.Literal w) h = (let e = literal_begins w h in rw e refl)
kind_is (side.Copy a) h = (let e = name_begins a h in rw e refl)
kind_is (side.Both s a b) h = refl
kind_is (side.Turned a) h = refl
kind_is (side.Signed a b) h = refl
kind_is (side.Joined a b) h = refl
kind_is (side.Range a h l) k = refl
kind_is (side.Choice c a b) h = (let e = no_brace c h.0 in rw e refl)

one_of : (F : Word → RightSide) (a b : Word) → a ∷ [] ≡ b ∷ [] → F a ≡ F b
one_of F a b e = (let f : a ≡ b = cc in ap F f)

turned_same : (a b : Word) → codes "~" ∷ a ∷ [] ≡ codes "~" ∷ b ∷ [] → side.Turned a ≡ side.Turned b
turned_same a b e = (let f : a ≡ b = cc in ap side.Turned f)

middle_same : (a b c x y z : Word) → a ∷ x ∷ b ∷ [] ≡ c ∷ y ∷ z ∷ [] → (a ≡ c) × (x ≡ y) × (b ≡ z)
middle_same a b c x y z e = (cc, cc, cc)

both_same : (s t : Sign) (a b c d : Word) → a ∷ sign_word s ∷ b ∷ [] ≡ c ∷ sign_word t ∷ d ∷ [] → side.Both s a b ≡ side.Both t c d
both_same s t a b c d e =
    let m = middle_same a b c (sign_word s) (sign_word t) d e in
    let g : s ≡ t = sign_same s t (sym (sign_is s) ∙ ap sign_shape m.1 ∙ sign_is t) in
    ap (λ z. side.Both s z b) m.0 ∙ ap (λ z. side.Both s c z) m.2 ∙ ap (λ z. side.Both z c d) g

signed_same : (a b c d : Word) → right_words (side.Signed a b) ≡ right_words (side.Signed c d) → side.Signed a b ≡ side.Signed c d
signed_same a b c d e = (let f : a ≡ c = cc in let g : b ≡ d = cc in ap (λ z. side.Signed z b) f ∙ ap (λ z. side.Signed c z) g)

joined_same : (a b c d : Word) → right_words (side.Joined a b) ≡ right_words (side.Joined c d) → side.Joined a b ≡ side.Joined c d
joined_same a b c d e = (let f : a ≡ c = cc in let g : b ≡ d = cc in ap (λ z. side.Joined z b) f ∙ ap (λ z. side.Joined c z) g)

range_same : (a b h l i m : Word) → right_words (side.Range a h l) ≡ right_words (side.Range b i m) → side.Range a h l ≡ side.Range b i m
range_same a b h l i m e =
    let f : a ≡ b = cc in
    let g : h ≡ i = cc in
    let k : l ≡ m = cc in
    ap (λ z. side.Range z h l) f ∙ ap (λ z. side.Range b z l) g ∙ ap (λ z. side.Range b i z) k

choice_same : (a b c d e f : Word) → right_words (side.Choice a b c) ≡ right_words (side.Choice d e f) → side.Choice a b c ≡ side.Choice d e f
choice_same a b c d e f h =
    let x : a ≡ d = cc in
    let y : b ≡ e = cc in
    let z : c ≡ f = cc in
    ap (λ q. side.Choice q b c) x ∙ ap (λ q. side.Choice d q c) y ∙ ap (λ q. side.Choice d e q) z

same_side : (r q : RightSide) → kind_of r ≡ kind_of q → right_words r ≡ right_words q → r ≡ q
same_side (side.Literal a) (side.Literal b) o e = one_of side.Literal a b e
same_side (side.Copy a) (side.Copy b) o e = one_of side.Copy a b e
same_side (side.Both s a b) (side.Both t c d) o e = both_same s t a b c d e
same_side (side.Turned a) (side.Turned b) o e = turned_same a b e
same_side (side.Signed a b) (side.Signed c d) o e = signed_same a b c d e
same_side (side.Joined a b) (side.Joined c d) o e = joined_same a b c d e
same_side (side.Range a h l) (side.Range b i m) o e = range_same a b h l i m e
same_side (side.Choice a b c) (side.Choice d e f) o h = choice_same a b c d e f h
same_side r q o e = absurd (apart (kind_of r) (kind_of q) refl o)

one_side : (r q : RightSide) → IsRight IsName r → IsRight IsName q → right_words r ≡ right_words q → r ≡ q
one_side r q h k e = same_side r q (sym (kind_is r h) ∙ ap kind e ∙ kind_is q k) e

one_assign : (a b : Assign) (r t : List Word) → IsRight IsName a.right → IsRight IsName b.right → line_words (assign a) ++ r ≡ line_words (assign b) ++ t → a ≡ b
one_assign a b r t h k e =
    let n : a.target ≡ b.target = cc in
    let f : (right_words a.right ++ semicolon ∷ []) ++ r ≡ (right_words b.right ++ semicolon ∷ []) ++ t = cc in
    let g : right_words a.right ++ semicolon ∷ r ≡ right_words b.right ++ semicolon ∷ t = sym (append_assoc (right_words a.right) (semicolon ∷ []) r) ∙ f ∙ append_assoc (right_words b.right) (semicolon ∷ []) t in
    let w : right_words a.right ≡ right_words b.right = one_end (right_words a.right) r (right_words b.right) t (no_end a.right h) (no_end b.right k) g in
    let s : a.right ≡ b.right = one_side a.right b.right h k w in
    (let c : a ≡ record { target = b.target; right = a.right } = ap (λ (x : Word). let r : Assign = record { target = x; right = a.right } in r) n in
    c ∙ ap (λ (x : RightSide). let r : Assign = record { target = b.target; right = x } in r) s)

one_update : (u v : Update) (r t : List Word) → line_words (update u) ++ r ≡ line_words (update v) ++ t → u ≡ v
one_update u v r t e =
    let a : u.enable ≡ v.enable = cc in
    let b : u.target ≡ v.target = cc in
    let c : u.source ≡ v.source = cc in
    ap (λ (x : Word). let r : Update = record { enable = x; target = u.target; source = u.source } in r) a
    ∙ ap (λ (x : Word). let r : Update = record { enable = v.enable; target = x; source = u.source } in r) b
    ∙ ap (λ (x : Word). let r : Update = record { enable = v.enable; target = v.target; source = x } in r) c

one_head : (n m : Word) (r t : List Word) → line_words (head n) ++ r ≡ line_words (head m) ++ t → n ≡ m
one_head n m r t e = cc

one_name : (n m : Word) (r t : List Word) → line_words (port n) ++ r ≡ line_words (port m) ++ t → n ≡ m
one_name n m r t e = cc

same_line : (l k : Line) → IsWell l → IsWell k → order l ≡ order k → (r t : List Word) → line_words l ++ r ≡ line_words k ++ t → l ≡ k
same_line (head n) (head m) h i o r t e = ap head (one_head n m r t e)
same_line (port n) (port m) h i o r t e = ap port (one_name n m r t e)
same_line heading heading h i o r t e = refl
same_line (input p) (input q) h i o r t e = ap input (one_port (codes "input") p q r t h i e)
same_line (output p) (output q) h i o r t e = ap output (one_port (codes "output") p q r t h i e)
same_line (wire p) (wire q) h i o r t e = ap wire (one_port (codes "wire") p q r t h i e)
same_line (register p) (register q) h i o r t e = ap register (one_port (codes "reg") p q r t h i e)
same_line (assign a) (assign b) h i o r t e = ap assign (one_assign a b r t h i e)
same_line always always h i o r t e = refl
same_line (update u) (update v) h i o r t e = ap update (one_update u v r t e)
same_line done done h i o r t e = refl
same_line finish finish h i o r t e = refl
same_line l k h i o r t e = absurd (apart (order l) (order k) refl o)

-- where two lines may stand, the words begin with one of them alone
pub one_line : (s : Option Source) (l k : Line) (r t : List Word) → MayStand s l → MayStand s k → line_words l ++ r ≡ line_words k ++ t → l ≡ k
one_line s l k r t h i e = same_line l k (well s l h) (well s k i) (sym (order_is l r) ∙ ap order_of e ∙ order_is k t) r t e
