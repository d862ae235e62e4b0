-- Several wires at once.
use Rattle.std.proofs.Common.{◌≡◌, ⊎_elim, ℕ, zero, suc, ◌+◌, ◌-◌, ◌*◌, ◌/◌, ◌%◌, ◌^◌, ◌<◌, ◌≤◌, List, [], ◌∷◌, ◌++◌, Some, Bool, true, false, length, map, get_or, eqb, cond, Ordering, Less, Equal, Greater, arith, refl, ap, sym, ◌∙◌, subst}
use Rattle.std.specs.Prelude.{slice_get}
use Rattle.std.specs.BTreeMap.{BTreeMap, get, is_at}
use Rattle.std.specs.Ordering.{nat_cmp, is_eq}
use Rattle.std.proofs.lemmas.Cmp.{ranked}
use Rattle.std.proofs.lemmas.Bool.{cases_lt}
use Rattle.std.proofs.lemmas.Option.{same_Some, slice_get_within}
use Rattle.std.proofs.lemmas.List.{length_push}
use Rattle.ix_bits.specs.declared.number.Bits.{Bits}
use Rattle.ix_net.specs.declared.netlist.Net.{Net}
use Rattle.ix_net.proofs.NetLemmas.{slice_get_some}
use Rattle.ix_cells.specs.declared.signal.Signal.{Signal}
use Rattle.ix_cells.specs.declared.signal.Wire.{Wire}
use Rattle.ix_net.specs.Declarations.{Explains}
use Rattle.ix_cells.specs.Growth.{IsWire, AreWires, AreNodes, Adds, seen}
use Rattle.ix_cells.specs.Tables.{AddsAll, AddsNext, ArePlaces, halved_by, Halves, Levels}
use Rattle.std.proofs.lemmas.Nat.{mod_below, mod-pow-add, pow-add}
use Rattle.std.proofs.Math.Nat.{mod-eq_of_lt}
use Rattle.ix_cells.proofs.Growing.{extends_same, extends_on, wire_grows, wires_grow, explains_before, of_width, same_adds}

pub slice_get-left : {X : Type 0} (xs ys : List X) (k : ℕ) (x : X) → slice_get xs k ≡ Some x → slice_get (xs ++ ys) k ≡ Some x
slice_get-left [] ys k x h = absurd (cc)
slice_get-left (y ∷ xs) ys zero x h = h
slice_get-left (y ∷ xs) ys (suc k) x h = slice_get-left xs ys k x h

pub slice_get-last : {X : Type 0} (xs : List X) (x : X) → slice_get (xs ++ x ∷ []) (length xs) ≡ Some x
slice_get-last [] x = refl
slice_get-last (y ∷ xs) x = slice_get-last xs x

pub all_none : (needs : List Wire) (net : Net) (w : ℕ) (f : (Signal → ℕ) → ℕ → ℕ) → AddsAll needs net net [] w f
all_none needs net w f = record {
  extends = extends_same net;
  same_banks = refl;
  same_outputs = refl;
  wide = λ j r h. absurd (cc);
  nodes = λ n h. n;
  wires = λ n h j r g. absurd (cc);
  gives = λ j r h. absurd (cc);
}

-- one more wire, which reads what was there and the wires so far
pub all_push :
    {needs nb : List Wire} {n0 n1 n2 : Net} {rs : List Wire} {r : Wire} {w : ℕ} {f : (Signal → ℕ) → ℕ → ℕ} {g : (Signal → ℕ) → ℕ}
    → AddsAll needs n0 n1 rs w f → Adds nb n1 n2 r w g → (AreNodes n0 0 n0.cells → AreWires n0 needs → AreWires n1 nb)
    → ((value wide : List ℕ → ℕ) → AreNodes n0 0 n0.cells → AreWires n0 needs → Explains n1 value wide → g (seen value) ≡ f (seen value) (length rs))
    → AddsAll needs n0 n2 (rs ++ r ∷ []) w f
all_push {needs} {nb} {n0} {n1} {n2} {rs} {r} {w} {f} {g} a b ready same = record {
  extends = extends_on a.extends b.extends;
  same_banks = b.same_banks ∙ a.same_banks;
  same_outputs = b.same_outputs ∙ a.same_outputs;
  wide = λ j x h. at (λ i y. y.width ≡ w) a.wide b.wide j x h;
  nodes = λ n h. (b.sound (a.nodes n h) (ready n h)).0;
  wires = λ n h j x g'. at (λ i y. IsWire n2 y) (λ i y e. wire_grows b.extends y (a.wires n h i y e)) (b.sound (a.nodes n h) (ready n h)).1 j x g';
  gives = λ j x h value wide n v e.
      at (λ i y. seen value y.signal ≡ f (seen value) i) (λ i y k. a.gives i y k value wide n v (explains_before b.extends value wide e))
      (b.gives value wide (a.nodes n v) (ready n v) e ∙ same value wide n v (explains_before b.extends value wide e)) j x h;
}
  where
    at : (P : ℕ → Wire → Type 0) → ((i : ℕ) (y : Wire) → slice_get rs i ≡ Some y → P i y) → P (length rs) r → (j : ℕ) (x : Wire) → slice_get (rs ++ r ∷ []) j ≡ Some x → P j x
    at P old new j x h =
        let size = length_push rs r in
        let l = slice_get_within (rs ++ r ∷ []) j x h in
        ⊎_elim
        (λ (before : j < length rs). (let y = slice_get_some rs j before in
        let s : y.0 ≡ x = same_Some y.0 x (sym (slice_get-left rs (r ∷ []) j y.0 y.1) ∙ h) in
        let Q : Wire → Type 0 = λ z. P j z in subst Q s (old j y.0 y.1)))
        (λ (here : length rs ≤ j). (let e : length rs ≡ j = omega arith in
        let s : r ≡ x = same_Some r x (sym (slice_get-last rs r) ∙ ap (slice_get (rs ++ r ∷ [])) e ∙ h) in
        let Q : Wire → Type 0 = λ z. P j z in
        let R : ℕ → Type 0 = λ i. P i r in subst Q s (subst R e new)))
        (cases_lt j (length rs))

pub entry_raw : (es : List Bits) (k : ℕ) (e : Bits) → slice_get es k ≡ Some e → e.raw ≡ get_or (map (λ (x : Bits). x.raw) es) k 0
entry_raw [] k e h = absurd (cc)
entry_raw (x ∷ es) zero e h = ap (λ (b : Bits). b.raw) (sym (same_Some x e h))
entry_raw (x ∷ es) (suc k) e h = entry_raw es k e h

-- one more place, of an entry's pattern
pub places_more :
    (es : List Bits) (places more : BTreeMap ℕ ℕ) (p : ℕ) (e : Bits) → slice_get es p ≡ Some e
    → ((q : ℕ) → get nat_cmp more q ≡ cond (is_at (nat_cmp e.raw) q) (Some p) (get nat_cmp places q)) → ArePlaces es places → ArePlaces es more
places_more es places more p e at updates rest q k h = held (nat_cmp e.raw q) refl
  where
    now : (o : Ordering) → o ≡ nat_cmp e.raw q → cond (is_eq o) (Some p) (get nat_cmp places q) ≡ Some k
    now o i = ap (λ (x : Ordering). cond (is_eq x) (Some p) (get nat_cmp places q)) i ∙ sym (updates q) ∙ h

    held : (o : Ordering) → o ≡ nat_cmp e.raw q → (k < length es) × (get_or (map (λ (x : Bits). x.raw) es) k 0 ≡ q)
    held Equal i =
        let same : p ≡ k = same_Some p k (now Equal i) in
        let P : ℕ → Type 0 = λ j. (j < length es) × (get_or (map (λ (x : Bits). x.raw) es) j 0 ≡ q) in
        subst P same (slice_get_within es p e at, sym (entry_raw es p e at) ∙ ranked e.raw q Equal i)
    held Less i = rest q k (now Less i)
    held Greater i = rest q k (now Greater i)

-- the next entry has a constant of its own
pub next_constant :
    (old new : Net) (ws : List Wire) (es : List Bits) (e : Bits) (r : Wire) → slice_get es (length ws) ≡ Some e → Adds [] old new r e.width (λ see. e.raw) → AddsNext old new ws es e.width r
next_constant old new ws es e r at x start a = all_push a x (λ nodes wires. tt) (λ value v nodes wires h. entry_raw es (length ws) e at)

-- the next entry shares the wire of an earlier one
pub next_shared :
    (net : Net) (ws : List Wire) (es : List Bits) (w j : ℕ) (e : Bits) (r : Wire) → slice_get ws j ≡ Some r → slice_get es (length ws) ≡ Some e
    → get_or (map (λ (x : Bits). x.raw) es) j 0 ≡ e.raw → AddsNext net net ws es w r
next_shared net ws es w j e r at next same start a =
    all_push a (of_width r.width w (a.wide j r at) (same_adds net r (λ see. see r.signal) (λ see fit. refl)))
    (λ nodes wires. (a.wires nodes wires j r at, tt))
    (λ value v nodes wires h. a.gives j r at value v nodes wires h ∙ same ∙ entry_raw es (length ws) e next)

-- of two wires that are one
pub once_adds :
    (net : Net) (bit a b : Wire) → b.width ≡ a.width → a.signal ≡ b.signal
    → Adds (bit ∷ a ∷ b ∷ []) net net b a.width (λ see. cond (eqb (see bit.signal) 0) (see b.signal) (see a.signal))
once_adds net bit a b wide same = record {
  extends = extends_same net;
  same_banks = refl;
  same_outputs = refl;
  wide = wide;
  sound = λ nodes wires. (nodes, wires.1.1.0);
  gives = λ value v nodes wires x. either (eqb (seen value bit.signal) 0) (seen value b.signal) ∙ ap (λ s. cond (eqb (seen value bit.signal) 0) (seen value b.signal) (seen value s)) (sym same);
}
  where
    either : (t : Bool) (n : ℕ) → n ≡ cond t n n
    either true n = refl
    either false n = refl

-- the wires stay as more is added
pub all_grows : {needs nb : List Wire} {n0 n1 n2 : Net} {rs : List Wire} {x : Wire} {w v : ℕ} {f : (Signal → ℕ) → ℕ → ℕ} {g : (Signal → ℕ) → ℕ}
    → AddsAll needs n0 n1 rs w f → Adds nb n1 n2 x v g → (AreNodes n0 0 n0.cells → AreWires n0 needs → AreWires n1 nb) → AddsAll needs n0 n2 rs w f
all_grows a b ready = record {
  extends = extends_on a.extends b.extends;
  same_banks = b.same_banks ∙ a.same_banks;
  same_outputs = b.same_outputs ∙ a.same_outputs;
  wide = a.wide;
  nodes = λ n h. (b.sound (a.nodes n h) (ready n h)).0;
  wires = λ n h j r k. wire_grows b.extends r (a.wires n h j r k);
  gives = λ j r k value wide n h e. a.gives j r k value wide n h (explains_before b.extends value wide e);
}

-- a wire that was added after several
pub all_then : {needs nb : List Wire} {n0 n1 n2 : Net} {rs : List Wire} {x : Wire} {w v : ℕ} {f : (Signal → ℕ) → ℕ → ℕ} {g h : (Signal → ℕ) → ℕ}
    → AddsAll needs n0 n1 rs w f → Adds nb n1 n2 x v g → (AreNodes n0 0 n0.cells → AreWires n0 needs → AreWires n1 nb)
    → ((value wide : List ℕ → ℕ) → AreNodes n0 0 n0.cells → AreWires n0 needs → Explains n1 value wide → g (seen value) ≡ h (seen value)) → Adds needs n0 n2 x v h
all_then a b ready same = record {
  extends = extends_on a.extends b.extends;
  same_banks = b.same_banks ∙ a.same_banks;
  same_outputs = b.same_outputs ∙ a.same_outputs;
  wide = b.wide;
  sound = λ n k. b.sound (a.nodes n k) (ready n k);
  gives = λ value wide n k e. b.gives value wide (a.nodes n k) (ready n k) e ∙ same value wide n k (explains_before b.extends value wide e);
}

pub halves_none : (net : Net) (ws : List Wire) (bit : Wire) → Halves net net ws bit [] 0
halves_none net ws bit = record { extends = extends_same net; count = refl; all = λ needs start w f g a b. none_of a }
  where
    none_of : {needs : List Wire} {n0 n1 : Net} {rs : List Wire} {w : ℕ} {f h : (Signal → ℕ) → ℕ → ℕ} → AddsAll needs n0 n1 rs w f → AddsAll needs n0 n1 [] w h
    none_of a = record {
      extends = a.extends;
      same_banks = a.same_banks;
      same_outputs = a.same_outputs;
      wide = λ j r h. absurd (cc);
      nodes = a.nodes;
      wires = λ n h j r g. absurd (cc);
      gives = λ j r h. absurd (cc);
    }

pub halves_next :
    (old mid new : Net) (ws : List Wire) (bit a b r : Wire) (rs : List Wire) (n : ℕ) → Halves old mid ws bit rs n → slice_get ws (2 * n) ≡ Some a → slice_get ws (2 * n + 1) ≡ Some b
    → Adds (bit ∷ b ∷ a ∷ []) mid new r b.width (λ see. cond (eqb (see bit.signal) 0) (see a.signal) (see b.signal)) → Halves old new ws bit (rs ++ r ∷ []) (n + 1)
halves_next old mid new ws bit a b r rs n h ea eb x = record {
  extends = extends_on h.extends x.extends;
  count = (let e = length_push rs r in omega (arith, h.count));
  all = λ needs start w f g all shows.
      all_push (h.all needs start w f g all shows) (of_width b.width w (all.wide (2 * n + 1) b eb) x)
      (λ nodes wires.
      (wire_grows h.extends bit (shows.sound nodes wires).1, (wire_grows h.extends b (all.wires nodes wires (2 * n + 1) b eb), (wire_grows h.extends a (all.wires nodes wires (2 * n) a ea), tt))))
      (λ value wide nodes wires e.
      (let before = explains_before h.extends value wide e in
      let eg = shows.gives value wide nodes wires before in
      let ga = all.gives (2 * n) a ea value wide nodes wires before in
      let gb = all.gives (2 * n + 1) b eb value wide nodes wires before in
      let at : n ≡ length rs = sym h.count in
      ap (λ z. cond (eqb z 0) (seen value a.signal) (seen value b.signal)) eg
      ∙ ap (λ z. cond (eqb (g (seen value)) 0) z (seen value b.signal)) ga
      ∙ ap (λ z. cond (eqb (g (seen value)) 0) (f (seen value) (2 * n)) z) gb
      ∙ ap (λ i. halved_by g f (seen value) i) at));
}

pub levels_from :
    (old mid new : Net) (ws : List Wire) (index bit : Wire) (p : ℕ) (rs : List Wire) → Adds (index ∷ []) old mid bit (p - p + 1) (λ see. see index.signal / 2 ^ p % 2 ^ (p - p + 1))
    → Halves mid new ws bit rs (length ws / 2) → Levels old new ws index p rs
levels_from old mid new ws index bit p rs b h = record {
  count = h.count;
  all = λ start w f a.
      (let lift : AreNodes start 0 start.cells → AreWires start (index ∷ []) → AreWires old (index ∷ []) = λ nodes wires. wires_grow a.extends (index ∷ []) wires in
      h.all (index ∷ []) start w f (λ see. see index.signal / 2 ^ p % 2 ^ (p - p + 1)) (all_grows a b lift)
      (of_width (p - p + 1) 1 (omega arith) (all_then a b lift (λ value wide nodes wires e. refl))));
}

-- ---- a table by the bits of its index
all_value : {needs : List Wire} {n0 n1 : Net} {rs : List Wire} {w : ℕ} {f g : (Signal → ℕ) → ℕ → ℕ} → ((see : Signal → ℕ) (j : ℕ) → f see j ≡ g see j) → AddsAll needs n0 n1 rs w f → AddsAll needs n0 n1 rs w g
all_value same a = record {
  extends = a.extends;
  same_banks = a.same_banks;
  same_outputs = a.same_outputs;
  wide = a.wide;
  nodes = a.nodes;
  wires = a.wires;
  gives = λ j r h value wide nodes wires x. a.gives j r h value wide nodes wires x ∙ same (seen value) j;
}

all_needs : {n0 n1 : Net} {rs : List Wire} {w : ℕ} {f : (Signal → ℕ) → ℕ → ℕ} (needs : List Wire) → AddsAll [] n0 n1 rs w f → AddsAll needs n0 n1 rs w f
all_needs needs a = record {
  extends = a.extends;
  same_banks = a.same_banks;
  same_outputs = a.same_outputs;
  wide = a.wide;
  nodes = λ n h. a.nodes n tt;
  wires = λ n h. a.wires n tt;
  gives = λ j r h value wide nodes wires x. a.gives j r h value wide nodes tt x;
}

-- the entry that wire j has after p levels
abbrev pub entry_at : List ℕ → Wire → ℕ → (Signal → ℕ) → ℕ → ℕ
entry_at es index p see j = get_or es (j * 2 ^ p + see index.signal % 2 ^ p) 0

pub lookup_first : (es : List ℕ) (index : Wire) (n0 n1 : Net) (rs : List Wire) (w : ℕ) → AddsAll [] n0 n1 rs w (λ see j. get_or es j 0) → AddsAll (index ∷ []) n0 n1 rs w (entry_at es index 0)
lookup_first es index n0 n1 rs w a =
    all_value (λ see j. (let z : see index.signal % 2 ^ 0 ≡ 0 = omega (arith, mod_below (see index.signal) 1 (omega arith)) in
    let e : j ≡ j * 2 ^ 0 + see index.signal % 2 ^ 0 = omega arith in ap (λ i. get_or es i 0) e)) (all_needs (index ∷ []) a)

halved_is : (es : List ℕ) (y p j : ℕ) → cond (eqb (y / 2 ^ p % 2 ^ (p - p + 1)) 0) (get_or es (2 * j * 2 ^ p + y % 2 ^ p) 0) (get_or es ((2 * j + 1) * 2 ^ p + y % 2 ^ p) 0) ≡ get_or es (j * 2 ^ (p + 1) + y % 2 ^ (p + 1)) 0
halved_is es y p j =
    let e : p - p + 1 ≡ 1 = omega arith in
    let b : y / 2 ^ p % 2 < 2 = mod_below (y / 2 ^ p) 2 (omega arith) in
    let o : p + 1 ≡ 1 + p = omega arith in
    let s : y % 2 ^ (p + 1) ≡ y / 2 ^ p % 2 * 2 ^ p + y % 2 ^ p = ap (λ n. y % 2 ^ n) o ∙ mod-pow-add y 1 p in
    let q : 2 ^ (p + 1) ≡ 2 * 2 ^ p = ap (λ n. 2 ^ n) o ∙ pow-add 2 1 p in
    let m : j * 2 ^ (p + 1) ≡ 2 * j * 2 ^ p = ap (λ n. j * n) q ∙ omega arith in
    ⊎_elim
    (λ (z : y / 2 ^ p % 2 < 1). (let d : y / 2 ^ p % 2 ≡ 0 = omega arith in
    let k : y / 2 ^ p % 2 * 2 ^ p ≡ 0 = ap (λ n. n * 2 ^ p) d ∙ omega arith in
    let i : 2 * j * 2 ^ p + y % 2 ^ p ≡ j * 2 ^ (p + 1) + y % 2 ^ (p + 1) = omega arith in rw (e, d) (ap (λ n. get_or es n 0) i)))
    (λ (z : 1 ≤ y / 2 ^ p % 2). (let d : y / 2 ^ p % 2 ≡ 1 = omega arith in
    let k : y / 2 ^ p % 2 * 2 ^ p ≡ 2 ^ p = ap (λ n. n * 2 ^ p) d ∙ omega arith in
    let i : (2 * j + 1) * 2 ^ p + y % 2 ^ p ≡ j * 2 ^ (p + 1) + y % 2 ^ (p + 1) = omega arith in rw (e, d) (ap (λ n. get_or es n 0) i)))
    (cases_lt (y / 2 ^ p % 2) 1)

pub lookup_next :
    (es : List ℕ) (index : Wire) (start old new : Net) (ws rs : List Wire) (w p : ℕ) → AddsAll (index ∷ []) start old ws w (entry_at es index p) → Levels old new ws index p rs
    → AddsAll (index ∷ []) start new rs w (entry_at es index (p + 1))
lookup_next es index start old new ws rs w p a l = all_value (λ see j. halved_is es (see index.signal) p j) (l.all start w (entry_at es index p) a)

pub count_next : (n k w p : ℕ) → p < w → 2 ^ (w - p) ≤ n → k ≡ n / 2 → 2 ^ (w - (p + 1)) ≤ k
count_next n k w p l h e =
    let o : w - p ≡ 1 + (w - (p + 1)) = omega arith in
    let q : 2 ^ (w - p) ≡ 2 * 2 ^ (w - (p + 1)) = ap (λ z. 2 ^ z) o ∙ pow-add 2 1 (w - (p + 1)) in
    omega arith

pub lookup_done : (es : List ℕ) (index : Wire) (start new : Net) (r : Wire) (rs : List Wire) (w : ℕ) → slice_get rs 0 ≡ Some r → AddsAll (index ∷ []) start new rs w (entry_at es index index.width) → Adds (index ∷ []) start new r w (λ see. get_or es (see index.signal) 0)
lookup_done es index start new r rs w h a = record {
  extends = a.extends;
  same_banks = a.same_banks;
  same_outputs = a.same_outputs;
  wide = a.wide 0 r h;
  sound = λ n k. (a.nodes n k, a.wires n k 0 r h);
  gives = λ value wide nodes wires x.
      (let y = seen value index.signal in
      let fit : y < 2 ^ index.width = (explains_before a.extends value wide x).fit _ index.width wires.0.has in
      let m : y % 2 ^ index.width ≡ y = mod-eq_of_lt fit in
      let i : 0 * 2 ^ index.width + y % 2 ^ index.width ≡ y = omega arith in
      a.gives 0 r h value wide nodes wires x ∙ ap (λ n. get_or es n 0) i);
}
