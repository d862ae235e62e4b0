-- The tokens of a row's stages: where they stand, the oldest of which something is true, and the oldest that stays.
use Rattle.std.proofs.Common.{◌≡◌, ℕ, zero, suc, ◌+◌, ◌<◌, ◌≤◌, List, [], ◌∷◌, drop, Option, Some, None, Bool, true, false, refl, sym, ap, ◌∙◌, subst, arith, add-zero, ◌⊎◌, inl, inr}
use Rattle.std.specs.Prelude.{◌&&◌, if◌then◌else◌, is_some, slice_get}
use Rattle.rv_trace.specs.declared.row.Cell.{Cell}
use Rattle.rv_trace.specs.declared.row.Row.{Row}
use Rattle.rv_trace.specs.Trace.{place}
use Rattle.rv_holds.specs.declared.token.Token.{Token}
use Rattle.rv_holds.specs.Tokens.{Slots, or_else, cells_of}
use Rattle.rv_holds.specs.Holds.{oldest, staying}
use Rattle.rv_engine.specs.Settings.{Setting}
use Rattle.rv_lawful.specs.Settings.{stages_of}
use Rattle.rv_lawful.specs.Sight.{asked}
use Rattle.rv_machine.specs.Owing.{judged}
use Rattle.rv_machine.specs.Placed.{one_more, count, Serials, Placed}
use Rattle.rv_machine.specs.Told.{Decided, out_last, out_of}
use Rattle.rv_machine.proofs.Places.{older_lower}

-- Stages

pub slice_get-drop : {A : Type 0} (xs : List A) (n i : ℕ) → slice_get (drop n xs) i ≡ slice_get xs (n + i)
slice_get-drop xs zero i = let e : i ≡ 0 + i = omega arith in ap (λ m. slice_get xs m) e
slice_get-drop [] (suc n) i = refl
slice_get-drop (x ∷ xs) (suc n) i = let e : suc (n + i) ≡ suc n + i = omega arith in slice_get-drop xs n i ∙ ap (λ m. slice_get (x ∷ xs) m) e

-- the token of a cell, and the older ones
pub record At (k : Setting) (r stage : ℕ) (c : Cell) (seen : Slots) : Type 0 where
  pub token : Token
  pub older : Slots
  pub is : token.cell ≡ c
  pub rest : drop stage seen ≡ Some token ∷ older
  pub placed : Placed k r stage (Some token ∷ older)
  pub decided : Decided k stage (Some token ∷ older)

pub token_at : (seen : Slots) (stage : ℕ) (c : Cell) → slice_get (cells_of seen) stage ≡ Some (Some c) → (t : Token) × (older : Slots) × (t.cell ≡ c) × (drop stage seen ≡ Some t ∷ older)
token_at [] stage c h = cc
token_at (None ∷ seen) zero c h = cc
token_at (Some t ∷ seen) zero c h = (t, seen, cc, refl)
token_at (s ∷ seen) (suc stage) c h = token_at seen stage c h

pub placed_drop : (k : Setting) (r base n : ℕ) (seen : Slots) → Placed k r base seen → Placed k r (base + n) (drop n seen)
placed_drop k r base zero seen h = rw (add-zero base) h
placed_drop k r base (suc n) [] h = tt
placed_drop k r base (suc n) (s ∷ seen) h =
    let e : suc base + n ≡ base + suc n = omega arith in
    subst (λ m. Placed k r m (drop n seen)) e (placed_drop k r (suc base) n seen h.1)

pub decided_drop : (k : Setting) (base n : ℕ) (seen : Slots) → Decided k base seen → Decided k (base + n) (drop n seen)
decided_drop k base zero seen h = rw (add-zero base) h
decided_drop k base (suc n) [] h = tt
decided_drop k base (suc n) (None ∷ seen) h =
    let e : suc base + n ≡ base + suc n = omega arith in
    subst (λ m. Decided k m (drop n seen)) e (decided_drop k (suc base) n seen h)
decided_drop k base (suc n) (Some t ∷ seen) h =
    let e : suc base + n ≡ base + suc n = omega arith in
    subst (λ m. Decided k m (drop n seen)) e (decided_drop k (suc base) n seen h.1)

pub at_stage : (k : Setting) (r stage : ℕ) (c : Cell) (seen : Slots) → Placed k r 0 seen → Decided k 0 seen → slice_get (cells_of seen) stage ≡ Some (Some c) → At k r stage c seen
at_stage k r stage c seen h d e =
    let t = token_at seen stage c e in
    let p : Placed k r (0 + stage) (drop stage seen) = placed_drop k r 0 stage seen h in
    let q : Decided k (0 + stage) (drop stage seen) = decided_drop k 0 stage seen d in
    let z : 0 + stage ≡ stage = omega arith in
    record {
      token = t.0;
      older = t.1;
      is = t.2;
      rest = t.3;
      placed = subst (λ l. Placed k r stage l) t.3 (subst (λ m. Placed k r m (drop stage seen)) z p);
      decided = subst (λ l. Decided k stage l) t.3 (subst (λ m. Decided k m (drop stage seen)) z q);
    }

pub drop_more : (seen older : Slots) (s : Option Token) (n : ℕ) → drop n seen ≡ s ∷ older → drop (suc n) seen ≡ older
drop_more [] older s zero e = cc
drop_more [] older s (suc n) e = cc
drop_more (x ∷ seen) older s zero e = cc
drop_more (x ∷ seen) older s (suc n) e = drop_more seen older s n e

pub cells_drop : (n : ℕ) (seen : Slots) → drop n (cells_of seen) ≡ cells_of (drop n seen)
cells_drop zero seen = refl
cells_drop (suc n) [] = refl
cells_drop (suc n) (s ∷ seen) = cells_drop n seen

-- the cells of the later stages are those of the older tokens
pub stands_older : (k : Setting) (row : Row) (seen older : Slots) (s : Option Token) (stage n : ℕ) → slice_get (stages_of (judged k) row) (suc stage + n) ≡ slice_get (cells_of seen) (suc stage + n) → drop stage seen ≡ s ∷ older → slice_get (stages_of (judged k) row) (suc stage + n) ≡ slice_get (cells_of older) n
stands_older k row seen older s stage n c e =
    c
    ∙ sym (slice_get-drop (cells_of seen) (suc stage) n)
    ∙ ap (λ l. slice_get l n) (cells_drop (suc stage) seen ∙ ap cells_of (drop_more seen older s stage e))

same_token : (t u : Token) → ◌≡◌ {A = Option (Option Token)} (Some (Some t)) (Some (Some u)) → t ≡ u
same_token t u e = cc

pub asks_at : (k : Setting) (r stage n : ℕ) (seen : Slots) (u : Token) → Placed k r stage seen → slice_get seen n ≡ Some (Some u) → u.asks ≡ asked k.design u.cell.word
asks_at k r stage n [] u h e = cc
asks_at k r stage zero (None ∷ older) u h e = cc
asks_at k r stage zero (Some t ∷ older) u h e = subst (λ (v : Token). v.asks ≡ asked k.design v.cell.word) (same_token t u e) h.0.asks
asks_at k r stage (suc n) (s ∷ older) u h e = asks_at k r (suc stage) n older u h.1 e

pub here_of : (seen older : Slots) (t : Token) (n : ℕ) → drop n seen ≡ Some t ∷ older → slice_get seen n ≡ Some (Some t)
here_of [] older t zero e = cc
here_of [] older t (suc n) e = cc
here_of (x ∷ seen) older t zero e = cc
here_of (x ∷ seen) older t (suc n) e = here_of seen older t n e

pub cell_here : (seen : Slots) (n : ℕ) (u : Token) → slice_get seen n ≡ Some (Some u) → slice_get (cells_of seen) n ≡ Some (Some u.cell)
cell_here [] n u e = cc
cell_here (None ∷ seen) zero u e = cc
cell_here (Some t ∷ seen) zero u e = ap (λ (v : Token). Some (Some v.cell)) (same_token t u e)
cell_here (s ∷ seen) (suc n) u e = cell_here seen n u e

-- The oldest

-- a token of the serial j for which this holds is among these
abbrev pub Has : Slots → (Token → Bool) → ℕ → Type 0
Has older f j = (n : ℕ) × (u : Token) × (slice_get older n ≡ Some (Some u)) × (u.cell.serial ≡ j) × (f u ≡ true)

-- the least serial of those for which it does
abbrev pub OldestIs : Slots → (Token → Bool) → Option ℕ → Type 0
OldestIs older f None = (j : ℕ) → Has older f j → ⊥
OldestIs older f (Some i) = Has older f i × ((j : ℕ) → Has older f j → i ≤ j)

pub behind : (s : Option Token) (older : Slots) (f : Token → Bool) (j : ℕ) → Has older f j → Has (s ∷ older) f j
behind s older f j w = (suc w.0, w.1, w.2, w.3, w.4)

-- it holds of the first of these, or of a later one
pub front_or_behind : (t : Token) (older : Slots) (f : Token → Bool) (j : ℕ) → Has (Some t ∷ older) f j → ((t.cell.serial ≡ j) × (f t ≡ true)) ⊎ Has older f j
front_or_behind t older f j w = by_index w.0 w.2 where
  by_index : (n : ℕ) → slice_get (Some t ∷ older) n ≡ Some (Some w.1) → ((t.cell.serial ≡ j) × (f t ≡ true)) ⊎ Has older f j
  by_index zero e =
      let same = same_token t w.1 e in
      inl (ap (λ (u : Token). u.cell.serial) same ∙ w.3, ap (λ (u : Token). f u) same ∙ w.4)
  by_index (suc n) e = inr (n, w.1, e, w.3, w.4)

pub only_behind : (older : Slots) (f : Token → Bool) (j : ℕ) → Has (None ∷ older) f j → Has older f j
only_behind older f j w = by_index w.0 w.2 where
  by_index : (n : ℕ) → slice_get (None ∷ older) n ≡ Some (Some w.1) → Has older f j
  by_index zero e = cc
  by_index (suc n) e = (n, w.1, e, w.3, w.4)

pub oldest_is : (rows : List Row) (r : ℕ) (f : Token → Bool) (older : Slots) → Serials rows r older → OldestIs older f (oldest f older)
oldest_is rows r f [] h = λ j w. cc (w.2)
oldest_is rows r f (None ∷ older) h = by_case (oldest f older) (oldest_is rows r f older h) where
  by_case : (o : Option ℕ) → OldestIs older f o → OldestIs (None ∷ older) f o
  by_case None g = λ j w. g j (only_behind older f j w)
  by_case (Some i) g = (behind None older f i g.0, λ j w. g.1 j (only_behind older f j w))
oldest_is rows r f (Some t ∷ older) h = by_case (oldest f older) (oldest_is rows r f older h.1) where
  last : (b : Bool) → f t ≡ b → ((j : ℕ) → Has older f j → ⊥) → OldestIs (Some t ∷ older) f (if b then Some t.cell.serial else None)
  last true q g = (
    (0, t, refl, refl, q),
    λ j w. elim (front_or_behind t older f j w) [ inl x ↦ omega (arith, x.0) | inr x ↦ absurd (g j x) ],
  )
  last false q g = λ j w. elim (front_or_behind t older f j w) [ inl x ↦ cc (q, x.1) | inr x ↦ g j x ]

  by_case : (o : Option ℕ) → OldestIs older f o → OldestIs (Some t ∷ older) f (or_else o (if f t then Some t.cell.serial else None))
  by_case None g = last (f t) refl g
  by_case (Some i) g = (
    behind (Some t) older f i g.0,
    λ j w. elim (front_or_behind t older f j w) [
      | inl x ↦
          let w0 = g.0 in
          let lt = older_lower rows r w0.0 t w0.1 older h w0.2 in
          let e = w0.3 in
          omega (arith, lt, e, x.0)
      | inr x ↦ g.1 j x
    ],
  )

pub all_three : (a b c : Bool) → a ≡ true → b ≡ true → c ≡ true → (a && b && c) ≡ true
all_three a b c p q r = rw (p, q, r)

-- Draining

out_last_le : (s : Option Token) → out_last s ≤ one_more s 0
out_last_le None = omega arith
out_last_le (Some t) = by_case (is_some t.cell.hold) where
  by_case : (b : Bool) → (if b then 0 else 1) ≤ 1
  by_case true = omega arith
  by_case false = omega arith

more_le : (s : Option Token) (m n : ℕ) → m ≤ n → m ≤ one_more s n
more_le None m n h = h
more_le (Some t) m n h = omega arith

pub out_le : (l : Slots) → out_of l ≤ count l
out_le [] = omega arith
out_le (s ∷ []) = out_last_le s
out_le (s ∷ u ∷ rest) = more_le s (out_of (u ∷ rest)) (count (u ∷ rest)) (out_le (u ∷ rest))

pub out_drop : (seen rest : Slots) (u : Option Token) (n : ℕ) → drop n seen ≡ u ∷ rest → out_of seen ≡ out_of (u ∷ rest)
out_drop seen rest u zero e = ap out_of e
out_drop [] rest u (suc n) e = cc
out_drop (s ∷ []) rest u (suc zero) e = cc
out_drop (s ∷ []) rest u (suc (suc n)) e = cc
out_drop (s ∷ x ∷ seen) rest u (suc n) e = out_drop (x ∷ seen) rest u n e

-- the oldest token that stays: its place follows those of the tokens that go out, of which all do where none stays
abbrev pub StayingIs : List Row → ℕ → Slots → Option ℕ → Type 0
StayingIs rows r l None = count l ≤ out_of l
StayingIs rows r l (Some j) = (n : ℕ) × (u : Token) × (slice_get l n ≡ Some (Some u)) × (u.cell.serial ≡ j) × (place rows j ≡ r + out_of l) × (out_of l < count l)

staying_more : (rows : List Row) (r : ℕ) (s u : Option Token) (rest : Slots) (o : Option ℕ) → StayingIs rows r (u ∷ rest) o → (s ≡ None) ⊎ ((j : ℕ) × (o ≡ Some j)) → StayingIs rows r (s ∷ u ∷ rest) o
staying_more rows r None u rest None h w = h
staying_more rows r (Some t) u rest None h (inl e) = cc
staying_more rows r (Some t) u rest None h (inr x) = cc (x.1)
staying_more rows r None u rest (Some j) h w = (suc h.0, h.1, h.2, h.3, h.4, h.5)
staying_more rows r (Some t) u rest (Some j) h w = let lt = h.5 in (suc h.0, h.1, h.2, h.3, h.4, omega (arith, lt))

pub staying_is : (rows : List Row) (r : ℕ) (l : Slots) → Serials rows r l → StayingIs rows r l (staying l)
staying_is rows r [] h = omega arith
staying_is rows r (None ∷ []) h = omega arith
staying_is rows r (None ∷ u ∷ rest) h = staying_more rows r None u rest (staying (u ∷ rest)) (staying_is rows r (u ∷ rest) h) (inl refl)
staying_is rows r (Some t ∷ []) h = by_case (is_some t.cell.hold) refl where
  by_case : (b : Bool) → is_some t.cell.hold ≡ b → StayingIs rows r (Some t ∷ []) (if b then Some t.cell.serial else None)
  by_case true e = let p = h.0.0 in (0, t, refl, refl, rw e p, rw e (omega arith))
  by_case false e = rw e (omega arith)
staying_is rows r (Some t ∷ u ∷ rest) h = by_case (staying (u ∷ rest)) (staying_is rows r (u ∷ rest) h.1) where
  by_case : (o : Option ℕ) → StayingIs rows r (u ∷ rest) o → StayingIs rows r (Some t ∷ u ∷ rest) (or_else o (Some t.cell.serial))
  by_case (Some j) f = staying_more rows r (Some t) u rest (Some j) f (inr (j, refl))
  by_case None f =
      let p = h.0.0 in
      let le = out_le (u ∷ rest) in
      (0, t, refl, refl, omega (arith, p, le, f), omega (arith, le))
