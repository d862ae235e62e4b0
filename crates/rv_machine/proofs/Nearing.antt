-- While the handler may be entered, the oldest token comes nearer to what stands above EX.
use Rattle.std.proofs.Common.{◌≡◌, ℕ, zero, suc, ◌+◌, ◌-◌, ◌<◌, ◌≤◌, [], ◌∷◌, drop, length, Option, Some, None, Bool, true, false, refl, sym, ap, ◌∙◌, subst, arith, ◌⊎◌, inl, inr}
use Rattle.std.specs.Prelude.{if◌then◌else◌, is_some}
use Rattle.rv_core.specs.declared.Shape.{Shape}
use Rattle.rv_holds.specs.declared.token.Token.{Token}
use Rattle.rv_holds.specs.Tokens.{Slots}
use Rattle.rv_holds.specs.Flushing.{remains}
use Rattle.rv_engine.specs.Rows.{waited, going, kept, advanced, leaving, fill_first}
use Rattle.rv_machine.specs.Placed.{count, first_of_two, to_pass, passing}
use Rattle.rv_machine.proofs.Alike.{Alike, alike_count}

-- the oldest token, where there is one
pub record Oldest (l : Slots) : Type 0 where
  pub index : ℕ
  pub token : Token
  pub older : Slots
  pub rest : drop index l ≡ Some token ∷ older
  pub alone : count older ≡ 0

pub oldest_in : (l : Slots) → (count l ≡ 0) ⊎ Oldest l
oldest_in [] = inl refl
oldest_in (None ∷ l) = elim (oldest_in l) [ inl z ↦ inl z | inr o ↦ inr (record { index = suc o.index; token = o.token; older = o.older; rest = o.rest; alone = o.alone }) ]
oldest_in (Some t ∷ l) = elim (oldest_in l) [
  | inl z ↦ inr (record { index = 0; token = t; older = l; rest = refl; alone = z })
  | inr o ↦ inr (record { index = suc o.index; token = o.token; older = o.older; rest = o.rest; alone = o.alone })
]

pub none_pass : (ex stage : ℕ) (l : Slots) → count l ≡ 0 → to_pass ex stage l ≡ 0
none_pass ex stage [] e = refl
none_pass ex stage (None ∷ l) e = none_pass ex (suc stage) l e
none_pass ex stage (Some t ∷ l) e = absurd (omega (arith, e))

first_same : (a b : ℕ) → 0 < a → first_of_two a b ≡ a
first_same zero b lt = absurd (omega (arith, lt))
first_same (suc a) b lt = refl

-- by where it stands
pub pass_at : (ex stage i : ℕ) (l older : Slots) (t : Token) → drop i l ≡ Some t ∷ older → count older ≡ 0 → stage + i ≤ ex → to_pass ex stage l ≡ suc ex - (stage + i)
pass_at ex stage i [] older t d z le = nothing i d where
  nothing : {A : Type 0} (m : ℕ) → drop {A = Option Token} m [] ≡ Some t ∷ older → A
  nothing zero q = cc
  nothing (suc m) q = cc
pass_at ex stage zero (None ∷ l) older t d z le = cc
pass_at ex stage zero (Some u ∷ l) older t d z le =
    let same : l ≡ older = cc in
    let none = none_pass ex (suc stage) l (ap count same ∙ z) in
    ap (λ n. first_of_two n (suc ex - stage)) none ∙ ap (λ n. suc ex - n) (let y : stage ≡ stage + 0 = omega arith in y)
pass_at ex stage (suc i) (None ∷ l) older t d z le =
    pass_at ex (suc stage) i l older t d z (omega (arith, le)) ∙ ap (λ n. suc ex - n) (let y : suc stage + i ≡ stage + suc i = omega arith in y)
pass_at ex stage (suc i) (Some u ∷ l) older t d z le =
    let p = pass_at ex (suc stage) i l older t d z (omega (arith, le)) in
    first_same (to_pass ex (suc stage) l) (suc ex - stage) (omega (arith, p, le)) ∙ p ∙ ap (λ n. suc ex - n) (let y : suc stage + i ≡ stage + suc i = omega arith in y)

pub pass_alike : (ex stage : ℕ) (a b : Slots) → Alike a b → to_pass ex stage b ≡ to_pass ex stage a
pass_alike ex stage [] [] h = refl
pass_alike ex stage [] (u ∷ b) h = absurd h
pass_alike ex stage (s ∷ a) [] h = absurd h
pass_alike ex stage (None ∷ a) (None ∷ b) h = pass_alike ex (suc stage) a b h.1
pass_alike ex stage (None ∷ a) (Some u ∷ b) h = absurd h.0
pass_alike ex stage (Some t ∷ a) (None ∷ b) h = absurd h.0
pass_alike ex stage (Some t ∷ a) (Some u ∷ b) h = ap (λ n. first_of_two n (suc ex - stage)) (pass_alike ex (suc stage) a b h.1)

-- what is fetched counts as the next one does
pub pass_filled : (k : Shape) (new : Option Token) (slots : Slots) → 0 < to_pass k.ex 0 (fill_first new slots) → passing k slots ≡ to_pass k.ex 0 (fill_first new slots)
pass_filled k new [] lt = absurd (omega (arith, lt))
pass_filled k new (Some u ∷ l) lt = first_same (to_pass k.ex 0 (Some u ∷ l)) (suc k.ex) lt
pass_filled k None (None ∷ l) lt = first_same (to_pass k.ex 0 (None ∷ l)) (suc k.ex) lt
pass_filled k (Some n) (None ∷ l) lt = ap (λ m. first_of_two (to_pass k.ex 1 l) m) (let z : suc k.ex ≡ suc k.ex - 0 = omega arith in z)

pub pass_low : (k : Shape) (slots : Slots) → passing k slots ≤ suc k.ex
pass_low k slots = by_case (to_pass k.ex 0 slots) (pass_below k.ex 0 slots) where
  by_case : (n : ℕ) → n ≤ suc k.ex → first_of_two n (suc k.ex) ≤ suc k.ex
  by_case zero le = omega arith
  by_case (suc n) le = le

  pass_below : (ex stage : ℕ) (l : Slots) → to_pass ex stage l ≤ suc ex
  pass_below ex stage [] = omega arith
  pass_below ex stage (None ∷ l) = pass_below ex (suc stage) l
  pass_below ex stage (Some t ∷ l) = both (to_pass ex (suc stage) l) (pass_below ex (suc stage) l) where
    both : (n : ℕ) → n ≤ suc ex → first_of_two n (suc ex - stage) ≤ suc ex
    both zero le = omega arith
    both (suc n) le = le

pub pass_some : (k : Shape) (slots : Slots) → 0 < passing k slots
pass_some k slots = by_case (to_pass k.ex 0 slots) where
  by_case : (n : ℕ) → 0 < first_of_two n (suc k.ex)
  by_case zero = omega arith
  by_case (suc n) = omega arith

-- What the moves make of it

pub drop_moved : (i : ℕ) (come : Option Token) (l : Slots) → (c : Option Token) × (drop i (advanced come l) ≡ advanced c (drop i l))
drop_moved zero come l = (come, refl)
drop_moved (suc i) come [] = (None, refl)
drop_moved (suc i) come (s ∷ l) = drop_moved i (going s) l

pub empty_moved : (l : Slots) → count l ≡ 0 → count (advanced None l) ≡ 0
empty_moved [] e = refl
empty_moved (None ∷ l) e = empty_moved l e
empty_moved (Some t ∷ l) e = absurd (omega (arith, e))

drop_behind : (i : ℕ) (come : Option Token) (l rest : Slots) (s : Option Token) → drop i l ≡ s ∷ rest → drop (suc i) (advanced come l) ≡ advanced (going s) rest
drop_behind zero come [] rest s e = cc
drop_behind zero come (y ∷ l) rest s e = ap (λ (o : Slots). drop 1 (advanced come o)) e
drop_behind (suc i) come [] rest s e = cc
drop_behind (suc i) come (y ∷ l) rest s e = drop_behind i (going y) l rest s e

leaves_behind : (i : ℕ) (come : Option Token) (l rest : Slots) (s : Option Token) → drop i l ≡ s ∷ rest → leaving come l ≡ leaving (going s) rest
leaves_behind zero come [] rest s e = cc
leaves_behind zero come (y ∷ l) rest s e = ap (λ (o : Slots). leaving come o) e
leaves_behind (suc i) come [] rest s e = cc
leaves_behind (suc i) come (y ∷ l) rest s e = leaves_behind i (going y) l rest s e

-- the oldest token stays, or goes one stage on
pub record Moved (l : Slots) (o : Oldest l) (stays : Bool) : Type 0 where
  pub token : Token
  pub older : Slots
  pub rest : drop (if stays then o.index else suc o.index) (advanced None l) ≡ Some token ∷ older
  pub alone : count older ≡ 0

pub moved : (l : Slots) (o : Oldest l) → leaving None l ≡ None → Moved l o (is_some o.token.cell.hold)
moved l o g = by_hold (is_some o.token.cell.hold) refl (drop_moved o.index None l).0 ((drop_moved o.index None l).1 ∙ ap (λ (z : Slots). advanced (drop_moved o.index None l).0 z) o.rest) where
  goes_on : (older : Slots) → older ≡ o.older → going (Some o.token) ≡ Some o.token → Moved l o false
  goes_on [] e h = cc (sym g ∙ leaves_behind o.index None l o.older (Some o.token) o.rest ∙ ap (λ (z : Slots). leaving (going (Some o.token)) z) (sym e) ∙ ap (λ (s : Option Token). leaving s []) h)
  goes_on (None ∷ behind) e h =
      record {
        token = o.token;
        older = advanced None behind;
        rest = drop_behind o.index None l o.older (Some o.token) o.rest ∙ ap (λ (z : Slots). advanced (going (Some o.token)) z) (sym e) ∙ ap (λ (s : Option Token). advanced s (None ∷ behind)) h;
        alone = empty_moved behind (ap count e ∙ o.alone);
      }
  goes_on (Some u ∷ behind) e h = let z = ap count e ∙ o.alone in absurd (omega (arith, z))

  by_hold : (b : Bool) → is_some o.token.cell.hold ≡ b → (c : Option Token) → drop o.index (advanced None l) ≡ advanced c (Some o.token ∷ o.older) → Moved l o b
  by_hold true h c d =
      record {
        token = waited o.token;
        older = advanced None o.older;
        rest =
            d
            ∙ ap (λ (b : Bool). (if b then Some (waited o.token) else c) ∷ advanced (going (Some o.token)) o.older) h
            ∙ ap (λ (b : Bool). Some (waited o.token) ∷ advanced (if b then None else Some o.token) o.older) h;
        alone = empty_moved o.older o.alone;
      }
  by_hold false h c d = goes_on o.older refl (ap (λ (b : Bool). if b then None else Some o.token) h)

-- a token at a stage counts from there down
pub some_from : (a j : ℕ) (l older : Slots) (t : Token) → a ≤ j → drop j l ≡ Some t ∷ older → 0 < count (drop a l)
some_from zero zero [] older t le d = cc
some_from zero zero (None ∷ l) older t le d = cc
some_from zero zero (Some u ∷ l) older t le d = omega arith
some_from zero (suc j) [] older t le d = cc
some_from zero (suc j) (None ∷ l) older t le d = some_from zero j l older t (omega arith) d
some_from zero (suc j) (Some u ∷ l) older t le d = omega arith
some_from (suc a) zero l older t le d = absurd (omega (arith, le))
some_from (suc a) (suc j) [] older t le d = cc
some_from (suc a) (suc j) (s ∷ l) older t le d = some_from a j l older t (omega (arith, le)) d

-- where none remains and none leaves there is none
pub none_there : (come : Option Token) (l : Slots) → remains l ≡ false → leaving come l ≡ None → count l ≡ 0
none_there come [] r g = refl
none_there come (None ∷ l) r g = none_there None l r g
none_there come (Some t ∷ []) r g = cc (sym (ap (λ (b : Bool). if b then None else Some t) r) ∙ g)
none_there come (Some t ∷ u ∷ l) r g = cc

pub some_remain : (l : Slots) → remains l ≡ true → 0 < count l
some_remain [] r = cc
some_remain (None ∷ l) r = some_remain l r
some_remain (Some t ∷ l) r = omega arith
