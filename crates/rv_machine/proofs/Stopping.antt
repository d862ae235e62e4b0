-- Which token stops the run, and what is left.
use Rattle.std.proofs.Common.{◌≡◌, ℕ, zero, suc, ◌+◌, ◌<◌, [], ◌∷◌, drop, length, Option, Some, None, Bool, true, false, refl, sym, ap, ◌∙◌, arith}
use Rattle.std.specs.Prelude.{◌&&◌, if◌then◌else◌, ◌==◌, is_some, is_none, slice_get}
use Rattle.std.proofs.lemmas.Bool.Decides.{nat_tests}
use Rattle.rv_trace.specs.declared.row.Cell.{Cell}
use Rattle.rv_seq.specs.declared.commit.Stop.{Stop}
use Rattle.rv_holds.specs.declared.token.Token.{Token}
use Rattle.rv_holds.specs.Tokens.{Slots, stop_of, cells_of}
use Rattle.rv_holds.specs.Holds.{own_hold, stops_now}
use Rattle.rv_holds.specs.Flushing.{slot_stop, remains}
use Rattle.rv_engine.specs.Settings.{Setting, shape_of}
use Rattle.rv_machine.specs.Placed.{count}
use Rattle.rv_machine.specs.Told.{NoStops, out_of}
use Rattle.rv_machine.proofs.Deciding.{test_eq, is_none_of}

-- the token that stops the run
pub record Stopper (k : Setting) (base : ℕ) (seen : Slots) (stop : Stop) : Type 0 where
  pub index : ℕ
  pub token : Token
  pub older : Slots
  pub rest : drop index seen ≡ Some token ∷ older
  pub here : slice_get (cells_of seen) index ≡ Some (Some token.cell)
  pub stops : stops_now (shape_of k) (base + index) token older ≡ true
  pub word : stop_of token ≡ Some stop

pub stopper : (k : Setting) (base : ℕ) (seen : Slots) (stop : Stop) → slot_stop (shape_of k) base seen ≡ Some stop → Stopper k base seen stop
stopper k base [] stop h = cc
stopper k base (None ∷ older) stop h =
    let s = stopper k (suc base) older stop h in
    let e : suc base + s.index ≡ base + suc s.index = omega arith in
    record { index = suc s.index; token = s.token; older = s.older; rest = s.rest; here = s.here; stops = ap (λ n. stops_now (shape_of k) n s.token s.older) (sym e) ∙ s.stops; word = s.word }
stopper k base (Some t ∷ older) stop h = by_case (stops_now (shape_of k) base t older) refl h (λ q. stopper k (suc base) older stop q) where
  by_case : (b : Bool) → stops_now (shape_of k) base t older ≡ b → (if b then stop_of t else slot_stop (shape_of k) (suc base) older) ≡ Some stop → (slot_stop (shape_of k) (suc base) older ≡ Some stop → Stopper k (suc base) older stop) → Stopper k base (Some t ∷ older) stop
  by_case true q e ih =
      let z : base ≡ base + 0 = omega arith in
      record { index = 0; token = t; older = older; rest = refl; here = refl; stops = ap (λ n. stops_now (shape_of k) n t older) (sym z) ∙ q; word = e }
  by_case false q e ih =
      let s = ih e in
      let z : suc base + s.index ≡ base + suc s.index = omega arith in
      record { index = suc s.index; token = s.token; older = s.older; rest = s.rest; here = s.here; stops = ap (λ n. stops_now (shape_of k) n s.token s.older) (sym z) ∙ s.stops; word = s.word }

pub stops_at : (k : Setting) (stage : ℕ) (t : Token) (older : Slots) → stops_now (shape_of k) stage t older ≡ true → stage ≡ (shape_of k).ex
stops_at k stage t older h = by_case (stage == (shape_of k).ex) refl h where
  by_case : (b : Bool) → (stage == (shape_of k).ex) ≡ b → (b && is_some (stop_of t) && is_none (own_hold (shape_of k) stage t older)) ≡ true → stage ≡ (shape_of k).ex
  by_case true e q = test_eq stage (shape_of k).ex e
  by_case false e q = cc

other_stage : (k : Setting) (stage : ℕ) (t : Token) (older : Slots) → stage < (shape_of k).ex → stops_now (shape_of k) stage t older ≡ false
other_stage k stage t older lt = never (is_some (stop_of t)) (is_none (own_hold (shape_of k) stage t older)) where
  never : (b c : Bool) → ((stage == (shape_of k).ex) && b && c) ≡ false
  never b c = grind (arith, nat_tests)

-- the token at EX that stops the run is the one whose stop the slots make
pub slot_stop_at : (k : Setting) (base n : ℕ) (seen older : Slots) (t : Token) (stop : Stop) → base + n ≡ (shape_of k).ex → drop n seen ≡ Some t ∷ older → stops_now (shape_of k) (shape_of k).ex t older ≡ true → stop_of t ≡ Some stop → slot_stop (shape_of k) base seen ≡ Some stop
slot_stop_at k base n [] older t stop e d s w = nothing n d where
  nothing : {A : Type 0} (m : ℕ) → drop {A = Option Token} m [] ≡ Some t ∷ older → A
  nothing zero q = cc
  nothing (suc m) q = cc
slot_stop_at k base zero (None ∷ rest) older t stop e d s w = cc
slot_stop_at k base zero (Some u ∷ rest) older t stop e d s w =
    let same : u ≡ t = cc in
    let tail : rest ≡ older = cc in
    let at : base ≡ (shape_of k).ex = omega (arith, e) in
    here u rest base (sym same) (sym tail) (sym at) where
      here : (u : Token) (rest : Slots) (base : ℕ) → t ≡ u → older ≡ rest → (shape_of k).ex ≡ base → slot_stop (shape_of k) base (Some u ∷ rest) ≡ Some stop
      here u rest base p q r =
          let a : stops_now (shape_of k) base u rest ≡ true = ap (λ (v : Token). stops_now (shape_of k) base v rest) (sym p) ∙ ap (λ l. stops_now (shape_of k) base t l) (sym q) ∙ ap (λ n. stops_now (shape_of k) n t older) (sym r) ∙ s in
          let b : stop_of u ≡ Some stop = ap (λ (v : Token). stop_of v) (sym p) ∙ w in
          if_so (stops_now (shape_of k) base u rest) (stop_of u) _ a b where
            if_so : (c : Bool) (x y : Option Stop) → c ≡ true → x ≡ Some stop → (if c then x else y) ≡ Some stop
            if_so true x y q z = z
            if_so false x y q z = cc
slot_stop_at k base (suc n) (None ∷ rest) older t stop e d s w = slot_stop_at k (suc base) n rest older t stop (omega (arith, e)) d s w
slot_stop_at k base (suc n) (Some u ∷ rest) older t stop e d s w =
    if_not (stops_now (shape_of k) base u rest) (stop_of u) _ (other_stage k base u rest (omega (arith, e))) (slot_stop_at k (suc base) n rest older t stop (omega (arith, e)) d s w) where
      if_not : (c : Bool) (x y : Option Stop) → c ≡ false → y ≡ Some stop → (if c then x else y) ≡ Some stop
      if_not true x y q z = cc
      if_not false x y q z = z

-- where no slot makes a stop, no token stops the run
pub no_stops : (k : Setting) (base : ℕ) (seen : Slots) → slot_stop (shape_of k) base seen ≡ None → NoStops k base seen
no_stops k base [] h = tt
no_stops k base (None ∷ older) h = no_stops k (suc base) older h
no_stops k base (Some t ∷ older) h = by_case (stops_now (shape_of k) base t older) refl h (stop_of t) refl (λ q. no_stops k (suc base) older q) where
  by_case : (b : Bool) → stops_now (shape_of k) base t older ≡ b → (if b then stop_of t else slot_stop (shape_of k) (suc base) older) ≡ None → (o : Option Stop) → stop_of t ≡ o → (slot_stop (shape_of k) (suc base) older ≡ None → NoStops k (suc base) older) → (stops_now (shape_of k) base t older ≡ false) × NoStops k (suc base) older
  by_case false q e o w ih = (q, ih e)
  by_case true q e (Some stop) w ih = cc
  by_case true q e None w ih = cc (false_then (stage_test) (is_none (own_hold (shape_of k) base t older)) (ap (λ p. is_some p) w), q) where
    stage_test : Bool
    stage_test = base == (shape_of k).ex

    false_then : (a c : Bool) → is_some (stop_of t) ≡ false → (a && is_some (stop_of t) && c) ≡ false
    false_then true c z = rw z
    false_then false c z = refl

-- What remains

pub remains_none : (seen : Slots) → remains seen ≡ false → (n : ℕ) (c : Cell) → slice_get (cells_of seen) n ≡ Some (Some c) → (suc n ≡ length seen) × (c.hold ≡ None)
remains_none [] h n c e = cc
remains_none (None ∷ rest) h zero c e = cc
remains_none (None ∷ rest) h (suc n) c e = let r = remains_none rest h n c e in (ap suc r.0, r.1)
remains_none (Some t ∷ []) h zero c e = let same : t.cell ≡ c = cc in (refl, ap (λ (d : Cell). d.hold) (sym same) ∙ is_none_of t.cell.hold h)
remains_none (Some t ∷ []) h (suc n) c e = cc
remains_none (Some t ∷ u ∷ rest) h n c e = cc

pub none_remains : (seen : Slots) → ((n : ℕ) (c : Cell) → slice_get (cells_of seen) n ≡ Some (Some c) → (suc n ≡ length seen) × (c.hold ≡ None)) → remains seen ≡ false
none_remains [] f = refl
none_remains (None ∷ rest) f = none_remains rest (λ n c e. let r = f (suc n) c e in (omega (arith, r.0), r.1))
none_remains (Some t ∷ []) f = let r = f 0 t.cell refl in ap (λ o. is_some o) r.1
none_remains (Some t ∷ u ∷ rest) f = let r = f 0 t.cell refl in absurd (omega (arith, r.0))

-- all that is there goes out
pub remains_count : (seen : Slots) → remains seen ≡ false → count seen ≡ out_of seen
remains_count [] h = refl
remains_count (None ∷ []) h = refl
remains_count (None ∷ u ∷ rest) h = remains_count (u ∷ rest) h
remains_count (Some t ∷ []) h = rw h
remains_count (Some t ∷ u ∷ rest) h = cc
