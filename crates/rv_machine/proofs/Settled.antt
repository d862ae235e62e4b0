-- Where a row stops, nothing is outstanding after it.
use Rattle.std.proofs.Common.{◌≡◌, ℕ, ◌+◌, ◌<◌, List, [], ◌∷◌, drop, length, Option, Some, None, Bool, true, false, refl, sym, ap, ◌∙◌, subst, arith, inr}
use Rattle.std.specs.Prelude.{◌&&◌, ◌||◌, if◌then◌else◌, ◌==◌, is_some, is_none}
use Rattle.std.proofs.lemmas.List.{length-drop}
use Rattle.rv_seq.specs.declared.commit.Stop.{Stop}
use Rattle.rv_seq.specs.declared.commit.Stop.TheVariants.{Fetch}
use Rattle.rv_seq.specs.Steps.{word_at}
use Rattle.rv_trace.specs.declared.row.Hold.{Hold}
use Rattle.rv_trace.specs.declared.row.Row.{Row}
use Rattle.rv_unit.specs.declared.entry.Entry.{Entry}
use Rattle.rv_holds.specs.declared.token.Token.{Token}
use Rattle.rv_holds.specs.Tokens.{Slots, or_else, stop_of}
use Rattle.rv_holds.specs.Holds.{waiting_hold, trap_hold, leaving_hold, drain, drain_hold, left_behind, own_hold, stops_now}
use Rattle.rv_holds.specs.Flushing.{slot_stop, remains}
use Rattle.rv_engine.specs.declared.owing.Owed.{Owed}
use Rattle.rv_engine.specs.Settings.{Setting, Machine, shape_of}
use Rattle.rv_engine.specs.Rows.{is_owing, seen_by, fetch_by, outstanding_by, machine_after, IsRowOf}
use Rattle.rv_lawful.specs.Outstanding.{Decoupled, outstanding}
use Rattle.rv_machine.specs.Owing.{judged, IsOwing, Owing}
use Rattle.rv_machine.specs.Placed.{IsReady, Inv}
use Rattle.rv_machine.specs.Told.{out_of}
use Rattle.rv_machine.proofs.Deciding.{or_else_none, or_else_none_b}
use Rattle.rv_machine.proofs.Places.{lower_place}
use Rattle.rv_machine.proofs.Standing.{out_le, out_drop}
use Rattle.rv_machine.proofs.Stopping.{Stopper, stopper, stops_at}
use Rattle.rv_machine.proofs.Before as B
use Rattle.rv_machine.proofs.Retiring as R
use Rattle.rv_machine.proofs.Older as Y
use Rattle.rv_machine.proofs.DrainHolds as D
use Rattle.rv_machine.proofs.OwingNext as O

drain_none : (o : Option ℕ) → drain o ≡ None → o ≡ None
drain_none None h = refl
drain_none (Some j) h = cc

if_so : (c : Bool) (z : Option Hold) → c ≡ true → (if c then z else None) ≡ None → z ≡ None
if_so true z p q = q
if_so false z p q = cc

-- what stops the run leaves nothing behind
pub none_behind : (k : Setting) (stage : ℕ) (t : Token) (older : Slots) → stops_now (shape_of k) stage t older ≡ true → left_behind t older ≡ None
none_behind k stage t older n = by_case (stage == (shape_of k).ex) (is_some (stop_of t)) refl refl (own_hold (shape_of k) stage t older) refl n where
  by_case : (b d : Bool) → (stage == (shape_of k).ex) ≡ b → is_some (stop_of t) ≡ d → (o : Option Hold) → own_hold (shape_of k) stage t older ≡ o → (b && d && is_none o) ≡ true → left_behind t older ≡ None
  by_case true true e w None q y =
      drain_none (left_behind t older)
      (if_so (is_some (stop_of t)) (drain (left_behind t older)) w
      (or_else_none_b (trap_hold t) (drain_hold t older)
      (if_so (stage == (shape_of k).ex) (leaving_hold t older) e
      (or_else_none (if stage == (shape_of k).ex then leaving_hold t older else None) _ (or_else_none_b (waiting_hold (shape_of k) stage t older) _ q)))))
  by_case true true e w (Some h) q y = cc
  by_case true false e w o q y = cc
  by_case false d e w o q y = cc

-- a fetch stops the run where no token remains, nothing is owed, and there is no word
pub fetch_case : (b : Bool) (owed : List Owed) (o : Option ℕ) (stop : Stop) → (if b || (is_owing owed || is_some o) then None else Some Fetch) ≡ Some stop → (b ≡ false) × (owed ≡ []) × (o ≡ None) × (stop ≡ Fetch)
fetch_case true owed o stop h = cc
fetch_case false [] None stop h = (refl, refl, refl, cc)
fetch_case false [] (Some w) stop h = cc
fetch_case false (x ∷ owed) o stop h = cc

pub none_left : (b : Bool) (owed : List Owed) (o : Option ℕ) → b ≡ false → owed ≡ [] → o ≡ None → (if b || (is_owing owed || is_some o) then None else Some Fetch) ≡ Some Fetch
none_left false [] None e f g = refl
none_left true owed o e f g = cc
none_left false [] (Some w) e f g = cc
none_left false (x ∷ owed) o e f g = cc

-- where nothing is owed nothing is outstanding, and where nothing is outstanding nothing is owed
pub none_outstanding : (k : Setting) (rows : List Row) (outs : List Decoupled) (entries : List Entry) (owed : List Owed) → Owing k rows outs entries owed → owed ≡ [] → outs ≡ []
none_outstanding k rows [] entries owed h e = refl
none_outstanding k rows (o ∷ outs) [] owed h e = absurd h
none_outstanding k rows (o ∷ outs) (x ∷ entries) [] h e = absurd h
none_outstanding k rows (o ∷ outs) (x ∷ entries) (w ∷ owed) h e = cc

pub none_owed : (k : Setting) (rows : List Row) (outs : List Decoupled) (entries : List Entry) (owed : List Owed) → Owing k rows outs entries owed → outs ≡ [] → owed ≡ []
none_owed k rows outs entries [] h e = refl
none_owed k rows [] [] (w ∷ owed) h e = absurd h
none_owed k rows [] (x ∷ entries) (w ∷ owed) h e = absurd h
none_owed k rows (o ∷ outs) entries (w ∷ owed) h e = cc

module _ (k : Setting) (ready : IsReady k) (earlier : List Row) (m : Machine) (row : Row) (inv : Inv k earlier m) (is : IsRowOf k m row) where
  pub owed_settled : (outstanding_by k m).owed ≡ [] → outstanding (judged k) (row ∷ earlier) ≡ []
  owed_settled e = none_outstanding k (row ∷ earlier) (outstanding (judged k) (row ∷ earlier)) (machine_after k m).entries (machine_after k m).owed (O.owing_next k ready earlier m row inv is) e

  pub settled_owed : outstanding (judged k) (row ∷ earlier) ≡ [] → (outstanding_by k m).owed ≡ []
  settled_owed e = none_owed k (row ∷ earlier) (outstanding (judged k) (row ∷ earlier)) (machine_after k m).entries (machine_after k m).owed (O.owing_next k ready earlier m row inv is) e

  -- an outstanding instruction is left behind a token below the last stage
  one_left : (stage : ℕ) (t : Token) (older : Slots) (rest : drop stage (seen_by k m) ≡ Some t ∷ older) → 0 < length older → (o : Decoupled) (e : Entry) (w : Owed) → IsOwing k (row ∷ earlier) o e w →
      D.IsLeft k earlier row (seen_by k m) (R.told k ready earlier m row inv is) stage t older rest o.0
  one_left stage t older rest some o e w h =
      let told = R.told k ready earlier m row inv is in
      let p = (Y.ordered k earlier row (seen_by k m) told stage t older rest).0.0 in
      let now = R.retired_now k ready earlier m row inv is in
      let past = h.past in
      let out = same_out older some rest in
      let le = out_le older in
      record {
        older_than = record { lower = lower_place (row ∷ earlier) o.0 t.cell.serial (omega (arith, p, now, past, out, le)); unflushed = h.alive };
        left = inr (record {
          decoupled = (o.1, h.known, ap (λ u. is_some u) (sym (ap (λ a. a.unit) h.asks) ∙ h.unit));
          unwritten = h.unwritten;
        });
      } where
        same_out : (l : Slots) → 0 < length l → drop stage (seen_by k m) ≡ Some t ∷ l → out_of (seen_by k m) ≡ out_of l
        same_out [] lt d = absurd (omega (arith, lt))
        same_out (u ∷ l) lt d = out_drop (seen_by k m) (u ∷ l) (Some t) stage d

  -- where a token leaves nothing behind nothing is outstanding
  token_settled : (stage : ℕ) (t : Token) (older : Slots) → drop stage (seen_by k m) ≡ Some t ∷ older → 0 < length older → left_behind t older ≡ None → outstanding (judged k) (row ∷ earlier) ≡ []
  token_settled stage t older rest some none =
      let left = subst (λ o. D.OldestLeft k earlier row (seen_by k m) (R.told k ready earlier m row inv is) stage t older rest o) none (D.left_behind_is k earlier row (seen_by k m) (R.told k ready earlier m row inv is) stage t older rest) in
      by_case (outstanding (judged k) (row ∷ earlier)) (machine_after k m).entries (machine_after k m).owed (O.owing_next k ready earlier m row inv is) left where
        by_case : (outs : List Decoupled) (entries : List Entry) (owed : List Owed) → Owing k (row ∷ earlier) outs entries owed →
            ((j : ℕ) → D.IsLeft k earlier row (seen_by k m) (R.told k ready earlier m row inv is) stage t older rest j → ⊥) → outs ≡ []
        by_case [] entries owed h f = refl
        by_case (o ∷ outs) [] owed h f = absurd h
        by_case (o ∷ outs) (e ∷ entries) [] h f = absurd h
        by_case (o ∷ outs) (e ∷ entries) (w ∷ owed) h f = absurd (f o.0 (one_left stage t older rest some o e w h.0))

  stopper_settled : (stop : Stop) → Stopper k 0 (seen_by k m) stop → outstanding (judged k) (row ∷ earlier) ≡ []
  stopper_settled stop x =
      let at = stops_at k (0 + x.index) x.token x.older x.stops in
      let long = length-drop x.index (seen_by k m) in
      let l = ap length x.rest in
      let a = ready.ex_last in
      let n = B.seen_length k ready earlier m inv in
      token_settled x.index x.token x.older x.rest (omega (arith, at, long, l, a, n)) (none_behind k (0 + x.index) x.token x.older x.stops)

  -- at a stop nothing is outstanding
  pub stop_settled : (stop : Stop) → row.stop ≡ Some stop → outstanding (judged k) (row ∷ earlier) ≡ []
  stop_settled stop e = by_case (slot_stop (shape_of k) 0 (seen_by k m)) refl (sym is.stop ∙ e) where
    by_case : (o : Option Stop) → slot_stop (shape_of k) 0 (seen_by k m) ≡ o → or_else o (if remains (seen_by k m) || (is_owing (outstanding_by k m).owed || is_some (word_at k.image (fetch_by k m))) then None else Some Fetch) ≡ Some stop → outstanding (judged k) (row ∷ earlier) ≡ []
    by_case (Some s) q x = stopper_settled s (stopper k 0 (seen_by k m) s q)
    by_case None q x = owed_settled (fetch_case (remains (seen_by k m)) (outstanding_by k m).owed (word_at k.image (fetch_by k m)) stop x).1
