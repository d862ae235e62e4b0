-- Past EX the slots of a row are those from before it: what is flushed stands there nowhere. So the future file goes on.
use Rattle.rv_machine.proofs.Turns.{plain_turn, entry_turn}
use Rattle.std.proofs.Common.{◌≡◌, ℕ, zero, suc, ◌+◌, ◌-◌, ◌<◌, ◌≤◌, List, [], ◌∷◌, drop, length, Option, Some, None, Bool, true, false, refl, sym, ap, ◌∙◌, subst, arith, get_or}
use Rattle.std.specs.Prelude.{if◌then◌else◌, IfSome, is_some}
use Rattle.rv_trace.specs.declared.row.Row.{Row}
use Rattle.rv_trace.specs.Trace.{retirements}
use Rattle.rv_holds.specs.declared.token.Token.{Token}
use Rattle.rv_holds.specs.declared.flushing.Turn.{Turn}
use Rattle.rv_holds.specs.Tokens.{Slots}
use Rattle.rv_holds.specs.Holds.{is_late, oldest, register_at}
use Rattle.rv_holds.specs.Flushing.{struck, cleared, turn_of}
use Rattle.rv_engine.specs.Settings.{Setting, Machine, shape_of, tree_of, outstanding_in, interrupted_by}
use Rattle.rv_engine.specs.Rows.{going, advanced, leaving, first_slot, loaded_by, turn_by, seen_by, left_by, executed_by, file_early, file_late, IsRowOf, machine_after, file_paid, paid_by, entered_by}
use Rattle.rv_machine.specs.Placed.{run, one_more, count, expected, past_ex, IsFuture, IsPlacedSlot, Placed, IsReady, Inv, paid_file}
use Rattle.rv_machine.specs.Told.{NoStops, Decided}
use Rattle.rv_machine.proofs.Deciding.{settled_past}
use Rattle.rv_machine.proofs.Alike.{Alike, alike_self}
use Rattle.rv_machine.proofs.Going.{AreSeen, seen_tail, going_placed, free_ahead}
use Rattle.rv_machine.proofs.Before.{Turning, turning, alike_trans, alike_drop, alike_future}
use Rattle.rv_machine.proofs.Clearing.{cleared_drop}
use Rattle.rv_machine.proofs.Before as B
use Rattle.rv_machine.proofs.Settling.{settles_parts, silent_at, seen_rest}
use Rattle.rv_machine.proofs.Future.{leaving_any, Retires, Executes, Unspawned, word_there, future_advanced, wide_advanced}
use Rattle.rv_machine.proofs.FileNext.{retires, executes, paid_wide}
use Rattle.rv_machine.proofs.ApartNext.{unpaid_holder, silent_leaving, stays_apart, goes_apart, apart_rest, seen_apart}
use Rattle.rv_machine.proofs.Moves.{SilentSlot}
use Rattle.rv_machine.proofs.Meeting.{seen_meets, meets_at}
use Rattle.rv_machine.proofs.Numbers.{custom_at}
use Rattle.rv_machine.proofs.Telling.{placed_rest}
use Rattle.rv_machine.proofs.Retiring as R
use Rattle.rv_seq.specs.States.{zero_bit}
use Rattle.rv_seq.specs.WordEffects.{AreWide}
use Rattle.rv_engine.specs.Owing.{unpaid_among}
use Rattle.rv_unit.specs.Numbering.{lasts_of}
use Rattle.rv_lawful.specs.Outstanding.{has_target, touches}
use Rattle.rv_machine.specs.Owing.{IsApart, Apart}

alike_all : (l : Slots) → Alike l l
alike_all [] = tt
alike_all (None ∷ l) = (tt, alike_all l)
alike_all (Some t ∷ l) = (alike_self t, alike_all l)

-- a late token past EX has no younger one there
pub quiet : (k : Setting) (r stage n : ℕ) (l older : Slots) (t : Token) → (shape_of k).ex < stage → Placed k r stage l → drop n l ≡ Some t ∷ older → t.asks.late ≡ true → Alike l (cleared n l)
quiet k r stage zero l older t lt h e late = alike_all l
quiet k r stage (suc n) [] older t lt h e late = cc
quiet k r stage (suc n) (None ∷ l) older t lt h e late = (tt, quiet k r (suc stage) n l older t (omega (arith, lt)) h.1 e late)
quiet k r stage (suc n) (Some u ∷ l) older t lt h e late =
    absurd (cc (silent_at is_late n l older t (settled_past k (r + count l) (expected k r (suc stage) l) stage l u lt h.0) e, late))

drop_cleared : (j n : ℕ) (l : Slots) → j + n ≤ length l → drop j (cleared (j + n) l) ≡ cleared n (drop j l)
drop_cleared zero n l le = let z : 0 + n ≡ n = omega arith in ap (λ i. cleared i l) z
drop_cleared (suc j) n [] le = absurd (omega (arith, le))
drop_cleared (suc j) n (s ∷ l) le = let z : suc j + n ≡ suc (j + n) = omega arith in ap (λ i. drop (suc j) (cleared i (s ∷ l))) z ∙ drop_cleared j n l (omega (arith, le))

pub drop_drop : (i j : ℕ) (l : Slots) → drop j (drop i l) ≡ drop (i + j) l
drop_drop zero j l = let z : j ≡ 0 + j = omega arith in ap (λ n. drop n l) z
drop_drop (suc i) zero [] = let z : suc i ≡ suc i + 0 = omega arith in ap (λ n. drop n []) z
drop_drop (suc i) (suc j) [] = let z : suc (i + suc j) ≡ suc i + suc j = omega arith in ap (λ n. drop n []) z
drop_drop (suc i) j (s ∷ l) = let z : suc (i + j) ≡ suc i + j = omega arith in drop_drop i j l ∙ ap (λ n. drop n (s ∷ l)) z

-- what the moves make of the later slots
pub drop_advanced : (n : ℕ) (come : Option Token) (l rest : Slots) (s : Option Token) → drop n l ≡ s ∷ rest → drop (suc n) (advanced come l) ≡ advanced (going s) rest
drop_advanced zero come [] rest s e = cc
drop_advanced zero come (y ∷ l) rest s e = ap (λ (o : Slots). drop 1 (advanced come o)) e
drop_advanced (suc n) come [] rest s e = cc
drop_advanced (suc n) come (y ∷ l) rest s e = drop_advanced n (going y) l rest s e

pub leaving_drop : (n : ℕ) (come : Option Token) (l rest : Slots) (s : Option Token) → drop n l ≡ s ∷ rest → leaving come l ≡ leaving (going s) rest
leaving_drop zero come [] rest s e = cc
leaving_drop zero come (y ∷ l) rest s e = ap (λ (o : Slots). leaving come o) e
leaving_drop (suc n) come [] rest s e = cc
leaving_drop (suc n) come (y ∷ l) rest s e = leaving_drop n (going y) l rest s e

-- a stage has a slot
pub slot_of : (n : ℕ) (l : Slots) → n < length l → (s : Option Token) × (rest : Slots) × (drop n l ≡ s ∷ rest)
slot_of n [] lt = absurd (omega arith)
slot_of zero (s ∷ l) lt = (s, l, refl)
slot_of (suc n) (s ∷ l) lt = slot_of n l (omega (arith, lt))

drop_length : (n : ℕ) (l : Slots) → n ≤ length l → n + length (drop n l) ≡ length l
drop_length zero l le = omega arith
drop_length (suc n) [] le = absurd (omega arith)
drop_length (suc n) (s ∷ l) le = let x = drop_length n l (omega (arith, le)) in omega (arith, x)

module _ (k : Setting) (ready : IsReady k) (earlier : List Row) (m : Machine) (row : Row) (inv : Inv k earlier m) (is : IsRowOf k m row) where
  abbrev r : ℕ
  r = retirements earlier

  -- of the tokens past EX none is flushed
  pub kept_past : Alike (drop (suc (shape_of k).ex) (loaded_by k m)) (drop (suc (shape_of k).ex) (seen_by k m))
  kept_past = by_entry (entered_by k m) refl where
    by_turn : (o : Option Turn) → turn_of (shape_of k) m.fetch (loaded_by k m) ≡ o → turn_by k m ≡ o → Alike (drop (suc (shape_of k).ex) (loaded_by k m)) (drop (suc (shape_of k).ex) (cleared (struck o) (loaded_by k m)))
    by_turn None p e = alike_all (drop (suc (shape_of k).ex) (loaded_by k m))
    by_turn (Some turn) p e = by_late (turning k m.fetch (loaded_by k m) turn p) (turning k m.fetch (loaded_by k m) turn p).by.token.asks.late refl where
      by_late : (x : Turning k m.fetch (loaded_by k m) turn) (b : Bool) → x.by.token.asks.late ≡ b → Alike (drop (suc (shape_of k).ex) (loaded_by k m)) (drop (suc (shape_of k).ex) (cleared turn.stage (loaded_by k m)))
      by_late x false q =
          let at = x.by.stage ∙ (settles_parts k ready (0 + x.by.index) x.by.token x.by.older x.by.settles_it).at ∙ ap (λ (b : Bool). if b then (shape_of k).stages - 1 else (shape_of k).ex) q in
          let inside = B.struck_inside k ready earlier m inv in
          let s = ap (λ o. struck o) e in
          subst (λ l. Alike (drop (suc (shape_of k).ex) (loaded_by k m)) l) (sym (cleared_drop turn.stage (suc (shape_of k).ex) (loaded_by k m) (omega (arith, at)) (omega (arith, s, inside)))) (alike_all (drop (suc (shape_of k).ex) (loaded_by k m)))
      by_late x true q =
          let a = ready.ex_last in
          let at = x.by.stage ∙ (settles_parts k ready (0 + x.by.index) x.by.token x.by.older x.by.settles_it).at ∙ ap (λ (b : Bool). if b then (shape_of k).stages - 1 else (shape_of k).ex) q in
          let st = x.by.stage in
          let inside = B.struck_inside k ready earlier m inv in
          let s = ap (λ o. struck o) e in
          let n = (shape_of k).stages - 1 - suc (shape_of k).ex in
          let far : suc (shape_of k).ex + n ≡ turn.stage = omega (arith, at, a) in
          let index : x.by.index ≡ suc (shape_of k).ex + n = omega (arith, st, far) in
          let there : drop n (drop (suc (shape_of k).ex) (loaded_by k m)) ≡ Some x.by.token ∷ x.by.older = drop_drop (suc (shape_of k).ex) n (loaded_by k m) ∙ ap (λ i. drop i (loaded_by k m)) (sym index) ∙ x.by.rest in
          let placed = placed_rest k r 0 (suc (shape_of k).ex) (loaded_by k m) (drop (suc (shape_of k).ex) (loaded_by k m)) (B.loaded_placed k ready earlier m inv) refl in
          subst (λ l. Alike (drop (suc (shape_of k).ex) (loaded_by k m)) l) (sym (drop_cleared (suc (shape_of k).ex) n (loaded_by k m) (omega (arith, far, s, inside))) ∙ ap (λ i. drop (suc (shape_of k).ex) (cleared i (loaded_by k m))) far)
          (quiet k r (0 + suc (shape_of k).ex) n (drop (suc (shape_of k).ex) (loaded_by k m)) x.by.older x.by.token (omega arith) placed there q)

    by_entry : (b : Bool) → entered_by k m ≡ b → Alike (drop (suc (shape_of k).ex) (loaded_by k m)) (drop (suc (shape_of k).ex) (seen_by k m))
    by_entry false e = by_turn (turn_by k m) (sym (plain_turn k m e)) refl
    by_entry true e =
        let s = ap (λ o. struck o) (entry_turn k m e) in
        let inside = B.struck_inside k ready earlier m inv in
        subst (λ l. Alike (drop (suc (shape_of k).ex) (loaded_by k m)) l) (sym (cleared_drop (struck (turn_by k m)) (suc (shape_of k).ex) (loaded_by k m) (omega (arith, s)) inside)) (alike_all (drop (suc (shape_of k).ex) (loaded_by k m)))

  pub past_alike : Alike (drop (suc (shape_of k).ex) m.slots) (drop (suc (shape_of k).ex) (seen_by k m))
  past_alike =
      alike_trans (drop (suc (shape_of k).ex) m.slots) (drop (suc (shape_of k).ex) (loaded_by k m)) (drop (suc (shape_of k).ex) (seen_by k m))
      (B.loaded_from k ready earlier m inv (shape_of k).ex) kept_past

  -- and past a later stage
  pub later_alike : (n : ℕ) → (shape_of k).ex ≤ n → Alike (drop (suc n) m.slots) (drop (suc n) (seen_by k m))
  later_alike n le =
      let z : suc (shape_of k).ex + (n - (shape_of k).ex) ≡ suc n = omega (arith, le) in
      subst (λ l. Alike l (drop (suc n) (seen_by k m))) (drop_drop (suc (shape_of k).ex) (n - (shape_of k).ex) m.slots ∙ ap (λ i. drop i m.slots) z)
      (subst (λ l. Alike (drop (n - (shape_of k).ex) (drop (suc (shape_of k).ex) m.slots)) l) (drop_drop (suc (shape_of k).ex) (n - (shape_of k).ex) (seen_by k m) ∙ ap (λ i. drop i (seen_by k m)) z)
      (alike_drop (n - (shape_of k).ex) (drop (suc (shape_of k).ex) m.slots) (drop (suc (shape_of k).ex) (seen_by k m)) past_alike))

  future_there : IsFuture k r (paid_file m.owed m.future) (drop (suc (shape_of k).ex) (seen_by k m))
  future_there = alike_future k r (paid_file m.owed m.future) (drop (suc (shape_of k).ex) m.slots) (drop (suc (shape_of k).ex) (seen_by k m)) past_alike inv.future

  -- what leaves EX touches nothing that is owed, or that an older token spawns
  abbrev AreApart : Option Token → Slots → Type 0
  AreApart e gone = IfSome e (λ t. IsApart m.owed gone t × IsApart (machine_after k m).owed gone t)

  comes_apart : NoStops k 0 (seen_by k m) → (s : Option Token) (gone : Slots) → 0 < length gone → drop (shape_of k).ex (seen_by k m) ≡ s ∷ gone → Decided k (shape_of k).ex (s ∷ gone) → NoStops k (shape_of k).ex (s ∷ gone) → left_by k m ≡ leaving (going s) gone → AreApart (going s) gone
  comes_apart none None gone some at d n out = tt
  comes_apart none (Some t) gone some at d n out = by_hold (is_some t.cell.hold) refl out where
    here : IfSome (going (Some t)) (λ c. (shape_of k).rd < suc (shape_of k).ex → IsApart m.owed gone c)
    here =
        goes_apart k (interrupted_by k m) (outstanding_in k m) (unpaid_among (lasts_of k.design.plans) m.entries m.entries m.owed) (λ i h. unpaid_holder i (lasts_of k.design.plans) m.entries m.entries m.owed h) (shape_of k).ex t gone d n
        (meets_at (shape_of k) (interrupted_by k m) (outstanding_in k m) (shape_of k).ex (seen_by k m) gone t (seen_meets k m (B.struck_inside k ready earlier m inv)) at)
        (subst (λ b. Apart k m.owed b (Some t ∷ gone)) (let z : 0 + (shape_of k).ex ≡ (shape_of k).ex = omega arith in z) (apart_rest k m.owed 0 (shape_of k).ex (seen_by k m) (Some t ∷ gone) (seen_apart k ready earlier m row inv is) at))

    by_hold : (b : Bool) → is_some t.cell.hold ≡ b → left_by k m ≡ leaving (if b then None else Some t) gone → AreApart (if b then None else Some t) gone
    by_hold true e q = tt
    by_hold false e q =
        let lt = ready.rd_ex in
        let x : IsApart m.owed gone t = subst (λ (b : Bool). IfSome (if b then None else Some t) (λ c. (shape_of k).rd < suc (shape_of k).ex → IsApart m.owed gone c)) e here (omega (arith, lt)) in (
          x,
          stays_apart k (interrupted_by k m) (outstanding_in k m) (unpaid_among (lasts_of k.design.plans) m.entries m.entries m.owed) (λ i h. unpaid_holder i (lasts_of k.design.plans) m.entries m.entries m.owed h) gone gone (left_by k m) t x (λ i h. h)
              (λ i h. subst (λ o. SilentSlot (λ a. has_target a (register_at i)) o) (sym (q ∙ leaving_any (Some t) gone some)) (silent_leaving (λ a. has_target a (register_at i)) None gone tt h)),
        )

  writes : (e : Option Token) (gone : Slots) → IsPlacedSlot k (r + count gone) (expected k r (suc (shape_of k).ex) gone) (suc (shape_of k).ex) gone e → AreApart e gone → (reg : ℕ) → reg < 16
      → Executes k (r + count gone) reg e (get_or (paid_file (machine_after k m).owed (file_late (left_by k m) (file_paid (paid_by k m) m.future))) reg zero_bit) (get_or (paid_file (machine_after k m).owed (file_early e (file_late (left_by k m) (file_paid (paid_by k m) m.future)))) reg zero_bit)
  writes None gone h away reg few = refl
  writes (Some t) gone h away reg few =
      executes k ready earlier m row inv is reg few (r + count gone) (expected k r (suc (shape_of k).ex) gone) gone t (file_late (left_by k m) (file_paid (paid_by k m) m.future)) h (word_there k r gone t h)
      (λ used. away.1.entries (32 + reg) (omega (arith, few)) (ap (λ g. touches t.asks g) (sym (custom_at reg)) ∙ used))

  spawns : (e : Option Token) (gone : Slots) → AreApart e gone → Unspawned gone e
  spawns None gone away = tt
  spawns (Some t) gone away = λ reg few used. ap (λ g. oldest (λ (v : Token). has_target v.asks g) gone) (custom_at reg) ∙ away.0.tokens (32 + reg) (omega (arith, few)) (ap (λ g. touches t.asks g) (sym (custom_at reg)) ∙ used)

  -- the future file after the row, with its widths
  abbrev IsFileThen : Option Token → Slots → Type 0
  IsFileThen e slots = IsFuture k (r + one_more (left_by k m) 0) (paid_file (machine_after k m).owed (file_early e (file_late (left_by k m) (file_paid (paid_by k m) m.future)))) slots × AreWide (tree_of k) (file_early e (file_late (left_by k m) (file_paid (paid_by k m) m.future)))

  pub file_next : NoStops k 0 (seen_by k m) → IsFileThen (executed_by k m) (past_ex k (advanced None (seen_by k m)))
  file_next none =
      let l = seen_by k m in
      let n = (shape_of k).ex in
      let a = ready.ex_last in
      let long = B.seen_length k ready earlier m inv in
      let at = slot_of n l (omega (arith, long, a)) in
      let z : 0 + n ≡ n = omega arith in
      let seen = subst (λ b. AreSeen k r b (at.0 ∷ at.1)) z (seen_rest k r 0 n l (at.0 ∷ at.1) (B.seen_all k ready earlier m inv none) at.2) in
      let rest = seen_tail k r n at.0 at.1 seen in
      let gone_is : drop (suc n) l ≡ at.1 = drop_rest n l at.1 at.0 at.2 in
      let runs : executed_by k m ≡ going at.0 = ap (λ (o : Slots). going (first_slot o)) at.2 in
      let out : left_by k m ≡ leaving (going at.0) at.1 = leaving_drop n None l at.1 at.0 at.2 in
      let moved : past_ex k (advanced None l) ≡ advanced (going at.0) at.1 = drop_advanced n None l at.1 at.0 at.2 in
      let size = drop_length n l (omega (arith, long, a)) in
      let size' : n + length (at.0 ∷ at.1) ≡ length l = ap (λ (o : Slots). n + length o) (sym at.2) ∙ size in
      let leaves = subst (λ o. IsPlacedSlot k r (run k r).pc (shape_of k).stages [] o) out (R.left_placed k ready earlier m row inv is) in
      let comes = going_placed k ready r n at.0 at.1 seen in
      let apart = comes_apart none at.0 at.1 (omega (arith, size', long, a)) at.2 seen.decided seen.stops out in
      let file = future_advanced k ready r (going at.0) at.1 (omega (arith, size', long, a)) rest.decided rest.stops (free_ahead k r n at.0 at.1 seen.decided seen.stops) comes (paid_file m.owed m.future)
      (paid_file (machine_after k m).owed (file_late (left_by k m) (file_paid (paid_by k m) m.future))) (paid_file (machine_after k m).owed (file_early (going at.0) (file_late (left_by k m) (file_paid (paid_by k m) m.future))))
      (λ reg few. subst (λ o. Retires k r reg o (get_or (paid_file m.owed m.future) reg zero_bit) (get_or (paid_file (machine_after k m).owed (file_late (left_by k m) (file_paid (paid_by k m) m.future))) reg zero_bit)) out (retires k ready earlier m row inv is reg few))
      (λ reg few. writes (going at.0) at.1 comes apart reg few) (spawns (going at.0) at.1 apart) (subst (λ o. IsFuture k r (paid_file m.owed m.future) o) gone_is future_there) in
      let wide = wide_advanced k ready r (going at.0) at.1 (file_paid (paid_by k m) m.future) (paid_wide k ready earlier m inv) comes leaves in
      subst (λ o. IsFileThen (executed_by k m) o) (sym moved)
      (subst (λ e. IsFileThen e (advanced (going at.0) at.1)) (sym runs) (
        subst (λ e. IsFuture k (r + one_more e 0) (paid_file (machine_after k m).owed (file_early (going at.0) (file_late (left_by k m) (file_paid (paid_by k m) m.future)))) (advanced (going at.0) at.1)) (sym out) file,
        subst (λ e. AreWide (tree_of k) (file_early (going at.0) (file_late e (file_paid (paid_by k m) m.future)))) (sym out) wide,
      )) where
        drop_rest : (n : ℕ) (l rest : Slots) (s : Option Token) → drop n l ≡ s ∷ rest → drop (suc n) l ≡ rest
        drop_rest zero [] rest s e = cc
        drop_rest zero (x ∷ l) rest s e = ap (λ (o : Slots). drop 1 o) e
        drop_rest (suc n) [] rest s e = cc
        drop_rest (suc n) (x ∷ l) rest s e = drop_rest n l rest s e
