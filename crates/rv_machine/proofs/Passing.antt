-- What the tokens of a row pass on of a register, once its holds are decided and its loads have read, is what their steps write.
use Rattle.std.proofs.Common.{◌≡◌, ◌≢◌, ℕ, suc, ◌+◌, ◌<◌, ◌≤◌, [], ◌∷◌, Option, Some, None, Bool, true, false, refl, sym, ap, ◌∙◌, subst, arith, inl, inr}
use Rattle.std.specs.Prelude.{◌&&◌, ◌||◌, not, if◌then◌else◌, ◌==◌, is_some, is_none, nat_lt}
use Rattle.std.proofs.lemmas.Bool.{cases_lt}
use Rattle.std.proofs.lemmas.Bool.Decides.{nat_tests}
use Rattle.rv_core.specs.declared.Shape.{Shape}
use Rattle.rv_trace.specs.declared.row.Hold.{Hold}
use Rattle.rv_tried.specs.declared.trial.Trial.{Trial}
use Rattle.rv_holds.specs.declared.token.Token.{Token}
use Rattle.rv_holds.specs.Tokens.{Slots, stop_of}
use Rattle.rv_holds.specs.Forwarding.{x_tried, reach}
use Rattle.rv_holds.specs.Holds.{waiting_hold, own_hold, stops_now, shown}
use Rattle.rv_engine.specs.Settings.{Setting, shape_of}
use Rattle.rv_lawful.specs.Forwarding.{x_written, reach_of, is_there}
use Rattle.rv_machine.specs.Placed.{count, expected, IsPlaced, Placed, IsReady}
use Rattle.rv_machine.specs.Told.{Decided}
use Rattle.rv_machine.proofs.Deciding.{is_none_of, own_none, no_waiting}
use Rattle.rv_machine.proofs.Forwarding.{PassesSlot, Passes, token_passes, past_passes, time_late}
use Rattle.rv_machine.proofs.Loading.{LoadedSlot, Loaded}
use Rattle.rv_machine.proofs.Ripe.{RipeSlot, Ripe}
use Rattle.rv_machine.proofs.Runs.{answer}

-- a token that shows no hold waits for nothing, whether it stops the run or not
free_waiting : (k : Shape) (stage : ℕ) (t : Token) (older : Slots) → t.cell.hold ≡ shown k stage t older → t.cell.hold ≡ None → waiting_hold k stage t older ≡ None
free_waiting k stage t older d e = by_stop (stops_now k stage t older) refl where
  parts : (a b : Bool) (o : Option Hold) → (a && b && is_none o) ≡ true → o ≡ None
  parts true true None h = refl
  parts true true (Some x) h = cc
  parts true false o h = cc
  parts false b o h = cc

  by_stop : (b : Bool) → stops_now k stage t older ≡ b → waiting_hold k stage t older ≡ None
  by_stop true q = no_waiting k stage t older (parts (stage == k.ex) (is_some (stop_of t)) (own_hold k stage t older) q)
  by_stop false q = no_waiting k stage t older (own_none k stage t older t.cell.hold d (ap (λ o. is_some o) e) q)

-- what a token has been through by the end of a row
reach_held : (stage : ℕ) (o : Option Hold) → is_some o ≡ true → reach_of stage o ≡ stage
reach_held stage (Some h) e = refl
reach_held stage None e = cc

reach_free : (stage : ℕ) (o : Option Hold) → o ≡ None → reach_of stage o ≡ suc stage
reach_free stage None e = refl
reach_free stage (Some h) e = cc

less : (a b : ℕ) → nat_lt a b ≡ true → a < b
less a b h = grind (arith, nat_tests)

is_less : (a b : ℕ) → a < b → nat_lt a b ≡ true
is_less a b h = grind (arith, nat_tests)

at_least : (a b : ℕ) → nat_lt a b ≡ false → b ≤ a
at_least a b h = grind (arith, nat_tests)

-- a value that is there by the end of a row of what goes on, and was not there before it
there_now : (a b loads m : Bool) → a ≡ false → (a || (b && (not loads || m))) ≡ true → (b ≡ true) × ((loads ≡ true) → m ≡ true)
there_now true b loads m e h = cc
there_now false true true true e h = (refl, λ q. refl)
there_now false true true false e h = cc
there_now false true false m e h = (refl, λ q. cc)
there_now false false loads m e h = cc

or_left : (a b : Bool) → a ≡ true → (a || b) ≡ true
or_left true b e = refl
or_left false b e = cc

and_there : (a b loads m : Bool) → b ≡ true → (loads ≡ true → m ≡ true) → (a || (b && (not loads || m))) ≡ true
and_there true b loads m e f = refl
and_there false true true m e f = f refl
and_there false true false m e f = refl
and_there false false loads m e f = cc

module _ (k : Setting) (ready : IsReady k) (p address stage : ℕ) (older : Slots) (t : Token) (here : IsPlaced k p address stage older t) (decided : t.cell.hold ≡ shown (shape_of k) stage t older)
    (loaded : LoadedSlot k p stage (Some t)) (ripe : RipeSlot k stage (Some t) older) where
  x_of : (trial : Trial) → t.trial ≡ Some trial → x_written trial.answer ≡ x_written (answer k p) → x_tried t.trial ≡ x_written (answer k p)
  x_of trial e same = ap x_tried e ∙ same

  -- one that goes on from EX, and does not load
  from_execute : stage ≡ (shape_of k).ex → t.cell.hold ≡ None → (t.asks.loads ≡ true → (shape_of k).mem < suc stage) → x_tried t.trial ≡ x_written (answer k p)
  from_execute at free past =
      by_trial t.trial refl (ripe at (free_waiting (shape_of k) stage t older decided free)) where
        by_trial : (o : Option Trial) → t.trial ≡ o → is_some o ≡ true → x_tried t.trial ≡ x_written (answer k p)
        by_trial None e s = cc
        by_trial (Some trial) e s =
            let later = ready.ex_mem in
            x_of trial e (ap x_written (here.exact trial e (λ l. let lt = past l in absurd (omega (arith, lt, at, later)))).answer)

  -- one that goes on from a stage behind EX
  from_later : (shape_of k).ex < stage → t.cell.hold ≡ None → (t.asks.loads ≡ true → (shape_of k).mem < suc stage) → x_tried t.trial ≡ x_written (answer k p)
  from_later lt free past = elim (cases_lt (shape_of k).mem stage) [
    | inl over ↦ exactly (λ l. over)
    | inr low ↦ at_or_before low
  ] where
    exactly : (t.asks.loads ≡ true → (shape_of k).mem < stage) → x_tried t.trial ≡ x_written (answer k p)
    exactly f = let g = here.gone lt in x_of g.0 g.1 (ap x_written (here.exact g.0 g.1 f).answer)

    by_loads : (b : Bool) → t.asks.loads ≡ b → stage ≤ (shape_of k).mem → x_tried t.trial ≡ x_written (answer k p)
    by_loads false e low = exactly (λ l. absurd (cc (e, l)))
    by_loads true e low =
        let reaches = past e in
        let at : stage ≡ (shape_of k).mem = omega (arith, low, reaches) in
        let g = here.gone lt in
        x_of g.0 g.1 (ap x_written (loaded at (ap (λ o. is_some o) free) g.0 g.1).answer)

    at_or_before : stage ≤ (shape_of k).mem → x_tried t.trial ≡ x_written (answer k p)
    at_or_before low = by_loads t.asks.loads refl low

  -- what is there by the end of the row is what the step writes
  now_passes : PassesSlot k true p stage (Some t)
  now_passes there ne = by_hold t.cell.hold refl where
    by_hold : (o : Option Hold) → t.cell.hold ≡ o → x_tried t.trial ≡ x_written (answer k p)
    by_hold (Some h) e = token_passes k ready p address stage older t here (sym (ap (λ n. is_there (shape_of k) stage n t.asks) (reach_held stage t.cell.hold (ap (λ o. is_some o) e))) ∙ there) ne
    by_hold None e = by_time (nat_lt t.asks.x_time stage) refl where
      free : is_there (shape_of k) stage (suc stage) t.asks ≡ true
      free = sym (ap (λ n. is_there (shape_of k) stage n t.asks) (reach_free stage t.cell.hold e)) ∙ there

      by_time : (b : Bool) → nat_lt t.asks.x_time stage ≡ b → x_tried t.trial ≡ x_written (answer k p)
      by_time true q =
          let late = time_late k ready p address stage older t here ne in
          let early = less t.asks.x_time stage q in
          past_passes k ready p address stage older t here (omega (arith, late, early)) (or_left (nat_lt t.asks.x_time stage) (nat_lt (shape_of k).ex stage && (not t.asks.loads || nat_lt (shape_of k).mem stage)) q) ne
      by_time false q =
          let both = there_now (nat_lt t.asks.x_time stage) (nat_lt (shape_of k).ex (suc stage)) t.asks.loads (nat_lt (shape_of k).mem (suc stage)) q free in
          let reaches = less (shape_of k).ex (suc stage) both.0 in
          elim (cases_lt (shape_of k).ex stage) [
            | inl lt ↦ from_later lt e (λ l. less (shape_of k).mem (suc stage) (both.1 l))
            | inr le ↦ from_execute (omega (arith, le, reaches)) e (λ l. less (shape_of k).mem (suc stage) (both.1 l))
          ]

-- so it is of each token
pub seen_passes : (k : Setting) (ready : IsReady k) (r stage : ℕ) (slots : Slots) → Placed k r stage slots → Decided k stage slots → Loaded k r stage slots → Ripe k stage slots → Passes k true r stage slots
seen_passes k ready r stage [] h d l w = tt
seen_passes k ready r stage (None ∷ older) h d l w = (tt, seen_passes k ready r (suc stage) older h.1 d l.1 w.1)
seen_passes k ready r stage (Some t ∷ older) h d l w = (
  now_passes k ready (r + count older) (expected k r (suc stage) older) stage older t h.0 d.0 l.0 w.0,
  seen_passes k ready r (suc stage) older h.1 d.1 l.1 w.1,
)
