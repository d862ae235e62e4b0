-- After a row no two instructions owe one register, and no token past RD touches one that is owed.
use Rattle.std.proofs.Common.{◌≡◌, ◌∙◌, refl, sym, ap, subst, ℕ, zero, suc, ◌+◌, ◌<◌, List, [], ◌∷◌, ◌++◌, drop, Option, Some, None, Bool, true, false, inl, inr, arith}
use Rattle.std.specs.Prelude.{if◌then◌else◌, is_some, IfSome}
use Rattle.std.proofs.lemmas.Bool.{cases_lt}
use Rattle.rv_asks.specs.declared.asks.Asks.{Asks}
use Rattle.rv_trace.specs.declared.row.Row.{Row}
use Rattle.rv_unit.specs.declared.entry.Entry.{Entry}
use Rattle.rv_unit.specs.Entries.{does_write}
use Rattle.rv_unit.specs.Numbering.{lasts_of}
use Rattle.rv_tried.specs.declared.trial.Trial.{Trial}
use Rattle.rv_seq.specs.declared.answer.StepAnswer.{StepAnswer}
use Rattle.rv_seq.specs.declared.answer.StepAnswer.TheVariants.{Done, Stopped}
use Rattle.rv_holds.specs.declared.token.Token.{Token}
use Rattle.rv_holds.specs.Tokens.{Slots}
use Rattle.rv_holds.specs.Holds.{oldest, register_at, spawns_at}
use Rattle.rv_engine.specs.declared.owing.Owed.{Owed}
use Rattle.rv_engine.specs.Owing.{holder, unpaid_among, owed_by_entering, Outstanding}
use Rattle.rv_engine.specs.Settings.{Setting, Machine, shape_of, outstanding_in, interrupted_by}
use Rattle.rv_engine.specs.Rows.{waited, going, kept, advanced, leaving, fill_first, new_by, loaded_by, seen_by, turn_by, left_by, into_unit, owed_in, owed_tried, entering_of, machine_after, IsRowOf}
use Rattle.rv_holds.specs.Flushing.{struck}
use Rattle.rv_lawful.specs.Outstanding.{has_target, touches}
use Rattle.rv_lawful.specs.Sight.{asked}
use Rattle.rv_machine.specs.Owing.{Distinct, IsApart, Apart}
use Rattle.rv_machine.specs.Placed.{IsReady, Inv}
use Rattle.rv_machine.specs.Told.{Decided, NoStops}
use Rattle.rv_machine.proofs.Deciding.{own_none}
use Rattle.rv_machine.proofs.Moves.{SilentSlot, silent_parts, silent_going, silent_advanced, silent_behind}
use Rattle.rv_machine.proofs.Meeting.{MeetsSlot, Meets, seen_meets}
use Rattle.rv_machine.proofs.Apart.{holder_parts, holder_join, alike_apart, filled_apart, cleared_apart, leaves_reading}
use Rattle.rv_machine.proofs.RepaidNext.{left_apart}
use Rattle.rv_machine.proofs.Before as B
use Rattle.rv_machine.proofs.Retiring as R

-- ---- what is left of what is owed

pub unpaid_holder : (n : ℕ) (lasts : List ℕ) (all entries : List Entry) (owed : List Owed) → holder n owed ≡ None → holder n (unpaid_among lasts all entries owed) ≡ None
unpaid_holder n lasts all [] owed h = refl
unpaid_holder n lasts all (e ∷ entries) [] h = refl
unpaid_holder n lasts all (e ∷ entries) (w ∷ owed) h =
    let x = holder_parts n w owed h in
    by_case (does_write lasts all e) (unpaid_holder n lasts all entries owed x.1) x.0 where
      by_case : (b : Bool) → holder n (unpaid_among lasts all entries owed) ≡ None → has_target w.asks (register_at n) ≡ false → holder n (if b then unpaid_among lasts all entries owed else w ∷ unpaid_among lasts all entries owed) ≡ None
      by_case true rest e = rest
      by_case false rest e = holder_join n w (unpaid_among lasts all entries owed) e rest

unpaid_distinct : (lasts : List ℕ) (all entries : List Entry) (owed : List Owed) → Distinct owed → Distinct (unpaid_among lasts all entries owed)
unpaid_distinct lasts all [] owed h = tt
unpaid_distinct lasts all (e ∷ entries) [] h = tt
unpaid_distinct lasts all (e ∷ entries) (w ∷ owed) h = by_case (does_write lasts all e) (unpaid_distinct lasts all entries owed h.1) where
  by_case : (b : Bool) → Distinct (unpaid_among lasts all entries owed) → Distinct (if b then unpaid_among lasts all entries owed else w ∷ unpaid_among lasts all entries owed)
  by_case true rest = rest
  by_case false rest = (λ n few target. unpaid_holder n lasts all entries owed (h.0 n few target), rest)

-- what enters owes what its instruction spawns
abbrev EntersAs : Asks → Option (ℕ × Owed) → Type 0
EntersAs a None = Unit {0}
EntersAs a (Some enter) = enter.1.asks ≡ a

into_as : (a : Asks) (u : Option ℕ) (s : ℕ) (o : Option Trial) → EntersAs a (into_unit u (owed_tried s a o))
into_as a None s o = tt
into_as a (Some u) s None = tt
into_as a (Some u) s (Some trial) = by_answer trial.answer where
  by_answer : (y : StepAnswer) → EntersAs a (into_unit (Some u) (owed_in s a trial.own y))
  by_answer (Done c) = refl
  by_answer (Stopped stop) = tt

with_new : (n : ℕ) (t : Token) (rest : List Owed) → has_target t.asks (register_at n) ≡ false → holder n rest ≡ None → holder n (owed_by_entering (entering_of (Some t)) ++ rest) ≡ None
with_new n t rest e h = by_case (entering_of (Some t)) (into_as t.asks t.asks.unit t.cell.serial t.trial) where
  by_case : (o : Option (ℕ × Owed)) → EntersAs t.asks o → holder n (owed_by_entering o ++ rest) ≡ None
  by_case None x = h
  by_case (Some enter) x = holder_join n enter.1 rest (ap (λ (a : Asks). has_target a (register_at n)) x ∙ e) h

-- where what goes out spawns no such register
pub after_out : (n : ℕ) (o : Option Token) (rest : List Owed) → SilentSlot (λ a. has_target a (register_at n)) o → holder n rest ≡ None → holder n (owed_by_entering (entering_of o) ++ rest) ≡ None
after_out n None rest q h = h
after_out n (Some t) rest q h = with_new n t rest q h

pub silent_leaving : (g : Asks → Bool) (come : Option Token) (seen : Slots) → SilentSlot g come → oldest (λ t. g t.asks) seen ≡ None → SilentSlot g (leaving come seen)
silent_leaving g come [] c h = c
silent_leaving g come (s ∷ older) c h = let x = silent_parts g s older h in silent_leaving g (going s) older (silent_going g s x.0) x.1

-- ---- after the moves

module _ (k : Setting) (now : Bool) (o : Outstanding) (rest : List Owed) (unpaid_none : (n : ℕ) → holder n o.owed ≡ None → holder n rest ≡ None) where
  -- what comes to a stage is apart from these
  abbrev pub Comes : ℕ → Option Token → Slots → Type 0
  Comes stage come seen = IfSome come (λ c. (shape_of k).rd < stage → IsApart o.owed seen c)

  pub stays_apart : (older later : Slots) (out : Option Token) (t : Token) → IsApart o.owed older t → ((n : ℕ) → oldest (spawns_at n) older ≡ None → oldest (spawns_at n) later ≡ None) →
      ((n : ℕ) → oldest (spawns_at n) older ≡ None → SilentSlot (λ a. has_target a (register_at n)) out) → IsApart (owed_by_entering (entering_of out) ++ rest) later t
  stays_apart older later out t h moved silent = record {
    tokens = λ n few touched. moved n (h.tokens n few touched);
    entries = λ n few touched. after_out n out rest (silent n (h.tokens n few touched)) (unpaid_none n (h.entries n few touched));
  }

  pub goes_apart : (stage : ℕ) (t : Token) (older : Slots) → Decided k stage (Some t ∷ older) → NoStops k stage (Some t ∷ older) → MeetsSlot (shape_of k) now o stage (Some t) → Apart k o.owed stage (Some t ∷ older) → Comes (suc stage) (going (Some t)) older
  goes_apart stage t older d n meets h = by_hold (is_some t.cell.hold) refl where
    by_hold : (b : Bool) → is_some t.cell.hold ≡ b → Comes (suc stage) (if b then None else Some t) older
    by_hold true e = tt
    by_hold false e = λ lt. elim (cases_lt (shape_of k).rd stage) [
      | inl past ↦ h.0 past
      | inr more ↦
          let at : stage ≡ (shape_of k).rd = omega (arith, lt, more) in
          leaves_reading k o.owed stage t older at (ap (λ b. b.board) meets) (own_none (shape_of k) stage t older t.cell.hold d.0 e n.0)
    ]

  next_apart : (stage : ℕ) (come : Option Token) (seen : Slots) → Decided k stage seen → NoStops k stage seen → Meets (shape_of k) now o stage seen → Apart k o.owed stage seen → Comes stage come seen →
      (out : Option Token) → out ≡ leaving come seen → Apart k (owed_by_entering (entering_of out) ++ rest) stage (advanced come seen)
  next_apart stage come [] d n meets h c out is = tt
  next_apart stage come (None ∷ older) d n meets h c out is = put come c (next_apart (suc stage) None older d n meets.1 h tt out is) where
    put : (come : Option Token) → Comes stage come (None ∷ older) → Apart k (owed_by_entering (entering_of out) ++ rest) (suc stage) (advanced None older) → Apart k (owed_by_entering (entering_of out) ++ rest) stage (come ∷ advanced None older)
    put None c tail = tail
    put (Some t) c tail = (
      λ lt.
          stays_apart (None ∷ older) (advanced None older) out t (c lt) (λ i q. silent_behind (λ a. has_target a (register_at i)) None older q)
          (λ i q. subst (λ z. SilentSlot (λ a. has_target a (register_at i)) z) (sym is) (silent_leaving (λ a. has_target a (register_at i)) None older tt q)),
      tail,
    )
  next_apart stage come (Some u ∷ older) d n meets h c out is =
      put (next_apart (suc stage) (going (Some u)) older d.1 n.1 meets.1 h.1 (goes_apart stage u older d n meets.0 h) out is) where
        held_here : (shape_of k).rd < stage → (later : Slots) → ((i : ℕ) → oldest (spawns_at i) older ≡ None → oldest (spawns_at i) later ≡ None) → ((i : ℕ) → oldest (spawns_at i) older ≡ None → SilentSlot (λ a. has_target a (register_at i)) out) →
            IsApart (owed_by_entering (entering_of out) ++ rest) later (waited u)
        held_here lt later moved silent = let x = stays_apart older later out u (h.0 lt) moved silent in record { tokens = x.tokens; entries = x.entries }

        put : Apart k (owed_by_entering (entering_of out) ++ rest) (suc stage) (advanced (going (Some u)) older) → Apart k (owed_by_entering (entering_of out) ++ rest) stage (kept come (Some u) ∷ advanced (going (Some u)) older)
        put tail = by_hold (is_some u.cell.hold) is tail where
          come_put : (come : Option Token) → Comes stage come (Some u ∷ older) → out ≡ leaving (Some u) older → Apart k (owed_by_entering (entering_of out) ++ rest) (suc stage) (advanced (Some u) older) →
              Apart k (owed_by_entering (entering_of out) ++ rest) stage (come ∷ advanced (Some u) older)
          come_put None c q tail = tail
          come_put (Some t) c q tail = (
            λ lt.
                stays_apart (Some u ∷ older) (advanced (Some u) older) out t (c lt)
                (λ i e. let x = silent_parts (λ a. has_target a (register_at i)) (Some u) older e in silent_advanced (λ a. has_target a (register_at i)) (Some u) older x.0 x.1)
                (λ i e. let x = silent_parts (λ a. has_target a (register_at i)) (Some u) older e in subst (λ z. SilentSlot (λ a. has_target a (register_at i)) z) (sym q) (silent_leaving (λ a. has_target a (register_at i)) (Some u) older x.0 x.1)),
            tail,
          )

          by_hold : (b : Bool) → out ≡ leaving (if b then None else Some u) older → Apart k (owed_by_entering (entering_of out) ++ rest) (suc stage) (advanced (if b then None else Some u) older) →
              Apart k (owed_by_entering (entering_of out) ++ rest) stage ((if b then Some (waited u) else come) ∷ advanced (if b then None else Some u) older)
          by_hold true q tail = (
            λ lt.
                held_here lt (advanced None older) (λ i e. silent_advanced (λ a. has_target a (register_at i)) None older tt e)
                (λ i e. subst (λ z. SilentSlot (λ a. has_target a (register_at i)) z) (sym q) (silent_leaving (λ a. has_target a (register_at i)) None older tt e)),
            tail,
          )
          by_hold false q tail = come_put come c q tail

-- the slots from a stage on
pub apart_rest : (k : Setting) (owed : List Owed) (stage n : ℕ) (slots rest : Slots) → Apart k owed stage slots → drop n slots ≡ rest → Apart k owed (stage + n) rest
apart_rest k owed stage zero slots rest h e = subst (λ l. Apart k owed (stage + 0) l) e (subst (λ b. Apart k owed b slots) (let z : stage ≡ stage + 0 = omega arith in z) h)
apart_rest k owed stage (suc n) [] rest h e = subst (λ l. Apart k owed (stage + suc n) l) e tt
apart_rest k owed stage (suc n) (None ∷ older) rest h e = subst (λ b. Apart k owed b rest) (let z : suc stage + n ≡ stage + suc n = omega arith in z) (apart_rest k owed (suc stage) n older rest h e)
apart_rest k owed stage (suc n) (Some t ∷ older) rest h e = subst (λ b. Apart k owed b rest) (let z : suc stage + n ≡ stage + suc n = omega arith in z) (apart_rest k owed (suc stage) n older rest h.1 e)

-- ---- a row

module _ (k : Setting) (ready : IsReady k) (earlier : List Row) (m : Machine) (row : Row) (inv : Inv k earlier m) (is : IsRowOf k m row) where
  abbrev rest : List Owed
  rest = unpaid_among (lasts_of k.design.plans) m.entries m.entries m.owed

  pub seen_apart : Apart k m.owed 0 (seen_by k m)
  seen_apart =
      cleared_apart k m.owed 0 (struck (turn_by k m)) (loaded_by k m) (B.struck_inside k ready earlier m inv)
      (alike_apart k m.owed 0 (fill_first (new_by k m) m.slots) (loaded_by k m) (B.loaded_alike k ready earlier m inv) (filled_apart k m.owed (new_by k m) m.slots ready.rd_pos inv.apart))

  pub apart_next : NoStops k 0 (seen_by k m) → Apart k (machine_after k m).owed 0 (machine_after k m).slots
  apart_next none =
      next_apart k (interrupted_by k m) (outstanding_in k m) (unpaid_among (lasts_of k.design.plans) m.entries m.entries m.owed) (λ n h. unpaid_holder n (lasts_of k.design.plans) m.entries m.entries m.owed h) 0 None (seen_by k m)
      (B.seen_decided k ready earlier m inv) none (seen_meets k m (B.struck_inside k ready earlier m inv))
      seen_apart
      tt (left_by k m) refl

  -- what goes out owes no register that is owed
  new_distinct : (t : Token) → left_by k m ≡ Some t → Distinct (owed_by_entering (entering_of (Some t)) ++ unpaid_among (lasts_of k.design.plans) m.entries m.entries m.owed)
  new_distinct t e = by_case (entering_of (Some t)) (into_as t.asks t.asks.unit t.cell.serial t.trial) where
    older : Distinct (unpaid_among (lasts_of k.design.plans) m.entries m.entries m.owed)
    older = unpaid_distinct (lasts_of k.design.plans) m.entries m.entries m.owed inv.distinct

    placed : t.asks ≡ asked k.design t.cell.word
    placed = (R.left_is k ready earlier m row inv is t e).asks

    touched : (n : ℕ) → has_target t.asks (register_at n) ≡ true → touches t.asks (register_at n) ≡ true
    touched n h = ap (λ (a : Asks). touches a (register_at n)) placed ∙ ready.in_units.touching t.cell.word (register_at n) (ap (λ (a : Asks). has_target a (register_at n)) (sym placed) ∙ h)

    by_case : (o : Option (ℕ × Owed)) → EntersAs t.asks o → Distinct (owed_by_entering o ++ unpaid_among (lasts_of k.design.plans) m.entries m.entries m.owed)
    by_case None x = older
    by_case (Some enter) x = (
      λ n few target.
          unpaid_holder n (lasts_of k.design.plans) m.entries m.entries m.owed
          (left_apart k ready earlier m row inv is t e n few (touched n (ap (λ (a : Asks). has_target a (register_at n)) (sym x) ∙ target))),
      older,
    )

  pub distinct_next : Distinct (machine_after k m).owed
  distinct_next = by_left (left_by k m) refl where
    by_left : (s : Option Token) → left_by k m ≡ s → Distinct (owed_by_entering (entering_of (left_by k m)) ++ unpaid_among (lasts_of k.design.plans) m.entries m.entries m.owed)
    by_left None e = subst (λ s. Distinct (owed_by_entering (entering_of s) ++ unpaid_among (lasts_of k.design.plans) m.entries m.entries m.owed)) (sym e) (unpaid_distinct (lasts_of k.design.plans) m.entries m.entries m.owed inv.distinct)
    by_left (Some t) e = subst (λ s. Distinct (owed_by_entering (entering_of s) ++ unpaid_among (lasts_of k.design.plans) m.entries m.entries m.owed)) (sym e) (new_distinct t e)
