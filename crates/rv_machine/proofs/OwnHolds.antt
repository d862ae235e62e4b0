-- A token's own holds as they are decided are the first true ones.
use Rattle.std.proofs.Common.{◌≡◌, ◌≢◌, ℕ, zero, suc, ◌+◌, ◌-◌, ◌<◌, ◌≤◌, List, [], ◌∷◌, drop, get_or, Option, Some, None, Bool, true, false, refl, sym, ap, ◌∙◌, subst, arith, ◌⊎◌, inl, inr}
use Rattle.std.specs.Prelude.{◌&&◌, ◌||◌, not, if◌then◌else◌, ◌==◌, is_some, is_none, nat_lt, slice_get, min, max}
use Rattle.std.proofs.lemmas.Bool.{cases_lt}
use Rattle.std.proofs.lemmas.Bool.Decides.{nat_tests}
use Rattle.rv_trace.specs.declared.row.Cell.{Cell}
use Rattle.rv_trace.specs.declared.row.Hold.{Hold}
use Rattle.rv_trace.specs.declared.row.Hold.TheVariants.{Operand, Custom, Late, Drain, Wait, StoreAhead, Tail, Trap}
use Rattle.rv_trace.specs.declared.row.Row.{Row}
use Rattle.rv_trace.specs.Trace.{is_retired, place, retirements}
use Rattle.rv_trace.specs.RowParts.{IsOlder, ComesFirst}
use Rattle.rv_core.specs.declared.Shape.{Shape}
use Rattle.rv_seq.specs.declared.commit.Stop.{Stop}
use Rattle.rv_seq.specs.declared.answer.StepAnswer.{StepAnswer}
use Rattle.rv_seq.specs.declared.answer.StepAnswer.TheVariants.{Done, Stopped}
use Rattle.rv_tried.specs.declared.trial.Trial.{Trial}
use Rattle.rv_asks.specs.declared.asks.Asks.{Asks}
use Rattle.rv_waits.specs.Waits.{wait_at}
use Rattle.rv_holds.specs.declared.token.Beside.{Beside}
use Rattle.rv_holds.specs.declared.token.Token.{Token}
use Rattle.rv_lawful.specs.Entering.{is_interrupted}
use Rattle.rv_holds.specs.Tokens.{Slots, or_else, stop_in, tried_stop, stop_of, tried_access, makes_access, cells_of}
use Rattle.rv_holds.specs.Holds.{oldest, withholds, withholder, writes_late, does_store, is_late, operand, waits_for, operand_hold, custom, waits_for_custom, first_from, custom_hold, late, late_hold, waiting_hold, board_hold, drain, left_behind, drain_hold, store_ahead, store_hold, memory_hold, tail_hold, ending_hold, own_hold, stops_now, trap_hold, leaving_hold}
use Rattle.rv_engine.specs.Settings.{Setting, shape_of}
use Rattle.rv_lawful.specs.Settings as Lawful
use Rattle.rv_lawful.specs.Sight.{asked, IsEarly}
use Rattle.rv_lawful.specs.LawfulTrace.{IsWordOf, IsDueToStop, reads_of, WaitsForOperand, WaitsForCustom, WaitsForJump, WaitsToDrain, WaitsForMemory, WaitsForStore, WaitsForModule, OwnHold, StopsRun}
use Rattle.rv_machine.specs.Owing.{judged}
use Rattle.rv_machine.specs.Placed.{count, IsReady, IsTried, Placed, Serials}
use Rattle.rv_machine.specs.Told.{Told}
use Rattle.rv_machine.proofs.Deciding.{same_test, test_eq, test_ne, no_waiting}
use Rattle.rv_machine.proofs.Standing.{stands_older, cell_here, Has, OldestIs, oldest_is, all_three}
use Rattle.rv_machine.proofs.Older as O
use Rattle.rv_machine.proofs.Places.{older_lower}
use Rattle.rv_machine.proofs.BoardHolds.{board_where}
use Rattle.rv_machine.proofs.DrainHolds.{OldestLeft, left_behind_is}
use Rattle.rv_machine.proofs.UnitHolds.{from_ports as unit_from_ports}
use Rattle.rv_machine.proofs.Ordering.{operand_kind, custom_kind, late_kind, drain_kind, wait_kind, store_kind, module_kind, FirstOf, FirstFrom, joined, trap_kind, or_assoc, if_or, or_none}
use Rattle.rv_machine.proofs.Sixteen.{customs_few}

-- of some tokens, the first of which stands in this stage, one with this serial withholds the register
abbrev pub Withholds : Shape → ℕ → ℕ → Slots → ℕ → Type 0
Withholds k reg stage older j = (n : ℕ) × (u : Token) × (slice_get older n ≡ Some (Some u)) × (u.cell.serial ≡ j) × (withholds k reg (stage + n) u ≡ true)

-- the least serial of those for which it does
abbrev pub OldestWithholds : Shape → ℕ → ℕ → Slots → Option ℕ → Type 0
OldestWithholds k reg stage older None = (j : ℕ) → Withholds k reg stage older j → ⊥
OldestWithholds k reg stage older (Some i) = Withholds k reg stage older i × ((j : ℕ) → Withholds k reg stage older j → i ≤ j)

withholds_behind : (k : Shape) (reg stage : ℕ) (s : Option Token) (older : Slots) (j : ℕ) → Withholds k reg (suc stage) older j → Withholds k reg stage (s ∷ older) j
withholds_behind k reg stage s older j w =
    let z : suc stage + w.0 ≡ stage + suc w.0 = omega arith in
    (suc w.0, w.1, w.2, w.3, ap (λ n. withholds k reg n w.1) (sym z) ∙ w.4)

withholds_front : (k : Shape) (reg stage : ℕ) (t : Token) (older : Slots) (j : ℕ) → Withholds k reg stage (Some t ∷ older) j → ((t.cell.serial ≡ j) × (withholds k reg stage t ≡ true)) ⊎ Withholds k reg (suc stage) older j
withholds_front k reg stage t older j w = by_index w.0 w.2 w.4 where
  by_index : (n : ℕ) → slice_get (Some t ∷ older) n ≡ Some (Some w.1) → withholds k reg (stage + n) w.1 ≡ true → ((t.cell.serial ≡ j) × (withholds k reg stage t ≡ true)) ⊎ Withholds k reg (suc stage) older j
  by_index zero e q =
      let same : t ≡ w.1 = cc in
      let z : stage + 0 ≡ stage = omega arith in
      inl (ap (λ (u : Token). u.cell.serial) same ∙ w.3, ap (λ (u : Token). withholds k reg stage u) same ∙ ap (λ n. withholds k reg n w.1) (sym z) ∙ q)
  by_index (suc n) e q = (let z : suc stage + n ≡ stage + suc n = omega arith in inr (n, w.1, e, w.3, ap (λ i. withholds k reg i w.1) z ∙ q))

withholds_only : (k : Shape) (reg stage : ℕ) (older : Slots) (j : ℕ) → Withholds k reg stage (None ∷ older) j → Withholds k reg (suc stage) older j
withholds_only k reg stage older j w = by_index w.0 w.2 w.4 where
  by_index : (n : ℕ) → slice_get (None ∷ older) n ≡ Some (Some w.1) → withholds k reg (stage + n) w.1 ≡ true → Withholds k reg (suc stage) older j
  by_index zero e q = cc
  by_index (suc n) e q = (let z : suc stage + n ≡ stage + suc n = omega arith in (n, w.1, e, w.3, ap (λ i. withholds k reg i w.1) z ∙ q))

withholder_is : (rows : List Row) (r : ℕ) (k : Shape) (reg stage : ℕ) (older : Slots) → Serials rows r older → OldestWithholds k reg stage older (withholder k reg stage older)
withholder_is rows r k reg stage [] h = λ j w. cc (w.2)
withholder_is rows r k reg stage (None ∷ older) h = by_case (withholder k reg (suc stage) older) (withholder_is rows r k reg (suc stage) older h) where
  by_case : (o : Option ℕ) → OldestWithholds k reg (suc stage) older o → OldestWithholds k reg stage (None ∷ older) o
  by_case None g = λ j w. g j (withholds_only k reg stage older j w)
  by_case (Some i) g = (withholds_behind k reg stage None older i g.0, λ j w. g.1 j (withholds_only k reg stage older j w))
withholder_is rows r k reg stage (Some t ∷ older) h = by_case (withholder k reg (suc stage) older) (withholder_is rows r k reg (suc stage) older h.1) where
  last : (b : Bool) → withholds k reg stage t ≡ b → ((j : ℕ) → Withholds k reg (suc stage) older j → ⊥) → OldestWithholds k reg stage (Some t ∷ older) (if b then Some t.cell.serial else None)
  last true q g =
      let z : stage + 0 ≡ stage = omega arith in (
        (0, t, refl, refl, ap (λ n. withholds k reg n t) z ∙ q),
        λ j w. elim (withholds_front k reg stage t older j w) [ inl x ↦ omega (arith, x.0) | inr x ↦ absurd (g j x) ],
      )
  last false q g = λ j w. elim (withholds_front k reg stage t older j w) [ inl x ↦ cc (q, x.1) | inr x ↦ g j x ]

  by_case : (o : Option ℕ) → OldestWithholds k reg (suc stage) older o → OldestWithholds k reg stage (Some t ∷ older) (or_else o (if withholds k reg stage t then Some t.cell.serial else None))
  by_case None g = last (withholds k reg stage t) refl g
  by_case (Some i) g = (
    withholds_behind k reg stage (Some t) older i g.0,
    λ j w. elim (withholds_front k reg stage t older j w) [
      | inl x ↦
          let w0 = g.0 in
          let lt = older_lower rows r w0.0 t w0.1 older h w0.2 in
          let e = w0.3 in
          omega (arith, lt, e, x.0)
      | inr x ↦ g.1 j x
    ],
  )

-- what is waited for, of one register
abbrev pub WaitIs : Shape → ℕ → Slots → ℕ → Option Hold → Type 0
WaitIs k stage older reg None = (reg ≡ 0) ⊎ ((j : ℕ) → Withholds k reg stage older j → ⊥)
WaitIs k stage older reg (Some h) = (i : ℕ) × (h ≡ Operand reg i) × (reg ≢ 0) × Withholds k reg stage older i × ((j : ℕ) → Withholds k reg stage older j → i ≤ j)

operand_is : (k : Shape) (stage : ℕ) (older : Slots) (reg : ℕ) (o : Option ℕ) → reg ≢ 0 → OldestWithholds k reg stage older o → WaitIs k stage older reg (operand reg o)
operand_is k stage older reg None ne h = inr h
operand_is k stage older reg (Some i) ne h = (i, refl, ne, h.0, h.1)

wait_is : (rows : List Row) (r : ℕ) (k : Shape) (reg stage : ℕ) (older : Slots) → Serials rows r older → WaitIs k stage older reg (waits_for k reg stage older)
wait_is rows r k reg stage older h = by_case (reg == 0) refl where
  by_case : (b : Bool) → (reg == 0) ≡ b → WaitIs k stage older reg (if b then None else operand reg (withholder k reg stage older))
  by_case true e = inl (test_eq reg 0 e)
  by_case false e = operand_is k stage older reg (withholder k reg stage older) (test_ne reg 0 e) (withholder_is rows r k reg stage older h)

-- what a token that writes the register withholds: on a core that forwards, up to the time of the write
withholds_parts : (a f l : Bool) → (a && not (f && l)) ≡ true → (a ≡ true) × (f ≡ true → l ≡ false)
withholds_parts true true true h = cc
withholds_parts true true false h = (refl, λ e. refl)
withholds_parts true false l h = (refl, λ e. cc)
withholds_parts false f l h = cc

withholds_join : (a f l : Bool) → a ≡ true → (f ≡ true → l ≡ false) → (a && not (f && l)) ≡ true
withholds_join true true true e g = cc (g refl)
withholds_join true true false e g = refl
withholds_join true false l e g = refl
withholds_join false f l e g = cc

not_below : (a b : ℕ) → nat_lt a b ≡ false → b ≤ a
not_below a b h = grind (arith, nat_tests)

no_less : (a b : ℕ) → b ≤ a → nat_lt a b ≡ false
no_less a b h = grind (arith, nat_tests)

-- an early answer stops where the step does, and so
early_stop : (a : Asks) (x y : StepAnswer) (stop : Stop) → IsEarly a x y → y ≡ Stopped stop → stop_in x ≡ Some stop
early_stop a (Done c) (Done d) stop h e = cc
early_stop a (Done c) (Stopped other) stop h e = absurd h
early_stop a (Stopped s) (Done d) stop h e = absurd h
early_stop a (Stopped s) (Stopped other) stop h e = ap (λ q. Some q) h ∙ some_stop e where
  some_stop : Stopped other ≡ Stopped stop → Some other ≡ Some stop
  some_stop q = cc

stop_early : (a : Asks) (x y : StepAnswer) (stop : Stop) → IsEarly a x y → stop_in x ≡ Some stop → y ≡ Stopped stop
stop_early a (Done c) y stop h e = cc
stop_early a (Stopped s) (Done d) stop h e = absurd h
stop_early a (Stopped s) (Stopped other) stop h e = ap (λ q. Stopped q) (sym h ∙ same e) where
  same : ◌≡◌ {A = Option Stop} (Some s) (Some stop) → s ≡ stop
  same q = cc

-- a token in a stage, with what is told of the row
module _ (k : Setting) (ready : IsReady k) (earlier : List Row) (row : Row) (seen : Slots) (told : Told k earlier row seen) (stage : ℕ) (t : Token) (older : Slots)
    (rest : drop stage seen ≡ Some t ∷ older) (placed : Placed k (retirements earlier) stage (Some t ∷ older)) where
  -- the serials of the token and of the older ones
  pub ordered : Serials (row ∷ earlier) (retirements earlier) (Some t ∷ older)
  ordered = O.ordered k earlier row seen told stage t older rest

  is_older : (n : ℕ) (u : Token) → slice_get older n ≡ Some (Some u) → IsOlder (row ∷ earlier) t.cell.serial u.cell.serial
  is_older n u e = O.is_older k earlier row seen told stage t older rest n u e

  here_in : (n : ℕ) (u : Token) → slice_get older n ≡ Some (Some u) → slice_get seen (suc stage + n) ≡ Some (Some u)
  here_in n u e = O.here_in k earlier row seen told stage t older rest n u e

  asked_in : (n : ℕ) (u : Token) → slice_get older n ≡ Some (Some u) → u.asks ≡ asked k.design u.cell.word
  asked_in n u e = O.asked_in k earlier row seen told stage t older rest n u e

  past_flushed : (n : ℕ) → told.flushed ≤ suc stage + n
  past_flushed n = O.past_flushed k earlier row seen told stage t older rest n

  -- the word of an older token, by what is asked of it
  word_of : (f : Asks → Bool) (j : ℕ) → Has older (λ u. f u.asks) j → (word : ℕ) × IsWordOf (judged k) (row ∷ earlier) j word × (f (asked k.design word) ≡ true)
  word_of f j has = O.word_of k earlier row seen told stage t older rest f j has

  -- what is asked of the word of an older cell, among the older tokens
  from_word : (f : Asks → Bool) (j : ℕ) → IsOlder (row ∷ earlier) t.cell.serial j → is_retired earlier j ≡ false → (word : ℕ) → IsWordOf (judged k) (row ∷ earlier) j word → f (asked k.design word) ≡ true → Has older (λ u. f u.asks) j
  from_word f j o un word known e = O.from_word k earlier row seen told stage t older rest f j o un word known e

  older_of : (f : Asks → Bool) (j : ℕ) → Has older (λ u. f u.asks) j → IsOlder (row ∷ earlier) t.cell.serial j
  older_of f j has = O.older_of k earlier row seen told stage t older rest f j has

  unretired_of : (f : Asks → Bool) (j : ℕ) → Has older (λ u. f u.asks) j → is_retired earlier j ≡ false
  unretired_of f j has = O.unretired_of k earlier row seen told stage t older rest f j has

  -- Operands

  -- what waits for an operand, among the older tokens
  from_wait : (reg j : ℕ) → WaitsForOperand (judged k) earlier row stage t.cell reg j → Withholds (shape_of k) reg (suc stage) older j
  from_wait reg j w =
      let has = from_word (λ a. a.destination == reg) j w.older w.unretired w.writes.0 w.writes.1 (same_test (asked k.design w.writes.0).destination reg w.writes.2) in
      (has.0, has.1, has.2, has.3, withholds_join (has.1.asks.destination == reg) (shape_of k).forward (nat_lt has.1.asks.x_time (suc stage + has.0)) has.4 (λ on. late has.0 has.1 has.2 has.3 (w.withheld on))) where
        late : (n : ℕ) (u : Token) → slice_get older n ≡ Some (Some u) → u.cell.serial ≡ j → (at : ℕ) × (d : Cell) × Lawful.Stands (judged k) row at d × (d.serial ≡ j) × (at ≤ (asked k.design d.word).x_time) → nat_lt u.asks.x_time (suc stage + n) ≡ false
        late n u here same x =
            let stands = O.stands_one k earlier row seen told stage t older rest n u here x.0 x.1 x.2 (x.3 ∙ sym same) in
            let le = x.4 in
            let word = ap (λ (c : Cell). (asked k.design c.word).x_time) stands.1 ∙ ap (λ (a : Asks). a.x_time) (sym (asked_in n u here)) in
            let e = stands.0 in
            no_less u.asks.x_time (suc stage + n) (omega (arith, le, word, e))

  to_wait : (reg j : ℕ) → stage ≡ (shape_of k).rd → reads_of (asked k.design t.cell.word) reg ≡ true → Withholds (shape_of k) reg (suc stage) older j → WaitsForOperand (judged k) earlier row stage t.cell reg j
  to_wait reg j at reads w =
      let parts = withholds_parts (w.1.asks.destination == reg) (shape_of k).forward (nat_lt w.1.asks.x_time (suc stage + w.0)) w.4 in
      let writes : Has older (λ u. u.asks.destination == reg) j = (w.0, w.1, w.2, w.3, parts.0) in
      let word = word_of (λ a. a.destination == reg) j writes in
      record {
        reading = at;
        reads = reads;
        older = older_of (λ a. a.destination == reg) j writes;
        unretired = unretired_of (λ a. a.destination == reg) j writes;
        writes = (word.0, word.1, test_eq (asked k.design word.0).destination reg word.2);
        withheld = λ on. (
          suc stage + w.0,
          w.1.cell,
          told.cells (suc stage + w.0) (past_flushed w.0) ∙ cell_here seen (suc stage + w.0) w.1 (here_in w.0 w.1 w.2),
          w.3,
          subst (λ (a : Asks). suc stage + w.0 ≤ a.x_time) (asked_in w.0 w.1 w.2) (not_below w.1.asks.x_time (suc stage + w.0) (parts.1 on)),
        );
      }

  -- the operand that is waited for, by the reading of the instruction
  abbrev OperandIs : Option Hold → Type 0
  OperandIs None = (reg j : ℕ) → WaitsForOperand (judged k) earlier row stage t.cell reg j → ⊥
  OperandIs (Some h) =
      (reg : ℕ) × (i : ℕ) × (h ≡ Operand reg i) × WaitsForOperand (judged k) earlier row stage t.cell reg i
      × ((other j : ℕ) → WaitsForOperand (judged k) earlier row stage t.cell other j → (reg < other) ⊎ ((reg ≡ other) × (i ≤ j)))

  reads_two : (reg a b : ℕ) → (not (reg == 0) && ((reg == a) || (reg == b))) ≡ true → (reg ≢ 0) × ((reg ≡ min a b) ⊎ (reg ≡ max a b))
  reads_two reg a b h = by_case (reg == 0) (reg == a) (reg == b) refl refl refl h where
    first_part : reg ≡ a → (reg ≡ min a b) ⊎ (reg ≡ max a b)
    first_part e = elim (cases_lt b a) [ inl less ↦ inr (omega (arith, e, less)) | inr more ↦ inl (omega (arith, e, more)) ]

    second_part : reg ≡ b → (reg ≡ min a b) ⊎ (reg ≡ max a b)
    second_part e = elim (cases_lt b a) [ inl less ↦ inl (omega (arith, e, less)) | inr more ↦ inr (omega (arith, e, more)) ]

    by_case : (z p q : Bool) → (reg == 0) ≡ z → (reg == a) ≡ p → (reg == b) ≡ q → (not z && (p || q)) ≡ true → (reg ≢ 0) × ((reg ≡ min a b) ⊎ (reg ≡ max a b))
    by_case false true q ez ep eq e = (test_ne reg 0 ez, first_part (test_eq reg a ep))
    by_case false false true ez ep eq e = (test_ne reg 0 ez, second_part (test_eq reg b eq))
    by_case false false false ez ep eq e = cc
    by_case true p q ez ep eq e = cc

  least_reads : (reg a b : ℕ) → reg ≢ 0 → reg ≡ min a b → (not (reg == 0) && ((reg == a) || (reg == b))) ≡ true
  least_reads reg a b ne e = grind (arith, nat_tests)

  most_reads : (reg a b : ℕ) → reg ≢ 0 → reg ≡ max a b → (not (reg == 0) && ((reg == a) || (reg == b))) ≡ true
  most_reads reg a b ne e = grind (arith, nat_tests)

  -- no older token writes the register
  none_waits : (reg rs : ℕ) → reg ≢ 0 → reg ≡ rs → WaitIs (shape_of k) (suc stage) older rs None → (j : ℕ) → Withholds (shape_of k) reg (suc stage) older j → ⊥
  none_waits reg rs ne e (inl z) j b = ne (e ∙ z)
  none_waits reg rs ne e (inr f) j b = f j (subst (λ m. Withholds (shape_of k) m (suc stage) older j) e b)

  least_below : (reg a b : ℕ) → (reg ≡ min a b) ⊎ (reg ≡ max a b) → min a b ≤ reg
  least_below reg a b (inl e) = omega (arith, e)
  least_below reg a b (inr e) = omega (arith, e)

  -- two source registers
  two_sources : stage ≡ (shape_of k).rd → (a b : ℕ) → ((reg : ℕ) → reads_of (asked k.design t.cell.word) reg ≡ (not (reg == 0) && ((reg == a) || (reg == b)))) → (o p : Option Hold) → WaitIs (shape_of k) (suc stage) older (min a b) o → WaitIs (shape_of k) (suc stage) older (max a b) p → OperandIs (or_else o p)
  two_sources at a b reads None None u v = λ reg j w.
      let q = reads_two reg a b (sym (reads reg) ∙ w.reads) in
      elim q.1 [ inl e ↦ none_waits reg (min a b) q.0 e u j (from_wait reg j w) | inr e ↦ none_waits reg (max a b) q.0 e v j (from_wait reg j w) ]
  two_sources at a b reads None (Some h) u v = (
    max a b,
    v.0,
    v.1,
    to_wait (max a b) v.0 at (reads (max a b) ∙ most_reads (max a b) a b v.2 refl) v.3,
    λ other j w.
        let q = reads_two other a b (sym (reads other) ∙ w.reads) in
        let f = from_wait other j w in
        elim q.1 [
          | inl e ↦ absurd (none_waits other (min a b) q.0 e u j f)
          | inr e ↦ inr (sym e, v.4 j (subst (λ m. Withholds (shape_of k) m (suc stage) older j) e f))
        ],
  )
  two_sources at a b reads (Some h) p u v = (
    min a b,
    u.0,
    u.1,
    to_wait (min a b) u.0 at (reads (min a b) ∙ least_reads (min a b) a b u.2 refl) u.3,
    λ other j w.
        let q = reads_two other a b (sym (reads other) ∙ w.reads) in
        let f = from_wait other j w in
        let le = least_below other a b q.1 in
        elim (cases_lt (min a b) other) [
          | inl less ↦ inl less
          | inr more ↦
              let e : other ≡ min a b = omega (arith, le, more) in
              inr (sym e, u.4 j (subst (λ m. Withholds (shape_of k) m (suc stage) older j) e f))
        ],
  )

  operand_first : stage ≡ (shape_of k).rd → OperandIs (operand_hold (shape_of k) (suc stage) older t.asks)
  operand_first at =
      let a = t.asks.first in
      let b = t.asks.second in
      two_sources at a b (λ reg. ap (λ o. reads_of o reg) (sym placed.0.asks)) (waits_for (shape_of k) (min a b) (suc stage) older) (waits_for (shape_of k) (max a b) (suc stage) older)
      (wait_is (row ∷ earlier) (retirements earlier) (shape_of k) (min a b) (suc stage) older ordered.1) (wait_is (row ∷ earlier) (retirements earlier) (shape_of k) (max a b) (suc stage) older ordered.1)

  -- the first true hold of a kind

  abbrev Own : Hold → Type 0
  Own h = OwnHold (judged k) earlier row stage t.cell h

  abbrev Of : ℕ → Option Hold → Type 0
  Of n o = FirstOf (judged k) earlier row stage t.cell n o

  operand_of : (o : Option Hold) → OperandIs o → Of 0 o
  operand_of None u = λ h e own. let x = operand_kind h e in u x.0 x.1 (subst (λ y. Own y) x.2 own)
  operand_of (Some h) u =
      subst (λ y. Of 0 (Some y)) (sym u.2)
      (refl, u.3, λ g e own. let x = operand_kind g e in subst (λ y. ComesFirst (Operand u.0 u.1) y) (sym x.2) (inr (refl, u.4 x.0 x.1 (subst (λ y. Own y) x.2 own))))

  operand_where : Of 0 (if stage == (shape_of k).rd then operand_hold (shape_of k) (suc stage) older t.asks else None)
  operand_where = by_case (stage == (shape_of k).rd) refl where
    by_case : (b : Bool) → (stage == (shape_of k).rd) ≡ b → Of 0 (if b then operand_hold (shape_of k) (suc stage) older t.asks else None)
    by_case true e = operand_of (operand_hold (shape_of k) (suc stage) older t.asks) (operand_first (test_eq stage (shape_of k).rd e))
    by_case false e = λ h q own. let x = operand_kind h q in let w = subst (λ y. Own y) x.2 own in test_ne stage (shape_of k).rd e w.reading

  -- Custom registers

  from_custom : (reg j : ℕ) → WaitsForCustom (judged k) earlier row stage t.cell reg j → Has older (writes_late reg) j
  from_custom reg j w = from_word (λ a. get_or a.late_customs reg false) j w.older w.unretired w.writes.0 w.writes.1 w.writes.2

  to_custom : (reg j : ℕ) → stage ≡ (shape_of k).ex → get_or t.asks.customs reg false ≡ true → Has older (writes_late reg) j → WaitsForCustom (judged k) earlier row stage t.cell reg j
  to_custom reg j at uses writes =
      record {
        executing = at;
        uses = ap (λ (a : Asks). get_or a.customs reg false) (sym placed.0.asks) ∙ uses;
        older = older_of (λ a. get_or a.late_customs reg false) j writes;
        unretired = unretired_of (λ a. get_or a.late_customs reg false) j writes;
        writes = word_of (λ a. get_or a.late_customs reg false) j writes;
      }

  -- one register is waited for, and that of its least serial
  abbrev OneIs : ℕ → Option Hold → Type 0
  OneIs reg None = (j : ℕ) → WaitsForCustom (judged k) earlier row stage t.cell reg j → ⊥
  OneIs reg (Some h) =
      (i : ℕ) × (h ≡ Custom reg i) × WaitsForCustom (judged k) earlier row stage t.cell reg i
      × ((j : ℕ) → WaitsForCustom (judged k) earlier row stage t.cell reg j → i ≤ j)

  -- the least of so many registers from this one on
  abbrev CustomIs : ℕ → ℕ → Option Hold → Type 0
  CustomIs r n None = (reg j : ℕ) → r ≤ reg → reg < r + n → WaitsForCustom (judged k) earlier row stage t.cell reg j → ⊥
  CustomIs r n (Some h) =
      (reg : ℕ) × (i : ℕ) × (h ≡ Custom reg i) × WaitsForCustom (judged k) earlier row stage t.cell reg i × (r ≤ reg)
      × ((other j : ℕ) → r ≤ other → other < r + n → WaitsForCustom (judged k) earlier row stage t.cell other j → (reg < other) ⊎ ((reg ≡ other) × (i ≤ j)))

  one_custom : stage ≡ (shape_of k).ex → (reg : ℕ) → OneIs reg (waits_for_custom older t.asks reg)
  one_custom at reg = by_case (get_or t.asks.customs reg false) refl (oldest (writes_late reg) older) (oldest_is (row ∷ earlier) (retirements earlier) (writes_late reg) older ordered.1) where
    by_case : (b : Bool) → get_or t.asks.customs reg false ≡ b → (o : Option ℕ) → OldestIs older (writes_late reg) o → OneIs reg (if b then custom reg o else None)
    by_case true e None f = λ j w. f j (from_custom reg j w)
    by_case true e (Some i) f = (i, refl, to_custom reg i at e f.0, λ j w. f.1 j (from_custom reg j w))
    by_case false e o f = λ j w. cc (ap (λ (a : Asks). get_or a.customs reg false) placed.0.asks, w.uses, e)

  customs_are : stage ≡ (shape_of k).ex → (r n : ℕ) → CustomIs r n (first_from (waits_for_custom older t.asks) r n)
  customs_are at r zero = λ reg j le lt w. omega (arith, le, lt)
  customs_are at r (suc n) = by_one (waits_for_custom older t.asks r) (one_custom at r) (first_from (waits_for_custom older t.asks) (suc r) n) (customs_are at (suc r) n) where
    same : (a b j : ℕ) → a ≡ b → WaitsForCustom (judged k) earlier row stage t.cell a j → WaitsForCustom (judged k) earlier row stage t.cell b j
    same a b j e w = subst (λ q. WaitsForCustom (judged k) earlier row stage t.cell q j) e w

    by_one : (o : Option Hold) → OneIs r o → (p : Option Hold) → CustomIs (suc r) n p → CustomIs r (suc n) (or_else o p)
    by_one (Some h) x p y = (
      r,
      x.0,
      x.1,
      x.2,
      omega arith,
      λ other j le lt w. elim (cases_lt r other) [
        | inl less ↦ inl less
        | inr more ↦ let e : other ≡ r = omega (arith, le, more) in inr (sym e, x.3 j (same other r j e w))
      ],
    )
    by_one None x None y = λ reg j le lt w. elim (cases_lt r reg) [
      | inl less ↦ y reg j (omega (arith, less)) (omega (arith, lt)) w
      | inr more ↦ let e : reg ≡ r = omega (arith, le, more) in x j (same reg r j e w)
    ]
    by_one None x (Some h) y =
        let le' = y.4 in (
          y.0,
          y.1,
          y.2,
          y.3,
          omega (arith, le'),
          λ other j le lt w. elim (cases_lt r other) [
            | inl less ↦ y.5 other j (omega (arith, less)) (omega (arith, lt)) w
            | inr more ↦ let e : other ≡ r = omega (arith, le, more) in absurd (x j (same other r j e w))
          ],
        )

  few : (reg j : ℕ) → WaitsForCustom (judged k) earlier row stage t.cell reg j → reg < 0 + 16
  few reg j w = let lt = customs_few k.design t.cell.word reg w.uses in omega (arith, lt)

  custom_of : (o : Option Hold) → CustomIs 0 16 o → Of 2 o
  custom_of None u = λ h e own. let x = custom_kind h e in let w = subst (λ y. Own y) x.2 own in u x.0 x.1 (omega arith) (few x.0 x.1 w) w
  custom_of (Some h) u =
      subst (λ y. Of 2 (Some y)) (sym u.2) (
        refl,
        u.3,
        λ g e own.
            let x = custom_kind g e in
            let w = subst (λ y. Own y) x.2 own in
            subst (λ y. ComesFirst (Custom u.0 u.1) y) (sym x.2) (inr (refl, u.5 x.0 x.1 (omega arith) (few x.0 x.1 w) w)),
      )

  custom_where : Of 2 (if stage == (shape_of k).ex then custom_hold older t.asks else None)
  custom_where = by_case (stage == (shape_of k).ex) refl where
    by_case : (b : Bool) → (stage == (shape_of k).ex) ≡ b → Of 2 (if b then custom_hold older t.asks else None)
    by_case true e = custom_of (custom_hold older t.asks) (customs_are (test_eq stage (shape_of k).ex e) 0 16)
    by_case false e = λ h q own. let x = custom_kind h q in let w = subst (λ y. Own y) x.2 own in test_ne stage (shape_of k).ex e w.executing

  -- Late writes of the pc

  from_jump : (j : ℕ) → WaitsForJump (judged k) earlier row stage t.cell j → Has older is_late j
  from_jump j w = from_word (λ a. a.late) j w.older w.unretired w.jumps.0 w.jumps.1 w.jumps.2

  to_jump : (j : ℕ) → stage ≡ (shape_of k).ex → Has older is_late j → WaitsForJump (judged k) earlier row stage t.cell j
  to_jump j at jumps = record { executing = at; older = older_of (λ a. a.late) j jumps; unretired = unretired_of (λ a. a.late) j jumps; jumps = word_of (λ a. a.late) j jumps }

  late_of : stage ≡ (shape_of k).ex → (o : Option ℕ) → OldestIs older is_late o → Of 3 (late o)
  late_of at None f = λ h e own. let x = late_kind h e in f x.0 (from_jump x.0 (subst (λ y. Own y) x.1 own))
  late_of at (Some i) f = (
    refl,
    to_jump i at f.0,
    λ g e own.
        let x = late_kind g e in
        subst (λ y. ComesFirst (Late i) y) (sym x.1) (inr (refl, inr (refl, f.1 x.0 (from_jump x.0 (subst (λ y. Own y) x.1 own))))),
  )

  late_where : Of 3 (if stage == (shape_of k).ex then late_hold older else None)
  late_where = by_case (stage == (shape_of k).ex) refl where
    by_case : (b : Bool) → (stage == (shape_of k).ex) ≡ b → Of 3 (if b then late_hold older else None)
    by_case true e = late_of (test_eq stage (shape_of k).ex e) (oldest is_late older) (oldest_is (row ∷ earlier) (retirements earlier) is_late older ordered.1)
    by_case false e = λ h q own. let x = late_kind h q in let w = subst (λ y. Own y) x.1 own in test_ne stage (shape_of k).ex e w.executing

  -- Due to stop at EX

  -- the token waits for no register and no pc
  abbrev IsRipe : Type 0
  IsRipe = waiting_hold (shape_of k) stage t older ≡ None

  tried_here : stage ≡ (shape_of k).ex → IsRipe → (trial : Trial) × IsTried k (retirements earlier + count older) t trial
  tried_here at none = told.tried t older (ap (λ n. drop n seen) (sym at) ∙ rest) (ap (λ n. waiting_hold (shape_of k) n t older) (sym at) ∙ none)

  due_word : (stop : Stop) → stage ≡ (shape_of k).ex → IsRipe → IsDueToStop (judged k) (row ∷ earlier) t.cell stop → stop_of t ≡ Some stop
  due_word stop at none d =
      let x = tried_here at none in
      ap tried_stop x.1.tried
      ∙ early_stop t.asks x.0.answer ((judged k).course.answer (retirements earlier + count older)) stop x.1.early (ap (λ n. (judged k).course.answer n) (sym ordered.0.0) ∙ d)

  word_due : (stop : Stop) → stage ≡ (shape_of k).ex → IsRipe → stop_of t ≡ Some stop → IsDueToStop (judged k) (row ∷ earlier) t.cell stop
  word_due stop at none w =
      let x = tried_here at none in
      ap (λ n. (judged k).course.answer n) ordered.0.0
      ∙ stop_early t.asks x.0.answer ((judged k).course.answer (retirements earlier + count older)) stop x.1.early (sym (ap tried_stop x.1.tried) ∙ w)

  drain_of : (i : ℕ) → WaitsToDrain (judged k) earlier row stage t.cell i → ((j : ℕ) → WaitsToDrain (judged k) earlier row stage t.cell j → i ≤ j) → Of 5 (Some (Drain i))
  drain_of i w f = (
    refl,
    w,
    λ g e own. let x = drain_kind g e in subst (λ y. ComesFirst (Drain i) y) (sym x.1) (inr (refl, inr (refl, f x.0 (subst (λ y. Own y) x.1 own)))),
  )

  no_drain : ((j : ℕ) → WaitsToDrain (judged k) earlier row stage t.cell j → ⊥) → Of 5 None
  no_drain f = λ h e own. let x = drain_kind h e in f x.0 (subst (λ y. Own y) x.1 own)

  drain_left : stage ≡ (shape_of k).ex → IsRipe → (stop : Stop) → stop_of t ≡ Some stop → (o : Option ℕ) → OldestLeft k earlier row seen told stage t older rest o → Of 5 (drain o)
  drain_left at ripe stop w (Some i) x =
      drain_of i
      (record { executing = at; due = (stop, word_due stop at ripe w); older = x.0.older_than; left = x.0.left })
      (λ j d. x.1 j (record { older_than = d.older; left = d.left }))
  drain_left at ripe stop w None x = no_drain (λ j d. x j (record { older_than = d.older; left = d.left }))

  drain_where : IsRipe → Of 5 (if stage == (shape_of k).ex then drain_hold t older else None)
  drain_where ripe = by_case (stage == (shape_of k).ex) (stop_of t) refl refl where
    by_case : (b : Bool) (o : Option Stop) → (stage == (shape_of k).ex) ≡ b → stop_of t ≡ o → Of 5 (if b then (if is_some o then drain (left_behind t older) else None) else None)
    by_case true (Some stop) e w = drain_left (test_eq stage (shape_of k).ex e) ripe stop w (left_behind t older) (left_behind_is k earlier row seen told stage t older rest)
    by_case true None e w = no_drain (λ j d. cc (due_word d.due.0 d.executing ripe d.due.1, w))
    by_case false o e w = no_drain (λ j d. test_ne stage (shape_of k).ex e d.executing)

  -- Waits of the memory

  -- whether the step at the token's place accesses the memory
  pub access_here : stage ≡ (shape_of k).mem → (judged k).course.accesses (place (row ∷ earlier) t.cell.serial) ≡ makes_access t
  access_here at =
      let b = ready.ex_mem in
      let g = placed.0.gone (omega (arith, at, b)) in
      let i = placed.0.tried g.0 g.1 in
      ap (λ n. (judged k).course.accesses n) ordered.0.0 ∙ sym i.accesses ∙ sym (ap tried_access g.1)

  at_mem : stage ≡ (shape_of k).mem → drop (shape_of k).mem seen ≡ Some t ∷ older
  at_mem at = ap (λ n. drop n seen) (sym at) ∙ rest

  owed_here : stage ≡ (shape_of k).mem → told.owed ≡ wait_at k.waits (Lawful.accesses_before (judged k).course (place (row ∷ earlier) t.cell.serial)) - Lawful.stood (judged k) earlier t.cell.serial
  owed_here at =
      told.memory t older (at_mem at)
      ∙ ap (λ n. wait_at k.waits (Lawful.accesses_before (judged k).course n) - Lawful.stood (judged k) earlier t.cell.serial) (sym ordered.0.0)

  if_access : (b : Bool) (m n : ℕ) → b ≡ true → m ≡ (if b then n else 0) → m ≡ n
  if_access true m n e h = h
  if_access false m n e h = cc

  accesses_if : (b : Bool) (m n : ℕ) → m ≡ (if b then n else 0) → 0 < m → (b ≡ true) × (m ≡ n)
  accesses_if true m n h lt = (refl, h)
  accesses_if false m n h lt = absurd (omega (arith, h, lt))

  none_owed : stage ≡ (shape_of k).mem → t.wait ≡ 0 → (left : ℕ) → WaitsForMemory (judged k) earlier row stage t.cell left → ⊥
  none_owed at nothing left w =
      let e = if_access (makes_access t) t.wait told.owed (sym (access_here at) ∙ w.accesses) (told.awaits t older (at_mem at)) in
      let o = owed_here at in
      let still = w.still in
      let some = w.some in
      omega (arith, nothing, e, o, still, some)

  some_owed : stage ≡ (shape_of k).mem → 0 < t.wait → WaitsForMemory (judged k) earlier row stage t.cell t.wait
  some_owed at lt =
      let x = accesses_if (makes_access t) t.wait told.owed (told.awaits t older (at_mem at)) lt in
      let o = owed_here at in
      record { waiting = at; accesses = access_here at ∙ x.0; still = omega (arith, x.1, o, lt); some = lt }

  above_zero : (n : ℕ) → (n == 0) ≡ false → 0 < n
  above_zero n e = grind (arith, nat_tests)

  no_wait : ((left : ℕ) → WaitsForMemory (judged k) earlier row stage t.cell left → ⊥) → Of 6 None
  no_wait f = λ h e own. let x = wait_kind h e in f x.0 (subst (λ y. Own y) x.1 own)

  wait_where : Of 6 (if stage == (shape_of k).mem then memory_hold t else None)
  wait_where = by_case (stage == (shape_of k).mem) (t.wait == 0) refl refl where
    by_case : (b c : Bool) → (stage == (shape_of k).mem) ≡ b → (t.wait == 0) ≡ c → Of 6 (if b then (if c then None else Some (Wait t.wait)) else None)
    by_case true true e z = no_wait (none_owed (test_eq stage (shape_of k).mem e) (test_eq t.wait 0 z))
    by_case true false e z = (
      refl,
      some_owed (test_eq stage (shape_of k).mem e) (above_zero t.wait z),
      λ g q own. let x = wait_kind g q in subst (λ y. ComesFirst (Wait t.wait) y) (sym x.1) (inr (refl, inr (refl, omega arith))),
    )
    by_case false c e z = no_wait (λ left w. test_ne stage (shape_of k).mem e w.waiting)

  -- Stores ahead

  from_store : (j : ℕ) → WaitsForStore (judged k) earlier row stage t.cell j → Has older does_store j
  from_store j w =
      let n = later_index w.stands.0 w.stands.2 in
      let at : slice_get (cells_of older) n.0 ≡ Some (Some w.stands.1) =
      sym (stands_older k row seen older (Some t) stage n.0 (told.cells (suc stage + n.0) (past_flushed n.0)) rest) ∙ ap (λ i. slice_get (Lawful.stages_of (judged k) row) i) n.1 ∙ w.stands.3 in
      let u = cell_token older n.0 w.stands.1 at in
      (n.0, u.0, u.1, ap (λ (c : Cell). c.serial) u.2 ∙ w.stands.4, ap (λ (a : Asks). a.stores) (asked_in n.0 u.0 u.1) ∙ ap (λ (c : Cell). (asked k.design c.word).stores) u.2 ∙ w.stands.5) where
        later_index : (later : ℕ) → stage < later → (n : ℕ) × (suc stage + n ≡ later)
        later_index later lt = (later - suc stage, omega (arith, lt))

        cell_token : (l : Slots) (n : ℕ) (c : Cell) → slice_get (cells_of l) n ≡ Some (Some c) → (u : Token) × (slice_get l n ≡ Some (Some u)) × (u.cell ≡ c)
        cell_token [] n c e = cc
        cell_token (None ∷ l) zero c e = cc
        cell_token (Some u ∷ l) zero c e = (u, refl, cc)
        cell_token (s ∷ l) (suc n) c e = cell_token l n c e

  to_store : (j : ℕ) → stage ≡ (shape_of k).mem → t.asks.loads ≡ true → Has older does_store j → WaitsForStore (judged k) earlier row stage t.cell j
  to_store j at loads h =
      record {
        loading = at;
        loads = sym (ap (λ (a : Asks). a.loads) placed.0.asks) ∙ loads;
        older = subst (λ s. IsOlder (row ∷ earlier) t.cell.serial s) h.3 (is_older h.0 h.1 h.2);
        stands = (
          suc stage + h.0,
          h.1.cell,
          omega arith,
          told.cells (suc stage + h.0) (past_flushed h.0) ∙ cell_here seen (suc stage + h.0) h.1 (here_in h.0 h.1 h.2),
          h.3,
          sym (ap (λ (a : Asks). a.stores) (asked_in h.0 h.1 h.2)) ∙ h.4,
        );
      }

  no_ahead : ((j : ℕ) → WaitsForStore (judged k) earlier row stage t.cell j → ⊥) → Of 7 None
  no_ahead f = λ h e own. let x = store_kind h e in f x.0 (subst (λ y. Own y) x.1 own)

  store_of : stage ≡ (shape_of k).mem → (o : Option ℕ) → OldestIs older does_store o → t.asks.loads ≡ true → Of 7 (store_ahead o)
  store_of at None f loads = no_ahead (λ j w. f j (from_store j w))
  store_of at (Some i) f loads = (
    refl,
    to_store i at loads f.0,
    λ g e own. let x = store_kind g e in subst (λ y. ComesFirst (StoreAhead i) y) (sym x.1) (inr (refl, inr (refl, f.1 x.0 (from_store x.0 (subst (λ y. Own y) x.1 own))))),
  )

  store_where : Of 7 (if stage == (shape_of k).mem then store_hold older t.asks else None)
  store_where = by_case (stage == (shape_of k).mem) t.asks.loads refl refl where
    by_case : (b c : Bool) → (stage == (shape_of k).mem) ≡ b → t.asks.loads ≡ c → Of 7 (if b then (if c then store_ahead (oldest does_store older) else None) else None)
    by_case true true e l = store_of (test_eq stage (shape_of k).mem e) (oldest does_store older) (oldest_is (row ∷ earlier) (retirements earlier) does_store older ordered.1) l
    by_case true false e l = no_ahead (λ j w. cc (ap (λ (a : Asks). a.loads) placed.0.asks ∙ w.loads, l))
    by_case false c e l = no_ahead (λ j w. test_ne stage (shape_of k).mem e w.loading)

  -- Modules

  module_here : t.tail + Lawful.tailed (judged k) earlier t.cell.serial ≡ (asked k.design t.cell.word).tail
  module_here = told.modules stage t older rest ∙ ap (λ (a : Asks). a.tail) placed.0.asks

  no_module : ((left : ℕ) → WaitsForModule (judged k) earlier row stage t.cell left → ⊥) → Of 8 None
  no_module f = λ h e own. let x = module_kind h e in f x.0 (subst (λ y. Own y) x.1 own)

  module_done : t.tail ≡ 0 → (left : ℕ) → WaitsForModule (judged k) earlier row stage t.cell left → ⊥
  module_done z left w = let a = w.still in let b = w.some in let c = module_here in omega (arith, a, b, c, z)

  module_where : Of 8 (if suc stage == (shape_of k).stages then tail_hold t else None)
  module_where = by_case (suc stage == (shape_of k).stages) (t.tail == 0) refl refl where
    by_case : (b c : Bool) → (suc stage == (shape_of k).stages) ≡ b → (t.tail == 0) ≡ c → Of 8 (if b then (if c then None else Some (Tail t.tail)) else None)
    by_case true true e z = no_module (module_done (test_eq t.tail 0 z))
    by_case true false e z = (
      refl,
      record { last = test_eq (suc stage) (shape_of k).stages e; still = module_here; some = above_zero t.tail z },
      λ g q own. let x = module_kind g q in subst (λ y. ComesFirst (Tail t.tail) y) (sym x.1) (inr (refl, inr (refl, omega arith))),
    )
    by_case false c e z = no_module (λ left w. test_ne (suc stage) (shape_of k).stages e w.last)

  -- Interrupts

  trap_here : t.beside.trap ≡ is_interrupted (judged k) earlier
  trap_here = ap (λ (b : Beside). b.trap) (told.beside.meets stage t older rest)

  trap_where : Of 4 (if stage == (shape_of k).ex then trap_hold t else None)
  trap_where = by_case (stage == (shape_of k).ex) t.beside.trap refl refl where
    by_case : (b c : Bool) → (stage == (shape_of k).ex) ≡ b → t.beside.trap ≡ c → Of 4 (if b then (if c then Some Trap else None) else None)
    by_case true true e z = (
      refl,
      record { executing = test_eq stage (shape_of k).ex e; interrupted = sym trap_here ∙ z },
      λ g q own. subst (λ y. ComesFirst Trap y) (sym (trap_kind g q)) (inr (refl, inr (refl, omega arith))),
    )
    by_case true false e z = λ h q own. let w = subst (λ y. Own y) (trap_kind h q) own in cc (sym w.interrupted ∙ sym trap_here, z)
    by_case false c e z = λ h q own. let w = subst (λ y. Own y) (trap_kind h q) own in test_ne stage (shape_of k).ex e w.executing

  -- The first of a cell's own holds

  abbrev operands : Option Hold
  operands = if stage == (shape_of k).rd then operand_hold (shape_of k) (suc stage) older t.asks else None

  abbrev boards : Option Hold
  boards = if stage == (shape_of k).rd then board_hold t older else None

  abbrev customs : Option Hold
  customs = if stage == (shape_of k).ex then custom_hold older t.asks else None

  abbrev jumps : Option Hold
  jumps = if stage == (shape_of k).ex then late_hold older else None

  abbrev traps : Option Hold
  traps = if stage == (shape_of k).ex then trap_hold t else None

  abbrev drains : Option Hold
  drains = if stage == (shape_of k).ex then drain_hold t older else None

  abbrev waits : Option Hold
  waits = if stage == (shape_of k).mem then memory_hold t else None

  abbrev stores : Option Hold
  stores = if stage == (shape_of k).mem then store_hold older t.asks else None

  abbrev modules : Option Hold
  modules = if suc stage == (shape_of k).stages then tail_hold t else None

  abbrev ports : Option Hold
  ports = if suc stage == (shape_of k).stages then t.beside.port else None

  abbrev ends : Option Hold
  ends = if suc stage == (shape_of k).stages then ending_hold t else None

  abbrev later : Option Hold
  later = or_else drains (or_else waits (or_else stores (or_else modules ports)))

  waiting_is : waiting_hold (shape_of k) stage t older ≡ or_else operands (or_else boards (or_else customs jumps))
  waiting_is =
      ap (λ o. or_else o (if stage == (shape_of k).ex then or_else (custom_hold older t.asks) (late_hold older) else None)) (if_or (stage == (shape_of k).rd) (operand_hold (shape_of k) (suc stage) older t.asks) (board_hold t older))
      ∙ ap (λ o. or_else (or_else operands boards) o) (if_or (stage == (shape_of k).ex) (custom_hold older t.asks) (late_hold older))
      ∙ or_assoc operands boards (or_else customs jumps)

  waiting_none : operands ≡ None → boards ≡ None → customs ≡ None → jumps ≡ None → IsRipe
  waiting_none a w b c = waiting_is ∙ or_none operands (or_else boards (or_else customs jumps)) a ∙ or_none boards (or_else customs jumps) w ∙ or_none customs jumps b ∙ c

  ends_are : ends ≡ or_else modules ports
  ends_are = if_or (suc stage == (shape_of k).stages) (tail_hold t) t.beside.port

  own_order : own_hold (shape_of k) stage t older ≡ or_else operands (or_else boards (or_else customs (or_else jumps (or_else traps later))))
  own_order =
      ap (λ o. or_else (waiting_hold (shape_of k) stage t older) (or_else o (or_else (if stage == (shape_of k).mem then or_else (memory_hold t) (store_hold older t.asks) else None) ends))) (if_or (stage == (shape_of k).ex) (trap_hold t) (drain_hold t older))
      ∙ ap (λ o. or_else (waiting_hold (shape_of k) stage t older) o) (or_assoc traps drains (or_else (if stage == (shape_of k).mem then or_else (memory_hold t) (store_hold older t.asks) else None) ends))
      ∙ ap (λ o. or_else (waiting_hold (shape_of k) stage t older) (or_else traps (or_else drains (or_else o ends)))) (if_or (stage == (shape_of k).mem) (memory_hold t) (store_hold older t.asks))
      ∙ ap (λ o. or_else (waiting_hold (shape_of k) stage t older) (or_else traps (or_else drains o))) (or_assoc waits stores ends)
      ∙ ap (λ o. or_else (waiting_hold (shape_of k) stage t older) (or_else traps (or_else drains (or_else waits (or_else stores o))))) ends_are
      ∙ ap (λ o. or_else o (or_else traps later)) waiting_is
      ∙ or_assoc operands (or_else boards (or_else customs jumps)) (or_else traps later)
      ∙ ap (λ o. or_else operands o) (or_assoc boards (or_else customs jumps) (or_else traps later))
      ∙ ap (λ o. or_else operands (or_else boards o)) (or_assoc customs jumps (or_else traps later))

  abbrev From : ℕ → Option Hold → Type 0
  From n o = FirstFrom (judged k) earlier row stage t.cell n o

  from_ports : From 9 ports
  from_ports = unit_from_ports k ready earlier row seen told stage t older rest placed

  from_drains : IsRipe → From 5 later
  from_drains ripe =
      joined (judged k) earlier row stage t.cell 5 drains (or_else waits (or_else stores (or_else modules ports))) (drain_where ripe)
      (λ d. joined (judged k) earlier row stage t.cell 6 waits (or_else stores (or_else modules ports)) wait_where
      (λ w. joined (judged k) earlier row stage t.cell 7 stores (or_else modules ports) store_where
      (λ s. joined (judged k) earlier row stage t.cell 8 modules ports module_where (λ e. from_ports))))

  own_is : From 0 (own_hold (shape_of k) stage t older)
  own_is =
      subst (λ o. From 0 o) (sym own_order)
      (joined (judged k) earlier row stage t.cell 0 operands (or_else boards (or_else customs (or_else jumps (or_else traps later)))) operand_where
      (λ a. joined (judged k) earlier row stage t.cell 1 boards (or_else customs (or_else jumps (or_else traps later))) (board_where k ready earlier row seen told stage t older rest placed)
      (λ n. joined (judged k) earlier row stage t.cell 2 customs (or_else jumps (or_else traps later)) custom_where
      (λ b. joined (judged k) earlier row stage t.cell 3 jumps (or_else traps later) late_where
      (λ c. joined (judged k) earlier row stage t.cell 4 traps later trap_where
      (λ m. from_drains (waiting_none a n b c)))))))

  pub own_free : (h : Hold) → own_hold (shape_of k) stage t older ≡ Some h → OwnHold (judged k) earlier row stage t.cell h × ((g : Hold) → OwnHold (judged k) earlier row stage t.cell g → ComesFirst h g)
  own_free h e = let x : From 0 (Some h) = subst (λ o. From 0 o) e own_is in (x.0, λ g o. x.1 g (omega arith) o)

  pub own_nothing : own_hold (shape_of k) stage t older ≡ None → (h : Hold) → OwnHold (judged k) earlier row stage t.cell h → ⊥
  own_nothing e h o = let x : From 0 None = subst (λ o. From 0 o) e own_is in x h (omega arith) o

  -- Stopping the run

  ripe_of : own_hold (shape_of k) stage t older ≡ None → IsRipe
  ripe_of h = no_waiting (shape_of k) stage t older h

  pub stops_then : (stop : Stop) → StopsRun (judged k) earlier row stage t.cell stop → stops_now (shape_of k) stage t older ≡ true
  stops_then stop s = by_case (own_hold (shape_of k) stage t older) refl where
    by_case : (o : Option Hold) → own_hold (shape_of k) stage t older ≡ o → ((stage == (shape_of k).ex) && is_some (stop_of t) && is_none (own_hold (shape_of k) stage t older)) ≡ true
    by_case None q =
        all_three (stage == (shape_of k).ex) (is_some (stop_of t)) (is_none (own_hold (shape_of k) stage t older)) (same_test stage (shape_of k).ex s.executing) (ap (λ o. is_some o) (due_word stop s.executing (ripe_of q) s.due)) (ap (λ o. is_none o) q)
    by_case (Some h) q = absurd (s.free h (own_free h q).0)

  pub then_stops : stops_now (shape_of k) stage t older ≡ true → (stop : Stop) × (stop_of t ≡ Some stop) × StopsRun (judged k) earlier row stage t.cell stop
  then_stops h = by_case (stage == (shape_of k).ex) (stop_of t) (own_hold (shape_of k) stage t older) refl refl refl h where
    by_case : (b : Bool) (o : Option Stop) (p : Option Hold) → (stage == (shape_of k).ex) ≡ b → stop_of t ≡ o → own_hold (shape_of k) stage t older ≡ p → (b && is_some o && is_none p) ≡ true → (stop : Stop) × (stop_of t ≡ Some stop) × StopsRun (judged k) earlier row stage t.cell stop
    by_case true (Some stop) None e w q x = (stop, w, record { executing = test_eq stage (shape_of k).ex e; due = word_due stop (test_eq stage (shape_of k).ex e) (ripe_of q) w; free = own_nothing q })
    by_case true (Some stop) (Some p) e w q x = cc
    by_case true None p e w q x = cc
    by_case false o p e w q x = cc
