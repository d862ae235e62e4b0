-- The holds of a cell at RD: an operand that is not there yet, and an outstanding register.
use Rattle.std.proofs.Common.{◌≡◌, ◌≢◌, ℕ, ◌+◌, ◌<◌, ◌≤◌, List, ◌∷◌, Option, Some, None, Bool, true, false, refl, sym, ap, ◌∙◌, subst, arith, ◌⊎◌, inl, inr}
use Rattle.std.specs.Prelude.{◌&&◌, ◌||◌, not, if◌then◌else◌, ◌==◌, nat_lt, slice_get, min, max}
use Rattle.std.specs.Option.{option_or}
use Rattle.std.proofs.lemmas.Bool.{cases_lt}
use Rattle.std.proofs.lemmas.Bool.Decides.{nat_tests}
use Rattle.ix_plan.specs.declared.design.Target.{Target}
use Rattle.ix_plan.specs.declared.design.Target.TheVariants as target
use Rattle.rv_asks.specs.declared.asks.Asks.{Asks}
use Rattle.rv_trace.specs.declared.row.Cell.{Cell}
use Rattle.rv_trace.specs.declared.row.Hold.{Hold}
use Rattle.rv_trace.specs.declared.row.Hold.TheVariants.{Operand, Board}
use Rattle.rv_trace.specs.declared.row.Row.{Row}
use Rattle.rv_trace.specs.Trace.{has_serial, is_retired}
use Rattle.rv_trace.specs.RowParts.{ComesFirst}
use Rattle.rv_lawful.specs.Settings.{Setting, Stands}
use Rattle.rv_lawful.specs.Outstanding.{has_target, touches, is_written}
use Rattle.rv_lawful.specs.LawfulTrace.{IsWordOf, reads_of, WaitsForOperand, WaitsForWrite}
use Rattle.rv_rows.specs.Kinds.{upper, OwnMarked}
use Rattle.rv_rows.proofs.Upper.{stands_up, stands_down, flushed_up}
use Rattle.rv_rows.specs.declared.known.Known.{Known}
use Rattle.rv_rows.specs.declared.known.Owed.{Owed}
use Rattle.rv_rows.specs.Known.{owed_of}
use Rattle.rv_holdings.specs.declared.want.Want.TheVariants as want
use Rattle.rv_holdings.specs.Expected.{Older, instructions_above, oldest, first_owed, operand, waits_for, operand_hold, register_at, spawner, board, board_at, board_hold, first_from, register_count}
use Rattle.rv_holdings.proofs.Above.{Meets, OldestIs, oldest_is, both, and_both, not_below, no_less}
use Rattle.rv_holdings.proofs.Past.{unflushed_both}
use Rattle.rv_holdings.proofs.Beside.{Owes, FirstOwes, first_owes}
use Rattle.rv_holdings.proofs.FirstFrom.{registers}
use Rattle.rv_holdings.proofs.Least.{OneIs, first_is}
use Rattle.rv_holdings.proofs.Numbered.{Numbered, made, board_of}
use Rattle.rv_holdings.proofs.Ordering.{operand_kind, board_kind, FirstIn, one_kind}
use Rattle.rv_holdings.proofs.Judged.{IsJudged, one_place, word_before, ascending, of_owed, to_owed, of_listed, falls, above_zero, older_of, unretired_of, word_of, from_word, owed_older, owed_first}
use Rattle.rv_holdings.proofs.Tests.{same_number, number_same, differs, differ, not_true, not_false, true_not}

withholds_parts : (a f l : Bool) → (a && not (f && l)) ≡ true → (a ≡ true) × (f ≡ true → l ≡ false)
withholds_parts true true true h = cc
withholds_parts true true false h = (refl, λ e. refl)
withholds_parts true false l h = (refl, λ e. cc)
withholds_parts false f l h = cc

withholds_join : (a f l : Bool) → a ≡ true → (f ≡ true → l ≡ false) → (a && not (f && l)) ≡ true
withholds_join true true true e g = cc (g refl)
withholds_join true true false e g = refl
withholds_join true false l e g = refl
withholds_join false f l e g = cc

reads_two : (reg a b : ℕ) → (not (reg == 0) && ((reg == a) || (reg == b))) ≡ true → (reg ≢ 0) × ((reg ≡ min a b) ⊎ (reg ≡ max a b))
reads_two reg a b h = by_case (reg == 0) (reg == a) (reg == b) refl refl refl h where
  first_part : reg ≡ a → (reg ≡ min a b) ⊎ (reg ≡ max a b)
  first_part e = elim (cases_lt b a) [ inl less ↦ inr (omega (arith, e, less)) | inr more ↦ inl (omega (arith, e, more)) ]

  second_part : reg ≡ b → (reg ≡ min a b) ⊎ (reg ≡ max a b)
  second_part e = elim (cases_lt b a) [ inl less ↦ inl (omega (arith, e, less)) | inr more ↦ inr (omega (arith, e, more)) ]

  by_case : (z p q : Bool) → (reg == 0) ≡ z → (reg == a) ≡ p → (reg == b) ≡ q → (not z && (p || q)) ≡ true → (reg ≢ 0) × ((reg ≡ min a b) ⊎ (reg ≡ max a b))
  by_case false true q ez ep eq e = (differs reg 0 ez, first_part (same_number reg a ep))
  by_case false false true ez ep eq e = (differs reg 0 ez, second_part (same_number reg b eq))
  by_case false false false ez ep eq e = cc
  by_case true p q ez ep eq e = cc

least_reads : (reg a b : ℕ) → reg ≢ 0 → reg ≡ min a b → (not (reg == 0) && ((reg == a) || (reg == b))) ≡ true
least_reads reg a b ne e = grind (arith, nat_tests)

most_reads : (reg a b : ℕ) → reg ≢ 0 → reg ≡ max a b → (not (reg == 0) && ((reg == a) || (reg == b))) ≡ true
most_reads reg a b ne e = grind (arith, nat_tests)

least_below : (reg a b : ℕ) → (reg ≡ min a b) ⊎ (reg ≡ max a b) → min a b ≤ reg
least_below reg a b (inl e) = omega (arith, e)
least_below reg a b (inr e) = omega (arith, e)

module _ (k : Setting) (earlier : List Row) (row : Row) (known : Known) (owed : List Owed) (is : IsJudged k earlier row known owed) (stage : ℕ) (c : Cell) (stands : Stands k row stage c) where
  abbrev older : Older
  older = instructions_above k.shape row known stage

  abbrev a : Asks
  a = k.asks c.word

  abbrev Own : Hold → Type 0
  Own h = OwnMarked k earlier row stage c h

  above_rd : stage ≡ k.shape.rd → 0 < stage
  above_rd at = let p = is.plain.rd_pos in omega (arith, p, at)

  -- Operands

  abbrev Waits : ℕ → ℕ → Type 0
  Waits r j = WaitsForOperand k earlier (upper row) stage c r j

  abbrev Withholds : ℕ → ℕ → Type 0
  Withholds r j = Meets k.shape row (want.Operand r) 0 older j

  from_wait : (up : 0 < stage) → (r j : ℕ) → Waits r j → Withholds r j
  from_wait up r j w =
      let m = from_word k earlier row known owed is stage c up stands (λ b. b.destination == r) j w.older w.unretired w.writes.0 w.writes.1 (number_same (k.asks w.writes.0).destination r w.writes.2) in
      (m.0, m.1, m.2, m.3, withholds_join (m.1.asks.destination == r) k.shape.forward (nat_lt m.1.asks.x_time (0 + m.0)) m.4 (λ on. late m.0 m.1 m.2 m.3 (w.withheld on))) where
        late : (n : ℕ) (o : Owed) → slice_get older n ≡ Some (Some o) → o.serial ≡ j → (at : ℕ) × (d : Cell) × Stands k (upper row) at d × (d.serial ≡ j) × (at ≤ (k.asks d.word).x_time) → nat_lt o.asks.x_time (0 + n) ≡ false
        late n o e s x =
            let y = of_listed k earlier row known owed is stage c up stands n o e in
            let t = stands_down k row x.0 x.1 x.2 in
            let z = one_place k earlier row known owed is x.0 n x.1 y.cell t.0 (above_zero k earlier row known owed is stage c up stands n o e) t.1 y.stands (x.3 ∙ sym s ∙ y.serial) in
            let word : (k.asks x.1.word).x_time ≡ o.asks.x_time = ap (λ (d : Cell). (k.asks d.word).x_time) z.1 ∙ ap (λ (b : Asks). b.x_time) (sym y.asks) in
            let le = x.4 in
            let same = z.0 in
            no_less o.asks.x_time (0 + n) (omega (arith, le, word, same))

  to_wait : (up : 0 < stage) → (r j : ℕ) → stage ≡ k.shape.rd → reads_of a r ≡ true → Withholds r j → Waits r j
  to_wait up r j at reads m = subst (λ s. Waits r s) m.3 here where
    e : slice_get older m.0 ≡ Some (Some m.1)
    e = m.2

    parts : ((m.1.asks.destination == r) ≡ true) × (k.shape.forward ≡ true → nat_lt m.1.asks.x_time (0 + m.0) ≡ false)
    parts = withholds_parts (m.1.asks.destination == r) k.shape.forward (nat_lt m.1.asks.x_time (0 + m.0)) m.4

    word : (v : ℕ) × IsWordOf k (upper row ∷ earlier) m.1.serial v × (((k.asks v).destination == r) ≡ true)
    word = word_of k earlier row known owed is stage c up stands (λ b. b.destination == r) m.0 m.1 e parts.0

    held : k.shape.forward ≡ true → (at : ℕ) × (d : Cell) × Stands k (upper row) at d × (d.serial ≡ m.1.serial) × (at ≤ (k.asks d.word).x_time)
    held on =
        let y = of_listed k earlier row known owed is stage c up stands m.0 m.1 e in
        let le = not_below m.1.asks.x_time (0 + m.0) (parts.1 on) in
        let same = ap (λ (b : Asks). b.x_time) y.asks in
        (m.0, y.cell, stands_up k row m.0 y.cell (above_zero k earlier row known owed is stage c up stands m.0 m.1 e) y.stands, sym y.serial, omega (arith, le, same))

    here : Waits r m.1.serial
    here =
        record {
          reading = at;
          reads = reads;
          older = older_of k earlier row known owed is stage c up stands m.0 m.1 e;
          unretired = unretired_of k earlier row known owed is stage c up stands m.0 m.1 e;
          writes = (word.0, word.1, same_number (k.asks word.0).destination r word.2);
          withheld = held;
        }

  -- what is waited for, of one register
  abbrev WaitIs : ℕ → Option Hold → Type 0
  WaitIs r None = (r ≡ 0) ⊎ ((j : ℕ) → Withholds r j → ⊥)
  WaitIs r (Some h) = (i : ℕ) × (h ≡ Operand r i) × (r ≢ 0) × Withholds r i × ((j : ℕ) → Withholds r j → i ≤ j)

  wait_is : (up : 0 < stage) → (r : ℕ) → WaitIs r (waits_for k.shape row r older)
  wait_is up r = by_case (r == 0) refl where
    operand_is : (o : Option ℕ) → r ≢ 0 → OldestIs k.shape row (want.Operand r) 0 older o → WaitIs r (operand r o)
    operand_is None ne h = inr h
    operand_is (Some i) ne h = (i, refl, ne, h.0, h.1)

    by_case : (b : Bool) → (r == 0) ≡ b → WaitIs r (if b then None else operand r (oldest k.shape row (want.Operand r) 0 older))
    by_case true e = inl (same_number r 0 e)
    by_case false e = operand_is (oldest k.shape row (want.Operand r) 0 older) (differs r 0 e) (oldest_is k.shape row (want.Operand r) 0 older (falls k earlier row known owed is stage c up stands))

  abbrev OperandIs : Option Hold → Type 0
  OperandIs None = (r j : ℕ) → Waits r j → ⊥
  OperandIs (Some h) = (r : ℕ) × (i : ℕ) × (h ≡ Operand r i) × Waits r i × ((other j : ℕ) → Waits other j → (r < other) ⊎ ((r ≡ other) × (i ≤ j)))

  none_waits : (r s : ℕ) → r ≢ 0 → r ≡ s → WaitIs s None → (j : ℕ) → Withholds r j → ⊥
  none_waits r s ne e (inl z) j b = ne (e ∙ z)
  none_waits r s ne e (inr f) j b = f j (subst (λ m. Withholds m j) e b)

  two_sources : (up : 0 < stage) → stage ≡ k.shape.rd → (o p : Option Hold) → WaitIs (min a.first a.second) o → WaitIs (max a.first a.second) p → OperandIs (option_or o p)
  two_sources up at None None u v = λ r j w.
      let q = reads_two r a.first a.second w.reads in
      elim q.1 [ inl e ↦ none_waits r (min a.first a.second) q.0 e u j (from_wait up r j w) | inr e ↦ none_waits r (max a.first a.second) q.0 e v j (from_wait up r j w) ]
  two_sources up at None (Some h) u v = (
    max a.first a.second,
    v.0,
    v.1,
    to_wait up (max a.first a.second) v.0 at (most_reads (max a.first a.second) a.first a.second v.2 refl) v.3,
    λ other j w.
        let q = reads_two other a.first a.second w.reads in
        let f = from_wait up other j w in
        elim q.1 [
          | inl e ↦ absurd (none_waits other (min a.first a.second) q.0 e u j f)
          | inr e ↦ inr (sym e, v.4 j (subst (λ m. Withholds m j) e f))
        ],
  )
  two_sources up at (Some h) p u v = (
    min a.first a.second,
    u.0,
    u.1,
    to_wait up (min a.first a.second) u.0 at (least_reads (min a.first a.second) a.first a.second u.2 refl) u.3,
    λ other j w.
        let q = reads_two other a.first a.second w.reads in
        let f = from_wait up other j w in
        let le = least_below other a.first a.second q.1 in
        elim (cases_lt (min a.first a.second) other) [
          | inl less ↦ inl less
          | inr more ↦
              let e : other ≡ min a.first a.second = omega (arith, le, more) in
              inr (sym e, u.4 j (subst (λ m. Withholds m j) e f))
        ],
  )

  operand_of : (o : Option Hold) → OperandIs o → FirstIn Own 0 1 o
  operand_of None u = λ h n m own. let x = operand_kind h (one_kind 0 _ n m) in u x.0 x.1 (subst (λ y. Own y) x.2 own)
  operand_of (Some h) u =
      subst (λ y. FirstIn Own 0 1 (Some y)) (sym u.2) (
        omega arith,
        omega arith,
        u.3,
        λ g n m own. let x = operand_kind g (one_kind 0 _ n m) in subst (λ y. ComesFirst (Operand u.0 u.1) y) (sym x.2) (inr (refl, u.4 x.0 x.1 (subst (λ y. Own y) x.2 own))),
      )

  pub operand_where : FirstIn Own 0 1 (operand_hold k.shape row stage a older)
  operand_where = by_case (stage == k.shape.rd) refl where
    by_case : (b : Bool) → (stage == k.shape.rd) ≡ b → FirstIn Own 0 1 (if b then option_or (waits_for k.shape row (min a.first a.second) older) (waits_for k.shape row (max a.first a.second) older) else None)
    by_case true e =
        let at = same_number stage k.shape.rd e in
        let up = above_rd at in
        operand_of (option_or (waits_for k.shape row (min a.first a.second) older) (waits_for k.shape row (max a.first a.second) older))
        (two_sources up at (waits_for k.shape row (min a.first a.second) older) (waits_for k.shape row (max a.first a.second) older) (wait_is up (min a.first a.second)) (wait_is up (max a.first a.second)))
    by_case false e = λ h n m own. let x = operand_kind h (one_kind 0 _ n m) in let w = subst (λ y. Own y) x.2 own in differs stage k.shape.rd e w.reading

  -- Outstanding registers

  abbrev Writes : Target → ℕ → Type 0
  Writes t j = WaitsForWrite k earlier (upper row) stage c t j

  abbrev IsSpawned : ℕ → ℕ → Type 0
  IsSpawned n j = Owes row (Some n) owed j ⊎ Meets k.shape row (want.Board n) 0 older j

  from_write : (up : 0 < stage) → (n j : ℕ) → Writes (register_at n) j → IsSpawned n j
  from_write up n j w = by_case (is_retired earlier j) refl where
    f : Asks → Bool
    f b = has_target b (register_at n)

    by_case : (b : Bool) → is_retired earlier j ≡ b → IsSpawned n j
    by_case true e =
        let v = w.spawns.0 in
        let known_word = word_before k earlier row known owed is j v e w.spawns.1 in
        let fl = unflushed_both row earlier j (sym (flushed_up row earlier j) ∙ w.older.unflushed) in
        let there = is.owing.owed j v e fl.1 known_word (is.owing.spawning v (register_at n) w.spawns.2) w.unwritten in
        inl (owed_of k (j, v), to_owed k earlier row known owed is (j, v) there, refl, and_both (not (has_serial row.flushed j)) (f (k.asks v)) (not_false (has_serial row.flushed j) fl.0) w.spawns.2)
    by_case false e = inr (from_word k earlier row known owed is stage c up stands f j w.older e w.spawns.0 w.spawns.1 w.spawns.2)

  to_write : (up : 0 < stage) → (n j : ℕ) → stage ≡ k.shape.rd → touches a (register_at n) ≡ true → IsSpawned n j → Writes (register_at n) j
  to_write up n j at t (inl x) =
      let o = x.0 in
      let p = both (not (has_serial row.flushed o.serial)) (has_target o.asks (register_at n)) x.3 in
      let d = of_owed k earlier row known owed is o x.1 in
      let s : d.0.0 ≡ o.serial = ap (λ (q : Owed). q.serial) d.2 in
      let g : k.asks d.0.1 ≡ o.asks = ap (λ (q : Owed). q.asks) d.2 in
      subst (λ i. Writes (register_at n) i) x.2
      (record {
        reading = at;
        touches = t;
        older = owed_older k earlier row known owed is stage c up stands o x.1 (true_not (has_serial row.flushed o.serial) p.0);
        unwritten = subst (λ i. is_written earlier i ≡ false) s (is.owing.unwritten d.0.0 d.0.1 d.1);
        spawns = (d.0.1, inr (subst (λ i. IsWordOf k earlier i d.0.1) s (is.owing.worded d.0.0 d.0.1 d.1)), ap (λ b. has_target b (register_at n)) g ∙ p.1);
      })
  to_write up n j at t (inr m) =
      subst (λ i. Writes (register_at n) i) m.3
      (record {
        reading = at;
        touches = t;
        older = older_of k earlier row known owed is stage c up stands m.0 m.1 m.2;
        unwritten = not_true (is_written earlier m.1.serial) (λ e. differ (is_retired earlier m.1.serial) (is.owing.written m.1.serial e) (unretired_of k earlier row known owed is stage c up stands m.0 m.1 m.2));
        spawns = word_of k earlier row known owed is stage c up stands (λ b. has_target b (register_at n)) m.0 m.1 m.2 m.4;
      })

  -- what is owed is older than what stands
  owed_before : (up : 0 < stage) → (n p i j : ℕ) → Owes row (Some n) owed i → Meets k.shape row (want.Board p) 0 older j → i ≤ j
  owed_before up n p i j x m =
      let lt = owed_first k earlier row known owed is stage c up stands x.0 m.1 m.0 x.1 m.2 in
      let u = x.2 in
      let v = m.3 in
      omega (arith, lt, u, v)

  abbrev SpawnerIs : ℕ → Option ℕ → Type 0
  SpawnerIs n None = (j : ℕ) → IsSpawned n j → ⊥
  SpawnerIs n (Some i) = IsSpawned n i × ((j : ℕ) → IsSpawned n j → i ≤ j)

  spawner_is : (up : 0 < stage) → (n : ℕ) → SpawnerIs n (spawner k.shape row owed older n)
  spawner_is up n =
      by_case (first_owed row (Some n) owed) (oldest k.shape row (want.Board n) 0 older) (first_owes row (Some n) owed (ascending k earlier row known owed is))
      (oldest_is k.shape row (want.Board n) 0 older (falls k earlier row known owed is stage c up stands)) where
        by_case : (o p : Option ℕ) → FirstOwes row (Some n) owed o → OldestIs k.shape row (want.Board n) 0 older p → SpawnerIs n (option_or o p)
        by_case None None f g = λ j s. elim s [ inl x ↦ f j x | inr x ↦ g j x ]
        by_case None (Some i) f g = (inr g.0, λ j s. elim s [ inl x ↦ absurd (f j x) | inr x ↦ g.1 j x ])
        by_case (Some i) p f g = (inl f.0, λ j s. elim s [ inl x ↦ f.1 j x | inr x ↦ owed_before up n n i j f.0 x ])

  one_board : (up : 0 < stage) → stage ≡ k.shape.rd → (n : ℕ) → OneIs (Numbered k earlier row is.names stage c) (made k earlier row is.names stage c) n (board_at k.shape row owed a older n)
  one_board up at n = by_case (touches a (register_at n)) refl (spawner k.shape row owed older n) (spawner_is up n) where
    by_case : (b : Bool) → touches a (register_at n) ≡ b → (o : Option ℕ) → SpawnerIs n o → OneIs (Numbered k earlier row is.names stage c) (made k earlier row is.names stage c) n (if b then board n o else None)
    by_case true e None f = λ j w. f j (from_write up n j w)
    by_case true e (Some i) f = (i, refl, to_write up n i at e f.0, λ j w. f.1 j (from_write up n j w))
    by_case false e o f = λ j w. differ (touches a (register_at n)) w.touches e

  pub board_where : FirstIn Own 1 2 (board_hold k.shape row owed stage a older)
  board_where = by_case (stage == k.shape.rd) refl where
    by_case : (b : Bool) → (stage == k.shape.rd) ≡ b → FirstIn Own 1 2 (if b then first_from (board_at k.shape row owed a older) 0 register_count else None)
    by_case true e =
        let at = same_number stage k.shape.rd e in
        subst (λ n. FirstIn Own 1 2 (first_from (board_at k.shape row owed a older) 0 n)) (sym registers)
        (board_of k earlier row is.names stage c (first_from (board_at k.shape row owed a older) 0 48) (first_is (Numbered k earlier row is.names stage c) (made k earlier row is.names stage c) (board_at k.shape row owed a older) (one_board (above_rd at) at) 0 48))
    by_case false e = λ h l m own. let x = board_kind h (one_kind 1 _ l m) in let w = subst (λ y. Own y) x.2 own in differs stage k.shape.rd e w.reading
