-- The oldest serial that a token which is due to stop waits for: one that is not written, one that goes out into a unit, or one that stays.
use Rattle.std.proofs.Common.{◌≡◌, ℕ, ◌+◌, ◌<◌, ◌≤◌, List, [], ◌∷◌, drop, Option, Some, None, Bool, true, false, refl, sym, ap, ◌∙◌, subst, arith, ◌⊎◌, inl, inr}
use Rattle.std.specs.Prelude.{◌&&◌, ◌||◌, if◌then◌else◌, is_some, is_none}
use Rattle.std.proofs.lemmas.Bool.Decides.{nat_tests}
use Rattle.rv_asks.specs.declared.asks.Asks.{Asks}
use Rattle.rv_trace.specs.declared.row.Hold.{Hold}
use Rattle.rv_trace.specs.declared.row.Row.{Row}
use Rattle.rv_trace.specs.Trace.{retires, is_flushed, is_retired, place, retirements}
use Rattle.rv_trace.specs.RowParts.{IsOlder}
use Rattle.rv_holds.specs.declared.token.Token.{Token}
use Rattle.rv_holds.specs.Tokens.{Slots, or_else}
use Rattle.rv_holds.specs.Holds.{staying, entering, left_behind}
use Rattle.rv_engine.specs.Owing.{Outstanding, paying, unpaid, oldest_serial}
use Rattle.rv_engine.specs.Rows.{written_of}
use Rattle.rv_engine.specs.Settings.{Setting}
use Rattle.rv_lawful.specs.Outstanding.{serial_written, is_serial, is_written}
use Rattle.rv_lawful.specs.LawfulTrace.{IsUnwritten}
use Rattle.rv_machine.specs.Owing.{judged}
use Rattle.rv_machine.specs.Placed.{count, Serials}
use Rattle.rv_machine.specs.Told.{out_of, Told}
use Rattle.rv_machine.proofs.Places.{stood, place_lt, place_order}
use Rattle.rv_machine.proofs.Standing.{Has, behind, front_or_behind, only_behind, out_le, out_drop, StayingIs, staying_is}
use Rattle.rv_machine.proofs.Owes.{Owes, IsOwed, OldestOwes, any, owing_falls, oldest_serial_is, written_paid, paid_owes, unpaid_owes, unpaid_falls, unpaid_other, paid_or_unpaid}
use Rattle.rv_machine.proofs.Older as O

-- What goes out into a unit

abbrev pub with_unit : Token → Bool
with_unit t = is_some t.asks.unit

-- the token with a unit that goes out has the first place; without it no token with a unit does
abbrev pub EnteringIs : List Row → ℕ → Slots → Option ℕ → Type 0
EnteringIs rows r l None = (j : ℕ) → Has l with_unit j → place rows j < r + out_of l → ⊥
EnteringIs rows r l (Some i) = Has l with_unit i × (place rows i ≡ r)

-- where none goes out
none_out : (rows : List Row) (r : ℕ) (l : Slots) → Serials rows r l → out_of l ≡ 0 → EnteringIs rows r l None
none_out rows r l h e = λ j w lt.
    let low = (stood rows r w.0 l w.1 h w.2).low in
    let same = ap (λ s. place rows s) w.3 in
    omega (arith, e, lt, low, same)

entering_more : (rows : List Row) (r : ℕ) (s u : Option Token) (rest : Slots) (o : Option ℕ) → Serials rows r (s ∷ u ∷ rest) → EnteringIs rows r (u ∷ rest) o → EnteringIs rows r (s ∷ u ∷ rest) o
entering_more rows r s u rest (Some i) h x = (behind s (u ∷ rest) with_unit i x.0, x.1)
entering_more rows r None u rest None h x = λ j w lt. x j (only_behind (u ∷ rest) with_unit j w) lt
entering_more rows r (Some t) u rest None h x = λ j w lt. elim (front_or_behind t (u ∷ rest) with_unit j w) [
  | inl y ↦
      let p = h.0.0 in
      let same = ap (λ n. place rows n) y.0 in
      let le = out_le (u ∷ rest) in
      omega (arith, p, same, le, lt)
  | inr y ↦ x j y lt
]

entering_is : (rows : List Row) (r : ℕ) (l : Slots) → Serials rows r l → EnteringIs rows r l (entering l)
entering_is rows r [] h = none_out rows r [] h refl
entering_is rows r (None ∷ []) h = none_out rows r (None ∷ []) h refl
entering_is rows r (Some t ∷ []) h = by_case (is_some t.asks.unit) t.cell.hold refl refl where
  by_case : (b : Bool) (o : Option Hold) → is_some t.asks.unit ≡ b → t.cell.hold ≡ o → EnteringIs rows r (Some t ∷ []) (if b && is_none o then Some t.cell.serial else None)
  by_case true None e q = let p = h.0.0 in ((0, t, refl, refl, e), omega (arith, p))
  by_case false None e q = λ j w lt. elim (front_or_behind t [] with_unit j w) [ inl y ↦ cc (e, y.1) | inr y ↦ cc (y.2) ]
  by_case true (Some g) e q = none_out rows r (Some t ∷ []) h (ap (λ (o : Option Hold). if is_some o then 0 else 1) q)
  by_case false (Some g) e q = none_out rows r (Some t ∷ []) h (ap (λ (o : Option Hold). if is_some o then 0 else 1) q)
entering_is rows r (None ∷ u ∷ rest) h = entering_more rows r None u rest (entering (u ∷ rest)) h (entering_is rows r (u ∷ rest) h)
entering_is rows r (Some t ∷ u ∷ rest) h = entering_more rows r (Some t) u rest (entering (u ∷ rest)) h (entering_is rows r (u ∷ rest) h.1)

or_false : (a b : Bool) → (a || b) ≡ false → (a ≡ false) × (b ≡ false)
or_false false b e = (refl, e)
or_false true b e = cc

retired_then : (row : Row) (earlier : List Row) (j : ℕ) → is_retired (row ∷ earlier) j ≡ false → is_retired earlier j ≡ false
unfolding is_retired
retired_then row earlier j e = (or_false (retires row.retired j) (is_retired earlier j) e).1

written_then : (row : Row) (earlier : List Row) (j : ℕ) → is_written (row ∷ earlier) j ≡ false → (is_serial (serial_written row.written) j ≡ false) × (is_written earlier j ≡ false)
unfolding is_written
written_then row earlier j e = or_false (is_serial (serial_written row.written) j) (is_written earlier j) e

unwritten_now : (row : Row) (earlier : List Row) (j : ℕ) → (is_serial (serial_written row.written) j ≡ true → ⊥) → (is_written earlier j ≡ true → ⊥) → is_written (row ∷ earlier) j ≡ false
unfolding is_written
unwritten_now row earlier j f g = by_case (is_serial (serial_written row.written) j) (is_written earlier j) f g where
  by_case : (a b : Bool) → (a ≡ true → ⊥) → (b ≡ true → ⊥) → (a || b) ≡ false
  by_case false false f g = refl
  by_case false true f g = absurd (g refl)
  by_case true b f g = absurd (f refl)

same_serial : (a : ℕ) → is_serial (Some a) a ≡ true
same_serial a = grind (arith, nat_tests)

-- a token in a stage, with what is told of the row
module _ (k : Setting) (earlier : List Row) (row : Row) (seen : Slots) (told : Told k earlier row seen) (stage : ℕ) (t : Token) (older : Slots) (rest : drop stage seen ≡ Some t ∷ older) where
  abbrev o : Outstanding
  o = told.outstanding

  ordered : Serials (row ∷ earlier) (retirements earlier) (Some t ∷ older)
  ordered = O.ordered k earlier row seen told stage t older rest

  -- it is left behind
  pub record IsLeft (j : ℕ) : Type 0 where
    pub older_than : IsOlder (row ∷ earlier) t.cell.serial j
    pub left : (is_retired (row ∷ earlier) j ≡ false) ⊎ IsUnwritten (judged k) (row ∷ earlier) j

  -- the oldest that is, or that there is none
  abbrev pub OldestLeft : Option ℕ → Type 0
  OldestLeft None = (j : ℕ) → IsLeft j → ⊥
  OldestLeft (Some i) = IsLeft i × ((j : ℕ) → IsLeft j → i ≤ j)

  -- what goes out is told of the older tokens, where there are some
  out_older : 0 < count older → out_of seen ≡ out_of older
  out_older lt = by_case older refl lt where
    by_case : (l : Slots) → older ≡ l → 0 < count l → out_of seen ≡ out_of l
    by_case [] e lt = absurd (omega arith)
    by_case (u ∷ l) e lt = out_drop seen (u ∷ l) (Some t) stage (rest ∙ ap (λ o. Some t ∷ o) e)

  still : (j : ℕ) → is_flushed (row ∷ earlier) j ≡ false → is_retired (row ∷ earlier) j ≡ false → retirements earlier + out_of seen ≤ place (row ∷ earlier) j
  still j alive u = O.not_below (place (row ∷ earlier) j) (retirements earlier + out_of seen) (sym (told.now j alive) ∙ u)

  gone : (j : ℕ) → is_flushed (row ∷ earlier) j ≡ false → is_retired (row ∷ earlier) j ≡ true → place (row ∷ earlier) j < retirements earlier + out_of seen
  gone j alive u = O.is_below (place (row ∷ earlier) j) (retirements earlier + out_of seen) (sym (told.now j alive) ∙ u)

  -- What is owed

  -- what is written in the row was owed before it
  written_owed : (j : ℕ) → is_serial (serial_written row.written) j ≡ true → IsOwed k earlier any j
  written_owed j e =
      let w = written_paid (paying o) j (ap (λ x. is_serial (serial_written x) j) (sym told.beside.written) ∙ e) in
      subst (λ s. IsOwed k earlier any s) w.2
      (O.is_owed k earlier row seen told any w.0.serial (paid_owes k earlier o.stages o.lasts o.entries o.entries o.owed w.0 w.1))

  -- what was retired before, and is left behind, is not paid
  left_unpaid : (j : ℕ) → is_retired earlier j ≡ true → IsLeft j → Owes (unpaid o) any j
  left_unpaid j before l = elim l.left [
    | inl u ↦ cc (retired_then row earlier j u, before)
    | inr u ↦
        let w = written_then row earlier j u.unwritten in
        let owes = O.owes_of k earlier row seen told any j u.decoupled.0 l.older_than.unflushed before w.1 u.decoupled.1 u.decoupled.2 refl in
        elim (paid_or_unpaid k earlier o.stages o.lasts o.entries _ o.entries o.owed any j told.beside.owing told.beside.timed owes) [
          | inl p ↦
              let is : is_serial (serial_written row.written) j ≡ true =
              ap (λ x. is_serial (serial_written x) j) (told.beside.written ∙ ap written_of p.1) ∙ ap (λ s. is_serial (Some s) j) p.2 ∙ same_serial j in
              cc (is, w.0)
          | inr p ↦ p
        ]
  ]

  unpaid_left : (i : ℕ) → Owes (unpaid o) any i → IsLeft i
  unpaid_left i x =
      let owed = O.is_owed k earlier row seen told any i (unpaid_owes k earlier o.stages o.lasts o.entries o.entries o.owed any i x) in
      record {
        older_than = O.owed_older k earlier row seen told stage t older rest any i owed;
        left = inr (record {
          decoupled = O.owed_unit k earlier row seen told any i owed;
          unwritten = unwritten_now row earlier i (λ e. not_paid e) (λ e. cc (O.owed_unwritten k earlier row seen told any i owed, e));
        });
      } where
        not_paid : is_serial (serial_written row.written) i ≡ true → ⊥
        not_paid e =
            let w = written_paid (paying o) i (ap (λ y. is_serial (serial_written y) i) (sym told.beside.written) ∙ e) in
            unpaid_other k earlier o.stages o.lasts o.entries o.entries o.owed w.0 any i (owing_falls k earlier _ o.entries o.owed told.beside.owing) w.1 x w.2

  unpaid_first : (i j : ℕ) → Owes (unpaid o) any i → IsLeft j → is_retired earlier j ≡ false → i ≤ j
  unpaid_first i j x l stays =
      O.owed_first k earlier row seen told stage t older rest any i j (O.is_owed k earlier row seen told any i (unpaid_owes k earlier o.stages o.lasts o.entries o.entries o.owed any i x)) l.older_than.unflushed stays

  -- Tokens

  -- a serial that is left behind and was not retired before
  record Stays (j : ℕ) : Type 0 where
    is_left : IsLeft j
    before : is_retired earlier j ≡ false

  low : (j : ℕ) → Stays j → retirements earlier ≤ place (row ∷ earlier) j
  low j s = O.unretired_place k earlier row seen told j s.is_left.older_than.unflushed s.before

  high : (j : ℕ) → Stays j → place (row ∷ earlier) j < retirements earlier + count older
  high j s =
      let lower = place_lt (row ∷ earlier) j t.cell.serial s.is_left.older_than.unflushed s.is_left.older_than.lower in
      let p = ordered.0.0 in
      omega (arith, lower, p)

  same_out : (j : ℕ) → Stays j → out_of seen ≡ out_of older
  same_out j s = let a = low j s in let b = high j s in out_older (omega (arith, a, b))

  -- the token that goes out into a unit is left behind
  entering_left : (i : ℕ) → Has older with_unit i → IsLeft i
  entering_left i has =
      let f : Asks → Bool = λ a. is_some a.unit in
      let stays = O.unretired_of k earlier row seen told stage t older rest f i has in
      record {
        older_than = O.older_of k earlier row seen told stage t older rest f i has;
        left = inr (record {
          decoupled = O.word_of k earlier row seen told stage t older rest f i has;
          unwritten = unwritten_now row earlier i (λ e. cc (O.owed_retired k earlier row seen told any i (written_owed i e), stays)) (λ e. cc (told.beside.paid i e, stays));
        });
      }

  -- where none goes out into a unit, what is left behind stays
  stays_then : EnteringIs (row ∷ earlier) (retirements earlier) older None → (j : ℕ) → Stays j → retirements earlier + out_of older ≤ place (row ∷ earlier) j
  stays_then none j s = by_case (is_retired (row ∷ earlier) j) refl s.is_left.left where
    by_case : (b : Bool) → is_retired (row ∷ earlier) j ≡ b → ((is_retired (row ∷ earlier) j ≡ false) ⊎ IsUnwritten (judged k) (row ∷ earlier) j) → retirements earlier + out_of older ≤ place (row ∷ earlier) j
    by_case false e l = let a = still j s.is_left.older_than.unflushed e in let b = same_out j s in omega (arith, a, b)
    by_case true e (inl u) = cc (e, u)
    by_case true e (inr u) =
        let has = O.from_word k earlier row seen told stage t older rest (λ a. is_some a.unit) j s.is_left.older_than s.before u.decoupled.0 u.decoupled.1 u.decoupled.2 in
        let a = gone j s.is_left.older_than.unflushed e in
        let b = same_out j s in
        absurd (none j has (omega (arith, a, b)))

  staying_left : EnteringIs (row ∷ earlier) (retirements earlier) older None → ((j : ℕ) → IsLeft j → Stays j) → OldestLeft (staying older)
  staying_left none stays = by_case (staying older) (staying_is (row ∷ earlier) (retirements earlier) older ordered.1) where
    by_case : (p : Option ℕ) → StayingIs (row ∷ earlier) (retirements earlier) older p → OldestLeft p
    by_case (Some i) x =
        let lt = x.5 in
        let same = out_older (omega (arith, lt)) in
        let p = x.4 in
        let alive = subst (λ s. is_flushed (row ∷ earlier) s ≡ false) x.3 (O.older_stood k earlier row seen told stage t older rest x.0 x.1 x.2).alive in (
          record {
            older_than = subst (λ s. IsOlder (row ∷ earlier) t.cell.serial s) x.3 (O.is_older k earlier row seen told stage t older rest x.0 x.1 x.2);
            left = inl (told.now i alive ∙ O.not_lt (place (row ∷ earlier) i) (retirements earlier + out_of seen) (omega (arith, same, p)));
          },
          λ j l. let s = stays_then none j (stays j l) in place_order (row ∷ earlier) i j l.older_than.unflushed (omega (arith, s, p)),
        )
    by_case None le = λ j l.
        let s = stays_then none j (stays j l) in
        let h = high j (stays j l) in
        omega (arith, s, h, le)

  token_left : ((j : ℕ) → IsLeft j → Stays j) → OldestLeft (or_else (entering older) (staying older))
  token_left stays = by_case (entering older) (entering_is (row ∷ earlier) (retirements earlier) older ordered.1) where
    by_case : (p : Option ℕ) → EnteringIs (row ∷ earlier) (retirements earlier) older p → OldestLeft (or_else p (staying older))
    by_case (Some i) x = (
      entering_left i x.0,
      λ j l. let p = x.1 in let s = low j (stays j l) in place_order (row ∷ earlier) i j l.older_than.unflushed (omega (arith, p, s)),
    )
    by_case None x = staying_left x stays

  pub left_behind_is : OldestLeft (left_behind t older)
  left_behind_is =
      subst (λ b. OldestLeft (or_else b.left (or_else (entering older) (staying older)))) (sym (told.beside.meets stage t older rest))
      (by_case (oldest_serial (unpaid o)) (oldest_serial_is (unpaid o) (unpaid_falls k earlier o.stages o.lasts o.entries o.entries o.owed (owing_falls k earlier _ o.entries o.owed told.beside.owing)))) where
        by_test : (j : ℕ) → IsLeft j → (b : Bool) → is_retired earlier j ≡ b → (Owes (unpaid o) any j) ⊎ Stays j
        by_test j l true e = inl (left_unpaid j e l)
        by_test j l false e = inr (record { is_left = l; before = e })

        by_case : (p : Option ℕ) → OldestOwes (unpaid o) any p → OldestLeft (or_else p (or_else (entering older) (staying older)))
        by_case (Some i) x = (
          unpaid_left i x.0,
          λ j l. elim (by_test j l (is_retired earlier j) refl) [ inl y ↦ x.1 j y | inr y ↦ unpaid_first i j x.0 l y.before ],
        )
        by_case None x = token_left (λ j l. elim (by_test j l (is_retired earlier j) refl) [ inl y ↦ absurd (x j y) | inr y ↦ y ])
