-- The flush of a row: which tokens it takes, what it leaves, and where the serials stand then.
use Rattle.std.proofs.Common.{◌≡◌, ℕ, zero, suc, ◌+◌, ◌-◌, ◌<◌, ◌≤◌, List, [], ◌∷◌, drop, take, length, Option, Some, None, Bool, true, false, refl, sym, ap, ◌∙◌, subst, arith, ◌⊎◌, inl, inr}
use Rattle.std.specs.Prelude.{slice_get, nat_lt, replicate}
use Rattle.std.proofs.lemmas.Bool.{cases_lt}
use Rattle.std.proofs.lemmas.Bool.Decides.{nat_tests}
use Rattle.ix_bits.specs.declared.number.Bits.{Bits}
use Rattle.ix_plan.specs.declared.design.Design.{Design}
use Rattle.rv_seq.specs.Steps.{word_at}
use Rattle.rv_seq.specs.declared.arch.TrapState.{TrapState}
use Rattle.rv_trace.specs.declared.row.Cell.{Cell}
use Rattle.rv_trace.specs.declared.row.Row.{Row}
use Rattle.rv_trace.specs.Trace.{place, has_serial, is_flushed, is_retired, retirements}
use Rattle.rv_trace.specs.RowParts.{given, in_five, AscendFrom}
use Rattle.rv_trace.proofs.Forms.{given_in_five}
use Rattle.rv_holds.specs.declared.token.Token.{Token}
use Rattle.rv_holds.specs.declared.flushing.Turn.{Turn}
use Rattle.rv_holds.specs.Tokens.{Slots, cells_of}
use Rattle.rv_holds.specs.Flushing.{struck, cleared, listed}
use Rattle.rv_engine.specs.Settings.{Setting, Machine}
use Rattle.rv_engine.specs.Rows.{fetched, fill_first, next_after, new_by, loaded_by, turn_by, seen_by, IsRowOf}
use Rattle.rv_lawful.specs.Settings as Lawful
use Rattle.rv_lawful.specs.LawfulTrace.{IsWordOf}
use Rattle.rv_machine.specs.Owing.{judged}
use Rattle.rv_machine.specs.Placed.{count, HasWord, Serials, IsReady, Inv}
use Rattle.rv_machine.proofs.Places.{stood, one_token, token_order, token_of, serials_drop, serials_more, serials_filled, place_same, flushed_same, flushed_now, flushed_before, unflushed_before, place_over, place_suc, place_lt, place_le, lower_place, next_placed, Unflushed, HasSerial}
use Rattle.rv_machine.proofs.Standing.{here_of}
use Rattle.rv_machine.proofs.Moving.{Named, filled_from, KeepsAll, keeps_all, FlushesFirst}
use Rattle.rv_machine.proofs.Alike.{Alike, IsAlike, alike_count, alike_serials}
use Rattle.rv_machine.proofs.Before as B
use Rattle.rv_machine.proofs.Clearing.{cleared_serials, cleared_count, cleared_at, cleared_get, cleared_drop, unheld_get, ShownAs, shown_as, take_get, get_take, listed_of, listed_only, listed_ascend, Oldest, oldest_of}

-- a token of slots that are alike
pub alike_get : (a b : Slots) (i : ℕ) (u : Token) → Alike a b → slice_get b i ≡ Some (Some u) → (t : Token) × (slice_get a i ≡ Some (Some t)) × IsAlike t u
alike_get [] [] i u h e = cc
alike_get [] (x ∷ b) i u h e = absurd h
alike_get (s ∷ a) [] i u h e = absurd h
alike_get (None ∷ a) (None ∷ b) zero u h e = cc
alike_get (None ∷ a) (Some v ∷ b) zero u h e = absurd h.0
alike_get (Some t ∷ a) (None ∷ b) zero u h e = absurd h.0
alike_get (Some t ∷ a) (Some v ∷ b) zero u h e = (t, refl, subst (λ (w : Token). IsAlike t w) (same_here v u e) h.0) where
  same_here : (v w : Token) → ◌≡◌ {A = Option (Option Token)} (Some (Some v)) (Some (Some w)) → v ≡ w
  same_here v w e = cc
alike_get (s ∷ a) (x ∷ b) (suc i) u h e = alike_get a b i u h.1 e

pub new_serial : (d : Design) (future : List Bits) (trap : Option TrapState) (serial at : ℕ) (o : Option ℕ) → HasSerial serial (fetched d future trap serial at o)
new_serial d future trap serial at None = tt
new_serial d future trap serial at (Some word) = refl

pub fetched_serial : (serial : ℕ) (new : Option Token) (u : Token) → HasSerial serial new → new ≡ Some u → u.cell.serial ≡ serial
fetched_serial serial None u h e = cc
fetched_serial serial (Some t) u h e = sym (ap (λ (v : Token). v.cell.serial) (same_token t u e)) ∙ h where
  same_token : (t u : Token) → ◌≡◌ {A = Option Token} (Some t) (Some u) → t ≡ u
  same_token t u e = cc

-- with no token between two stages
pub count_gap : (a n : ℕ) (l : Slots) → a ≤ n → ((j : ℕ) (t : Token) → a ≤ j → j < n → slice_get l j ≡ Some (Some t) → ⊥) → count (drop a l) ≡ count (drop n l)
count_gap zero zero l le h = refl
count_gap zero (suc n) [] le h = refl
count_gap zero (suc n) (None ∷ l) le h = count_gap zero n l (omega arith) (λ j t le lt e. h (suc j) t (omega arith) (omega (arith, lt)) e)
count_gap zero (suc n) (Some t ∷ l) le h = absurd (h 0 t (omega arith) (omega arith) refl)
count_gap (suc a) zero l le h = absurd (omega (arith, le))
count_gap (suc a) (suc n) [] le h = refl
count_gap (suc a) (suc n) (s ∷ l) le h = count_gap a n l (omega (arith, le)) (λ j t le lt e. h (suc j) t (omega (arith, le)) (omega (arith, lt)) e)

-- the slots from a token's on
pub slot_behind : (n : ℕ) (l : Slots) (t : Token) → slice_get l n ≡ Some (Some t) → drop n l ≡ Some t ∷ drop (suc n) l
slot_behind n [] t e = cc
slot_behind zero (s ∷ l) t e = let same : s ≡ Some t = cc in ap (λ (o : Option Token). o ∷ l) same
slot_behind (suc n) (s ∷ l) t e = slot_behind n l t e

module _ (k : Setting) (ready : IsReady k) (earlier : List Row) (m : Machine) (row : Row) (inv : Inv k earlier m) (is : IsRowOf k m row) where
  -- The slots before the flush

  abbrev filled : Slots
  filled = fill_first (new_by k m) m.slots

  alike : Alike (fill_first (new_by k m) m.slots) (loaded_by k m)
  alike = B.loaded_alike k ready earlier m inv

  new_has : HasSerial m.next (new_by k m)
  new_has = new_serial k.design m.future m.arch.trap m.next m.fetch (word_at k.image m.fetch)

  pub loaded_serials : Serials earlier (retirements earlier) (loaded_by k m)
  loaded_serials =
      alike_serials earlier (retirements earlier) (fill_first (new_by k m) m.slots) (loaded_by k m) alike
      (serials_filled earlier (retirements earlier) m.next (new_by k m) m.slots inv.serials inv.next_place (inv.unflushed m.next (omega arith)) new_has)

  some_slots : 0 < length m.slots
  some_slots = let a = ready.ex_last in omega (arith, inv.stages, a)

  loaded_count : place earlier (next_after m.next m.slots (new_by k m)) ≡ retirements earlier + count (loaded_by k m)
  loaded_count =
      next_placed earlier (retirements earlier) m.next (new_by k m) m.slots some_slots inv.next_place (inv.unflushed m.next (omega arith))
      ∙ ap (λ n. retirements earlier + n) (sym (alike_count (fill_first (new_by k m) m.slots) (loaded_by k m) alike))

  -- each token was fetched
  pub loaded_fresh : (i : ℕ) (t : Token) → slice_get (loaded_by k m) i ≡ Some (Some t) → t.cell.serial < next_after m.next m.slots (new_by k m)
  loaded_fresh i t e =
      let x = stood earlier (retirements earlier) i (loaded_by k m) t loaded_serials e in
      let hi = x.high in
      lower_place earlier t.cell.serial (next_after m.next m.slots (new_by k m)) (omega (arith, hi, loaded_count))

  -- Which stages are flushed

  pub struck_inside : struck (turn_by k m) ≤ length (loaded_by k m)
  struck_inside = B.struck_inside k ready earlier m inv

  pub flushes_first : FlushesFirst row (struck (turn_by k m)) (loaded_by k m)
  flushes_first i t lt e =
      ap (λ l. has_serial l t.cell.serial) is.flushed
      ∙ listed_of (take (struck (turn_by k m)) (loaded_by k m)) i t (take_get (struck (turn_by k m)) i (loaded_by k m) lt ∙ e)

  -- a flushed serial is that of a token of these stages
  pub flushed_from : (s : ℕ) → has_serial row.flushed s ≡ true → (i : ℕ) × (t : Token) × (i < struck (turn_by k m)) × (slice_get (loaded_by k m) i ≡ Some (Some t)) × (t.cell.serial ≡ s)
  flushed_from s h =
      let y = listed_only (take (struck (turn_by k m)) (loaded_by k m)) s (sym (ap (λ l. has_serial l s) is.flushed) ∙ h) in
      let g = get_take (struck (turn_by k m)) y.0 (loaded_by k m) y.1 y.2 in (y.0, y.1, g.0, g.1, y.3)

  given_is : given row.flushed ≡ listed (take (struck (turn_by k m)) (loaded_by k m))
  given_is = ap (λ l. given l) is.flushed ∙ given_in_five (listed (take (struck (turn_by k m)) (loaded_by k m)))

  pub row_listed : row.flushed ≡ in_five (given row.flushed)
  row_listed = is.flushed ∙ ap (λ l. in_five l) (sym given_is)

  pub row_ascends : AscendFrom None (given row.flushed)
  row_ascends = subst (λ l. AscendFrom None l) (sym given_is) (listed_ascend earlier (retirements earlier) (struck (turn_by k m)) (loaded_by k m) loaded_serials)

  -- up to the serial of a token that is left nothing is flushed
  pub none_below : (i : ℕ) (t : Token) → struck (turn_by k m) ≤ i → slice_get (loaded_by k m) i ≡ Some (Some t) → (j : ℕ) → j ≤ t.cell.serial → has_serial row.flushed j ≡ false
  none_below i t le e j low = by_case (has_serial row.flushed j) refl where
    by_case : (b : Bool) → has_serial row.flushed j ≡ b → has_serial row.flushed j ≡ false
    by_case false q = q
    by_case true q =
        let x = flushed_from j q in
        let lt = x.2 in
        let o = token_order earlier (retirements earlier) x.0 i (loaded_by k m) x.1 t loaded_serials (omega (arith, lt, le)) x.3 e in
        let same = x.4 in
        absurd (omega (arith, o, same, low))

  -- The slots after the flush

  pub left_from : (i : ℕ) (t : Token) → slice_get (seen_by k m) i ≡ Some (Some t) → (struck (turn_by k m) ≤ i) × (slice_get (loaded_by k m) i ≡ Some (Some t))
  left_from i t e = cleared_at (struck (turn_by k m)) i (loaded_by k m) t struck_inside e

  seen_unflushed : Unflushed row (seen_by k m)
  seen_unflushed i t e j le = let x = left_from i t e in none_below i t x.0 x.1 j le

  pub seen_kept : KeepsAll row (seen_by k m)
  seen_kept = keeps_all row (seen_by k m) (λ i t e. seen_unflushed i t e t.cell.serial (omega arith))

  pub seen_serials : Serials (row ∷ earlier) (retirements earlier) (seen_by k m)
  seen_serials = serials_more row earlier (retirements earlier) (seen_by k m) seen_unflushed (cleared_serials earlier (retirements earlier) (struck (turn_by k m)) (loaded_by k m) struck_inside loaded_serials)

  -- what stands in the row

  pub stands_at : (stage : ℕ) → struck (turn_by k m) ≤ stage → slice_get (Lawful.stages_of (judged k) row) stage ≡ slice_get (cells_of (seen_by k m)) stage
  stands_at stage le =
      ap (λ l. slice_get l stage) is.cells ∙ unheld_get (struck (turn_by k m)) stage (loaded_by k m) le ∙ sym (cells_get (struck (turn_by k m)) stage (loaded_by k m) le struck_inside) where
        cells_get : (n stage : ℕ) (slots : Slots) → n ≤ stage → n ≤ length slots → slice_get (cells_of (cleared n slots)) stage ≡ slice_get (cells_of slots) stage
        cells_get zero stage slots le long = refl
        cells_get (suc n) zero slots le long = absurd (omega (arith, le))
        cells_get (suc n) (suc stage) [] le long = absurd (omega arith)
        cells_get (suc n) (suc stage) (s ∷ older) le long = cells_get n stage older (omega (arith, le)) (omega (arith, long))

  pub shown_at : (stage : ℕ) (c : Cell) → Lawful.Stands (judged k) row stage c → ShownAs (struck (turn_by k m)) stage (loaded_by k m) c
  shown_at stage c s = shown_as (struck (turn_by k m)) stage (loaded_by k m) c (sym (ap (λ l. slice_get l stage) is.cells) ∙ s)

  pub stands_flushed : (stage : ℕ) (c : Cell) → stage < struck (turn_by k m) → Lawful.Stands (judged k) row stage c → (c.hold ≡ None) × (has_serial row.flushed c.serial ≡ true)
  stands_flushed stage c lt s =
      let x = shown_at stage c s in
      (x.free lt, ap (λ n. has_serial row.flushed n) (sym x.serial) ∙ flushes_first stage x.token lt x.here_is)

  -- Serials after the flush

  -- how many stages are flushed
  abbrev flushed : ℕ
  flushed = struck (turn_by k m)

  -- with no token in these stages nothing is flushed
  none_flushed : ((i : ℕ) (t : Token) → slice_get (take flushed (loaded_by k m)) i ≡ Some (Some t) → ⊥) → (j : ℕ) → has_serial row.flushed j ≡ false
  none_flushed none j = by_flag (has_serial row.flushed j) refl where
    by_flag : (b : Bool) → has_serial row.flushed j ≡ b → has_serial row.flushed j ≡ false
    by_flag false q = q
    by_flag true q = let x = flushed_from j q in absurd (none x.0 x.1 (take_get flushed x.0 (loaded_by k m) x.2 ∙ x.3))

  -- the oldest token that is flushed
  abbrev First : Type 0
  First = Oldest (take flushed (loaded_by k m)) 0

  first_here : (f : First) → (f.index < flushed) × (slice_get (loaded_by k m) f.index ≡ Some (Some f.token))
  first_here f = get_take flushed f.index (loaded_by k m) f.token f.here_is

  -- below its serial nothing is flushed
  first_kept : (f : First) (j : ℕ) → j < f.token.cell.serial → has_serial row.flushed j ≡ false
  first_kept f j low = by_flag (has_serial row.flushed j) refl where
    by_flag : (b : Bool) → has_serial row.flushed j ≡ b → has_serial row.flushed j ≡ false
    by_flag false q = q
    by_flag true q =
        let x = flushed_from j q in
        let here = first_here f in
        let same = x.4 in
        elim (cases_lt x.0 f.index) [
          | inl less ↦ let o = token_order earlier (retirements earlier) x.0 f.index (loaded_by k m) x.1 f.token loaded_serials less x.3 here.1 in absurd (omega (arith, o, same, low))
          | inr more ↦ elim (cases_lt f.index x.0) [
            | inl past ↦ absurd (f.last x.0 x.1 past (take_get flushed x.0 (loaded_by k m) x.2 ∙ x.3))
            | inr not ↦
                let at : x.0 ≡ f.index = omega (arith, more, not) in
                let there : slice_get (loaded_by k m) f.index ≡ Some (Some x.1) = subst (λ i. slice_get (loaded_by k m) i ≡ Some (Some x.1)) at x.3 in
                let token : x.1 ≡ f.token = cc (there, here.1) in
                let serial = ap (λ (v : Token). v.cell.serial) token in
                absurd (omega (arith, serial, same, low))
          ]
        ]

  -- from it on all are
  first_over : (f : First) (j : ℕ) → f.token.cell.serial ≤ j → j < next_after m.next m.slots (new_by k m) → is_flushed (row ∷ earlier) j ≡ true
  first_over f j le lt = by_case (is_flushed earlier j) refl where
    by_case : (b : Bool) → is_flushed earlier j ≡ b → is_flushed (row ∷ earlier) j ≡ true
    by_case true e = flushed_before row earlier j e
    by_case false e =
        let here = first_here f in
        let s = stood earlier (retirements earlier) f.index (loaded_by k m) f.token loaded_serials here.1 in
        let low = s.low in
        let above = place_le earlier f.token.cell.serial j le in
        let below = place_lt earlier j (next_after m.next m.slots (new_by k m)) e lt in
        let u = token_of earlier (retirements earlier) j (loaded_by k m) loaded_serials e (omega (arith, low, above)) (omega (arith, below, loaded_count)) in
        let serial = u.3 in
        elim (cases_lt u.0 flushed) [
          | inl less ↦ flushed_now row earlier j (ap (λ i. has_serial row.flushed i) (sym serial) ∙ flushes_first u.0 u.1 less u.2)
          | inr more ↦
              let under = here.0 in
              let o = token_order earlier (retirements earlier) f.index u.0 (loaded_by k m) f.token u.1 loaded_serials (omega (arith, under, more)) here.1 u.2 in
              absurd (omega (arith, o, serial, le))
        ]

  -- the place of the next serial
  pub seen_count : place (row ∷ earlier) (next_after m.next m.slots (new_by k m)) ≡ retirements earlier + count (seen_by k m)
  seen_count =
      let c = cleared_count flushed (loaded_by k m) struck_inside in
      elim (oldest_of (take flushed (loaded_by k m)) 0) [
        | inl none ↦
            let g = count_gap 0 flushed (loaded_by k m) (omega arith) (λ j t le lt e. none.1 j t (take_get flushed j (loaded_by k m) lt ∙ e)) in
            let p = place_same row earlier (next_after m.next m.slots (new_by k m)) (λ j lt. none_flushed none.1 j) in
            omega (arith, p, loaded_count, c, g)
        | inr f ↦
            let here = first_here f in
            let fresh = loaded_fresh f.index f.token here.1 in
            let gap : (g : ℕ) × (f.token.cell.serial + g ≡ next_after m.next m.slots (new_by k m)) = (next_after m.next m.slots (new_by k m) - f.token.cell.serial, omega (arith, fresh)) in
            let all = place_over (row ∷ earlier) f.token.cell.serial gap.0 (λ j le lt. first_over f j le (omega (arith, lt, gap.1))) in
            let older = slot_behind f.index (loaded_by k m) f.token here.1 in
            let o = subst (λ l. Serials earlier (retirements earlier) l) older (serials_drop earlier (retirements earlier) f.index (loaded_by k m) loaded_serials) in
            let under = here.0 in
            let g = count_gap (suc f.index) flushed (loaded_by k m) (omega (arith, under)) (λ j t le lt e. f.last j t (omega (arith, le)) (take_get flushed j (loaded_by k m) lt ∙ e)) in
            let p = place_same row earlier f.token.cell.serial (λ j lt. first_kept f j lt) ∙ o.0.0 in
            ap (λ i. place (row ∷ earlier) i) (sym gap.1) ∙ all ∙ omega (arith, p, c, g)
      ]

  -- the next serials are not flushed
  pub unflushed_next : (s : ℕ) → next_after m.next m.slots (new_by k m) ≤ s → is_flushed (row ∷ earlier) s ≡ false
  unflushed_next s le = flushed_same row earlier s (by_flag (has_serial row.flushed s) refl) ∙ inv.unflushed s (before m.slots (new_by k m) le) where
    by_flag : (b : Bool) → has_serial row.flushed s ≡ b → has_serial row.flushed s ≡ false
    by_flag false q = q
    by_flag true q =
        let x = flushed_from s q in
        let lt = loaded_fresh x.0 x.1 x.3 in
        let same = x.4 in
        absurd (omega (arith, lt, same, le))

    before : (l : Slots) (o : Option Token) → next_after m.next l o ≤ s → m.next ≤ s
    before [] o h = h
    before (Some t ∷ l) o h = h
    before (None ∷ l) None h = h
    before (None ∷ l) (Some t) h = omega (arith, h)

  -- whether a serial is retired is told by its place still
  pub before_retired : (s : ℕ) → is_flushed (row ∷ earlier) s ≡ false → is_retired earlier s ≡ nat_lt (place (row ∷ earlier) s) (retirements earlier)
  before_retired s alive = inv.retired s (unflushed_before row earlier s alive) ∙ same_side where
    not_lt : (a b : ℕ) → b ≤ a → nat_lt a b ≡ false
    not_lt a b h = grind (arith, nat_tests)

    same_side : nat_lt (place earlier s) (retirements earlier) ≡ nat_lt (place (row ∷ earlier) s) (retirements earlier)
    same_side = elim (oldest_of (take flushed (loaded_by k m)) 0) [
      | inl none ↦ ap (λ p. nat_lt p (retirements earlier)) (sym (place_same row earlier s (λ j lt. none_flushed none.1 j)))
      | inr f ↦
          let here = first_here f in
          let st = stood earlier (retirements earlier) f.index (loaded_by k m) f.token loaded_serials here.1 in
          let low = st.low in
          elim (cases_lt f.token.cell.serial s) [
            | inl above ↦
                let a = place_le earlier f.token.cell.serial s (omega (arith, above)) in
                let b = place_le (row ∷ earlier) f.token.cell.serial s (omega (arith, above)) in
                let same = place_same row earlier f.token.cell.serial (λ j lt. first_kept f j lt) in
                not_lt (place earlier s) (retirements earlier) (omega (arith, a, low))
                ∙ sym (not_lt (place (row ∷ earlier) s) (retirements earlier) (omega (arith, b, same, low)))
            | inr below ↦ ap (λ p. nat_lt p (retirements earlier)) (sym (place_same row earlier s (λ j lt. first_kept f j (omega (arith, lt, below)))))
          ]
    ]

  -- a serial that is retired has no token, and so is not flushed
  pub kept_alive : (s : ℕ) → is_flushed earlier s ≡ false → is_retired earlier s ≡ true → is_flushed (row ∷ earlier) s ≡ false
  kept_alive s alive gone = flushed_same row earlier s (by_flag (has_serial row.flushed s) refl) ∙ alive where
    below : (a b : ℕ) → nat_lt a b ≡ true → a < b
    below a b h = grind (arith, nat_tests)

    by_flag : (b : Bool) → has_serial row.flushed s ≡ b → has_serial row.flushed s ≡ false
    by_flag false q = q
    by_flag true q =
        let x = flushed_from s q in
        let low = (stood earlier (retirements earlier) x.0 (loaded_by k m) x.1 loaded_serials x.3).low in
        let same = ap (λ n. place earlier n) x.4 in
        let lt = below (place earlier s) (retirements earlier) (sym (inv.retired s alive) ∙ gone) in
        absurd (omega (arith, low, same, lt))

  -- Words

  -- a token before the flush stood before the row, or is the new one
  loaded_from : (i : ℕ) (t : Token) → slice_get (loaded_by k m) i ≡ Some (Some t) → Named m.slots i t ⊎ (t.cell.serial ≡ m.next)
  loaded_from i t e =
      let v = alike_get (fill_first (new_by k m) m.slots) (loaded_by k m) i t alike e in
      elim (filled_from (new_by k m) i m.slots v.0 v.1) [
        | inl before ↦ inl (record { token = v.0; here = before; serial = v.2.serial; word = v.2.word })
        | inr new ↦ inr (v.2.serial ∙ fetched_serial m.next (new_by k m) v.0 new_has new)
      ]

  loaded_words : (s word : ℕ) → IsWordOf (judged k) (row ∷ earlier) s word → HasWord (loaded_by k m) s word
  loaded_words s word (inr h) i t here serial = elim (loaded_from i t here) [
    | inl x ↦ x.word ∙ inv.words s word h i x.token x.here (sym x.serial ∙ serial)
    | inr new ↦ let lt = inv.fresh s word h in absurd (omega (arith, lt, new, serial))
  ]
  loaded_words s word (inl h) i t here serial =
      let x = shown_at h.0 h.1 h.2 in
      let same = one_token earlier (retirements earlier) i h.0 (loaded_by k m) t x.token loaded_serials here x.here_is (serial ∙ sym (x.serial ∙ h.3)) in
      ap (λ (v : Token). v.cell.word) same ∙ x.word ∙ h.4

  pub words_now : (s word : ℕ) → IsWordOf (judged k) (row ∷ earlier) s word → HasWord (seen_by k m) s word
  words_now s word h i t here serial = loaded_words s word h i t (left_from i t here).1 serial

  pub fresh_now : (s word : ℕ) → IsWordOf (judged k) (row ∷ earlier) s word → s < next_after m.next m.slots (new_by k m)
  fresh_now s word (inr h) = more m.slots (new_by k m) (inv.fresh s word h) where
    more : (l : Slots) (o : Option Token) → s < m.next → s < next_after m.next l o
    more [] o lt = lt
    more (Some t ∷ l) o lt = lt
    more (None ∷ l) None lt = lt
    more (None ∷ l) (Some t) lt = omega (arith, lt)
  fresh_now s word (inl h) =
      let x = shown_at h.0 h.1 h.2 in
      let lt = loaded_fresh h.0 x.token x.here_is in
      subst (λ n. n < next_after m.next m.slots (new_by k m)) (x.serial ∙ h.3) lt
