-- What becomes of a token from row to row: it stands in a stage with its name, or has been retired at its place, which stays.
use Rattle.rv_machine.proofs.ReadsClear.{IsGoing}
use Rattle.std.proofs.Common.{◌≡◌, ◌∙◌, refl, sym, ap, subst, ℕ, zero, suc, ◌<◌, ◌≤◌, List, [], ◌∷◌, ◌++◌, Option, Some, None, Bool, true, false, inl, inr, ◌⊎◌, arith}
use Rattle.std.specs.Prelude.{if◌then◌else◌, ◌||◌, ◌==◌, is_some, slice_get, nat_lt}
use Rattle.std.proofs.lemmas.Bool.{cases_lt, false≢true}
use Rattle.std.proofs.lemmas.Bool.Decides.{nat_tests}
use Rattle.rv_seq.specs.declared.arch.Arch.{Arch}
use Rattle.rv_seq.specs.Steps.{word_at}
use Rattle.rv_trace.specs.declared.row.Row.{Row}
use Rattle.rv_trace.specs.Trace.{newest, has_serial, is_flushed, retires, is_retired, place, retirements}
use Rattle.rv_holds.specs.declared.token.Token.{Token}
use Rattle.rv_holds.specs.Tokens.{Slots}
use Rattle.rv_holds.specs.Flushing.{struck}
use Rattle.rv_engine.specs.Settings.{Setting, Machine}
use Rattle.rv_engine.specs.Rows.{waited, going, advanced, leaving, fill_first, new_by, loaded_by, turn_by, seen_by, left_by, entered_by, machine_after, IsRowOf}
use Rattle.rv_lawful.specs.Entering.{places}
use Rattle.rv_machine.specs.Placed.{run, count, at_places, IsReady, Inv}
use Rattle.rv_machine.specs.Running.{AreRows, machine_at}
use Rattle.rv_machine.specs.Told.{Decided, NoStops}
use Rattle.rv_machine.proofs.Before as B
use Rattle.rv_machine.proofs.Carried.{row_at, run_before}
use Rattle.rv_machine.proofs.Clearing.{cleared_get}
use Rattle.rv_machine.proofs.Entered.{entry_empties}
use Rattle.rv_machine.proofs.EntryNext.{more_places}
use Rattle.rv_machine.proofs.Flushing as F
use Rattle.rv_machine.proofs.GoesNext.{same_places}
use Rattle.rv_machine.proofs.Going.{Free}
use Rattle.rv_machine.proofs.Moving.{free_ahead}
use Rattle.rv_machine.proofs.NextRow as N
use Rattle.rv_machine.proofs.Places.{place_le, place_same, flushed_now, unflushed_before, stood}
use Rattle.rv_machine.proofs.Alike.{Alike, AlikeSlot, IsAlike}
use Rattle.rv_machine.proofs.Retiring as R

-- ---- a slot after the moves

-- where the token of a slot is after the moves: held there, in the next slot, or out of the last
abbrev pub MovedTo : Option Token → Slots → ℕ → Token → Type 0
MovedTo come seen i u =
    ((is_some u.cell.hold ≡ true) × (slice_get (advanced come seen) i ≡ Some (Some (waited u))))
    ⊎ (((is_some u.cell.hold ≡ false) × (slice_get (advanced come seen) (suc i) ≡ Some (Some u)))
    ⊎ ((is_some u.cell.hold ≡ false) × (leaving come seen ≡ Some u)))

same_slot : (s : Option Token) (u : Token) → ◌≡◌ {A = Option (Option Token)} (Some s) (Some (Some u)) → s ≡ Some u
same_slot s u e = cc

-- the first of these
first_moved : (k : Setting) (stage : ℕ) (come : Option Token) (u : Token) (older : Slots) → Decided k stage (Some u ∷ older) → NoStops k stage (Some u ∷ older) → MovedTo come (Some u ∷ older) 0 u
first_moved k stage come u older d n = by_hold (is_some u.cell.hold) refl older (free_ahead k stage (Some u) older d n) where
  next_slot : Slots → Option Token
  next_slot [] = None
  next_slot (s ∷ l) = s

  by_hold : (b : Bool) → is_some u.cell.hold ≡ b → (older : Slots) → Free (going (Some u)) (Rattle.rv_engine.specs.Rows.first_slot older) → MovedTo come (Some u ∷ older) 0 u
  by_hold true e older f = inl (e, ap (λ (b : Bool). slice_get ((if b then Some (waited u) else come) ∷ advanced (going (Some u)) older) 0) e)
  by_hold false e [] f = inr (inr (e, ap (λ (b : Bool). leaving (if b then None else Some u) []) e))
  by_hold false e (None ∷ rest) f = inr (inl (e, ap (λ (b : Bool). slice_get (advanced (if b then None else Some u) (None ∷ rest)) 0) e))
  by_hold false e (Some v ∷ rest) f = by_next (is_some v.cell.hold) refl where
    goes : going (Some u) ≡ Some u
    goes = ap (λ (b : Bool). if b then None else Some u) e

    by_next : (b : Bool) → is_some v.cell.hold ≡ b → MovedTo come (Some u ∷ Some v ∷ rest) 0 u
    by_next true q = (let none : going (Some u) ≡ None = f q in cc (sym goes ∙ none))
    by_next false q =
        inr (inl (e, ap (λ o. slice_get (advanced o (Some v ∷ rest)) 0) goes ∙ ap (λ (b : Bool). slice_get ((if b then Some (waited v) else Some u) ∷ advanced (going (Some v)) rest) 0) q))

tail_decided : (k : Setting) (stage : ℕ) (s : Option Token) (older : Slots) → Decided k stage (s ∷ older) → Decided k (suc stage) older
tail_decided k stage None older d = d
tail_decided k stage (Some t) older d = d.1

tail_stops : (k : Setting) (stage : ℕ) (s : Option Token) (older : Slots) → NoStops k stage (s ∷ older) → NoStops k (suc stage) older
tail_stops k stage None older d = d
tail_stops k stage (Some t) older d = d.1

pub moved_to : (k : Setting) (stage : ℕ) (come : Option Token) (seen : Slots) (i : ℕ) (u : Token) → Decided k stage seen → NoStops k stage seen → slice_get seen i ≡ Some (Some u) → MovedTo come seen i u
moved_to k stage come [] i u d n e = cc
moved_to k stage come (s ∷ older) zero u d n e =
    let same = same_slot s u e in
    subst (λ o. MovedTo come (o ∷ older) 0 u) (sym same)
    (first_moved k stage come u older (subst (λ o. Decided k stage (o ∷ older)) same d) (subst (λ o. NoStops k stage (o ∷ older)) same n))
moved_to k stage come (s ∷ older) (suc i) u d n e = moved_to k (suc stage) (going s) older i u (tail_decided k stage s older d) (tail_stops k stage s older n) e

-- ---- a token's fate

pub record InSlots (slots : Slots) (least s at word : ℕ) : Type 0 where
  pub stage : ℕ
  pub token : Token
  pub there : slice_get slots stage ≡ Some (Some token)
  pub low : least ≤ stage
  pub serial : token.cell.serial ≡ s
  pub at_is : token.cell.at ≡ at
  pub word_is : token.cell.word ≡ word

pub record IsOut (k : Setting) (rows : List Row) (s at word : ℕ) : Type 0 where
  pub retired : is_retired rows s ≡ true
  pub at_is : at ≡ (run k (place rows s)).pc
  pub word_is : word_at k.image at ≡ Some word

abbrev pub Fate : Setting → List Row → Slots → ℕ → ℕ → ℕ → ℕ → Type 0
Fate k rows slots least s at word = InSlots slots least s at word ⊎ IsOut k rows s at word

alike_there : (a b : Slots) (i : ℕ) (t : Token) → Alike a b → slice_get a i ≡ Some (Some t) → (u : Token) × (slice_get b i ≡ Some (Some u)) × IsAlike t u
alike_there [] b i t l e = cc
alike_there (s ∷ a) [] i t l e = absurd l
alike_there (s ∷ a) (u ∷ b) zero t l e = by_slot s u l.0 e where
  same : (v w : Token) → ◌≡◌ {A = Option (Option Token)} (Some (Some v)) (Some (Some w)) → v ≡ w
  same v w q = cc

  by_slot : (s u : Option Token) → AlikeSlot s u → ◌≡◌ {A = Option (Option Token)} (Some s) (Some (Some t)) → (v : Token) × (◌≡◌ {A = Option (Option Token)} (Some u) (Some (Some v))) × IsAlike t v
  by_slot None u h q = cc
  by_slot (Some v) None h q = absurd h
  by_slot (Some v) (Some w) h q = (w, refl, subst (λ (z : Token). IsAlike z w) (same v t q) h)
alike_there (s ∷ a) (u ∷ b) (suc i) t l e = alike_there a b i t l.1 e

filled_there : (new : Option Token) (slots : Slots) (i : ℕ) (t : Token) → slice_get slots i ≡ Some (Some t) → slice_get (fill_first new slots) i ≡ Some (Some t)
filled_there new [] i t e = e
filled_there new (None ∷ slots) zero t e = cc
filled_there new (Some u ∷ slots) zero t e = e
filled_there new (s ∷ slots) (suc i) t e = e

module _ (k : Setting) (ready : IsReady k) (earlier : List Row) (m : Machine) (row : Row) (inv : Inv k earlier m) (is : IsRowOf k m row) where
  abbrev r : ℕ
  r = retirements earlier

  -- a token of the slots, in the row
  pub record InRow (i : ℕ) (t : Token) : Type 0 where
    pub token : Token
    pub loaded : slice_get (loaded_by k m) i ≡ Some (Some token)
    pub alike : IsAlike t token

  pub in_row : (i : ℕ) (t : Token) → slice_get m.slots i ≡ Some (Some t) → InRow i t
  in_row i t e =
      let x = alike_there (fill_first (new_by k m) m.slots) (loaded_by k m) i t (B.loaded_alike k ready earlier m inv) (filled_there (new_by k m) m.slots i t e) in
      record { token = x.0; loaded = x.1; alike = x.2 }

  -- one that is not flushed is seen, and has its place still
  pub unstruck : (i : ℕ) (t : Token) → slice_get (loaded_by k m) i ≡ Some (Some t) → is_flushed (row ∷ earlier) t.cell.serial ≡ false → struck (turn_by k m) ≤ i
  unstruck i t e alive = elim (cases_lt i (struck (turn_by k m))) [
    | inl lt ↦ absurd (false≢true (sym alive ∙ flushed_now row earlier t.cell.serial (F.flushes_first k ready earlier m row inv is i t lt e)))
    | inr le ↦ le
  ]

  pub seen_there : (i : ℕ) (t : Token) → slice_get (loaded_by k m) i ≡ Some (Some t) → struck (turn_by k m) ≤ i → slice_get (seen_by k m) i ≡ Some (Some t)
  seen_there i t e le = cleared_get (struck (turn_by k m)) i (loaded_by k m) le (B.struck_inside k ready earlier m inv) ∙ e

  pub place_stands : (i : ℕ) (t : Token) → slice_get (loaded_by k m) i ≡ Some (Some t) → struck (turn_by k m) ≤ i → place (row ∷ earlier) t.cell.serial ≡ place earlier t.cell.serial
  place_stands i t e le = place_same row earlier t.cell.serial (λ j lt. F.none_below k ready earlier m row inv is i t le e j (omega (arith, lt)))

  below : (a b : ℕ) → nat_lt a b ≡ true → a < b
  below a b h = grind (arith, nat_tests)

  -- what has been retired has its place still
  pub place_retired : (s : ℕ) → is_flushed earlier s ≡ false → is_retired earlier s ≡ true → place (row ∷ earlier) s ≡ place earlier s
  place_retired s alive gone = place_same row earlier s (λ j lt. by_flag j lt (has_serial row.flushed j) refl) where
    by_flag : (j : ℕ) → j < s → (b : Bool) → has_serial row.flushed j ≡ b → has_serial row.flushed j ≡ false
    by_flag j lt false q = q
    by_flag j lt true q =
        let x = F.flushed_from k ready earlier m row inv is j q in
        let low = (stood earlier (retirements earlier) x.0 (loaded_by k m) x.1 (F.loaded_serials k ready earlier m row inv is) x.3).low in
        let same = ap (λ n. place earlier n) x.4 in
        let most = place_le earlier j s (omega (arith, lt)) in
        let less = below (place earlier s) (retirements earlier) (sym (inv.retired s alive) ∙ gone) in
        absurd (omega (arith, low, same, most, less))

  -- a token that is seen moves
  pub fate_seen : NoStops k 0 (seen_by k m) → (i : ℕ) (u : Token) → slice_get (seen_by k m) i ≡ Some (Some u) →
      ((is_some u.cell.hold ≡ true) × (slice_get (machine_after k m).slots i ≡ Some (Some (waited u))))
      ⊎ ((is_some u.cell.hold ≡ false) × Fate k (row ∷ earlier) (machine_after k m).slots (suc i) u.cell.serial u.cell.at u.cell.word)
  unfolding is_retired
  fate_seen none i u e = elim (moved_to k 0 None (seen_by k m) i u (B.seen_decided k ready earlier m inv) none e) [
    | inl stays ↦ inl stays
    | inr rest ↦ elim rest [
      | inl next ↦ inr (next.0, inl (record { stage = suc i; token = u; there = next.1; low = omega arith; serial = refl; at_is = refl; word_is = refl }))
      | inr out ↦
          let left = R.left_is k ready earlier m row inv is u out.1 in
          let serial = R.left_serial k ready earlier m row inv is u out.1 in
          inr (
            out.0,
            inr (record {
              retired = gone_now out.1;
              at_is = left.at ∙ ap (λ n. (run k n).pc) (sym serial.0);
              word_is = left.word;
            }),
          )
    ]
  ] where
    itself : (a : ℕ) → (a == a) ≡ true
    itself a = grind (arith, nat_tests)

    gone_now : left_by k m ≡ Some u → (retires row.retired u.cell.serial || is_retired earlier u.cell.serial) ≡ true
    gone_now q = elim (R.goes_out k ready earlier m row inv is) [
      | inl n ↦ cc (n.0, q)
      | inr y ↦
          let same : y.0.token ≡ u = same_token y.0.token u (sym y.0.is_left ∙ q) in
          ap (λ o. retires o u.cell.serial || is_retired earlier u.cell.serial) y.0.is_retired
          ∙ ap (λ (v : Token). (v.cell.serial == u.cell.serial) || is_retired earlier u.cell.serial) same
          ∙ ap (λ (b : Bool). b || is_retired earlier u.cell.serial) (itself u.cell.serial)
    ] where
      same_token : (a b : Token) → ◌≡◌ {A = Option Token} (Some a) (Some b) → a ≡ b
      same_token a b z = cc

  some_out : (a b : Bool) → b ≡ true → (a || b) ≡ true
  some_out true b e = refl
  some_out false b e = e

  -- one row further
  pub record Further (least s at word : ℕ) : Type 0 where
    pub fate : Fate k (row ∷ earlier) (machine_after k m).slots least s at word
    pub place_is : place (row ∷ earlier) s ≡ place earlier s

  -- its place stays
  pub place_next : (least s at word : ℕ) → is_flushed (row ∷ earlier) s ≡ false → Fate k earlier m.slots least s at word → place (row ∷ earlier) s ≡ place earlier s
  place_next least s at word alive (inl h) =
      let x = in_row h.stage h.token h.there in
      let serial : x.token.cell.serial ≡ s = x.alike.serial ∙ h.serial in
      let le = unstruck h.stage x.token x.loaded (ap (λ n. is_flushed (row ∷ earlier) n) serial ∙ alive) in
      ap (λ n. place (row ∷ earlier) n) (sym serial) ∙ place_stands h.stage x.token x.loaded le ∙ ap (λ n. place earlier n) serial
  place_next least s at word alive (inr h) = place_retired s (unflushed_before row earlier s alive) h.retired

  pub fate_next : NoStops k 0 (seen_by k m) → (least s at word : ℕ) → is_flushed (row ∷ earlier) s ≡ false → Fate k earlier m.slots least s at word → Further least s at word
  unfolding is_retired
  fate_next none least s at word alive (inl h) =
      let x = in_row h.stage h.token h.there in
      let serial : x.token.cell.serial ≡ s = x.alike.serial ∙ h.serial in
      let le = unstruck h.stage x.token x.loaded (ap (λ n. is_flushed (row ∷ earlier) n) serial ∙ alive) in
      let low = h.low in
      record {
        fate = elim (fate_seen none h.stage x.token (seen_there h.stage x.token x.loaded le)) [
          | inl stays ↦ inl (record { stage = h.stage; token = waited x.token; there = stays.1; low = low; serial = serial; at_is = x.alike.at ∙ h.at_is; word_is = x.alike.word ∙ h.word_is })
          | inr goes ↦ elim goes.1 [
            | inl y ↦ (let more = y.low in inl (record { stage = y.stage; token = y.token; there = y.there; low = omega (arith, low, more); serial = y.serial ∙ serial; at_is = y.at_is ∙ x.alike.at ∙ h.at_is; word_is = y.word_is ∙ x.alike.word ∙ h.word_is }))
            | inr y ↦
                let at_is : x.token.cell.at ≡ at = x.alike.at ∙ h.at_is in
                let word_is : x.token.cell.word ≡ word = x.alike.word ∙ h.word_is in
                inr (record {
                  retired = ap (λ n. is_retired (row ∷ earlier) n) (sym serial) ∙ y.retired;
                  at_is = sym at_is ∙ y.at_is ∙ ap (λ n. (run k (place (row ∷ earlier) n)).pc) serial;
                  word_is = ap (λ a. word_at k.image a) (sym at_is) ∙ y.word_is ∙ ap (λ w. Some w) word_is;
                })
          ]
        ];
        place_is = place_next least s at word alive (inl h);
      }
  fate_next none least s at word alive (inr h) =
      let same = place_retired s (unflushed_before row earlier s alive) h.retired in
      record {
        fate = inr (record {
          retired = some_out (retires row.retired s) (is_retired earlier s) h.retired;
          at_is = h.at_is ∙ ap (λ n. (run k n).pc) (sym same);
          word_is = h.word_is;
        });
        place_is = same;
      }

-- ---- past an entry

-- where there is no token
no_token : (slots : Slots) (i : ℕ) (t : Token) → count slots ≡ 0 → slice_get slots i ≡ Some (Some t) → ⊥
no_token [] i t none e = cc
no_token (None ∷ slots) zero t none e = cc
no_token (None ∷ slots) (suc i) t none e = no_token slots i t none e
no_token (Some u ∷ slots) i t none e = absurd (omega (arith, none))

module _ (k : Setting) (ready : IsReady k) (earlier : List Row) (m : Machine) (row : Row) (inv : Inv k earlier m) (is : IsRowOf k m row) (least s at word : ℕ) (alive : is_flushed (row ∷ earlier) s ≡ false) where
  -- as the rows with this one judge it
  pub record CarriedTo (ps : List ℕ) : Type 0 where
    pub fate : Fate (at_places k ps) (row ∷ earlier) (machine_after k m).slots least s at word
    pub run_is : run (at_places k ps) (place (row ∷ earlier) s) ≡ run k (place (row ∷ earlier) s)

  abbrev now : ℕ
  now = retirements (row ∷ earlier)

  -- where the row takes an interrupt no token is left in a stage, and what was retired has a place before that of the entry
  past_entry : entered_by k m ≡ true → Fate k (row ∷ earlier) (machine_after k m).slots least s at word → CarriedTo (now ∷ k.places)
  past_entry e (inl h) = absurd (no_token (machine_after k m).slots h.stage h.token (entry_empties k ready m (B.loaded_length k ready earlier m inv) e) h.there)
  past_entry e (inr h) =
      let out = R.retired_now k ready earlier m row inv is in
      let told : is_retired (row ∷ earlier) s ≡ nat_lt (place (row ∷ earlier) s) now = R.told_retired k ready earlier m row inv is s alive ∙ ap (λ n. nat_lt (place (row ∷ earlier) s) n) (sym out) in
      let lt : place (row ∷ earlier) s < now = less_of (place (row ∷ earlier) s) now (sym told ∙ h.retired) in
      let same = run_before k now (place (row ∷ earlier) s) lt in
      record {
        fate = inr (record { retired = h.retired; at_is = h.at_is ∙ ap (λ (a : Arch). a.pc) (sym same); word_is = h.word_is });
        run_is = same;
      } where
        less_of : (a b : ℕ) → nat_lt a b ≡ true → a < b
        less_of a b q = grind (arith, nat_tests)

  -- what became of a token in a row is so as the rows with this one judge it
  pub carried_fate : Fate k (row ∷ earlier) (machine_after k m).slots least s at word → CarriedTo (places (row ∷ earlier))
  carried_fate h = by_entry (entered_by k m) refl where
    by_entry : (b : Bool) → entered_by k m ≡ b → CarriedTo (places (row ∷ earlier))
    by_entry false e = subst (λ ps. CarriedTo ps) (inv.entries ∙ sym (same_places k ready earlier m row inv is e)) (record { fate = h; run_is = refl })
    by_entry true e = subst (λ ps. CarriedTo ps) (sym (more_places k ready earlier m row inv is e)) (past_entry e h)

-- ---- many rows further

pub rows_rest : (k : Setting) (newer base : List Row) → AreRows k (newer ++ base) → AreRows k base
rows_rest k [] base are = are
rows_rest k (row ∷ newer) base are = rows_rest k newer base are.2

-- what becomes of it, its place, and the state of the run there
pub record Follows (k : Setting) (newer base : List Row) (least s at word : ℕ) : Type 0 where
  pub fate : Fate (at_places k (places (newer ++ base))) (newer ++ base) (machine_at k (newer ++ base)).slots least s at word
  pub place_is : place (newer ++ base) s ≡ place base s
  pub run_is : run (at_places k (places (newer ++ base))) (place (newer ++ base) s) ≡ run (at_places k (places base)) (place base s)

pub follows : (k : Setting) → ((ps : List ℕ) → IsReady (at_places k ps)) → IsGoing k → (newer base : List Row) → AreRows k (newer ++ base) → (newest (newer ++ base)).stop ≡ None → (least s at word : ℕ) → is_flushed (newer ++ base) s ≡ false
    → Fate (at_places k (places base)) base (machine_at k base).slots least s at word → Follows k newer base least s at word
unfolding machine_at
follows k ready goes [] base are going least s at word alive h = record { fate = h; place_is = refl; run_is = refl }
follows k ready goes (row ∷ newer) base are going least s at word alive h =
    let rest = newer ++ base in
    let here = at_places k (places rest) in
    let m = machine_at k rest in
    let inv = goes rest are.2 are.1 in
    let is = row_at k (places rest) m row are.0 in
    let before = follows k ready goes newer base are.2 are.1 least s at word (unflushed_before row rest s alive) h in
    let next = fate_next here (ready (places rest)) rest m row inv is (N.no_stop here (ready (places rest)) rest m row inv is going) least s at word alive before.fate in
    let carried = carried_fate here (ready (places rest)) rest m row inv is least s at word alive next.fate in
    record { fate = carried.fate; place_is = next.place_is ∙ before.place_is; run_is = carried.run_is ∙ ap (λ p. run here p) next.place_is ∙ before.run_is }
