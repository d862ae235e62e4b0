-- Successors: a token that settles turns the fetch exactly where another address than its successor's stands next.
use Rattle.std.proofs.lemmas.List.{length-drop}
use Rattle.rv_machine.proofs.Entered.{entry_seen, entry_struck, remains_at}
use Rattle.std.proofs.Common.{◌≡◌, ◌≢◌, ℕ, suc, ◌+◌, ◌<◌, ◌≤◌, List, [], ◌∷◌, drop, take, length, Option, Some, None, Bool, true, false, refl, sym, ap, ◌∙◌, subst, arith, ◌⊎◌, inl, inr}
use Rattle.std.specs.Prelude.{◌||◌, if◌then◌else◌, ◌==◌, is_some, slice_get}
use Rattle.std.proofs.lemmas.Bool.{cases_lt}
use Rattle.rv_trace.specs.declared.row.Cell.{Cell}
use Rattle.rv_trace.specs.declared.row.Row.{Row}
use Rattle.rv_trace.specs.Trace.{place, has_serial, retirements}
use Rattle.rv_trace.specs.RowParts.{name_of, leaves, front, unless}
use Rattle.rv_asks.specs.declared.asks.Asks.{Asks}
use Rattle.rv_holds.specs.declared.token.Token.{Token}
use Rattle.rv_holds.specs.declared.flushing.Turn.{Turn}
use Rattle.rv_holds.specs.Tokens.{Slots, cells_of}
use Rattle.rv_holds.specs.Holds.{is_late, stops_now}
use Rattle.rv_holds.specs.Flushing.{next_of, settles_at, settles, nearest, mismatch, struck, redirect_of, unheld, cleared, fetch_after, turn_of}
use Rattle.rv_engine.specs.Settings.{Setting, Machine, shape_of}
use Rattle.rv_engine.specs.Rows as Rows
use Rattle.rv_engine.specs.Rows.{loaded_by, turn_by, seen_by, fetch_by, IsRowOf, entered_by, written_by}
use Rattle.rv_lawful.specs.Settings as Lawful
use Rattle.rv_lawful.specs.Sight.{asked}
use Rattle.rv_lawful.specs.LawfulTrace.{guessed, plain_fetch, fetch_address, StopsRun, IsSettlingStage, Settles, successor, IsNextYounger, HasNoYounger, IsMismatch, Successors, IsFlushedByMismatch, IsFlushedByEntry}
use Rattle.rv_machine.specs.Owing.{judged}
use Rattle.rv_machine.specs.Placed.{run, Placed, IsReady}
use Rattle.rv_machine.proofs.Before as B
use Rattle.rv_machine.proofs.Deciding.{same_test, test_eq, test_ne}
use Rattle.rv_machine.specs.Made.{Made}
use Rattle.rv_machine.proofs.Standing.{here_of, At, at_stage, cell_here}
use Rattle.rv_machine.proofs.OwnHolds.{ordered, then_stops, stops_then}
use Rattle.rv_machine.proofs.Moving.{keeps_all}
use Rattle.rv_machine.proofs.Filling.{fetch_told}
use Rattle.rv_machine.proofs.Clearing.{cleared_drop, take_get, get_take, shown_as, shows_cell, oldest_of}
use Rattle.rv_machine.proofs.Turns.{turner, settled_first, settles_parts, parts_settle, settles_where, none_before, plain_turn}

module _ (k : Setting) (ready : IsReady k) (earlier : List Row) (m : Machine) (row : Row) (made : Made k earlier m row) where
  abbrev slots : Slots
  slots = loaded_by k m

  abbrev flushed : ℕ
  flushed = struck (turn_by k m)

  inside : flushed ≤ length (loaded_by k m)
  inside = B.struck_inside k ready earlier m made.inv

  pub seen_drop : (n : ℕ) → flushed ≤ n → drop n (seen_by k m) ≡ drop n (loaded_by k m)
  seen_drop n le = cleared_drop flushed n (loaded_by k m) le inside

  -- past the flushed stages the row has the cells of the tokens that are left
  pub stands_at : (stage : ℕ) → flushed ≤ stage → slice_get (Lawful.stages_of (judged k) row) stage ≡ slice_get (cells_of (seen_by k m)) stage
  stands_at stage le = made.told.cells stage (subst (λ n. n ≤ stage) (sym made.struck_is) le)

  pub gone_at : (stage : ℕ) (c : Cell) → stage < flushed → Lawful.Stands (judged k) row stage c → (c.hold ≡ None) × (has_serial row.flushed c.serial ≡ true)
  gone_at stage c lt s = made.told.gone stage c (subst (λ n. stage < n) (sym made.struck_is) lt) s

  pub left_from : (stage : ℕ) (t : Token) → slice_get (seen_by k m) stage ≡ Some (Some t) → flushed ≤ stage
  left_from stage t e = subst (λ n. n ≤ stage) made.struck_is (made.told.left stage t e)

  pub cell_at : (stage : ℕ) (c : Cell) → flushed ≤ stage → Lawful.Stands (judged k) row stage c → At k (retirements earlier) stage c (seen_by k m)
  cell_at stage c le s = at_stage k (retirements earlier) stage c (seen_by k m) made.told.placed made.told.decided (sym (stands_at stage le) ∙ s)

  pub leaves_parts : (c : Cell) → leaves row (Some c) ≡ name_of (Some c) → (is_some c.hold ≡ false) × (has_serial row.flushed c.serial ≡ false)
  leaves_parts c h = by_case (is_some c.hold) (has_serial row.flushed c.serial) h where
    by_case : (a b : Bool) → (if a || b then None else name_of (Some c)) ≡ name_of (Some c) → (a ≡ false) × (b ≡ false)
    by_case false false q = (refl, refl)
    by_case false true q = cc
    by_case true b q = cc

  -- a cell that leaves its stage is not flushed
  leaver_left : (stage : ℕ) (c : Cell) → Lawful.Stands (judged k) row stage c → leaves row (Some c) ≡ name_of (Some c) → flushed ≤ stage
  leaver_left stage c s h = elim (cases_lt stage flushed) [ inl lt ↦ cc ((gone_at stage c lt s).1, (leaves_parts c h).1) | inr le ↦ le ]

  -- The token that settles

  -- a token of the seen slots that settles has its cell's successor
  names_successor : (stage : ℕ) (t : Token) (older : Slots) (c : Cell) → drop stage (seen_by k m) ≡ Some t ∷ older → Placed k (retirements earlier) stage (Some t ∷ older) → c.serial ≡ t.cell.serial → settles (shape_of k) stage t older ≡ true → next_of t ≡ successor (judged k) (row ∷ earlier) c
  names_successor stage t older c rest placed serial s =
      let p = (ordered k ready earlier row (seen_by k m) made.told stage t older rest placed).0.0 in
      made.names_pc stage t older rest s ∙ ap (λ n. (run k (suc n)).pc) (sym p ∙ ap (λ n. place (row ∷ earlier) n) (sym serial))

  stage_settles : (stage : ℕ) (t : Token) (b : Bool) → is_late t ≡ b → IsSettlingStage (judged k) b stage → settles_at (shape_of k) stage t ≡ true
  stage_settles stage t b e h = ap (λ (x : Bool). if x then suc stage == (shape_of k).stages else stage == (shape_of k).ex) e ∙ at b h where
    at : (b : Bool) → IsSettlingStage (judged k) b stage → (if b then suc stage == (shape_of k).stages else stage == (shape_of k).ex) ≡ true
    at false h = same_test stage (shape_of k).ex h
    at true h = same_test (suc stage) (shape_of k).stages h

  settles_stage : (stage : ℕ) (t : Token) (b : Bool) → is_late t ≡ b → settles_at (shape_of k) stage t ≡ true → IsSettlingStage (judged k) b stage
  settles_stage stage t false e h = test_eq stage (shape_of k).ex (settles_where (shape_of k) stage t h false e)
  settles_stage stage t true e h = test_eq (suc stage) (shape_of k).stages (settles_where (shape_of k) stage t h true e)

  -- a stage from which a successor is settled is past stage 0, and one of the core's
  settling_inside : (b : Bool) (stage : ℕ) → IsSettlingStage (judged k) b stage → (0 < stage) × (stage < (shape_of k).stages)
  settling_inside false stage e =
      let a = ready.rd_pos in
      let b = ready.rd_ex in
      let c = ready.ex_last in
      (omega (arith, a, b, e), omega (arith, c, e))
  settling_inside true stage e =
      let c = ready.ex_last in
      (omega (arith, c, e), omega (arith, e))

  -- a cell that settles is a token's that does
  pub record Settling (stage : ℕ) (c : Cell) : Type 0 where
    pub token : Token
    pub older : Slots
    pub is : token.cell ≡ c
    pub rest : drop stage (loaded_by k m) ≡ Some token ∷ older
    pub settles_now : settles (shape_of k) stage token older ≡ true
    pub names : next_of token ≡ successor (judged k) (row ∷ earlier) c

  settling : (stage : ℕ) (c : Cell) → Lawful.Stands (judged k) row stage c → Settles (judged k) earlier row stage c → Settling stage c
  settling stage c stands s =
      let le = leaver_left stage c stands s.leaves in
      let at = cell_at stage c le stands in
      let asks : at.token.asks ≡ asked k.design c.word = at.placed.0.asks ∙ ap (λ (d : Cell). asked k.design d.word) at.is in
      let where_now = stage_settles stage at.token (asked k.design c.word).late (ap (λ (a : Asks). a.late) asks) s.settling in
      let none : is_some at.token.cell.hold ≡ false = ap (λ (d : Cell). is_some d.hold) at.is ∙ (leaves_parts c s.leaves).0 in
      let now = parts_settle (shape_of k) stage at.token at.older where_now none (runs at) in
      record {
        token = at.token;
        older = at.older;
        is = at.is;
        rest = sym (seen_drop stage le) ∙ at.rest;
        settles_now = now;
        names = names_successor stage at.token at.older c at.rest at.placed (sym (ap (λ (d : Cell). d.serial) at.is)) now;
      } where
        runs : (at : At k (retirements earlier) stage c (seen_by k m)) → stops_now (shape_of k) stage at.token at.older ≡ false
        runs at = by_case (stops_now (shape_of k) stage at.token at.older) refl where
          by_case : (b : Bool) → stops_now (shape_of k) stage at.token at.older ≡ b → b ≡ false
          by_case false q = refl
          by_case true q =
              let x = then_stops k ready earlier row (seen_by k m) made.told stage at.token at.older at.rest at.placed q in
              absurd (s.runs x.0 (subst (λ d. StopsRun (judged k) earlier row stage d x.0) at.is x.2))

  turn_is : (stage : ℕ) (c : Cell) → Lawful.Stands (judged k) row stage c → Settles (judged k) earlier row stage c
      → turn_of (shape_of k) m.fetch (loaded_by k m) ≡ (if successor (judged k) (row ∷ earlier) c == nearest m.fetch (take stage (loaded_by k m)) then None else Some (record { stage = stage; address = successor (judged k) (row ∷ earlier) c }))
  turn_is stage c stands s =
      let x = settling stage c stands s in
      let low = (settling_inside (asked k.design c.word).late stage s.settling).1 in
      let z : 0 + stage ≡ stage = omega arith in
      let first = settled_first (shape_of k) 0 stage (loaded_by k m) x.older x.token x.rest (subst (λ j. settles (shape_of k) j x.token x.older ≡ true) (sym z) x.settles_now) (before x low) in
      ap (λ o. mismatch m.fetch (loaded_by k m) o) (first ∙ ap (λ (j : ℕ). Some (record { stage = j; address = next_of x.token })) z ∙ ap (λ (a : ℕ). Some (record { stage = stage; address = a })) x.names) where
        before : (x : Settling stage c) → stage < (shape_of k).stages → (i : ℕ) (u : Token) (l : Slots) → i < stage → drop i (loaded_by k m) ≡ Some u ∷ l → settles (shape_of k) (0 + i) u l ≡ false
        before x low i u l lt e =
            let z : i ≡ 0 + i = omega arith in
            subst (λ j. settles (shape_of k) j u l ≡ false) z (none_before k ready (loaded_by k m) stage i x.token u x.older l made.decided low x.rest x.settles_now lt e)

  -- The tokens next to it

  -- a cell is a token's
  below_token : (stage below : ℕ) (d : Cell) → below < stage → Lawful.Stands (judged k) row below d → (t : Token) × (slice_get (take stage (loaded_by k m)) below ≡ Some (Some t)) × (t.cell.at ≡ d.at)
  below_token stage below d lt s =
      let x = shown_as flushed below (loaded_by k m) d (ap (λ l. slice_get l below) (sym made.is.cells) ∙ s) in
      (x.token, take_get stage below (loaded_by k m) lt ∙ x.here_is, x.at)

  -- and a token's cell stands there
  token_below : (stage i : ℕ) (t : Token) → slice_get (take stage (loaded_by k m)) i ≡ Some (Some t) → (i < stage) × ((d : Cell) × Lawful.Stands (judged k) row i d × (d.at ≡ t.cell.at) × (d.serial ≡ t.cell.serial))
  token_below stage i t e =
      let g = get_take stage i (loaded_by k m) t e in
      let x = shows_cell flushed i (loaded_by k m) t g.1 in
      (g.0, (x.0, ap (λ l. slice_get l i) made.is.cells ∙ x.1, x.2, x.3))

  one_here : (stage a b : ℕ) → a ≡ b → (u v : Token) → slice_get (take stage (loaded_by k m)) a ≡ Some (Some u) → slice_get (take stage (loaded_by k m)) b ≡ Some (Some v) → u ≡ v
  one_here stage a b e u v p q = same u v (sym p ∙ ap (λ j. slice_get (take stage (loaded_by k m)) j) e ∙ q) where
    same : (u v : Token) → ◌≡◌ {A = Option (Option Token)} (Some (Some u)) (Some (Some v)) → u ≡ v
    same u v q = cc

  nearest_is : (stage below : ℕ) (d : Cell) → IsNextYounger (judged k) row stage below d → nearest m.fetch (take stage (loaded_by k m)) ≡ d.at
  nearest_is stage below d next =
      let t = below_token stage below d next.lower next.stands in
      elim (oldest_of (take stage (loaded_by k m)) m.fetch) [
        | inl x ↦ absurd (x.1 below t.0 t.1)
        | inr y ↦ elim (cases_lt y.index below) [
          | inl less ↦ absurd (y.last below t.0 less t.1)
          | inr more ↦ elim (cases_lt below y.index) [
            | inl past ↦ let b = token_below stage y.index y.token y.here_is in absurd (next.nearest y.index b.1.0 past b.0 b.1.1)
            | inr not ↦
                let same : y.index ≡ below = omega (arith, more, not) in
                y.address ∙ ap (λ (v : Token). v.cell.at) (one_here stage y.index below same y.token t.0 y.here_is t.1) ∙ t.2
          ]
        ]
      ]

  -- Mismatches

  other_turn : (a b stage : ℕ) → a ≢ b → ◌≡◌ {A = Option Turn} (if b == a then None else Some (record { stage = stage; address = b })) (Some (record { stage = stage; address = b }))
  other_turn a b stage ne = by_case (b == a) refl where
    by_case : (x : Bool) → (b == a) ≡ x → ◌≡◌ {A = Option Turn} (if x then None else Some (record { stage = stage; address = b })) (Some (record { stage = stage; address = b }))
    by_case true e = absurd (ne (sym (test_eq b a e)))
    by_case false e = refl

  turned : (stage : ℕ) (c : Cell) → IsMismatch (judged k) earlier row stage c → turn_of (shape_of k) m.fetch (loaded_by k m) ≡ Some (record { stage = stage; address = successor (judged k) (row ∷ earlier) c })
  turned stage c x =
      let near = nearest_is stage x.differs.0 x.differs.1 x.differs.2 in
      turn_is stage c x.stands x.settles
      ∙ ap (λ n. if successor (judged k) (row ∷ earlier) c == n then None else Some (record { stage = stage; address = successor (judged k) (row ∷ earlier) c })) near
      ∙ other_turn x.differs.1.at (successor (judged k) (row ∷ earlier) c) stage x.differs.3

  none_leaves : (l : List (Option Cell)) → ((d : Cell) → slice_get l 0 ≡ Some (Some d) → ⊥) → leaves row (front l) ≡ None
  none_leaves [] f = refl
  none_leaves (None ∷ l) f = refl
  none_leaves (Some c ∷ l) f = absurd (f c refl)

  -- with no younger cell the fetch address stands next
  alone_next : (stage : ℕ) → 0 < stage → HasNoYounger (judged k) row stage → nearest m.fetch (take stage (loaded_by k m)) ≡ plain_fetch (judged k) earlier (fetch_address (judged k) earlier) row
  alone_next stage some alone = elim (oldest_of (take stage (loaded_by k m)) m.fetch) [
    | inl x ↦ x.0 ∙ made.inv.fetch_is ∙ sym (ap (λ o. guessed (judged k) earlier (fetch_address (judged k) earlier) o) (none_leaves (Lawful.stages_of (judged k) row) (λ d q. alone 0 d some q)))
    | inr y ↦ let b = token_below stage y.index y.token y.here_is in absurd (alone y.index b.1.0 b.0 b.1.1)
  ]

  -- The cell that turns the fetch

  pub record Redirector (turn : Turn) : Type 0 where
    pub cell : Cell
    pub stands : Lawful.Stands (judged k) row turn.stage cell
    pub settles_row : Settles (judged k) earlier row turn.stage cell
    pub successor_is : successor (judged k) (row ∷ earlier) cell ≡ turn.address
    pub differs : (turn.address == nearest m.fetch (take turn.stage (loaded_by k m))) ≡ false

  redirector : entered_by k m ≡ false → (turn : Turn) → turn_by k m ≡ Some turn → Redirector turn
  redirector plain turn e =
      let x = turner (shape_of k) m.fetch (loaded_by k m) turn (sym (plain_turn k m plain) ∙ e) in
      let le : flushed ≤ turn.stage = subst (λ o. struck o ≤ turn.stage) (sym e) (omega arith) in
      let rest : drop turn.stage (seen_by k m) ≡ Some x.token ∷ x.older = seen_drop turn.stage le ∙ x.rest in
      let here = here_of (seen_by k m) x.older x.token turn.stage rest in
      let stands : Lawful.Stands (judged k) row turn.stage x.token.cell = stands_at turn.stage le ∙ cell_here (seen_by k m) turn.stage x.token here in
      let at = cell_at turn.stage x.token.cell le stands in
      let same : ◌≡◌ {A = Slots} (Some at.token ∷ at.older) (Some x.token ∷ x.older) = sym at.rest ∙ rest in
      let placed = subst (λ l. Placed k (retirements earlier) turn.stage l) same at.placed in
      let parts = settles_parts (shape_of k) turn.stage x.token x.older x.settles_now in
      let asks = placed.0.asks in
      let alive = made.kept turn.stage x.token here in
      record {
        cell = x.token.cell;
        stands = stands;
        settles_row = record {
          settling = settles_stage turn.stage x.token (asked k.design x.token.cell.word).late (ap (λ (a : Asks). a.late) asks) parts.0;
          leaves = unheld_leaves x.token parts.1 alive;
          runs = λ stop s. cc (stops_then k ready earlier row (seen_by k m) made.told turn.stage x.token x.older rest placed stop s, parts.2);
        };
        successor_is = sym (names_successor turn.stage x.token x.older x.token.cell rest placed refl x.settles_now) ∙ sym x.address;
        differs = x.differs;
      } where
        unheld_leaves : (t : Token) → is_some t.cell.hold ≡ false → has_serial row.flushed t.cell.serial ≡ false → leaves row (Some t.cell) ≡ name_of (Some t.cell)
        unheld_leaves t a b = rw (a, b) refl

  -- it has a mismatch, or no younger cell
  mismatch_or_none : (turn : Turn) (x : Redirector turn) → IsMismatch (judged k) earlier row turn.stage x.cell ⊎ HasNoYounger (judged k) row turn.stage
  mismatch_or_none turn x =
      elim (oldest_of (take turn.stage (loaded_by k m)) m.fetch) [
        | inl none ↦ inr (λ below d lt s. let t = below_token turn.stage below d lt s in none.1 below t.0 t.1)
        | inr y ↦
            let b = token_below turn.stage y.index y.token y.here_is in
            inl (record {
              stands = x.stands;
              settles = x.settles_row;
              differs = (
                y.index,
                b.1.0,
                record { lower = b.0; stands = b.1.1; nearest = λ between e gt lt s. let t = below_token turn.stage between e lt s in y.last between t.0 gt t.1 },
                λ same. test_ne turn.address (nearest m.fetch (take turn.stage (loaded_by k m))) x.differs (sym x.successor_is ∙ sym same ∙ b.1.2 ∙ sym y.address),
              );
            })
      ]

  named_turn : (o : Option Turn) (a : ℕ) → redirect_of o ≡ Some a → (turn : Turn) × (o ≡ Some turn) × (turn.address ≡ a)
  named_turn None a e = cc
  named_turn (Some turn) a e = (turn, refl, cc)

  redirected : (b : Bool) (stage a : ℕ) → redirect_of (if b then None else Some (record { stage = stage; address = a })) ≡ (if b then None else Some a)
  redirected true stage a = refl
  redirected false stage a = refl

  -- An entry

  pub untaken : row.taken ≡ None → entered_by k m ≡ false
  untaken none = by_case (entered_by k m) refl (sym made.is.taken ∙ none) where
    by_case : (b : Bool) → entered_by k m ≡ b → (if b then Some (written_by k m).pc else None) ≡ None → entered_by k m ≡ false
    by_case false e h = e
    by_case true e h = cc

  pub taken_at : entered_by k m ≡ true → row.taken ≡ Some (written_by k m).pc
  taken_at e = made.is.taken ∙ ap (λ (b : Bool). if b then Some (written_by k m).pc else None) e

  loaded_length : length (loaded_by k m) ≡ (shape_of k).stages
  loaded_length = made.long

  -- where the handler is entered no cell stands between EX and the last stage
  none_between : entered_by k m ≡ true → (below : ℕ) (d : Cell) → flushed ≤ below → suc below < (shape_of k).stages → Lawful.Stands (judged k) row below d → ⊥
  none_between e below d le lt stands =
      let at = cell_at below d le stands in
      let l = ap length at.rest in
      let a = length-drop below (seen_by k m) in
      let b = B.seen_length k ready earlier m made.inv in
      cc (entry_seen k ready m made.long e, remains_at below (seen_by k m) at.older at.token at.rest (omega (arith, l, a, b, lt)))

  pub row_successors : Successors (judged k) earlier row
  row_successors =
      record {
        flushes = λ stage c x below d lt stands. by_entry stage c x below d lt stands (entered_by k m) refl;
        named = λ none stage c x. made.is.redirect ∙ ap redirect_of (plain_turn k m (untaken none) ∙ turned stage c x);
        alone = λ none stage c stands s alone.
            let some = (settling_inside (asked k.design c.word).late stage s.settling).0 in
            made.is.redirect ∙ ap redirect_of (plain_turn k m (untaken none) ∙ turn_is stage c stands s)
            ∙ redirected (successor (judged k) (row ∷ earlier) c == nearest m.fetch (take stage (loaded_by k m))) stage (successor (judged k) (row ∷ earlier) c)
            ∙ ap (λ n. if successor (judged k) (row ∷ earlier) c == n then None else Some (successor (judged k) (row ∷ earlier) c)) (alone_next stage some alone);
        flushed_only = λ s q. only s (made.flushed_from s q) (entered_by k m) refl;
        named_only = λ a none q.
            let t = named_turn (turn_by k m) a (sym made.is.redirect ∙ q) in
            let x = redirector (untaken none) t.0 t.1 in
            (t.0.stage, x.cell, x.stands, x.settles_row, x.successor_is ∙ t.2, mismatch_or_none t.0 x);
      } where
        by_entry : (stage : ℕ) (c : Cell) → IsMismatch (judged k) earlier row stage c → (below : ℕ) (d : Cell) → below < stage → Lawful.Stands (judged k) row below d → (b : Bool) → entered_by k m ≡ b → has_serial row.flushed d.serial ≡ true
        by_entry stage c x below d lt stands false e =
            let n : flushed ≡ stage = ap struck (plain_turn k m e ∙ turned stage c x) in
            (gone_at below d (omega (arith, lt, n)) stands).1
        by_entry stage c x below d lt stands true e = elim (cases_lt below flushed) [
          | inl less ↦ (gone_at below d less stands).1
          | inr le ↦ let low = (settling_inside (asked k.design c.word).late stage x.settles.settling).1 in absurd (none_between e below d le (omega (arith, lt, low)) stands)
        ]

        mismatched : (s : ℕ) → entered_by k m ≡ false → (o : Option Turn) → turn_by k m ≡ o → ((i : ℕ) × (t : Token) × (i < flushed) × (slice_get (loaded_by k m) i ≡ Some (Some t)) × (t.cell.serial ≡ s)) → IsFlushedByMismatch (judged k) earlier row s
        mismatched s plain None e y =
            let n : flushed ≡ 0 = ap struck e in
            let lt = y.2 in
            absurd (omega (arith, lt, n))
        mismatched s plain (Some turn) e y =
            let x = redirector plain turn e in
            let n : flushed ≡ turn.stage = ap struck e in
            let lt = y.2 in
            let under : y.0 < turn.stage = omega (arith, lt, n) in
            let b = token_below turn.stage y.0 y.1 (take_get turn.stage y.0 (loaded_by k m) under ∙ y.3) in
            elim (mismatch_or_none turn x) [
              | inl z ↦ (turn.stage, x.cell, y.0, b.1.0, z, under, b.1.1, b.1.3 ∙ y.4)
              | inr none ↦ absurd (none y.0 b.1.0 under b.1.1)
            ]

        only : (s : ℕ) → ((i : ℕ) × (t : Token) × (i < flushed) × (slice_get (loaded_by k m) i ≡ Some (Some t)) × (t.cell.serial ≡ s)) → (b : Bool) → entered_by k m ≡ b → IsFlushedByMismatch (judged k) earlier row s ⊎ IsFlushedByEntry (judged k) row s
        only s y false e = inl (mismatched s e (turn_by k m) refl y)
        only s y true e =
            let lt = y.2 in
            let n = entry_struck k ready m made.long e in
            let b = token_below flushed y.0 y.1 (take_get flushed y.0 (loaded_by k m) lt ∙ y.3) in
            inr (ap (λ o. is_some o) (taken_at e), y.0, b.1.0, omega (arith, lt, n), b.1.1, b.1.3 ∙ y.4)

  -- The fetch address

  pub fetch_now : fetch_by k m ≡ fetch_address (judged k) (row ∷ earlier)
  unfolding fetch_address
  fetch_now = by_case (turn_by k m) refl where
    by_case : (o : Option Turn) → turn_by k m ≡ o → fetch_by k m ≡ unless row.redirect (plain_fetch (judged k) earlier (fetch_address (judged k) earlier) row)
    by_case (Some turn) e =
        ap (λ o. Rows.unless (redirect_of o) (fetch_after m.fetch (seen_by k m))) e
        ∙ sym (ap (λ o. unless o (plain_fetch (judged k) earlier (fetch_address (judged k) earlier) row)) (made.is.redirect ∙ ap redirect_of e))
    by_case None e =
        ap (λ o. Rows.unless (redirect_of o) (fetch_after m.fetch (seen_by k m))) e
        ∙ fetch_told k earlier row m.fetch (seen_by k m) (keeps_all row (seen_by k m) made.kept) (B.seen_first k ready earlier m made.inv)
        ∙ ap (λ c. guessed (judged k) earlier m.fetch (leaves row c)) (sym front_same)
        ∙ ap (λ n. guessed (judged k) earlier n (leaves row (front (Lawful.stages_of (judged k) row)))) made.inv.fetch_is
        ∙ sym (ap (λ o. unless o (plain_fetch (judged k) earlier (fetch_address (judged k) earlier) row)) (made.is.redirect ∙ ap redirect_of e)) where
          front_same : front (Lawful.stages_of (judged k) row) ≡ front (cells_of (seen_by k m))
          front_same =
              let n : flushed ≡ 0 = ap struck e in
              ap front made.is.cells ∙ ap (λ i. front (cells_of (unheld i (loaded_by k m)))) n ∙ ap (λ i. front (cells_of (cleared i (loaded_by k m)))) (sym n)
