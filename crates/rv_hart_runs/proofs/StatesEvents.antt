-- A cell that is neither emptied nor flushed by the event of a row is not turned in it, so one that leaves RD touches no spawn target of an older one.
use Rattle.std.proofs.Common.{◌≡◌, ◌∙◌, refl, sym, ap, subst, ℕ, zero, suc, ◌+◌, ◌<◌, ◌≤◌, List, [], ◌∷◌, ◌++◌, Option, Some, None, Bool, true, false, ◌⊎◌, inl, inr, arith}
use Rattle.std.specs.Prelude.{reverse, find, not, ◌&&◌, ◌==◌, if◌then◌else◌, option_map}
use Rattle.std.specs.Option.{option_or}
use Rattle.std.proofs.lemmas.Bool.{cases_lt}
use Rattle.rv_holds.specs.Tokens.{or_else}
use Rattle.rv_holds.specs.Holds.{numbered, least_from, register_at, register_count}
use Rattle.rv_lawful.specs.Outstanding.{has_target, touches}
use Rattle.rv_lawful.specs.Settings.{Setting}
use Rattle.rv_seq.specs.declared.commit.Stop.{Stop}
use Rattle.rv_harts.specs.declared.event.Event.{Event}
use Rattle.rv_harts.specs.declared.event.Event.TheVariants.{Turned, Stopped, Led}
use Rattle.rv_harts.specs.declared.event.EventAt.{EventAt}
use Rattle.rv_harts.specs.declared.row.Turn.{Turn}
use Rattle.rv_harts.specs.declared.row.Turn.TheVariants.{Board}
use Rattle.rv_harts.specs.Harts.{Fetched}
use Rattle.rv_harts.specs.Turns.{eldest, asked, operand_turn, board_of, board_turn, reading_turn, executing_turn, turn_of, stop_due}
use Rattle.rv_harts.specs.Events.{standing, undone, settles, successor, event_of, event_here, event_from}
use Rattle.rv_harts.specs.HartRows.{stages_after, lost}
use Rattle.rv_hart_runs.proofs.Free.{or_left, or_right, unmapped, where_true, same_some}
use Rattle.rv_hart_runs.proofs.Passing.{test_same}
use Rattle.rv_hart_runs.proofs.StatesLists.{In, in_left, in_right, in_reverse, none_found, At, at_stands}

-- a cell touches no spawn target of an older one
abbrev pub IsFreeOf : Setting → Fetched → Fetched → Type 0
IsFreeOf k c o = (n : ℕ) → n < 48 → touches (asked k c) (register_at n) ≡ true → has_target (asked k o) (register_at n) ≡ false

-- ---- the scoreboard

else_first : {A : Type 0} (a b : Option A) → or_else a b ≡ None → a ≡ None
else_first None b e = refl
else_first (Some a) b e = cc

else_second : {A : Type 0} (a b : Option A) → or_else a b ≡ None → b ≡ None
else_second None b e = e
else_second (Some a) b e = cc

numbered_none : (n : ℕ) (o : Option ℕ) → numbered n o ≡ None → o ≡ None
numbered_none n None h = refl
numbered_none n (Some j) h = cc

least_none : (f : ℕ → Option ℕ) (r c n : ℕ) → least_from f r c ≡ None → r ≤ n → n < r + c → f n ≡ None
least_none f r zero n h le lt = absurd (omega (arith, le, lt))
least_none f r (suc c) n h le lt = elim (cases_lt r n) [
  | inl less ↦ least_none f (suc r) c n (else_second (numbered r (f r)) (least_from f (suc r) c) h) (omega (arith, less)) (omega (arith, lt))
  | inr more ↦
      let e : n ≡ r = omega (arith, le, more) in
      ap f e ∙ numbered_none r (f r) (else_first (numbered r (f r)) (least_from f (suc r) c) h)
]

unboarded : (k : Setting) (c o : Fetched) (older : List Fetched) → board_turn k c older ≡ None → In o older → IsFreeOf k c o
unfolding register_count
unboarded k c o older h is n few touched =
    let least : least_from (board_of k c older) 0 48 ≡ None = unmapped (λ (found : ℕ × ℕ). Board (register_at found.0) found.1) (least_from (board_of k c older) 0 48) h in
    let f : Fetched → Bool = λ d. has_target (asked k d) (register_at n) in
    let none : eldest f older ≡ None =
    where_true (touches (asked k c) (register_at n)) (eldest f older) touched (least_none (board_of k c older) 0 48 n least (omega arith) (omega (arith, few))) in
    none_found f o older (unmapped (λ (d : Fetched). d.serial) (find f older) none) is

-- one that is not turned at RD
unturned_free : (k : Setting) (stage : ℕ) (c o : Fetched) (unretired unwritten left : List Fetched) → stage ≡ k.shape.rd → turn_of k stage c unretired unwritten left ≡ None → In o unwritten → IsFreeOf k c o
unturned_free k stage c o unretired unwritten left at none is =
    let reads : reading_turn k c unretired unwritten ≡ None =
    where_true (stage == k.shape.rd) (reading_turn k c unretired unwritten) (test_same stage k.shape.rd at)
    (or_left (if stage == k.shape.rd then reading_turn k c unretired unwritten else None) (if stage == k.shape.ex then executing_turn k c unretired unwritten left else None) none) in
    unboarded k c o unwritten (or_right (operand_turn k c unretired) (board_turn k c unwritten) reads) is

-- ---- the event of a row

stage_least : (e : EventAt) → e.stage ≤ lost (Some e)
stage_least e = by_event e.event where
  by_event : (v : Event) → e.stage ≤ stages_after e.stage v
  by_event (Turned turn at) = omega arith
  by_event (Stopped stop) = omega arith
  by_event (Led at) = omega arith

-- it is at one of these stages
event_later : (k : Setting) (owed kept : List Fetched) (near stage : ℕ) (stages : List (Option Fetched)) (e : EventAt) → event_from k owed kept near stage stages ≡ Some e → stage ≤ e.stage
event_later k owed kept near stage [] e q = cc
event_later k owed kept near stage (None ∷ older) e q = let le = event_later k owed kept near (suc stage) older e q in omega (arith, le)
event_later k owed kept near stage (Some c ∷ older) e q =
    by_rest (event_from k owed kept c.at (suc stage) older) (event_of k owed kept near stage c older) (event_later k owed kept c.at (suc stage) older e) q where
      by_rest : (r : Option EventAt) (v : Option Event) → (r ≡ Some e → suc stage ≤ e.stage) → option_or r (option_map (event_here stage) v) ≡ Some e → stage ≤ e.stage
      by_rest (Some f) v rest q = let le = rest q in omega (arith, le)
      by_rest None None rest q = cc
      by_rest None (Some v) rest q = let same = ap (λ (z : EventAt). z.stage) (same_some (event_here stage v) e q) in omega (arith, same)

-- what a cell does that is turned
module _ (k : Setting) (owed kept : List Fetched) (near stage : ℕ) (c : Fetched) (older : List (Option Fetched)) where
  abbrev turn : Option Turn
  turn = turn_of k stage c (reverse (standing older)) (owed ++ reverse (standing older)) (kept ++ reverse (undone k (suc stage) older))

  -- it is not kept
  untaken : lost (option_map (event_here stage) (event_of k owed kept near stage c older)) ≤ stage → turn ≡ None
  untaken le = by_turn turn le where
    rest : Option Event
    rest =
        option_or (if stage == k.shape.ex then option_map (λ (stop : Stop). Stopped stop) (stop_due k c) else None)
        (if settles k stage c && not (successor k c == near) then Some (Led (successor k c)) else None)

    by_turn : (t : Option Turn) → lost (option_map (event_here stage) (option_or (option_map (λ (turn : Turn). Turned turn c.at) t) rest)) ≤ stage → t ≡ None
    by_turn None le = refl
    by_turn (Some t) le = absurd (omega (arith, le))

-- one that stays behind the event of a row, at RD, is free of each older one
pub stays_free : (k : Setting) (owed kept : List Fetched) (near stage : ℕ) (stages : List (Option Fetched)) (i : ℕ) (c : Fetched) → At stages i c → lost (event_from k owed kept near stage stages) ≤ stage + i → stage + i ≡ k.shape.rd
    → (o : Fetched) → In o owed ⊎ ((j : ℕ) × (i < j) × At stages j o) → IsFreeOf k c o
stays_free k owed kept near stage [] i c at le rd o is = cc
stays_free k owed kept near stage (None ∷ older) zero c at le rd o is = cc
stays_free k owed kept near stage (None ∷ older) (suc i) c at le rd o is =
    stays_free k owed kept near (suc stage) older i c at (omega (arith, le)) (omega (arith, rd)) o (elim is [ inl a ↦ inl a | inr b ↦ inr (lower older i o b) ]) where
      lower : (older : List (Option Fetched)) (i : ℕ) (o : Fetched) → (j : ℕ) × (suc i < j) × At (None ∷ older) j o → (j : ℕ) × (i < j) × At older j o
      lower older i o (zero, lt, at) = absurd (omega (arith, lt))
      lower older i o (suc j, lt, at) = (j, omega (arith, lt), at)
stays_free k owed kept near stage (Some d ∷ older) zero c at le rd o is =
    let same : d ≡ c = same_some d c (same_some (Some d) (Some c) at) in
    let z : stage + 0 ≡ stage = omega arith in
    let here = by_rest (event_from k owed kept d.at (suc stage) older) refl le in
    subst (λ (y : Fetched). IsFreeOf k y o) same (unturned_free k stage d o (reverse (standing older)) (owed ++ reverse (standing older)) (kept ++ reverse (undone k (suc stage) older)) (sym z ∙ rd) (untaken k owed kept near stage d older here) (among is)) where
      by_rest : (r : Option EventAt) → event_from k owed kept d.at (suc stage) older ≡ r → lost (option_or r (option_map (event_here stage) (event_of k owed kept near stage d older))) ≤ stage + 0 → lost (option_map (event_here stage) (event_of k owed kept near stage d older)) ≤ stage
      by_rest None q le = omega (arith, le)
      by_rest (Some e) q le = let a = event_later k owed kept d.at (suc stage) older e q in let b = stage_least e in absurd (omega (arith, le, a, b))

      among : In o owed ⊎ ((j : ℕ) × (0 < j) × At (Some d ∷ older) j o) → In o (owed ++ reverse (standing older))
      among (inl a) = in_left o owed (reverse (standing older)) a
      among (inr (zero, lt, at)) = absurd (omega (arith, lt))
      among (inr (suc j, lt, at)) = in_right o owed (reverse (standing older)) (in_reverse o (standing older) (at_stands older j o at))
stays_free k owed kept near stage (Some d ∷ older) (suc i) c at le rd o is =
    stays_free k owed kept d.at (suc stage) older i c at (by_rest (event_from k owed kept d.at (suc stage) older) le) (omega (arith, rd)) o (elim is [ inl a ↦ inl a | inr b ↦ inr (lower b) ]) where
      by_rest : (r : Option EventAt) → lost (option_or r (option_map (event_here stage) (event_of k owed kept near stage d older))) ≤ stage + suc i → lost r ≤ suc stage + i
      by_rest None le = omega arith
      by_rest (Some e) le = omega (arith, le)

      lower : (j : ℕ) × (suc i < j) × At (Some d ∷ older) j o → (j : ℕ) × (i < j) × At older j o
      lower (zero, lt, at) = absurd (omega (arith, lt))
      lower (suc j, lt, at) = (j, omega (arith, lt), at)
