-- Rows on a core with any numbers that pass their tests are lawful, where no instruction spawns, writes a custom register late or goes on in the last stage. A cell that leaves EX may turn
-- the run, and an interrupt may be taken; where one that writes the pc late retires, one is.
use Rattle.std.proofs.Common.{◌≡◌, ◌≢◌, ℕ, zero, suc, ◌-◌, ◌<◌, ◌≤◌, List, [], ◌∷◌, Option, Some, None, Bool, true, false, refl, sym, ap, ◌∙◌, subst, arith, ◌⊎◌, inl, inr}
use Rattle.std.specs.Prelude.{◌&&◌, ◌||◌, not, if◌then◌else◌, ◌==◌, nat_lt, is_some, slice_get, get_or}
use Rattle.std.proofs.lemmas.Bool.Decides.{nat_tests}
use Rattle.rv_seq.specs.declared.commit.Commit.{Commit}
use Rattle.rv_seq.specs.declared.commit.Stop.{Stop}
use Rattle.rv_trace.specs.declared.row.Cell.{Cell}
use Rattle.rv_trace.specs.declared.row.Hold.{Hold}
use Rattle.rv_trace.specs.declared.row.Hold.TheVariants.{Trap}
use Rattle.rv_trace.specs.declared.row.Row.{Row}
use Rattle.rv_trace.specs.Trace.{has_serial, newest, retirements}
use Rattle.rv_trace.specs.RowParts.{Name, name_of, leaves}
use Rattle.rv_seq.specs.Steps.{word_at}
use Rattle.rv_lawful.specs.Entering.{places, is_interrupted, IsClearAfter, TakesRightly}
use Rattle.rv_lawful.specs.Future.{cell_in}
use Rattle.rv_lawful.specs.Settings.{Setting, stages_of, Stands}
use Rattle.rv_lawful.specs.LawfulTrace.{plain_fetch, fetch_address, Moves, StopsRun, ShowsHold, IsSettlingStage, Settles, successor, IsNextYounger, IsMismatch, Successors, IsEmptyAfter, StopsRightly, Retires, WritesUnit, IsInForm, LawfulRow, Judging, Lawful}
use Rattle.row_laws.proofs.Stages.{true_not_false, inside, AllNamedIn, NamedBy, AllNamedBy}
use Rattle.row_laws.proofs.Tests.{both_true, either, either_not, negated, known, same_number, less, not_less}
use Rattle.row_laws.proofs.CalmTests.{equal, all_cells, any_cell, no_stage, no_cell, each_cell, some_cell, IsCalm, due_stop, due_then, stops_run, stops_then, shows_right, shows_then}

-- The cell leaves its stage

abbrev pub goes_out : Row → Cell → Bool
goes_out row c = not (is_some c.hold || has_serial row.flushed c.serial)

out_then : (b : Bool) (n : Name) → not b ≡ true → (if b then None else Some n) ≡ Some n
out_then true n e = absurd (true_not_false (sym e))
out_then false n e = refl

out_from : (b : Bool) (n : Name) → (if b then None else Some n) ≡ Some n → not b ≡ true
out_from true n e = cc
out_from false n e = refl

-- Retirements

abbrev pub retires_right : Row → Option (ℕ × Commit) → Option (Option Cell) → Bool
retires_right row None None = true
retires_right row None (Some None) = true
retires_right row None (Some (Some x)) = not (goes_out row x)
retires_right row (Some (s, d)) None = false
retires_right row (Some (s, d)) (Some None) = false
retires_right row (Some (s, d)) (Some (Some x)) = goes_out row x && (s == x.serial)

none_retired : (o : Option (ℕ × Commit)) (s : ℕ) (d : Commit) → o ≡ None → o ≡ Some (s, d) → ⊥
none_retired o s d e q = cc

the_serial : (s t : ℕ) (c d : Commit) → ◌≡◌ {A = Option (ℕ × Commit)} (Some (s, c)) (Some (t, d)) → s ≡ t
the_serial s t c d e = let pair : ◌≡◌ {A = ℕ × Commit} (s, c) (t, d) = cc in ap (λ (p : ℕ × Commit). p.0) pair

retires_then : (k : Setting) (row : Row) (stage : ℕ) (ret : Option (ℕ × Commit)) (o : Option (Option Cell)) → row.retired ≡ ret → slice_get (stages_of k row) stage ≡ o → retires_right row ret o ≡ true → Retires k row stage
retires_then k row stage None None r at t = record {
  leaver = λ s d q. absurd (none_retired row.retired s d r q);
  retired = λ c stands l. absurd (no_stage c (sym at ∙ stands));
}
retires_then k row stage None (Some None) r at t = record {
  leaver = λ s d q. absurd (none_retired row.retired s d r q);
  retired = λ c stands l. absurd (no_cell c (sym at ∙ stands));
}
retires_then k row stage None (Some (Some x)) r at t = record {
  leaver = λ s d q. absurd (none_retired row.retired s d r q);
  retired = λ c stands l. absurd (stays c (inside x c (sym at ∙ stands)) l);
} where
  stays : (c : Cell) → x ≡ c → leaves row (Some c) ≡ name_of (Some c) → ⊥
  stays c e l =
      true_not_false (sym (out_from (is_some c.hold || has_serial row.flushed c.serial) (c.serial, c.at, c.word) l) ∙ ap (λ y. goes_out row y) (sym e) ∙ negated (goes_out row x) t)
retires_then k row stage (Some (s, d)) None r at t = absurd (true_not_false (sym t))
retires_then k row stage (Some (s, d)) (Some None) r at t = absurd (true_not_false (sym t))
retires_then k row stage (Some (s, d)) (Some (Some x)) r at t = record {
  leaver = λ u c q. (x, at, goes, sym same ∙ the_serial s u d c (sym r ∙ q));
  retired = λ c stands l. (d, r ∙ ap (λ n. Some (n, d)) same ∙ ap (λ (y : Cell). retirement y) (inside x c (sym at ∙ stands)));
} where
  parts : (goes_out row x ≡ true) × ((s == x.serial) ≡ true)
  parts = both_true (goes_out row x) (s == x.serial) t

  same : s ≡ x.serial
  same = same_number s x.serial parts.1

  goes : leaves row (Some x) ≡ name_of (Some x)
  goes = out_then (is_some x.hold || has_serial row.flushed x.serial) (x.serial, x.at, x.word) parts.0

  retirement : Cell → Option (ℕ × Commit)
  retirement y = Some (y.serial, d)

last_stage : (stage stages : ℕ) → suc stage ≡ stages → stages - 1 ≡ stage
last_stage stage stages e = omega (arith, e)

-- The next younger cell

abbrev pub or_lower : ℕ → Option Cell → Option (ℕ × Cell) → Option (ℕ × Cell)
or_lower n None lower = lower
or_lower n (Some c) lower = Some (n, c)

-- the last cell below this stage, with its own
abbrev pub nearest : List (Option Cell) → ℕ → Option (ℕ × Cell)
nearest l zero = None
nearest l (suc n) = or_lower n (cell_in (slice_get l n)) (nearest l n)

-- the cell stands below, and none stands between
pub record IsNearest (l : List (Option Cell)) (n b : ℕ) (d : Cell) : Type 0 where
  pub lower : b < n
  pub stands : slice_get l b ≡ Some (Some d)
  pub none : (m : ℕ) (e : Cell) → b < m → m < n → slice_get l m ≡ Some (Some e) → ⊥

the_pair : (n b : ℕ) (c d : Cell) → ◌≡◌ {A = Option (ℕ × Cell)} (Some (n, c)) (Some (b, d)) → ◌≡◌ {A = ℕ × Cell} (n, c) (b, d)
the_pair n b c d e = cc

below_or_at : (m n : ℕ) → m < suc n → (m ≡ n) ⊎ (m < n)
below_or_at m n lt = elim (known (m == n)) [ inl e ↦ inl (same_number m n e) | inr e ↦ inr (less_then m n lt e) ] where
  less_then : (m n : ℕ) → m < suc n → (m == n) ≡ false → m < n
  less_then m n lt e = grind (arith, nat_tests)

none_below : (l : List (Option Cell)) (n : ℕ) → nearest l n ≡ None → (m : ℕ) (e : Cell) → m < n → slice_get l m ≡ Some (Some e) → ⊥
none_below l zero q m e lt s = absurd (omega (arith, lt))
none_below l (suc n) q m e lt s = by_stage (λ p lower. none_below l n p m e lower s) (slice_get l n) refl q where
  deeper : (nearest l n ≡ None → m < n → ⊥) → nearest l n ≡ None → (slice_get l n ≡ Some (Some e) → ⊥) → ⊥
  deeper rest p absent = elim (below_or_at m n lt) [ inl at ↦ absent (ap (slice_get l) (sym at) ∙ s) | inr lower ↦ rest p lower ]

  by_stage : (nearest l n ≡ None → m < n → ⊥) → (o : Option (Option Cell)) → slice_get l n ≡ o → or_lower n (cell_in o) (nearest l n) ≡ None → ⊥
  by_stage rest None at p = deeper rest p (λ there. no_stage e (sym at ∙ there))
  by_stage rest (Some None) at p = deeper rest p (λ there. no_cell e (sym at ∙ there))
  by_stage rest (Some (Some c)) at p = cc

nearest_is : (l : List (Option Cell)) (n b : ℕ) (d : Cell) → nearest l n ≡ Some (b, d) → IsNearest l n b d
nearest_is l zero b d q = cc
nearest_is l (suc n) b d q = by_stage (λ p. nearest_is l n b d p) (slice_get l n) refl q where
  further : IsNearest l n b d → ((e : Cell) → slice_get l n ≡ Some (Some e) → ⊥) → IsNearest l (suc n) b d
  further near absent = record {
    lower = let lt = near.lower in omega (arith, lt);
    stands = near.stands;
    none = λ m e above lt s. elim (below_or_at m n lt) [ inl at ↦ absent e (ap (slice_get l) (sym at) ∙ s) | inr lower ↦ near.none m e above lower s ];
  }

  by_stage : (nearest l n ≡ Some (b, d) → IsNearest l n b d) → (o : Option (Option Cell)) → slice_get l n ≡ o → or_lower n (cell_in o) (nearest l n) ≡ Some (b, d) → IsNearest l (suc n) b d
  by_stage rest None at p = further (rest p) (λ e there. no_stage e (sym at ∙ there))
  by_stage rest (Some None) at p = further (rest p) (λ e there. no_cell e (sym at ∙ there))
  by_stage rest (Some (Some c)) at p =
      let pair = the_pair n b c d p in
      let same : n ≡ b = ap (λ (x : ℕ × Cell). x.0) pair in
      record {
        lower = omega (arith, same);
        stands = ap (slice_get l) (sym same) ∙ at ∙ ap (λ (x : ℕ × Cell). Some (Some x.1)) pair;
        none = λ m e above lt s. absurd (omega (arith, same, above, lt));
      }

-- there is only one
one_nearest : (k : Setting) (row : Row) (stage b below : ℕ) (d e : Cell) → IsNearest (stages_of k row) stage b d → IsNextYounger k row stage below e → d ≡ e
one_nearest k row stage b below d e near next = elim (known (nat_lt b below)) [
  | inl x ↦ absurd (near.none below e (less b below x) next.lower next.stands)
  | inr x ↦ elim (known (nat_lt below b)) [
    | inl y ↦ absurd (next.nearest b d (less below b y) near.lower near.stands)
    | inr y ↦ inside d e (sym near.stands ∙ ap (slice_get (stages_of k row)) (same b below x y) ∙ next.stands)
  ]
] where
  same : (b below : ℕ) → nat_lt b below ≡ false → nat_lt below b ≡ false → b ≡ below
  same b below x y = grind (arith, nat_tests)

-- Successors

-- each of these serials is that of a cell below this stage
abbrev pub only_below : List (Option Cell) → ℕ → List (Option ℕ) → Bool
only_below l n [] = true
only_below l n (None ∷ rest) = only_below l n rest
only_below l n (Some s ∷ rest) = any_cell (λ m c. nat_lt m n && (c.serial == s)) l && only_below l n rest

below_then : (l : List (Option Cell)) (n : ℕ) (flushed : List (Option ℕ)) → only_below l n flushed ≡ true → (s : ℕ) → has_serial flushed s ≡ true → any_cell (λ m c. nat_lt m n && (c.serial == s)) l ≡ true
below_then l n [] e s h = absurd (true_not_false (sym h))
below_then l n (None ∷ rest) e s h = below_then l n rest e s h
below_then l n (Some t ∷ rest) e s h = elim (known (t == s)) [
  | inl x ↦ subst (λ u. any_cell (λ m c. nat_lt m n && (c.serial == u)) l ≡ true) (same_number t s x) parts.0
  | inr x ↦ below_then l n rest parts.1 s (either (t == s) (has_serial rest s) h x)
] where
  parts : (any_cell (λ m c. nat_lt m n && (c.serial == t)) l ≡ true) × (only_below l n rest ≡ true)
  parts = both_true (any_cell (λ m c. nat_lt m n && (c.serial == t)) l) (only_below l n rest) e

none_flushed_then : (flushed : List (Option ℕ)) → only_below [] 0 flushed ≡ true → (s : ℕ) → has_serial flushed s ≡ true → ⊥
none_flushed_then flushed e s h = true_not_false (sym (below_then [] 0 flushed e s h))

-- the cell that leaves EX, does not stop the run and does not write the pc late settles
abbrev pub settles_now : Setting → List Row → Row → Option (Option Cell) → Option Cell
settles_now k earlier row None = None
settles_now k earlier row (Some None) = None
settles_now k earlier row (Some (Some x)) = if goes_out row x && (not (is_some (due_stop k (row ∷ earlier) x)) && not (k.asks x.word).late) then Some x else None

-- a cell of EX that leaves it stops the run where it is due to
abbrev pub decided : Setting → List ℕ → List Row → Row → Option (Option Cell) → Bool
decided k words earlier row None = true
decided k words earlier row (Some None) = true
decided k words earlier row (Some (Some x)) = is_some x.hold || (not (is_some (due_stop k (row ∷ earlier) x)) || stops_run true k words earlier row k.shape.ex x)

-- the row flushes what is below EX where the next younger cell has another address, and else nothing
abbrev pub flushes_right : List (Option Cell) → ℕ → List (Option ℕ) → Bool → Bool
flushes_right l ex flushed true = only_below [] 0 flushed
flushes_right l ex flushed false = only_below l ex flushed && all_cells (λ n c. not (nat_lt n ex) || has_serial flushed c.serial) l

abbrev pub turns_right : Setting → Row → ℕ → Option (ℕ × Cell) → Bool
turns_right k row at None = only_below [] 0 row.flushed
turns_right k row at (Some (b, d)) = flushes_right (stages_of k row) k.shape.ex row.flushed (d.at == at)

-- the redirect where the next younger cell is this one, and the plain fetch address that
abbrev pub redirect_to : ℕ → ℕ → Option (ℕ × Cell) → Option ℕ
redirect_to at plain None = if at == plain then None else Some at
redirect_to at plain (Some (b, d)) = if d.at == at then None else Some at

abbrev pub turns_at : Setting → List Row → Row → Option Cell → Bool
turns_at k earlier row None = only_below [] 0 row.flushed
turns_at k earlier row (Some x) = turns_right k row (successor k (row ∷ earlier) x) (nearest (stages_of k row) k.shape.ex)

abbrev pub redirect_at : Setting → List Row → Row → Option Cell → Option ℕ
redirect_at k earlier row None = None
redirect_at k earlier row (Some x) = redirect_to (successor k (row ∷ earlier) x) (plain_fetch k earlier (fetch_address k earlier) row) (nearest (stages_of k row) k.shape.ex)

no_redirect : (o : Option ℕ) (a : ℕ) → o ≡ None → o ≡ Some a → ⊥
no_redirect o a e q = cc

the_address : (a b : ℕ) → ◌≡◌ {A = Option ℕ} (Some a) (Some b) → a ≡ b
the_address a b e = cc

-- no cell that writes the pc late retires
abbrev pub none_late : Setting → Row → Bool
none_late k row = all_cells (λ n c. not (k.asks c.word).late || (not (suc n == k.shape.stages) || not (goes_out row c))) (stages_of k row)

settles_at : (k : Setting) (earlier : List Row) (row : Row) → none_late k row ≡ true → (stage : ℕ) (c : Cell) → Stands k row stage c → Settles k earlier row stage c → stage ≡ k.shape.ex
settles_at k earlier row t stage c stands s = by_late (k.asks c.word).late refl s.settling where
  by_late : (late : Bool) → (k.asks c.word).late ≡ late → IsSettlingStage k late stage → stage ≡ k.shape.ex
  by_late false e at = at
  by_late true e at =
      let a = either_not (k.asks c.word).late (not (suc stage == k.shape.stages) || not (goes_out row c)) (each_cell (λ n d. not (k.asks d.word).late || (not (suc n == k.shape.stages) || not (goes_out row d))) (stages_of k row) stage c t stands) e in
      let b = either_not (suc stage == k.shape.stages) (not (goes_out row c)) a (equal (suc stage) k.shape.stages at) in
      absurd (true_not_false (sym (out_from (is_some c.hold || has_serial row.flushed c.serial) (c.serial, c.at, c.word) s.leaves) ∙ negated (goes_out row c) b))

-- no cell settles
none_turns : (k : Setting) (earlier : List Row) (row : Row) → ((stage : ℕ) (c : Cell) → Stands k row stage c → Settles k earlier row stage c → ⊥) → only_below [] 0 row.flushed ≡ true → row.redirect ≡ None → Successors k earlier row
none_turns k earlier row none t r = record {
  flushes = λ stage c x below d lt stands. absurd (none stage c x.stands x.settles);
  named = λ quiet stage c x. absurd (none stage c x.stands x.settles);
  alone = λ quiet stage c stands s younger. absurd (none stage c stands s);
  flushed_only = λ s h. absurd (none_flushed_then row.flushed t s h);
  named_only = λ a quiet q. absurd (no_redirect row.redirect a r q);
}

-- the cell of EX settles
pub record IsSettling (k : Setting) (earlier : List Row) (row : Row) (x : Cell) : Type 0 where
  pub stands : Stands k row k.shape.ex x
  pub settles : Settles k earlier row k.shape.ex x
  pub stage : (stage : ℕ) (c : Cell) → Stands k row stage c → Settles k earlier row stage c → stage ≡ k.shape.ex

the_settling : (k : Setting) (earlier : List Row) (row : Row) (x : Cell) → IsSettling k earlier row x → (stage : ℕ) (c : Cell) → Stands k row stage c → Settles k earlier row stage c → x ≡ c
the_settling k earlier row x one stage c stands s = inside x c (sym one.stands ∙ subst (λ n. Stands k row n c) (one.stage stage c stands s) stands)

-- it is the youngest one
alone_turns : (k : Setting) (earlier : List Row) (row : Row) (x : Cell) → IsSettling k earlier row x → ((m : ℕ) (e : Cell) → m < k.shape.ex → Stands k row m e → ⊥) → only_below [] 0 row.flushed ≡ true
    → row.redirect ≡ (if successor k (row ∷ earlier) x == plain_fetch k earlier (fetch_address k earlier) row then None else Some (successor k (row ∷ earlier) x)) → Successors k earlier row
alone_turns k earlier row x one none t r = record {
  flushes = λ stage c y below d lt stands. absurd (no_mismatch stage c y);
  named = λ quiet stage c y. absurd (no_mismatch stage c y);
  alone = λ quiet stage c stands s younger. r ∙ ap (λ (y : Cell). due y) (the_settling k earlier row x one stage c stands s);
  flushed_only = λ s h. absurd (none_flushed_then row.flushed t s h);
  named_only = λ a quiet q. (k.shape.ex, x, one.stands, one.settles, to a (successor k (row ∷ earlier) x == plain_fetch k earlier (fetch_address k earlier) row) (sym r ∙ q), inr (λ below d lt stands. none below d lt stands));
} where
  due : Cell → Option ℕ
  due y = if successor k (row ∷ earlier) y == plain_fetch k earlier (fetch_address k earlier) row then None else Some (successor k (row ∷ earlier) y)

  to : (a : ℕ) (b : Bool) → (if b then None else Some (successor k (row ∷ earlier) x)) ≡ Some a → successor k (row ∷ earlier) x ≡ a
  to a true q = cc
  to a false q = the_address (successor k (row ∷ earlier) x) a q

  no_mismatch : (stage : ℕ) (c : Cell) → IsMismatch k earlier row stage c → ⊥
  no_mismatch stage c y = let at = one.stage stage c y.stands y.settles in let lt = y.differs.2.lower in none y.differs.0 y.differs.1 (omega (arith, at, lt)) y.differs.2.stands

-- the next younger one has the address of its successor
goes_straight : (k : Setting) (earlier : List Row) (row : Row) (x : Cell) → IsSettling k earlier row x → (b : ℕ) (d : Cell) → IsNearest (stages_of k row) k.shape.ex b d → d.at ≡ successor k (row ∷ earlier) x → only_below [] 0 row.flushed ≡ true → row.redirect ≡ None
    → Successors k earlier row
goes_straight k earlier row x one b d near at t r = record {
  flushes = λ stage c y below e lt stands. absurd (no_mismatch stage c y);
  named = λ quiet stage c y. absurd (no_mismatch stage c y);
  alone = λ quiet stage c stands s younger. absurd (younger b d (lower stage c stands s) near.stands);
  flushed_only = λ s h. absurd (none_flushed_then row.flushed t s h);
  named_only = λ a quiet q. absurd (no_redirect row.redirect a r q);
} where
  lower : (stage : ℕ) (c : Cell) → Stands k row stage c → Settles k earlier row stage c → b < stage
  lower stage c stands s = let here = one.stage stage c stands s in let lt = near.lower in omega (arith, here, lt)

  no_mismatch : (stage : ℕ) (c : Cell) → IsMismatch k earlier row stage c → ⊥
  no_mismatch stage c y =
      let same = the_settling k earlier row x one stage c y.stands y.settles in
      let next : IsNextYounger k row k.shape.ex y.differs.0 y.differs.1 = subst (λ n. IsNextYounger k row n y.differs.0 y.differs.1) (one.stage stage c y.stands y.settles) y.differs.2 in
      y.differs.3 (ap (λ (e : Cell). e.at) (sym (one_nearest k row k.shape.ex b y.differs.0 d y.differs.1 near next)) ∙ at ∙ ap (λ (e : Cell). successor k (row ∷ earlier) e) same)

-- it has another one
turns_away : (k : Setting) (earlier : List Row) (row : Row) (x : Cell) → IsSettling k earlier row x → (b : ℕ) (d : Cell) → IsNearest (stages_of k row) k.shape.ex b d → d.at ≢ successor k (row ∷ earlier) x
    → only_below (stages_of k row) k.shape.ex row.flushed ≡ true → all_cells (λ n c. not (nat_lt n k.shape.ex) || has_serial row.flushed c.serial) (stages_of k row) ≡ true → row.redirect ≡ Some (successor k (row ∷ earlier) x) → Successors k earlier row
turns_away k earlier row x one b d near other only all r = record {
  flushes = λ stage c y below e lt stands. flushed below e (in_front stage c below y lt) stands;
  named = λ quiet stage c y. r ∙ ap (λ (e : Cell). Some (successor k (row ∷ earlier) e)) (the_settling k earlier row x one stage c y.stands y.settles);
  alone = λ quiet stage c stands s younger. absurd (younger b d (lower stage c stands s) near.stands);
  flushed_only = λ s h.
      let found = some_cell (λ m c. nat_lt m k.shape.ex && (c.serial == s)) (stages_of k row) (below_then (stages_of k row) k.shape.ex row.flushed only s h) in
      let p = both_true (nat_lt found.0 k.shape.ex) (found.1.serial == s) found.3 in
      inl (k.shape.ex, x, found.0, found.1, mismatch, less found.0 k.shape.ex p.0, found.2, same_number found.1.serial s p.1);
  named_only = λ a quiet q. (k.shape.ex, x, one.stands, one.settles, the_address (successor k (row ∷ earlier) x) a (sym r ∙ q), inl mismatch);
} where
  mismatch : IsMismatch k earlier row k.shape.ex x
  mismatch = record { stands = one.stands; settles = one.settles; differs = (b, d, record { lower = near.lower; stands = near.stands; nearest = λ m e above lt s. near.none m e above lt s }, other) }

  lower : (stage : ℕ) (c : Cell) → Stands k row stage c → Settles k earlier row stage c → b < stage
  lower stage c stands s = let here = one.stage stage c stands s in let lt = near.lower in omega (arith, here, lt)

  in_front : (stage : ℕ) (c : Cell) (below : ℕ) → IsMismatch k earlier row stage c → below < stage → below < k.shape.ex
  in_front stage c below y lt = let here = one.stage stage c y.stands y.settles in omega (arith, here, lt)

  is_below : (m n : ℕ) → m < n → nat_lt m n ≡ true
  is_below m n lt = grind (arith, nat_tests)

  flushed : (below : ℕ) (e : Cell) → below < k.shape.ex → Stands k row below e → has_serial row.flushed e.serial ≡ true
  flushed below e lt stands =
      either_not (nat_lt below k.shape.ex) (has_serial row.flushed e.serial) (each_cell (λ n c. not (nat_lt n k.shape.ex) || has_serial row.flushed c.serial) (stages_of k row) below e all stands) (is_below below k.shape.ex lt)

some_turns : (k : Setting) (earlier : List Row) (row : Row) (x : Cell) → IsSettling k earlier row x → (near : Option (ℕ × Cell)) → nearest (stages_of k row) k.shape.ex ≡ near → turns_right k row (successor k (row ∷ earlier) x) near ≡ true
    → row.redirect ≡ redirect_to (successor k (row ∷ earlier) x) (plain_fetch k earlier (fetch_address k earlier) row) near → Successors k earlier row
some_turns k earlier row x one None e t r = alone_turns k earlier row x one (none_below (stages_of k row) k.shape.ex e) t r
some_turns k earlier row x one (Some (b, d)) e t r = by_address (d.at == successor k (row ∷ earlier) x) refl t r where
  near : IsNearest (stages_of k row) k.shape.ex b d
  near = nearest_is (stages_of k row) k.shape.ex b d e

  apart : (m n : ℕ) → (m == n) ≡ false → m ≢ n
  apart m n f q = true_not_false (sym (equal m n q) ∙ f)

  by_address : (same : Bool) → (d.at == successor k (row ∷ earlier) x) ≡ same → flushes_right (stages_of k row) k.shape.ex row.flushed same ≡ true → row.redirect ≡ (if same then None else Some (successor k (row ∷ earlier) x)) → Successors k earlier row
  by_address true q u v = goes_straight k earlier row x one b d near (same_number d.at (successor k (row ∷ earlier) x) q) u v
  by_address false q u v =
      let p = both_true (only_below (stages_of k row) k.shape.ex row.flushed) (all_cells (λ n c. not (nat_lt n k.shape.ex) || has_serial row.flushed c.serial) (stages_of k row)) u in
      turns_away k earlier row x one b d near (apart d.at (successor k (row ∷ earlier) x) q) p.0 p.1 v

-- what is due of the cell of EX
pub record IsTurned (k : Setting) (words : List ℕ) (earlier : List Row) (row : Row) (o : Option (Option Cell)) : Type 0 where
  pub at : slice_get (stages_of k row) k.shape.ex ≡ o
  pub decided : decided k words earlier row o ≡ true
  pub early : none_late k row ≡ true
  pub flushes : turns_at k earlier row (settles_now k earlier row o) ≡ true
  pub redirect : row.redirect ≡ redirect_at k earlier row (settles_now k earlier row o)

turned : (k : Setting) (words : List ℕ) → IsCalm k → (earlier : List Row) (row : Row) → AllNamedBy k words (row ∷ earlier) → (o : Option (Option Cell)) → IsTurned k words earlier row o → Successors k earlier row
turned k words calm earlier row all None u =
    none_turns k earlier row (λ stage c stands s. no_stage c (sym u.at ∙ subst (λ n. Stands k row n c) (settles_at k earlier row u.early stage c stands s) stands)) u.flushes u.redirect
turned k words calm earlier row all (Some None) u =
    none_turns k earlier row (λ stage c stands s. no_cell c (sym u.at ∙ subst (λ n. Stands k row n c) (settles_at k earlier row u.early stage c stands s) stands)) u.flushes u.redirect
turned k words calm earlier row all (Some (Some x)) u = by_going (goes_out row x) (is_some (due_stop k (row ∷ earlier) x)) (k.asks x.word).late refl refl refl u.flushes u.redirect where
  in_ex : (k.shape.ex == k.shape.ex) ≡ true
  in_ex = equal k.shape.ex k.shape.ex refl

  none : (Settles k earlier row k.shape.ex x → ⊥) → (stage : ℕ) (c : Cell) → Stands k row stage c → Settles k earlier row stage c → ⊥
  none unsettled stage c stands s =
      let at = settles_at k earlier row u.early stage c stands s in
      let here : Stands k row k.shape.ex c = subst (λ n. Stands k row n c) at stands in
      unsettled (subst (λ y. Settles k earlier row k.shape.ex y) (sym (inside x c (sym u.at ∙ here))) (subst (λ n. Settles k earlier row n c) at s))

  stays : goes_out row x ≡ false → Settles k earlier row k.shape.ex x → ⊥
  stays e s = true_not_false (sym (out_from (is_some x.hold || has_serial row.flushed x.serial) (x.serial, x.at, x.word) s.leaves) ∙ e)

  unheld : (held flushed : Bool) → not (held || flushed) ≡ true → held ≡ false
  unheld true flushed e = absurd (true_not_false (sym e))
  unheld false flushed e = refl

  stops : goes_out row x ≡ true → is_some (due_stop k (row ∷ earlier) x) ≡ true → Settles k earlier row k.shape.ex x → ⊥
  stops g e s =
      let held = unheld (is_some x.hold) (has_serial row.flushed x.serial) g in
      let rest = either (is_some x.hold) (not (is_some (due_stop k (row ∷ earlier) x)) || stops_run true k words earlier row k.shape.ex x) u.decided held in
      let now = stops_then k words calm earlier row k.shape.ex x all true in_ex (either_not (is_some (due_stop k (row ∷ earlier) x)) (stops_run true k words earlier row k.shape.ex x) rest e) in
      s.runs now.0 now.2

  later : (k.asks x.word).late ≡ true → Settles k earlier row k.shape.ex x → ⊥
  later l s =
      let last : suc k.shape.ex ≡ k.shape.stages = subst (λ b. IsSettlingStage k b k.shape.ex) l s.settling in
      let a = either_not (k.asks x.word).late (not (suc k.shape.ex == k.shape.stages) || not (goes_out row x)) (each_cell (λ n d. not (k.asks d.word).late || (not (suc n == k.shape.stages) || not (goes_out row d))) (stages_of k row) k.shape.ex x u.early u.at) l in
      stays (negated (goes_out row x) (either_not (suc k.shape.ex == k.shape.stages) (not (goes_out row x)) a (equal (suc k.shape.ex) k.shape.stages last))) s

  settling : goes_out row x ≡ true → is_some (due_stop k (row ∷ earlier) x) ≡ false → (k.asks x.word).late ≡ false → IsSettling k earlier row x
  settling g e l = record {
    stands = u.at;
    settles = record {
      settling = subst (λ b. IsSettlingStage k b k.shape.ex) (sym l) refl;
      leaves = out_then (is_some x.hold || has_serial row.flushed x.serial) (x.serial, x.at, x.word) g;
      runs = λ stop s. true_not_false (sym (ap (λ o. is_some o) (due_then k (row ∷ earlier) x stop s.due)) ∙ e);
    };
    stage = λ stage c stands s. settles_at k earlier row u.early stage c stands s;
  }

  by_going : (out due late : Bool) → goes_out row x ≡ out → is_some (due_stop k (row ∷ earlier) x) ≡ due → (k.asks x.word).late ≡ late → turns_at k earlier row (if out && (not due && not late) then Some x else None) ≡ true
      → row.redirect ≡ redirect_at k earlier row (if out && (not due && not late) then Some x else None) → Successors k earlier row
  by_going false due late g e l t r = none_turns k earlier row (none (stays g)) t r
  by_going true true late g e l t r = none_turns k earlier row (none (stops g e)) t r
  by_going true false true g e l t r = none_turns k earlier row (none (later l)) t r
  by_going true false false g e l t r = some_turns k earlier row x (settling g e l) (nearest (stages_of k row) k.shape.ex) refl t r

-- Stops

-- the stop of the cell of EX, where that stops the run
abbrev pub stop_shown : Setting → List ℕ → List Row → Row → Option (Option Cell) → Option Stop
stop_shown k words earlier row None = None
stop_shown k words earlier row (Some None) = None
stop_shown k words earlier row (Some (Some x)) = if stops_run true k words earlier row k.shape.ex x then due_stop k (row ∷ earlier) x else None

-- a cell is left behind the row
abbrev pub is_left : Setting → Row → Bool
is_left k row = any_cell (λ n c. not (has_serial row.flushed c.serial) && (not (suc n == k.shape.stages) || is_some c.hold)) (stages_of k row)

left_then : (k : Setting) (row : Row) → is_left k row ≡ true → IsEmptyAfter k row → ⊥
left_then k row t empty =
    let x = some_cell (λ n c. not (has_serial row.flushed c.serial) && (not (suc n == k.shape.stages) || is_some c.hold)) (stages_of k row) t in
    let p = both_true (not (has_serial row.flushed x.1.serial)) (not (suc x.0 == k.shape.stages) || is_some x.1.hold) x.3 in
    elim (empty x.0 x.1 x.2) [
      | inl f ↦ true_not_false (sym f ∙ negated (has_serial row.flushed x.1.serial) p.0)
      | inr last ↦ true_not_false (sym (either_not (suc x.0 == k.shape.stages) (is_some x.1.hold) p.1 (equal (suc x.0) k.shape.stages last.0)) ∙ ap (λ o. is_some o) last.1)
    ]

-- a cell is left, or a word is there to be fetched
abbrev pub goes_further : Setting → List Row → Row → Bool
goes_further k earlier row = is_left k row || is_some (word_at k.image (fetch_address k (row ∷ earlier)))

no_word : (o : Option ℕ) → o ≡ None → is_some o ≡ false
no_word o e = ap (λ p. is_some p) e

fetches_then : (k : Setting) (earlier : List Row) (row : Row) → goes_further k earlier row ≡ true → IsEmptyAfter k row → word_at k.image (fetch_address k (row ∷ earlier)) ≡ None → ⊥
fetches_then k earlier row t empty w = elim (known (is_left k row)) [
  | inl x ↦ left_then k row x empty
  | inr x ↦
      true_not_false (sym (either (is_left k row) (is_some (word_at k.image (fetch_address k (row ∷ earlier)))) t x) ∙ no_word (word_at k.image (fetch_address k (row ∷ earlier))) w)
]

no_stop : (o : Option Stop) (s : Stop) → o ≡ None → o ≡ Some s → ⊥
no_stop o s e q = cc

the_stop : (s t : Stop) → ◌≡◌ {A = Option Stop} (Some s) (Some t) → s ≡ t
the_stop s t e = cc

-- no cell of EX stops the run
unstopped : (k : Setting) (earlier : List Row) (row : Row) → ((c : Cell) (stop : Stop) → Stands k row k.shape.ex c → StopsRun k earlier row k.shape.ex c stop → ⊥) → row.stop ≡ None → goes_further k earlier row ≡ true → StopsRightly k earlier row
unstopped k earlier row runs e left = record {
  cause = λ s q. absurd (no_stop row.stop s e q);
  of_cell = λ stage c s stands r. absurd (runs c s (subst (λ n. Stands k row n c) r.executing stands) (subst (λ n. StopsRun k earlier row n c s) r.executing r));
  of_fetch = λ empty o w. absurd (fetches_then k earlier row left empty w);
}

stops_rightly : (k : Setting) (words : List ℕ) → IsCalm k → (earlier : List Row) (row : Row) → AllNamedBy k words (row ∷ earlier) → ((c : Cell) → Stands k row k.shape.ex c → ShowsHold k earlier row k.shape.ex c)
    → (o : Option (Option Cell)) → slice_get (stages_of k row) k.shape.ex ≡ o → decided k words earlier row o ≡ true → row.stop ≡ stop_shown k words earlier row o → goes_further k earlier row ≡ true → StopsRightly k earlier row
stops_rightly k words calm earlier row all shows None at t e left = unstopped k earlier row (λ c s stands r. no_stage c (sym at ∙ stands)) e left
stops_rightly k words calm earlier row all shows (Some None) at t e left = unstopped k earlier row (λ c s stands r. no_cell c (sym at ∙ stands)) e left
stops_rightly k words calm earlier row all shows (Some (Some x)) at t e left = by_stop (stops_run true k words earlier row k.shape.ex x) refl e where
  in_ex : (k.shape.ex == k.shape.ex) ≡ true
  in_ex = equal k.shape.ex k.shape.ex refl

  same_due : (c : Cell) (s : Stop) → Stands k row k.shape.ex c → StopsRun k earlier row k.shape.ex c s → due_stop k (row ∷ earlier) x ≡ Some s
  same_due c s stands r = ap (λ (y : Cell). due_stop k (row ∷ earlier) y) (inside x c (sym at ∙ stands)) ∙ due_then k (row ∷ earlier) c s r.due

  -- what stops the run shows no hold, so that it passed the test on stops
  runs : stops_run true k words earlier row k.shape.ex x ≡ false → (c : Cell) (s : Stop) → Stands k row k.shape.ex c → StopsRun k earlier row k.shape.ex c s → ⊥
  runs f c s stands r =
      let same = inside x c (sym at ∙ stands) in
      let free : is_some x.hold ≡ false = ap (λ (y : Cell). is_some y.hold) same ∙ ap (λ o. is_some o) ((shows c stands).stopping s r) in
      let rest = either (is_some x.hold) (not (is_some (due_stop k (row ∷ earlier) x)) || stops_run true k words earlier row k.shape.ex x) t free in
      true_not_false (sym (either_not (is_some (due_stop k (row ∷ earlier) x)) (stops_run true k words earlier row k.shape.ex x) rest (ap (λ o. is_some o) (same_due c s stands r))) ∙ f)

  by_stop : (stopped : Bool) → stops_run true k words earlier row k.shape.ex x ≡ stopped → row.stop ≡ (if stopped then due_stop k (row ∷ earlier) x else None) → StopsRightly k earlier row
  by_stop false f q = unstopped k earlier row (runs f) q left
  by_stop true f q =
      let now = stops_then k words calm earlier row k.shape.ex x all true in_ex f in
      record {
        cause = λ s p. inl (k.shape.ex, x, at, subst (λ y. StopsRun k earlier row k.shape.ex x y) (the_stop now.0 s (sym now.1 ∙ sym q ∙ p)) now.2);
        of_cell = λ stage c s stands r. q ∙ same_due c s (subst (λ n. Stands k row n c) r.executing stands) (subst (λ n. StopsRun k earlier row n c s) r.executing r);
        of_fetch = λ empty o w. absurd (fetches_then k earlier row left empty w);
      }

-- Interrupts

-- a cell is left above EX behind the row
abbrev pub is_above : Setting → Row → Bool
is_above k row = any_cell (λ n c. nat_lt k.shape.ex n && (not (has_serial row.flushed c.serial) && (not (suc n == k.shape.stages) || is_some c.hold))) (stages_of k row)

above_then : (k : Setting) (row : Row) → is_above k row ≡ true → IsClearAfter k row → ⊥
above_then k row t clear =
    let x = some_cell (λ n c. nat_lt k.shape.ex n && (not (has_serial row.flushed c.serial) && (not (suc n == k.shape.stages) || is_some c.hold))) (stages_of k row) t in
    let p = both_true (nat_lt k.shape.ex x.0) (not (has_serial row.flushed x.1.serial) && (not (suc x.0 == k.shape.stages) || is_some x.1.hold)) x.3 in
    let q = both_true (not (has_serial row.flushed x.1.serial)) (not (suc x.0 == k.shape.stages) || is_some x.1.hold) p.1 in
    elim (clear x.0 x.1 (less k.shape.ex x.0 p.0) x.2) [
      | inl f ↦ true_not_false (sym f ∙ negated (has_serial row.flushed x.1.serial) q.0)
      | inr last ↦ true_not_false (sym (either_not (suc x.0 == k.shape.stages) (is_some x.1.hold) q.1 (equal (suc x.0) k.shape.stages last.0)) ∙ ap (λ o. is_some o) last.1)
    ]

-- where an interrupt is to be taken, it is not yet
abbrev pub is_put_off : Setting → List Row → Row → Bool
is_put_off k earlier row = not (is_interrupted k earlier) || is_above k row

none_taken : (o : Option ℕ) (at : ℕ) → o ≡ None → o ≡ Some at → ⊥
none_taken o at e q = cc

takes_none : (k : Setting) (earlier : List Row) (row : Row) → row.taken ≡ None → is_put_off k earlier row ≡ true → TakesRightly k earlier row
takes_none k earlier row e t = record {
  taken = λ at q. absurd (none_taken row.taken at e q);
  due = λ interrupted clear. absurd (above_then k row (either_not (is_interrupted k earlier) (is_above k row) t interrupted) clear);
}

-- Rows

-- each cell has the word of its serial, and shows its hold rightly
abbrev pub names_right : Setting → List ℕ → Row → Bool
names_right k words row = all_cells (λ n c. c.word == get_or words c.serial 0) (stages_of k row)

abbrev pub holds_right : Setting → List ℕ → List Row → Row → Bool
holds_right k words earlier row = all_cells (λ n c. shows_right k words earlier row n c c.hold) (stages_of k row)

-- what stands at EX
abbrev pub executing : Setting → Row → Option (Option Cell)
executing k row = slice_get (stages_of k row) k.shape.ex

-- the tests of a row
abbrev pub retired_right : Setting → Row → Bool
retired_right k row = retires_right row row.retired (slice_get (stages_of k row) (k.shape.stages - 1))

abbrev pub cells_right : Setting → List ℕ → List Row → Row → Bool
cells_right k words earlier row = names_right k words row && holds_right k words earlier row

abbrev pub turn_right : Setting → List ℕ → List Row → Row → Bool
turn_right k words earlier row = none_late k row && (decided k words earlier row (executing k row) && turns_at k earlier row (settles_now k earlier row (executing k row)))

abbrev pub row_right : Setting → List ℕ → List Row → Row → Bool
row_right k words earlier row = cells_right k words earlier row && (turn_right k words earlier row && (retired_right k row && (goes_further k earlier row && is_put_off k earlier row)))

-- what a row owes, as tests where it has some
pub record IsRight (k : Setting) (words : List ℕ) (earlier : List Row) (row : Row) : Type 0 where
  pub form : IsInForm k row
  pub moves : Moves k earlier row
  pub units : WritesUnit k earlier row
  pub taken : row.taken ≡ None
  pub tests : row_right k words earlier row ≡ true
  pub redirect : row.redirect ≡ redirect_at k earlier row (settles_now k earlier row (executing k row))
  pub stop : row.stop ≡ stop_shown k words earlier row (executing k row)

-- what the names of a row say
named_then : (k : Setting) (words : List ℕ) (row : Row) → names_right k words row ≡ true → NamedBy k words row
named_then k words row t stage c stands = same_number c.word (get_or words c.serial 0) (each_cell (λ n d. d.word == get_or words d.serial 0) (stages_of k row) stage c t stands)

retired_then : (k : Setting) (row : Row) → retired_right k row ≡ true → (stage : ℕ) → suc stage ≡ k.shape.stages → Retires k row stage
retired_then k row t stage e = retires_then k row stage row.retired (slice_get (stages_of k row) (k.shape.stages - 1)) refl (ap (slice_get (stages_of k row)) (sym (last_stage stage k.shape.stages e))) t

holds_then : (k : Setting) (words : List ℕ) → IsCalm k → (earlier : List Row) (row : Row) → AllNamedBy k words (row ∷ earlier) → holds_right k words earlier row ≡ true → (stage : ℕ) (c : Cell) → Stands k row stage c → ShowsHold k earlier row stage c
holds_then k words calm earlier row all t stage c stands = shows_then k words calm earlier row stage c all c.hold refl (each_cell (λ n d. shows_right k words earlier row n d d.hold) (stages_of k row) stage c t stands)

lawful_row : (k : Setting) (words : List ℕ) → IsCalm k → (earlier : List Row) (row : Row) → AllNamedBy k words (row ∷ earlier) → IsRight k words earlier row → LawfulRow k earlier row
lawful_row k words calm earlier row all right = record {
  form = right.form;
  moves = right.moves;
  retires = retired_then k row ends.0;
  holds = shows;
  successors = turned k words calm earlier row all (executing k row) (record { at = refl; decided = turn.0; early = early.0; flushes = turn.1; redirect = right.redirect });
  units = right.units;
  takes = takes_none k earlier row right.taken further.1;
  stops = stops_rightly k words calm earlier row all (λ c stands. shows k.shape.ex c stands) (executing k row) refl turn.0 right.stop further.0;
} where
  parts : (cells_right k words earlier row ≡ true) × ((turn_right k words earlier row && (retired_right k row && (goes_further k earlier row && is_put_off k earlier row))) ≡ true)
  parts = both_true (cells_right k words earlier row) (turn_right k words earlier row && (retired_right k row && (goes_further k earlier row && is_put_off k earlier row))) right.tests

  others : (turn_right k words earlier row ≡ true) × ((retired_right k row && (goes_further k earlier row && is_put_off k earlier row)) ≡ true)
  others = both_true (turn_right k words earlier row) (retired_right k row && (goes_further k earlier row && is_put_off k earlier row)) parts.1

  early : (none_late k row ≡ true) × ((decided k words earlier row (executing k row) && turns_at k earlier row (settles_now k earlier row (executing k row))) ≡ true)
  early = both_true (none_late k row) (decided k words earlier row (executing k row) && turns_at k earlier row (settles_now k earlier row (executing k row))) others.0

  turn : (decided k words earlier row (executing k row) ≡ true) × (turns_at k earlier row (settles_now k earlier row (executing k row)) ≡ true)
  turn = both_true (decided k words earlier row (executing k row)) (turns_at k earlier row (settles_now k earlier row (executing k row))) early.1

  ends : (retired_right k row ≡ true) × ((goes_further k earlier row && is_put_off k earlier row) ≡ true)
  ends = both_true (retired_right k row) (goes_further k earlier row && is_put_off k earlier row) others.1

  further : (goes_further k earlier row ≡ true) × (is_put_off k earlier row ≡ true)
  further = both_true (goes_further k earlier row) (is_put_off k earlier row) ends.1

  shows : (stage : ℕ) (c : Cell) → Stands k row stage c → ShowsHold k earlier row stage c
  shows = holds_then k words calm earlier row all (both_true (names_right k words row) (holds_right k words earlier row) parts.0).1

-- a row that takes an interrupt

-- no cell is left above EX
abbrev pub is_clear : Setting → Row → Bool
is_clear k row = all_cells (λ n c. not (nat_lt k.shape.ex n) || (has_serial row.flushed c.serial || ((suc n == k.shape.stages) && not (is_some c.hold)))) (stages_of k row)

none_held : (o : Option Hold) → is_some o ≡ false → o ≡ None
none_held None e = refl
none_held (Some g) e = absurd (true_not_false e)

above : (m n : ℕ) → m < n → nat_lt m n ≡ true
above m n lt = grind (arith, nat_tests)

clear_then : (k : Setting) (row : Row) → is_clear k row ≡ true → IsClearAfter k row
clear_then k row t stage c lt stands =
    let e = each_cell (λ n d. not (nat_lt k.shape.ex n) || (has_serial row.flushed d.serial || ((suc n == k.shape.stages) && not (is_some d.hold)))) (stages_of k row) stage c t stands in
    let f = either_not (nat_lt k.shape.ex stage) (has_serial row.flushed c.serial || ((suc stage == k.shape.stages) && not (is_some c.hold))) e (above k.shape.ex stage lt) in
    elim (known (has_serial row.flushed c.serial)) [
      | inl x ↦ inl x
      | inr x ↦
          let p = both_true (suc stage == k.shape.stages) (not (is_some c.hold)) (either (has_serial row.flushed c.serial) ((suc stage == k.shape.stages) && not (is_some c.hold)) f x) in
          inr (same_number (suc stage) k.shape.stages p.0, none_held c.hold (negated (is_some c.hold) p.1))
    ]

-- each cell at EX and below is flushed
abbrev pub is_emptied : Setting → Row → Bool
is_emptied k row = all_cells (λ n c. nat_lt k.shape.ex n || has_serial row.flushed c.serial) (stages_of k row)

emptied_then : (k : Setting) (row : Row) → is_emptied k row ≡ true → (stage : ℕ) (c : Cell) → stage ≤ k.shape.ex → Stands k row stage c → has_serial row.flushed c.serial ≡ true
emptied_then k row t stage c le stands =
    either (nat_lt k.shape.ex stage) (has_serial row.flushed c.serial) (each_cell (λ n d. nat_lt k.shape.ex n || has_serial row.flushed d.serial) (stages_of k row) stage c t stands) (not_above k.shape.ex stage le) where
      not_above : (n m : ℕ) → m ≤ n → nat_lt n m ≡ false
      not_above n m le = grind (arith, nat_tests)

-- the tests of such a row
abbrev pub entry_right : Setting → List ℕ → List Row → Row → Bool
entry_right k words earlier row =
    cells_right k words earlier row
    && (retired_right k row && (is_clear k row && (is_emptied k row && (only_below (stages_of k row) (suc k.shape.ex) row.flushed && goes_further k earlier row))))

-- what it owes
pub record IsTaking (k : Setting) (words : List ℕ) (earlier : List Row) (row : Row) (at : ℕ) : Type 0 where
  pub form : IsInForm k row
  pub moves : Moves k earlier row
  pub units : WritesUnit k earlier row
  pub interrupted : is_interrupted k earlier ≡ true
  pub taken : row.taken ≡ Some at
  pub value : at ≡ k.course.pc (retirements (row ∷ earlier))
  pub tests : entry_right k words earlier row ≡ true
  pub redirect : row.redirect ≡ Some k.shape.trap
  pub stop : row.stop ≡ None

-- what settles in such a row stands above all that is flushed, and names nothing
entry_turns : (k : Setting) (earlier : List Row) (row : Row) (at : ℕ) → row.taken ≡ Some at → is_clear k row ≡ true → is_emptied k row ≡ true → only_below (stages_of k row) (suc k.shape.ex) row.flushed ≡ true → Successors k earlier row
entry_turns k earlier row at e clear emptied only = record {
  flushes = λ stage c y below d lt stands. elim (known (nat_lt k.shape.ex below)) [
    | inl x ↦ elim (clear_then k row clear below d (less k.shape.ex below x) stands) [
      | inl f ↦ f
      | inr last ↦ absurd (not_under (k.asks c.word).late stage below y.settles.settling (less k.shape.ex below x) lt last.0)
    ]
    | inr x ↦ emptied_then k row emptied below d (not_less k.shape.ex below x) stands
  ];
  named = λ quiet stage c y. absurd (none_taken row.taken at quiet e);
  alone = λ quiet stage c stands s younger. absurd (none_taken row.taken at quiet e);
  flushed_only = λ s h.
      let found = some_cell (λ m c. nat_lt m (suc k.shape.ex) && (c.serial == s)) (stages_of k row) (below_then (stages_of k row) (suc k.shape.ex) row.flushed only s h) in
      let p = both_true (nat_lt found.0 (suc k.shape.ex)) (found.1.serial == s) found.3 in
      inr (ap (λ o. is_some o) e, found.0, found.1, at_most found.0 k.shape.ex (less found.0 (suc k.shape.ex) p.0), found.2, same_number found.1.serial s p.1);
  named_only = λ a quiet q. absurd (none_taken row.taken at quiet e);
} where
  at_most : (m n : ℕ) → m < suc n → m ≤ n
  at_most m n lt = omega (arith, lt)

  apart : (stage below ex stages : ℕ) → ex < below → below < stage → suc below ≡ stages → (stage ≡ ex) ⊎ (suc stage ≡ stages) → ⊥
  apart stage below ex stages a b e at = elim at [ inl x ↦ omega (arith, a, b, x) | inr x ↦ omega (arith, b, e, x) ]

  not_under : (late : Bool) (stage below : ℕ) → IsSettlingStage k late stage → k.shape.ex < below → below < stage → suc below ≡ k.shape.stages → ⊥
  not_under false stage below at a b e = apart stage below k.shape.ex k.shape.stages a b e (inl at)
  not_under true stage below at a b e = apart stage below k.shape.ex k.shape.stages a b e (inr at)

entry_takes : (k : Setting) (earlier : List Row) (row : Row) (at : ℕ) → is_interrupted k earlier ≡ true → row.taken ≡ Some at → at ≡ k.course.pc (retirements (row ∷ earlier)) → is_clear k row ≡ true → is_emptied k row ≡ true → row.redirect ≡ Some k.shape.trap → TakesRightly k earlier row
entry_takes k earlier row at due e value clear emptied r = record {
  taken = λ other q. record {
    interrupted = due;
    clear = clear_then k row clear;
    value = sym (the_address at other (sym e ∙ q)) ∙ value;
    flushed = emptied_then k row emptied;
    redirected = r;
  };
  due = λ interrupted clear. ap (λ o. is_some o) e;
}

entry_row : (k : Setting) (words : List ℕ) → IsCalm k → (earlier : List Row) (row : Row) (at : ℕ) → AllNamedBy k words (row ∷ earlier) → IsTaking k words earlier row at → LawfulRow k earlier row
entry_row k words calm earlier row at all right = record {
  form = right.form;
  moves = right.moves;
  retires = retired_then k row retired.0;
  holds = holds_then k words calm earlier row all (both_true (names_right k words row) (holds_right k words earlier row) parts.0).1;
  successors = entry_turns k earlier row at right.taken clear.0 emptied.0 rest.0;
  units = right.units;
  takes = entry_takes k earlier row at right.interrupted right.taken right.value clear.0 emptied.0 right.redirect;
  stops = unstopped k earlier row (λ c s stands r. r.free Trap (record { executing = refl; interrupted = right.interrupted })) right.stop rest.1;
} where
  parts : (cells_right k words earlier row ≡ true) × ((retired_right k row && (is_clear k row && (is_emptied k row && (only_below (stages_of k row) (suc k.shape.ex) row.flushed && goes_further k earlier row)))) ≡ true)
  parts = both_true (cells_right k words earlier row) (retired_right k row && (is_clear k row && (is_emptied k row && (only_below (stages_of k row) (suc k.shape.ex) row.flushed && goes_further k earlier row)))) right.tests

  retired : (retired_right k row ≡ true) × ((is_clear k row && (is_emptied k row && (only_below (stages_of k row) (suc k.shape.ex) row.flushed && goes_further k earlier row))) ≡ true)
  retired = both_true (retired_right k row) (is_clear k row && (is_emptied k row && (only_below (stages_of k row) (suc k.shape.ex) row.flushed && goes_further k earlier row))) parts.1

  clear : (is_clear k row ≡ true) × ((is_emptied k row && (only_below (stages_of k row) (suc k.shape.ex) row.flushed && goes_further k earlier row)) ≡ true)
  clear = both_true (is_clear k row) (is_emptied k row && (only_below (stages_of k row) (suc k.shape.ex) row.flushed && goes_further k earlier row)) retired.1

  emptied : (is_emptied k row ≡ true) × ((only_below (stages_of k row) (suc k.shape.ex) row.flushed && goes_further k earlier row) ≡ true)
  emptied = both_true (is_emptied k row) (only_below (stages_of k row) (suc k.shape.ex) row.flushed && goes_further k earlier row) clear.1

  rest : (only_below (stages_of k row) (suc k.shape.ex) row.flushed ≡ true) × (goes_further k earlier row ≡ true)
  rest = both_true (only_below (stages_of k row) (suc k.shape.ex) row.flushed) (goes_further k earlier row) emptied.1

-- Lists of rows

-- lawful rows whose cells have these words
pub record JudgedBy (by : Judging) (words : List ℕ) (rows : List Row) : Type 0 where
  pub lawful : Lawful by rows
  pub names : AllNamedIn (by []).shape.stages words rows

pub no_rows_by : (by : Judging) (words : List ℕ) → JudgedBy by words []
no_rows_by by words = record { lawful = tt; names = tt }

one_more : (by : Judging) (words : List ℕ) (earlier : List Row) (row : Row) → (by []).shape.stages ≡ (by (places earlier)).shape.stages → JudgedBy by words earlier → (newest earlier).stop ≡ None → names_right (by (places earlier)) words row ≡ true
    → (AllNamedBy (by (places earlier)) words (row ∷ earlier) → LawfulRow (by (places earlier)) earlier row) → JudgedBy by words (row ∷ earlier)
one_more by words earlier row even judged going t right = record { lawful = (right all, going, judged.lawful); names = subst (λ n. AllNamedIn n words (row ∷ earlier)) (sym even) all } where
  all : AllNamedBy (by (places earlier)) words (row ∷ earlier)
  all = (named_then (by (places earlier)) words row t, subst (λ n. AllNamedIn n words earlier) even judged.names)

first_true : (a b c : Bool) → ((a && b) && c) ≡ true → a ≡ true
first_true a b c e = (both_true a b (both_true (a && b) c e).0).0

-- one row more, in which no interrupt is taken
pub row_by : (by : Judging) (words : List ℕ) (earlier : List Row) (row : Row) → IsCalm (by (places earlier)) → (by []).shape.stages ≡ (by (places earlier)).shape.stages → JudgedBy by words earlier → (newest earlier).stop ≡ None
    → IsRight (by (places earlier)) words earlier row → JudgedBy by words (row ∷ earlier)
row_by by words earlier row calm even judged going right =
    one_more by words earlier row even judged going
    (first_true (names_right (by (places earlier)) words row) (holds_right (by (places earlier)) words earlier row)
    (turn_right (by (places earlier)) words earlier row && (retired_right (by (places earlier)) row && (goes_further (by (places earlier)) earlier row && is_put_off (by (places earlier)) earlier row))) right.tests)
    (λ all. lawful_row (by (places earlier)) words calm earlier row all right)

-- one row more, in which one is
pub entry_by : (by : Judging) (words : List ℕ) (earlier : List Row) (row : Row) (at : ℕ) → IsCalm (by (places earlier)) → (by []).shape.stages ≡ (by (places earlier)).shape.stages → JudgedBy by words earlier → (newest earlier).stop ≡ None
    → IsTaking (by (places earlier)) words earlier row at → JudgedBy by words (row ∷ earlier)
entry_by by words earlier row at calm even judged going right =
    one_more by words earlier row even judged going
    (first_true (names_right (by (places earlier)) words row) (holds_right (by (places earlier)) words earlier row)
    (retired_right (by (places earlier)) row
    && (is_clear (by (places earlier)) row && (is_emptied (by (places earlier)) row && (only_below (stages_of (by (places earlier)) row) (suc (by (places earlier)).shape.ex) row.flushed && goes_further (by (places earlier)) earlier row)))) right.tests)
    (λ all. entry_row (by (places earlier)) words calm earlier row at all right)

-- the same, judged by one and the same

abbrev pub Judged : Setting → List ℕ → List Row → Type 0
Judged k words rows = JudgedBy (λ places. k) words rows

pub no_rows : (k : Setting) (words : List ℕ) → Judged k words []
no_rows k words = no_rows_by (λ places. k) words

pub next_row : (k : Setting) (words : List ℕ) → IsCalm k → (earlier : List Row) (row : Row) → Judged k words earlier → (newest earlier).stop ≡ None → IsRight k words earlier row → Judged k words (row ∷ earlier)
next_row k words calm earlier row judged going right = row_by (λ places. k) words earlier row calm refl judged going right
