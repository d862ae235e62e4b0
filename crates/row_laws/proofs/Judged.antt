-- Rows on the core of three stages that pass their tests are lawful, one behind the other, where nothing is flushed.
use Rattle.std.proofs.Common.{◌≡◌, ℕ, zero, suc, ◌<◌, List, [], ◌∷◌, Option, Some, None, Bool, true, false, refl, sym, ap, ◌∙◌, subst, arith, ◌⊎◌, inl, inr}
use Rattle.std.specs.Prelude.{◌&&◌, ◌||◌, not, if◌then◌else◌, ◌==◌, is_some, is_none, get_or}
use Rattle.rv_seq.specs.declared.answer.StepAnswer.{StepAnswer}
use Rattle.rv_seq.specs.declared.answer.StepAnswer.TheVariants.{Stopped}
use Rattle.rv_seq.specs.declared.commit.Commit.{Commit}
use Rattle.rv_seq.specs.declared.commit.Stop.{Stop}
use Rattle.rv_seq.specs.declared.commit.Stop.TheVariants.{Fetch}
use Rattle.rv_seq.specs.Steps.{word_at}
use Rattle.rv_trace.specs.declared.row.Cell.{Cell}
use Rattle.rv_trace.specs.declared.row.Hold.{Hold}
use Rattle.rv_trace.specs.declared.row.Row.{Row}
use Rattle.rv_trace.specs.Trace.{has_serial, place, newest}
use Rattle.rv_trace.specs.RowParts.{Name, name_of, leaves}
use Rattle.rv_lawful.specs.Settings.{Stands}
use Rattle.rv_lawful.specs.Outstanding.{Written, Decoupled, outstanding}
use Rattle.rv_lawful.specs.LawfulTrace.{plain_fetch, fetch_address, Moves, IsDueToStop, StopsRun, ShowsHold, Settles, successor, IsMismatch, Successors, IsEmptyAfter, StopsRightly, Retires, WritesUnit, LawfulRow, Lawful}
use Rattle.row_laws.specs.Hands.{Hand, by_hand, none_flushed}
use Rattle.row_laws.specs.Spawning.{full_row}
use Rattle.row_laws.proofs.Stages.{true_not_false, untaken, same_cell, AllNamed, Named, HasWord, named, settles_at_ex, none_retires, one_retires}
use Rattle.row_laws.proofs.Tests.{both_true, either, negated, known, same_number, IsSimple, is_due, stop_there, due_now, ex_free, and_both}
use Rattle.row_laws.proofs.Judging.{inner, stops_now, front_hold, front_shows, is_held, ex_hold, ex_shows, last_hold, last_shows}

-- Successors

-- the cell of stage 0 has this address, or none is there and it is fetched next
abbrev RightAt : Hand → List Row → Row → ℕ → Type 0
RightAt h earlier row at =
    ((d : Cell) × Stands (by_hand h) row 0 d × (d.at ≡ at))
    ⊎ (((d : Cell) → Stands (by_hand h) row 0 d → ⊥) × ((at == plain_fetch (by_hand h) earlier (fetch_address (by_hand h) earlier) row) ≡ true))

no_flush : (h : Hand) (earlier : List Row) (row : Row) → row.flushed ≡ none_flushed → row.redirect ≡ None
    → ((stage : ℕ) (c : Cell) → Stands (by_hand h) row stage c → Settles (by_hand h) earlier row stage c → (stage ≡ 1) × RightAt h earlier row (successor (by_hand h) (row ∷ earlier) c))
    → Successors (by_hand h) earlier row
no_flush h earlier row f r right = record {
  flushes = λ stage c x below d lt stands. absurd (no_mismatch stage c x);
  named = λ quiet stage c x. absurd (no_mismatch stage c x);
  alone = λ quiet stage c stands settles younger. let one = right stage c stands settles in elim one.1 [
    | inl d ↦ absurd (younger 0 d.0 (above stage one.0) d.1)
    | inr e ↦ r ∙ sym (ap (λ b. if b then None else Some (successor (by_hand h) (row ∷ earlier) c)) e.1)
  ];
  flushed_only = λ s e. cc (ap (λ l. has_serial l s) f, e);
  named_only = λ a quiet e. cc (r, e);
} where
  above : (stage : ℕ) → stage ≡ 1 → 0 < stage
  above stage e = omega (arith, e)

  lowest : (below stage : ℕ) → stage ≡ 1 → below < stage → below ≡ 0
  lowest below stage e lt = omega (arith, e, lt)

  same : (x d : Cell) → ◌≡◌ {A = Option (Option Cell)} (Some (Some x)) (Some (Some d)) → x ≡ d
  same x d e = cc

  no_mismatch : (stage : ℕ) (c : Cell) → IsMismatch (by_hand h) earlier row stage c → ⊥
  no_mismatch stage c x =
      let one = right stage c x.stands x.settles in
      let next = x.differs.2 in
      let low = lowest x.differs.0 stage one.0 next.lower in
      let here : Stands (by_hand h) row 0 x.differs.1 = subst (λ n. Stands (by_hand h) row n x.differs.1) low next.stands in
      elim one.1 [
        | inl d ↦ x.differs.3 (ap (λ (y : Cell). y.at) (sym (same d.0 x.differs.1 (sym d.1 ∙ here))) ∙ d.2)
        | inr e ↦ e.0 x.differs.1 here
      ]

-- the cell of EX goes on to this address
abbrev pub goes_to : Hand → List Row → Row → Option Cell → ℕ → Bool
goes_to h earlier row None at = at == plain_fetch (by_hand h) earlier (fetch_address (by_hand h) earlier) row
goes_to h earlier row (Some d) at = d.at == at

abbrev pub follows : Hand → List Row → Row → Option Cell → Option Cell → Bool
follows h earlier row a None = true
follows h earlier row a (Some x) = is_some x.hold || ((is_due h (row ∷ earlier) x && ex_free h earlier row x) || goes_to h earlier row a (successor (by_hand h) (row ∷ earlier) x))

stays_there : (held : Bool) (n : Name) → held ≡ true → (if held || false then None else Some n) ≡ Some n → ⊥
stays_there true n e l = cc
stays_there false n e l = true_not_false (sym e)

right_at : (h : Hand) (earlier : List Row) (a b c : Option Cell) (ret : Option (ℕ × Commit)) (wr : Option Written) (stop : Option Stop) (at : ℕ) → goes_to h earlier (full_row a b c ret wr stop) a at ≡ true → RightAt h earlier (full_row a b c ret wr stop) at
right_at h earlier None b c ret wr stop at e = inr (λ d s. cc, e)
right_at h earlier (Some d) b c ret wr stop at e = inl (d, refl, same_number d.at at e)

straight : (h : Hand) → IsSimple h → (earlier : List Row) (a b c : Option Cell) (ret : Option (ℕ × Commit)) (wr : Option Written) (stop : Option Stop) → AllNamed h (full_row a b c ret wr stop ∷ earlier)
    → follows h earlier (full_row a b c ret wr stop) a b ≡ true → Successors (by_hand h) earlier (full_row a b c ret wr stop)
straight h simple earlier a b c ret wr stop all t = no_flush h earlier row refl refl settling where
  row : Row
  row = full_row a b c ret wr stop

  goes_on : (x : Cell) → Settles (by_hand h) earlier row 1 x → follows h earlier row a (Some x) ≡ true → RightAt h earlier row (successor (by_hand h) (row ∷ earlier) x)
  goes_on x s e = elim (known (is_some x.hold)) [
    | inl held ↦ absurd (stays_there (is_some x.hold) (x.serial, x.at, x.word) held s.leaves)
    | inr y ↦ elim (known (is_due h (row ∷ earlier) x && ex_free h earlier row x)) [
      | inl z ↦ let p = both_true (is_due h (row ∷ earlier) x) (ex_free h earlier row x) z in
          let due = stop_there (h.course.answer (place (row ∷ earlier) x.serial)) p.0 in absurd (s.runs due.0 (stops_now h simple earlier row x all p.1 due.0 due.1))
      | inr z ↦ right_at h earlier a b c ret wr stop (successor (by_hand h) (row ∷ earlier) x)
          (either (is_due h (row ∷ earlier) x && ex_free h earlier row x) (goes_to h earlier row a (successor (by_hand h) (row ∷ earlier) x))
          (either (is_some x.hold) ((is_due h (row ∷ earlier) x && ex_free h earlier row x) || goes_to h earlier row a (successor (by_hand h) (row ∷ earlier) x)) e y) z)
    ]
  ]

  settling : (stage : ℕ) (x : Cell) → Stands (by_hand h) row stage x → Settles (by_hand h) earlier row stage x → (stage ≡ 1) × RightAt h earlier row (successor (by_hand h) (row ∷ earlier) x)
  settling stage x stands s =
      let one = settles_at_ex h earlier row stage x (simple.late x.word) s in
      let here : Stands (by_hand h) row 1 x = subst (λ n. Stands (by_hand h) row n x) one stands in
      (one, goes_on x (subst (λ n. Settles (by_hand h) earlier row n x) one s) (sym (ap (follows h earlier row a) (inner b x here)) ∙ t))

-- Retirements

abbrev pub retiring : Option (ℕ × Commit) → Option Cell → Bool
retiring None None = true
retiring None (Some x) = is_some x.hold
retiring (Some (s, d)) None = false
retiring (Some (s, d)) (Some x) = not (is_some x.hold) && (s == x.serial)

none_held : (o : Option Hold) → is_some o ≡ false → o ≡ None
none_held None e = refl
none_held (Some g) e = absurd (true_not_false e)

goes_out : (held : Bool) (n : Name) → held ≡ false → (if held || false then None else Some n) ≡ Some n
goes_out true n e = absurd (true_not_false e)
goes_out false n e = refl

retires_right : (h : Hand) (a b c : Option Cell) (ret : Option (ℕ × Commit)) (wr : Option Written) (stop : Option Stop) → retiring ret c ≡ true → (stage : ℕ) → suc stage ≡ 3 → Retires (by_hand h) (full_row a b c ret wr stop) stage
retires_right h a b None None wr stop t stage e = none_retires h (full_row a b None None wr stop) refl (λ d s l. cc) stage e
retires_right h a b (Some x) None wr stop t stage e =
    none_retires h (full_row a b (Some x) None wr stop) refl
    (λ d s l. same_cell (λ y. leaves (full_row a b (Some x) None wr stop) (Some y) ≡ name_of (Some y) → ⊥) x d s (λ q. stays_there (is_some x.hold) (x.serial, x.at, x.word) t q) l) stage e
retires_right h a b None (Some (s, d)) wr stop t stage e = absurd (true_not_false (sym t))
retires_right h a b (Some x) (Some (s, d)) wr stop t stage e =
    let p = both_true (not (is_some x.hold)) (s == x.serial) t in
    one_retires h (full_row a b (Some x) (Some (s, d)) wr stop) x d (ap (λ n. Some (n, d)) (same_number s x.serial p.1)) refl (goes_out (is_some x.hold) (x.serial, x.at, x.word) (negated (is_some x.hold) p.0)) stage e

-- Stops

abbrev pub is_absent : Option Cell → Bool
is_absent None = true
is_absent (Some x) = false

abbrev pub is_settled : List Decoupled → Bool
is_settled [] = true
is_settled (o ∷ older) = false

-- nothing is left and nothing outstanding behind the row, and the next fetch has no word
abbrev pub ended : Hand → List Row → Row → Option Cell → Option Cell → Option Cell → Bool
ended h earlier row a b c =
    is_absent a && (is_absent b && (not (is_held c) && (is_settled (outstanding (by_hand h) (row ∷ earlier)) && is_none (word_at h.image (fetch_address (by_hand h) (row ∷ earlier))))))

-- the cell of EX does not stop the run
abbrev pub unstopped : Hand → List Row → Row → Option Cell → Bool
unstopped h earlier row None = true
unstopped h earlier row (Some x) = is_some x.hold || not (is_due h (row ∷ earlier) x)

no_word : (o : Option ℕ) → o ≡ None → is_none o ≡ true
no_word o e = ap is_none e

word_missing : (o : Option ℕ) → is_none o ≡ true → o ≡ None
word_missing None e = refl
word_missing (Some n) e = absurd (true_not_false (sym e))

none_owed : (l : List Decoupled) → is_settled l ≡ true → l ≡ []
none_owed [] e = refl
none_owed (o ∷ older) e = absurd (true_not_false (sym e))

nothing_left : (h : Hand) (a b c : Option Cell) (ret : Option (ℕ × Commit)) (wr : Option Written) (stop : Option Stop) → IsEmptyAfter (by_hand h) (full_row a b c ret wr stop) → (is_absent a ≡ true) × (is_absent b ≡ true) × (not (is_held c) ≡ true)
nothing_left h a b c ret wr stop empty = (at_0 a (λ d e. empty 0 d (ap Some e)), at_1 b (λ d e. empty 1 d (ap Some e)), at_2 c (λ d e. empty 2 d (ap Some e))) where
  at_0 : (o : Option Cell) → ((d : Cell) → o ≡ Some d → (false ≡ true) ⊎ ((◌≡◌ {A = ℕ} 1 3) × (d.hold ≡ None))) → is_absent o ≡ true
  at_0 None f = refl
  at_0 (Some d) f = elim (f d refl) [ inl x ↦ absurd (true_not_false (sym x)) | inr x ↦ let e = x.0 in absurd (omega (arith, e)) ]

  at_1 : (o : Option Cell) → ((d : Cell) → o ≡ Some d → (false ≡ true) ⊎ ((◌≡◌ {A = ℕ} 2 3) × (d.hold ≡ None))) → is_absent o ≡ true
  at_1 None f = refl
  at_1 (Some d) f = elim (f d refl) [ inl x ↦ absurd (true_not_false (sym x)) | inr x ↦ let e = x.0 in absurd (omega (arith, e)) ]

  at_2 : (o : Option Cell) → ((d : Cell) → o ≡ Some d → (false ≡ true) ⊎ ((◌≡◌ {A = ℕ} 3 3) × (d.hold ≡ None))) → not (is_held o) ≡ true
  at_2 None f = refl
  at_2 (Some d) f = elim (f d refl) [ inl x ↦ absurd (true_not_false (sym x)) | inr x ↦ ap (λ q. not (is_some q)) x.1 ]

goes_on : (h : Hand) (earlier : List Row) (a b c : Option Cell) (ret : Option (ℕ × Commit)) (wr : Option Written) → ((x : Cell) → Stands (by_hand h) (full_row a b c ret wr None) 1 x → ShowsHold (by_hand h) earlier (full_row a b c ret wr None) 1 x)
    → unstopped h earlier (full_row a b c ret wr None) b ≡ true → ended h earlier (full_row a b c ret wr None) a b c ≡ false → StopsRightly (by_hand h) earlier (full_row a b c ret wr None)
goes_on h earlier a b c ret wr shows t u = record {
  cause = λ s e. cc;
  of_cell = λ stage x s stands r. absurd (runs b x s (subst (λ n. Stands (by_hand h) row n x) r.executing stands) (subst (λ n. StopsRun (by_hand h) earlier row n x s) r.executing r));
  of_fetch = λ f o w. absurd (fetches f o w);
} where
  row : Row
  row = full_row a b c ret wr None

  runs : (b' : Option Cell) (x : Cell) (s : Stop) → Stands (by_hand h) row 1 x → StopsRun (by_hand h) earlier row 1 x s → ⊥
  runs b' x s stands r =
      let e : (is_some x.hold || not (is_due h (row ∷ earlier) x)) ≡ true = sym (ap (unstopped h earlier row) (inner b x stands)) ∙ t in
      elim (known (is_some x.hold)) [
        | inl held ↦ true_not_false (sym held ∙ ap (λ o. is_some o) ((shows x stands).stopping s r))
        | inr free ↦ true_not_false (sym (due_now h (row ∷ earlier) x s r.due) ∙ negated (is_due h (row ∷ earlier) x) (either (is_some x.hold) (not (is_due h (row ∷ earlier) x)) e free))
      ]

  fetches : IsEmptyAfter (by_hand h) row → outstanding (by_hand h) (row ∷ earlier) ≡ [] → word_at h.image (fetch_address (by_hand h) (row ∷ earlier)) ≡ None → ⊥
  fetches f o w =
      let p = nothing_left h a b c ret wr None f in
      true_not_false (sym (and_both (is_absent a) (is_absent b && (not (is_held c) && (is_settled (outstanding (by_hand h) (row ∷ earlier)) && is_none (word_at h.image (fetch_address (by_hand h) (row ∷ earlier)))))) p.0
      (and_both (is_absent b) (not (is_held c) && (is_settled (outstanding (by_hand h) (row ∷ earlier)) && is_none (word_at h.image (fetch_address (by_hand h) (row ∷ earlier))))) p.1
      (and_both (not (is_held c)) (is_settled (outstanding (by_hand h) (row ∷ earlier)) && is_none (word_at h.image (fetch_address (by_hand h) (row ∷ earlier)))) p.2
      (and_both (is_settled (outstanding (by_hand h) (row ∷ earlier))) (is_none (word_at h.image (fetch_address (by_hand h) (row ∷ earlier)))) (ap is_settled o) (ap is_none w))))) ∙ u)

some_stop : (s t : Stop) → ◌≡◌ {A = StepAnswer} (Stopped s) (Stopped t) → ◌≡◌ {A = Option Stop} (Some s) (Some t)
some_stop s t e = cc

the_stop : (s t : Stop) → ◌≡◌ {A = Option Stop} (Some s) (Some t) → s ≡ t
the_stop s t e = cc

-- the cell of EX stops the run
stops_here : (h : Hand) → IsSimple h → (earlier : List Row) (a : Option Cell) (x : Cell) (c : Option Cell) (ret : Option (ℕ × Commit)) (wr : Option Written) (s : Stop) → AllNamed h (full_row a (Some x) c ret wr (Some s) ∷ earlier)
    → ex_free h earlier (full_row a (Some x) c ret wr (Some s)) x ≡ true → IsDueToStop (by_hand h) (full_row a (Some x) c ret wr (Some s) ∷ earlier) x s → StopsRightly (by_hand h) earlier (full_row a (Some x) c ret wr (Some s))
stops_here h simple earlier a x c ret wr s all free due = record {
  cause = λ t e. inl (1, x, refl, subst (λ y. StopsRun (by_hand h) earlier row 1 x y) (the_stop s t e) (stops_now h simple earlier row x all free s due));
  of_cell = λ stage y t stands r. same_due y t (subst (λ n. Stands (by_hand h) row n y) r.executing stands) r.due;
  of_fetch = λ f o w. absurd (left (f 1 x refl));
} where
  row : Row
  row = full_row a (Some x) c ret wr (Some s)

  same_due : (y : Cell) (t : Stop) → Stands (by_hand h) row 1 y → IsDueToStop (by_hand h) (row ∷ earlier) y t → ◌≡◌ {A = Option Stop} (Some s) (Some t)
  same_due y t stands d = same_cell (λ z. IsDueToStop (by_hand h) (row ∷ earlier) z t → ◌≡◌ {A = Option Stop} (Some s) (Some t)) x y stands (λ q. some_stop s t (sym due ∙ q)) d

  left : (false ≡ true) ⊎ ((◌≡◌ {A = ℕ} 2 3) × (x.hold ≡ None)) → ⊥
  left o = elim o [ inl e ↦ true_not_false (sym e) | inr e ↦ let q = e.0 in omega (arith, q) ]

-- nothing is left
ends_here : (h : Hand) (earlier : List Row) (c : Option Cell) (ret : Option (ℕ × Commit)) (wr : Option Written) → ended h earlier (full_row None None c ret wr (Some Fetch)) None None c ≡ true → StopsRightly (by_hand h) earlier (full_row None None c ret wr (Some Fetch))
ends_here h earlier c ret wr t =
    let p = both_true (not (is_held c)) (is_settled (outstanding (by_hand h) (row ∷ earlier)) && is_none (word_at h.image (fetch_address (by_hand h) (row ∷ earlier)))) t in
    let q = both_true (is_settled (outstanding (by_hand h) (row ∷ earlier))) (is_none (word_at h.image (fetch_address (by_hand h) (row ∷ earlier)))) p.1 in
    record {
      cause = λ s e. inr (sym (the_stop Fetch s e), λ stage x stands. empty c (negated (is_held c) p.0) stage x stands, none_owed (outstanding (by_hand h) (row ∷ earlier)) q.0, word_missing (word_at h.image (fetch_address (by_hand h) (row ∷ earlier))) q.1);
      of_cell = λ stage x s stands r. absurd (no_cell x (subst (λ n. Stands (by_hand h) row n x) r.executing stands));
      of_fetch = λ f o w. refl;
    } where
      row : Row
      row = full_row None None c ret wr (Some Fetch)

      no_cell : (x : Cell) → Stands (by_hand h) row 1 x → ⊥
      no_cell x s = cc

      empty : (d : Option Cell) → is_held d ≡ false → (stage : ℕ) (x : Cell) → Stands (by_hand h) (full_row None None d ret wr (Some Fetch)) stage x → (has_serial none_flushed x.serial ≡ true) ⊎ ((suc stage ≡ 3) × (x.hold ≡ None))
      empty d e zero x s = cc
      empty d e (suc zero) x s = cc
      empty None e (suc (suc zero)) x s = cc
      empty (Some y) e (suc (suc zero)) x s = inr (refl, same_cell (λ z. z.hold ≡ None) y x s (none_held y.hold e))
      empty d e (suc (suc (suc n))) x s = cc

-- Rows

abbrev pub cell_named : Hand → Option Cell → Bool
cell_named h None = true
cell_named h (Some c) = c.word == get_or h.image c.serial 0

names_cell : (h : Hand) (o : Option Cell) → cell_named h o ≡ true → HasWord h o
names_cell h None e = tt
names_cell h (Some c) e = same_number c.word (get_or h.image c.serial 0) e

abbrev pub front_right : Hand → List Row → Row → Option Cell → Option Cell → Bool
front_right h earlier row None b = true
front_right h earlier row (Some x) b = front_hold h earlier row x.hold b

abbrev pub ex_right : Hand → List Row → Row → Option Cell → Option Cell → Bool
ex_right h earlier row None c = true
ex_right h earlier row (Some x) c = ex_hold h earlier row x x.hold c

abbrev pub last_right : Hand → List Row → Row → Option Cell → Bool
last_right h earlier row None = true
last_right h earlier row (Some x) = last_hold h earlier row x x.hold

-- the tests of the names of a row, and of its cells
abbrev pub names_right : Hand → Option Cell → Option Cell → Option Cell → Bool
names_right h a b c = cell_named h a && (cell_named h b && cell_named h c)

abbrev pub cells_right : Hand → List Row → Option Cell → Option Cell → Option Cell → Option (ℕ × Commit) → Row → Bool
cells_right h earlier a b c ret row = front_right h earlier row a b && (ex_right h earlier row b c && (last_right h earlier row c && (follows h earlier row a b && retiring ret c)))

pub row_named : (h : Hand) (a b c : Option Cell) (ret : Option (ℕ × Commit)) (wr : Option Written) (stop : Option Stop) → names_right h a b c ≡ true → Named h (full_row a b c ret wr stop)
row_named h a b c ret wr stop e =
    let x = both_true (cell_named h a) (cell_named h b && cell_named h c) e in let y = both_true (cell_named h b) (cell_named h c) x.1 in
    named h (full_row a b c ret wr stop) a b c (None ∷ None ∷ []) refl (names_cell h a x.0) (names_cell h b y.0) (names_cell h c y.1)

at_front : (h : Hand) → IsSimple h → (earlier : List Row) (a b c : Option Cell) (ret : Option (ℕ × Commit)) (wr : Option Written) (stop : Option Stop) → AllNamed h (full_row a b c ret wr stop ∷ earlier)
    → front_right h earlier (full_row a b c ret wr stop) a b ≡ true → (x : Cell) → Stands (by_hand h) (full_row a b c ret wr stop) 0 x → ShowsHold (by_hand h) earlier (full_row a b c ret wr stop) 0 x
at_front h simple earlier None b c ret wr stop all t x s = cc
at_front h simple earlier (Some y) b c ret wr stop all t x s =
    same_cell (λ d. ShowsHold (by_hand h) earlier (full_row (Some y) b c ret wr stop) 0 d) y x s (front_shows h simple earlier y b c ret wr stop all y.hold refl t)

at_ex : (h : Hand) → IsSimple h → (earlier : List Row) (a b c : Option Cell) (ret : Option (ℕ × Commit)) (wr : Option Written) (stop : Option Stop) → AllNamed h (full_row a b c ret wr stop ∷ earlier)
    → ex_right h earlier (full_row a b c ret wr stop) b c ≡ true → (x : Cell) → Stands (by_hand h) (full_row a b c ret wr stop) 1 x → ShowsHold (by_hand h) earlier (full_row a b c ret wr stop) 1 x
at_ex h simple earlier a None c ret wr stop all t x s = cc
at_ex h simple earlier a (Some y) c ret wr stop all t x s =
    same_cell (λ d. ShowsHold (by_hand h) earlier (full_row a (Some y) c ret wr stop) 1 d) y x s (ex_shows h simple earlier a y c ret wr stop all y.hold refl t)

at_last : (h : Hand) → IsSimple h → (earlier : List Row) (a b c : Option Cell) (ret : Option (ℕ × Commit)) (wr : Option Written) (stop : Option Stop) → AllNamed h (full_row a b c ret wr stop ∷ earlier)
    → last_right h earlier (full_row a b c ret wr stop) c ≡ true → (x : Cell) → Stands (by_hand h) (full_row a b c ret wr stop) 2 x → ShowsHold (by_hand h) earlier (full_row a b c ret wr stop) 2 x
at_last h simple earlier a b None ret wr stop all t x s = cc
at_last h simple earlier a b (Some y) ret wr stop all t x s =
    same_cell (λ d. ShowsHold (by_hand h) earlier (full_row a b (Some y) ret wr stop) 2 d) y x s (last_shows h simple earlier a b y ret wr stop all y.hold refl t)

-- lawful rows whose cells have the words of the image
pub record Judged (h : Hand) (rows : List Row) : Type 0 where
  pub lawful : Lawful (λ places. by_hand h) rows
  pub names : AllNamed h rows

pub no_rows : (h : Hand) → Judged h []
no_rows h = record { lawful = tt; names = tt }

-- what a row owes beside its stop
pub record IsRight (h : Hand) (earlier : List Row) (a b c : Option Cell) (ret : Option (ℕ × Commit)) (wr : Option Written) (stop : Option Stop) : Type 0 where
  pub moves : Moves (by_hand h) earlier (full_row a b c ret wr stop)
  pub units : WritesUnit (by_hand h) earlier (full_row a b c ret wr stop)
  pub names : names_right h a b c ≡ true
  pub cells : cells_right h earlier a b c ret (full_row a b c ret wr stop) ≡ true

one_row : (h : Hand) → IsSimple h → (earlier : List Row) (a b c : Option Cell) (ret : Option (ℕ × Commit)) (wr : Option Written) (stop : Option Stop) → Judged h earlier → (newest earlier).stop ≡ None → IsRight h earlier a b c ret wr stop
    → ((AllNamed h (full_row a b c ret wr stop ∷ earlier)) → ((x : Cell) → Stands (by_hand h) (full_row a b c ret wr stop) 1 x → ShowsHold (by_hand h) earlier (full_row a b c ret wr stop) 1 x) → StopsRightly (by_hand h) earlier (full_row a b c ret wr stop))
    → Judged h (full_row a b c ret wr stop ∷ earlier)
one_row h simple earlier a b c ret wr stop judged going right stops = record { lawful = (lawful, going, judged.lawful); names = all } where
  row : Row
  row = full_row a b c ret wr stop

  all : AllNamed h (row ∷ earlier)
  all = (row_named h a b c ret wr stop right.names, judged.names)

  fronts : (front_right h earlier row a b ≡ true) × ((ex_right h earlier row b c && (last_right h earlier row c && (follows h earlier row a b && retiring ret c))) ≡ true)
  fronts = both_true (front_right h earlier row a b) (ex_right h earlier row b c && (last_right h earlier row c && (follows h earlier row a b && retiring ret c))) right.cells

  exes : (ex_right h earlier row b c ≡ true) × ((last_right h earlier row c && (follows h earlier row a b && retiring ret c)) ≡ true)
  exes = both_true (ex_right h earlier row b c) (last_right h earlier row c && (follows h earlier row a b && retiring ret c)) fronts.1

  lasts : (last_right h earlier row c ≡ true) × ((follows h earlier row a b && retiring ret c) ≡ true)
  lasts = both_true (last_right h earlier row c) (follows h earlier row a b && retiring ret c) exes.1

  others : (follows h earlier row a b ≡ true) × (retiring ret c ≡ true)
  others = both_true (follows h earlier row a b) (retiring ret c) lasts.1

  shows : (stage : ℕ) (x : Cell) → Stands (by_hand h) row stage x → ShowsHold (by_hand h) earlier row stage x
  shows zero x s = at_front h simple earlier a b c ret wr stop all fronts.0 x s
  shows (suc zero) x s = at_ex h simple earlier a b c ret wr stop all exes.0 x s
  shows (suc (suc zero)) x s = at_last h simple earlier a b c ret wr stop all lasts.0 x s
  shows (suc (suc (suc n))) x s = cc

  lawful : LawfulRow (by_hand h) earlier row
  lawful = record {
    form = record { behind = refl; listed = refl; ascending = tt };
    moves = right.moves;
    retires = retires_right h a b c ret wr stop others.1;
    holds = shows;
    successors = straight h simple earlier a b c ret wr stop all others.0;
    units = right.units;
    takes = untaken h earlier row refl;
    stops = stops all (shows 1);
  }

-- a row behind which the run goes on
pub next_row : (h : Hand) → IsSimple h → (earlier : List Row) (a b c : Option Cell) (ret : Option (ℕ × Commit)) (wr : Option Written) → Judged h earlier → (newest earlier).stop ≡ None → IsRight h earlier a b c ret wr None
    → unstopped h earlier (full_row a b c ret wr None) b ≡ true → ended h earlier (full_row a b c ret wr None) a b c ≡ false → Judged h (full_row a b c ret wr None ∷ earlier)
next_row h simple earlier a b c ret wr judged going right t u = one_row h simple earlier a b c ret wr None judged going right (λ all shows. goes_on h earlier a b c ret wr shows t u)

-- a row in which a cell stops the run
pub stop_row : (h : Hand) → IsSimple h → (earlier : List Row) (a : Option Cell) (x : Cell) (c : Option Cell) (ret : Option (ℕ × Commit)) (wr : Option Written) (s : Stop) → Judged h earlier → (newest earlier).stop ≡ None → IsRight h earlier a (Some x) c ret wr (Some s)
    → ex_free h earlier (full_row a (Some x) c ret wr (Some s)) x ≡ true → IsDueToStop (by_hand h) (full_row a (Some x) c ret wr (Some s) ∷ earlier) x s → Judged h (full_row a (Some x) c ret wr (Some s) ∷ earlier)
stop_row h simple earlier a x c ret wr s judged going right free due = one_row h simple earlier a (Some x) c ret wr (Some s) judged going right (λ all shows. stops_here h simple earlier a x c ret wr s all free due)

-- a row in which the run ends at the fetch
pub end_row : (h : Hand) → IsSimple h → (earlier : List Row) (c : Option Cell) (ret : Option (ℕ × Commit)) (wr : Option Written) → Judged h earlier → (newest earlier).stop ≡ None → IsRight h earlier None None c ret wr (Some Fetch)
    → ended h earlier (full_row None None c ret wr (Some Fetch)) None None c ≡ true → Judged h (full_row None None c ret wr (Some Fetch) ∷ earlier)
end_row h simple earlier c ret wr judged going right t = one_row h simple earlier None None c ret wr (Some Fetch) judged going right (λ all shows. ends_here h earlier c ret wr t)
