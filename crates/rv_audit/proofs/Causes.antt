-- A text is refused for one thing, and for none where it is right.
use Rattle.std.proofs.Common.{◌≡◌, ◌∙◌, refl, sym, ap, subst, ℕ, zero, suc, ◌+◌, ◌<◌, ◌≤◌, List, [], ◌∷◌, ◌++◌, length, ◌⊎◌, inl, inr, arith}
use Rattle.ix_extension.specs.Extensions.{view_extension}
use Rattle.ix_plan.specs.declared.design.Design.{Design}
use Rattle.rv_trace.specs.declared.row.Row.{Row}
use Rattle.rv_lawful.specs.Settings.{Setting}
use Rattle.rv_shown.specs.Shown.{Shown, shown_texts}
use Rattle.rv_reader.specs.declared.read.ReadErr.{ReadErr}
use Rattle.rv_reader.specs.declared.read.ReadErr.TheVariants as read_err
use Rattle.rv_reader.specs.ReadTexts.{TellsBadLine}
use Rattle.rv_reader.specs.Traces.{IsBadLine, feeds}
use Rattle.rv_reader.proofs.Unique.{not_both, one_bad, one_trace}
use Rattle.rv_rows.specs.Kinds.{Kind, of_moves, of_hold, of_fetch, of_successor, of_unit, of_stop, of_commit, of_write, IsAllRight}
use Rattle.rv_rows.specs.Kinds as kinds
use Rattle.rv_rows.specs.Made.{row_of}
use Rattle.rv_watch.specs.Fit.{plain_setting}
use Rattle.rv_watch.specs.Printed.{widths_of, state_behind}
use Rattle.rv_ending.specs.Differing.{IsDifferingLine}
use Rattle.rv_watch.specs.Faults.{rows_behind, AreAllRight, number_of, lines_below, IsReadAs, IsRowFault, IsStateFault}
use Rattle.rv_watch.specs.AuditLaws.{IsRight}
use Rattle.rv_audit.specs.declared.auditing.AuditErr.{AuditErr}
use Rattle.rv_audit.specs.declared.auditing.AuditErr.TheVariants.{Line, Moves, Hold, Fetch, Successor, Unit as unit_fault, Stop, Commit, Write, State, Memory}
use Rattle.rv_audit.specs.Refused.{IsFault, TellsFault, unread}

-- ---- the first row that is not right
heads : {A : Type 0} (x y : A) (a b : List A) → x ∷ a ≡ y ∷ b → (x ≡ y) × (a ≡ b)
heads x y a b e = (cc, cc)

-- in a list of rows that are right each is
pub one_right : (k : Setting) (earlier : List Row) (a : List Shown) (s : Shown) (b : List Shown) → AreAllRight k earlier (a ++ s ∷ b) → IsAllRight k (rows_behind k earlier a) s
unfolding AreAllRight rows_behind
one_right k earlier [] s b r = r.0
one_right k earlier (t ∷ a) s b r = one_right k (row_of k earlier t ∷ earlier) a s b r.1

same_place : (k : Setting) (earlier : List Row) (a b : List Shown) (s t : Shown) (c d : List Shown) → a ++ s ∷ c ≡ b ++ t ∷ d → AreAllRight k earlier a → AreAllRight k earlier b
    → (IsAllRight k (rows_behind k earlier a) s → ⊥) → (IsAllRight k (rows_behind k earlier b) t → ⊥) → (a ≡ b) × (s ≡ t)
unfolding AreAllRight rows_behind
same_place k earlier [] [] s t c d e p q v w = (refl, (heads s t c d e).0)
same_place k earlier [] (y ∷ b) s t c d e p q v w = absurd (v (subst (λ z. IsAllRight k earlier z) (sym (heads s y c (b ++ t ∷ d) e).0) q.0))
same_place k earlier (x ∷ a) [] s t c d e p q v w = absurd (w (subst (λ z. IsAllRight k earlier z) (heads x t (a ++ s ∷ c) d e).0 p.0))
same_place k earlier (x ∷ a) (y ∷ b) s t c d e p q v w =
    let h = heads x y (a ++ s ∷ c) (b ++ t ∷ d) e in
    let back = sym h.0 in
    let next = same_place k (row_of k earlier x ∷ earlier) a b s t c d h.1 p.1
    (subst (λ z. AreAllRight k (row_of k earlier z ∷ earlier) b) back q.1) v
    (λ r. w (subst (λ z. IsAllRight k (rows_behind k (row_of k earlier z ∷ earlier) b) t) h.0 r)) in
    (ap (λ z. z ∷ a) h.0 ∙ ap (λ l. y ∷ l) next.0, next.1)

-- ---- kinds by their numbers
kind_at : ℕ → Kind
kind_at zero = of_moves
kind_at (suc zero) = of_hold
kind_at (suc (suc zero)) = of_fetch
kind_at (suc (suc (suc zero))) = of_successor
kind_at (suc (suc (suc (suc zero)))) = of_unit
kind_at (suc (suc (suc (suc (suc zero))))) = of_stop
kind_at (suc (suc (suc (suc (suc (suc zero)))))) = of_commit
kind_at (suc (suc (suc (suc (suc (suc (suc n))))))) = of_write

kind_back : (kind : Kind) → kind_at (number_of kind) ≡ kind
unfolding kind_at
kind_back of_moves = refl
kind_back of_hold = refl
kind_back of_fetch = refl
kind_back of_successor = refl
kind_back of_unit = refl
kind_back of_stop = refl
kind_back of_commit = refl
kind_back of_write = refl

compare : (a b : ℕ) → (a < b) ⊎ ((b < a) ⊎ (a ≡ b))
compare a b = grind arith

first_kind : (k : Setting) (earlier : List Row) (s : Shown) (one other : Kind)
    → ((o : Kind) → number_of o < number_of one → kinds.IsRight k earlier s o) → (kinds.IsRight k earlier s one → ⊥)
    → ((o : Kind) → number_of o < number_of other → kinds.IsRight k earlier s o) → (kinds.IsRight k earlier s other → ⊥) → one ≡ other
first_kind k earlier s one other a v b w = elim (compare (number_of one) (number_of other)) [
  | inl l ↦ absurd (v (b one l))
  | inr g ↦ elim g [
    | inl l ↦ absurd (w (a other l))
    | inr e ↦ sym (kind_back one) ∙ ap kind_at e ∙ kind_back other
  ]
]

-- ---- what a text is refused for
pub error_of : Kind → ℕ → AuditErr
error_of of_moves n = Moves n
error_of of_hold n = Hold n
error_of of_fetch n = Fetch n
error_of of_successor n = Successor n
error_of of_unit n = unit_fault n
error_of of_stop n = Stop n
error_of of_commit n = Commit n
error_of of_write n = Write n

same_rest : (a b c : List ℕ) → a ++ b ≡ a ++ c → b ≡ c
same_rest [] b c e = e
same_rest (x ∷ a) b c e = same_rest a b c (heads x x (a ++ b) (a ++ c) e).1

-- ---- what is not read
pub unread_tells : (d : Design) (image waits text : List ℕ) (e : ReadErr) → TellsBadLine (widths_of (view_extension d.extension)) d.sheet.shape.stages text e → TellsFault d image waits text (unread e)
unread_tells d image waits text (read_err.Line n) bad = inl bad
unread_tells d image waits text read_err.Memory bad = inr refl

module _ (d : Design) (image waits text : List ℕ) where
  abbrev k : Setting
  k = plain_setting d image waits

  abbrev widths : List ℕ
  widths = widths_of (view_extension d.extension)

  abbrev stages : ℕ
  stages = d.sheet.shape.stages

  -- a bad line, a fault of a row, or of the state
  abbrev Cause : AuditErr → Type 0
  Cause e =
      ((n : ℕ) × (e ≡ Line n) × IsBadLine widths stages text n)
      ⊎ (((kind : Kind) × (n : ℕ) × (e ≡ error_of kind n) × IsRowFault d image waits text kind n)
      ⊎ ((n : ℕ) × (e ≡ State n) × IsStateFault d image waits text n))

  cause : (e : AuditErr) → IsFault d image waits text e → Cause e
  unfolding error_of
  cause (Line n) f = inl (n, refl, f)
  cause (Moves n) f = inr (inl (of_moves, n, refl, f))
  cause (Hold n) f = inr (inl (of_hold, n, refl, f))
  cause (Fetch n) f = inr (inl (of_fetch, n, refl, f))
  cause (Successor n) f = inr (inl (of_successor, n, refl, f))
  cause (unit_fault n) f = inr (inl (of_unit, n, refl, f))
  cause (Stop n) f = inr (inl (of_stop, n, refl, f))
  cause (Commit n) f = inr (inl (of_commit, n, refl, f))
  cause (Write n) f = inr (inl (of_write, n, refl, f))
  cause (State n) f = inr (inr (n, refl, f))
  cause Memory f = absurd f

  -- a line that fits no form, and a reading
  no_reading : (n : ℕ) (rows : List Shown) (state : List ℕ) → IsBadLine widths stages text n → IsReadAs d text rows state → ⊥
  no_reading n rows state bad read = not_both widths stages text n rows state bad read

  module _ (short : length text ≤ 1073741824) where
    one_reading : (rows all : List Shown) (state other : List ℕ) → IsReadAs d text rows state → IsReadAs d text all other → rows ≡ all
    one_reading rows all state other p q = one_trace widths stages text all rows other state (omega (arith, short)) q p

    one_state : (rows all : List Shown) (state other : List ℕ) → IsReadAs d text rows state → IsReadAs d text all other → state ≡ other
    one_state rows all state other p q =
        same_rest (shown_texts 0 rows) state other (sym p.is ∙ q.is ∙ ap (λ l. shown_texts 0 l ++ other) (sym (one_reading rows all state other p q)))

    -- a fault of a row, where all rows are right
    not_right : (kind : Kind) (n : ℕ) (rows : List Shown) (state : List ℕ) → IsRowFault d image waits text kind n → IsReadAs d text rows state → AreAllRight k [] rows → ⊥
    not_right kind n rows state f read right =
        let same = one_reading rows (f.before ++ f.s ∷ f.rest) state f.state read f.read in
        f.wrong (one_right k [] f.before f.s f.rest (subst (λ l. AreAllRight k [] l) same right) kind)

    one_fault : (kind other : Kind) (m n : ℕ) → IsRowFault d image waits text kind m → IsRowFault d image waits text other n → (kind ≡ other) × (m ≡ n)
    one_fault kind other m n f g =
        let same = one_reading (f.before ++ f.s ∷ f.rest) (g.before ++ g.s ∷ g.rest) f.state g.state f.read g.read in
        let place = same_place k [] f.before g.before f.s g.s f.rest g.rest same f.right g.right (λ r. f.wrong (r kind)) (λ r. g.wrong (r other)) in
        by_place f.before f.s place.0 place.1 f.so_far f.wrong f.line_is
      where
        by_place : (before : List Shown) (s : Shown) → before ≡ g.before → s ≡ g.s
            → ((o : Kind) → number_of o < number_of kind → kinds.IsRight k (rows_behind k [] before) s o) → (kinds.IsRight k (rows_behind k [] before) s kind → ⊥)
            → m ≡ suc (feeds (shown_texts 0 before)) + lines_below s kind → (kind ≡ other) × (m ≡ n)
        by_place before s p q a v line =
            let so_far = subst (λ l. (o : Kind) → number_of o < number_of kind → kinds.IsRight k (rows_behind k [] l) g.s o) p (subst (λ x. (o : Kind) → number_of o < number_of kind → kinds.IsRight k (rows_behind k [] before) x o) q a) in
            let wrong = subst (λ l. kinds.IsRight k (rows_behind k [] l) g.s kind → ⊥) p (subst (λ x. kinds.IsRight k (rows_behind k [] before) x kind → ⊥) q v) in
            let same = first_kind k (rows_behind k [] g.before) g.s kind other so_far wrong g.so_far g.wrong in (
              same,
              line ∙ ap (λ l. suc (feeds (shown_texts 0 l)) + lines_below s kind) p ∙ ap (λ x. suc (feeds (shown_texts 0 g.before)) + lines_below x kind) q
                  ∙ ap (λ o. suc (feeds (shown_texts 0 g.before)) + lines_below g.s o) same ∙ sym g.line_is,
            )

    one_end : (m n : ℕ) → IsStateFault d image waits text m → IsStateFault d image waits text n → m ≡ n
    one_end m n f g =
        let rows = one_reading f.rows g.rows f.state g.state f.read g.read in
        let state = one_state f.rows g.rows f.state g.state f.read g.read in
        ends f.rows f.state rows state f.differs
      where
        ends : (rows : List Shown) (state : List ℕ) → rows ≡ g.rows → state ≡ g.state
            → IsDifferingLine (suc (feeds (shown_texts 0 rows))) state (state_behind d image waits (rows_behind k [] rows)) m → m ≡ n
        ends rows state p q line =
            let here = subst (λ l. IsDifferingLine (suc (feeds (shown_texts 0 l))) g.state (state_behind d image waits (rows_behind k [] l)) m) p (subst (λ x. IsDifferingLine (suc (feeds (shown_texts 0 rows))) x (state_behind d image waits (rows_behind k [] rows)) m) q line) in
            here.line_is ∙ sym g.differs.line_is

    -- there is one cause
    one_cause : (e f : AuditErr) → Cause e → Cause f → e ≡ f
    one_cause e f (inl a) (inl b) = a.1 ∙ ap (λ n. Line n) (one_bad widths stages text a.0 b.0 a.2 b.2) ∙ sym b.1
    one_cause e f (inl a) (inr (inl b)) = absurd (no_reading a.0 (b.3.before ++ b.3.s ∷ b.3.rest) b.3.state a.2 b.3.read)
    one_cause e f (inl a) (inr (inr b)) = absurd (no_reading a.0 b.2.rows b.2.state a.2 b.2.read)
    one_cause e f (inr (inl a)) (inl b) = absurd (no_reading b.0 (a.3.before ++ a.3.s ∷ a.3.rest) a.3.state b.2 a.3.read)
    one_cause e f (inr (inl a)) (inr (inl b)) =
        let same = one_fault a.0 b.0 a.1 b.1 a.3 b.3 in
        a.2 ∙ ap (λ kind. error_of kind a.1) same.0 ∙ ap (λ n. error_of b.0 n) same.1 ∙ sym b.2
    one_cause e f (inr (inl a)) (inr (inr b)) = absurd (not_right a.0 a.1 b.2.rows b.2.state a.3 b.2.read b.2.right)
    one_cause e f (inr (inr a)) (inl b) = absurd (no_reading b.0 a.2.rows a.2.state b.2 a.2.read)
    one_cause e f (inr (inr a)) (inr (inl b)) = absurd (not_right b.0 b.1 a.2.rows a.2.state b.3 a.2.read a.2.right)
    one_cause e f (inr (inr a)) (inr (inr b)) = a.1 ∙ ap (λ n. State n) (one_end a.0 b.0 a.2 b.2) ∙ sym b.1

    -- a text that is right has none
    no_cause : (e : AuditErr) → IsRight d image waits text → Cause e → ⊥
    no_cause e right (inl a) = no_reading a.0 right.rows right.state a.2 right.read
    no_cause e right (inr (inl a)) = not_right a.0 a.1 right.rows right.state a.3 right.read right.right
    no_cause e right (inr (inr a)) =
        let rows = one_reading right.rows a.2.rows right.state a.2.state right.read a.2.read in
        let state = one_state right.rows a.2.rows right.state a.2.state right.read a.2.read in
        a.2.differs.differ (sym state ∙ right.state_is ∙ ap (λ l. state_behind d image waits (rows_behind k [] l)) rows)

    -- ---- the clauses of an answer
    pub only_memory : (e : AuditErr) → IsRight d image waits text → TellsFault d image waits text e → e ≡ Memory
    only_memory e right (inl f) = absurd (no_cause e right (cause e f))
    only_memory e right (inr m) = m

    pub refuses_so : (e f : AuditErr) → IsFault d image waits text e → TellsFault d image waits text f → (f ≡ e) ⊎ (f ≡ Memory)
    refuses_so e f a (inl b) = inl (one_cause f e (cause f b) (cause e a))
    refuses_so e f a (inr m) = inr m

    pub not_refused : (e : AuditErr) → IsFault d image waits text e → IsRight d image waits text → ⊥
    not_refused e a right = no_cause e right (cause e a)
