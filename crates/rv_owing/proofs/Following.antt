-- What is outstanding behind lawful rows that show the run: what it is of, and that it stands in the units, one by one.
use Rattle.std.proofs.Common.{◌≡◌, ◌∙◌, refl, sym, ap, subst, ℕ, zero, suc, ◌+◌, ◌-◌, ◌<◌, List, [], ◌∷◌, ◌++◌, length, Option, Some, None, Bool, true, false, arith, inl, inr, ◌⊎◌}
use Rattle.std.specs.Prelude.{◌==◌, ◌||◌, if◌then◌else◌, is_some, slice_get}
use Rattle.std.specs.List.{Contains}
use Rattle.std.proofs.lemmas.Bool.{false≢true}
use Rattle.std.proofs.lemmas.Bool.Decides.{nat_tests}
use Rattle.ix_plan.specs.Units.{Slots, unit_written, frozen_with, next_from, next_units}
use Rattle.rv_asks.specs.declared.asks.Asks.{Asks}
use Rattle.rv_seq.specs.declared.answer.StepAnswer.TheVariants.{Done}
use Rattle.rv_seq.specs.declared.commit.Commit.{Commit}
use Rattle.rv_tried.specs.Parts.{shown}
use Rattle.rv_trace.specs.declared.row.Cell.{Cell}
use Rattle.rv_trace.specs.declared.row.Row.{Row}
use Rattle.rv_trace.specs.Trace.{place, retires, is_retired}
use Rattle.rv_unit.specs.declared.entry.Entry.{Entry}
use Rattle.rv_unit.specs.Entries.{does_write, moved, written_among, cons_unless, stepped, entered, unit_and_serial, next_entries}
use Rattle.rv_unit.specs.Slots.{slots_from, units_from, units_of}
use Rattle.rv_unit.specs.Timed.{AreUnits, IsTimed, CanEnter}
use Rattle.rv_unit.proofs.Showing.{written_law, frozen_law, next_law}
use Rattle.rv_unit.proofs.Moving.{timed_law, alone_law}
use Rattle.rv_lawful.specs.Settings.{Setting, Stands}
use Rattle.rv_lawful.specs.Outstanding.{Decoupled, Written, serial_written, is_serial, in_unit, entering, units_after, is_written, decoupled_in, decoupled, without, outstanding}
use Rattle.rv_lawful.specs.LawfulTrace.{serial_in, IsWordOf, LawfulRow, Lawful}
use Rattle.rv_rows.specs.Facts.{IsPlain, AreGoingOn, RowFacts}
use Rattle.rv_rows.specs.Recorded.{HasWords, IsRecorded, AreRecorded}
use Rattle.rv_rows.specs.Gone.{GoneLaw}
use Rattle.rv_rows.specs.Known.{IsOwing}
use Rattle.rv_owing.specs.Units.{AreTimes, HasUnits}
use Rattle.rv_owing.specs.Owing.{serial_granted, GrantedLaw, PlacedLaw, OwingLaw}
use Rattle.rv_owing.proofs.Among.{Among, to_contains, from_contains, among_left, among_right, among_either, without_append, without_either, among_without, within_all, Under, Falls, under_all, falls_without, falling}
use Rattle.rv_owing.proofs.Entering.{above, first, retirement, leaving, open_unit}

-- ---- serials and tests

same_number : (a b : ℕ) → (a == b) ≡ true → a ≡ b
same_number a b e = grind (arith, nat_tests)

itself : (a : ℕ) → (a == a) ≡ true
itself a = grind (arith, nat_tests)

pub other_number : (a b : ℕ) → a < b → (a == b) ≡ false
other_number a b lt = grind (arith, nat_tests)

pub higher_number : (a b : ℕ) → b < a → (a == b) ≡ false
higher_number a b lt = grind (arith, nat_tests)

either_true : (a b : Bool) → b ≡ true → (a || b) ≡ true
either_true true b e = refl
either_true false b e = e

or_cases : (a b : Bool) → (a || b) ≡ true → (a ≡ true) ⊎ (b ≡ true)
or_cases true b e = inl refl
or_cases false b e = inr e

-- a serial that is written is that of what is written
written_is : (w : Option Written) (j : ℕ) → is_serial (serial_written w) j ≡ true → (v : Written) × (w ≡ Some v) × (v.0 ≡ j)
written_is None j e = cc
written_is (Some v) j e = (v, refl, same_number v.0 j e)

-- ---- what retired

-- a row of these retires an instruction of this serial with this word
abbrev pub RetiredAs : List Row → Decoupled → Type 0
RetiredAs [] d = ⊥
RetiredAs (row ∷ earlier) d = ((c : Commit) × (row.retired ≡ Some (d.0, c)) × (c.word ≡ d.1)) ⊎ RetiredAs earlier d

retired_then : (rows : List Row) (j : ℕ) → is_retired rows j ≡ true → (word : ℕ) × RetiredAs rows (j, word)
unfolding is_retired
retired_then [] j e = cc
retired_then (row ∷ earlier) j e = by_case row.retired refl (λ q. retired_then earlier j q) e where
  later : (word : ℕ) × RetiredAs earlier (j, word) → (word : ℕ) × RetiredAs (row ∷ earlier) (j, word)
  later x = (x.0, inr x.1)

  here : (p : ℕ × Commit) (b : Bool) → row.retired ≡ Some p → (p.0 == j) ≡ b → (is_retired earlier j ≡ true → (word : ℕ) × RetiredAs earlier (j, word)) → (b || is_retired earlier j) ≡ true → (word : ℕ) × RetiredAs (row ∷ earlier) (j, word)
  here p true q t rest h = (p.1.word, inl (p.1, q ∙ ap (λ n. Some (n, p.1)) (same_number p.0 j t), refl))
  here p false q t rest h = later (rest h)

  by_case : (o : Option (ℕ × Commit)) → row.retired ≡ o → (is_retired earlier j ≡ true → (word : ℕ) × RetiredAs earlier (j, word)) → (retires o j || is_retired earlier j) ≡ true → (word : ℕ) × RetiredAs (row ∷ earlier) (j, word)
  by_case None q rest h = later (rest h)
  by_case (Some p) q rest h = here p (p.0 == j) q refl rest h

pub retired_now : (row : Row) (earlier : List Row) (s : ℕ) (c : Commit) → row.retired ≡ Some (s, c) → is_retired (row ∷ earlier) s ≡ true
unfolding is_retired
retired_now row earlier s c e = ap (λ o. retires o s || is_retired earlier s) e ∙ ap (λ b. b || is_retired earlier s) (itself s)

pub retired_more : (row : Row) (earlier : List Row) (s : ℕ) → is_retired earlier s ≡ true → is_retired (row ∷ earlier) s ≡ true
unfolding is_retired
retired_more row earlier s h = either_true (retires row.retired s) (is_retired earlier s) h

as_retired : (rows : List Row) (d : Decoupled) → RetiredAs rows d → is_retired rows d.0 ≡ true
as_retired [] d x = absurd x
as_retired (row ∷ earlier) d (inl x) = retired_now row earlier d.0 x.0 x.1
as_retired (row ∷ earlier) d (inr x) = retired_more row earlier d.0 (as_retired earlier d x)

-- an instruction with a unit that is retired is among those

decoupled_now : (k : Setting) (o : Option (ℕ × Commit)) (d : Decoupled) (c : Commit) → o ≡ Some (d.0, c) → c.word ≡ d.1 → is_some (k.asks d.1).unit ≡ true → Among (decoupled_in k o) d
decoupled_now k o d c e w u =
    subst (λ p. Among (decoupled_in k p) d) (sym e)
    (subst (λ b. Among (if b then (d.0, c.word) ∷ [] else []) d) (sym (ap (λ v. is_some (k.asks v).unit) w ∙ u)) (inl (ap (λ v. (d.0, v)) w)))

retired_decoupled : (k : Setting) (rows : List Row) (d : Decoupled) → is_some (k.asks d.1).unit ≡ true → RetiredAs rows d → Among (decoupled k rows) d
unfolding decoupled
retired_decoupled k [] d u x = absurd x
retired_decoupled k (row ∷ rows) d u (inl x) = among_left (decoupled_in k row.retired) (decoupled k rows) d (decoupled_now k row.retired d x.0 x.1 x.2 u)
retired_decoupled k (row ∷ rows) d u (inr x) = among_right (decoupled_in k row.retired) (decoupled k rows) d (retired_decoupled k rows d u x)

-- what a row adds
record IsNew (k : Setting) (o : Option (ℕ × Commit)) (d : Decoupled) : Type 0 where
  commit : Commit
  retired : o ≡ Some (d.0, commit)
  word : commit.word ≡ d.1
  unit : is_some (k.asks d.1).unit ≡ true

new_is : (k : Setting) (o : Option (ℕ × Commit)) (d : Decoupled) → Among (decoupled_in k o) d → IsNew k o d
new_is k None d x = absurd x
new_is k (Some (s, c)) d x = by_case (is_some (k.asks c.word).unit) refl x where
  by_case : (b : Bool) → is_some (k.asks c.word).unit ≡ b → Among (if b then (s, c.word) ∷ [] else []) d → IsNew k (Some (s, c)) d
  by_case true q (inl e) =
      let serial : s ≡ d.0 = ap (λ (p : Decoupled). p.0) e in
      let word : c.word ≡ d.1 = ap (λ (p : Decoupled). p.1) e in
      record { commit = c; retired = ap (λ n. Some (n, c)) serial; word = word; unit = ap (λ v. is_some (k.asks v).unit) (sym word) ∙ q }
  by_case true q (inr y) = absurd y
  by_case false q y = absurd y

-- ---- what is outstanding is retired, has a word and a unit, and stands at its place in the run

pub record IsOut (k : Setting) (rows : List Row) (d : Decoupled) : Type 0 where
  pub retired : is_retired rows d.0 ≡ true
  pub known : IsWordOf k rows d.0 d.1
  pub unit : is_some (k.asks d.1).unit ≡ true
  pub commit : Commit
  pub step : k.course.answer (place rows d.0) ≡ Done commit
  pub word : commit.word ≡ d.1

shown_word : (a : Asks) (c : Commit) → (shown a c).word ≡ c.word
unfolding shown
shown_word a c = refl

going_on : (k : Setting) (row : Row) (earlier : List Row) → Lawful (λ places. k) (row ∷ earlier) → AreGoingOn k earlier
going_on k row earlier l = record { lawful = l.2; going = l.1 }

module _ (facts : RowFacts) (gone : GoneLaw) (k : Setting) (plain : IsPlain k) (words : HasWords k) where
  -- a row behind rows that go on
  module _ (row : Row) (earlier : List Row) (going : AreGoingOn k earlier) (lawful : LawfulRow k earlier row) (recorded : IsRecorded k earlier row) where
    new_out : (d : Decoupled) → IsNew k row.retired d → IsOut k (row ∷ earlier) d
    new_out d n =
        let record_is = recorded.retired d.0 n.commit n.retired in
        let left = leaving facts gone k earlier row plain words going lawful in
        let out = retirement facts gone k earlier row plain words going lawful d.0 n.commit n.retired record_is in
        record {
          retired = retired_now row earlier d.0 n.commit n.retired;
          known = inr (subst (λ w. IsWordOf k earlier d.0 w) n.word out.known);
          unit = n.unit;
          commit = record_is.0;
          step = ap (λ p. k.course.answer p) (left.placed d.0 n.commit n.retired) ∙ record_is.1;
          word = sym (shown_word (k.asks record_is.0.word) record_is.0) ∙ ap (λ (z : Commit). z.word) (sym record_is.2) ∙ n.word;
        }

    pub old_out : (d : Decoupled) → IsOut k earlier d → IsOut k (row ∷ earlier) d
    old_out d h =
        let left = leaving facts gone k earlier row plain words going lawful in
        record {
          retired = retired_more row earlier d.0 h.retired;
          known = inr h.known;
          unit = h.unit;
          commit = h.commit;
          step = ap (λ p. k.course.answer p) (left.stays d.0 h.retired) ∙ h.step;
          word = h.word;
        }

    -- what is written was retired before
    written_before : (j : ℕ) → is_serial (serial_written row.written) j ≡ true → is_retired earlier j ≡ true
    written_before j e =
        let w = written_is row.written j e in
        subst (λ n. is_retired earlier n ≡ true) w.2 (recorded.written w.0 w.1).retired

  pub all_out : (rows : List Row) → Lawful (λ places. k) rows → AreRecorded k rows → (d : Decoupled) → Among (decoupled k rows) d → IsOut k rows d
  unfolding decoupled
  all_out [] l r d x = absurd x
  all_out (row ∷ earlier) l r d x = elim (among_either (decoupled_in k row.retired) (decoupled k earlier) d x) [
    | inl y ↦ new_out row earlier (going_on k row earlier l) l.0 r.0 d (new_is k row.retired d y)
    | inr y ↦ old_out row earlier (going_on k row earlier l) l.0 r.0 d (all_out earlier l.2 r.1 d y)
  ]

  pub paid : (rows : List Row) → Lawful (λ places. k) rows → AreRecorded k rows → (j : ℕ) → is_written rows j ≡ true → is_retired rows j ≡ true
  unfolding is_written
  paid [] l r j e = cc
  paid (row ∷ earlier) l r j e = elim (or_cases (is_serial (serial_written row.written) j) (is_written earlier j) e) [
    | inl q ↦ retired_more row earlier j (written_before row earlier (going_on k row earlier l) l.0 r.0 j q)
    | inr q ↦ retired_more row earlier j (paid earlier l.2 r.1 j q)
  ]

  pub all_fall : (rows : List Row) → Lawful (λ places. k) rows → AreRecorded k rows → Falls (decoupled k rows)
  unfolding decoupled
  all_fall [] l r = tt
  all_fall (row ∷ earlier) l r = by_case row.retired refl (all_fall earlier l.2 r.1) where
    below : (s : ℕ) (c : Commit) → row.retired ≡ Some (s, c) → Under s (decoupled k earlier)
    below s c e = under_all s (decoupled k earlier) (λ d x. (leaving facts gone k earlier row plain words (going_on k row earlier l) l.0).later s d.0 c e (all_out earlier l.2 r.1 d x).retired)

    one_more : (s : ℕ) (c : Commit) (b : Bool) → Under s (decoupled k earlier) → Falls (decoupled k earlier) → Falls ((if b then (s, c.word) ∷ [] else []) ++ decoupled k earlier)
    one_more s c true u h = (u, h)
    one_more s c false u h = h

    by_case : (o : Option (ℕ × Commit)) → row.retired ≡ o → Falls (decoupled k earlier) → Falls (decoupled_in k o ++ decoupled k earlier)
    by_case None e h = h
    by_case (Some (s, c)) e h = one_more s c (is_some (k.asks c.word).unit) (below s c e) h

  -- a cell of a row has the word that its serial had before, and its serial did not retire before
  module _ (row : Row) (earlier : List Row) (going : AreGoingOn k earlier) (lawful : LawfulRow k earlier row) where
    cell_word : (stage : ℕ) (c : Cell) (word : ℕ) → Stands k row stage c → IsWordOf k earlier c.serial word → word ≡ c.word
    cell_word zero c word s h = (first facts gone k earlier row plain words going lawful).one_word c word s h
    cell_word (suc stage) c word s h = (above facts gone k earlier row plain words going lawful).one_word (suc stage) c word (omega arith) s h

    cell_unretired : (stage : ℕ) (c : Cell) → Stands k row stage c → is_retired earlier c.serial ≡ false
    cell_unretired zero c s = ((first facts gone k earlier row plain words going lawful).in_place c s).unretired
    cell_unretired (suc stage) c s = ((above facts gone k earlier row plain words going lawful).in_place (suc stage) c (omega arith) s).unretired

  -- a retired instruction has one word, that of its record
  pub retired_word : (rows : List Row) → Lawful (λ places. k) rows → AreRecorded k rows → (d : Decoupled) → RetiredAs rows d → (word : ℕ) → IsWordOf k rows d.0 word → word ≡ d.1
  retired_word [] l r d x word known = absurd x
  retired_word (row ∷ earlier) l r d (inl x) word (inl y) =
      let out = (retirement facts gone k earlier row plain words (going_on k row earlier l) l.0 d.0 x.0 x.1 (r.0.retired d.0 x.0 x.1)).known in
      let same = cell_word row earlier (going_on k row earlier l) l.0 y.0 y.1 x.0.word y.2 (subst (λ n. IsWordOf k earlier n x.0.word) (sym y.3) out) in
      sym y.4 ∙ sym same ∙ x.2
  retired_word (row ∷ earlier) l r d (inl x) word (inr known) =
      let out = (retirement facts gone k earlier row plain words (going_on k row earlier l) l.0 d.0 x.0 x.1 (r.0.retired d.0 x.0 x.1)).known in
      (above facts gone k earlier row plain words (going_on k row earlier l) l.0).same_word d.0 word x.0.word known out ∙ x.2
  retired_word (row ∷ earlier) l r d (inr x) word (inl y) =
      absurd (false≢true (sym (cell_unretired row earlier (going_on k row earlier l) l.0 y.0 y.1 y.2) ∙ ap (λ n. is_retired earlier n) y.3 ∙ as_retired earlier d x))
  retired_word (row ∷ earlier) l r d (inr x) word (inr known) = retired_word earlier l.2 r.1 d x word known

-- ---- the entries of the units

-- an entry for each, with its serial
abbrev pub Listed : List Decoupled → List Entry → Type 0
Listed [] [] = Unit {0}
Listed (o ∷ outs) (e ∷ entries) = (e.serial ≡ o.0) × Listed outs entries
Listed [] (e ∷ entries) = ⊥
Listed (o ∷ outs) [] = ⊥

listed_both : (a b : List Decoupled) (x y : List Entry) → Listed a x → Listed b y → Listed (a ++ b) (x ++ y)
listed_both [] b [] y h g = g
listed_both [] b (e ∷ x) y h g = absurd h
listed_both (o ∷ a) b [] y h g = absurd h
listed_both (o ∷ a) b (e ∷ x) y h g = (h.0, listed_both a b x y h.1 g)

abbrev serial_among : List ℕ → List Entry → List Entry → Option ℕ
serial_among lasts all entries = serial_in (unit_and_serial (written_among lasts all entries))

-- what is written of those with lower serials has another one
other_written : (lasts : List ℕ) (all : List Entry) (s : ℕ) (outs : List Decoupled) (entries : List Entry) → Listed outs entries → Under s outs → is_serial (serial_among lasts all entries) s ≡ false
other_written lasts all s [] [] h u = refl
other_written lasts all s [] (e ∷ entries) h u = absurd h
other_written lasts all s (o ∷ outs) [] h u = absurd h
other_written lasts all s (o ∷ outs) (e ∷ entries) h u = by_case (does_write lasts all e) (other_written lasts all s outs entries h.1 u.1) where
  by_case : (b : Bool) → is_serial (serial_among lasts all entries) s ≡ false → is_serial (serial_in (unit_and_serial (if b then Some e else written_among lasts all entries))) s ≡ false
  by_case true rest = ap (λ n. n == s) h.0 ∙ other_number o.0 s u.0
  by_case false rest = rest

none_first : (lasts : List ℕ) (all : List Entry) (e : Entry) (entries : List Entry) → written_among lasts all (e ∷ entries) ≡ None → (does_write lasts all e ≡ false) × (written_among lasts all entries ≡ None)
none_first lasts all e entries h = by_case (does_write lasts all e) h where
  by_case : (c : Bool) → (if c then Some e else written_among lasts all entries) ≡ None → (c ≡ false) × (written_among lasts all entries ≡ None)
  by_case true q = cc
  by_case false q = (refl, q)

keep_first : (b c : Bool) (o : Decoupled) (e : Entry) (outs : List Decoupled) (entries : List Entry) → b ≡ false → c ≡ false → Listed (o ∷ outs) (e ∷ entries) → Listed (if b then outs else o ∷ outs) (cons_unless c e entries)
keep_first true c o e outs entries p q h = cc
keep_first false true o e outs entries p q h = cc
keep_first false false o e outs entries p q h = h

drop_first : (b c : Bool) (o : Decoupled) (e : Entry) (outs : List Decoupled) (entries : List Entry) → b ≡ true → c ≡ true → Listed outs entries → Listed (if b then outs else o ∷ outs) (cons_unless c e entries)
drop_first false c o e outs entries p q h = cc
drop_first true false o e outs entries p q h = cc
drop_first true true o e outs entries p q h = h

-- where none of these writes, all stay
all_listed : (lasts : List ℕ) (all : List Entry) (s : ℕ) (outs : List Decoupled) (entries : List Entry) → Listed outs entries → Under s outs → written_among lasts all entries ≡ None
    → Listed (without (is_serial (Some s)) outs) (stepped lasts all entries)
all_listed lasts all s [] [] h u none = tt
all_listed lasts all s [] (e ∷ entries) h u none = absurd h
all_listed lasts all s (o ∷ outs) [] h u none = absurd h
all_listed lasts all s (o ∷ outs) (e ∷ entries) h u none =
    let n = none_first lasts all e entries none in
    keep_first (is_serial (Some s) o.0) (does_write lasts all e) o (moved lasts all e) (without (is_serial (Some s)) outs) (stepped lasts all entries) (higher_number s o.0 u.0) n.0
    (h.0, all_listed lasts all s outs entries h.1 u.1 n.1)

-- all but the one that writes
pub some_listed : (stages : ℕ) (lasts : List ℕ) (all : List Entry) (outs : List Decoupled) (entries : List Entry) (w : Option ℕ) → Listed outs entries → Falls outs → IsTimed stages lasts entries → w ≡ serial_among lasts all entries
    → Listed (without (is_serial w) outs) (stepped lasts all entries)
some_listed stages lasts all [] [] w h f t e = tt
some_listed stages lasts all [] (n ∷ entries) w h f t e = absurd h
some_listed stages lasts all (o ∷ outs) [] w h f t e = absurd h
some_listed stages lasts all (o ∷ outs) (n ∷ entries) w h f t e = by_case (does_write lasts all n) refl e (λ q. some_listed stages lasts all outs entries w h.1 f.1 t.2 q) where
  by_case : (b : Bool) → does_write lasts all n ≡ b → w ≡ serial_in (unit_and_serial (if b then Some n else written_among lasts all entries))
      → (w ≡ serial_among lasts all entries → Listed (without (is_serial w) outs) (stepped lasts all entries)) → Listed (without (is_serial w) (o ∷ outs)) (stepped lasts all (n ∷ entries))
  by_case true q p rest =
      let here : w ≡ Some o.0 = p ∙ ap (λ m. Some m) h.0 in
      drop_first (is_serial w o.0) (does_write lasts all n) o (moved lasts all n) (without (is_serial w) outs) (stepped lasts all entries) (ap (λ z. is_serial z o.0) here ∙ itself o.0) q
      (subst (λ z. Listed (without (is_serial z) outs) (stepped lasts all entries)) (sym here) (all_listed lasts all o.0 outs entries h.1 f.0 (alone_law stages lasts all n entries t q)))
  by_case false q p rest =
      keep_first (is_serial w o.0) (does_write lasts all n) o (moved lasts all n) (without (is_serial w) outs) (stepped lasts all entries) (ap (λ z. is_serial z o.0) p ∙ other_written lasts all o.0 outs entries h.1 f.0) q
      (h.0, rest p)

-- the entry that writes is one of them
pub written_listed : (lasts : List ℕ) (all : List Entry) (outs : List Decoupled) (entries : List Entry) (s : ℕ) → Listed outs entries → serial_among lasts all entries ≡ Some s → (word : ℕ) × Among outs (s, word)
written_listed lasts all [] [] s h e = cc
written_listed lasts all [] (n ∷ entries) s h e = absurd h
written_listed lasts all (o ∷ outs) [] s h e = absurd h
written_listed lasts all (o ∷ outs) (n ∷ entries) s h e = by_case (does_write lasts all n) e (λ q. written_listed lasts all outs entries s h.1 q) where
  same : (a b : ℕ) → ◌≡◌ {A = Option ℕ} (Some a) (Some b) → a ≡ b
  same a b q = cc

  by_case : (b : Bool) → serial_in (unit_and_serial (if b then Some n else written_among lasts all entries)) ≡ Some s → (serial_among lasts all entries ≡ Some s → (word : ℕ) × Among outs (s, word)) → (word : ℕ) × Among (o ∷ outs) (s, word)
  by_case true q rest = (o.1, inl (ap (λ m. (m, o.1)) (sym h.0 ∙ same n.serial s q)))
  by_case false q rest = let x = rest q in (x.0, inr x.1)

-- ---- how many units there are

next_count : (u : ℕ) (written retired : Option (ℕ × ℕ)) (units : List Slots) → length (next_from u written retired units) ≡ length units
next_count u written retired [] = refl
next_count u written retired (unit ∷ units) = ap suc (next_count (u + 1) written retired units)

pub units_count : (k : Setting) (rows : List Row) → length (units_after k rows) ≡ length k.units
unfolding units_after
units_count k [] = refl
units_count k (row ∷ earlier) = next_count 0 (unit_written (units_after k earlier)) (entering k row.retired) (units_after k earlier) ∙ units_count k earlier

from_count : (u stages : ℕ) (lasts : List ℕ) (entries : List Entry) → length (units_from u stages lasts entries) ≡ length lasts
from_count u stages [] entries = refl
from_count u stages (last ∷ lasts) entries = ap suc (from_count (u + 1) stages lasts entries)

pub of_count : (stages : ℕ) (lasts : List ℕ) (entries : List Entry) → length (units_of stages lasts entries) ≡ length lasts
of_count stages lasts entries = from_count 0 stages lasts entries

-- each unit has slots
slots_there : (u stages : ℕ) (lasts : List ℕ) (entries : List Entry) (n : ℕ) → n < length lasts → (slots : Slots) × (slice_get (units_from u stages lasts entries) n ≡ Some slots)
slots_there u stages [] entries n lt = absurd (omega (arith, lt))
slots_there u stages (last ∷ lasts) entries zero lt = (slots_from u stages (last + 1 - stages) entries, refl)
slots_there u stages (last ∷ lasts) entries (suc n) lt = slots_there (u + 1) stages lasts entries n (omega (arith, lt))

-- ---- what enters

module _ (facts : RowFacts) (gone : GoneLaw) (k : Setting) (plain : IsPlain k) (words : HasWords k) (units : HasUnits k) where
  -- a unit of an instruction, among units that are shown by entries
  unit_below : (rows : List Row) (stages : ℕ) (lasts : List ℕ) (entries : List Entry) → units_of stages lasts entries ≡ units_after k rows → (word u : ℕ) → (k.asks word).unit ≡ Some u → u < length lasts
  unit_below rows stages lasts entries e word u h =
      let a = units.below word u h in
      let b = units_count k rows in
      let c = of_count stages lasts entries in
      let d = ap (λ l. length l) e in
      omega (arith, a, b, c, d)

  pub slots_of : (rows : List Row) (stages : ℕ) (lasts : List ℕ) (entries : List Entry) → units_of stages lasts entries ≡ units_after k rows → (word u : ℕ) → (k.asks word).unit ≡ Some u
      → (slots : Slots) × (slice_get (units_after k rows) u ≡ Some slots)
  slots_of rows stages lasts entries e word u h =
      let x = slots_there 0 stages lasts entries u (unit_below rows stages lasts entries e word u h) in
      (x.0, ap (λ l. slice_get l u) (sym e) ∙ x.1)

  -- what a lawful row retires can enter its unit, whatever entries show the units
  pub enters : (row : Row) (earlier : List Row) → AreGoingOn k earlier → LawfulRow k earlier row → IsRecorded k earlier row → (stages : ℕ) (lasts : List ℕ) (entries : List Entry) → AreUnits stages lasts → IsTimed stages lasts entries
      → units_of stages lasts entries ≡ units_after k earlier → CanEnter lasts entries (entering k row.retired)
  enters row earlier going lawful recorded stages lasts entries can timed same = by_case row.retired refl where
    into : (s : ℕ) (c : Commit) (o : Option ℕ) → row.retired ≡ Some (s, c) → (k.asks c.word).unit ≡ o → CanEnter lasts entries (in_unit s o)
    into s c None e q = tt
    into s c (Some u) e q =
        let slots = slots_of earlier stages lasts entries same c.word u q in
        let unfrozen = open_unit facts gone k earlier row plain words going lawful s c e (recorded.retired s c e) u slots.0 q slots.1 in (
          unit_below earlier stages lasts entries same c.word u q,
          sym (frozen_law stages lasts entries u slots.0 can timed (ap (λ l. slice_get l u) same ∙ slots.1))
              ∙ ap (λ l. frozen_with u slots.0 (unit_written l)) same
              ∙ unfrozen,
        )

    by_case : (o : Option (ℕ × Commit)) → row.retired ≡ o → CanEnter lasts entries (entering k o)
    by_case None e = tt
    by_case (Some (s, c)) e = into s c (k.asks c.word).unit e refl

  -- ---- what is outstanding behind one row more
  module _ (row : Row) (earlier : List Row) (lawful : Lawful (λ places. k) (row ∷ earlier)) (recorded : AreRecorded k (row ∷ earlier)) where
    -- what retires is written neither now nor before
    new_unwritten : (s : ℕ) (c : Commit) → row.retired ≡ Some (s, c) → is_written (row ∷ earlier) s ≡ false
    unfolding is_written
    new_unwritten s c e = by_case (is_serial (serial_written row.written) s || is_written earlier s) refl where
      before : is_retired earlier s ≡ false
      before = (leaving facts gone k earlier row plain words (going_on k row earlier lawful) lawful.0).once s c e

      retired_first : (is_serial (serial_written row.written) s || is_written earlier s) ≡ true → is_retired earlier s ≡ true
      retired_first q = elim (or_cases (is_serial (serial_written row.written) s) (is_written earlier s) q) [
        | inl x ↦ written_before facts gone k plain words row earlier (going_on k row earlier lawful) lawful.0 recorded.0 s x
        | inr x ↦ paid facts gone k plain words earlier lawful.2 recorded.1 s x
      ]

      by_case : (b : Bool) → (is_serial (serial_written row.written) s || is_written earlier s) ≡ b → (is_serial (serial_written row.written) s || is_written earlier s) ≡ false
      by_case false q = q
      by_case true q = absurd (false≢true (sym before ∙ retired_first q))

    new_left : without (is_written (row ∷ earlier)) (decoupled_in k row.retired) ≡ decoupled_in k row.retired
    new_left = by_case row.retired refl where
      one : (s : ℕ) (c : Commit) (b : Bool) → is_written (row ∷ earlier) s ≡ false → without (is_written (row ∷ earlier)) (if b then (s, c.word) ∷ [] else []) ≡ (if b then (s, c.word) ∷ [] else [])
      one s c true e = ap (λ (z : Bool). if z then [] else (s, c.word) ∷ []) e
      one s c false e = refl

      by_case : (o : Option (ℕ × Commit)) → row.retired ≡ o → without (is_written (row ∷ earlier)) (decoupled_in k o) ≡ decoupled_in k o
      by_case None e = refl
      by_case (Some (s, c)) e = one s c (is_some (k.asks c.word).unit) (new_unwritten s c e)

    pub outstanding_next : outstanding k (row ∷ earlier) ≡ decoupled_in k row.retired ++ without (is_serial (serial_written row.written)) (outstanding k earlier)
    unfolding decoupled is_written
    outstanding_next =
        without_append (is_written (row ∷ earlier)) (decoupled_in k row.retired) (decoupled k earlier)
        ∙ ap (λ l. l ++ without (is_written (row ∷ earlier)) (decoupled k earlier)) new_left
        ∙ ap (λ l. decoupled_in k row.retired ++ l) (without_either (λ s. is_serial (serial_written row.written) s) (λ s. is_written earlier s) (decoupled k earlier))

  -- ---- the units behind rows
  pub record AreFollowed (lasts : List ℕ) (rows : List Row) : Type 0 where
    pub entries : List Entry
    pub same_units : units_of k.shape.stages lasts entries ≡ units_after k rows
    pub timed : IsTimed k.shape.stages lasts entries
    pub listed : Listed (outstanding k rows) entries

  pub outs_fall : (rows : List Row) → Lawful (λ places. k) rows → AreRecorded k rows → Falls (outstanding k rows)
  outs_fall rows l r = falls_without (is_written rows) (decoupled k rows) (all_fall facts gone k plain words rows l r)

  -- the unit that writes behind the rows
  granted_is : (lasts : List ℕ) (rows : List Row) → AreUnits k.shape.stages lasts → (f : AreFollowed lasts rows) → serial_granted k rows ≡ serial_among lasts f.entries f.entries
  granted_is lasts rows can f = ap (λ l. serial_in (unit_written l)) (sym f.same_units) ∙ ap serial_in (written_law k.shape.stages lasts f.entries can f.timed)

  new_listed : (stages : ℕ) (o : Option (ℕ × Commit)) → Listed (decoupled_in k o) (entered stages (entering k o))
  new_listed stages None = tt
  new_listed stages (Some (s, c)) = by_case (k.asks c.word).unit where
    by_case : (u : Option ℕ) → Listed (if is_some u then (s, c.word) ∷ [] else []) (entered stages (in_unit s u))
    by_case None = tt
    by_case (Some u) = (refl, tt)

  pub followed : (lasts : List ℕ) → AreTimes k lasts → (rows : List Row) → Lawful (λ places. k) rows → AreRecorded k rows → AreFollowed lasts rows
  unfolding units_after decoupled
  followed lasts times [] l r = record { entries = []; same_units = sym times.first; timed = tt; listed = tt }
  followed lasts times (row ∷ earlier) l r =
      let f = followed lasts times earlier l.2 r.1 in
      let can = enters row earlier (going_on k row earlier l) l.0 r.0 k.shape.stages lasts f.entries times.can_be f.timed f.same_units in
      let written : serial_written row.written ≡ serial_among lasts f.entries f.entries = l.0.units ∙ granted_is lasts earlier times.can_be f in
      record {
        entries = next_entries k.shape.stages lasts (entering k row.retired) f.entries;
        same_units = sym (next_law k.shape.stages lasts f.entries (entering k row.retired) times.can_be f.timed can) ∙ ap (λ l. next_units (entering k row.retired) l) f.same_units;
        timed = timed_law k.shape.stages lasts f.entries (entering k row.retired) times.can_be f.timed can;
        listed = subst (λ l. Listed l (next_entries k.shape.stages lasts (entering k row.retired) f.entries)) (sym (outstanding_next row earlier l r))
            (listed_both (decoupled_in k row.retired) (without (is_serial (serial_written row.written)) (outstanding k earlier)) (entered k.shape.stages (entering k row.retired)) (stepped lasts f.entries f.entries)
            (new_listed k.shape.stages row.retired)
            (some_listed k.shape.stages lasts f.entries (outstanding k earlier) f.entries (serial_written row.written) f.listed (outs_fall earlier l.2 r.1) f.timed written));
      }

  -- ---- the laws

  out_of : (rows : List Row) → Lawful (λ places. k) rows → AreRecorded k rows → (j word : ℕ) → Contains (outstanding k rows) (j, word) → IsOut k rows (j, word)
  out_of rows l r j word c =
      all_out facts gone k plain words rows l r (j, word) (within_all (is_written rows) (decoupled k rows) (j, word) (from_contains (outstanding k rows) (j, word) c)).1

  pub are_owing : (rows : List Row) → Lawful (λ places. k) rows → AreRecorded k rows → IsOwing k rows
  are_owing rows l r =
      let times = units.times in
      let f = followed times.0 times.1 rows l r in
      let past = gone.gone k rows plain l in
      record {
        owed = λ j word retired alive known unit unwritten. (
            let x = retired_then rows j retired in
            let same = retired_word facts gone k plain words rows l r (j, x.0) x.1 word known in
            let as_word = subst (λ w. RetiredAs rows (j, w)) (sym same) x.1 in
            to_contains (outstanding k rows) (j, word) (among_without (is_written rows) (decoupled k rows) (j, word) unwritten (retired_decoupled k rows (j, word) unit as_word)));
        retired = λ j word c. (out_of rows l r j word c).retired;
        unflushed = λ j word c. past.unflushed j (out_of rows l r j word c).retired;
        worded = λ j word c. (out_of rows l r j word c).known;
        unwritten = λ j word c. (within_all (is_written rows) (decoupled k rows) (j, word) (from_contains (outstanding k rows) (j, word) c)).0;
        decoupled = λ j word c. (out_of rows l r j word c).unit;
        ordered = falling (outstanding k rows) (outs_fall rows l r);
        units = λ word u h. slots_of rows k.shape.stages times.0 f.entries f.same_units word u h;
        spawning = units.spawning;
        written = λ j e. paid facts gone k plain words rows l r j e;
      }

  pub are_granted : (rows : List Row) → Lawful (λ places. k) rows → AreRecorded k rows → GrantedLaw k rows
  are_granted rows l r = λ s e.
      let times = units.times in
      let f = followed times.0 times.1 rows l r in
      let x = written_listed times.0 f.entries (outstanding k rows) f.entries s f.listed (sym (granted_is times.0 rows times.1.can_be f) ∙ e) in
      (x.0, to_contains (outstanding k rows) (s, x.0) x.1)

  pub are_placed : (rows : List Row) → Lawful (λ places. k) rows → AreRecorded k rows → PlacedLaw k rows
  are_placed rows l r = λ s word c. let o = out_of rows l r s word c in (o.commit, o.step, o.word)

pub owing_law : RowFacts → GoneLaw → OwingLaw
owing_law facts gone = record {
  owing = λ k rows plain units words l r. are_owing facts gone k plain words units rows l r;
  granted = λ k rows plain units words l r. are_granted facts gone k plain words units rows l r;
  placed = λ k rows plain units words l r. are_placed facts gone k plain words units rows l r;
}
