-- What is kept with one row more.
use Rattle.std.proofs.Common.{◌≡◌, ◌∙◌, refl, sym, ap, subst, ℕ, zero, suc, List, [], ◌∷◌, ◌++◌, length, Option, Some, None, Bool, true, false, arith, inl, inr, ◌⊎◌}
use Rattle.std.specs.Prelude.{slice_get, is_some, ◌||◌, ◌==◌, if◌then◌else◌}
use Rattle.rv_trace.specs.declared.row.Cell.{Cell}
use Rattle.rv_trace.specs.declared.row.Row.{Row}
use Rattle.rv_trace.specs.Trace.{has_serial, is_flushed, newest}
use Rattle.rv_lawful.specs.Settings.{Setting, stages_of, Stands}
use Rattle.rv_lawful.specs.LawfulTrace.{IsWordOf, LawfulRow, next_serial, new_cell}
use Rattle.rv_rows.specs.Facts.{IsPlain, AreGoingOn, AboveFacts, FirstFacts, NextFacts, RowFacts}
use Rattle.rv_rows.proofs.Moving.{above_of}
use Rattle.rv_watch.specs.declared.seen.Seen.{Seen}
use Rattle.rv_watch.specs.Seen.{AreSeen}
use Rattle.rv_watch.specs.Seeing.{new_entry, with_first, AreMarked}
use Rattle.rv_watch.proofs.SeenTests.{number_same, number_below}
use Rattle.rv_watch.proofs.Entries.{pushed, pushed_length}
use Rattle.rv_watch.proofs.Adding.{next_none, next_some, first_serial}

flushed_more : (row : Row) (rows : List Row) (s : ℕ) → is_flushed (row ∷ rows) s ≡ (has_serial row.flushed s || is_flushed rows s)
unfolding is_flushed
flushed_more row rows s = refl

-- what is said of an entry behind the row, but for the marks of the row
record IsEntry (k : Setting) (earlier : List Row) (row : Row) (s : ℕ) (entry : Seen) : Type 0 where
  flushed : entry.flushed ≡ is_flushed earlier s
  spawns : (word : ℕ) → IsWordOf k (row ∷ earlier) s word → entry.spawns ≡ is_some (k.asks word).spawned
  worded : (word : ℕ) × IsWordOf k (row ∷ earlier) s word

-- of each entry, with what comes newly
record AreEntries (k : Setting) (earlier : List Row) (row : Row) (l : List Seen) : Type 0 where
  count : length l ≡ next_serial k (row ∷ earlier)
  each : (s : ℕ) (entry : Seen) → slice_get l s ≡ Some entry → IsEntry k earlier row s entry

module _ (facts : RowFacts) (k : Setting) (earlier : List Row) (row : Row) (plain : IsPlain k) (going : AreGoingOn k earlier) (lawful : LawfulRow k earlier row) (seen : List Seen) (are : AreSeen k earlier seen)
    (asked : Bool) (asks : (c : Cell) → Stands k row 0 c → asked ≡ is_some (k.asks c.word).spawned) where
  above : AboveFacts k earlier row
  above = facts.above k earlier row plain going (above_of (newest earlier) (new_cell k earlier) (stages_of k (newest earlier)) (stages_of k row) lawful.moves)

  first : FirstFacts k earlier row
  first = facts.first k earlier row plain going lawful.moves

  next : NextFacts k earlier
  next = facts.next k earlier plain going

  one_word : (stage : ℕ) (c : Cell) (word : ℕ) → Stands k row stage c → IsWordOf k earlier c.serial word → word ≡ c.word
  one_word zero c word e y = first.one_word c word e y
  one_word (suc n) c word e y = above.one_word (suc n) c word (omega arith) e y

  old_entry : (s : ℕ) (entry : Seen) → slice_get seen s ≡ Some entry → IsEntry k earlier row s entry
  old_entry s entry e = let w = are.worded s entry e in record { flushed = are.flushed s entry e; spawns = spawns w.0 w.1; worded = (w.0, inr w.1) } where
    spawns : (was : ℕ) → IsWordOf k earlier s was → (word : ℕ) → IsWordOf k (row ∷ earlier) s word → entry.spawns ≡ is_some (k.asks word).spawned
    spawns was w word (inr y) = are.spawns s word entry e y
    spawns was w word (inl y) =
        let same : was ≡ word = one_word y.0 y.1 was y.2 (subst (λ n. IsWordOf k earlier n was) (sym y.3) w) ∙ y.4 in
        are.spawns s was entry e w ∙ ap (λ n. is_some (k.asks n).spawned) same

  new_is : (c : Cell) → Stands k row 0 c → c.serial ≡ next_serial k earlier → (entry : Seen) → entry ≡ new_entry asked → IsEntry k earlier row c.serial entry
  new_is c e s entry is =
      record {
        flushed = ap (λ (x : Seen). x.flushed) is ∙ sym (next.unflushed c.serial (omega (arith, s)));
        spawns = spawns;
        worded = (c.word, inl (0, c, e, refl, refl));
      } where
        spawns : (word : ℕ) → IsWordOf k (row ∷ earlier) c.serial word → entry.spawns ≡ is_some (k.asks word).spawned
        spawns word (inr y) = let lt = next.seen c.serial word y in absurd (omega (arith, lt, s))
        spawns word (inl (zero, d, f, same, w)) = ap (λ (x : Seen). x.spawns) is ∙ asks d f ∙ ap (λ n. is_some (k.asks n).spawned) w
        spawns word (inl (suc n, d, f, same, w)) = let lt = above.fetched (suc n) d (omega arith) f in absurd (omega (arith, lt, same, s))

  same_entries : length seen ≡ next_serial k (row ∷ earlier) → AreEntries k earlier row seen
  same_entries count = record { count = count; each = old_entry }

  more_entries : (c : Cell) → Stands k row 0 c → c.serial ≡ next_serial k earlier → AreEntries k earlier row (seen ++ new_entry asked ∷ [])
  more_entries c e s =
      let count = are.count in
      let after = next_some k row earlier c e in
      let long = pushed_length seen (new_entry asked) in
      record { count = omega (arith, count, after, long, s); each = each } where
        each : (n : ℕ) (entry : Seen) → slice_get (seen ++ new_entry asked ∷ []) n ≡ Some entry → IsEntry k earlier row n entry
        each n entry f = by_place (pushed seen (new_entry asked) entry n f) where
          by_place : (slice_get seen n ≡ Some entry) ⊎ ((n ≡ length seen) × (entry ≡ new_entry asked)) → IsEntry k earlier row n entry
          by_place (inl g) = old_entry n entry g
          by_place (inr g) =
              let count = are.count in
              let at = g.0 in
              subst (λ m. IsEntry k earlier row m entry) (omega (arith, count, at, s)) (new_is c e s entry g.1)

  with_cell : (c : Cell) → Stands k row 0 c → AreEntries k earlier row (with_first seen (Some c) asked)
  with_cell c e = by_serial (first_serial k earlier row lawful.moves c e) where
    count : length seen ≡ next_serial k earlier
    count = are.count

    by_serial : (next_serial k earlier ≡ suc c.serial) ⊎ (next_serial k earlier ≡ c.serial) → AreEntries k earlier row (if c.serial == length seen then seen ++ new_entry asked ∷ [] else seen)
    by_serial (inl s) =
        let apart : (c.serial == length seen) ≡ false = number_below c.serial (length seen) (omega (arith, s, count)) in
        let after = next_some k row earlier c e in
        subst (λ b. AreEntries k earlier row (if b then seen ++ new_entry asked ∷ [] else seen)) (sym apart) (same_entries (omega (arith, after, s, count)))
    by_serial (inr s) =
        let same : (c.serial == length seen) ≡ true = number_same c.serial (length seen) (omega (arith, s, count)) in
        subst (λ b. AreEntries k earlier row (if b then seen ++ new_entry asked ∷ [] else seen)) (sym same) (more_entries c e (sym s))

  entries : (o : Option Cell) → slice_get (stages_of k row) 0 ≡ Some o → AreEntries k earlier row (with_first seen o asked)
  entries None e = same_entries (are.count ∙ sym (next_none k row earlier (λ c f. none c (sym e ∙ f)))) where
    none : (c : Cell) → ◌≡◌ {A = Option (Option Cell)} (Some None) (Some (Some c)) → ⊥
    none c q = cc
  entries (Some c) e = with_cell c e

  -- and with the marks of the row
  pub seen_more : (o : Option Cell) (now : List Seen) → slice_get (stages_of k row) 0 ≡ Some o → AreMarked row.flushed (with_first seen o asked) now → AreSeen k (row ∷ earlier) now
  seen_more o now e marked =
      let l = entries o e in
      record {
        count = marked.count ∙ l.count;
        flushed = λ s entry f. let x = marked.each s entry f in let h = l.each s x.0 x.1 in x.2 ∙ ap (λ b. has_serial row.flushed s || b) h.flushed ∙ sym (flushed_more row earlier s);
        spawns = λ s word entry f w. let x = marked.each s entry f in let h = l.each s x.0 x.1 in x.3 ∙ h.spawns word w;
        worded = λ s entry f. let x = marked.each s entry f in (l.each s x.0 x.1).worded;
      }

-- ---- before the first row

first_count : (k : Setting) → next_serial k [] ≡ 0
unfolding next_serial
first_count k = refl

pub none_seen : (k : Setting) (seen : List Seen) → seen ≡ [] → AreSeen k [] seen
none_seen k [] e = record { count = sym (first_count k); flushed = λ s entry f. cc; spawns = λ s word entry f w. cc; worded = λ s entry f. absurd (nothing s entry f) } where
  nothing : (s : ℕ) (entry : Seen) → ◌≡◌ {A = Option Seen} None (Some entry) → ⊥
  nothing s entry f = cc
none_seen k (entry ∷ seen) e = cc
