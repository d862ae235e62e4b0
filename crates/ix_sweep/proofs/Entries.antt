-- Entries one behind the other.
use Rattle.std.proofs.Common.{◌≡◌, sym, ◌∙◌, ap, refl, ℕ, ◌≤◌, Bool, true, false, cond, List, [], ◌∷◌, ◌++◌, arith}
use Rattle.std.specs.Prelude.{filter, nat_le, ◌<◌}
use Rattle.std.proofs.lemmas.List.{map-append}
use Rattle.std.proofs.lemmas.Bool.Decides.{nat_tests}
use Rattle.std.proofs.lemmas.List.Elements.{All-cons, All-nil, All-append}
use Rattle.ix_graph.specs.declared.graph.Graph.{Graph}
use Rattle.ix_sheet.specs.declared.sheet.Sheet.{Sheet}
use Rattle.ix_sweep.specs.declared.answer.Entry.{Entry}
use Rattle.ix_sweep.specs.Periods.{IsEntry, allowed, AreEntries}

either_way : (t : Bool) (y : ℕ) (long short more : List ℕ) → long ≡ short ++ more → cond t (y ∷ long) long ≡ cond t (y ∷ short) short ++ more
either_way true y long short more e = ap (λ l. y ∷ l) e
either_way false y long short more e = e

within : (p : ℕ) → p ≤ 1000000 → nat_le p 1000000 ≡ true
within p h = grind (arith, nat_tests)

beyond : (p : ℕ) → 1000000 < p → nat_le p 1000000 ≡ false
beyond p h = grind (arith, nat_tests)

kept : (test : ℕ → Bool) (xs : List ℕ) (x : ℕ) → test x ≡ true → filter test (xs ++ x ∷ []) ≡ filter test xs ++ x ∷ []
kept test [] x e = rw e refl
kept test (y ∷ ys) x e = either_way (test y) y (filter test (ys ++ x ∷ [])) (filter test ys) (x ∷ []) (kept test ys x e)

left_out : (test : ℕ → Bool) (xs : List ℕ) (x : ℕ) → test x ≡ false → filter test (xs ++ x ∷ []) ≡ filter test xs
left_out test [] x e = rw e refl
left_out test (y ∷ ys) x e = rw (left_out test ys x e) refl

-- one more entry
pub entry_more : (g : Graph) (sheet : Sheet) (block : Bool) (before : List ℕ) (period : ℕ) (entries : List Entry) (entry : Entry) → period ≤ 1000000 → entry.period ≡ period →
    IsEntry g sheet block entry → AreEntries g sheet block (allowed before) entries → AreEntries g sheet block (allowed (before ++ period ∷ [])) (entries ++ entry ∷ [])
entry_more g sheet block before period entries entry most is made so_far = record {
  periods_are =
      map-append (λ e. e.period) entries (entry ∷ [])
      ∙ (ap (λ l. l ++ entry.period ∷ []) so_far.periods_are
      ∙ (ap (λ p. allowed before ++ p ∷ []) is ∙ sym (kept (λ q. nat_le q 1000000) before period (within period most))));
  each = All-append (IsEntry g sheet block) entries (entry ∷ []) so_far.each (All-cons (IsEntry g sheet block) entry [] made (All-nil (IsEntry g sheet block)));
}

-- none for a period that no sheet has
pub entry_left_out : (g : Graph) (sheet : Sheet) (block : Bool) (before : List ℕ) (period : ℕ) (entries : List Entry) → 1000000 < period →
    AreEntries g sheet block (allowed before) entries → AreEntries g sheet block (allowed (before ++ period ∷ [])) entries
entry_left_out g sheet block before period entries past so_far = record {
  periods_are = so_far.periods_are ∙ sym (left_out (λ q. nat_le q 1000000) before period (beyond period past));
  each = so_far.each;
}

-- no entry yet
pub entries_none : (g : Graph) (sheet : Sheet) (block : Bool) → AreEntries g sheet block [] []
entries_none g sheet block = record { periods_are = refl; each = All-nil (IsEntry g sheet block) }
