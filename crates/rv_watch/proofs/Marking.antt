-- Entries that are marked as flushed, one mark after another.
use Rattle.std.proofs.Common.{◌≡◌, ◌∙◌, refl, ap, ℕ, List, [], ◌∷◌, Option, Some, None, Bool, true, false}
use Rattle.std.specs.Prelude.{slice_get, ◌||◌, ◌==◌}
use Rattle.rv_trace.specs.Trace.{has_serial}
use Rattle.rv_watch.specs.declared.seen.Seen.{Seen}
use Rattle.rv_watch.specs.Seeing.{AreMarked}

-- one mark, and then the others
pub marked_more : (mark : Option ℕ) (rest : List (Option ℕ)) (a b c : List Seen) → AreMarked (mark ∷ []) a b → AreMarked rest b c → AreMarked (mark ∷ rest) a c
marked_more mark rest a b c x y = record { count = y.count ∙ x.count; each = each } where
  join : (m : Option ℕ) (s : ℕ) (w : Bool) → (has_serial rest s || (has_serial (m ∷ []) s || w)) ≡ (has_serial (m ∷ rest) s || w)
  join None s w = refl
  join (Some j) s w = by_cases (j == s) (has_serial rest s) w where
    by_cases : (p q w : Bool) → (q || ((p || false) || w)) ≡ ((p || q) || w)
    by_cases true true w = refl
    by_cases true false w = refl
    by_cases false true w = refl
    by_cases false false w = refl

  each : (s : ℕ) (entry : Seen) → slice_get c s ≡ Some entry → (was : Seen) × (slice_get a s ≡ Some was) × (entry.flushed ≡ (has_serial (mark ∷ rest) s || was.flushed)) × (entry.spawns ≡ was.spawns)
  each s entry e =
      let v = y.each s entry e in
      let u = x.each s v.0 v.1 in
      (u.0, u.1, v.2 ∙ ap (λ w. has_serial rest s || w) u.2 ∙ join mark s u.0.flushed, v.3 ∙ u.3)
