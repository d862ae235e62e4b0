-- Of a unit that writes, the oldest entry does.
use Rattle.std.proofs.Common.{◌≡◌, ◌∙◌, refl, sym, ap, subst, ℕ, List, [], ◌∷◌, Option, Some, None, Bool, true, false, arith}
use Rattle.std.specs.Prelude.{if◌then◌else◌, ◌==◌, ◌&&◌, ◌||◌}
use Rattle.std.specs.Option.{option_or}
use Rattle.std.proofs.lemmas.Bool.Decides.{nat_tests}
use Rattle.std.proofs.lemmas.Option.{none-some}
use Rattle.rv_lawful.specs.LawfulTrace.{serial_in}
use Rattle.rv_unit.specs.declared.entry.Entry.{Entry}
use Rattle.rv_unit.specs.Entries.{last_time, is_finished, has_finished, lower, writer, is_number, does_write, written_among, unit_and_serial}
use Rattle.rv_unit.specs.Timed.{IsBehind, IsTimed}
use Rattle.rv_barrel.specs.Owing.{oldest_of}
use Rattle.rv_barrel.proofs.Views.{unsome}

-- the unit that writes has an entry at its last time
lower_is : (a u : ℕ) (o : Option ℕ) → lower a o ≡ u → (a ≡ u → ⊥) → o ≡ Some u
lower_is a u None e apart = absurd (apart e)
lower_is a u (Some w) e apart = ap (λ (n : ℕ). Some n) (other (grind (arith, nat_tests, e, apart))) where
  other : w ≡ u → w ≡ u
  other h = h

same_unit : (a u : ℕ) → (a == u) ≡ true → a ≡ u
same_unit a u e = grind (arith, nat_tests, e)

other_unit : (a u : ℕ) → (a == u) ≡ false → a ≡ u → ⊥
other_unit a u e f = grind (arith, nat_tests, e, f)

or_true : (b : Bool) → (b || true) ≡ true
or_true true = refl
or_true false = refl

writes_has : (lasts : List ℕ) (u : ℕ) (es : List Entry) → writer lasts es ≡ Some u → has_finished lasts u es ≡ true
writes_has lasts u [] e = absurd (none-some u e)
writes_has lasts u (p ∷ rest) e = by_end (is_finished lasts p) refl e (writes_has lasts u rest) where
  by_end : (b : Bool) → is_finished lasts p ≡ b → (if b then Some (lower p.unit (writer lasts rest)) else writer lasts rest) ≡ Some u → (writer lasts rest ≡ Some u → has_finished lasts u rest ≡ true)
      → (is_finished lasts p && (p.unit == u)) || has_finished lasts u rest ≡ true
  by_end false f e on = ap (λ (h : Bool). (is_finished lasts p && (p.unit == u)) || h) (on e) ∙ or_true (is_finished lasts p && (p.unit == u))
  by_end true f e on = by_unit (p.unit == u) refl where
    by_unit : (b : Bool) → (p.unit == u) ≡ b → (is_finished lasts p && (p.unit == u)) || has_finished lasts u rest ≡ true
    by_unit true g = ap (λ (h : Bool). (h && (p.unit == u)) || has_finished lasts u rest) f ∙ ap (λ (h : Bool). h || has_finished lasts u rest) g
    by_unit false g =
        ap (λ (h : Bool). (is_finished lasts p && (p.unit == u)) || h) (on (lower_is p.unit u (writer lasts rest) (unsome _ _ e) (other_unit p.unit u g)))
        ∙ or_true (is_finished lasts p && (p.unit == u))

-- behind one at the last time of its unit there is none of that unit
none_older : (stages : ℕ) (lasts : List ℕ) (u : ℕ) (p : Entry) (rest : List Entry) → p.unit ≡ u → p.time ≡ last_time lasts u → IsBehind p rest → IsTimed stages lasts rest → oldest_of u rest ≡ None
none_older stages lasts u p [] e f b t = refl
none_older stages lasts u p (q ∷ rest) e f b t = by_unit (q.unit == u) refl (none_older stages lasts u p rest e f b.1 t.2) where
  by_unit : (s : Bool) → (q.unit == u) ≡ s → oldest_of u rest ≡ None → option_or (oldest_of u rest) (if q.unit == u then Some q.serial else None) ≡ None
  by_unit true g none =
      let same : q.unit ≡ u = same_unit q.unit u g in
      let below = b.0 (same ∙ sym e) in
      let last = t.0.last in
      let there = ap (λ (n : ℕ). last_time lasts n) same in
      absurd (omega (arith, below, last, there, f))
  by_unit false g none = ap (λ (o : Option ℕ). option_or o (if q.unit == u then Some q.serial else None)) none ∙ ap (λ (s : Bool). if s then Some q.serial else None) g

-- where the unit that writes has an entry at its last time among these, its oldest one writes
pub record IsWriting (lasts : List ℕ) (u : ℕ) (all es : List Entry) : Type 0 where
  pub entry : Entry
  pub written : written_among lasts all es ≡ Some entry
  pub oldest : oldest_of u es ≡ Some entry.serial

writing : (stages : ℕ) (lasts : List ℕ) (u : ℕ) (all es : List Entry) → writer lasts all ≡ Some u → IsTimed stages lasts es → has_finished lasts u es ≡ true → IsWriting lasts u all es
writing stages lasts u all [] w t h = absurd (apart h) where
  Falsely : Bool → Type 0
  Falsely true = ⊥
  Falsely false = Unit

  apart : false ≡ true → ⊥
  apart e = subst Falsely e tt
writing stages lasts u all (p ∷ rest) w t h = by_unit (p.unit == u) refl (writing stages lasts u all rest w t.2) where
  writes_so : does_write lasts all p ≡ (is_finished lasts p && (u == p.unit))
  writes_so = ap (λ (o : Option ℕ). is_finished lasts p && is_number o p.unit) w

  turned : (s : Bool) → (p.unit == u) ≡ s → (u == p.unit) ≡ s
  turned true e = grind (arith, nat_tests, e)
  turned false e = grind (arith, nat_tests, e)

  later : (does_write lasts all p ≡ false) → (oldest_of u rest ≡ None → ⊥) → IsWriting lasts u all rest → IsWriting lasts u all (p ∷ rest)
  later off some i = record {
    entry = i.entry;
    written = ap (λ (s : Bool). if s then Some p else written_among lasts all rest) off ∙ i.written;
    oldest = ap (λ (o : Option ℕ). option_or o (if p.unit == u then Some p.serial else None)) i.oldest;
  }

  and_false : (b : Bool) → (b && false) ≡ false
  and_false true = refl
  and_false false = refl

  by_unit : (s : Bool) → (p.unit == u) ≡ s → (has_finished lasts u rest ≡ true → IsWriting lasts u all rest) → IsWriting lasts u all (p ∷ rest)
  by_unit false g on =
      let rest_has : has_finished lasts u rest ≡ true = sym (ap (λ (s : Bool). (is_finished lasts p && s) || has_finished lasts u rest) g ∙ ap (λ (s : Bool). s || has_finished lasts u rest) (and_false (is_finished lasts p))) ∙ h in
      let i = on rest_has in
      let off : does_write lasts all p ≡ false = writes_so ∙ ap (λ (s : Bool). is_finished lasts p && s) (turned false g) ∙ and_false (is_finished lasts p) in
      later off (λ none. none-some i.entry.serial (sym none ∙ i.oldest)) i
  by_unit true g on = by_end (is_finished lasts p) refl where
    by_end : (b : Bool) → is_finished lasts p ≡ b → IsWriting lasts u all (p ∷ rest)
    by_end false f =
        let rest_has : has_finished lasts u rest ≡ true = sym (ap (λ (s : Bool). (s && (p.unit == u)) || has_finished lasts u rest) f) ∙ h in
        let i = on rest_has in
        let off : does_write lasts all p ≡ false = writes_so ∙ ap (λ (s : Bool). s && (u == p.unit)) f in
        later off (λ none. none-some i.entry.serial (sym none ∙ i.oldest)) i
    by_end true f =
        let same : p.unit ≡ u = same_unit p.unit u g in
        let time : p.time ≡ last_time lasts p.unit = same_unit p.time (last_time lasts p.unit) f in
        let none : oldest_of u rest ≡ None = none_older stages lasts u p rest same (time ∙ ap (λ (n : ℕ). last_time lasts n) same) t.1 t.2 in
        let so : does_write lasts all p ≡ true = writes_so ∙ ap (λ (s : Bool). s && (u == p.unit)) f ∙ turned true g in
        record {
          entry = p;
          written = ap (λ (s : Bool). if s then Some p else written_among lasts all rest) so;
          oldest = ap (λ (o : Option ℕ). option_or o (if p.unit == u then Some p.serial else None)) none ∙ ap (λ (s : Bool). if s then Some p.serial else None) g;
        }

pub oldest_written : (stages : ℕ) (lasts : List ℕ) (u : ℕ) (all : List Entry) → writer lasts all ≡ Some u → IsTimed stages lasts all → oldest_of u all ≡ serial_in (unit_and_serial (written_among lasts all all))
oldest_written stages lasts u all w t =
    let i = writing stages lasts u all all w t (writes_has lasts u all w) in
    i.oldest ∙ sym (ap (λ (o : Option Entry). serial_in (unit_and_serial o)) i.written)
