-- A serial that stands in a unit is that of an instruction of its behaviour, which was retired and not flushed.
use Rattle.std.proofs.Common.{◌≡◌, ◌∙◌, refl, sym, ap, subst, ℕ, zero, suc, ◌+◌, ◌-◌, ◌<◌, List, [], ◌∷◌, Option, Some, None, Bool, true, false, inl, inr, ◌⊎◌, arith}
use Rattle.std.specs.Prelude.{if◌then◌else◌, ◌&&◌, ◌==◌, slice_get, nat_lt}
use Rattle.std.proofs.lemmas.Bool.Decides.{nat_tests}
use Rattle.ix_extension.specs.Extensions.{view_extension}
use Rattle.ix_plan.specs.declared.design.Design.{Design}
use Rattle.ix_plan.specs.Units.{Slots as UnitSlots}
use Rattle.rv_asks.specs.declared.asks.Asks.{Asks}
use Rattle.rv_asks.specs.Asks.{asks_in}
use Rattle.rv_seq.specs.declared.decoded.Decoded.{Decoded}
use Rattle.rv_seq.specs.declared.decoded.Decoded.TheVariants as D
use Rattle.rv_seq.specs.Decoding.{decoded_in}
use Rattle.rv_trace.specs.declared.row.Row.{Row}
use Rattle.rv_trace.specs.Trace.{is_flushed, is_retired, place, retirements}
use Rattle.rv_unit.specs.Numbering.{unit_of}
use Rattle.rv_unit.specs.declared.entry.Entry.{Entry}
use Rattle.rv_unit.specs.Slots.{serial_at, slots_from, units_from}
use Rattle.rv_holds.specs.declared.token.Token.{Token}
use Rattle.rv_holds.specs.Tokens.{Slots}
use Rattle.rv_engine.specs.declared.owing.Owed.{Owed}
use Rattle.rv_engine.specs.Settings.{Setting, Machine}
use Rattle.rv_engine.specs.Rows.{IsRowOf}
use Rattle.rv_lawful.specs.LawfulTrace.{IsWordOf}
use Rattle.rv_lawful.specs.Outstanding.{Decoupled, outstanding, units_after}
use Rattle.rv_lawful.specs.Sight.{asked}
use Rattle.rv_machine.specs.Owing.{judged, Owing}
use Rattle.rv_machine.specs.Placed.{IsReady, Inv, Serials}
use Rattle.rv_machine.proofs.Flushing as F
use Rattle.rv_machine.proofs.Places.{stood}

-- ---- from units to entries

abbrev HasEntry : List Entry → ℕ → ℕ → Type 0
HasEntry [] u s = ⊥
HasEntry (e ∷ entries) u s = ((e.serial ≡ s) × (e.unit ≡ u)) ⊎ HasEntry entries u s

same_serial : (a b : ℕ) → ◌≡◌ {A = Option ℕ} (Some a) (Some b) → a ≡ b
same_serial a b e = cc

entry_has : (u t : ℕ) (entries : List Entry) (s : ℕ) → serial_at u t entries ≡ Some s → HasEntry entries u s
entry_has u t [] s e = cc
entry_has u t (x ∷ entries) s e = by_case (x.unit == u) (x.time == t) refl e (λ q. entry_has u t entries s q) where
  same : (a b : ℕ) → (a == b) ≡ true → a ≡ b
  same a b q = grind (arith, nat_tests)

  by_case : (a b : Bool) → (x.unit == u) ≡ a → (if a && b then Some x.serial else serial_at u t entries) ≡ Some s → (serial_at u t entries ≡ Some s → HasEntry entries u s) → HasEntry (x ∷ entries) u s
  by_case true true p q rest = inl (same_serial x.serial s q, same x.unit u p)
  by_case true false p q rest = inr (rest q)
  by_case false b p q rest = inr (rest q)

same_slot : (a b : Option ℕ) → ◌≡◌ {A = Option (Option ℕ)} (Some a) (Some b) → a ≡ b
same_slot a b e = cc

slots_have : (u t count : ℕ) (entries : List Entry) (a s : ℕ) → slice_get (slots_from u t count entries) a ≡ Some (Some s) → HasEntry entries u s
slots_have u t zero entries a s e = cc
slots_have u t (suc count) entries zero s e = entry_has u t entries s (same_slot (serial_at u t entries) (Some s) e)
slots_have u t (suc count) entries (suc a) s e = slots_have u (suc t) count entries a s e

same_unit : (a b : UnitSlots) → ◌≡◌ {A = Option UnitSlots} (Some a) (Some b) → a ≡ b
same_unit a b e = cc

units_have : (u stages : ℕ) (lasts : List ℕ) (entries : List Entry) (n : ℕ) (slots : UnitSlots) (a s : ℕ) → slice_get (units_from u stages lasts entries) n ≡ Some slots → slice_get slots a ≡ Some (Some s) → HasEntry entries (u + n) s
units_have u stages [] entries n slots a s e h = cc
units_have u stages (last ∷ lasts) entries zero slots a s e h =
    let z : u ≡ u + 0 = omega arith in
    subst (λ v. HasEntry entries v s) z
    (slots_have u stages (last + 1 - stages) entries a s (ap (λ (l : UnitSlots). slice_get l a) (same_unit (slots_from u stages (last + 1 - stages) entries) slots e) ∙ h))
units_have u stages (last ∷ lasts) entries (suc n) slots a s e h =
    let z : u + 1 + n ≡ u + suc n = omega arith in
    subst (λ v. HasEntry entries v s) z (units_have (u + 1) stages lasts entries n slots a s e h)

-- ---- from entries to instructions

-- an instruction that was retired, with its word and its unit
pub record IsRetired (k : Setting) (rows : List Row) (u s : ℕ) : Type 0 where
  pub alive : is_flushed rows s ≡ false
  pub retired : is_retired rows s ≡ true
  pub word : ℕ
  pub unit : (asked k.design word).unit ≡ Some u
  pub only : (other : ℕ) → IsWordOf (judged k) rows s other → other ≡ word

owing_has : (k : Setting) (rows : List Row) (outs : List Decoupled) (entries : List Entry) (owed : List Owed) (u s : ℕ) → Owing k rows outs entries owed → HasEntry entries u s → IsRetired k rows u s
owing_has k rows [] [] [] u s h x = absurd x
owing_has k rows (o ∷ outs) (e ∷ entries) (w ∷ owed) u s h (inl q) =
    let same : o.0 ≡ s = sym h.0.entry ∙ q.0 in
    record {
      alive = ap (λ n. is_flushed rows n) (sym same) ∙ h.0.alive;
      retired = ap (λ n. is_retired rows n) (sym same) ∙ h.0.retired;
      word = o.1;
      unit = sym (ap (λ (a : Asks). a.unit) h.0.asks) ∙ h.0.unit ∙ ap (λ n. Some n) q.1;
      only = λ other x. h.0.only other (subst (λ n. IsWordOf (judged k) rows n other) (sym same) x);
    }
owing_has k rows (o ∷ outs) (e ∷ entries) (w ∷ owed) u s h (inr x) = owing_has k rows outs entries owed u s h.2 x
owing_has k rows [] [] (w ∷ owed) u s h x = absurd h
owing_has k rows [] (e ∷ entries) owed u s h x = absurd h
owing_has k rows (o ∷ outs) [] owed u s h x = absurd h
owing_has k rows (o ∷ outs) (e ∷ entries) [] u s h x = absurd h

pub in_unit : (k : Setting) (earlier : List Row) (m : Machine) → Inv k earlier m → (unit : ℕ) (slots : UnitSlots) (after s : ℕ) → slice_get (units_after (judged k) earlier) unit ≡ Some slots → slice_get slots after ≡ Some (Some s) → IsRetired k earlier unit s
in_unit k earlier m inv unit slots after s at stands =
    let z : 0 + unit ≡ unit = omega arith in
    owing_has k earlier (outstanding (judged k) earlier) m.entries m.owed unit s inv.owing
    (subst (λ v. HasEntry m.entries v s) z (units_have 0 _ _ m.entries unit slots after s (sym (ap (λ (l : List UnitSlots). slice_get l unit) inv.units) ∙ at) stands))

-- a word whose instruction has a unit is one of the extension
unit_decoded : (d : Design) (word u : ℕ) (o : Option Decoded) → (asks_in d word o).unit ≡ Some u → (m : ℕ) × (o ≡ Some (D.Own m)) × (unit_of d.plans m ≡ Some u)
unfolding asks_in
unit_decoded d word u None e = cc
unit_decoded d word u (Some (D.Base b)) e = cc
unit_decoded d word u (Some (D.Own m)) e = (m, refl, e)

pub unit_word : (d : Design) (word u : ℕ) → (asked d word).unit ≡ Some u → (m : ℕ) × (decoded_in (view_extension d.extension) word ≡ Some (D.Own m)) × (unit_of d.plans m ≡ Some u)
unit_word d word u e = unit_decoded d word u (decoded_in (view_extension d.extension) word) e

-- ---- what was retired stands in no stage

not_less : (a b : ℕ) → nat_lt a b ≡ true → a < b
not_less a b e = grind (arith, nat_tests)

pub not_both : (k : Setting) (earlier : List Row) (m : Machine) → Inv k earlier m → (slots : Slots) → Serials earlier (retirements earlier) slots → (i : ℕ) (t : Token) → slice_get slots i ≡ Some (Some t) → is_retired earlier t.cell.serial ≡ true → ⊥
not_both k earlier m inv slots serials i t e gone =
    let st = stood earlier (retirements earlier) i slots t serials e in
    let low = st.low in
    let less = not_less (place earlier t.cell.serial) (retirements earlier) (sym (inv.retired t.cell.serial st.alive) ∙ gone) in
    omega (arith, low, less)

-- so its word is that of the rows before
pub word_before : (k : Setting) (ready : IsReady k) (earlier : List Row) (m : Machine) (row : Row) (inv : Inv k earlier m) (is : IsRowOf k m row) (s word : ℕ) → is_retired earlier s ≡ true → IsWordOf (judged k) (row ∷ earlier) s word → IsWordOf (judged k) earlier s word
word_before k ready earlier m row inv is s word gone (inr h) = h
word_before k ready earlier m row inv is s word gone (inl h) =
    let x = F.shown_at k ready earlier m row inv is h.0 h.1 h.2 in
    absurd
    (not_both k earlier m inv (Rattle.rv_engine.specs.Rows.loaded_by k m) (F.loaded_serials k ready earlier m row inv is) h.0 x.token x.here_is
    (ap (λ n. is_retired earlier n) (x.serial ∙ h.3) ∙ gone))
