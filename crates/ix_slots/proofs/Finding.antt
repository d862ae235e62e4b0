-- Maps of custom registers and tables by their names, filled from the last to the first.
use Rattle.std.proofs.Common.{◌≡◌, ◌∙◌, sym, ap, refl, ℕ, suc, ◌+◌, List, [], ◌∷◌, get_or, map, Option, Some, Bool, true, false, cond, String, BTreeMap, arith}
use Rattle.std.specs.Prelude.{option_map, if◌then◌else◌}
use Rattle.std.specs.BTreeMap.{get_by_text}
use Rattle.std.specs.Map.{update}
use Rattle.std.specs.Str.{bytes_eq}
use Rattle.ix_bits.specs.declared.number.Bits.{Bits}
use Rattle.ix_tree.specs.declared.extension.Register.{Register}
use Rattle.ix_tree.specs.declared.extension.Table.{Table}
use Rattle.ix_tree.specs.Lexing.{same_bytes}
use Rattle.ix_tree.proofs.Names.{same_is}
use Rattle.ix_mean.specs.ByName.{Numbered, register_in, Entries, table_in}
use Rattle.ix_mean.specs.View.{raw_of, patterns_of}
use Rattle.ix_slots.specs.declared.names.Custom.{Custom}
use Rattle.ix_slots.specs.Found.{entries_of, custom_of, number_of}

-- the custom registers from the one with the number r on
abbrev pub CustomsFrom : {Y : Type 0} → ℕ → List Register → BTreeMap (String Y) Custom → Type 0
CustomsFrom r rs m = (n : List ℕ) → get_by_text m n ≡ option_map custom_of (register_in r rs n)

abbrev pub TablesFrom : {Y : Type 0} → ℕ → List Table → BTreeMap (String Y) ℕ → Type 0
TablesFrom t ts m = (n : List ℕ) → get_by_text m n ≡ option_map number_of (table_in t ts n)

custom_picked : (b : Bool) (r : Numbered) (o : Option Numbered) → cond b (Some (custom_of r)) (option_map custom_of o) ≡ option_map custom_of (if b then Some r else o)
custom_picked true r o = refl
custom_picked false r o = refl

table_picked : (b : Bool) (t : Entries) (o : Option Entries) → cond b (Some t.number) (option_map number_of o) ≡ option_map number_of (if b then Some t else o)
table_picked true t o = refl
table_picked false t o = refl

module _ {Y : Type 0} where
  -- one more in front
  pub customs_more : (r : ℕ) (x : Register) (rs : List Register) (m new : BTreeMap (String Y) Custom)
      → ((n : List ℕ) → get_by_text new n ≡ update bytes_eq (get_by_text m) x.name (Some (custom_of (record { number = r; ty = x.ty }))) n)
      → CustomsFrom (suc r) rs m → CustomsFrom r (x ∷ rs) new
  customs_more r x rs m new updates h n =
      let one : Numbered = record { number = r; ty = x.ty } in
      updates n
      ∙ ap (λ (o : Option Custom). cond (bytes_eq x.name n) (Some (custom_of one)) o) (h n)
      ∙ ap (λ (b : Bool). cond b (Some (custom_of one)) (option_map custom_of (register_in (suc r) rs n))) (same_is x.name n)
      ∙ custom_picked (same_bytes x.name n) one (register_in (suc r) rs n)

  pub tables_more : (t : ℕ) (x : Table) (ts : List Table) (m new : BTreeMap (String Y) ℕ)
      → ((n : List ℕ) → get_by_text new n ≡ update bytes_eq (get_by_text m) x.name (Some t) n) → TablesFrom (suc t) ts m → TablesFrom t (x ∷ ts) new
  tables_more t x ts m new updates h n =
      let one : Entries = record { number = t; patterns = map raw_of x.entries } in
      updates n
      ∙ ap (λ (o : Option ℕ). cond (bytes_eq x.name n) (Some t) o) (h n)
      ∙ ap (λ (b : Bool). cond b (Some t) (option_map number_of (table_in (suc t) ts n))) (same_is x.name n)
      ∙ table_picked (same_bytes x.name n) one (table_in (suc t) ts n)

-- the entries of a table that is found stand at its number
abbrev pub with_patterns : List (List Bits) → ℕ → Entries
with_patterns es k = record { number = k; patterns = patterns_of es k }

found_case : (es : List (List Bits)) (b : Bool) (t : ℕ) (here : List Bits) (o : Option Entries) → here ≡ get_or es t [] → o ≡ option_map (with_patterns es) (option_map number_of o)
    → let e : Entries = record { number = t; patterns = map raw_of here } in
    (if b then Some e else o) ≡ option_map (with_patterns es) (option_map number_of (if b then Some e else o))
found_case es true t here o h e = ap (λ (z : List Bits). let e : Entries = record { number = t; patterns = map raw_of z } in Some e) h
found_case es false t here o h e = e

found_from : (es : List (List Bits)) (t : ℕ) (ts : List Table) (n : List ℕ) → ((k : ℕ) → get_or (entries_of ts) k [] ≡ get_or es (t + k) [])
    → table_in t ts n ≡ option_map (with_patterns es) (option_map number_of (table_in t ts n))
found_from es t [] n h = refl
found_from es t (x ∷ ts) n h =
    let first : t + 0 ≡ t = omega arith in
    let here : x.entries ≡ get_or es t [] = h 0 ∙ ap (λ (i : ℕ). get_or es i []) first in
    let rest = λ (k : ℕ).
    let same : t + suc k ≡ suc t + k = omega arith in
    h (suc k) ∙ ap (λ (i : ℕ). get_or es i []) same in
    found_case es (same_bytes x.name n) t x.entries (table_in (suc t) ts n) here (found_from es (suc t) ts n rest)

pub table_found : (ts : List Table) (n : List ℕ) (o : Option ℕ) → o ≡ option_map number_of (table_in 0 ts n) → table_in 0 ts n ≡ option_map (with_patterns (entries_of ts)) o
table_found ts n o e =
    let rest = λ (k : ℕ).
    let same : k ≡ 0 + k = omega arith in
    ap (λ (i : ℕ). get_or (entries_of ts) i []) same in
    found_from (entries_of ts) 0 ts n rest ∙ ap (option_map (with_patterns (entries_of ts))) (sym e)
