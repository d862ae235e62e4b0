-- What is found of custom registers and tables by their names.
use Rattle.std.specs.Prelude.{◌≡◌, ℕ, List, map, Option, option_map, String}
use Rattle.std.specs.BTreeMap.{BTreeMap, get_by_text}
use Rattle.ix_bits.specs.declared.number.Bits.{Bits}
use Rattle.ix_tree.specs.declared.extension.Piece.{Piece}
use Rattle.ix_tree.specs.declared.extension.Register.{Register}
use Rattle.ix_tree.specs.declared.extension.Table.{Table}
use Rattle.ix_mean.specs.ByName.{Names, Numbered, register_in, Entries, table_in}
use Rattle.ix_slots.specs.declared.names.Custom.{Custom}

abbrev pub names_of : List Piece → List Register → List Table → Names
names_of ps rs ts = record { pieces = ps; registers = rs; tables = ts }

abbrev pub entries_in : Table → List Bits
entries_in t = t.entries

-- the entries of all tables, by their numbers
abbrev pub entries_of : List Table → List (List Bits)
entries_of ts = map entries_in ts

abbrev pub custom_of : Numbered → Custom
custom_of r = record { number = r.number; ty = r.ty }

abbrev pub numbered : Custom → Numbered
numbered r = record { number = r.number; ty = r.ty }

abbrev pub custom_at : List Register → List ℕ → Option Custom
custom_at rs n = option_map custom_of (register_in 0 rs n)

abbrev pub number_of : Entries → ℕ
number_of t = t.number

abbrev pub table_at : List Table → List ℕ → Option ℕ
table_at ts n = option_map number_of (table_in 0 ts n)

-- a map has the custom register of each name
abbrev pub AreCustoms : {Y : Type 0} → List Register → BTreeMap (String Y) Custom → Type 0
AreCustoms rs m = (n : List ℕ) → get_by_text m n ≡ custom_at rs n

-- a map has the number of the table of each name
abbrev pub AreTables : {Y : Type 0} → List Table → BTreeMap (String Y) ℕ → Type 0
AreTables ts m = (n : List ℕ) → get_by_text m n ≡ table_at ts n
