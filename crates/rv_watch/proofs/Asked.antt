-- The registers that an instruction asks for are those that there are.
use Rattle.std.proofs.Common.{◌≡◌, ℕ, ◌<◌, ⊎_elim, Option, Some, None, Bool, true, false, refl, sym, ap, subst, arith, lit<}
use Rattle.std.specs.Prelude.{if◌then◌else◌, ◌==◌, ◌&&◌, ◌||◌, not, slice_index_or, option_map}
use Rattle.std.proofs.lemmas.Bool.{eqb-true, or_cases}
use Rattle.ix_extension.specs.Extensions.{view_extension}
use Rattle.ix_plan.specs.declared.design.Design.{Design}
use Rattle.ix_plan.specs.declared.design.Target.TheVariants.{X}
use Rattle.rv_isa.specs.declared.base.Base.{Base}
use Rattle.rv_isa.specs.declared.rows.TheConstants.{FENCE}
use Rattle.rv_isa.specs.declared.table.Format.{Format}
use Rattle.rv_isa.specs.declared.table.Format.TheVariants as F
use Rattle.rv_isa.specs.Table.{format_of, row_of}
use Rattle.rv_isa.specs.Fields.{fields_of, rd_of, rs1_of, rs2_of}
use Rattle.rv_isa.specs.Decoded.{decoded}
use Rattle.rv_seq.specs.declared.decoded.Decoded.{Decoded}
use Rattle.rv_seq.specs.declared.decoded.Decoded.TheVariants as D
use Rattle.rv_seq.specs.Decoding.{decoded_in, base_or_own, own_from}
use Rattle.rv_asks.specs.declared.asks.Asks.{Asks}
use Rattle.rv_asks.specs.declared.asks.Outline.{Outline}
use Rattle.rv_asks.specs.Asks.{where_so, some_so, with_word, outlines_in, blank_in, asks_in}
use Rattle.rv_unit.specs.Numbering.{unit_of}
use Rattle.rv_lawful.specs.Outstanding.{is_register, touches}
use Rattle.rv_lawful.specs.LawfulTrace.{reads_of}
use Rattle.rv_lawful.specs.Sight.{asked}

-- its x registers are below 32
pub record AsksFew (a : Asks) : Type 0 where
  pub first : a.first < 32
  pub second : a.second < 32
  pub destination : a.destination < 32
  pub spawned : (r : ℕ) → a.spawned ≡ Some r → r < 32

rd_few : (word : ℕ) → rd_of word < 32
rd_few word = omega arith

first_few : (word : ℕ) → rs1_of word < 32
first_few word = omega arith

second_few : (word : ℕ) → rs2_of word < 32
second_few word = omega arith

where_few : (b : Bool) (n : ℕ) → n < 32 → where_so b n < 32
where_few true n h = h
where_few false n h = lit< tt

some_few : (b : Bool) (n r : ℕ) → n < 32 → some_so b n ≡ Some r → r < 32
some_few true n r h e = let same : n ≡ r = cc in subst (λ m. m < 32) same h
some_few false n r h e = cc

word_few : (word : ℕ) (unit : Option ℕ) (o : Outline) → AsksFew (with_word word unit o)
word_few word unit o = record {
  first = where_few o.first (rs1_of word) (first_few word);
  second = where_few o.second (rs2_of word) (second_few word);
  destination = where_few o.destination (rd_of word) (rd_few word);
  spawned = λ r e. some_few o.spawned (rd_of word) r (rd_few word) e;
}

-- the fields of a base instruction
record HasFewFields (b : Base) : Type 0 where
  rd : b.rd < 32
  rs1 : b.rs1 < 32
  rs2 : b.rs2 < 32

fields_few : (f : Format) (row w : ℕ) → HasFewFields (fields_of f row w)
unfolding fields_of
fields_few F.Register row w = record { rd = rd_few w; rs1 = first_few w; rs2 = second_few w }
fields_few F.Immediate row w = record { rd = rd_few w; rs1 = first_few w; rs2 = lit< tt }
fields_few F.Shift row w = record { rd = rd_few w; rs1 = first_few w; rs2 = lit< tt }
fields_few F.Store row w = record { rd = lit< tt; rs1 = first_few w; rs2 = second_few w }
fields_few F.Branch row w = record { rd = lit< tt; rs1 = first_few w; rs2 = second_few w }
fields_few F.Upper row w = record { rd = rd_few w; rs1 = lit< tt; rs2 = lit< tt }
fields_few F.Jump row w = record { rd = rd_few w; rs1 = lit< tt; rs2 = lit< tt }
fields_few F.Fixed row w = record { rd = lit< tt; rs1 = lit< tt; rs2 = lit< tt }

base_of : (o : Option Base) (n : Option ℕ) (b : Base) → base_or_own o n ≡ Some (D.Base b) → o ≡ Some b
base_of None None b e = cc
base_of None (Some n) b e = cc
base_of (Some c) n b e = (let same : c ≡ b = cc in ap (λ (z : Base). Some z) same)

row_few : (word : ℕ) (o : Option ℕ) (b : Base) → option_map (λ row. fields_of (format_of row) row word) o ≡ Some b → HasFewFields b
row_few word None b e = cc
row_few word (Some row) b e = (let same : fields_of (format_of row) row word ≡ b = cc in subst HasFewFields same (fields_few (format_of row) row word))

decoded_few : (word : ℕ) (b : Base) → decoded word ≡ Some b → HasFewFields b
unfolding decoded
decoded_few word b e = row_few word (row_of word) b e

fence_few : (b : Bool) (n : ℕ) → n < 32 → (if b then 0 else n) < 32
fence_few true n h = lit< tt
fence_few false n h = h

asked_at : (d : Design) (word : ℕ) (o : Option Decoded) → ((b : Base) → o ≡ Some (D.Base b) → HasFewFields b) → AsksFew (asks_in d word o)
unfolding asks_in
asked_at d word None h = word_few word None (blank_in d)
asked_at d word (Some (D.Base b)) h =
    let f = h b refl in
    record { first = fence_few (b.row == FENCE) b.rs1 f.rs1; second = f.rs2; destination = fence_few (b.row == FENCE) b.rd f.rd; spawned = λ r e. cc e }
asked_at d word (Some (D.Own n)) h = word_few word (unit_of d.plans n) (slice_index_or (outlines_in d) n (blank_in d))

pub asked_few : (d : Design) (word : ℕ) → AsksFew (asked d word)
unfolding decoded_in
asked_few d word = asked_at d word (decoded_in (view_extension d.extension) word) (λ b e. decoded_few word b (base_of (decoded word) (own_from 0 (view_extension d.extension).instructions word) b e))

-- ---- registers that are read, or touched
both : (a b : Bool) → (a && b) ≡ true → b ≡ true
both true b e = e
both false b e = cc

one_of : (r a b : ℕ) → a < 32 → b < 32 → ((r == a) || (r == b)) ≡ true → r < 32
one_of r a b f g e =
    ⊎_elim (λ (i : (r == a) ≡ true). subst (λ n. n < 32) (sym (eqb-true r a i)) f) (λ (i : (r == b) ≡ true). subst (λ n. n < 32) (sym (eqb-true r b i)) g) (or_cases (r == a) (r == b) e)

pub read_few : (a : Asks) (r : ℕ) → AsksFew a → reads_of a r ≡ true → r < 32
read_few a r h e = one_of r a.first a.second h.first h.second (both (not (r == 0)) ((r == a.first) || (r == a.second)) e)

register_few : (o : Option ℕ) (r : ℕ) → ((n : ℕ) → o ≡ Some n → n < 32) → is_register o r ≡ true → r < 32
register_few None r h e = cc
register_few (Some n) r h e = subst (λ m. m < 32) (eqb-true n r e) (h n refl)

three_of : (r a b c : ℕ) → a < 32 → b < 32 → c < 32 → ((r == a) || ((r == b) || (r == c))) ≡ true → r < 32
three_of r a b c f g h e =
    ⊎_elim (λ (i : (r == a) ≡ true). subst (λ n. n < 32) (sym (eqb-true r a i)) f) (λ (i : ((r == b) || (r == c)) ≡ true). one_of r b c g h i) (or_cases (r == a) ((r == b) || (r == c)) e)

pub touched_few : (a : Asks) (r : ℕ) → AsksFew a → touches a (X r) ≡ true → r < 32
touched_few a r h e =
    ⊎_elim (λ (i : (not (r == 0) && ((r == a.first) || ((r == a.second) || (r == a.destination)))) ≡ true). three_of r a.first a.second a.destination h.first h.second h.destination (both (not (r == 0)) ((r == a.first) || ((r == a.second) || (r == a.destination))) i))
    (λ (i : is_register a.spawned r ≡ true). register_few a.spawned r h.spawned i)
    (or_cases (not (r == 0) && ((r == a.first) || ((r == a.second) || (r == a.destination)))) (is_register a.spawned r) e)
