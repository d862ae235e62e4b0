-- What an instruction does asks for no register but those that it names, and writes no other.
use Rattle.std.proofs.Common.{◌≡◌, ℕ, zero, suc, List, [], ◌∷◌, get_or, Option, Some, None, Bool, true, false, refl, sym, ap, ◌∙◌, subst, arith}
use Rattle.std.specs.Prelude.{◌&&◌, ◌||◌, not, if◌then◌else◌, ◌==◌, option_map, is_some}
use Rattle.std.proofs.lemmas.Bool.Decides.{nat_tests}
use Rattle.rv_isa.specs.declared.base.Base.{Base}
use Rattle.rv_isa.specs.declared.rows.TheConstants.{FENCE}
use Rattle.rv_isa.specs.declared.table.Format.{Format}
use Rattle.rv_isa.specs.declared.table.Format.TheVariants as F
use Rattle.rv_isa.specs.Table.{base_formats, format_of, row_of}
use Rattle.rv_isa.specs.Fields.{fields_of, rd_of, rs1_of, rs2_of}
use Rattle.rv_isa.specs.Decoded.{decoded}
use Rattle.rv_base.specs.declared.operation.Operation.{Operation}
use Rattle.rv_base.specs.declared.operation.Operation.TheVariants as O
use Rattle.rv_base.specs.declared.operation.Size.{Size}
use Rattle.rv_base.specs.Operations.{bytes_in, operations, operation_at}
use Rattle.rv_base.specs.Effects.{result_as, result_at, target_as, target_at, address_at, load_as, load_at, loaded_at, store_as, store_at}
use Rattle.rv_seq.specs.BaseEffects.{base_access, base_store, base_rd, base_effect}
use Rattle.ix_eval.specs.declared.effect.Effect.{Effect}
use Rattle.ix_mean.specs.Meaning.{Inputs}

abbrev pub source_1 : Base → ℕ
source_1 b = if b.row == FENCE then 0 else b.rs1

abbrev pub destination_of : Base → ℕ
destination_of b = if b.row == FENCE then 0 else b.rd

-- ---- by the operation

abbrev pub uses_1 : Operation → Bool
uses_1 O.Upper = false
uses_1 O.UpperFromPc = false
uses_1 O.Jump = false
uses_1 O.JumpRegister = true
uses_1 (O.Branch test) = true
uses_1 (O.Load size) = true
uses_1 (O.LoadUnsigned size) = true
uses_1 (O.Store size) = true
uses_1 (O.Immediate op) = true
uses_1 (O.Register op) = true
uses_1 O.Fence = false
uses_1 O.Call = false
uses_1 O.Break = false

abbrev pub uses_2 : Operation → Bool
uses_2 O.Upper = false
uses_2 O.UpperFromPc = false
uses_2 O.Jump = false
uses_2 O.JumpRegister = false
uses_2 (O.Branch test) = true
uses_2 (O.Load size) = false
uses_2 (O.LoadUnsigned size) = false
uses_2 (O.Store size) = true
uses_2 (O.Immediate op) = false
uses_2 (O.Register op) = true
uses_2 O.Fence = false
uses_2 O.Call = false
uses_2 O.Break = false

abbrev pub writes : Operation → Bool
writes O.Upper = true
writes O.UpperFromPc = true
writes O.Jump = true
writes O.JumpRegister = true
writes (O.Branch test) = false
writes (O.Load size) = true
writes (O.LoadUnsigned size) = true
writes (O.Store size) = false
writes (O.Immediate op) = true
writes (O.Register op) = true
writes O.Fence = false
writes O.Call = false
writes O.Break = false

target_same : (op : Operation) (b : Base) (at x y x' y' : ℕ) → (uses_1 op ≡ true → x ≡ x') → (uses_2 op ≡ true → y ≡ y') → target_as op b at x y ≡ target_as op b at x' y'
target_same O.Upper b at x y x' y' f g = refl
target_same O.UpperFromPc b at x y x' y' f g = refl
target_same O.Jump b at x y x' y' f g = refl
target_same O.JumpRegister b at x y x' y' f g = ap (λ z. target_as O.JumpRegister b at z y) (f refl)
target_same (O.Branch test) b at x y x' y' f g = ap (λ z. target_as (O.Branch test) b at z y) (f refl) ∙ ap (λ z. target_as (O.Branch test) b at x' z) (g refl)
target_same (O.Load size) b at x y x' y' f g = refl
target_same (O.LoadUnsigned size) b at x y x' y' f g = refl
target_same (O.Store size) b at x y x' y' f g = refl
target_same (O.Immediate op) b at x y x' y' f g = refl
target_same (O.Register op) b at x y x' y' f g = refl
target_same O.Fence b at x y x' y' f g = refl
target_same O.Call b at x y x' y' f g = refl
target_same O.Break b at x y x' y' f g = refl

result_same : (op : Operation) (b : Base) (at x y x' y' : ℕ) → (uses_1 op ≡ true → x ≡ x') → (uses_2 op ≡ true → y ≡ y') → result_as op b at x y ≡ result_as op b at x' y'
result_same O.Upper b at x y x' y' f g = refl
result_same O.UpperFromPc b at x y x' y' f g = refl
result_same O.Jump b at x y x' y' f g = refl
result_same O.JumpRegister b at x y x' y' f g = refl
result_same (O.Branch test) b at x y x' y' f g = refl
result_same (O.Load size) b at x y x' y' f g = refl
result_same (O.LoadUnsigned size) b at x y x' y' f g = refl
result_same (O.Store size) b at x y x' y' f g = refl
result_same (O.Immediate op) b at x y x' y' f g = ap (λ z. result_as (O.Immediate op) b at z y) (f refl)
result_same (O.Register op) b at x y x' y' f g = ap (λ z. result_as (O.Register op) b at z y) (f refl) ∙ ap (λ z. result_as (O.Register op) b at x' z) (g refl)
result_same O.Fence b at x y x' y' f g = refl
result_same O.Call b at x y x' y' f g = refl
result_same O.Break b at x y x' y' f g = refl

result_writes : (op : Operation) (b : Base) (at x y v : ℕ) → result_as op b at x y ≡ Some v → writes op ≡ true
result_writes O.Upper b at x y v h = refl
result_writes O.UpperFromPc b at x y v h = refl
result_writes O.Jump b at x y v h = refl
result_writes O.JumpRegister b at x y v h = refl
result_writes (O.Branch test) b at x y v h = cc
result_writes (O.Load size) b at x y v h = cc
result_writes (O.LoadUnsigned size) b at x y v h = cc
result_writes (O.Store size) b at x y v h = cc
result_writes (O.Immediate op) b at x y v h = refl
result_writes (O.Register op) b at x y v h = refl
result_writes O.Fence b at x y v h = cc
result_writes O.Call b at x y v h = cc
result_writes O.Break b at x y v h = cc

load_uses : (op : Operation) (size : Size) → load_as op ≡ Some size → (uses_1 op ≡ true) × (writes op ≡ true)
load_uses O.Upper size h = cc
load_uses O.UpperFromPc size h = cc
load_uses O.Jump size h = cc
load_uses O.JumpRegister size h = cc
load_uses (O.Branch test) size h = cc
load_uses (O.Load s) size h = (refl, refl)
load_uses (O.LoadUnsigned s) size h = (refl, refl)
load_uses (O.Store s) size h = cc
load_uses (O.Immediate op) size h = cc
load_uses (O.Register op) size h = cc
load_uses O.Fence size h = cc
load_uses O.Call size h = cc
load_uses O.Break size h = cc

store_uses : (op : Operation) (size : Size) → store_as op ≡ Some size → (uses_1 op ≡ true) × (uses_2 op ≡ true)
store_uses O.Upper size h = cc
store_uses O.UpperFromPc size h = cc
store_uses O.Jump size h = cc
store_uses O.JumpRegister size h = cc
store_uses (O.Branch test) size h = cc
store_uses (O.Load s) size h = cc
store_uses (O.LoadUnsigned s) size h = cc
store_uses (O.Store s) size h = (refl, refl)
store_uses (O.Immediate op) size h = cc
store_uses (O.Register op) size h = cc
store_uses O.Fence size h = cc
store_uses O.Call size h = cc
store_uses O.Break size h = cc

load_same : (b : Base) (x x' : ℕ) (o : Option Size) → ((size : Size) → o ≡ Some size → x ≡ x') → option_map (base_access b x) o ≡ option_map (base_access b x') o
load_same b x x' None f = refl
load_same b x x' (Some size) f = ap (λ z. Some (base_access b z size)) (f size refl)

store_same : (b : Base) (x y x' y' : ℕ) (o : Option Size) → ((size : Size) → o ≡ Some size → (x ≡ x') × (y ≡ y')) → option_map (base_store b x y) o ≡ option_map (base_store b x' y') o
store_same b x y x' y' None f = refl
store_same b x y x' y' (Some size) f = let e = f size refl in ap (λ z. Some (base_store b z y size)) e.0 ∙ ap (λ z. Some (base_store b x' z size)) e.1

-- operands that agree where they are used

pub record SameUsed (b : Base) (x y x' y' : ℕ) : Type 0 where
  pub first : uses_1 (operation_at b.row) ≡ true → x ≡ x'
  pub second : uses_2 (operation_at b.row) ≡ true → y ≡ y'

-- what an instruction of the base set does but for rd
pub record IsSameButRd (e f : Effect) : Type 0 where
  pub pc : e.pc ≡ f.pc
  pub custom : e.custom ≡ f.custom
  pub load : e.load ≡ f.load
  pub store : e.store ≡ f.store

pub base_same : (b : Base) (i j : Inputs) → i.pc ≡ j.pc → SameUsed b i.rs1 i.rs2 j.rs1 j.rs2 → IsSameButRd (base_effect b i) (base_effect b j)
base_same b i j at h =
    let op = operation_at b.row in
    record {
      pc = ap (λ (z : ℕ). target_at b z i.rs1 i.rs2) at ∙ target_same op b j.pc i.rs1 i.rs2 j.rs1 j.rs2 h.first h.second;
      custom = refl;
      load = load_same b i.rs1 j.rs1 (load_at b) (λ size e. h.first (load_uses op size e).0);
      store = store_same b i.rs1 i.rs2 j.rs1 j.rs2 (store_at b) (λ size e. (h.first (store_uses op size e).0, h.second (store_uses op size e).1));
    }

pub base_rd_same : (b : Base) (i j : Inputs) → i.pc ≡ j.pc → SameUsed b i.rs1 i.rs2 j.rs1 j.rs2 → (is_some (load_at b) ≡ true → i.memory ≡ j.memory) → (base_effect b i).rd ≡ (base_effect b j).rd
base_rd_same b i j at h m = by (load_at b) refl m
  where
    by : (o : Option Size) → load_at b ≡ o → (is_some o ≡ true → i.memory ≡ j.memory) → base_rd b i o ≡ base_rd b j o
    by None e f = ap (λ (z : ℕ). result_at b z i.rs1 i.rs2) at ∙ result_same (operation_at b.row) b j.pc i.rs1 i.rs2 j.rs1 j.rs2 h.first h.second
    by (Some size) e f =
        ap (λ (z : ℕ → ℕ → ℕ). Some (loaded_at b (z (address_at b i.rs1) (bytes_in size)))) (f refl)
        ∙ ap (λ (z : ℕ). Some (loaded_at b (j.memory (address_at b z) (bytes_in size)))) (h.first (load_uses (operation_at b.row) size e).0)

pub base_rd_writes : (b : Base) (i : Inputs) (v : ℕ) → (base_effect b i).rd ≡ Some v → writes (operation_at b.row) ≡ true
base_rd_writes b i v h = by (load_at b) refl h
  where
    by : (o : Option Size) → load_at b ≡ o → base_rd b i o ≡ Some v → writes (operation_at b.row) ≡ true
    by None e q = result_writes (operation_at b.row) b i.pc i.rs1 i.rs2 v q
    by (Some size) e q = (load_uses (operation_at b.row) size e).1

-- ---- the fields of a word

abbrev has_1 : Format → Bool
has_1 F.Register = true
has_1 F.Immediate = true
has_1 F.Shift = true
has_1 F.Store = true
has_1 F.Branch = true
has_1 F.Upper = false
has_1 F.Jump = false
has_1 F.Fixed = false

abbrev has_2 : Format → Bool
has_2 F.Register = true
has_2 F.Immediate = false
has_2 F.Shift = false
has_2 F.Store = true
has_2 F.Branch = true
has_2 F.Upper = false
has_2 F.Jump = false
has_2 F.Fixed = false

abbrev has_rd : Format → Bool
has_rd F.Register = true
has_rd F.Immediate = true
has_rd F.Shift = true
has_rd F.Store = false
has_rd F.Branch = false
has_rd F.Upper = true
has_rd F.Jump = true
has_rd F.Fixed = false

-- the format has the fields that the operation uses
abbrev agree : Operation → Format → Bool
agree o f = (not (uses_1 o) || has_1 f) && ((not (uses_2 o) || has_2 f) && (not (writes o) || has_rd f))

abbrev all_agree : List Operation → List Format → Bool
all_agree [] fs = true
all_agree (o ∷ os) [] = false
all_agree (o ∷ os) (f ∷ fs) = agree o f && all_agree os fs

first_of : (a b : Bool) → (a && b) ≡ true → a ≡ true
first_of true b h = refl
first_of false b h = h

second_of : (a b : Bool) → (a && b) ≡ true → b ≡ true
second_of true b h = h
second_of false b h = cc

implied : (a b : Bool) → (not a || b) ≡ true → a ≡ true → b ≡ true
implied true b h e = h
implied false b h e = cc

agree_at : (os : List Operation) (fs : List Format) (n : ℕ) → all_agree os fs ≡ true → agree (get_or os n O.Break) (get_or fs n F.Fixed) ≡ true
agree_at [] fs zero h = refl
agree_at [] fs (suc n) h = refl
agree_at (o ∷ os) [] n h = cc
agree_at (o ∷ os) (f ∷ fs) zero h = first_of (agree o f) (all_agree os fs) h
agree_at (o ∷ os) (f ∷ fs) (suc n) h = agree_at os fs n (second_of (agree o f) (all_agree os fs) h)

row_agrees : (row : ℕ) → agree (operation_at row) (format_of row) ≡ true
unfolding format_of base_formats
row_agrees row = agree_at operations base_formats row refl

fields_row : (f : Format) (row word : ℕ) → (fields_of f row word).row ≡ row
unfolding fields_of
fields_row F.Register row word = refl
fields_row F.Immediate row word = refl
fields_row F.Shift row word = refl
fields_row F.Store row word = refl
fields_row F.Branch row word = refl
fields_row F.Upper row word = refl
fields_row F.Jump row word = refl
fields_row F.Fixed row word = refl

fields_1 : (f : Format) (row word : ℕ) → has_1 f ≡ true → (fields_of f row word).rs1 ≡ rs1_of word
unfolding fields_of
fields_1 F.Register row word h = refl
fields_1 F.Immediate row word h = refl
fields_1 F.Shift row word h = refl
fields_1 F.Store row word h = refl
fields_1 F.Branch row word h = refl
fields_1 F.Upper row word h = cc
fields_1 F.Jump row word h = cc
fields_1 F.Fixed row word h = cc

fields_2 : (f : Format) (row word : ℕ) → has_2 f ≡ true → (fields_of f row word).rs2 ≡ rs2_of word
unfolding fields_of
fields_2 F.Register row word h = refl
fields_2 F.Immediate row word h = cc
fields_2 F.Shift row word h = cc
fields_2 F.Store row word h = refl
fields_2 F.Branch row word h = refl
fields_2 F.Upper row word h = cc
fields_2 F.Jump row word h = cc
fields_2 F.Fixed row word h = cc

fields_rd : (f : Format) (row word : ℕ) → has_rd f ≡ true → (fields_of f row word).rd ≡ rd_of word
unfolding fields_of
fields_rd F.Register row word h = refl
fields_rd F.Immediate row word h = refl
fields_rd F.Shift row word h = refl
fields_rd F.Store row word h = cc
fields_rd F.Branch row word h = cc
fields_rd F.Upper row word h = refl
fields_rd F.Jump row word h = refl
fields_rd F.Fixed row word h = cc

-- the registers that an instruction names are those of its word, where they are used
pub record Names (b : Base) (word : ℕ) : Type 0 where
  pub first : uses_1 (operation_at b.row) ≡ true → source_1 b ≡ rs1_of word
  pub second : uses_2 (operation_at b.row) ≡ true → b.rs2 ≡ rs2_of word
  pub target : writes (operation_at b.row) ≡ true → destination_of b ≡ rd_of word

-- an instruction that uses or writes a register is no FENCE
not_fence : (f : Operation → Bool) (row : ℕ) → f O.Fence ≡ false → f (operation_at row) ≡ true → (row == FENCE) ≡ false
not_fence f row none h = by_case (row == FENCE) refl where
  same : (m n : ℕ) → (m == n) ≡ true → m ≡ n
  same m n e = grind (arith, nat_tests)

  by_case : (t : Bool) → (row == FENCE) ≡ t → t ≡ false
  by_case false e = refl
  by_case true e = cc (sym h ∙ ap (λ r. f (operation_at r)) (same row FENCE e) ∙ none)

unless_fence : (t : Bool) (n : ℕ) → t ≡ false → (if t then 0 else n) ≡ n
unless_fence false n e = refl
unless_fence true n e = cc

names_at : (row word : ℕ) → Names (fields_of (format_of row) row word) word
names_at row word =
    let b = fields_of (format_of row) row word in
    let r = fields_row (format_of row) row word in
    let ok = row_agrees row in
    let op = operation_at row in
    let one = implied (uses_1 op) (has_1 (format_of row)) (first_of (not (uses_1 op) || has_1 (format_of row)) _ ok) in
    let rest = second_of (not (uses_1 op) || has_1 (format_of row)) _ ok in
    let two = implied (uses_2 op) (has_2 (format_of row)) (first_of (not (uses_2 op) || has_2 (format_of row)) _ rest) in
    let three = implied (writes op) (has_rd (format_of row)) (second_of (not (uses_2 op) || has_2 (format_of row)) _ rest) in
    record {
      first = λ h. unless_fence (b.row == FENCE) b.rs1 (not_fence uses_1 b.row refl h) ∙ fields_1 (format_of row) row word (one (ap (λ n. uses_1 (operation_at n)) (sym r) ∙ h));
      second = λ h. fields_2 (format_of row) row word (two (ap (λ n. uses_2 (operation_at n)) (sym r) ∙ h));
      target = λ h. unless_fence (b.row == FENCE) b.rd (not_fence writes b.row refl h) ∙ fields_rd (format_of row) row word (three (ap (λ n. writes (operation_at n)) (sym r) ∙ h));
    }

pub names : (b : Base) (word : ℕ) → decoded word ≡ Some b → Names b word
unfolding decoded
names b word h = by_case (row_of word) h where
  by_case : (o : Option ℕ) → option_map (λ row. fields_of (format_of row) row word) o ≡ Some b → Names b word
  by_case None e = cc
  by_case (Some row) e = let same : fields_of (format_of row) row word ≡ b = cc in subst (λ c. Names c word) same (names_at row word)
