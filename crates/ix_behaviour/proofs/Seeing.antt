-- What names stand for in typing is what they are resolved to.
use Rattle.std.proofs.Common.{◌≡◌, ◌∙◌, sym, ap, refl, ℕ, suc, ◌+◌, ◌<◌, ◌≤◌, arith, ℤ, pos, negsuc, List, [], ◌∷◌, length, map, get_or, Option, Some, None, Bool, true, false, cond}
use Rattle.std.specs.Prelude.{unsigned_abs, int_le, int_lt}
use Rattle.std.proofs.lemmas.Bool.{leb-true, le-leb, ltb-true}
use Rattle.ix_bits.specs.declared.number.Ty.{Ty}
use Rattle.ix_tree.specs.Lexing.{same_bytes}
use Rattle.ix_tree.specs.declared.extension.Register.{Register}
use Rattle.ix_typing.specs.declared.role.Role.{Role}
use Rattle.ix_typing.specs.declared.role.Role.TheVariants as R
use Rattle.ix_typing.specs.declared.role.Named.{Named}
use Rattle.ix_typing.specs.Names.{role_of}
use Rattle.ix_mean.specs.Core.{u1}
use Rattle.ix_mean.specs.Typing.{AreEntriesOf}
use Rattle.ix_mean.specs.ByName.{Names, Numbered, register_in, Entries, table_in}
use Rattle.ix_mean.specs.Resolving.{Slot, slot_in, IsFieldOf}
use Rattle.ix_behaviour.specs.Behaviours.{type_of_register}
use Rattle.ix_behaviour.specs.Tables.{IsTableRead}

-- ---- numbers
pub positive_is : (z : ℤ) → int_le (pos 0) z ≡ true → z ≡ pos (unsigned_abs z)
positive_is (pos n) e = refl
positive_is (negsuc n) e = cc

pub order_is : (l h : ℤ) → int_le (pos 0) l ≡ true → int_le l h ≡ true → unsigned_abs l ≤ unsigned_abs h
order_is (pos l) (pos h) e f = leb-true l h f
order_is (pos l) (negsuc h) e f = cc
order_is (negsuc l) h e f = cc

pub least_is : (l h : ℤ) → int_le (pos 0) l ≡ true → int_le l h ≡ true → int_le (pos 0) h ≡ true
least_is (pos l) (pos h) e f = le-leb 0 h (omega arith)
least_is (pos l) (negsuc h) e f = cc
least_is (negsuc l) h e f = cc

pub below_is : (h : ℤ) (n : ℕ) → int_le (pos 0) h ≡ true → int_lt h (pos n) ≡ true → unsigned_abs h < n
below_is (pos h) n e f = ltb-true h n f
below_is (negsuc h) n e f = cc

-- ---- registers
-- the register that a name stands for has its type at its place
pub record IsPlaced (r : ℕ) (xs : List Register) (q : Numbered) : Type 0 where
  pub place : ℕ
  pub is : q.number ≡ r + place
  pub within : place < length xs
  pub ty_is : get_or (map type_of_register xs) place u1 ≡ q.ty

some_same : (x y : Numbered) → Some x ≡ Some y → x ≡ y
some_same x y e = cc

pub placed_in : (r : ℕ) (xs : List Register) (n : List ℕ) (q : Numbered) → register_in r xs n ≡ Some q → IsPlaced r xs q
placed_in r [] n q e = cc
placed_in r (x ∷ xs) n q e = by (same_bytes x.name n) e (λ f. placed_in (suc r) xs n q f)
  where
    by : (b : Bool) → cond b (Some (record { number = r; ty = x.ty })) (register_in (suc r) xs n) ≡ Some q → (register_in (suc r) xs n ≡ Some q → IsPlaced (suc r) xs q) → IsPlaced r (x ∷ xs) q
    by true f g =
        let same = some_same (record { number = r; ty = x.ty }) q f in
        record { place = 0; is = sym (ap (λ (z : Numbered). z.number) same) ∙ omega arith; within = omega arith; ty_is = ap (λ (z : Numbered). z.ty) same }
    by false f g =
        let h = g f in
        record { place = suc h.place; is = omega (arith, h.is); within = omega (arith, h.within); ty_is = h.ty_is }

-- ---- roles
-- what a name is resolved to, where o is the local of that name: a local has a slot of its type, and nothing else has the name
abbrev pub Stands : Names → List Ty → Option Slot → List ℕ → Option Role → Type 0
Stands ns slots o n None = (o ≡ None) × (register_in 0 ns.registers n ≡ None) × (table_in 0 ns.tables n ≡ None)
Stands ns slots o n (Some (R.Local ty)) =
    (table_in 0 ns.tables n ≡ None) × ((l : Slot) × (o ≡ Some l) × (l.ty ≡ ty) × (l.slot < length slots) × (get_or slots l.slot u1 ≡ ty))
Stands ns slots o n (Some (R.Register k ty)) = (o ≡ None) × (table_in 0 ns.tables n ≡ None) × ((r : Numbered) × (register_in 0 ns.registers n ≡ Some r) × (r.ty ≡ ty))
Stands ns slots o n (Some (R.Table k shape)) =
    (o ≡ None) × (register_in 0 ns.registers n ≡ None)
    × ((t : Entries) × (table_in 0 ns.tables n ≡ Some t) × (length t.patterns ≡ shape.length) × AreEntriesOf shape.ty t.patterns × IsTableRead ns.tables t.number t.patterns shape.ty)
Stands ns slots o n (Some (R.Field f)) = (o ≡ None) × (register_in 0 ns.registers n ≡ None) × (table_in 0 ns.tables n ≡ None) × IsFieldOf ns.pieces n f.ty

-- each name stands for what it is resolved to
abbrev pub Sees : Names → List Ty → List Named → List Slot → Type 0
Sees ns slots names ls = (n : List ℕ) → Stands ns slots (slot_in ls n) n (role_of names n)
