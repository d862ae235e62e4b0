-- Only memory is written at an address.
use Rattle.std.proofs.Common.{◌≡◌, refl, ℕ, zero, suc, ◌+◌, arith, ℤ, pos, Bool, true, false, cond, List, [], ◌∷◌, map, set, get_or, Option, Some, None}
use Rattle.ix_bits.specs.declared.number.Ty.{Ty}
use Rattle.ix_bits.specs.declared.operator.BinOp.{BinOp}
use Rattle.ix_bits.specs.Operators.{is_true}
use Rattle.ix_tree.specs.TypedTrees.{TypedDeclTree, TypedLvalueTree, tl_name, tl_pc, tl_x, tl_mem, TypedStmtTree, ts_block, ts_empty, ts_locals, ts_assign, ts_if, ts_if_else, ts_spawn, TypedRow, typed_end, typed_more, type_of}
use Rattle.ix_mean.specs.Meaning.{Inputs, Write}
use Rattle.ix_mean.specs.Effects.{no_write}
use Rattle.ix_mean.specs.ByName.{Names, Local, local_in, Numbered, register_in, number_by_name}
use Rattle.ix_mean.specs.EffectByName.{Doing, leaves, type_of_text, first_number, all_declared, assigns_register, assigns_name, assigns, does, does_row}
use Rattle.ix_behaviour.specs.Behaviours.{does_all}

-- writes without an address
abbrev pub ArePlain : List (Option Write) → Type 0
ArePlain [] = Unit {0}
ArePlain (None ∷ ts) = ArePlain ts
ArePlain (Some w ∷ ts) = (w.address ≡ pos 0) × ArePlain ts

-- all targets but memory, which is the first
abbrev pub HavePlain : List (Option Write) → Type 0
HavePlain [] = Unit {0}
HavePlain (t ∷ ts) = ArePlain ts

plain_set : (ts : List (Option Write)) (n : ℕ) (z : ℤ) → ArePlain ts → ArePlain (set ts n (Some (record { value = z; address = pos 0 })))
plain_set [] n z h = tt
plain_set (None ∷ ts) zero z h = (refl, h)
plain_set (Some w ∷ ts) zero z h = (refl, h.1)
plain_set (None ∷ ts) (suc n) z h = plain_set ts n z h
plain_set (Some w ∷ ts) (suc n) z h = (h.0, plain_set ts n z h.1)

have_set : (ts : List (Option Write)) (n : ℕ) (z : ℤ) → HavePlain ts → HavePlain (set ts (suc n) (Some (record { value = z; address = pos 0 })))
have_set [] n z h = tt
have_set (t ∷ ts) n z h = plain_set ts n z h

have_first : (ts : List (Option Write)) (w : Write) → HavePlain ts → HavePlain (set ts 0 (Some w))
have_first [] w h = tt
have_first (t ∷ ts) w h = h

have_register : (ts : List (Option Write)) (r : ℕ) (z : ℤ) → HavePlain ts → HavePlain (set ts (3 + r) (Some (record { value = z; address = pos 0 })))
have_register ts r z h =
    let e : suc (suc (suc r)) ≡ 3 + r = omega arith in
    let P : ℕ → Type 0 = λ n. HavePlain (set ts n (Some (record { value = z; address = pos 0 }))) in
    Rattle.std.proofs.Common.subst P e (have_set ts (suc (suc r)) z h)

module _ (ns : Names) (i : Inputs) where
  declared_plain : (ty : Ty) (ds : List TypedDeclTree) (d : Doing) → HavePlain d.targets → HavePlain (all_declared ns i ty ds d).targets
  declared_plain ty [] d h = h
  declared_plain ty (x ∷ xs) d h = declared_plain ty xs (record { locals = record { name = x.name; ty = ty; number = first_number ns i d.locals x.value } ∷ d.locals; targets = d.targets }) h

  register_plain : (op : Option BinOp) (a : Ty) (z : ℤ) (o : Option Numbered) (d : Doing) → HavePlain d.targets → HavePlain (assigns_register i op a z o d).targets
  register_plain op a z None d h = h
  register_plain op a z (Some r) d h = have_register d.targets r.number _ h

  name_plain : (op : Option BinOp) (n : List ℕ) (a : Ty) (z : ℤ) (o : Option Local) (d : Doing) → HavePlain d.targets → HavePlain (assigns_name ns i op n a z o d).targets
  name_plain op n a z None d h = register_plain op a z (register_in 0 ns.registers n) d h
  name_plain op n a z (Some l) d h = h

  assigns_plain : (op : Option BinOp) (x : TypedLvalueTree) (a : Ty) (z : ℤ) (d : Doing) → HavePlain d.targets → HavePlain (assigns ns i op x a z d).targets
  assigns_plain op (tl_name n) a z d h = name_plain op n a z (local_in d.locals n) d h
  assigns_plain op tl_pc a z d h = have_set d.targets 1 _ h
  assigns_plain op (tl_x f) a z d h = have_set d.targets 0 z h
  assigns_plain op (tl_mem e None) a z d h = have_first d.targets _ h
  assigns_plain op (tl_mem e (Some f)) a z d h = have_first d.targets _ h

  either_plain : (b : Bool) (d e : Doing) → HavePlain d.targets → HavePlain e.targets → HavePlain (cond b d e).targets
  either_plain true d e h g = h
  either_plain false d e h g = g

  mutual
    does_plain : (x : TypedStmtTree) (d : Doing) → HavePlain d.targets → HavePlain (does ns i x d).targets
    does_plain (ts_block s all) d h = row_plain all d h
    does_plain (ts_empty s) d h = h
    does_plain (ts_locals s ty ds) d h = declared_plain (type_of_text ty) ds d h
    does_plain (ts_assign s a) d h = assigns_plain a.op a.target.tree (type_of a.value) (number_by_name ns i d.locals a.value) d h
    does_plain (ts_if s c x) d h = either_plain (is_true (number_by_name ns i d.locals c)) (leaves d (does ns i x d)) d (does_plain x d h) h
    does_plain (ts_if_else s c x y) d h = either_plain (is_true (number_by_name ns i d.locals c)) (leaves d (does ns i x d)) (leaves d (does ns i y d)) (does_plain x d h) (does_plain y d h)
    does_plain (ts_spawn s x) d h = does_plain x d h

    row_plain : (all : TypedRow) (d : Doing) → HavePlain d.targets → HavePlain (does_row ns i all d).targets
    row_plain typed_end d h = h
    row_plain (typed_more x rest) d h = row_plain rest (does ns i x d) (does_plain x d h)

  pub all_plain : (xs : List TypedStmtTree) (d : Doing) → HavePlain d.targets → HavePlain (does_all ns i xs d).targets
  all_plain [] d h = h
  all_plain (x ∷ xs) d h = all_plain xs (does ns i x d) (does_plain x d h)

none_plain : (tys : List Ty) → ArePlain (map no_write tys)
none_plain [] = tt
none_plain (ty ∷ tys) = none_plain tys

pub start_plain : (tys : List Ty) → HavePlain (map no_write tys)
start_plain [] = tt
start_plain (ty ∷ tys) = none_plain tys

-- ---- what is written, without its address where it is not memory
abbrev pub without : ℕ → Option Write → Option Write
without n None = None
without zero (Some w) = Some w
without (suc n) (Some w) = Some (record { value = w.value; address = pos 0 })

plain_same : (n : ℕ) (o : Option Write) (w : Write) → w.address ≡ pos 0 → without (suc n) (Some w) ≡ Some w
plain_same n o w e = Rattle.std.proofs.Common.ap (λ (z : ℤ). let v : Write = record { value = w.value; address = z } in Some v) (Rattle.std.proofs.Common.sym e)

plain_at : (ts : List (Option Write)) (n m : ℕ) → ArePlain ts → without (suc m) (get_or ts n None) ≡ get_or ts n None
plain_at [] n m h = refl
plain_at (None ∷ ts) zero m h = refl
plain_at (Some w ∷ ts) zero m h = plain_same m None w h.0
plain_at (None ∷ ts) (suc n) m h = plain_at ts n m h
plain_at (Some w ∷ ts) (suc n) m h = plain_at ts n m h.1

memory_same : (o : Option Write) → without 0 o ≡ o
memory_same None = refl
memory_same (Some w) = refl

pub plain_target : (ts : List (Option Write)) (n : ℕ) → HavePlain ts → without n (get_or ts n None) ≡ get_or ts n None
plain_target ts zero h = memory_same (get_or ts 0 None)
plain_target [] (suc n) h = refl
plain_target (t ∷ ts) (suc n) h = plain_at ts n n h
