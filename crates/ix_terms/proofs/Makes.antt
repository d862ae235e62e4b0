-- What is made by places is what is made of the terms there.
use Rattle.std.proofs.Common.{◌≡◌, ℕ, ◌+◌, ◌-◌, ◌<◌, ◌≤◌, ◌^◌, refl, sym, ap, subst, ◌∙◌, arith, Bool, true, false, cond, List, [], ◌++◌, length, ℤ, pos, negsuc, ◌-ℤ◌, ⊎_elim, append_assoc, length-append, get_or, Result, Ok, Err}
use Rattle.std.specs.Prelude.{IfOk, unsigned_abs, int_lt}
use Rattle.std.proofs.lemmas.Int.{ints}
use Rattle.std.proofs.lemmas.Bool.{cases_lt}
use Rattle.ix_bits.specs.Types.{number_of}
use Rattle.std.proofs.lemmas.List.{append-nil}
use Rattle.ix_bits.specs.declared.number.Ty.{Ty}
use Rattle.ix_bits.specs.declared.number.Bits.{Bits}
use Rattle.ix_bits.specs.declared.operator.BinOp.{BinOp}
use Rattle.ix_bits.specs.Operators.{pattern_of, binary_number}
use Rattle.ix_bits.proofs.Patterns.{pattern_of_number, number_below, number_above}
use Rattle.ix_graph.specs.declared.kind.Kind.{Kind}
use Rattle.ix_graph.specs.declared.kind.Kind.TheVariants as k
use Rattle.ix_bits.specs.declared.number.Value.{Value}
use Rattle.ix_mean.specs.View.{seen}
use Rattle.ix_mean.specs.Meaning.{one_number}
use Rattle.ix_mean.specs.Terms.{Term, t_const, t_read, t_one, t_entry, t_two, t_three, same_term, make_one, make_entry, make_two, make_mux, kind_of, operator_number}
use Rattle.ix_bits.specs.declared.memory.Memory.{Memory}
use Rattle.ix_mean.proofs.Expressions.{binary_kind}
use Rattle.ix_mean.proofs.Evaluating.{raw_below}
use Rattle.ix_mean.specs.Typing.{IsTerm}
use Rattle.ix_mean.specs.View.{patterns_of}
use Rattle.ix_terms.specs.Stores.{Stock, at, size, Grows, Has}
use Rattle.ix_terms.specs.Places.{IsOperation, IsTermAt}
use Rattle.ix_terms.proofs.Storing.{grown_at}

-- ---- growing
pub grows_itself : (ts : Stock) → Grows ts ts
grows_itself ts = record { tables = refl; rest = []; whole = sym (append-nil ts.terms) }

pub grows_on : (a b c : Stock) → Grows a b → Grows b c → Grows a c
grows_on a b c g h = record {
  tables = h.tables ∙ g.tables;
  rest = g.rest ++ h.rest;
  whole = h.whole ∙ ap (λ (ts : List Term). ts ++ h.rest) g.whole ∙ append_assoc a.terms g.rest h.rest;
}

pub grown_length : (old new : Stock) → Grows old new → size old ≤ size new
grown_length old new g = omega (arith, ap (λ (ts : List Term). length ts) g.whole, length-append old.terms g.rest)

pub has_itself : (ts : Stock) (k : ℕ) → k < size ts → Has ts ts k (at ts k)
has_itself ts k h = record { grows = grows_itself ts; within = h; is = refl }

pub has_as : (old new : Stock) (k : ℕ) (t u : Term) → t ≡ u → Has old new k t → Has old new k u
has_as old new k t u e h = subst (Has old new k) e h

pub has_on : (a b c : Stock) (k : ℕ) (t u : Term) → Grows a b → t ≡ u → Has b c k t → Has a c k u
has_on a b c k t u g e h = record { grows = grows_on a b c g h.grows; within = h.within; is = h.is ∙ e }

pub term_grown : (old new : Stock) (k : ℕ) → Grows old new → IsTermAt old k → IsTermAt new k
term_grown old new k g h = record {
  within = omega (arith, grown_length old new g, h.within);
  targets = h.targets;
  typed = subst (IsTerm h.targets) (sym (grown_at old new k g h.within)) h.typed;
}

-- ---- a number without its sign
negative_magnitude : (z : ℤ) (p raw : ℕ) → raw < p → z ≡ pos raw -ℤ pos p → p - 1 - raw + 1 ≡ unsigned_abs z
negative_magnitude (pos k) p raw l e = absurd (omega (arith, ints))
negative_magnitude (negsuc m) p raw l e = omega (arith, ints)

below_zero : (s : Bool) (w raw : ℕ) → raw < 2 ^ w → int_lt (number_of s w raw) (pos 0) ≡ true → number_of s w raw ≡ pos raw -ℤ pos (2 ^ w)
below_zero false w raw l e = absurd (omega (arith, ints, e))
below_zero true w raw l e =
    ⊎_elim
    (λ (b : raw < 2 ^ (w - 1)). (let f = rw (number_below w raw b) at e in absurd (omega (arith, ints, f))))
    (λ (a : 2 ^ (w - 1) ≤ raw). number_above w raw a)
    (cases_lt raw (2 ^ (w - 1)))

pub magnitude_of : (v : Value) (n : ℕ) → n ≡ 2 ^ v.ty.width - 1 → int_lt (seen v) (pos 0) ≡ true → n - v.bits.raw + 1 ≡ unsigned_abs (seen v)
magnitude_of v n e h =
    ap (λ (m : ℕ). m - v.bits.raw + 1) e ∙ negative_magnitude (seen v) (2 ^ v.ty.width) v.bits.raw (raw_below v) (below_zero v.ty.signed v.ty.width v.bits.raw (raw_below v) h)

-- ---- operations that are not folded
pub one_kept : (kind : Kind) (ty : Ty) (t : Term) → IsOperation t → t_one kind ty t ≡ make_one kind ty t
one_kept kind ty (t_const a raw) h = absurd h
one_kept kind ty (t_read _ _) h = refl
one_kept kind ty (t_one _ _ _) h = refl
one_kept kind ty (t_entry _ _ _ _) h = refl
one_kept kind ty (t_two _ _ _ _) h = refl
one_kept kind ty (t_three _ _ _ _ _) h = refl

pub two_kept_first : (kind : Kind) (ty : Ty) (s t : Term) → IsOperation s → t_two kind ty s t ≡ make_two kind ty s t
two_kept_first kind ty (t_const a raw) t h = absurd h
two_kept_first kind ty (t_read _ _) t h = refl
two_kept_first kind ty (t_one _ _ _) t h = refl
two_kept_first kind ty (t_entry _ _ _ _) t h = refl
two_kept_first kind ty (t_two _ _ _ _) t h = refl
two_kept_first kind ty (t_three _ _ _ _ _) t h = refl

pub two_kept_second : (kind : Kind) (ty a : Ty) (raw : ℕ) (t : Term) → IsOperation t → t_two kind ty (t_const a raw) t ≡ make_two kind ty (t_const a raw) t
two_kept_second kind ty a raw (t_const _ _) h = absurd h
two_kept_second kind ty a raw (t_read _ _) h = refl
two_kept_second kind ty a raw (t_one _ _ _) h = refl
two_kept_second kind ty a raw (t_entry _ _ _ _) h = refl
two_kept_second kind ty a raw (t_two _ _ _ _) h = refl
two_kept_second kind ty a raw (t_three _ _ _ _ _) h = refl

pub entry_kept : (n : ℕ) (es : List ℕ) (ty : Ty) (t : Term) → IsOperation t → t_entry n es ty t ≡ make_entry n es ty t
entry_kept n es ty (t_const a raw) h = absurd h
entry_kept n es ty (t_read _ _) h = refl
entry_kept n es ty (t_one _ _ _) h = refl
entry_kept n es ty (t_entry _ _ _ _) h = refl
entry_kept n es ty (t_two _ _ _ _) h = refl
entry_kept n es ty (t_three _ _ _ _ _) h = refl

pub mux_kept : (ty : Ty) (c x y : Term) → IsOperation c → cond (same_term x y) x (t_three k.Mux ty c x y) ≡ make_mux ty c x y
mux_kept ty (t_const a raw) x y h = absurd h
mux_kept ty (t_read _ _) x y h = refl
mux_kept ty (t_one _ _ _) x y h = refl
mux_kept ty (t_entry _ _ _ _) x y h = refl
mux_kept ty (t_two _ _ _ _) x y h = refl
mux_kept ty (t_three _ _ _ _ _) x y h = refl

-- the pattern of a value that was computed
pub pattern_is : (v : Value) (ty : Ty) (n : ℤ) → v.ty ≡ ty → seen v ≡ n → v.bits.raw ≡ pattern_of ty.width n
pattern_is v ty n e f = sym (pattern_of_number v.ty.signed v.ty.width v.bits.raw v.ty.some_width (raw_below v)) ∙ ap (pattern_of v.ty.width) f ∙ ap (λ (t : Ty). pattern_of t.width n) e

pub ok_as : {A E : Type 0} (r : Result A E) (P Q : A → Type 0) → ((a : A) → P a → Q a) → IfOk r P → IfOk r Q
ok_as (Ok a) P Q f h = f a h
ok_as (Err e) P Q f h = h

pub one_folded : (old new : Stock) (kind : Kind) (ty : Ty) (a : ℕ) (v w : Value) (r : Result ℕ Memory) → at old a ≡ t_const v.ty v.bits.raw → w.ty ≡ ty → seen w ≡ one_number kind v.ty ty (seen v)
    → IfOk r (λ k. Has old new k (t_const w.ty w.bits.raw)) → IfOk r (λ k. Has old new k (make_one kind ty (at old a)))
one_folded old new kind ty a v w r e f g h =
    ok_as r (λ k. Has old new k (t_const w.ty w.bits.raw)) (λ k. Has old new k (make_one kind ty (at old a)))
    (λ k p. has_as old new k (t_const w.ty w.bits.raw) (make_one kind ty (at old a))
    (ap (λ (t : Ty). t_const t w.bits.raw) f ∙ ap (t_const ty) (pattern_is w ty (one_number kind v.ty ty (seen v)) f g) ∙ ap (make_one kind ty) (sym e)) p)
    h

pub two_folded : (old new : Stock) (op : BinOp) (ty : Ty) (a b : ℕ) (v u w : Value) (r : Result ℕ Memory) → at old a ≡ t_const v.ty v.bits.raw → at old b ≡ t_const u.ty u.bits.raw → w.ty ≡ ty
    → seen w ≡ binary_number op v.ty (seen v) u.ty (seen u)
    → IfOk r (λ k. Has old new k (t_const w.ty w.bits.raw)) → IfOk r (λ k. Has old new k (make_two (kind_of op) ty (at old a) (at old b)))
two_folded old new op ty a b v u w r e d f g h =
    ok_as r (λ k. Has old new k (t_const w.ty w.bits.raw)) (λ k. Has old new k (make_two (kind_of op) ty (at old a) (at old b)))
    (λ k p. has_as old new k (t_const w.ty w.bits.raw) (make_two (kind_of op) ty (at old a) (at old b))
    (ap (λ (t : Ty). t_const t w.bits.raw) f
    ∙ ap (t_const ty) (pattern_is w ty (binary_number op v.ty (seen v) u.ty (seen u)) f g
    ∙ ap (λ o. pattern_of ty.width (operator_number o v.ty (seen v) u.ty (seen u))) (sym (binary_kind op)))
    ∙ ap (λ (t : Term). make_two (kind_of op) ty t (t_const u.ty u.bits.raw)) (sym e)
    ∙ ap (make_two (kind_of op) ty (at old a)) (sym d)) p)
    h

pub entry_folded : (old new : Stock) (n : ℕ) (tables : List (List Bits)) (ty : Ty) (a : ℕ) (v : Value) (m raw : ℕ) (r : Result ℕ Memory) → at old a ≡ t_const v.ty v.bits.raw → tables ≡ old.tables
    → m ≡ unsigned_abs (seen v) → raw ≡ get_or (patterns_of tables n) m 0
    → IfOk r (λ k. Has old new k (t_const ty raw)) → IfOk r (λ k. Has old new k (make_entry n (patterns_of old.tables n) ty (at old a)))
entry_folded old new n tables ty a v m raw r e f g i h =
    ok_as r (λ k. Has old new k (t_const ty raw)) (λ k. Has old new k (make_entry n (patterns_of old.tables n) ty (at old a)))
    (λ k p. has_as old new k (t_const ty raw) (make_entry n (patterns_of old.tables n) ty (at old a))
    (ap (t_const ty) (i ∙ ap (λ (z : List (List Bits)). get_or (patterns_of z n) m 0) f ∙ ap (λ (z : ℕ). get_or (patterns_of old.tables n) z 0) g)
    ∙ ap (make_entry n (patterns_of old.tables n) ty) (sym e)) p)
    h
