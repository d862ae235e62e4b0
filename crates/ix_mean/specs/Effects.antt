-- Behaviours from their start, and the laws on their terms.
use Rattle.std.specs.Prelude.{◌≡◌, ℤ, pos, List, [], ◌∷◌, map, Option, None}
use Rattle.ix_bits.specs.declared.number.Ty.{Ty}
use Rattle.ix_bits.specs.Types.{HoldsNumber}
use Rattle.ix_mean.specs.Core.{u32, Expression, type_of_expression, Statement}
use Rattle.ix_mean.specs.Meaning.{Inputs, number, Write, Numbers, run, Access, reads}
use Rattle.ix_mean.specs.Terms.{Term, t_const, Entry, Terms, zero_term, one_term, run_terms, loads, denoted, active}
use Rattle.ix_mean.specs.Typing.{Frame, IsTypedExpression, IsTypedStatement, IsState, AreInputs}

-- ---- the start: each slot is 0, and nothing is written
abbrev pub no_write : Ty → Option Write
no_write ty = None

abbrev pub nothing : Ty → ℤ
nothing ty = pos 0

abbrev pub started : Frame → Numbers
started f = record { slots = map nothing f.slots; targets = map no_write f.targets }

abbrev pub zero_of_type : Ty → Term
zero_of_type ty = t_const ty 0

abbrev pub no_entry : Ty → Entry
no_entry ty = record { condition = zero_term; value = zero_of_type ty; address = zero_of_type u32 }

abbrev pub start : Frame → Terms
start f = record { slots = map zero_of_type f.slots; targets = map no_entry f.targets }

-- ---- the effect of a behaviour, on numbers and on terms
abbrev pub effect : Frame → Statement → Inputs → Numbers
effect f x i = run i x (started f)

abbrev pub effect_reads : Frame → Statement → Inputs → List Access
effect_reads f x i = reads i x (started f)

abbrev pub effect_terms : Frame → Statement → Terms
effect_terms f x = run_terms one_term x (start f)

-- ---- laws
abbrev pub AreNumbers : List Ty → List ℤ → Type 0
AreNumbers [] [] = Unit {0}
AreNumbers (ty ∷ tys) (n ∷ ns) = HoldsNumber ty n × AreNumbers tys ns
AreNumbers _ _ = ⊥

-- the number of an expression lies in its type
abbrev pub NumberLaw : Type 0
NumberLaw = (f : Frame) (i : Inputs) (s : List ℤ) (e : Expression) → AreInputs f.targets i → AreNumbers f.slots s → IsTypedExpression f e → HoldsNumber (type_of_expression e) (number i s e)

-- under any inputs a target is written exactly where its condition is not 0, and then with its value; the loads whose condition is not 0 are the reads
pub record KeepsEffect (f : Frame) (x : Statement) (i : Inputs) : Type 0 where
  pub writes : denoted i (effect_terms f x) ≡ effect f x i
  pub reads_are : active i (loads one_term x (start f)) ≡ effect_reads f x i

abbrev pub EffectLaw : Type 0
EffectLaw = (f : Frame) (x : Statement) (i : Inputs) → IsTypedStatement f x → AreInputs f.targets i → KeepsEffect f x i

-- the terms have the types of their slots and targets
abbrev pub TypesLaw : Type 0
TypesLaw = (f : Frame) (x : Statement) → IsTypedStatement f x → IsState f (effect_terms f x)
