-- The operations of terms: the distinct subterms that are no constants, in postorder of their first occurrence (this project's choice).
use Rattle.std.specs.Prelude.{◌≡◌, ◌⊎◌, ℕ, zero, suc, List, [], ◌∷◌, ◌++◌, map, Bool, if◌then◌else◌}
use Rattle.std.specs.List.{list_any, flat_map}
use Rattle.ix_graph.specs.declared.kind.Kind.TheVariants as k
use Rattle.ix_mean.specs.Core.{u1}
use Rattle.ix_mean.specs.Terms.{Term, t_const, t_read, t_one, t_entry, t_two, t_three, same_term, zero_term, Entry, Load}

-- the subterms that are no constants: arguments from left to right, and then the term
abbrev pub postorder : Term → List Term
postorder (t_const ty raw) = []
postorder (t_read k ty) = t_read k ty ∷ []
postorder (t_one k ty a) = postorder a ++ t_one k ty a ∷ []
postorder (t_entry n es ty a) = postorder a ++ t_entry n es ty a ∷ []
postorder (t_two k ty a b) = postorder a ++ postorder b ++ t_two k ty a b ∷ []
postorder (t_three k ty a b c) = postorder a ++ postorder b ++ postorder c ++ t_three k ty a b c ∷ []

abbrev pub has_term : List Term → Term → Bool
has_term ts t = list_any (same_term t) ts

-- a term is put behind those before it, where it is not among them
abbrev pub add_term : List Term → Term → List Term
add_term ts t = if has_term ts t then ts else ts ++ t ∷ []

-- each term of a list once, at its first place
abbrev pub add_all : List Term → List Term → List Term
add_all ts [] = ts
add_all ts (u ∷ us) = add_all (add_term ts u) us

abbrev pub operations : List Term → List Term
operations roots = add_all [] (flat_map postorder roots)

-- ---- the roots: the load, and a write for each target that may be written
abbrev pub load_root : Load → Term
load_root l = t_two k.RdMem l.ty l.address l.condition

-- the write of a target by its number: memory, rd, PC, and the custom registers
abbrev pub write_root : ℕ → Entry → Term
write_root zero e = t_three k.WrMem u1 e.address e.value e.condition
write_root (suc zero) e = t_two k.WrRD u1 e.value e.condition
write_root (suc (suc zero)) e = t_two k.WrPC u1 e.value e.condition
write_root (suc (suc (suc r))) e = t_two (k.WrCustReg r) u1 e.value e.condition

abbrev pub write_roots : ℕ → List Entry → List Term
write_roots n [] = []
write_roots n (e ∷ es) = if same_term e.condition zero_term then write_roots (suc n) es else write_root n e ∷ write_roots (suc n) es

abbrev pub roots : List Load → List Entry → List Term
roots ls es = map load_root ls ++ write_roots 0 es

-- ---- terms among others
abbrev pub Among : List Term → Term → Type 0
Among [] t = ⊥
Among (x ∷ xs) t = (t ≡ x) ⊎ Among xs t

-- each operation's subterms are there with it
abbrev pub IsClosed : List Term → Type 0
IsClosed ts = (t u : Term) → Among ts t → Among (postorder t) u → Among ts u

-- each stands once
abbrev pub AreApart : List Term → Type 0
AreApart [] = Unit {0}
AreApart (t ∷ ts) = (Among ts t → ⊥) × AreApart ts

-- the operations are the subterms of the roots that are no constants, each once and with its own subterms
pub record AreOperations (roots : List Term) : Type 0 where
  pub all : (t : Term) → Among (flat_map postorder roots) t → Among (operations roots) t
  pub only : (t : Term) → Among (operations roots) t → Among (flat_map postorder roots) t
  pub once : AreApart (operations roots)
  pub closed : IsClosed (operations roots)

abbrev pub OperationsLaw : Type 0
OperationsLaw = (roots : List Term) → AreOperations roots
