-- A behaviour has one graph.
use Rattle.std.proofs.Common.{◌≡◌, ◌∙◌, sym, ap, subst, refl, inl, inr, ℕ, zero, suc, ◌<◌, List, [], ◌∷◌, length, map, get_or, Some, Bool}
use Rattle.std.specs.Prelude.{slice_get}
use Rattle.std.proofs.lemmas.Option.{slice_get-get_or}
use Rattle.ix_bits.specs.declared.number.Ty.{Ty}
use Rattle.ix_bits.specs.declared.number.Bits.{Bits}
use Rattle.ix_bits.proofs.Same.{bits_are}
use Rattle.ix_graph.specs.declared.kind.Kind.{Kind}
use Rattle.ix_graph.specs.declared.args.Arg.{Arg}
use Rattle.ix_graph.specs.declared.args.Arg.TheVariants as arg
use Rattle.ix_graph.specs.declared.graph.Op.{Op}
use Rattle.ix_graph.specs.declared.graph.Graph.{Graph}
use Rattle.ix_mean.specs.Terms.{Term, t_const, zero_term, loads, one_term}
use Rattle.ix_mean.specs.Order.{Among, AreApart, roots}
use Rattle.ix_mean.specs.Effects.{start, effect_terms}
use Rattle.ix_mean.proofs.Ordering.{operations_law}
use Rattle.ix_terms.specs.Places.{IsOperation}
use Rattle.ix_flow.specs.Flows.{IsArgOf, AreArgsOf, IsOpOf, AreOpsOf, args_of_term, flag_of}
use Rattle.ix_extension.specs.Extensions.{ExtensionTree}
use Rattle.ix_behaviour.specs.declared.which.Which.{Which}
use Rattle.ix_behaviour.specs.Behaviours.{statement_at, frame_at}
use Rattle.ix_behaviour.specs.Flags.{flags_at}
use Rattle.ix_graph_laws.specs.Operations.{operations_at}
use Rattle.ix_graphs.specs.Graphed.{IsGraphAt}

-- a term that is apart from the others is at one place
among_at : (ts : List Term) (k : ℕ) (t : Term) → slice_get ts k ≡ Some t → Among ts t
among_at [] k t e = cc
among_at (x ∷ ts) zero t e = (let same : x ≡ t = cc in inl (sym same))
among_at (x ∷ ts) (suc k) t e = inr (among_at ts k t e)

one_place : (ts : List Term) (j k : ℕ) (t : Term) → AreApart ts → slice_get ts j ≡ Some t → slice_get ts k ≡ Some t → j ≡ k
one_place [] j k t a e f = cc
one_place (x ∷ ts) zero zero t a e f = refl
one_place (x ∷ ts) zero (suc k) t a e f = (let same : x ≡ t = cc in absurd (a.0 (subst (Among ts) (sym same) (among_at ts k t f))))
one_place (x ∷ ts) (suc j) zero t a e f = (let same : x ≡ t = cc in absurd (a.0 (subst (Among ts) (sym same) (among_at ts j t e))))
one_place (x ∷ ts) (suc j) (suc k) t a e f = ap (λ (n : ℕ). suc n) (one_place ts j k t a.1 e f)

const_parts : (ty other : Ty) (r s : ℕ) → t_const ty r ≡ t_const other s → (ty ≡ other) × (r ≡ s)
const_parts ty other r s e = (cc, cc)

placed : (all : List Term) (n : ℕ) (t : Term) → n < length all → get_or all n zero_term ≡ t → slice_get all n ≡ Some t
placed all n t h e = slice_get-get_or all n zero_term h ∙ ap (λ (z : Term). Some z) e

arg_one : (all : List Term) (t : Term) (a b : Arg) → AreApart all → IsArgOf all t a → IsArgOf all t b → a ≡ b
arg_one all t (arg.Const ty bits) (arg.Const other more) apart p q =
    let parts = const_parts ty other bits.raw more.raw (sym p.0 ∙ q.0) in
    let w : bits.width ≡ more.width = p.1 ∙ ap (λ (z : Ty). z.width) parts.0 ∙ sym q.1 in
    ap (λ (z : Ty). arg.Const z bits) parts.0 ∙ ap (λ (z : Bits). arg.Const other z) (bits_are bits more parts.1 w)
arg_one all t (arg.Const ty bits) (arg.Op n) apart p q = absurd (subst IsOperation p.0 q.0)
arg_one all t (arg.Op n) (arg.Const ty bits) apart p q = absurd (subst IsOperation q.0 p.0)
arg_one all t (arg.Op n) (arg.Op m) apart p q = ap (λ (k : ℕ). arg.Op k) (one_place all n m t apart (placed all n t p.1 p.2) (placed all m t q.1 q.2))

args_one : (all ts : List Term) (as' bs : List Arg) → AreApart all → AreArgsOf all ts as' → AreArgsOf all ts bs → as' ≡ bs
args_one all [] [] [] apart p q = refl
args_one all [] [] (b ∷ bs) apart p q = absurd q
args_one all [] (a ∷ as') bs apart p q = absurd p
args_one all (t ∷ ts) [] bs apart p q = absurd p
args_one all (t ∷ ts) (a ∷ as') [] apart p q = absurd q
args_one all (t ∷ ts) (a ∷ as') (b ∷ bs) apart p q = ap (λ (z : Arg). z ∷ as') (arg_one all t a b apart p.0 q.0) ∙ ap (λ (zs : List Arg). b ∷ zs) (args_one all ts as' bs apart p.1 q.1)

op_one : (all : List Term) (t : Term) (o p : Op) → AreApart all → IsOpOf all t o → IsOpOf all t p → o ≡ p
op_one all t o p apart a b =
    ap (λ (k : Kind). let x : Op = record { kind = k; args = o.args; ty = o.ty } in x) (a.kind_is ∙ sym b.kind_is)
    ∙ ap (λ (l : List Arg). let x : Op = record { kind = p.kind; args = l; ty = o.ty } in x) (args_one all (args_of_term t) o.args p.args apart a.args_are b.args_are)
    ∙ ap (λ (y : Ty). let x : Op = record { kind = p.kind; args = p.args; ty = y } in x) (a.ty_is ∙ sym b.ty_is)

ops_one : (all ts : List Term) (os ps : List Op) → AreApart all → AreOpsOf all ts os → AreOpsOf all ts ps → os ≡ ps
ops_one all [] [] [] apart a b = refl
ops_one all [] [] (p ∷ ps) apart a b = absurd b
ops_one all [] (o ∷ os) ps apart a b = absurd a
ops_one all (t ∷ ts) [] ps apart a b = absurd a
ops_one all (t ∷ ts) (o ∷ os) [] apart a b = absurd b
ops_one all (t ∷ ts) (o ∷ os) (p ∷ ps) apart a b = ap (λ (z : Op). z ∷ os) (op_one all t o p apart a.0 b.0) ∙ ap (λ (zs : List Op). p ∷ zs) (ops_one all ts os ps apart a.1 b.1)

once : (x : ExtensionTree) (w : Which) → AreApart (operations_at x w)
once x w = (operations_law (roots (loads one_term (statement_at x w) (start (frame_at x w))) (effect_terms (frame_at x w) (statement_at x w)).targets)).once

pub one_graph : (x : ExtensionTree) (w : Which) (tables : List (List Bits)) (g h : Graph) → IsGraphAt x w tables g → IsGraphAt x w tables h → g ≡ h
one_graph x w tables g h a b =
    let ops : g.ops ≡ h.ops = ops_one (operations_at x w) (operations_at x w) g.ops h.ops (once x w) a.ops b.ops in
    let flags : g.spawned ≡ h.spawned = a.flags ∙ ap (λ (os : List Op). map (flag_of (flags_at x w)) os) ops ∙ sym b.flags in
    ap (λ (os : List Op). let y : Graph = record { ops = os; spawned = g.spawned; tables = g.tables } in y) ops
    ∙ ap (λ (fs : List Bool). let y : Graph = record { ops = h.ops; spawned = fs; tables = g.tables } in y) flags
    ∙ ap (λ (ts : List (List Bits)). let y : Graph = record { ops = h.ops; spawned = h.spawned; tables = ts } in y) (a.tables_are ∙ sym b.tables_are)
