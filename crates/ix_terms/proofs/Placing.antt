-- Terms of expressions at places of a growing store.
use Rattle.std.proofs.Common.{◌≡◌, ℕ, zero, suc, get_or, ◌<◌, ◌≤◌, refl, sym, ap, subst, ◌∙◌, arith, true, false, List, [], ◌∷◌, ◌++◌, length, map}
use Rattle.std.specs.List.{AllByRecursion}
use Rattle.std.specs.Prelude.{IfOk}
use Rattle.std.proofs.Common.{Result}
use Rattle.ix_bits.specs.declared.memory.Memory.{Memory}
use Rattle.ix_bits.specs.declared.number.Ty.{Ty}
use Rattle.ix_bits.specs.declared.number.Bits.{Bits}
use Rattle.ix_bits.specs.declared.operator.BinOp.{BinOp}
use Rattle.ix_graph.specs.declared.kind.Kind.{Kind}
use Rattle.ix_graph.specs.declared.kind.Kind.TheVariants as k
use Rattle.ix_graph.specs.declared.kind.Kind.TheVariants.{Ne, RdMem}
use Rattle.std.proofs.lemmas.Bool.{cond-true, cond-false}
use Rattle.std.proofs.lemmas.List.{get_or_default}
use Rattle.ix_types.specs.Results.{IsBinaryType}
use Rattle.ix_mean.specs.Core.{u1, u32, Expression, x_slot}
use Rattle.ix_mean.specs.Terms.{Term, t_two, type_of, same_ty, zero_term, make_two, make_entry, make_mux, cast_to, condition, term}
use Rattle.ix_mean.specs.View.{frame_of, patterns_of}
use Rattle.ix_terms.specs.declared.source.Source.{Source}
use Rattle.ix_mean.specs.Typing.{IsTypedExpression, IsOne, IsTerm, IsOf, AreOf}
use Rattle.ix_mean.proofs.Expressions.{term_of, one_at}
use Rattle.ix_mean.proofs.Making.{condition_of}
use Rattle.ix_terms.specs.Stores.{Stock, at, size, Grows, Has}
use Rattle.ix_terms.specs.Places.{IsTermAt, IsPlaced, IsMade, HasTerm}
use Rattle.ix_terms.proofs.Storing.{grown_at}
use Rattle.ix_terms.proofs.Makes.{grows_on, grown_length, has_on, has_as, has_itself, ok_as, term_grown}

-- places below a length name the same terms when the store grows
pub places_kept : (old new : Stock) → Grows old new → (ks : List ℕ) → AllByRecursion (λ k. k < size old) ks → map (at new) ks ≡ map (at old) ks
places_kept old new g [] h = refl
places_kept old new g (k ∷ ks) h = ap (λ (t : Term). t ∷ map (at new) ks) (grown_at old new k g h.0) ∙ ap (λ (ts : List Term). at old k ∷ ts) (places_kept old new g ks h.1)

pub below_kept : (m n : ℕ) → m ≤ n → (ks : List ℕ) → AllByRecursion (λ k. k < m) ks → AllByRecursion (λ k. k < n) ks
below_kept m n l [] h = tt
below_kept m n l (k ∷ ks) h = (omega (arith, h.0), below_kept m n l ks h.1)

pub below_push : (n : ℕ) (ks : List ℕ) (k : ℕ) → AllByRecursion (λ j. j < n) ks → k < n → AllByRecursion (λ j. j < n) (ks ++ k ∷ [])
below_push n [] k h l = (l, tt)
below_push n (j ∷ ks) k h l = (h.0, below_push n ks k h.1 l)

pub placed_on : (f : Source) (old new : Stock) (slots : List ℕ) (p : ℕ) → Grows old new → IsPlaced f old slots p → IsPlaced f new slots p
placed_on f old new slots p g h =
    let l = grown_length old new g in
    record {
      tables_are = g.tables ∙ h.tables_are;
      below = below_kept (size old) (size new) l slots h.below;
      path_below = omega (arith, h.path_below, l);
      slots_are = subst (AreOf f.types.targets f.types.slots) (sym (places_kept old new g slots h.below)) h.slots_are;
      path = subst (IsOf f.types.targets u1) (sym (grown_at old new p g h.path_below)) h.path;
      count = h.count;
    }

-- the term of an expression is the same in a store that has grown
pub term_on : (f : Source) (old new : Stock) (slots : List ℕ) (p : ℕ) (e : Expression) → Grows old new → IsPlaced f old slots p → term (map (at new) slots) (at new p) e ≡ term (map (at old) slots) (at old p) e
term_on f old new slots p e g h =
    ap (λ (xs : List Term). term xs (at new p) e) (places_kept old new g slots h.below) ∙ ap (λ (q : Term). term (map (at old) slots) q e) (grown_at old new p g h.path_below)

-- what the code owes at each return
pub told : (f : Source) (old new : Stock) (slots : List ℕ) (p : ℕ) (e : Expression) (k : ℕ) → IsPlaced f old slots p → IsTypedExpression (frame_of f.types) e → Has old new k (term (map (at old) slots) (at old p) e) → HasTerm f old new slots p e k
told f old new slots p e k h t g =
    let o = term_of (frame_of f.types) (map (at old) slots) (at old p) h.slots_are h.path e t in
    record {
      has = g;
      made = record {
        term = record { within = g.within; targets = f.types.targets; typed = subst (IsTerm f.types.targets) (sym g.is) o.typed };
        ty_is = ap type_of g.is ∙ o.ty_is;
      };
      placed = placed_on f old new slots p g.grows h;
    }

pub made_on : (old new : Stock) (k : ℕ) (ty : Ty) → Grows old new → IsMade old k ty → IsMade new k ty
made_on old new k ty g h = record { term = term_grown old new k g h.term; ty_is = ap type_of (grown_at old new k g h.term.within) ∙ h.ty_is }

pub one_made : (ts : Stock) (k : ℕ) (kind : Kind) (u ty : Ty) → IsMade ts k u → IsOne kind u ty → IsOne kind (type_of (at ts k)) ty
one_made ts k kind u ty m t = one_at kind u (type_of (at ts k)) ty m.ty_is t

pub two_made : (ts : Stock) (j k : ℕ) (op : BinOp) (u v ty : Ty) → IsMade ts j u → IsMade ts k v → IsBinaryType op u v ty → IsBinaryType op (type_of (at ts j)) (type_of (at ts k)) ty
two_made ts j k op u v ty m n t =
    subst (λ (z : Ty). IsBinaryType op z (type_of (at ts k)) ty) (sym m.ty_is) (subst (λ (z : Ty). IsBinaryType op u z ty) (sym n.ty_is) t)

-- ---- the parts of terms
pub load_made : (old mid new : Stock) (ty u : Ty) (a j p n : ℕ) → Has old mid j (cast_to u (at old a)) → p < size old → u ≡ u32
    → Has mid new n (t_two k.RdMem ty (at mid j) (at mid p)) → Has old new n (t_two k.RdMem ty (cast_to u32 (at old a)) (at old p))
load_made old mid new ty u a j p n h l e g =
    has_on old mid new n (t_two k.RdMem ty (at mid j) (at mid p)) (t_two k.RdMem ty (cast_to u32 (at old a)) (at old p)) h.grows
    (ap (λ (t : Term). t_two k.RdMem ty t (at mid p)) (h.is ∙ ap (λ (z : Ty). cast_to z (at old a)) e) ∙ ap (t_two k.RdMem ty (cast_to u32 (at old a))) (grown_at old mid p h.grows l)) g

-- at a return: e is written as d, of which the call made the term
pub told_ok : (f : Source) (old new : Stock) (slots : List ℕ) (p : ℕ) (e d : Expression) (r : Result ℕ Memory) (P : ℕ → Type 0) → IsPlaced f old slots p → IsTypedExpression (frame_of f.types) e → e ≡ d
    → ((k : ℕ) → P k → Has old new k (term (map (at old) slots) (at old p) d)) → IfOk r P → IfOk r (HasTerm f old new slots p e)
told_ok f old new slots p e d r P h t i g o =
    ok_as r P (HasTerm f old new slots p e) (λ n x. told f old new slots p e n h t (subst (λ (z : Expression). Has old new n (term (map (at old) slots) (at old p) z)) (sym i) (g n x))) o

pub told_as : (f : Source) (old new : Stock) (slots : List ℕ) (p : ℕ) (e d : Expression) (k : ℕ) → IsPlaced f old slots p → IsTypedExpression (frame_of f.types) e → e ≡ d
    → Has old new k (term (map (at old) slots) (at old p) d) → HasTerm f old new slots p e k
told_as f old new slots p e d k h t i g = told f old new slots p e k h t (subst (λ (z : Expression). Has old new k (term (map (at old) slots) (at old p) z)) (sym i) g)

-- of one part
pub from_one : (F : Term → Term) (f : Source) (old mid new : Stock) (slots : List ℕ) (p : ℕ) (a : Expression) (j n : ℕ) → HasTerm f old mid slots p a j → Has mid new n (F (at mid j)) → Has old new n (F (term (map (at old) slots) (at old p) a))
from_one F f old mid new slots p a j n g h = has_on old mid new n (F (at mid j)) (F (term (map (at old) slots) (at old p) a)) g.has.grows (ap F g.has.is) h

-- of two parts
pub from_two : (F : Term → Term → Term) (f : Source) (old mid low new : Stock) (slots : List ℕ) (p : ℕ) (a b : Expression) (i j n : ℕ) → IsPlaced f old slots p
    → HasTerm f old mid slots p a i → HasTerm f mid low slots p b j → Has low new n (F (at low i) (at low j)) → Has old new n (F (term (map (at old) slots) (at old p) a) (term (map (at old) slots) (at old p) b))
from_two F f old mid low new slots p a b i j n s g h o =
    has_on old low new n _ _ (grows_on old mid low g.has.grows h.has.grows)
    (ap (λ (t : Term). F t (at low j)) (grown_at mid low i h.has.grows g.has.within ∙ g.has.is)
    ∙ ap (F (term (map (at old) slots) (at old p) a)) (h.has.is ∙ term_on f old mid slots p b g.has.grows s)) o

-- of three parts
pub from_three : (F : Term → Term → Term → Term) (f : Source) (old mid low end new : Stock) (slots : List ℕ) (p : ℕ) (a b c : Expression) (i j m n : ℕ) → IsPlaced f old slots p
    → HasTerm f old mid slots p a i → HasTerm f mid low slots p b j → HasTerm f low end slots p c m → Has end new n (F (at end i) (at end j) (at end m))
    → Has old new n (F (term (map (at old) slots) (at old p) a) (term (map (at old) slots) (at old p) b) (term (map (at old) slots) (at old p) c))
from_three F f old mid low end new slots p a b c i j m n s g h o q =
    let two = grows_on old mid low g.has.grows h.has.grows in
    has_on old end new n _ _ (grows_on old low end two o.has.grows)
    (ap (λ (t : Term). F t (at end j) (at end m)) (grown_at mid end i (grows_on mid low end h.has.grows o.has.grows) g.has.within ∙ g.has.is)
    ∙ ap (λ (t : Term). F (term (map (at old) slots) (at old p) a) t (at end m)) (grown_at low end j o.has.grows h.has.within ∙ h.has.is ∙ term_on f old mid slots p b g.has.grows s)
    ∙ ap (F (term (map (at old) slots) (at old p) a) (term (map (at old) slots) (at old p) b)) (o.has.is ∙ term_on f old low slots p c two s)) q

pub slot_told : (ts : Stock) (slots : List ℕ) (n k : ℕ) → AllByRecursion (λ k. k < size ts) slots → n < length slots → k ≡ get_or slots n k → Has ts ts k (get_or (map (at ts) slots) n zero_term)
slot_told ts (s ∷ slots) zero k b l e =
    let same : k ≡ s = e in
    subst (λ (z : ℕ). Has ts ts z (at ts s)) (sym same) (has_itself ts s b.0)
slot_told ts (s ∷ slots) (suc n) k b l e = slot_told ts slots n k b.1 (omega arith) e
slot_told ts [] n k b l e = absurd (omega arith)

pub condition_made : (old mid new : Stock) (u : Ty) (a z n : ℕ) → Has old mid z zero_term → a < size old → u ≡ u1 → same_ty (type_of (at old a)) u1 ≡ false
    → Has mid new n (make_two Ne u (at mid a) (at mid z)) → Has old new n (condition (at old a))
condition_made old mid new u a z n h l e d g =
    has_on old mid new n (make_two Ne u (at mid a) (at mid z)) (condition (at old a)) h.grows
    (ap (λ (t : Term). make_two Ne u t (at mid z)) (grown_at old mid a h.grows l) ∙ ap (make_two Ne u (at old a)) h.is ∙ ap (λ (y : Ty). make_two Ne y (at old a) zero_term) e
    ∙ sym (cond-false (same_ty (type_of (at old a)) u1) (at old a) (make_two Ne u1 (at old a) zero_term) d)) g

pub condition_kept : (old : Stock) (u : Ty) (a : ℕ) → a < size old → u ≡ u1 → same_ty (type_of (at old a)) u ≡ true → Has old old a (condition (at old a))
condition_kept old u a l e d =
    has_as old old a (at old a) (condition (at old a)) (sym (cond-true (same_ty (type_of (at old a)) u1) (at old a) (make_two Ne u1 (at old a) zero_term) (ap (same_ty (type_of (at old a))) (sym e) ∙ d))) (has_itself old a l)

pub condition_term : (old new : Stock) (a n : ℕ) → IsTermAt old a → Has old new n (condition (at old a)) → IsTermAt new n
condition_term old new a n h g = record { within = g.within; targets = h.targets; typed = subst (IsTerm h.targets) (sym g.is) (condition_of h.targets (at old a) h.typed).typed }

pub choice_made : (old mid new : Stock) (ty : Ty) (c a b t n : ℕ) → Has old mid t (condition (at old c)) → a < size old → b < size old → Has mid new n (make_mux ty (at mid t) (at mid a) (at mid b))
    → Has old new n (make_mux ty (condition (at old c)) (at old a) (at old b))
choice_made old mid new ty c a b t n h la lb g =
    has_on old mid new n _ _ h.grows
    (ap (λ (x : Term). make_mux ty x (at mid a) (at mid b)) h.is ∙ ap (λ (x : Term). make_mux ty (condition (at old c)) x (at mid b)) (grown_at old mid a h.grows la)
    ∙ ap (make_mux ty (condition (at old c)) (at old a)) (grown_at old mid b h.grows lb)) g

pub from_load : (ty : Ty) (f : Source) (old mid new : Stock) (slots : List ℕ) (p : ℕ) (a : Expression) (j n : ℕ) → IsPlaced f old slots p → HasTerm f old mid slots p a j
    → Has mid new n (t_two RdMem ty (cast_to u32 (at mid j)) (at mid p)) → Has old new n (t_two RdMem ty (cast_to u32 (term (map (at old) slots) (at old p) a)) (at old p))
from_load ty f old mid new slots p a j n s g h =
    has_on old mid new n _ _ g.has.grows
    (ap (λ (t : Term). t_two RdMem ty (cast_to u32 t) (at mid p)) g.has.is ∙ ap (t_two RdMem ty (cast_to u32 (term (map (at old) slots) (at old p) a))) (grown_at old mid p g.has.grows s.path_below)) h

pub told_slot : (f : Source) (ts : Stock) (slots : List ℕ) (p n : ℕ) (ty : Ty) (e : Expression) → IsPlaced f ts slots p → IsTypedExpression (frame_of f.types) e → e ≡ x_slot n ty → HasTerm f ts ts slots p e (get_or slots n 0)
told_slot f ts slots p n ty e h t i =
    let u : IsTypedExpression (frame_of f.types) (x_slot n ty) = subst (IsTypedExpression (frame_of f.types)) i t in
    let l : n < length slots = omega (arith, u.0, h.count) in
    let k = get_or slots n 0 in
    told f ts ts slots p e k h t (subst (λ (z : Expression). Has ts ts k (term (map (at ts) slots) (at ts p) z)) (sym i) (slot_told ts slots n k h.below l (get_or_default slots n 0 k l)))

-- an entry of a table of the store's, which is one of the behaviour's
pub from_entry : (n : ℕ) (ty : Ty) (f : Source) (old mid new : Stock) (slots : List ℕ) (p : ℕ) (a : Expression) (j m : ℕ) → IsPlaced f old slots p → HasTerm f old mid slots p a j
    → Has mid new m (make_entry n (patterns_of mid.tables n) ty (at mid j)) → Has old new m (make_entry n (patterns_of f.tables n) ty (term (map (at old) slots) (at old p) a))
from_entry n ty f old mid new slots p a j m s g h =
    has_on old mid new m _ _ g.has.grows
    (ap (λ (z : List (List Bits)). make_entry n (patterns_of z n) ty (at mid j)) (g.has.grows.tables ∙ s.tables_are) ∙ ap (make_entry n (patterns_of f.tables n) ty) g.has.is) h
