-- Where two inputs agree on what operations read, the terms of these operations have the same numbers.
use Rattle.std.proofs.Common.{◌≡◌, refl, sym, ap, subst, ◌∙◌, inl, inr, ⊎_elim, ℕ, zero, suc, ◌+◌, arith, ℤ, Bool, true, false, cond, List, [], ◌∷◌, ◌++◌, map, get_or, Option, Some, None}
use Rattle.std.specs.Prelude.{slice_get, option_map, Contains}
use Rattle.std.specs.List.{flat_map}
use Rattle.std.proofs.lemmas.Option.{slice_get-get_or, slice_get_within, get_or_from_slice_get}
use Rattle.ix_bits.specs.declared.number.Ty.{Ty}
use Rattle.ix_bits.specs.Operators.{value_of, is_true}
use Rattle.ix_graph.specs.declared.kind.Kind.{Kind}
use Rattle.ix_graph.specs.declared.kind.Kind.TheVariants as k
use Rattle.ix_graph.specs.declared.args.Arg.{Arg}
use Rattle.ix_graph.specs.declared.args.Arg.TheVariants as arg
use Rattle.ix_graph.specs.declared.graph.Op.{Op}
use Rattle.ix_mean.specs.Meaning.{Inputs, one_number, entry_number, Write, Access}
use Rattle.ix_mean.specs.Terms.{Term, t_const, t_read, t_one, t_entry, t_two, t_three, type_of, two_number, value, same_term, zero_term, Entry, Load, entry_value, active}
use Rattle.ix_mean.specs.Order.{postorder, Among, operations, load_root, write_root, write_roots, roots}
use Rattle.ix_mean.proofs.Same.{same_term_is}
use Rattle.ix_mean.proofs.Ordering.{among_left, among_right, among_last, operations_law}
use Rattle.ix_terms.specs.Places.{IsOperation}
use Rattle.ix_flow.specs.Flows.{kind_of_term, args_of_term, IsArgOf, AreArgsOf, IsOpOf, AreOpsOf, target_of}
use Rattle.ix_depends.specs.Depends.{Agrees, IsClosed, AreLowWrites, AreLowLoads, value_of_write}

-- ---- terms and operations at places
pub record IsTermOp (all : List Term) (os : List Op) (n : ℕ) (t : Term) : Type 0 where
  pub op : Op
  pub there : slice_get os n ≡ Some op
  pub is : IsOpOf all t op

pub term_op : (all ts : List Term) (os : List Op) (n : ℕ) (t : Term) → AreOpsOf all ts os → slice_get ts n ≡ Some t → IsTermOp all os n t
term_op all [] os n t h e = cc
term_op all (s ∷ ts) [] n t h e = absurd h
term_op all (s ∷ ts) (p ∷ os) zero t h e = (let same : s ≡ t = cc in record { op = p; there = refl; is = subst (λ (z : Term). IsOpOf all z p) same h.0 })
term_op all (s ∷ ts) (p ∷ os) (suc n) t h e = let r = term_op all ts os n t h.1 e in record { op = r.op; there = r.there; is = r.is }

pub record IsAt (ts : List Term) (t : Term) : Type 0 where
  pub place : ℕ
  pub there : slice_get ts place ≡ Some t

pub among_place : (ts : List Term) (t : Term) → Among ts t → IsAt ts t
among_place [] t h = absurd h
among_place (x ∷ ts) t h =
    ⊎_elim (λ (e : t ≡ x). record { place = 0; there = ap (λ (z : Term). Some z) (sym e) })
    (λ (m : Among ts t). let p = among_place ts t m in record { place = suc p.place; there = p.there }) h

last_in : (t : Term) → IsOperation t → Among (postorder t) t
last_in (t_const ty raw) o = absurd o
last_in (t_read kind ty) o = inl refl
last_in (t_one kind ty a) o = among_last (postorder a) (t_one kind ty a)
last_in (t_entry n es ty a) o = among_last (postorder a) (t_entry n es ty a)
last_in (t_two kind ty a b) o = among_last (postorder a ++ postorder b) (t_two kind ty a b)
last_in (t_three kind ty a b c) o = among_last (postorder a ++ postorder b ++ postorder c) (t_three kind ty a b c)

under : (rs : List Term) (r : Term) → Among rs r → IsOperation r → Among (flat_map postorder rs) r
under [] r m o = absurd m
under (x ∷ rs) r m o =
    ⊎_elim (λ (e : r ≡ x). among_left (postorder x) (flat_map postorder rs) r (subst (λ (z : Term). Among (postorder z) r) e (last_in r o)))
    (λ (l : Among rs r). among_right (postorder x) (flat_map postorder rs) r (under rs r l o)) m

-- a root is an operation at a place
root_at : (rs : List Term) (r : Term) → Among rs r → IsOperation r → IsAt (operations rs) r
root_at rs r m o = among_place (operations rs) r ((operations_law rs).all r (under rs r m o))

contains_at : (xs : List Arg) (n : ℕ) (x : Arg) → slice_get xs n ≡ Some x → Contains xs x
contains_at xs n x h = (n, slice_get_within xs n x h, get_or_from_slice_get xs n x x h)

-- ---- numbers of two arguments
two_same : (i j : Inputs) (kind : Kind) (ty a b : Ty) (x y : ℤ) → (kind ≡ k.RdMem → i.memory ≡ j.memory) → two_number i kind ty a x b y ≡ two_number j kind ty a x b y
two_same i j k.RdMem ty a b x y m = ap (λ (z : ℕ → ℕ → ℕ). two_number (record { word = i.word; rs1 = i.rs1; rs2 = i.rs2; pc = i.pc; custom = i.custom; memory = z }) k.RdMem ty a x b y) (m refl)
two_same i j _ ty a b x y m = refl

-- ---- roots of entries
write_among : (m n : ℕ) (es : List Entry) (e : Entry) → slice_get es n ≡ Some e → same_term e.condition zero_term ≡ false → Among (write_roots m es) (write_root (m + n) e)
write_among m n [] e h f = cc
write_among m zero (x ∷ es) e h f =
    let same : x ≡ e = cc in
    let P : ℕ → Type 0 = λ z. Among (write_roots m (x ∷ es)) (write_root z e) in
    let at : m ≡ m + 0 = omega arith in
    subst P at (by (same_term x.condition zero_term) (ap (λ (z : Entry). same_term z.condition zero_term) same ∙ f) same)
  where
    by : (b : Bool) → b ≡ false → x ≡ e → Among (cond b (write_roots (suc m) es) (write_root m x ∷ write_roots (suc m) es)) (write_root m e)
    by true p s = cc
    by false p s = inl (ap (write_root m) (sym s))
write_among m (suc n) (x ∷ es) e h f =
    let P : ℕ → Type 0 = λ z. Among (write_roots m (x ∷ es)) (write_root z e) in
    let at : suc m + n ≡ m + suc n = omega arith in
    subst P at (by (same_term x.condition zero_term) (write_among (suc m) n es e h f))
  where
    by : (b : Bool) → Among (write_roots (suc m) es) (write_root (suc m + n) e) → Among (cond b (write_roots (suc m) es) (write_root m x ∷ write_roots (suc m) es)) (write_root (suc m + n) e)
    by true p = p
    by false p = inr p

write_operation : (n : ℕ) (e : Entry) → IsOperation (write_root n e)
write_operation zero e = tt
write_operation (suc zero) e = tt
write_operation (suc (suc zero)) e = tt
write_operation (suc (suc (suc r))) e = tt

pub write_target : (n : ℕ) (e : Entry) → target_of (kind_of_term (write_root n e)) ≡ Some n
write_target zero e = refl
write_target (suc zero) e = refl
write_target (suc (suc zero)) e = refl
write_target (suc (suc (suc r))) e = (let at : 3 + r ≡ suc (suc (suc r)) = omega arith in ap (λ (z : ℕ). Some z) at)

-- ---- terms at good places have the same numbers
module _ (rs : List Term) (os : List Op) (are : AreOpsOf (operations rs) (operations rs) os) (i j : Inputs) (Low Good : ℕ → Type 0) (closed : IsClosed os i j Low Good) where
  abbrev every : List Term
  every = operations rs

  -- each of the terms has the same number under both inputs
  abbrev AreSame : List Term → Type 0
  AreSame [] = Unit {0}
  AreSame (u ∷ us) = (value i u ≡ value j u) × AreSame us

  -- .. where it is at a good place
  abbrev SameWhereGood : Term → Type 0
  SameWhereGood t = (n : ℕ) → slice_get every n ≡ Some t → Good n → value i t ≡ value j t

  abbrev AllWhereGood : List Term → Type 0
  AllWhereGood [] = Unit {0}
  AllWhereGood (u ∷ us) = SameWhereGood u × AllWhereGood us

  arg_same : (a : Term) → SameWhereGood a → (b : Arg) → IsArgOf every a b → ((n : ℕ) → b ≡ arg.Op n → Good n) → value i a ≡ value j a
  arg_same a f (arg.Const ty bits) h g = ap (value i) h.0 ∙ sym (ap (value j) h.0)
  arg_same a f (arg.Op n) h g = f n (slice_get-get_or every n zero_term h.1 ∙ ap (λ (z : Term). Some z) h.2) (g n refl)

  args_same : (us : List Term) (bs : List Arg) → AllWhereGood us → AreArgsOf every us bs → ((m n : ℕ) → slice_get bs m ≡ Some (arg.Op n) → Good n) → AreSame us
  args_same [] [] f h g = tt
  args_same [] (b ∷ bs) f h g = absurd h
  args_same (u ∷ us) [] f h g = absurd h
  args_same (u ∷ us) (b ∷ bs) f h g = (arg_same u f.0 b h.0 (λ n e. g 0 n (ap (λ (z : Arg). Some z) e)), args_same us bs f.1 h.1 (λ m n e. g (suc m) n e))

  -- the arguments of a term at a low place
  at_low : (t : Term) (n : ℕ) → slice_get every n ≡ Some t → Low n → AllWhereGood (args_of_term t) → AreSame (args_of_term t)
  at_low t n e l f =
      let r = term_op every every os n t are e in
      args_same (args_of_term t) r.op.args f r.is.args_are (λ m a c. closed.down n r.op a r.there (contains_at r.op.args m (arg.Op a) c) l)

  kind_agrees : (t : Term) (n : ℕ) → slice_get every n ≡ Some t → Good n → Agrees i j (kind_of_term t)
  kind_agrees t n e g = let r = term_op every every os n t are e in subst (Agrees i j) r.is.kind_is (closed.agrees n r.op r.there g)

  value_same : (t : Term) → SameWhereGood t
  value_same (t_const ty raw) n e g = refl
  value_same (t_read kind ty) n e g = ap (value_of ty) (kind_agrees (t_read kind ty) n e g).read
  value_same (t_one kind ty a) n e g = ap (one_number kind (type_of a) ty) (at_low (t_one kind ty a) n e (closed.low n g) (value_same a, tt)).0
  value_same (t_entry m es ty a) n e g = ap (entry_number es ty) (at_low (t_entry m es ty a) n e (closed.low n g) (value_same a, tt)).0
  value_same (t_two kind ty a b) n e g =
      let s = at_low (t_two kind ty a b) n e (closed.low n g) (value_same a, (value_same b, tt)) in
      ap (λ (z : ℤ). two_number i kind ty (type_of a) z (type_of b) (value i b)) s.0
      ∙ ap (λ (z : ℤ). two_number i kind ty (type_of a) (value j a) (type_of b) z) s.1.0
      ∙ two_same i j kind ty (type_of a) (type_of b) (value j a) (value j b) (kind_agrees (t_two kind ty a b) n e g).memory
  value_same (t_three kind ty c a b) n e g =
      let s = at_low (t_three kind ty c a b) n e (closed.low n g) (value_same c, (value_same a, (value_same b, tt))) in
      ap (λ (z : ℤ). cond (is_true z) (value i a) (value i b)) s.0
      ∙ ap (λ (z : ℤ). cond (is_true (value j c)) z (value i b)) s.1.0
      ∙ ap (λ (z : ℤ). cond (is_true (value j c)) (value j a) z) s.1.1.0

  all_same : (us : List Term) → AllWhereGood us
  all_same [] = tt
  all_same (u ∷ us) = (value_same u, all_same us)

  -- the arguments of a root that is low
  root_same : (t : Term) → Among rs t → IsOperation t → ((n : ℕ) (o : Op) → slice_get os n ≡ Some o → o.kind ≡ kind_of_term t → Low n) → AreSame (args_of_term t)
  root_same t m o l =
      let p = root_at rs t m o in
      let r = term_op every every os p.place t are p.there in
      at_low t p.place p.there (l p.place r.op r.there r.is.kind_is) (all_same (args_of_term t))

  -- ---- entries
  abbrev value_in : Option Write → Option ℤ
  value_in o = option_map value_of_write o

  write_same : (n : ℕ) (e : Entry) → AreSame (args_of_term (write_root n e)) → value_in (entry_value i e) ≡ value_in (entry_value j e)
  write_same n e s = by n s
    where
      both : value i e.value ≡ value j e.value → value i e.condition ≡ value j e.condition → value_in (entry_value i e) ≡ value_in (entry_value j e)
      both v c =
          of (is_true (value i e.condition)) v ∙ ap (λ (z : ℤ). value_in (cond (is_true z) (Some (record { value = value j e.value; address = value j e.address })) None)) c
        where
          of : (b : Bool) → value i e.value ≡ value j e.value
              → value_in (cond b (Some (record { value = value i e.value; address = value i e.address })) None) ≡ value_in (cond b (Some (record { value = value j e.value; address = value j e.address })) None)
          of true v = ap (λ (z : ℤ). Some z) v
          of false v = refl

      by : (n : ℕ) → AreSame (args_of_term (write_root n e)) → value_in (entry_value i e) ≡ value_in (entry_value j e)
      by zero s = both s.1.0 s.1.1.0
      by (suc zero) s = both s.0 s.1.0
      by (suc (suc zero)) s = both s.0 s.1.0
      by (suc (suc (suc r))) s = both s.0 s.1.0

  store_same : (e : Entry) → AreSame (args_of_term (write_root 0 e)) → entry_value i e ≡ entry_value j e
  store_same e s =
      ap (λ (z : ℤ). cond (is_true z) (Some (record { value = value i e.value; address = value i e.address })) None) s.1.1.0
      ∙ ap (λ (z : ℤ). cond (is_true (value j e.condition)) (Some (record { value = z; address = value i e.address })) None) s.1.0
      ∙ ap (λ (z : ℤ). cond (is_true (value j e.condition)) (Some (record { value = value j e.value; address = z })) None) s.0

  -- a target that is never written
  never : (e : Entry) → same_term e.condition zero_term ≡ true → entry_value i e ≡ entry_value j e
  never e h =
      let zero_is : e.condition ≡ zero_term = same_term_is e.condition zero_term h in
      ap (λ (z : Term). cond (is_true (value i z)) (Some (record { value = value i e.value; address = value i e.address })) None) zero_is
      ∙ sym (ap (λ (z : Term). cond (is_true (value j z)) (Some (record { value = value j e.value; address = value j e.address })) None) zero_is)

  at_target : {A : Type 0} (h : Option Write → A) (es : List Entry) (n : ℕ) → ((e : Entry) → slice_get es n ≡ Some e → h (entry_value i e) ≡ h (entry_value j e))
      → h (get_or (map (entry_value i) es) n None) ≡ h (get_or (map (entry_value j) es) n None)
  at_target h [] n f = refl
  at_target h (e ∷ es) zero f = f e refl
  at_target h (e ∷ es) (suc n) f = at_target h es n f

  -- the writes of a behaviour's entries, where those of a target are low
  entry_of : (ls : List Load) (es : List Entry) → rs ≡ roots ls es → (n : ℕ) → AreLowWrites os Low n → (e : Entry) → slice_get es n ≡ Some e → same_term e.condition zero_term ≡ false → AreSame (args_of_term (write_root n e))
  entry_of ls es q n l e there kept =
      let among : Among (write_roots 0 es) (write_root n e) = (let at : 0 + n ≡ n = omega arith in let P : ℕ → Type 0 = λ z. Among (write_roots 0 es) (write_root z e) in subst P at (write_among 0 n es e there kept)) in
      let whole : Among rs (write_root n e) = subst (λ (z : List Term). Among z (write_root n e)) (sym q) (among_right (map load_root ls) (write_roots 0 es) (write_root n e) among) in
      root_same (write_root n e) whole (write_operation n e) (λ m o t d. l m o t (ap target_of d ∙ write_target n e))

  pub target_same : (ls : List Load) (es : List Entry) → rs ≡ roots ls es → (n : ℕ) → AreLowWrites os Low n
      → value_in (get_or (map (entry_value i) es) n None) ≡ value_in (get_or (map (entry_value j) es) n None)
  target_same ls es q n l = at_target value_in es n (λ e there. by e there (same_term e.condition zero_term) refl)
    where
      by : (e : Entry) → slice_get es n ≡ Some e → (b : Bool) → same_term e.condition zero_term ≡ b → value_in (entry_value i e) ≡ value_in (entry_value j e)
      by e there true h = ap value_in (never e h)
      by e there false h = write_same n e (entry_of ls es q n l e there h)

  pub memory_same : (ls : List Load) (es : List Entry) → rs ≡ roots ls es → AreLowWrites os Low 0 → get_or (map (entry_value i) es) 0 None ≡ get_or (map (entry_value j) es) 0 None
  memory_same ls es q l = at_target (λ (o : Option Write). o) es 0 (λ e there. by e there (same_term e.condition zero_term) refl)
    where
      by : (e : Entry) → slice_get es 0 ≡ Some e → (b : Bool) → same_term e.condition zero_term ≡ b → entry_value i e ≡ entry_value j e
      by e there true h = never e h
      by e there false h = store_same e (entry_of ls es q 0 l e there h)

  -- ---- a target that no operation writes
  none_at : (es : List Entry) (n : ℕ) → ((e : Entry) → slice_get es n ≡ Some e → entry_value i e ≡ None) → get_or (map (entry_value i) es) n None ≡ None
  none_at [] n f = refl
  none_at (e ∷ es) zero f = f e refl
  none_at (e ∷ es) (suc n) f = none_at es n f

  pub unwritten : (ls : List Load) (es : List Entry) → rs ≡ roots ls es → (n : ℕ) → ((m : ℕ) (o : Op) → slice_get os m ≡ Some o → target_of o.kind ≡ Some n → ⊥) → get_or (map (entry_value i) es) n None ≡ None
  unwritten ls es q n never = none_at es n (λ e there. by e there (same_term e.condition zero_term) refl)
    where
      by : (e : Entry) → slice_get es n ≡ Some e → (b : Bool) → same_term e.condition zero_term ≡ b → entry_value i e ≡ None
      by e there true h = ap (λ (z : Term). cond (is_true (value i z)) (Some (record { value = value i e.value; address = value i e.address })) None) (same_term_is e.condition zero_term h)
      by e there false h =
          let among : Among (write_roots 0 es) (write_root n e) = (let at : 0 + n ≡ n = omega arith in let P : ℕ → Type 0 = λ z. Among (write_roots 0 es) (write_root z e) in subst P at (write_among 0 n es e there h)) in
          let whole : Among rs (write_root n e) = subst (λ (z : List Term). Among z (write_root n e)) (sym q) (among_right (map load_root ls) (write_roots 0 es) (write_root n e) among) in
          let p = root_at rs (write_root n e) whole (write_operation n e) in
          let r = term_op every every os p.place (write_root n e) are p.there in
          absurd (never p.place r.op r.there (ap target_of r.is.kind_is ∙ write_target n e))

  -- ---- loads
  loads_same : (ls : List Load) → ((t : Term) → Among (map load_root ls) t → IsOperation t → kind_of_term t ≡ k.RdMem → AreSame (args_of_term t)) → active i ls ≡ active j ls
  loads_same [] f = refl
  loads_same (l ∷ ls) f =
      let s = f (load_root l) (inl refl) tt refl in
      let rest = loads_same ls (λ t m o d. f t (inr m) o d) in
      ap (λ (z : ℤ). cond (is_true z) (record { ty = l.ty; at = value i l.address } ∷ active i ls) (active i ls)) s.1.0
      ∙ ap (λ (z : ℤ). cond (is_true (value j l.condition)) (record { ty = l.ty; at = z } ∷ active i ls) (active i ls)) s.0
      ∙ ap (λ (z : List Access). cond (is_true (value j l.condition)) (record { ty = l.ty; at = value j l.address } ∷ z) z) rest

  pub reads_same : (ls : List Load) (es : List Entry) → rs ≡ roots ls es → AreLowLoads os Low → active i ls ≡ active j ls
  reads_same ls es q l =
      loads_same ls
      (λ t m o d. root_same t (subst (λ (z : List Term). Among z t) (sym q) (among_left (map load_root ls) (write_roots 0 es) t m)) o (λ n p there kind. l n p there (kind ∙ d)))
