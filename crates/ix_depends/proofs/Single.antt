-- A target is written by at most one operation of a graph.
use Rattle.std.proofs.Common.{◌≡◌, refl, sym, ap, subst, ◌∙◌, ◌⊎◌, inl, inr, ⊎_elim, ℕ, zero, suc, ◌+◌, arith, Bool, true, false, cond, List, [], ◌∷◌, ◌++◌, map, Option, Some, None, Contains}
use Rattle.std.specs.Prelude.{slice_get, IfSome}
use Rattle.std.specs.List.{flat_map}
use Rattle.std.proofs.lemmas.List.Elements.{All-contains}
use Rattle.std.proofs.lemmas.Option.{slice_get-get_or, same_Some}
use Rattle.ix_graph.specs.declared.args.Arg.{Arg}
use Rattle.ix_graph.specs.declared.args.Arg.TheVariants as arg
use Rattle.ix_graph.specs.declared.graph.Graph.{Graph}
use Rattle.ix_graph.specs.declared.graph.Op.{Op}
use Rattle.ix_graph.specs.declared.kind.Kind.{Kind}
use Rattle.ix_graph.specs.declared.kind.Kind.TheVariants as k
use Rattle.ix_graph.specs.Graphs.{IsWrite, IsArgument, IsValidGraph}
use Rattle.ix_mean.specs.Order.{postorder, Among, AreApart, operations, load_root, write_root, write_roots, roots}
use Rattle.ix_mean.specs.Terms.{Term, t_const, t_read, t_one, t_entry, t_two, t_three, same_term, zero_term, Entry, Load}
use Rattle.ix_mean.proofs.Ordering.{among_left, among_right, among_last, among_either, operations_law}
use Rattle.ix_terms.specs.Places.{IsOperation}
use Rattle.ix_flow.specs.Flows.{kind_of_term, args_of_term, IsOpOf, AreArgsOf, AreOpsOf, target_of}
use Rattle.ix_depends.proofs.Agreeing.{term_op, among_place, write_target}

-- ---- subterms
-- the term is an argument of one of these
record IsUnder (ts : List Term) (u : Term) : Type 0 where
  owner : Term
  there : Among ts owner
  argument : Among (args_of_term owner) u

under_more : (ts us : List Term) (u : Term) → ((v : Term) → Among ts v → Among us v) → IsUnder ts u → IsUnder us u
under_more ts us u f h = record { owner = h.owner; there = f h.owner h.there; argument = h.argument }

-- what is among the arguments' subterms or is the term behind them
whole : (us : List Term) (t u : Term) → (Among us u → IsUnder (us ++ t ∷ []) u) → Among (us ++ t ∷ []) u → (u ≡ t) ⊎ IsUnder (us ++ t ∷ []) u
whole us t u f m =
    ⊎_elim (λ (a : Among us u). inr (f a)) (λ (b : Among (t ∷ []) u). ⊎_elim (λ (e : u ≡ t). inl e) (λ (no : ⊥). absurd no) b) (among_either us (t ∷ []) u m)

-- a subterm of an argument
part : (us : List Term) (t a u : Term) → Among (args_of_term t) a → ((v : Term) → Among (postorder a) v → Among us v) → (u ≡ a) ⊎ IsUnder (postorder a) u → IsUnder (us ++ t ∷ []) u
part us t a u m f h =
    ⊎_elim (λ (e : u ≡ a). record { owner = t; there = among_last us t; argument = subst (Among (args_of_term t)) (sym e) m })
    (λ (i : IsUnder (postorder a) u). under_more (postorder a) (us ++ t ∷ []) u (λ v n. among_left us (t ∷ []) v (f v n)) i) h

-- a subterm is the term itself, or an argument of a subterm
within : (t u : Term) → Among (postorder t) u → (u ≡ t) ⊎ IsUnder (postorder t) u
within (t_const ty raw) u m = absurd m
within (t_read kind ty) u m = ⊎_elim (λ (e : u ≡ t_read kind ty). inl e) (λ (no : ⊥). absurd no) m
within (t_one kind ty a) u m = whole (postorder a) (t_one kind ty a) u (λ n. part (postorder a) (t_one kind ty a) a u (inl refl) (λ v l. l) (within a u n)) m
within (t_entry n es ty a) u m = whole (postorder a) (t_entry n es ty a) u (λ l. part (postorder a) (t_entry n es ty a) a u (inl refl) (λ v i. i) (within a u l)) m
within (t_two kind ty a b) u m =
    let us : List Term = postorder a ++ postorder b in
    whole us (t_two kind ty a b) u
    (λ n. ⊎_elim (λ (l : Among (postorder a) u). part us (t_two kind ty a b) a u (inl refl) (λ v i. among_left (postorder a) (postorder b) v i) (within a u l))
    (λ (r : Among (postorder b) u). part us (t_two kind ty a b) b u (inr (inl refl)) (λ v i. among_right (postorder a) (postorder b) v i) (within b u r)) (among_either (postorder a) (postorder b) u n))
    m
within (t_three kind ty a b c) u m =
    let two : List Term = postorder a ++ postorder b in
    let us : List Term = two ++ postorder c in
    whole us (t_three kind ty a b c) u
    (λ n. ⊎_elim
    (λ (w : Among two u). ⊎_elim
    (λ (l : Among (postorder a) u). part us (t_three kind ty a b c) a u (inl refl) (λ v i. among_left two (postorder c) v (among_left (postorder a) (postorder b) v i)) (within a u l))
    (λ (r : Among (postorder b) u). part us (t_three kind ty a b c) b u (inr (inl refl)) (λ v i. among_left two (postorder c) v (among_right (postorder a) (postorder b) v i)) (within b u r))
    (among_either (postorder a) (postorder b) u w))
    (λ (r : Among (postorder c) u). part us (t_three kind ty a b c) c u (inr (inr (inl refl))) (λ v i. among_right two (postorder c) v i) (within c u r)) (among_either two (postorder c) u n))
    m

-- a subterm of some terms is one of them, or an argument of a subterm
within_all : (rs : List Term) (u : Term) → Among (flat_map postorder rs) u → Among rs u ⊎ IsUnder (flat_map postorder rs) u
within_all [] u m = absurd m
within_all (r ∷ rs) u m =
    let all : List Term = postorder r ++ flat_map postorder rs in
    ⊎_elim
    (λ (a : Among (postorder r) u). ⊎_elim (λ (e : u ≡ r). inl (inl e))
    (λ (i : IsUnder (postorder r) u). inr (under_more (postorder r) all u (λ v n. among_left (postorder r) (flat_map postorder rs) v n) i)) (within r u a))
    (λ (b : Among (flat_map postorder rs) u). ⊎_elim (λ (c : Among rs u). inl (inr c))
    (λ (i : IsUnder (flat_map postorder rs) u). inr (under_more (flat_map postorder rs) all u (λ v n. among_right (postorder r) (flat_map postorder rs) v n) i)) (within_all rs u b))
    (among_either (postorder r) (flat_map postorder rs) u m)

-- ---- roots
-- a load has no target
load_target : (ls : List Load) (u : Term) → Among (map load_root ls) u → target_of (kind_of_term u) ≡ None
load_target [] u m = absurd m
load_target (l ∷ ls) u m =
    ⊎_elim (λ (e : u ≡ load_root l). ap (λ (z : Term). target_of (kind_of_term z)) e) (λ (r : Among (map load_root ls) u). load_target ls u r) m

-- the write of one of these entries, of which the first has this number
record IsWriteOf (es : List Entry) (n : ℕ) (u : Term) : Type 0 where
  place : ℕ
  entry : Entry
  there : slice_get es place ≡ Some entry
  is : u ≡ write_root (n + place) entry

writes_in : (es : List Entry) (n : ℕ) (u : Term) → Among (write_roots n es) u → IsWriteOf es n u
writes_in [] n u m = absurd m
writes_in (e ∷ es) n u m = by (same_term e.condition zero_term) m (λ l. writes_in es (suc n) u l)
  where
    later : IsWriteOf es (suc n) u → IsWriteOf (e ∷ es) n u
    later r = record { place = suc r.place; entry = r.entry; there = r.there; is = r.is ∙ ap (λ (j : ℕ). write_root j r.entry) (let at : suc n + r.place ≡ n + suc r.place = omega arith in at) }

    here : u ≡ write_root n e → IsWriteOf (e ∷ es) n u
    here s = record { place = 0; entry = e; there = refl; is = s ∙ ap (λ (j : ℕ). write_root j e) (let at : n ≡ n + 0 = omega arith in at) }

    by : (b : Bool) → Among (cond b (write_roots (suc n) es) (write_root n e ∷ write_roots (suc n) es)) u → (Among (write_roots (suc n) es) u → IsWriteOf es (suc n) u) → IsWriteOf (e ∷ es) n u
    by true l r = later (r l)
    by false l r = ⊎_elim (λ (s : u ≡ write_root n e). here s) (λ (o : Among (write_roots (suc n) es) u). later (r o)) l

-- ---- places
place_among : (ts : List Term) (j : ℕ) (t : Term) → slice_get ts j ≡ Some t → Among ts t
place_among [] j t e = cc
place_among (x ∷ ts) zero t e = (let same : t ≡ x = cc in inl same)
place_among (x ∷ ts) (suc j) t e = inr (place_among ts j t e)

-- a term of a list in which each stands once has one place
one_place : (ts : List Term) (j m : ℕ) (t : Term) → AreApart ts → slice_get ts j ≡ Some t → slice_get ts m ≡ Some t → j ≡ m
one_place [] j m t h e f = cc
one_place (x ∷ ts) zero zero t h e f = refl
one_place (x ∷ ts) zero (suc m) t h e f = (let same : t ≡ x = cc in absurd (h.0 (subst (Among ts) same (place_among ts m t f))))
one_place (x ∷ ts) (suc j) zero t h e f = (let same : t ≡ x = cc in absurd (h.0 (subst (Among ts) same (place_among ts j t e))))
one_place (x ∷ ts) (suc j) (suc m) t h e f = ap suc (one_place ts j m t h.1 e f)

-- the term of an operation
record IsOpAt (all ts : List Term) (j : ℕ) (o : Op) : Type 0 where
  term : Term
  there : slice_get ts j ≡ Some term
  is : IsOpOf all term o

op_at : (all ts : List Term) (os : List Op) (j : ℕ) (o : Op) → AreOpsOf all ts os → slice_get os j ≡ Some o → IsOpAt all ts j o
op_at all [] [] j o h e = cc
op_at all [] (p ∷ os) j o h e = absurd h
op_at all (t ∷ ts) [] j o h e = cc
op_at all (t ∷ ts) (p ∷ os) zero o h e = (let same : p ≡ o = cc in record { term = t; there = refl; is = subst (IsOpOf all t) same h.0 })
op_at all (t ∷ ts) (p ∷ os) (suc j) o h e = let r = op_at all ts os j o h.1 e in record { term = r.term; there = r.there; is = r.is }

-- an argument that is an operation, by its place
record IsArgAt (all : List Term) (bs : List Arg) (u : Term) : Type 0 where
  number : ℕ
  named : Contains bs (arg.Op number)
  there : slice_get all number ≡ Some u

arg_at : (all ts : List Term) (bs : List Arg) (u : Term) → AreArgsOf all ts bs → Among ts u → IsOperation u → IsArgAt all bs u
arg_at all [] bs u h m o = absurd m
arg_at all (t ∷ ts) [] u h m o = absurd h
arg_at all (t ∷ ts) (arg.Const ty bits ∷ bs) u h m o =
    ⊎_elim (λ (e : u ≡ t). absurd (subst IsOperation (e ∙ h.0.0) o)) (λ (r : Among ts u). later (arg_at all ts bs u h.1 r o)) m
  where
    later : IsArgAt all bs u → IsArgAt all (arg.Const ty bits ∷ bs) u
    later r = let c = r.named in let l = c.1 in record { number = r.number; named = (suc c.0, omega (arith, l), c.2); there = r.there }
arg_at all (t ∷ ts) (arg.Op n ∷ bs) u h m o =
    ⊎_elim (λ (e : u ≡ t). here e) (λ (r : Among ts u). later (arg_at all ts bs u h.1 r o)) m
  where
    here : u ≡ t → IsArgAt all (arg.Op n ∷ bs) u
    here e = record { number = n; named = (0, omega arith, refl); there = slice_get-get_or all n zero_term h.0.1 ∙ ap (λ (z : Term). Some z) (h.0.2 ∙ sym e) }

    later : IsArgAt all bs u → IsArgAt all (arg.Op n ∷ bs) u
    later r = let c = r.named in let l = c.1 in record { number = r.number; named = (suc c.0, omega (arith, l), c.2); there = r.there }

-- what has a target writes
target_writes : (kind : Kind) (n : ℕ) → target_of kind ≡ Some n → IsWrite kind
target_writes k.WrRD n e = tt
target_writes k.WrPC n e = tt
target_writes k.WrMem n e = tt
target_writes (k.WrCustReg r) n e = tt
target_writes _ n e = cc

-- ---- the writes of a graph
module _ (ls : List Load) (es : List Entry) (g : Graph) (ops : AreOpsOf (operations (roots ls es)) (operations (roots ls es)) g.ops) (valid : IsValidGraph g) where
  abbrev rs : List Term
  rs = roots ls es

  abbrev every : List Term
  every = operations rs

  -- a write is no argument
  never_under : (u : Term) → IsOperation u → IsWrite (kind_of_term u) → IsUnder (flat_map postorder rs) u → ⊥
  never_under u o w h =
      let p = among_place every h.owner ((operations_law rs).all h.owner h.there) in
      let q = term_op every every g.ops p.place h.owner ops p.there in
      let a = arg_at every (args_of_term h.owner) q.op.args u q.is.args_are h.argument o in
      let r = term_op every every g.ops a.number u ops a.there in
      let one : IsArgument g.ops p.place (arg.Op a.number) = All-contains (IsArgument g.ops p.place) q.op.args (arg.Op a.number) (valid.ops p.place q.op q.there).arguments a.named in
      let never : IfSome (Some r.op) (λ op. IsWrite op.kind → ⊥) = subst (λ (z : Option Op). IfSome z (λ op. IsWrite op.kind → ⊥)) r.there one.1 in
      never (subst IsWrite (sym r.is.kind_is) w)

  -- an operation that writes a target is the write of the target's entry
  record IsWriteAt (n j : ℕ) : Type 0 where
    entry : Entry
    there : slice_get es n ≡ Some entry
    is : slice_get every j ≡ Some (write_root n entry)

  write_at : (n j : ℕ) (o : Op) → slice_get g.ops j ≡ Some o → target_of o.kind ≡ Some n → IsWriteAt n j
  write_at n j o e t =
      let r = op_at every every g.ops j o ops e in
      let target : target_of (kind_of_term r.term) ≡ Some n = ap target_of (sym r.is.kind_is) ∙ t in
      by r.term r.there r.is.operation target (within_all rs r.term ((operations_law rs).only r.term (place_among every j r.term r.there)))
    where
      of_entry : (u : Term) → slice_get every j ≡ Some u → target_of (kind_of_term u) ≡ Some n → IsWriteOf es 0 u → IsWriteAt n j
      of_entry u there target w =
          let number : 0 + w.place ≡ n =
          same_Some (0 + w.place) n (sym (write_target (0 + w.place) w.entry) ∙ ap (λ (z : Term). target_of (kind_of_term z)) (sym w.is) ∙ target) in
          let place : w.place ≡ n = omega (arith, number) in
          record {
            entry = w.entry;
            there = subst (λ (z : ℕ). slice_get es z ≡ Some w.entry) place w.there;
            is = there ∙ ap (λ (z : Term). Some z) (w.is ∙ ap (λ (z : ℕ). write_root z w.entry) number);
          }

      by : (u : Term) → slice_get every j ≡ Some u → IsOperation u → target_of (kind_of_term u) ≡ Some n → Among rs u ⊎ IsUnder (flat_map postorder rs) u → IsWriteAt n j
      by u there o target (inr h) = absurd (never_under u o (target_writes (kind_of_term u) n target) h)
      by u there o target (inl m) =
          ⊎_elim (λ (l : Among (map load_root ls) u). (let no : None ≡ Some n = sym (load_target ls u l) ∙ target in cc)) (λ (w : Among (write_roots 0 es) u). of_entry u there target (writes_in es 0 u w))
          (among_either (map load_root ls) (write_roots 0 es) u m)

  pub one_write : (n j m : ℕ) (o q : Op) → slice_get g.ops j ≡ Some o → slice_get g.ops m ≡ Some q → target_of o.kind ≡ Some n → target_of q.kind ≡ Some n → j ≡ m
  one_write n j m o q e f t s =
      let a = write_at n j o e t in
      let b = write_at n m q f s in
      let same : b.entry ≡ a.entry = same_Some b.entry a.entry (sym b.there ∙ a.there) in
      one_place every j m (write_root n a.entry) (operations_law rs).once a.is (b.is ∙ ap (λ (z : Entry). Some (write_root n z)) same)
