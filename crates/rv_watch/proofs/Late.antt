-- The custom registers that the operations of a plan write are those of the extension.
use Rattle.std.proofs.Common.{◌≡◌, refl, sym, ap, subst, ◌∙◌, ◌⊎◌, inl, inr, ⊎_elim, ℕ, zero, suc, ◌+◌, ◌<◌, ◌≤◌, arith, Bool, true, false, cond, List, [], ◌∷◌, ◌++◌, map, length, get_or, set, Option, Some, None, Contains, length-set, if◌then◌else◌}
use Rattle.std.specs.Prelude.{slice_get, slice_index_or, IfSome, option_map}
use Rattle.std.specs.List.{flat_map, list_any, range_with_len}
use Rattle.std.proofs.lemmas.Bool.{or_cases, and_parts, eqb-true}
use Rattle.std.proofs.lemmas.List.{length-map}
use Rattle.std.proofs.lemmas.List.Elements.{All-contains}
use Rattle.std.proofs.lemmas.Option.{slice_get-get_or, same_Some, get_or_from_slice_get, slice_get-map}
use Rattle.ix_bits.specs.Operators.{is_true, value_of}
use Rattle.ix_extension.specs.Extensions.{ExtensionTree, view_extension}
use Rattle.ix_behaviour.specs.declared.which.Which.{Which}
use Rattle.ix_behaviour.specs.Behaviours.{HasBehaviour, statement_at, frame_at, targets_at, type_of_register}
use Rattle.ix_graph.specs.declared.args.Arg.{Arg}
use Rattle.ix_graph.specs.declared.args.Arg.TheVariants as arg
use Rattle.ix_graph.specs.declared.graph.Graph.{Graph}
use Rattle.ix_graph.specs.declared.graph.Op.{Op}
use Rattle.ix_graph.specs.declared.kind.Kind.{Kind}
use Rattle.ix_graph.specs.declared.kind.Kind.TheVariants as k
use Rattle.ix_graph.specs.Graphs.{IsWrite, IsArgument, IsValidGraph}
use Rattle.ix_mean.specs.Core.{Statement, st_skip, st_then, st_set, st_write, st_if}
use Rattle.ix_mean.specs.Effects.{start, effect_terms, no_entry}
use Rattle.ix_mean.specs.Order.{postorder, Among, operations, load_root, write_root, write_roots, roots}
use Rattle.ix_mean.specs.Terms.{Term, t_const, t_read, t_one, t_entry, t_two, t_three, same_term, zero_term, one_term, Entry, Load, loads, Terms, run_terms, merge_targets, merge_terms, branch, when, unless, test_term}
use Rattle.ix_mean.proofs.Ordering.{among_left, among_right, among_last, among_either, operations_law}
use Rattle.ix_terms.specs.Places.{IsOperation}
use Rattle.ix_flow.specs.Flows.{kind_of_term, args_of_term, IsOpOf, AreArgsOf, AreOpsOf, target_of}
use Rattle.ix_graph_laws.specs.Laws.{ValidLaw}
use Rattle.ix_graph_laws.specs.Operations.{IsGraphOf}
use Rattle.ix_plan.specs.declared.design.Plan.{Plan}
use Rattle.ix_plan.specs.declared.design.Design.{Design}
use Rattle.ix_standing.specs.Standing.{instruction_number, block_number, behaviours_of, IsPlanned, Stands}
use Rattle.rv_asks.specs.declared.asks.Act.{Act}
use Rattle.rv_asks.specs.declared.asks.Outline.{Outline}
use Rattle.rv_asks.specs.Acts as acts
use Rattle.rv_asks.specs.Asks.{flags, plan_outline, block_acts, outlines_in, blank_in, asks_in}
use Rattle.rv_seq.specs.declared.decoded.Decoded.{Decoded}
use Rattle.rv_seq.specs.declared.decoded.Decoded.TheVariants as D
use Rattle.rv_seq.specs.Decoding.{decoded_in}
use Rattle.rv_lawful.specs.Sight.{asked}

record IsTermOp (all : List Term) (os : List Op) (n : ℕ) (t : Term) : Type 0 where
  op : Op
  there : slice_get os n ≡ Some op
  is : IsOpOf all t op

term_op : (all ts : List Term) (os : List Op) (n : ℕ) (t : Term) → AreOpsOf all ts os → slice_get ts n ≡ Some t → IsTermOp all os n t
term_op all [] os n t h e = cc
term_op all (s ∷ ts) [] n t h e = absurd h
term_op all (s ∷ ts) (p ∷ os) zero t h e = (let same : s ≡ t = cc in record { op = p; there = refl; is = subst (λ (z : Term). IsOpOf all z p) same h.0 })
term_op all (s ∷ ts) (p ∷ os) (suc n) t h e = let r = term_op all ts os n t h.1 e in record { op = r.op; there = r.there; is = r.is }

record IsAt (ts : List Term) (t : Term) : Type 0 where
  place : ℕ
  there : slice_get ts place ≡ Some t

among_place : (ts : List Term) (t : Term) → Among ts t → IsAt ts t
among_place [] t h = absurd h
among_place (x ∷ ts) t h =
    ⊎_elim (λ (e : t ≡ x). record { place = 0; there = ap (λ (z : Term). Some z) (sym e) })
    (λ (m : Among ts t). let p = among_place ts t m in record { place = suc p.place; there = p.there }) h

write_target : (n : ℕ) (e : Entry) → target_of (kind_of_term (write_root n e)) ≡ Some n
write_target zero e = refl
write_target (suc zero) e = refl
write_target (suc (suc zero)) e = refl
write_target (suc (suc (suc r))) e = (let at : 3 + r ≡ suc (suc (suc r)) = omega arith in ap (λ (z : ℕ). Some z) at)

got_within : {A : Type 0} (xs : List A) (n : ℕ) (x : A) → slice_get xs n ≡ Some x → n < length xs
got_within [] n x e = cc
got_within (y ∷ xs) zero x e = omega arith
got_within (y ∷ xs) (suc n) x e = let l = got_within xs n x e in omega (arith, l)

-- ---- subterms
-- the term is an argument of one of these
record IsUnder (ts : List Term) (u : Term) : Type 0 where
  owner : Term
  there : Among ts owner
  argument : Among (args_of_term owner) u

under_more : (ts us : List Term) (u : Term) → ((v : Term) → Among ts v → Among us v) → IsUnder ts u → IsUnder us u
under_more ts us u f h = record { owner = h.owner; there = f h.owner h.there; argument = h.argument }

-- what is among the arguments' subterms or is the term behind them
whole : (us : List Term) (t u : Term) → (Among us u → IsUnder (us ++ t ∷ []) u) → Among (us ++ t ∷ []) u → (u ≡ t) ⊎ IsUnder (us ++ t ∷ []) u
whole us t u f m =
    ⊎_elim (λ (a : Among us u). inr (f a)) (λ (b : Among (t ∷ []) u). ⊎_elim (λ (e : u ≡ t). inl e) (λ (no : ⊥). absurd no) b) (among_either us (t ∷ []) u m)

-- a subterm of an argument
part : (us : List Term) (t a u : Term) → Among (args_of_term t) a → ((v : Term) → Among (postorder a) v → Among us v) → (u ≡ a) ⊎ IsUnder (postorder a) u → IsUnder (us ++ t ∷ []) u
part us t a u m f h =
    ⊎_elim (λ (e : u ≡ a). record { owner = t; there = among_last us t; argument = subst (Among (args_of_term t)) (sym e) m })
    (λ (i : IsUnder (postorder a) u). under_more (postorder a) (us ++ t ∷ []) u (λ v n. among_left us (t ∷ []) v (f v n)) i) h

-- a subterm is the term itself, or an argument of a subterm
within : (t u : Term) → Among (postorder t) u → (u ≡ t) ⊎ IsUnder (postorder t) u
within (t_const ty raw) u m = absurd m
within (t_read kind ty) u m = ⊎_elim (λ (e : u ≡ t_read kind ty). inl e) (λ (no : ⊥). absurd no) m
within (t_one kind ty a) u m = whole (postorder a) (t_one kind ty a) u (λ n. part (postorder a) (t_one kind ty a) a u (inl refl) (λ v l. l) (within a u n)) m
within (t_entry n es ty a) u m = whole (postorder a) (t_entry n es ty a) u (λ l. part (postorder a) (t_entry n es ty a) a u (inl refl) (λ v i. i) (within a u l)) m
within (t_two kind ty a b) u m =
    let us : List Term = postorder a ++ postorder b in
    whole us (t_two kind ty a b) u
    (λ n. ⊎_elim (λ (l : Among (postorder a) u). part us (t_two kind ty a b) a u (inl refl) (λ v i. among_left (postorder a) (postorder b) v i) (within a u l))
    (λ (r : Among (postorder b) u). part us (t_two kind ty a b) b u (inr (inl refl)) (λ v i. among_right (postorder a) (postorder b) v i) (within b u r)) (among_either (postorder a) (postorder b) u n))
    m
within (t_three kind ty a b c) u m =
    let two : List Term = postorder a ++ postorder b in
    let us : List Term = two ++ postorder c in
    whole us (t_three kind ty a b c) u
    (λ n. ⊎_elim
    (λ (w : Among two u). ⊎_elim
    (λ (l : Among (postorder a) u). part us (t_three kind ty a b c) a u (inl refl) (λ v i. among_left two (postorder c) v (among_left (postorder a) (postorder b) v i)) (within a u l))
    (λ (r : Among (postorder b) u). part us (t_three kind ty a b c) b u (inr (inl refl)) (λ v i. among_left two (postorder c) v (among_right (postorder a) (postorder b) v i)) (within b u r))
    (among_either (postorder a) (postorder b) u w))
    (λ (r : Among (postorder c) u). part us (t_three kind ty a b c) c u (inr (inr (inl refl))) (λ v i. among_right two (postorder c) v i) (within c u r)) (among_either two (postorder c) u n))
    m

-- a subterm of some terms is one of them, or an argument of a subterm
within_all : (rs : List Term) (u : Term) → Among (flat_map postorder rs) u → Among rs u ⊎ IsUnder (flat_map postorder rs) u
within_all [] u m = absurd m
within_all (r ∷ rs) u m =
    let all : List Term = postorder r ++ flat_map postorder rs in
    ⊎_elim
    (λ (a : Among (postorder r) u). ⊎_elim (λ (e : u ≡ r). inl (inl e))
    (λ (i : IsUnder (postorder r) u). inr (under_more (postorder r) all u (λ v n. among_left (postorder r) (flat_map postorder rs) v n) i)) (within r u a))
    (λ (b : Among (flat_map postorder rs) u). ⊎_elim (λ (c : Among rs u). inl (inr c))
    (λ (i : IsUnder (flat_map postorder rs) u). inr (under_more (flat_map postorder rs) all u (λ v n. among_right (postorder r) (flat_map postorder rs) v n) i)) (within_all rs u b))
    (among_either (postorder r) (flat_map postorder rs) u m)

-- ---- roots
-- a load has no target
load_target : (ls : List Load) (u : Term) → Among (map load_root ls) u → target_of (kind_of_term u) ≡ None
load_target [] u m = absurd m
load_target (l ∷ ls) u m =
    ⊎_elim (λ (e : u ≡ load_root l). ap (λ (z : Term). target_of (kind_of_term z)) e) (λ (r : Among (map load_root ls) u). load_target ls u r) m

-- the write of one of these entries, of which the first has this number
record IsWriteOf (es : List Entry) (n : ℕ) (u : Term) : Type 0 where
  place : ℕ
  entry : Entry
  there : slice_get es place ≡ Some entry
  is : u ≡ write_root (n + place) entry

writes_in : (es : List Entry) (n : ℕ) (u : Term) → Among (write_roots n es) u → IsWriteOf es n u
writes_in [] n u m = absurd m
writes_in (e ∷ es) n u m = by (same_term e.condition zero_term) m (λ l. writes_in es (suc n) u l)
  where
    later : IsWriteOf es (suc n) u → IsWriteOf (e ∷ es) n u
    later r = record { place = suc r.place; entry = r.entry; there = r.there; is = r.is ∙ ap (λ (j : ℕ). write_root j r.entry) (let at : suc n + r.place ≡ n + suc r.place = omega arith in at) }

    here : u ≡ write_root n e → IsWriteOf (e ∷ es) n u
    here s = record { place = 0; entry = e; there = refl; is = s ∙ ap (λ (j : ℕ). write_root j e) (let at : n ≡ n + 0 = omega arith in at) }

    by : (b : Bool) → Among (cond b (write_roots (suc n) es) (write_root n e ∷ write_roots (suc n) es)) u → (Among (write_roots (suc n) es) u → IsWriteOf es (suc n) u) → IsWriteOf (e ∷ es) n u
    by true l r = later (r l)
    by false l r = ⊎_elim (λ (s : u ≡ write_root n e). here s) (λ (o : Among (write_roots (suc n) es) u). later (r o)) l

-- ---- places
place_among : (ts : List Term) (j : ℕ) (t : Term) → slice_get ts j ≡ Some t → Among ts t
place_among [] j t e = cc
place_among (x ∷ ts) zero t e = (let same : t ≡ x = cc in inl same)
place_among (x ∷ ts) (suc j) t e = inr (place_among ts j t e)

-- the term of an operation
record IsOpAt (all ts : List Term) (j : ℕ) (o : Op) : Type 0 where
  term : Term
  there : slice_get ts j ≡ Some term
  is : IsOpOf all term o

op_at : (all ts : List Term) (os : List Op) (j : ℕ) (o : Op) → AreOpsOf all ts os → slice_get os j ≡ Some o → IsOpAt all ts j o
op_at all [] [] j o h e = cc
op_at all [] (p ∷ os) j o h e = absurd h
op_at all (t ∷ ts) [] j o h e = cc
op_at all (t ∷ ts) (p ∷ os) zero o h e = (let same : p ≡ o = cc in record { term = t; there = refl; is = subst (IsOpOf all t) same h.0 })
op_at all (t ∷ ts) (p ∷ os) (suc j) o h e = let r = op_at all ts os j o h.1 e in record { term = r.term; there = r.there; is = r.is }

-- an argument that is an operation, by its place
record IsArgAt (all : List Term) (bs : List Arg) (u : Term) : Type 0 where
  number : ℕ
  named : Contains bs (arg.Op number)
  there : slice_get all number ≡ Some u

arg_at : (all ts : List Term) (bs : List Arg) (u : Term) → AreArgsOf all ts bs → Among ts u → IsOperation u → IsArgAt all bs u
arg_at all [] bs u h m o = absurd m
arg_at all (t ∷ ts) [] u h m o = absurd h
arg_at all (t ∷ ts) (arg.Const ty bits ∷ bs) u h m o =
    ⊎_elim (λ (e : u ≡ t). absurd (subst IsOperation (e ∙ h.0.0) o)) (λ (r : Among ts u). later (arg_at all ts bs u h.1 r o)) m
  where
    later : IsArgAt all bs u → IsArgAt all (arg.Const ty bits ∷ bs) u
    later r = let c = r.named in let l = c.1 in record { number = r.number; named = (suc c.0, omega (arith, l), c.2); there = r.there }
arg_at all (t ∷ ts) (arg.Op n ∷ bs) u h m o =
    ⊎_elim (λ (e : u ≡ t). here e) (λ (r : Among ts u). later (arg_at all ts bs u h.1 r o)) m
  where
    here : u ≡ t → IsArgAt all (arg.Op n ∷ bs) u
    here e = record { number = n; named = (0, omega arith, refl); there = slice_get-get_or all n zero_term h.0.1 ∙ ap (λ (z : Term). Some z) (h.0.2 ∙ sym e) }

    later : IsArgAt all bs u → IsArgAt all (arg.Op n ∷ bs) u
    later r = let c = r.named in let l = c.1 in record { number = r.number; named = (suc c.0, omega (arith, l), c.2); there = r.there }

-- what has a target writes
target_writes : (kind : Kind) (n : ℕ) → target_of kind ≡ Some n → IsWrite kind
target_writes k.WrRD n e = tt
target_writes k.WrPC n e = tt
target_writes k.WrMem n e = tt
target_writes (k.WrCustReg r) n e = tt
target_writes _ n e = cc

-- ---- the writes of a graph
module _ (ls : List Load) (es : List Entry) (g : Graph) (ops : AreOpsOf (operations (roots ls es)) (operations (roots ls es)) g.ops) (valid : IsValidGraph g) where
  abbrev rs : List Term
  rs = roots ls es

  abbrev every : List Term
  every = operations rs

  -- a write is no argument
  never_under : (u : Term) → IsOperation u → IsWrite (kind_of_term u) → IsUnder (flat_map postorder rs) u → ⊥
  never_under u o w h =
      let p = among_place every h.owner ((operations_law rs).all h.owner h.there) in
      let q = term_op every every g.ops p.place h.owner ops p.there in
      let a = arg_at every (args_of_term h.owner) q.op.args u q.is.args_are h.argument o in
      let r = term_op every every g.ops a.number u ops a.there in
      let one : IsArgument g.ops p.place (arg.Op a.number) = All-contains (IsArgument g.ops p.place) q.op.args (arg.Op a.number) (valid.ops p.place q.op q.there).arguments a.named in
      let never : IfSome (Some r.op) (λ op. IsWrite op.kind → ⊥) = subst (λ (z : Option Op). IfSome z (λ op. IsWrite op.kind → ⊥)) r.there one.1 in
      never (subst IsWrite (sym r.is.kind_is) w)

  -- an operation that writes a target is the write of the target's entry
  record IsWriteAt (n j : ℕ) : Type 0 where
    entry : Entry
    there : slice_get es n ≡ Some entry
    is : slice_get every j ≡ Some (write_root n entry)

  write_at : (n j : ℕ) (o : Op) → slice_get g.ops j ≡ Some o → target_of o.kind ≡ Some n → IsWriteAt n j
  write_at n j o e t =
      let r = op_at every every g.ops j o ops e in
      let target : target_of (kind_of_term r.term) ≡ Some n = ap target_of (sym r.is.kind_is) ∙ t in
      by r.term r.there r.is.operation target (within_all rs r.term ((operations_law rs).only r.term (place_among every j r.term r.there)))
    where
      of_entry : (u : Term) → slice_get every j ≡ Some u → target_of (kind_of_term u) ≡ Some n → IsWriteOf es 0 u → IsWriteAt n j
      of_entry u there target w =
          let number : 0 + w.place ≡ n =
          same_Some (0 + w.place) n (sym (write_target (0 + w.place) w.entry) ∙ ap (λ (z : Term). target_of (kind_of_term z)) (sym w.is) ∙ target) in
          let place : w.place ≡ n = omega (arith, number) in
          record {
            entry = w.entry;
            there = subst (λ (z : ℕ). slice_get es z ≡ Some w.entry) place w.there;
            is = there ∙ ap (λ (z : Term). Some z) (w.is ∙ ap (λ (z : ℕ). write_root z w.entry) number);
          }

      by : (u : Term) → slice_get every j ≡ Some u → IsOperation u → target_of (kind_of_term u) ≡ Some n → Among rs u ⊎ IsUnder (flat_map postorder rs) u → IsWriteAt n j
      by u there o target (inr h) = absurd (never_under u o (target_writes (kind_of_term u) n target) h)
      by u there o target (inl m) =
          ⊎_elim (λ (l : Among (map load_root ls) u). (let no : None ≡ Some n = sym (load_target ls u l) ∙ target in cc)) (λ (w : Among (write_roots 0 es) u). of_entry u there target (writes_in es 0 u w))
          (among_either (map load_root ls) (write_roots 0 es) u m)

  within_entries : (n j : ℕ) (o : Op) → slice_get g.ops j ≡ Some o → target_of o.kind ≡ Some n → n < length es
  within_entries n j o e t = let w = write_at n j o e t in got_within es n w.entry w.there

-- ---- there is an entry for memory, rd, the pc and each register
merged_few : (c : Term) (xs ys : List Entry) → length (merge_targets c xs ys) ≤ length xs
merged_few c [] ys = omega arith
merged_few c (x ∷ xs) [] = omega arith
merged_few c (x ∷ xs) (y ∷ ys) = let l = merged_few c xs ys in omega (arith, l)

either_few : (m : ℕ) (b : Bool) (s t : Terms) → length s.targets ≤ m → length t.targets ≤ m → length (if b then s else t).targets ≤ m
either_few m true s t h g = h
either_few m false s t h g = g

merge_few : (m : ℕ) (c : Term) (s t : Terms) → length s.targets ≤ m → length (merge_terms c s t).targets ≤ m
merge_few m c s t h = let l = merged_few c s.targets t.targets in omega (arith, l, h)

branch_few : (m : ℕ) (c : Term) (s t : Terms) → length s.targets ≤ m → length t.targets ≤ m → length (branch c s t).targets ≤ m
branch_few m (t_const a raw) s t h g = either_few m (is_true (value_of a raw)) s t h g
branch_few m (t_read kind ty) s t h g = merge_few m (t_read kind ty) s t h
branch_few m (t_one kind ty a) s t h g = merge_few m (t_one kind ty a) s t h
branch_few m (t_entry n es ty a) s t h g = merge_few m (t_entry n es ty a) s t h
branch_few m (t_two kind ty a b) s t h g = merge_few m (t_two kind ty a b) s t h
branch_few m (t_three kind ty a b c) s t h g = merge_few m (t_three kind ty a b c) s t h

set_few : (m : ℕ) (es : List Entry) (n : ℕ) (e : Entry) → length es ≤ m → length (set es n e) ≤ m
set_few m es n e h = let l = length-set es n e in omega (arith, l, h)

run_few : (m : ℕ) (p : Term) (x : Statement) (s : Terms) → length s.targets ≤ m → length (run_terms p x s).targets ≤ m
run_few m p st_skip s h = h
run_few m p (st_then x y) s h = run_few m p y (run_terms p x s) (run_few m p x s h)
run_few m p (st_set n ty e) s h = h
run_few m p (st_write n ty e a) s h = set_few m s.targets n _ h
run_few m p (st_if c x y) s h =
    branch_few m (test_term s.slots p c) (run_terms (when p (test_term s.slots p c)) x s) (run_terms (unless p (test_term s.slots p c)) y s)
    (run_few m (when p (test_term s.slots p c)) x s h) (run_few m (unless p (test_term s.slots p c)) y s h)

entries_few : (x : ExtensionTree) (w : Which) → length (effect_terms (frame_at x w) (statement_at x w)).targets ≤ 3 + length x.registers
entries_few x w =
    let start_long = length-map (targets_at x w) no_entry in
    let registers = length-map x.registers type_of_register in
    run_few (3 + length x.registers) one_term (statement_at x w) (start (frame_at x w)) (omega (arith, start_long, registers))

-- ---- behaviours by number
abbrev Every : {A : Type 0} → (A → Type 0) → List A → Type 0
Every P [] = Unit {0}
Every P (x ∷ xs) = P x × Every P xs

every_at : {A : Type 0} (P : A → Type 0) (xs : List A) (n : ℕ) (x : A) → Every P xs → slice_get xs n ≡ Some x → P x
every_at P [] n x h e = cc
every_at P (y ∷ xs) zero x h e = subst P (same_Some y x e) h.0
every_at P (y ∷ xs) (suc n) x h e = every_at P xs n x h.1 e

every_join : {A : Type 0} (P : A → Type 0) (xs ys : List A) → Every P xs → Every P ys → Every P (xs ++ ys)
every_join P [] ys h g = g
every_join P (x ∷ xs) ys h g = (h.0, every_join P xs ys h.1 g)

every_number : (P : Which → Type 0) (f : ℕ → Which) (most a n : ℕ) → a + n ≤ most → ((r : ℕ) → r < most → P (f r)) → Every P (map f (range_with_len a n))
every_number P f most a zero l h = tt
every_number P f most a (suc n) l h = (h a (omega (arith, l)), every_number P f most (a + 1) n (omega (arith, l)) h)

all_there : (x : ExtensionTree) → Every (HasBehaviour x) (behaviours_of x)
all_there x =
    every_join (HasBehaviour x) (map instruction_number (range_with_len 0 (length x.instructions))) (map block_number (range_with_len 0 (length x.blocks)))
    (every_number (HasBehaviour x) instruction_number (length x.instructions) 0 (length x.instructions) (omega arith) (λ r l. l)) (every_number (HasBehaviour x) block_number (length x.blocks) 0 (length x.blocks) (omega arith) (λ r l. l))

pub range_long : (a n : ℕ) → length (range_with_len a n) ≡ n
range_long a zero = refl
range_long a (suc n) = ap suc (range_long (a + 1) n)

some_at : {A : Type 0} (xs : List A) (n : ℕ) → n < length xs → (x : A) × (slice_get xs n ≡ Some x)
some_at [] n l = absurd (omega (arith, l))
some_at (x ∷ xs) zero l = (x, refl)
some_at (x ∷ xs) (suc n) l = some_at xs n (omega (arith, l))

-- ---- acts
record IsAct (p : Plan) (f : Act → Bool) (b : ℕ) (ops : List Op) : Type 0 where
  place : ℕ
  number : ℕ
  op : Op
  is : slice_get ops place ≡ Some op
  yes : f (acts.act_at p number op) ≡ true

act_from : (p : Plan) (f : Act → Bool) (b : ℕ) (ops : List Op) → list_any f (acts.acts_from p b ops) ≡ true → IsAct p f b ops
act_from p f b [] h = cc
act_from p f b (o ∷ ops) h =
    ⊎_elim (λ (e : f (acts.act_at p b o) ≡ true). here e)
    (λ (e : list_any f (acts.acts_from p (b + 1) ops) ≡ true). later (act_from p f (b + 1) ops e))
    (or_cases (f (acts.act_at p b o)) (list_any f (acts.acts_from p (b + 1) ops)) h)
  where
    here : f (acts.act_at p b o) ≡ true → IsAct p f b (o ∷ ops)
    here e = record { place = 0; number = b; op = o; is = refl; yes = e }

    later : IsAct p f (b + 1) ops → IsAct p f b (o ∷ ops)
    later r = record { place = suc r.place; number = r.number; op = r.op; is = r.is; yes = r.yes }

custom_target : (r : ℕ) (kind : Kind) → acts.is_custom_write r kind ≡ true → target_of kind ≡ Some (3 + r)
custom_target r (k.WrCustReg number) h = ap (λ n. Some (3 + n)) (eqb-true number r h)
custom_target r _ h = cc

flag_found : (f : ℕ → Bool) (n r : ℕ) → get_or (flags f n) r false ≡ true → f r ≡ true
flag_found f zero r h = cc
flag_found f (suc n) zero h = h
flag_found f (suc n) (suc r) h = flag_found (λ q. f (suc q)) n r h

-- ---- the instructions of a design
module _ (d : Design) (stands : Stands d) (valid : ValidLaw) where
  abbrev x : ExtensionTree
  x = view_extension d.extension

  written_within : (w : Which) (p : Plan) → HasBehaviour x w → IsPlanned x d.sheet w p → (c : ℕ) → list_any (acts.writes_late d.sheet.shape.ex c) (acts.acts_of p) ≡ true → c < length x.registers
  written_within w p has planned c h =
      let r = act_from p (acts.writes_late d.sheet.shape.ex c) 0 p.graph.ops h in
      let kind = (and_parts (acts.is_late d.sheet.shape.ex (acts.act_at p r.number r.op)) (acts.is_custom_write c r.op.kind) r.yes).1 in
      let graph : IsGraphOf x w p.graph = record { ops = planned.graph.ops; few = planned.graph.few; flags = planned.graph.flags; tables_are = planned.graph.tables_are } in
      let good = valid stands.well_formed.0 x w p.graph stands.well_formed.1 has graph in
      let within = within_entries (loads one_term (statement_at x w) (start (frame_at x w))) (effect_terms (frame_at x w) (statement_at x w)).targets p.graph planned.graph.ops good (3 + c) r.place r.op r.is (custom_target c r.op.kind kind) in
      let few = entries_few x w in
      omega (arith, within, few)

  plan_within : (n : ℕ) (p : Plan) → slice_get d.plans n ≡ Some p → (c : ℕ) → list_any (acts.writes_late d.sheet.shape.ex c) (acts.acts_of p) ≡ true → c < length x.registers
  plan_within n p e c h =
      let there = got_within d.plans n p e in
      let plans = stands.built.plan_count in
      let nets = stands.built.net_count in
      let w = some_at (behaviours_of x) n (omega (arith, there, plans)) in
      let net = some_at d.nets n (omega (arith, there, plans, nets)) in
      written_within w.0 p (every_at (HasBehaviour x) (behaviours_of x) n w.0 (all_there x) w.1) (stands.built.each n w.0 p net.0 w.1 e net.1).planned c h

  outline_within : (n : ℕ) (o : Option Plan) → slice_get d.plans n ≡ o → (c : ℕ) → get_or (slice_index_or (outlines_in d) n (blank_in d)).late_customs c false ≡ true → c < length x.registers
  unfolding plan_outline
  outline_within n None e c h =
      let blank : slice_index_or (outlines_in d) n (blank_in d) ≡ blank_in d = past d.plans n e in
      absurd (no_flag c (flag_found (λ r. list_any (acts.writes_late d.sheet.shape.ex r) []) 16 c (subst (λ (z : Outline). get_or z.late_customs c false ≡ true) blank h)))
    where
      no_flag : (c : ℕ) → false ≡ true → ⊥
      no_flag c e = cc

      past : (ps : List Plan) (n : ℕ) → slice_get ps n ≡ None → slice_index_or (map (plan_outline d.sheet.shape (block_acts d)) ps) n (blank_in d) ≡ blank_in d
      past [] n e = refl
      past (p ∷ ps) zero e = cc
      past (p ∷ ps) (suc n) e = past ps n e
  outline_within n (Some p) e c h =
      let f : Plan → Outline = plan_outline d.sheet.shape (block_acts d) in
      let same : slice_index_or (outlines_in d) n (blank_in d) ≡ f p = get_or_from_slice_get (outlines_in d) n (f p) (blank_in d) (slice_get-map f d.plans n ∙ ap (option_map f) e) in
      plan_within n p e c (flag_found (λ r. list_any (acts.writes_late d.sheet.shape.ex r) (acts.acts_of p)) 16 c (subst (λ (z : Outline). get_or z.late_customs c false ≡ true) same h))

  late_at : (word : ℕ) (o : Option Decoded) (c : ℕ) → get_or (asks_in d word o).late_customs c false ≡ true → c < length x.registers
  unfolding asks_in
  late_at word None c h = absurd (no_flag (flag_found (λ r. list_any (acts.writes_late d.sheet.shape.ex r) []) 16 c h)) where
    no_flag : false ≡ true → ⊥
    no_flag e = cc
  late_at word (Some (D.Base b)) c h = absurd (no_flag (flag_found (λ r. false) 16 c h)) where
    no_flag : false ≡ true → ⊥
    no_flag e = cc
  late_at word (Some (D.Own n)) c h = outline_within n (slice_get d.plans n) refl c h

  pub late_within : (word c : ℕ) → get_or (asked d word).late_customs c false ≡ true → c < length x.registers
  late_within word c h = late_at word (decoded_in x word) c h
