-- What a graph writes and reads under inputs is what the terms say.
use Rattle.std.proofs.Common.{◌≡◌, refl, sym, ap, subst, ◌∙◌, inl, inr, ⊎_elim, ℕ, zero, suc, ◌+◌, ◌≤◌, arith, pos, Bool, true, false, cond, List, [], ◌∷◌, ◌++◌, length, map, get_or, Option, Some, None, length-append}
use Rattle.std.specs.Prelude.{slice_get}
use Rattle.std.specs.List.{flat_map}
use Rattle.std.proofs.lemmas.Bool.{eqb-true, eq-eqb, false≢true}
use Rattle.ix_bits.specs.declared.number.Ty.{Ty}
use Rattle.ix_bits.specs.Operators.{value_of, is_true}
use Rattle.ix_graph.specs.declared.kind.Kind.{Kind}
use Rattle.ix_graph.specs.declared.kind.Kind.TheVariants as k
use Rattle.ix_graph.specs.declared.graph.Op.{Op}
use Rattle.ix_graph.specs.declared.graph.Graph.{Graph}
use Rattle.ix_graph.specs.Graphs.{IsWrite, IsValidGraph}
use Rattle.ix_graph.specs.Roles.{same_kind}
use Rattle.ix_graph.proofs.SameKinds.{same_kind_law}
use Rattle.ix_tree.specs.declared.extension.Table.{Table}
use Rattle.ix_mean.specs.Core.{Expression, x_const, x_slot, x_read, x_load, x_one, x_cast, x_entry, x_two, x_choose, Statement, st_skip, st_then, st_set, st_write, st_if}
use Rattle.ix_mean.specs.Meaning.{Inputs, Write, Access}
use Rattle.ix_mean.specs.Terms.{Term, t_const, t_read, t_one, t_entry, t_two, t_three, type_of, value, same_term, zero_term, one_term, Entry, Terms, Load, when, unless, test_term, run_terms, expression_loads, branch_loads, loads, entry_value, active}
use Rattle.ix_mean.specs.Order.{postorder, Among, operations, load_root, write_root, write_roots, roots}
use Rattle.ix_mean.specs.Typing.{Frame, IsTypedStatement, AreInputs}
use Rattle.ix_mean.specs.GraphValues.{IsMeaning}
use Rattle.ix_mean.proofs.Same.{same_term_is}
use Rattle.ix_mean.proofs.Ordering.{among_left, among_right, operations_law}
use Rattle.ix_terms.specs.Places.{IsOperation}
use Rattle.ix_flow.specs.Flows.{kind_of_term, args_of_term, AreArgsOf, AreOpsOf, target_of}
use Rattle.ix_behaviour.specs.Behaviours.{loads_in, accesses_in}
use Rattle.ix_behaviour.specs.Accesses.{AccessesAreTyped}
use Rattle.ix_behaviour.specs.Tables.{TablesAreRead}
use Rattle.ix_graph_laws.specs.Operations.{entries_in}
use Rattle.ix_graph_laws.specs.GraphEffects.{numbers_of, AreReads, accessed, reads_by, graph_reads, written, is_target, written_by, graph_write}
use Rattle.ix_graph_laws.proofs.Addresses.{without}
use Rattle.ix_graph_laws.proofs.Fronts.{last_in, among_place, one_place}
use Rattle.ix_graph_laws.proofs.Inner.{the_loads, the_entries, IsWriteOf}
use Rattle.ix_graph_laws.proofs.Valid.{op_at, term_op, all, AreTargets, Is, what, write_is, inner_no_write}
use Rattle.ix_graph_laws.proofs.Running.{IsIn, args_give}

-- ---- the first operation that writes a target
some_same : (m n : ℕ) → Some m ≡ Some n → m ≡ n
some_same m n e = cc

target_same : (o : Option ℕ) (n : ℕ) → is_target n o ≡ true → o ≡ Some n
target_same None n e = cc
target_same (Some m) n e = ap (λ (z : ℕ). Some z) (eqb-true m n e)

target_there : (o : Option ℕ) (n : ℕ) → o ≡ Some n → is_target n o ≡ true
target_there o n e = ap (is_target n) e ∙ eq-eqb n n refl

module _ (g : Graph) (terms : ℕ → ℕ) (n : ℕ) where
  none_written : (os : List Op) → ((j : ℕ) (o : Op) → slice_get os j ≡ Some o → target_of o.kind ≡ Some n → ⊥) → written_by g terms os n ≡ None
  none_written [] h = refl
  none_written (o ∷ os) h = by (is_target n (target_of o.kind)) refl (none_written os (λ j p e. h (suc j) p e))
    where
      by : (b : Bool) → is_target n (target_of o.kind) ≡ b → written_by g terms os n ≡ None → cond b (written o.kind (numbers_of g terms o)) (written_by g terms os n) ≡ None
      by true f r = absurd (h 0 o refl (target_same (target_of o.kind) n f))
      by false f r = r

  some_written : (w : Option Write) (os : List Op) (m : ℕ) (p : Op) → slice_get os m ≡ Some p → target_of p.kind ≡ Some n
      → ((j : ℕ) (o : Op) → slice_get os j ≡ Some o → target_of o.kind ≡ Some n → written o.kind (numbers_of g terms o) ≡ w) → written_by g terms os n ≡ w
  some_written w [] m p e t h = cc
  some_written w (o ∷ os) m p e t h = by (is_target n (target_of o.kind)) refl m e (λ l d. some_written w os l p d t (λ j q e. h (suc j) q e))
    where
      by : (b : Bool) → is_target n (target_of o.kind) ≡ b → (m : ℕ) → slice_get (o ∷ os) m ≡ Some p → ((l : ℕ) → slice_get os l ≡ Some p → written_by g terms os n ≡ w)
          → cond b (written o.kind (numbers_of g terms o)) (written_by g terms os n) ≡ w
      by true f m e r = h 0 o refl (target_same (target_of o.kind) n f)
      by false f zero e r =
          let same : o ≡ p = cc in
          let there : is_target n (target_of o.kind) ≡ true = target_there (target_of o.kind) n (ap (λ (z : Op). target_of z.kind) same ∙ t) in
          absurd (false≢true (sym f ∙ there))
      by false f (suc m) e r = r m e

-- ---- the operation that loads
module _ (g : Graph) (terms : ℕ → ℕ) where
  none_read : (os : List Op) → ((j : ℕ) (o : Op) → slice_get os j ≡ Some o → o.kind ≡ k.RdMem → ⊥) → reads_by g terms os ≡ []
  none_read [] h = refl
  none_read (o ∷ os) h = by (same_kind o.kind k.RdMem) refl (none_read os (λ j p e. h (suc j) p e))
    where
      by : (b : Bool) → same_kind o.kind k.RdMem ≡ b → reads_by g terms os ≡ [] → cond b (accessed o.ty (numbers_of g terms o)) [] ++ reads_by g terms os ≡ []
      by true f r = absurd (h 0 o refl ((same_kind_law o.kind k.RdMem).0 f))
      by false f r = r

  one_read : (os : List Op) (m : ℕ) (p : Op) → slice_get os m ≡ Some p → p.kind ≡ k.RdMem → ((j : ℕ) (o : Op) → slice_get os j ≡ Some o → o.kind ≡ k.RdMem → j ≡ m)
      → reads_by g terms os ≡ accessed p.ty (numbers_of g terms p)
  one_read [] m p e t h = cc
  one_read (o ∷ os) zero p e t h =
      let same : o ≡ p = cc in
      let rest : reads_by g terms os ≡ [] = none_read os (λ j q d s. (let no : suc j ≡ 0 = h (suc j) q d s in omega (arith, no))) in
      let first : same_kind o.kind k.RdMem ≡ true = (same_kind_law o.kind k.RdMem).1 (ap (λ (z : Op). z.kind) same ∙ t) in
      ap (λ (b : Bool). cond b (accessed o.ty (numbers_of g terms o)) [] ++ reads_by g terms os) first
      ∙ ap (λ (z : List Access). accessed o.ty (numbers_of g terms o) ++ z) rest
      ∙ Rattle.std.proofs.lemmas.List.append-nil (accessed o.ty (numbers_of g terms o)) ∙ ap (λ (z : Op). accessed z.ty (numbers_of g terms z)) same
  one_read (o ∷ os) (suc m) p e t h =
      by (same_kind o.kind k.RdMem) refl (one_read os m p e t (λ j q d s. (let s : suc j ≡ suc m = h (suc j) q d s in omega (arith, s))))
    where
      by : (b : Bool) → same_kind o.kind k.RdMem ≡ b → reads_by g terms os ≡ accessed p.ty (numbers_of g terms p)
          → cond b (accessed o.ty (numbers_of g terms o)) [] ++ reads_by g terms os ≡ accessed p.ty (numbers_of g terms p)
      by true f r = (let no : 0 ≡ suc m = h 0 o refl ((same_kind_law o.kind k.RdMem).0 f) in absurd (omega (arith, no)))
      by false f r = r

-- ---- at most one load
branch_few : (c : Term) (xs ys : List Load) → length (branch_loads c xs ys) ≤ length xs + length ys
branch_few (t_const a raw) xs ys = by (is_true (value_of a raw))
  where
    by : (b : Bool) → length (cond b xs ys) ≤ length xs + length ys
    by true = omega arith
    by false = omega arith
branch_few (t_read _ _) xs ys = let e = length-append xs ys in omega (arith, e)
branch_few (t_one _ _ _) xs ys = let e = length-append xs ys in omega (arith, e)
branch_few (t_entry _ _ _ _) xs ys = let e = length-append xs ys in omega (arith, e)
branch_few (t_two _ _ _ _) xs ys = let e = length-append xs ys in omega (arith, e)
branch_few (t_three _ _ _ _ _) xs ys = let e = length-append xs ys in omega (arith, e)

expression_few : (xs : List Term) (p : Term) (e : Expression) → length (expression_loads xs p e) ≤ loads_in e
expression_few xs p (x_const ty raw) = omega arith
expression_few xs p (x_slot n ty) = omega arith
expression_few xs p (x_read kind ty) = omega arith
expression_few xs p (x_load ty a) =
    let e = length-append (expression_loads xs p a) (record { ty = ty; address = Rattle.ix_mean.specs.Terms.cast_to Rattle.ix_mean.specs.Core.u32 (Rattle.ix_mean.specs.Terms.term xs p a); condition = p } ∷ []) in
    let h = expression_few xs p a in
    omega (arith, e, h)
expression_few xs p (x_one kind ty a) = expression_few xs p a
expression_few xs p (x_cast ty a) = expression_few xs p a
expression_few xs p (x_entry n es ty a) = expression_few xs p a
expression_few xs p (x_two op ty a b) = let e = length-append (expression_loads xs p a) (expression_loads xs p b) in omega (arith, e, expression_few xs p a, expression_few xs p b)
expression_few xs p (x_choose ty c a b) =
    let e = length-append (expression_loads xs p c) (expression_loads xs p a) in
    let h = length-append (expression_loads xs p c ++ expression_loads xs p a) (expression_loads xs p b) in
    omega (arith, e, h, expression_few xs p c, expression_few xs p a, expression_few xs p b)

pub loads_few : (p : Term) (x : Statement) (s : Terms) → length (loads p x s) ≤ accesses_in x
loads_few p st_skip s = omega arith
loads_few p (st_then x y) s = let e = length-append (loads p x s) (loads p y (run_terms p x s)) in omega (arith, e, loads_few p x s, loads_few p y (run_terms p x s))
loads_few p (st_set n ty e) s = expression_few s.slots p e
loads_few p (st_write n ty e a) s =
    let h = length-append (expression_loads s.slots p a) (expression_loads s.slots p e) in omega (arith, h, expression_few s.slots p a, expression_few s.slots p e)
loads_few p (st_if c x y) s =
    let t = test_term s.slots p c in
    let both = branch_loads t (loads (when p t) x s) (loads (unless p t) y s) in
    let e = length-append (expression_loads s.slots p c) both in
    let f = branch_few t (loads (when p t) x s) (loads (unless p t) y s) in
    omega (arith, e, f, expression_few s.slots p c, loads_few (when p t) x s, loads_few (unless p t) y s)

-- ---- kinds and targets
-- what has a target writes
target_writes : (kind : Kind) (n : ℕ) → target_of kind ≡ Some n → IsWrite kind
target_writes k.WrRD n e = tt
target_writes k.WrPC n e = tt
target_writes k.WrMem n e = tt
target_writes (k.WrCustReg r) n e = tt
target_writes _ n e = cc

write_target : (n : ℕ) (e : Entry) → target_of (kind_of_term (write_root n e)) ≡ Some n
write_target zero e = refl
write_target (suc zero) e = refl
write_target (suc (suc zero)) e = refl
write_target (suc (suc (suc r))) e = let s : 3 + r ≡ suc (suc (suc r)) = omega arith in ap (λ (z : ℕ). Some z) s

write_operation : (n : ℕ) (e : Entry) → IsOperation (write_root n e)
write_operation zero e = tt
write_operation (suc zero) e = tt
write_operation (suc (suc zero)) e = tt
write_operation (suc (suc (suc r))) e = tt

-- what a write of a target writes is what the target's terms say
written_is : (i : Inputs) (n : ℕ) (e : Entry) → written (kind_of_term (write_root n e)) (map (value i) (args_of_term (write_root n e))) ≡ without n (entry_value i e)
written_is i zero e = by (is_true (value i e.condition))
  where
    by : (b : Bool) → cond b (Some (record { value = value i e.value; address = value i e.address })) None ≡ without 0 (cond b (Some (record { value = value i e.value; address = value i e.address })) None)
    by true = refl
    by false = refl
written_is i (suc zero) e = by (is_true (value i e.condition))
  where
    by : (b : Bool) → cond b (Some (record { value = value i e.value; address = pos 0 })) None ≡ without 1 (cond b (Some (record { value = value i e.value; address = value i e.address })) None)
    by true = refl
    by false = refl
written_is i (suc (suc zero)) e = by (is_true (value i e.condition))
  where
    by : (b : Bool) → cond b (Some (record { value = value i e.value; address = pos 0 })) None ≡ without 2 (cond b (Some (record { value = value i e.value; address = value i e.address })) None)
    by true = refl
    by false = refl
written_is i (suc (suc (suc r))) e = by (is_true (value i e.condition))
  where
    by : (b : Bool) → cond b (Some (record { value = value i e.value; address = pos 0 })) None ≡ without (suc (suc (suc r))) (cond b (Some (record { value = value i e.value; address = value i e.address })) None)
    by true = refl
    by false = refl

-- ---- roots are operations
under : (rs : List Term) (r : Term) → Among rs r → IsOperation r → Among (flat_map postorder rs) r
under [] r m o = absurd m
under (t ∷ rs) r m o =
    ⊎_elim (λ (e : r ≡ t). among_left (postorder t) (flat_map postorder rs) r (subst (λ (z : Term). Among (postorder z) r) e (last_in r o)))
    (λ (n : Among rs r). among_right (postorder t) (flat_map postorder rs) r (under rs r n o)) m

root_there : (rs : List Term) (r : Term) → Among rs r → IsOperation r → Among (operations rs) r
root_there rs r m o = (operations_law rs).all r (under rs r m o)

write_among : (m n : ℕ) (es : List Entry) (e : Entry) → slice_get es n ≡ Some e → same_term e.condition zero_term ≡ false → Among (write_roots m es) (write_root (m + n) e)
write_among m n [] e h f = cc
write_among m zero (x ∷ es) e h f =
    let same : x ≡ e = cc in
    let here : Among (write_roots m (e ∷ es)) (write_root (m + 0) e) = by (same_term e.condition zero_term) f in
    subst (λ (z : Entry). Among (write_roots m (z ∷ es)) (write_root (m + 0) e)) (sym same) here
  where
    by : (b : Bool) → b ≡ false → Among (cond b (write_roots (suc m) es) (write_root m e ∷ write_roots (suc m) es)) (write_root (m + 0) e)
    by true f = cc
    by false f = inl (ap (λ (j : ℕ). write_root j e) (let s : m + 0 ≡ m = omega arith in s))
write_among m (suc n) (x ∷ es) e h f =
    by (same_term x.condition zero_term) (subst (λ (j : ℕ). Among (write_roots (suc m) es) (write_root j e)) (let s : suc m + n ≡ m + suc n = omega arith in s) (write_among (suc m) n es e h f))
  where
    by : (b : Bool) → Among (write_roots (suc m) es) (write_root (m + suc n) e) → Among (cond b (write_roots (suc m) es) (write_root m x ∷ write_roots (suc m) es)) (write_root (m + suc n) e)
    by true r = r
    by false r = inr r

module _ (f : Frame) (x : Statement) (ts : List Table) (typed : IsTypedStatement f x) (accesses : AccessesAreTyped x) (tables : TablesAreRead ts x) (targets : AreTargets f x ts typed accesses tables)
    (g : Graph) (ops : AreOpsOf (all f x ts typed accesses tables) (all f x ts typed accesses tables) g.ops) (tables_are : g.tables ≡ map entries_in ts) (valid : IsValidGraph g) (i : Inputs) (inputs : AreInputs f.targets i)
    (terms : ℕ → ℕ) (means : IsMeaning g terms) (reads : AreReads g i terms) where
  abbrev every : List Term
  every = all f x ts typed accesses tables

  abbrev ls : List Load
  ls = the_loads f x ts typed accesses tables

  abbrev es : List Entry
  es = the_entries f x ts typed accesses tables

  numbers : (j : ℕ) (t : Term) (o : Op) → slice_get every j ≡ Some t → slice_get g.ops j ≡ Some o → AreArgsOf every (args_of_term t) o.args → numbers_of g terms o ≡ map (value i) (args_of_term t)
  numbers = args_give f x ts typed accesses tables targets g ops tables_are valid i inputs terms means reads

  -- ---- writes
  -- an operation that writes a target is the write of its terms
  record WritesTarget (n j : ℕ) (o : Op) : Type 0 where
    entry : Entry
    there : slice_get es n ≡ Some entry
    kept : same_term entry.condition zero_term ≡ false
    gives : written o.kind (numbers_of g terms o) ≡ without n (entry_value i entry)

  writes_target : (n j : ℕ) (o : Op) → slice_get g.ops j ≡ Some o → target_of o.kind ≡ Some n → WritesTarget n j o
  writes_target n j o e t =
      let r = op_at every every g.ops j o ops e in
      by r.term r.there r.is.kind_is r.is.operation r.is.args_are (what f x ts typed accesses tables targets g ops tables_are j r.term r.there)
    where
      at : (u : Term) → slice_get every j ≡ Some u → AreArgsOf every (args_of_term u) o.args → (m : ℕ) (y : Entry) → u ≡ write_root m y → o.kind ≡ kind_of_term u → m ≡ n → slice_get es m ≡ Some y
          → same_term y.condition zero_term ≡ false → WritesTarget n j o
      at u h a m y s d q w f =
          let kind : o.kind ≡ kind_of_term (write_root n y) = d ∙ ap kind_of_term s ∙ ap (λ (z : ℕ). kind_of_term (write_root z y)) q in
          let nums : numbers_of g terms o ≡ map (value i) (args_of_term (write_root n y)) =
          numbers j u o h e a ∙ ap (λ (z : Term). map (value i) (args_of_term z)) s ∙ ap (λ (z : ℕ). map (value i) (args_of_term (write_root z y))) q in
          record {
            entry = y;
            there = subst (λ (z : ℕ). slice_get es z ≡ Some y) q w;
            kept = f;
            gives = ap (λ (z : Kind). written z (numbers_of g terms o)) kind ∙ ap (written (kind_of_term (write_root n y))) nums ∙ written_is i n y;
          }

      by : (u : Term) → slice_get every j ≡ Some u → o.kind ≡ kind_of_term u → IsOperation u → AreArgsOf every (args_of_term u) o.args → Is f x ts typed accesses tables targets g ops tables_are u → WritesTarget n j o
      by u h d p a (inl q) = absurd (inner_no_write f.targets u q.typed p (subst IsWrite d (target_writes o.kind n t)))
      by u h d p a (inr q) =
          let s = write_is f x ts typed accesses tables targets g ops tables_are u q in
          let same : q.place ≡ n = some_same q.place n (sym (write_target q.place q.entry) ∙ ap (λ (z : Term). target_of (kind_of_term z)) (sym s) ∙ ap target_of (sym d) ∙ t) in
          at u h a q.place q.entry s d same q.there q.kept

  some_entry : (a b : Entry) → Some a ≡ Some b → a ≡ b
  some_entry a b e = cc

  abbrev Writes : ℕ → Option Entry → Type 0
  Writes n None = graph_write g terms n ≡ None
  Writes n (Some e) = graph_write g terms n ≡ without n (entry_value i e)

  never : (n : ℕ) (e : Entry) → same_term e.condition zero_term ≡ true → without n (entry_value i e) ≡ None
  never n e h = by (is_true (value i e.condition)) (ap (λ (z : Term). is_true (value i z)) (same_term_is e.condition zero_term h))
    where
      by : (b : Bool) → b ≡ false → without n (cond b (Some (record { value = value i e.value; address = value i e.address })) None) ≡ None
      by true f = cc
      by false f = refl

  writes_at : (n : ℕ) (o : Option Entry) → slice_get es n ≡ o → Writes n o
  writes_at n None h = none_written g terms n g.ops (λ j o e t. (let w = writes_target n j o e t in let no : None ≡ Some w.entry = sym h ∙ w.there in cc))
  writes_at n (Some y) h = by (same_term y.condition zero_term) refl
    where
      by : (b : Bool) → same_term y.condition zero_term ≡ b → graph_write g terms n ≡ without n (entry_value i y)
      by true d =
          none_written g terms n g.ops
          (λ j o e t. (let w = writes_target n j o e t in let same = some_entry y w.entry (sym h ∙ w.there) in
          absurd (false≢true (sym w.kept ∙ ap (λ (z : Entry). same_term z.condition zero_term) (sym same) ∙ d))))
          ∙ sym (never n y d)
      by false d =
          let among : Among (roots ls es) (write_root n y) =
          among_right (map load_root ls) (write_roots 0 es) (write_root n y)
          (subst (λ (z : ℕ). Among (write_roots 0 es) (write_root z y)) (let s : 0 + n ≡ n = omega arith in s) (write_among 0 n es y h d)) in
          let p = among_place every (write_root n y) (root_there (roots ls es) (write_root n y) among (write_operation n y)) in
          let r = term_op every every g.ops p.place (write_root n y) ops p.there in
          some_written g terms n (without n (entry_value i y)) g.ops p.place r.op r.there (ap target_of r.is.kind_is ∙ write_target n y)
          (λ j o e t. (let w = writes_target n j o e t in let same = some_entry w.entry y (sym w.there ∙ h) in w.gives ∙ ap (λ (z : Entry). without n (entry_value i z)) same))

  mapped : (xs : List Entry) (n : ℕ) → slice_get xs n ≡ None → get_or (map (entry_value i) xs) n None ≡ None
  mapped [] n h = refl
  mapped (x ∷ xs) zero h = cc
  mapped (x ∷ xs) (suc n) h = mapped xs n h

  mapped_at : (xs : List Entry) (n : ℕ) (e : Entry) → slice_get xs n ≡ Some e → get_or (map (entry_value i) xs) n None ≡ entry_value i e
  mapped_at [] n e h = cc
  mapped_at (x ∷ xs) zero e h = (let same : x ≡ e = cc in ap (entry_value i) same)
  mapped_at (x ∷ xs) (suc n) e h = mapped_at xs n e h

  -- what is written to a target
  pub writes_are : (n : ℕ) → graph_write g terms n ≡ without n (get_or (map (entry_value i) es) n None)
  writes_are n = by (slice_get es n) refl
    where
      by : (o : Option Entry) → slice_get es n ≡ o → graph_write g terms n ≡ without n (get_or (map (entry_value i) es) n None)
      by None h = writes_at n None h ∙ ap (without n) (sym (mapped es n h))
      by (Some e) h = writes_at n (Some e) h ∙ ap (without n) (sym (mapped_at es n e h))

  -- ---- loads
  -- an operation that loads is a load's
  record IsLoadOp (j : ℕ) (o : Op) : Type 0 where
    ty : Ty
    address : Term
    condition : Term
    among : Among (map load_root ls) (t_two k.RdMem ty address condition)
    there : slice_get every j ≡ Some (t_two k.RdMem ty address condition)

  write_no_load : (n : ℕ) (e : Entry) → kind_of_term (write_root n e) ≡ k.RdMem → ⊥
  write_no_load zero e h = cc
  write_no_load (suc zero) e h = cc
  write_no_load (suc (suc zero)) e h = cc
  write_no_load (suc (suc (suc r))) e h = cc

  load_op : (j : ℕ) (o : Op) → slice_get g.ops j ≡ Some o → o.kind ≡ k.RdMem → IsLoadOp j o
  load_op j o e t =
      let r = op_at every every g.ops j o ops e in
      by r.term r.there (sym r.is.kind_is ∙ t) r.is.operation (what f x ts typed accesses tables targets g ops tables_are j r.term r.there)
    where
      inner : (u : Term) → slice_get every j ≡ Some u → kind_of_term u ≡ k.RdMem → IsOperation u → IsIn f x ts typed accesses tables targets g ops tables_are valid i inputs terms means reads u → IsLoadOp j o
      inner (t_const ty raw) h d p q = absurd p
      inner (t_read kind ty) h d p q = (let no = subst (λ (z : Kind). Rattle.ix_mean.specs.Typing.IsRead f.targets z ty) d q.typed in absurd no)
      inner (t_one kind ty a) h d p q = (let no = subst (λ (z : Kind). Rattle.ix_mean.specs.Typing.IsOne z (type_of a) ty) d q.typed.1 in absurd no)
      inner (t_entry n es ty a) h d p q = cc
      inner (t_two kind ty a c) h d p q =
          let all_at = subst (λ (z : Kind). Rattle.ix_graph_laws.proofs.Made.Made ts (Rattle.ix_graph_laws.proofs.Inner.IsRootLoad ls) (t_two z ty a c)) d q.made in
          record { ty = ty; address = a; condition = c; among = all_at.0.1; there = subst (λ (z : Kind). slice_get every j ≡ Some (t_two z ty a c)) d h }
      inner (t_three kind ty a b c) h d p q = (let no = subst (λ (z : Kind). Rattle.ix_mean.specs.Typing.IsThree z (type_of a) (type_of b) (type_of c) ty) d q.typed.3 in absurd no)

      by : (u : Term) → slice_get every j ≡ Some u → kind_of_term u ≡ k.RdMem → IsOperation u → Is f x ts typed accesses tables targets g ops tables_are u → IsLoadOp j o
      by u h d p (inl q) = inner u h d p q
      by u h d p (inr q) =
          let s = write_is f x ts typed accesses tables targets g ops tables_are u q in
          absurd (write_no_load q.place q.entry (ap kind_of_term (sym s) ∙ d))

  reads_at : (one : List Load) → ls ≡ one → length one ≤ 1 → graph_reads g terms ≡ active i one
  reads_at [] h l = none_read g terms g.ops (λ j o e t. (let r = load_op j o e t in let m = subst (λ (z : List Load). Among (map load_root z) (t_two k.RdMem r.ty r.address r.condition)) h r.among in absurd m))
  reads_at (y ∷ z ∷ one) h l = absurd (omega (arith, l))
  reads_at (y ∷ []) h l =
      let first : Among (map load_root ls) (load_root y) = subst (λ (z : List Load). Among (map load_root z) (load_root y)) (sym h) (inl refl) in
      let among : Among (roots ls es) (load_root y) = among_left (map load_root ls) (write_roots 0 es) (load_root y) first in
      let p = among_place every (load_root y) (root_there (roots ls es) (load_root y) among tt) in
      let r = term_op every every g.ops p.place (load_root y) ops p.there in
      let only : (j : ℕ) (o : Op) → slice_get g.ops j ≡ Some o → o.kind ≡ k.RdMem → j ≡ p.place =
      λ j o e t. (let d = load_op j o e t in
      let m = subst (λ (z : List Load). Among (map load_root z) (t_two k.RdMem d.ty d.address d.condition)) h d.among in
      let same : t_two k.RdMem d.ty d.address d.condition ≡ load_root y = ⊎_elim (λ (e : t_two k.RdMem d.ty d.address d.condition ≡ load_root y). e) (λ (no : ⊥). absurd no) m in
      one_place every j p.place (load_root y) (operations_law (roots ls es)).once (subst (λ (z : Term). slice_get every j ≡ Some z) same d.there) p.there) in
      one_read g terms g.ops p.place r.op r.there r.is.kind_is only
      ∙ ap (λ (ty : Ty). accessed ty (numbers_of g terms r.op)) r.is.ty_is
      ∙ ap (accessed y.ty) (numbers p.place (load_root y) r.op p.there r.there r.is.args_are)

  pub reads_are : accesses_in x ≤ 1 → graph_reads g terms ≡ active i ls
  reads_are l = let few = loads_few one_term x (Rattle.ix_mean.specs.Effects.start f) in reads_at ls refl (omega (arith, l, few))
