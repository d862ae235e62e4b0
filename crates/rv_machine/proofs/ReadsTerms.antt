-- What the terms of a behaviour are made of: what it reads, and its loads.
use Rattle.std.proofs.Common.{◌≡◌, refl, ℕ, zero, suc, Bool, true, false, cond, List, [], ◌∷◌, ◌++◌, get_or, set, map}
use Rattle.std.specs.Prelude.{◌&&◌}
use Rattle.std.proofs.lemmas.Bool.{cond_both}
use Rattle.ix_bits.specs.declared.number.Ty.{Ty}
use Rattle.ix_bits.specs.declared.operator.BinOp.{BinOp}
use Rattle.ix_bits.specs.declared.operator.BinOp.TheVariants as b
use Rattle.ix_bits.specs.Operators.{value_of, is_true}
use Rattle.ix_graph.specs.declared.kind.Kind.{Kind}
use Rattle.ix_graph.specs.declared.kind.Kind.TheVariants as k
use Rattle.ix_graph.specs.declared.role.Role.TheVariants.{Compute}
use Rattle.ix_graph.specs.Roles.{role_of}
use Rattle.ix_mean.specs.Core.{u1, u32, Expression, x_const, x_slot, x_read, x_load, x_one, x_cast, x_entry, x_two, x_choose, Statement, st_skip, st_then, st_set, st_write, st_if}
use Rattle.ix_mean.specs.Terms.{Term, t_const, t_read, t_one, t_entry, t_two, t_three, type_of, kind_of, same_ty, same_term, make_one, make_entry, make_two, cast_to, make_mux, condition, zero_term, one_term, term, Entry, Terms, merge, merge_condition, merge_entry, merge_slots, merge_targets, merge_terms, along, branch_path, branch, when, unless, test_term, run_terms, Load, expression_loads, branch_loads, loads}
use Rattle.ix_mean.specs.Typing.{Frame}
use Rattle.ix_mean.specs.Effects.{zero_of_type, no_entry, start}

-- an expression reads such kinds alone, loads only where it may, and what else it has with one argument computes
abbrev pub Kept : (Kind → Type 0) → Type 0 → Expression → Type 0
Kept R M (x_const ty raw) = Unit {0}
Kept R M (x_slot n ty) = Unit {0}
Kept R M (x_read kind ty) = R kind
Kept R M (x_load ty a) = M × Kept R M a
Kept R M (x_one kind ty a) = (role_of kind ≡ Compute) × Kept R M a
Kept R M (x_cast ty a) = Kept R M a
Kept R M (x_entry n es ty a) = Kept R M a
Kept R M (x_two op ty a c) = Kept R M a × Kept R M c
Kept R M (x_choose ty a c e) = Kept R M a × Kept R M c × Kept R M e

abbrev pub AllKept : (Kind → Type 0) → Type 0 → Statement → Type 0
AllKept R M st_skip = Unit {0}
AllKept R M (st_then x y) = AllKept R M x × AllKept R M y
AllKept R M (st_set n ty e) = Kept R M e
AllKept R M (st_write n ty e a) = Kept R M e × Kept R M a
AllKept R M (st_if c x y) = Kept R M c × AllKept R M x × AllKept R M y

module _ (R : Kind → Type 0) (M : Type 0) (L : Ty → Term → Term → Type 0) where
  -- a load is one of these, and what else has two arguments computes
  abbrev pub LoadAt : Kind → Ty → Term → Term → Type 0
  LoadAt k.RdMem ty a b = L ty a b
  LoadAt kind ty a b = role_of kind ≡ Compute

  abbrev pub Made : Term → Type 0
  Made (t_const ty raw) = Unit {0}
  Made (t_read kind ty) = R kind
  Made (t_one kind ty a) = (role_of kind ≡ Compute) × Made a
  Made (t_entry n es ty a) = Made a
  Made (t_two kind ty a b) = LoadAt kind ty a b × Made a × Made b
  Made (t_three kind ty a b c) = (kind ≡ k.Mux) × Made a × Made b × Made c

  abbrev pub AllLoads : List Load → Type 0
  AllLoads [] = Unit {0}
  AllLoads (l ∷ ls) = L l.ty l.address l.condition × AllLoads ls

  abbrev pub AllMade : List Term → Type 0
  AllMade [] = Unit {0}
  AllMade (t ∷ us) = Made t × AllMade us

  abbrev pub EntryMade : Entry → Type 0
  EntryMade e = Made e.condition × Made e.value × Made e.address

  abbrev pub EntriesMade : List Entry → Type 0
  EntriesMade [] = Unit {0}
  EntriesMade (e ∷ es) = EntryMade e × EntriesMade es

  pub record StateMade (s : Terms) : Type 0 where
    pub slots : AllMade s.slots
    pub targets : EntriesMade s.targets

  -- ---- loads
  front_loads : (xs ys : List Load) → AllLoads (xs ++ ys) → AllLoads xs
  front_loads [] ys h = tt
  front_loads (x ∷ xs) ys h = (h.0, front_loads xs ys h.1)

  back_loads : (xs ys : List Load) → AllLoads (xs ++ ys) → AllLoads ys
  back_loads [] ys h = h
  back_loads (x ∷ xs) ys h = back_loads xs ys h.1

  -- ---- what is made of terms
  one_made : (kind : Kind) (ty : Ty) (t : Term) → role_of kind ≡ Compute → Made t → Made (make_one kind ty t)
  one_made kind ty (t_const a raw) c h = tt
  one_made kind ty (t_read _ _) c h = (c, h)
  one_made kind ty (t_one _ _ _) c h = (c, h)
  one_made kind ty (t_entry _ _ _ _) c h = (c, h)
  one_made kind ty (t_two _ _ _ _) c h = (c, h)
  one_made kind ty (t_three _ _ _ _ _) c h = (c, h)

  entry_made : (n : ℕ) (es : List ℕ) (ty : Ty) (t : Term) → Made t → Made (make_entry n es ty t)
  entry_made n es ty (t_const a raw) h = tt
  entry_made n es ty (t_read _ _) h = h
  entry_made n es ty (t_one _ _ _) h = h
  entry_made n es ty (t_entry _ _ _ _) h = h
  entry_made n es ty (t_two _ _ _ _) h = h
  entry_made n es ty (t_three _ _ _ _ _) h = h

  no_load : (op : BinOp) (ty : Ty) (s t : Term) → LoadAt (kind_of op) ty s t
  no_load b.Add ty s t = refl
  no_load b.Sub ty s t = refl
  no_load b.Mul ty s t = refl
  no_load b.And ty s t = refl
  no_load b.Or ty s t = refl
  no_load b.Xor ty s t = refl
  no_load b.Shl ty s t = refl
  no_load b.Shr ty s t = refl
  no_load b.Eq ty s t = refl
  no_load b.Ne ty s t = refl
  no_load b.Lt ty s t = refl
  no_load b.Le ty s t = refl
  no_load b.Gt ty s t = refl
  no_load b.Ge ty s t = refl
  no_load b.Land ty s t = refl
  no_load b.Lor ty s t = refl
  no_load b.Concat ty s t = refl

  two_made : (kind : Kind) (ty : Ty) (s t : Term) → LoadAt kind ty s t → Made s → Made t → Made (make_two kind ty s t)
  two_made kind ty (t_const a x) (t_const c y) l g h = tt
  two_made kind ty s t l g h = (l, g, h)

  cast_made : (ty : Ty) (t : Term) → Made t → Made (cast_to ty t)
  cast_made ty t h = cond_both (same_ty (type_of t) ty) t (make_one k.Cast ty t) Made (λ e. h) (λ e. one_made k.Cast ty t refl h)

  arms_made : (ty : Ty) (c x y : Term) → Made c → Made x → Made y → Made (cond (same_term x y) x (t_three k.Mux ty c x y))
  arms_made ty c x y h p q = cond_both (same_term x y) x (t_three k.Mux ty c x y) Made (λ e. p) (λ e. (refl, h, p, q))

  mux_made : (ty : Ty) (c x y : Term) → Made c → Made x → Made y → Made (make_mux ty c x y)
  mux_made ty (t_const a raw) x y h p q = cond_both (is_true (value_of a raw)) x y (λ z. Made (cast_to ty z)) (λ e. cast_made ty x p) (λ e. cast_made ty y q)
  mux_made ty (t_read l a) x y h p q = arms_made ty (t_read l a) x y h p q
  mux_made ty (t_one l a u) x y h p q = arms_made ty (t_one l a u) x y h p q
  mux_made ty (t_entry n es a u) x y h p q = arms_made ty (t_entry n es a u) x y h p q
  mux_made ty (t_two l a u v) x y h p q = arms_made ty (t_two l a u v) x y h p q
  mux_made ty (t_three l a u v w) x y h p q = arms_made ty (t_three l a u v w) x y h p q

  condition_made : (t : Term) → Made t → Made (condition t)
  condition_made t h = cond_both (same_ty (type_of t) u1) t (make_two k.Ne u1 t zero_term) Made (λ e. h) (λ e. two_made k.Ne u1 t zero_term refl h tt)

  lnot_made : (t : Term) → Made t → Made (make_one k.Lnot u1 t)
  lnot_made t h = one_made k.Lnot u1 t refl h

  land_made : (s t : Term) → Made s → Made t → Made (make_two k.Land u1 s t)
  land_made s t g h = two_made k.Land u1 s t refl g h

  -- ---- merging
  merge_made : (c x y : Term) → Made c → Made x → Made y → Made (merge c x y)
  merge_made c x y h p q = cond_both (same_term x y) x (make_mux (type_of x) c x y) Made (λ e. p) (λ e. mux_made (type_of x) c x y h p q)

  merged_made : (c x y : Term) → Made c → Made x → Made y → Made (merge_condition c x y)
  merged_made c x y h p q =
      cond_both (same_term x y) x _ Made (λ e. p)
      (λ e. cond_both (same_term x one_term && same_term y zero_term) c _ Made (λ e. h)
      (λ e. cond_both (same_term x zero_term && same_term y one_term) (make_one k.Lnot u1 c) _ Made (λ e. lnot_made c h)
      (λ e. cond_both (same_term y zero_term) (make_two k.Land u1 c x) _ Made (λ e. land_made c x h p)
      (λ e. cond_both (same_term x zero_term) (make_two k.Land u1 (make_one k.Lnot u1 c) y) (make_mux u1 c x y) Made
      (λ e. land_made (make_one k.Lnot u1 c) y (lnot_made c h) q) (λ e. mux_made u1 c x y h p q)))))

  given_made : (c cx cy x y : Term) → Made c → Made x → Made y → Made (cond (same_term cx zero_term) y (cond (same_term cy zero_term) x (merge c x y)))
  given_made c cx cy x y h p q =
      cond_both (same_term cx zero_term) y _ Made (λ e. q) (λ e. cond_both (same_term cy zero_term) x (merge c x y) Made (λ e. p) (λ e. merge_made c x y h p q))

  merge_entry_made : (c : Term) (x y : Entry) → Made c → EntryMade x → EntryMade y → EntryMade (merge_entry c x y)
  merge_entry_made c x y h p q = (
    merged_made c x.condition y.condition h p.0 q.0,
    given_made c x.condition y.condition x.value y.value h p.1 q.1,
    given_made c x.condition y.condition x.address y.address h p.2 q.2,
  )

  merge_slots_made : (c : Term) (xs ys : List Term) → Made c → AllMade xs → AllMade ys → AllMade (merge_slots c xs ys)
  merge_slots_made c [] ys h p q = tt
  merge_slots_made c (x ∷ xs) [] h p q = tt
  merge_slots_made c (x ∷ xs) (y ∷ ys) h p q = (merge_made c x y h p.0 q.0, merge_slots_made c xs ys h p.1 q.1)

  merge_targets_made : (c : Term) (xs ys : List Entry) → Made c → EntriesMade xs → EntriesMade ys → EntriesMade (merge_targets c xs ys)
  merge_targets_made c [] ys h p q = tt
  merge_targets_made c (x ∷ xs) [] h p q = tt
  merge_targets_made c (x ∷ xs) (y ∷ ys) h p q = (merge_entry_made c x y h p.0 q.0, merge_targets_made c xs ys h p.1 q.1)

  merge_terms_made : (c : Term) (x y : Terms) → Made c → StateMade x → StateMade y → StateMade (merge_terms c x y)
  merge_terms_made c x y h p q = record { slots = merge_slots_made c x.slots y.slots h p.slots q.slots; targets = merge_targets_made c x.targets y.targets h p.targets q.targets }

  -- ---- paths and branches
  along_made : (p d : Term) → Made p → Made d → Made (along p d)
  along_made p d h g = cond_both (same_term p one_term) d (make_two k.Land u1 p d) Made (λ e. g) (λ e. land_made p d h g)

  path_made : (p c d : Term) → Made p → Made d → Made (branch_path p c d)
  path_made p (t_const _ _) d h g = h
  path_made p (t_read _ _) d h g = along_made p d h g
  path_made p (t_one _ _ _) d h g = along_made p d h g
  path_made p (t_entry _ _ _ _) d h g = along_made p d h g
  path_made p (t_two _ _ _ _) d h g = along_made p d h g
  path_made p (t_three _ _ _ _ _) d h g = along_made p d h g

  merged_branch : (c : Term) (x y : Terms) (xs ys : List Load) → Made c → AllLoads (xs ++ ys) → (AllLoads xs → StateMade x) → (AllLoads ys → StateMade y) → StateMade (merge_terms c x y)
  merged_branch c x y xs ys h l p q = merge_terms_made c x y h (p (front_loads xs ys l)) (q (back_loads xs ys l))

  branch_made : (c : Term) (x y : Terms) (xs ys : List Load) → Made c → AllLoads (branch_loads c xs ys) → (AllLoads xs → StateMade x) → (AllLoads ys → StateMade y) → StateMade (branch c x y)
  branch_made (t_const a raw) x y xs ys h l p q = by (is_true (value_of a raw)) l
    where
      by : (d : Bool) → AllLoads (cond d xs ys) → StateMade (cond d x y)
      by true l = p l
      by false l = q l
  branch_made (t_read u a) x y xs ys h l p q = merged_branch (t_read u a) x y xs ys h l p q
  branch_made (t_one u a e) x y xs ys h l p q = merged_branch (t_one u a e) x y xs ys h l p q
  branch_made (t_entry n es a e) x y xs ys h l p q = merged_branch (t_entry n es a e) x y xs ys h l p q
  branch_made (t_two u a e f) x y xs ys h l p q = merged_branch (t_two u a e f) x y xs ys h l p q
  branch_made (t_three u a e f g) x y xs ys h l p q = merged_branch (t_three u a e f g) x y xs ys h l p q

  -- ---- expressions
  at_made : (xs : List Term) (n : ℕ) → AllMade xs → Made (get_or xs n zero_term)
  at_made [] n h = tt
  at_made (x ∷ xs) zero h = h.0
  at_made (x ∷ xs) (suc n) h = at_made xs n h.1

  term_made : (xs : List Term) (p : Term) → AllMade xs → Made p → (e : Expression) → Kept R M e → AllLoads (expression_loads xs p e) → Made (term xs p e)
  term_made xs p h g (x_const ty raw) r l = tt
  term_made xs p h g (x_slot n ty) r l = at_made xs n h
  term_made xs p h g (x_read kind ty) r l = r
  term_made xs p h g (x_load ty a) r l =
      ((back_loads (expression_loads xs p a) _ l).0, cast_made u32 (term xs p a) (term_made xs p h g a r.1 (front_loads (expression_loads xs p a) _ l)), g)
  term_made xs p h g (x_one kind ty a) r l = one_made kind ty (term xs p a) r.0 (term_made xs p h g a r.1 l)
  term_made xs p h g (x_cast ty a) r l = cast_made ty (term xs p a) (term_made xs p h g a r l)
  term_made xs p h g (x_entry n es ty a) r l = entry_made n es ty (term xs p a) (term_made xs p h g a r l)
  term_made xs p h g (x_two op ty a b) r l =
      two_made (kind_of op) ty (term xs p a) (term xs p b) (no_load op ty (term xs p a) (term xs p b)) (term_made xs p h g a r.0 (front_loads (expression_loads xs p a) (expression_loads xs p b) l))
      (term_made xs p h g b r.1 (back_loads (expression_loads xs p a) (expression_loads xs p b) l))
  term_made xs p h g (x_choose ty c a b) r l =
      let front = front_loads (expression_loads xs p c ++ expression_loads xs p a) (expression_loads xs p b) l in
      mux_made ty (condition (term xs p c)) (term xs p a) (term xs p b)
      (condition_made (term xs p c) (term_made xs p h g c r.0 (front_loads (expression_loads xs p c) (expression_loads xs p a) front)))
      (term_made xs p h g a r.1 (back_loads (expression_loads xs p c) (expression_loads xs p a) front))
      (term_made xs p h g b r.2 (back_loads (expression_loads xs p c ++ expression_loads xs p a) (expression_loads xs p b) l))

  -- ---- statements
  set_made : (xs : List Term) (n : ℕ) (t : Term) → AllMade xs → Made t → AllMade (set xs n t)
  set_made [] n t h g = tt
  set_made (x ∷ xs) zero t h g = (g, h.1)
  set_made (x ∷ xs) (suc n) t h g = (h.0, set_made xs n t h.1 g)

  put_made : (es : List Entry) (n : ℕ) (e : Entry) → EntriesMade es → EntryMade e → EntriesMade (set es n e)
  put_made [] n e h g = tt
  put_made (x ∷ xs) zero e h g = (g, h.1)
  put_made (x ∷ xs) (suc n) e h g = (h.0, put_made xs n e h.1 g)

  pub run_made : (p : Term) → Made p → (x : Statement) → AllKept R M x → (s : Terms) → StateMade s → AllLoads (loads p x s) → StateMade (run_terms p x s)
  run_made p g st_skip r s h l = h
  run_made p g (st_then x y) r s h l =
      run_made p g y r.1 (run_terms p x s) (run_made p g x r.0 s h (front_loads (loads p x s) (loads p y (run_terms p x s)) l)) (back_loads (loads p x s) (loads p y (run_terms p x s)) l)
  run_made p g (st_set n ty e) r s h l = record { slots = set_made s.slots n (cast_to ty (term s.slots p e)) h.slots (cast_made ty (term s.slots p e) (term_made s.slots p h.slots g e r l)); targets = h.targets }
  run_made p g (st_write n ty e a) r s h l = record {
    slots = h.slots;
    targets = put_made s.targets n (record { condition = one_term; value = cast_to ty (term s.slots p e); address = cast_to u32 (term s.slots p a) }) h.targets (
      tt,
      cast_made ty (term s.slots p e) (term_made s.slots p h.slots g e r.0 (back_loads (expression_loads s.slots p a) (expression_loads s.slots p e) l)),
      cast_made u32 (term s.slots p a) (term_made s.slots p h.slots g a r.1 (front_loads (expression_loads s.slots p a) (expression_loads s.slots p e) l)),
    );
  }
  run_made p g (st_if c x y) r s h l =
      let t = test_term s.slots p c in
      let d : Made t = condition_made (term s.slots p c) (term_made s.slots p h.slots g c r.0 (front_loads (expression_loads s.slots p c) _ l)) in
      branch_made t (run_terms (when p t) x s) (run_terms (unless p t) y s) (loads (when p t) x s) (loads (unless p t) y s) d (back_loads (expression_loads s.slots p c) _ l)
      (λ m. run_made (when p t) (path_made p t t g d) x r.1 s h m)
      (λ m. run_made (unless p t) (path_made p t (make_one k.Lnot u1 t) g (lnot_made t d)) y r.2 s h m)

  -- ---- the loads
  abbrev pub LoadMade : Load → Type 0
  LoadMade l = L l.ty l.address l.condition × Made l.address × Made l.condition

  abbrev pub LoadsMade : List Load → Type 0
  LoadsMade [] = Unit {0}
  LoadsMade (l ∷ ls) = LoadMade l × LoadsMade ls

  both_loads : (xs ys : List Load) → LoadsMade xs → LoadsMade ys → LoadsMade (xs ++ ys)
  both_loads [] ys h g = g
  both_loads (x ∷ xs) ys h g = (h.0, both_loads xs ys h.1 g)

  expression_made : (xs : List Term) (p : Term) → AllMade xs → Made p → (e : Expression) → Kept R M e → AllLoads (expression_loads xs p e) → LoadsMade (expression_loads xs p e)
  expression_made xs p h g (x_const ty raw) r l = tt
  expression_made xs p h g (x_slot n ty) r l = tt
  expression_made xs p h g (x_read kind ty) r l = tt
  expression_made xs p h g (x_load ty a) r l =
      let front = front_loads (expression_loads xs p a) _ l in
      both_loads (expression_loads xs p a) _ (expression_made xs p h g a r.1 front) (((back_loads (expression_loads xs p a) _ l).0, cast_made u32 (term xs p a) (term_made xs p h g a r.1 front), g), tt)
  expression_made xs p h g (x_one kind ty a) r l = expression_made xs p h g a r.1 l
  expression_made xs p h g (x_cast ty a) r l = expression_made xs p h g a r l
  expression_made xs p h g (x_entry n es ty a) r l = expression_made xs p h g a r l
  expression_made xs p h g (x_two op ty a b) r l =
      both_loads (expression_loads xs p a) (expression_loads xs p b) (expression_made xs p h g a r.0 (front_loads (expression_loads xs p a) (expression_loads xs p b) l))
      (expression_made xs p h g b r.1 (back_loads (expression_loads xs p a) (expression_loads xs p b) l))
  expression_made xs p h g (x_choose ty c a b) r l =
      let front = front_loads (expression_loads xs p c ++ expression_loads xs p a) (expression_loads xs p b) l in
      both_loads (expression_loads xs p c ++ expression_loads xs p a) (expression_loads xs p b)
      (both_loads (expression_loads xs p c) (expression_loads xs p a) (expression_made xs p h g c r.0 (front_loads (expression_loads xs p c) (expression_loads xs p a) front))
      (expression_made xs p h g a r.1 (back_loads (expression_loads xs p c) (expression_loads xs p a) front)))
      (expression_made xs p h g b r.2 (back_loads (expression_loads xs p c ++ expression_loads xs p a) (expression_loads xs p b) l))

  branch_loads_made : (c : Term) (xs ys : List Load) → AllLoads (branch_loads c xs ys) → (AllLoads xs → LoadsMade xs) → (AllLoads ys → LoadsMade ys) → LoadsMade (branch_loads c xs ys)
  branch_loads_made (t_const a raw) xs ys l p q = by (is_true (value_of a raw)) l
    where
      by : (d : Bool) → AllLoads (cond d xs ys) → LoadsMade (cond d xs ys)
      by true l = p l
      by false l = q l
  branch_loads_made (t_read _ _) xs ys l p q = both_loads xs ys (p (front_loads xs ys l)) (q (back_loads xs ys l))
  branch_loads_made (t_one _ _ _) xs ys l p q = both_loads xs ys (p (front_loads xs ys l)) (q (back_loads xs ys l))
  branch_loads_made (t_entry _ _ _ _) xs ys l p q = both_loads xs ys (p (front_loads xs ys l)) (q (back_loads xs ys l))
  branch_loads_made (t_two _ _ _ _) xs ys l p q = both_loads xs ys (p (front_loads xs ys l)) (q (back_loads xs ys l))
  branch_loads_made (t_three _ _ _ _ _) xs ys l p q = both_loads xs ys (p (front_loads xs ys l)) (q (back_loads xs ys l))

  pub loads_made : (p : Term) → Made p → (x : Statement) → AllKept R M x → (s : Terms) → StateMade s → AllLoads (loads p x s) → LoadsMade (loads p x s)
  loads_made p g st_skip r s h l = tt
  loads_made p g (st_then x y) r s h l =
      let front = front_loads (loads p x s) (loads p y (run_terms p x s)) l in
      both_loads (loads p x s) (loads p y (run_terms p x s)) (loads_made p g x r.0 s h front)
      (loads_made p g y r.1 (run_terms p x s) (run_made p g x r.0 s h front) (back_loads (loads p x s) (loads p y (run_terms p x s)) l))
  loads_made p g (st_set n ty e) r s h l = expression_made s.slots p h.slots g e r l
  loads_made p g (st_write n ty e a) r s h l =
      both_loads (expression_loads s.slots p a) (expression_loads s.slots p e) (expression_made s.slots p h.slots g a r.1 (front_loads (expression_loads s.slots p a) (expression_loads s.slots p e) l))
      (expression_made s.slots p h.slots g e r.0 (back_loads (expression_loads s.slots p a) (expression_loads s.slots p e) l))
  loads_made p g (st_if c x y) r s h l =
      let t = test_term s.slots p c in
      let front = front_loads (expression_loads s.slots p c) _ l in
      let d : Made t = condition_made (term s.slots p c) (term_made s.slots p h.slots g c r.0 front) in
      both_loads (expression_loads s.slots p c) _ (expression_made s.slots p h.slots g c r.0 front)
      (branch_loads_made t (loads (when p t) x s) (loads (unless p t) y s) (back_loads (expression_loads s.slots p c) _ l)
      (λ m. loads_made (when p t) (path_made p t t g d) x r.1 s h m)
      (λ m. loads_made (unless p t) (path_made p t (make_one k.Lnot u1 t) g (lnot_made t d)) y r.2 s h m))

  -- ---- the start
  zeros_made : (tys : List Ty) → AllMade (map zero_of_type tys)
  zeros_made [] = tt
  zeros_made (ty ∷ tys) = (tt, zeros_made tys)

  none_made : (tys : List Ty) → EntriesMade (map no_entry tys)
  none_made [] = tt
  none_made (ty ∷ tys) = ((tt, tt, tt), none_made tys)

  pub start_made : (f : Frame) → StateMade (start f)
  start_made f = record { slots = zeros_made f.slots; targets = none_made f.targets }

-- where nothing is loaded, all loads are whatever they should be
module _ (R : Kind → Type 0) (L : Ty → Term → Term → Type 0) where
  both : (xs ys : List Load) → AllLoads R ⊥ L xs → AllLoads R ⊥ L ys → AllLoads R ⊥ L (xs ++ ys)
  both [] ys h g = g
  both (x ∷ xs) ys h g = (h.0, both xs ys h.1 g)

  none_in : (xs : List Term) (p : Term) (e : Expression) → Kept R ⊥ e → AllLoads R ⊥ L (expression_loads xs p e)
  none_in xs p (x_const ty raw) h = tt
  none_in xs p (x_slot n ty) h = tt
  none_in xs p (x_read kind ty) h = tt
  none_in xs p (x_load ty a) h = absurd h.0
  none_in xs p (x_one kind ty a) h = none_in xs p a h.1
  none_in xs p (x_cast ty a) h = none_in xs p a h
  none_in xs p (x_entry n es ty a) h = none_in xs p a h
  none_in xs p (x_two op ty a c) h = both (expression_loads xs p a) (expression_loads xs p c) (none_in xs p a h.0) (none_in xs p c h.1)
  none_in xs p (x_choose ty a c e) h =
      both (expression_loads xs p a ++ expression_loads xs p c) (expression_loads xs p e) (both (expression_loads xs p a) (expression_loads xs p c) (none_in xs p a h.0) (none_in xs p c h.1)) (none_in xs p e h.2)

  branch_none : (c : Term) (xs ys : List Load) → AllLoads R ⊥ L xs → AllLoads R ⊥ L ys → AllLoads R ⊥ L (branch_loads c xs ys)
  branch_none (t_const a raw) xs ys h g = cond_both (is_true (value_of a raw)) xs ys (AllLoads R ⊥ L) (λ e. h) (λ e. g)
  branch_none (t_read _ _) xs ys h g = both xs ys h g
  branch_none (t_one _ _ _) xs ys h g = both xs ys h g
  branch_none (t_entry _ _ _ _) xs ys h g = both xs ys h g
  branch_none (t_two _ _ _ _) xs ys h g = both xs ys h g
  branch_none (t_three _ _ _ _ _) xs ys h g = both xs ys h g

  pub none_loaded : (p : Term) (x : Statement) (s : Terms) → AllKept R ⊥ x → AllLoads R ⊥ L (loads p x s)
  none_loaded p st_skip s h = tt
  none_loaded p (st_then x y) s h = both (loads p x s) (loads p y (run_terms p x s)) (none_loaded p x s h.0) (none_loaded p y (run_terms p x s) h.1)
  none_loaded p (st_set n ty e) s h = none_in s.slots p e h
  none_loaded p (st_write n ty e a) s h = both (expression_loads s.slots p a) (expression_loads s.slots p e) (none_in s.slots p a h.1) (none_in s.slots p e h.0)
  none_loaded p (st_if c x y) s h =
      let t = test_term s.slots p c in
      both (expression_loads s.slots p c) _ (none_in s.slots p c h.0) (branch_none t (loads (when p t) x s) (loads (unless p t) y s) (none_loaded (when p t) x s h.1) (none_loaded (unless p t) y s h.2))
