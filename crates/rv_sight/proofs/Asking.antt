-- What is asked of an instruction, operation by operation.
use Rattle.std.proofs.Common.{inl, inr, Option, ◌≡◌, refl, sym, ap, subst, ◌∙◌, ⊎_elim, ℕ, zero, suc, ◌+◌, ◌<◌, ◌≤◌, arith, List, [], ◌∷◌, ◌++◌, get_or, length, drop, Some, None, Bool, true, false}
use Rattle.std.specs.Prelude.{◌⊎◌, option_map, slice_get, slice_index, slice_index_or, ◌||◌, ◌&&◌, nat_lt}
use Rattle.std.specs.List.{list_any}
use Rattle.std.proofs.lemmas.Bool.{or_left, or_right, or_cases, false≢true, ltb-false, eq-eqb}
use Rattle.std.proofs.lemmas.Option.{same_Some, get_or_from_slice_get, slice_get-map}
use Rattle.ix_graph.specs.declared.kind.Kind.{Kind}
use Rattle.ix_graph.specs.declared.kind.Kind.TheVariants as k
use Rattle.ix_graph.specs.declared.graph.Op.{Op}
use Rattle.ix_plan.specs.declared.design.Plan.{Plan}
use Rattle.ix_plan.specs.declared.design.Design.{Design}
use Rattle.rv_core.specs.declared.Shape.{Shape}
use Rattle.rv_isa.specs.declared.base.Base.{Base}
use Rattle.rv_isa.specs.Fields.{rs1_of, rs2_of}
use Rattle.rv_seq.specs.declared.decoded.Decoded.TheVariants as D
use Rattle.rv_asks.specs.declared.asks.Act.{Act}
use Rattle.rv_asks.specs.declared.asks.Asks.{Asks}
use Rattle.rv_asks.specs.declared.asks.Outline.{Outline}
use Rattle.rv_asks.specs.Acts as acts
use Rattle.rv_unit.specs.Numbering.{unit_of}
use Rattle.rv_asks.specs.Asks.{flags, tail_of, outline_of, plan_outline, block_acts, where_so, with_word, base_asks, outlines_in, blank_in, asks_in}
use Rattle.ix_flow.specs.Flows.{target_of}

-- ---- lists
pub any_left : {A : Type 0} (f : A → Bool) (xs ys : List A) → list_any f xs ≡ true → list_any f (xs ++ ys) ≡ true
any_left f [] ys h = cc
any_left f (x ∷ xs) ys h =
    ⊎_elim (λ (e : f x ≡ true). or_left (f x) (list_any f (xs ++ ys)) e) (λ (e : list_any f xs ≡ true). or_right (f x) (list_any f (xs ++ ys)) (any_left f xs ys e)) (or_cases (f x) (list_any f xs) h)

pub any_right : {A : Type 0} (f : A → Bool) (xs ys : List A) → list_any f ys ≡ true → list_any f (xs ++ ys) ≡ true
any_right f [] ys h = h
any_right f (x ∷ xs) ys h = or_right (f x) (list_any f (xs ++ ys)) (any_right f xs ys h)

any_flat : (f : Act → Bool) (plans : List Plan) (m : ℕ) (p : Plan) → slice_get plans m ≡ Some p → list_any f (acts.acts_of p) ≡ true → list_any f (acts.acts_of_all plans) ≡ true
any_flat f [] m p e h = cc
any_flat f (q ∷ plans) zero p e h = any_left f (acts.acts_of q) (acts.acts_of_all plans) (subst (λ (z : Plan). list_any f (acts.acts_of z) ≡ true) (sym (same_Some q p e)) h)
any_flat f (q ∷ plans) (suc m) p e h = any_right f (acts.acts_of q) (acts.acts_of_all plans) (any_flat f plans m p e h)

pub dropped : {A : Type 0} (n m k : ℕ) (xs : List A) → m ≡ n + k → slice_get (drop n xs) k ≡ slice_get xs m
dropped zero m k [] e = refl
dropped (suc n) m k [] e = refl
dropped zero m k (x ∷ xs) e = (let same : k ≡ m = omega (arith, e) in ap (slice_get (x ∷ xs)) same)
dropped (suc n) zero k (x ∷ xs) e = absurd (omega (arith, e))
dropped (suc n) (suc m) k (x ∷ xs) e = dropped n m k xs (omega (arith, e))

pub flags_at : (f : ℕ → Bool) (n r : ℕ) → r < n → get_or (flags f n) r false ≡ f r
flags_at f zero r l = absurd (omega (arith, l))
flags_at f (suc n) zero l = refl
flags_at f (suc n) (suc r) l = flags_at (λ m. f (suc m)) n r (omega (arith, l))

-- ---- an operation of a plan is among its acts
acts_any : (f : Act → Bool) (p : Plan) (ops : List Op) (b n m : ℕ) (o : Op) → slice_get ops n ≡ Some o → m ≡ b + n → f (acts.act_at p m o) ≡ true → list_any f (acts.acts_from p b ops) ≡ true
acts_any f p [] b n m o e s h = cc
acts_any f p (x ∷ ops) b zero m o e s h =
    let at : m ≡ b = omega (arith, s) in
    let here : f (acts.act_at p b x) ≡ true = subst (λ (z : Op). f (acts.act_at p b z) ≡ true) (sym (same_Some x o e)) (subst (λ (z : ℕ). f (acts.act_at p z o) ≡ true) at h) in
    or_left (f (acts.act_at p b x)) (list_any f (acts.acts_from p (b + 1) ops)) here
acts_any f p (x ∷ ops) b (suc n) m o e s h = or_right (f (acts.act_at p b x)) (list_any f (acts.acts_from p (b + 1) ops)) (acts_any f p ops (b + 1) n m o e (omega (arith, s)) h)

pub own_any : (f : Act → Bool) (p : Plan) (n : ℕ) (o : Op) → slice_get p.graph.ops n ≡ Some o → f (acts.act_at p n o) ≡ true → list_any f (acts.acts_of p) ≡ true
own_any f p n o e h = acts_any f p p.graph.ops 0 n n o e (omega arith) h

-- ---- what is asked of an instruction with a plan
abbrev pub asks_of : Design → ℕ → Option ℕ → Plan → Asks
asks_of d word unit p = with_word word unit (outline_of d.sheet.shape.ex (tail_of p.mode d.sheet.shape.stages p.last) (block_acts d) (acts.acts_of p))

outline_is : (shape : Shape) (blocks : List Act) (p : Plan) → plan_outline shape blocks p ≡ outline_of shape.ex (tail_of p.mode shape.stages p.last) blocks (acts.acts_of p)
unfolding plan_outline
outline_is shape blocks p = refl

pub own_asks : (d : Design) (word n : ℕ) (p : Plan) → slice_get d.plans n ≡ Some p → asks_in d word (Some (D.Own n)) ≡ asks_of d word (unit_of d.plans n) p
unfolding asks_in
own_asks d word n p e =
    let f : Plan → Outline = plan_outline d.sheet.shape (block_acts d) in
    ap (with_word word (unit_of d.plans n)) (get_or_from_slice_get (outlines_in d) n (f p) (blank_in d) (slice_get-map f d.plans n ∙ ap (option_map f) e) ∙ outline_is d.sheet.shape (block_acts d) p)

pub base_asks_are : (d : Design) (word : ℕ) (b : Base) → asks_in d word (Some (D.Base b)) ≡ base_asks d.sheet.shape (blank_in d).customs b
unfolding asks_in
base_asks_are d word b = refl

pub none_asks : (d : Design) (word : ℕ) → asks_in d word None ≡ with_word word None (blank_in d)
unfolding asks_in
none_asks d word = refl

pub not_any : (b : Bool) → b ≡ false → b ≡ true → ⊥
not_any true e h = false≢true (sym e)
not_any false e h = false≢true h

both_true : (a b : Bool) → a ≡ true → b ≡ true → (a && b) ≡ true
both_true true true e h = refl
both_true true false e h = cc
both_true false b e h = cc

either_time : (ex t : ℕ) → (nat_lt ex t ≡ true → ⊥) → t ≤ ex
either_time ex t h = by (nat_lt ex t) refl
  where
    by : (b : Bool) → nat_lt ex t ≡ b → t ≤ ex
    by true e = absurd (h e)
    by false e = ltb-false ex t e

module _ (d : Design) (word : ℕ) (unit : Option ℕ) (p : Plan) where
  abbrev a : Asks
  a = asks_of d word unit p

  pub asks_first : (n : ℕ) (o : Op) → slice_get p.graph.ops n ≡ Some o → acts.is_first o.kind ≡ true → rs1_of word ≡ a.first
  asks_first n o e h = sym (ap (λ (b : Bool). where_so b (rs1_of word)) (own_any acts.reads_first p n o e h))

  pub asks_second : (n : ℕ) (o : Op) → slice_get p.graph.ops n ≡ Some o → acts.is_second o.kind ≡ true → rs2_of word ≡ a.second
  asks_second n o e h = sym (ap (λ (b : Bool). where_so b (rs2_of word)) (own_any acts.reads_second p n o e h))

  pub asks_loads : (n : ℕ) (o : Op) → slice_get p.graph.ops n ≡ Some o → acts.is_load o.kind ≡ true → a.loads ≡ true
  asks_loads n o e h = own_any acts.loads p n o e h

  pub asks_stores : (n : ℕ) (o : Op) → slice_get p.graph.ops n ≡ Some o → acts.is_store o.kind ≡ true → a.stores ≡ true
  asks_stores n o e h = own_any acts.stores p n o e h

  pub asks_customs : (r : ℕ) → r < 16 → (n : ℕ) (o : Op) → slice_get p.graph.ops n ≡ Some o → acts.is_custom r o.kind ≡ true → get_or a.customs r false ≡ true
  asks_customs r l n o e h =
      flags_at (λ m. list_any (acts.touches m) (acts.acts_of p) || list_any (acts.touches m) (block_acts d)) 16 r l
      ∙ or_left (list_any (acts.touches r) (acts.acts_of p)) (list_any (acts.touches r) (block_acts d)) (own_any (acts.touches r) p n o e h)

  -- an operation, with its flag
  abbrev flag : ℕ → Bool
  flag n = slice_index_or p.graph.spawned n false

  abbrev act : ℕ → Op → Bool → Act
  act n o b = record { kind = o.kind; spawned = b; time = slice_index_or p.times n 0 }

  -- it writes the x register itself, or by `spawn`
  pub writes_any : (n : ℕ) (o : Op) → slice_get p.graph.ops n ≡ Some o → o.kind ≡ k.WrRD
      → (list_any acts.writes_own (acts.acts_of p) ≡ true) ⊎ (list_any acts.spawns_x (acts.acts_of p) ≡ true)
  writes_any n o e is = by (flag n) refl
    where
      by : (b : Bool) → flag n ≡ b → (list_any acts.writes_own (acts.acts_of p) ≡ true) ⊎ (list_any acts.spawns_x (acts.acts_of p) ≡ true)
      by false q = inl (own_any acts.writes_own p n o e (subst (λ (b : Bool). acts.writes_own (act n o b) ≡ true) (sym q) (ap acts.is_destination is)))
      by true q = inr (own_any acts.spawns_x p n o e (subst (λ (b : Bool). acts.spawns_x (act n o b) ≡ true) (sym q) (ap acts.is_destination is)))

  late_time : (n : ℕ) (f : Act → Bool) (o : Op) → list_any f (acts.acts_of p) ≡ false → slice_get p.graph.ops n ≡ Some o → flag n ≡ false
      → (nat_lt d.sheet.shape.ex (slice_index_or p.times n 0) ≡ true → f (act n o false) ≡ true) → slice_index p.times n ≤ d.sheet.shape.ex
  late_time n f o none_late e unspawned g =
      either_time d.sheet.shape.ex (slice_index p.times n)
      (λ late. not_any (list_any f (acts.acts_of p)) none_late (own_any f p n o e (subst (λ (b : Bool). f (act n o b) ≡ true) (sym unspawned) (g late))))

  pub asks_late : a.late ≡ false → (n : ℕ) (o : Op) → slice_get p.graph.ops n ≡ Some o → o.kind ≡ k.WrPC → flag n ≡ false → slice_index p.times n ≤ d.sheet.shape.ex
  asks_late h n o e is unspawned =
      late_time n (acts.jumps_late d.sheet.shape.ex) o h e unspawned (λ late. both_true (nat_lt d.sheet.shape.ex (slice_index_or p.times n 0)) (acts.is_jump o.kind) late (ap acts.is_jump is))

  pub asks_late_customs : (r : ℕ) → r < 16 → get_or a.late_customs r false ≡ false → get_or a.spawned_customs r false ≡ false → (n : ℕ) (o : Op) → slice_get p.graph.ops n ≡ Some o → o.kind ≡ k.WrCustReg r → slice_index p.times n ≤ d.sheet.shape.ex
  asks_late_customs r l h s n o e is =
      late_time n (acts.writes_late d.sheet.shape.ex r) o (sym (flags_at (λ m. list_any (acts.writes_late d.sheet.shape.ex m) (acts.acts_of p)) 16 r l) ∙ h) e (by (flag n) refl)
      (λ late. both_true (nat_lt d.sheet.shape.ex (slice_index_or p.times n 0)) (acts.is_custom_write r o.kind) late (ap (acts.is_custom_write r) is ∙ eq-eqb r r refl))
    where
      by : (b : Bool) → flag n ≡ b → flag n ≡ false
      by false q = q
      by true q =
          absurd
          (not_any (list_any (acts.spawns_custom r) (acts.acts_of p)) (sym (flags_at (λ m. list_any (acts.spawns_custom m) (acts.acts_of p)) 16 r l) ∙ s)
          (own_any (acts.spawns_custom r) p n o e (subst (λ (b : Bool). acts.spawns_custom r (act n o b) ≡ true) (sym q) (ap (acts.is_custom_write r) is ∙ eq-eqb r r refl))))

-- what the always-blocks read and write of custom registers is asked of each instruction
pub blocks_any : (d : Design) (r b m : ℕ) (p : Plan) → b ≡ length d.extension.instructions + m → slice_get d.plans b ≡ Some p → (n : ℕ) (o : Op) → slice_get p.graph.ops n ≡ Some o → acts.is_custom r o.kind ≡ true
    → list_any (acts.touches r) (block_acts d) ≡ true
blocks_any d r b m p at there n o e h =
    any_flat (acts.touches r) (drop (length d.extension.instructions) d.plans) m p (dropped (length d.extension.instructions) b m d.plans at ∙ there) (own_any (acts.touches r) p n o e h)

-- the kind that writes a target
pub target_is_pc : (kind : Kind) → target_of kind ≡ Some 2 → kind ≡ k.WrPC
target_is_pc k.WrPC h = refl
target_is_pc k.WrMem h = cc
target_is_pc k.WrRD h = cc
target_is_pc (k.WrCustReg r) h = (let e : 3 + r ≡ 2 = same_Some (3 + r) 2 h in absurd (omega (arith, e)))
target_is_pc _ h = cc

pub target_is_rd : (kind : Kind) → target_of kind ≡ Some 1 → kind ≡ k.WrRD
target_is_rd k.WrRD h = refl
target_is_rd k.WrMem h = cc
target_is_rd k.WrPC h = cc
target_is_rd (k.WrCustReg r) h = (let e : 3 + r ≡ 1 = same_Some (3 + r) 1 h in absurd (omega (arith, e)))
target_is_rd _ h = cc

pub target_is_memory : (kind : Kind) → target_of kind ≡ Some 0 → kind ≡ k.WrMem
target_is_memory k.WrMem h = refl
target_is_memory k.WrRD h = cc
target_is_memory k.WrPC h = cc
target_is_memory (k.WrCustReg r) h = (let e : 3 + r ≡ 0 = same_Some (3 + r) 0 h in absurd (omega (arith, e)))
target_is_memory _ h = cc

pub target_is_custom : (kind : Kind) (r : ℕ) → target_of kind ≡ Some (3 + r) → kind ≡ k.WrCustReg r
target_is_custom (k.WrCustReg q) r h = (let e : 3 + q ≡ 3 + r = same_Some (3 + q) (3 + r) h in let same : q ≡ r = omega (arith, e) in ap k.WrCustReg same)
target_is_custom k.WrMem r h = (let e : 0 ≡ 3 + r = same_Some 0 (3 + r) h in absurd (omega (arith, e)))
target_is_custom k.WrRD r h = (let e : 1 ≡ 3 + r = same_Some 1 (3 + r) h in absurd (omega (arith, e)))
target_is_custom k.WrPC r h = (let e : 2 ≡ 3 + r = same_Some 2 (3 + r) h in absurd (omega (arith, e)))
target_is_custom _ r h = cc
