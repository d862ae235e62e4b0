-- What the operations of a plan read is asked of the instructions with which they run.
use Rattle.std.proofs.Common.{◌≡◌, refl, sym, ap, subst, ◌∙◌, ⊎_elim, ℕ, zero, suc, ◌+◌, ◌<◌, arith, List, [], ◌∷◌, ◌++◌, map, get_or, length, drop, Option, Some, None, Bool, true, false}
use Rattle.std.specs.Prelude.{option_map, slice_get, slice_index_or, ◌||◌}
use Rattle.std.specs.List.{list_any}
use Rattle.std.proofs.lemmas.Bool.{or_left, or_right, or_cases, eq-eqb, eqb-true}
use Rattle.std.proofs.lemmas.Option.{same_Some, get_or_from_slice_get, slice_get-map}
use Rattle.ix_graph.specs.declared.kind.Kind.{Kind}
use Rattle.ix_graph.specs.declared.kind.Kind.TheVariants as k
use Rattle.ix_graph.specs.declared.graph.Op.{Op}
use Rattle.ix_graph.specs.declared.graph.Graph.{Graph}
use Rattle.ix_graph.specs.Graphs.{IsTyped, IsValidGraph}
use Rattle.ix_extension.specs.Extensions.{view_extension}
use Rattle.ix_plan.specs.declared.design.Plan.{Plan}
use Rattle.ix_plan.specs.declared.design.Design.{Design}
use Rattle.rv_core.specs.declared.Shape.{Shape}
use Rattle.rv_isa.specs.Fields.{rs1_of, rs2_of}
use Rattle.rv_seq.specs.declared.decoded.Decoded.{Decoded}
use Rattle.rv_seq.specs.declared.decoded.Decoded.TheVariants as D
use Rattle.rv_seq.specs.Decoding.{decoded_in}
use Rattle.rv_asks.specs.declared.asks.Act.{Act}
use Rattle.rv_asks.specs.declared.asks.Asks.{Asks}
use Rattle.rv_asks.specs.declared.asks.Outline.{Outline}
use Rattle.rv_asks.specs.Acts as acts
use Rattle.rv_asks.specs.Asks.{flags, tail_of, outline_of, plan_outline, block_acts, where_so, with_word, outlines_in, blank_in, asks_in}
use Rattle.rv_lawful.specs.Sight.{asked}
use Rattle.rv_unit.specs.Numbering.{unit_of}
use Rattle.rv_ports.specs.Drives.{own_number}
use Rattle.rv_ports.specs.Inputs.{is_number}

-- ---- lists

any_left : {A : Type 0} (f : A → Bool) (xs ys : List A) → list_any f xs ≡ true → list_any f (xs ++ ys) ≡ true
any_left f [] ys h = cc
any_left f (x ∷ xs) ys h =
    ⊎_elim (λ (e : f x ≡ true). or_left (f x) (list_any f (xs ++ ys)) e) (λ (e : list_any f xs ≡ true). or_right (f x) (list_any f (xs ++ ys)) (any_left f xs ys e)) (or_cases (f x) (list_any f xs) h)

any_right : {A : Type 0} (f : A → Bool) (xs ys : List A) → list_any f ys ≡ true → list_any f (xs ++ ys) ≡ true
any_right f [] ys h = h
any_right f (x ∷ xs) ys h = or_right (f x) (list_any f (xs ++ ys)) (any_right f xs ys h)

any_flat : (f : Act → Bool) (plans : List Plan) (m : ℕ) (p : Plan) → slice_get plans m ≡ Some p → list_any f (acts.acts_of p) ≡ true → list_any f (acts.acts_of_all plans) ≡ true
any_flat f [] m p e h = cc
any_flat f (q ∷ plans) zero p e h = any_left f (acts.acts_of q) (acts.acts_of_all plans) (subst (λ (z : Plan). list_any f (acts.acts_of z) ≡ true) (sym (same_Some q p e)) h)
any_flat f (q ∷ plans) (suc m) p e h = any_right f (acts.acts_of q) (acts.acts_of_all plans) (any_flat f plans m p e h)

dropped : {A : Type 0} (n m k : ℕ) (xs : List A) → m ≡ n + k → slice_get (drop n xs) k ≡ slice_get xs m
dropped zero m k [] e = refl
dropped (suc n) m k [] e = refl
dropped zero m k (x ∷ xs) e = (let same : k ≡ m = omega (arith, e) in ap (slice_get (x ∷ xs)) same)
dropped (suc n) zero k (x ∷ xs) e = absurd (omega (arith, e))
dropped (suc n) (suc m) k (x ∷ xs) e = dropped n m k xs (omega (arith, e))

flags_at : (f : ℕ → Bool) (n r : ℕ) → r < n → get_or (flags f n) r false ≡ f r
flags_at f zero r l = absurd (omega (arith, l))
flags_at f (suc n) zero l = refl
flags_at f (suc n) (suc r) l = flags_at (λ m. f (suc m)) n r (omega (arith, l))

acts_any : (f : Act → Bool) (p : Plan) (ops : List Op) (b n m : ℕ) (o : Op) → slice_get ops n ≡ Some o → m ≡ b + n → f (acts.act_at p m o) ≡ true → list_any f (acts.acts_from p b ops) ≡ true
acts_any f p [] b n m o e s h = cc
acts_any f p (x ∷ ops) b zero m o e s h =
    let at : m ≡ b = omega (arith, s) in
    let here : f (acts.act_at p b x) ≡ true = subst (λ (z : Op). f (acts.act_at p b z) ≡ true) (sym (same_Some x o e)) (subst (λ (z : ℕ). f (acts.act_at p z o) ≡ true) at h) in
    or_left (f (acts.act_at p b x)) (list_any f (acts.acts_from p (b + 1) ops)) here
acts_any f p (x ∷ ops) b (suc n) m o e s h = or_right (f (acts.act_at p b x)) (list_any f (acts.acts_from p (b + 1) ops)) (acts_any f p ops (b + 1) n m o e (omega (arith, s)) h)

own_any : (f : Act → Bool) (p : Plan) (n : ℕ) (o : Op) → slice_get p.graph.ops n ≡ Some o → f (acts.act_at p n o) ≡ true → list_any f (acts.acts_of p) ≡ true
own_any f p n o e h = acts_any f p p.graph.ops 0 n n o e (omega arith) h

-- ---- what is asked for

-- what an operation of this kind reads is asked of the instruction of this word
abbrev pub AsksFor : Asks → ℕ → Kind → Type 0
AsksFor a word k.RdRS1 = rs1_of word ≡ a.first
AsksFor a word k.RdRS2 = rs2_of word ≡ a.second
AsksFor a word (k.RdCustReg r) = (r < 16) × (get_or a.customs r false ≡ true)
AsksFor a word k.RdMem = a.loads ≡ true
AsksFor a word kind = Unit {0}

-- a word that is the instruction of this number
number_word : (o : Option Decoded) (n : ℕ) → is_number (own_number o) n ≡ true → o ≡ Some (D.Own n)
number_word None n h = cc
number_word (Some (D.Base b)) n h = cc
number_word (Some (D.Own m)) n h = ap (λ i. Some (D.Own i)) (eqb-true m n h)

pub own_word : (d : Design) (word n : ℕ) → is_number (own_number (decoded_in (view_extension d.extension) word)) n ≡ true → decoded_in (view_extension d.extension) word ≡ Some (D.Own n)
own_word d word n h = number_word (decoded_in (view_extension d.extension) word) n h

abbrev asks_of : Design → ℕ → Option ℕ → Plan → Asks
asks_of d word unit p = with_word word unit (outline_of d.sheet.shape.ex (tail_of p.mode d.sheet.shape.stages p.last) (block_acts d) (acts.acts_of p))

outline_is : (shape : Shape) (blocks : List Act) (p : Plan) → plan_outline shape blocks p ≡ outline_of shape.ex (tail_of p.mode shape.stages p.last) blocks (acts.acts_of p)
unfolding plan_outline
outline_is shape blocks p = refl

own_asks : (d : Design) (word n : ℕ) (p : Plan) → slice_get d.plans n ≡ Some p → asks_in d word (Some (D.Own n)) ≡ asks_of d word (unit_of d.plans n) p
unfolding asks_in
own_asks d word n p e =
    let f : Plan → Outline = plan_outline d.sheet.shape (block_acts d) in
    ap (with_word word (unit_of d.plans n)) (get_or_from_slice_get (outlines_in d) n (f p) (blank_in d) (slice_get-map f d.plans n ∙ ap (option_map f) e) ∙ outline_is d.sheet.shape (block_acts d) p)

custom_few : (g : Graph) (valid : IsValidGraph g) (j : ℕ) (op : Op) (r : ℕ) → slice_get g.ops j ≡ Some op → op.kind ≡ k.RdCustReg r → r < 16
custom_few g valid j op r e is = (subst (λ z. IsTyped g z op.args op.ty) is (valid.ops j op e).typed).1

-- what an instruction's own operation reads
own_kind : (d : Design) (word : ℕ) (unit : Option ℕ) (p : Plan) → IsValidGraph p.graph → (j : ℕ) (op : Op) → slice_get p.graph.ops j ≡ Some op → (kind : Kind) → op.kind ≡ kind → AsksFor (asks_of d word unit p) word kind
own_kind d word unit p valid j op e k.RdRS1 is = sym (ap (λ (b : Bool). where_so b (rs1_of word)) (own_any acts.reads_first p j op e (ap acts.is_first is)))
own_kind d word unit p valid j op e k.RdRS2 is = sym (ap (λ (b : Bool). where_so b (rs2_of word)) (own_any acts.reads_second p j op e (ap acts.is_second is)))
own_kind d word unit p valid j op e (k.RdCustReg r) is =
    let few = custom_few p.graph valid j op r e is in (
      few,
      flags_at (λ m. list_any (acts.touches m) (acts.acts_of p) || list_any (acts.touches m) (block_acts d)) 16 r few
          ∙ or_left (list_any (acts.touches r) (acts.acts_of p)) (list_any (acts.touches r) (block_acts d)) (own_any (acts.touches r) p j op e (ap (acts.is_custom r) is ∙ eq-eqb r r refl)),
    )
own_kind d word unit p valid j op e k.RdMem is = own_any acts.loads p j op e (ap acts.is_load is)
own_kind d word unit p valid j op e kind is = tt

pub own_asked : (d : Design) (word n : ℕ) (p : Plan) → slice_get d.plans n ≡ Some p → decoded_in (view_extension d.extension) word ≡ Some (D.Own n) → IsValidGraph p.graph → (j : ℕ) (op : Op) → slice_get p.graph.ops j ≡ Some op → AsksFor (asked d word) word op.kind
own_asked d word n p there is valid j op e =
    subst (λ (a : Asks). AsksFor a word op.kind) (sym (ap (asks_in d word) is ∙ own_asks d word n p there)) (own_kind d word (unit_of d.plans n) p valid j op e op.kind refl)

-- ---- what the always-blocks read is asked of each

abbrev HasCustom : ℕ → Outline → Type 0
HasCustom r o = get_or o.customs r false ≡ true

each_or : (f : Plan → Outline) (plans : List Plan) (n : ℕ) (blank : Outline) (P : Outline → Type 0) → ((p : Plan) → P (f p)) → P blank → P (slice_index_or (map f plans) n blank)
each_or f [] n blank P h g = g
each_or f (p ∷ plans) zero blank P h g = h p
each_or f (p ∷ plans) (suc n) blank P h g = each_or f plans n blank P h g

module _ (d : Design) (r : ℕ) (few : r < 16) (any : list_any (acts.touches r) (block_acts d) ≡ true) where
  outline_has : (tail : ℕ) (own : List Act) → HasCustom r (outline_of d.sheet.shape.ex tail (block_acts d) own)
  outline_has tail own =
      flags_at (λ m. list_any (acts.touches m) own || list_any (acts.touches m) (block_acts d)) 16 r few
      ∙ or_right (list_any (acts.touches r) own) (list_any (acts.touches r) (block_acts d)) any

  plan_has : (p : Plan) → HasCustom r (plan_outline d.sheet.shape (block_acts d) p)
  plan_has p = subst (HasCustom r) (sym (outline_is d.sheet.shape (block_acts d) p)) (outline_has (tail_of p.mode d.sheet.shape.stages p.last) (acts.acts_of p))

  decoded_has : (word : ℕ) (o : Option Decoded) → get_or (asks_in d word o).customs r false ≡ true
  unfolding asks_in
  decoded_has word None = outline_has 0 []
  decoded_has word (Some (D.Base b)) = outline_has 0 []
  decoded_has word (Some (D.Own n)) = each_or (plan_outline d.sheet.shape (block_acts d)) d.plans n (blank_in d) (HasCustom r) plan_has (outline_has 0 [])

-- it reads no operand and no memory
abbrev pub ReadsCustoms : Kind → Type 0
ReadsCustoms k.RdRS1 = ⊥
ReadsCustoms k.RdRS2 = ⊥
ReadsCustoms k.RdMem = ⊥
ReadsCustoms kind = Unit {0}

pub block_asked : (d : Design) (word b m : ℕ) (p : Plan) → b ≡ length d.extension.instructions + m → slice_get d.plans b ≡ Some p → IsValidGraph p.graph → (j : ℕ) (op : Op) → slice_get p.graph.ops j ≡ Some op → ReadsCustoms op.kind → AsksFor (asked d word) word op.kind
block_asked d word b m p at there valid j op e plain = by op.kind refl plain where
  by : (kind : Kind) → op.kind ≡ kind → ReadsCustoms kind → AsksFor (asked d word) word kind
  by k.RdRS1 is h = absurd h
  by k.RdRS2 is h = absurd h
  by k.RdMem is h = absurd h
  by (k.RdCustReg r) is h =
      let few = custom_few p.graph valid j op r e is in
      let any = any_flat (acts.touches r) (drop (length d.extension.instructions) d.plans) m p (dropped (length d.extension.instructions) b m d.plans at ∙ there) (own_any (acts.touches r) p j op e (ap (acts.is_custom r) is ∙ eq-eqb r r refl)) in
      (few, decoded_has d r few any word (decoded_in (view_extension d.extension) word))
  by kind is h = tt
