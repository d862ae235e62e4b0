-- The plans of a standing design, by the behaviours of its extension.
use Rattle.std.proofs.Common.{◌≡◌, refl, ap, ◌∙◌, ℕ, zero, suc, ◌+◌, ◌<◌, arith, List, [], ◌∷◌, ◌++◌, map, length, Option, Some, None, Bool, true, false, cond}
use Rattle.std.specs.Prelude.{option_map, slice_get}
use Rattle.std.specs.List.{range_with_len}
use Rattle.std.proofs.lemmas.Option.{slice_get-map, slice_get_within, same_Some}
use Rattle.std.proofs.lemmas.List.{length-map}
use Rattle.ix_tree.specs.TypedTrees.{TypedTextTree}
use Rattle.ix_extension.specs.Extensions.{InstructionTree, ExtensionTree, view_instruction, view_extension}
use Rattle.ix_behaviour.specs.declared.which.Which.{Which}
use Rattle.ix_behaviour.specs.declared.which.Which.TheVariants as W
use Rattle.ix_plan.specs.declared.design.Plan.{Plan}
use Rattle.ix_plan.specs.declared.design.Design.{Design}
use Rattle.ix_standing.specs.Standing.{instruction_number, block_number, behaviours_of, IsPlanned, Stands}
use Rattle.rv_isa.specs.declared.base.Base.{Base}
use Rattle.rv_isa.specs.Decoded.{decoded}
use Rattle.rv_seq.specs.declared.decoded.Decoded.TheVariants as D
use Rattle.rv_seq.specs.Decoding.{is_word_of, own_from, base_or_own, decoded_in}

-- ---- places of lists
range_at : (a n m : ℕ) → m < n → slice_get (range_with_len a n) m ≡ Some (a + m)
range_at a zero m l = absurd (omega (arith, l))
range_at a (suc n) zero l = (let e : a ≡ a + 0 = omega arith in ap (λ (z : ℕ). Some z) e)
range_at a (suc n) (suc m) l = (let e : a + 1 + m ≡ a + suc m = omega arith in range_at (a + 1) n m (omega (arith, l)) ∙ ap (λ (z : ℕ). Some z) e)

front_at : {A : Type 0} (xs ys : List A) (m : ℕ) (x : A) → slice_get xs m ≡ Some x → slice_get (xs ++ ys) m ≡ Some x
front_at [] ys m x e = cc
front_at (y ∷ xs) ys zero x e = e
front_at (y ∷ xs) ys (suc m) x e = front_at xs ys m x e

back_at : {A : Type 0} (xs ys : List A) (n m : ℕ) → n ≡ length xs + m → slice_get (xs ++ ys) n ≡ slice_get ys m
back_at [] ys n m e = (let same : n ≡ m = omega (arith, e) in ap (slice_get ys) same)
back_at (x ∷ xs) ys zero m e = absurd (omega (arith, e))
back_at (x ∷ xs) ys (suc n) m e = back_at xs ys n m (omega (arith, e))

pub record IsThere {A : Type 0} (xs : List A) (m : ℕ) : Type 0 where
  pub item : A
  pub is : slice_get xs m ≡ Some item

pub there : {A : Type 0} (xs : List A) (m : ℕ) → m < length xs → IsThere xs m
there [] m l = absurd (omega (arith, l))
there (x ∷ xs) zero l = record { item = x; is = refl }
there (x ∷ xs) (suc m) l = let r = there xs m (omega (arith, l)) in record { item = r.item; is = r.is }

counted : (n m : ℕ) (f : ℕ → Which) → m < n → slice_get (map f (range_with_len 0 n)) m ≡ Some (f m)
counted n m f l = (let e : 0 + m ≡ m = omega arith in slice_get-map f (range_with_len 0 n) m ∙ ap (option_map f) (range_at 0 n m l ∙ ap (λ (z : ℕ). Some z) e))

pub range_length : (a n : ℕ) → length (range_with_len a n) ≡ n
range_length a zero = refl
range_length a (suc n) = ap suc (range_length (a + 1) n)

pub instruction_at : (x : ExtensionTree) (n : ℕ) → n < length x.instructions → slice_get (behaviours_of x) n ≡ Some (W.Instruction n)
instruction_at x n l =
    front_at (map instruction_number (range_with_len 0 (length x.instructions))) (map block_number (range_with_len 0 (length x.blocks))) n (W.Instruction n)
    (counted (length x.instructions) n instruction_number l)

pub block_at : (x : ExtensionTree) (b m : ℕ) → b ≡ length x.instructions + m → m < length x.blocks → slice_get (behaviours_of x) b ≡ Some (W.Block m)
block_at x b m e l =
    let size = length-map (range_with_len 0 (length x.instructions)) instruction_number in
    let count = range_length 0 (length x.instructions) in
    back_at (map instruction_number (range_with_len 0 (length x.instructions))) (map block_number (range_with_len 0 (length x.blocks))) b m (omega (arith, e, size, count))
    ∙ counted (length x.blocks) m block_number l

module _ (d : Design) (stands : Stands d) where
  abbrev pub tree : ExtensionTree
  tree = view_extension d.extension

  abbrev pub text : TypedTextTree
  text = stands.well_formed.0

  pub record HasPlan (w : Which) (m : ℕ) : Type 0 where
    pub plan : Plan
    pub there : slice_get d.plans m ≡ Some plan
    pub planned : IsPlanned tree d.sheet w plan

  plan_at : (m : ℕ) (w : Which) → slice_get (behaviours_of tree) m ≡ Some w → HasPlan w m
  plan_at m w e =
      let inside = slice_get_within (behaviours_of tree) m w e in
      let plans = stands.built.plan_count in
      let nets = stands.built.net_count in
      let p = there d.plans m (omega (arith, inside, plans)) in
      let n = there d.nets m (omega (arith, inside, nets)) in
      record { plan = p.item; there = p.is; planned = (stands.built.each m w p.item n.item e p.is n.is).planned }

  pub plan_of : (n : ℕ) → n < length tree.instructions → HasPlan (W.Instruction n) n
  plan_of n l = plan_at n (W.Instruction n) (instruction_at tree n l)

  pub count_same : length tree.instructions ≡ length d.extension.instructions
  count_same = length-map d.extension.instructions view_instruction

  pub plan_of_block : (m : ℕ) → m < length tree.blocks → HasPlan (W.Block m) (length d.extension.instructions + m)
  plan_of_block m l = (let count = count_same in plan_at (length d.extension.instructions + m) (W.Block m) (block_at tree (length d.extension.instructions + m) m (omega (arith, count)) l))

-- ---- what a word is
own_below : (n : ℕ) (is : List InstructionTree) (code m : ℕ) → own_from n is code ≡ Some m → m < n + length is
own_below n [] code m e = cc
own_below n (i ∷ rest) code m e = by (is_word_of i code) e (own_below (suc n) rest code m)
  where
    by : (b : Bool) → cond b (Some n) (own_from (suc n) rest code) ≡ Some m → (own_from (suc n) rest code ≡ Some m → m < suc n + length rest) → m < n + length (i ∷ rest)
    by true q f = (let same : n ≡ m = same_Some n m q in omega (arith, same))
    by false q f = (let l = f q in omega (arith, l))

pub own_within : (x : ExtensionTree) (code n : ℕ) → decoded_in x code ≡ Some (D.Own n) → n < length x.instructions
unfolding decoded_in
own_within x code n e = by (decoded code) (own_from 0 x.instructions code) refl e
  where
    by : (o : Option Base) (p : Option ℕ) → own_from 0 x.instructions code ≡ p → base_or_own o p ≡ Some (D.Own n) → n < length x.instructions
    by (Some b) p f q = cc
    by None None f q = cc
    by None (Some m) f q = (let l = own_below 0 x.instructions code m f in let same : m ≡ n = cc in omega (arith, l, same))

pub base_decoded : (x : ExtensionTree) (code : ℕ) (b : Base) → decoded_in x code ≡ Some (D.Base b) → decoded code ≡ Some b
unfolding decoded_in
base_decoded x code b e = by (decoded code) (own_from 0 x.instructions code) e
  where
    by : (o : Option Base) (p : Option ℕ) → base_or_own o p ≡ Some (D.Base b) → o ≡ Some b
    by (Some c) p q = cc
    by None None q = cc
    by None (Some m) q = cc
