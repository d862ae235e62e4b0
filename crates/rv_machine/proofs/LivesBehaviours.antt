-- The behaviours of an extension by number, and what a word sees of a state as their inputs.
use Rattle.std.proofs.Common.{◌≡◌, ℕ, zero, suc, ◌+◌, ◌-◌, ◌<◌, ◌^◌, List, [], ◌∷◌, ◌++◌, map, length, get_or, Some, Bool, true, false, refl, sym, ap, ◌∙◌, subst, arith}
use Rattle.std.specs.Prelude.{nat_lt, option_map, slice_get, IfSome}
use Rattle.std.specs.List.{range_with_len}
use Rattle.std.proofs.lemmas.Bool.{ltb-true, ltb-false}
use Rattle.std.proofs.lemmas.List.{length-append, length-map}
use Rattle.std.proofs.lemmas.List.FromFn.{length-range_with_len}
use Rattle.std.proofs.lemmas.Nat.{pow_pos}
use Rattle.std.proofs.lemmas.Option.{same_Some, slice_get_within, slice_get-map}
use Rattle.ix_behaviour.specs.declared.which.Which.{Which}
use Rattle.ix_behaviour.specs.declared.which.Which.TheVariants as W
use Rattle.ix_behaviour.specs.Behaviours.{HasBehaviour, targets_at, type_of_register, statement_at, stored_type}
use Rattle.ix_bits.specs.declared.number.Bits.{Bits}
use Rattle.ix_bits.specs.declared.number.Ty.{Ty}
use Rattle.ix_extension.specs.Extensions.{ExtensionTree}
use Rattle.ix_graph.specs.declared.kind.Kind.TheVariants as kinds
use Rattle.ix_mean.specs.Core.{u1, u32}
use Rattle.ix_mean.specs.Given.{inputs_of, raw_seen, HasWidths}
use Rattle.ix_mean.specs.Typing.{AreInputs}
use Rattle.ix_mean.specs.declared.evaluate.State.{State}
use Rattle.ix_standing.specs.Standing.{instruction_number, block_number, behaviours_of, is_block}
use Rattle.rv_seq.specs.WordEffects.{AreWide}

-- ---- places of lists

range_at : (a n m : ℕ) → m < n → slice_get (range_with_len a n) m ≡ Some (a + m)
range_at a zero m l = absurd (omega (arith, l))
range_at a (suc n) zero l = (let e : a ≡ a + 0 = omega arith in ap (λ (z : ℕ). Some z) e)
range_at a (suc n) (suc m) l = (let e : a + 1 + m ≡ a + suc m = omega arith in range_at (a + 1) n m (omega (arith, l)) ∙ ap (λ (z : ℕ). Some z) e)

front_at : {A : Type 0} (xs ys : List A) (m : ℕ) (x : A) → slice_get xs m ≡ Some x → slice_get (xs ++ ys) m ≡ Some x
front_at [] ys m x e = cc
front_at (y ∷ xs) ys zero x e = e
front_at (y ∷ xs) ys (suc m) x e = front_at xs ys m x e

back_at : {A : Type 0} (xs ys : List A) (n m : ℕ) → n ≡ length xs + m → slice_get (xs ++ ys) n ≡ slice_get ys m
back_at [] ys n m e = (let same : n ≡ m = omega (arith, e) in ap (slice_get ys) same)
back_at (x ∷ xs) ys zero m e = absurd (omega (arith, e))
back_at (x ∷ xs) ys (suc n) m e = back_at xs ys n m (omega (arith, e))

pub record IsThere {A : Type 0} (xs : List A) (m : ℕ) : Type 0 where
  pub item : A
  pub is : slice_get xs m ≡ Some item

pub there : {A : Type 0} (xs : List A) (m : ℕ) → m < length xs → IsThere xs m
there [] m l = absurd (omega (arith, l))
there (x ∷ xs) zero l = record { item = x; is = refl }
there (x ∷ xs) (suc m) l = (let r = there xs m (omega (arith, l)) in record { item = r.item; is = r.is })

numbered : (n m : ℕ) (f : ℕ → Which) → m < n → slice_get (map f (range_with_len 0 n)) m ≡ Some (f m)
numbered n m f l = (let e : 0 + m ≡ m = omega arith in slice_get-map f (range_with_len 0 n) m ∙ ap (option_map f) (range_at 0 n m l ∙ ap (λ (z : ℕ). Some z) e))

-- ---- behaviours

instruction_at : (x : ExtensionTree) (n : ℕ) → n < length x.instructions → slice_get (behaviours_of x) n ≡ Some (W.Instruction n)
instruction_at x n l =
    front_at (map instruction_number (range_with_len 0 (length x.instructions))) (map block_number (range_with_len 0 (length x.blocks))) n (W.Instruction n)
    (numbered (length x.instructions) n instruction_number l)

block_at : (x : ExtensionTree) (b m : ℕ) → b ≡ length x.instructions + m → m < length x.blocks → slice_get (behaviours_of x) b ≡ Some (W.Block m)
block_at x b m e l =
    let size = length-map (range_with_len 0 (length x.instructions)) instruction_number in
    let count = length-range_with_len 0 (length x.instructions) in
    back_at (map instruction_number (range_with_len 0 (length x.instructions))) (map block_number (range_with_len 0 (length x.blocks))) b m (omega (arith, e, size, count))
    ∙ numbered (length x.blocks) m block_number l

behaviour_count : (x : ExtensionTree) → length (behaviours_of x) ≡ length x.instructions + length x.blocks
behaviour_count x =
    let sum = length-append (map instruction_number (range_with_len 0 (length x.instructions))) (map block_number (range_with_len 0 (length x.blocks))) in
    let i = length-map (range_with_len 0 (length x.instructions)) instruction_number in
    let b = length-map (range_with_len 0 (length x.blocks)) block_number in
    let n = length-range_with_len 0 (length x.instructions) in
    let m = length-range_with_len 0 (length x.blocks) in
    omega (arith, sum, i, b, n, m)

-- the behaviour of a number, and that an instruction has the number of an instruction
pub record IsBehaviour (x : ExtensionTree) (n : ℕ) (w : Which) : Type 0 where
  pub has : HasBehaviour x w
  pub below : is_block w ≡ false → n < length x.instructions

pub behaviour_of : (x : ExtensionTree) (n : ℕ) (w : Which) → slice_get (behaviours_of x) n ≡ Some w → IsBehaviour x n w
behaviour_of x n w e = by (nat_lt n (length x.instructions)) refl where
  by : (b : Bool) → nat_lt n (length x.instructions) ≡ b → IsBehaviour x n w
  by true t =
      let l = ltb-true n (length x.instructions) t in
      subst (λ z. IsBehaviour x n z) (same_Some (W.Instruction n) w (sym (instruction_at x n l) ∙ e)) (record { has = l; below = λ q. l })
  by false f =
      let past = ltb-false n (length x.instructions) f in
      let within = slice_get_within (behaviours_of x) n w e in
      let size = behaviour_count x in
      let l : n - length x.instructions < length x.blocks = omega (arith, past, within, size) in
      subst (λ z. IsBehaviour x n z) (same_Some (W.Block (n - length x.instructions)) w (sym (block_at x n (n - length x.instructions) (omega (arith, past)) l) ∙ e)) (record { has = l; below = λ q. cc })

-- ---- inputs

pattern_below : (xs : List Bits) (r w : ℕ) → IfSome (slice_get xs r) (λ b. b.width ≡ w) → get_or (map raw_seen xs) r 0 < 2 ^ w
pattern_below [] r w h = pow_pos w
pattern_below (x ∷ xs) zero w h = subst (λ (n : ℕ). x.raw < 2 ^ n) h x.in_width
pattern_below (x ∷ xs) (suc r) w h = pattern_below xs r w h

in_width : (word : ℕ) (ty : Ty) → word < 2 ^ 32 → ty.width ≡ 32 → word < 2 ^ ty.width
in_width word ty h e = rw e h

fits : (s : State) (types : List Ty) (m : ℕ → ℕ → ℕ) → s.word < 2 ^ 32 → s.rs1 < 2 ^ 32 → s.rs2 < 2 ^ 32 → s.pc < 2 ^ 32 → HasWidths types s.custom → AreInputs types (inputs_of s m)
fits s types m a b c d h kinds.RdInstr ty t = in_width s.word ty a (ap (λ (u : Ty). u.width) t)
fits s types m a b c d h kinds.RdRS1 ty t = in_width s.rs1 ty b (ap (λ (u : Ty). u.width) t)
fits s types m a b c d h kinds.RdRS2 ty t = in_width s.rs2 ty c (ap (λ (u : Ty). u.width) t)
fits s types m a b c d h kinds.RdPC ty t = in_width s.pc ty d (ap (λ (u : Ty). u.width) t)
fits s types m a b c d h (kinds.RdCustReg r) ty t = rw t.1 (pattern_below s.custom r (get_or types (3 + r) u1).width (h.widths r))
fits s types m a b c d h _ ty t = absurd t

behind_three : (a b c : Ty) (ts : List Ty) (r : ℕ) → get_or ts r u1 ≡ get_or (a ∷ b ∷ c ∷ ts) (3 + r) u1
behind_three a b c ts r = (let e : suc (suc (suc r)) ≡ 3 + r = omega arith in ap (λ (n : ℕ). get_or (a ∷ b ∷ c ∷ ts) n u1) e)

wide_targets : (x : ExtensionTree) (w : Which) (custom : List Bits) → AreWide x custom → HasWidths (targets_at x w) custom
wide_targets x w custom h =
    record {
      widths = λ r.
          subst (λ (ty : Ty). IfSome (slice_get custom r) (λ b. b.width ≡ ty.width))
          (behind_three (stored_type (statement_at x w)) u32 u32 (map type_of_register x.registers) r) (h.widths r);
    }

-- what is seen of words and of registers of their widths fits the types of a behaviour
pub are_inputs : (x : ExtensionTree) (w : Which) (s : State) (m : ℕ → ℕ → ℕ) → AreWide x s.custom → s.word < 2 ^ 32 → s.rs1 < 2 ^ 32 → s.rs2 < 2 ^ 32 → s.pc < 2 ^ 32 → AreInputs (targets_at x w) (inputs_of s m)
are_inputs x w s m wide a b c d = fits s (targets_at x w) m a b c d (wide_targets x w s.custom wide)
