-- What the functions that read number literals find.
use Rattle.std.specs.Prelude.{◌≡◌, ℕ, ◌+◌, ◌*◌, ◌^◌, ◌<◌, ◌≤◌, List, ◌∷◌, Bool, true, false, not, Some, nat_eq}
use Rattle.ix_bits.specs.declared.number.Ty.{Ty}
use Rattle.ix_bits.specs.declared.number.Bits.{Bits}
use Rattle.ix_tree.specs.declared.token.TokenKind.{TokenKind}
use Rattle.ix_tree.specs.declared.token.TokenKind.TheVariants.{Unsized, Sized}
use Rattle.ix_tree.specs.Lexing.{digit_value, IsRun, IsDigits, IsUnsized, IsSized, IsNumber}

-- what is to follow digits of the value a, behind `_` where gap is true, if all have the value v
pub data IsTail (base : ℕ) : Bool → ℕ → List ℕ → ℕ → Type 0 where
  tail_run : {a v : ℕ} {cs : List ℕ} → IsRun base a cs v → IsTail base false a cs v
  tail_gap : {a v : ℕ} {cs : List ℕ} (c x : ℕ) → digit_value base c ≡ Some x → IsRun base (a * base + x) cs v → IsTail base true a (c ∷ cs) v

-- the byte c leads from one state to the other
pub record Continues (base : ℕ) (gap : Bool) (a c : ℕ) (next_gap : Bool) (b : ℕ) : Type 0 where
  pub to : (cs : List ℕ) (v : ℕ) → IsTail base next_gap b cs v → IsTail base gap a (c ∷ cs) v
  pub from : (cs : List ℕ) (v : ℕ) → IsTail base gap a (c ∷ cs) v → IsTail base next_gap b cs v

-- with the byte c no value below 2^128 follows
abbrev pub NoTail : ℕ → Bool → ℕ → ℕ → Type 0
NoTail base gap a c = (cs : List ℕ) (v : ℕ) → v < 2 ^ 128 → IsTail base gap a (c ∷ cs) v → ⊥

abbrev pub NoRun : ℕ → ℕ → List ℕ → Type 0
NoRun base a cs = (v : ℕ) → v < 2 ^ 128 → IsRun base a cs v → ⊥

abbrev pub NoDigits : ℕ → List ℕ → Type 0
NoDigits base cs = (v : ℕ) → v < 2 ^ 128 → IsDigits base cs v → ⊥

-- the bytes are a width, from 1 to 128
pub record IsWidth (text : List ℕ) (w : ℕ) : Type 0 where
  pub c : ℕ
  pub cs : List ℕ
  pub is : text ≡ c ∷ cs
  pub first : c ≡ 48 → ⊥
  pub digits : IsDigits 10 (c ∷ cs) w
  pub some : 1 ≤ w
  pub most : w ≤ 128

abbrev pub NoWidth : List ℕ → Type 0
NoWidth text = (c : ℕ) (cs : List ℕ) (w : ℕ) → text ≡ c ∷ cs → (c ≡ 48 → ⊥) → IsDigits 10 (c ∷ cs) w → 1 ≤ w → w ≤ 128 → ⊥

pub record IsUnsizedKind (v : ℕ) (kind : TokenKind) : Type 0 where
  pub ty : Ty
  pub bits : Bits
  pub is : kind ≡ Unsized ty bits
  pub holds : IsUnsized v ty bits

pub record IsSizedKind (w v : ℕ) (kind : TokenKind) : Type 0 where
  pub ty : Ty
  pub bits : Bits
  pub is : kind ≡ Sized ty bits
  pub holds : IsSized w v ty bits

-- the bytes are no literal
abbrev pub NoNumber : List ℕ → Type 0
NoNumber text = (kind : TokenKind) → IsNumber text kind → ⊥

abbrev pub not_tick : ℕ → Bool
not_tick c = not (nat_eq c 39)
