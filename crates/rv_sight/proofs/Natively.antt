-- An instruction that writes its x register in its own body writes no other one by `spawn`.
use Rattle.std.proofs.Common.{◌≡◌, ◌≢◌, refl, ℕ, Option, Some, None, Bool, true, false}
use Rattle.std.specs.Prelude.{slice_index_or}
use Rattle.ix_extension.specs.Extensions.{view_extension}
use Rattle.ix_plan.specs.declared.design.Design.{Design}
use Rattle.rv_asks.specs.declared.asks.Asks.{Asks}
use Rattle.rv_asks.specs.declared.asks.Outline.{Outline}
use Rattle.rv_asks.specs.Asks.{where_so, some_so, with_word, outlines_in, blank_in, asks_in}
use Rattle.rv_unit.specs.Numbering.{unit_of}
use Rattle.rv_seq.specs.Decoding.{decoded_in}
use Rattle.rv_seq.specs.declared.decoded.Decoded.{Decoded}
use Rattle.rv_seq.specs.declared.decoded.Decoded.TheVariants as D
use Rattle.rv_isa.specs.Fields.{rd_of}
use Rattle.rv_lawful.specs.Sight.{asked}

-- its spawn target is its destination, where it has both
abbrev IsNative : Asks → Type 0
IsNative a = a.destination ≢ 0 → (q : ℕ) → a.spawned ≡ Some q → q ≡ a.destination

-- both are the register that the word names
of_word : (word : ℕ) (unit : Option ℕ) (o : Outline) → IsNative (with_word word unit o)
of_word word unit o = by o.destination o.spawned
  where
    by : (b c : Bool) → where_so b (rd_of word) ≢ 0 → (q : ℕ) → some_so c (rd_of word) ≡ Some q → q ≡ where_so b (rd_of word)
    by true true some q e = cc
    by true false some q e = cc
    by false c some q e = absurd (some refl)

native_at : (d : Design) (word : ℕ) (o : Option Decoded) → IsNative (asks_in d word o)
unfolding asks_in
native_at d word None = of_word word None (blank_in d)
native_at d word (Some (D.Base b)) = λ some q e. cc e
native_at d word (Some (D.Own n)) = of_word word (unit_of d.plans n) (slice_index_or (outlines_in d) n (blank_in d))

pub natively : (d : Design) (word : ℕ) → (asked d word).destination ≢ 0 → (q : ℕ) → (asked d word).spawned ≡ Some q → q ≡ (asked d word).destination
natively d word = native_at d word (decoded_in (view_extension d.extension) word)
