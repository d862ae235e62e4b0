-- What a retirement shows, writes and owes, of the record of its step.
use Rattle.std.proofs.Common.{◌≡◌, ◌∙◌, refl, ap, ℕ, List, get_or, Option, Some, None, Bool, true, false}
use Rattle.std.specs.Prelude.{if◌then◌else◌}
use Rattle.ix_bits.specs.declared.number.Bits.{Bits}
use Rattle.ix_eval.specs.Tables.{table}
use Rattle.ix_eval.proofs.Tables.{table_length, table_at, table_is}
use Rattle.rv_asks.specs.declared.asks.Asks.{Asks}
use Rattle.rv_seq.specs.declared.commit.Commit.{Commit}
use Rattle.rv_seq.specs.declared.commit.Slot.{Slot}
use Rattle.rv_seq.specs.declared.commit.Slot.TheVariants.{Absent, Later}
use Rattle.rv_seq.specs.Commits.{slot_of}
use Rattle.rv_tried.specs.Parts.{shown_index, shown_x, shown_customs, shown, native_index, native_x, native_customs, native}

same_writes : (c : Commit) (i j : ℕ) (x y : Slot ℕ) (u v : List (Slot Bits)) → i ≡ j → x ≡ y → u ≡ v
    → ◌≡◌ {A = Commit} (record { at = c.at; word = c.word; rd_index = i; rd = x; custom = u; store = c.store; next = c.next }) (record { at = c.at; word = c.word; rd_index = j; rd = y; custom = v; store = c.store; next = c.next })
same_writes c i j x y u v a b e = rw (a, b, e) refl

same_index : (o : Option ℕ) (rd : ℕ) → native_index o (shown_index o rd) ≡ native_index o rd
same_index None rd = refl
same_index (Some r) rd = refl

same_x : (o : Option ℕ) (slot : Slot ℕ) → native_x o (shown_x o slot) ≡ native_x o slot
same_x None slot = refl
same_x (Some r) slot = refl

-- a choice whose second part is itself such a choice
chosen : {A : Type 0} (b : Bool) (x y z : A) → (if b then x else if b then y else z) ≡ (if b then x else z)
chosen true x y z = refl
chosen false x y z = refl

same_customs : (spawned : List Bool) (blocks : List (Option Bits)) (slots : List (Slot Bits)) → native_customs spawned blocks (shown_customs spawned slots) ≡ native_customs spawned blocks slots
same_customs spawned blocks slots =
    let f : ℕ → Slot Bits = λ r. if get_or spawned r false then Later else get_or slots r Absent in
    let g : ℕ → Slot Bits = λ r. if get_or spawned r false then slot_of (get_or blocks r None) else get_or (table f 16) r Absent in
    table_is (table g 16) (λ r. if get_or spawned r false then slot_of (get_or blocks r None) else get_or slots r Absent) 16 Absent (table_length g 16)
    (λ r less.
    table_at g 16 r Absent less
    ∙ ap (λ s. if get_or spawned r false then slot_of (get_or blocks r None) else s) (table_at f 16 r Absent less)
    ∙ chosen (get_or spawned r false) (slot_of (get_or blocks r None)) Later (get_or slots r Absent))

-- what is written at retirement is read from what it shows
pub native_shown : (a : Asks) (blocks : List (Option Bits)) (c : Commit) → native a blocks (shown a c) ≡ native a blocks c
unfolding native shown
native_shown a blocks c =
    same_writes c (native_index a.spawned (shown_index a.spawned c.rd_index)) (native_index a.spawned c.rd_index) (native_x a.spawned (shown_x a.spawned c.rd)) (native_x a.spawned c.rd)
    (native_customs a.spawned_customs blocks (shown_customs a.spawned_customs c.custom)) (native_customs a.spawned_customs blocks c.custom)
    (same_index a.spawned c.rd_index) (same_x a.spawned c.rd) (same_customs a.spawned_customs blocks c.custom)

-- it shows the word and the next pc of the record
pub native_word : (a : Asks) (blocks : List (Option Bits)) (c : Commit) → (native a blocks c).word ≡ c.word
unfolding native
native_word a blocks c = refl

pub shown_word : (a : Asks) (c : Commit) → (shown a c).word ≡ c.word
unfolding shown
shown_word a c = refl
