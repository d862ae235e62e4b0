-- What a retirement writes by itself and what its `spawn` body writes: the parts of the record of a step, and the registers to which they go.
use Rattle.std.proofs.Common.{◌≡◌, ◌≢◌, ◌∙◌, refl, sym, ap, ℕ, ◌<◌, List, get_or, Option, Some, None, Bool, true, false, ◌⊎◌, inl, inr}
use Rattle.std.specs.Prelude.{if◌then◌else◌, ◌&&◌}
use Rattle.ix_bits.specs.declared.number.Bits.{Bits}
use Rattle.ix_eval.specs.Tables.{table}
use Rattle.ix_eval.proofs.Tables.{table_length, table_at, table_is}
use Rattle.rv_asks.specs.declared.asks.Asks.{Asks}
use Rattle.rv_lawful.specs.Sight.{SpawnsNothing}
use Rattle.rv_seq.specs.declared.arch.Arch.{Arch}
use Rattle.rv_seq.specs.declared.commit.Commit.{Commit}
use Rattle.rv_seq.specs.declared.commit.Slot.{Slot}
use Rattle.rv_seq.specs.declared.commit.Slot.TheVariants.{Absent, Now, Later}
use Rattle.rv_seq.specs.Commits.{slot_of, with_slot, with_customs, with_x, with_store, applied}
use Rattle.rv_seq.specs.Interrupts.{resumed}
use Rattle.rv_seq.specs.States.{zero_bit}
use Rattle.rv_tried.specs.declared.parts.Spawned.{Spawned}
use Rattle.rv_tried.specs.Parts.{shown_index, shown_x, shown_customs, shown, native_index, native_x, native_customs, native, spawned_index, spawned_x, spawned_customs, spawned, paid}
use Rattle.rv_tried.specs.Whole.{IsWhole}
use Rattle.rv_sight.specs.Written.{IsAskedFor}
use Rattle.rv_hart_runs.proofs.StatesSwaps.{BothPaid, WithRecord}

-- ---- what a retirement shows

same_writes : (c : Commit) (i j : ℕ) (x y : Slot ℕ) (u v : List (Slot Bits)) → i ≡ j → x ≡ y → u ≡ v
    → ◌≡◌ {A = Commit} (record { at = c.at; word = c.word; rd_index = i; rd = x; custom = u; store = c.store; next = c.next }) (record { at = c.at; word = c.word; rd_index = j; rd = y; custom = v; store = c.store; next = c.next })
same_writes c i j x y u v a b e = rw (a, b, e) refl

same_index : (o : Option ℕ) (rd : ℕ) → native_index o (shown_index o rd) ≡ native_index o rd
same_index None rd = refl
same_index (Some r) rd = refl

same_x : (o : Option ℕ) (slot : Slot ℕ) → native_x o (shown_x o slot) ≡ native_x o slot
same_x None slot = refl
same_x (Some r) slot = refl

-- a choice whose second part is itself such a choice
chosen : {A : Type 0} (b : Bool) (x y z : A) → (if b then x else if b then y else z) ≡ (if b then x else z)
chosen true x y z = refl
chosen false x y z = refl

same_customs : (spawned : List Bool) (blocks : List (Option Bits)) (slots : List (Slot Bits)) → native_customs spawned blocks (shown_customs spawned slots) ≡ native_customs spawned blocks slots
same_customs spawned blocks slots =
    let f : ℕ → Slot Bits = λ r. if get_or spawned r false then Later else get_or slots r Absent in
    let g : ℕ → Slot Bits = λ r. if get_or spawned r false then slot_of (get_or blocks r None) else get_or (table f 16) r Absent in
    table_is (table g 16) (λ r. if get_or spawned r false then slot_of (get_or blocks r None) else get_or slots r Absent) 16 Absent (table_length g 16)
    (λ r less.
    table_at g 16 r Absent less
    ∙ ap (λ s. if get_or spawned r false then slot_of (get_or blocks r None) else s) (table_at f 16 r Absent less)
    ∙ chosen (get_or spawned r false) (slot_of (get_or blocks r None)) Later (get_or slots r Absent))

-- what is written at retirement is read from what it shows
pub native_shown : (a : Asks) (blocks : List (Option Bits)) (c : Commit) → native a blocks (shown a c) ≡ native a blocks c
unfolding native shown
native_shown a blocks c =
    same_writes c (native_index a.spawned (shown_index a.spawned c.rd_index)) (native_index a.spawned c.rd_index) (native_x a.spawned (shown_x a.spawned c.rd)) (native_x a.spawned c.rd)
    (native_customs a.spawned_customs blocks (shown_customs a.spawned_customs c.custom)) (native_customs a.spawned_customs blocks c.custom)
    (same_index a.spawned c.rd_index) (same_x a.spawned c.rd) (same_customs a.spawned_customs blocks c.custom)

-- the word of what is shown, and of what is written at retirement
pub native_word : (a : Asks) (blocks : List (Option Bits)) (c : Commit) → (native a blocks c).word ≡ c.word
unfolding native
native_word a blocks c = refl

pub shown_word : (a : Asks) (c : Commit) → (shown a c).word ≡ c.word
unfolding shown
shown_word a c = refl

-- ---- the parts of a record

x_parts : (o : Option ℕ) (xs : List ℕ) (rd : ℕ) (slot : Slot ℕ) → with_x (with_x xs (native_index o rd) (native_x o slot)) (spawned_index o rd) (spawned_x o slot) ≡ with_x xs rd slot
x_parts None xs rd slot = refl
x_parts (Some r) xs rd slot = refl

slot_parts : (v : Bits) (sp own : Bool) (block slot : Slot Bits) → (own ≡ false → slot ≡ block) → (own ≡ true → (b : Bits) × (slot ≡ Now b)) → with_slot (with_slot v (if sp then block else slot)) (if sp && own then slot else Absent) ≡ with_slot v slot
slot_parts v false own block slot others itself = refl
slot_parts v true false block slot others itself = ap (λ s. with_slot v s) (sym (others refl))
slot_parts v true true block slot others itself =
    let b = itself refl in
    ap (λ s. with_slot (with_slot v block) s) b.1 ∙ ap (λ s. with_slot v s) (sym b.1)

customs_parts : (sp own : List Bool) (blocks : List (Option Bits)) (slots : List (Slot Bits)) (custom : List Bits) →
    ((r : ℕ) → r < 16 → get_or own r false ≡ false → get_or slots r Absent ≡ slot_of (get_or blocks r None)) → ((r : ℕ) → r < 16 → get_or own r false ≡ true → (b : Bits) × (get_or slots r Absent ≡ Now b)) →
    with_customs (with_customs custom (native_customs sp blocks slots)) (spawned_customs sp own slots) ≡ with_customs custom slots
customs_parts sp own blocks slots custom others itself =
    let first = native_customs sp blocks slots in
    let second = spawned_customs sp own slots in
    let f : ℕ → Slot Bits = λ r. if get_or sp r false then slot_of (get_or blocks r None) else get_or slots r Absent in
    let g : ℕ → Slot Bits = λ r. if get_or sp r false && get_or own r false then get_or slots r Absent else Absent in
    table_is (with_customs (with_customs custom first) second) (λ r. with_slot (get_or custom r zero_bit) (get_or slots r Absent)) 16 zero_bit
    (table_length (λ r. with_slot (get_or (with_customs custom first) r zero_bit) (get_or second r Absent)) 16)
    (λ r few.
    table_at (λ n. with_slot (get_or (with_customs custom first) n zero_bit) (get_or second n Absent)) 16 r zero_bit few
    ∙ ap (λ b. with_slot b (get_or second r Absent)) (table_at (λ n. with_slot (get_or custom n zero_bit) (get_or first n Absent)) 16 r zero_bit few)
    ∙ ap (λ q. with_slot (with_slot (get_or custom r zero_bit) q) (get_or second r Absent)) (table_at f 16 r Absent few)
    ∙ ap (λ q. with_slot (with_slot (get_or custom r zero_bit) (f r)) q) (table_at g 16 r Absent few)
    ∙ slot_parts (get_or custom r zero_bit) (get_or sp r false) (get_or own r false) (slot_of (get_or blocks r None)) (get_or slots r Absent) (others r few) (itself r few))

same_state : (pc : ℕ) (x y : List ℕ) (c d : List Bits) (mem : List ℕ) (s : Arch) → x ≡ y → c ≡ d
    → ◌≡◌ {A = Arch} (record { pc = pc; x = x; custom = c; mem = mem; trap = s.trap }) (record { pc = pc; x = y; custom = d; mem = mem; trap = s.trap })
same_state pc x y c d mem s e f = rw (e, f) refl

-- what is written at retirement and what is spawned are the record
pub whole_applied : (a : Asks) (own : List Bool) (blocks : List (Option Bits)) (c : Commit) (s : Arch) → ((r : ℕ) → r < 16 → IsWhole own blocks c r) → paid (spawned a own c) (applied (native a blocks c) s) ≡ applied c s
unfolding paid spawned applied native
whole_applied a own blocks c s whole =
    same_state c.next (with_x (with_x s.x (native_index a.spawned c.rd_index) (native_x a.spawned c.rd)) (spawned_index a.spawned c.rd_index) (spawned_x a.spawned c.rd)) (with_x s.x c.rd_index c.rd)
    (with_customs (with_customs s.custom (native_customs a.spawned_customs blocks c.custom)) (spawned_customs a.spawned_customs own c.custom)) (with_customs s.custom c.custom) _ s
    (x_parts a.spawned s.x c.rd_index c.rd)
    (customs_parts a.spawned_customs own blocks c.custom s.custom (λ r few. (whole r few).others) (λ r few. (whole r few).itself))

unless_so : {A : Type 0} (b : Bool) (x y : A) → b ≡ false → (if b then x else y) ≡ y
unless_so true x y e = cc
unless_so false x y e = refl

quiet_index : (o : Option ℕ) (xs : List ℕ) (rd : ℕ) (slot : Slot ℕ) → o ≡ None → with_x xs (native_index o rd) (native_x o slot) ≡ with_x xs rd slot
quiet_index None xs rd slot e = refl
quiet_index (Some r) xs rd slot e = cc

-- one that spawns nothing writes the whole record at retirement
pub quiet_applied : (a : Asks) (blocks : List (Option Bits)) (c : Commit) (s : Arch) → SpawnsNothing a → applied (native a blocks c) s ≡ applied c s
unfolding native applied
quiet_applied a blocks c s quiet =
    let slots = c.custom in
    let first = native_customs a.spawned_customs blocks slots in
    let f : ℕ → Slot Bits = λ r. if get_or a.spawned_customs r false then slot_of (get_or blocks r None) else get_or slots r Absent in
    same_state c.next (with_x s.x (native_index a.spawned c.rd_index) (native_x a.spawned c.rd)) (with_x s.x c.rd_index c.rd) (with_customs s.custom first) (with_customs s.custom slots) (with_store s.mem c.store) s
    (quiet_index a.spawned s.x c.rd_index c.rd quiet.x)
    (table_is (with_customs s.custom first) (λ r. with_slot (get_or s.custom r zero_bit) (get_or slots r Absent)) 16 zero_bit
    (table_length (λ r. with_slot (get_or s.custom r zero_bit) (get_or first r Absent)) 16)
    (λ r few.
    table_at (λ n. with_slot (get_or s.custom n zero_bit) (get_or first n Absent)) 16 r zero_bit few
    ∙ ap (λ q. with_slot (get_or s.custom r zero_bit) q) (table_at f 16 r Absent few ∙ unless_so (get_or a.spawned_customs r false) (slot_of (get_or blocks r None)) (get_or slots r Absent) (quiet.customs r))))

-- that interrupts are taken again changes no register
pub paid_resumed : (returns : Bool) (w : Spawned) (s : Arch) → paid w (resumed returns s) ≡ resumed returns (paid w s)
unfolding paid
paid_resumed returns w s = refl

-- ---- registers

-- what is written goes to the targets of `spawn`
pub record IsSparse (a : Asks) (w : Spawned) : Type 0 where
  pub x : (v : ℕ) → w.rd ≡ Now v → a.spawned ≡ Some w.rd_index
  pub customs : (r : ℕ) → r < 16 → get_or a.spawned_customs r false ≡ false → get_or w.custom r Absent ≡ Absent

sparse_x : (o : Option ℕ) (rd : ℕ) (slot : Slot ℕ) (v : ℕ) → ((n r : ℕ) → slot ≡ Now n → o ≡ Some r → rd ≡ r) → spawned_x o slot ≡ Now v → o ≡ Some (spawned_index o rd)
sparse_x None rd slot v h e = cc
sparse_x (Some r) rd slot v h e = ap (λ n. Some n) (sym (h v r e refl))

pub sparse : (a : Asks) (own : List Bool) (c : Commit) → IsAskedFor a c → IsSparse a (spawned a own c)
unfolding spawned
sparse a own c h = record {
  x = λ v e. sparse_x a.spawned c.rd_index c.rd v h.spawned e;
  customs = λ r few none.
      table_at (λ n. if get_or a.spawned_customs n false && get_or own n false then get_or c.custom n Absent else Absent) 16 r Absent few
      ∙ ap (λ (b : Bool). if b && get_or own r false then get_or c.custom r Absent else Absent) none;
}

-- what is written at retirement goes to what the instruction touches itself
pub record IsOwnWrite (a : Asks) (c : Commit) : Type 0 where
  pub x : (v : ℕ) → c.rd ≡ Now v → (c.rd_index ≢ 0) × (c.rd_index ≡ a.destination)
  pub customs : (r : ℕ) → r < 16 → get_or a.customs r false ≡ false → get_or c.custom r Absent ≡ Absent

own_x : (o : Option ℕ) (destination rd : ℕ) (slot : Slot ℕ) (v : ℕ) → ((n : ℕ) → slot ≡ Now n → rd ≢ 0) → ((n : ℕ) → slot ≡ Now n → (rd ≡ destination) ⊎ (o ≡ Some rd)) → native_x o slot ≡ Now v →
    (native_index o rd ≢ 0) × (native_index o rd ≡ destination)
own_x None destination rd slot v some own e = elim (own v e) [ inl d ↦ (some v e, d) | inr d ↦ cc d ]
own_x (Some r) destination rd slot v some own e = cc

pub own_write : (a : Asks) (blocks : List (Option Bits)) (c : Commit) → IsAskedFor a c → ((r : ℕ) → get_or a.customs r false ≡ false → get_or a.spawned_customs r false ≡ false) → ((r : ℕ) → get_or a.customs r false ≡ false → get_or c.custom r Absent ≡ Absent) → IsOwnWrite a (native a blocks c)
unfolding native
own_write a blocks c h unspawned kept = record {
  x = λ v e. own_x a.spawned a.destination c.rd_index c.rd v h.some h.own e;
  customs = λ r few none.
      table_at (λ n. if get_or a.spawned_customs n false then slot_of (get_or blocks n None) else get_or c.custom n Absent) 16 r Absent few
      ∙ ap (λ (b : Bool). if b then slot_of (get_or blocks r None) else get_or c.custom r Absent) (unspawned r none)
      ∙ kept r none;
}

-- two such lists of writes, where no register is a target of both
pub sparse_apart : (a b : Asks) (p q : Spawned) → IsSparse a p → IsSparse b q → ((r : ℕ) → a.spawned ≡ Some r → b.spawned ≡ Some r → ⊥) → ((r : ℕ) → r < 16 → get_or a.spawned_customs r false ≡ true → get_or b.spawned_customs r false ≡ true → ⊥) → BothPaid p q
sparse_apart a b p q sp sq no_x no_custom = record {
  x = λ m n e f same. no_x p.rd_index (sp.x m e) (sq.x n f ∙ ap (λ i. Some i) (sym same));
  customs = λ r few. by_case r few (get_or a.spawned_customs r false) refl (get_or b.spawned_customs r false) refl;
} where
  by_case : (r : ℕ) → r < 16 → (c : Bool) → get_or a.spawned_customs r false ≡ c → (d : Bool) → get_or b.spawned_customs r false ≡ d → (get_or p.custom r Absent ≡ Absent) ⊎ (get_or q.custom r Absent ≡ Absent)
  by_case r few false e d f = inl (sp.customs r few e)
  by_case r few true e false f = inr (sq.customs r few f)
  by_case r few true e true f = absurd (no_custom r few e f)

-- a record of what an instruction writes itself, and what is owed, where it touches no target of that
pub own_apart : (a b : Asks) (c : Commit) (q : Spawned) → IsOwnWrite a c → IsSparse b q → ((r : ℕ) → r ≢ 0 → a.destination ≡ r → b.spawned ≡ Some r → ⊥) → ((r : ℕ) → r < 16 → get_or a.customs r false ≡ true → get_or b.spawned_customs r false ≡ true → ⊥) → WithRecord c q
own_apart a b c q sc sq no_x no_custom = record {
  x = λ m n e f same. let w = sc.x m e in no_x c.rd_index w.0 (sym w.1) (sq.x n f ∙ ap (λ i. Some i) (sym same));
  customs = λ r few. by_case r few (get_or a.customs r false) refl (get_or b.spawned_customs r false) refl;
} where
  by_case : (r : ℕ) → r < 16 → (d : Bool) → get_or a.customs r false ≡ d → (e : Bool) → get_or b.spawned_customs r false ≡ e → (get_or c.custom r Absent ≡ Absent) ⊎ (get_or q.custom r Absent ≡ Absent)
  by_case r few false d e f = inl (sc.customs r few d)
  by_case r few true d false f = inr (sq.customs r few f)
  by_case r few true d true f = absurd (no_custom r few d f)
