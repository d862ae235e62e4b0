-- Writes of different registers in either order.
use Rattle.std.proofs.Common.{◌≡◌, ◌≢◌, ◌∙◌, refl, sym, ap, ℕ, zero, suc, ◌<◌, List, [], ◌∷◌, get_or, ◌⊎◌, inl, inr}
use Rattle.std.specs.Prelude.{slice_set}
use Rattle.ix_bits.specs.declared.number.Bits.{Bits}
use Rattle.ix_eval.proofs.Tables.{table_length, table_at, table_is}
use Rattle.rv_seq.specs.declared.arch.Arch.{Arch}
use Rattle.rv_seq.specs.declared.commit.Commit.{Commit}
use Rattle.rv_seq.specs.declared.commit.Slot.{Slot}
use Rattle.rv_seq.specs.declared.commit.Slot.TheVariants.{Absent, Now, Later}
use Rattle.rv_seq.specs.Commits.{with_x, with_slot, with_customs, with_store, applied}
use Rattle.rv_seq.specs.States.{zero_bit}
use Rattle.rv_tried.specs.declared.parts.Spawned.{Spawned}
use Rattle.rv_tried.specs.Parts.{paid}

set_swap : {A : Type 0} (xs : List A) (i j : ℕ) (u v : A) → i ≢ j → slice_set (slice_set xs i u) j v ≡ slice_set (slice_set xs j v) i u
set_swap [] i j u v other = refl
set_swap (x ∷ xs) zero zero u v other = absurd (other refl)
set_swap (x ∷ xs) zero (suc j) u v other = refl
set_swap (x ∷ xs) (suc i) zero u v other = refl
set_swap (x ∷ xs) (suc i) (suc j) u v other = ap (λ l. x ∷ l) (set_swap xs i j u v (λ e. other (ap suc e)))

x_swap : (xs : List ℕ) (i j : ℕ) (a b : Slot ℕ) → ((m n : ℕ) → a ≡ Now m → b ≡ Now n → i ≢ j) → with_x (with_x xs i a) j b ≡ with_x (with_x xs j b) i a
x_swap xs i j Absent b other = refl
x_swap xs i j Later b other = refl
x_swap xs i j (Now m) Absent other = refl
x_swap xs i j (Now m) Later other = refl
x_swap xs i j (Now m) (Now n) other = set_swap xs i j m n (other m n refl refl)

slot_swap : (v : Bits) (a b : Slot Bits) → (a ≡ Absent) ⊎ (b ≡ Absent) → with_slot (with_slot v a) b ≡ with_slot (with_slot v b) a
slot_swap v a b (inl e) = ap (λ s. with_slot (with_slot v s) b) e ∙ ap (λ s. with_slot (with_slot v b) s) (sym e)
slot_swap v a b (inr e) = ap (λ s. with_slot (with_slot v a) s) e ∙ ap (λ s. with_slot (with_slot v s) a) (sym e)

-- two lists of writes, one register after the other
customs_at : (custom : List Bits) (u v : List (Slot Bits)) (r : ℕ) → r < 16 → get_or (with_customs (with_customs custom u) v) r zero_bit ≡ with_slot (with_slot (get_or custom r zero_bit) (get_or u r Absent)) (get_or v r Absent)
customs_at custom u v r few =
    table_at (λ n. with_slot (get_or (with_customs custom u) n zero_bit) (get_or v n Absent)) 16 r zero_bit few
    ∙ ap (λ b. with_slot b (get_or v r Absent)) (table_at (λ n. with_slot (get_or custom n zero_bit) (get_or u n Absent)) 16 r zero_bit few)

customs_swap : (custom : List Bits) (u v : List (Slot Bits)) → ((r : ℕ) → r < 16 → (get_or u r Absent ≡ Absent) ⊎ (get_or v r Absent ≡ Absent)) → with_customs (with_customs custom u) v ≡ with_customs (with_customs custom v) u
customs_swap custom u v other =
    table_is (with_customs (with_customs custom u) v) (λ r. with_slot (get_or (with_customs custom v) r zero_bit) (get_or u r Absent)) 16 zero_bit
    (table_length (λ r. with_slot (get_or (with_customs custom u) r zero_bit) (get_or v r Absent)) 16)
    (λ r few.
    customs_at custom u v r few
    ∙ slot_swap (get_or custom r zero_bit) (get_or u r Absent) (get_or v r Absent) (other r few)
    ∙ sym (customs_at custom v u r few)
    ∙ table_at (λ n. with_slot (get_or (with_customs custom v) n zero_bit) (get_or u n Absent)) 16 r zero_bit few)

-- these writes go to different registers
pub record AreApart (i : ℕ) (a : Slot ℕ) (u : List (Slot Bits)) (j : ℕ) (b : Slot ℕ) (v : List (Slot Bits)) : Type 0 where
  pub x : (m n : ℕ) → a ≡ Now m → b ≡ Now n → i ≢ j
  pub customs : (r : ℕ) → r < 16 → (get_or u r Absent ≡ Absent) ⊎ (get_or v r Absent ≡ Absent)

state_with : (s : Arch) (x y : List ℕ) (c d : List Bits) → x ≡ y → c ≡ d
    → ◌≡◌ {A = Arch} (record { pc = s.pc; x = x; custom = c; mem = s.mem; trap = s.trap }) (record { pc = s.pc; x = y; custom = d; mem = s.mem; trap = s.trap })
state_with s x y c d e f = rw (e, f) refl

abbrev pub BothPaid : Spawned → Spawned → Type 0
BothPaid p q = AreApart p.rd_index p.rd p.custom q.rd_index q.rd q.custom

pub paid_swap : (p q : Spawned) (s : Arch) → BothPaid p q → paid q (paid p s) ≡ paid p (paid q s)
unfolding paid
paid_swap p q s h =
    state_with s (with_x (with_x s.x p.rd_index p.rd) q.rd_index q.rd) (with_x (with_x s.x q.rd_index q.rd) p.rd_index p.rd)
    (with_customs (with_customs s.custom p.custom) q.custom) (with_customs (with_customs s.custom q.custom) p.custom)
    (x_swap s.x p.rd_index q.rd_index p.rd q.rd h.x) (customs_swap s.custom p.custom q.custom h.customs)

-- a record and what is paid
abbrev pub WithRecord : Commit → Spawned → Type 0
WithRecord c p = AreApart c.rd_index c.rd c.custom p.rd_index p.rd p.custom

after_record : (c : Commit) (s : Arch) (x y : List ℕ) (u v : List Bits) → x ≡ y → u ≡ v
    → ◌≡◌ {A = Arch} (record { pc = c.next; x = x; custom = u; mem = with_store s.mem c.store; trap = s.trap }) (record { pc = c.next; x = y; custom = v; mem = with_store s.mem c.store; trap = s.trap })
after_record c s x y u v e f = rw (e, f) refl

pub applied_swap : (c : Commit) (p : Spawned) (s : Arch) → WithRecord c p → paid p (applied c s) ≡ applied c (paid p s)
unfolding paid applied
applied_swap c p s h =
    after_record c s (with_x (with_x s.x c.rd_index c.rd) p.rd_index p.rd) (with_x (with_x s.x p.rd_index p.rd) c.rd_index c.rd)
    (with_customs (with_customs s.custom c.custom) p.custom) (with_customs (with_customs s.custom p.custom) c.custom)
    (x_swap s.x c.rd_index p.rd_index c.rd p.rd h.x) (customs_swap s.custom c.custom p.custom h.customs)
