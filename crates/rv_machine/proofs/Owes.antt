-- What is owed beside the stages, against the rows: which serials owe, and which of them is the oldest.
use Rattle.std.proofs.Common.{◌≡◌, ◌≢◌, ℕ, ◌<◌, ◌≤◌, List, [], ◌∷◌, ◌++◌, Option, Some, None, Bool, true, false, refl, sym, ap, ◌∙◌, subst, arith, ◌⊎◌, inl, inr}
use Rattle.std.specs.Prelude.{if◌then◌else◌, is_some}
use Rattle.rv_seq.specs.declared.commit.Commit.{Commit}
use Rattle.rv_trace.specs.declared.row.Row.{Row}
use Rattle.rv_trace.specs.Trace.{place}
use Rattle.rv_asks.specs.declared.asks.Asks.{Asks}
use Rattle.rv_unit.specs.declared.entry.Entry.{Entry}
use Rattle.rv_unit.specs.Entries.{does_write, written_among}
use Rattle.rv_unit.specs.Timed.{IsTimed}
use Rattle.rv_unit.proofs.Moving.{alone_law}
use Rattle.rv_holds.specs.Tokens.{or_else}
use Rattle.rv_holds.specs.Holds.{register_at}
use Rattle.rv_engine.specs.declared.owing.Owed.{Owed}
use Rattle.rv_engine.specs.Owing.{holder, paying_among, unpaid_among, oldest_serial}
use Rattle.rv_engine.specs.Rows.{written_of}
use Rattle.rv_engine.specs.Settings.{Setting}
use Rattle.rv_lawful.specs.Sight.{asked}
use Rattle.rv_lawful.specs.Outstanding.{Decoupled, serial_written, is_serial, has_target, is_written, decoupled_in, decoupled, without, outstanding}
use Rattle.rv_machine.specs.Owing.{judged, IsOwing, AreBelow, Owing, RetiredAs}
use Rattle.rv_machine.proofs.Places.{lower_place}
use Rattle.rv_machine.proofs.Deciding.{test_eq}

-- one of these has this serial, and this is true of what is asked of it
abbrev pub Owes : List Owed → (Asks → Bool) → ℕ → Type 0
Owes [] f j = ⊥
Owes (w ∷ older) f j = ((w.serial ≡ j) × (f w.asks ≡ true)) ⊎ Owes older f j

-- one of these has this serial and this word
abbrev pub Among : List Decoupled → ℕ → ℕ → Type 0
Among [] j word = ⊥
Among (o ∷ older) j word = ((o.0 ≡ j) × (o.1 ≡ word)) ⊎ Among older j word

-- the retired instruction that owes
pub record IsOwed (k : Setting) (rows : List Row) (f : Asks → Bool) (j : ℕ) : Type 0 where
  pub out : Decoupled
  pub entry : Entry
  pub owed : Owed
  pub is : IsOwing k rows out entry owed
  pub serial : out.0 ≡ j
  pub true_of : f owed.asks ≡ true

pub owes_is : (k : Setting) (rows : List Row) (outs : List Decoupled) (entries : List Entry) (owed : List Owed) (f : Asks → Bool) (j : ℕ) → Owing k rows outs entries owed → Owes owed f j → IsOwed k rows f j
owes_is k rows [] [] [] f j h x = absurd x
owes_is k rows (o ∷ outs) (e ∷ entries) (w ∷ owed) f j h (inl x) = record { out = o; entry = e; owed = w; is = h.0; serial = sym h.0.owed ∙ x.0; true_of = x.1 }
owes_is k rows (o ∷ outs) (e ∷ entries) (w ∷ owed) f j h (inr x) = owes_is k rows outs entries owed f j h.2 x
owes_is k rows [] [] (w ∷ owed) f j h x = absurd h
owes_is k rows [] (e ∷ entries) owed f j h x = absurd h
owes_is k rows (o ∷ outs) [] owed f j h x = absurd h
owes_is k rows (o ∷ outs) (e ∷ entries) [] f j h x = absurd h

-- what is outstanding owes
pub among_owes : (k : Setting) (rows : List Row) (outs : List Decoupled) (entries : List Entry) (owed : List Owed) (f : Asks → Bool) (j word : ℕ) → Owing k rows outs entries owed → Among outs j word → f (asked k.design word) ≡ true → Owes owed f j
among_owes k rows [] [] [] f j word h x e = absurd x
among_owes k rows (o ∷ outs) (n ∷ entries) (w ∷ owed) f j word h (inl x) e = inl (h.0.owed ∙ x.0, ap f (h.0.asks ∙ ap (λ v. asked k.design v) x.1) ∙ e)
among_owes k rows (o ∷ outs) (n ∷ entries) (w ∷ owed) f j word h (inr x) e = inr (among_owes k rows outs entries owed f j word h.2 x e)
among_owes k rows [] [] (w ∷ owed) f j word h x e = absurd h
among_owes k rows [] (n ∷ entries) owed f j word h x e = absurd h
among_owes k rows (o ∷ outs) [] owed f j word h x e = absurd h
among_owes k rows (o ∷ outs) (n ∷ entries) [] f j word h x e = absurd h

-- What is retired into a unit and not written is outstanding

among_left : (a b : List Decoupled) (j word : ℕ) → Among a j word → Among (a ++ b) j word
among_left [] b j word x = absurd x
among_left (o ∷ a) b j word (inl x) = inl x
among_left (o ∷ a) b j word (inr x) = inr (among_left a b j word x)

among_right : (a b : List Decoupled) (j word : ℕ) → Among b j word → Among (a ++ b) j word
among_right [] b j word x = x
among_right (o ∷ a) b j word x = inr (among_right a b j word x)

among_without : (f : ℕ → Bool) (l : List Decoupled) (j word : ℕ) → f j ≡ false → Among l j word → Among (without f l) j word
among_without f [] j word e x = absurd x
among_without f (o ∷ l) j word e (inl x) = by_case (f o.0) refl where
  by_case : (b : Bool) → f o.0 ≡ b → Among (if b then without f l else o ∷ without f l) j word
  by_case true q = cc (q, ap f x.0, e)
  by_case false q = inl x
among_without f (o ∷ l) j word e (inr x) = by_case (f o.0) (among_without f l j word e x) where
  by_case : (b : Bool) → Among (without f l) j word → Among (if b then without f l else o ∷ without f l) j word
  by_case true y = y
  by_case false y = inr y

module _ (k : Setting) (j word : ℕ) (unit : is_some (asked k.design word).unit ≡ true) where
  decoupled_now : (r : Option (ℕ × Commit)) (c : Commit) → r ≡ Some (j, c) → c.word ≡ word → Among (decoupled_in (judged k) r) j word
  decoupled_now r c e w =
      subst (λ o. Among (decoupled_in (judged k) o) j word) (sym e)
      (subst (λ b. Among (if b then (j, c.word) ∷ [] else []) j word) (sym (ap (λ v. is_some (asked k.design v).unit) w ∙ unit)) (inl (refl, w)))

  retired_decoupled : (rows : List Row) → RetiredAs rows j word → Among (decoupled (judged k) rows) j word
  unfolding decoupled
  retired_decoupled [] x = absurd x
  retired_decoupled (row ∷ rows) (inl x) = among_left (decoupled_in (judged k) row.retired) (decoupled (judged k) rows) j word (decoupled_now row.retired x.0 x.1 x.2)
  retired_decoupled (row ∷ rows) (inr x) = among_right (decoupled_in (judged k) row.retired) (decoupled (judged k) rows) j word (retired_decoupled rows x)

  pub retired_owes : (rows : List Row) (entries : List Entry) (owed : List Owed) (f : Asks → Bool) → Owing k rows (outstanding (judged k) rows) entries owed → RetiredAs rows j word → is_written rows j ≡ false → f (asked k.design word) ≡ true → Owes owed f j
  retired_owes rows entries owed f h x unwritten e =
      among_owes k rows (outstanding (judged k) rows) entries owed f j word h
      (among_without (is_written rows) (decoupled (judged k) rows) j word unwritten (retired_decoupled rows x)) e

-- Their order

-- of these each has a higher serial than the later ones
abbrev pub Falls : List Owed → Type 0
Falls [] = Unit {0}
Falls (w ∷ older) = ((f : Asks → Bool) (j : ℕ) → Owes older f j → j < w.serial) × Falls older

below_place : (k : Setting) (rows : List Row) (p : ℕ) (outs : List Decoupled) (entries : List Entry) (owed : List Owed) (f : Asks → Bool) (j : ℕ) → Owing k rows outs entries owed → AreBelow rows p outs → Owes owed f j → place rows j < p
below_place k rows p [] [] [] f j h b x = absurd x
below_place k rows p (o ∷ outs) (e ∷ entries) (w ∷ owed) f j h b (inl x) = subst (λ n. place rows n < p) (sym h.0.owed ∙ x.0) b.0
below_place k rows p (o ∷ outs) (e ∷ entries) (w ∷ owed) f j h b (inr x) = below_place k rows p outs entries owed f j h.2 b.1 x
below_place k rows p [] [] (w ∷ owed) f j h b x = absurd h
below_place k rows p [] (e ∷ entries) owed f j h b x = absurd h
below_place k rows p (o ∷ outs) [] owed f j h b x = absurd h
below_place k rows p (o ∷ outs) (e ∷ entries) [] f j h b x = absurd h

pub owing_falls : (k : Setting) (rows : List Row) (outs : List Decoupled) (entries : List Entry) (owed : List Owed) → Owing k rows outs entries owed → Falls owed
owing_falls k rows [] [] [] h = tt
owing_falls k rows (o ∷ outs) (e ∷ entries) (w ∷ owed) h = (
  λ f j x. subst (λ n. j < n) (sym h.0.owed) (lower_place rows j o.0 (below_place k rows (place rows o.0) outs entries owed f j h.2 h.1 x)),
  owing_falls k rows outs entries owed h.2,
)
owing_falls k rows [] [] (w ∷ owed) h = absurd h
owing_falls k rows [] (e ∷ entries) owed h = absurd h
owing_falls k rows (o ∷ outs) [] owed h = absurd h
owing_falls k rows (o ∷ outs) (e ∷ entries) [] h = absurd h

-- the least serial of those of which this is true
abbrev pub OldestOwes : List Owed → (Asks → Bool) → Option ℕ → Type 0
OldestOwes owed f None = (j : ℕ) → Owes owed f j → ⊥
OldestOwes owed f (Some i) = Owes owed f i × ((j : ℕ) → Owes owed f j → i ≤ j)

abbrev oldest_of : (Asks → Bool) → List Owed → Option ℕ
oldest_of f [] = None
oldest_of f (w ∷ older) = or_else (oldest_of f older) (if f w.asks then Some w.serial else None)

oldest_of-is : (f : Asks → Bool) (owed : List Owed) → Falls owed → OldestOwes owed f (oldest_of f owed)
oldest_of-is f [] h = λ j x. x
oldest_of-is f (w ∷ owed) h = by_case (oldest_of f owed) (oldest_of-is f owed h.1) where
  last : (b : Bool) → f w.asks ≡ b → ((j : ℕ) → Owes owed f j → ⊥) → OldestOwes (w ∷ owed) f (if b then Some w.serial else None)
  last true q g = (inl (refl, q), λ j x. elim x [ inl y ↦ omega (arith, y.0) | inr y ↦ absurd (g j y) ])
  last false q g = λ j x. elim x [ inl y ↦ cc (q, y.1) | inr y ↦ g j y ]

  by_case : (o : Option ℕ) → OldestOwes owed f o → OldestOwes (w ∷ owed) f (or_else o (if f w.asks then Some w.serial else None))
  by_case None g = last (f w.asks) refl g
  by_case (Some i) g = (
    inr g.0,
    λ j x. elim x [
      | inl y ↦ let lt = h.0 f i g.0 in omega (arith, lt, y.0)
      | inr y ↦ g.1 j y
    ],
  )

holder_of : (n : ℕ) (owed : List Owed) → oldest_of (λ a. has_target a (register_at n)) owed ≡ holder n owed
holder_of n [] = refl
holder_of n (w ∷ owed) = ap (λ o. or_else o (if has_target w.asks (register_at n) then Some w.serial else None)) (holder_of n owed)

pub holder_is : (n : ℕ) (owed : List Owed) → Falls owed → OldestOwes owed (λ a. has_target a (register_at n)) (holder n owed)
holder_is n owed h = subst (λ o. OldestOwes owed (λ a. has_target a (register_at n)) o) (holder_of n owed) (oldest_of-is (λ a. has_target a (register_at n)) owed h)

abbrev pub any : Asks → Bool
any a = true

serial_of : (owed : List Owed) → oldest_of any owed ≡ oldest_serial owed
serial_of [] = refl
serial_of (w ∷ owed) = ap (λ o. or_else o (Some w.serial)) (serial_of owed)

pub oldest_serial_is : (owed : List Owed) → Falls owed → OldestOwes owed any (oldest_serial owed)
oldest_serial_is owed h = subst (λ o. OldestOwes owed any o) (serial_of owed) (oldest_of-is any owed h)

-- What is written in a row, and what is not

pub written_paid : (p : Option Owed) (s : ℕ) → is_serial (serial_written (written_of p)) s ≡ true → (w : Owed) × (p ≡ Some w) × (w.serial ≡ s)
written_paid None s e = cc
written_paid (Some w) s e = (w, refl, test_eq w.serial s e)

module _ (k : Setting) (rows : List Row) (stages : ℕ) (lasts : List ℕ) (all : List Entry) where
  -- what is written is owed
  pub paid_is : (outs : List Decoupled) (entries : List Entry) (owed : List Owed) (w : Owed) → Owing k rows outs entries owed → paying_among lasts all entries owed ≡ Some w → (o : Decoupled) × (e : Entry) × IsOwing k rows o e w
  paid_is [] [] [] w h e = cc
  paid_is (o ∷ outs) (n ∷ entries) (v ∷ owed) w h e = by_case (does_write lasts all n) e (λ q. paid_is outs entries owed w h.2 q) where
    by_case : (b : Bool) → (if b then Some v else paying_among lasts all entries owed) ≡ Some w → (paying_among lasts all entries owed ≡ Some w → (o : Decoupled) × (e : Entry) × IsOwing k rows o e w) → (o : Decoupled) × (e : Entry) × IsOwing k rows o e w
    by_case true q again = let same : v ≡ w = cc in (o, n, subst (λ x. IsOwing k rows o n x) same h.0)
    by_case false q again = again q
  paid_is [] [] (v ∷ owed) w h e = absurd h
  paid_is [] (n ∷ entries) owed w h e = absurd h
  paid_is (o ∷ outs) [] owed w h e = absurd h
  paid_is (o ∷ outs) (n ∷ entries) [] w h e = absurd h

  pub paid_owes : (entries : List Entry) (owed : List Owed) (w : Owed) → paying_among lasts all entries owed ≡ Some w → Owes owed any w.serial
  paid_owes [] owed w e = cc
  paid_owes (n ∷ entries) [] w e = cc
  paid_owes (n ∷ entries) (v ∷ owed) w e = by_case (does_write lasts all n) e (λ q. paid_owes entries owed w q) where
    by_case : (b : Bool) → (if b then Some v else paying_among lasts all entries owed) ≡ Some w → (paying_among lasts all entries owed ≡ Some w → Owes owed any w.serial) → Owes (v ∷ owed) any w.serial
    by_case true q again = let same : v ≡ w = cc in inl (ap (λ (x : Owed). x.serial) same, refl)
    by_case false q again = inr (again q)

  pub unpaid_owes : (entries : List Entry) (owed : List Owed) (f : Asks → Bool) (j : ℕ) → Owes (unpaid_among lasts all entries owed) f j → Owes owed f j
  unpaid_owes [] owed f j x = absurd x
  unpaid_owes (n ∷ entries) [] f j x = absurd x
  unpaid_owes (n ∷ entries) (v ∷ owed) f j x = by_case (does_write lasts all n) x (λ y. unpaid_owes entries owed f j y) where
    by_case : (b : Bool) → Owes (if b then unpaid_among lasts all entries owed else v ∷ unpaid_among lasts all entries owed) f j → (Owes (unpaid_among lasts all entries owed) f j → Owes owed f j) → Owes (v ∷ owed) f j
    by_case true y again = inr (again y)
    by_case false (inl y) again = inl y
    by_case false (inr y) again = inr (again y)

  pub unpaid_falls : (entries : List Entry) (owed : List Owed) → Falls owed → Falls (unpaid_among lasts all entries owed)
  unpaid_falls [] owed h = tt
  unpaid_falls (n ∷ entries) [] h = tt
  unpaid_falls (n ∷ entries) (v ∷ owed) h = by_case (does_write lasts all n) (unpaid_falls entries owed h.1) where
    by_case : (b : Bool) → Falls (unpaid_among lasts all entries owed) → Falls (if b then unpaid_among lasts all entries owed else v ∷ unpaid_among lasts all entries owed)
    by_case true y = y
    by_case false y = (λ f j x. h.0 f j (unpaid_owes entries owed f j x), y)

  -- what is written is not among the others
  pub unpaid_other : (entries : List Entry) (owed : List Owed) (w : Owed) (f : Asks → Bool) (j : ℕ) → Falls owed → paying_among lasts all entries owed ≡ Some w → Owes (unpaid_among lasts all entries owed) f j → w.serial ≢ j
  unpaid_other [] owed w f j h e x = absurd x
  unpaid_other (n ∷ entries) [] w f j h e x = absurd x
  unpaid_other (n ∷ entries) (v ∷ owed) w f j h e x = by_case (does_write lasts all n) e x (λ q y. unpaid_other entries owed w f j h.1 q y) where
    by_case : (b : Bool) → (if b then Some v else paying_among lasts all entries owed) ≡ Some w → Owes (if b then unpaid_among lasts all entries owed else v ∷ unpaid_among lasts all entries owed) f j
        → (paying_among lasts all entries owed ≡ Some w → Owes (unpaid_among lasts all entries owed) f j → w.serial ≢ j) → w.serial ≢ j
    by_case true q y again =
        let same : v ≡ w = cc in
        let lt = h.0 f j (unpaid_owes entries owed f j y) in
        let e' = ap (λ (x : Owed). x.serial) same in
        λ z. omega (arith, lt, e', z)
    by_case false q (inl y) again = let lt = h.0 any w.serial (paid_owes entries owed w q) in λ z. omega (arith, lt, y.0, z)
    by_case false q (inr y) again = again q y

  none_paid : (entries : List Entry) (owed : List Owed) → written_among lasts all entries ≡ None → paying_among lasts all entries owed ≡ None
  none_paid [] owed e = refl
  none_paid (n ∷ entries) [] e = refl
  none_paid (n ∷ entries) (v ∷ owed) e = by_case (does_write lasts all n) e (λ q. none_paid entries owed q) where
    by_case : (b : Bool) → (if b then Some n else written_among lasts all entries) ≡ None → (written_among lasts all entries ≡ None → paying_among lasts all entries owed ≡ None) → (if b then Some v else paying_among lasts all entries owed) ≡ None
    by_case true q again = cc
    by_case false q again = again q

  -- each is written or among the others
  pub paid_or_unpaid : (outs : List Decoupled) (entries : List Entry) (owed : List Owed) (f : Asks → Bool) (j : ℕ) → Owing k rows outs entries owed → IsTimed stages lasts entries → Owes owed f j
      → ((w : Owed) × (paying_among lasts all entries owed ≡ Some w) × (w.serial ≡ j)) ⊎ Owes (unpaid_among lasts all entries owed) f j
  paid_or_unpaid [] [] [] f j h t x = absurd x
  paid_or_unpaid (o ∷ outs) (n ∷ entries) (v ∷ owed) f j h t x = by_case (does_write lasts all n) refl x (λ y. paid_or_unpaid outs entries owed f j h.2 t.2 y) where
    by_case : (b : Bool) → does_write lasts all n ≡ b → Owes (v ∷ owed) f j
        → (Owes owed f j → ((w : Owed) × (paying_among lasts all entries owed ≡ Some w) × (w.serial ≡ j)) ⊎ Owes (unpaid_among lasts all entries owed) f j)
        → ((w : Owed) × ((if b then Some v else paying_among lasts all entries owed) ≡ Some w) × (w.serial ≡ j)) ⊎ Owes (if b then unpaid_among lasts all entries owed else v ∷ unpaid_among lasts all entries owed) f j
    by_case true q (inl y) again = inl (v, refl, y.0)
    by_case true q (inr y) again = elim (again y) [
      | inl z ↦ cc (none_paid entries owed (alone_law stages lasts all n entries t q), z.1)
      | inr z ↦ inr z
    ]
    by_case false q (inl y) again = inr (inl y)
    by_case false q (inr y) again = elim (again y) [ inl z ↦ inl z | inr z ↦ inr (inr z) ]
  paid_or_unpaid [] [] (v ∷ owed) f j h t x = absurd h
  paid_or_unpaid [] (n ∷ entries) owed f j h t x = absurd h
  paid_or_unpaid (o ∷ outs) [] owed f j h t x = absurd h
  paid_or_unpaid (o ∷ outs) (n ∷ entries) [] f j h t x = absurd h
