-- Tokens that differ in holds, operands, trials and guesses alone, as the passes over the slots leave them.
use Rattle.std.proofs.Common.{◌≡◌, ℕ, zero, suc, ◌+◌, ◌-◌, List, [], ◌∷◌, drop, length, Option, Some, None, Bool, true, false, refl, sym, ap, ◌∙◌}
use Rattle.std.specs.Prelude.{if◌then◌else◌, ◌==◌, ◌&&◌, not, nat_lt}
use Rattle.ix_bits.specs.declared.number.Bits.{Bits}
use Rattle.ix_extension.specs.Extensions.{ExtensionTree}
use Rattle.ix_mean.specs.declared.evaluate.State.{State}
use Rattle.ix_plan.specs.declared.design.Design.{Design}
use Rattle.rv_core.specs.declared.Shape.{Shape}
use Rattle.rv_trace.specs.declared.row.Row.{Row}
use Rattle.rv_trace.specs.Trace.{place, is_flushed}
use Rattle.rv_asks.specs.declared.asks.Asks.{Asks}
use Rattle.rv_holds.specs.declared.token.Token.{Token}
use Rattle.rv_holds.specs.Tokens.{Slots, or_else}
use Rattle.rv_holds.specs.Holds.{oldest, withholder, withholds, shown, held, decided}
use Rattle.rv_engine.specs.Owing.{Outstanding}
use Rattle.rv_engine.specs.Settings.{Setting, shape_of}
use Rattle.rv_engine.specs.Rows.{guess_first, reading, tried_with, seeing, is_ripe, trying, is_loading, loading}
use Rattle.rv_machine.specs.Placed.{run, count, expected, Serials}

-- ---- tokens with the same cells but for holds, of which the same is asked

pub record IsAlike (t u : Token) : Type 0 where
  pub serial : u.cell.serial ≡ t.cell.serial
  pub at : u.cell.at ≡ t.cell.at
  pub word : u.cell.word ≡ t.cell.word
  pub asks : u.asks ≡ t.asks
  pub tail : u.tail ≡ t.tail

abbrev pub AlikeSlot : Option Token → Option Token → Type 0
AlikeSlot None None = Unit {0}
AlikeSlot None (Some u) = ⊥
AlikeSlot (Some t) None = ⊥
AlikeSlot (Some t) (Some u) = IsAlike t u

abbrev pub Alike : Slots → Slots → Type 0
Alike [] [] = Unit {0}
Alike [] (u ∷ b) = ⊥
Alike (s ∷ a) [] = ⊥
Alike (s ∷ a) (u ∷ b) = AlikeSlot s u × Alike a b

pub alike_length : (a b : Slots) → Alike a b → length b ≡ length a
alike_length [] [] h = refl
alike_length [] (u ∷ b) h = absurd h
alike_length (s ∷ a) [] h = absurd h
alike_length (s ∷ a) (u ∷ b) h = ap suc (alike_length a b h.1)

pub alike_count : (a b : Slots) → Alike a b → count b ≡ count a
alike_count [] [] h = refl
alike_count [] (u ∷ b) h = absurd h
alike_count (s ∷ a) [] h = absurd h
alike_count (None ∷ a) (None ∷ b) h = alike_count a b h.1
alike_count (None ∷ a) (Some u ∷ b) h = absurd h.0
alike_count (Some t ∷ a) (None ∷ b) h = absurd h.0
alike_count (Some t ∷ a) (Some u ∷ b) h = ap suc (alike_count a b h.1)

-- it withholds a register, by what is asked of it
abbrev withheld : Shape → ℕ → ℕ → Asks → Bool
withheld k r stage a = (a.destination == r) && not (k.forward && nat_lt a.x_time stage)

pub alike_oldest : (g : Asks → Bool) (a b : Slots) → Alike a b → oldest (λ t. g t.asks) b ≡ oldest (λ t. g t.asks) a
alike_oldest g [] [] h = refl
alike_oldest g [] (u ∷ b) h = absurd h
alike_oldest g (s ∷ a) [] h = absurd h
alike_oldest g (None ∷ a) (None ∷ b) h = alike_oldest g a b h.1
alike_oldest g (None ∷ a) (Some u ∷ b) h = absurd h.0
alike_oldest g (Some t ∷ a) (None ∷ b) h = absurd h.0
alike_oldest g (Some t ∷ a) (Some u ∷ b) h =
    ap (λ o. or_else o (if g u.asks then Some u.cell.serial else None)) (alike_oldest g a b h.1)
    ∙ ap (λ x. or_else (oldest (λ v. g v.asks) a) (if g x then Some u.cell.serial else None)) h.0.asks
    ∙ ap (λ n. or_else (oldest (λ v. g v.asks) a) (if g t.asks then Some n else None)) h.0.serial

-- the oldest that withholds a register
pub alike_withholder : (k : Shape) (r stage : ℕ) (a b : Slots) → Alike a b → withholder k r stage b ≡ withholder k r stage a
alike_withholder k r stage [] [] h = refl
alike_withholder k r stage [] (u ∷ b) h = absurd h
alike_withholder k r stage (s ∷ a) [] h = absurd h
alike_withholder k r stage (None ∷ a) (None ∷ b) h = alike_withholder k r (suc stage) a b h.1
alike_withholder k r stage (None ∷ a) (Some u ∷ b) h = absurd h.0
alike_withholder k r stage (Some t ∷ a) (None ∷ b) h = absurd h.0
alike_withholder k r stage (Some t ∷ a) (Some u ∷ b) h =
    ap (λ o. or_else o (if withholds k r stage u then Some u.cell.serial else None)) (alike_withholder k r (suc stage) a b h.1)
    ∙ ap (λ (x : Asks). or_else (withholder k r (suc stage) a) (if withheld k r stage x then Some u.cell.serial else None)) h.0.asks
    ∙ ap (λ n. or_else (withholder k r (suc stage) a) (if withholds k r stage t then Some n else None)) h.0.serial

-- ---- guesses

abbrev guess_in : Option Token → ℕ
guess_in None = 0
guess_in (Some t) = t.guess

-- the guesses of these
abbrev pub guesses : Slots → List ℕ
guesses [] = []
guesses (s ∷ older) = guess_in s ∷ guesses older

pub same_first : (m n : ℕ) (xs ys : List ℕ) → m ∷ xs ≡ n ∷ ys → m ≡ n
same_first m n xs ys e = cc

pub same_rest : (m n : ℕ) (xs ys : List ℕ) → m ∷ xs ≡ n ∷ ys → xs ≡ ys
same_rest m n xs ys e = cc

-- the address behind a token, by its guess and whether it writes the pc late
abbrev behind : Setting → ℕ → ℕ → ℕ → Bool → ℕ
behind k p stage guess late = if nat_lt (if late then (shape_of k).stages - 1 else (shape_of k).ex) stage then (run k (suc p)).pc else guess

pub alike_expected : (k : Setting) (r stage : ℕ) (a b : Slots) → Alike a b → guesses b ≡ guesses a → expected k r stage b ≡ expected k r stage a
alike_expected k r stage [] [] h g = refl
alike_expected k r stage [] (u ∷ b) h g = absurd h
alike_expected k r stage (s ∷ a) [] h g = absurd h
alike_expected k r stage (None ∷ a) (None ∷ b) h g = alike_expected k r (suc stage) a b h.1 (same_rest 0 0 (guesses b) (guesses a) g)
alike_expected k r stage (None ∷ a) (Some u ∷ b) h g = absurd h.0
alike_expected k r stage (Some t ∷ a) (None ∷ b) h g = absurd h.0
alike_expected k r stage (Some t ∷ a) (Some u ∷ b) h g =
    ap (λ n. behind k (r + n) stage u.guess u.asks.late) (alike_count a b h.1)
    ∙ ap (λ n. behind k (r + count a) stage n u.asks.late) (same_first u.guess t.guess (guesses b) (guesses a) g)
    ∙ ap (λ (x : Asks). behind k (r + count a) stage t.guess x.late) h.0.asks

pub alike_serials : (rows : List Row) (r : ℕ) (a b : Slots) → Alike a b → Serials rows r a → Serials rows r b
alike_serials rows r [] [] h s = tt
alike_serials rows r [] (u ∷ b) h s = absurd h
alike_serials rows r (o ∷ a) [] h s = absurd h
alike_serials rows r (None ∷ a) (None ∷ b) h s = alike_serials rows r a b h.1 s
alike_serials rows r (None ∷ a) (Some u ∷ b) h s = absurd h.0
alike_serials rows r (Some t ∷ a) (None ∷ b) h s = absurd h.0
alike_serials rows r (Some t ∷ a) (Some u ∷ b) h s = (
  (ap (λ n. place rows n) h.0.serial ∙ s.0.0 ∙ ap (λ n. r + n) (sym (alike_count a b h.1)), ap (λ n. is_flushed rows n) h.0.serial ∙ s.0.1),
  alike_serials rows r a b h.1 s.1,
)

pub alike_self : (t : Token) → IsAlike t t
alike_self t = record { serial = refl; at = refl; word = refl; asks = refl; tail = refl }

pub alike_same : (slots : Slots) → Alike slots slots
alike_same [] = tt
alike_same (None ∷ older) = (tt, alike_same older)
alike_same (Some t ∷ older) = (alike_self t, alike_same older)

-- the guess of the first is another
pub guess_alike : (d : Design) (future : List Bits) (memory : List ℕ) (slots : Slots) → Alike slots (guess_first d future memory slots)
guess_alike d future memory [] = tt
guess_alike d future memory (None ∷ older) = (tt, alike_same older)
guess_alike d future memory (Some t ∷ older) = (record { serial = refl; at = refl; word = refl; asks = refl; tail = refl }, alike_same older)

pub reading_alike : (k : Shape) (x : List ℕ) (owed : ℕ) (now : Bool) (o : Outstanding) (stage : ℕ) (slots : Slots) → Alike slots (reading k x owed now o stage slots)
reading_alike k x owed now o stage [] = tt
reading_alike k x owed now o stage (None ∷ older) = (tt, reading_alike k x owed now o (suc stage) older)
reading_alike k x owed now o stage (Some t ∷ older) = (record { serial = refl; at = refl; word = refl; asks = refl; tail = refl }, reading_alike k x owed now o (suc stage) older)

trial_alike : (x : ExtensionTree) (memory : List ℕ) (i : State) (t : Token) (b : Bool) → AlikeSlot (Some t) (if b then Some (tried_with x memory i t) else Some t)
trial_alike x memory i t true = record { serial = refl; at = refl; word = refl; asks = refl; tail = refl }
trial_alike x memory i t false = alike_self t

pub trying_alike : (x : ExtensionTree) (k : Shape) (future : List Bits) (memory : List ℕ) (stage : ℕ) (slots : Slots) → Alike slots (trying x k future memory stage slots)
trying_alike x k future memory stage [] = tt
trying_alike x k future memory stage (None ∷ older) = (tt, trying_alike x k future memory (suc stage) older)
trying_alike x k future memory stage (Some t ∷ older) = (trial_alike x memory (seeing future t.inputs) t (is_ripe k stage t older), trying_alike x k future memory (suc stage) older)

pub loading_alike : (x : ExtensionTree) (k : Shape) (memory : List ℕ) (stage : ℕ) (slots : Slots) → Alike slots (loading x k memory stage slots)
loading_alike x k memory stage [] = tt
loading_alike x k memory stage (None ∷ older) = (tt, loading_alike x k memory (suc stage) older)
loading_alike x k memory stage (Some t ∷ older) = (trial_alike x memory t.inputs t (is_loading k stage t), loading_alike x k memory (suc stage) older)

pub decided_alike : (k : Shape) (stage : ℕ) (slots : Slots) → Alike slots (decided k stage slots)
decided_alike k stage [] = tt
decided_alike k stage (None ∷ older) = (tt, decided_alike k (suc stage) older)
decided_alike k stage (Some t ∷ older) = (record { serial = refl; at = refl; word = refl; asks = refl; tail = refl }, decided_alike k (suc stage) older)

-- ---- the passes leave the guesses

pub reading_guesses : (k : Shape) (x : List ℕ) (owed : ℕ) (now : Bool) (o : Outstanding) (stage : ℕ) (slots : Slots) → guesses (reading k x owed now o stage slots) ≡ guesses slots
reading_guesses k x owed now o stage [] = refl
reading_guesses k x owed now o stage (None ∷ older) = ap (λ l. 0 ∷ l) (reading_guesses k x owed now o (suc stage) older)
reading_guesses k x owed now o stage (Some t ∷ older) = ap (λ l. t.guess ∷ l) (reading_guesses k x owed now o (suc stage) older)

pub trying_guesses : (x : ExtensionTree) (k : Shape) (future : List Bits) (memory : List ℕ) (stage : ℕ) (slots : Slots) → guesses (trying x k future memory stage slots) ≡ guesses slots
trying_guesses x k future memory stage [] = refl
trying_guesses x k future memory stage (None ∷ older) = ap (λ l. 0 ∷ l) (trying_guesses x k future memory (suc stage) older)
trying_guesses x k future memory stage (Some t ∷ older) = by_case (is_ripe k stage t older) ∙ ap (λ l. t.guess ∷ l) (trying_guesses x k future memory (suc stage) older) where
  by_case : (b : Bool) → guesses ((if b then Some (tried_with x memory (seeing future t.inputs) t) else Some t) ∷ trying x k future memory (suc stage) older) ≡ t.guess ∷ guesses (trying x k future memory (suc stage) older)
  by_case true = refl
  by_case false = refl

pub decided_guesses : (k : Shape) (stage : ℕ) (slots : Slots) → guesses (decided k stage slots) ≡ guesses slots
decided_guesses k stage [] = refl
decided_guesses k stage (None ∷ older) = ap (λ l. 0 ∷ l) (decided_guesses k (suc stage) older)
decided_guesses k stage (Some t ∷ older) = ap (λ l. t.guess ∷ l) (decided_guesses k (suc stage) older)

pub loading_guesses : (x : ExtensionTree) (k : Shape) (memory : List ℕ) (stage : ℕ) (slots : Slots) → guesses (loading x k memory stage slots) ≡ guesses slots
loading_guesses x k memory stage [] = refl
loading_guesses x k memory stage (None ∷ older) = ap (λ l. 0 ∷ l) (loading_guesses x k memory (suc stage) older)
loading_guesses x k memory stage (Some t ∷ older) = by_case (is_loading k stage t) ∙ ap (λ l. t.guess ∷ l) (loading_guesses x k memory (suc stage) older) where
  by_case : (b : Bool) → guesses ((if b then Some (tried_with x memory t.inputs t) else Some t) ∷ loading x k memory (suc stage) older) ≡ t.guess ∷ guesses (loading x k memory (suc stage) older)
  by_case true = refl
  by_case false = refl

-- past the first slots
pub guesses_drop : (n : ℕ) (a b : Slots) → guesses a ≡ guesses b → guesses (drop n a) ≡ guesses (drop n b)
guesses_drop zero a b e = e
guesses_drop (suc n) [] [] e = refl
guesses_drop (suc n) [] (u ∷ b) e = cc
guesses_drop (suc n) (s ∷ a) [] e = cc
guesses_drop (suc n) (s ∷ a) (u ∷ b) e = guesses_drop n a b (same_rest (guess_in s) (guess_in u) (guesses a) (guesses b) e)
