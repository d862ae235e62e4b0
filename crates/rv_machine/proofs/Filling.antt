-- Stage 0 takes what is fetched.
use Rattle.std.proofs.Common.{◌≡◌, ℕ, suc, ◌+◌, ◌-◌, ◌%◌, ◌^◌, ◌<◌, ◌≤◌, List, [], ◌∷◌, Option, Some, None, Bool, true, false, refl, arith}
use Rattle.std.specs.Prelude.{◌||◌, if◌then◌else◌, is_some, nat_lt}
use Rattle.std.proofs.lemmas.Bool.Decides.{nat_tests}
use Rattle.ix_bits.specs.declared.number.Bits.{Bits}
use Rattle.rv_seq.specs.WordEffects.{AreWide}
use Rattle.rv_seq.specs.declared.arch.TrapState.{TrapState}
use Rattle.rv_seq.specs.Interrupts.{return_to}
use Rattle.rv_seq.specs.Steps.{word_at}
use Rattle.rv_trace.specs.declared.row.Row.{Row}
use Rattle.rv_trace.specs.RowParts.{name_of, leaves, front}
use Rattle.rv_holds.specs.declared.token.Token.{Token}
use Rattle.rv_holds.specs.Tokens.{Slots, cell_of, cells_of}
use Rattle.rv_holds.specs.Holds.{is_late}
use Rattle.rv_holds.specs.Flushing.{fetch_after}
use Rattle.rv_engine.specs.Settings.{Setting, shape_of, tree_of}
use Rattle.rv_engine.specs.Rows.{new_token, fetched, fill_first, with_guess, guess_first, first_slot, next_after, going}
use Rattle.rv_lawful.specs.LawfulTrace.{guess_after, guessed}
use Rattle.rv_machine.specs.Owing.{judged}
use Rattle.rv_machine.specs.Placed.{count, tail, settling_stage, expected_after, expected, run, IsReady, IsPlaced, Placed}
use Rattle.rv_machine.proofs.Moving.{KeepsAll}
use Rattle.rv_machine.proofs.Reading.{same_trial}

-- the fetched token is placed in stage 0
pub new_placed : (k : Setting) (ready : IsReady k) (p address serial at word : ℕ) (future : List Bits) (trap : Option TrapState) (older : Slots) → return_to word trap ≡ return_to word (run k p).trap → at ≡ address → at < 2 ^ 32 → word_at k.image at ≡ Some word → AreWide (tree_of k) future → IsPlaced k p address 0 older (new_token k.design future trap serial at word)
new_placed k ready p address serial at word future trap older b a lt w wide =
    record {
      at = a;
      word = w;
      decoded = refl;
      asks = refl;
      input_word = refl;
      input_pc = refl;
      words = record { word = ready.image at word w; rs1 = omega arith; rs2 = omega arith; pc = lt };
      wide = wide;
      guess = omega arith;
      back = b;
      first = λ past. absurd (omega (arith, past));
      second = λ past. absurd (omega (arith, past));
      untried = λ before. refl;
      tried = λ trial e. cc;
      settled = λ trial e. cc;
      clear = λ trial e. cc;
      seen = λ trial e. cc;
      gone = λ past. absurd (omega (arith, past));
      exact = λ trial e. cc;
    }

pub fill_placed : (k : Setting) (ready : IsReady k) (r serial at : ℕ) (future : List Bits) (trap : Option TrapState) (slots : Slots) (o : Option ℕ) → ((n word : ℕ) → return_to word trap ≡ return_to word (run k (r + n)).trap) → Placed k r 0 slots → at ≡ expected k r 1 (tail slots) → at < 2 ^ 32 → word_at k.image at ≡ o → AreWide (tree_of k) future → Placed k r 0 (fill_first (fetched k.design future trap serial at o) slots)
fill_placed k ready r serial at future trap [] o b h a lt w wide = tt
fill_placed k ready r serial at future trap (Some t ∷ older) o b h a lt w wide = h
fill_placed k ready r serial at future trap (None ∷ older) None b h a lt w wide = h
fill_placed k ready r serial at future trap (None ∷ older) (Some word) b h a lt w wide = (new_placed k ready (r + count older) (expected k r 1 older) serial at word future trap older (b (count older) word) a lt w wide, h.1)

guess_one : (k : Setting) (ready : IsReady k) (p address : ℕ) (future : List Bits) (memory : List ℕ) (older : Slots) (t : Token) → IsPlaced k p address 0 older t → IsPlaced k p address 0 older (with_guess k.design future memory t)
guess_one k ready p address future memory older t i =
    record {
      at = i.at;
      word = i.word;
      decoded = i.decoded;
      asks = i.asks;
      input_word = i.input_word;
      input_pc = i.input_pc;
      words = i.words;
      wide = i.wide;
      guess = ready.guesses future memory t.cell.at t.cell.word;
      back = i.back;
      first = i.first;
      second = i.second;
      untried = i.untried;
      tried = λ trial q. same_trial k p t (with_guess k.design future memory t) trial refl refl (i.tried trial q);
      settled = i.settled;
      clear = i.clear;
      seen = i.seen;
      gone = i.gone;
      exact = i.exact;
    }

-- with the guess behind the first
pub guess_placed : (k : Setting) (ready : IsReady k) (r : ℕ) (future : List Bits) (memory : List ℕ) (slots : Slots) → Placed k r 0 slots → Placed k r 0 (guess_first k.design future memory slots)
guess_placed k ready r future memory [] h = tt
guess_placed k ready r future memory (None ∷ older) h = h
guess_placed k ready r future memory (Some t ∷ older) h = (guess_one k ready (r + count older) (expected k r 1 older) future memory older t h.0, h.1)

-- a row fetches one word at most
pub next_within : (next rows : ℕ) (slots : Slots) (new : Option Token) → next ≤ rows → next_after next slots new ≤ suc rows
next_within next rows [] new le = omega (arith, le)
next_within next rows (Some t ∷ older) new le = omega (arith, le)
next_within next rows (None ∷ older) None le = omega (arith, le)
next_within next rows (None ∷ older) (Some t) le = omega (arith, le)

-- the cell of stage 0 is that of the first slot
pub front_cells : (slots : Slots) → front (cells_of slots) ≡ cell_of (first_slot slots)
front_cells [] = refl
front_cells (s ∷ older) = refl

-- the first of these has the guess that the rows tell
abbrev pub FirstGuess : Setting → List Row → Slots → Type 0
FirstGuess k earlier [] = Unit {0}
FirstGuess k earlier (None ∷ older) = Unit {0}
FirstGuess k earlier (Some t ∷ older) = t.guess ≡ guess_after (judged k) earlier (t.cell.serial, t.cell.at, t.cell.word)

-- the fetch address is the one that the rows tell
pub fetch_told : (k : Setting) (earlier : List Row) (row : Row) (fetch : ℕ) (seen : Slots) → KeepsAll row seen → FirstGuess k earlier seen → fetch_after fetch seen ≡ guessed (judged k) earlier fetch (leaves row (front (cells_of seen)))
fetch_told k earlier row fetch [] u g = refl
fetch_told k earlier row fetch (None ∷ older) u g = refl
fetch_told k earlier row fetch (Some t ∷ older) u g = rw u.0 (by_case (is_some t.cell.hold)) where
  by_case : (b : Bool) → (if b then fetch else t.guess) ≡ guessed (judged k) earlier fetch (if b || false then None else name_of (Some t.cell))
  by_case true = refl
  by_case false = g

-- at stage 1 no successor is settled
unknown : (ex last : ℕ) (late : Bool) → 0 < ex → 0 < last → nat_lt (if late then last else ex) 1 ≡ false
unknown ex last true p q = grind (arith, nat_tests)
unknown ex last false p q = grind (arith, nat_tests)

-- the fetch address is a guess behind the token that leaves stage 0, and stays else
pub fetch_front : (k : Setting) (ready : IsReady k) (p fetch : ℕ) (s : Option Token) (older : Slots) → fetch_after fetch (s ∷ older) ≡ expected_after k p 1 (going s) fetch
fetch_front k ready p fetch None older = refl
fetch_front k ready p fetch (Some t) older = by_case (is_some t.cell.hold) where
  before : nat_lt (settling_stage k t) 1 ≡ false
  before =
      let a = ready.rd_pos in
      let b = ready.rd_ex in
      let c = ready.ex_last in
      unknown (shape_of k).ex ((shape_of k).stages - 1) (is_late t) (omega (arith, a, b)) (omega (arith, c))

  by_case : (b : Bool) → (if b then fetch else t.guess) ≡ expected_after k p 1 (if b then None else Some t) fetch
  by_case true = refl
  by_case false = rw before
