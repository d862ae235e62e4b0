-- What rows on the core of three stages owe, stage by stage.
use Rattle.std.proofs.Common.{◌≡◌, ℕ, zero, suc, ◌+◌, ◌<◌, ◌≤◌, List, [], ◌∷◌, Option, Some, None, Bool, true, false, refl, sym, ap, ◌∙◌, subst, arith, ◌⊎◌, inl, inr}
use Rattle.std.specs.Prelude.{◌&&◌, ◌||◌, not, ◌==◌, is_some, take, slice_get, get_or, replicate}
use Rattle.rv_asks.specs.declared.asks.Asks.{Asks}
use Rattle.rv_seq.specs.declared.commit.Commit.{Commit}
use Rattle.rv_seq.specs.declared.commit.Stop.{Stop}
use Rattle.rv_trace.specs.declared.row.Cell.{Cell}
use Rattle.rv_trace.specs.declared.row.Hold.{Hold}
use Rattle.rv_trace.specs.declared.row.Hold.TheVariants.{Operand, Board, Custom, Late, Trap, Drain, Wait, StoreAhead, Tail, UnitFull, Port, Behind}
use Rattle.rv_trace.specs.declared.row.Row.{Row}
use Rattle.rv_trace.specs.Trace.{has_serial, is_flushed, retires, is_retired, place}
use Rattle.rv_trace.specs.RowParts.{name_of, leaves, ComesFirst}
use Rattle.rv_waits.specs.Waits.{wait_at}
use Rattle.rv_lawful.specs.Settings.{Setting, Stands, accesses_before, tailed}
use Rattle.ix_plan.specs.declared.design.Target.{Target}
use Rattle.ix_plan.specs.declared.design.Target.TheVariants.{X, Custom as custom_target}
use Rattle.ix_plan.specs.Units.{unit_written, next_units}
use Rattle.rv_lawful.specs.Outstanding.{is_register, has_target, serial_written, entering, units_after}
use Rattle.rv_lawful.specs.Sight.{SpawnsNothing}
use Rattle.rv_lawful.specs.LawfulTrace.{IsWordOf, WaitsForOperand, WaitsForCustom, WaitsForJump, WaitsForWrite, IsUnwritten, WaitsToDrain, WaitsForMemory, WaitsForModule, WaitsForUnit, WaitsForPort, OwnHold, StopsRun, WaitsBehind, TrueHold, ShowsHold, IsSettlingStage, Settles, successor, IsMismatch, Successors, IsEmptyAfter, StopsRightly, Retires, WritesUnit, serial_in, reads_of, Lawful}
use Rattle.rv_lawful.specs.Entering.{TakesRightly}
use Rattle.row_laws.specs.Hands.{Hand, by_hand, no_customs, none_flushed}

pub true_not_false : true ≡ false → ⊥
true_not_false e = grind (arith, e)

-- no register is read where both operands are none
pub no_register : (a : Asks) (r : ℕ) → a.first ≡ 0 → a.second ≡ 0 → reads_of a r ≡ false
no_register a r f s = ap (λ n. not (r == 0) && ((r == n) || (r == a.second))) f ∙ ap (λ n. not (r == 0) && ((r == 0) || (r == n))) s ∙ by_test (r == 0) where
  by_test : (b : Bool) → (not b && (b || b)) ≡ false
  by_test true = refl
  by_test false = refl

-- no custom register is used where none is
pub no_custom : (r : ℕ) → get_or no_customs r false ≡ false
no_custom r = none 16 r where
  none : (n r : ℕ) → get_or (replicate n false) r false ≡ false
  none zero r = refl
  none (suc n) zero = refl
  none (suc n) (suc r) = none n r

-- of two cells in one stage the one is the other
pub inside : (x d : Cell) → ◌≡◌ {A = Option (Option Cell)} (Some (Some x)) (Some (Some d)) → x ≡ d
inside x d e = cc

-- what holds of the cell that is written out holds of the cell of its stage
pub same_cell : (P : Cell → Type 0) (x d : Cell) → ◌≡◌ {A = Option (Option Cell)} (Some (Some x)) (Some (Some d)) → P x → P d
same_cell P x d e p = subst P (inside x d e) p

-- The words of earlier cells

-- each cell of so many stages of the row has the word of its serial in this list
abbrev pub NamedIn : ℕ → List ℕ → Row → Type 0
NamedIn stages words row = (stage : ℕ) (c : Cell) → slice_get (take stages row.cells) stage ≡ Some (Some c) → c.word ≡ get_or words c.serial 0

abbrev pub AllNamedIn : ℕ → List ℕ → List Row → Type 0
AllNamedIn stages words [] = Unit {0}
AllNamedIn stages words (row ∷ rows) = NamedIn stages words row × AllNamedIn stages words rows

-- each cell of the core's stages
abbrev pub NamedBy : Setting → List ℕ → Row → Type 0
NamedBy k words row = NamedIn k.shape.stages words row

abbrev pub AllNamedBy : Setting → List ℕ → List Row → Type 0
AllNamedBy k words rows = AllNamedIn k.shape.stages words rows

-- that of the image, where the run goes straight on
abbrev pub Named : Hand → Row → Type 0
Named h row = NamedBy (by_hand h) h.image row

abbrev pub AllNamed : Hand → List Row → Type 0
AllNamed h rows = AllNamedBy (by_hand h) h.image rows

abbrev pub HasWord : Hand → Option Cell → Type 0
HasWord h None = Unit {0}
HasWord h (Some c) = c.word ≡ get_or h.image c.serial 0

pub named : (h : Hand) (row : Row) (a b c : Option Cell) (rest : List (Option Cell)) → row.cells ≡ a ∷ b ∷ c ∷ rest → HasWord h a → HasWord h b → HasWord h c → Named h row
named h row a b c rest e x y z stage d s = of_stage stage (subst (λ l. slice_get (take 3 l) stage ≡ Some (Some d)) e s) where
  has : (o : Option Cell) → HasWord h o → ◌≡◌ {A = Option (Option Cell)} (Some o) (Some (Some d)) → d.word ≡ get_or h.image d.serial 0
  has None w q = cc
  has (Some o) w q = same_cell (λ e. e.word ≡ get_or h.image e.serial 0) o d q w

  of_stage : (stage : ℕ) → slice_get (take 3 (a ∷ b ∷ c ∷ rest)) stage ≡ Some (Some d) → d.word ≡ get_or h.image d.serial 0
  of_stage zero q = has a x q
  of_stage (suc zero) q = has b y q
  of_stage (suc (suc zero)) q = has c z q
  of_stage (suc (suc (suc n))) q = cc

-- then the word of an earlier cell is that of its serial
pub word_by : (k : Setting) (words : List ℕ) (rows : List Row) → AllNamedBy k words rows → (s word : ℕ) → IsWordOf k rows s word → word ≡ get_or words s 0
word_by k words [] all s word w = absurd w
word_by k words (row ∷ rows) all s word w = elim w [
  | inl here ↦ sym here.4 ∙ all.0 here.0 here.1 here.2 ∙ ap (λ n. get_or words n 0) here.3
  | inr before ↦ word_by k words rows all.1 s word before
]

pub word_is : (h : Hand) (rows : List Row) → AllNamed h rows → (s word : ℕ) → IsWordOf (by_hand h) rows s word → word ≡ get_or h.image s 0
word_is h rows all s word w = word_by (by_hand h) h.image rows all s word w

-- Hands that spawn nothing

-- no instruction spawns
abbrev pub SpawnsNothingAt : Setting → Type 0
SpawnsNothingAt k = (word : ℕ) → SpawnsNothing (k.asks word)

-- none of the hand
abbrev pub SpawnsNone : Hand → Type 0
SpawnsNone h = SpawnsNothingAt (by_hand h)

no_target : (a : Asks) → SpawnsNothing a → (t : Target) → has_target a t ≡ true → ⊥
no_target a s (X r) e = true_not_false (sym e ∙ ap (λ o. is_register o r) s.x)
no_target a s (custom_target c) e = true_not_false (sym e ∙ s.customs c)

pub never_boards : (k : Setting) → SpawnsNothingAt k → (earlier : List Row) (row : Row) (stage : ℕ) (c : Cell) (t : Target) (j : ℕ) → WaitsForWrite k earlier row stage c t j → ⊥
never_boards k none earlier row stage c t j w = no_target (k.asks w.spawns.0) (none w.spawns.0) t w.spawns.2

pub never_full : (k : Setting) → SpawnsNothingAt k → (earlier : List Row) (row : Row) (stage : ℕ) (c : Cell) (u : ℕ) → WaitsForUnit k earlier row stage c u → ⊥
never_full k none earlier row stage c u w = no_unit (sym (none c.word).unit ∙ w.enters) where
  no_unit : ◌≡◌ {A = Option ℕ} None (Some u) → ⊥
  no_unit e = cc

pub never_taken : (k : Setting) → SpawnsNothingAt k → (earlier : List Row) (row : Row) (stage : ℕ) (c : Cell) (j : ℕ) → WaitsForPort k earlier row stage c j → ⊥
never_taken k none earlier row stage c j w = true_not_false (sym w.spawns.2 ∙ ap (λ o. is_some o) (none w.spawns.0).x)

-- each older cell that drains is retired
pub left_unretired : (k : Setting) → SpawnsNothingAt k → (rows : List Row) (j : ℕ) → (is_retired rows j ≡ false) ⊎ IsUnwritten k rows j → is_retired rows j ≡ false
left_unretired k none rows j left = elim left [
  | inl x ↦ x
  | inr u ↦ absurd (true_not_false (sym u.decoupled.2 ∙ ap (λ o. is_some o) (none u.decoupled.0).unit))
]

-- Holds that are not true

-- no hold on a register or on the pc is true of the cell, and it need not drain
pub record Free (h : Hand) (earlier : List Row) (row : Row) (stage : ℕ) (c : Cell) : Type 0 where
  pub operand : (r j : ℕ) → WaitsForOperand (by_hand h) earlier row stage c r j → ⊥
  pub custom : (r j : ℕ) → WaitsForCustom (by_hand h) earlier row stage c r j → ⊥
  pub late : (j : ℕ) → WaitsForJump (by_hand h) earlier row stage c j → ⊥
  pub drain : (j : ℕ) → WaitsToDrain (by_hand h) earlier row stage c j → ⊥

-- outside EX, which is RD here, it is so
pub free_outside : (h : Hand) (earlier : List Row) (row : Row) (stage : ℕ) (c : Cell) → (stage ≡ 1 → ⊥) → Free h earlier row stage c
free_outside h earlier row stage c other = record {
  operand = λ r j w. other w.reading;
  custom = λ r j w. other w.executing;
  late = λ j w. other w.executing;
  drain = λ j w. other w.executing;
}

-- and where all older cells that are not flushed have retired in earlier rows
pub free_behind : (h : Hand) → SpawnsNone h → (earlier : List Row) (row : Row) (stage : ℕ) (c : Cell) → ((j : ℕ) → j < c.serial → is_flushed (row ∷ earlier) j ≡ false → is_retired earlier j ≡ true) → Free h earlier row stage c
unfolding is_retired
free_behind h none earlier row stage c done = record {
  operand = λ r j w. true_not_false (sym (done j w.older.lower w.older.unflushed) ∙ w.unretired);
  custom = λ r j w. true_not_false (sym (done j w.older.lower w.older.unflushed) ∙ w.unretired);
  late = λ j w. true_not_false (sym (done j w.older.lower w.older.unflushed) ∙ w.unretired);
  drain = λ j w. true_not_false (sym (still j (done j w.older.lower w.older.unflushed)) ∙ left_unretired (by_hand h) none (row ∷ earlier) j w.left);
} where
  or_true : (a b : Bool) → b ≡ true → (a || b) ≡ true
  or_true true b e = refl
  or_true false b e = e

  still : (j : ℕ) → is_retired earlier j ≡ true → is_retired (row ∷ earlier) j ≡ true
  still j e = or_true (retires row.retired j) (is_retired earlier j) e

-- no module goes on for the cell
abbrev pub IsDone : Hand → List Row → Row → ℕ → Cell → Type 0
IsDone h earlier row stage c = (left : ℕ) → WaitsForModule (by_hand h) earlier row stage c left → ⊥

pub done_below : (h : Hand) (earlier : List Row) (row : Row) (stage : ℕ) (c : Cell) → stage < 2 → IsDone h earlier row stage c
done_below h earlier row stage c lt left w = let e = w.last in absurd (omega (arith, lt, e))

pub done_after : (h : Hand) (earlier : List Row) (row : Row) (stage : ℕ) (c : Cell) → (h.asks c.word).tail ≤ tailed (by_hand h) earlier c.serial → IsDone h earlier row stage c
done_after h earlier row stage c le left w = let e = w.still in let some = w.some in absurd (omega (arith, le, e, some))

-- the memory never waits
pub never_waits : (n : ℕ) → wait_at [] n ≡ 0
never_waits zero = refl
never_waits (suc n) = refl

pub no_wait : (h : Hand) (earlier : List Row) (row : Row) (stage : ℕ) (c : Cell) (left : ℕ) → WaitsForMemory (by_hand h) earlier row stage c left → ⊥
no_wait h earlier row stage c left w =
    let still = w.still in let some = w.some in let none = never_waits (accesses_before h.course (place (row ∷ earlier) c.serial)) in absurd (omega (arith, still, some, none))

-- no hold of the cell's own is true
pub no_own : (h : Hand) → SpawnsNone h → (earlier : List Row) (row : Row) (stage : ℕ) (c : Cell) → Free h earlier row stage c → (h.asks c.word).loads ≡ false → IsDone h earlier row stage c → (g : Hold) → OwnHold (by_hand h) earlier row stage c g → ⊥
no_own h none earlier row stage c free loads done (Operand r j) o = free.operand r j o
no_own h none earlier row stage c free loads done (Board t j) o = never_boards (by_hand h) none earlier row stage c t j o
no_own h none earlier row stage c free loads done (Custom r j) o = free.custom r j o
no_own h none earlier row stage c free loads done (Late j) o = free.late j o
no_own h none earlier row stage c free loads done Trap o = true_not_false (sym o.interrupted)
no_own h none earlier row stage c free loads done (Drain j) o = free.drain j o
no_own h none earlier row stage c free loads done (Wait left) o = no_wait h earlier row stage c left o
no_own h none earlier row stage c free loads done (StoreAhead j) o = true_not_false (sym o.loads ∙ loads)
no_own h none earlier row stage c free loads done (Tail left) o = done left o
no_own h none earlier row stage c free loads done (UnitFull u) o = never_full (by_hand h) none earlier row stage c u o
no_own h none earlier row stage c free loads done (Port j) o = never_taken (by_hand h) none earlier row stage c j o
no_own h none earlier row stage c free loads done Behind o = o

-- the next stage has a cell that is not held and does not stop the run
pub goes_before : (k : Setting) (earlier : List Row) (row : Row) (stage : ℕ) (x : Cell) → Stands k row (suc stage) x → x.hold ≡ None → ((stop : Stop) → StopsRun k earlier row (suc stage) x stop → ⊥) → WaitsBehind k earlier row stage → ⊥
goes_before k earlier row stage x stands free runs w = next w.0 (inside x w.0 (sym stands ∙ w.1)) w.2 where
  next : (d : Cell) → x ≡ d → (is_some d.hold ≡ true) ⊎ ((stop : Stop) × StopsRun k earlier row (suc stage) d stop) → ⊥
  next d e o = elim o [
    | inl held ↦ true_not_false (sym held ∙ ap (λ (y : Cell). is_some y.hold) (sym e) ∙ ap (λ o. is_some o) free)
    | inr s ↦ runs s.0 (subst (λ y. StopsRun k earlier row (suc stage) y s.0) (sym e) s.1)
  ]

-- Holds that are shown

-- a cell without a hold
pub shows_none : (k : Setting) (earlier : List Row) (row : Row) (stage : ℕ) (c : Cell) → c.hold ≡ None
    → (has_serial row.flushed c.serial ≡ false → ((stop : Stop) → StopsRun k earlier row stage c stop → ⊥) → (g : Hold) → TrueHold k earlier row stage c g → ⊥)
    → ShowsHold k earlier row stage c
shows_none k earlier row stage c none free = record {
  flushed = λ _. none;
  stopping = λ stop s. none;
  shown = λ g e. cc (none, e);
  shown_first = λ g f e t. cc (none, e);
  free = λ e alive runs g t. free alive runs g t;
}

-- a cell with a hold, which no stop comes before
pub shows_hold : (k : Setting) (earlier : List Row) (row : Row) (stage : ℕ) (c : Cell) (g : Hold) → c.hold ≡ Some g → has_serial row.flushed c.serial ≡ false
    → ((stop : Stop) → StopsRun k earlier row stage c stop → ⊥) → TrueHold k earlier row stage c g
    → ((f : Hold) → TrueHold k earlier row stage c f → ComesFirst g f) → ShowsHold k earlier row stage c
shows_hold k earlier row stage c g e alive runs is_true first = record {
  flushed = λ f. absurd (true_not_false (sym f ∙ alive));
  stopping = λ stop s. absurd (runs stop s);
  shown = λ f q. subst (λ x. TrueHold k earlier row stage c x) (same f q) is_true;
  shown_first = λ f x q t. subst (λ y. ComesFirst y x) (same f q) (first x t);
  free = λ q. cc (e, q);
} where
  the : (f : Hold) → ◌≡◌ {A = Option Hold} (Some g) (Some f) → g ≡ f
  the f q = cc

  same : (f : Hold) → c.hold ≡ Some f → g ≡ f
  same f q = the f (sym e ∙ q)

-- a cell below the last stage that is held by the next one alone
pub shows_behind : (k : Setting) (earlier : List Row) (row : Row) (stage : ℕ) (c : Cell) → c.hold ≡ Some Behind → has_serial row.flushed c.serial ≡ false → (stage ≡ k.shape.ex → ⊥) → WaitsBehind k earlier row stage
    → ((g : Hold) → OwnHold k earlier row stage c g → ⊥) → ShowsHold k earlier row stage c
shows_behind k earlier row stage c e alive other behind none =
    shows_hold k earlier row stage c Behind e alive (λ stop s. other s.executing) (inr (refl, behind))
    (λ f t. elim t [ inl o ↦ absurd (none f o) | inr b ↦ subst (λ x. ComesFirst Behind x) (sym b.0) (inr (refl, inr (refl, omega arith))) ])

-- a cell that is held by a hold of its own
pub shows_own : (k : Setting) (earlier : List Row) (row : Row) (stage : ℕ) (c : Cell) (g : Hold) → c.hold ≡ Some g → has_serial row.flushed c.serial ≡ false → OwnHold k earlier row stage c g
    → ((f : Hold) → OwnHold k earlier row stage c f → ComesFirst g f) → ComesFirst g Behind → ShowsHold k earlier row stage c
shows_own k earlier row stage c g e alive own first last =
    shows_hold k earlier row stage c g e alive (λ stop s. s.free g own) (inl own)
    (λ f t. elim t [ inl o ↦ first f o | inr b ↦ subst (λ x. ComesFirst g x) (sym b.0) last ])

-- no cell shows no hold where one of its own is true
pub idle : (k : Setting) (earlier : List Row) (row : Row) (stage : ℕ) (c : Cell) (g : Hold) → Lawful (λ places. k) (row ∷ earlier) → Stands k row stage c → c.hold ≡ None → has_serial row.flushed c.serial ≡ false → OwnHold k earlier row stage c g → ⊥
idle k earlier row stage c g h stands e alive own = (h.0.holds stage c stands).free e alive (λ stop s. s.free g own) g (inl own)

-- Custom with the least number comes first where no operand is missing
pub custom_first : (h : Hand) → SpawnsNone h → (earlier : List Row) (row : Row) (stage : ℕ) (c : Cell) → ((r j : ℕ) → WaitsForOperand (by_hand h) earlier row stage c r j → ⊥) → (f : Hold) → OwnHold (by_hand h) earlier row stage c f → ComesFirst (Custom 0 0) f
custom_first h none earlier row stage c free (Operand r j) o = absurd (free r j o)
custom_first h none earlier row stage c free (Board t j) o = absurd (never_boards (by_hand h) none earlier row stage c t j o)
custom_first h none earlier row stage c free (Custom zero j) o = inr (refl, inr (refl, omega arith))
custom_first h none earlier row stage c free (Custom (suc r) j) o = inr (refl, inl (omega arith))
custom_first h none earlier row stage c free (Late j) o = inl (omega arith)
custom_first h none earlier row stage c free Trap o = absurd (true_not_false (sym o.interrupted))
custom_first h none earlier row stage c free (Drain j) o = inl (omega arith)
custom_first h none earlier row stage c free (Wait left) o = inl (omega arith)
custom_first h none earlier row stage c free (StoreAhead j) o = inl (omega arith)
custom_first h none earlier row stage c free (Tail left) o = inl (omega arith)
custom_first h none earlier row stage c free (UnitFull u) o = absurd (never_full (by_hand h) none earlier row stage c u o)
custom_first h none earlier row stage c free (Port j) o = absurd (never_taken (by_hand h) none earlier row stage c j o)
custom_first h none earlier row stage c free Behind o = absurd o

-- Late with the least serial comes first where no register is missing
pub late_first : (h : Hand) → SpawnsNone h → (earlier : List Row) (row : Row) (stage : ℕ) (c : Cell) → ((r j : ℕ) → WaitsForOperand (by_hand h) earlier row stage c r j → ⊥) → ((r j : ℕ) → WaitsForCustom (by_hand h) earlier row stage c r j → ⊥)
    → (f : Hold) → OwnHold (by_hand h) earlier row stage c f → ComesFirst (Late 0) f
late_first h none earlier row stage c still free (Operand r j) o = absurd (still r j o)
late_first h none earlier row stage c still free (Board t j) o = absurd (never_boards (by_hand h) none earlier row stage c t j o)
late_first h none earlier row stage c still free (Custom r j) o = absurd (free r j o)
late_first h none earlier row stage c still free (Late j) o = inr (refl, inr (refl, omega arith))
late_first h none earlier row stage c still free Trap o = absurd (true_not_false (sym o.interrupted))
late_first h none earlier row stage c still free (Drain j) o = inl (omega arith)
late_first h none earlier row stage c still free (Wait left) o = inl (omega arith)
late_first h none earlier row stage c still free (StoreAhead j) o = inl (omega arith)
late_first h none earlier row stage c still free (Tail left) o = inl (omega arith)
late_first h none earlier row stage c still free (UnitFull u) o = absurd (never_full (by_hand h) none earlier row stage c u o)
late_first h none earlier row stage c still free (Port j) o = absurd (never_taken (by_hand h) none earlier row stage c j o)
late_first h none earlier row stage c still free Behind o = absurd o

-- Operand comes first where it does among the operands
pub operand_first : (h : Hand) → SpawnsNone h → (earlier : List Row) (row : Row) (stage : ℕ) (c : Cell) (r j : ℕ) → ((s i : ℕ) → WaitsForOperand (by_hand h) earlier row stage c s i → ComesFirst (Operand r j) (Operand s i))
    → (f : Hold) → OwnHold (by_hand h) earlier row stage c f → ComesFirst (Operand r j) f
operand_first h none earlier row stage c r j first (Operand s i) o = first s i o
operand_first h none earlier row stage c r j first (Board t i) o = absurd (never_boards (by_hand h) none earlier row stage c t i o)
operand_first h none earlier row stage c r j first (Custom s i) o = inl (omega arith)
operand_first h none earlier row stage c r j first (Late i) o = inl (omega arith)
operand_first h none earlier row stage c r j first Trap o = absurd (true_not_false (sym o.interrupted))
operand_first h none earlier row stage c r j first (Drain i) o = inl (omega arith)
operand_first h none earlier row stage c r j first (Wait left) o = inl (omega arith)
operand_first h none earlier row stage c r j first (StoreAhead i) o = inl (omega arith)
operand_first h none earlier row stage c r j first (Tail left) o = inl (omega arith)
operand_first h none earlier row stage c r j first (UnitFull u) o = absurd (never_full (by_hand h) none earlier row stage c u o)
operand_first h none earlier row stage c r j first (Port i) o = absurd (never_taken (by_hand h) none earlier row stage c i o)
operand_first h none earlier row stage c r j first Behind o = absurd o

-- a cell of the last stage that is held by Tail
pub shows_tail : (h : Hand) → SpawnsNone h → (earlier : List Row) (row : Row) (c : Cell) (left : ℕ) → c.hold ≡ Some (Tail left) → has_serial row.flushed c.serial ≡ false → (h.asks c.word).loads ≡ false
    → left + tailed (by_hand h) earlier c.serial ≡ (h.asks c.word).tail → 0 < left → ShowsHold (by_hand h) earlier row 2 c
shows_tail h none earlier row c left e alive loads still some =
    shows_own (by_hand h) earlier row 2 c (Tail left) e alive (record { last = refl; still = still; some = some }) first (inl (omega arith)) where
      outside : Free h earlier row 2 c
      outside = free_outside h earlier row 2 c (λ q. absurd (omega (arith, q)))

      first : (f : Hold) → OwnHold (by_hand h) earlier row 2 c f → ComesFirst (Tail left) f
      first (Operand r j) o = absurd (outside.operand r j o)
      first (Board t j) o = absurd (never_boards (by_hand h) none earlier row 2 c t j o)
      first (Custom r j) o = absurd (outside.custom r j o)
      first (Late j) o = absurd (outside.late j o)
      first Trap o = absurd (true_not_false (sym o.interrupted))
      first (Drain j) o = absurd (outside.drain j o)
      first (Wait n) o = absurd (no_wait h earlier row 2 c n o)
      first (StoreAhead j) o = absurd (true_not_false (sym o.loads ∙ loads))
      first (Tail n) o = inr (refl, inr (refl, omega arith))
      first (UnitFull u) o = absurd (never_full (by_hand h) none earlier row 2 c u o)
      first (Port j) o = absurd (never_taken (by_hand h) none earlier row 2 c j o)
      first Behind o = absurd o

-- a cell of the last stage that goes
pub shows_last : (h : Hand) → SpawnsNone h → (earlier : List Row) (row : Row) (c : Cell) → c.hold ≡ None → (h.asks c.word).loads ≡ false → (h.asks c.word).tail ≤ tailed (by_hand h) earlier c.serial → ShowsHold (by_hand h) earlier row 2 c
shows_last h none earlier row c e loads le =
    shows_none (by_hand h) earlier row 2 c e (λ alive runs g t. elim t [
      | inl o ↦ no_own h none earlier row 2 c (free_outside h earlier row 2 c (λ q. absurd (omega (arith, q)))) loads (done_after h earlier row 2 c le) g o
      | inr b ↦ none_behind b.1.0 b.1.1
    ]) where
      none_at : (l : List (Option Cell)) (d : Cell) → slice_get (take 3 l) 3 ≡ Some (Some d) → ⊥
      none_at [] d q = cc
      none_at (x ∷ []) d q = cc
      none_at (x ∷ y ∷ []) d q = cc
      none_at (x ∷ y ∷ z ∷ l) d q = cc

      none_behind : (d : Cell) → Stands (by_hand h) row 3 d → ⊥
      none_behind d q = none_at row.cells d q

-- where nothing stands in units at first, nothing is written
no_unit_at : (h : Hand) (rows : List Row) → h.units ≡ [] → units_after (by_hand h) rows ≡ []
unfolding units_after
no_unit_at h [] e = e
no_unit_at h (row ∷ rows) e = ap (next_units (entering (by_hand h) row.retired)) (no_unit_at h rows e)

pub none_written : (h : Hand) (rows : List Row) (row : Row) → h.units ≡ [] → row.written ≡ None → WritesUnit (by_hand h) rows row
none_written h rows row e w = ap serial_written w ∙ sym (ap (λ u. serial_in (unit_written u)) (no_unit_at h rows e))

-- Interrupts

-- without an interrupt line none is taken
pub untaken : (h : Hand) (earlier : List Row) (row : Row) → row.taken ≡ None → TakesRightly (by_hand h) earlier row
untaken h earlier row e = record {
  taken = λ at q. cc (e, q);
  due = λ interrupted clear. absurd (true_not_false (sym interrupted));
}

-- Successors and stops

-- a cell that writes the pc in time settles at EX
pub settles_at_ex : (h : Hand) (earlier : List Row) (row : Row) (stage : ℕ) (c : Cell) → (h.asks c.word).late ≡ false → Settles (by_hand h) earlier row stage c → stage ≡ 1
settles_at_ex h earlier row stage c e s = subst (λ b. IsSettlingStage (by_hand h) b stage) e s.settling

-- each cell that settles has its successor behind it, in stage 0
pub no_turn : (h : Hand) (earlier : List Row) (row : Row) → row.flushed ≡ none_flushed → row.redirect ≡ None
    → ((stage : ℕ) (c : Cell) → Stands (by_hand h) row stage c → Settles (by_hand h) earlier row stage c → (stage ≡ 1) × ((d : Cell) × Stands (by_hand h) row 0 d × (d.at ≡ successor (by_hand h) (row ∷ earlier) c)))
    → Successors (by_hand h) earlier row
no_turn h earlier row f r right = record {
  flushes = λ stage c x below d lt stands. absurd (no_mismatch stage c x);
  named = λ quiet stage c x. absurd (no_mismatch stage c x);
  alone = λ quiet stage c stands settles younger. let one = right stage c stands settles in absurd (younger 0 one.1.0 (above stage one.0) one.1.1);
  flushed_only = λ s e. cc (ap (λ l. has_serial l s) f, e);
  named_only = λ a quiet e. cc (r, e);
} where
  above : (stage : ℕ) → stage ≡ 1 → 0 < stage
  above stage e = omega (arith, e)

  lowest : (below stage : ℕ) → stage ≡ 1 → below < stage → below ≡ 0
  lowest below stage e lt = omega (arith, e, lt)

  no_mismatch : (stage : ℕ) (c : Cell) → IsMismatch (by_hand h) earlier row stage c → ⊥
  no_mismatch stage c x =
      let one = right stage c x.stands x.settles in
      let next = x.differs.2 in
      let low = lowest x.differs.0 stage one.0 next.lower in
      let here : Stands (by_hand h) row 0 x.differs.1 = subst (λ n. Stands (by_hand h) row n x.differs.1) low next.stands in
      x.differs.3 (ap (λ (y : Cell). y.at) (sym (inside one.1.0 x.differs.1 (sym one.1.1 ∙ here))) ∙ one.1.2)

-- no cell settles
pub none_settles : (h : Hand) (earlier : List Row) (row : Row) → row.flushed ≡ none_flushed → row.redirect ≡ None
    → ((stage : ℕ) (c : Cell) → Stands (by_hand h) row stage c → Settles (by_hand h) earlier row stage c → ⊥) → Successors (by_hand h) earlier row
none_settles h earlier row f r none = no_turn h earlier row f r (λ stage c stands s. absurd (none stage c stands s))

-- no cell stops the run, and one is left
pub no_stop : (h : Hand) (earlier : List Row) (row : Row) → row.stop ≡ None → ((c : Cell) (stop : Stop) → Stands (by_hand h) row 1 c → StopsRun (by_hand h) earlier row 1 c stop → ⊥) → (IsEmptyAfter (by_hand h) row → ⊥) → StopsRightly (by_hand h) earlier row
no_stop h earlier row e runs some = record {
  cause = λ stop s. cc (e, s);
  of_cell = λ stage c stop stands s. absurd (runs c stop (subst (λ n. Stands (by_hand h) row n c) s.executing stands) (subst (λ n. StopsRun (by_hand h) earlier row n c stop) s.executing s));
  of_fetch = λ f o w. absurd (some f);
}

-- a cell of stage 0 or 1 that is not flushed is left
pub some_left : (h : Hand) (row : Row) (stage : ℕ) (c : Cell) → stage < 2 → Stands (by_hand h) row stage c → has_serial row.flushed c.serial ≡ false → IsEmptyAfter (by_hand h) row → ⊥
some_left h row stage c lt stands alive f = elim (f stage c stands) [ inl x ↦ true_not_false (sym x ∙ alive) | inr x ↦ let e = x.0 in absurd (omega (arith, lt, e)) ]

-- Retirements

-- the last stage is empty, or its cell is held
pub none_retires : (h : Hand) (row : Row) → row.retired ≡ None → ((c : Cell) → Stands (by_hand h) row 2 c → leaves row (Some c) ≡ name_of (Some c) → ⊥) → (stage : ℕ) → suc stage ≡ 3 → Retires (by_hand h) row stage
none_retires h row e none stage q = record {
  leaver = λ s commit r. cc (e, r);
  retired = λ c stands l. absurd (none c (subst (λ n. Stands (by_hand h) row n c) (two stage q) stands) l);
} where
  two : (stage : ℕ) → suc stage ≡ 3 → stage ≡ 2
  two stage q = omega (arith, q)

-- the cell of the last stage retires
pub one_retires : (h : Hand) (row : Row) (x : Cell) (done : Commit) → row.retired ≡ Some (x.serial, done) → Stands (by_hand h) row 2 x → leaves row (Some x) ≡ name_of (Some x) → (stage : ℕ) → suc stage ≡ 3 → Retires (by_hand h) row stage
one_retires h row x done e here goes stage q = record {
  leaver = λ s commit r. (x, subst (λ n. Stands (by_hand h) row n x) (two stage q) here, goes, serial_of s commit (sym e ∙ r));
  retired = λ c stands l. (done, e ∙ ap (λ (y : Cell). retirement y) (inside x c (sym here ∙ subst (λ n. Stands (by_hand h) row n c) (sym (two stage q)) stands)));
} where
  retirement : Cell → Option (ℕ × Commit)
  retirement y = Some (y.serial, done)

  two : (stage : ℕ) → suc stage ≡ 3 → 2 ≡ stage
  two stage q = omega (arith, q)

  serial_of : (s : ℕ) (commit : Commit) → ◌≡◌ {A = Option (ℕ × Commit)} (Some (x.serial, done)) (Some (s, commit)) → x.serial ≡ s
  serial_of s commit q = let pair : ◌≡◌ {A = ℕ × Commit} (x.serial, done) (s, commit) = cc in ap (λ (p : ℕ × Commit). p.0) pair
