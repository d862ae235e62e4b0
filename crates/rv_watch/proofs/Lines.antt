-- What the line of a lawful row shows is in form.
use Rattle.std.proofs.Common.{◌≡◌, ℕ, zero, suc, ◌<◌, ◌≤◌, ◌^◌, ◌==◌, ◌⊎◌, inl, inr, ⊎_elim, List, [], ◌∷◌, length, map, refl, sym, ap, ◌∙◌, subst, arith, Option, Some, None, Bool, true, false}
use Rattle.std.specs.Prelude.{◌||◌, slice_get, is_some}
use Rattle.std.proofs.lemmas.Bool.{eq-eqb}
use Rattle.std.proofs.lemmas.List.{length-map}
use Rattle.ix_plan.specs.declared.design.Target.TheVariants.{X, Custom as custom_target}
use Rattle.rv_trace.specs.declared.row.Cell.{Cell}
use Rattle.rv_trace.specs.declared.row.Row.{Row}
use Rattle.rv_trace.specs.declared.row.Hold.{Hold}
use Rattle.rv_trace.specs.declared.row.Hold.TheVariants.{Operand, Board, Custom, Late, Trap, Drain, Wait, StoreAhead, Tail, UnitFull, Port, Behind}
use Rattle.rv_trace.specs.Trace.{has_serial, place}
use Rattle.rv_trace.specs.RowParts.{given, AscendFrom}
use Rattle.rv_trace.specs.TraceText.{retired_serial, written_serial}
use Rattle.rv_lawful.specs.Settings.{Setting, accesses_before, stages_of, Stands}
use Rattle.rv_lawful.specs.LawfulTrace.{OwnHold, TrueHold, IsFlushedByMismatch, IsFlushedByEntry, Lawful}
use Rattle.rv_shown.specs.Shown.{shown_hold, shown_cell, shown_of}
use Rattle.rv_reader.specs.Forms.{IsWord, IsX, IsRegister, IsHold, IsHeld, IsCell, AreCells, IsMark, Ascend, IsRowLine}
use Rattle.rv_watch.proofs.Asked.{read_few, touched_few}
use Rattle.rv_watch.proofs.Named as N
use Rattle.rv_watch.proofs.Named.{HasRanges}

-- ---- numbers
small_x : (r : ℕ) → r < 32 → IsX r
small_x r l = (omega (arith, l), l)

small_register : (count r : ℕ) → count ≤ 16 → r < count → IsRegister count r
small_register count r m l = (omega (arith, m, l), l)

pub word_of : (n j : ℕ) → n < 2 ^ 31 → j ≤ n → IsWord j
word_of n j h l = let e : 2 ^ 31 ≡ 2147483648 = refl in omega (arith, e, h, l)

pub address_of : (a : ℕ) → a < 2 ^ 32 → IsWord a
address_of a h = let e : 2 ^ 32 ≡ 4294967296 = refl in omega (arith, e, h)

-- ---- few serials
abbrev IsIn : List ℕ → ℕ → Type 0
IsIn [] s = ⊥
IsIn (t ∷ rest) s = (s ≡ t) ⊎ IsIn rest s

abbrev Rising : ℕ → List ℕ → Type 0
Rising low [] = Unit {0}
Rising low (s ∷ rest) = (low ≤ s) × Rising (suc s) rest

rising_after : (t : ℕ) (l : List ℕ) → AscendFrom (Some t) l → Rising (suc t) l
rising_after t [] h = tt
rising_after t (s ∷ rest) h = let p = h.0 in (omega (arith, p), rising_after s rest h.1)

rising_first : (l : List ℕ) → AscendFrom None l → Rising 0 l
rising_first [] h = tt
rising_first (s ∷ rest) h = (omega arith, rising_after s rest h)

rising_above : (low s : ℕ) (l : List ℕ) → Rising low l → IsIn l s → low ≤ s
rising_above low s [] h m = absurd m
rising_above low s (t ∷ rest) h (inl e) = let p = h.0 in omega (arith, p, e)
rising_above low s (t ∷ rest) h (inr m) = let p = h.0 in let q = rising_above (suc t) s rest h.1 m in omega (arith, p, q)

-- a list without one element
record IsWithout (ys : List ℕ) (x : ℕ) : Type 0 where
  rest : List ℕ
  long : length ys ≡ suc (length rest)
  others : (s : ℕ) → IsIn ys s → (s ≡ x → ⊥) → IsIn rest s

without : (ys : List ℕ) (x : ℕ) → IsIn ys x → IsWithout ys x
without [] x m = absurd m
without (y ∷ ys) x (inl e) = record { rest = ys; long = refl; others = λ s m n. ⊎_elim (λ (i : s ≡ y). absurd (n (i ∙ sym e))) (λ (i : IsIn ys s). i) m }
without (y ∷ ys) x (inr m) =
    let r = without ys x m in
    record { rest = y ∷ r.rest; long = ap suc r.long; others = λ s i n. ⊎_elim (λ (j : s ≡ y). inl j) (λ (j : IsIn ys s). inr (r.others s j n)) i }

few_among : (low : ℕ) (xs ys : List ℕ) → Rising low xs → ((s : ℕ) → IsIn xs s → IsIn ys s) → length xs ≤ length ys
few_among low [] ys h f = omega arith
few_among low (x ∷ xs) ys h f =
    let w = without ys x (f x (inl refl)) in
    let l = few_among (suc x) xs w.rest h.1 (λ s m. w.others s (f s (inr m)) (λ e. let a = rising_above (suc x) s xs h.1 m in omega (arith, a, e))) in
    let long = w.long in
    omega (arith, l, long)

-- serials that are flushed, and those of cells
or_right : (a b : Bool) → b ≡ true → (a || b) ≡ true
or_right true b e = refl
or_right false b e = e

or_left : (a b : Bool) → a ≡ true → (a || b) ≡ true
or_left true b e = refl
or_left false b e = cc

given_has : (l : List (Option ℕ)) (s : ℕ) → IsIn (given l) s → has_serial l s ≡ true
given_has [] s m = absurd m
given_has (None ∷ l) s m = given_has l s m
given_has (Some t ∷ l) s (inl e) = or_left (t == s) (has_serial l s) (eq-eqb t s (sym e))
given_has (Some t ∷ l) s (inr m) = or_right (t == s) (has_serial l s) (given_has l s m)

abbrev serials_of : List (Option Cell) → List ℕ
serials_of [] = []
serials_of (None ∷ cells) = serials_of cells
serials_of (Some c ∷ cells) = c.serial ∷ serials_of cells

serials_few : (cells : List (Option Cell)) → length (serials_of cells) ≤ length cells
serials_few [] = omega arith
serials_few (None ∷ cells) = let l = serials_few cells in omega (arith, l)
serials_few (Some c ∷ cells) = let l = serials_few cells in omega (arith, l)

cell_in : (cells : List (Option Cell)) (stage : ℕ) (c : Cell) → slice_get cells stage ≡ Some (Some c) → IsIn (serials_of cells) c.serial
cell_in [] stage c e = cc
cell_in (None ∷ cells) zero c e = cc
cell_in (Some d ∷ cells) zero c e = (let same : d ≡ c = cc in inl (ap (λ (z : Cell). z.serial) (sym same)))
cell_in (None ∷ cells) (suc stage) c e = cell_in cells stage c e
cell_in (Some d ∷ cells) (suc stage) c e = inr (cell_in cells stage c e)

ascending : (low : ℕ) (l : List ℕ) → Rising low l → ((s : ℕ) → IsIn l s → IsWord s) → Ascend low l
ascending low [] h f = tt
ascending low (s ∷ rest) h f = (f s (inl refl), h.0, ascending (suc s) rest h.1 (λ r m. f r (inr m)))

-- ---- cells
cells_good : (count : ℕ) (flushed : List (Option ℕ)) (cells : List (Option Cell)) → ((stage : ℕ) (c : Cell) → slice_get cells stage ≡ Some (Some c) → IsCell count (shown_cell flushed (Some c))) → AreCells count (map (shown_cell flushed) cells)
cells_good count flushed [] h = tt
cells_good count flushed (None ∷ cells) h = (tt, cells_good count flushed cells (λ stage. h (suc stage)))
cells_good count flushed (Some c ∷ cells) h = (h 0 c refl, cells_good count flushed cells (λ stage. h (suc stage)))

held_good : (count : ℕ) (b : Bool) (o : Option Hold) → ((h : Hold) → o ≡ Some h → IsHold count h) → IsHeld count (shown_hold b o)
held_good count true o f = tt
held_good count false None f = tt
held_good count false (Some h) f = f h refl

mark_good : (o : Option ℕ) → ((n : ℕ) → o ≡ Some n → IsWord n) → IsMark o
mark_good None f = tt
mark_good (Some n) f = f n refl

module _ (k : Setting) (count : ℕ) (ranges : HasRanges k count) (earlier : List Row) (row : Row) (law : Lawful (λ places. k) (row ∷ earlier)) (fits : suc (length earlier) < 2 ^ 31) where
  older_word : (c : Cell) (stage j : ℕ) → Stands k row stage c → j < c.serial → IsWord j
  older_word c stage j there l = let s = (N.cell_named k count ranges earlier row law stage c there).0 in word_of (suc (length earlier)) j fits (omega (arith, l, s))

  no_entry : (h : Hold) (stage : ℕ) (c : Cell) → OwnHold k earlier row stage c Trap → ⊥
  no_entry h stage c w = N.never_pending k count ranges k.lines earlier _ ranges.no_line w.interrupted

  own_good : (stage : ℕ) (c : Cell) → Stands k row stage c → (h : Hold) → OwnHold k earlier row stage c h → IsHold count h
  own_good stage c there (Operand r j) w = (small_x r (read_few (k.asks c.word) r (ranges.few c.word) w.reads), older_word c stage j there w.older.lower)
  own_good stage c there (Board (X r) j) w = (small_x r (touched_few (k.asks c.word) r (ranges.few c.word) w.touches), older_word c stage j there w.older.lower)
  own_good stage c there (Board (custom_target r) j) w = let s = w.spawns in (small_register count r ranges.registers (ranges.spawned s.0 r s.2), older_word c stage j there w.older.lower)
  own_good stage c there (Custom r j) w = let s = w.writes in (small_register count r ranges.registers (ranges.late s.0 r s.2), older_word c stage j there w.older.lower)
  own_good stage c there (Late j) w = older_word c stage j there w.older.lower
  own_good stage c there Trap w = no_entry Trap stage c w
  own_good stage c there (Drain j) w = older_word c stage j there w.older.lower
  own_good stage c there (Wait left) w = let s = w.still in let l = ranges.waits (accesses_before k.course (place (row ∷ earlier) c.serial)) in omega (arith, s, l)
  own_good stage c there (StoreAhead j) w = older_word c stage j there w.older.lower
  own_good stage c there (Tail left) w = let s = w.still in let l = ranges.tails c.word in omega (arith, s, l)
  own_good stage c there (UnitFull u) w = ranges.units c.word u w.enters
  own_good stage c there (Port j) w = let s = w.spawns in let l = N.word_named k count ranges (row ∷ earlier) law j s.0 s.1 in word_of (suc (length earlier)) j fits (omega (arith, l))
  own_good stage c there Behind w = absurd w

  hold_good : (stage : ℕ) (c : Cell) → Stands k row stage c → (h : Hold) → TrueHold k earlier row stage c h → IsHold count h
  hold_good stage c there h (inl w) = own_good stage c there h w
  hold_good stage c there h (inr p) = subst (IsHold count) (sym p.0) tt

  cell_good : (stage : ℕ) (c : Cell) → Stands k row stage c → IsCell count (shown_cell row.flushed (Some c))
  cell_good stage c there =
      let n = N.cell_named k count ranges earlier row law stage c there in
      let s = n.0 in (
        word_of (suc (length earlier)) c.serial fits (omega (arith, s)),
        address_of c.at n.1,
        held_good count (has_serial row.flushed c.serial) c.hold (λ h e. hold_good stage c there h ((law.0.holds stage c there).shown h e)),
      )

  -- ---- flushed serials
  flushed_in : (s : ℕ) → IsIn (given row.flushed) s → IsIn (serials_of (stages_of k row)) s
  flushed_in s m = by (law.0.successors.flushed_only s (given_has row.flushed s m)) where
    none_taken : (o : Option ℕ) → o ≡ None → is_some o ≡ true → ⊥
    none_taken None e h = cc
    none_taken (Some a) e h = cc

    by : IsFlushedByMismatch k earlier row s ⊎ IsFlushedByEntry k row s → IsIn (serials_of (stages_of k row)) s
    by (inl p) = subst (IsIn (serials_of (stages_of k row))) p.7 (cell_in (stages_of k row) p.2 p.3 p.6)
    by (inr p) = absurd (none_taken row.taken (N.untaken k count ranges earlier row law.0) p.0)

  flushed_words : (s : ℕ) (l : List ℕ) → IsIn l s → ((t : ℕ) → IsIn l t → IsIn (serials_of (stages_of k row)) t) → IsWord s
  flushed_words s l m f = serial_word (stages_of k row) (λ stage c e. (cell_good stage c e).0) (f s m) where
    serial_word : (cells : List (Option Cell)) → ((stage : ℕ) (c : Cell) → slice_get cells stage ≡ Some (Some c) → IsWord c.serial) → IsIn (serials_of cells) s → IsWord s
    serial_word [] g i = absurd i
    serial_word (None ∷ cells) g i = serial_word cells (λ stage. g (suc stage)) i
    serial_word (Some c ∷ cells) g (inl e) = subst IsWord (sym e) (g 0 c refl)
    serial_word (Some c ∷ cells) g (inr i) = serial_word cells (λ stage. g (suc stage)) i

  -- ---- the line
  pub line_good : ((n : ℕ) → retired_serial row.retired ≡ Some n → IsWord n) → ((n : ℕ) → written_serial row.written ≡ Some n → IsWord n) → IsRowLine count k.shape.stages (shown_of k.shape.stages row)
  line_good retired written =
      let long = N.stages_long k count ranges earlier row law in
      let mapped = length-map (stages_of k row) (shown_cell row.flushed) in
      let rising = rising_first (given row.flushed) law.0.form.ascending in
      let few = few_among 0 (given row.flushed) (serials_of (stages_of k row)) rising flushed_in in
      let fewer = serials_few (stages_of k row) in
      record {
        stages_are = omega (arith, long, mapped);
        cells = cells_good count row.flushed (stages_of k row) cell_good;
        retired = mark_good (retired_serial row.retired) retired;
        written = mark_good (written_serial row.written) written;
        few = omega (arith, few, fewer, long);
        flushed = ascending 0 (given row.flushed) rising (λ s m. flushed_words s (given row.flushed) m flushed_in);
        redirect = mark_good row.redirect (λ a e. address_of a (N.redirect_below k count ranges earlier row law.0 a e));
      }
