-- In lawful rows serials are below the count of rows, and addresses are words.
use Rattle.std.proofs.Common.{◌≡◌, ℕ, zero, suc, ◌-◌, ◌<◌, ◌≤◌, ◌^◌, inl, inr, ⊎_elim, List, [], ◌∷◌, length, map, take, get_or, replicate, refl, sym, ap, ◌∙◌, subst, arith, lit<, Option, Some, None, Bool, true, false}
use Rattle.std.specs.Prelude.{◌||◌, ◌&&◌, if◌then◌else◌, slice_get, is_some, not}
use Rattle.std.proofs.lemmas.Bool.{eqb-true, or_cases}
use Rattle.std.proofs.lemmas.List.{length-map, length-replicate, take-replicate}
use Rattle.ix_bits.specs.declared.number.Bits.{Bits}
use Rattle.ix_plan.specs.declared.design.Target.TheVariants.{Custom as custom_target}
use Rattle.rv_seq.specs.declared.commit.Commit.{Commit}
use Rattle.rv_seq.specs.Steps.{word_at}
use Rattle.rv_trace.specs.declared.row.Cell.{Cell}
use Rattle.rv_trace.specs.declared.row.Row.{Row}
use Rattle.rv_trace.specs.Trace.{has_serial, retires, is_retired, newest}
use Rattle.rv_trace.specs.RowParts.{Name, name_of, names_of, stays, leaves, front, unless, serial_after, fetched, comes, InStage, MovesInto}
use Rattle.rv_waits.specs.Waits.{wait_at}
use Rattle.rv_lawful.specs.Settings.{Setting, stages_of, Stands}
use Rattle.rv_lawful.specs.Entering.{is_line_pending}
use Rattle.rv_lawful.specs.Outstanding.{has_target}
use Rattle.rv_lawful.specs.LawfulTrace.{guessed, plain_fetch, fetch_address, next_serial, new_cell, IsWordOf, LawfulRow, Lawful}
use Rattle.rv_watch.proofs.Asked.{AsksFew}
use Rattle.rv_watch.proofs.Committed.{IsBelow, guess_below}

-- what is asked of a setting whose extension has so many custom registers
pub record HasRanges (k : Setting) (count : ℕ) : Type 0 where
  pub no_line : k.lines ≡ None
  pub some : 0 < k.shape.stages
  pub most : k.shape.stages ≤ 5
  pub pcs : (p : ℕ) → k.course.pc p < 2 ^ 32
  pub jumps : (file : List Bits) (at word : ℕ) → IsBelow (k.jump file at word)
  pub few : (word : ℕ) → AsksFew (k.asks word)
  pub spawned : (word c : ℕ) → has_target (k.asks word) (custom_target c) ≡ true → c < count
  pub late : (word c : ℕ) → get_or (k.asks word).late_customs c false ≡ true → c < count
  pub tails : (word : ℕ) → (k.asks word).tail ≤ 64
  pub units : (word u : ℕ) → (k.asks word).unit ≡ Some u → u ≤ 255
  pub waits : (n : ℕ) → wait_at k.waits n ≤ 255
  pub registers : count ≤ 16

-- ---- names
-- a serial below this number, and an address of 32 bits
abbrev IsNamed : ℕ → Option Name → Type 0
IsNamed n None = Unit {0}
IsNamed n (Some m) = (m.0 < n) × (m.1 < 2 ^ 32)

abbrev AreNamed : ℕ → List (Option Name) → Type 0
AreNamed n [] = Unit {0}
AreNamed n (m ∷ rest) = IsNamed n m × AreNamed n rest

named_more : (n m : ℕ) (o : Option Name) → n ≤ m → IsNamed n o → IsNamed m o
named_more n m None l h = tt
named_more n m (Some a) l h = let p = h.0 in (omega (arith, l, p), h.1)

all_more : (n m : ℕ) (os : List (Option Name)) → n ≤ m → AreNamed n os → AreNamed m os
all_more n m [] l h = tt
all_more n m (o ∷ os) l h = (named_more n m o l h.0, all_more n m os l h.1)

where_named : (n : ℕ) (b : Bool) (o : Option Name) → IsNamed n o → IsNamed n (if b then o else None)
where_named n true o h = h
where_named n false o h = tt

unless_named : (n : ℕ) (b : Bool) (o : Option Name) → IsNamed n o → IsNamed n (if b then None else o)
unless_named n true o h = tt
unless_named n false o h = h

stays_named : (n : ℕ) (row : Row) (c : Option Cell) → IsNamed n (name_of c) → IsNamed n (stays row c)
stays_named n row None h = tt
stays_named n row (Some c) h = where_named n (is_some c.hold && not (has_serial row.flushed c.serial)) (name_of (Some c)) h

leaves_named : (n : ℕ) (row : Row) (c : Option Cell) → IsNamed n (name_of c) → IsNamed n (leaves row c)
leaves_named n row None h = tt
leaves_named n row (Some c) h = unless_named n (is_some c.hold || has_serial row.flushed c.serial) (name_of (Some c)) h

stage_named : (n : ℕ) (stay came now : Option Name) → InStage stay came now → IsNamed n stay → IsNamed n came → IsNamed n now
stage_named n None came now e h g = subst (IsNamed n) (sym e) g
stage_named n (Some m) None now e h g = subst (IsNamed n) (sym e) h
stage_named n (Some m) (Some o) now e h g = absurd e

moved : (n : ℕ) (row : Row) (came : Option Name) (was : List (Option Cell)) (now : List (Option Name)) → IsNamed n came → AreNamed n (map name_of was) → MovesInto row came was now → AreNamed n now
moved n row came [] [] c h m = tt
moved n row came (o ∷ was) (p ∷ now) c h m = (stage_named n (stays row o) came p m.0 (stays_named n row o h.0) c, moved n row (leaves row o) was now (leaves_named n row o h.0) h.1 m.1)
moved n row came [] (p ∷ now) c h m = absurd m
moved n row came (o ∷ was) [] c h m = absurd m

as_many : (row : Row) (came : Option Name) (was : List (Option Cell)) (now : List (Option Name)) → MovesInto row came was now → length now ≡ length was
as_many row came [] [] m = refl
as_many row came (o ∷ was) (p ∷ now) m = ap suc (as_many row (leaves row o) was now m.1)
as_many row came [] (p ∷ now) m = absurd m
as_many row came (o ∷ was) [] m = absurd m

none_named : (n m : ℕ) → AreNamed n (map name_of (replicate m None))
none_named n zero = tt
none_named n (suc m) = (tt, none_named n m)

comes_named : (n : ℕ) (stay new : Option Name) → IsNamed n new → IsNamed n (comes stay new)
comes_named n None new h = h
comes_named n (Some m) new h = tt

fetched_named : (n serial at : ℕ) (word : Option ℕ) → serial < n → at < 2 ^ 32 → IsNamed n (fetched serial at word)
fetched_named n serial at None s a = tt
fetched_named n serial at (Some word) s a = (s, a)

after_few : (n next : ℕ) (cells : List (Option Cell)) → next ≤ n → AreNamed n (map name_of cells) → serial_after next (front cells) ≤ n
after_few n next [] l h = l
after_few n next (None ∷ cells) l h = l
after_few n next (Some c ∷ cells) l h = let p = h.0.0 in omega (arith, p)

there_named : (n : ℕ) (cells : List (Option Cell)) (stage : ℕ) (c : Cell) → AreNamed n (map name_of cells) → slice_get cells stage ≡ Some (Some c) → (c.serial < n) × (c.at < 2 ^ 32)
there_named n [] stage c h e = cc
there_named n (o ∷ cells) zero c h e = (let same : o ≡ Some c = cc in subst (λ (z : Option Cell). IsNamed n (name_of z)) same h.0)
there_named n (o ∷ cells) (suc stage) c h e = there_named n cells stage c h.1 e

unless_below : (o : Option ℕ) (n : ℕ) → ((a : ℕ) → o ≡ Some a → a < 2 ^ 32) → n < 2 ^ 32 → unless o n < 2 ^ 32
unless_below None n h g = g
unless_below (Some a) n h g = h a refl

module _ (k : Setting) (count : ℕ) (ranges : HasRanges k count) where
  -- ---- no interrupt is taken
  pub never_pending : (lines : Option (List ℕ)) (earlier : List Row) (b : Bool) → lines ≡ None → (is_line_pending lines earlier && b) ≡ true → ⊥
  never_pending None earlier b e h = cc
  never_pending (Some lines) earlier b e h = cc

  pub untaken : (earlier : List Row) (row : Row) → LawfulRow k earlier row → row.taken ≡ None
  untaken earlier row law = by row.taken refl where
    by : (o : Option ℕ) → row.taken ≡ o → o ≡ None
    by None e = refl
    by (Some at) e = absurd (never_pending k.lines earlier _ ranges.no_line (law.takes.taken at e).interrupted)

  -- ---- addresses
  pub redirect_below : (earlier : List Row) (row : Row) → LawfulRow k earlier row → (a : ℕ) → row.redirect ≡ Some a → a < 2 ^ 32
  redirect_below earlier row law a e =
      let n = law.successors.named_only a (untaken earlier row law) e in
      subst (λ m. m < 2 ^ 32) n.4 (ranges.pcs _)

  guessed_below : (earlier : List Row) (before : ℕ) (o : Option Name) → before < 2 ^ 32 → guessed k earlier before o < 2 ^ 32
  guessed_below earlier before None h = h
  guessed_below earlier before (Some n) h = guess_below k.shape.predict _ n.1 (ranges.jumps _ n.1 n.2)

  fetch_below : (rows : List Row) → Lawful (λ places. k) rows → fetch_address k rows < 2 ^ 32
  unfolding fetch_address
  fetch_below [] law = lit< tt
  fetch_below (row ∷ earlier) law = unless_below row.redirect (plain_fetch k earlier (fetch_address k earlier) row) (redirect_below earlier row law.0) (guessed_below earlier (fetch_address k earlier) (leaves row (front (stages_of k row))) (fetch_below earlier law.2))

  -- ---- cells
  -- what is known of the newest row, and of the next serial
  record IsKnown (rows : List Row) : Type 0 where
    names : AreNamed (length rows) (names_of (stages_of k (newest rows)))
    next : next_serial k rows ≤ length rows
    long : length (stages_of k (newest rows)) ≡ k.shape.stages

  known : (rows : List Row) → Lawful (λ places. k) rows → IsKnown rows
  unfolding next_serial
  known [] law =
      let most = ranges.most in
      let none : Option Cell = None in
      let same : take k.shape.stages (replicate 5 none) ≡ replicate k.shape.stages none = take-replicate k.shape.stages 5 none most in
      record {
        names = subst (λ (z : List (Option Cell)). AreNamed 0 (map name_of z)) (sym same) (none_named 0 k.shape.stages);
        next = omega arith;
        long = ap length same ∙ length-replicate k.shape.stages none;
      }
  known (row ∷ earlier) law =
      let r = known earlier law.2 in
      let l = r.next in
      let long = r.long in
      let new : IsNamed (suc (length earlier)) (new_cell k earlier) = fetched_named (suc (length earlier)) (next_serial k earlier) (fetch_address k earlier) (word_at k.image (fetch_address k earlier)) (omega (arith, l)) (fetch_below earlier law.2) in
      let came = comes_named (suc (length earlier)) (stays (newest earlier) (front (stages_of k (newest earlier)))) (new_cell k earlier) new in
      let before = all_more (length earlier) (suc (length earlier)) (names_of (stages_of k (newest earlier))) (omega arith) r.names in
      let names = moved (suc (length earlier)) (newest earlier) _ (stages_of k (newest earlier)) (names_of (stages_of k row)) came before law.0.moves in
      let many : length (map name_of (stages_of k row)) ≡ length (stages_of k (newest earlier)) = as_many (newest earlier) _ (stages_of k (newest earlier)) (names_of (stages_of k row)) law.0.moves in
      let mapped : length (map name_of (stages_of k row)) ≡ length (stages_of k row) = length-map (stages_of k row) name_of in
      record {
        names = names;
        next = after_few (suc (length earlier)) (next_serial k earlier) (stages_of k row) (omega (arith, l)) names;
        long = omega (arith, many, mapped, long);
      }

  pub stages_long : (earlier : List Row) (row : Row) → Lawful (λ places. k) (row ∷ earlier) → length (stages_of k row) ≡ k.shape.stages
  stages_long earlier row law = (known (row ∷ earlier) law).long

  pub cell_named : (earlier : List Row) (row : Row) → Lawful (λ places. k) (row ∷ earlier) → (stage : ℕ) (c : Cell) → Stands k row stage c → (c.serial < suc (length earlier)) × (c.at < 2 ^ 32)
  cell_named earlier row law stage c there = there_named (suc (length earlier)) (stages_of k row) stage c (known (row ∷ earlier) law).names there

  -- ---- serials of words and of retirements
  pub word_named : (rows : List Row) → Lawful (λ places. k) rows → (j word : ℕ) → IsWordOf k rows j word → j < length rows
  word_named [] law j word h = absurd h
  word_named (row ∷ earlier) law j word (inl h) = subst (λ n. n < suc (length earlier)) h.3 (cell_named earlier row law h.0 h.1 h.2).0
  word_named (row ∷ earlier) law j word (inr h) = let l = word_named earlier law.2 j word h in omega (arith, l)

  last_stage : suc (k.shape.stages - 1) ≡ k.shape.stages
  last_stage = let l = ranges.some in omega (arith, l)

  pub retired_serial_named : (earlier : List Row) (row : Row) → Lawful (λ places. k) (row ∷ earlier) → (s : ℕ) (c : Commit) → row.retired ≡ Some (s, c) → s < suc (length earlier)
  retired_serial_named earlier row law s c e =
      let l = (law.0.retires (k.shape.stages - 1) last_stage).leaver s c e in
      subst (λ n. n < suc (length earlier)) l.3 (cell_named earlier row law (k.shape.stages - 1) l.0 l.1).0

  retires_named : (earlier : List Row) (row : Row) → Lawful (λ places. k) (row ∷ earlier) → (o : Option (ℕ × Commit)) (j : ℕ) → row.retired ≡ o → retires o j ≡ true → j < suc (length earlier)
  retires_named earlier row law None j e h = cc
  retires_named earlier row law (Some (t, c)) j e h = subst (λ n. n < suc (length earlier)) (eqb-true t j h) (retired_serial_named earlier row law t c e)

  pub retired_named : (rows : List Row) → Lawful (λ places. k) rows → (j : ℕ) → is_retired rows j ≡ true → j < length rows
  unfolding is_retired
  retired_named [] law j h = cc
  retired_named (row ∷ earlier) law j h =
      ⊎_elim (λ (i : retires row.retired j ≡ true). retires_named earlier row law row.retired j refl i)
      (λ (i : is_retired earlier j ≡ true). let l = retired_named earlier law.2 j i in omega (arith, l))
      (or_cases (retires row.retired j) (is_retired earlier j) h)
