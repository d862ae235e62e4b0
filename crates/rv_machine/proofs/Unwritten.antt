-- What is outstanding after a row, of what was outstanding before it: all but what is written.
use Rattle.std.proofs.Common.{◌≡◌, ℕ, ◌<◌, List, [], ◌∷◌, ◌++◌, Option, Some, None, Bool, true, false, refl, sym, ap, ◌∙◌, subst, arith, inl, inr}
use Rattle.std.specs.Prelude.{if◌then◌else◌, ◌==◌, ◌||◌, nat_lt}
use Rattle.std.proofs.lemmas.Bool.Decides.{nat_tests}
use Rattle.rv_trace.specs.declared.row.Row.{Row}
use Rattle.rv_trace.specs.Trace.{place, has_serial, is_flushed, is_retired, retires, retirements}
use Rattle.rv_unit.specs.declared.entry.Entry.{Entry}
use Rattle.rv_unit.specs.Entries.{does_write, moved, written_among, cons_unless, stepped}
use Rattle.rv_unit.specs.Timed.{IsTimed}
use Rattle.rv_unit.proofs.Moving.{alone_law}
use Rattle.rv_engine.specs.declared.owing.Owed.{Owed}
use Rattle.rv_engine.specs.Owing.{paying_among, unpaid_among}
use Rattle.rv_engine.specs.Settings.{Setting, Machine}
use Rattle.rv_engine.specs.Rows.{written_of, loaded_by, IsRowOf}
use Rattle.rv_lawful.specs.Outstanding.{Decoupled, serial_written, is_serial, is_written, without}
use Rattle.rv_lawful.specs.LawfulTrace.{IsWordOf}
use Rattle.rv_machine.specs.Owing.{judged, IsOwing, AreBelow, Owing}
use Rattle.rv_machine.specs.Placed.{IsReady, Inv}
use Rattle.rv_machine.proofs.Places.{stood, place_le, place_same}
use Rattle.rv_machine.proofs.Flushing as F
use Rattle.rv_machine.proofs.Retiring as R
use Rattle.rv_tried.specs.Parts.{spawned}

-- ---- lists of serials

pub without_append : (f : ℕ → Bool) (a b : List Decoupled) → without f (a ++ b) ≡ without f a ++ without f b
without_append f [] b = refl
without_append f (o ∷ a) b = ap (λ l. if f o.0 then l else o ∷ l) (without_append f a b) ∙ by_case (f o.0) where
  by_case : (c : Bool) → (if c then without f a ++ without f b else o ∷ (without f a ++ without f b)) ≡ (if c then without f a else o ∷ without f a) ++ without f b
  by_case true = refl
  by_case false = refl

pub without_either : (f g : ℕ → Bool) (l : List Decoupled) → without (λ s. f s || g s) l ≡ without f (without g l)
without_either f g [] = refl
without_either f g (o ∷ older) = ap (λ l. if f o.0 || g o.0 then l else o ∷ l) (without_either f g older) ∙ by_case (f o.0) refl (g o.0) where
  by_case : (c : Bool) → f o.0 ≡ c → (d : Bool) → (if c || d then without f (without g older) else o ∷ without f (without g older)) ≡ without f (if d then without g older else o ∷ without g older)
  by_case true e true = refl
  by_case true e false = ap (λ c. if c then without f (without g older) else o ∷ without f (without g older)) (sym e)
  by_case false e true = refl
  by_case false e false = ap (λ c. if c then without f (without g older) else o ∷ without f (without g older)) (sym e)

-- the serial of what is written
abbrev pub serial_paid : Option Owed → Option ℕ
serial_paid o = serial_written (written_of o)

-- none of these has the serial
abbrev pub Others : Option ℕ → List Decoupled → Type 0
Others w [] = Unit {0}
Others w (o ∷ older) = (is_serial w o.0 ≡ false) × Others w older

same_of : (a b : ℕ) → (a == b) ≡ true → a ≡ b
same_of a b e = grind (arith, nat_tests)

-- serials of different places are different
other_place : (rows : List Row) (a b : ℕ) → place rows a < place rows b → (a == b) ≡ false
other_place rows a b lt = by_case (a == b) refl where
  by_case : (c : Bool) → (a == b) ≡ c → (a == b) ≡ false
  by_case false e = e
  by_case true e = let same = ap (λ n. place rows n) (same_of a b e) in absurd (omega (arith, same, lt))

flipped : (a b : ℕ) → (a == b) ≡ false → (b == a) ≡ false
flipped a b e = grind (arith, nat_tests)

others_below : (rows : List Row) (s : ℕ) (outs : List Decoupled) → AreBelow rows (place rows s) outs → Others (Some s) outs
others_below rows s [] h = tt
others_below rows s (o ∷ outs) h = (flipped o.0 s (other_place rows o.0 s h.0), others_below rows s outs h.1)

-- what is written of older ones has another serial
other_paid : (k : Setting) (rows : List Row) (lasts : List ℕ) (all : List Entry) (s : ℕ) (outs : List Decoupled) (entries : List Entry) (owed : List Owed) →
    Owing k rows outs entries owed → AreBelow rows (place rows s) outs → is_serial (serial_paid (paying_among lasts all entries owed)) s ≡ false
other_paid k rows lasts all s [] [] [] h below = refl
other_paid k rows lasts all s [] [] (w ∷ owed) h below = absurd h
other_paid k rows lasts all s [] (e ∷ entries) owed h below = absurd h
other_paid k rows lasts all s (o ∷ outs) [] owed h below = absurd h
other_paid k rows lasts all s (o ∷ outs) (e ∷ entries) [] h below = absurd h
other_paid k rows lasts all s (o ∷ outs) (e ∷ entries) (w ∷ owed) h below = by_case (does_write lasts all e) (other_paid k rows lasts all s outs entries owed h.2 below.1) where
  by_case : (c : Bool) → is_serial (serial_paid (paying_among lasts all entries owed)) s ≡ false → is_serial (serial_paid (if c then Some w else paying_among lasts all entries owed)) s ≡ false
  by_case true rest = ap (λ n. n == s) h.0.owed ∙ other_place rows o.0 s below.0
  by_case false rest = rest

-- where none of some entries writes, the first does not, and none of the rest
pub none_first : (lasts : List ℕ) (all : List Entry) (e : Entry) (entries : List Entry) → written_among lasts all (e ∷ entries) ≡ None → (does_write lasts all e ≡ false) × (written_among lasts all entries ≡ None)
none_first lasts all e entries h = by_case (does_write lasts all e) h where
  by_case : (c : Bool) → (if c then Some e else written_among lasts all entries) ≡ None → (c ≡ false) × (written_among lasts all entries ≡ None)
  by_case true q = cc
  by_case false q = (refl, q)

-- ---- a row

module _ (k : Setting) (ready : IsReady k) (earlier : List Row) (m : Machine) (row : Row) (inv : Inv k earlier m) (is : IsRowOf k m row) where
  -- a retired serial keeps its place
  pub place_kept : (s : ℕ) → is_flushed earlier s ≡ false → is_retired earlier s ≡ true → place (row ∷ earlier) s ≡ place earlier s
  place_kept s alive gone = place_same row earlier s (λ j lt. by_flag j lt (has_serial row.flushed j) refl) where
    below : (a b : ℕ) → nat_lt a b ≡ true → a < b
    below a b h = grind (arith, nat_tests)

    by_flag : (j : ℕ) → j < s → (b : Bool) → has_serial row.flushed j ≡ b → has_serial row.flushed j ≡ false
    by_flag j lt false q = q
    by_flag j lt true q =
        let x = F.flushed_from k ready earlier m row inv is j q in
        let low = (stood earlier (retirements earlier) x.0 (loaded_by k m) x.1 (F.loaded_serials k ready earlier m row inv is) x.3).low in
        let same = ap (λ n. place earlier n) x.4 in
        let le = place_le earlier j s (omega (arith, lt)) in
        let past = below (place earlier s) (retirements earlier) (sym (inv.retired s alive) ∙ gone) in
        absurd (omega (arith, low, same, le, past))

  pub retired_more : (s : ℕ) → is_retired earlier s ≡ true → is_retired (row ∷ earlier) s ≡ true
  unfolding is_retired
  retired_more s h = ap (λ b. retires row.retired s || b) h ∙ either (retires row.retired s) where
    either : (b : Bool) → (b || true) ≡ true
    either true = refl
    either false = refl

  written_more : (s : ℕ) → is_serial (serial_written row.written) s ≡ false → is_written earlier s ≡ false → is_written (row ∷ earlier) s ≡ false
  unfolding is_written
  written_more s a b = rw (a, b) refl

  -- no cell of the row has a retired serial
  no_cell : (s word : ℕ) → is_flushed earlier s ≡ false → is_retired earlier s ≡ true → IsWordOf (judged k) (row ∷ earlier) s word → IsWordOf (judged k) earlier s word
  no_cell s word alive gone (inr known) = known
  no_cell s word alive gone (inl known) =
      let x = F.shown_at k ready earlier m row inv is known.0 known.1 known.2 in
      let low = (stood earlier (retirements earlier) known.0 (loaded_by k m) x.token (F.loaded_serials k ready earlier m row inv is) x.here_is).low in
      let same = ap (λ n. place earlier n) (x.serial ∙ known.3) in
      let lt = below (place earlier s) (retirements earlier) (sym (inv.retired s alive) ∙ gone) in
      absurd (omega (arith, low, same, lt)) where
        below : (a b : ℕ) → nat_lt a b ≡ true → a < b
        below a b h = grind (arith, nat_tests)

  -- one that is not written stays
  one_next : (lasts : List ℕ) (all : List Entry) (o : Decoupled) (e : Entry) (w : Owed) → IsOwing k earlier o e w → is_serial (serial_written row.written) o.0 ≡ false → IsOwing k (row ∷ earlier) o (moved lasts all e) w
  one_next lasts all o e w h other =
      let same = place_kept o.0 h.alive h.retired in
      let more = R.retired_now k ready earlier m row inv is in
      let past = h.past in
      record {
        entry = h.entry;
        owed = h.owed;
        asks = h.asks;
        unit = h.unit;
        past = omega (arith, same, more, past);
        alive = F.kept_alive k ready earlier m row inv is o.0 h.alive h.retired;
        retired = retired_more o.0 h.retired;
        unwritten = written_more o.0 other h.unwritten;
        known = inr h.known;
        only = λ word known. h.only word (no_cell o.0 word h.alive h.retired known);
        commit = h.commit;
        step = ap (λ p. (judged k).course.answer p) same ∙ h.step;
        word = h.word;
        writes = h.writes ∙ ap (λ p. spawned w.asks ((judged k).course.own p) h.commit) (sym same);
      }

  -- the others keep their order
  pub below_next : (p : ℕ) (ws : Option ℕ) (outs : List Decoupled) (entries : List Entry) (owed : List Owed) → Owing k earlier outs entries owed → AreBelow earlier p outs → AreBelow (row ∷ earlier) p (without (is_serial ws) outs)
  below_next p ws [] [] [] h below = tt
  below_next p ws [] [] (w ∷ owed) h below = absurd h
  below_next p ws [] (e ∷ entries) owed h below = absurd h
  below_next p ws (o ∷ outs) [] owed h below = absurd h
  below_next p ws (o ∷ outs) (e ∷ entries) [] h below = absurd h
  below_next p ws (o ∷ outs) (e ∷ entries) (w ∷ owed) h below =
      let same = place_kept o.0 h.0.alive h.0.retired in
      let lt = below.0 in
      kept (is_serial ws o.0) (omega (arith, same, lt)) (below_next p ws outs entries owed h.2 below.1) where
        kept : (b : Bool) → place (row ∷ earlier) o.0 < p → AreBelow (row ∷ earlier) p (without (is_serial ws) outs) → AreBelow (row ∷ earlier) p (if b then without (is_serial ws) outs else o ∷ without (is_serial ws) outs)
        kept true lt rest = rest
        kept false lt rest = (lt, rest)

  -- one is kept before what is kept of the older ones
  keep_first : (b c : Bool) (o : Decoupled) (e : Entry) (w : Owed) (outs : List Decoupled) (entries : List Entry) (owed : List Owed) → b ≡ false → c ≡ false → Owing k (row ∷ earlier) (o ∷ outs) (e ∷ entries) (w ∷ owed) →
      Owing k (row ∷ earlier) (if b then outs else o ∷ outs) (cons_unless c e entries) (if c then owed else w ∷ owed)
  keep_first true c o e w outs entries owed p q h = cc
  keep_first false true o e w outs entries owed p q h = cc
  keep_first false false o e w outs entries owed p q h = h

  -- or dropped
  drop_first : (b c : Bool) (o : Decoupled) (e : Entry) (w : Owed) (outs : List Decoupled) (entries : List Entry) (owed : List Owed) → b ≡ true → c ≡ true → Owing k (row ∷ earlier) outs entries owed →
      Owing k (row ∷ earlier) (if b then outs else o ∷ outs) (cons_unless c e entries) (if c then owed else w ∷ owed)
  drop_first false c o e w outs entries owed p q h = cc
  drop_first true false o e w outs entries owed p q h = cc
  drop_first true true o e w outs entries owed p q h = h

  joined : (ws : Option ℕ) (lasts : List ℕ) (all : List Entry) (o : Decoupled) (e : Entry) (w : Owed) (outs : List Decoupled) (entries : List Entry) (owed : List Owed) → serial_written row.written ≡ ws →
      Owing k earlier (o ∷ outs) (e ∷ entries) (w ∷ owed) → is_serial ws o.0 ≡ false → Owing k (row ∷ earlier) (without (is_serial ws) outs) (stepped lasts all entries) (unpaid_among lasts all entries owed) →
      Owing k (row ∷ earlier) (o ∷ without (is_serial ws) outs) (moved lasts all e ∷ stepped lasts all entries) (w ∷ unpaid_among lasts all entries owed)
  joined ws lasts all o e w outs entries owed is_ws h other rest = (
    one_next lasts all o e w h.0 (ap (λ z. is_serial z o.0) is_ws ∙ other),
    below_next (place (row ∷ earlier) o.0) ws outs entries owed h.2 (subst (λ p. AreBelow earlier p outs) (sym (place_kept o.0 h.0.alive h.0.retired)) h.1),
    rest,
  )

  -- where none of these writes, all stay
  all_kept : (ws : Option ℕ) (lasts : List ℕ) (all : List Entry) (outs : List Decoupled) (entries : List Entry) (owed : List Owed) → serial_written row.written ≡ ws → Owing k earlier outs entries owed → Others ws outs →
      written_among lasts all entries ≡ None → Owing k (row ∷ earlier) (without (is_serial ws) outs) (stepped lasts all entries) (unpaid_among lasts all entries owed)
  all_kept ws lasts all [] [] [] is_ws h others none = tt
  all_kept ws lasts all [] [] (w ∷ owed) is_ws h others none = absurd h
  all_kept ws lasts all [] (e ∷ entries) owed is_ws h others none = absurd h
  all_kept ws lasts all (o ∷ outs) [] owed is_ws h others none = absurd h
  all_kept ws lasts all (o ∷ outs) (e ∷ entries) [] is_ws h others none = absurd h
  all_kept ws lasts all (o ∷ outs) (e ∷ entries) (w ∷ owed) is_ws h others none =
      let n = none_first lasts all e entries none in
      keep_first (is_serial ws o.0) (does_write lasts all e) o (moved lasts all e) w (without (is_serial ws) outs) (stepped lasts all entries) (unpaid_among lasts all entries owed) others.0 n.0
      (joined ws lasts all o e w outs entries owed is_ws h others.0 (all_kept ws lasts all outs entries owed is_ws h.2 others.1 n.1))

  -- all but the one that is written
  pub some_kept : (ws : Option ℕ) (stages : ℕ) (lasts : List ℕ) (all : List Entry) (outs : List Decoupled) (entries : List Entry) (owed : List Owed) → serial_written row.written ≡ ws → Owing k earlier outs entries owed →
      IsTimed stages lasts entries → ws ≡ serial_paid (paying_among lasts all entries owed) → Owing k (row ∷ earlier) (without (is_serial ws) outs) (stepped lasts all entries) (unpaid_among lasts all entries owed)
  some_kept ws stages lasts all [] [] [] is_ws h timed paid = tt
  some_kept ws stages lasts all [] [] (w ∷ owed) is_ws h timed paid = absurd h
  some_kept ws stages lasts all [] (e ∷ entries) owed is_ws h timed paid = absurd h
  some_kept ws stages lasts all (o ∷ outs) [] owed is_ws h timed paid = absurd h
  some_kept ws stages lasts all (o ∷ outs) (e ∷ entries) [] is_ws h timed paid = absurd h
  some_kept ws stages lasts all (o ∷ outs) (e ∷ entries) (w ∷ owed) is_ws h timed paid = by_case (does_write lasts all e) refl paid (λ p. some_kept ws stages lasts all outs entries owed is_ws h.2 timed.2 p) where
    by_case : (c : Bool) → does_write lasts all e ≡ c → ws ≡ serial_paid (if c then Some w else paying_among lasts all entries owed) →
        (ws ≡ serial_paid (paying_among lasts all entries owed) → Owing k (row ∷ earlier) (without (is_serial ws) outs) (stepped lasts all entries) (unpaid_among lasts all entries owed)) →
        Owing k (row ∷ earlier) (without (is_serial ws) (o ∷ outs)) (stepped lasts all (e ∷ entries)) (unpaid_among lasts all (e ∷ entries) (w ∷ owed))
    by_case true q p rest =
        let here : ws ≡ Some o.0 = p ∙ ap (λ n. Some n) h.0.owed in
        let itself : is_serial ws o.0 ≡ true = ap (λ z. is_serial z o.0) here ∙ same_serial o.0 in
        drop_first (is_serial ws o.0) (does_write lasts all e) o (moved lasts all e) w (without (is_serial ws) outs) (stepped lasts all entries) (unpaid_among lasts all entries owed) itself q
        (all_kept ws lasts all outs entries owed is_ws h.2 (subst (λ z. Others z outs) (sym here) (others_below earlier o.0 outs h.1)) (alone_law stages lasts all e entries timed q)) where
          same_serial : (n : ℕ) → (n == n) ≡ true
          same_serial n = grind (arith, nat_tests)
    by_case false q p rest =
        let other : is_serial ws o.0 ≡ false = ap (λ z. is_serial z o.0) p ∙ other_paid k earlier lasts all o.0 outs entries owed h.2 h.1 in
        keep_first (is_serial ws o.0) (does_write lasts all e) o (moved lasts all e) w (without (is_serial ws) outs) (stepped lasts all entries) (unpaid_among lasts all entries owed) other q
        (joined ws lasts all o e w outs entries owed is_ws h other (rest p))
