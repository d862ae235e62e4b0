-- The dump of rows that are written one after another.
use Rattle.std.proofs.Common.{◌≡◌, ◌∙◌, refl, sym, ap, subst, ℕ, suc, ◌+◌, ◌≤◌, List, [], ◌∷◌, ◌++◌, length, length-append, Option, None, Some, Bool, true, false, take, arith}
use Rattle.ix_bits.specs.declared.number.Bits.{Bits}
use Rattle.ix_dump.specs.Dump.{dump_ports, dump_text, dump_widths, head_text, raws, row_before, row_text, widths}
use Rattle.ix_dump.specs.Laws.{last_row}
use Rattle.ix_dump.specs.Parts.{Passes}
use Rattle.ix_dump.proofs.Growing.{grow}
use Rattle.ix_dump.proofs.Passing.{passes_more, breaks_more, passes_last, breaks_last}
use Rattle.ix_io.specs.Faults.{Rose}
use Rattle.ix_io.specs.Sink.{Appends, AppendsFront}
use Rattle.ix_io.proofs.Appended.{AppendsFront_of_more}
use Rattle.ix_net.specs.declared.netlist.Net.{Net}
use Rattle.rv_trace.specs.declared.row.Row.{Row}
use Rattle.rv_engine.specs.Settings.{Setting}
use Rattle.rv_engine.specs.Showing.{shown_of}
use Rattle.rv_machine.specs.Running.{machine_at}
use Rattle.rv_nets.specs.Modules.{Driver, AllStep, drivers_of, ports_shown}
use Rattle.rv_nets.specs.NetsLaw.{ReachedBy}
use Rattle.rv_pipe.specs.Machines.{shown_over}
use Rattle.rv_ports.specs.Driven.{ports_of}
use Rattle.rv_wave.specs.Sent.{HasPassed, HasBroken, HasEnded, IsSent}
use Rattle.rv_wave.proofs.Reached.{long_over, as_often, one_each, take_whole}

pub same_ports : (nets : List Net) → ports_of nets ≡ dump_ports nets
same_ports nets = refl

rose_later : (a b c : ℕ) → a ≤ b → Rose b c → Rose a c
rose_later a b c le rose = omega (arith, le, rose)

-- no write failed, or one did
module _ (k : Setting) (rows : List Row) (modules : List Driver) (before : List Bits) (first now : Option (List ℕ)) (waits : List ℕ) (faults faults_now : ℕ) where
  pub was_passed : (going : Bool) → going ≡ true → IsSent going k rows modules before first now waits faults faults_now → HasPassed k rows modules before first now waits faults faults_now
  was_passed true e h = h
  was_passed false e h = cc

  pub was_broken : (going : Bool) → going ≡ false → IsSent going k rows modules before first now waits faults faults_now → HasBroken k rows modules first now faults faults_now
  was_broken true e h = cc
  was_broken false e h = h

-- ---- the head
module _ (k : Setting) (nets : List Net) (same : k.design.nets ≡ nets) where
  first_text : head_text nets ≡ dump_text k.design.nets []
  first_text = ap head_text (sym same) ∙ sym (grow.head k.design.nets)

  pub begun : (before : List Bits) (a b : Option (List ℕ)) (waited waits : List ℕ) (f g : ℕ) → waited ≡ [] → Passes a b waited waits (head_text nets) → f ≤ g → HasPassed k [] (drivers_of k.design) before a b waits f g
  begun before a b waited waits f g e p le = record {
    values = [];
    reached = (refl, refl);
    last = refl;
    passes = subst (λ t. Passes a b [] waits t) first_text (subst (λ l. Passes a b l waits (head_text nets)) e p);
    never_fell = le;
  }

  pub broken_at_once : (a b : Option (List ℕ)) (waited : List ℕ) (f g : ℕ) → waited ≡ [] → AppendsFront a b (waited ++ head_text nets) → Rose f g → HasBroken k [] (drivers_of k.design) a b f g
  broken_at_once a b waited f g e p rose = record {
    values = [];
    reached = (refl, refl);
    front = subst (λ t. AppendsFront a b t) (ap (λ l. l ++ head_text nets) e ∙ first_text) p;
    rose = rose;
  }

-- ---- one more row
last_more : (o : Option (List ℕ)) (rows : List (List ℕ)) (now : List ℕ) → last_row o (rows ++ now ∷ []) ≡ Some now
last_more o [] now = refl
last_more o (row ∷ rows) now = last_more (Some row) rows now

module _ (k : Setting) (row : Row) (earlier rows : List Row) (olds modules : List Driver) (are : rows ≡ row ∷ earlier) (step : AllStep (shown_of k (machine_at k earlier)) olds modules) where
  came : (values : List (List ℕ)) → ReachedBy k.design (shown_over k earlier) olds values → ReachedBy k.design (shown_over k rows) modules (values ++ ports_shown modules ∷ [])
  came values reached = subst (λ l. ReachedBy k.design (shown_over k l) modules (values ++ ports_shown modules ∷ [])) (sym are) (olds, values, reached, step, refl)

  -- where a write failed before
  pub stays_broken : (first now : Option (List ℕ)) (faults faults_now : ℕ) → HasBroken k earlier olds first now faults faults_now → HasBroken k rows modules first now faults faults_now
  stays_broken first now faults faults_now h = record {
    values = h.values ++ ports_shown modules ∷ [];
    reached = came h.values h.reached;
    front =
        subst (λ t. AppendsFront first now t) (sym (grow.more k.design.nets h.values (ports_shown modules)))
        (AppendsFront_of_more first now (dump_text k.design.nets h.values) (row_text (dump_widths k.design.nets) (length h.values) (last_row None h.values) (ports_shown modules)) h.front);
    rose = h.rose;
  }

  -- where this one is written
  module _ (number : ℕ) (counts : number + 1 ≡ length rows) (as_many : length k.design.plans ≡ length k.design.nets) (before now : List Bits) (long : length now ≡ length (ports_of k.design.nets))
      (shown : raws now ≡ take (length now) (ports_shown modules)) (wide : widths now ≡ dump_widths k.design.nets) (first a b : Option (List ℕ)) (waited : List ℕ) (faults f g : ℕ) (h : HasPassed k earlier olds before first a waited faults f) where
    abbrev line : List ℕ
    line = row_text (widths now) number (row_before number (raws before)) (raws now)

    all_shown : raws now ≡ ports_shown modules
    all_shown =
        let every = one_each k.design (shown_over k rows) modules (h.values ++ ports_shown modules ∷ []) as_many (came h.values h.reached) in
        shown ∙ take_whole (ports_shown modules) (length now) (long ∙ sym every)

    number_is : number ≡ length h.values
    number_is =
        let e = as_often k.design (shown_over k earlier) olds h.values h.reached in
        let l = long_over k earlier in
        let s : length rows ≡ suc (length earlier) = ap length are in
        omega (arith, counts, e, l, s)

    one_more : dump_text k.design.nets h.values ++ line ≡ dump_text k.design.nets (h.values ++ ports_shown modules ∷ [])
    one_more =
        let text = dump_text k.design.nets h.values in
        ap (λ n. text ++ row_text (widths now) n (row_before n (raws before)) (raws now)) number_is
        ∙ ap (λ o. text ++ row_text (widths now) (length h.values) o (raws now)) (sym h.last)
        ∙ ap (λ w. text ++ row_text w (length h.values) (last_row None h.values) (raws now)) wide
        ∙ ap (λ v. text ++ row_text (dump_widths k.design.nets) (length h.values) (last_row None h.values) v) all_shown
        ∙ sym (grow.more k.design.nets h.values (ports_shown modules))

    pub passes_on : (waits : List ℕ) → Passes a b waited waits line → f ≤ g → HasPassed k rows modules now first b waits faults g
    passes_on waits p le = record {
      values = h.values ++ ports_shown modules ∷ [];
      reached = came h.values h.reached;
      last =
          let e : suc (length h.values) ≡ length (h.values ++ ports_shown modules ∷ []) = omega (arith, length-append h.values (ports_shown modules ∷ [])) in
          last_more None h.values (ports_shown modules) ∙ ap (λ v. Some v) (sym all_shown) ∙ ap (λ n. row_before n (raws now)) e;
      passes = subst (λ t. Passes first b [] waits t) one_more (passes_more first a b [] waited waits (dump_text k.design.nets h.values) line h.passes p);
      never_fell = (let first_fell = h.never_fell in omega (arith, le, first_fell));
    }

    pub breaks_here : AppendsFront a b (waited ++ line) → Rose f g → HasBroken k rows modules first b faults g
    breaks_here p rose = record {
      values = h.values ++ ports_shown modules ∷ [];
      reached = came h.values h.reached;
      front = subst (λ t. AppendsFront first b t) one_more (breaks_more first a b [] waited (dump_text k.design.nets h.values) line h.passes p);
      rose = rose_later faults f g h.never_fell rose;
    }

-- ---- the end
module _ (k : Setting) (rows : List Row) (modules : List Driver) (before : List Bits) (first a b : Option (List ℕ)) (waited : List ℕ) (faults f g : ℕ) (h : HasPassed k rows modules before first a waited faults f) where
  pub ended : Appends a b waited → HasEnded k rows modules first b
  ended p = record {
    values = h.values;
    reached = h.reached;
    appends = passes_last first a b [] waited (dump_text k.design.nets h.values) h.passes p;
  }

  pub breaks_last_of_all : AppendsFront a b waited → Rose f g → HasBroken k rows modules first b faults g
  breaks_last_of_all p rose = record {
    values = h.values;
    reached = h.reached;
    front = breaks_last first a b [] waited (dump_text k.design.nets h.values) h.passes p;
    rose = rose_later faults f g h.never_fell rose;
  }
