-- What ties a pipeline and a machine to what is seen of them, before the first row and after one more.
use Rattle.std.proofs.Common.{◌≡◌, ◌∙◌, ℕ, suc, ◌+◌, ◌^◌, ◌<◌, ◌≤◌, List, [], ◌∷◌, ◌++◌, length, Bool, true, false, Option, Some, None, ap, subst, arith}
use Rattle.std.specs.Prelude.{reverse, is_some, if◌then◌else◌}
use Rattle.std.proofs.lemmas.List.{reverse-append}
use Rattle.ix_extension.specs.WellFormed.{IsWellFormed}
use Rattle.ix_sheet.specs.Sheets.{IsValidSheet}
use Rattle.rv_asks.specs.Asks.{IsAskingOf}
use Rattle.ix_eval.specs.declared.scratch.Scratch.{Scratch}
use Rattle.ix_eval.specs.Scratches.{IsScratchOf}
use Rattle.rv_trace.specs.declared.row.Row.{Row}
use Rattle.rv_trace.specs.Trace.{newest}
use Rattle.rv_asks.specs.declared.asking.Asking.{Asking}
use Rattle.rv_holds.specs.declared.token.Token.{Token}
use Rattle.rv_holds.specs.Tokens.{Slots, makes_access}
use Rattle.rv_engine.specs.declared.front.Kept.{Kept}
use Rattle.rv_engine.specs.Settings.{Setting, Machine, setting, shape_of, tree_of, first_machine}
use Rattle.rv_engine.specs.Rows.{IsRowOf, machine_after, next_after, accesses_after, stood_after, new_by, memory_by}
use Rattle.rv_engine.specs.Kept.{machine_of, IsFit}
use Rattle.rv_engine.specs.Owing.{IsOwingOf}
use Rattle.rv_engine.specs.Showing.{shown_of}
use Rattle.rv_machine.specs.Running.{machine_at, AreRows}
use Rattle.rv_nets.specs.Modules.{Driver, AllStep, drivers_of}
use Rattle.rv_pipe.specs.Machines.{IsSteady, IsSound}

-- counts grow by one at most
one_more : (b : Bool) (n : ℕ) → (if b then suc n else n) ≤ n + 1
one_more true n = omega arith
one_more false n = omega arith

next_grows : (n : ℕ) (slots : Slots) (new : Option Token) → next_after n slots new ≤ n + 1
next_grows n [] new = omega arith
next_grows n (Some t ∷ older) new = omega arith
next_grows n (None ∷ older) new = one_more (is_some new) n

held_or : (b : Bool) (m n : ℕ) → m ≤ n + 1 → (if b then n else m) ≤ n + 1
held_or true m n h = omega arith
held_or false m n h = h

accesses_grow : (n : ℕ) (o : Option Token) → accesses_after n o ≤ n + 1
accesses_grow n None = omega arith
accesses_grow n (Some t) = held_or (is_some t.cell.hold) (if makes_access t then suc n else n) n (one_more (makes_access t) n)

stood_grows : (n : ℕ) (o : Option Token) → stood_after n o ≤ n + 1
stood_grows n None = omega arith
stood_grows n (Some t) = stays (is_some t.cell.hold) n where
  stays : (b : Bool) (n : ℕ) → (if b then suc n else 0) ≤ n + 1
  stays true n = omega arith
  stays false n = omega arith

pub reverse_push : (rows : List Row) (row : Row) (items : List Row) → items ≡ rows ++ row ∷ [] → reverse items ≡ row ∷ reverse rows
reverse_push rows row items e = ap reverse e ∙ reverse-append rows (row ∷ [])

-- what is kept, before the first row
pub steady_first : (k : Setting) (asking : Asking) (scratch : Scratch) (kept : Kept) → IsWellFormed k.design.extension → IsValidSheet k.design.sheet → IsAskingOf k.design asking → IsScratchOf (tree_of k) scratch
    → machine_of (shape_of k) kept ≡ first_machine k → IsFit k (machine_of (shape_of k) kept) → IsOwingOf k.design kept.owing → IsSteady k asking scratch kept
steady_first k asking scratch kept well_formed sheet asked ready first fit owing =
    let next : kept.front.next ≡ 0 = ap (λ (n : Machine). n.next) first in
    let accesses : kept.front.accesses ≡ 0 = ap (λ (n : Machine). n.accesses) first in
    let stood : kept.front.stood ≡ 0 = ap (λ (n : Machine). n.stood) first in
    record {
      well_formed = well_formed;
      sheet = sheet;
      asked = asked;
      ready = ready;
      few = omega (arith, next);
      few_accesses = omega (arith, accesses);
      few_stood = omega (arith, stood);
      fit = fit;
      owing = owing;
    }

-- and after one more
pub steady_after : (k : Setting) (asking : Asking) (scratch scratch' : Scratch) (kept kept' : Kept) → IsSteady k asking scratch kept → machine_of (shape_of k) kept' ≡ machine_after k (machine_of (shape_of k) kept)
    → IsFit k (machine_of (shape_of k) kept') → IsOwingOf k.design kept'.owing → IsScratchOf (tree_of k) scratch' → IsSteady k asking scratch' kept'
steady_after k asking scratch scratch' kept kept' steady after fit owing ready =
    let m : Machine = machine_of (shape_of k) kept in
    let next : kept'.front.next ≡ next_after kept.front.next m.slots (new_by k m) = ap (λ (n : Machine). n.next) after in
    let accesses : kept'.front.accesses ≡ accesses_after kept.front.accesses (memory_by k m) = ap (λ (n : Machine). n.accesses) after in
    let stood : kept'.front.stood ≡ stood_after kept.front.stood (memory_by k m) = ap (λ (n : Machine). n.stood) after in
    let rows : kept'.front.rows ≡ suc kept.front.rows = ap (λ (n : Machine). n.rows) after in
    let a = next_grows kept.front.next m.slots (new_by k m) in
    let b = accesses_grow kept.front.accesses (memory_by k m) in
    let c = stood_grows kept.front.stood (memory_by k m) in
    let few = steady.few in
    let few_accesses = steady.few_accesses in
    let few_stood = steady.few_stood in
    record {
      well_formed = steady.well_formed;
      sheet = steady.sheet;
      asked = steady.asked;
      ready = ready;
      few = omega (arith, next, a, few, rows);
      few_accesses = omega (arith, accesses, b, few_accesses, rows);
      few_stood = omega (arith, stood, c, few_stood, rows);
      fit = fit;
      owing = owing;
    }

-- a machine, before the first row
pub sound_first : (k : Setting) (m : Machine) (cycles : ℕ) (modules : List Driver) → cycles < 2 ^ 32 → k.places ≡ [] → m ≡ first_machine k → length k.design.plans ≡ length k.design.nets → modules ≡ drivers_of k.design → IsSound k m [] cycles modules
unfolding machine_at
sound_first k m cycles modules fits plain first nets made =
    record {
      plain = plain;
      room = omega (arith, fits);
      count = ap (λ (n : Machine). n.rows) first;
      machine = first;
      are_rows = tt;
      nets = nets;
      reached = made;
    }

-- and after one more
module _ (k : Setting) (m m' : Machine) (rows : List Row) (row : Row) (spare spare' : ℕ) (modules modules' : List Driver) (less : spare' + 1 ≡ spare) (sound : IsSound k m rows spare modules) (going : (newest rows).stop ≡ None)
    (is : IsRowOf k m row) (after : m' ≡ machine_after k m) (stepped : AllStep (shown_of k m) modules modules') where
  pub rows_after : AreRows k (row ∷ rows)
  rows_after = (subst (λ n. IsRowOf k n row) sound.machine is, going, sound.are_rows)

  machine_then : m' ≡ machine_at k (row ∷ rows)
  unfolding machine_at
  machine_then = after ∙ ap (λ n. machine_after k n) sound.machine

  pub stepped_after : AllStep (shown_of k (machine_at k rows)) modules modules'
  stepped_after = subst (λ n. AllStep (shown_of k n) modules modules') sound.machine stepped

  pub sound_after : IsSound k m' (row ∷ rows) spare' modules'
  sound_after =
      let room = sound.room in
      record {
        plain = sound.plain;
        room = omega (arith, room, less);
        count = ap (λ (n : Machine). n.rows) after ∙ ap suc sound.count;
        machine = machine_then;
        are_rows = rows_after;
        nets = sound.nets;
        reached = (modules, sound.reached, stepped_after);
      }

-- the setting of a machine names no places
pub plainly : (k : Setting) → k.places ≡ [] → k ≡ setting k.design k.image k.waits k.lines
plainly k e = ap (λ (l : List ℕ). record { design = k.design; image = k.image; waits = k.waits; lines = k.lines; places = l }) e
