-- The instruction that stopped the run, and what the one at RD asks for, as they are found in a row.
use Rattle.std.proofs.Common.{◌≡◌, ◌∙◌, refl, sym, ap, subst, List, get_or, Option, Some, None, Bool, true, false}
use Rattle.rv_asks.specs.declared.asks.Asks.{Asks}
use Rattle.rv_trace.specs.declared.row.Cell.{Cell}
use Rattle.rv_trace.specs.declared.row.Row.{Row}
use Rattle.rv_trace.specs.Trace.{newest}
use Rattle.rv_lawful.specs.Settings.{Setting, Stands}
use Rattle.rv_rows.specs.Kinds.{is_of_cell}
use Rattle.rv_rows.specs.declared.known.Owed.{Owed}
use Rattle.rv_holdings.specs.Expected.{IsStopper, AsksAtRead}
use Rattle.rv_holdings.proofs.Above.{get_of}

differ : (b : Bool) → b ≡ true → b ≡ false → ⊥
differ b e f = cc

none_some : (o : Option Cell) (c : Cell) → o ≡ None → o ≡ Some c → ⊥
none_some o c e f = cc

one_cell : (o : Option Cell) (c d : Cell) → o ≡ Some c → o ≡ Some d → c ≡ d
one_cell o c d e f = cc

module _ (k : Setting) (rows : List Row) (before : Row) (is : newest rows ≡ before) where
  stop_is : is_of_cell (newest rows).stop ≡ is_of_cell before.stop
  stop_is = ap (λ (r : Row). is_of_cell r.stop) is

  in_ex : (c : Cell) → Stands k (newest rows) k.shape.ex c → get_or before.cells k.shape.ex None ≡ Some c
  in_ex c s = (get_of k.shape.stages k.shape.ex before.cells c (subst (λ (r : Row). Stands k r k.shape.ex c) is s)).1

  pub of_fetch : is_of_cell before.stop ≡ false → IsStopper k rows None
  of_fetch e = (λ c t s. absurd (differ (is_of_cell before.stop) (sym stop_is ∙ t) e), λ f. refl)

  pub of_none : is_of_cell before.stop ≡ true → get_or before.cells k.shape.ex None ≡ None → IsStopper k rows None
  of_none e g = (λ c t s. absurd (none_some (get_or before.cells k.shape.ex None) c g (in_ex c s)), λ f. refl)

  pub of_cell : is_of_cell before.stop ≡ true → (c : Cell) → get_or before.cells k.shape.ex None ≡ Some c → (a : Asks) → a ≡ k.asks c.word → IsStopper k rows (Some (record { serial = c.serial; asks = a }))
  of_cell e c g a q = (
    λ d t s. (
        let same = one_cell (get_or before.cells k.shape.ex None) c d g (in_ex d s) in
        made d (ap (λ (x : Cell). x.serial) same) (q ∙ ap (λ (x : Cell). k.asks x.word) same)
        ),
    λ f. absurd (differ (is_of_cell before.stop) e (sym stop_is ∙ f)),
  ) where
    made : (d : Cell) → c.serial ≡ d.serial → a ≡ k.asks d.word → ◌≡◌ {A = Option Owed} (Some (record { serial = c.serial; asks = a })) (Some (record { serial = d.serial; asks = k.asks d.word }))
    made d x y = rw (x, y)

module _ (k : Setting) (row : Row) (a : Asks) where
  pub read_none : get_or row.cells k.shape.rd None ≡ None → AsksAtRead k row a
  read_none g c s = absurd (none_some (get_or row.cells k.shape.rd None) c g (get_of k.shape.stages k.shape.rd row.cells c s).1)

  pub read_cell : (c : Cell) → get_or row.cells k.shape.rd None ≡ Some c → a ≡ k.asks c.word → AsksAtRead k row a
  read_cell c g q d s = q ∙ ap (λ (x : Cell). k.asks x.word) (one_cell (get_or row.cells k.shape.rd None) c d g (get_of k.shape.stages k.shape.rd row.cells d s).1)
