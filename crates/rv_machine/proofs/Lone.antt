-- Where nothing stands in units no token meets anything beside the stages.
use Rattle.std.proofs.Common.{◌≡◌, ℕ, suc, List, [], ◌∷◌, drop, Option, Some, None, Bool, true, false, refl, ap, ◌∙◌}
use Rattle.std.specs.Prelude.{if◌then◌else◌, ◌==◌}
use Rattle.rv_asks.specs.declared.asks.Asks.{Asks}
use Rattle.rv_trace.specs.declared.row.Row.{Row}
use Rattle.rv_unit.specs.declared.entry.Entry.{Entry}
use Rattle.rv_holds.specs.declared.token.Beside.{Beside}
use Rattle.rv_holds.specs.declared.token.Token.{Token}
use Rattle.rv_holds.specs.Tokens.{Slots, or_else}
use Rattle.rv_engine.specs.declared.owing.Owed.{Owed}
use Rattle.rv_engine.specs.Owing.{Outstanding, outstanding_of, unit_hold, port_hold, retiring_hold, beside_of, owed_after}
use Rattle.rv_engine.specs.Settings.{Setting, Machine, shape_of}
use Rattle.rv_engine.specs.Rows.{entering_of, outstanding_by, is_owing, left_by}
use Rattle.rv_lawful.specs.Outstanding.{Decoupled}
use Rattle.rv_machine.specs.Owing.{Owing}
use Rattle.rv_machine.proofs.Idle.{alone, unless_board, IsIdle, idle_outstanding}
use Rattle.rv_machine.proofs.Bound.{AreLone}

-- with no entry nothing is owed
pub owing_empty : (k : Setting) (rows : List Row) (outs : List Decoupled) (entries : List Entry) (owed : List Owed) → Owing k rows outs entries owed → entries ≡ [] → owed ≡ []
owing_empty k rows [] [] [] h e = refl
owing_empty k rows [] [] (w ∷ owed) h e = absurd h
owing_empty k rows (o ∷ outs) [] owed h e = absurd h
owing_empty k rows outs (x ∷ entries) owed h e = cc

module _ (k : Setting) (now : Bool) where
  abbrev none : Outstanding
  none = outstanding_of k.design [] []

  not_frozen : (o : Option ℕ) → unit_hold none o ≡ None
  not_frozen None = refl
  not_frozen (Some u) = refl

  free_port : (a : Asks) → retiring_hold none a ≡ None
  free_port a = ap (λ o. or_else o (port_hold None a.destination)) (not_frozen a.unit)

  pub alone_beside : (stage : ℕ) (a : Asks) → beside_of (shape_of k) now none stage a ≡ alone now
  alone_beside stage a =
      ap (λ b. record { board = b; port = if suc stage == (shape_of k).stages then retiring_hold none a else None; left = None; trap = now }) (unless_board (stage == (shape_of k).rd) a)
      ∙ ap (λ p. record { board = None; port = if suc stage == (shape_of k).stages then p else None; left = None; trap = now }) (free_port a)
      ∙ by_case (suc stage == (shape_of k).stages) where
        by_case : (b : Bool) → ◌≡◌ {A = Beside} (record { board = None; port = if b then None else None; left = None; trap = now }) (alone now)
        by_case true = refl
        by_case false = refl

  -- tokens that meet what is outstanding meet nothing then
  pub are_lone : (o : Outstanding) (l : Slots) → o ≡ none → ((n : ℕ) (t : Token) (older : Slots) → drop n l ≡ Some t ∷ older → (stage : ℕ) × (t.beside ≡ beside_of (shape_of k) now o stage t.asks)) → AreLone now l
  are_lone o [] e f = tt
  are_lone o (None ∷ l) e f = are_lone o l e (λ n t older d. f (suc n) t older d)
  are_lone o (Some t ∷ l) e f = (
    let x = f 0 t l refl in x.1 ∙ ap (λ z. beside_of (shape_of k) now z x.0 t.asks) e ∙ alone_beside x.0 t.asks,
    are_lone o l e (λ n u older d. f (suc n) u older d),
  )

  -- where nothing retires it stays so
  pub nothing_owed : (m : Machine) → IsIdle m → left_by k m ≡ None → is_owing (outstanding_by k m).owed ≡ false
  nothing_owed m idle g =
      ap (λ o. is_owing (owed_after o (entering_of (left_by k m)))) (idle_outstanding k m idle)
      ∙ ap (λ s. is_owing (owed_after none (entering_of s))) g
