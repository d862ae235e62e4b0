-- After a row without a stop the machine is tied to the rows again, where the run goes to the handler as they say.
use Rattle.std.proofs.Common.{◌≡◌, List, ◌∷◌, Bool, true, false, None, refl, sym, ap, ◌∙◌, subst}
use Rattle.rv_trace.specs.declared.row.Row.{Row}
use Rattle.rv_engine.specs.Settings.{Setting, Machine}
use Rattle.rv_engine.specs.Rows.{entered_by, IsRowOf, machine_after}
use Rattle.rv_lawful.specs.Entering.{places}
use Rattle.rv_machine.specs.Placed.{at_places, IsReady, Inv}
use Rattle.rv_machine.proofs.GoesNext as G
use Rattle.rv_machine.proofs.GoesNext.{goes_next}
use Rattle.rv_machine.proofs.EntryNext.{more_places, entry_next}
use Rattle.rv_machine.proofs.TailsAfter.{tails_after}
use Rattle.rv_machine.proofs.EachRow as R
use Rattle.rv_machine.proofs.NextRow.{wide_next}

pub goes_on : (k : Setting) (ready : IsReady k) (earlier : List Row) (m : Machine) (row : Row) → Inv k earlier m → IsRowOf k m row → row.stop ≡ None → Inv (at_places k (places (row ∷ earlier))) (row ∷ earlier) (machine_after k m)
goes_on k ready earlier m row inv is stop = by_entry (entered_by k m) refl where
  by_entry : (b : Bool) → entered_by k m ≡ b → Inv (at_places k (places (row ∷ earlier))) (row ∷ earlier) (machine_after k m)
  by_entry false e =
      subst (λ ps. Inv (at_places k ps) (row ∷ earlier) (machine_after k m)) (inv.entries ∙ sym (G.same_places k ready earlier m row inv is e))
      (goes_next k ready earlier m row inv is e stop (wide_next k ready earlier m row inv is stop) (tails_after k ready earlier m row inv is) (R.progress k ready earlier m row inv is stop))
  by_entry true e =
      subst (λ ps. Inv (at_places k ps) (row ∷ earlier) (machine_after k m)) (sym (more_places k ready earlier m row inv is e))
      (entry_next k ready earlier m row inv is e stop (wide_next k ready earlier m row inv is stop) (R.progress k ready earlier m row inv is stop))
