-- Few entries stand in units.
use Rattle.std.proofs.Common.{◌≤◌, List, ◌∷◌, length}
use Rattle.rv_trace.specs.declared.row.Row.{Row}
use Rattle.rv_engine.specs.Settings.{Setting, Machine}
use Rattle.rv_engine.specs.Rows.{IsRowOf, machine_after}
use Rattle.rv_lawful.specs.Outstanding.{outstanding}
use Rattle.rv_machine.specs.Owing.{judged}
use Rattle.rv_machine.specs.Placed.{most_entries, IsReady, Inv}
use Rattle.rv_machine.proofs.FewOwed.{few_owed}
use Rattle.rv_machine.proofs.OwingNext as O
use Rattle.rv_machine.proofs.ApartNext as A

-- no more than there are registers after a row: each owes another one
pub few_next : (k : Setting) (ready : IsReady k) (earlier : List Row) (m : Machine) (row : Row) → Inv k earlier m → IsRowOf k m row → length (machine_after k m).entries ≤ most_entries k
few_next k ready earlier m row inv is =
    few_owed k ready (row ∷ earlier) (outstanding (judged k) (row ∷ earlier)) (machine_after k m).entries (machine_after k m).owed (O.owing_next k ready earlier m row inv is) (A.distinct_next k ready earlier m row inv is)
