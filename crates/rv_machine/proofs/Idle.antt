-- Where nothing is spawned, nothing is outstanding beside the stages, and no token meets anything there.
use Rattle.std.proofs.Common.{◌≡◌, ℕ, zero, suc, List, [], Option, None, Bool, true, false, refl, ap, ◌∙◌}
use Rattle.std.specs.Prelude.{if◌then◌else◌}
use Rattle.rv_asks.specs.declared.asks.Asks.{Asks}
use Rattle.rv_unit.specs.declared.entry.Entry.{Entry}
use Rattle.rv_holds.specs.declared.token.Beside.{Beside}
use Rattle.rv_holds.specs.Tokens.{or_else}
use Rattle.rv_holds.specs.Holds.{register_at, numbered, least_from, register_count}
use Rattle.rv_engine.specs.declared.owing.Owed.{Owed}
use Rattle.rv_engine.specs.Owing.{outstanding_of, board_of, holder_for}
use Rattle.rv_engine.specs.Settings.{Setting, Machine, outstanding_in}
use Rattle.rv_lawful.specs.Outstanding.{touches}

-- nothing is met but of the interrupt line
abbrev pub alone : Bool → Beside
alone now = record { board = None; port = None; left = None; trap = now }

if_none : (b : Bool) → ◌≡◌ {A = Option ℕ} (if b then None else None) None
if_none true = refl
if_none false = refl

least_nothing : (f : ℕ → Option ℕ) (n count : ℕ) → ((m : ℕ) → f m ≡ None) → least_from f n count ≡ None
least_nothing f n zero h = refl
least_nothing f n (suc count) h = ap (λ o. or_else (numbered n o) (least_from f (suc n) count)) (h n) ∙ least_nothing f (suc n) count h

no_board_owed : (a : Asks) → board_of [] a ≡ None
no_board_owed a = least_nothing (holder_for [] a) 0 register_count (λ n. if_none (touches a (register_at n)))

pub unless_board : (b : Bool) (a : Asks) → (if b then board_of [] a else None) ≡ None
unless_board true a = no_board_owed a
unless_board false a = refl

-- a machine beside whose stages nothing is outstanding
abbrev pub IsIdle : Machine → Type 0
IsIdle m = (m.entries ≡ []) × (m.owed ≡ [])

pub idle_outstanding : (k : Setting) (m : Machine) → IsIdle m → outstanding_in k m ≡ outstanding_of k.design [] []
idle_outstanding k m idle = ap (λ (l : List Entry). outstanding_of k.design l m.owed) idle.0 ∙ ap (λ (l : List Owed). outstanding_of k.design [] l) idle.1
