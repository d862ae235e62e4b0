-- The x operands of a token: on a core that forwards those of older tokens that have not retired, else the register file's (this project's choice).
use Rattle.std.specs.Prelude.{ℕ, suc, [], ◌∷◌, List, Option, Some, None, Bool, ◌&&◌, if◌then◌else◌, slice_index, unwrap_or}
use Rattle.rv_core.specs.declared.Shape.{Shape}
use Rattle.rv_lawful.specs.Forwarding.{x_written, writes_x, reach_of, is_there}
use Rattle.rv_tried.specs.declared.trial.Trial.{Trial}
use Rattle.rv_holds.specs.declared.token.Token.{Token}
use Rattle.rv_holds.specs.Tokens.{Slots}

-- the value that a token writes to its x register, once it has been tried
abbrev pub x_tried : Option Trial → Option ℕ
x_tried None = None
x_tried (Some trial) = x_written trial.answer

-- the first stage that a token of this one has not been through: by the end of the row, where its holds are decided, or by its beginning
abbrev pub reach : Bool → ℕ → Token → ℕ
reach decided stage t = if decided then reach_of stage t.cell.hold else stage

-- what the token of this stage passes on for the x register r
abbrev pub passed : Shape → Bool → ℕ → ℕ → Token → Option ℕ
passed k decided r stage t = if writes_x t.asks r && is_there k stage (reach decided stage t) t.asks then x_tried t.trial else None

-- what the youngest of these that passes on something does, the first of them in this stage, else this value
abbrev pub forwarded : Shape → Bool → ℕ → ℕ → Slots → ℕ → ℕ
forwarded k decided r stage [] value = value
forwarded k decided r stage (None ∷ older) value = forwarded k decided r (suc stage) older value
forwarded k decided r stage (Some t ∷ older) value = unwrap_or (passed k decided r stage t) (forwarded k decided r (suc stage) older value)

-- the x register r as an operand of a token before these, the first of them in this stage
abbrev pub operand_in : Shape → Bool → ℕ → Slots → List ℕ → ℕ → ℕ
operand_in k decided stage older file r = if k.forward then forwarded k decided r stage older (slice_index file r) else slice_index file r
