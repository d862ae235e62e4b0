use Rattle.std.proofs.Common.{◌≡◌, ◌≤◌, ◌++◌, ◌-◌, length, take, drop}
use Rattle.ix_slots.specs.Made.{put_part}
use Rattle.ix_slots.proofs.field.insert.Given as goal

-- the part stands behind those before the place
abbrev pub invariant-loop-place : goal.invariant-loop-place
invariant-loop-place l = (l.place ≤ length l.parts.items) × (put_part l.part l.parts.items ≡ take l.place l.parts.items ++ put_part l.part (drop l.place l.parts.items))

abbrev pub decreases-loop-place : goal.decreases-loop-place
decreases-loop-place l = length l.parts.items - l.place
