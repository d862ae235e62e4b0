-- The rows of harts that jump.
use Rattle.std.proofs.Common.{refl}
use Rattle.ix_bits.specs.BaseTable.{base_patterns}
use Rattle.rv_isa.specs.Table.{row_of as base_row, format_of, base_formats}
use Rattle.rv_isa.specs.Fields.{fields_of}
use Rattle.rv_isa.specs.Decoded.{decoded}
use Rattle.rv_seq.specs.Decoding.{decoded_in}
use Rattle.rv_seq.specs.WordEffects.{effect_of, over, blocks_effect}
use Rattle.rv_holds.specs.Holds.{register_count}
use Rattle.rv_seq.specs.Commits.{commit_of, applied}
use Rattle.rv_seq.specs.Runs.{run_with}
use Rattle.rv_seq.specs.States.{first}
use Rattle.rv_seq.specs.Steps.{attempted, step}
use Rattle.rv_tried.specs.Parts.{shown, spawned}
use Rattle.rv_harts.specs.HartRows.{next_hart, hart_at, hart_row}
use Rattle.hart_laws.specs.Hands.{HaveRows, plain, five}
use Rattle.hart_laws.specs.Jumping.{leaping, doubling, jumping_rows, late_jumps, leaping_late, stepping_late, late_rows}

pub jumping_are : HaveRows (plain five) leaping doubling jumping_rows
unfolding register_count hart_row hart_at next_hart shown spawned step run_with decoded_in attempted effect_of over blocks_effect commit_of first applied decoded base_row base_patterns fields_of format_of base_formats
jumping_are = record { rows_are = refl; first_stopped = refl; second_stopped = refl }

pub late_are : HaveRows late_jumps leaping_late stepping_late late_rows
unfolding register_count hart_row hart_at next_hart shown spawned step run_with decoded_in attempted effect_of over blocks_effect commit_of first applied decoded base_row base_patterns fields_of format_of base_formats
late_are = record { rows_are = refl; first_stopped = refl; second_stopped = refl }
