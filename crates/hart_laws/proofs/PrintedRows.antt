-- The text of rows that are written out.
use Rattle.std.proofs.Common.{◌≡◌, refl}
use Rattle.std.specs.Fmt.{digits}
use Rattle.ix_io.specs.Out.{hex_digits}
use Rattle.rv_barrel_text.specs.BarrelRowText.{barrel_row_text, barrel_rows_text}
use Rattle.hart_laws.specs.Adding.{rows_beside_empty}
use Rattle.hart_laws.specs.Spawning.{sharing_rows}
use Rattle.hart_laws.specs.Jumping.{late_rows}
use Rattle.hart_laws.specs.Texts.{beside_empty_text, sharing_text, late_text}

pub beside_empty_printed : barrel_rows_text 3 0 rows_beside_empty ≡ beside_empty_text
unfolding barrel_rows_text barrel_row_text hex_digits digits
beside_empty_printed = refl

pub sharing_printed : barrel_rows_text 3 0 sharing_rows ≡ sharing_text
unfolding barrel_rows_text barrel_row_text hex_digits digits
sharing_printed = refl

pub late_printed : barrel_rows_text 5 0 late_rows ≡ late_text
unfolding barrel_rows_text barrel_row_text hex_digits digits
late_printed = refl
