use Rattle.ix_tool.proofs.PlainStanding.{plain_stands}
use Rattle.ix_tool.proofs.plain.plain_design.Goals as goal

pub returns : goal.returns
returns c =
    rw (c.new.ensures, c.new-2.ensures)
    (record {
      stands = plain_stands c.in_ok-extension.extension c.plain_sheet.result c.in_ok-extension.ensures c.plain_sheet.ensures.valid;
      extension_is = c.in_ok-extension.ensures;
      shape = c.plain_sheet.ensures.shape;
    })
