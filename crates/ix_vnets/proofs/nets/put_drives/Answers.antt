use Rattle.std.proofs.Common.{◌+◌, List, ap, subst}
use Rattle.std.specs.List.{AllZip}
use Rattle.std.proofs.lemmas.Option.{MatchOption-at_some, MatchOption-at_none}
use Rattle.ix_verilog.specs.declared.source.Source.{Source}
use Rattle.ix_verilog.specs.declared.source.Assign.{Assign}
use Rattle.ix_verilog.specs.declared.source.Update.{Update}
use Rattle.ix_vnets.specs.Drives.{IsFirstNot}
use Rattle.ix_vnets.specs.Tables.{IsCellBy, IsBankBy, HasCell, HasBank}
use Rattle.ix_vnets.proofs.Modules.{cells_are, banks_are, no_cell_in, no_bank_in}
use Rattle.ix_vnets.proofs.nets.put_drives.Goals as goal

pub returns-in-Some : goal.returns-in-Some
returns-in-Some c =
    let s : Source = c.args.source.now in
    let m = c.in_ok-widths.widths in
    let assigns : List Assign = c.as_slice.result.now in
    let f : IsFirstNot (HasCell m) assigns c.in-Some.number = MatchOption-at_some (AllZip (IsCellBy m) assigns c.put_cells.new.cells) (IsFirstNot (HasCell m) assigns) c.in-Some.number c.in-Some.is c.in_ok-number.ensures in
    no_cell_in s m c.requires.finished c.requires.once c.in_ok-widths.ensures c.in-Some.number (subst (λ z. IsFirstNot (HasCell m) z c.in-Some.number) c.as_slice.ensures f)

pub returns-in-Some-2 : goal.returns-in-Some-2
returns-in-Some-2 c =
    let s : Source = c.args.source.now in
    let m = c.in_ok-widths.widths in
    let assigns : List Assign = c.as_slice.result.now in
    let updates : List Update = c.as_slice-2.result.now in
    let z : AllZip (IsCellBy m) assigns c.put_cells.new.cells = MatchOption-at_none (AllZip (IsCellBy m) assigns c.put_cells.new.cells) (IsFirstNot (HasCell m) assigns) c.in_default.is c.in_ok-number.ensures in
    let f : IsFirstNot (HasBank m) updates c.in-Some-2.number = MatchOption-at_some (AllZip (IsBankBy m) updates c.put_banks.new.banks) (IsFirstNot (HasBank m) updates) c.in-Some-2.number c.in-Some-2.is c.in_ok-number-2.ensures in
    no_bank_in s m c.requires.finished c.requires.once c.in_ok-widths.ensures c.put_cells.new.cells (subst (λ xs. AllZip (IsCellBy m) xs c.put_cells.new.cells) c.as_slice.ensures z) c.in-Some-2.number (c.len.result + c.in-Some-2.number)
    (ap (λ n. n + c.in-Some-2.number) c.len.ensures) (subst (λ xs. IsFirstNot (HasBank m) xs c.in-Some-2.number) c.as_slice-2.ensures f)

pub returns : goal.returns
returns c =
    let s : Source = c.args.source.now in
    let m = c.in_ok-widths.widths in
    let assigns : List Assign = c.as_slice.result.now in
    let updates : List Update = c.as_slice-2.result.now in
    let z : AllZip (IsCellBy m) assigns c.put_cells.new.cells = MatchOption-at_none (AllZip (IsCellBy m) assigns c.put_cells.new.cells) (IsFirstNot (HasCell m) assigns) c.in_default.is c.in_ok-number.ensures in
    let w : AllZip (IsBankBy m) updates c.put_banks.new.banks = MatchOption-at_none (AllZip (IsBankBy m) updates c.put_banks.new.banks) (IsFirstNot (HasBank m) updates) c.in-None.is c.in_ok-number-2.ensures in (
      cells_are s m c.requires.finished c.requires.once c.in_ok-widths.ensures c.put_cells.new.cells (subst (λ xs. AllZip (IsCellBy m) xs c.put_cells.new.cells) c.as_slice.ensures z),
      banks_are s m c.requires.finished c.requires.once c.in_ok-widths.ensures c.put_banks.new.banks (subst (λ xs. AllZip (IsBankBy m) xs c.put_banks.new.banks) c.as_slice-2.ensures w),
    )
