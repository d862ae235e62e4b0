use Rattle.std.proofs.Common.{◌∙◌, sym, ◌+◌, length}
use Rattle.rv_reader.specs.Traces.{IsBadGroup, IsBadRest}
use Rattle.rv_reader.proofs.States.{err_map, rest_none, rest_bad, rest_group}
use Rattle.rv_reader.proofs.read.read_state.Goals as goal

pub returns-in_default-clause-refused : goal.returns-in_default-clause-refused
returns-in_default-clause-refused c = rest_none c.args.widths.now c.args.text.now c.args.at c.args.line c.in_default.ensures

pub returns-then-not-is_pc_line-clause-refused : goal.returns-then-not-is_pc_line-clause-refused
returns-then-not-is_pc_line-clause-refused c = rest_bad c.args.widths.now c.args.text.now c.args.at c.args.line c.in-Some.pc.now c.in-Some.ensures (sym c.is_pc_line.ensures ∙ c.if-not-is_pc_line.true)

pub returns-clause-refused : goal.returns-clause-refused
returns-clause-refused c =
    err_map c.read_groups.result (λ n. IsBadGroup c.args.widths.now c.args.text.now (c.args.at + length c.in-Some.pc.now + 1) (c.args.line + 1) n) (λ n. IsBadRest c.args.widths.now c.args.text.now c.args.at c.args.line n)
    (λ n b. rest_group c.args.widths.now c.args.text.now c.args.at c.args.line c.in-Some.pc.now c.in-Some.ensures (sym c.is_pc_line.ensures ∙ c.if-not-is_pc_line.false) n b) c.read_groups.ensures.refused
