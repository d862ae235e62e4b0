use Rattle.std.proofs.Common.{◌∙◌, ap, map, List, [], ℕ, Bor, get_or, arith}
use Rattle.ix_extension.specs.Extensions.{view_instruction}
use Rattle.rv_asm.specs.Labels.{found}
use Rattle.rv_asm.specs.Verdicts.{line_verdict}
use Rattle.rv_asm.specs.Sources.{assembled_from}
use Rattle.rv_asm.proofs.Assembling.{taken, failed}
use Rattle.rv_asm.proofs.source.assemble_lines.Goals as goal

abbrev no_line : Bor (List ℕ)
no_line = record { ref_ptr = (0, 0); now = [] }

pub returns-in-Err-clause-refused : goal.returns-in-Err-clause-refused
returns-in-Err-clause-refused c =
    let own = map view_instruction c.args.instructions.now in
    let places = found c.args.labels.now in
    failed own places c.args.lines.now c.loop-i.i no_line (omega (arith, c.loop-i-test.true)) c.in-Ok.verdict c.loop-i.image
    (assembled_from own places 0 0 (map (λ (x : Bor (List ℕ)). x.now) c.args.lines.now)) c.in-Err.error
    (c.in-Ok.ensures ∙ ap (λ (k : ℕ). line_verdict own places c.loop-i.i k (get_or c.args.lines.now c.loop-i.i no_line).now) c.len-at.ensures.value)
    c.in-Err.ensures.refused c.loop-i.invariant.rest

pub loop-i-preserved : goal.loop-i-preserved
loop-i-preserved c =
    let own = map view_instruction c.args.instructions.now in
    let places = found c.args.labels.now in
    record {
      rest = taken own places c.args.lines.now c.loop-i.i no_line (omega (arith, c.loop-i-test.true)) c.in-Ok.verdict c.loop-i.image c.take_line.new.image
          (assembled_from own places 0 0 (map (λ (x : Bor (List ℕ)). x.now) c.args.lines.now))
          (c.in-Ok.ensures ∙ ap (λ (k : ℕ). line_verdict own places c.loop-i.i k (get_or c.args.lines.now c.loop-i.i no_line).now) c.len-at.ensures.value)
          c.in-Ok-take_line.ensures.taken c.loop-i.invariant.rest;
    }
