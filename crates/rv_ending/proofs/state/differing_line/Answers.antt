use Rattle.std.proofs.Common.{◌≡◌, ◌∙◌, ap, sym, ◌++◌, [], length, subst, arith}
use Rattle.std.specs.List.{flat_map}
use Rattle.rv_text.specs.RunText.{head_text, memory_lines, state_text}
use Rattle.rv_ending.specs.Differing.{IsCompared}
use Rattle.rv_ending.specs.Owed.{owed_pairs, owed_lines}
use Rattle.rv_ending.proofs.Pieces.{state_pieces}
use Rattle.rv_ending.proofs.state.differing_line.Goals as goal

pub pass-head-requires : goal.pass-head-requires
pass-head-requires c = record { room = (let at = c.new-3.ensures.start.0 in let line = c.new-3.ensures.start.1 in let fits = c.requires.lines in omega (arith, at, line, fits)) }

pub returns : goal.returns
returns c = record {
  line = λ x e sixteen.
      (let text = c.args.text.now in
      let arch = c.args.arch.now in
      let owed = c.args.owed.now in
      let head : c.put_head.new.out ≡ head_text (length x.registers) [] arch =
      c.put_head.ensures.text ∙ ap (λ l. l ++ head_text c.args.registers [] arch) c.in_ok-out.ensures ∙ ap (λ r. head_text r [] arch) (sym e) in
      let told = c.words-whole.ensures.compared c.args.first (c.put_head.new.out ++ flat_map owed_lines owed)
      (c.all_owed-outstanding.ensures.compared c.args.first c.put_head.new.out (c.pass-head.ensures.compared c.args.first [] (c.new-3.ensures.compared text))) in
      let whole : (c.put_head.new.out ++ flat_map owed_lines owed) ++ memory_lines arch.mem 262144 0 ≡ state_text x (flat_map owed_pairs owed) arch =
      ap (λ l. (l ++ flat_map owed_lines owed) ++ memory_lines arch.mem 262144 0) head ∙ state_pieces x owed arch sixteen in
      c.differs.ensures c.args.first (state_text x (flat_map owed_pairs owed) arch) (subst (λ l. IsCompared c.args.first text l c.words-whole.result) whole told));
}
