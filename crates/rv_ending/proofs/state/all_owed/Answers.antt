use Rattle.std.proofs.Common.{◌≡◌, ◌∙◌, ap, sym, ◌++◌, ◌+◌, ◌≤◌, take, length, subst, arith}
use Rattle.std.specs.List.{flat_map}
use Rattle.std.proofs.lemmas.List.{append_assoc, take_all}
use Rattle.rv_ending.specs.Differing.{IsCompared}
use Rattle.rv_ending.specs.Owed.{owed_lines}
use Rattle.rv_ending.proofs.Pieces.{lines_more}
use Rattle.rv_ending.proofs.state.all_owed.Goals as goal

pub loop-at-preserved : goal.loop-at-preserved
loop-at-preserved c = (
  c.lines_of-so_far.ensures.room,
  c.lines_of-so_far.ensures.empty,
  λ first told is.
      (let owed = c.args.owed.now in
      let n = c.loop-at.at in
      let one = c.one_at-one.result.now in
      let line : (told ++ flat_map owed_lines (take n owed)) ++ owed_lines one ≡ told ++ flat_map owed_lines (take (n + 1) owed) =
      append_assoc told (flat_map owed_lines (take n owed)) (owed_lines one) ∙ ap (λ l. told ++ l) (sym (lines_more owed n one c.one_at-one.ensures)) in
      subst (λ l. IsCompared first c.args.text.now l c.lines_of-so_far.result) line (c.lines_of-so_far.ensures.compared first (told ++ flat_map owed_lines (take n owed)) (c.loop-at.invariant.2 first told is))),
)

pub returns-clause-compared : goal.returns-clause-compared
returns-clause-compared c = λ first so_far is.
    let test = c.loop-at-test.false in
    let past : length c.args.owed.now ≤ c.loop-at.at = omega (arith, test) in
    subst (λ l. IsCompared first c.args.text.now (so_far ++ flat_map owed_lines l) c.loop-at.so_far) (take_all c.loop-at.at c.args.owed.now past) (c.loop-at.invariant.2 first so_far is)
