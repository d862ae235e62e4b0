use Rattle.std.proofs.Common.{◌≡◌, ◌∙◌, ap, sym, ◌++◌, ◌∷◌, [], map, append_assoc, arith}
use Rattle.std.specs.List.{range_with_len}
use Rattle.std.proofs.lemmas.Grind.{common_steps}
use Rattle.std.proofs.lemmas.List.FromFn.{map-range_with_len_more}
use Rattle.ix_behaviour.specs.declared.which.Which.TheVariants as W
use Rattle.ix_schedules.proofs.behaviours.put_blocks.Goals as goal

pub loop-number-preserved : goal.loop-number-preserved
loop-number-preserved c =
    let before = c.args.out.now.items in
    let n = c.loop-number.number in
    let front = map (λ k. W.Block k) (range_with_len 0 n) in
    let pushed : c.push.new.self.items ≡ c.loop-number.out.items ++ W.Block n ∷ [] = grind (arith, common_steps) in
    pushed ∙ ap (λ l. l ++ W.Block n ∷ []) c.loop-number.invariant ∙ append_assoc before front (W.Block n ∷ []) ∙ ap (λ l. before ++ l) (sym (map-range_with_len_more (λ k. W.Block k) 0 n n (omega arith)))
