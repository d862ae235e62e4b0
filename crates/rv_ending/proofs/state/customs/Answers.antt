use Rattle.std.proofs.Common.{◌≡◌, ◌∙◌, ap, sym, ◌++◌, ◌+◌, suc, subst, arith}
use Rattle.std.proofs.lemmas.List.{append_assoc}
use Rattle.rv_ending.specs.Differing.{IsCompared}
use Rattle.rv_ending.specs.Owed.{custom_part, customs_from}
use Rattle.rv_ending.proofs.Pieces.{customs_more}
use Rattle.rv_ending.proofs.state.customs.Goals as goal

pub loop-number-preserved : goal.loop-number-preserved
loop-number-preserved c = (
  c.custom-so_far.ensures.room,
  c.custom-so_far.ensures.empty,
  λ first told is.
      (let one = c.args.one.now in
      let n = c.loop-number.number in
      let up : n + 1 ≡ suc n = omega arith in
      let line : (told ++ customs_from one 0 n) ++ custom_part one n ≡ told ++ customs_from one 0 (n + 1) =
      append_assoc told (customs_from one 0 n) (custom_part one n) ∙ ap (λ l. told ++ l) (sym (customs_more one n)) ∙ ap (λ m. told ++ customs_from one 0 m) (sym up) in
      subst (λ l. IsCompared first c.args.text.now l c.custom-so_far.result) line (c.custom-so_far.ensures.compared first (told ++ customs_from one 0 n) (c.loop-number.invariant.2 first told is))),
)

pub returns-clause-compared : goal.returns-clause-compared
returns-clause-compared c = λ first so_far is.
    let test = c.loop-number-test.false in
    let most = c.loop-number.auto.number-end in
    let e : c.loop-number.number ≡ 16 = omega (arith, test, most) in
    subst (λ n. IsCompared first c.args.text.now (so_far ++ customs_from c.args.one.now 0 n) c.loop-number.so_far) e (c.loop-number.invariant.2 first so_far is)
