use Rattle.std.proofs.Common.{◌≡◌, ◌∙◌, sym, ap, subst, ◌+◌, ◌<◌, ◌≤◌, [], ◌∷◌, ◌++◌, take, get_or, length, arith}
use Rattle.std.proofs.lemmas.List.{take_more, append_assoc, take_all}
use Rattle.rv_ending.specs.declared.compare.Compared.{Compared}
use Rattle.rv_ending.specs.Differing.{IsCompared}
use Rattle.rv_ending.proofs.Next.{next_known}
use Rattle.rv_ending.proofs.compare.Compared.with.Goals as goal

pub loop-byte-preserved : goal.loop-byte-preserved
loop-byte-preserved c = (
  c.with_byte-compared.ensures.room,
  λ first so_far is.
      (let text = c.args.text.now in
      let piece = c.args.piece.now in
      let i = c.loop-byte.byte-index in
      let test = c.loop-byte-test.true in
      let long = c.loop-byte.auto.byte-index-end in
      let within : i < length piece = omega (arith, test, long) in
      let next = next_known first text (so_far ++ take i piece) (get_or piece i 0) c.loop-byte.compared (c.loop-byte.invariant.1 first so_far is) in
      let whole : (so_far ++ take i piece) ++ get_or piece i 0 ∷ [] ≡ so_far ++ take (i + 1) piece = append_assoc so_far (take i piece) (get_or piece i 0 ∷ []) ∙ ap (λ l. so_far ++ l) (sym (take_more piece i 0 within)) in
      subst (λ l. IsCompared first text l c.with_byte-compared.result) whole
      (subst (λ (d : Compared). IsCompared first text ((so_far ++ take i piece) ++ get_or piece i 0 ∷ []) d) (sym c.with_byte-compared.ensures.next) next)),
)

pub returns-clause-compared : goal.returns-clause-compared
returns-clause-compared c = λ first so_far is.
    let piece = c.args.piece.now in
    let i = c.loop-byte.byte-index in
    let test = c.loop-byte-test.false in
    let past : length piece ≤ i = omega (arith, test) in
    subst (λ l. IsCompared first c.args.text.now l c.loop-byte.compared) (ap (λ l. so_far ++ l) (take_all i piece past)) (c.loop-byte.invariant.1 first so_far is)
