use Rattle.std.proofs.Common.{◌≡◌, ◌<◌, ◌+◌, ◌-◌, ◌%◌, sym, ap, refl, ◌∙◌, subst, length, map, get_or, arith}
use Rattle.std.proofs.lemmas.List.{length-map, get_or-map}
use Rattle.ix_extension.specs.Extensions.{view_instruction}
use Rattle.rv_isa.specs.Fields.{IsInRange}
use Rattle.rv_isa.specs.Encoded.{encoded}
use Rattle.rv_bench.specs.DrawnImage.{bases, extension_word, candidates}
use Rattle.rv_bench.proofs.Choosing.{at_place, in_front, behind}
use Rattle.rv_bench.proofs.InRange.{all_in_range}
use Rattle.rv_bench.proofs.word.drawn_word.Goals as goal

pub encode-requires : goal.encode-requires
encode-requires c =
    let some = c.args.instructions.now in
    at_place IsInRange (bases c.args.draws) (c.args.draws.choice % (8 + length some)) c.base.result (all_in_range c.args.draws) c.base.ensures

pub returns-then-place-lt-BASES : goal.returns-then-place-lt-BASES
returns-then-place-lt-BASES c =
    let some = map view_instruction c.args.instructions.now in
    let at = c.args.draws.choice % (8 + length c.args.instructions.now) in
    subst (λ n. c.encode.result ≡ get_or (candidates some c.args.draws) (c.args.draws.choice % (8 + n)) 0) (sym (length-map c.args.instructions.now view_instruction))
    (c.encode.ensures.value ∙ sym (in_front (λ b. encoded b) (bases c.args.draws) (map (extension_word c.args.draws) some) at c.base.result 0 c.base.ensures))

pub returns-else-place-lt-BASES : goal.returns-else-place-lt-BASES
returns-else-place-lt-BASES c =
    let all = c.args.instructions.now in
    let some = map view_instruction all in
    let at = c.args.draws.choice % (8 + length all) in
    let past = c.if-place-lt-BASES.false in
    let one = c.index-instructions-place.result in
    let within : at - 8 < length all = omega (arith, past) in
    let kept : length some ≡ length all = length-map all view_instruction in
    let is : view_instruction one ≡ get_or some (at - 8) (view_instruction one) = ap view_instruction c.index-instructions-place.is ∙ sym (get_or-map view_instruction all (at - 8) one (view_instruction one) within) in
    subst (λ n. c.extension_word.result ≡ get_or (candidates some c.args.draws) (c.args.draws.choice % (8 + n)) 0) (sym kept)
    (c.extension_word.ensures ∙ sym (behind (λ b. encoded b) (extension_word c.args.draws) (bases c.args.draws) some 8 at (view_instruction one) 0 refl past (subst (λ n. at - 8 < n) (sym kept) within) is))
