-- A design that stands has few behaviours, and so few units.
use Rattle.std.proofs.Common.{◌≡◌, refl, ap, ℕ, zero, suc, ◌+◌, ◌≤◌, List, [], ◌∷◌, length, map, Bool, true, false, arith}
use Rattle.std.specs.List.{range_with_len}
use Rattle.std.proofs.lemmas.List.{length-append, length-map}
use Rattle.ix_extension.specs.Extensions.{view_extension}
use Rattle.ix_behaviour.specs.Laws.{FewLaw}
use Rattle.ix_plan.specs.declared.design.Plan.{Plan}
use Rattle.ix_plan.specs.declared.design.Design.{Design}
use Rattle.ix_standing.specs.Standing.{instruction_number, block_number, Stands}
use Rattle.rv_unit.specs.Numbering.{is_decoupled, with_last, lasts_of}

one_more : (b : Bool) (last n : ℕ) (lasts : List ℕ) → length lasts ≤ n → length (with_last b last lasts) ≤ suc n
one_more true last n lasts h = omega (arith, h)
one_more false last n lasts h = omega (arith, h)

no_more : (plans : List Plan) → length (lasts_of plans) ≤ length plans
no_more [] = omega arith
no_more (p ∷ plans) = one_more (is_decoupled p.mode) p.last (length plans) (lasts_of plans) (no_more plans)

range_length : (a n : ℕ) → length (range_with_len a n) ≡ n
range_length a zero = refl
range_length a (suc n) = ap suc (range_length (a + 1) n)

pub few_plans : (d : Design) → FewLaw → Stands d → length d.plans ≤ 72
few_plans d law stands =
    let x = view_extension d.extension in
    let few = law stands.well_formed.0 x stands.well_formed.1 in
    let all = stands.built.plan_count in
    let sum = length-append (map instruction_number (range_with_len 0 (length x.instructions))) (map block_number (range_with_len 0 (length x.blocks))) in
    let i = length-map (range_with_len 0 (length x.instructions)) instruction_number in
    let b = length-map (range_with_len 0 (length x.blocks)) block_number in
    let n = range_length 0 (length x.instructions) in
    let m = range_length 0 (length x.blocks) in
    let instructions = few.instructions in
    let blocks = few.blocks in
    omega (arith, all, sum, i, b, n, m, instructions, blocks)

pub few_units : (d : Design) → FewLaw → Stands d → length (lasts_of d.plans) ≤ 72
few_units d law stands =
    let few = few_plans d law stands in
    let most = no_more d.plans in
    omega (arith, few, most)
