use Rattle.std.proofs.Common.{◌∙◌, ◌+◌, sym}
use Rattle.rv_barrel.specs.Older.{serial_left}
use Rattle.rv_barrel.proofs.Olders.{left, left_first, rest_of, rest_asked, or_first, or_second}
use Rattle.rv_barrel.proofs.older.+eldest_undone.Goals as goal

pub returns-in-None : goal.returns-in-None
returns-in-None t c k q same h =
    let s = c.args.standing.now in
    let stages = c.args.shape.stages in
    let stage = c.args.stage in
    let rest = c.eldest_undone.ensures k q same (rest_asked k s h) in
    or_second (left k stage q s) (left k (stage + 1) q (rest_of s)) (serial_left stages stage c.slot-item.result) c.own_undone.result
    (left_first k stages stage q s c.slot-item.result c.in-len1-up.len_at_least c.slot-item.is same h) (sym rest ∙ c.in-None.is) c.own_undone.ensures

pub returns-in_default : goal.returns-in_default
returns-in_default t c k q same h =
    let s = c.args.standing.now in
    let stages = c.args.shape.stages in
    let stage = c.args.stage in
    let rest = c.eldest_undone.ensures k q same (rest_asked k s h) in
    rest
    ∙ or_first (left k stage q s) (left k (stage + 1) q (rest_of s)) (serial_left stages stage c.slot-item.result)
    (left_first k stages stage q s c.slot-item.result c.in-len1-up.len_at_least c.slot-item.is same h) (λ none. c.in_default.not-None (rest ∙ none))
