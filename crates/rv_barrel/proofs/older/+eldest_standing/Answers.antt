use Rattle.std.proofs.Common.{◌∙◌, sym}
use Rattle.rv_barrel.specs.Older.{serial_so}
use Rattle.rv_barrel.proofs.Olders.{found, found_first, rest_of, rest_asked, or_first, or_second}
use Rattle.rv_barrel.proofs.older.+eldest_standing.Goals as goal

pub returns-in-None : goal.returns-in-None
returns-in-None t c k q h =
    let s = c.args.standing.now in
    let rest = c.eldest_standing.ensures k q (rest_asked k s h) in
    or_second (found k c.args.wanted q s) (found k c.args.wanted q (rest_of s)) (serial_so c.args.wanted c.slot-item.result) c.own_serial.result
    (found_first k c.args.wanted q s c.slot-item.result c.in-len1-up.len_at_least c.slot-item.is h) (sym rest ∙ c.in-None.is) c.own_serial.ensures

pub returns-in_default : goal.returns-in_default
returns-in_default t c k q h =
    let s = c.args.standing.now in
    let rest = c.eldest_standing.ensures k q (rest_asked k s h) in
    rest
    ∙ or_first (found k c.args.wanted q s) (found k c.args.wanted q (rest_of s)) (serial_so c.args.wanted c.slot-item.result)
    (found_first k c.args.wanted q s c.slot-item.result c.in-len1-up.len_at_least c.slot-item.is h) (λ none. c.in_default.not-None (rest ∙ none))
