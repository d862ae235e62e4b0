use Rattle.std.proofs.Common.{◌≡◌, ◌-◌, [], get_or, take, length, arith}
use Rattle.std.proofs.lemmas.List.{length-take-le}
use Rattle.ix_vnets.proofs.Hexes.{no_last, one_number, no_front, joined_answer, below_high, last_of, only_of, is_hex_none}
use Rattle.ix_vnets.proofs.number.+number_in.Goals as goal

pub returns-in-empty : goal.returns-in-empty
returns-in-empty t c = is_hex_none c.args.digits.now c.in-empty.len_below

pub returns-in-Some : goal.returns-in-Some
returns-in-Some t c =
    let xs = c.args.digits.now in
    one_number c.from.result (get_or xs 0 0) xs (only_of xs c.in-len1.len_at_least c.in-len1.len_below) (omega (arith, c.from.ensures, c.in-Some.ensures.0)) (let e = c.from.ensures in cc (e, c.in-Some.ensures.1))

pub returns-in-None : goal.returns-in-None
returns-in-None t c = (let xs = c.args.digits.now in no_last (get_or xs 0 0) [] xs (only_of xs c.in-len1.len_at_least c.in-len1.len_below) c.in-None.ensures)

pub returns-in_default : goal.returns-in_default
returns-in_default t c = (let xs = c.args.digits.now in no_last (get_or xs (length xs - 1) 0) (take (length xs - 1) xs) xs (last_of xs (omega (arith, c.in-len1-up.len_at_least))) c.in_default.ensures)

pub returns-in_default-number_in : goal.returns-in_default-number_in
returns-in_default-number_in t c =
    let xs = c.args.digits.now in
    let size : length (take (length xs - 1) xs) ≡ length xs - 1 = length-take-le (length xs - 1) xs (omega arith) in
    no_front (get_or xs (length xs - 1) 0) (take (length xs - 1) xs) xs (last_of xs (omega (arith, c.in-len1-up.len_at_least))) (omega (arith, size, c.in-len1-up.len_at_least)) c.in_default-number_in.ensures

pub joined-requires-clause-front_small : goal.joined-requires-clause-front_small
joined-requires-clause-front_small t c =
    let xs = c.args.digits.now in
    let size : length (take (length xs - 1) xs) ≡ length xs - 1 = length-take-le (length xs - 1) xs (omega arith) in
    below_high (length (take (length xs - 1) xs)) c.in-Some-number_in.high (omega (arith, size, c.requires)) c.in-Some-number_in.ensures.1

pub returns-in-Some-number_in : goal.returns-in-Some-number_in
returns-in-Some-number_in t c =
    let xs = c.args.digits.now in
    let size : length (take (length xs - 1) xs) ≡ length xs - 1 = length-take-le (length xs - 1) xs (omega arith) in
    joined_answer xs (take (length xs - 1) xs) (get_or xs (length xs - 1) 0) c.in-Some-number_in.high c.in-Some-digit_in.low c.joined.result (last_of xs (omega (arith, c.in-len1-up.len_at_least)))
    (omega (arith, size, c.in-len1-up.len_at_least)) c.in-Some-number_in.ensures.0 c.in-Some-number_in.ensures.1 c.in-Some-digit_in.ensures.0 c.in-Some-digit_in.ensures.1 c.joined.ensures
