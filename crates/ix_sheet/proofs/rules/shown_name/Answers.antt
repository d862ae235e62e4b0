use Rattle.std.proofs.Common.{◌≡◌, ◌∙◌, length, take, map, min, ap, arith}
use Rattle.std.proofs.lemmas.List.{take_all, take_min}
use Rattle.ix_sheet.specs.Datasheets.{shown, shown_byte}
use Rattle.ix_sheet.proofs.rules.shown_name.Goals as goal

pub returns : goal.returns
returns c =
    let bytes = c.as_bytes-bytes.result.now in
    let least : c.min.result ≡ min 64 (length bytes) = omega arith in
    let front : take c.min.result bytes ≡ take 64 c.args.key.now =
    ap (λ n. take n bytes) least ∙ take_min 64 bytes ∙ ap (take 64) c.as_bytes-bytes.ensures.value
    in
    let whole : take c.loop-byte.byte-index (take c.min.result bytes) ≡ take c.min.result bytes =
    take_all c.loop-byte.byte-index (take c.min.result bytes) c.loop-byte-test.false
    in
    let name : c.as_str.result.now ≡ shown c.args.key.now =
    c.as_str.ensures.value ∙ c.loop-byte.invariant ∙ ap (map shown_byte) (whole ∙ front)
    in
    rw (← name) c.from_text.ensures
