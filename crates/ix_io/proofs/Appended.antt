-- What a sink tells, over one write after another.
use Rattle.std.proofs.Common.{◌≤◌, length, arith, length-append, ℕ, ◌+◌, List, [], ◌++◌, take, Option, None, Some, sym, ◌∙◌, ap, append_assoc}
use Rattle.std.proofs.lemmas.List.{append-nil, take-append-le}
use Rattle.std.proofs.Math.Seq.{take-append-add}
use Rattle.ix_io.specs.Sink.{Appends, AppendsFront}

-- nothing was appended
pub Appends_none : (told : Option (List ℕ)) → Appends told told []
Appends_none None = tt
Appends_none (Some bytes) = sym (append-nil bytes)

-- one write after another
pub Appends_more : (a b c : Option (List ℕ)) (xs ys : List ℕ) → Appends a b xs → Appends b c ys → Appends a c (xs ++ ys)
Appends_more a b None xs ys first second = tt
Appends_more a None (Some r) xs ys first second = absurd second
Appends_more None (Some q) (Some r) xs ys first second = absurd first
Appends_more (Some p) (Some q) (Some r) xs ys first second = second ∙ ap (λ l. l ++ ys) first ∙ append_assoc p xs ys

-- a whole write, and then a front of another
pub AppendsFront_behind : (a b c : Option (List ℕ)) (xs ys : List ℕ) → Appends a b xs → AppendsFront b c ys → AppendsFront a c (xs ++ ys)
AppendsFront_behind a b c xs ys whole front = record {
  count = length xs + front.count;
  short = omega (arith, length-append xs ys, front.short);
  appends = rw (take-append-add xs ys front.count) (Appends_more a b c xs (take front.count ys) whole front.appends);
}

-- a front is a front of more bytes
pub AppendsFront_of_more : (a b : Option (List ℕ)) (xs ys : List ℕ) → AppendsFront a b xs → AppendsFront a b (xs ++ ys)
AppendsFront_of_more a b xs ys front =
    let within : front.count ≤ length xs = omega (arith, front.short) in record {
      count = front.count;
      short = omega (arith, length-append xs ys, front.short);
      appends = rw (take-append-le front.count xs ys within) front.appends;
    }
