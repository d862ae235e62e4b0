-- The marks of statements are as many as the statements of the result.
use Rattle.std.proofs.Common.{◌≡◌, ℕ, ◌+◌, ◌<◌, ◌≤◌, List, [], ◌∷◌, ◌++◌, map, Bool, true, false, None, ℤ, refl, arith, nat_lt}
use Rattle.std.proofs.lemmas.Bool.{ltb-true}
use Rattle.ix_tree.specs.declared.token.Span.{Span}
use Rattle.ix_tree.specs.LoopHeads.{Binding}
use Rattle.ix_tree.specs.Trees.{StmtTree, s_block, s_empty, s_locals, s_assign, s_if, s_if_else, s_for, s_spawn, StmtRow, row_end, row_more, InstrTree, BlockTree, SectionTree, SectionKindTree, k_states, k_instructions, k_always}
use Rattle.ix_tree.specs.Unrolling.{Turns, these, breaks, Mark, statement, fault, size_at, first_refusal, opened, copies, copies_of, row_join, alone, inside, with_value, judged, unblocked, opened_marks, copy_marks, loop_marks, met, met_row, met_instrs, met_blocks, met_kind, met_sections, alone_instr, alone_block, alone_kind, alone_section}
use Rattle.ix_unroll.specs.Telling.{statements}
use Rattle.ix_unroll.specs.Laws.{count, count_row, count_instrs, count_blocks, count_kind, count_sections, MarksLaw}
use Rattle.ix_unroll.proofs.Marks.{chosen_none, count_join}

-- ---- marks without a fault
abbrev faultless : List Mark → Bool
faultless [] = true
faultless (statement s ∷ ms) = faultless ms
faultless (fault b s ∷ ms) = false

faultless_join : (xs ys : List Mark) → faultless (xs ++ ys) ≡ true → (faultless xs ≡ true) × (faultless ys ≡ true)
faultless_join [] ys e = (refl, e)
faultless_join (statement s ∷ xs) ys e = faultless_join xs ys e
faultless_join (fault b s ∷ xs) ys e = cc

none_refused : (n : ℕ) (ms : List Mark) → first_refusal n ms ≡ None → faultless ms ≡ true
none_refused n [] e = refl
none_refused n (statement s ∷ ms) e = none_refused (n + 1) ms (chosen_none (nat_lt n 16384) (first_refusal (n + 1) ms) (size_at s) e).1
none_refused n (fault b s ∷ ms) e = cc

-- what is not refused has few statements
few_statements : (n : ℕ) (ms : List Mark) → n ≤ 16384 → first_refusal n ms ≡ None → n + statements ms ≤ 16384
few_statements n [] l e = omega arith
few_statements n (statement s ∷ ms) l e =
    let p = chosen_none (nat_lt n 16384) (first_refusal (n + 1) ms) (size_at s) e in
    let below : n < 16384 = ltb-true n 16384 p.0 in
    let rest = few_statements (n + 1) ms (omega arith) p.1 in
    omega arith
few_statements n (fault b s ∷ ms) l e = cc

-- ---- rows
count_join_rows : (xs ys : StmtRow) → count_row (row_join xs ys) ≡ count_row xs + count_row ys
count_join_rows row_end ys = omega arith
count_join_rows (row_more x xs) ys = let h = count_join_rows xs ys in omega arith

-- ---- the copies of a loop
copies_count : (s : Span) (f : ℤ → List Mark) (g : ℤ → StmtRow) (vs : List ℤ) → ((v : ℤ) → faultless (f v) ≡ true → statements (f v) ≡ count_row (g v))
    → faultless (copy_marks s f vs) ≡ true → statements (copy_marks s f vs) ≡ count_row (copies s g vs)
copies_count s f g [] h e = refl
copies_count s f g (v ∷ vs) h e =
    let p = faultless_join (f v) (copy_marks s f vs) e in
    let here = h v p.0 in
    let rest = copies_count s f g vs h p.1 in
    let joined = count_join (f v) (copy_marks s f vs) in
    omega arith

loop_count : (s : Span) (f : ℤ → List Mark) (g : ℤ → StmtRow) (t : Turns) → ((v : ℤ) → faultless (f v) ≡ true → statements (f v) ≡ count_row (g v))
    → faultless (loop_marks s f t) ≡ true → statements (loop_marks s f t) ≡ 1 + count_row (copies_of s g t)
loop_count s f g (these vs) h e = let c = copies_count s f g vs h e in omega arith
loop_count s f g (breaks b) h e = cc

-- in a block a loop makes no block of its own
loop_opened : (s : Span) (f : ℤ → List Mark) (t : Turns) (row : StmtRow) → (faultless (loop_marks s f t) ≡ true → statements (loop_marks s f t) ≡ 1 + count_row row)
    → faultless (unblocked (loop_marks s f t)) ≡ true → statements (unblocked (loop_marks s f t)) ≡ count_row row
loop_opened s f (these vs) row h e = let c = h e in omega arith
loop_opened s f (breaks b) row h e = cc

alone_row : (n m : ℕ) → n ≡ m → n ≡ m + 0
alone_row n m e = omega arith

opened_count : (x : StmtTree) (bs : List Binding) → (faultless (met x bs) ≡ true → statements (met x bs) ≡ count (alone x bs))
    → faultless (opened_marks x (met x bs)) ≡ true → statements (opened_marks x (met x bs)) ≡ count_row (opened x (alone x bs))
opened_count (s_block s all) bs h e = alone_row _ _ (h e)
opened_count (s_empty s) bs h e = alone_row _ _ (h e)
opened_count (s_locals s ty ds) bs h e = alone_row _ _ (h e)
opened_count (s_assign s a) bs h e = alone_row _ _ (h e)
opened_count (s_if s c x) bs h e = alone_row _ _ (h e)
opened_count (s_if_else s c x y) bs h e = alone_row _ _ (h e)
opened_count (s_for s ty n start test last body) bs h e =
    loop_opened s (λ v. opened_marks body (met body (with_value bs n v))) (judged bs (record { name = n; start = start; test = test; last = last }) body)
    (copies_of s (λ v. opened body (alone body (with_value bs n v))) (judged bs (record { name = n; start = start; test = test; last = last }) body)) h e
opened_count (s_spawn s x) bs h e = alone_row _ _ (h e)

one_more : (n m : ℕ) → n ≡ m → n + 1 ≡ 1 + m
one_more n m e = omega arith

mutual
  pub alone_count : (x : StmtTree) (bs : List Binding) → faultless (met x bs) ≡ true → statements (met x bs) ≡ count (alone x bs)
  alone_count (s_block s all) bs e = one_more _ _ (inside_count all bs e)
  alone_count (s_empty s) bs e = refl
  alone_count (s_locals s ty ds) bs e = refl
  alone_count (s_assign s a) bs e = refl
  alone_count (s_if s c x) bs e = one_more _ _ (alone_count x bs e)
  alone_count (s_if_else s c x y) bs e =
      let p = faultless_join (met x bs) (met y bs) e in
      let first = alone_count x bs p.0 in
      let second = alone_count y bs p.1 in
      let joined = count_join (met x bs) (met y bs) in
      omega arith
  alone_count (s_for s ty n start test last body) bs e =
      loop_count s (λ v. opened_marks body (met body (with_value bs n v))) (λ v. opened body (alone body (with_value bs n v)))
      (judged bs (record { name = n; start = start; test = test; last = last }) body)
      (λ v. opened_count body (with_value bs n v) (alone_count body (with_value bs n v))) e
  alone_count (s_spawn s x) bs e = one_more _ _ (alone_count x bs e)

  pub inside_count : (all : StmtRow) (bs : List Binding) → faultless (met_row all bs) ≡ true → statements (met_row all bs) ≡ count_row (inside all bs)
  inside_count row_end bs e = refl
  inside_count (row_more x rest) bs e =
      let p = faultless_join (opened_marks x (met x bs)) (met_row rest bs) e in
      let first = opened_count x bs (alone_count x bs) p.0 in
      let second = inside_count rest bs p.1 in
      let joined = count_join (opened_marks x (met x bs)) (met_row rest bs) in
      let rows = count_join_rows (opened x (alone x bs)) (inside rest bs) in
      omega arith

-- ---- whole texts
instrs_count : (xs : List InstrTree) → faultless (met_instrs xs) ≡ true → statements (met_instrs xs) ≡ count_instrs (map alone_instr xs)
instrs_count [] e = refl
instrs_count (x ∷ xs) e =
    let p = faultless_join (met x.body []) (met_instrs xs) e in
    let first = alone_count x.body [] p.0 in
    let second = instrs_count xs p.1 in
    let joined = count_join (met x.body []) (met_instrs xs) in
    omega arith

blocks_count : (xs : List BlockTree) → faultless (met_blocks xs) ≡ true → statements (met_blocks xs) ≡ count_blocks (map alone_block xs)
blocks_count [] e = refl
blocks_count (x ∷ xs) e =
    let p = faultless_join (met x.body []) (met_blocks xs) e in
    let first = alone_count x.body [] p.0 in
    let second = blocks_count xs p.1 in
    let joined = count_join (met x.body []) (met_blocks xs) in
    omega arith

kind_count : (k : SectionKindTree) → faultless (met_kind k) ≡ true → statements (met_kind k) ≡ count_kind (alone_kind k)
kind_count (k_states xs) e = refl
kind_count (k_instructions xs) e = instrs_count xs e
kind_count (k_always xs) e = blocks_count xs e

sections_count : (xs : List SectionTree) → faultless (met_sections xs) ≡ true → statements (met_sections xs) ≡ count_sections (map alone_section xs)
sections_count [] e = refl
sections_count (x ∷ xs) e =
    let p = faultless_join (met_kind x.kind) (met_sections xs) e in
    let first = kind_count x.kind p.0 in
    let second = sections_count xs p.1 in
    let joined = count_join (met_kind x.kind) (met_sections xs) in
    omega arith

pub marks_law : MarksLaw
marks_law t none =
    let many = sections_count t.sections (none_refused 0 (met_sections t.sections) none) in
    let few = few_statements 0 (met_sections t.sections) (omega arith) none in
    record { as_many = many; few = omega arith }
