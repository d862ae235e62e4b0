-- What is unrolled has no loop.
use Rattle.std.proofs.Common.{◌≡◌, List, [], ◌∷◌, map, Bool, true, false, cond, ◌&&◌, ℤ, refl, ap, ◌∙◌}
use Rattle.std.specs.List.{list_all}
use Rattle.ix_tree.specs.declared.token.Span.{Span}
use Rattle.ix_tree.specs.LoopHeads.{Binding}
use Rattle.ix_tree.specs.Trees.{StmtTree, s_block, s_empty, s_locals, s_assign, s_if, s_if_else, s_for, s_spawn, StmtRow, row_end, row_more, InstrTree, BlockTree, SectionTree, SectionKindTree, k_states, k_instructions, k_always}
use Rattle.ix_tree.specs.Unrolling.{Turns, these, breaks, is_loop, held, opened, copies, copies_of, row_join, alone, inside, with_value, judged, has_no_loop, no_loop_in, no_loop_in_kind, alone_instr, alone_block, alone_kind, alone_section}

both : (a b : Bool) → a ≡ true → b ≡ true → (a && b) ≡ true
both a b e f = rw (e, f) refl

join_flat : (xs ys : StmtRow) → no_loop_in xs ≡ true → no_loop_in ys ≡ true → no_loop_in (row_join xs ys) ≡ true
join_flat row_end ys e f = f
join_flat (row_more x xs) ys e f = by_first (has_no_loop x) _ _ (λ g. join_flat xs ys g f) e
  where
    by_first : (a b c : Bool) → (b ≡ true → c ≡ true) → (a && b) ≡ true → (a && c) ≡ true
    by_first true b c k g = k g
    by_first false b c k g = g

held_flat : (y : StmtTree) → has_no_loop y ≡ true → no_loop_in (held y) ≡ true
held_flat (s_block s all) e = e
held_flat (s_empty s) e = both _ _ e refl
held_flat (s_locals s ty ds) e = both _ _ e refl
held_flat (s_assign s a) e = both _ _ e refl
held_flat (s_if s c x) e = both _ _ e refl
held_flat (s_if_else s c x y) e = both _ _ e refl
held_flat (s_for s ty n start test last body) e = both _ _ e refl
held_flat (s_spawn s x) e = both _ _ e refl

chosen_flat : (b : Bool) (xs ys : StmtRow) → no_loop_in xs ≡ true → no_loop_in ys ≡ true → no_loop_in (cond b xs ys) ≡ true
chosen_flat true xs ys e f = e
chosen_flat false xs ys e f = f

opened_flat : (x y : StmtTree) → has_no_loop y ≡ true → no_loop_in (opened x y) ≡ true
opened_flat x y e = chosen_flat (is_loop x) (held y) (row_more y row_end) (held_flat y e) (both _ _ e refl)

copies_flat : (s : Span) (body : ℤ → StmtRow) (vs : List ℤ) → ((v : ℤ) → no_loop_in (body v) ≡ true) → no_loop_in (copies s body vs) ≡ true
copies_flat s body [] h = refl
copies_flat s body (v ∷ vs) h = both _ _ (h v) (copies_flat s body vs h)

copies_of_flat : (s : Span) (body : ℤ → StmtRow) (t : Turns) → ((v : ℤ) → no_loop_in (body v) ≡ true) → no_loop_in (copies_of s body t) ≡ true
copies_of_flat s body (these vs) h = copies_flat s body vs h
copies_of_flat s body (breaks b) h = refl

mutual
  pub alone_flat : (x : StmtTree) (bs : List Binding) → has_no_loop (alone x bs) ≡ true
  alone_flat (s_block s all) bs = inside_flat all bs
  alone_flat (s_empty s) bs = refl
  alone_flat (s_locals s ty ds) bs = refl
  alone_flat (s_assign s a) bs = refl
  alone_flat (s_if s c x) bs = alone_flat x bs
  alone_flat (s_if_else s c x y) bs = both _ _ (alone_flat x bs) (alone_flat y bs)
  alone_flat (s_for s ty n start test last body) bs = copies_of_flat s (λ v. opened body (alone body (with_value bs n v))) (judged bs (record { name = n; start = start; test = test; last = last }) body) (λ v. opened_flat body (alone body (with_value bs n v)) (alone_flat body (with_value bs n v)))
  alone_flat (s_spawn s x) bs = alone_flat x bs

  inside_flat : (all : StmtRow) (bs : List Binding) → no_loop_in (inside all bs) ≡ true
  inside_flat row_end bs = refl
  inside_flat (row_more x rest) bs = join_flat (opened x (alone x bs)) (inside rest bs) (opened_flat x (alone x bs) (alone_flat x bs)) (inside_flat rest bs)

instrs_flat : (xs : List InstrTree) → list_all (λ i. has_no_loop i.body) (map alone_instr xs) ≡ true
instrs_flat [] = refl
instrs_flat (x ∷ xs) = both _ _ (alone_flat x.body []) (instrs_flat xs)

blocks_flat : (xs : List BlockTree) → list_all (λ b. has_no_loop b.body) (map alone_block xs) ≡ true
blocks_flat [] = refl
blocks_flat (x ∷ xs) = both _ _ (alone_flat x.body []) (blocks_flat xs)

kind_flat : (k : SectionKindTree) → no_loop_in_kind (alone_kind k) ≡ true
kind_flat (k_states xs) = refl
kind_flat (k_instructions xs) = instrs_flat xs
kind_flat (k_always xs) = blocks_flat xs

pub sections_flat : (xs : List SectionTree) → list_all (λ s. no_loop_in_kind s.kind) (map alone_section xs) ≡ true
sections_flat [] = refl
sections_flat (x ∷ xs) = both _ _ (kind_flat x.kind) (sections_flat xs)

pub all_flat : (ys xs : List SectionTree) → ys ≡ map alone_section xs → list_all (λ s. no_loop_in_kind s.kind) ys ≡ true
all_flat ys xs e = ap (list_all (λ s. no_loop_in_kind s.kind)) e ∙ sections_flat xs
