use Rattle.std.proofs.Common.{◌≡◌, refl, ℕ, zero, suc, ◌<◌, [], ◌∷◌, List, length, get_or, map, ap, arith, Bor}
use Rattle.ix_graph.specs.Kinds.{kind_words}
use Rattle.ix_graph.proofs.KindLemmas.{word_short}
use Rattle.ix_graph.proofs.kind.kind_word.Goals as goal

-- what an element points to
now_at : (xs : List (Bor (List ℕ))) (k : ℕ) (d : Bor (List ℕ)) → k < length xs → (get_or xs k d).now ≡ get_or (map (λ (r : Bor (List ℕ)). r.now) xs) k []
now_at [] k d h = absurd (omega arith)
now_at (x ∷ xs) zero d h = refl
now_at (x ∷ xs) (suc k) d h = now_at xs k d (omega arith)

pub returns-clause-value : goal.returns-clause-value
unfolding kind_words
returns-clause-value c =
    let within : c.from.result < 34 = omega (arith, c.from.ensures, c.requires) in
    rw now_at (ap (λ (k : ℕ). get_or kind_words k []) c.from.ensures)

pub returns-clause-short : goal.returns-clause-short
unfolding kind_words
returns-clause-short c =
    let within : c.from.result < 34 = omega (arith, c.from.ensures, c.requires) in
    rw now_at (word_short c.from.result within)
