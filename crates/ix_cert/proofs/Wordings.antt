-- What the words of a line say.
use Rattle.std.proofs.Common.{◌≡◌, ℕ, zero, suc, ◌+◌, ◌<◌, ◌≤◌, List, [], ◌∷◌, ◌++◌, length, take, get_or, refl, sym, ap, ◌∙◌, arith, lit<}
use Rattle.std.specs.Prelude.{map, All, codes, decimal}
use denote.Ref.{Bor}
use Rattle.std.specs.Prelude.{◌^◌}
use Rattle.ix_lines.proofs.Numerals.{no_zero}
use Rattle.std.proofs.lemmas.List.Elements.{All-head, All-tail}
use Rattle.ix_sheet.specs.declared.problem.Bound.{Bound}
use Rattle.ix_sheet.specs.declared.problem.Bound.TheVariants.{Early, Late, Dep, Chain}
use Rattle.ix_cert.specs.declared.item.Item.{Item}
use Rattle.ix_cert.specs.declared.item.Item.TheVariants.{Title, Period, Behaviour, Op, Edge, Cost, Flow, Cycle, End}
use Rattle.ix_cert.specs.Layout.{Line}
use Rattle.ix_cert.specs.Items.{IsWide, AreWide, IsBound, IsItem, bound_words, item_words, pair_words}
use Rattle.ix_lines.specs.Readings.{texts}
use Rattle.ix_lines.proofs.Fronts.{take_texts}

pub no_dep : (ws : List Line) → ((x : ℕ × ℕ) → AreWide x → pair_words x ≡ ws → ⊥) → (x : Bound) → IsBound x → bound_words x ≡ codes "dep" ∷ ws → ⊥
no_dep ws h (Early k) w e = grind (arith, e)
no_dep ws h (Late k) w e = grind (arith, e)
no_dep ws h (Dep i j) w e = let t : decimal i ∷ decimal j ∷ [] ≡ ws = cc in h (i, j) w t
no_dep ws h (Chain path) w e = grind (arith, e)

pub no_edge : (ws : List Line) → ((x : ℕ × ℕ) → AreWide x → pair_words x ≡ ws → ⊥) → (x : Item) → IsItem x → item_words x ≡ codes "edge" ∷ ws → ⊥
no_edge ws h (Title version) w e = grind (arith, e)
no_edge ws h (Period period) w e = grind (arith, e)
no_edge ws h (Behaviour name mode) w e = grind (arith, e)
no_edge ws h (Op op) w e = grind (arith, e)
no_edge ws h (Edge i j) w e = let t : decimal i ∷ decimal j ∷ [] ≡ ws = cc in h (i, j) w t
no_edge ws h (Cost cost) w e = grind (arith, e)
no_edge ws h (Flow amount bound) w e = grind (arith, e)
no_edge ws h (Cycle bound) w e = grind (arith, e)
no_edge ws h End w e = grind (arith, e)

pub no_title : (n : ℕ) (ws rest : List Line) → n ≡ 0 → codes "report" ∷ decimal n ∷ rest ≡ ws → (x : Item) → IsItem x → item_words x ≡ codes "longnail" ∷ ws → ⊥
no_title n ws rest z f (Title version) w e =
    let t : codes "report" ∷ decimal version ∷ [] ≡ codes "report" ∷ decimal n ∷ rest = cc in
    let u : decimal version ∷ [] ≡ decimal n ∷ rest = cc in
    no_zero version n (decimal n ∷ rest) [] rest z w.0 (omega (arith, w.1, wide)) u refl where
      wide : 2 < 2 ^ 64
      wide = lit< tt
no_title n ws rest z f (Period period) w e = grind (arith, e)
no_title n ws rest z f (Behaviour name mode) w e = grind (arith, e)
no_title n ws rest z f (Op op) w e = grind (arith, e)
no_title n ws rest z f (Edge i j) w e = grind (arith, e)
no_title n ws rest z f (Cost cost) w e = grind (arith, e)
no_title n ws rest z f (Flow amount bound) w e = grind (arith, e)
no_title n ws rest z f (Cycle bound) w e = grind (arith, e)
no_title n ws rest z f End w e = grind (arith, e)

-- a weight is not 0
pub no_width : (n : ℕ) (ws rest : List Line) → n ≡ 0 → codes "width" ∷ decimal n ∷ rest ≡ ws → (m : ℕ) (more : List Line) → 1 ≤ m → m ≤ 128 → codes "width" ∷ decimal m ∷ more ≡ ws → ⊥
no_width n ws rest z f m more some most e =
    let u : decimal m ∷ more ≡ decimal n ∷ rest = cc in
    no_zero m n (decimal n ∷ rest) more rest z some (omega (arith, most, wide)) u refl where
      wide : 128 < 2 ^ 64
      wide = lit< tt

pub no_period : (n : ℕ) (ws rest : List Line) → n ≡ 0 → decimal n ∷ rest ≡ ws → (x : Item) → IsItem x → item_words x ≡ codes "period" ∷ ws → ⊥
no_period n ws rest z f (Title version) w e = grind (arith, e)
no_period n ws rest z f (Period period) w e =
    let t : decimal period ∷ [] ≡ ws = cc in
    no_zero period n ws [] rest z w.0 (omega (arith, w.1, wide)) t f where
      wide : 1000000 < 2 ^ 64
      wide = lit< tt
no_period n ws rest z f (Behaviour name mode) w e = grind (arith, e)
no_period n ws rest z f (Op op) w e = grind (arith, e)
no_period n ws rest z f (Edge i j) w e = grind (arith, e)
no_period n ws rest z f (Cost cost) w e = grind (arith, e)
no_period n ws rest z f (Flow amount bound) w e = grind (arith, e)
no_period n ws rest z f (Cycle bound) w e = grind (arith, e)
no_period n ws rest z f End w e = grind (arith, e)

pub no_flow : (n : ℕ) (ws rest : List Line) → n ≡ 0 → decimal n ∷ rest ≡ ws → (x : Item) → IsItem x → item_words x ≡ codes "flow" ∷ ws → ⊥
no_flow n ws rest z f (Title version) w e = grind (arith, e)
no_flow n ws rest z f (Period period) w e = grind (arith, e)
no_flow n ws rest z f (Behaviour name mode) w e = grind (arith, e)
no_flow n ws rest z f (Op op) w e = grind (arith, e)
no_flow n ws rest z f (Edge i j) w e = grind (arith, e)
no_flow n ws rest z f (Cost cost) w e = grind (arith, e)
no_flow n ws rest z f (Flow amount bound) w e =
    let t : decimal amount ∷ bound_words bound ≡ ws = cc in
    no_zero amount n ws (bound_words bound) rest z w.0 (omega (arith, w.1, wide)) t f where
      wide : 18446744073709551615 < 2 ^ 64
      wide = lit< tt
no_flow n ws rest z f (Cycle bound) w e = grind (arith, e)
no_flow n ws rest z f End w e = grind (arith, e)

-- ---- a path, one number after another
pub record NumberAt (word : Line) : Type 0 where
  pub number : ℕ
  pub wide : IsWide number
  pub is : decimal number ≡ word

pub number_at : (x : List ℕ) (ws : List (Bor Line)) (i : ℕ) (d : Bor Line) → map decimal x ≡ texts ws → All IsWide x → i < length ws → NumberAt (get_or ws i d).now
number_at x [] i d e w l = absurd (omega (arith, l))
number_at [] (v ∷ ws) i d e w l = absurd (grind (arith, e))
number_at (n ∷ x) (v ∷ ws) zero d e w l = let t : decimal n ≡ v.now = cc in record { number = n; wide = All-head IsWide n x w; is = t }
number_at (n ∷ x) (v ∷ ws) (suc i) d e w l = let t : map decimal x ≡ texts ws = cc in number_at x ws i d t (All-tail IsWide n x w) (omega (arith, l))

map_behind : (x : List ℕ) (n : ℕ) → map decimal (x ++ n ∷ []) ≡ map decimal x ++ decimal n ∷ []
map_behind [] n = refl
map_behind (m ∷ x) n = ap (λ t. decimal m ∷ t) (map_behind x n)

-- one number more
pub path_more : (x : List ℕ) (n : ℕ) (ws : List (Bor Line)) (i : ℕ) (d : Bor Line) → map decimal x ≡ take i (texts ws) → decimal n ≡ (get_or ws i d).now → i < length ws
    → map decimal (x ++ n ∷ []) ≡ take (i + 1) (texts ws)
path_more x n ws i d e s l =
    let j : i + 1 ≡ suc i = omega arith in
    map_behind x n ∙ ap (λ t. t ++ decimal n ∷ []) e ∙ ap (λ w. take i (texts ws) ++ w ∷ []) s ∙ sym (take_texts ws i d l) ∙ ap (λ k. take k (texts ws)) (sym j)
