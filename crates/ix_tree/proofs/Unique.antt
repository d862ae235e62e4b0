-- No list of tokens derives two trees.
use Rattle.std.proofs.Common.{◌≡◌, ℕ, List, [], ◌∷◌, refl, ap, sym, ◌∙◌}
use Rattle.ix_tree.specs.declared.token.Token.{Token}
use Rattle.ix_tree.specs.Trees.{TextTree}
use Rattle.ix_tree.specs.Grammar.{IsText}
use Rattle.ix_tree.specs.Machine.{accept, marked}
use Rattle.ix_tree.proofs.Sections.{accepted}

same_end : (ms ns : List ℕ) (x y : TextTree) → marked ms (accept x) ≡ marked ns (accept y) → (ms ≡ ns) × (x ≡ y)
same_end [] [] x y e = (refl, cc)
same_end [] (n ∷ ns) x y e = cc
same_end (m ∷ ms) [] x y e = cc
same_end (m ∷ ms) (n ∷ ns) x y e =
    let f : marked ms (accept x) ≡ marked ns (accept y) = cc in
    let g : m ≡ n = cc in
    let h = same_end ms ns x y f in
    (ap (λ (k : ℕ). k ∷ ms) g ∙ ap (λ (ks : List ℕ). n ∷ ks) h.0, h.1)

pub unique : {ts : List Token} {ms ns : List ℕ} {x y : TextTree} → IsText ts ms x → IsText ts ns y → (ms ≡ ns) × (x ≡ y)
unique {ms = ms} {ns = ns} {x = x} {y = y} d e = same_end ms ns x y (sym (accepted d) ∙ accepted e)
