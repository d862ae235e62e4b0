use Rattle.std.proofs.Common.{◌≡◌, ◌∙◌, sym, ap, refl, ℕ, List, [], ◌∷◌, ◌++◌, length, map, false, ◌==◌, Bor}
use Rattle.std.specs.List.{slice_split}
use Rattle.std.proofs.lemmas.List.{append-nil, drop_all}
use Rattle.std.proofs.lemmas.Simd.{map-map}
use Rattle.rv_asm_text.specs.Lines.{trimmed, parted, operands_of}
use Rattle.rv_asm_text.proofs.line.operands.Goals as goal

parted_is : (text : List ℕ) → (length text == 0) ≡ false → map trimmed (slice_split (λ b. b == 44) text) ≡ parted text
parted_is [] h = cc
parted_is (b ∷ rest) h = refl

pub returns : goal.returns
unfolding operands_of
returns c =
    let ps = c.deref-part-items.result.now in
    let text = c.behind_name-text.result.now in
    let done : map (λ (x : Bor (List ℕ)). x.now) c.loop-part.operands.items ++ map (λ (x : Bor (List ℕ)). trimmed x.now) [] ≡ map (λ (x : Bor (List ℕ)). trimmed x.now) ps =
    ap (λ (l : List (Bor (List ℕ))). map (λ (x : Bor (List ℕ)). x.now) c.loop-part.operands.items ++ map (λ (x : Bor (List ℕ)). trimmed x.now) l) (sym (drop_all c.loop-part.part-index ps c.loop-part-test.false)) ∙ c.loop-part.invariant in
    let parts : map (λ (x : Bor (List ℕ)). x.now) ps ≡ slice_split (λ b. b == 44) text = ap (λ (l : List (Bor (List ℕ))). map (λ (x : Bor (List ℕ)). x.now) l) c.deref-part-items.ensures.value ∙ c.in_ok-parts.ensures in
    sym (append-nil (map (λ (x : Bor (List ℕ)). x.now) c.loop-part.operands.items))
    ∙ done
    ∙ sym (map-map trimmed (λ (x : Bor (List ℕ)). x.now) ps)
    ∙ ap (map trimmed) parts
    ∙ parted_is text (sym c.is_empty.ensures ∙ c.if-is_empty.false)
    ∙ ap parted c.behind_name-text.ensures
