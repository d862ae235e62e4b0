-- The words of lines, one line after another.
use Rattle.std.proofs.Common.{◌≡◌, ◌∙◌, sym, ap, refl, ℕ, ◌+◌, ◌<◌, List, [], ◌∷◌, ◌++◌, append_assoc, length, drop, map, get_or, Bor, true, false, arith}
use Rattle.std.specs.Prelude.{Ok, Err, nat_lt}
use Rattle.std.proofs.lemmas.Bool.Decides.{nat_tests}
use Rattle.std.proofs.lemmas.List.{append-nil}
use Rattle.ix_extension.specs.Extensions.{InstructionTree}
use Rattle.rv_asm_text.specs.declared.verdict.Verdict.{Verdict}
use Rattle.rv_asm.specs.Labels.{Places}
use Rattle.rv_asm.specs.Verdicts.{line_verdict}
use Rattle.rv_asm.proofs.Noting.{line_at}
use Rattle.rv_asm.specs.declared.source.AsmErr.{AsmErr}
use Rattle.rv_asm.specs.declared.source.AsmErr.TheVariants as E
use Rattle.rv_asm.specs.Sources.{Assembly, prepended, with_word, after, assembled_from, IsErrOf}

pub prepended_nothing : (a : Assembly) → prepended [] a ≡ a
prepended_nothing (Ok words) = refl
prepended_nothing (Err e) = refl

pub prepended_word : (front : List ℕ) (word : ℕ) (a : Assembly) → prepended front (with_word word a) ≡ prepended (front ++ word ∷ []) a
prepended_word front word (Ok words) = ap (λ (l : List ℕ). Ok l) (sym (append_assoc front (word ∷ []) words))
prepended_word front word (Err e) = refl

pub less : (at : ℕ) → at < 65536 → nat_lt at 65536 ≡ true
less at h = grind (arith, nat_tests)

pub not_less : (at : ℕ) → at ≡ 65536 → nat_lt at 65536 ≡ false
not_less at h = grind (arith, nat_tests)

module _ (own : List InstructionTree) (places : Places) (ts : List (Bor (List ℕ))) (i : ℕ) (d : Bor (List ℕ)) (within : i < length ts) where
  abbrev all : List (List ℕ)
  all = map (λ (x : Bor (List ℕ)). x.now) ts

  abbrev rest : ℕ → Assembly
  rest k = assembled_from own places (i + 1) k (drop (i + 1) all)

  step : (v : Verdict) (at : ℕ) → v ≡ line_verdict own places i at (get_or ts i d).now → assembled_from own places i at (drop i all) ≡ after v i at rest
  step v at e = ap (assembled_from own places i at) (line_at ts i d within) ∙ ap (λ (w : Verdict). after w i at rest) (sym e)

  -- what one line more leaves
  pub taken : (v : Verdict) (front new : List ℕ) (a : Assembly) → v ≡ line_verdict own places i (length front) (get_or ts i d).now
      → ((next : ℕ → Assembly) → prepended front (after v i (length front) next) ≡ prepended new (next (length new)))
      → prepended front (assembled_from own places i (length front) (drop i all)) ≡ a → prepended new (rest (length new)) ≡ a
  taken v front new a e t h = sym (t rest) ∙ sym (ap (prepended front) (step v (length front) e)) ∙ h

  -- a line that fails
  pub failed : (v : Verdict) (front : List ℕ) (a : Assembly) (e : AsmErr) → v ≡ line_verdict own places i (length front) (get_or ts i d).now
      → ((next : ℕ → Assembly) → IsErrOf (after v i (length front) next) e)
      → prepended front (assembled_from own places i (length front) (drop i all)) ≡ a → IsErrOf a e
  failed v front a e q t h = carried e (after v i (length front) rest) a (t rest) (sym h ∙ ap (prepended front) (step v (length front) q)) where
    carried : (e : AsmErr) (b a : Assembly) → IsErrOf b e → a ≡ prepended front b → IsErrOf a e
    carried (E.Line at) b a t h = h ∙ ap (prepended front) t
    carried (E.Label at) b a t h = h ∙ ap (prepended front) t
    carried (E.Reach at) b a t h = h ∙ ap (prepended front) t
    carried (E.Size at) b a t h = h ∙ ap (prepended front) t
    carried E.Memory b a t h = tt

-- no line is left
pub at_end : (own : List InstructionTree) (places : Places) (ls : List (List ℕ)) (i at : ℕ) (front : List ℕ) (a : Assembly) → drop i ls ≡ [] → prepended front (assembled_from own places i at (drop i ls)) ≡ a → a ≡ Ok front
at_end own places ls i at front a e h = sym h ∙ ap (λ (l : List (List ℕ)). prepended front (assembled_from own places i at l)) e ∙ ap (λ (w : List ℕ). Ok w) (append-nil front)
