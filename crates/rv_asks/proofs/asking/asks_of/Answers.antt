use Rattle.std.proofs.Common.{◌≡◌, ◌∙◌, ap, refl, ℕ, List, Option, Some, None, slice_index_or}
use Rattle.rv_core.specs.declared.Shape.{Shape}
use Rattle.rv_seq.specs.declared.decoded.Decoded.{Decoded}
use Rattle.rv_seq.specs.declared.decoded.Decoded.TheVariants as D
use Rattle.rv_unit.specs.Numbering.{unit_of}
use Rattle.rv_asks.specs.declared.asks.Outline.{Outline}
use Rattle.rv_asks.specs.Asks.{with_word, asks_with, asks_in, outlines_in, blank_in}
use Rattle.rv_asks.proofs.asking.asks_of.Goals as goal

-- only the unit of the instruction's own number counts
same_units : (shape : Shape) (outlines : List Outline) (f g : ℕ → Option ℕ) (blank : Outline) (word : ℕ) (o : Option Decoded) → ((n : ℕ) → f n ≡ g n)
    → asks_with shape outlines f blank word o ≡ asks_with shape outlines g blank word o
same_units shape outlines f g blank word (Some (D.Base b)) e = refl
same_units shape outlines f g blank word (Some (D.Own n)) e = ap (λ (u : Option ℕ). with_word word u (slice_index_or outlines n blank)) (e n)
same_units shape outlines f g blank word None e = refl

pub returns : goal.returns
unfolding asks_in
returns c =
    record {
      asks = λ d of_it.
          let units : ℕ → Option ℕ = λ n. slice_index_or c.args.asking.now.units n None in
          c.asks_by.ensures
          ∙ ap (λ (k : Shape). asks_with k c.args.asking.now.outlines units c.args.asking.now.blank c.args.word c.args.decoded) of_it.shape
          ∙ ap (λ (o : List Outline). asks_with d.sheet.shape o units c.args.asking.now.blank c.args.word c.args.decoded) of_it.outlines
          ∙ ap (λ (b : Outline). asks_with d.sheet.shape (outlines_in d) units b c.args.word c.args.decoded) of_it.blank
          ∙ same_units d.sheet.shape (outlines_in d) units (unit_of d.plans) (blank_in d) c.args.word c.args.decoded of_it.units;
    }
