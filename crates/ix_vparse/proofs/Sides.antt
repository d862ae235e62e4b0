-- Lines of right sides: how many words they have, and the signs in them.
use Rattle.std.proofs.Common.{◌≡◌, List, length, refl, ap, sym, ◌∙◌, subst, Option}
use Rattle.std.specs.Prelude.{Contains}
use Rattle.std.proofs.lemmas.List.Elements.{All-contains, All-from_recursion}
use Rattle.ix_verilog.specs.declared.right.Sign.{Sign}
use Rattle.ix_verilog.specs.declared.right.Sign.TheVariants.{Plus, Minus, Times, And, Or, Xor, Equal, Less}
use Rattle.ix_verilog.specs.declared.source.Source.{Source}
use Rattle.ix_verilog.specs.declared.token.Token.{Token}
use Rattle.ix_verilog.specs.Words.{Word, words_of}
use Rattle.ix_verilog.specs.Lines.{operators, sign_word}
use Rattle.ix_vline.specs.declared.kind.Kind.TheVariants.{Assign}
use Rattle.ix_vline.specs.declared.kind.Right.{Right}
use Rattle.ix_vline.specs.declared.kind.Right.TheVariants as right
use Rattle.ix_vline.specs.Slots.{slots}
use Rattle.ix_vline.specs.Reached.{Fits}
use Rattle.ix_vline.specs.Picked.{nth}
use Rattle.ix_vline.proofs.Fitting.{picks_are, fits_length}
use Rattle.ix_vparse.proofs.Taking.{count_words}

pub line_length : (o : Option Source) (k : Right) (ts : List Token) → Fits o (slots (Assign k)) (words_of ts) → length ts ≡ length (slots (Assign k))
line_length o k ts f = sym (count_words ts) ∙ fits_length o (slots (Assign k)) (words_of ts) f

pub line_sign : (o : Option Source) (ws : List Word) → Fits o (slots (Assign right.Both)) ws → Contains operators (nth 4 ws)
line_sign o ws f = subst (Contains operators) (sym (ap (nth 4) (picks_are o (slots (Assign right.Both)) ws f))) f.4.4.4.4.3

-- the sign that a word is
sign_from : (o : Word) → Contains operators o → (s : Sign) × (sign_word s ≡ o)
sign_from o c =
    All-contains (λ (z : Word). (s : Sign) × (sign_word s ≡ z)) operators o
    (All-from_recursion (λ (z : Word). (s : Sign) × (sign_word s ≡ z)) operators ((Plus, refl), ((Minus, refl), ((Times, refl), ((And, refl), ((Or, refl), ((Xor, refl), ((Equal, refl), ((Less, refl), tt))))))))) c

pub no_sign : (ts : List Token) (w : Word) → w ≡ nth 4 (words_of ts) → Contains operators (nth 4 (words_of ts)) → ((s : Sign) → sign_word s ≡ w → ⊥) → ⊥
no_sign ts w e c never = (let s = sign_from (nth 4 (words_of ts)) c in never s.0 (s.1 ∙ sym e))
