-- A text spells its words in one way.
use Rattle.std.proofs.Common.{◌≡◌, ℕ, ◌+◌, List, [], ◌∷◌, ◌++◌, length, refl, ap, sym, ◌∙◌, subst}
use Rattle.std.proofs.lemmas.List.{append_cancel_left, append-nil}
use Rattle.ix_verilog.specs.declared.token.Token.{Token}
use Rattle.ix_verilog.specs.Words.{is_name_byte, is_number_byte, is_line_byte, Form, token, IsPart, is_space_part, is_line_part, is_comment_part, is_open_part, is_name_part, is_number_part, is_pair_part, is_single_part, form_of, Spells, spells_none, spells_more}
use Rattle.ix_verilog.proofs.Fronts.{fronts, comments}

-- two parts with which the same bytes begin
record Same (x z y w : List ℕ) (us vs : List Token) : Type 0 where
  pub front : x ≡ z
  pub rest : y ≡ w
  pub tokens : us ≡ vs

worded : (at b : ℕ) (x z y w : List ℕ) → x ≡ z → b ∷ (x ++ y) ≡ b ∷ (z ++ w) → Same (b ∷ x) (b ∷ z) y w (token at (b ∷ x) ∷ []) (token at (b ∷ z) ∷ [])
worded at b x z y w e f =
    let g : x ++ y ≡ z ++ w = cc in
    record {
      front = ap (λ (q : List ℕ). b ∷ q) e;
      rest = append_cancel_left x y w (g ∙ ap (λ (q : List ℕ). q ++ w) (sym e));
      tokens = ap (λ (q : List ℕ). token at (b ∷ q) ∷ []) e;
    }

same_part : {f : Form} {at : ℕ} {x z y w : List ℕ} {us vs : List Token} → IsPart f at x y us → IsPart f at z w vs → x ++ y ≡ z ++ w → Same x z y w us vs
same_part is_space_part is_space_part e = record { front = cc; rest = cc; tokens = refl }
same_part (is_line_part {x = x} {y = y} a b) (is_line_part {x = z} {y = w} c d) e =
    let g : x ++ y ≡ z ++ w = cc in
    let s : x ≡ z = fronts is_line_byte x y z w a b c d g in
    record { front = ap (λ (q : List ℕ). 47 ∷ 47 ∷ q) s; rest = append_cancel_left x y w (g ∙ ap (λ (q : List ℕ). q ++ w) (sym s)); tokens = refl }
same_part (is_comment_part {x = x} {y = y} a) (is_comment_part {x = z} {y = w} c) e =
    let g : x ++ y ≡ z ++ w = cc in
    let s : x ≡ z = comments a c y w g in
    record { front = ap (λ (q : List ℕ). 47 ∷ 42 ∷ q) s; rest = append_cancel_left x y w (g ∙ ap (λ (q : List ℕ). q ++ w) (sym s)); tokens = refl }
same_part (is_comment_part {x = x} {y = y} a) (is_open_part {x = z} c) e =
    let g : x ++ y ≡ z = (let h : x ++ y ≡ z ++ [] = cc in h ∙ append-nil z) in absurd (c x y a g)
same_part (is_open_part {x = x} a) (is_comment_part {x = z} {y = w} c) e =
    let g : z ++ w ≡ x = (let h : z ++ w ≡ x ++ [] = cc in h ∙ append-nil x) in absurd (a z w c g)
same_part {at = at} (is_open_part {x = x} a) (is_open_part {x = z} c) e =
    let s : x ≡ z = sym (append-nil x) ∙ (let h : x ++ [] ≡ z ++ [] = cc in h) ∙ append-nil z in
    record { front = ap (λ (q : List ℕ). 47 ∷ 42 ∷ q) s; rest = refl; tokens = ap (λ (q : List ℕ). token at (47 ∷ 42 ∷ q) ∷ []) s }
same_part {at = at} (is_name_part {b = b} {x = x} {y = y} a d) (is_name_part {b = c} {x = z} {y = w} h k) e =
    let g : x ++ y ≡ z ++ w = cc in
    let n : b ≡ c = cc in
    let s : x ≡ z = fronts is_name_byte x y z w a d h k g in
    record {
      front = ap (λ (q : ℕ). q ∷ x) n ∙ ap (λ (q : List ℕ). c ∷ q) s;
      rest = append_cancel_left x y w (g ∙ ap (λ (q : List ℕ). q ++ w) (sym s));
      tokens = ap (λ (q : ℕ). token at (q ∷ x) ∷ []) n ∙ ap (λ (q : List ℕ). token at (c ∷ q) ∷ []) s;
    }
same_part {at = at} (is_number_part {b = b} {x = x} {y = y} a d) (is_number_part {b = c} {x = z} {y = w} h k) e =
    let g : x ++ y ≡ z ++ w = cc in
    let n : b ≡ c = cc in
    let s : x ≡ z = fronts is_number_byte x y z w a d h k g in
    record {
      front = ap (λ (q : ℕ). q ∷ x) n ∙ ap (λ (q : List ℕ). c ∷ q) s;
      rest = append_cancel_left x y w (g ∙ ap (λ (q : List ℕ). q ++ w) (sym s));
      tokens = ap (λ (q : ℕ). token at (q ∷ x) ∷ []) n ∙ ap (λ (q : List ℕ). token at (c ∷ q) ∷ []) s;
    }
same_part {at = at} (is_pair_part {b = b} {c = c}) (is_pair_part {b = d} {c = f}) e =
    let n : b ≡ d = cc in
    let m : c ≡ f = cc in
    record {
      front = ap (λ (q : ℕ). q ∷ c ∷ []) n ∙ ap (λ (q : ℕ). d ∷ q ∷ []) m;
      rest = cc;
      tokens = ap (λ (q : ℕ). token at (q ∷ c ∷ []) ∷ []) n ∙ ap (λ (q : ℕ). token at (d ∷ q ∷ []) ∷ []) m;
    }
same_part {at = at} (is_single_part {b = b}) (is_single_part {b = d}) e =
    let n : b ≡ d = cc in
    record { front = ap (λ (q : ℕ). q ∷ []) n; rest = cc; tokens = ap (λ (q : ℕ). token at (q ∷ []) ∷ []) n }

pub one_spelling : {at : ℕ} {text : List ℕ} {us vs : List Token} → Spells at text us → (other : List ℕ) → text ≡ other → Spells at other vs → us ≡ vs
one_spelling spells_none other e spells_none = refl
one_spelling spells_none other e (spells_more p s) = absurd (cc)
one_spelling (spells_more p s) other e spells_none = absurd (cc)
one_spelling {at = at} (spells_more {b = b} {x = x} {y = y} {us = us} {ts = ts} p s) other e (spells_more {b = c} {x = z} {y = w} {us = vs} {ts = qs} q t) =
    let n : b ≡ c = cc in
    let m : x ++ y ≡ z ++ w = cc in
    let f : form_of c (z ++ w) ≡ form_of b (x ++ y) = ap (λ (k : ℕ). form_of k (z ++ w)) (sym n) ∙ ap (λ (k : List ℕ). form_of b k) (sym m) in
    let q2 : IsPart (form_of b (x ++ y)) at (c ∷ z) w vs = subst (λ (k : Form). IsPart k at (c ∷ z) w vs) f q in
    let same = same_part p q2 e in
    let t2 : Spells (at + length (b ∷ x)) w qs = subst (λ (k : ℕ). Spells k w qs) (ap (λ (k : List ℕ). at + length k) (sym same.front)) t in
    ap (λ (k : List Token). k ++ ts) same.tokens ∙ ap (λ (k : List Token). vs ++ k) (one_spelling s w same.rest t2)
