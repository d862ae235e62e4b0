-- The fields of a typed instruction: the type of a field is that of its highest bit, and its pieces stand apart and in the word.
use Rattle.std.proofs.Common.{◌≡◌, ◌∙◌, sym, ap, subst, refl, ℕ, ◌+◌, ◌<◌, ◌≤◌, arith, max, List, [], ◌∷◌, Option, Some, None, Bool, true, false, cond, ◌&&◌, ◌||◌, nat_eq, ◌⊎◌, inl, inr, rules}
use Rattle.std.specs.Prelude.{nat_lt, nat_le}
use Rattle.std.specs.List.{list_any}
use Rattle.std.proofs.lemmas.Bool.{ltb-false, ltb-true, leb-false, false≢true, cond_both}
use Rattle.ix_bits.specs.declared.number.Ty.{Ty}
use Rattle.ix_tree.specs.Lexing.{same_bytes}
use Rattle.ix_tree.specs.declared.token.Span.{Span}
use Rattle.ix_tree.specs.declared.extension.Piece.{Piece}
use Rattle.ix_tree.specs.declared.section.PieceText.{PieceText}
use Rattle.ix_tree.specs.declared.section.PieceKind.{PieceKind}
use Rattle.ix_tree.specs.declared.section.PieceKind.TheVariants as P
use Rattle.ix_typing.specs.declared.role.Role.{Role}
use Rattle.ix_typing.specs.declared.role.Role.TheVariants as R
use Rattle.ix_typing.specs.declared.role.Field.{Field}
use Rattle.ix_typing.specs.declared.role.Named.{Named}
use Rattle.ix_typing.specs.Names.{role_of, or_else}
use Rattle.ix_typing.specs.Refusals.{Refusal, range}
use Rattle.ix_typing.specs.Texts.{with_piece, fields, field_fault, piece_fault, pieces_fault, or_fault, grown, no_field, field_so_far}
use Rattle.ix_extension.specs.Encodings.{width_of, bits_of, placed, pieces_of as pieces_in, gives_again, has_field_twice}
use Rattle.ix_mean.specs.Resolving.{pieces_of, insert, ordered, top_of, AreOrdered, IsFieldOf}
use Rattle.ix_behaviour.proofs.Types.{near_self}
use Rattle.ix_behaviour.proofs.FieldTypes.{ArePlaced}
use Rattle.ix_behaviour.proofs.Scopes.{same_equal, role_behind}

-- ---- what a fault rules out
both_none : (o p : Option Refusal) → or_fault o p ≡ None → (o ≡ None) × (p ≡ None)
both_none None p e = (refl, e)
both_none (Some r) p e = cc

either_false : (a b : Bool) → (a || b) ≡ false → (a ≡ false) × (b ≡ false)
either_false false false e = (refl, refl)
either_false false true e = cc
either_false true b e = cc

no_refusal : (b : Bool) (r : Refusal) → cond b (Some r) None ≡ None → b ≡ false
no_refusal true r e = cc
no_refusal false r e = refl

record IsNew (names : List Named) (n : List ℕ) (hi lo : ℕ) : Type 0 where
  new : role_of names n ≡ None
  order : lo ≤ hi
  most : hi ≤ 31

field_new : (names : List Named) (s : Span) (n : List ℕ) (hi lo : ℕ) (o : Option Role) → role_of names n ≡ o → field_fault s o hi lo ≡ None → IsNew names n hi lo
field_new names s n hi lo (Some r) e f = cc
field_new names s n hi lo None e f =
    let both = either_false (nat_lt 31 hi) (nat_lt hi lo) (no_refusal (nat_lt 31 hi || nat_lt hi lo) (record { rule = range; at = s }) f) in
    record { new = e; order = ltb-false hi lo both.1; most = ltb-false 31 hi both.0 }

-- ---- pieces with the name of a field
-- one more than the highest bit
abbrev highest : List Piece → ℕ
highest [] = 0
highest (p ∷ ps) = max (p.hi + 1) (highest ps)

-- what the name of a field stands for, by its pieces
abbrev pub FieldIs : List Named → List ℕ → List Piece → Option Role → Type 0
FieldIs names n [] o = o ≡ role_of names n
FieldIs names n (q ∷ qs) o = (f : Field) × (o ≡ Some (R.Field f)) × (f.ty.signed ≡ false) × (f.ty.width ≡ highest (q ∷ qs)) × (highest (q ∷ qs) ≤ 32) × (role_of names n ≡ None)

grown_first : (at hi lo : ℕ) → hi ≤ 31 → (grown no_field at hi lo).ty.width ≡ max (hi + 1) 0
grown_first at hi lo h = omega arith

grown_more : (f : Field) (at hi lo top : ℕ) → hi ≤ 31 → f.ty.width ≡ top → top ≤ 32 → (grown f at hi lo).ty.width ≡ max (hi + 1) top
grown_more f at hi lo top h e g = omega (arith, e)

field_grown : (names : List Named) (n : List ℕ) (p : Piece) (lo at : ℕ) (qs : List Piece) (o : Option Role) → p.hi ≤ 31 → role_of names n ≡ None → FieldIs names n qs o
    → FieldIs names n (p ∷ qs) (Some (R.Field (grown (field_so_far o) at p.hi lo)))
field_grown names n p lo at [] o h new f =
    let none : field_so_far o ≡ no_field = ap field_so_far (f ∙ new) in
    let wide : (grown (field_so_far o) at p.hi lo).ty.width ≡ max (p.hi + 1) 0 = ap (λ (z : Field). (grown z at p.hi lo).ty.width) none ∙ grown_first at p.hi lo h in
    (grown (field_so_far o) at p.hi lo, refl, refl, wide, omega arith, new)
field_grown names n p lo at (q ∷ qs) o h new f =
    let some : field_so_far o ≡ f.0 = ap field_so_far f.1 in
    let wide : (grown (field_so_far o) at p.hi lo).ty.width ≡ max (p.hi + 1) (highest (q ∷ qs)) =
    ap (λ (z : Field). (grown z at p.hi lo).ty.width) some ∙ grown_more f.0 at p.hi lo (highest (q ∷ qs)) h f.3 f.4 in
    let most = f.4 in
    (grown (field_so_far o) at p.hi lo, refl, refl, wide, omega (arith, most), new)

picked : (p : Piece) (ps : List Piece) (n : List ℕ) (b : Bool) → same_bytes p.field n ≡ b → pieces_of (p ∷ ps) n ≡ cond b (p ∷ pieces_of ps n) (pieces_of ps n)
picked p ps n b e = ap (λ (z : Bool). cond z (p ∷ pieces_of ps n) (pieces_of ps n)) e

pub field_roles : (names : List Named) (ps : List PieceText) (n : List ℕ) → pieces_fault names ps ≡ None → FieldIs names n (pieces_of (pieces_in ps) n) (role_of (fields names ps).names n)
field_roles names [] n e = refl
field_roles names (p ∷ ps) n e =
    let both = both_none (piece_fault names p.span p.kind) (pieces_fault names ps) e in
    by p.kind both.0 (field_roles names ps n both.1)
  where
    pushed : (m : List ℕ) (hi lo at : ℕ) (b : Bool) → same_bytes m n ≡ b → IsNew names m hi lo → (qs : List Piece) → FieldIs names n qs (role_of (fields names ps).names n)
        → FieldIs names n (cond b (record { field = m; hi = hi; lo = lo; at = at } ∷ qs) qs)
        (or_else (cond b (Some (R.Field (grown (field_so_far (role_of (fields names ps).names m)) (fields names ps).at hi lo))) None) (role_of (fields names ps).names n))
    pushed m hi lo at true e new qs f =
        let same = same_equal m n e in
        let here : role_of names n ≡ None = ap (role_of names) (sym same) ∙ new.new in
        let q : Piece = record { field = m; hi = hi; lo = lo; at = at } in
        let grows = field_grown names n q lo (fields names ps).at qs (role_of (fields names ps).names n) new.most here f in
        let Q : List ℕ → Type 0 = λ z. FieldIs names n (q ∷ qs) (Some (R.Field (grown (field_so_far (role_of (fields names ps).names z)) (fields names ps).at hi lo))) in
        subst Q (sym same) grows
    pushed m hi lo at false e new qs f = f

    by : (k : PieceKind) → piece_fault names p.span k ≡ None → FieldIs names n (pieces_of (pieces_in ps) n) (role_of (fields names ps).names n)
        → FieldIs names n (pieces_of (placed k (bits_of ps) (pieces_in ps)) n) (role_of (with_piece k (fields names ps)).names n)
    by (P.Fixed b) e f = f
    by (P.Field m hi lo) e f =
        let new = field_new names p.span m hi lo (role_of names m) refl e in
        let x : Named = record { name = m; role = R.Field (grown (field_so_far (role_of (fields names ps).names m)) (fields names ps).at hi lo) } in
        let Q : Option Role → Type 0 = λ z. FieldIs names n (pieces_of (placed (P.Field m hi lo) (bits_of ps) (pieces_in ps)) n) z in
        subst Q (sym (role_behind (fields names ps).names x n)) (pushed m hi lo (bits_of ps) (same_bytes m n) refl new (pieces_of (pieces_in ps) n) f)

-- ---- pieces in the word
pub pieces_placed : (names : List Named) (ps : List PieceText) → pieces_fault names ps ≡ None → bits_of ps ≤ 32 → ArePlaced (pieces_in ps)
pieces_placed names [] e l = tt
pieces_placed names (p ∷ ps) e l =
    let both = both_none (piece_fault names p.span p.kind) (pieces_fault names ps) e in
    by p.kind l (pieces_placed names ps both.1 (omega (arith, l)))
  where
    by : (k : PieceKind) → width_of k + bits_of ps ≤ 32 → ArePlaced (pieces_in ps) → ArePlaced (placed k (bits_of ps) (pieces_in ps))
    by (P.Fixed b) h g = g
    by (P.Field m hi lo) h g = (omega (arith, h), g)

-- ---- pieces apart
-- no bit is in both
abbrev Apart : ℕ → ℕ → Piece → Type 0
Apart hi lo q = (q.hi < lo) ⊎ (hi < q.lo)

-- the piece has a bit in none of these, and each of them has a bit
abbrev AreApart : ℕ → ℕ → List Piece → Type 0
AreApart hi lo [] = Unit {0}
AreApart hi lo (q ∷ qs) = Apart hi lo q × AreApart hi lo qs

insert_apart : (hi lo : ℕ) (p : Piece) (qs : List Piece) → Apart hi lo p → AreApart hi lo qs → AreApart hi lo (insert p qs)
insert_apart hi lo p [] h g = (h, tt)
insert_apart hi lo p (q ∷ qs) h g = cond_both (nat_lt q.hi p.hi) (p ∷ q ∷ qs) (q ∷ insert p qs) (AreApart hi lo) (λ e. (h, g)) (λ e. (g.0, insert_apart hi lo p qs h g.1))

ordered_apart : (hi lo : ℕ) (ps : List Piece) → AreApart hi lo ps → AreApart hi lo (ordered ps)
ordered_apart hi lo [] h = tt
ordered_apart hi lo (p ∷ ps) h = insert_apart hi lo p (ordered ps) h.0 (ordered_apart hi lo ps h.1)

insert_ordered : (below : ℕ) (p : Piece) (qs : List Piece) → p.hi < below → p.lo ≤ p.hi → AreApart p.hi p.lo qs → AreOrdered below qs → AreOrdered below (insert p qs)
insert_ordered below p [] h l a o = (h, l, tt)
insert_ordered below p (q ∷ qs) h l a o = by (nat_lt q.hi p.hi) refl (λ f. insert_ordered q.lo p qs f l a.1 o.2)
  where
    above : q.hi < p.hi → q.hi < p.lo
    above f = at a.0
      where
        at : Apart p.hi p.lo q → q.hi < p.lo
        at (inl e) = e
        at (inr e) = let order = o.1 in omega (arith, e, order, f)

    under : p.hi ≤ q.hi → p.hi < q.lo
    under f = at a.0
      where
        at : Apart p.hi p.lo q → p.hi < q.lo
        at (inl e) = omega (arith, e, l, f)
        at (inr e) = e

    by : (b : Bool) → nat_lt q.hi p.hi ≡ b → (p.hi < q.lo → AreOrdered q.lo (insert p qs)) → AreOrdered below (cond b (p ∷ q ∷ qs) (q ∷ insert p qs))
    by true e f = (h, l, (above (ltb-true q.hi p.hi e), o.1, o.2))
    by false e f = (o.0, o.1, f (under (ltb-false q.hi p.hi e)))

same_self : (n : List ℕ) → same_bytes n n ≡ true
same_self [] = refl
same_self (x ∷ n) = both (nat_eq x x) (same_bytes n n) (eqb_self x) (same_self n)
  where
    both : (a b : Bool) → a ≡ true → b ≡ true → (a && b) ≡ true
    both true true e f = refl
    both true false e f = f
    both false b e f = e

    eqb_self : (k : ℕ) → nat_eq k k ≡ true
    eqb_self k = search rules

-- a piece that gives no bit again is apart from the others of its field
any_apart : (n : List ℕ) (hi lo : ℕ) (ps : List PieceText) → list_any (λ q. gives_again (P.Field n hi lo) q.kind) ps ≡ false → AreApart hi lo (pieces_of (pieces_in ps) n)
any_apart n hi lo [] e = tt
any_apart n hi lo (p ∷ ps) e =
    let both = either_false (gives_again (P.Field n hi lo) p.kind) (list_any (λ (q : PieceText). gives_again (P.Field n hi lo) q.kind) ps) e in
    by p.kind both.0 (any_apart n hi lo ps both.1)
  where
    apart : (h l : ℕ) → (nat_le lo h && nat_le l hi) ≡ false → (h < lo) ⊎ (hi < l)
    apart h l e = at (nat_le lo h) refl (nat_le l hi) refl e
      where
        at : (a : Bool) → nat_le lo h ≡ a → (b : Bool) → nat_le l hi ≡ b → (a && b) ≡ false → (h < lo) ⊎ (hi < l)
        at false f b g e = inl (leb-false lo h f)
        at true f false g e = inr (leb-false l hi g)
        at true f true g e = absurd (false≢true (sym e))

    found : (m : List ℕ) (h l at : ℕ) (qs : List Piece) (b : Bool) → same_bytes m n ≡ b → (same_bytes n m && (nat_le lo h && nat_le l hi)) ≡ false → AreApart hi lo qs
        → AreApart hi lo (cond b (record { field = m; hi = h; lo = l; at = at } ∷ qs) qs)
    found m h l at qs true e f g =
        let same : same_bytes n m ≡ true = ap (same_bytes n) (same_equal m n e) ∙ same_self n in
        let no : (nat_le lo h && nat_le l hi) ≡ false = sym (ap (λ (z : Bool). z && (nat_le lo h && nat_le l hi)) same) ∙ f in
        (apart h l no, g)
    found m h l at qs false e f g = g

    by : (k : PieceKind) → gives_again (P.Field n hi lo) k ≡ false → AreApart hi lo (pieces_of (pieces_in ps) n) → AreApart hi lo (pieces_of (placed k (bits_of ps) (pieces_in ps)) n)
    by (P.Fixed b) e g = g
    by (P.Field m h l) e g = found m h l (bits_of ps) (pieces_of (pieces_in ps) n) (same_bytes m n) refl e g

-- ---- a field's pieces in order
ordered_field : (names : List Named) (ps : List PieceText) (n : List ℕ) → pieces_fault names ps ≡ None → has_field_twice ps ≡ false → AreOrdered 32 (ordered (pieces_of (pieces_in ps) n))
ordered_field names [] n e f = tt
ordered_field names (p ∷ ps) n e f =
    let both = both_none (piece_fault names p.span p.kind) (pieces_fault names ps) e in
    let once = either_false (list_any (λ (q : PieceText). gives_again p.kind q.kind) ps) (has_field_twice ps) f in
    by p.kind both.0 once.0 (ordered_field names ps n both.1 once.1)
  where
    found : (m : List ℕ) (hi lo at : ℕ) (b : Bool) → same_bytes m n ≡ b → IsNew names m hi lo → list_any (λ q. gives_again (P.Field m hi lo) q.kind) ps ≡ false
        → AreOrdered 32 (ordered (pieces_of (pieces_in ps) n)) → AreOrdered 32 (ordered (cond b (record { field = m; hi = hi; lo = lo; at = at } ∷ pieces_of (pieces_in ps) n) (pieces_of (pieces_in ps) n)))
    found m hi lo at true e new f o =
        let q : Piece = record { field = m; hi = hi; lo = lo; at = at } in
        let A : List ℕ → Type 0 = λ z. AreApart hi lo (pieces_of (pieces_in ps) z) in
        let apart = subst A (same_equal m n e) (any_apart m hi lo ps f) in
        let most = new.most in
        insert_ordered 32 q (ordered (pieces_of (pieces_in ps) n)) (omega (arith, most)) new.order (ordered_apart hi lo (pieces_of (pieces_in ps) n) apart) o
    found m hi lo at false e new f o = o

    by : (k : PieceKind) → piece_fault names p.span k ≡ None → list_any (λ q. gives_again k q.kind) ps ≡ false → AreOrdered 32 (ordered (pieces_of (pieces_in ps) n))
        → AreOrdered 32 (ordered (pieces_of (placed k (bits_of ps) (pieces_in ps)) n))
    by (P.Fixed b) e f o = o
    by (P.Field m hi lo) e f o = found m hi lo (bits_of ps) (same_bytes m n) refl (field_new names p.span m hi lo (role_of names m) refl e) f o

top_inserted : (p : Piece) (qs : List Piece) → top_of (insert p qs) ≡ max (p.hi + 1) (top_of qs)
top_inserted p [] = omega arith
top_inserted p (q ∷ qs) = by (nat_lt q.hi p.hi) refl
  where
    by : (b : Bool) → nat_lt q.hi p.hi ≡ b → top_of (cond b (p ∷ q ∷ qs) (q ∷ insert p qs)) ≡ max (p.hi + 1) (q.hi + 1)
    by true e = let l = ltb-true q.hi p.hi e in omega (arith, l)
    by false e = let l = ltb-false q.hi p.hi e in omega (arith, l)

top_ordered : (ps : List Piece) → top_of (ordered ps) ≡ highest ps
top_ordered [] = refl
top_ordered (p ∷ ps) = top_inserted p (ordered ps) ∙ ap (max (p.hi + 1)) (top_ordered ps)

top_first : (below : ℕ) (qs : List Piece) → AreOrdered below qs → AreOrdered (top_of qs) qs
top_first below [] o = tt
top_first below (q ∷ qs) o = (omega arith, o.1, o.2)

-- a field whose pieces are these
pub field_is : (names : List Named) (ps : List PieceText) (n : List ℕ) (ty : Ty) (q : Piece) (qs : List Piece) → pieces_fault names ps ≡ None → has_field_twice ps ≡ false
    → pieces_of (pieces_in ps) n ≡ q ∷ qs → ty.signed ≡ false → ty.width ≡ highest (q ∷ qs) → highest (q ∷ qs) ≤ 32 → IsFieldOf (pieces_in ps) n ty
field_is names ps n ty q qs e f some s w l =
    let os = ordered (pieces_of (pieces_in ps) n) in
    let top : top_of os ≡ highest (q ∷ qs) = top_ordered (pieces_of (pieces_in ps) n) ∙ ap highest some in
    record {
      field = record { some = λ z. (let no : q ∷ qs ≡ [] = sym some ∙ z in cc); once = top_first 32 os (ordered_field names ps n e f); most = omega (arith, top, l) };
      typed = near_self ty false (top_of os) s (w ∙ sym top);
    }
