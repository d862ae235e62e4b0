-- Kinds one after another.
use Rattle.std.proofs.Common.{◌≡◌, ℕ, ◌≤◌, List, [], ◌∷◌, length, take, drop, ◌-◌, get_or, false, ap, sym, ◌∙◌, subst, arith, inl, inr, Option}
use Rattle.std.specs.Prelude.{max}
use Rattle.std.proofs.lemmas.Bool.{true≢false, cases_lt}
use Rattle.std.proofs.Math.Seq.{take-length}
use Rattle.ix_verilog.specs.declared.source.Source.{Source}
use Rattle.ix_verilog.specs.Words.{Word}
use Rattle.ix_vline.specs.declared.kind.Kind.{Kind}
use Rattle.ix_vline.specs.declared.kind.Kind.TheVariants.{Head, Port, Heading, Input, Output, Wire, Register, Assign, Always, Update, Done, Finish}
use Rattle.ix_vline.specs.declared.kind.Right.TheVariants as right
use Rattle.ix_vline.specs.Slots.{slots}
use Rattle.ix_vline.specs.Reached.{StopsIn, NoneBeyond, SomeTo}
use Rattle.ix_vform.specs.declared.slot.Reach.{Reach}
use Rattle.ix_vform.specs.declared.found.Found.{Found}
use Rattle.ix_vform.specs.declared.found.Found.TheVariants.{Line, Part}
use Rattle.ix_vform.specs.Found.{IsFound, IsFoundIn}
use Rattle.ix_vform.specs.Reach.{IsReach}

farther : (o : Option Source) (ws : List Word) (ks : List Kind) (n m : ℕ) → n ≤ m → NoneBeyond o ws n ks → NoneBeyond o ws m ks
farther o ws [] n m l h = tt
farther o ws (k ∷ ks) n m l h = ((h.0.0, h.0.1, omega (arith, l, h.0.2)), farther o ws ks n m l h.1)

stops : (o : Option Source) (ws : List Word) (k : Kind) (r : Reach) → IsReach o (slots k) ws r → r.is_whole ≡ false → StopsIn o ws k r.words
stops o ws k r h f = (
  h.reaches,
  elim (cases_lt r.words (length (slots k))) [
    | inl l ↦ l
    | inr l ↦ (let e : r.words ≡ length (slots k) = omega (arith, l, h.within) in absurd (true≢false (sym (h.whole.1 e) ∙ f)))
  ],
)

-- the kinds behind the first go so far, and the first goes so far
pub part_more : (o : Option Source) (ws : List Word) (k : Kind) (ks : List Kind) (n m : ℕ) (r : Reach) → IsReach o (slots k) ws r → r.is_whole ≡ false → NoneBeyond o ws n ks → SomeTo o ws n
    → m ≡ max n r.words → NoneBeyond o ws m (k ∷ ks) × SomeTo o ws m
part_more o ws k ks n m r h f a b e =
    let s = stops o ws k r h f in (
      (((r.words, s, omega (arith, e)), farther o ws ks n m (omega (arith, e)) a)),
      elim (cases_lt n r.words) [
        | inl l ↦ (let q : r.words ≡ m = omega (arith, e, l) in inr (k, subst (λ z. StopsIn o ws k z) q s))
        | inr l ↦ (let q : n ≡ m = omega (arith, e, l) in subst (λ z. SomeTo o ws z) q b)
      ],
    )

pub part_all : (o : Option Source) (ws : List Word) (ks : List Kind) (n m : ℕ) (r : Reach) → 1 ≤ length ks → IsReach o (slots (get_or ks 0 Head)) ws r → r.is_whole ≡ false → NoneBeyond o ws n (take (length ks - 1) (drop 1 ks))
    → SomeTo o ws n → m ≡ max n r.words → NoneBeyond o ws m ks × SomeTo o ws m
part_all o ws [] n m r l h f a b e = absurd (omega (arith, l))
part_all o ws (k ∷ ks) n m r l h f a b e =
    let i : length (k ∷ ks) - 1 ≡ length ks = omega arith in
    let t : take (length (k ∷ ks) - 1) ks ≡ ks = ap (λ j. take j ks) i ∙ take-length ks in
    part_more o ws k ks n m r h f (subst (λ z. NoneBeyond o ws n z) t a) b e

-- all kinds
abbrev pub kinds : List Kind
kinds =
    Head ∷ Port ∷ Heading ∷ Input ∷ Output ∷ Wire ∷ Register ∷ Assign right.Literal ∷ Assign right.Copy ∷ Assign right.Both ∷ Assign right.Turned ∷ Assign right.Signed
    ∷ Assign right.Joined ∷ Assign right.Range ∷ Assign right.Choice ∷ Always ∷ Update ∷ Done ∷ Finish ∷ []

none_of_all : (o : Option Source) (ws : List Word) (n : ℕ) → NoneBeyond o ws n kinds → (k : Kind) → (m : ℕ) × StopsIn o ws k m × (m ≤ n)
none_of_all o ws n h Head = h.0
none_of_all o ws n h Port = h.1.0
none_of_all o ws n h Heading = h.1.1.0
none_of_all o ws n h Input = h.1.1.1.0
none_of_all o ws n h Output = h.1.1.1.1.0
none_of_all o ws n h Wire = h.1.1.1.1.1.0
none_of_all o ws n h Register = h.1.1.1.1.1.1.0
none_of_all o ws n h (Assign right.Literal) = h.1.1.1.1.1.1.1.0
none_of_all o ws n h (Assign right.Copy) = h.1.1.1.1.1.1.1.1.0
none_of_all o ws n h (Assign right.Both) = h.1.1.1.1.1.1.1.1.1.0
none_of_all o ws n h (Assign right.Turned) = h.1.1.1.1.1.1.1.1.1.1.0
none_of_all o ws n h (Assign right.Signed) = h.1.1.1.1.1.1.1.1.1.1.1.0
none_of_all o ws n h (Assign right.Joined) = h.1.1.1.1.1.1.1.1.1.1.1.1.0
none_of_all o ws n h (Assign right.Range) = h.1.1.1.1.1.1.1.1.1.1.1.1.1.0
none_of_all o ws n h (Assign right.Choice) = h.1.1.1.1.1.1.1.1.1.1.1.1.1.1.0
none_of_all o ws n h Always = h.1.1.1.1.1.1.1.1.1.1.1.1.1.1.1.0
none_of_all o ws n h Update = h.1.1.1.1.1.1.1.1.1.1.1.1.1.1.1.1.0
none_of_all o ws n h Done = h.1.1.1.1.1.1.1.1.1.1.1.1.1.1.1.1.1.0
none_of_all o ws n h Finish = h.1.1.1.1.1.1.1.1.1.1.1.1.1.1.1.1.1.1.0

pub found_all : (o : Option Source) (ws : List Word) (f : Found) → IsFoundIn o ws kinds f → IsFound o ws f
found_all o ws (Line k n) h = h
found_all o ws (Part n) h = (none_of_all o ws n h.0, h.1)
