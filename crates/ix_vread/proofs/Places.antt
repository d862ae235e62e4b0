-- Places of tokens.
use Rattle.std.proofs.Common.{◌≡◌, ℕ, zero, suc, ◌+◌, ◌++◌, ◌<◌, ◌≤◌, List, [], ◌∷◌, length, get_or, refl, ap, sym, ◌∙◌, subst, arith}
use Rattle.std.specs.Prelude.{Result, Ok, Err, IfOk, IfErr}
use Rattle.std.specs.List.{AllByRecursion}
use Rattle.std.proofs.lemmas.List.{length-map, length-append}
use Rattle.ix_verilog.specs.declared.token.Token.{Token}
use Rattle.ix_verilog.specs.declared.source.Source.{Source}
use Rattle.ix_verilog.specs.Words.{Form, IsPart, is_space_part, is_line_part, is_comment_part, is_open_part, is_name_part, is_number_part, is_pair_part, is_single_part, Spells, spells_none, spells_more, words_of}
use Rattle.ix_verilog.specs.Subset.{AreModules, IsWritten, LeavesAt, place_of_token}
use Rattle.ix_vparse.specs.Answers.{Leaves}
use Rattle.ix_vnets.specs.Names.{AllOnce, said}
use Rattle.ix_vread.specs.declared.error.VErr.{VErr}
use Rattle.ix_vread.specs.declared.error.VErr.TheVariants.{At, Width, Loop, Twice, Memory}
use Rattle.ix_vread.specs.Told.{IsTold, IsDoubled}

-- a token by number
pub place_here : (end k : ℕ) (ts : List Token) (t : Token) → k < length ts → t ≡ get_or ts k t → t.place ≡ place_of_token end k ts
place_here end k [] t l e = absurd (omega (arith, l))
place_here end zero (x ∷ ts) t l e = ap (λ (z : Token). z.place) e
place_here end (suc k) (x ∷ ts) t l e = place_here end k ts t (omega (arith, l)) e

-- the end of the text
pub place_end : (end k : ℕ) (ts : List Token) → length ts ≤ k → end ≡ place_of_token end k ts
place_end end k [] l = none end k
  where
    none : (e j : ℕ) → e ≡ place_of_token e j []
    none e zero = refl
    none e (suc j) = refl
place_end end zero (x ∷ ts) l = absurd (omega (arith, l))
place_end end (suc k) (x ∷ ts) l = place_end end k ts (omega (arith, l))

pub leaves_at : (text : List ℕ) (ts : List Token) (k byte : ℕ) → Spells 0 text ts → Leaves (words_of ts) k → byte ≡ place_of_token (length text) k ts → LeavesAt text byte
leaves_at text ts k byte s l e =
    let c : length (words_of ts) ≡ length ts = length-map ts (λ (t : Token). t.word) in
    record {
      tokens = ts;
      spelled = s;
      before = k;
      within = omega (arith, c, l.within);
      front = l.front;
      next = λ m. l.next (omega (arith, m, c));
      end = λ m. l.end (m ∙ sym c);
      place = e;
    }

pub is_written : (text : List ℕ) (ts : List Token) (ms : List Source) → Spells 0 text ts → AreModules (words_of ts) ms → IsWritten text ms
is_written text ts ms s a = record { tokens = ts; spelled = s; are = a }

-- ---- modules whose names stand once
pub then_written : (text : List ℕ) (ms : List Source) (r : Result (List Source) VErr) → IsWritten text ms → IfOk r (λ ns. (ns ≡ ms) × AllOnce (said [] ms)) → IfOk r (IsWritten text)
then_written text ms (Ok ns) w h = subst (IsWritten text) (sym h.0) w
then_written text ms (Err e) w h = tt

pub then_once : (ms : List Source) (r : Result (List Source) VErr) → IfOk r (λ ns. (ns ≡ ms) × AllOnce (said [] ms)) → IfOk r (λ ns. AllOnce (said [] ns))
then_once ms (Ok ns) h = subst (λ (z : List Source). AllOnce (said [] z)) (sym h.0) h.1
then_once ms (Err e) h = tt

pub then_told : (text : List ℕ) (ms : List Source) (r : Result (List Source) VErr) → IsWritten text ms → IfErr r (IsDoubled ms) → IfErr r (IsTold text)
then_told text ms (Ok ns) w h = tt
then_told text ms (Err (At byte)) w h = absurd h
then_told text ms (Err (Twice name)) w h = (ms, w, h)
then_told text ms (Err (Width line)) w h = absurd h
then_told text ms (Err (Loop name)) w h = absurd h
then_told text ms (Err Memory) w h = tt

-- ---- places of tokens are within the text
part_within : {f : Form} {at : ℕ} {x y : List ℕ} {us : List Token} → IsPart f at x y us → AllByRecursion (λ (t : Token). t.place < at + length x) us
part_within is_space_part = tt
part_within (is_line_part a s) = tt
part_within (is_comment_part c) = tt
part_within (is_open_part n) = (omega arith, tt)
part_within (is_name_part a s) = (omega arith, tt)
part_within (is_number_part a s) = (omega arith, tt)
part_within is_pair_part = (omega arith, tt)
part_within is_single_part = (omega arith, tt)

each_less : (us : List Token) (m n : ℕ) → m ≤ n → AllByRecursion (λ (t : Token). t.place < m) us → AllByRecursion (λ (t : Token). t.place < n) us
each_less [] m n l h = tt
each_less (u ∷ us) m n l h = (omega (arith, l, h.0), each_less us m n l h.1)

each_both : {X : Type 0} (P : X → Type 0) (xs ys : List X) → AllByRecursion P xs → AllByRecursion P ys → AllByRecursion P (xs ++ ys)
each_both P [] ys h k = k
each_both P (x ∷ xs) ys h k = (h.0, each_both P xs ys h.1 k)

pub spelled_within : {at : ℕ} {text : List ℕ} {ts : List Token} → Spells at text ts → AllByRecursion (λ (t : Token). t.place < at + length text) ts
spelled_within spells_none = tt
spelled_within (spells_more {at = at} {b = b} {x = x} {y = y} {us = us} {ts = ts} p s) =
    let long : length (b ∷ (x ++ y)) ≡ length (b ∷ x) + length y = length-append (b ∷ x) y in
    each_both (λ (t : Token). t.place < at + length (b ∷ (x ++ y))) us ts
    (each_less us (at + length (b ∷ x)) (at + length (b ∷ (x ++ y))) (omega (arith, long)) (part_within p))
    (each_less ts ((at + length (b ∷ x)) + length y) (at + length (b ∷ (x ++ y))) (omega (arith, long)) (spelled_within s))
