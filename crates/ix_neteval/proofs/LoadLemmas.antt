-- The values with the inputs in front and the banks at the end.
use Rattle.std.proofs.Common.{◌≡◌, ⊎_elim, ℕ, ◌+◌, ◌-◌, ◌<◌, ◌≤◌, ◌^◌, List, [], ◌∷◌, ◌++◌, Some, length, map, get_or, set, take, drop, arith, ap, sym, ◌∙◌, subst}
use Rattle.std.specs.Prelude.{slice_get}
use Rattle.std.proofs.lemmas.Bool.{cases_lt}
use Rattle.std.proofs.lemmas.Grind.{same_number_lists}
use Rattle.std.proofs.lemmas.List.{append_assoc, length-append, length-map, length-take-le, length-take, length-drop, drop_more, map_more, set-append_right, get_or-map, get_or-take, get_or-drop, get_or_append_left, get_or-append_right, take-append-le, take-take, take_at, drop_at}
use Rattle.std.proofs.lemmas.Option.{slice_get-get_or, slice_get_within, get_or_from_slice_get}
use Rattle.ix_bits.specs.declared.number.Bits.{Bits}
use Rattle.ix_neteval.specs.Wired.{FitWidths, KeepsOthers}

-- one more input in front
pub load_step :
    {X : Type 0} (f : X → ℕ) (xs : List X) (vs : List ℕ) (i : ℕ) (x : X) → i < length xs → length xs ≤ length vs → x ≡ get_or xs i x
    → set (map f (take i xs) ++ drop i vs) i (f x) ≡ map f (take (i + 1) xs) ++ drop (i + 1) vs
load_step f xs vs i x l room read =
    let size : length (map f (take i xs)) ≡ i = length-map (take i xs) f ∙ length-take-le i xs (omega arith) in
    let z : i - i ≡ 0 = omega arith in
    let rest : set (drop i vs) (i - i) (f x) ≡ f x ∷ drop (i + 1) vs = ap (λ j. set (drop i vs) j (f x)) z ∙ ap (λ ys. set ys 0 (f x)) (drop_more vs i 0 (omega arith)) in
    set-append_right (map f (take i xs)) (drop i vs) i i (f x) size (omega arith)
    ∙ ap (λ ys. map f (take i xs) ++ ys) rest
    ∙ sym (append_assoc (map f (take i xs)) (f x ∷ []) (drop (i + 1) vs))
    ∙ ap (λ ys. ys ++ drop (i + 1) vs) (ap (λ y. map f (take i xs) ++ f y ∷ []) read ∙ sym (map_more f xs i x l))

-- what is loaded fits the widths
pub loaded_fits :
    (widths : List ℕ) (inputs : List Bits) (banks old new : List ℕ) (m : ℕ) → FitWidths widths old → length inputs ≤ m → m + length banks ≡ length old
    → map (λ (b : Bits). b.width) inputs ≡ take (length inputs) widths → FitWidths (drop m widths) banks
    → new ≡ take m (map (λ (b : Bits). b.raw) inputs ++ drop (length inputs) old) ++ banks → FitWidths widths new
loaded_fits widths inputs banks old new m fit lm size wide fit_banks e =
    let n = length inputs in
    let raws : List ℕ = map (λ (b : Bits). b.raw) inputs in
    let front : List ℕ = raws ++ drop n old in
    let size_old = fit.size in
    let size_raws : length raws ≡ n = length-map inputs (λ (b : Bits). b.raw) in
    let size_front : length front ≡ length old = length-append raws (drop n old) ∙ omega (arith, size_raws, length-drop n old) in
    let size_taken : length (take m front) ≡ m = length-take-le m front (omega arith) in
    let P : List ℕ → Type 0 = λ vs. FitWidths widths vs in
    let r : FitWidths widths (take m front ++ banks) = record {
      size = length-append (take m front) banks ∙ omega arith;
      fit = λ i w h.
          (let lw : i < length widths = slice_get_within widths i w h in
          let Q : ℕ → Type 0 = λ x. x < 2 ^ w in
          ⊎_elim
          (λ (li : i < m).
          (let at : get_or (take m front ++ banks) i 0 ≡ get_or front i 0 = get_or_append_left (take m front) banks 0 i (omega arith) ∙ get_or-take m front i 0 li in
          ⊎_elim
          (λ (ln : i < n).
          (let b : Bits = get_or inputs i (first_of inputs i ln) in
          let raw : get_or front i 0 ≡ b.raw = get_or_append_left raws (drop n old) 0 i (omega arith) ∙ get_or-map (λ (b : Bits). b.raw) inputs i (first_of inputs i ln) 0 ln in
          let width : b.width ≡ w = sym (get_or-map (λ (b : Bits). b.width) inputs i (first_of inputs i ln) 0 ln) ∙ ap (λ ws. get_or ws i 0) wide ∙ get_or-take n widths i 0 ln ∙ get_or_from_slice_get widths i w 0 h in
          let B : ℕ → Type 0 = λ v. b.raw < 2 ^ v in
          subst Q (sym (at ∙ raw)) (subst B width b.in_width)))
          (λ (gn : n ≤ i).
          (let there : get_or front i 0 ≡ get_or old i 0 =
          get_or-append_right raws (drop n old) n i 0 size_raws gn ∙ get_or-drop n old (i - n) 0 ∙ ap (λ j. get_or old j 0) (omega arith) in
          subst Q (sym (at ∙ there)) (fit.fit i w h)))
          (cases_lt i n)))
          (λ (gm : m ≤ i).
          (let at : get_or (take m front ++ banks) i 0 ≡ get_or banks (i - m) 0 = get_or-append_right (take m front) banks m i 0 size_taken gm in
          let there : slice_get (drop m widths) (i - m) ≡ Some w = slice_get-drop m widths i w gm h in
          subst Q (sym at) (fit_banks.fit (i - m) w there)))
          (cases_lt i m));
    } in
    subst P (sym e) r
  where
    first_of : (inputs : List Bits) (i : ℕ) → i < length inputs → Bits
    first_of [] i l = absurd (omega arith)
    first_of (b ∷ bs) i l = b

    slice_get-drop : (m : ℕ) (xs : List ℕ) (i w : ℕ) → m ≤ i → slice_get xs i ≡ Some w → slice_get (drop m xs) (i - m) ≡ Some w
    slice_get-drop m xs i w g h =
        let l : i < length xs = slice_get_within xs i w h in
        slice_get-get_or (drop m xs) (i - m) 0 (omega (arith, length-drop m xs))
        ∙ ap Some (get_or-drop m xs (i - m) 0 ∙ ap (λ j. get_or xs j 0) (omega arith) ∙ get_or_from_slice_get xs i w 0 h)

-- the inputs stay in front, and the banks at the end
pub kept_inputs :
    (first cells : ℕ) (raws old new : List ℕ) → KeepsOthers first cells old new → length new ≡ length old → length raws ≡ first → first ≤ length old
    → take first old ≡ raws → take first new ≡ raws
kept_inputs first cells raws old new k same size l e =
    same_number_lists (take first new) (take first old) (omega (arith, length-take first new, length-take first old))
    (λ i li. (let lt : i < first = omega (arith, length-take first new) in get_or-take first new i 0 lt ∙ k.before i lt ∙ sym (get_or-take first old i 0 lt)))
    ∙ e

pub kept_banks :
    (first cells : ℕ) (banks old new : List ℕ) → KeepsOthers first cells old new → length new ≡ length old → drop (first + cells) old ≡ banks → drop (first + cells) new ≡ banks
kept_banks first cells banks old new k same e =
    let m = first + cells in
    same_number_lists (drop m new) (drop m old) (omega (arith, length-drop m new, length-drop m old))
    (λ i li. get_or-drop m new i 0 ∙ k.behind (m + i) (omega arith) ∙ sym (get_or-drop m old i 0))
    ∙ e

-- the parts of what is loaded
pub loaded_front : (raws rest banks : List ℕ) (n m : ℕ) → length raws ≡ n → n ≤ m → m ≤ length (raws ++ rest) → take n (take m (raws ++ rest) ++ banks) ≡ raws
loaded_front raws rest banks n m size l room =
    let taken : length (take m (raws ++ rest)) ≡ m = length-take-le m (raws ++ rest) room in
    take-append-le n (take m (raws ++ rest)) banks (omega arith) ∙ take-take n m (raws ++ rest) l ∙ take_at raws rest n size

pub loaded_end : (front banks : List ℕ) (m : ℕ) → m ≤ length front → drop m (take m front ++ banks) ≡ banks
loaded_end front banks m room = drop_at (take m front) banks m (length-take-le m front room)
