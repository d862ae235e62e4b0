-- A text is one datasheet, or is refused.
use Rattle.std.proofs.Common.{◌≡◌, ◌∙◌, sym, ap, subst, refl, ℕ, suc, ◌+◌, ◌%◌, Bool, true, false, ◌<◌, ◌≤◌, List, [], ◌∷◌, length, get_or, Option, Some, None, pos, ℤ, arith, inl, inr}
use Rattle.std.specs.Prelude.{IsSomeAnd, MatchOption, slice_index_or}
use Rattle.std.specs.Coded.{le_prop}
use native.Mathlib.Nat.{ℕ_set}
use Rattle.toml.specs.Data.{Members}
use Rattle.toml.specs.Parse.{parse_document}
use Rattle.rv_core.specs.declared.Shape.{Shape}
use Rattle.rv_core.specs.declared.cores.CoreKind.{CoreKind}
use Rattle.rv_core.specs.declared.cores.CoreKind.TheVariants.{Three, Four, Five, ThreeF, FiveF}
use Rattle.rv_core.specs.Stages.{IsLawful}
use Rattle.rv_core.specs.Kinds.{HasNumbers, IsShapeOf}
use Rattle.ix_graph.specs.Kinds.{kind_words}
use Rattle.ix_sheet.specs.declared.sheet.Sheet.{Sheet}
use Rattle.ix_sheet.specs.declared.sheet.SheetErr.{SheetErr}
use Rattle.ix_sheet.specs.declared.sheet.SheetErr.TheVariants.{Toml}
use Rattle.ix_sheet.specs.Sheets.{window_at, native_windows_of}
use Rattle.ix_sheet.specs.Datasheets.{HasCore, core_of, period_of, lifetime_of, window_in, document_refusal, IsDocumentOf, IsSheetOf, IsRefusalOf}
use Rattle.ix_words.specs.WordsRead.{IsSheetRead}

-- ---- shapes with the same numbers are one
lawful_one : (a b c d e : ℕ) (x y : IsLawful a b c d e) → x ≡ y
lawful_one a b c d e x y =
    ap (λ (p : 0 < b). let z : IsLawful a b c d e = record { reads_late = p; reads_first = x.reads_first; reads_near = x.reads_near; memory_late = x.memory_late; memory_inside = x.memory_inside; least = x.least; most = x.most; trap_word = x.trap_word } in z) (le_prop x.reads_late y.reads_late)
    ∙ ap (λ (p : b ≤ c). let z : IsLawful a b c d e = record { reads_late = y.reads_late; reads_first = p; reads_near = x.reads_near; memory_late = x.memory_late; memory_inside = x.memory_inside; least = x.least; most = x.most; trap_word = x.trap_word } in z) (le_prop x.reads_first y.reads_first)
    ∙ ap (λ (p : c ≤ b + 1). let z : IsLawful a b c d e = record { reads_late = y.reads_late; reads_first = y.reads_first; reads_near = p; memory_late = x.memory_late; memory_inside = x.memory_inside; least = x.least; most = x.most; trap_word = x.trap_word } in z) (le_prop x.reads_near y.reads_near)
    ∙ ap (λ (p : c < d). let z : IsLawful a b c d e = record { reads_late = y.reads_late; reads_first = y.reads_first; reads_near = y.reads_near; memory_late = p; memory_inside = x.memory_inside; least = x.least; most = x.most; trap_word = x.trap_word } in z) (le_prop x.memory_late y.memory_late)
    ∙ ap (λ (p : d + 1 ≤ a). let z : IsLawful a b c d e = record { reads_late = y.reads_late; reads_first = y.reads_first; reads_near = y.reads_near; memory_late = y.memory_late; memory_inside = p; least = x.least; most = x.most; trap_word = x.trap_word } in z) (le_prop x.memory_inside y.memory_inside)
    ∙ ap (λ (p : 3 ≤ a). let z : IsLawful a b c d e = record { reads_late = y.reads_late; reads_first = y.reads_first; reads_near = y.reads_near; memory_late = y.memory_late; memory_inside = y.memory_inside; least = p; most = x.most; trap_word = x.trap_word } in z) (le_prop x.least y.least)
    ∙ ap (λ (p : a ≤ 5). let z : IsLawful a b c d e = record { reads_late = y.reads_late; reads_first = y.reads_first; reads_near = y.reads_near; memory_late = y.memory_late; memory_inside = y.memory_inside; least = y.least; most = p; trap_word = x.trap_word } in z) (le_prop x.most y.most)
    ∙ ap (λ (p : e % 4 ≡ 0). let z : IsLawful a b c d e = record { reads_late = y.reads_late; reads_first = y.reads_first; reads_near = y.reads_near; memory_late = y.memory_late; memory_inside = y.memory_inside; least = y.least; most = y.most; trap_word = p } in z) (ℕ_set _ _ x.trap_word y.trap_word)

abbrev shape_by : (a b c d : ℕ) (f p : Bool) (e : ℕ) → IsLawful a b c d e → Shape
shape_by a b c d f p e l = record { stages = a; rd = b; ex = c; mem = d; forward = f; predict = p; trap = e; lawful = l }

shape_same : (a b c d e a' b' c' d' e' : ℕ) (f p f' p' : Bool) (l : IsLawful a b c d e) (m : IsLawful a' b' c' d' e') → a ≡ a' → b ≡ b' → c ≡ c' → d ≡ d' → e ≡ e' → f ≡ f' → p ≡ p' →
    shape_by a b c d f p e l ≡ shape_by a' b' c' d' f' p' e' m
shape_same a b c d e a' b' c' d' e' f p f' p' l m ea eb ec ed ee ef ep =
    subst (λ (g : Bool). shape_by a b c d f p e l ≡ shape_by a' b' c' d' g p' e' m) ef
    (subst (λ (q : Bool). shape_by a b c d f p e l ≡ shape_by a' b' c' d' f q e' m) ep
    (subst (λ (w : ℕ). (k : IsLawful w b' c' d' e') → shape_by a b c d f p e l ≡ shape_by w b' c' d' f p e' k) ea
    (subst (λ (x : ℕ). (k : IsLawful a x c' d' e') → shape_by a b c d f p e l ≡ shape_by a x c' d' f p e' k) eb
    (subst (λ (y : ℕ). (k : IsLawful a b y d' e') → shape_by a b c d f p e l ≡ shape_by a b y d' f p e' k) ec
    (subst (λ (z : ℕ). (k : IsLawful a b c z e') → shape_by a b c d f p e l ≡ shape_by a b c z f p e' k) ed
    (subst (λ (t : ℕ). (k : IsLawful a b c d t) → shape_by a b c d f p e l ≡ shape_by a b c d f p t k) ee
    (λ k. ap (λ (r : IsLawful a b c d e). shape_by a b c d f p e r) (lawful_one a b c d e l k)))))) m))

numbers_one : (s t : Shape) (a b c d : ℕ) (f : Bool) → HasNumbers s a b c d f → HasNumbers t a b c d f → s ≡ t
numbers_one s t a b c d f p q =
    shape_same s.stages s.rd s.ex s.mem s.trap t.stages t.rd t.ex t.mem t.trap s.forward s.predict t.forward t.predict s.lawful t.lawful
    (p.stages_are ∙ sym q.stages_are) (p.rd_is ∙ sym q.rd_is) (p.ex_is ∙ sym q.ex_is) (p.mem_is ∙ sym q.mem_is) (p.trap_is ∙ sym q.trap_is)
    (p.forward_is ∙ sym q.forward_is) (p.predict_is ∙ sym q.predict_is)

shape_one : (k : CoreKind) (s t : Shape) → IsShapeOf k s → IsShapeOf k t → s ≡ t
shape_one Three s t p q = numbers_one s t 3 1 1 2 false p q
shape_one Four s t p q = numbers_one s t 4 1 2 3 false p q
shape_one Five s t p q = numbers_one s t 5 1 2 3 false p q
shape_one ThreeF s t p q = numbers_one s t 3 1 1 2 true p q
shape_one FiveF s t p q = numbers_one s t 5 1 2 3 true p q

core_one : (o : Option CoreKind) (s t : Sheet) → HasCore o s → HasCore o t → s.shape ≡ t.shape
core_one None s t p q = absurd p
core_one (Some k) s t p q = shape_one k s.shape t.shape p q

-- ---- lists of the same length with the same elements are one
same_list : {X : Type 0} (xs ys : List X) (d : X) → length xs ≡ length ys → ((k : ℕ) → k < length xs → get_or xs k d ≡ get_or ys k d) → xs ≡ ys
same_list [] [] d e h = refl
same_list [] (y ∷ ys) d e h = absurd (omega (arith, e))
same_list (x ∷ xs) [] d e h = absurd (omega (arith, e))
same_list (x ∷ xs) (y ∷ ys) d e h =
    ap (λ z. z ∷ xs) (h 0 (omega arith)) ∙ ap (λ zs. y ∷ zs) (same_list xs ys d (omega (arith, e)) (λ k l. h (suc k) (omega (arith, l))))

same_period : (o : Option ℤ) (m n : ℕ) → o ≡ Some (pos m) → o ≡ Some (pos n) → m ≡ n
same_period o m n p q = let e = sym p ∙ q in cc

same_weighing : (o : Option Bool) (a b : Bool) → o ≡ Some a → o ≡ Some b → a ≡ b
same_weighing o a b p q = let e = sym p ∙ q in cc

same_sheet : (s t : Sheet) → s.shape ≡ t.shape → s.period ≡ t.period → s.weighted ≡ t.weighted → s.delay ≡ t.delay → s.window ≡ t.window → s ≡ t
same_sheet s t shape period weighted delay window =
    ap (λ (x : Shape). let z : Sheet = record { shape = x; period = s.period; weighted = s.weighted; delay = s.delay; window = s.window } in z) shape
    ∙ ap (λ (x : ℕ). let z : Sheet = record { shape = t.shape; period = x; weighted = s.weighted; delay = s.delay; window = s.window } in z) period
    ∙ ap (λ (x : Bool). let z : Sheet = record { shape = t.shape; period = t.period; weighted = x; delay = s.delay; window = s.window } in z) weighted
    ∙ ap (λ (x : List ℕ). let z : Sheet = record { shape = t.shape; period = t.period; weighted = t.weighted; delay = x; window = s.window } in z) delay
    ∙ ap (λ (x : List (ℕ × ℕ)). let z : Sheet = record { shape = t.shape; period = t.period; weighted = t.weighted; delay = t.delay; window = x } in z) window

document_one : (doc : Members) (s t : Sheet) → IsDocumentOf doc s → IsDocumentOf doc t → length s.delay ≡ 34 → length t.delay ≡ 34 → length s.window ≡ 10 → length t.window ≡ 10 → s ≡ t
document_one doc s t p q sd td sw tw =
    let shape = core_one (core_of doc) s t p.fields.core q.fields.core in
    same_sheet s t shape
    (same_period (period_of doc) s.period t.period p.fields.content.period q.fields.content.period)
    (same_weighing (lifetime_of doc) s.weighted t.weighted p.fields.content.weighted q.fields.content.weighted)
    (same_list s.delay t.delay 0 (sd ∙ sym td) (λ k l. p.fields.content.delay k (omega (arith, l, sd)) ∙ sym (q.fields.content.delay k (omega (arith, l, sd)))))
    (same_list s.window t.window (0, 0) (sw ∙ sym tw)
    (λ k l. p.fields.content.window k (omega (arith, l, sw)) ∙ ap (λ (z : Shape). window_in doc (window_at (native_windows_of z) k) (slice_index_or kind_words k [])) shape ∙ sym (q.fields.content.window k (omega (arith, l, sw)))))

found_one : (o : Option Members) (s t : Sheet) → IsSomeAnd o (λ doc. IsDocumentOf doc s) → IsSomeAnd o (λ doc. IsDocumentOf doc t) → length s.delay ≡ 34 → length t.delay ≡ 34 → length s.window ≡ 10 → length t.window ≡ 10 → s ≡ t
found_one None s t p q sd td sw tw = absurd p
found_one (Some doc) s t p q sd td sw tw = document_one doc s t p q sd td sw tw

pub one_sheet : (bytes : List ℕ) (s t : Sheet) → IsSheetRead bytes s → IsSheetRead bytes t → s ≡ t
one_sheet bytes s t p q = found_one (parse_document bytes) s t p.sheet_is.document q.sheet_is.document p.delays q.delays p.windows q.windows

-- ---- and it is not refused
found_apart : (o : Option Members) (s : Sheet) (e : SheetErr) → IsSomeAnd o (λ doc. IsDocumentOf doc s) → MatchOption o (e ≡ Toml) (λ doc. document_refusal doc ≡ Some e) → ⊥
found_apart None s e p q = p
found_apart (Some doc) s e p q = let both = sym p.accepted ∙ q in cc

pub sheet_not_refused : (bytes : List ℕ) (s : Sheet) (e : SheetErr) → IsSheetOf bytes s → IsRefusalOf bytes e → ⊥
sheet_not_refused bytes s e p (inl q) = q.0 p.utf8
sheet_not_refused bytes s e p (inr q) = found_apart (parse_document bytes) s e p.document q.1
