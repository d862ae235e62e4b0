-- How far lines lead, and where words leave the subset.
use Rattle.std.proofs.Common.{◌≡◌, ◌≢◌, ℕ, zero, suc, ◌+◌, ◌-◌, ◌<◌, ◌≤◌, List, [], ◌∷◌, ◌++◌, length, take, drop, refl, ap, sym, ◌∙◌, subst, arith, append_assoc, inl, inr, Option, None}
use Rattle.std.specs.List.{flat_map}
use Rattle.std.proofs.lemmas.Grind.{flat_map-append}
use Rattle.std.proofs.lemmas.List.{append-nil, take-append-drop, length-drop}
use Rattle.std.proofs.Math.Seq.{take-length}
use Rattle.ix_verilog.specs.declared.source.Source.{Source}
use Rattle.ix_verilog.specs.Words.{Word}
use Rattle.ix_verilog.specs.Lines.{Line, line_words}
use Rattle.ix_verilog.specs.Subset.{State, start, after, Leads, AreModules, Begins}
use Rattle.ix_verilog.proofs.OneReading.{GoesOn, goes_on, some_words}
use Rattle.ix_vline.specs.declared.kind.Kind.{Kind}
use Rattle.ix_vline.specs.declared.kind.Slot.{Slot}
use Rattle.ix_vline.specs.Slots.{slots}
use Rattle.ix_vline.specs.Reached.{Fits, Reaches, StopsIn, SomeTo}
use Rattle.ix_vline.specs.Laws.{Stands}
use Rattle.ix_vline.proofs.Fitting.{no_line, whole_line, fits_taken}
use Rattle.ix_vline.proofs.Going.{started_goes_on}
use Rattle.ix_vline.proofs.KindLines.{fitting_stands}
use Rattle.ix_vline.proofs.Standing.{lines_fit}
use Rattle.ix_vform.specs.declared.found.Found.TheVariants.{Part}
use Rattle.ix_vform.specs.Found.{IsFound}
use Rattle.ix_vparse.specs.Answers.{Leaves}
use Rattle.ix_vparse.specs.Taken.{Steps}

abbrev pub state : List Source → Option Source → State
state ms o = record { modules = ms; open_module = o }

-- lines with the words before a place lead to these modules
pub record Led (ws : List Word) (at : ℕ) (ms : List Source) (o : Option Source) : Type 0 where
  pub lines : List Line
  pub leads : Leads start lines (state ms o)
  pub are : take at ws ≡ flat_map line_words lines

pub led_none : (ws : List Word) → Led ws 0 [] None
led_none ws = record { lines = []; leads = refl; are = refl }

leads_on : (ls ks : List Line) (a b c : State) → Leads a ls b → Leads b ks c → Leads a (ls ++ ks) c
leads_on [] ks a b c h k = subst (λ (s : State). Leads s ks c) (sym h) k
leads_on (l ∷ ls) ks a b c h k = (h.0, leads_on ls ks (after a l) b c h.1 k)

flat_more : (ls : List Line) (l : Line) → flat_map line_words (ls ++ l ∷ []) ≡ flat_map line_words ls ++ line_words l
flat_more ls l = flat_map-append line_words ls (l ∷ []) ∙ ap (λ z. flat_map line_words ls ++ z) (append-nil (line_words l))

take_more : {X : Type 0} (at n : ℕ) (xs : List X) → at ≤ length xs → take (at + n) xs ≡ take at xs ++ take n (drop at xs)
take_more zero n xs l = ap (λ k. take k xs) (omega arith)
take_more (suc at) n [] l = absurd (omega (arith, l))
take_more (suc at) n (x ∷ xs) l =
    let e : suc at + n ≡ suc (at + n) = omega arith in
    ap (λ k. take k (x ∷ xs)) e ∙ ap (λ z. x ∷ z) (take_more at n xs (omega (arith, l)))

-- one more line
pub led_more : (ws : List Word) (at n : ℕ) (ms more : List Source) (o next : Option Source) → at ≤ length ws → Led ws at ms o → Steps o ms (take n (drop at ws)) next more → Led ws (at + n) more next
led_more ws at n ms more o next l d s = record {
  lines = d.lines ++ s.line ∷ [];
  leads = leads_on d.lines (s.line ∷ []) start (state ms o) (state more next) d.leads (s.may, s.leads);
  are = take_more at n ws l ∙ ap (λ z. z ++ take n (drop at ws)) d.are ∙ ap (λ z. flat_map line_words d.lines ++ z) s.are ∙ sym (flat_more d.lines s.line);
}

reaches_within : (o : Option Source) (xs : List Slot) (ws : List Word) (n : ℕ) → Reaches o xs ws n → n ≤ length ws
reaches_within o [] ws n h = omega (arith, h)
reaches_within o (x ∷ xs) [] n h = omega (arith, h)
reaches_within o (x ∷ xs) (w ∷ ws) zero h = omega arith
reaches_within o (x ∷ xs) (w ∷ ws) (suc n) h = (let k = reaches_within o xs ws n h.1 in omega (arith, k))

some_within : (o : Option Source) (ws : List Word) (n : ℕ) → SomeTo o ws n → n ≤ length ws
some_within o ws n (inl e) = omega (arith, e)
some_within o ws n (inr h) = reaches_within o (slots h.0) ws n h.1.0

-- a line that is whole
pub whole_within : (o : Option Source) (k : Kind) (ws : List Word) (n : ℕ) → Reaches o (slots k) ws n → n ≤ length ws
whole_within o k ws n h = reaches_within o (slots k) ws n h

pub whole_fits : (o : Option Source) (k : Kind) (ws : List Word) (n : ℕ) → n ≡ length (slots k) → Reaches o (slots k) ws n → Fits o (slots k) (take n ws)
whole_fits o k ws n e h = subst (λ z. Fits o (slots k) (take z ws)) (sym e) (fits_taken o (slots k) ws (subst (λ z. Reaches o (slots k) ws z) e h))

-- ---- the words so far begin a text
begins_led : (ws : List Word) (at : ℕ) (ms : List Source) (o : Option Source) → Led ws at ms o → Begins (take at ws)
begins_led ws at ms o d = record { lines = d.lines; end = state ms o; leads = d.leads; rest = []; are = append-nil (take at ws) ∙ d.are }

begins_part : (ws : List Word) (at n : ℕ) (ms : List Source) (o : Option Source) → at ≤ length ws → Led ws at ms o → SomeTo o (drop at ws) n → Begins (take (at + n) ws)
begins_part ws at n ms o l d (inl e) = (let z : at ≡ at + n = omega (arith, e) in subst (λ k. Begins (take k ws)) z (begins_led ws at ms o d))
begins_part ws at zero ms o l d (inr h) = (let z : at ≡ at + 0 = omega arith in subst (λ k. Begins (take k ws)) z (begins_led ws at ms o d))
begins_part ws at (suc n) ms o l d (inr h) =
    let g = started_goes_on o h.0 (drop at ws) n h.1.0 in
    let s : Stands o (take (suc n) (drop at ws) ++ g.0) = fitting_stands o h.0 (take (suc n) (drop at ws) ++ g.0) g.1 in
    let st = state ms o in
    record {
      lines = d.lines ++ s.line ∷ [];
      end = after st s.line;
      leads = leads_on d.lines (s.line ∷ []) start st (after st s.line) d.leads (s.may, refl);
      rest = g.0;
      are =
          ap (λ z. z ++ g.0) (take_more at (suc n) ws l) ∙ append_assoc (take at ws) (take (suc n) (drop at ws)) g.0 ∙ ap (λ z. z ++ (take (suc n) (drop at ws) ++ g.0)) d.are
          ∙ ap (λ z. flat_map line_words d.lines ++ z) s.are ∙ sym (flat_more d.lines s.line);
    }

-- ---- with one more word they do not
no_words : (x : List Word) (w : Word) (z : List Word) → w ∷ z ≡ [] → ⊥
no_words x w z e = cc

not_empty : (n : ℕ) (xs z : List Word) → 1 ≤ length xs → take (suc n) xs ++ z ≡ [] → ⊥
not_empty n [] z l e = omega (arith, l)
not_empty n (x ∷ xs) z l e = no_words [] x (take n xs ++ z) e

-- no line of any kind begins with the words up to this one
abbrev NoneFurther : Option Source → List Word → ℕ → Type 0
NoneFurther o ws n = (k : Kind) → (m : ℕ) × StopsIn o ws k m × (m ≤ n)

no_more : (o : Option Source) (ms : List Source) (ws z : List Word) (n : ℕ) (more : List Line) (f : State) → NoneFurther o ws n → n < length ws → Leads (state ms o) more f → take (suc n) ws ++ z ≡ flat_map line_words more → ⊥
no_more o ms ws z n [] f h l k e = not_empty n ws z (omega (arith, l)) e
no_more o ms ws z n (m ∷ more) f h l k e =
    let a = lines_fit o m k.0 in
    let s = h a.0 in
    no_line o (slots a.0) ws (line_words m) (flat_map line_words more) z s.0 n s.1.0 s.1.1 s.2 l a.1 (sym e)

next_part : (ws : List Word) (at n : ℕ) (ms : List Source) (o : Option Source) → at ≤ length ws → Led ws at ms o → NoneFurther o (drop at ws) n → at + n < length ws → Begins (take (suc (at + n)) ws) → ⊥
next_part ws at n ms o l d h m b =
    let i : suc (at + n) ≡ at + suc n = omega arith in
    let e : take (suc (at + n)) ws ≡ flat_map line_words d.lines ++ take (suc n) (drop at ws) = ap (λ k. take k ws) i ∙ take_more at (suc n) ws l ∙ ap (λ z. z ++ take (suc n) (drop at ws)) d.are in
    let q : flat_map line_words d.lines ++ (take (suc n) (drop at ws) ++ b.rest) ≡ flat_map line_words b.lines = sym (append_assoc (flat_map line_words d.lines) (take (suc n) (drop at ws)) b.rest) ∙ ap (λ z. z ++ b.rest) (sym e) ∙ b.are in
    let g = goes_on d.lines b.lines start (state ms o) b.end (take (suc n) (drop at ws) ++ b.rest) d.leads b.leads q in
    let j : length (drop at ws) ≡ length ws - at = length-drop at ws in
    no_more o ms (drop at ws) b.rest n g.more b.end h (omega (arith, j, m, l)) g.leads g.words

-- ---- nor are they whole modules
whole_words : (ws : List Word) (at : ℕ) (ms ns : List Source) (o : Option Source) (d : Led ws at ms o) (a : AreModules ws ns) → GoesOn d.lines a.lines (state ms o) (state ns None) (drop at ws)
whole_words ws at ms ns o d a =
    let q : flat_map line_words d.lines ++ drop at ws ≡ flat_map line_words a.lines = ap (λ z. z ++ drop at ws) (sym d.are) ∙ take-append-drop at ws ∙ a.are in
    goes_on d.lines a.lines start (state ms o) (state ns None) (drop at ws) d.leads a.leads q

no_end : (o : Option Source) (ms : List Source) (ws : List Word) (n : ℕ) (more : List Line) (f : State) → NoneFurther o ws n → 1 ≤ length ws → Leads (state ms o) more f → ws ≡ flat_map line_words more → ⊥
no_end o ms ws n [] f h l k e = (let z : length ws ≡ 0 = ap length e in omega (arith, z, l))
no_end o ms ws n (m ∷ more) f h l k e =
    let a = lines_fit o m k.0 in
    let s = h a.0 in
    let w : s.0 ≡ length (slots a.0) = whole_line o (slots a.0) ws (line_words m) (flat_map line_words more) s.0 s.1.0 a.1 (sym e) in
    omega (arith, w, s.1.1)

end_part : (ws : List Word) (at n : ℕ) (ms : List Source) (o : Option Source) → at < length ws → Led ws at ms o → NoneFurther o (drop at ws) n → (ns : List Source) → AreModules ws ns → ⊥
end_part ws at n ms o l d h ns a =
    let g = whole_words ws at ms ns o d a in
    let j : length (drop at ws) ≡ length ws - at = length-drop at ws in
    no_end o ms (drop at ws) n g.more (state ns None) h (omega (arith, j, l)) g.leads g.words

-- within a line, or before one that may not stand
pub leaves_part : (ws : List Word) (at n : ℕ) (ms : List Source) (o : Option Source) → at < length ws → Led ws at ms o → IsFound o (drop at ws) (Part n) → Leaves ws (at + n)
leaves_part ws at n ms o l d f =
    let w = some_within o (drop at ws) n f.1 in
    let j : length (drop at ws) ≡ length ws - at = length-drop at ws in
    record {
      within = omega (arith, w, j, l);
      front = begins_part ws at n ms o (omega (arith, l)) d f.1;
      next = λ m b. next_part ws at n ms o (omega (arith, l)) d f.0 m b;
      end = λ e ns a. end_part ws at n ms o l d f.0 ns a;
    }

ends_here : (more : List Line) (from to : State) → Leads from more to → [] ≡ flat_map line_words more → from ≡ to
ends_here [] from to h e = h
ends_here (l ∷ more) from to h e = absurd (some_words l (flat_map line_words more) (sym e))

drop_all : (ws : List Word) → drop (length ws) ws ≡ []
drop_all [] = refl
drop_all (w ∷ ws) = drop_all ws

-- within a module
pub leaves_open : (ws : List Word) (ms : List Source) (o : Option Source) → o ≢ None → Led ws (length ws) ms o → Leaves ws (length ws)
leaves_open ws ms o n d = record {
  within = omega arith;
  front = begins_led ws (length ws) ms o d;
  next = λ m. absurd (omega (arith, m));
  end = λ e ns a. (let g = whole_words ws (length ws) ms ns o d a in
      n (ap (λ (s : State). s.open_module) (ends_here g.more (state ms o) (state ns None) g.leads (sym (drop_all ws) ∙ g.words))));
}

-- behind the last line
pub led_modules : (ws : List Word) (ms : List Source) → Led ws (length ws) ms None → AreModules ws ms
led_modules ws ms d = record { lines = d.lines; leads = d.leads; are = sym (take-length ws) ∙ d.are }
