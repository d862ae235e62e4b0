-- A text is of one list of modules, or leaves the subset at one byte.
use Rattle.std.proofs.Common.{◌≡◌, ◌≢◌, ℕ, zero, suc, ◌<◌, ◌≤◌, List, [], ◌∷◌, ◌++◌, length, take, drop, false, refl, ap, sym, ◌∙◌, subst, arith, append_assoc, inl, inr, None}
use Rattle.std.specs.Prelude.{nat_eq}
use Rattle.std.specs.List.{flat_map}
use Rattle.std.proofs.lemmas.Bool.{cases_order}
use Rattle.std.proofs.lemmas.List.{append_cancel_left, append-nil, take-append-drop}
use Rattle.ix_verilog.specs.declared.source.Source.{Source}
use Rattle.ix_verilog.specs.declared.token.Token.{Token}
use Rattle.ix_verilog.specs.Words.{Word, words_of}
use Rattle.ix_verilog.specs.Lines.{Line, head, port, heading, input, output, wire, register, assign, always, update, done, finish, line_words}
use Rattle.ix_verilog.specs.Subset.{State, start, after, Leads, AreModules, Begins, LeavesAt, IsWritten, place_of_token}
use Rattle.ix_verilog.proofs.OneLine.{order, order_of, order_is, one_line, apart}
use Rattle.ix_verilog.proofs.OneSpelling.{one_spelling}

test : (l : Line) → nat_eq (order l) 12 ≡ false
test (head n) = refl
test (port n) = refl
test heading = refl
test (input p) = refl
test (output p) = refl
test (wire p) = refl
test (register p) = refl
test (assign a) = refl
test always = refl
test (update u) = refl
test done = refl
test finish = refl

-- a line has words
pub some_words : (l : Line) (r : List Word) → line_words l ++ r ≢ []
some_words l r e = apart (order l) 12 (test l) (sym (order_is l r) ∙ ap order_of e)

-- lines that begin with the words of others begin with them
pub record GoesOn (ls ks : List Line) (from to : State) (z : List Word) : Type 0 where
  pub more : List Line
  pub are : ks ≡ ls ++ more
  pub leads : Leads from more to
  pub words : z ≡ flat_map line_words more

pub goes_on : (ls ks : List Line) (st e f : State) (z : List Word) → Leads st ls e → Leads st ks f → flat_map line_words ls ++ z ≡ flat_map line_words ks → GoesOn ls ks e f z
goes_on [] ks st e f z h k q = record { more = ks; are = refl; leads = subst (λ (s : State). Leads s ks f) h k; words = q }
goes_on (l ∷ ls) [] st e f z h k q = absurd (some_words l (flat_map line_words ls ++ z) (sym (append_assoc (line_words l) (flat_map line_words ls) z) ∙ q))
goes_on (l ∷ ls) (m ∷ ks) st e f z h k q =
    let q1 : line_words l ++ (flat_map line_words ls ++ z) ≡ line_words m ++ flat_map line_words ks = sym (append_assoc (line_words l) (flat_map line_words ls) z) ∙ q in
    let same : l ≡ m = one_line st.open_module l m (flat_map line_words ls ++ z) (flat_map line_words ks) h.0 k.0 q1 in
    let q2 : flat_map line_words ls ++ z ≡ flat_map line_words ks = append_cancel_left (line_words l) (flat_map line_words ls ++ z) (flat_map line_words ks) (q1 ∙ ap (λ (x : Line). line_words x ++ flat_map line_words ks) (sym same)) in
    let k1 : Leads (after st l) ks f = subst (λ (x : Line). Leads (after st x) ks f) (sym same) k.1 in
    let g = goes_on ls ks (after st l) e f z h.1 k1 q2 in
    record { more = g.more; are = ap (λ (x : Line). x ∷ ks) (sym same) ∙ ap (λ (x : List Line). l ∷ x) g.are; leads = g.leads; words = g.words }

ends_here : (more : List Line) (from to : State) → Leads from more to → [] ≡ flat_map line_words more → from ≡ to
ends_here [] from to h e = h
ends_here (l ∷ more) from to h e = absurd (some_words l (flat_map line_words more) (sym e))

-- words are those of one list of modules
pub one_text : (words : List Word) (ms ns : List Source) → AreModules words ms → AreModules words ns → ms ≡ ns
one_text words ms ns a b =
    let end : List Source → State = λ xs. record { modules = xs; open_module = None } in
    let q : flat_map line_words a.lines ++ [] ≡ flat_map line_words b.lines = append-nil (flat_map line_words a.lines) ∙ sym a.are ∙ b.are in
    let g = goes_on a.lines b.lines start (record { modules = ms; open_module = None }) (record { modules = ns; open_module = None }) [] a.leads b.leads q in
    ap (λ (s : State). s.modules) (ends_here g.more (record { modules = ms; open_module = None }) (record { modules = ns; open_module = None }) g.leads g.words)

pub written_once : (text : List ℕ) (ms ns : List Source) → IsWritten text ms → IsWritten text ns → ms ≡ ns
written_once text ms ns a b =
    let e : a.tokens ≡ b.tokens = one_spelling a.spelled text refl b.spelled in
    one_text (words_of b.tokens) ms ns (subst (λ (t : List Token). AreModules (words_of t) ms) e a.are) b.are

-- ---- words with which a text begins
begins_less : (x y : List Word) → Begins (x ++ y) → Begins x
begins_less x y b = record { lines = b.lines; end = b.end; leads = b.leads; rest = y ++ b.rest; are = sym (append_assoc x y b.rest) ∙ b.are }

take_less : {X : Type 0} (m n : ℕ) (xs : List X) → m ≤ n → (ys : List X) × (take n xs ≡ take m xs ++ ys)
take_less zero n xs l = (take n xs, refl)
take_less (suc m) zero xs l = absurd (omega arith)
take_less (suc m) (suc n) [] l = ([], refl)
take_less (suc m) (suc n) (x ∷ xs) l = (let r = take_less m n xs (omega arith) in (r.0, ap (λ z. x ∷ z) r.1))

begins_before : (m n : ℕ) (ws : List Word) → m ≤ n → Begins (take n ws) → Begins (take m ws)
begins_before m n ws l b = (let r = take_less m n ws l in begins_less (take m ws) r.0 (subst Begins r.1 b))

begins_all : (words : List Word) (ms : List Source) → AreModules words ms → (n : ℕ) → Begins (take n words)
begins_all words ms a n = begins_less (take n words) (drop n words) (record {
  lines = a.lines;
  end = record { modules = ms; open_module = None };
  leads = a.leads;
  rest = [];
  are = append-nil (take n words ++ drop n words) ∙ take-append-drop n words ∙ a.are;
})

-- a text of modules leaves the subset nowhere
pub written_stays : (text : List ℕ) (ms : List Source) (byte : ℕ) → IsWritten text ms → LeavesAt text byte → ⊥
written_stays text ms byte a l =
    let e : a.tokens ≡ l.tokens = one_spelling a.spelled text refl l.spelled in
    let m : AreModules (words_of l.tokens) ms = subst (λ (t : List Token). AreModules (words_of t) ms) e a.are in
    elim (cases_order l.before (length l.tokens)) [
      | inl s ↦ l.end s ms m
      | inr t ↦ elim t [
        | inl s ↦ l.next s (begins_all (words_of l.tokens) ms m (suc l.before))
        | inr s ↦ omega (arith, l.within)
      ]
    ]

-- it leaves it at one byte
pub leaves_once : (text : List ℕ) (b c : ℕ) → LeavesAt text b → LeavesAt text c → b ≡ c
leaves_once text b c l k =
    let e : l.tokens ≡ k.tokens = one_spelling l.spelled text refl k.spelled in
    let first : Begins (take l.before (words_of k.tokens)) = subst (λ (t : List Token). Begins (take l.before (words_of t))) e l.front in
    let same : l.before ≡ k.before = elim (cases_order l.before k.before) [
      | inl s ↦ s
      | inr t ↦ elim t [
        | inl s ↦ (let w : l.before < length l.tokens = omega (arith, s, k.within, ap length e) in
            let n : Begins (take (suc l.before) (words_of l.tokens)) = subst (λ (t : List Token). Begins (take (suc l.before) (words_of t))) (sym e) (begins_before (suc l.before) k.before (words_of k.tokens) (omega (arith, s)) k.front) in
            absurd (l.next w n))
        | inr s ↦ (let w : k.before < length k.tokens = omega (arith, s, l.within, ap length e) in
            absurd (k.next w (begins_before (suc k.before) l.before (words_of k.tokens) (omega (arith, s)) first)))
      ]
    ] in
    l.place ∙ ap (λ (t : List Token). place_of_token (length text) l.before t) e ∙ ap (λ n. place_of_token (length text) n k.tokens) same ∙ sym k.place
