-- The search for an order of cells: the path that is open, and what a step of the search keeps.
use Rattle.std.proofs.Common.{◌≡◌, ◌≢◌, ◌⊎◌, ⊎_elim, inl, inr, ℕ, ◌+◌, ◌-◌, ◌<◌, ◌≤◌, zero, suc, List, [], ◌∷◌, ◌++◌, length, get_or, set, take, arith, refl, ap, sym, ◌∙◌, subst, All, Contains}
use Rattle.std.proofs.lemmas.Bool.{cases_eq, cases_lt}
use Rattle.std.proofs.lemmas.List.{get_or-set_same, get_or-set_other, get_or_default, get_or_append_left, get_or_push, take-append-le, take_at, take_more, take_all, length_push}
use Rattle.std.proofs.lemmas.List.Elements.{Contains-append_left, Contains-push, Contains-push_cases, All-push}
use Rattle.ix_net.specs.declared.gates.Gate.{Gate}
use Rattle.ix_net.specs.declared.ordering.Mark.{Mark}
use Rattle.ix_net.specs.declared.ordering.Mark.TheVariants.{New, Open, Done}
use Rattle.ix_net.specs.Chain.{Chain, one, more}
use Rattle.ix_net.specs.Gates.{reads_of}
use Rattle.ix_net.specs.Order.{Reads, IsOrdered, IsResting, StaysSeen, gate_at, mark_at}

-- one more element of what was gone over
pub Contains-more : {X : Type 0} (xs : List X) (i : ℕ) (d x : X) → i < length xs → Contains (take (i + 1) xs) x → Contains (take i xs) x ⊎ (get_or xs i d ≡ x)
Contains-more {X} xs i d x l h =
    let P : List X → Type 0 = λ ys. Contains ys x in
    Contains-push_cases (take i xs) (get_or xs i d) x (subst P (take_more xs i d l) h)

-- all that was gone over
pub Contains-whole : {X : Type 0} (xs : List X) (i : ℕ) (x : X) → length xs ≤ i → Contains xs x → Contains (take i xs) x
Contains-whole {X} xs i x l h = let P : List X → Type 0 = λ ys. Contains ys x in subst P (sym (take_all i xs l)) h

-- a mark after a write: the one written, or an older one
mark_cases :
    (marks : List Mark) (c k : ℕ) (m v : Mark) → c < length marks → mark_at (set marks c m) k ≡ v
    → ((k ≡ c) × (m ≡ v)) ⊎ ((k ≢ c) × (mark_at marks k ≡ v))
mark_cases marks c k m v l h =
    ⊎_elim
    (λ (e : k ≡ c). inl (e, sym (get_or-set_same marks c m New l) ∙ ap (λ x. mark_at (set marks c m) x) (sym e) ∙ h))
    (λ (ne : k ≢ c). inr (ne, sym (get_or-set_other marks c k m New ne) ∙ h))
    (cases_eq k c)

-- a written mark other than New leaves no cell new that was not
seen-set : (old marks : List Mark) (c : ℕ) (m : Mark) → c < length marks → m ≢ New → StaysSeen old marks → StaysSeen old (set marks c m)
seen-set old marks c m l ne seen k h g =
    ⊎_elim (λ (e : (k ≡ c) × (m ≡ New)). ne e.1) (λ (o : (k ≢ c) × (mark_at marks k ≡ New)). seen k h o.1) (mark_cases marks c k m New l g)

root-set : (marks : List Mark) (c root : ℕ) (m : Mark) → c < length marks → m ≢ New → mark_at marks root ≢ New → mark_at (set marks c m) root ≢ New
root-set marks c root m l ne seen g =
    ⊎_elim (λ (e : (root ≡ c) × (m ≡ New)). ne e.1) (λ (o : (root ≢ c) × (mark_at marks root ≡ New)). seen o.1) (mark_cases marks c root m New l g)

-- the search: the path leads from each cell to one that it reads
pub record IsSearching (first : ℕ) (gates : List Gate) (old marks : List Mark) (order path : List ℕ) (root : ℕ) : Type 0 where
  pub cells : All (λ k. k < length gates) path
  pub linked : (p : ℕ) → p + 1 < length path → Reads first gates (get_or path (p + 1) 0) (get_or path p 0)
  pub opened : (k : ℕ) → mark_at marks k ≡ Open → Contains path k
  pub done : (k : ℕ) → mark_at marks k ≡ Done → Contains order k
  pub ordered : IsOrdered first gates order
  pub seen : StaysSeen old marks
  pub root_seen : mark_at marks root ≢ New

-- at the start the root alone is open
pub searching_first :
    (first : ℕ) (gates : List Gate) (old : List Mark) (order : List ℕ) (root : ℕ) → length old ≡ length gates → root < length gates
    → IsResting first gates old order → IsSearching first gates old (set old root Open) order (root ∷ []) root
searching_first first gates old order root size l rest =
    let lo : root < length old = omega arith in
    record {
      cells = All-push (λ k. k < length gates) [] root (λ k d lk. absurd (omega arith)) l;
      linked = λ p lp. absurd (omega arith);
      opened = λ k h.
          ⊎_elim (λ (e : (k ≡ root) × (Open ≡ Open)). let here : Contains (root ∷ []) k = (0, omega arith, sym e.0) in here)
          (λ (o : (k ≢ root) × (mark_at old k ≡ Open)). absurd (rest.shut k o.1)) (mark_cases old root k Open Open lo h);
      done = λ k h.
          ⊎_elim (λ (e : (k ≡ root) × (Open ≡ Done)). absurd (let no = e.1 in cc))
          (λ (o : (k ≢ root) × (mark_at old k ≡ Done)). rest.done k o.1) (mark_cases old root k Open Done lo h);
      ordered = rest.ordered;
      seen = seen-set old old root Open lo (λ e. cc) (λ k h. h);
      root_seen = λ h. ⊎_elim (λ (e : (root ≡ root) × (Open ≡ New)). let no = e.1 in cc) (λ (o : (root ≢ root) × (mark_at old root ≡ New)). o.0 refl) (mark_cases old root root Open New lo h);
    }

-- parts of a list before its last element
last_of : (rest : List ℕ) (x : ℕ) → get_or (rest ++ x ∷ []) (length rest) 0 ≡ x
last_of rest x = get_or_push rest x 0 (length rest) refl

before_last : (rest : List ℕ) (x p : ℕ) → p < length rest → get_or (rest ++ x ∷ []) p 0 ≡ get_or rest p 0
before_last rest x p l = get_or_append_left rest (x ∷ []) 0 p l

-- the order with one more cell, all of whose operands stand in it
ordered-push :
    (first : ℕ) (gates : List Gate) (order : List ℕ) (cell : ℕ) → cell < length gates → IsOrdered first gates order
    → ((a : ℕ) → Reads first gates a cell → Contains order a) → IsOrdered first gates (order ++ cell ∷ [])
ordered-push first gates order cell l h reads =
    let size : length (order ++ cell ∷ []) ≡ length order + 1 = length_push order cell in
    record {
      cells = All-push (λ k. k < length gates) order cell h.cells l;
      behind = λ i a li r. ⊎_elim
          (λ (lt : i < length order).
          (let R : ℕ → Type 0 = λ x. Reads first gates a x in
          let C : List ℕ → Type 0 = λ ys. Contains ys a in
          subst C (sym (take-append-le i order (cell ∷ []) (omega arith))) (h.behind i a lt (subst R (before_last order cell i lt) r))))
          (λ (ge : length order ≤ i).
          (let e : i ≡ length order = omega arith in
          let R : ℕ → Type 0 = λ x. Reads first gates a x in
          let C : List ℕ → Type 0 = λ ys. Contains ys a in
          let at : get_or (order ++ cell ∷ []) i 0 ≡ cell = ap (λ n. get_or (order ++ cell ∷ []) n 0) e ∙ last_of order cell in
          subst C (sym (take_at order (cell ∷ []) i (sym e))) (reads a (subst R at r))))
          (cases_lt i (length order));
    }

-- the last cell of the path is done
pub searching_done :
    (first : ℕ) (gates : List Gate) (old marks : List Mark) (order rest : List ℕ) (root cell : ℕ) → length marks ≡ length gates
    → IsSearching first gates old marks order (rest ++ cell ∷ []) root
    → ((k : ℕ) → k < length marks → Contains (reads_of (gate_at gates cell)) (first + k) → mark_at marks k ≡ Done)
    → IsSearching first gates old (set marks cell Done) (order ++ cell ∷ []) rest root
searching_done first gates old marks order rest root cell size s ready =
    let long : length (rest ++ cell ∷ []) ≡ length rest + 1 = length_push rest cell in
    let l : cell < length gates = (let h = s.cells (length rest) 0 (omega arith) in let e = last_of rest cell in let P : ℕ → Type 0 = λ x. x < length gates in subst P e h) in
    let lm : cell < length marks = omega arith in
    record {
      cells = λ k d lk. (let P : ℕ → Type 0 = λ x. x < length gates in subst P (get_or_append_left rest (cell ∷ []) d k lk) (s.cells k d (omega arith)));
      linked = λ p lp.
          (let R : ℕ → Type 0 = λ x. Reads first gates x (get_or (rest ++ cell ∷ []) p 0) in
          let Q : ℕ → Type 0 = λ y. Reads first gates (get_or rest (p + 1) 0) y in
          subst Q (before_last rest cell p (omega arith)) (subst R (before_last rest cell (p + 1) lp) (s.linked p (omega arith))));
      opened = λ k h.
          ⊎_elim (λ (e : (k ≡ cell) × (Done ≡ Open)). absurd (let no = e.1 in cc))
          (λ (o : (k ≢ cell) × (mark_at marks k ≡ Open)). ⊎_elim (λ (c : Contains rest k). c) (λ (e : cell ≡ k). absurd (o.0 (sym e))) (Contains-push_cases rest cell k (s.opened k o.1)))
          (mark_cases marks cell k Done Open lm h);
      done = λ k h.
          ⊎_elim (λ (e : (k ≡ cell) × (Done ≡ Done)). let C : ℕ → Type 0 = λ x. Contains (order ++ cell ∷ []) x in subst C (sym e.0) (Contains-push order cell))
          (λ (o : (k ≢ cell) × (mark_at marks k ≡ Done)). Contains-append_left order (cell ∷ []) k (s.done k o.1)) (mark_cases marks cell k Done Done lm h);
      ordered = ordered-push first gates order cell l s.ordered (λ a r. s.done a (ready a (let la = r.source in omega arith) r.reads));
      seen = seen-set old marks cell Done lm (λ e. cc) s.seen;
      root_seen = root-set marks cell root Done lm (λ e. cc) s.root_seen;
    }

-- the path goes on to a new cell
pub searching_on :
    (first : ℕ) (gates : List Gate) (old marks : List Mark) (order rest : List ℕ) (root cell next : ℕ) → length marks ≡ length gates
    → IsSearching first gates old marks order (rest ++ cell ∷ []) root → Reads first gates next cell → mark_at marks next ≢ Done
    → IsSearching first gates old (set marks next Open) order ((rest ++ cell ∷ []) ++ next ∷ []) root
searching_on first gates old marks order rest root cell next size s r undone =
    let path : List ℕ = rest ++ cell ∷ [] in
    let long : length (rest ++ cell ∷ []) ≡ length rest + 1 = length_push rest cell in
    let longer : length ((rest ++ cell ∷ []) ++ next ∷ []) ≡ length (rest ++ cell ∷ []) + 1 = length_push (rest ++ cell ∷ []) next in
    let lm : next < length marks = (let la = r.source in omega arith) in
    record {
      cells = All-push (λ k. k < length gates) (rest ++ cell ∷ []) next s.cells r.source;
      linked = λ p lp. ⊎_elim
          (λ (lt : p + 1 < length (rest ++ cell ∷ [])).
          (let R : ℕ → Type 0 = λ x. Reads first gates x (get_or ((rest ++ cell ∷ []) ++ next ∷ []) p 0) in
          let Q : ℕ → Type 0 = λ y. Reads first gates (get_or (rest ++ cell ∷ []) (p + 1) 0) y in
          subst R (sym (before_last (rest ++ cell ∷ []) next (p + 1) lt)) (subst Q (sym (before_last (rest ++ cell ∷ []) next p (omega arith))) (s.linked p lt))))
          (λ (ge : length (rest ++ cell ∷ []) ≤ p + 1).
          (let e : p + 1 ≡ length (rest ++ cell ∷ []) = omega arith in
          let e' : p ≡ length rest = omega arith in
          let at_next : get_or ((rest ++ cell ∷ []) ++ next ∷ []) (p + 1) 0 ≡ next = ap (λ n. get_or ((rest ++ cell ∷ []) ++ next ∷ []) n 0) e ∙ last_of (rest ++ cell ∷ []) next in
          let at_cell : get_or ((rest ++ cell ∷ []) ++ next ∷ []) p 0 ≡ cell = before_last (rest ++ cell ∷ []) next p (omega arith) ∙ ap (λ n. get_or (rest ++ cell ∷ []) n 0) e' ∙ last_of rest cell in
          let R : ℕ → Type 0 = λ x. Reads first gates x (get_or ((rest ++ cell ∷ []) ++ next ∷ []) p 0) in
          let Q : ℕ → Type 0 = λ y. Reads first gates next y in
          subst R (sym at_next) (subst Q (sym at_cell) r)))
          (cases_lt (p + 1) (length (rest ++ cell ∷ [])));
      opened = λ k h.
          ⊎_elim (λ (e : (k ≡ next) × (Open ≡ Open)). let C : ℕ → Type 0 = λ x. Contains ((rest ++ cell ∷ []) ++ next ∷ []) x in subst C (sym e.0) (Contains-push (rest ++ cell ∷ []) next))
          (λ (o : (k ≢ next) × (mark_at marks k ≡ Open)). Contains-append_left (rest ++ cell ∷ []) (next ∷ []) k (s.opened k o.1)) (mark_cases marks next k Open Open lm h);
      done = λ k h.
          ⊎_elim (λ (e : (k ≡ next) × (Open ≡ Done)). absurd (let no = e.1 in cc)) (λ (o : (k ≢ next) × (mark_at marks k ≡ Done)). s.done k o.1) (mark_cases marks next k Open Done lm h);
      ordered = s.ordered;
      seen = seen-set old marks next Open lm (λ e. cc) s.seen;
      root_seen = root-set marks next root Open lm (λ e. cc) s.root_seen;
    }

-- from what a cell of the path reads, back along the path
path_chain :
    (first : ℕ) (gates : List Gate) (path : List ℕ) → ((p : ℕ) → p + 1 < length path → Reads first gates (get_or path (p + 1) 0) (get_or path p 0))
    → (d p x : ℕ) → p + d < length path → Reads first gates x (get_or path (p + d) 0) → Chain (Reads first gates) x (get_or path p 0)
path_chain first gates path linked zero p x l r =
    let R : ℕ → Type 0 = λ n. Reads first gates x (get_or path n 0) in
    let e : p + 0 ≡ p = omega arith in
    one (subst R e r)
path_chain first gates path linked (suc d) p x l r =
    let R : ℕ → Type 0 = λ n. Reads first gates x (get_or path n 0) in
    let e : p + suc d ≡ p + 1 + d = omega arith in
    more (path_chain first gates path linked d (p + 1) x (omega arith) (subst R e r)) (linked p (omega arith))

-- the last cell of the path reads one that is open
pub searching_loop :
    (first : ℕ) (gates : List Gate) (old marks : List Mark) (order rest : List ℕ) (root cell next : ℕ)
    → IsSearching first gates old marks order (rest ++ cell ∷ []) root → Reads first gates next cell → mark_at marks next ≡ Open
    → Chain (Reads first gates) next next
searching_loop first gates old marks order rest root cell next s r open' =
    let long : length (rest ++ cell ∷ []) ≡ length rest + 1 = length_push rest cell in
    let at = s.opened next open' in
    let p = at.0 in
    let lp : p < length (rest ++ cell ∷ []) = at.1 in
    let d = length rest - p in
    let e : p + d ≡ length rest = omega arith in
    let R : ℕ → Type 0 = λ x. Reads first gates next x in
    let last : Reads first gates next (get_or (rest ++ cell ∷ []) (p + d) 0) = subst R (sym (ap (λ n. get_or (rest ++ cell ∷ []) n 0) e ∙ last_of rest cell)) r in
    let C : ℕ → Type 0 = λ y. Chain (Reads first gates) next y in
    subst C (get_or_default (rest ++ cell ∷ []) p 0 next lp ∙ at.2) (path_chain first gates (rest ++ cell ∷ []) s.linked d p next (omega arith) last)

-- with an empty path no cell is open
pub searching_end :
    (first : ℕ) (gates : List Gate) (old marks : List Mark) (order path : List ℕ) (root : ℕ) → path ≡ []
    → IsSearching first gates old marks order path root → IsResting first gates marks order
searching_end first gates old marks order path root e s =
    record {
      shut = λ k h. (let c = s.opened k h in let lc : c.0 < length path = c.1 in let size : length path ≡ 0 = ap length e in omega arith);
      done = s.done;
      ordered = s.ordered;
    }

-- how many cells are new
abbrev pub new_count : List Mark → ℕ
new_count [] = 0
new_count (New ∷ ms) = new_count ms + 1
new_count (Open ∷ ms) = new_count ms
new_count (Done ∷ ms) = new_count ms

pub new_count-open : (marks : List Mark) (c : ℕ) → c < length marks → mark_at marks c ≡ New → new_count (set marks c Open) + 1 ≡ new_count marks
new_count-open [] c l h = absurd (omega arith)
new_count-open (New ∷ ms) zero l h = refl
new_count-open (Open ∷ ms) zero l h = absurd (cc)
new_count-open (Done ∷ ms) zero l h = absurd (cc)
new_count-open (New ∷ ms) (suc c) l h = omega (arith, new_count-open ms c (omega arith) h)
new_count-open (Open ∷ ms) (suc c) l h = new_count-open ms c (omega arith) h
new_count-open (Done ∷ ms) (suc c) l h = new_count-open ms c (omega arith) h

pub new_count-done : (marks : List Mark) (c : ℕ) → new_count (set marks c Done) ≤ new_count marks
new_count-done [] c = omega arith
new_count-done (New ∷ ms) zero = omega arith
new_count-done (Open ∷ ms) zero = omega arith
new_count-done (Done ∷ ms) zero = omega arith
new_count-done (New ∷ ms) (suc c) = omega (arith, new_count-done ms c)
new_count-done (Open ∷ ms) (suc c) = new_count-done ms c
new_count-done (Done ∷ ms) (suc c) = new_count-done ms c

-- a cell that is neither done nor open is new
pub new_from : (m : Mark) → m ≢ Done → m ≢ Open → m ≡ New
new_from New a b = refl
new_from Open a b = absurd (b refl)
new_from Done a b = absurd (a refl)

-- the last cell of a path of cells
pub last_in : (gates : List Gate) (rest : List ℕ) (cell : ℕ) → All (λ k. k < length gates) (rest ++ cell ∷ []) → cell < length gates
last_in gates rest cell h =
    let long : length (rest ++ cell ∷ []) ≡ length rest + 1 = length_push rest cell in
    let P : ℕ → Type 0 = λ x. x < length gates in
    subst P (last_of rest cell) (h (length rest) 0 (omega arith))
