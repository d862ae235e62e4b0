-- The parser's run over the tokens, and the verdicts that it comes to.
use Rattle.std.proofs.Common.{◌≡◌, ℕ, suc, ◌<◌, ◌≤◌, List, [], ◌∷◌, ◌++◌, length, take, drop, get_or, refl, ap, sym, ◌∙◌, subst, arith, drop-cons}
use Rattle.std.proofs.Math.Seq.{take-suc}
use Rattle.std.proofs.lemmas.List.{take-append-drop, length-take-le, length-drop, nil_from_length}
use Rattle.std.proofs.lemmas.List.Elements.{All-append}
use Rattle.ix_tree.specs.declared.token.Token.{Token}
use Rattle.ix_tree.specs.Trees.{TextTree}
use Rattle.ix_tree.specs.Grammar.{Derives}
use Rattle.ix_tree.specs.Machine.{State, starting, ended, Next, stop, go, step, stuck, finish, run, marked}
use Rattle.ix_tree.specs.Parsing.{IsFlat, IsRefusedAt, IsTooDeepAt}
use Rattle.ix_tree.proofs.Steps.{one}
use Rattle.ix_tree.proofs.Walks.{Walks, stands, goes, walked, at_stop, at_end}
use Rattle.ix_tree.proofs.Verdicts.{tree_is, at_is, deep_is}
use Rattle.ix_parse_state.specs.Moves.{GoesTo, GoesDeep}

-- the first n tokens were read, none of them nests too deep, and the machine stands in this state
pub record Read (ts : List Token) (n : ℕ) (z : State) : Type 0 where
  pub within : n ≤ length ts
  pub nestings : List ℕ
  pub walks : Walks starting (take n ts) nestings z
  pub flat : IsFlat nestings

pub begins : (ts : List Token) → Read ts 0 starting
begins ts = record { within = omega arith; nestings = []; walks = stands; flat = λ i d h. absurd (omega arith) }

one_more : {s y z : State} {ts : List Token} {ms : List ℕ} → Walks s ts ms y → (t : Token) (m : ℕ) → step y t ≡ go m z → Walks s (ts ++ t ∷ []) (ms ++ m ∷ []) z
one_more stands t m e = goes t m e stands
one_more (goes u k f w) t m e = goes u k f (one_more w t m e)

counted : {s z : State} {ts : List Token} {ms : List ℕ} → Walks s ts ms z → length ms ≡ length ts
counted stands = refl
counted (goes t m e w) = let h = counted w in omega arith

still_flat : (ms : List ℕ) (m : ℕ) → IsFlat ms → m ≤ 64 → IsFlat (ms ++ m ∷ [])
still_flat ms m f l = All-append (λ m. m ≤ 64) ms (m ∷ []) f (λ i d h. let e : i ≡ 0 = omega arith in rw e l)

-- what an answer says of the machine's step
pub goes_on : (n : Next) (y : State) → GoesTo y n → (m : ℕ) × (m ≤ 64) × (n ≡ go m y)
goes_on stop y e = absurd e
goes_on (go m z) y e = (m, e.0, ap (go m) e.1)

pub goes_deep : (n : Next) → GoesDeep n → (m : ℕ) × (z : State) × (64 < m) × (n ≡ go m z)
goes_deep stop e = absurd e
goes_deep (go m z) e = (m, z, e, refl)

-- the token that comes next
at_token : (ts : List Token) (n : ℕ) (t : Token) → n < length ts → t ≡ get_or ts n t → drop n ts ≡ t ∷ drop (suc n) ts
at_token ts n t l e = drop-cons ts n t l ∙ ap (λ (u : Token). u ∷ drop (suc n) ts) (sym e)

pub reads : (ts : List Token) (n : ℕ) (y z : State) (t : Token) → Read ts n y → n < length ts → t ≡ get_or ts n t → GoesTo z (step y t) → Read ts (suc n) z
reads ts n y z t r l e g =
    let h = goes_on (step y t) z g in
    let front : take (suc n) ts ≡ take n ts ++ t ∷ [] = take-suc ts n t l ∙ ap (λ (u : Token). take n ts ++ u ∷ []) (sym e) in
    record {
      within = omega arith;
      nestings = r.nestings ++ h.0 ∷ [];
      walks = subst (λ (us : List Token). Walks starting us (r.nestings ++ h.0 ∷ []) z) (sym front) (one_more r.walks t h.0 h.2);
      flat = still_flat r.nestings h.0 r.flat h.1;
    }

-- the machine's run over all tokens goes on from where the reader stands
onward : (ts : List Token) (n : ℕ) (y : State) → (r : Read ts n y) → (us : List Token) → drop n ts ≡ us → run starting ts ≡ marked r.nestings (run y us)
onward ts n y r us e = ap (run starting) (sym (take-append-drop n ts)) ∙ walked r.walks (drop n ts) ∙ ap (λ (vs : List Token). marked r.nestings (run y vs)) e

width : (ts : List Token) (n : ℕ) (y : State) → (r : Read ts n y) → n ≤ length ts → length r.nestings ≡ n
width ts n y r l = counted r.walks ∙ length-take-le n ts l

pub refused_here : (ts : List Token) (n : ℕ) (y : State) (t : Token) → Read ts n y → n < length ts → t ≡ get_or ts n t → step y t ≡ stop → IsRefusedAt ts n
refused_here ts n y t r l e h =
    let here = at_token ts n t l e in
    at_is ts n r.nestings
    (onward ts n y r (t ∷ drop (suc n) ts) here ∙ ap (marked r.nestings) (at_stop y t (drop (suc n) ts) h ∙ ap stuck (sym here)))
    (width ts n y r (omega arith)) (omega arith) r.flat

pub deep_here : (ts : List Token) (n : ℕ) (y : State) (t : Token) → Read ts n y → n < length ts → t ≡ get_or ts n t → GoesDeep (step y t) → IsTooDeepAt ts n
deep_here ts n y t r l e g =
    let h = goes_deep (step y t) g in
    let rest = drop (suc n) ts in
    deep_is ts n r.nestings h.0 (run h.1 rest)
    (onward ts n y r (t ∷ rest) (at_token ts n t l e) ∙ ap (marked r.nestings) (one y t rest h.0 h.1 h.3))
    (width ts n y r (omega arith)) r.flat h.2

none_left : (ts : List Token) (n : ℕ) → length ts ≤ n → drop n ts ≡ []
none_left ts n l = nil_from_length (drop n ts) (length-drop n ts ∙ (omega arith))

pub ends_early : (ts : List Token) (n : ℕ) (y : State) → Read ts n y → length ts ≤ n → finish y ≡ stuck [] → IsRefusedAt ts n
ends_early ts n y r l h =
    let end = none_left ts n l in
    at_is ts n r.nestings (onward ts n y r [] end ∙ ap (marked r.nestings) (at_end y ∙ h ∙ ap stuck (sym end))) (width ts n y r r.within) r.within r.flat

pub ends_well : (ts : List Token) (n : ℕ) (y : State) (x : TextTree) → Read ts n y → length ts ≤ n → y ≡ ended x → Derives ts x
ends_well ts n y x r l h =
    tree_is ts r.nestings x (onward ts n y r [] (none_left ts n l) ∙ ap (marked r.nestings) (at_end y ∙ ap finish h)) r.flat
