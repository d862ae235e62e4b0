-- The registers and tables of a typed text: what a name stands for in typing is the register or table of its extension.
use Rattle.std.proofs.Common.{◌≡◌, ◌∙◌, sym, ap, subst, refl, ℕ, suc, ◌+◌, ◌^◌, ◌<◌, arith, pos, List, [], ◌∷◌, ◌++◌, length, map, Option, Some, None, Bool, true, false, cond}
use Rattle.std.specs.Prelude.{All}
use Rattle.std.proofs.lemmas.Bool.{eqb-true, false≢true}
use Rattle.std.proofs.lemmas.List.{append-nil, map-append, length-map}
use Rattle.std.proofs.lemmas.List.Elements.{All-nil, All-cons}
use Rattle.ix_bits.specs.declared.number.Ty.{Ty}
use Rattle.ix_bits.specs.declared.number.Bits.{Bits}
use Rattle.ix_tree.specs.Lexing.{same_bytes}
use Rattle.ix_tree.specs.LoopHeads.{Valued, head_value}
use Rattle.ix_tree.specs.declared.extension.Register.{Register}
use Rattle.ix_tree.specs.declared.extension.Table.{Table}
use Rattle.ix_tree.specs.Trees.{StateTree}
use Rattle.ix_tree.specs.TypedTrees.{TypedExprTree, TypedStateTree, TypedStateKindTree, tk_register, tk_table, TypedSectionTree, TypedSectionKindTree, tk_states, tk_instructions, tk_always, erased, erased_state, erased_state_kind, erased_section, erased_section_kind}
use Rattle.ix_typing.specs.declared.role.Role.{Role}
use Rattle.ix_typing.specs.declared.role.Role.TheVariants as R
use Rattle.ix_typing.specs.declared.role.Named.{Named}
use Rattle.ix_typing.specs.declared.state.State.{State}
use Rattle.ix_typing.specs.declared.state.Front.{Front}
use Rattle.ix_typing.specs.Names.{role_of, or_else}
use Rattle.ix_typing.specs.Texts.{nearest, role_by, unless_declared, declared_state, declared_states, states_of, globals, is_numbered}
use Rattle.ix_typed.specs.Texts.{IsStateKind, AreStates, IsKind, AreSections}
use Rattle.ix_extension.specs.Extensions.{states_in, all_states, pattern, constant_in, entry, with_register, registers_of, with_table, tables_of}
use Rattle.ix_mean.specs.View.{raw_of}
use Rattle.ix_mean.specs.Typing.{AreEntriesOf}
use Rattle.ix_mean.specs.ByName.{Numbered, register_in, Entries, table_in}
use Rattle.ix_behaviour.specs.Tables.{HaveWidthOf, IsTableRead}
use Rattle.ix_behaviour.proofs.Scopes.{same_equal, role_behind}

-- ---- the states of all sections
kind_states : (x : TypedSectionKindTree) → states_of (erased_section_kind x) ≡ map erased_state (states_in x)
kind_states (tk_states xs) = refl
kind_states (tk_instructions xs) = refl
kind_states (tk_always xs) = refl

states_behind : (names : List Named) (xs ys : List StateTree) → declared_states names (xs ++ ys) ≡ declared_states (declared_states names xs) ys
states_behind names [] ys = refl
states_behind names (x ∷ xs) ys = states_behind (declared_state names x) xs ys

pub globals_are : (names : List Named) (xs : List TypedSectionTree) → globals names (map erased_section xs) ≡ declared_states names (map erased_state (all_states xs))
globals_are names [] = refl
globals_are names (x ∷ xs) =
    let one : declared_states names (states_of (erased_section_kind x.kind)) ≡ declared_states names (map erased_state (states_in x.kind)) = ap (declared_states names) (kind_states x.kind) in
    globals_are (declared_states names (states_of (erased_section_kind x.kind))) xs
    ∙ ap (λ (z : List Named). declared_states z (map erased_state (all_states xs))) one
    ∙ sym (states_behind names (map erased_state (states_in x.kind)) (map erased_state (all_states xs)))
    ∙ ap (declared_states names) (sym (map-append erased_state (states_in x.kind) (all_states xs)))

-- the states of the sections behind, where one of states was there or was not
abbrev StatesBehind : State → List TypedSectionTree → Bool → Type 0
StatesBehind st xs true = all_states xs ≡ []
StatesBehind st xs false = AreStates st (all_states xs) 0

kind_behind : (st : State) (k : TypedSectionKindTree) (f mid : Front) (xs : List TypedSectionTree) → IsKind st k f mid → StatesBehind st xs mid.states
    → (all_states xs ≡ [] → states_in k ++ all_states xs ≡ states_in k) → (b : Bool) → f.states ≡ b
    → cond b (states_in k ++ all_states xs ≡ []) (AreStates st (states_in k ++ all_states xs) 0)
kind_behind st (tk_states ys) f mid xs h s e true b = absurd (false≢true (sym h.0 ∙ b))
kind_behind st (tk_states ys) f mid xs h s e false b =
    let P : Bool → Type 0 = λ z. StatesBehind st xs z in
    let none = subst P (ap (λ (z : Front). z.states) h.2) s in
    let A : List TypedStateTree → Type 0 = λ z. AreStates st z 0 in
    subst A (sym (e none)) h.1
kind_behind st (tk_instructions ys) f mid xs h s e true b = let P : Bool → Type 0 = λ z. StatesBehind st xs z in subst P (ap (λ (z : Front). z.states) h.1.2 ∙ b) s
kind_behind st (tk_instructions ys) f mid xs h s e false b = let P : Bool → Type 0 = λ z. StatesBehind st xs z in subst P (ap (λ (z : Front). z.states) h.1.2 ∙ b) s
kind_behind st (tk_always ys) f mid xs h s e true b = let P : Bool → Type 0 = λ z. StatesBehind st xs z in subst P (ap (λ (z : Front). z.states) h.1.2 ∙ b) s
kind_behind st (tk_always ys) f mid xs h s e false b = let P : Bool → Type 0 = λ z. StatesBehind st xs z in subst P (ap (λ (z : Front). z.states) h.1.2 ∙ b) s

as_behind : (st : State) (x : TypedSectionTree) (xs : List TypedSectionTree) (b : Bool) → cond b (states_in x.kind ++ all_states xs ≡ []) (AreStates st (states_in x.kind ++ all_states xs) 0) → StatesBehind st (x ∷ xs) b
as_behind st x xs true h = h
as_behind st x xs false h = h

sections_behind : (st : State) (xs : List TypedSectionTree) (f : Front) → AreSections st xs f → (b : Bool) → f.states ≡ b → StatesBehind st xs b
sections_behind st [] f h true e = refl
sections_behind st [] f h false e = tt
sections_behind st (x ∷ xs) f h b e =
    let rest = sections_behind st xs h.0 h.2 h.0.states refl in
    as_behind st x xs b
    (kind_behind st x.kind f h.0 xs h.1 rest (λ z. ap (λ (l : List TypedStateTree). states_in x.kind ++ l) z ∙ append-nil (states_in x.kind)) b e)

pub sections_states : (st : State) (xs : List TypedSectionTree) (f : Front) → AreSections st xs f → f.states ≡ false → AreStates st (all_states xs) 0
sections_states st xs f h e = sections_behind st xs f h false e

-- ---- the first state of a name
pub record First : Type 0 where
  pub ty : Ty
  pub kind : TypedStateKindTree

abbrev pub first_state : List TypedStateTree → List ℕ → Option First
first_state [] n = None
first_state (x ∷ xs) n = cond (same_bytes x.name n) (Some (record { ty = nearest x.ty.kind; kind = x.kind })) (first_state xs n)

one_number : (o : Option Role) (j k : ℕ) → is_numbered o j ≡ true → is_numbered o k ≡ true → j ≡ k
one_number None j k e f = absurd (false≢true e)
one_number (Some (R.Register n ty)) j k e f = sym (eqb-true n j e) ∙ eqb-true n k f
one_number (Some (R.Table n shape)) j k e f = sym (eqb-true n j e) ∙ eqb-true n k f
one_number (Some (R.Field g)) j k e f = absurd (false≢true e)
one_number (Some (R.Local ty)) j k e f = absurd (false≢true e)

-- no state has a name of a number before
absent : (st : State) (xs : List TypedStateTree) (k j : ℕ) (n : List ℕ) → AreStates st xs k → is_numbered (role_of st.names n) j ≡ true → j < k → first_state xs n ≡ None
absent st [] k j n h e l = refl
absent st (x ∷ xs) k j n h e l = by (same_bytes x.name n) refl (absent st xs (k + 1) j n h.1 e (omega (arith, l)))
  where
    by : (b : Bool) → same_bytes x.name n ≡ b → first_state xs n ≡ None → cond b (Some (record { ty = nearest x.ty.kind; kind = x.kind })) (first_state xs n) ≡ None
    by true f g =
        let same = same_equal x.name n f in
        let P : List ℕ → Type 0 = λ z. is_numbered (role_of st.names z) k ≡ true in
        let here : is_numbered (role_of st.names n) k ≡ true = subst P same h.0.0 in
        let equal : j ≡ k = one_number (role_of st.names n) j k e here in
        let none : ⊥ = omega (arith, l, equal) in
        absurd none
    by false f g = g

-- no name stands for two states
abbrev Distinct : List TypedStateTree → Type 0
Distinct [] = Unit {0}
Distinct (x ∷ xs) = (first_state xs x.name ≡ None) × Distinct xs

distinct : (st : State) (xs : List TypedStateTree) (k : ℕ) → AreStates st xs k → Distinct xs
distinct st [] k h = tt
distinct st (x ∷ xs) k h = (absent st xs (k + 1) k x.name h.1 h.0.0 (omega arith), distinct st xs (k + 1) h.1)

-- ---- roles
kept : (names : List Named) (x : StateTree) (n : List ℕ) (r : Role) → role_of names n ≡ Some r → role_of (declared_state names x) n ≡ Some r
kept names x n r e = by (role_of names x.name) refl
  where
    pushed : (role : Role) (b : Bool) → role_of names x.name ≡ None → same_bytes x.name n ≡ b → or_else (cond b (Some role) None) (role_of names n) ≡ Some r
    pushed role true f g = let no : Some r ≡ None = sym e ∙ ap (role_of names) (sym (same_equal x.name n g)) ∙ f in cc
    pushed role false f g = e

    by : (o : Option Role) → role_of names x.name ≡ o → role_of (unless_declared o names x) n ≡ Some r
    by (Some role) f = e
    by None f =
        let role = role_by (length names) (nearest x.ty.kind) x.kind in
        role_behind names (record { name = x.name; role = role }) n ∙ pushed role (same_bytes x.name n) f refl

kept_on : (xs : List StateTree) (names : List Named) (n : List ℕ) (r : Role) → role_of names n ≡ Some r → role_of (declared_states names xs) n ≡ Some r
kept_on [] names n r e = e
kept_on (x ∷ xs) names n r e = kept_on xs (declared_state names x) n r (kept names x n r e)

-- the role of a name that was not declared before is that of the first state of the name
abbrev RoleIs : Option First → Option Role → Type 0
RoleIs None o = o ≡ None
RoleIs (Some f) o = (k : ℕ) × (o ≡ Some (role_by k f.ty (erased_state_kind f.kind)))

others : (names : List Named) (x : StateTree) (n : List ℕ) → role_of names n ≡ None → same_bytes x.name n ≡ false → role_of (declared_state names x) n ≡ None
others names x n e f = by (role_of names x.name)
  where
    by : (o : Option Role) → role_of (unless_declared o names x) n ≡ None
    by (Some role) = e
    by None =
        let role = role_by (length names) (nearest x.ty.kind) x.kind in
        role_behind names (record { name = x.name; role = role }) n ∙ ap (λ (b : Bool). or_else (cond b (Some role) None) (role_of names n)) f ∙ e

here : (names : List Named) (x : StateTree) (n : List ℕ) → role_of names n ≡ None → same_bytes x.name n ≡ true → role_of (declared_state names x) n ≡ Some (role_by (length names) (nearest x.ty.kind) x.kind)
here names x n e f =
    let role = role_by (length names) (nearest x.ty.kind) x.kind in
    let none : role_of names x.name ≡ None = ap (role_of names) (same_equal x.name n f) ∙ e in
    ap (λ (o : Option Role). role_of (unless_declared o names x) n) none
    ∙ role_behind names (record { name = x.name; role = role }) n ∙ ap (λ (b : Bool). or_else (cond b (Some role) None) (role_of names n)) f

role_is : (xs : List TypedStateTree) (names : List Named) (n : List ℕ) → role_of names n ≡ None → RoleIs (first_state xs n) (role_of (declared_states names (map erased_state xs)) n)
role_is [] names n e = e
role_is (x ∷ xs) names n e = by (same_bytes x.name n) refl (λ f. role_is xs (declared_state names (erased_state x)) n (others names (erased_state x) n e f))
  where
    by : (b : Bool) → same_bytes x.name n ≡ b
        → (same_bytes x.name n ≡ false → RoleIs (first_state xs n) (role_of (declared_states (declared_state names (erased_state x)) (map erased_state xs)) n))
        → RoleIs (cond b (Some (record { ty = nearest x.ty.kind; kind = x.kind })) (first_state xs n)) (role_of (declared_states (declared_state names (erased_state x)) (map erased_state xs)) n)
    by true f g = (length names, kept_on (map erased_state xs) (declared_state names (erased_state x)) n (role_by (length names) (nearest x.ty.kind) (erased_state_kind x.kind)) (here names (erased_state x) n e f))
    by false f g = g f

-- ---- registers and tables of the extension
abbrev patterns_of : Ty → List TypedExprTree → List ℕ
patterns_of ty es = map raw_of (map (entry ty) es)

-- the table with these patterns, where the first has the number t
record IsNumbered (ts : List Table) (t : ℕ) (q : Entries) (ty : Ty) : Type 0 where
  place : ℕ
  is : q.number ≡ t + place
  read : IsTableRead ts place q.patterns ty

constant_width : (ty : Ty) (o : Option Valued) → (constant_in ty o).width ≡ ty.width
constant_width ty None = refl
constant_width ty (Some v) = refl

entries_wide : (ty : Ty) (es : List TypedExprTree) → HaveWidthOf ty (map (entry ty) es)
entries_wide ty [] = All-nil (λ (e : Bits). e.width ≡ ty.width)
entries_wide ty (e ∷ es) = All-cons (λ (e : Bits). e.width ≡ ty.width) (entry ty e) (map (entry ty) es) (constant_width ty (head_value (erased e) [])) (entries_wide ty es)

-- what has the name among these registers and tables
abbrev FoundKind : List Register → List Table → ℕ → ℕ → List ℕ → Ty → TypedStateKindTree → Type 0
FoundKind rs ts r t n ty (tk_register e) = (table_in t ts n ≡ None) × ((q : Numbered) × (register_in r rs n ≡ Some q) × (q.ty ≡ ty))
FoundKind rs ts r t n ty (tk_table len es) = (register_in r rs n ≡ None) × ((q : Entries) × (table_in t ts n ≡ Some q) × (q.patterns ≡ patterns_of ty es) × IsNumbered ts t q ty)

abbrev Found : List Register → List Table → ℕ → ℕ → List ℕ → Option First → Type 0
Found rs ts r t n None = (register_in r rs n ≡ None) × (table_in t ts n ≡ None)
Found rs ts r t n (Some f) = FoundKind rs ts r t n f.ty f.kind

found_with : (x : TypedStateTree) (k : TypedStateKindTree) (rs : List Register) (ts : List Table) (n : List ℕ) (o : Option First) (b : Bool) → same_bytes x.name n ≡ b
    → (same_bytes x.name n ≡ true → o ≡ None) → ((r t : ℕ) → Found rs ts r t n o)
    → (r t : ℕ) → Found (with_register x k rs) (with_table x k ts) r t n (cond b (Some (record { ty = nearest x.ty.kind; kind = k })) o)
found_with x (tk_register e) rs ts n o true f none h r t =
    let P : Option First → Type 0 = λ z. Found rs ts r t n z in
    let old = subst P (none f) (h r t) in
    let ty = nearest x.ty.kind in
    let q : Numbered = record { number = r; ty = ty } in
    (old.1, (q, ap (λ (z : Bool). cond z (Some q) (register_in (suc r) rs n)) f, refl))
found_with x (tk_table len es) rs ts n o true f none h r t =
    let P : Option First → Type 0 = λ z. Found rs ts r t n z in
    let old = subst P (none f) (h r t) in
    let q : Entries = record { number = t; patterns = patterns_of (nearest x.ty.kind) es } in
    let table : Table = record { name = x.name; ty = nearest x.ty.kind; entries = map (entry (nearest x.ty.kind)) es } in
    let read : IsTableRead (table ∷ ts) 0 q.patterns (nearest x.ty.kind) = record { table = table; there = refl; patterns = refl; widths = entries_wide (nearest x.ty.kind) es } in
    (old.0, (q, ap (λ (z : Bool). cond z (Some q) (table_in (suc t) ts n)) f, refl, record { place = 0; is = omega arith; read = read }))
found_with x (tk_register e) rs ts n o false f none h r t =
    let q : Numbered = record { number = r; ty = nearest x.ty.kind } in
    passed (suc r) o (ap (λ (z : Bool). cond z (Some q) (register_in (suc r) rs n)) f) (h (suc r) t)
  where
    passed : (j : ℕ) (o : Option First) → register_in r (with_register x (tk_register e) rs) n ≡ register_in j rs n → Found rs ts j t n o → Found (with_register x (tk_register e) rs) ts r t n o
    passed j None g w = (g ∙ w.0, w.1)
    passed j (Some f) g w = passed_kind j f.ty f.kind g w
      where
        passed_kind : (j : ℕ) (ty : Ty) (k : TypedStateKindTree) → register_in r (with_register x (tk_register e) rs) n ≡ register_in j rs n → FoundKind rs ts j t n ty k
            → FoundKind (with_register x (tk_register e) rs) ts r t n ty k
        passed_kind j ty (tk_register i) g w = (w.0, (w.1.0, g ∙ w.1.1, w.1.2))
        passed_kind j ty (tk_table len es) g w = (g ∙ w.0, w.1)
found_with x (tk_table len es) rs ts n o false f none h r t =
    let q : Entries = record { number = t; patterns = patterns_of (nearest x.ty.kind) es } in
    passed (suc t) o refl (ap (λ (z : Bool). cond z (Some q) (table_in (suc t) ts n)) f) (h r (suc t))
  where
    passed : (j : ℕ) (o : Option First) → j ≡ suc t → table_in t (with_table x (tk_table len es) ts) n ≡ table_in j ts n → Found rs ts r j n o → Found rs (with_table x (tk_table len es) ts) r t n o
    passed j None e g w = (w.0, g ∙ w.1)
    passed j (Some f) e g w = passed_kind j f.ty f.kind e g w
      where
        passed_kind : (j : ℕ) (ty : Ty) (k : TypedStateKindTree) → j ≡ suc t → table_in t (with_table x (tk_table len es) ts) n ≡ table_in j ts n → FoundKind rs ts r j n ty k
            → FoundKind rs (with_table x (tk_table len es) ts) r t n ty k
        passed_kind j ty (tk_register i) e g w = (g ∙ w.0, w.1)
        passed_kind j ty (tk_table l i) e g w =
            let d = w.1.3 in
            let at = d.is in
            let read : IsTableRead (with_table x (tk_table len es) ts) (suc d.place) w.1.0.patterns ty =
            record { table = d.read.table; there = d.read.there; patterns = d.read.patterns; widths = d.read.widths } in
            (w.0, (w.1.0, g ∙ w.1.1, w.1.2, record { place = suc d.place; is = omega (arith, at, e); read = read }))

found : (xs : List TypedStateTree) (n : List ℕ) → Distinct xs → (r t : ℕ) → Found (registers_of xs) (tables_of xs) r t n (first_state xs n)
found [] n d r t = (refl, refl)
found (x ∷ xs) n d r t =
    found_with x x.kind (registers_of xs) (tables_of xs) n (first_state xs n) (same_bytes x.name n) refl (λ e. ap (first_state xs) (sym (same_equal x.name n e)) ∙ d.0) (found xs n d.1) r t

-- ---- lengths of tables
abbrev HasLength : TypedStateKindTree → Type 0
HasLength (tk_register e) = Unit {0}
HasLength (tk_table len es) = length es ≡ len

abbrev FirstHasLength : Option First → Type 0
FirstHasLength None = Unit {0}
FirstHasLength (Some f) = HasLength f.kind

kind_length : (st : State) (x : TypedStateTree) (k : TypedStateKindTree) (ty : Ty) → IsStateKind st ty k → HasLength k
kind_length st x (tk_register e) ty h = tt
kind_length st x (tk_table len es) ty h = h.1

lengths : (st : State) (xs : List TypedStateTree) (k : ℕ) (n : List ℕ) → AreStates st xs k → FirstHasLength (first_state xs n)
lengths st [] k n h = tt
lengths st (x ∷ xs) k n h = by (same_bytes x.name n) (lengths st xs (k + 1) n h.1)
  where
    by : (b : Bool) → FirstHasLength (first_state xs n) → FirstHasLength (cond b (Some (record { ty = nearest x.ty.kind; kind = x.kind })) (first_state xs n))
    by true g = kind_length st x x.kind h.0.1.0 h.0.1.2
    by false g = g

-- ---- entries are patterns of the type
constant_below : (ty : Ty) (o : Option Valued) → (constant_in ty o).raw < 2 ^ ty.width
constant_below ty None = (pattern ty (pos 0)).in_width
constant_below ty (Some v) = (pattern ty v.number).in_width

entries_below : (ty : Ty) (es : List TypedExprTree) → AreEntriesOf ty (patterns_of ty es)
entries_below ty [] = All-nil (λ (e : ℕ). e < 2 ^ ty.width)
entries_below ty (e ∷ es) = All-cons (λ (e : ℕ). e < 2 ^ ty.width) (raw_of (entry ty e)) (patterns_of ty es) (constant_below ty (head_value (erased e) [])) (entries_below ty es)

count_kept : (ty : Ty) (es : List TypedExprTree) → length (patterns_of ty es) ≡ length es
count_kept ty es = length-map (map (entry ty) es) raw_of ∙ length-map es (entry ty)

-- ---- what a name stands for outside of behaviours
-- a register, a table, or nothing
abbrev pub Global : List Register → List Table → List ℕ → Option Role → Type 0
Global rs ts n None = (register_in 0 rs n ≡ None) × (table_in 0 ts n ≡ None)
Global rs ts n (Some (R.Local ty)) = ⊥
Global rs ts n (Some (R.Field f)) = ⊥
Global rs ts n (Some (R.Register k ty)) = (table_in 0 ts n ≡ None) × ((r : Numbered) × (register_in 0 rs n ≡ Some r) × (r.ty ≡ ty))
Global rs ts n (Some (R.Table k shape)) =
    (register_in 0 rs n ≡ None)
    × ((t : Entries) × (table_in 0 ts n ≡ Some t) × (length t.patterns ≡ shape.length) × AreEntriesOf shape.ty t.patterns × IsTableRead ts t.number t.patterns shape.ty)

kind_global : (rs : List Register) (ts : List Table) (n : List ℕ) (j : ℕ) (ty : Ty) (k : TypedStateKindTree) → FoundKind rs ts 0 0 n ty k → HasLength k
    → Global rs ts n (Some (role_by j ty (erased_state_kind k)))
kind_global rs ts n j ty (tk_register e) h l = h
kind_global rs ts n j ty (tk_table len es) h l =
    let same = h.1.2 in
    let A : List ℕ → Type 0 = λ z. AreEntriesOf ty z in
    let d = h.1.3 in
    let at = d.is in
    let place : d.place ≡ h.1.0.number = omega (arith, at) in
    let R : ℕ → Type 0 = λ z. IsTableRead ts z h.1.0.patterns ty in
    (h.0, (h.1.0, h.1.1, ap length same ∙ count_kept ty es ∙ l, subst A (sym same) (entries_below ty es), subst R place d.read))

first_global : (rs : List Register) (ts : List Table) (n : List ℕ) (o : Option First) (r : Option Role) → Found rs ts 0 0 n o → FirstHasLength o → RoleIs o r → Global rs ts n r
first_global rs ts n None r h l e = let P : Option Role → Type 0 = λ z. Global rs ts n z in subst P (sym e) h
first_global rs ts n (Some f) r h l e = let P : Option Role → Type 0 = λ z. Global rs ts n z in subst P (sym e.1) (kind_global rs ts n e.0 f.ty f.kind h l)

-- the entries of each table have the width of its type
pub tables_wide : (xs : List TypedStateTree) → All (λ table. HaveWidthOf table.ty table.entries) (tables_of xs)
tables_wide [] = All-nil (λ (table : Table). HaveWidthOf table.ty table.entries)
tables_wide (x ∷ xs) = by x.kind (tables_wide xs)
  where
    by : (k : TypedStateKindTree) → All (λ table. HaveWidthOf table.ty table.entries) (tables_of xs) → All (λ table. HaveWidthOf table.ty table.entries) (with_table x k (tables_of xs))
    by (tk_register e) h = h
    by (tk_table len es) h =
        let table : Table = record { name = x.name; ty = nearest x.ty.kind; entries = map (entry (nearest x.ty.kind)) es } in
        All-cons (λ (table : Table). HaveWidthOf table.ty table.entries) table (tables_of xs) (entries_wide (nearest x.ty.kind) es) h

-- in a typed text
pub global_is : (st : State) (xs : List TypedSectionTree) (f : Front) → AreSections st xs f → f.states ≡ false → st.names ≡ globals [] (map erased_section xs)
    → (n : List ℕ) → Global (registers_of (all_states xs)) (tables_of (all_states xs)) n (role_of st.names n)
global_is st xs f h e names n =
    let states = sections_states st xs f h e in
    let P : List Named → Type 0 = λ z. RoleIs (first_state (all_states xs) n) (role_of z n) in
    let role = subst P (sym (names ∙ globals_are [] xs)) (role_is (all_states xs) [] n refl) in
    first_global (registers_of (all_states xs)) (tables_of (all_states xs)) n (first_state (all_states xs) n) (role_of st.names n) (found (all_states xs) n (distinct st (all_states xs) 0 states) 0 0)
    (lengths st (all_states xs) 0 n states) role
