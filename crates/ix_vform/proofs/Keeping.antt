-- What is kept of names beside an open module, where one more is declared or driven.
use Rattle.std.proofs.Common.{◌≡◌, ◌∙◌, sym, ap, subst, refl, Result, Ok, Err, List, [], ◌∷◌, ◌++◌, Option, Some, Bool, true, false, inl, inr, cond, ◌||◌, String, BTreeMap, BTreeSet}
use Rattle.std.specs.BTreeMap.{get_by_text}
use Rattle.std.specs.BTreeSet.{contains_text}
use Rattle.std.specs.Prelude.{MatchOption, OnOk, IsTrue, ◌↔◌}
use Rattle.std.specs.List.{list_any}
use Rattle.std.specs.Map.{update}
use Rattle.std.specs.Str.{bytes_eq}
use Rattle.std.proofs.lemmas.Bool.{true≢false}
use Rattle.std.proofs.lemmas.Slice.Eq.{bytes_eq-Decides}
use Rattle.ix_net.specs.declared.netlist.Port.{Port}
use Rattle.ix_verilog.specs.declared.source.Source.{Source}
use Rattle.ix_verilog.specs.declared.source.Assign.{Assign}
use Rattle.ix_verilog.specs.declared.source.Update.{Update}
use Rattle.ix_verilog.specs.Words.{Word}
use Rattle.ix_verilog.specs.Subset.{Names, assigned, declared, with_line}
use Rattle.ix_verilog.specs.Lines.{input, output, wire, register}
use Rattle.ix_vform.specs.declared.role.Role.{Role}
use Rattle.ix_vform.specs.declared.role.Role.TheVariants.{Input, Assigned, Register}
use Rattle.ix_vform.specs.Roles.{IsRole}
use Rattle.ix_vform.specs.Kept.{is_port, role_among, role_in, first_of, is_assigned, is_updated}
use Rattle.ix_vform.proofs.Named.{any_named, names_cases}

-- ---- what holds of a call that is done
pub done : {E P : Type 0} (r : Result (Unit {0}) E) (u : Unit {0}) → r ≡ Ok u → OnOk r P → P
done {E} {P} r u e = subst (λ z. OnOk z P) e

-- what follows of two calls where both are done
pub both : {E F P Q R : Type 0} (r : Result (Unit {0}) E) (s : Result (Unit {0}) F) → OnOk r P → OnOk s Q → (P → Q → R) → OnOk r (OnOk s R)
both (Ok u) (Ok v) p q f = f p q
both (Ok u) (Err e) p q f = tt
both (Err e) s p q f = tt

-- ---- a test on one more element
any_push : {X : Type 0} (f : X → Bool) (xs : List X) (x : X) → list_any f (xs ++ x ∷ []) ≡ (f x || list_any f xs)
any_push f [] x = refl
any_push f (y ∷ ys) x = ap (λ b. f y || b) (any_push f ys x) ∙ turned (f y) (f x) (list_any f ys)
  where
    turned : (a b c : Bool) → (a || (b || c)) ≡ (b || (a || c))
    turned true true c = refl
    turned true false c = refl
    turned false b c = refl

pub cond_or : (a b : Bool) → cond a true b ≡ (a || b)
cond_or true b = refl
cond_or false b = refl

-- ---- roles of three lists, where the name is one more of the first, the second or the third
abbrev at : Bool → Role → Option Role → Option Role
at e r old = cond e (Some (first_of old r)) old

input_more : (e i a r : Bool) → role_among (e || i) a r ≡ at e Input (role_among i a r)
input_more true true a r = refl
input_more true false true r = refl
input_more true false false true = refl
input_more true false false false = refl
input_more false i a r = refl

assigned_more : (e i a r : Bool) → role_among i (e || a) r ≡ at e Assigned (role_among i a r)
assigned_more true true a r = refl
assigned_more true false true r = refl
assigned_more true false false true = refl
assigned_more true false false false = refl
assigned_more false i a r = refl

register_more : (e i a r : Bool) → role_among i a (e || r) ≡ at e Register (role_among i a r)
register_more true true a r = refl
register_more true false true r = refl
register_more true false false true = refl
register_more true false false false = refl
register_more false i a r = refl

-- ---- a module with one more port
abbrev is_named : Word → Port → Bool
is_named n p = bytes_eq p.name n

-- `update` at the name is what becomes of its role
role_updated : (s : Source) (p : Port) (r : Role) (n : Word) → update bytes_eq (role_in s) p.name (Some (first_of (role_in s p.name) r)) n ≡ at (bytes_eq p.name n) r (role_in s n)
role_updated s p r n = by_name (bytes_eq p.name n) refl
  where
    by_name : (b : Bool) → bytes_eq p.name n ≡ b → cond b (Some (first_of (role_in s p.name) r)) (role_in s n) ≡ at b r (role_in s n)
    by_name true e = ap (λ m. Some (first_of (role_in s m) r)) ((bytes_eq-Decides p.name n).0 e)
    by_name false e = refl

pub role_input : (s : Source) (p : Port) (n : Word) → update bytes_eq (role_in s) p.name (Some (first_of (role_in s p.name) Input)) n ≡ role_in (with_line s (input p)) n
role_input s p n =
    role_updated s p Input n ∙ sym (input_more (bytes_eq p.name n) (is_port s.inputs n) (is_port (assigned s) n) (is_port s.registers n))
    ∙ ap (λ b. role_among b (is_port (assigned s) n) (is_port s.registers n)) (sym (any_push (is_named n) s.inputs p))

pub role_register : (s : Source) (p : Port) (n : Word) → update bytes_eq (role_in s) p.name (Some (first_of (role_in s p.name) Register)) n ≡ role_in (with_line s (register p)) n
role_register s p n =
    role_updated s p Register n ∙ sym (register_more (bytes_eq p.name n) (is_port s.inputs n) (is_port (assigned s) n) (is_port s.registers n))
    ∙ ap (λ b. role_among (is_port s.inputs n) (is_port (assigned s) n) b) (sym (any_push (is_named n) s.registers p))

any_append : {X : Type 0} (f : X → Bool) (xs ys : List X) → list_any f (xs ++ ys) ≡ (list_any f xs || list_any f ys)
any_append f [] ys = refl
any_append f (x ∷ xs) ys = ap (λ b. f x || b) (any_append f xs ys) ∙ joined (f x) (list_any f xs) (list_any f ys)
  where
    joined : (a b c : Bool) → (a || (b || c)) ≡ ((a || b) || c)
    joined true b c = refl
    joined false b c = refl

between : (a b c : Bool) → ((b || a) || c) ≡ (b || (a || c))
between a true c = refl
between a false c = refl

behind : (a b c : Bool) → (a || (b || c)) ≡ (b || (a || c))
behind true true c = refl
behind true false c = refl
behind false b c = refl

output_port : (s : Source) (p : Port) (n : Word) → is_port (assigned (with_line s (output p))) n ≡ (bytes_eq p.name n || is_port (assigned s) n)
output_port s p n =
    any_append (is_named n) (s.outputs ++ p ∷ []) s.wires ∙ ap (λ b. b || is_port s.wires n) (any_push (is_named n) s.outputs p)
    ∙ between (is_port s.outputs n) (bytes_eq p.name n) (is_port s.wires n) ∙ ap (λ b. bytes_eq p.name n || b) (sym (any_append (is_named n) s.outputs s.wires))

wire_port : (s : Source) (p : Port) (n : Word) → is_port (assigned (with_line s (wire p))) n ≡ (bytes_eq p.name n || is_port (assigned s) n)
wire_port s p n =
    any_append (is_named n) s.outputs (s.wires ++ p ∷ []) ∙ ap (λ b. is_port s.outputs n || b) (any_push (is_named n) s.wires p)
    ∙ behind (is_port s.outputs n) (bytes_eq p.name n) (is_port s.wires n) ∙ ap (λ b. bytes_eq p.name n || b) (sym (any_append (is_named n) s.outputs s.wires))

assigned_updated : (s t : Source) (p : Port) (n : Word) → t.inputs ≡ s.inputs → t.registers ≡ s.registers → is_port (assigned t) n ≡ (bytes_eq p.name n || is_port (assigned s) n)
    → update bytes_eq (role_in s) p.name (Some (first_of (role_in s p.name) Assigned)) n ≡ role_in t n
assigned_updated s t p n e f g =
    role_updated s p Assigned n ∙ sym (assigned_more (bytes_eq p.name n) (is_port s.inputs n) (is_port (assigned s) n) (is_port s.registers n))
    ∙ ap (λ b. role_among (is_port s.inputs n) b (is_port s.registers n)) (sym g)
    ∙ ap (λ z. role_among (is_port z n) (is_port (assigned t) n) (is_port s.registers n)) (sym e)
    ∙ ap (λ z. role_among (is_port t.inputs n) (is_port (assigned t) n) (is_port z n)) (sym f)

pub role_output : (s : Source) (p : Port) (n : Word) → update bytes_eq (role_in s) p.name (Some (first_of (role_in s p.name) Assigned)) n ≡ role_in (with_line s (output p)) n
role_output s p n = assigned_updated s (with_line s (output p)) p n refl refl (output_port s p n)

pub role_wire : (s : Source) (p : Port) (n : Word) → update bytes_eq (role_in s) p.name (Some (first_of (role_in s p.name) Assigned)) n ≡ role_in (with_line s (wire p)) n
role_wire s p n = assigned_updated s (with_line s (wire p)) p n refl refl (wire_port s p n)

-- ---- what a declaration keeps
module _ {Y : Type 0} where
  -- the map after a declaration
  abbrev pub Declares : BTreeMap (String Y) Role → BTreeMap (String Y) Role → Word → Role → Type 0
  Declares m k name r = (n : Word) → get_by_text k n ≡ update bytes_eq (get_by_text m) name (Some (first_of (get_by_text m name) r)) n

  pub found_more : (s t : Source) (m k : BTreeMap (String Y) Role) (p : Port) (r : Role) (name : Word) → name ≡ p.name → Declares m k name r → ((n : Word) → get_by_text m n ≡ role_in s n)
      → ((n : Word) → update bytes_eq (role_in s) p.name (Some (first_of (role_in s p.name) r)) n ≡ role_in t n) → (n : Word) → get_by_text k n ≡ role_in t n
  found_more s t m k p r name e d f g n =
      d n ∙ ap (λ z. update bytes_eq (get_by_text m) z (Some (first_of (get_by_text m z) r)) n) e
      ∙ ap (λ o. cond (bytes_eq p.name n) (Some (first_of o r)) (get_by_text m n)) (f p.name)
      ∙ ap (λ o. cond (bytes_eq p.name n) (Some (first_of (role_in s p.name) r)) o) (f n) ∙ g n

  pub driven_more : (m k : BTreeSet (String Y)) (xs ys : List Assign) (a : Assign) (name : Word) → name ≡ a.target → ys ≡ xs ++ a ∷ []
      → ((n : Word) → contains_text k n ≡ (bytes_eq name n || contains_text m n)) → ((n : Word) → contains_text m n ≡ is_assigned xs n) → (n : Word) → contains_text k n ≡ is_assigned ys n
  driven_more m k xs ys a name e f d h n =
      d n ∙ ap (λ z. bytes_eq z n || contains_text m n) e ∙ ap (λ b. bytes_eq a.target n || b) (h n)
      ∙ sym (any_push (λ (x : Assign). bytes_eq x.target n) xs a) ∙ ap (λ z. is_assigned z n) (sym f)

  pub changed_more : (m k : BTreeSet (String Y)) (xs ys : List Update) (u : Update) (name : Word) → name ≡ u.target → ys ≡ xs ++ u ∷ []
      → ((n : Word) → contains_text k n ≡ (bytes_eq name n || contains_text m n)) → ((n : Word) → contains_text m n ≡ is_updated xs n) → (n : Word) → contains_text k n ≡ is_updated ys n
  changed_more m k xs ys u name e f d h n =
      d n ∙ ap (λ z. bytes_eq z n || contains_text m n) e ∙ ap (λ b. bytes_eq u.target n || b) (h n)
      ∙ sym (any_push (λ (x : Update). bytes_eq x.target n) xs u) ∙ ap (λ z. is_updated z n) (sym f)

-- ---- the role of a name by three tests
no : {P : Type 0} (b : Bool) → (P → b ≡ true) → b ≡ false → P → ⊥
no b f e p = true≢false (sym (f p) ∙ e)

ports_are : (ports : List Port) (n : Word) → IsTrue (is_port ports n) ↔ Names ports n
ports_are ports n = any_named (λ (p : Port). p.name) ports n (is_port ports n) refl

no_port : (ports : List Port) (n : Word) → is_port ports n ≡ false → Names ports n → ⊥
no_port ports n e = no (is_port ports n) (ports_are ports n).1 e

no_port_of_two : (xs ys : List Port) (n : Word) → is_port xs n ≡ false → is_port ys n ≡ false → Names (xs ++ ys) n → ⊥
no_port_of_two xs ys n e f k = elim (names_cases xs ys n k) [ inl x ↦ no_port xs n e x | inr y ↦ no_port ys n f y ]

by_tests : (s : Source) (n : Word) (i a r : Bool) → is_port s.inputs n ≡ i → is_port (assigned s) n ≡ a → is_port s.registers n ≡ r
    → MatchOption (role_among i a r) (Names (declared s) n → ⊥) (IsRole s n)
by_tests s n true a r e f g = (ports_are s.inputs n).0 e
by_tests s n false true r e f g = (no_port s.inputs n e, (ports_are (assigned s) n).0 f)
by_tests s n false false true e f g = (no_port_of_two s.inputs (assigned s) n e f, (ports_are s.registers n).0 g)
by_tests s n false false false e f g = λ k. elim (names_cases (s.inputs ++ assigned s) s.registers n k) [
  | inl x ↦ no_port_of_two s.inputs (assigned s) n e f x
  | inr x ↦ no_port s.registers n g x
]

pub role_is : (s : Source) (n : Word) → MatchOption (role_in s n) (Names (declared s) n → ⊥) (IsRole s n)
role_is s n = by_tests s n (is_port s.inputs n) (is_port (assigned s) n) (is_port s.registers n) refl refl refl
