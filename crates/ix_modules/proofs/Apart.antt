-- The nets of an extension's behaviours are valid, and have names that differ.
use Rattle.std.proofs.Common.{◌≡◌, ◌≢◌, ◌∙◌, sym, ap, ℕ, zero, suc, ◌<◌, List, [], ◌∷◌, length, map, get_or, Some, arith}
use Rattle.std.specs.Prelude.{All, AllPairs, slice_get}
use Rattle.std.proofs.lemmas.List.{length-map}
use Rattle.std.proofs.lemmas.Option.{slice_get-get_or, slice_get_within}
use Rattle.ix_extension.specs.Extensions.{ExtensionTree}
use Rattle.ix_behaviour.specs.declared.which.Which.{Which}
use Rattle.ix_net.specs.declared.netlist.Net.{Net}
use Rattle.ix_net.specs.Valid.{IsValid}
use Rattle.ix_sheet.specs.declared.sheet.Sheet.{Sheet}
use Rattle.ix_ports.specs.Ports.{module_name}
use Rattle.ix_plan.specs.declared.design.Plan.{Plan}
use Rattle.ix_standing.specs.Standing.{behaviours_of, name_at, IsBuilt, AreBuilt}
use Rattle.ix_design.proofs.Turns.{some_at}
use Rattle.ix_verilog.specs.Subset.{AreNamedApart}

-- the behaviour and the plan beside a net
record IsAt (x : ExtensionTree) (sheet : Sheet) (k : ℕ) (n : Net) : Type 0 where
  pub which : Which
  pub plan : Plan
  pub which_is : slice_get (behaviours_of x) k ≡ Some which
  pub built : IsBuilt x sheet which plan n

at_number : (x : ExtensionTree) (sheet : Sheet) (plans : List Plan) (nets : List Net) → AreBuilt x sheet plans nets → (k : ℕ) (n : Net) → slice_get nets k ≡ Some n → IsAt x sheet k n
at_number x sheet plans nets are k n e =
    let few = slice_get_within nets k n e in
    let count = are.net_count in
    let more = are.plan_count in
    let w = some_at (behaviours_of x) k (omega (arith, few, count)) in
    let p = some_at plans k (omega (arith, few, count, more)) in
    record { which = w.0; plan = p.0; which_is = w.1; built = are.each k w.0 p.0 n w.1 p.1 e }

pub all_valid : (x : ExtensionTree) (sheet : Sheet) (plans : List Plan) (nets : List Net) → AreBuilt x sheet plans nets → All IsValid nets
all_valid x sheet plans nets are k d l = (at_number x sheet plans nets are k (get_or nets k d) (slice_get-get_or nets k d l)).built.valid

module_names_one : (a b : List ℕ) → module_name a ≡ module_name b → a ≡ b
module_names_one a b e = cc

name_of_net : Net → List ℕ
name_of_net n = n.name

pub named_apart : (x : ExtensionTree) (sheet : Sheet) (plans : List Plan) (nets : List Net) → AllPairs (λ m n. m ≢ n) (map (name_at x) (behaviours_of x)) → AreBuilt x sheet plans nets → AreNamedApart nets
named_apart x sheet plans nets apart are i j d below within =
    let size = length-map nets (λ (n : Net). n.name) in
    let inside : j < length nets = omega (arith, within, size) in
    let a = some_at nets i (omega (arith, below, inside)) in
    let b = some_at nets j inside in
    let m = at_number x sheet plans nets are i a.0 a.1 in
    let n = at_number x sheet plans nets are j b.0 b.1 in
    let first : get_or (map (λ (n : Net). n.name) nets) i d ≡ module_name (name_at x m.which) = name_here nets i d a.0 a.1 ∙ m.built.serves.named in
    let last : get_or (map (λ (n : Net). n.name) nets) j d ≡ module_name (name_at x n.which) = name_here nets j d b.0 b.1 ∙ n.built.serves.named in
    let total = length-map (behaviours_of x) (name_at x) in
    let there : j < length (map (name_at x) (behaviours_of x)) = (let here = slice_get_within (behaviours_of x) j n.which n.which_is in omega (arith, here, total)) in
    let one : get_or (map (name_at x) (behaviours_of x)) i [] ≡ name_at x m.which = behaviour_here x i m.which m.which_is in
    let two : get_or (map (name_at x) (behaviours_of x)) j [] ≡ name_at x n.which = behaviour_here x j n.which n.which_is in
    λ e. apart i j [] below there (one ∙ module_names_one (name_at x m.which) (name_at x n.which) (sym first ∙ e ∙ last) ∙ sym two) where
      mapped : {A : Type 0} (f : A → List ℕ) (xs : List A) (k : ℕ) (d : List ℕ) (y : A) → slice_get xs k ≡ Some y → get_or (map f xs) k d ≡ f y
      mapped f [] k d y e = absurd cc
      mapped f (x ∷ xs) zero d y e = ap f (let h : x ≡ y = cc in h)
      mapped f (x ∷ xs) (suc k) d y e = mapped f xs k d y e

      name_here : (nets : List Net) (k : ℕ) (d : List ℕ) (n : Net) → slice_get nets k ≡ Some n → get_or (map (λ (n : Net). n.name) nets) k d ≡ n.name
      name_here nets k d n e = mapped (λ (n : Net). n.name) nets k d n e

      behaviour_here : (x : ExtensionTree) (k : ℕ) (w : Which) → slice_get (behaviours_of x) k ≡ Some w → get_or (map (name_at x) (behaviours_of x)) k [] ≡ name_at x w
      behaviour_here x k w e = mapped (name_at x) (behaviours_of x) k [] w e
