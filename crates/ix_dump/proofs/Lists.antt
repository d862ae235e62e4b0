-- Ports, modules and values from one on.
use Rattle.std.proofs.Common.{◌≡◌, ◌∙◌, refl, sym, ap, ℕ, zero, suc, ◌+◌, ◌<◌, ◌≤◌, List, [], ◌∷◌, ◌++◌, append_assoc, length, length-append, drop, map, Some, Bool, true, false, not, arith}
use Rattle.std.specs.Prelude.{slice_get, codes, ◌==◌, if◌then◌else◌}
use Rattle.ix_bits.specs.declared.number.Bits.{Bits}
use Rattle.ix_net.specs.declared.netlist.Net.{Net}
use Rattle.ix_net.specs.declared.netlist.Port.{Port}
use Rattle.ix_dump.specs.Dump.{module_ports, dump_ports, port_line, port_lines, scope_line, module_text, modules_text, raws, widths, row_before, number_before, value_before, change_text, changes_text, value_line}

-- the elements from one on are that one, and the others
pub from_one : {A : Type 0} (xs : List A) (k : ℕ) (x : A) → slice_get xs k ≡ Some x → drop k xs ≡ x ∷ drop (suc k) xs
from_one [] k x h = cc
from_one (y ∷ xs) zero x h = let same : y ≡ x = cc in ap (λ z. z ∷ xs) same
from_one (y ∷ xs) (suc k) x h = from_one xs k x h

pub none_left : {A : Type 0} (xs : List A) (k : ℕ) → length xs ≤ k → drop k xs ≡ []
none_left [] zero h = refl
none_left [] (suc k) h = refl
none_left (x ∷ xs) zero h = absurd (omega (arith, h))
none_left (x ∷ xs) (suc k) h = none_left xs k (omega (arith, h))

-- ---- ports
pub ports_start : (first : ℕ) (ports : List Port) → port_lines (first + 0) (drop 0 ports) ≡ port_lines first ports
ports_start first ports = let e : first + 0 ≡ first = omega arith in ap (λ n. port_lines n ports) e

pub ports_next : (first i : ℕ) (ports : List Port) (port : Port) → slice_get ports i ≡ Some port
    → port_lines (first + i) (drop i ports) ≡ port_line (first + i) port ++ port_lines (first + (i + 1)) (drop (i + 1) ports)
ports_next first i ports port h =
    let e : suc (first + i) ≡ first + (i + 1) = omega arith in
    let f : suc i ≡ i + 1 = omega arith in
    ap (λ l. port_lines (first + i) l) (from_one ports i port h)
    ∙ ap (λ n. port_line (first + i) port ++ port_lines n (drop (suc i) ports)) e
    ∙ ap (λ n. port_line (first + i) port ++ port_lines (first + (i + 1)) (drop n ports)) f

pub ports_end : (k i : ℕ) (ports : List Port) → length ports ≤ i → port_lines k (drop i ports) ≡ []
ports_end k i ports h = ap (λ l. port_lines k l) (none_left ports i h)

-- the lines of ports behind others
pub ports_behind : (k : ℕ) (xs ys : List Port) → port_lines k (xs ++ ys) ≡ port_lines k xs ++ port_lines (k + length xs) ys
ports_behind k [] ys = let e : k ≡ k + 0 = omega arith in ap (λ n. port_lines n ys) e
ports_behind k (x ∷ xs) ys =
    let e : suc k + length xs ≡ k + length (x ∷ xs) = omega arith in
    ap (λ l. port_line k x ++ l) (ports_behind (suc k) xs ys)
    ∙ ap (λ n. port_line k x ++ (port_lines (suc k) xs ++ port_lines n ys)) e
    ∙ sym (append_assoc (port_line k x) (port_lines (suc k) xs) (port_lines (k + length (x ∷ xs)) ys))

-- ---- modules
-- a module's text in the parts in which it is written
pub module_is : (first second : ℕ) (net : Net) (inputs outputs : List Port) → second ≡ first + length net.inputs → inputs ≡ net.inputs → outputs ≡ net.outputs
    → module_text first net ≡ scope_line net.name ++ (port_lines first inputs ++ (port_lines second outputs ++ codes "$upscope $end\n"))
module_is first second net inputs outputs e f g =
    let scope = scope_line net.name in
    let end = codes "$upscope $end\n" in
    ap (λ l. scope ++ (l ++ end)) (ports_behind first net.inputs net.outputs)
    ∙ ap (λ l. scope ++ l) (append_assoc (port_lines first net.inputs) (port_lines (first + length net.inputs) net.outputs) end)
    ∙ ap (λ n. scope ++ (port_lines first net.inputs ++ (port_lines n net.outputs ++ end))) (sym e)
    ∙ ap (λ l. scope ++ (port_lines first l ++ (port_lines second net.outputs ++ end))) (sym f)
    ∙ ap (λ l. scope ++ (port_lines first inputs ++ (port_lines second l ++ end))) (sym g)

pub modules_next : (k i : ℕ) (nets : List Net) (net : Net) → slice_get nets i ≡ Some net
    → modules_text k (drop i nets) ≡ module_text k net ++ modules_text (k + length (module_ports net)) (drop (i + 1) nets)
modules_next k i nets net h =
    let f : suc i ≡ i + 1 = omega arith in
    ap (λ l. modules_text k l) (from_one nets i net h)
    ∙ ap (λ n. module_text k net ++ modules_text (k + length (module_ports net)) (drop n nets)) f

pub modules_end : (k i : ℕ) (nets : List Net) → length nets ≤ i → modules_text k (drop i nets) ≡ []
modules_end k i nets h = ap (λ l. modules_text k l) (none_left nets i h)

pub count_next : (k i : ℕ) (nets : List Net) (net : Net) → slice_get nets i ≡ Some net
    → length (dump_ports (drop i nets)) ≡ length (module_ports net) + length (dump_ports (drop (i + 1) nets))
count_next k i nets net h =
    let f : suc i ≡ i + 1 = omega arith in
    ap (λ l. length (dump_ports l)) (from_one nets i net h)
    ∙ length-append (module_ports net) (dump_ports (drop (suc i) nets))
    ∙ ap (λ n. length (module_ports net) + length (dump_ports (drop n nets))) f

pub count_end : (i : ℕ) (nets : List Net) → length nets ≤ i → length (dump_ports (drop i nets)) ≡ 0
count_end i nets h = ap (λ l. length (dump_ports l)) (none_left nets i h)

-- ---- values
unless : (t : Bool) (x y : List ℕ) → not t ≡ true → (if t then x else y) ≡ y
unless true x y h = cc
unless false x y h = refl

where_so : (t : Bool) (x y : List ℕ) → not t ≡ false → (if t then x else y) ≡ x
where_so true x y h = refl
where_so false x y h = cc

-- a port in row 0
pub shown_first : (number old new : ℕ) → number ≡ 0 → (k width : ℕ) → change_text k width (number_before number old) new ≡ value_line k width new
shown_first number old new e k width = ap (λ n. change_text k width (number_before n old) new) e

-- a port in another row that has another value than before, or the same
pub shown_other : (number old new : ℕ) → 0 < number → not (old == new) ≡ true → (k width : ℕ) → change_text k width (number_before number old) new ≡ value_line k width new
shown_other zero old new h e k width = absurd (omega (arith, h))
shown_other (suc number) old new h e k width = unless (old == new) [] (value_line k width new) e

pub hidden_other : (number old new : ℕ) → 0 < number → not (old == new) ≡ false → (k width : ℕ) → change_text k width (number_before number old) new ≡ []
hidden_other zero old new h e k width = absurd (omega (arith, h))
hidden_other (suc number) old new h e k width = where_so (old == new) [] (value_line k width new) e

pub drop_map : {A B : Type 0} (f : A → B) (xs : List A) (k : ℕ) (x : A) → slice_get xs k ≡ Some x → drop k (map f xs) ≡ f x ∷ drop (suc k) (map f xs)
drop_map f [] k x h = cc
drop_map f (y ∷ xs) zero x h = let same : y ≡ x = cc in ap (λ z. f z ∷ map f xs) same
drop_map f (y ∷ xs) (suc k) x h = drop_map f xs k x h

pub get_map : {A B : Type 0} (f : A → B) (xs : List A) (k : ℕ) (x : A) → slice_get xs k ≡ Some x → slice_get (map f xs) k ≡ Some (f x)
get_map f [] k x h = cc
get_map f (y ∷ xs) zero x h = let same : y ≡ x = cc in ap (λ z. Some (f z)) same
get_map f (y ∷ xs) (suc k) x h = get_map f xs k x h

-- the value of a port in the row before
pub before_is : (number k : ℕ) (before : List Bits) (old : Bits) → slice_get before k ≡ Some old → value_before (row_before number (raws before)) k ≡ number_before number old.raw
before_is zero k before old h = refl
before_is (suc number) k before old h = get_map (λ (b : Bits). b.raw) before k old h

pub changes_next : (number k : ℕ) (before now : List Bits) (old new : Bits) → slice_get before k ≡ Some old → slice_get now k ≡ Some new
    → changes_text (row_before number (raws before)) k (drop k (widths now)) (drop k (raws now))
    ≡ change_text k new.width (number_before number old.raw) new.raw ++ changes_text (row_before number (raws before)) (k + 1) (drop (k + 1) (widths now)) (drop (k + 1) (raws now))
changes_next number k before now old new h j =
    let earlier = row_before number (raws before) in
    let f : suc k ≡ k + 1 = omega arith in
    ap (λ l. changes_text earlier k l (drop k (raws now))) (drop_map (λ (b : Bits). b.width) now k new j)
    ∙ ap (λ l. changes_text earlier k (new.width ∷ drop (suc k) (widths now)) l) (drop_map (λ (b : Bits). b.raw) now k new j)
    ∙ ap (λ o. change_text k new.width o new.raw ++ changes_text earlier (suc k) (drop (suc k) (widths now)) (drop (suc k) (raws now))) (before_is number k before old h)
    ∙ ap (λ n. change_text k new.width (number_before number old.raw) new.raw ++ changes_text earlier n (drop n (widths now)) (drop n (raws now))) f

pub changes_end : (number k : ℕ) (before now : List Bits) → length now ≤ k
    → changes_text (row_before number (raws before)) k (drop k (widths now)) (drop k (raws now)) ≡ []
changes_end number k before now h = ap (λ l. changes_text (row_before number (raws before)) k l (drop k (raws now))) (none now k h) where
  none : (xs : List Bits) (n : ℕ) → length xs ≤ n → drop n (map (λ (b : Bits). b.width) xs) ≡ []
  none [] zero le = refl
  none [] (suc n) le = refl
  none (x ∷ xs) zero le = absurd (omega (arith, le))
  none (x ∷ xs) (suc n) le = none xs n (omega (arith, le))
