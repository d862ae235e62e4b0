-- Where ports stand, and what is made module by module.
use Rattle.std.proofs.Common.{◌≡◌, ◌∙◌, refl, sym, ap, subst, ℕ, zero, suc, ◌+◌, ◌-◌, ◌<◌, ◌≤◌, List, [], ◌∷◌, ◌++◌, length, take, drop, get_or, pred, Some, arith, inl, inr}
use Rattle.std.specs.Prelude.{slice_get, map}
use Rattle.std.proofs.lemmas.Bool.{cases_lt}
use Rattle.std.proofs.lemmas.Option.{slice_get-get_or, slice_get_within}
use Rattle.ix_net.specs.declared.netlist.Port.{Port}
use Rattle.ix_net.specs.Valuation.{value_of}
use Rattle.ix_net.specs.declared.netlist.Net.{Net}
use Rattle.rv_ports.specs.declared.shown.Shown.{Shown}
use Rattle.rv_ports.specs.Driven.{ports_in, values_in}
use Rattle.rv_nets.specs.declared.modules.Place.{Place}
use Rattle.rv_nets.specs.Modules.{Driver, AllStep, own_ports, all_ports, ports_shown}
use Rattle.rv_nets.specs.Places.{places_from, places_of}

-- ---- the places of one module

from_more : (n i c : ℕ) → places_from n i c ++ record { driver = n; port = i + c } ∷ [] ≡ places_from n i (suc c)
from_more n i zero = (let z : i + 0 ≡ i = omega arith in ap (λ j. record { driver = n; port = j } ∷ []) z)
from_more n i (suc c) =
    let z : i + suc c ≡ suc i + c = omega arith in
    ap (λ l. record { driver = n; port = i } ∷ l) (ap (λ j. places_from n (suc i) c ++ record { driver = n; port = j } ∷ []) z ∙ from_more n (suc i) c)

joined : {A : Type 0} (a b c : List A) → (a ++ b) ++ c ≡ a ++ (b ++ c)
joined [] b c = refl
joined (x ∷ a) b c = ap (λ l. x ∷ l) (joined a b c)

pub place_more : (old : List Place) (n p : ℕ) → (old ++ places_from n 0 p) ++ record { driver = n; port = p } ∷ [] ≡ old ++ places_from n 0 (p + 1)
place_more old n p =
    let z : 0 + p ≡ p = omega arith in
    let y : suc p ≡ p + 1 = omega arith in
    joined old (places_from n 0 p) (record { driver = n; port = p } ∷ [])
    ∙ ap (λ l. old ++ l) (ap (λ j. places_from n 0 p ++ record { driver = n; port = j } ∷ []) (sym z) ∙ from_more n 0 p ∙ ap (λ c. places_from n 0 c) y)

from_long : (n i c : ℕ) → length (places_from n i c) ≡ c
from_long n i zero = refl
from_long n i (suc c) = ap suc (from_long n (suc i) c)

from_at : (n i c k : ℕ) → k < c → slice_get (places_from n i c) k ≡ Some (record { driver = n; port = i + k })
from_at n i zero k lt = absurd (omega (arith, lt))
from_at n i (suc c) zero lt = (let z : i ≡ i + 0 = omega arith in ap (λ j. Some (record { driver = n; port = j })) z)
from_at n i (suc c) (suc k) lt = (let z : suc i + k ≡ i + suc k = omega arith in from_at n (suc i) c k (omega (arith, lt)) ∙ ap (λ j. Some (record { driver = n; port = j })) z)

-- ---- those of all modules

in_front : {A : Type 0} (a b : List A) (k : ℕ) → k < length a → slice_get (a ++ b) k ≡ slice_get a k
in_front [] b k lt = absurd (omega (arith, lt))
in_front (x ∷ a) b zero lt = refl
in_front (x ∷ a) b (suc k) lt = in_front a b k (omega (arith, lt))

in_back : {A : Type 0} (a b : List A) (k : ℕ) → length a ≤ k → slice_get (a ++ b) k ≡ slice_get b (k - length a)
in_back [] b k le = (let z : k ≡ k - 0 = omega arith in ap (λ i. slice_get b i) z)
in_back (x ∷ a) b zero le = absurd (omega (arith, le))
in_back (x ∷ a) b (suc k) le = (let z : k - length a ≡ suc k - suc (length a) = omega arith in in_back a b k (omega (arith, le)) ∙ ap (λ i. slice_get b i) z)

long_values : (s : Driver) (ports : List Port) → length (map (λ (p : Port). value_of s.state.net s.state.values p.name) ports) ≡ length ports
long_values s [] = refl
long_values s (p ∷ ports) = ap suc (long_values s ports)

long_join : {A : Type 0} (a b : List A) → length (a ++ b) ≡ length a + length b
long_join [] b = omega arith
long_join (x ∷ a) b = (let rest = long_join a b in omega (arith, rest))

-- the port with the number k stands there
pub record StandsAt (n : ℕ) (drivers : List Driver) (k : ℕ) : Type 0 where
  pub place : Place
  pub is : slice_get (places_of n drivers) k ≡ Some place
  pub past : n ≤ place.driver
  pub driver : Driver
  pub there : slice_get drivers (place.driver - n) ≡ Some driver
  pub inside : place.port < length (own_ports driver)
  pub port : slice_get (all_ports drivers) k ≡ slice_get (own_ports driver) place.port
  pub value : slice_get (ports_shown drivers) k ≡ slice_get (values_in driver.state.net driver.state.values) place.port

pub stands_at : (n : ℕ) (drivers : List Driver) (k : ℕ) → k < length (all_ports drivers) → StandsAt n drivers k
stands_at n [] k lt = absurd (omega (arith, lt))
stands_at n (s ∷ drivers) k lt = elim (cases_lt k (length (own_ports s))) [
  | inl less ↦
      let z : 0 + k ≡ k = omega arith in
      let y : n - n ≡ 0 = omega arith in
      let own = from_long n 0 (length (own_ports s)) in
      let values = long_values s (own_ports s) in
      record {
        place = record { driver = n; port = k };
        is = in_front (places_from n 0 (length (own_ports s))) (places_of (suc n) drivers) k (omega (arith, less, own)) ∙ from_at n 0 (length (own_ports s)) k less ∙ ap (λ j. Some (record { driver = n; port = j })) z;
        past = omega arith;
        driver = s;
        there = ap (λ i. slice_get (s ∷ drivers) i) y;
        inside = less;
        port = in_front (own_ports s) (all_ports drivers) k less;
        value = in_front (values_in s.state.net s.state.values) (ports_shown drivers) k (omega (arith, less, values));
      }
  | inr le ↦
      let whole = long_join (own_ports s) (all_ports drivers) in
      let own = from_long n 0 (length (own_ports s)) in
      let values = long_values s (own_ports s) in
      let x = stands_at (suc n) drivers (k - length (own_ports s)) (omega (arith, le, lt, whole)) in
      let past = x.past in
      let z : x.place.driver - n ≡ suc (x.place.driver - suc n) = omega (arith, past) in
      record {
        place = x.place;
        is = in_back (places_from n 0 (length (own_ports s))) (places_of (suc n) drivers) k (omega (arith, le, own)) ∙ ap (λ c. slice_get (places_of (suc n) drivers) (k - c)) own ∙ x.is;
        past = omega (arith, past);
        driver = x.driver;
        there = ap (λ i. slice_get (s ∷ drivers) i) z ∙ x.there;
        inside = x.inside;
        port = in_back (own_ports s) (all_ports drivers) k le ∙ x.port;
        value = in_back (values_in s.state.net s.state.values) (ports_shown drivers) k (omega (arith, le, values)) ∙ ap (λ c. slice_get (ports_shown drivers) (k - c)) values ∙ x.value;
      }
]

-- ---- what the code finds by the number of a port

same : {A : Type 0} (a b : A) → Some a ≡ Some b → a ≡ b
same a b e = cc

pub many_places : (n : ℕ) (drivers : List Driver) → length (places_of n drivers) ≡ length (all_ports drivers)
many_places n [] = refl
many_places n (s ∷ drivers) =
    let a = long_join (places_from n 0 (length (own_ports s))) (places_of (suc n) drivers) in
    let b = long_join (own_ports s) (all_ports drivers) in
    let c = from_long n 0 (length (own_ports s)) in
    let rest = many_places (suc n) drivers in
    omega (arith, a, b, c, rest)

-- the value of the port at a place of a module
valued : (s : Driver) (ports : List Port) (j : ℕ) → j < length ports → (p : Port) × (slice_get ports j ≡ Some p) × (slice_get (map (λ (q : Port). value_of s.state.net s.state.values q.name) ports) j ≡ Some (value_of s.state.net s.state.values p.name))
valued s [] j lt = absurd (omega (arith, lt))
valued s (p ∷ ports) zero lt = (p, refl, refl)
valued s (p ∷ ports) (suc j) lt = valued s ports j (omega (arith, lt))

module _ (drivers : List Driver) (places : List Place) (k : ℕ) (r : Place) (right : places ≡ places_of 0 drivers) (lt : k < length (all_ports drivers)) (is : r ≡ get_or places k r) where
  at : StandsAt 0 drivers k
  at = stands_at 0 drivers k lt

  place_is : r ≡ at.place
  place_is =
      let count : length places ≡ length (all_ports drivers) = ap length right ∙ many_places 0 drivers in
      is ∙ same (get_or places k r) at.place (sym (slice_get-get_or places k r (omega (arith, lt, count))) ∙ ap (λ l. slice_get l k) right ∙ at.is)

  there : slice_get drivers r.driver ≡ Some at.driver
  there = (let z : at.place.driver ≡ at.place.driver - 0 = omega arith in ap (λ (p : Place). slice_get drivers p.driver) place_is ∙ ap (λ i. slice_get drivers i) z ∙ at.there)

  -- its module is one of them
  pub driver_inside : r.driver < length drivers
  driver_inside = slice_get_within drivers r.driver at.driver there

  -- the port that is found
  pub record Found (s : Driver) : Type 0 where
    pub inside : r.port < length (own_ports s)
    pub port : Port
    pub port_is : slice_get (own_ports s) r.port ≡ Some port
    pub all : slice_get (all_ports drivers) k ≡ Some port
    pub shown : slice_get (ports_shown drivers) k ≡ Some (value_of s.state.net s.state.values port.name)

  pub found : (s : Driver) → s ≡ get_or drivers r.driver s → Found s
  found s e =
      let driver : s ≡ at.driver = e ∙ same (get_or drivers r.driver s) at.driver (sym (slice_get-get_or drivers r.driver s driver_inside) ∙ there) in
      let port : r.port ≡ at.place.port = ap (λ (p : Place). p.port) place_is in
      let inside = at.inside in
      let x = valued at.driver (own_ports at.driver) at.place.port inside in
      subst Found (sym driver)
      record {
        inside = omega (arith, port, inside);
        port = x.0;
        port_is = ap (λ j. slice_get (own_ports at.driver) j) port ∙ x.1;
        all = at.port ∙ x.1;
        shown = at.value ∙ x.2;
      }

-- ---- a step leaves them

pub stepped_places : (n : ℕ) (shown : Shown) (olds news : List Driver) → AllStep shown olds news → places_of n news ≡ places_of n olds
stepped_places n shown [] [] h = refl
stepped_places n shown [] (t ∷ news) h = absurd h
stepped_places n shown (s ∷ olds) [] h = absurd h
stepped_places n shown (s ∷ olds) (t ∷ news) h =
    ap (λ (net : Net). places_from n 0 (length (ports_in net)) ++ places_of (suc n) news) h.0.step.same_net
    ∙ ap (λ l. places_from n 0 (length (own_ports s)) ++ l) (stepped_places (suc n) shown olds news h.1)

stepped_long : (shown : Shown) (olds news : List Driver) → AllStep shown olds news → length news ≡ length olds
stepped_long shown [] [] h = refl
stepped_long shown [] (t ∷ news) h = absurd h
stepped_long shown (s ∷ olds) [] h = absurd h
stepped_long shown (s ∷ olds) (t ∷ news) h = ap suc (stepped_long shown olds news h.1)

whole_again : {A : Type 0} (news all : List A) (len : ℕ) → length news ≡ len → length all ≡ len → take len (news ++ drop (length news) all) ≡ news
whole_again [] all zero e f = refl
whole_again [] all (suc len) e f = absurd (omega (arith, e))
whole_again (t ∷ news) [] len e f = absurd (omega (arith, e, f))
whole_again (t ∷ news) (s ∷ all) zero e f = absurd (omega (arith, e))
whole_again (t ∷ news) (s ∷ all) (suc len) e f = ap (λ l. t ∷ l) (whole_again news all len (ap pred e) (ap pred f))

pub kept_places : (shown : Shown) (olds all news : List Driver) (len : ℕ) (places : List Place) → olds ≡ all → AllStep shown olds news → len ≡ length all → places ≡ places_of 0 all → places ≡ places_of 0 (take len (news ++ drop (length news) all))
kept_places shown olds all news len places same h held right =
    let step : AllStep shown all news = subst (λ l. AllStep shown l news) same h in
    let long = stepped_long shown all news step in
    right ∙ sym (stepped_places 0 shown all news step) ∙ ap (places_of 0) (sym (whole_again news all len (long ∙ sym held) (sym held)))
