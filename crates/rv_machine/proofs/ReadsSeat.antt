-- The token of a cell is the one at its time.
use Rattle.std.proofs.Common.{◌≡◌, ℕ, zero, suc, ◌+◌, ◌<◌, ◌≤◌, List, [], ◌∷◌, take, Option, Some, None, Bool, true, false, refl, sym, ap, ◌∙◌, arith}
use Rattle.std.specs.Prelude.{if◌then◌else◌, ◌==◌, ◌&&◌, slice_get}
use Rattle.std.proofs.lemmas.Bool.Decides.{nat_tests}
use Rattle.ix_eval.specs.Tables.{table}
use Rattle.rv_lawful.specs.Settings.{Setting, Stands, tailed}
use Rattle.rv_lawful.specs.Future.{cell_in}
use Rattle.rv_trace.specs.declared.row.Cell.{Cell}
use Rattle.rv_trace.specs.declared.row.Row.{Row}
use Rattle.rv_ports.specs.declared.modules.Module.{Module}
use Rattle.rv_ports.specs.declared.shown.Seat.{Seat}
use Rattle.rv_ports.specs.Drives.{Drives}
use Rattle.rv_ports.specs.Seats.{time_of, seat_of, seat_in, cell_at, shown_by}
use Rattle.rv_ports.specs.Inputs.{is_token, token_at}

taken_within : {A : Type 0} (n i : ℕ) (xs : List A) (x : A) → slice_get (take n xs) i ≡ Some x → i < n
taken_within zero i xs x e = cc
taken_within (suc n) i [] x e = cc
taken_within (suc n) zero (y ∷ xs) x e = omega arith
taken_within (suc n) (suc i) (y ∷ xs) x e = let l = taken_within n i xs x e in omega (arith, l)

-- a cell stands in a stage of the core
pub stage_inside : (k : Setting) (row : Row) (n : ℕ) (c : Cell) → Stands k row n c → n < k.shape.stages
stage_inside k row n c stands = taken_within k.shape.stages n row.cells (Some c) stands

-- below the times past the last stage a cell's time is its stage
pub time_stage : (k : Setting) (earlier : List Row) (n : ℕ) (c : Cell) (t : ℕ) → n < k.shape.stages → time_of k earlier n c ≡ t → t < k.shape.stages → t ≡ n
time_stage k earlier n c t inside e lt = by_case (suc n == k.shape.stages) refl where
  by_case : (b : Bool) → (suc n == k.shape.stages) ≡ b → t ≡ n
  by_case true q =
      let last : suc n ≡ k.shape.stages = grind (arith, nat_tests) in
      let time : n + tailed k earlier c.serial ≡ t = sym (ap (λ (b : Bool). if b then n + tailed k earlier c.serial else n) q) ∙ e in
      omega (arith, last, time, lt)
  by_case false q = sym (sym (ap (λ (b : Bool). if b then n + tailed k earlier c.serial else n) q) ∙ e)

-- the token of the first seat with this time that is a token
and_both : (a b : Bool) → a ≡ true → b ≡ true → (a && b) ≡ true
and_both true true e q = refl
and_both true false e q = cc
and_both false b e q = cc

same_time : (a b : ℕ) → a ≡ b → (a == b) ≡ true
same_time a b e = grind (arith, nat_tests)

other_time : (a b : ℕ) → (a ≡ b → ⊥) → (a == b) ≡ false
other_time a b e = by_case (a == b) refl where
  by_case : (c : Bool) → (a == b) ≡ c → c ≡ false
  by_case true q = (let same : a ≡ b = grind (arith, nat_tests) in absurd (e same))
  by_case false q = refl

token_in : (m : Module) (t : ℕ) (f : ℕ → Option Seat) (count n : ℕ) (s : Seat) → n < count → f n ≡ Some s → s.time ≡ t → is_token m.shape m.number m.mode s ≡ true → ((i : ℕ) (u : Seat) → i < n → f i ≡ Some u → u.time ≡ t → ⊥)
    → token_at m t (table f count) ≡ Some s
token_in m t f zero n s lt e time token others = absurd (omega (arith, lt))
token_in m t f (suc count) zero s lt e time token others =
    ap (λ (o : Option Seat). token_at m t (o ∷ table (λ r. f (suc r)) count)) e
    ∙ ap (λ (b : Bool). if b then Some s else token_at m t (table (λ r. f (suc r)) count)) (and_both (s.time == t) (is_token m.shape m.number m.mode s) (same_time s.time t time) token)
token_in m t f (suc count) (suc n) s lt e time token others =
    by_first (f 0) refl (token_in m t (λ r. f (suc r)) count n s (omega (arith, lt)) e time token (λ i u less q. others (suc i) u (omega (arith, less)) q)) where
      by_first : (o : Option Seat) → f 0 ≡ o → token_at m t (table (λ r. f (suc r)) count) ≡ Some s → token_at m t (o ∷ table (λ r. f (suc r)) count) ≡ Some s
      by_first None q rest = rest
      by_first (Some u) q rest =
          let differs = other_time u.time t (others 0 u (omega arith) q) in
          ap (λ (b : Bool). if b && is_token m.shape m.number m.mode u then Some u else token_at m t (table (λ r. f (suc r)) count)) differs ∙ rest

module _ (d : Drives) (earlier : List Row) (row : Row) (n : ℕ) (c : Cell) (stands : Stands d.setting row n c) (most : d.setting.shape.stages ≤ 5) where
  abbrev seat_by : ℕ → Option Seat
  seat_by i = seat_in d earlier row i (cell_at d.setting row i)

  below_other : (t : ℕ) → t ≡ n → (i : ℕ) (u : Seat) → i < n → seat_by i ≡ Some u → u.time ≡ t → ⊥
  below_other t at i u lt e time = by_cell (cell_at d.setting row i) e where
    by_cell : (o : Option Cell) → seat_in d earlier row i o ≡ Some u → ⊥
    by_cell None q = cc
    by_cell (Some x) q =
        let inside = stage_inside d.setting row n c stands in
        let same : seat_of d earlier row i x ≡ u = cc in
        let first : (suc i == d.setting.shape.stages) ≡ false = other_time (suc i) d.setting.shape.stages (λ z. omega (arith, z, inside, lt)) in
        let here : time_of d.setting earlier i x ≡ i = ap (λ (b : Bool). if b then i + tailed d.setting earlier x.serial else i) first in
        let there : time_of d.setting earlier i x ≡ t = ap (λ (s : Seat). s.time) same ∙ time in
        omega (arith, here, there, at, lt)

  pub token_is : (m : Module) (t : ℕ) → time_of d.setting earlier n c ≡ t → t < d.setting.shape.stages → is_token m.shape m.number m.mode (seat_of d earlier row n c) ≡ true
      → token_at m t (shown_by d earlier row).seats ≡ Some (seat_of d earlier row n c)
  unfolding shown_by
  token_is m t time lt token =
      let inside = stage_inside d.setting row n c stands in
      token_in m t seat_by 5 n (seat_of d earlier row n c) (omega (arith, inside, most)) (ap (λ o. seat_in d earlier row n (cell_in o)) stands) time token
      (below_other t (time_stage d.setting earlier n c t inside time lt))
