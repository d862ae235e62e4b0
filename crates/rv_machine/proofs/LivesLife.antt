-- A life is made row by row: where a token stands in a row, it stood at a time in the row before from which it moves to this one, or its life begins.
use Rattle.std.proofs.Common.{◌≡◌, ℕ, zero, suc, ◌+◌, ◌<◌, ◌≤◌, List, [], ◌∷◌, ◌++◌, length, get_or, refl, sym, ap, ◌∙◌, subst, arith, inl, inr, ◌⊎◌}
use Rattle.std.specs.Prelude.{slice_index}
use Rattle.std.proofs.lemmas.Bool.{cases_lt}
use Rattle.std.proofs.lemmas.List.{length-append, get_or_append_left}
use Rattle.std.proofs.Math.Seq.{get_or-append_seam}
use Rattle.ix_net.specs.declared.netlist.Net.{Net}
use Rattle.ix_net.specs.Run.{cycle_at}
use Rattle.ix_plan.specs.Service.{Moves}
use Rattle.rv_trace.specs.declared.row.Row.{Row}
use Rattle.rv_ports.specs.declared.modules.Module.{Module}
use Rattle.rv_ports.specs.Drives.{Drives}
use Rattle.rv_machine.specs.Lives.{IsTokenAt, HasLife}

-- ---- rows in one list of rows

first_row : List Row → Row → Row
first_row [] d = d
first_row (r ∷ rows) d = r

rest_rows : List Row → List Row
rest_rows [] = []
rest_rows (r ∷ rows) = rows

-- the newest row, by the count of those before it
newest_is : (next : Row) (earlier newer older : List Row) (row : Row) → next ∷ earlier ≡ newer ++ (row ∷ older) → length older ≡ length earlier → (next ≡ row) × (earlier ≡ older)
unfolding first_row rest_rows
newest_is next earlier [] older row e l = (ap (λ rows. first_row rows next) e, ap rest_rows e)
newest_is next earlier (r ∷ newer) older row e l =
    let q = ap (λ (rows : List Row). length rows) e in
    let a = length-append newer (row ∷ older) in
    absurd (omega (arith, q, a, l))

-- one that is not the newest
older_is : (next : Row) (earlier newer older : List Row) (row : Row) → next ∷ earlier ≡ newer ++ (row ∷ older) → length older < length earlier → (more : List Row) × (earlier ≡ more ++ (row ∷ older))
unfolding rest_rows
older_is next earlier [] older row e l = (let q = ap (λ (rows : List Row). length rows) e in absurd (omega (arith, q, l)))
older_is next earlier (r ∷ newer) older row e l = (newer, ap rest_rows e)

module _ (d : Drives) (m : Module) (net : Net) (cycles : List (List ℕ)) (s word : ℕ) where
  -- a life of one cycle
  begins : (earlier : List Row) (row : Row) (v : ℕ) → v ≡ m.shape.rd → length (row ∷ earlier) ≤ length cycles → IsTokenAt d m earlier row s word v → HasLife d m net (row ∷ earlier) cycles s word v
  begins earlier row v e fits token =
      let one : length earlier + 1 ≡ length (row ∷ earlier) = omega arith in
      record {
        first = length earlier;
        life = v ∷ [];
        before = 0;
        long = refl;
        reaches = one;
        is = record { within = omega (arith, fits, one); starts = e; moves = λ k lt. absurd (omega (arith, lt)) };
        last = refl;
        each = each;
      } where
        each : (j : ℕ) (newer older : List Row) (past : Row) → j < 1 → row ∷ earlier ≡ newer ++ (past ∷ older) → length older ≡ length earlier + j → IsTokenAt d m older past s word (slice_index (v ∷ []) j)
        each zero newer older past lt q l =
            let same = newest_is row earlier newer older past q (omega (arith, l)) in
            subst (λ (r : Row). IsTokenAt d m older r s word v) same.0 (subst (λ (rows : List Row). IsTokenAt d m rows row s word v) same.1 token)
        each (suc j) newer older past lt q l = absurd (omega (arith, lt))

  -- a life of one cycle more
  goes_on : (earlier : List Row) (row : Row) (u v : ℕ) → length (row ∷ earlier) ≤ length cycles → (h : HasLife d m net earlier cycles s word u) → Moves net m.shape.rd (cycle_at cycles (h.first + h.before)) u v
      → IsTokenAt d m earlier row s word v → HasLife d m net (row ∷ earlier) cycles s word v
  goes_on earlier row u v fits h move token =
      let l = h.long in
      let r = h.reaches in
      let a : length (h.life ++ v ∷ []) ≡ length h.life + 1 = length-append h.life (v ∷ []) in
      let some : 0 < length h.life = omega (arith, l) in
      let start : get_or (h.life ++ v ∷ []) 0 m.shape.rd ≡ m.shape.rd = get_or_append_left h.life (v ∷ []) m.shape.rd 0 some ∙ h.is.starts in
      record {
        first = h.first;
        life = h.life ++ v ∷ [];
        before = length h.life;
        long = a;
        reaches = omega (arith, a, r);
        is = record { within = omega (arith, a, r, fits); starts = start; moves = moves };
        last = at_end;
        each = each;
      } where
        at_end : slice_index (h.life ++ v ∷ []) (length h.life) ≡ v
        at_end = get_or-append_seam h.life v [] 0

        inside : (k : ℕ) → k < length h.life → slice_index (h.life ++ v ∷ []) k ≡ slice_index h.life k
        inside k lt = get_or_append_left h.life (v ∷ []) 0 k lt

        moves : (k : ℕ) → k + 1 < length (h.life ++ v ∷ []) → Moves net m.shape.rd (cycle_at cycles (h.first + k)) (slice_index (h.life ++ v ∷ []) k) (slice_index (h.life ++ v ∷ []) (k + 1))
        moves k lt = elim (cases_lt (k + 1) (length h.life)) [
          | inl less ↦
              subst (λ x. Moves net m.shape.rd (cycle_at cycles (h.first + k)) x (slice_index (h.life ++ v ∷ []) (k + 1))) (sym (inside k (omega (arith, less))))
              (subst (λ y. Moves net m.shape.rd (cycle_at cycles (h.first + k)) (slice_index h.life k) y) (sym (inside (k + 1) less)) (h.is.moves k less))
          | inr le ↦
              let l = h.long in
              let a : length (h.life ++ v ∷ []) ≡ length h.life + 1 = length-append h.life (v ∷ []) in
              let here : h.before ≡ k = omega (arith, l, a, lt, le) in
              let next : length h.life ≡ k + 1 = omega (arith, l, here) in
              let from : slice_index (h.life ++ v ∷ []) k ≡ u = inside k (omega (arith, next)) ∙ ap (λ i. slice_index h.life i) (sym here) ∙ h.last in
              let to : slice_index (h.life ++ v ∷ []) (k + 1) ≡ v = ap (λ i. slice_index (h.life ++ v ∷ []) i) (sym next) ∙ at_end in
              subst (λ x. Moves net m.shape.rd (cycle_at cycles (h.first + k)) x (slice_index (h.life ++ v ∷ []) (k + 1))) (sym from)
              (subst (λ y. Moves net m.shape.rd (cycle_at cycles (h.first + k)) u y) (sym to)
              (subst (λ i. Moves net m.shape.rd (cycle_at cycles (h.first + i)) u v) here move))
        ]

        each : (j : ℕ) (newer older : List Row) (past : Row) → j < length (h.life ++ v ∷ []) → row ∷ earlier ≡ newer ++ (past ∷ older) → length older ≡ h.first + j → IsTokenAt d m older past s word (slice_index (h.life ++ v ∷ []) j)
        each j newer older past lt q e = elim (cases_lt j (length h.life)) [
          | inl less ↦
              let r = h.reaches in
              let more = older_is row earlier newer older past q (omega (arith, e, r, less)) in
              subst (λ x. IsTokenAt d m older past s word x) (sym (inside j less)) (h.each j more.0 older past less more.1 e)
          | inr le ↦
              let r = h.reaches in
              let a : length (h.life ++ v ∷ []) ≡ length h.life + 1 = length-append h.life (v ∷ []) in
              let here : length h.life ≡ j = omega (arith, a, lt, le) in
              let same = newest_is row earlier newer older past q (omega (arith, e, r, here)) in
              let there : v ≡ slice_index (h.life ++ v ∷ []) j = sym (ap (λ i. slice_index (h.life ++ v ∷ []) i) (sym here) ∙ at_end) in
              subst (λ x. IsTokenAt d m older past s word x) there
              (subst (λ (z : Row). IsTokenAt d m older z s word v) same.0 (subst (λ (rows : List Row). IsTokenAt d m rows row s word v) same.1 token))
        ]

  module _ (Token : List Row → Row → ℕ → Type 0) (last : ℕ) (stands : (earlier : List Row) (row : Row) (v : ℕ) → Token earlier row v → IsTokenAt d m earlier row s word v) where
    -- in a row with these before it a token either begins, or moves from a time in the row before
    abbrev pub Turn : List Row → Row → ℕ → Type 0
    Turn [] row v = v ≡ m.shape.rd
    Turn (past ∷ older) row v = (v ≡ m.shape.rd) ⊎ ((u : ℕ) × Token older past u × (u ≤ v) × Moves net m.shape.rd (cycle_at cycles (length older)) u v)

    -- so in each of these rows
    abbrev pub Turns : List Row → Type 0
    Turns [] = Unit {0}
    Turns (row ∷ earlier) = ((v : ℕ) → v ≤ last → Token earlier row v → Turn earlier row v) × Turns earlier

    pub lives : (earlier : List Row) (row : Row) → length (row ∷ earlier) ≤ length cycles → Turns (row ∷ earlier) → (v : ℕ) → v ≤ last → Token earlier row v → HasLife d m net (row ∷ earlier) cycles s word v
    lives [] row fits turns v le token = begins [] row v (turns.0 v le token) fits (stands [] row v token)
    lives (past ∷ older) row fits turns v le token = by_turn (turns.0 v le token) (λ u ul t. lives older past (omega (arith, fits)) turns.1 u (omega (arith, ul, le)) t) where
      by_turn : (v ≡ m.shape.rd) ⊎ ((u : ℕ) × Token older past u × (u ≤ v) × Moves net m.shape.rd (cycle_at cycles (length older)) u v)
          → ((u : ℕ) → u ≤ v → Token older past u → HasLife d m net (past ∷ older) cycles s word u) → HasLife d m net (row ∷ past ∷ older) cycles s word v
      by_turn (inl e) rest = begins (past ∷ older) row v e fits (stands (past ∷ older) row v token)
      by_turn (inr y) rest =
          let h = rest y.0 y.2 y.1 in
          let l = h.long in
          let r = h.reaches in
          let at : length older ≡ h.first + h.before = omega (arith, l, r) in
          goes_on (past ∷ older) row y.0 v fits h (subst (λ i. Moves net m.shape.rd (cycle_at cycles i) y.0 v) at y.3) (stands (past ∷ older) row v token)
