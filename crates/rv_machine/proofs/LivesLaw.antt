-- Each token that is watched has had a life in its module.
use Rattle.std.proofs.Common.{◌≡◌, ℕ, suc, ◌<◌, ◌≤◌, List, [], ◌∷◌, ◌++◌, map, length, append_assoc, Option, Some, None, true, refl, sym, ap, ◌∙◌, arith, inl, inr, ◌⊎◌}
use Rattle.std.specs.Prelude.{slice_get}
use Rattle.std.proofs.lemmas.Bool.{cases_lt}
use Rattle.ix_behaviour.specs.Laws.{FewLaw}
use Rattle.ix_depends.specs.Laws.{TimesLaw}
use Rattle.ix_graph.specs.declared.graph.Mode.{Mode}
use Rattle.ix_graph.specs.declared.graph.Mode.TheVariants.{InPipeline, Tight, Decoupled, Always}
use Rattle.ix_net.specs.declared.netlist.Net.{Net}
use Rattle.ix_net.specs.Run.{cycle_at}
use Rattle.ix_net.specs.Valuation.{inputs_of}
use Rattle.ix_plan.specs.declared.design.Design.{Design}
use Rattle.ix_plan.specs.declared.design.Plan.{Plan}
use Rattle.ix_ports.specs.Ports.{last_from}
use Rattle.ix_standing.specs.Standing.{Stands as StandsFor}
use Rattle.rv_trace.specs.declared.row.Cell.{Cell}
use Rattle.rv_trace.specs.declared.row.Row.{Row}
use Rattle.rv_lawful.specs.Entering.{places}
use Rattle.rv_lawful.specs.Settings.{Setting, tailed}
use Rattle.rv_lawful.specs.Outstanding.{units_after}
use Rattle.rv_lawful.specs.LawfulTrace.{IsWordOf}
use Rattle.rv_ports.specs.declared.modules.Module.{Module}
use Rattle.rv_ports.specs.Drives.{Drives, drives_of}
use Rattle.rv_ports.specs.Driven.{inputs_over, IsDriven}
use Rattle.rv_ports.specs.Seats.{shown_by, seat_of, time_of}
use Rattle.rv_ports.specs.Inputs.{module_of, is_number, is_token}
use Rattle.rv_machine.specs.Promise.{IsInUnit}
use Rattle.rv_machine.specs.Lives.{IsTokenAt, IsWatched, HasLife}
use Rattle.rv_machine.proofs.LivesInputs.{cycles_length, driven_at, enable_set, enable_clear}
use Rattle.rv_machine.proofs.LivesFrame.{IsFramed, Framed}
use Rattle.rv_machine.proofs.LivesEnables.{tells_there}
use Rattle.rv_machine.proofs.LivesRows.{Before, held, went, new, stood, none_before, one_word}
use Rattle.rv_machine.proofs.LivesTails.{tailed_none, time_low}
use Rattle.rv_machine.proofs.LivesShown.{Tells, equal_of}
use Rattle.rv_machine.proofs.LivesCells.{IsCore, IsCellToken, cell_turn}
use Rattle.rv_machine.proofs.LivesUnits.{RetiresWords, AreBare, unit_turn}
use Rattle.rv_machine.proofs.LivesDesign.{core_is, inputs_are, last_is, last_few, own_tail, of_unit, bare_first}
use Rattle.rv_machine.proofs.LivesLife.{Turn, Turns, lives}

number_of : (o : Option ℕ) (n : ℕ) → is_number o n ≡ true → o ≡ Some n
number_of None n e = cc
number_of (Some i) n e = ap (λ z. Some z) (equal_of i n e)

module _ (few : FewLaw) (times : TimesLaw) (d : Design) (image waits : List ℕ) (lines : Option (List ℕ)) (ps : List ℕ) (stands : StandsFor d) (n : ℕ) (p : Plan) (net : Net) (plan : slice_get d.plans n ≡ Some p) (net_is : slice_get d.nets n ≡ Some net) where
  abbrev x : Drives
  x = drives_of d image waits lines ps

  abbrev k : Setting
  k = x.setting

  abbrev m : Module
  m = module_of x n p

  core : IsCore k
  core = core_is d image waits lines ps stands n p net plan net_is

  some_stage : 0 < k.shape.stages
  some_stage = (let a = core.ex_last in omega (arith, a))

  few_times : p.last ≤ 64
  few_times = last_few d image waits lines ps stands n p net plan net_is times

  last_same : p.last ≡ last_from m.shape.rd p.times
  last_same = last_is d image waits lines ps stands n p net plan net_is

  bare : AreBare k.units
  bare = bare_first d.sheet.shape.stages d.plans

  module _ (whole : List Row) (cycles : List (List ℕ)) (inputs : map (inputs_of net) cycles ≡ inputs_over (drives_of d image waits lines) n p whole) where
    -- in the cycle of a row the enables tell what the row shows
    tells_at : (newer older : List Row) (row : Row) → whole ≡ newer ++ (row ∷ older) → Tells net (cycle_at cycles (length older)) m (shown_by x older row) p.last
    tells_at newer older row e =
        let values = cycle_at cycles (length older) in
        let there = drives_of d image waits lines (places older) in
        let w = shown_by there older row in
        let same = inputs_are d image waits lines ps stands n p net plan net_is in
        let driven = driven_at (drives_of d image waits lines) n p net cycles newer older row (inputs ∙ ap (inputs_over (drives_of d image waits lines) n p) e) in
        let b = few_times in
        let l = last_same in
        let bound : last_from m.shape.rd p.times ≤ 64 = omega (arith, b, l) in
        let low : m.shape.rd ≤ 64 = (let a = core.rd_ex in let c = core.ex_last in let y = core.most in omega (arith, a, c, y)) in
        tells_there d image waits lines (places older) ps older row net values m p.last core.most some_stage (record {
          set = λ t lo hi on. enable_set m p net w values same driven bound low t lo (omega (arith, hi, l)) on;
          clear = λ t small off. enable_clear m p net w values same driven bound low t small off;
        })

    module _ (s word : ℕ) where
      abbrev Token : List Row → Row → ℕ → Type 0
      Token earlier row v = IsCellToken x n earlier row s word v ⊎ IsInUnit x m earlier row v s word

      token_stands : (earlier : List Row) (row : Row) (v : ℕ) → Token earlier row v → IsTokenAt x m earlier row s word v
      token_stands earlier row v (inl c) = inl c.at
      token_stands earlier row v (inr u) = inr u

      -- no token stands in the first row
      none_first : (row : Row) → IsFramed k [] row → (v : ℕ) → Token [] row v → ⊥
      unfolding units_after
      none_first row law v (inr u) = bare u.unit u.slots u.after s u.at u.stands
      none_first row law v (inl c) = by_before (stood k [] row law c.at.stage c.at.cell c.at.stands) where
        by_before : Before k [] c.at.stage c.at.cell → ⊥
        by_before (held b e f g h alone) = none_before k c.at.stage b e
        by_before (went i z b e f g h l) = none_before k i b e
        by_before (new z q o) = (let a = c.late in let b = core.rd_pos in omega (arith, a, b, z))

      -- nothing with a mode that is not Tight was held by Tail
      untailed_in : (rows : List Row) → Framed k rows → ((w : ℕ) → IsWordOf k rows s w → w ≡ word) → (p.mode ≡ Tight → ⊥) → x.number word ≡ Some n → tailed k rows s ≡ 0
      untailed_in rows law only other own = tailed_none k rows law s (λ w y. own_tail d image waits lines ps stands n p net plan net_is w (ap x.number (only w y) ∙ own) other)

      turn_at : (row past : Row) (older newer : List Row) → whole ≡ newer ++ (row ∷ past ∷ older) → Framed k (row ∷ past ∷ older) → RetiresWords k (past ∷ older) → ((w : ℕ) → IsWordOf k (row ∷ past ∷ older) s w → w ≡ word) →
          (v : ℕ) → v ≤ p.last → Token (past ∷ older) row v → Turn x m net cycles s word Token p.last token_stands (past ∷ older) row v
      turn_at row past older newer e law words only v high token = by_token token where
        one : newer ++ (row ∷ past ∷ older) ≡ (newer ++ row ∷ []) ++ (past ∷ older)
        one = sym (append_assoc newer (row ∷ []) (past ∷ older))

        tells : Tells net (cycle_at cycles (length older)) m (shown_by x older past) p.last
        tells = tells_at (newer ++ row ∷ []) older past (e ∙ one)

        by_token : Token (past ∷ older) row v → Turn x m net cycles s word Token p.last token_stands (past ∷ older) row v
        by_token (inl c) = elim (cell_turn x n p net p.last core few_times past older (cycle_at cycles (length older)) law.1 tells law.2 s word (untailed_in (past ∷ older) law.2 (λ w y. only w (inr y))) row v high c
            (stood k (past ∷ older) row law.0 c.at.stage c.at.cell c.at.stands)) [
              | inl q ↦ inl q
              | inr y ↦ inr (y.0, inl y.1, y.2, y.3)
            ]
        by_token (inr u) =
            unit_turn x n p net p.last core few_times past older (cycle_at cycles (length older)) law.1 tells row law words bare s word (untailed_in older law.2.2 (λ w y. only w (inr (inr y)))) v high u (of_unit d image waits lines ps stands n p net plan net_is few u.unit u.own)

      turns_of : (rows newer : List Row) → whole ≡ newer ++ rows → Framed k rows → RetiresWords k rows → ((w : ℕ) → IsWordOf k rows s w → w ≡ word) → Turns x m net cycles s word Token p.last token_stands rows
      turns_of [] newer e law words only = tt
      turns_of (row ∷ []) newer e law words only = (λ v high token. absurd (none_first row law.0 v token), tt)
      turns_of (row ∷ past ∷ older) newer e law words only = (
        turn_at row past older newer e law words.1 only,
        turns_of (past ∷ older) (newer ++ row ∷ []) (e ∙ sym (append_assoc newer (row ∷ []) (past ∷ older))) law.2 words.1 (λ w y. only w (inr y)),
      )

    -- ---- what is watched

    module _ (row : Row) (earlier : List Row) (law : Framed k (row ∷ earlier)) (s word t : ℕ) (low : m.shape.rd ≤ t) where
      own_of : (mode : Mode) (stage : ℕ) (c : Cell) → is_token m.shape n mode (seat_of x earlier row stage c) ≡ true → c.word ≡ word → time_of k earlier stage c ≡ t → (x.number word ≡ Some n) ⊎ (t ≤ k.shape.ex)
      own_of InPipeline stage c e w q = inl (sym (ap x.number w) ∙ number_of (x.number c.word) n e)
      own_of Tight stage c e w q = inl (sym (ap x.number w) ∙ number_of (x.number c.word) n e)
      own_of Decoupled stage c e w q = inl (sym (ap x.number w) ∙ number_of (x.number c.word) n e)
      own_of Always stage c e w q = (let z : t ≡ k.shape.ex = sym q ∙ equal_of (time_of k earlier stage c) k.shape.ex e in inr (omega (arith, z)))

      watched_token : IsWatched x m earlier row s word t → Token s word earlier row t
      watched_token (inr u) = inr u
      watched_token (inl c) = inl (record {
        at = record { stage = c.in_stage.stage; cell = c.cell; stands = c.in_stage.stands; serial = c.serial; word_is = c.word_is; time = c.in_stage.time };
        late = late;
        own = own_of p.mode c.in_stage.stage c.cell c.in_stage.token c.word_is c.in_stage.time;
      }) where
        late : k.shape.rd ≤ c.in_stage.stage
        late = elim (cases_lt (suc c.in_stage.stage) k.shape.stages) [
          | inl lt ↦ (let z : c.in_stage.stage ≡ t = sym (time_low k earlier c.in_stage.stage c.cell lt) ∙ c.in_stage.time in omega (arith, z, low))
          | inr ge ↦ (let a = core.rd_ex in let b = core.ex_last in omega (arith, a, b, ge))
        ]

      watched_word : IsWatched x m earlier row s word t → IsWordOf k (row ∷ earlier) s word
      watched_word (inr u) = u.word_is
      watched_word (inl c) = inl (c.in_stage.stage, c.cell, c.in_stage.stands, c.serial, c.word_is)

  pub has_life : (row : Row) (earlier : List Row) (cycles : List (List ℕ)) → IsDriven (drives_of d image waits lines) n p net (row ∷ earlier) cycles → Framed k (row ∷ earlier) → RetiresWords k (row ∷ earlier) → (s word t : ℕ) → IsWatched x m earlier row s word t →
      m.shape.rd ≤ t → t ≤ p.last → HasLife x m net (row ∷ earlier) cycles s word t
  has_life row earlier cycles driven law words s word t watched low high =
      let whole : List Row = row ∷ earlier in
      let size = cycles_length (drives_of d image waits lines) n p net cycles whole driven.inputs in
      let known = watched_word whole cycles driven.inputs row earlier law s word t low watched in
      let only : (w : ℕ) → IsWordOf k whole s w → w ≡ word = λ w y. one_word k whole law s w word y known in
      lives x m net cycles s word (Token whole cycles driven.inputs s word) p.last (token_stands whole cycles driven.inputs s word) earlier row (omega (arith, size))
      (turns_of whole cycles driven.inputs s word whole [] refl law words only) t high (watched_token whole cycles driven.inputs row earlier law s word t low watched)
