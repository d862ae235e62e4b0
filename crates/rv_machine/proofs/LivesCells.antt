-- A token in a stage moves as its module is told.
use Rattle.std.proofs.Common.{◌≡◌, ℕ, zero, suc, ◌+◌, ◌-◌, ◌<◌, ◌≤◌, List, [], ◌∷◌, Option, Some, None, Bool, true, false, refl, sym, ap, ◌∙◌, arith, inl, inr, ◌⊎◌}
use Rattle.std.specs.Prelude.{◌&&◌, not, if◌then◌else◌, ◌==◌, is_some, slice_get}
use Rattle.std.proofs.lemmas.Bool.{cases_lt}
use Rattle.ix_graph.specs.declared.graph.Mode.{Mode}
use Rattle.ix_graph.specs.declared.graph.Mode.TheVariants.{InPipeline, Tight, Decoupled, Always}
use Rattle.ix_net.specs.declared.netlist.Net.{Net}
use Rattle.ix_plan.specs.declared.design.Plan.{Plan}
use Rattle.ix_plan.specs.Service.{Moves}
use Rattle.rv_trace.specs.declared.row.Cell.{Cell}
use Rattle.rv_trace.specs.declared.row.Row.{Row}
use Rattle.rv_trace.specs.RowParts.{leaves, name_of}
use Rattle.rv_lawful.specs.Settings.{Setting, Stands, stages_of, is_tail, tailed}
use Rattle.rv_ports.specs.declared.modules.Module.{Module}
use Rattle.rv_ports.specs.declared.shown.Shown.{Shown}
use Rattle.rv_ports.specs.Drives.{Drives}
use Rattle.rv_ports.specs.Seats.{seat_in, time_of, shown_by}
use Rattle.rv_ports.specs.Inputs.{module_of, seat_at, moves_on, is_own, last_seat, is_tailed, stands_still, enable_value}
use Rattle.rv_machine.specs.Lives.{IsCellAt}
use Rattle.rv_machine.proofs.LivesFrame.{Framed}
use Rattle.rv_machine.proofs.LivesRows.{Before, held, went, new, held_stays}
use Rattle.rv_machine.proofs.LivesShown.{equal_true, no_move, some_move, own_number_is, seat_there, enable_below, enable_above, Tells, step_on, step_off}
use Rattle.rv_machine.proofs.LivesTails.{tail_here, tailed_low, time_low, time_last, stands_within}

-- the numbers of a core's stages
pub record IsCore (k : Setting) : Type 0 where
  pub rd_pos : 0 < k.shape.rd
  pub rd_ex : k.shape.rd ≤ k.shape.ex
  pub ex_last : k.shape.ex + 1 < k.shape.stages
  pub most : k.shape.stages ≤ 5

-- a token in a stage from RD on: of the behaviour, or at EX at the latest
pub record IsCellToken (d : Drives) (n : ℕ) (earlier : List Row) (row : Row) (s word t : ℕ) : Type 0 where
  pub at : IsCellAt d earlier row s word t
  pub late : d.setting.shape.rd ≤ at.stage
  pub own : (d.number word ≡ Some n) ⊎ (t ≤ d.setting.shape.ex)

module _ (d : Drives) (n : ℕ) (p : Plan) (net : Net) (last : ℕ) (core : IsCore d.setting) (bound : last ≤ 64) where
  abbrev k : Setting
  k = d.setting

  abbrev m : Module
  m = module_of d n p

  -- ---- the row before

  module _ (past : Row) (older : List Row) (values : List ℕ) (going : past.stop ≡ None) (tells : Tells net values m (shown_by d older past) last) (s word : ℕ) where
    abbrev w : Shown
    w = shown_by d older past

    in_five : (i : ℕ) → i < k.shape.stages → i < 5
    in_five i lt = (let a = core.most in omega (arith, lt, a))

    -- nothing moves from the stage below one whose cell is held
    behind_held : (i : ℕ) (b : Cell) → Stands k past i b → ((j : ℕ) (o : Option Cell) → suc j ≡ i → slice_get (stages_of k past) j ≡ Some o → leaves past o ≡ None) → i < k.shape.stages → 0 < i → enable_value m w (i - 1) ≡ false
    behind_held i b e alone lt pos =
        let next : suc (i - 1) ≡ i = omega (arith, pos) in
        let there = below_there (stages_of k past) (i - 1) b (ap (λ j. slice_get (stages_of k past) j) next ∙ e) in
        enable_below m w (i - 1) (omega (arith, next, lt)) ∙ ap moves_on (seat_there d older past (i - 1) there.0 (in_five (i - 1) (omega (arith, lt))) there.1) ∙ no_move d older past (i - 1) there.0 (alone (i - 1) there.0 next there.1) where
          below_there : (l : List (Option Cell)) (j : ℕ) (b : Cell) → slice_get l (suc j) ≡ Some (Some b) → (o : Option Cell) × (slice_get l j ≡ Some o)
          below_there [] j b e = cc
          below_there (a ∷ l) zero b e = (a, refl)
          below_there (a ∷ l) (suc j) b e = below_there l j b e

    last_of : (i : ℕ) (b : Cell) → Stands k past i b → suc i ≡ k.shape.stages → last_seat m w ≡ seat_in d older past i (Some b)
    last_of i b e q =
        let at : k.shape.stages - 1 ≡ i = omega (arith, q) in
        ap (λ j. seat_at w j) at ∙ seat_there d older past i (Some b) (in_five i (omega (arith, q))) e

    -- held in a stage below the last one
    held_low : (i : ℕ) (b : Cell) → Stands k past i b → is_some b.hold ≡ true → ((j : ℕ) (o : Option Cell) → suc j ≡ i → slice_get (stages_of k past) j ≡ Some o → leaves past o ≡ None)
        → suc i < k.shape.stages → (v : ℕ) → v ≡ i → Moves net k.shape.rd values i v
    held_low i b e h alone lt v q =
        let b5 = in_five i (omega (arith, lt)) in
        let off : enable_value m w i ≡ false = enable_below m w i lt ∙ ap moves_on (seat_there d older past i (Some b) b5 e) ∙ no_move d older past i (Some b) (held_stays past b h) in
        step_off net values m w last tells i v (omega (arith, q, b5)) off (λ low. behind_held i b e alone (omega (arith, lt)) (omega (arith, low))) q

    -- gone from a stage below the last one
    went_low : (i : ℕ) (b c : Cell) → Stands k past i b → leaves past (Some b) ≡ name_of (Some c) → suc i < k.shape.stages → k.shape.rd ≤ i → (v : ℕ) → v ≡ i + 1 → v ≤ last → Moves net k.shape.rd values i v
    went_low i b c e l lt low v q high =
        let b5 = in_five i (omega (arith, lt)) in
        let on : enable_value m w i ≡ true = enable_below m w i lt ∙ ap moves_on (seat_there d older past i (Some b) b5 e) ∙ some_move d older past i b (c.serial, c.at, c.word) l going in
        step_on net values m w last tells i v low high on q

    -- held in the last stage, where its times are known
    module _ (i : ℕ) (b : Cell) (e : Stands k past i b) (is_last : suc i ≡ k.shape.stages) (h : is_some b.hold ≡ true)
        (alone : (j : ℕ) (o : Option Cell) → suc j ≡ i → slice_get (stages_of k past) j ≡ Some o → leaves past o ≡ None)
        (own : d.number b.word ≡ Some n) where
      own_last : is_own n (last_seat m w) ≡ true
      own_last = ap (is_own n) (last_of i b e is_last) ∙ own_number_is (d.number b.word) n own

      tails_last : is_tailed (last_seat m w) ≡ is_tail b.hold
      tails_last = ap is_tailed (last_of i b e is_last)

      moves_last : moves_on (last_seat m w) ≡ false
      moves_last = ap moves_on (last_of i b e is_last) ∙ no_move d older past i (Some b) (held_stays past b h)

      -- by Tail
      tails : p.mode ≡ Tight → is_tail b.hold ≡ true → (u v : ℕ) → i ≤ u → v ≤ last → v ≡ u + 1 → Moves net k.shape.rd values u v
      tails tight t u v low high q =
          let a = core.rd_ex in
          let x = core.ex_last in
          let on : enable_value m w u ≡ true = enable_above m w u Tight tight (omega (arith, is_last, low)) ∙ ap (λ z. z && is_tailed (last_seat m w)) own_last ∙ tails_last ∙ t in
          step_on net values m w last tells u v (omega (arith, a, x, is_last, low)) high on q

      -- not by Tail: its enables are 0
      rests_at : (mode : Mode) → p.mode ≡ mode → (mode ≡ Tight → is_tail b.hold ≡ false) → (u : ℕ) → i ≤ u → (mode ≡ Decoupled → u ≡ i) → enable_value m w u ≡ false
      rests_at InPipeline q t u low here = enable_above m w u InPipeline q (omega (arith, is_last, low))
      rests_at Always q t u low here = enable_above m w u Always q (omega (arith, is_last, low))
      rests_at Tight q t u low here = enable_above m w u Tight q (omega (arith, is_last, low)) ∙ ap (λ z. z && is_tailed (last_seat m w)) own_last ∙ tails_last ∙ t refl
      rests_at Decoupled q t u low here =
          let at : (suc u == k.shape.stages) ≡ true = equal_true (suc u) k.shape.stages (let z = here refl in omega (arith, z, is_last)) in
          enable_above m w u Decoupled q (omega (arith, is_last, low))
          ∙ ap (λ (z : Bool). if z then is_own n (last_seat m w) && moves_on (last_seat m w) else not (stands_still w m.unit)) at
          ∙ ap (λ z. z && moves_on (last_seat m w)) own_last
          ∙ moves_last

      rests : (p.mode ≡ Tight → is_tail b.hold ≡ false) → (u v : ℕ) → i ≤ u → (p.mode ≡ Decoupled → u ≡ i) → v ≤ last → v ≡ u → Moves net k.shape.rd values u v
      rests t u v low here high q =
          step_off net values m w last tells u v (omega (arith, high, bound)) (rests_at p.mode refl t u low here) (λ lt. elim (cases_lt i u) [
            | inl less ↦ rests_at p.mode refl t (u - 1) (omega (arith, less)) (λ f. let z = here f in absurd (omega (arith, z, less)))
            | inr le ↦
                let same : u ≡ i = omega (arith, low, le) in
                ap (λ j. enable_value m w (j - 1)) same ∙ behind_held i b e alone (omega (arith, is_last)) (omega (arith, lt, same))
          ]) q

  -- ---- a token in a row: where it stood in the row before, and how it moved

  abbrev pub Turned : Row → List Row → List ℕ → ℕ → ℕ → ℕ → Type 0
  Turned past older values s word v = (v ≡ k.shape.rd) ⊎ ((u : ℕ) × IsCellToken d n older past s word u × (u ≤ v) × Moves net k.shape.rd values u v)

  -- a cell in the last stage with a mode that is not Tight is at the time of that stage
  abbrev pub Untailed : List Row → ℕ → ℕ → Type 0
  Untailed rows s word = (p.mode ≡ Tight → ⊥) → d.number word ≡ Some n → tailed k rows s ≡ 0

  is_tight : (mode : Mode) → (mode ≡ Tight) ⊎ (mode ≡ Tight → ⊥)
  is_tight Tight = inl refl
  is_tight InPipeline = inr (λ e. cc)
  is_tight Decoupled = inr (λ e. cc)
  is_tight Always = inr (λ e. cc)

  not_both : (mode : Mode) → mode ≡ Tight → mode ≡ Decoupled → ⊥
  not_both mode e f = cc

  module _ (past : Row) (older : List Row) (values : List ℕ) (going : past.stop ≡ None) (tells : Tells net values m (shown_by d older past) last) (lawful : Framed k (past ∷ older))
      (s word : ℕ) (untailed : Untailed (past ∷ older) s word) (row : Row) where
    -- the token of the row
    module _ (v : ℕ) (high : v ≤ last) (token : IsCellToken d n (past ∷ older) row s word v) where
      abbrev i : ℕ
      i = token.at.stage

      abbrev c : Cell
      c = token.at.cell

      went_on : (j : ℕ) (b : Cell) → suc j ≡ i → Stands k past j b → b.serial ≡ c.serial → b.word ≡ c.word → leaves past (Some b) ≡ name_of (Some c) → Turned past older values s word v
      went_on j b z e f g l =
          let lt : suc j < k.shape.stages = (let q = stands_within k row i c token.at.stands in omega (arith, q, z)) in
          let here : v ≡ i = time_is in
          elim (cases_lt j k.shape.rd) [
            | inl less ↦ inl (let q = token.late in omega (arith, less, q, z, here))
            | inr le ↦
                inr (
                  j,
                  record {
                    at = record { stage = j; cell = b; stands = e; serial = f ∙ token.at.serial; word_is = g ∙ token.at.word_is; time = time_low k older j b lt };
                    late = le;
                    own = own_before token.own here;
                  },
                  omega (arith, z, here),
                  went_low past older values going tells s word j b c e l lt le v (omega (arith, z, here)) high,
                )
          ] where
            time_is : v ≡ i
            time_is = elim (cases_lt (suc i) k.shape.stages) [
              | inl less ↦ sym token.at.time ∙ time_low k (past ∷ older) i c less
              | inr ge ↦
                  let q = stands_within k row i c token.at.stands in
                  let is_last : suc i ≡ k.shape.stages = omega (arith, q, ge) in
                  let none : tailed k (past ∷ older) c.serial ≡ 0 = sym (ap (tailed k (past ∷ older)) f) ∙ tailed_low k (past ∷ older) lawful j b e (omega (arith, z, q)) in
                  let t = sym token.at.time ∙ time_last k (past ∷ older) i c is_last in
                  omega (arith, t, none)
            ]

            own_before : (d.number word ≡ Some n) ⊎ (v ≤ k.shape.ex) → v ≡ i → (d.number word ≡ Some n) ⊎ (j ≤ k.shape.ex)
            own_before (inl q) here = inl q
            own_before (inr q) here = inr (omega (arith, q, here, z))

      held_on : (b : Cell) → Stands k past i b → b.serial ≡ c.serial → b.word ≡ c.word → is_some b.hold ≡ true → ((j : ℕ) (o : Option Cell) → suc j ≡ i → slice_get (stages_of k past) j ≡ Some o → leaves past o ≡ None) → Turned past older values s word v
      held_on b e f g h alone = elim (cases_lt (suc i) k.shape.stages) [
        | inl less ↦
            let here : v ≡ i = sym token.at.time ∙ time_low k (past ∷ older) i c less in
            inr (i, before i (time_low k older i b less) (omega (arith, here)), omega (arith, here), held_low past older values going tells s word i b e h alone less v here)
        | inr ge ↦
            let q = stands_within k row i c token.at.stands in
            let is_last : suc i ≡ k.shape.stages = omega (arith, q, ge) in
            let t : v ≡ i + tailed k (past ∷ older) c.serial = sym token.at.time ∙ time_last k (past ∷ older) i c is_last in
            let own : d.number word ≡ Some n = is_own_last t is_last token.own in
            let own_b : d.number b.word ≡ Some n = ap d.number (g ∙ token.at.word_is) ∙ own in
            let none : (p.mode ≡ Tight → ⊥) → tailed k (past ∷ older) c.serial ≡ 0 = λ other. ap (tailed k (past ∷ older)) token.at.serial ∙ untailed other own in
            let past_time : time_of k older i b ≡ i + tailed k older c.serial = time_last k older i b is_last ∙ ap (λ x. i + tailed k older x) f in
            by_tail is_last t own_b none past_time (is_tail b.hold) refl (tail_here k past older i b c.serial e is_last f)
      ] where
        before : (u : ℕ) → time_of k older i b ≡ u → u ≤ v → IsCellToken d n older past s word u
        before u time le = record {
          at = record { stage = i; cell = b; stands = e; serial = f ∙ token.at.serial; word_is = g ∙ token.at.word_is; time = time };
          late = token.late;
          own = own_before token.own;
        } where
          own_before : (d.number word ≡ Some n) ⊎ (v ≤ k.shape.ex) → (d.number word ≡ Some n) ⊎ (u ≤ k.shape.ex)
          own_before (inl q) = inl q
          own_before (inr q) = inr (omega (arith, q, le))

        is_own_last : v ≡ i + tailed k (past ∷ older) c.serial → suc i ≡ k.shape.stages → (d.number word ≡ Some n) ⊎ (v ≤ k.shape.ex) → d.number word ≡ Some n
        is_own_last t z (inl q) = q
        is_own_last t z (inr q) = (let x = core.ex_last in absurd (omega (arith, t, z, q, x)))

        by_tail : suc i ≡ k.shape.stages → v ≡ i + tailed k (past ∷ older) c.serial → d.number b.word ≡ Some n → ((p.mode ≡ Tight → ⊥) → tailed k (past ∷ older) c.serial ≡ 0)
            → time_of k older i b ≡ i + tailed k older c.serial → (t : Bool) → is_tail b.hold ≡ t → tailed k (past ∷ older) c.serial ≡ (if is_tail b.hold then suc (tailed k older c.serial) else tailed k older c.serial) → Turned past older values s word v
        by_tail is_last t own none past_time true x count =
            let more : tailed k (past ∷ older) c.serial ≡ suc (tailed k older c.serial) = count ∙ ap (λ (z : Bool). if z then suc (tailed k older c.serial) else tailed k older c.serial) x in
            let u : ℕ = i + tailed k older c.serial in
            let next : v ≡ u + 1 = omega (arith, t, more) in
            elim (is_tight p.mode) [
              | inl tight ↦ inr (u, before u past_time (omega (arith, next)), omega (arith, next), tails past older values going tells s word i b e is_last h alone own tight x u v (omega arith) high next)
              | inr other ↦ (let z = none other in absurd (omega (arith, z, more)))
            ]
        by_tail is_last t own none past_time false x count =
            let same : tailed k (past ∷ older) c.serial ≡ tailed k older c.serial = count ∙ ap (λ (z : Bool). if z then suc (tailed k older c.serial) else tailed k older c.serial) x in
            let u : ℕ = i + tailed k older c.serial in
            let here : v ≡ u = omega (arith, t, same) in
            inr (
              u,
              before u past_time (omega (arith, here)),
              omega (arith, here),
              rests past older values going tells s word i b e is_last h alone own (λ q. x) u v (omega arith) (λ q. let z = none (λ y. not_both p.mode y q) in omega (arith, z, same)) high here,
            )

      pub cell_turn : Before k (past ∷ older) i c → Turned past older values s word v
      cell_turn (held b e f g h alone) = held_on b e f g h.held alone
      cell_turn (went j z b e f g h l) = went_on j b z e f g l
      cell_turn (new z q o) = (let a = token.late in let b = core.rd_pos in absurd (omega (arith, a, b, z)))
