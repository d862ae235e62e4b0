-- A cell of a row that is judged: what stands above it, and what is owed beside the stages.
use Rattle.std.proofs.Common.{◌≡◌, ℕ, ◌<◌, List, ◌∷◌, Option, Some, Bool, true, false, refl, sym, ap, ◌∙◌, subst, arith, inl, inr}
use Rattle.std.specs.Prelude.{slice_get}
use Rattle.std.specs.List.{Contains}
use Rattle.std.proofs.lemmas.Bool.{cases_lt}
use Rattle.rv_asks.specs.declared.asks.Asks.{Asks}
use Rattle.rv_trace.specs.declared.row.Cell.{Cell}
use Rattle.rv_trace.specs.declared.row.Row.{Row}
use Rattle.rv_trace.specs.Trace.{has_serial, is_flushed, is_retired, place, retirements}
use Rattle.rv_trace.specs.RowParts.{IsOlder}
use Rattle.rv_lawful.specs.Settings.{Setting, stages_of, Stands}
use Rattle.rv_lawful.specs.Outstanding.{Decoupled, outstanding}
use Rattle.rv_lawful.specs.LawfulTrace.{IsWordOf}
use Rattle.rv_rows.specs.Facts.{IsPlain, AboveFacts}
use Rattle.rv_rows.specs.Kinds.{upper}
use Rattle.rv_rows.proofs.Upper.{stands_up, stands_down, flushed_up}
use Rattle.rv_rows.specs.declared.known.Known.{Known}
use Rattle.rv_rows.specs.declared.known.Owed.{Owed}
use Rattle.rv_rows.specs.Known.{IsKnown, AreOwed, IsOwing, owed_of}
use Rattle.rv_holdings.specs.Expected.{NamesRegisters, Older, instructions_above}
use Rattle.rv_holdings.proofs.Above.{get_of, IsOf, listed_is, is_listed, Descends}
use Rattle.rv_holdings.proofs.Past.{lower_serial, unflushed_more, unflushed_both}
use Rattle.rv_holdings.proofs.Beside.{Ascends, ascends, is_owed, owed_is}
use Rattle.rv_holdings.proofs.Tests.{differ}

pub record IsJudged (k : Setting) (earlier : List Row) (row : Row) (known : Known) (owed : List Owed) : Type 0 where
  pub plain : IsPlain k
  pub names : NamesRegisters k
  pub above : AboveFacts k earlier row
  pub past : (j : ℕ) → is_retired earlier j ≡ true → place earlier j < retirements earlier
  pub knowing : IsKnown k earlier row known
  pub are_owed : AreOwed k earlier owed
  pub owing : IsOwing k earlier

same_place : (a b : Cell) (o : Option (Option Cell)) → o ≡ Some (Some a) → o ≡ Some (Some b) → a ≡ b
same_place a b o e f = cc

module _ (k : Setting) (earlier : List Row) (row : Row) (known : Known) (owed : List Owed) (is : IsJudged k earlier row known owed) where
  pub few : (at : ℕ) (d : Cell) → Stands k row at d → at < 5
  few at d s = let lt = (get_of k.shape.stages at row.cells d s).0 in let most = is.plain.most in omega (arith, lt, most)

  -- no serial stands twice
  pub one_place : (at later : ℕ) (e d : Cell) → 0 < at → 0 < later → Stands k row at e → Stands k row later d → e.serial ≡ d.serial → (at ≡ later) × (e ≡ d)
  one_place at later e d a l s t q = elim (cases_lt at later) [
    | inl less ↦ let lt = is.above.ordered at later e d a less s t in absurd (omega (arith, lt, q))
    | inr more ↦ elim (cases_lt later at) [
      | inl less ↦ let lt = is.above.ordered later at d e l less t s in absurd (omega (arith, lt, q))
      | inr low ↦ let z : at ≡ later = omega (arith, more, low) in (z, same_place e d (slice_get (stages_of k row) later) (subst (λ n. Stands k row n e) z s) t)
    ]
  ]

  -- what has retired is older than what stands
  pub retired_lower : (j at : ℕ) (d : Cell) → is_retired earlier j ≡ true → 0 < at → Stands k row at d → j < d.serial
  retired_lower j at d e lt s =
      let p = is.past j e in
      let q = (is.above.in_place at d lt s).placed in
      lower_serial earlier j d.serial (omega (arith, p, q))

  -- and its word is one of the rows before
  pub word_before : (j word : ℕ) → is_retired earlier j ≡ true → IsWordOf k (upper row ∷ earlier) j word → IsWordOf k earlier j word
  word_before j word e (inr w) = w
  word_before j word e (inl x) =
      let s = stands_down k row x.0 x.1 x.2 in
      let u = (is.above.in_place x.0 x.1 s.0 s.1).unretired in
      absurd (differ (is_retired earlier j) e (subst (λ n. is_retired earlier n ≡ false) x.3 u))

  -- What is owed

  pub ascending : Ascends owed
  ascending = subst (λ l. Ascends l) (sym is.are_owed) (ascends k (outstanding k earlier) is.owing.ordered)

  pub of_owed : (o : Owed) → Contains owed o → (d : Decoupled) × Contains (outstanding k earlier) d × (owed_of k d ≡ o)
  of_owed o c = owed_is k o (outstanding k earlier) (subst (λ l. Contains l o) is.are_owed c)

  pub to_owed : (d : Decoupled) → Contains (outstanding k earlier) d → Contains owed (owed_of k d)
  to_owed d c = subst (λ l. Contains l (owed_of k d)) (sym is.are_owed) (is_owed k d (outstanding k earlier) c)

  -- A cell in a stage above stage 0

  module _ (stage : ℕ) (c : Cell) (up : 0 < stage) (stands : Stands k row stage c) where
    abbrev older : Older
    older = instructions_above k.shape row known stage

    pub of_listed : (at : ℕ) (o : Owed) → slice_get older at ≡ Some (Some o) → IsOf k earlier row known is.knowing stage at o
    of_listed at o e = listed_is k earlier row known is.knowing stage at o e

    pub falls : Descends older
    falls i l o p lt a b =
        let x = of_listed i o a in
        let y = of_listed l p b in
        let low = x.later in
        let q = is.above.ordered i l x.cell y.cell (omega (arith, low)) lt x.stands y.stands in
        let s = x.serial in
        let t = y.serial in
        omega (arith, q, s, t)

    pub above_zero : (at : ℕ) (o : Owed) → slice_get older at ≡ Some (Some o) → 0 < at
    above_zero at o e = let low = (of_listed at o e).later in omega (arith, low)

    pub older_of : (at : ℕ) (o : Owed) → slice_get older at ≡ Some (Some o) → IsOlder (upper row ∷ earlier) c.serial o.serial
    older_of at o e =
        let x = of_listed at o e in
        let q = is.above.ordered stage at c x.cell up x.later stands x.stands in
        let s = x.serial in
        let i = is.above.in_place at x.cell (above_zero at o e) x.stands in
        record {
          lower = omega (arith, q, s);
          unflushed = flushed_up row earlier o.serial ∙ subst (λ n. is_flushed (row ∷ earlier) n ≡ false) (sym s) (unflushed_more row earlier x.cell.serial x.unflushed i.unflushed);
        }

    pub unretired_of : (at : ℕ) (o : Owed) → slice_get older at ≡ Some (Some o) → is_retired earlier o.serial ≡ false
    unretired_of at o e = let x = of_listed at o e in subst (λ n. is_retired earlier n ≡ false) (sym x.serial) (is.above.in_place at x.cell (above_zero at o e) x.stands).unretired

    -- what is asked of it, by its word
    pub word_of : (f : Asks → Bool) (at : ℕ) (o : Owed) → slice_get older at ≡ Some (Some o) → f o.asks ≡ true → (word : ℕ) × IsWordOf k (upper row ∷ earlier) o.serial word × (f (k.asks word) ≡ true)
    word_of f at o e t =
        let x = of_listed at o e in
        (x.cell.word, inl (at, x.cell, stands_up k row at x.cell (above_zero at o e) x.stands, sym x.serial, refl), ap f (sym x.asks) ∙ t)

    -- a cell that is older and not retired in an earlier row
    pub record IsThere (j : ℕ) : Type 0 where
      pub at : ℕ
      pub cell : Cell
      pub later : stage < at
      pub standing : Stands k row at cell
      pub serial : cell.serial ≡ j
      pub unflushed : has_serial row.flushed cell.serial ≡ false

    pub there : (j : ℕ) → IsOlder (upper row ∷ earlier) c.serial j → is_retired earlier j ≡ false → IsThere j
    there j o u =
        let f = unflushed_both row earlier j (sym (flushed_up row earlier j) ∙ o.unflushed) in
        let x = is.above.older stage c j up stands o.lower f.1 u in
        record { at = x.0; cell = x.1; later = x.2; standing = x.3; serial = x.4; unflushed = subst (λ n. has_serial row.flushed n ≡ false) (sym x.4) f.0 }

    pub one_word : (j word : ℕ) (x : IsThere j) → IsWordOf k (upper row ∷ earlier) j word → word ≡ x.cell.word
    one_word j word x w = by_row w where
      low : 0 < x.at
      low = let lt = x.later in omega (arith, lt)

      by_row : IsWordOf k (upper row ∷ earlier) j word → word ≡ x.cell.word
      by_row (inl y) =
          let s = stands_down k row y.0 y.1 y.2 in
          let e = one_place y.0 x.at y.1 x.cell s.0 low s.1 x.standing (y.3 ∙ sym x.serial) in
          sym y.4 ∙ ap (λ (d : Cell). d.word) e.1
      by_row (inr y) = is.above.one_word x.at x.cell word low x.standing (subst (λ n. IsWordOf k earlier n word) (sym x.serial) y)

    -- is listed, with what is asked of its word
    pub from_word : (f : Asks → Bool) (j : ℕ) → IsOlder (upper row ∷ earlier) c.serial j → is_retired earlier j ≡ false → (word : ℕ) → IsWordOf k (upper row ∷ earlier) j word → f (k.asks word) ≡ true
        → (at : ℕ) × (o : Owed) × (slice_get older at ≡ Some (Some o)) × (o.serial ≡ j) × (f o.asks ≡ true)
    from_word f j o u word w t =
        let x = there j o u in (
          x.at,
          record { serial = x.cell.serial; asks = k.asks x.cell.word },
          is_listed k earlier row known is.knowing stage x.at x.cell x.later (few x.at x.cell x.standing) x.standing x.unflushed,
          x.serial,
          ap (λ v. f (k.asks v)) (sym (one_word j word x w)) ∙ t,
        )

    -- what is owed and not flushed in the row is older too
    pub owed_older : (o : Owed) → Contains owed o → has_serial row.flushed o.serial ≡ false → IsOlder (upper row ∷ earlier) c.serial o.serial
    owed_older o h f =
        let d = of_owed o h in
        let s : d.0.0 ≡ o.serial = ap (λ (p : Owed). p.serial) d.2 in
        let r = is.owing.retired d.0.0 d.0.1 d.1 in
        let lt = retired_lower d.0.0 stage c r up stands in
        record {
          lower = omega (arith, lt, s);
          unflushed = flushed_up row earlier o.serial ∙ unflushed_more row earlier o.serial f (subst (λ n. is_flushed earlier n ≡ false) s (is.owing.unflushed d.0.0 d.0.1 d.1));
        }

    -- and than the listed ones
    pub owed_first : (o p : Owed) (at : ℕ) → Contains owed o → slice_get older at ≡ Some (Some p) → o.serial < p.serial
    owed_first o p at h e =
        let d = of_owed o h in
        let s : d.0.0 ≡ o.serial = ap (λ (q : Owed). q.serial) d.2 in
        let y = of_listed at p e in
        let lt = retired_lower d.0.0 at y.cell (is.owing.retired d.0.0 d.0.1 d.1) (above_zero at p e) y.stands in
        let w = y.serial in
        omega (arith, lt, s, w)

    pub there_listed : (j : ℕ) (x : IsThere j) → slice_get older x.at ≡ Some (Some (record { serial = x.cell.serial; asks = k.asks x.cell.word }))
    there_listed j x = is_listed k earlier row known is.knowing stage x.at x.cell x.later (few x.at x.cell x.standing) x.standing x.unflushed
