-- The older tokens of a token, and what is owed beside the stages, against the rows.
use Rattle.std.proofs.Common.{◌≡◌, ℕ, suc, ◌+◌, ◌<◌, ◌≤◌, List, ◌∷◌, drop, Option, Some, Bool, true, false, refl, sym, ap, ◌∙◌, subst, arith, inl, inr}
use Rattle.std.specs.Prelude.{slice_get, nat_lt, is_some}
use Rattle.std.proofs.lemmas.Bool.{cases_lt}
use Rattle.std.proofs.lemmas.Bool.Decides.{nat_tests}
use Rattle.rv_trace.specs.declared.row.Cell.{Cell}
use Rattle.rv_trace.specs.declared.row.Row.{Row}
use Rattle.rv_trace.specs.Trace.{is_flushed, is_retired, place, retirements}
use Rattle.rv_trace.specs.RowParts.{IsOlder}
use Rattle.rv_asks.specs.declared.asks.Asks.{Asks}
use Rattle.rv_holds.specs.declared.token.Token.{Token}
use Rattle.rv_holds.specs.Tokens.{Slots}
use Rattle.rv_engine.specs.Settings.{Setting}
use Rattle.rv_lawful.specs.Settings as Lawful
use Rattle.rv_lawful.specs.Sight.{asked}
use Rattle.rv_lawful.specs.Outstanding.{is_written}
use Rattle.rv_lawful.specs.LawfulTrace.{IsWordOf}
use Rattle.rv_machine.specs.Owing.{judged}
use Rattle.rv_machine.specs.Placed.{count, Serials}
use Rattle.rv_machine.specs.Told.{Told}
use Rattle.rv_machine.proofs.Places.{Stood, stood, one_token, lone_stage, older_lower, token_of, serials_drop, place_lt, lower_place, place_order, flushed_now, unflushed_before}
use Rattle.rv_machine.proofs.Standing.{slice_get-drop, drop_more, here_of, cell_here, asks_at, token_at, Has}
use Rattle.rv_machine.proofs.Owes.{Owes, IsOwed, owes_is, retired_owes}

pub not_lt : (a b : ℕ) → b ≤ a → nat_lt a b ≡ false
not_lt a b h = grind (arith, nat_tests)

pub not_below : (a b : ℕ) → nat_lt a b ≡ false → b ≤ a
not_below a b h = grind (arith, nat_tests)

pub is_below : (a b : ℕ) → nat_lt a b ≡ true → a < b
is_below a b h = grind (arith, nat_tests)

-- a row, with what is told of it
module _ (k : Setting) (earlier : List Row) (row : Row) (seen : Slots) (told : Told k earlier row seen) where
  -- what is retired before the row has a place below those of its tokens
  pub retired_place : (j : ℕ) → is_flushed (row ∷ earlier) j ≡ false → is_retired earlier j ≡ true → place (row ∷ earlier) j < retirements earlier
  retired_place j alive gone = is_below (place (row ∷ earlier) j) (retirements earlier) (sym (told.before j alive) ∙ gone)

  pub unretired_place : (j : ℕ) → is_flushed (row ∷ earlier) j ≡ false → is_retired earlier j ≡ false → retirements earlier ≤ place (row ∷ earlier) j
  unretired_place j alive stays = not_below (place (row ∷ earlier) j) (retirements earlier) (sym (told.before j alive) ∙ stays)

  -- so it stands in no stage of the row, and its word is one of the rows before
  pub word_before : (j word : ℕ) → is_flushed (row ∷ earlier) j ≡ false → is_retired earlier j ≡ true → IsWordOf (judged k) (row ∷ earlier) j word → IsWordOf (judged k) earlier j word
  word_before j word alive gone (inr known) = known
  word_before j word alive gone (inl x) = elim (cases_lt x.0 told.flushed) [
    | inl lt ↦
        let f = told.gone x.0 x.1 lt x.2 in
        cc (flushed_now row earlier x.1.serial f.1, ap (λ s. is_flushed (row ∷ earlier) s) x.3, alive)
    | inr le ↦
        let y = token_at seen x.0 x.1 (sym (told.cells x.0 le) ∙ x.2) in
        let low = (stood (row ∷ earlier) (retirements earlier) x.0 seen y.0 told.serials (here_of seen y.1 y.0 x.0 y.3)).low in
        let same = ap (λ s. place (row ∷ earlier) s) (ap (λ (c : Cell). c.serial) y.2 ∙ x.3) in
        let lt = retired_place j alive gone in
        absurd (omega (arith, low, same, lt))
  ]

  -- what owes is retired, and not flushed
  pub owed_alive : (f : Asks → Bool) (j : ℕ) → IsOwed k earlier f j → is_flushed (row ∷ earlier) j ≡ false
  owed_alive f j x = subst (λ s. is_flushed (row ∷ earlier) s ≡ false) x.serial (told.beside.alive x.out.0 x.is.alive x.is.retired)

  pub owed_retired : (f : Asks → Bool) (j : ℕ) → IsOwed k earlier f j → is_retired earlier j ≡ true
  owed_retired f j x = subst (λ s. is_retired earlier s ≡ true) x.serial x.is.retired

  pub owed_unwritten : (f : Asks → Bool) (j : ℕ) → IsOwed k earlier f j → is_written earlier j ≡ false
  owed_unwritten f j x = subst (λ s. is_written earlier s ≡ false) x.serial x.is.unwritten

  pub owed_word : (f : Asks → Bool) (j : ℕ) → IsOwed k earlier f j → (word : ℕ) × IsWordOf (judged k) (row ∷ earlier) j word × (f (asked k.design word) ≡ true)
  owed_word f j x = (x.out.1, inr (subst (λ s. IsWordOf (judged k) earlier s x.out.1) x.serial x.is.known), sym (ap f x.is.asks) ∙ x.true_of)

  pub owed_unit : (f : Asks → Bool) (j : ℕ) → IsOwed k earlier f j → (word : ℕ) × IsWordOf (judged k) (row ∷ earlier) j word × (is_some (asked k.design word).unit ≡ true)
  owed_unit f j x =
      owed_word (λ a. is_some a.unit) j
      (record { out = x.out; entry = x.entry; owed = x.owed; is = x.is; serial = x.serial; true_of = ap (λ (u : Option ℕ). is_some u) x.is.unit })

  -- it is known of what owes
  pub is_owed : (f : Asks → Bool) (j : ℕ) → Owes told.outstanding.owed f j → IsOwed k earlier f j
  is_owed f j x = owes_is k earlier _ told.outstanding.entries told.outstanding.owed f j told.beside.owing x

  -- and what was retired into a unit, and not written in an earlier row, owes
  pub owes_of : (f : Asks → Bool) (j word : ℕ) → is_flushed (row ∷ earlier) j ≡ false → is_retired earlier j ≡ true → is_written earlier j ≡ false → IsWordOf (judged k) (row ∷ earlier) j word → is_some (asked k.design word).unit ≡ true → f (asked k.design word) ≡ true → Owes told.outstanding.owed f j
  owes_of f j word alive gone unwritten known unit e =
      retired_owes k j word unit earlier told.outstanding.entries told.outstanding.owed f told.beside.owing
      (told.beside.worded j word (word_before j word alive gone known) (unflushed_before row earlier j alive) gone) unwritten e

-- a token in a stage
module _ (k : Setting) (earlier : List Row) (row : Row) (seen : Slots) (told : Told k earlier row seen) (stage : ℕ) (t : Token) (older : Slots) (rest : drop stage seen ≡ Some t ∷ older) where
  -- the serials of the token and of the older ones
  pub ordered : Serials (row ∷ earlier) (retirements earlier) (Some t ∷ older)
  ordered = subst (λ l. Serials (row ∷ earlier) (retirements earlier) l) rest (serials_drop (row ∷ earlier) (retirements earlier) stage seen told.serials)

  -- an older cell that is not retired in an earlier row has a token here
  pub waiting : (j : ℕ) → IsOlder (row ∷ earlier) t.cell.serial j → is_retired earlier j ≡ false → (n : ℕ) × (u : Token) × (slice_get older n ≡ Some (Some u)) × (u.cell.serial ≡ j)
  waiting j o u =
      let lower = place_lt (row ∷ earlier) j t.cell.serial o.unflushed o.lower in
      let p = ordered.0.0 in
      token_of (row ∷ earlier) (retirements earlier) j older ordered.1 o.unflushed (unretired_place k earlier row seen told j o.unflushed u) (omega (arith, lower, p))

  pub older_stood : (n : ℕ) (u : Token) → slice_get older n ≡ Some (Some u) → Stood (row ∷ earlier) (retirements earlier) (count older) u
  older_stood n u e = stood (row ∷ earlier) (retirements earlier) n older u ordered.1 e

  pub is_older : (n : ℕ) (u : Token) → slice_get older n ≡ Some (Some u) → IsOlder (row ∷ earlier) t.cell.serial u.cell.serial
  is_older n u e = record { lower = older_lower (row ∷ earlier) (retirements earlier) n t u older ordered e; unflushed = (older_stood n u e).alive }

  pub unretired : (n : ℕ) (u : Token) → slice_get older n ≡ Some (Some u) → is_retired earlier u.cell.serial ≡ false
  unretired n u e = let s = older_stood n u e in told.before u.cell.serial s.alive ∙ not_lt (place (row ∷ earlier) u.cell.serial) (retirements earlier) s.low

  pub here_in : (n : ℕ) (u : Token) → slice_get older n ≡ Some (Some u) → slice_get seen (suc stage + n) ≡ Some (Some u)
  here_in n u e = sym (slice_get-drop seen (suc stage) n) ∙ ap (λ l. slice_get l n) (drop_more seen older (Some t) stage rest) ∙ e

  pub asked_in : (n : ℕ) (u : Token) → slice_get older n ≡ Some (Some u) → u.asks ≡ asked k.design u.cell.word
  asked_in n u e = asks_at k (retirements earlier) 0 (suc stage + n) seen u told.placed (here_in n u e)

  -- no stage from this one on is flushed
  pub past_flushed : (n : ℕ) → told.flushed ≤ suc stage + n
  past_flushed n = let le = told.left stage t (here_of seen older t stage rest) in omega (arith, le)

  -- a cell of the row with the serial of an older token is that token's
  pub stands_one : (n : ℕ) (u : Token) → slice_get older n ≡ Some (Some u) → (at : ℕ) (d : Cell) → Lawful.Stands (judged k) row at d → d.serial ≡ u.cell.serial → (at ≡ suc stage + n) × (d ≡ u.cell)
  stands_one n u here at d stands same = elim (cases_lt at told.flushed) [
    | inl lt ↦
        let f = told.gone at d lt stands in
        cc (flushed_now row earlier d.serial f.1, ap (λ s. is_flushed (row ∷ earlier) s) same, (older_stood n u here).alive)
    | inr le ↦
        let y = token_at seen at d (sym (told.cells at le) ∙ stands) in
        let there = here_of seen y.1 y.0 at y.3 in
        let serial : y.0.cell.serial ≡ u.cell.serial = ap (λ (c : Cell). c.serial) y.2 ∙ same in (
          lone_stage (row ∷ earlier) (retirements earlier) seen at (suc stage + n) y.0 u told.serials there (here_in n u here) serial,
          sym y.2 ∙ ap (λ (v : Token). v.cell) (one_token (row ∷ earlier) (retirements earlier) at (suc stage + n) seen y.0 u told.serials there (here_in n u here) serial),
        )
  ]

  -- the word of an older token, by what is asked of it
  pub word_of : (f : Asks → Bool) (j : ℕ) → Has older (λ u. f u.asks) j → (word : ℕ) × IsWordOf (judged k) (row ∷ earlier) j word × (f (asked k.design word) ≡ true)
  word_of f j has =
      let stands : Lawful.Stands (judged k) row (suc stage + has.0) has.1.cell = told.cells (suc stage + has.0) (past_flushed has.0) ∙ cell_here seen (suc stage + has.0) has.1 (here_in has.0 has.1 has.2) in
      let known : IsWordOf (judged k) (row ∷ earlier) j has.1.cell.word = inl (suc stage + has.0, has.1.cell, stands, has.3, refl) in
      (has.1.cell.word, known, sym (ap f (asked_in has.0 has.1 has.2)) ∙ has.4)

  -- what is asked of the word of an older cell, among the older tokens
  pub from_word : (f : Asks → Bool) (j : ℕ) → IsOlder (row ∷ earlier) t.cell.serial j → is_retired earlier j ≡ false → (word : ℕ) → IsWordOf (judged k) (row ∷ earlier) j word → f (asked k.design word) ≡ true → Has older (λ u. f u.asks) j
  from_word f j o un word known e =
      let u = waiting j o un in
      let same = told.words j word known (suc stage + u.0) u.1 (here_in u.0 u.1 u.2) u.3 in
      (u.0, u.1, u.2, u.3, ap f (asked_in u.0 u.1 u.2) ∙ ap (λ v. f (asked k.design v)) same ∙ e)

  pub older_of : (f : Asks → Bool) (j : ℕ) → Has older (λ u. f u.asks) j → IsOlder (row ∷ earlier) t.cell.serial j
  older_of f j has = subst (λ s. IsOlder (row ∷ earlier) t.cell.serial s) has.3 (is_older has.0 has.1 has.2)

  pub unretired_of : (f : Asks → Bool) (j : ℕ) → Has older (λ u. f u.asks) j → is_retired earlier j ≡ false
  unretired_of f j has = subst (λ s. is_retired earlier s ≡ false) has.3 (unretired has.0 has.1 has.2)

  -- what owes is older than the token, and than the older ones
  pub owed_older : (f : Asks → Bool) (j : ℕ) → IsOwed k earlier f j → IsOlder (row ∷ earlier) t.cell.serial j
  owed_older f j x =
      let alive = owed_alive k earlier row seen told f j x in
      let lt = retired_place k earlier row seen told j alive (owed_retired k earlier row seen told f j x) in
      let p = ordered.0.0 in
      record { lower = lower_place (row ∷ earlier) j t.cell.serial (omega (arith, lt, p)); unflushed = alive }

  pub owed_first : (f : Asks → Bool) (i j : ℕ) → IsOwed k earlier f i → is_flushed (row ∷ earlier) j ≡ false → is_retired earlier j ≡ false → i ≤ j
  owed_first f i j x alive stays =
      let lt = retired_place k earlier row seen told i (owed_alive k earlier row seen told f i x) (owed_retired k earlier row seen told f i x) in
      let le = unretired_place k earlier row seen told j alive stays in
      place_order (row ∷ earlier) i j alive (omega (arith, lt, le))
