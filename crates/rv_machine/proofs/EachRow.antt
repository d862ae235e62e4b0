-- Each row that the machine makes is lawful, agrees with the run, and comes nearer to a retirement.
use Rattle.rv_lawful.specs.Outstanding.{architecture}
use Rattle.rv_lawful.specs.Entering.{places}
use Rattle.std.proofs.Common.{◌≡◌, ◌+◌, ◌≤◌, List, [], ◌∷◌, Option, Some, None, refl, sym, ap, ◌∙◌, inl, inr}
use Rattle.rv_seq.specs.declared.commit.Commit.{Commit}
use Rattle.rv_seq.specs.declared.answer.StepAnswer.TheVariants.{Done}
use Rattle.rv_waits.specs.Waits.{greatest}
use Rattle.rv_trace.specs.declared.row.Row.{Row}
use Rattle.rv_trace.specs.Trace.{retirements, rows_without}
use Rattle.rv_holds.specs.declared.token.Token.{Token}
use Rattle.rv_holds.specs.Tokens.{Slots, commit_of}
use Rattle.rv_engine.specs.Settings.{Setting, Machine, tree_of}
use Rattle.rv_engine.specs.Rows.{fill_first, new_by, loaded_by, seen_by, left_by, advanced, IsRowOf, machine_after}
use Rattle.rv_lawful.specs.LawfulTrace.{LawfulRow}
use Rattle.rv_lawful.specs.Headline.{AgreesWithRun}
use Rattle.rv_machine.specs.Owing.{judged}
use Rattle.rv_machine.specs.Placed.{one_more, tail, expected, whole_rank, greatest_rank, IsReady, Inv, at_places}
use Rattle.rv_machine.specs.Made.{Made}
use Rattle.rv_machine.proofs.Bound.{tails_of}
use Rattle.rv_machine.proofs.Alike.{Alike}
use Rattle.rv_machine.proofs.Before as B
use Rattle.rv_machine.proofs.NextPlaces as N
use Rattle.rv_machine.proofs.Telling as T
use Rattle.rv_machine.proofs.Retiring as R
use Rattle.rv_machine.proofs.MadeRow as M
use Rattle.rv_machine.specs.Left.{Left}
use Rattle.rv_machine.proofs.Lawful as L
use Rattle.rv_machine.proofs.Agreeing as A
use Rattle.rv_machine.proofs.NextCounts as C
use Rattle.rv_machine.proofs.FewEntries.{few_next}
use Rattle.rv_machine.proofs.OwingNext as O
use Rattle.rv_machine.proofs.RepaidNext as P

same_tails : (a b : Slots) → Alike a b → tails_of b ≡ tails_of a
same_tails [] [] h = refl
same_tails [] (u ∷ b) h = absurd h
same_tails (s ∷ a) [] h = absurd h
same_tails (None ∷ a) (None ∷ b) h = ap (λ l. None ∷ l) (same_tails a b h.1)
same_tails (None ∷ a) (Some u ∷ b) h = absurd h.0
same_tails (Some t ∷ a) (None ∷ b) h = absurd h.0
same_tails (Some t ∷ a) (Some u ∷ b) h = ap (λ l. Some u.tail ∷ l) (same_tails a b h.1) ∙ ap (λ n. Some n ∷ tails_of a) h.0.tail

module _ (k : Setting) (ready : IsReady k) (earlier : List Row) (m : Machine) (row : Row) (inv : Inv k earlier m) (is : IsRowOf k m row) where
  made : Made k earlier m row
  made = M.made k ready earlier m row inv is

  retired_is : retirements earlier + one_more (left_by k m) 0 ≡ retirements (row ∷ earlier)
  retired_is = ap (λ n. retirements earlier + n) (R.left_out k ready earlier m row inv is) ∙ sym (R.retired_now k ready earlier m row inv is)

  recorded : (t : Token) (c : Commit) → left_by k m ≡ Some t → commit_of t ≡ Some c → (judged k).course.answer (retirements earlier) ≡ Done c
  recorded t c g e = elim (R.goes_out k ready earlier m row inv is) [
    | inl n ↦ cc (n.0, g)
    | inr y ↦ y.0.recorded ∙ ap (λ x. Done x) (one_commit y.0.commit c (sym y.0.comes_to ∙ ap commit_of (one_token y.0.token t (sym y.0.is_left ∙ g)) ∙ e))
  ] where
    one_token : (t u : Token) → ◌≡◌ {A = Option Token} (Some t) (Some u) → t ≡ u
    one_token t u e = cc

    one_commit : (c d : Commit) → ◌≡◌ {A = Option Commit} (Some c) (Some d) → c ≡ d
    one_commit c d e = cc

  left : Left k earlier m row
  left =
      record {
        serial = λ t e. (R.left_serial k ready earlier m row inv is t e).0;
        recorded = recorded;
        now = R.retired_now k ready earlier m row inv is;
        state = R.architecture_now k ready earlier m row inv is;
        applied = P.repaid_next k ready earlier m row inv is;
        owing = O.owing_next k ready earlier m row inv is;
        fetch = λ plain none. N.next_fetch k ready earlier m inv none plain ∙ ap (λ n. expected k n 1 (tail (advanced None (seen_by k m)))) retired_is;
      }

  pub lawful : LawfulRow (judged k) earlier row
  lawful = L.lawful k ready earlier m row made left

  pub state_after : architecture (tree_of k) (judged (at_places k (places (row ∷ earlier)))) (row ∷ earlier) ≡ (machine_after k m).arch
  state_after = A.state_told k ready earlier m row made left

  pub agrees : AgreesWithRun (tree_of k) (judged k) (judged (at_places k (places (row ∷ earlier)))) earlier row
  agrees = A.agrees k ready earlier m row made left

  pub progress : row.stop ≡ None → rows_without (row ∷ earlier) + whole_rank k (greatest k.waits) (machine_after k m) ≤ greatest_rank k
  progress = C.progress_next k ready earlier m row made (T.awaits_told k ready earlier m row inv is) (same_tails (fill_first (new_by k m) m.slots) (loaded_by k m) (B.loaded_alike k ready earlier m inv)) (few_next k ready earlier m row inv is)
