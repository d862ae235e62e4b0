-- What is known of a row that the machine makes.
use Rattle.std.proofs.Common.{◌≡◌, ℕ, List, [], ◌∷◌, Option, Some, None, refl, sym, ap, ◌∙◌, arith, inl, inr}
use Rattle.rv_seq.specs.declared.commit.Commit.{Commit}
use Rattle.rv_trace.specs.declared.row.Row.{Row}
use Rattle.rv_trace.specs.RowParts.{Name, name_of, names_of}
use Rattle.rv_holds.specs.declared.token.Token.{Token}
use Rattle.rv_holds.specs.Tokens.{Slots, cells_of, commit_of}
use Rattle.rv_engine.specs.Settings.{Setting, Machine}
use Rattle.rv_engine.specs.Rows.{fill_first, new_by, loaded_by, left_by, IsRowOf, retired_of}
use Rattle.rv_machine.specs.Placed.{IsReady, Inv}
use Rattle.rv_machine.specs.Made.{Made}
use Rattle.rv_machine.proofs.Alike.{Alike, IsAlike}
use Rattle.rv_machine.proofs.Before as B
use Rattle.rv_machine.proofs.Flushing as F
use Rattle.rv_machine.proofs.Retiring as R
use Rattle.rv_tried.specs.Parts.{shown}
use Rattle.rv_lawful.specs.Sight.{asked}

named : ℕ → ℕ → ℕ → Option Name
named serial at word = name_of (Some (record { serial = serial; at = at; word = word; hold = None }))

same_name : (t u : Token) → IsAlike t u → name_of (Some u.cell) ≡ name_of (Some t.cell)
unfolding named
same_name t u h = ap (λ n. named n u.cell.at u.cell.word) h.serial ∙ ap (λ n. named t.cell.serial n u.cell.word) h.at ∙ ap (λ n. named t.cell.serial t.cell.at n) h.word

pub alike_names : (a b : Slots) → Alike a b → names_of (cells_of b) ≡ names_of (cells_of a)
alike_names [] [] h = refl
alike_names [] (u ∷ b) h = absurd h
alike_names (s ∷ a) [] h = absurd h
alike_names (None ∷ a) (None ∷ b) h = ap (λ l. None ∷ l) (alike_names a b h.1)
alike_names (None ∷ a) (Some u ∷ b) h = absurd h.0
alike_names (Some t ∷ a) (None ∷ b) h = absurd h.0
alike_names (Some t ∷ a) (Some u ∷ b) h = ap (λ l. name_of (Some u.cell) ∷ l) (alike_names a b h.1) ∙ ap (λ n. n ∷ names_of (cells_of a)) (same_name t u h.0)

pub made : (k : Setting) (ready : IsReady k) (earlier : List Row) (m : Machine) (row : Row) → Inv k earlier m → IsRowOf k m row → Made k earlier m row
made k ready earlier m row inv is =
    record {
      inv = inv;
      is = is;
      told = R.told k ready earlier m row inv is;
      struck_is = R.told_struck k ready earlier m row inv is;
      long = B.loaded_length k ready earlier m inv;
      decided = B.loaded_decided k ready earlier m inv;
      serials = F.loaded_serials k ready earlier m row inv is;
      names = alike_names (fill_first (new_by k m) m.slots) (loaded_by k m) (B.loaded_alike k ready earlier m inv);
      kept = λ i t e. let x = F.left_from k ready earlier m row inv is i t e in F.none_below k ready earlier m row inv is i t x.0 x.1 t.cell.serial (omega arith);
      flushed_from = F.flushed_from k ready earlier m row inv is;
      listed = F.row_listed k ready earlier m row inv is;
      ascends = F.row_ascends k ready earlier m row inv is;
      names_pc = R.names_pc k ready earlier m row inv is;
      stop_is = is.stop;
      retires = retires;
    } where
      retires : (t : Token) → left_by k m ≡ Some t → (c : Commit) × (commit_of t ≡ Some c) × (c.word ≡ t.cell.word) × (retired_of (Some t) ≡ Some (t.cell.serial, shown (asked k.design t.cell.word) c))
      retires t e = elim (R.goes_out k ready earlier m row inv is) [
        | inl n ↦ cc (n.0, e)
        | inr y ↦
            let same = same_token t y.0.token (sym e ∙ y.0.is_left) in (
              y.0.commit,
              ap commit_of same ∙ y.0.comes_to,
              y.0.word ∙ ap (λ (u : Token). u.cell.word) (sym same),
              ap retired_of (sym e) ∙ sym is.retired ∙ y.0.is_retired ∙ ap (λ (u : Token). Some (u.cell.serial, shown (asked k.design u.cell.word) y.0.commit)) (sym same),
            )
      ] where
        same_token : (t u : Token) → ◌≡◌ {A = Option Token} (Some t) (Some u) → t ≡ u
        same_token t u e = cc
