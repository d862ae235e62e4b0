-- The laws of rows, put together.
use Rattle.std.proofs.Common.{◌≡◌, ℕ, suc, ◌<◌, List, arith}
use Rattle.rv_trace.specs.declared.row.Row.{Row}
use Rattle.rv_lawful.specs.Settings.{Setting}
use Rattle.rv_lawful.specs.LawfulTrace.{Moves}
use Rattle.rv_rows.specs.Facts.{IsPlain, AreGoingOn, MovesAbove, AboveFacts, FirstFacts, RowFacts}
use Rattle.rv_rows.proofs.Ordered.{one_word}
use Rattle.rv_rows.proofs.Knowing.{next_facts}
use Rattle.rv_rows.proofs.Standing.{above_before, above_in_place, above_fetched, above_ordered, above_older, above_word, first_in_place, first_fetched, first_ordered, first_older, first_word, first_new}
use Rattle.rv_rows.proofs.Tails.{untailed}
use Rattle.rv_rows.proofs.Addressed.{above_address}

above_facts : (k : Setting) (earlier : List Row) (row : Row) → IsPlain k → AreGoingOn k earlier → MovesAbove k earlier row → AboveFacts k earlier row
above_facts k earlier row plain going moves =
    record {
      in_place = above_in_place k earlier row plain going.lawful moves;
      fetched = above_fetched k earlier row plain going.lawful moves;
      ordered = above_ordered k earlier row plain going.lawful moves;
      older = above_older k earlier row plain going.lawful moves;
      address = above_address k earlier row plain going.lawful going.going moves;
      untailed = λ stage c last e free. untailed k earlier going.lawful stage c last (above_before k earlier row plain going.lawful moves stage c (some_below stage last) e) free;
      one_word = above_word k earlier row plain going.lawful moves;
      same_word = λ j word other y z. one_word k earlier going.lawful j word other y z;
    } where
      some_below : (stage : ℕ) → suc stage ≡ k.shape.stages → 0 < stage
      some_below stage last = let a = plain.rd_pos in let b = plain.rd_ex in let c = plain.ex_mem in let d = plain.mem_last in omega (arith, last, a, b, c, d)

first_facts : (k : Setting) (earlier : List Row) (row : Row) → IsPlain k → AreGoingOn k earlier → Moves k earlier row → FirstFacts k earlier row
first_facts k earlier row plain going moves =
    record {
      in_place = first_in_place k earlier row plain going.lawful moves;
      fetched = first_fetched k earlier row plain going.lawful moves;
      ordered = first_ordered k earlier row plain going.lawful moves;
      older = first_older k earlier row plain going.lawful moves;
      one_word = first_word k earlier row plain going.lawful moves;
      new = first_new k earlier row plain going.lawful moves;
    }

pub row_facts : RowFacts
row_facts = record { next = next_facts; above = above_facts; first = first_facts }
