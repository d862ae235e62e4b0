-- The first respect in which a row is not right, and a row that is right in each.
use Rattle.std.proofs.Common.{◌≡◌, sym, subst, ℕ, ◌<◌, List, ◌∷◌, Option, Some, None, is_some, true, false, arith, Ok}
use Rattle.rv_trace.specs.declared.row.Row.{Row}
use Rattle.rv_trace.specs.Trace.{newest}
use Rattle.rv_lawful.specs.Settings.{Setting}
use Rattle.rv_lawful.specs.LawfulTrace.{IsInForm, LawfulRow, WritesUnit}
use Rattle.rv_rows.specs.Facts.{IsPlain, AreGoingOn}
use Rattle.rv_shown.specs.Shown.{Shown}
use Rattle.rv_rows.specs.Kinds.{Kind, of_moves, of_hold, of_fetch, of_successor, of_unit, of_stop, of_commit, of_write, MovesRightly, IsRight, IsAllRight, RowKinds}
use Rattle.rv_rows.specs.Laws.{AreEmptyUnits, KindsLaw}
use Rattle.rv_rows.specs.Made.{row_of}
use Rattle.rv_rows.specs.Recorded.{IsRecorded}
use Rattle.rv_watch.specs.Faults.{number_of}
use Rattle.rv_audit.specs.declared.judging.Fault.{Fault}
use Rattle.rv_audit.specs.declared.judging.Fault.TheVariants as fault
use Rattle.rv_audit.specs.Judged.{kind_of, IsFirstWrong, TellsRow, TellsBehind, TellsLines, Judges}
use Rattle.rv_watch.specs.declared.against.Against.{Against}
use Rattle.rv_watch.specs.declared.watch.Watch.{Watch}
use Rattle.rv_watch.specs.Watched.{setting_of, IsWatched}

module _ (k : Setting) (earlier : List Row) (s : Shown) where
  abbrev row : Row
  row = row_of k earlier s

  -- what is right in each respect before the one with this number
  right_before : (n : ℕ)
      → (0 < n → IsRight k earlier s of_moves) → (1 < n → IsRight k earlier s of_hold) → (2 < n → IsRight k earlier s of_fetch) → (3 < n → IsRight k earlier s of_successor)
      → (4 < n → IsRight k earlier s of_unit) → (5 < n → IsRight k earlier s of_stop) → (6 < n → IsRight k earlier s of_commit) → (7 < n → IsRight k earlier s of_write)
      → (other : Kind) → number_of other < n → IsRight k earlier s other
  right_before n a b c d e f g h of_moves lt = a lt
  right_before n a b c d e f g h of_hold lt = b lt
  right_before n a b c d e f g h of_fetch lt = c lt
  right_before n a b c d e f g h of_successor lt = d lt
  right_before n a b c d e f g h of_unit lt = e lt
  right_before n a b c d e f g h of_stop lt = f lt
  right_before n a b c d e f g h of_commit lt = g lt
  right_before n a b c d e f g h of_write lt = h lt

  pub moves_wrong : (MovesRightly k earlier row → ⊥) → IsFirstWrong k earlier s of_moves
  moves_wrong wrong = record {
    so_far =
        right_before 0 (λ l. absurd (omega (arith, l))) (λ l. absurd (omega (arith, l))) (λ l. absurd (omega (arith, l))) (λ l. absurd (omega (arith, l)))
        (λ l. absurd (omega (arith, l))) (λ l. absurd (omega (arith, l))) (λ l. absurd (omega (arith, l))) (λ l. absurd (omega (arith, l)));
    wrong = wrong;
  }

  module _ (moves : IsRight k earlier s of_moves) where
    hold_wrong : (IsRight k earlier s of_hold → ⊥) → IsFirstWrong k earlier s of_hold
    hold_wrong wrong = record {
      so_far =
          right_before 1 (λ l. moves) (λ l. absurd (omega (arith, l))) (λ l. absurd (omega (arith, l))) (λ l. absurd (omega (arith, l)))
          (λ l. absurd (omega (arith, l))) (λ l. absurd (omega (arith, l))) (λ l. absurd (omega (arith, l))) (λ l. absurd (omega (arith, l)));
      wrong = wrong;
    }

    module _ (holds : IsRight k earlier s of_hold) where
      fetch_wrong : (IsRight k earlier s of_fetch → ⊥) → IsFirstWrong k earlier s of_fetch
      fetch_wrong wrong = record {
        so_far =
            right_before 2 (λ l. moves) (λ l. holds) (λ l. absurd (omega (arith, l))) (λ l. absurd (omega (arith, l)))
            (λ l. absurd (omega (arith, l))) (λ l. absurd (omega (arith, l))) (λ l. absurd (omega (arith, l))) (λ l. absurd (omega (arith, l)));
        wrong = wrong;
      }

      module _ (fetches : IsRight k earlier s of_fetch) where
        successor_wrong : (IsRight k earlier s of_successor → ⊥) → IsFirstWrong k earlier s of_successor
        successor_wrong wrong = record {
          so_far =
              right_before 3 (λ l. moves) (λ l. holds) (λ l. fetches) (λ l. absurd (omega (arith, l)))
              (λ l. absurd (omega (arith, l))) (λ l. absurd (omega (arith, l))) (λ l. absurd (omega (arith, l))) (λ l. absurd (omega (arith, l)));
          wrong = wrong;
        }

        module _ (succeeds : IsRight k earlier s of_successor) where
          unit_wrong : (IsRight k earlier s of_unit → ⊥) → IsFirstWrong k earlier s of_unit
          unit_wrong wrong = record {
            so_far =
                right_before 4 (λ l. moves) (λ l. holds) (λ l. fetches) (λ l. succeeds)
                (λ l. absurd (omega (arith, l))) (λ l. absurd (omega (arith, l))) (λ l. absurd (omega (arith, l))) (λ l. absurd (omega (arith, l)));
            wrong = wrong;
          }

          module _ (units : IsRight k earlier s of_unit) where
            stop_wrong : (IsRight k earlier s of_stop → ⊥) → IsFirstWrong k earlier s of_stop
            stop_wrong wrong = record {
              so_far =
                  right_before 5 (λ l. moves) (λ l. holds) (λ l. fetches) (λ l. succeeds)
                  (λ l. units) (λ l. absurd (omega (arith, l))) (λ l. absurd (omega (arith, l))) (λ l. absurd (omega (arith, l)));
              wrong = wrong;
            }

            module _ (stops : IsRight k earlier s of_stop) where
              commit_wrong : (IsRight k earlier s of_commit → ⊥) → IsFirstWrong k earlier s of_commit
              commit_wrong wrong = record {
                so_far =
                    right_before 6 (λ l. moves) (λ l. holds) (λ l. fetches) (λ l. succeeds)
                    (λ l. units) (λ l. stops) (λ l. absurd (omega (arith, l))) (λ l. absurd (omega (arith, l)));
                wrong = wrong;
              }

              write_wrong : IsRight k earlier s of_commit → (IsRight k earlier s of_write → ⊥) → IsFirstWrong k earlier s of_write
              write_wrong retires wrong = record {
                so_far = right_before 7 (λ l. moves) (λ l. holds) (λ l. fetches) (λ l. succeeds) (λ l. units) (λ l. stops) (λ l. retires) (λ l. absurd (omega (arith, l)));
                wrong = wrong;
              }

              each_right : IsRight k earlier s of_commit → IsRight k earlier s of_write → (other : Kind) → IsRight k earlier s other
              each_right retires writes of_moves = moves
              each_right retires writes of_hold = holds
              each_right retires writes of_fetch = fetches
              each_right retires writes of_successor = succeeds
              each_right retires writes of_unit = units
              each_right retires writes of_stop = stops
              each_right retires writes of_commit = retires
              each_right retires writes of_write = writes

  -- ---- behind a stop
  pub first_behind : MovesRightly k earlier row → ((newest earlier).stop ≡ None → ⊥) → (f : Fault) → TellsBehind k earlier row f → IsFirstWrong k earlier s (kind_of f)
  first_behind moves stopped fault.Moves t = absurd t
  first_behind moves stopped fault.Hold t = hold_wrong moves t
  first_behind moves stopped fault.Fetch t = fetch_wrong moves t.0 t.1
  first_behind moves stopped fault.Successor t = successor_wrong moves t.0 t.1 t.2
  first_behind moves stopped fault.Unit t = unit_wrong moves t.0 t.1 t.2 t.3
  first_behind moves stopped fault.Stop t = stop_wrong moves t.0 t.1 t.2 t.3 (λ stops. stopped stops.going)
  first_behind moves stopped fault.Commit t = absurd t
  first_behind moves stopped fault.Write t = absurd t

  -- ---- behind rows that go on
  module _ (moves : MovesRightly k earlier row) (going : (newest earlier).stop ≡ None) where
    pub first_row : (f : Fault) → TellsRow k earlier row (Some f) → IsFirstWrong k earlier s (kind_of f)
    first_row fault.Moves t = absurd t
    first_row fault.Hold t = hold_wrong moves t
    first_row fault.Fetch t = fetch_wrong moves t.0 t.1
    first_row fault.Successor t = successor_wrong moves t.0 t.1 t.2
    first_row fault.Unit t = unit_wrong moves t.0 t.1 t.2 t.3
    first_row fault.Stop t = stop_wrong moves t.0 t.1 t.2 t.3 t.4
    first_row fault.Commit t = absurd t
    first_row fault.Write t = absurd t

    pub first_line : TellsRow k earlier row None → (f : Fault) → TellsLines k earlier s (Some f) → IsFirstWrong k earlier s (kind_of f)
    first_line r fault.Moves t = absurd t
    first_line r fault.Hold t = absurd t
    first_line r fault.Fetch t = absurd t
    first_line r fault.Successor t = absurd t
    first_line r fault.Unit t = absurd t
    first_line r fault.Stop t = absurd t
    first_line r fault.Commit t = commit_wrong moves r.0 r.1 r.2 r.3 r.4 t
    first_line r fault.Write t = write_wrong moves r.0 r.1 r.2 r.3 r.4 t.0 t.1

    pub all_right : TellsRow k earlier row None → TellsLines k earlier s None → IsAllRight k earlier s
    all_right r t = each_right moves r.0 r.1 r.2 r.3 r.4 t.0 t.1

    pub row_kinds : TellsRow k earlier row None → RowKinds k earlier row
    row_kinds r = record { moves = moves; holds = r.0; fetches = r.1; succeeds = r.2; units = r.3; stops = r.4 }

    pub recorded : TellsLines k earlier s None → IsRecorded k earlier row
    recorded t = record { retired = t.0.record_is; written = t.1.write_is }

-- ---- the same of a row that is the one that is made
none_told : (k : Setting) (earlier : List Row) (row : Row) (o : Option Fault) → is_some o ≡ false → TellsRow k earlier row o → TellsRow k earlier row None
none_told k earlier row None e t = t
none_told k earlier row (Some f) e t = absurd cc

no_line : (k : Setting) (earlier : List Row) (s : Shown) (o : Option Fault) → is_some o ≡ false → TellsLines k earlier s o → TellsLines k earlier s None
no_line k earlier s None e t = t
no_line k earlier s (Some f) e t = absurd cc

module _ (a : Against) (earlier : List Row) (s : Shown) (row : Row) (is : row ≡ row_of (setting_of a) earlier s) (moves : MovesRightly (setting_of a) earlier row) where
  abbrev at : Setting
  at = setting_of a

  pub moved : MovesRightly at earlier (row_of at earlier s)
  moved = subst (λ r. MovesRightly at earlier r) is moves

  pub judged_behind : (w : Watch) → ((newest earlier).stop ≡ None → ⊥) → (f : Fault) → TellsBehind at earlier row f → Judges a earlier s w (Ok (Some f))
  judged_behind w stopped f t = first_behind at earlier s moved stopped f (subst (λ r. TellsBehind at earlier r f) is t)

  module _ (going : (newest earlier).stop ≡ None) where
    -- a row with a fault
    pub judged_row : (w : Watch) (o : Option Fault) → is_some o ≡ true → TellsRow at earlier row o → Judges a earlier s w (Ok o)
    judged_row w None e t = absurd cc
    judged_row w (Some f) e t = first_row at earlier s moved going f (subst (λ r. TellsRow at earlier r (Some f)) is t)

    -- a row without
    module _ (told : Option Fault) (none : is_some told ≡ false) (tells : TellsRow at earlier row told) where
      row_right : TellsRow at earlier (row_of at earlier s) None
      row_right = subst (λ r. TellsRow at earlier r None) is (none_told at earlier row told none tells)

      pub units_right : WritesUnit at earlier row
      units_right = (none_told at earlier row told none tells).3

      -- whose lines have one
      pub judged_line : (w : Watch) (o : Option Fault) → is_some o ≡ true → TellsLines at earlier s o → Judges a earlier s w (Ok o)
      judged_line w None e t = absurd cc
      judged_line w (Some f) e t = first_line at earlier s moved going row_right f t

      -- whose lines have none
      pub lawful_row : KindsLaw → IsPlain at → AreEmptyUnits at.units → AreGoingOn at earlier → IsInForm at row → row.taken ≡ None → LawfulRow at earlier row
      lawful_row law plain empty on form taken =
          law.lawful at earlier row plain empty on form taken (subst (λ r. RowKinds at earlier r) (sym is) (row_kinds at earlier s moved going row_right))

      module _ (line : Option Fault) (no_fault : is_some line ≡ false) (lines : TellsLines at earlier s line) where
        pub recorded_row : IsRecorded at earlier row
        recorded_row = subst (λ r. IsRecorded at earlier r) (sym is) (recorded at earlier s moved going (no_line at earlier s line no_fault lines))

        pub judged_right : (w : Watch) → IsWatched a (row ∷ earlier) w → Judges a earlier s w (Ok None)
        judged_right w watched =
            (all_right at earlier s moved going row_right (no_line at earlier s line no_fault lines), subst (λ r. IsWatched a (r ∷ earlier) w) is watched)
