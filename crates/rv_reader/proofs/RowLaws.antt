-- The line of a row is read as it is printed.
use Rattle.std.proofs.Common.{◌≡◌, ℕ, suc, ◌≤◌, ◌==◌, inl, List, [], ◌∷◌, ◌++◌, length, refl, sym, ap, ◌∙◌, subst, arith, lit<, append_assoc, Option, Some, None, true, false}
use Rattle.std.specs.Prelude.{decimal, codes, if◌then◌else◌}
use Rattle.std.specs.List.{flat_map}
use Rattle.std.proofs.lemmas.Bool.{eqb-true, eq-eqb}
use Rattle.rv_seq.specs.declared.commit.Stop.{Stop}
use Rattle.rv_seq.specs.declared.commit.Stop.TheVariants.{Ecall, Ebreak, Illegal, Fetch, Misaligned, DataRange, Target as target_stop}
use Rattle.rv_trace.specs.TraceText.{mark_text, redirect_text, row_stop_text}
use Rattle.rv_shown.specs.declared.shown.ShownCell.{ShownCell}
use Rattle.rv_shown.specs.Shown.{Shown, cell_text, flushed_text, shown_line}
use Rattle.rv_reader.specs.Words.{Free, and_then, until, from, behind_in, number_in}
use Rattle.rv_reader.specs.Rows.{mark_in, cells_from, flushed_from, redirected, stop_in, Marks, marks, marks_in, bare, row_in}
use Rattle.rv_reader.specs.Forms.{IsWord, IsMark, Ascend, AreCells, IsRowLine}
use Rattle.rv_reader.proofs.Readings.{BeginsWith, taken, some_one, passed, until_from, number_back, number_sound}
use Rattle.rv_reader.proofs.Frees.{IsOut, free_word, free_hex, free_join, free_by_test, until_begin, from_begin}
use Rattle.rv_reader.proofs.Cells.{cell_is, word_feeds, cells_back, cells_sound}
use Rattle.rv_reader.proofs.Marking.{is_other, mark_back, mark_sound, flushed_back, flushed_sound, redirect_back, redirect_sound, stop_back, stop_sound}

-- ---- the texts of marks, from each of them on
abbrev from_redirect : Shown → List ℕ
from_redirect s = redirect_text s.redirect ++ row_stop_text s.stop

abbrev from_flushed : Shown → List ℕ
from_flushed s = flat_map flushed_text s.flushed ++ from_redirect s

abbrev from_written : Shown → List ℕ
from_written s = mark_text (codes " w") s.written ++ from_flushed s

abbrev pub marks_text : Shown → List ℕ
marks_text s = mark_text (codes " r") s.retired ++ from_written s

-- the line without its line feed
abbrev pub body : ℕ → Shown → List ℕ
body number s = decimal number ++ (flat_map cell_text s.cells ++ marks_text s)

pub line_is : (number : ℕ) (s : Shown) → shown_line number s ≡ body number s ++ 10 ∷ []
line_is number s = ap (λ t. t ++ 10 ∷ []) (
    append_assoc (a ++ b ++ c ++ d ++ e) f g ∙ append_assoc (a ++ b ++ c ++ d) e (f ++ g) ∙ append_assoc (a ++ b ++ c) d (e ++ (f ++ g)) ∙ append_assoc (a ++ b) c (d ++ (e ++ (f ++ g))) ∙ append_assoc a b (c ++ (d ++ (e ++ (f ++ g))))
    ) where
      a : List ℕ
      a = decimal number

      b : List ℕ
      b = flat_map cell_text s.cells

      c : List ℕ
      c = mark_text (codes " r") s.retired

      d : List ℕ
      d = mark_text (codes " w") s.written

      e : List ℕ
      e = flat_map flushed_text s.flushed

      f : List ℕ
      f = redirect_text s.redirect

      g : List ℕ
      g = row_stop_text s.stop

-- ---- what they begin with
stop_begins : (stop : Option Stop) → BeginsWith 32 (row_stop_text stop)
stop_begins None = tt
stop_begins (Some stop) = refl

redirect_begins : (p : Option ℕ) (rest : List ℕ) → BeginsWith 32 rest → BeginsWith 32 (redirect_text p ++ rest)
redirect_begins None rest b = b
redirect_begins (Some a) rest b = refl

flushed_begins : (serials rest : List ℕ) → BeginsWith 32 rest → BeginsWith 32 (flat_map flushed_text serials ++ rest)
flushed_begins [] rest b = b
flushed_begins (s ∷ serials) rest b = refl

mark_begins : (letter : ℕ) (m : Option ℕ) (rest : List ℕ) → BeginsWith 32 rest → BeginsWith 32 (mark_text (32 ∷ letter ∷ []) m ++ rest)
mark_begins letter None rest b = b
mark_begins letter (Some s) rest b = refl

stop_other : (letter : ℕ) (stop : Option Stop) → is_other letter (32 ∷ 115 ∷ []) ≡ true → is_other letter (row_stop_text stop) ≡ true
stop_other letter None e = refl
stop_other letter (Some stop) e = e

redirect_other : (letter : ℕ) (p : Option ℕ) (rest : List ℕ) → is_other letter (32 ∷ 112 ∷ []) ≡ true → is_other letter rest ≡ true → is_other letter (redirect_text p ++ rest) ≡ true
redirect_other letter None rest e f = f
redirect_other letter (Some a) rest e f = e

flushed_other : (letter : ℕ) (serials rest : List ℕ) → is_other letter (32 ∷ 102 ∷ []) ≡ true → is_other letter rest ≡ true → is_other letter (flat_map flushed_text serials ++ rest) ≡ true
flushed_other letter [] rest e f = f
flushed_other letter (s ∷ serials) rest e f = e

written_other : (letter : ℕ) (m : Option ℕ) (rest : List ℕ) → is_other letter (32 ∷ 119 ∷ []) ≡ true → is_other letter rest ≡ true → is_other letter (mark_text (codes " w") m ++ rest) ≡ true
written_other letter None rest e f = f
written_other letter (Some s) rest e f = e

-- ---- marks
abbrev marks_of : Shown → Marks
marks_of s = marks s.retired s.written s.flushed s.redirect s.stop

pub marks_back : (count stages : ℕ) (s : Shown) → IsRowLine count stages s → marks_in stages (marks_text s) ≡ Some (marks_of s)
unfolding marks_in behind_in
marks_back count stages s h =
    let stop = stop_begins s.stop in
    let p = redirect_begins s.redirect (row_stop_text s.stop) stop in
    let f = flushed_begins s.flushed (from_redirect s) p in
    let w = mark_begins 119 s.written (from_flushed s) f in
    let no_p = stop_other 112 s.stop refl in
    let no_f = redirect_other 102 s.redirect (row_stop_text s.stop) refl (stop_other 102 s.stop refl) in
    let no_w = flushed_other 119 s.flushed (from_redirect s) refl (redirect_other 119 s.redirect (row_stop_text s.stop) refl (stop_other 119 s.stop refl)) in
    let no_r = written_other 114 s.written (from_flushed s) refl (flushed_other 114 s.flushed (from_redirect s) refl (redirect_other 114 s.redirect (row_stop_text s.stop) refl (stop_other 114 s.stop refl))) in
    ap (λ o. and_then o (λ r. and_then (mark_in (codes " w") r.1) (λ w. and_then (flushed_from stages 0 [] w.1) (λ f. and_then (redirected (behind_in (codes " p") f.1) f.1) (λ p. and_then (stop_in p.1) (λ stop. Some (marks r.0 w.0 f.0 p.0 stop)))))))
    (mark_back 114 s.retired (from_written s) h.retired w no_r (λ t. refl))
    ∙ ap (λ o. and_then o (λ w. and_then (flushed_from stages 0 [] w.1) (λ f. and_then (redirected (behind_in (codes " p") f.1) f.1) (λ p. and_then (stop_in p.1) (λ stop. Some (marks s.retired w.0 f.0 p.0 stop))))))
    (mark_back 119 s.written (from_flushed s) h.written f no_w (λ t. refl))
    ∙ ap (λ o. and_then o (λ f. and_then (redirected (behind_in (codes " p") f.1) f.1) (λ p. and_then (stop_in p.1) (λ stop. Some (marks s.retired s.written f.0 p.0 stop)))))
    (flushed_back stages 0 s.flushed [] (from_redirect s) h.few h.flushed p no_f)
    ∙ ap (λ o. and_then o (λ p. and_then (stop_in p.1) (λ stop. Some (marks s.retired s.written s.flushed p.0 stop))))
    (redirect_back s.redirect (row_stop_text s.stop) h.redirect stop no_p)
    ∙ ap (λ o. and_then o (λ stop. Some (marks s.retired s.written s.flushed s.redirect stop))) (stop_back s.stop)

-- ---- rows
pub row_back : (count stages number : ℕ) (s : Shown) → IsRowLine count stages s → IsWord number → row_in count stages number (body number s) ≡ Some (bare s.cells (marks_of s))
unfolding row_in
row_back count stages number s h w =
    let m = mark_begins 114 s.retired (from_written s) (mark_begins 119 s.written (from_flushed s) (flushed_begins s.flushed (from_redirect s) (redirect_begins s.redirect (row_stop_text s.stop) (stop_begins s.stop)))) in
    let begins = cells_begin s.cells (marks_text s) m in
    let rest = flat_map cell_text s.cells ++ marks_text s in
    let free : Free 32 (decimal number) = free_word 32 number (inl (omega arith)) w in
    ap (λ t. and_then (number_in 4294967295 t) (λ n. if n == number then (and_then (cells_from count stages [] (from 32 (body number s))) (λ c. and_then (marks_in stages c.1) (λ m. Some (bare c.0 m)))) else None)) (until_begin 32 (decimal number) rest free begins)
    ∙ ap (λ o. and_then o (λ n. if n == number then (and_then (cells_from count stages [] (from 32 (body number s))) (λ c. and_then (marks_in stages c.1) (λ m. Some (bare c.0 m)))) else None)) (number_back 4294967295 number w (lit< tt))
    ∙ ap (λ b. if b then (and_then (cells_from count stages [] (from 32 (body number s))) (λ c. and_then (marks_in stages c.1) (λ m. Some (bare c.0 m)))) else None) (eq-eqb number number refl)
    ∙ ap (λ t. and_then (cells_from count stages [] t) (λ c. and_then (marks_in stages c.1) (λ m. Some (bare c.0 m)))) (from_begin 32 (decimal number) rest free begins)
    ∙ ap (λ n. and_then (cells_from count n [] rest) (λ c. and_then (marks_in stages c.1) (λ m. Some (bare c.0 m)))) (sym h.stages_are)
    ∙ ap (λ o. and_then o (λ c. and_then (marks_in stages c.1) (λ m. Some (bare c.0 m)))) (cells_back count s.cells [] (marks_text s) h.cells m)
    ∙ ap (λ o. and_then o (λ m. Some (bare s.cells m))) (marks_back count stages s h)
  where
    cells_begin : (cells : List (Option ShownCell)) (rest : List ℕ) → BeginsWith 32 rest → BeginsWith 32 (flat_map cell_text cells ++ rest)
    cells_begin [] rest b = b
    cells_begin (None ∷ cells) rest b = refl
    cells_begin (Some c ∷ cells) rest b = refl

-- what was read of a line: a row in form, whose line it is
pub record IsRowRead (count stages number : ℕ) (line : List ℕ) (s : Shown) : Type 0 where
  pub good : IsRowLine count stages s
  pub is : body number s ≡ line
  pub number_fits : IsWord number

-- the marks of a text
abbrev text_of_marks : Option ℕ → Option ℕ → List ℕ → Option ℕ → Option Stop → List ℕ
text_of_marks r w f p stop = mark_text (codes " r") r ++ (mark_text (codes " w") w ++ (flat_map flushed_text f ++ (redirect_text p ++ row_stop_text stop)))

record IsMarksRead (stages : ℕ) (text : List ℕ) (m : Marks) : Type 0 where
  pub retired : IsMark m.retired
  pub written : IsMark m.written
  pub few : length m.flushed ≤ stages
  pub flushed : Ascend 0 m.flushed
  pub redirect : IsMark m.redirect
  pub is : text_of_marks m.retired m.written m.flushed m.redirect m.stop ≡ text

module _ (stages : ℕ) (text : List ℕ) where
  marks_stop : (r w p : Option ℕ) (f : List ℕ) (a b c d : List ℕ) (m : Marks) → IsMark r × (mark_text (codes " r") r ++ a ≡ text) → IsMark w × (mark_text (codes " w") w ++ b ≡ a) → length f ≤ stages → Ascend 0 f → flat_map flushed_text f ++ c ≡ b
      → IsMark p × (redirect_text p ++ d ≡ c) → and_then (stop_in d) (λ stop. Some (marks r w f p stop)) ≡ Some m → IsMarksRead stages text m
  marks_stop r w p f a b c d m rs ws few good fs ps e =
      let t = taken (stop_in d) (λ stop. Some (marks r w f p stop)) m e in
      let ss = stop_sound d t.0 t.1 in
      subst (IsMarksRead stages text) (some_one (marks r w f p t.0) m t.2) (record {
        retired = rs.0;
        written = ws.0;
        few = few;
        flushed = good;
        redirect = ps.0;
        is = ap (λ x. mark_text (codes " r") r ++ x) (ap (λ x. mark_text (codes " w") w ++ x) (ap (λ x. flat_map flushed_text f ++ x) (ap (λ x. redirect_text p ++ x) ss ∙ ps.1) ∙ fs) ∙ ws.1) ∙ rs.1;
      })

  marks_redirect : (r w : Option ℕ) (f : List ℕ) (a b c : List ℕ) (m : Marks) → IsMark r × (mark_text (codes " r") r ++ a ≡ text) → IsMark w × (mark_text (codes " w") w ++ b ≡ a) → length f ≤ stages → Ascend 0 f → flat_map flushed_text f ++ c ≡ b
      → and_then (redirected (behind_in (codes " p") c) c) (λ p. and_then (stop_in p.1) (λ stop. Some (marks r w f p.0 stop))) ≡ Some m → IsMarksRead stages text m
  marks_redirect r w f a b c m rs ws few good fs e =
      let t = taken (redirected (behind_in (codes " p") c) c) (λ p. and_then (stop_in p.1) (λ stop. Some (marks r w f p.0 stop))) m e in
      marks_stop r w t.0.0 f a b c t.0.1 m rs ws few good fs (redirect_sound c t.0 t.1) t.2

  marks_flushed : (r w : Option ℕ) (a b : List ℕ) (m : Marks) → IsMark r × (mark_text (codes " r") r ++ a ≡ text) → IsMark w × (mark_text (codes " w") w ++ b ≡ a)
      → and_then (flushed_from stages 0 [] b) (λ f. and_then (redirected (behind_in (codes " p") f.1) f.1) (λ p. and_then (stop_in p.1) (λ stop. Some (marks r w f.0 p.0 stop)))) ≡ Some m → IsMarksRead stages text m
  marks_flushed r w a b m rs ws e =
      let t = taken (flushed_from stages 0 [] b) (λ f. and_then (redirected (behind_in (codes " p") f.1) f.1) (λ p. and_then (stop_in p.1) (λ stop. Some (marks r w f.0 p.0 stop)))) m e in
      let fs = flushed_sound stages 0 [] b t.0 t.1 in
      marks_redirect r w t.0.0 a b t.0.1 m rs ws (subst (λ l. length l ≤ stages) (sym fs.are) fs.few) (subst (Ascend 0) (sym fs.are) fs.good) (ap (λ l. flat_map flushed_text l ++ t.0.1) fs.are ∙ fs.text_is) t.2

  marks_written : (r : Option ℕ) (a : List ℕ) (m : Marks) → IsMark r × (mark_text (codes " r") r ++ a ≡ text)
      → and_then (mark_in (codes " w") a) (λ w. and_then (flushed_from stages 0 [] w.1) (λ f. and_then (redirected (behind_in (codes " p") f.1) f.1) (λ p. and_then (stop_in p.1) (λ stop. Some (marks r w.0 f.0 p.0 stop))))) ≡ Some m → IsMarksRead stages text m
  marks_written r a m rs e =
      let t = taken (mark_in (codes " w") a) (λ w. and_then (flushed_from stages 0 [] w.1) (λ f. and_then (redirected (behind_in (codes " p") f.1) f.1) (λ p. and_then (stop_in p.1) (λ stop. Some (marks r w.0 f.0 p.0 stop))))) m e in
      marks_flushed r t.0.0 a t.0.1 m rs (mark_sound (codes " w") a t.0 t.1) t.2

marks_sound : (stages : ℕ) (text : List ℕ) (m : Marks) → marks_in stages text ≡ Some m → IsMarksRead stages text m
unfolding marks_in
marks_sound stages text m e =
    let t = taken (mark_in (codes " r") text) (λ r. and_then (mark_in (codes " w") r.1) (λ w. and_then (flushed_from stages 0 [] w.1) (λ f. and_then (redirected (behind_in (codes " p") f.1) f.1) (λ p. and_then (stop_in p.1) (λ stop. Some (marks r.0 w.0 f.0 p.0 stop)))))) m e in
    marks_written stages text t.0.0 t.0.1 m (mark_sound (codes " r") text t.0 t.1) t.2

module _ (count stages number : ℕ) (line : List ℕ) where
  row_marks : (cells : List (Option ShownCell)) (a : List ℕ) (s : Shown) → IsWord number → decimal number ≡ until 32 line → length cells ≡ stages → AreCells count cells → flat_map cell_text cells ++ a ≡ from 32 line
      → and_then (marks_in stages a) (λ m. Some (bare cells m)) ≡ Some s → IsRowRead count stages number line s
  row_marks cells a s w n l good is e =
      let t = taken (marks_in stages a) (λ m. Some (bare cells m)) s e in
      let m = marks_sound stages a t.0 t.1 in
      subst (IsRowRead count stages number line) (some_one (bare cells t.0) s t.2) (record {
        good = record { stages_are = l; cells = good; retired = m.retired; written = m.written; few = m.few; flushed = m.flushed; redirect = m.redirect };
        is = ap (λ x. decimal number ++ (flat_map cell_text cells ++ x)) m.is ∙ ap (λ x. decimal number ++ x) is ∙ ap (λ x. x ++ from 32 line) n ∙ until_from 32 line;
        number_fits = w;
      })

  row_cells : (s : Shown) → IsWord number → decimal number ≡ until 32 line → and_then (cells_from count stages [] (from 32 line)) (λ c. and_then (marks_in stages c.1) (λ m. Some (bare c.0 m))) ≡ Some s → IsRowRead count stages number line s
  row_cells s w n e =
      let t = taken (cells_from count stages [] (from 32 line)) (λ c. and_then (marks_in stages c.1) (λ m. Some (bare c.0 m))) s e in
      let c = cells_sound count stages [] (from 32 line) t.0 t.1 in
      row_marks t.0.0 t.0.1 s w n (ap length c.are ∙ c.many) (subst (AreCells count) (sym c.are) c.good) (ap (λ l. flat_map cell_text l ++ t.0.1) c.are ∙ c.text_is) t.2

pub row_sound : (count stages number : ℕ) (line : List ℕ) (s : Shown) → row_in count stages number line ≡ Some s → IsRowRead count stages number line s
unfolding row_in
row_sound count stages number line s e =
    let n = taken (number_in 4294967295 (until 32 line)) (λ n. if n == number then (and_then (cells_from count stages [] (from 32 line)) (λ c. and_then (marks_in stages c.1) (λ m. Some (bare c.0 m)))) else None) s e in
    let told = number_sound 4294967295 (until 32 line) n.0 n.1 in
    let t = passed (n.0 == number) (and_then (cells_from count stages [] (from 32 line)) (λ c. and_then (marks_in stages c.1) (λ m. Some (bare c.0 m)))) s n.2 in
    let same = eqb-true n.0 number t.0 in
    row_cells count stages number line s (subst IsWord same told.0) (subst (λ k. decimal k ≡ until 32 line) same told.1) t.1

-- ---- no line feed in it
feed_out : IsOut 10
feed_out = inl (omega arith)

cells_feeds : (count : ℕ) (cells : List (Option ShownCell)) → AreCells count cells → Free 10 (flat_map cell_text cells)
cells_feeds count [] h = tt
cells_feeds count (c ∷ cells) h = free_join 10 (cell_text c) (flat_map cell_text cells) (subst (Free 10) (sym (cell_is c)) (refl, word_feeds count c h.0)) (cells_feeds count cells h.1)

mark_feeds : (letter : ℕ) (m : Option ℕ) → (letter == 10) ≡ false → IsMark m → Free 10 (mark_text (32 ∷ letter ∷ []) m)
mark_feeds letter None e h = tt
mark_feeds letter (Some s) e h = (refl, (e, free_word 10 s feed_out h))

flushed_feeds : (low : ℕ) (serials : List ℕ) → Ascend low serials → Free 10 (flat_map flushed_text serials)
flushed_feeds low [] h = tt
flushed_feeds low (s ∷ serials) h = free_join 10 (flushed_text s) (flat_map flushed_text serials) (refl, (refl, free_word 10 s feed_out h.0)) (flushed_feeds (suc s) serials h.2)

redirect_feeds : (p : Option ℕ) → Free 10 (redirect_text p)
redirect_feeds None = tt
redirect_feeds (Some a) = (refl, (refl, free_hex 10 8 a refl))

stop_feeds : (stop : Option Stop) → Free 10 (row_stop_text stop)
stop_feeds None = tt
stop_feeds (Some Ecall) = free_by_test 10 (row_stop_text (Some Ecall)) refl
stop_feeds (Some Ebreak) = free_by_test 10 (row_stop_text (Some Ebreak)) refl
stop_feeds (Some Illegal) = free_by_test 10 (row_stop_text (Some Illegal)) refl
stop_feeds (Some Fetch) = free_by_test 10 (row_stop_text (Some Fetch)) refl
stop_feeds (Some Misaligned) = free_by_test 10 (row_stop_text (Some Misaligned)) refl
stop_feeds (Some DataRange) = free_by_test 10 (row_stop_text (Some DataRange)) refl
stop_feeds (Some target_stop) = free_by_test 10 (row_stop_text (Some target_stop)) refl

pub body_feeds : (count stages number : ℕ) (s : Shown) → IsRowLine count stages s → IsWord number → Free 10 (body number s)
body_feeds count stages number s h w =
    free_join 10 (decimal number) (flat_map cell_text s.cells ++ marks_text s) (free_word 10 number feed_out w)
    (free_join 10 (flat_map cell_text s.cells) (marks_text s) (cells_feeds count s.cells h.cells)
    (free_join 10 (mark_text (codes " r") s.retired) (from_written s) (mark_feeds 114 s.retired refl h.retired)
    (free_join 10 (mark_text (codes " w") s.written) (from_flushed s) (mark_feeds 119 s.written refl h.written)
    (free_join 10 (flat_map flushed_text s.flushed) (from_redirect s) (flushed_feeds 0 s.flushed h.flushed)
    (free_join 10 (redirect_text s.redirect) (row_stop_text s.stop) (redirect_feeds s.redirect) (stop_feeds s.stop))))))

-- behind the number stands a space or nothing
pub rest_begins : (s : Shown) → BeginsWith 32 (flat_map cell_text s.cells ++ marks_text s)
rest_begins s = begin_cells s.cells (marks_text s) (mark_begins 114 s.retired (from_written s) (mark_begins 119 s.written (from_flushed s) (flushed_begins s.flushed (from_redirect s) (redirect_begins s.redirect (row_stop_text s.stop) (stop_begins s.stop))))) where
  begin_cells : (cells : List (Option ShownCell)) (rest : List ℕ) → BeginsWith 32 rest → BeginsWith 32 (flat_map cell_text cells ++ rest)
  begin_cells [] rest b = b
  begin_cells (None ∷ cells) rest b = refl
  begin_cells (Some c ∷ cells) rest b = refl
