-- The lines of a state, or the first bad one.
use Rattle.std.proofs.Common.{◌≡◌, ◌≢◌, ℕ, suc, ◌+◌, ◌<◌, ◌≤◌, inl, inr, List, [], ◌∷◌, ◌++◌, length, drop, refl, sym, ap, ◌∙◌, subst, arith, append_assoc, length-append, Bool, true, false}
use Rattle.std.specs.Prelude.{codes, Result, Ok, Err, IfErr}
use Rattle.std.proofs.lemmas.List.{append-nil, length-drop}
use Rattle.std.proofs.Math.ListN.{drop_of_length-le}
use Rattle.ix_lines.specs.Lines.{text_of}
use Rattle.rv_shown.specs.Shown.{Shown, shown_text, shown_texts}
use Rattle.rv_reader.specs.Words.{Free}
use Rattle.rv_reader.specs.Writes.{is_pc_line, group_of, is_in_group}
use Rattle.rv_reader.specs.Forms.{IsWord}
use Rattle.rv_reader.specs.Traces.{AreRows, AreLines, AreGrouped, IsState, IsTrace, IsBadLine, IsReadTo, IsLineAt, AreGroupsTo, AreGroupsFrom, IsBadGroup, IsRest, IsBadRest, last_group, feeds}
use Rattle.rv_reader.proofs.Lining.{same_line, fed_line}
use Rattle.rv_reader.proofs.Following.{row_apart, goes_on}
use Rattle.rv_reader.proofs.BadLines.{some_pc, pc_free, pc_good, feeds_join, feeds_free, lines_join, rows_lines}

-- ---- lines in their groups
text_push : (lines : List (List ℕ)) (own : List ℕ) → text_of (lines ++ own ∷ []) ≡ text_of lines ++ (own ++ 10 ∷ [])
text_push [] own = append-nil (own ++ 10 ∷ [])
text_push (l ∷ lines) own = ap (λ t. (l ++ 10 ∷ []) ++ t) (text_push lines own) ∙ sym (append_assoc (l ++ 10 ∷ []) (text_of lines) (own ++ 10 ∷ []))

module _ (widths : List ℕ) where
  grouped_push : (low : ℕ) (lines : List (List ℕ)) (own : List ℕ) → AreGrouped widths low lines → Free 10 own → last_group low lines ≤ group_of own → is_in_group widths (group_of own) own ≡ true → AreGrouped widths low (lines ++ own ∷ [])
  grouped_push low [] own g f l i = (f, l, i, tt)
  grouped_push low (x ∷ lines) own g f l i = (g.0, g.1, g.2, grouped_push (group_of x) lines own g.3 f l i)

  -- a line that goes on from lines in form
  grouped_front : (low : ℕ) (done all : List (List ℕ)) (own v : List ℕ) → AreGrouped widths low done → AreGrouped widths low all → text_of all ≡ text_of done ++ (own ++ 10 ∷ v) → Free 10 own → (last_group low done ≤ group_of own) × (is_in_group widths (group_of own) own ≡ true)
  grouped_front low [] [] own v g h e f = absurd (no_text own v e) where
    no_text : (own v : List ℕ) → [] ≡ own ++ 10 ∷ v → ⊥
    no_text [] v e = cc
    no_text (x ∷ own) v e = cc
  grouped_front low [] (a ∷ all) own v g h e f =
      let same = (same_line a own (text_of all) v h.0 f (sym (append_assoc a (10 ∷ []) (text_of all)) ∙ e)).0 in
      subst (λ l. (low ≤ group_of l) × (is_in_group widths (group_of l) l ≡ true)) same (h.1, h.2)
  grouped_front low (d ∷ done) [] own v g h e f = absurd (no_text d (text_of done ++ (own ++ 10 ∷ v)) (e ∙ append_assoc (d ++ 10 ∷ []) (text_of done) (own ++ 10 ∷ v) ∙ append_assoc d (10 ∷ []) (text_of done ++ (own ++ 10 ∷ v)))) where
    no_text : (own v : List ℕ) → [] ≡ own ++ 10 ∷ v → ⊥
    no_text [] v e = cc
    no_text (x ∷ own) v e = cc
  grouped_front low (d ∷ done) (a ∷ all) own v g h e f =
      let both = same_line a d (text_of all) (text_of done ++ (own ++ 10 ∷ v)) h.0 g.0 (sym (append_assoc a (10 ∷ []) (text_of all)) ∙ e ∙ append_assoc (d ++ 10 ∷ []) (text_of done) (own ++ 10 ∷ v) ∙ append_assoc d (10 ∷ []) (text_of done ++ (own ++ 10 ∷ v))) in
      grouped_front (group_of d) done all own v g.3 (subst (λ l. AreGrouped widths (group_of l) all) both.0 h.3) both.1 f

  -- what is left of lines is nothing, or has a line feed
  grouped_left : (low : ℕ) (done all : List (List ℕ)) (left : List ℕ) → AreGrouped widths low done → AreGrouped widths low all → text_of all ≡ text_of done ++ left → Free 10 left → left ≡ []
  grouped_left low [] [] left g h e f = sym e
  grouped_left low [] (a ∷ all) left g h e f = absurd (fed_line a (text_of all) (subst (Free 10) (sym e ∙ append_assoc a (10 ∷ []) (text_of all)) f))
  grouped_left low (d ∷ done) [] left g h e f = absurd (no_text d (text_of done ++ left) (e ∙ append_assoc (d ++ 10 ∷ []) (text_of done) left ∙ append_assoc d (10 ∷ []) (text_of done ++ left))) where
    no_text : (own v : List ℕ) → [] ≡ own ++ 10 ∷ v → ⊥
    no_text [] v e = cc
    no_text (x ∷ own) v e = cc
  grouped_left low (d ∷ done) (a ∷ all) left g h e f =
      let both = same_line a d (text_of all) (text_of done ++ left) h.0 g.0 (sym (append_assoc a (10 ∷ []) (text_of all)) ∙ e ∙ append_assoc (d ++ 10 ∷ []) (text_of done) left ∙ append_assoc d (10 ∷ []) (text_of done ++ left)) in
      grouped_left (group_of d) done all left g.3 (subst (λ l. AreGrouped widths (group_of l) all) both.0 h.3) both.1 f

  last_push : (low : ℕ) (lines : List (List ℕ)) (own : List ℕ) → last_group low (lines ++ own ∷ []) ≡ group_of own
  last_push low [] own = refl
  last_push low (x ∷ lines) own = last_push (group_of x) lines own

  grouped_lines : (low : ℕ) (lines : List (List ℕ)) → AreGrouped widths low lines → AreLines (text_of lines)
  grouped_lines low [] g = inl refl
  grouped_lines low (x ∷ lines) g = lines_join widths 0 (x ++ 10 ∷ []) (text_of lines) (inr (x, refl)) (grouped_lines (group_of x) lines g.3)

  grouped_feeds : (low : ℕ) (lines : List (List ℕ)) → AreGrouped widths low lines → feeds (text_of lines) ≡ length lines
  unfolding feeds
  grouped_feeds low [] g = refl
  grouped_feeds low (x ∷ lines) g = feeds_join (x ++ 10 ∷ []) (text_of lines) ∙ (let a = feeds_free x g.0 in let b = grouped_feeds (group_of x) lines g.3 in omega (arith, a, b))

  module _ (text : List ℕ) (start first : ℕ) where
    pub groups_start : AreGroupsTo widths text start first start first 1
    groups_start = record { done = []; grouped = tt; is = refl; last = refl; line_is = omega arith }

    pub groups_next : (at line low : ℕ) (own : List ℕ) → AreGroupsTo widths text start first at line low → IsLineAt text at own → low ≤ group_of own → is_in_group widths (group_of own) own ≡ true → AreGroupsTo widths text start first (at + length own + 1) (line + 1) (group_of own)
    groups_next at line low own r here l i = record {
      done = r.done ++ own ∷ [];
      grouped = grouped_push 1 r.done own r.grouped here.free (omega (arith, r.last, l)) i;
      is = r.is ∙ ap (λ t. text_of r.done ++ t) (here.is ∙ sym (append_assoc own (10 ∷ []) (drop (at + length own + 1) text))) ∙ sym (append_assoc (text_of r.done) (own ++ 10 ∷ []) (drop (at + length own + 1) text)) ∙ ap (λ t. t ++ drop (at + length own + 1) text) (sym (text_push r.done own));
      last = last_push 1 r.done own;
      line_is = omega (arith, r.line_is, length-append r.done (own ∷ []));
    }

    pub groups_end : (at line low : ℕ) → AreGroupsTo widths text start first at line low → length text ≤ at → AreGroupsFrom widths text start
    groups_end at line low r l = record { lines = r.done; grouped = r.grouped; is = r.is ∙ ap (λ t. text_of r.done ++ t) (drop_of_length-le text l) ∙ append-nil (text_of r.done) }

    left_some : (at : ℕ) → at < length text → drop at text ≢ []
    left_some at l = λ e. omega (arith, ap length e, length-drop at text, l)

    pub groups_none : (at line low : ℕ) → AreGroupsTo widths text start first at line low → at < length text → Free 10 (drop at text) → IsBadGroup widths text start first line
    groups_none at line low r l f = record { done = r.done; left = drop at text; grouped = r.grouped; is = r.is; number_is = r.line_is; some = left_some at l; next = λ own more g e a b. fed_line own more (subst (Free 10) e f) }

    pub groups_bad : (at line low : ℕ) (own : List ℕ) → AreGroupsTo widths text start first at line low → at < length text → IsLineAt text at own → (low ≤ group_of own → is_in_group widths (group_of own) own ≡ true → ⊥) → IsBadGroup widths text start first line
    groups_bad at line low own r l here n = record {
      done = r.done;
      left = drop at text;
      grouped = r.grouped;
      is = r.is;
      number_is = r.line_is;
      some = left_some at l;
      next = λ x more g e a b. refused x (sym (same_line x own more (drop (at + length own + 1) text) g here.free (sym e ∙ here.is)).0) a b;
    } where
      refused : (x : List ℕ) → own ≡ x → last_group 1 r.done ≤ group_of x → is_in_group widths (group_of x) x ≡ true → ⊥
      refused x e a b = n (omega (arith, r.last, ap group_of e, a)) (ap (λ y. is_in_group widths (group_of y) y) e ∙ b)

  -- ---- behind the line `state`
  module _ (text : List ℕ) (at line : ℕ) where
    rest_fed : (x : List ℕ) → IsRest widths x → Free 10 x → ⊥
    rest_fed x r f = fed_line r.pc (text_of r.lines) (subst (Free 10) (r.is ∙ append_assoc r.pc (10 ∷ []) (text_of r.lines)) f)

    some_rest : IsRest widths (some_pc ++ 10 ∷ [])
    some_rest = record { pc = some_pc; free = pc_free; pc_is = pc_good; lines = []; grouped = tt; is = sym (append-nil (some_pc ++ 10 ∷ [])) }

    number_0 : line ≡ line + feeds []
    unfolding feeds
    number_0 = omega arith

    pub rest_none : Free 10 (drop at text) → IsBadRest widths text at line line
    rest_none f = record { front = []; left = drop at text; is = refl; lines = inl refl; number_is = number_0; more = some_pc ++ 10 ∷ []; begins = some_rest; next = λ own more v g e r. fed_line own more (subst (Free 10) e f); end = λ g r. rest_fed (drop at text) r g }

    pub rest_bad : (own : List ℕ) → IsLineAt text at own → is_pc_line own ≡ false → IsBadRest widths text at line line
    rest_bad own here n = record {
      front = [];
      left = drop at text;
      is = refl;
      lines = inl refl;
      number_is = number_0;
      more = some_pc ++ 10 ∷ [];
      begins = some_rest;
      next = λ x more v g e r. refused x v (same_line x own more (drop (at + length own + 1) text) g here.free (sym e ∙ here.is)).0 g r;
      end = λ g r. rest_fed (drop at text) r g;
    } where
      both : (b : Bool) → b ≡ true → b ≡ false → ⊥
      both b e f = cc

      refused : (x v : List ℕ) → x ≡ own → Free 10 x → IsRest widths (x ++ 10 ∷ v) → ⊥
      refused x v e g r =
          let same = (same_line x r.pc v (text_of r.lines) g r.free (r.is ∙ append_assoc r.pc (10 ∷ []) (text_of r.lines))).0 in
          both (is_pc_line own) (ap is_pc_line (sym e ∙ same) ∙ r.pc_is) n

    module _ (pc : List ℕ) (here : IsLineAt text at pc) (good : is_pc_line pc ≡ true) where
      pub rest_read : AreGroupsFrom widths text (at + length pc + 1) → IsRest widths (drop at text)
      rest_read g = record { pc = pc; free = here.free; pc_is = good; lines = g.lines; grouped = g.grouped; is = here.is ∙ sym (append_assoc pc (10 ∷ []) (drop (at + length pc + 1) text)) ∙ ap (λ t. (pc ++ 10 ∷ []) ++ t) g.is }

      pub rest_group : (n : ℕ) → IsBadGroup widths text (at + length pc + 1) (line + 1) n → IsBadRest widths text at line n
      rest_group n b = record {
        front = (pc ++ 10 ∷ []) ++ text_of b.done;
        left = b.left;
        is = here.is ∙ sym (append_assoc pc (10 ∷ []) (drop (at + length pc + 1) text)) ∙ ap (λ t. (pc ++ 10 ∷ []) ++ t) b.is ∙ sym (append_assoc (pc ++ 10 ∷ []) (text_of b.done) b.left);
        lines = lines_join widths 0 (pc ++ 10 ∷ []) (text_of b.done) (inr (pc, refl)) (grouped_lines 1 b.done b.grouped);
        number_is = omega (arith, b.number_is, feeds_join (pc ++ 10 ∷ []) (text_of b.done), feeds_free pc here.free, grouped_feeds 1 b.done b.grouped);
        more = [];
        begins = record { pc = pc; free = here.free; pc_is = good; lines = b.done; grouped = b.grouped; is = append-nil ((pc ++ 10 ∷ []) ++ text_of b.done) };
        next = λ own more v g e r. let p = grouped_front 1 b.done r.lines own v b.grouped r.grouped (lines_are (own ++ 10 ∷ v) r) g in b.next own more g e p.0 p.1;
        end = λ g r. b.some (grouped_left 1 b.done r.lines b.left b.grouped r.grouped (lines_are b.left r) g);
      } where
        lines_are : (x : List ℕ) (r : IsRest widths (((pc ++ 10 ∷ []) ++ text_of b.done) ++ x)) → text_of r.lines ≡ text_of b.done ++ x
        lines_are x r =
            sym (same_line pc r.pc (text_of b.done ++ x) (text_of r.lines) here.free r.free
            (sym (append_assoc pc (10 ∷ []) (text_of b.done ++ x)) ∙ sym (append_assoc (pc ++ 10 ∷ []) (text_of b.done) x) ∙ r.is ∙ append_assoc r.pc (10 ∷ []) (text_of r.lines))).1

  -- ---- behind the rows
  abbrev first_line : List ℕ
  first_line = codes "state" ++ 10 ∷ []

  pub state_rest : (text : List ℕ) → IsRest widths text → IsState widths (first_line ++ text)
  state_rest text r = record { pc = r.pc; free = r.free; pc_is = r.pc_is; lines = r.lines; grouped = r.grouped; is = ap (λ t. first_line ++ t) r.is }

  rest_state : (text : List ℕ) → IsState widths (first_line ++ text) → IsRest widths text
  rest_state text s = record { pc = s.pc; free = s.free; pc_is = s.pc_is; lines = s.lines; grouped = s.grouped; is = (same_line (codes "state") (codes "state") text (text_of (s.pc ∷ s.lines)) (refl, (refl, (refl, (refl, (refl, tt))))) (refl, (refl, (refl, (refl, (refl, tt))))) s.is).1 }

  module _ (stages : ℕ) (text : List ℕ) (at line : ℕ) (rows : List Shown) (r : IsReadTo widths stages text at line rows) (w : IsWord (length rows)) (here : IsLineAt text at (codes "state")) where
    none_more : (more : List Shown) (state x : List ℕ) → AreRows widths stages more → IsState widths state → first_line ++ x ≡ shown_texts (length rows) more ++ state → IsRest widths x
    unfolding shown_texts
    none_more [] state x p st e = rest_state x (subst (IsState widths) (sym e) st)
    none_more (t ∷ more) state x p st e = absurd (row_apart widths stages (length rows) t (shown_texts (suc (length rows)) more ++ state) x p.0 w (sym (append_assoc (shown_text (length rows) t) (shown_texts (suc (length rows)) more) state) ∙ sym e ∙ append_assoc (codes "state") (10 ∷ []) x))

    rest_follows : (all : List Shown) (state x : List ℕ) → AreRows widths stages all → IsState widths state → shown_texts 0 rows ++ (first_line ++ x) ≡ shown_texts 0 all ++ state → IsRest widths x
    rest_follows all state x p st e =
        let j : 0 + length rows ≡ length rows = omega arith in
        let g = goes_on widths stages 0 rows all (first_line ++ x) state r.rows_are p st (omega (arith, w)) e in
        none_more g.more state x g.are st (g.text_is ∙ ap (λ n. shown_texts n g.more ++ state) j)

    pub bad_state : (n : ℕ) → IsBadRest widths text (at + 6) (line + 1) n → IsBadLine widths stages text n
    bad_state n b = record {
      front = shown_texts 0 rows ++ (first_line ++ b.front);
      rest = b.left;
      is = r.text_is ∙ ap (λ t. shown_texts 0 rows ++ t) (here.is ∙ ap (λ t. first_line ++ t) (ap (λ k. drop k text) six ∙ b.is) ∙ sym (append_assoc first_line b.front b.left)) ∙ sym (append_assoc (shown_texts 0 rows) (first_line ++ b.front) b.left);
      lines = lines_join widths stages (shown_texts 0 rows) (first_line ++ b.front) (rows_lines widths stages 0 rows r.rows_are) (lines_join widths stages first_line b.front (inr (codes "state", refl)) b.lines);
      number_is = omega (arith, b.number_is, r.line_is, feeds_join (shown_texts 0 rows) (first_line ++ b.front), feeds_join first_line b.front, one_feed);
      begins = record {
        rest = b.more;
        rows = rows;
        state = first_line ++ (b.front ++ b.more);
        trace = record { rows_are = r.rows_are; state_is = state_rest (b.front ++ b.more) b.begins; is = append_assoc (shown_texts 0 rows) (first_line ++ b.front) b.more ∙ ap (λ t. shown_texts 0 rows ++ t) (append_assoc first_line b.front b.more) };
      };
      next = λ own more f e t. b.next own more t.rest f e (rest_follows t.rows t.state (b.front ++ (own ++ 10 ∷ t.rest)) t.trace.rows_are t.trace.state_is (parts own t.rest ∙ t.trace.is));
      end = λ f all state t. b.end f (rest_follows all state (b.front ++ b.left) t.rows_are t.state_is (sym (whole) ∙ t.is));
    } where
      six : at + length (codes "state") + 1 ≡ at + 6
      six = omega arith

      one_feed : feeds first_line ≡ 1
      one_feed = feeds_free (codes "state") (refl, (refl, (refl, (refl, (refl, tt)))))

      whole : text ≡ shown_texts 0 rows ++ (first_line ++ (b.front ++ b.left))
      whole = r.text_is ∙ ap (λ t. shown_texts 0 rows ++ t) (here.is ∙ ap (λ t. first_line ++ t) (ap (λ k. drop k text) six ∙ b.is))

      parts : (own rest : List ℕ) → shown_texts 0 rows ++ (first_line ++ (b.front ++ (own ++ 10 ∷ rest))) ≡ ((shown_texts 0 rows ++ (first_line ++ b.front)) ++ (own ++ 10 ∷ [])) ++ rest
      parts own rest =
          ap (λ t. shown_texts 0 rows ++ t) (sym (append_assoc first_line b.front (own ++ 10 ∷ rest)) ∙ ap (λ t. (first_line ++ b.front) ++ t) (sym (append_assoc own (10 ∷ []) rest)) ∙ sym (append_assoc (first_line ++ b.front) (own ++ 10 ∷ []) rest))
          ∙ sym (append_assoc (shown_texts 0 rows) ((first_line ++ b.front) ++ (own ++ 10 ∷ [])) rest) ∙ ap (λ t. t ++ rest) (sym (append_assoc (shown_texts 0 rows) (first_line ++ b.front) (own ++ 10 ∷ [])))

    -- the whole text is that of a trace
    pub whole_trace : IsRest widths (drop (at + 6) text) → IsTrace widths stages text rows (drop at text)
    whole_trace q = record { rows_are = r.rows_are; state_is = subst (IsState widths) (sym (here.is ∙ ap (λ k. first_line ++ drop k text) six)) (state_rest (drop (at + 6) text) q); is = r.text_is } where
      six : at + length (codes "state") + 1 ≡ at + 6
      six = omega arith

pub group_in : (widths own : List ℕ) (group : ℕ) → group ≡ group_of own → is_in_group widths (group_of own) own ≡ true → is_in_group widths group own ≡ true
group_in widths own group e i = ap (λ g. is_in_group widths g own) e ∙ i

pub err_map : {A E : Type 0} (r : Result A E) (P Q : E → Type 0) → ((e : E) → P e → Q e) → IfErr r P → IfErr r Q
err_map (Ok a) P Q f h = h
err_map (Err e) P Q f h = f e h
