-- What was read can be gone on with, and what may not follow follows in no report.
use Rattle.std.proofs.Common.{◌≡◌, ◌≢◌, ℕ, ◌<◌, List, [], ◌∷◌, ◌++◌, length, refl, sym, ap, ◌∙◌, subst, arith, append_assoc, length-append, Option, Some, None, Bool, true, false}
use Rattle.std.specs.Prelude.{map, All, codes}
use Rattle.ix_graph.specs.declared.graph.Mode.{Mode}
use Rattle.ix_graph.specs.declared.kind.Kind.TheVariants.{Add}
use Rattle.ix_graph.specs.Kinds.{kind_words}
use Rattle.ix_sheet.specs.declared.problem.Node.{Node}
use Rattle.ix_sheet.specs.declared.problem.Bound.{Bound}
use Rattle.ix_sheet.specs.declared.problem.Bound.TheVariants.{Early}
use Rattle.ix_cert.specs.declared.item.Item.{Item}
use Rattle.ix_cert.specs.declared.item.Item.TheVariants.{Title, Period, Op, Cost, Cycle, End}
use Rattle.ix_cert.specs.declared.report.Report.{Report}
use Rattle.ix_cert.specs.declared.report.ReportBlock.{ReportBlock}
use Rattle.ix_cert.specs.declared.state.Place.{Place}
use Rattle.ix_cert.specs.declared.state.Place.TheVariants as place
use Rattle.ix_cert.specs.declared.state.Reading.{Reading}
use Rattle.ix_cert.specs.Layout.{Line, is_weighted, IsWeight, IsInForm, IsKindName, IsEdgeInForm, BeginReport, report_lines}
use Rattle.ix_cert.specs.Items.{IsItem, item_line, operation, report_items}
use Rattle.ix_cert.specs.Steps.{MayFollow, HasMode, IsTimed, reading, after, run, start, AllFollow}
use Rattle.ix_cert.specs.Refusals.{IsNext, NoNext}
use Rattle.ix_cert.proofs.Lined.{EachItem, each_join, map_join, report_are, report_each}
use Rattle.ix_cert.proofs.Decoded.{one_item}
use Rattle.ix_cert.proofs.Walked.{follow_join, run_join, report_leads}
use Rattle.ix_cert.proofs.Kept.{IsSound, IsSoundAt, IsOpen, HasGiven, AreDone, so_far, keep_all, start_sound}

-- items with which a report is whole
pub record Completion (r : Reading) : Type 0 where
  pub extra : List Item
  pub each : EachItem extra
  pub follow : AllFollow r extra
  pub version : ℕ
  pub period : ℕ
  pub blocks : List ReportBlock
  pub comes : run r extra ≡ reading version period blocks place.Between

some_behind : {X : Type 0} (xs : List X) (x : X) → xs ++ x ∷ [] ≢ []
some_behind [] x = λ e. cc
some_behind (y ∷ xs) x = λ e. cc

never : {P : Type 0} → true ≡ false → P
never e = absurd cc

add_is : IsKindName (codes "add")
unfolding kind_words
add_is = record { kind = Add; register = tt; name = refl }

abbrev no_delay : Node
no_delay = record { delay = 0; latency = 0; weight = 1; early = 0; late = 0 }

one_weight : (weighted : Bool) → IsWeight weighted 1
one_weight false = refl
one_weight true = (omega arith, omega arith)

module _ (version : ℕ) where
  abbrev first_op : Item
  first_op = Op (operation (is_weighted version) 0 (codes "add") no_delay None)

  first_good : IsItem first_op
  first_good = record { place = omega arith; kind = add_is; node = record { delay = omega arith; latency = omega arith; early = omega arith; late = omega arith }; weight = one_weight (is_weighted version); time = tt }

  no_edge : (edges : List (ℕ × ℕ)) → All (IsEdgeInForm 0) edges → edges ≡ []
  no_edge [] a = refl
  no_edge (e ∷ edges) a = absurd (omega (arith, (a 0 (0, 0) (omega arith)).1))

  untimed_mode : (mode : Option Mode) → mode ≡ None → IsTimed mode None
  untimed_mode None e = tt
  untimed_mode (Some mode) e = absurd cc

  complete_none : (period : ℕ) (blocks : List ReportBlock) (b : ReportBlock) (costed : Bool) (cycle : List Bound) (ops : List Node) → IsOpen (is_weighted version) period b costed → b.mode ≡ None → costed ≡ false → b.cycle ≡ cycle → b.problem.ops ≡ ops
      → Completion (reading version period blocks (place.Inside b costed))
  complete_none period blocks b costed (bound ∷ cycle) ops o m z c n = record {
    extra = End ∷ [];
    each = (tt, tt);
    follow = ((λ _ e. filled (sym c ∙ e)), tt);
    version = version;
    period = period;
    blocks = blocks ++ b ∷ [];
    comes = refl;
  } where
    filled : bound ∷ cycle ≡ [] → ⊥
    filled e = cc
  complete_none period blocks b costed [] (node ∷ ops) o m z c n = record {
    extra = Cycle (Early 0) ∷ End ∷ [];
    each = (omega arith, (tt, tt));
    follow = ((m, some_ops), ((λ _. some_behind b.cycle (Early 0)), tt));
    version = version;
    period = period;
    blocks = _;
    comes = refl;
  } where
    some_ops : 0 < length b.problem.ops
    some_ops = omega (arith, ap length n)
  complete_none period blocks b costed [] [] o m z c n = record {
    extra = first_op ∷ Cycle (Early 0) ∷ End ∷ [];
    each = (first_good, (omega arith, (tt, tt)));
    follow = (
      record { form = refl; open_cost = z; place = sym (ap length n); no_edges = no_edge b.problem.edges (subst (λ l. All (IsEdgeInForm (length l)) b.problem.edges) n o.edges); no_cycle = c; timed = untimed_mode b.mode m },
      ((m, omega (arith, length-append b.problem.ops (no_delay ∷ []))), ((λ _. some_behind b.cycle (Early 0)), tt)),
    );
    version = version;
    period = period;
    blocks = _;
    comes = refl;
  }

  complete_inside : (period : ℕ) (blocks : List ReportBlock) (b : ReportBlock) (costed : Bool) (mode : Option Mode) → IsOpen (is_weighted version) period b costed → b.mode ≡ mode → HasGiven b mode costed → Completion (reading version period blocks (place.Inside b costed))
  complete_inside period blocks b costed None o m g = complete_none period blocks b costed b.cycle b.problem.ops o m g.0 refl refl
  complete_inside period blocks b false (Some mode) o m g = record {
    extra = Cost 0 ∷ End ∷ [];
    each = (omega arith, (tt, tt));
    follow = ((refl, subst HasMode (sym m) tt), (never, tt));
    version = version;
    period = period;
    blocks = _;
    comes = refl;
  }
  complete_inside period blocks b true (Some mode) o m g = record {
    extra = End ∷ [];
    each = (tt, tt);
    follow = (never, tt);
    version = version;
    period = period;
    blocks = _;
    comes = refl;
  }

  complete : (period : ℕ) (blocks : List ReportBlock) (at : Place) → IsSoundAt version period blocks at → Completion (reading version period blocks at)
  complete period blocks place.Title s = record { extra = Title 1 ∷ Period 1 ∷ []; each = ((omega arith, omega arith), ((omega arith, omega arith), tt)); follow = (tt, (tt, tt)); version = 1; period = 1; blocks = blocks; comes = refl }
  complete period blocks place.Period s = record { extra = Period 1 ∷ []; each = ((omega arith, omega arith), tt); follow = (tt, tt); version = version; period = 1; blocks = blocks; comes = refl }
  complete period blocks place.Between s = record { extra = []; each = tt; follow = tt; version = version; period = period; blocks = blocks; comes = refl }
  complete period blocks (place.Inside b costed) s = complete_inside period blocks b costed b.mode s.1 refl s.1.told

-- ---- lines that were read

-- items after which a report is whole are those of the report
pub record IsWhole (items : List Item) (version period : ℕ) (blocks : List ReportBlock) : Type 0 where
  pub in_form : IsInForm (record { version = version; period = period; blocks = blocks })
  pub items_are : report_items (record { version = version; period = period; blocks = blocks }) ≡ items

whole : (xs : List Item) (version period : ℕ) (blocks : List ReportBlock) → EachItem xs → AllFollow start xs → run start xs ≡ reading version period blocks place.Between → IsWhole xs version period blocks
whole xs version period blocks w m e =
    let k = keep_all start xs start_sound w m in
    let sound : AreDone version period blocks = subst IsSound e k.sound in
    record {
      in_form = record { some_version = sound.some_version; most_version = sound.most_version; some_period = sound.some_period; most_period = sound.most_period; blocks = sound.blocks_are };
      items_are = ap so_far (sym e) ∙ k.items;
    }

pub begins : (xs : List Item) → EachItem xs → AllFollow start xs → BeginReport (map item_line xs)
begins xs w m =
    let k = keep_all start xs start_sound w m in
    let c = complete (run start xs).version (run start xs).period (run start xs).blocks (run start xs).place k.sound in
    let all = whole (xs ++ c.extra) c.version c.period c.blocks (each_join xs c.extra w c.each) (follow_join start xs c.extra m c.follow) (run_join start xs c.extra ∙ c.comes) in
    record {
      report = record { version = c.version; period = c.period; blocks = c.blocks };
      in_form = all.in_form;
      rest = map item_line c.extra;
      are = report_are (record { version = c.version; period = c.period; blocks = c.blocks }) ∙ ap (λ l. map item_line l) all.items_are ∙ map_join xs c.extra;
    }

pub record Reached (lines : List Line) (r : Reading) : Type 0 where
  pub items : List Item
  pub each : EachItem items
  pub are : map item_line items ≡ lines
  pub follow : AllFollow start items
  pub comes : run start items ≡ r

pub reached_none : Reached [] start
reached_none = record { items = []; each = tt; are = refl; follow = tt; comes = refl }

pub reached_more : (lines : List Line) (r more : Reading) (line : Line) → Reached lines r → IsNext r line more → Reached (lines ++ line ∷ []) more
reached_more lines r more line h n = record {
  items = h.items ++ n.item ∷ [];
  each = each_join h.items (n.item ∷ []) h.each (n.good, tt);
  are = map_join h.items (n.item ∷ []) ∙ ap (λ l. l ++ item_line n.item ∷ []) h.are ∙ ap (λ l. lines ++ l ∷ []) n.is;
  follow = follow_join start h.items (n.item ∷ []) h.follow (subst (λ q. MayFollow q.version q.place n.item) (sym h.comes) n.may, tt);
  comes = run_join start h.items (n.item ∷ []) ∙ ap (λ q. after q n.item) h.comes ∙ sym n.more_is;
}

-- no two lists of items have the same lines
pub lines_one : (xs ys : List Item) → EachItem xs → EachItem ys → map item_line xs ≡ map item_line ys → xs ≡ ys
lines_one [] [] v w e = refl
lines_one [] (y ∷ ys) v w e = absurd cc
lines_one (x ∷ xs) [] v w e = absurd cc
lines_one (x ∷ xs) (y ∷ ys) v w e =
    let a : item_line x ≡ item_line y = cc in
    let b : map item_line xs ≡ map item_line ys = cc in
    rw (one_item x y v.0 w.0 a, lines_one xs ys v.1 w.1 b) refl

-- the item of the line behind those that were read
record Behind (xs ys : List Item) (line : Line) : Type 0 where
  item : Item
  good : IsItem item
  is : item_line item ≡ line
  rest : List Item
  parts : ys ≡ xs ++ item ∷ rest

behind_more : (x y : Item) (xs ys : List Item) (line : Line) → y ≡ x → Behind xs ys line → Behind (x ∷ xs) (y ∷ ys) line
behind_more x y xs ys line e h = record { item = h.item; good = h.good; is = h.is; rest = h.rest; parts = ap (λ l. l ∷ ys) e ∙ ap (λ l. x ∷ l) h.parts }

behind_read : (xs ys : List Item) (line : Line) (rest : List Line) → EachItem xs → EachItem ys → map item_line ys ≡ map item_line xs ++ line ∷ rest → Behind xs ys line
behind_read [] [] line rest v w e = absurd cc
behind_read [] (y ∷ ys) line rest v w e = let a : item_line y ≡ line = cc in record { item = y; good = w.0; is = a; rest = ys; parts = refl }
behind_read (x ∷ xs) [] line rest v w e = absurd cc
behind_read (x ∷ xs) (y ∷ ys) line rest v w e =
    let a : item_line y ≡ item_line x = cc in
    let b : map item_line ys ≡ map item_line xs ++ line ∷ rest = cc in
    behind_more x y xs ys line (one_item y x w.0 v.0 a) (behind_read xs ys line rest v.1 w.1 b)

may_behind : (from : Reading) (xs ys : List Item) (y : Item) → AllFollow from (xs ++ y ∷ ys) → MayFollow (run from xs).version (run from xs).place y
may_behind from [] ys y m = m.0
may_behind from (x ∷ xs) ys y m = may_behind (after from x) xs ys y m.1

-- a line that may not stand next begins no report with those before it
pub refuted : (lines : List Line) (r : Reading) (line : Line) → Reached lines r → NoNext r line → BeginReport (lines ++ line ∷ []) → ⊥
refuted lines r line h n b =
    let e : map item_line (report_items b.report) ≡ map item_line h.items ++ line ∷ b.rest = sym (report_are b.report) ∙ b.are ∙ append_assoc lines (line ∷ []) b.rest ∙ ap (λ l. l ++ line ∷ b.rest) (sym h.are) in
    let y = behind_read h.items (report_items b.report) line b.rest h.each (report_each b.report b.in_form) e in
    let f : AllFollow start (h.items ++ y.item ∷ y.rest) = subst (λ l. AllFollow start l) y.parts (report_leads b.report b.in_form).follow in
    n y.item y.good y.is (subst (λ q. MayFollow q.version q.place y.item) h.comes (may_behind start h.items y.rest y.item f))

pub reached_begins : (lines : List Line) (r : Reading) → Reached lines r → BeginReport lines
reached_begins lines r h = subst BeginReport h.are (begins h.items h.each h.follow)

-- lines that are a report lead between behaviours
pub whole_between : (lines : List Line) (r : Reading) (report : Report) → Reached lines r → IsInForm report → report_lines report ≡ lines → r ≡ reading report.version report.period report.blocks place.Between
whole_between lines r report h f e =
    let same : h.items ≡ report_items report = lines_one h.items (report_items report) h.each (report_each report f) (h.are ∙ sym e ∙ report_are report) in
    sym h.comes ∙ ap (λ l. run start l) same ∙ (report_leads report f).comes

pub record IsReport (lines : List Line) (report : Report) : Type 0 where
  pub in_form : IsInForm report
  pub are : report_lines report ≡ lines

pub reached_whole : (lines : List Line) (r : Reading) → Reached lines r → r.place ≡ place.Between → IsReport lines (record { version = r.version; period = r.period; blocks = r.blocks })
reached_whole lines r h e =
    let w = whole h.items r.version r.period r.blocks h.each h.follow (h.comes ∙ ap (λ p. reading r.version r.period r.blocks p) e) in
    record { in_form = w.in_form; are = report_are (record { version = r.version; period = r.period; blocks = r.blocks }) ∙ ap (λ l. map item_line l) w.items_are ∙ h.are }
