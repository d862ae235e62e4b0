-- Words without spaces, and lines of them.
use Rattle.std.proofs.Common.{◌≡◌, ◌≢◌, ℕ, ◌+◌, ◌%◌, ◌<◌, ◌≤◌, ◌^◌, ◌==◌, inl, inr, List, [], ◌∷◌, ◌++◌, get_or, refl, sym, ap, ◌∙◌, subst, arith, lit<, Option, Some, None, Bool, true, false}
use Rattle.std.specs.Prelude.{map, All, codes, decimal, nat_lt, Result, Ok, Err, IfOk}
use Rattle.std.specs.List.{list_all, slice_split, join_with_byte}
use Rattle.std.proofs.lemmas.Bool.{and_parts, agree_below, agree_below_at}
use Rattle.std.proofs.lemmas.Bool.Decides.{nat_tests}
use Rattle.std.proofs.lemmas.Fmt.{decimal_by_steps}
use Rattle.std.proofs.lemmas.List.Elements.{All-nil, All-cons, All-head, All-tail}
use Rattle.std.proofs.lemmas.List.Splits.{slice_split_none, slice_split_at, join_with_byte-slice_split}
use Rattle.ix_graph.specs.declared.graph.Mode.{Mode}
use Rattle.ix_graph.specs.declared.graph.Mode.TheVariants.{InPipeline, Tight, Decoupled, Always}
use Rattle.ix_graph.specs.Kinds.{kind_words}
use Rattle.ix_sheet.specs.declared.problem.Bound.{Bound}
use Rattle.ix_sheet.specs.declared.problem.Bound.TheVariants.{Early, Late, Dep, Chain}
use Rattle.ix_cert.specs.declared.item.Item.{Item}
use Rattle.ix_cert.specs.declared.item.Item.TheVariants.{Title, Period, Behaviour, Op, Edge, Cost, Flow, Cycle, End}
use Rattle.ix_cert.specs.declared.item.Operation.{Operation}
use Rattle.ix_cert.specs.Layout.{Line, mode_text, IsWeight, IsName, IsKindName, is_letter, is_name_byte}
use Rattle.ix_cert.specs.Items.{IsItem, IsOperation, IsBound, IsWide, IsTime, item_words, item_line, bound_words, time_words, width_words, op_words}
use Rattle.ix_lines.specs.Readings.{IsReading}
use Rattle.ix_lines.proofs.Cuts.{Shown, AllShown, shown_append, shown_by_test, shown_decimal, cut_words, line_read_ok as read_ok, Plain, plain_joined}
use Rattle.ix_cert.proofs.KindNames.{kind_form, reads, writes}

shown_words : agree_below (λ k. list_all (λ b. nat_lt 32 b) (get_or kind_words k [])) (λ _. true) 34 ≡ true
unfolding kind_words
shown_words = refl

small_wide : (n most : ℕ) → n ≤ most → most < 2 ^ 64 → n < 2 ^ 64
small_wide n most h w = omega (arith, h, w)

shown_kind : (w : Line) → IsKindName w → Shown w
shown_kind w k = elim (kind_form w k) [
  | inl p ↦ shown_by_test w (ap (λ l. list_all (λ b. nat_lt 32 b) l) p.is ∙ agree_below_at (λ k. list_all (λ b. nat_lt 32 b) (get_or kind_words k [])) (λ _. true) 34 p.place shown_words p.below)
  | inr g ↦ elim g [
    | inl x ↦ subst Shown (sym x.is) (shown_append reads (decimal x.register) (shown_by_test reads refl) (shown_decimal x.register (small_wide x.register 15 x.small (lit< tt))))
    | inr x ↦ subst Shown (sym x.is) (shown_append writes (decimal x.register) (shown_by_test writes refl) (shown_decimal x.register (small_wide x.register 15 x.small (lit< tt))))
  ]
]

name_byte_shown : (b : ℕ) → is_name_byte b ≡ true → 32 < b
name_byte_shown b e = grind (arith, nat_tests)

letter_shown : (b : ℕ) → is_letter b ≡ true → 32 < b
letter_shown b e = grind (arith, nat_tests)

names_shown : (w : Line) → list_all is_name_byte w ≡ true → Shown w
names_shown [] e = tt
names_shown (b ∷ rest) e = let p = and_parts (is_name_byte b) (list_all is_name_byte rest) e in (name_byte_shown b p.0, names_shown rest p.1)

shown_name : (w : Line) → IsName w → Shown w
shown_name [] n = absurd n
shown_name (b ∷ rest) n = (letter_shown b n.0, names_shown rest n.1)

shown_mode : (mode : Option Mode) → Shown (mode_text mode)
shown_mode None = shown_by_test (codes "none") refl
shown_mode (Some InPipeline) = shown_by_test (codes "InPipeline") refl
shown_mode (Some Tight) = shown_by_test (codes "Tight") refl
shown_mode (Some Decoupled) = shown_by_test (codes "Decoupled") refl
shown_mode (Some Always) = shown_by_test (codes "Always") refl

wide_number : (n : ℕ) → IsWide n → Shown (decimal n)
wide_number n h = shown_decimal n (small_wide n 4294967295 h (lit< tt))

great_number : (n : ℕ) → n ≤ 18446744073709551615 → Shown (decimal n)
great_number n h = shown_decimal n (small_wide n 18446744073709551615 h (lit< tt))

time_number : (n : ℕ) → n ≤ 255 → Shown (decimal n)
time_number n h = shown_decimal n (small_wide n 255 h (lit< tt))

million_number : (n : ℕ) → n ≤ 1000000 → Shown (decimal n)
million_number n h = shown_decimal n (small_wide n 1000000 h (lit< tt))

shown_path : (path : List ℕ) → All IsWide path → AllShown (map decimal path)
shown_path [] w = tt
shown_path (k ∷ path) w = (wide_number k (All-head IsWide k path w), shown_path path (All-tail IsWide k path w))

label : (w : Line) → list_all (λ b. nat_lt 32 b) w ≡ true → Shown w
label w e = shown_by_test w e

shown_bound : (bound : Bound) → IsBound bound → AllShown (bound_words bound)
shown_bound (Early k) w = (label (codes "early") refl, (wide_number k w, tt))
shown_bound (Late k) w = (label (codes "late") refl, (wide_number k w, tt))
shown_bound (Dep i j) w = (label (codes "dep") refl, (wide_number i w.0, (wide_number j w.1, tt)))
shown_bound (Chain path) w = (label (codes "chain") refl, shown_path path w.1)

shown_time : (time : Option ℕ) → IsTime time → AllShown (time_words time)
shown_time None h = tt
shown_time (Some time) h = (label (codes "time") refl, (time_number time h, tt))

shown_width : (weighted : Bool) (weight : ℕ) (rest : List Line) → IsWeight weighted weight → AllShown rest → AllShown (width_words weighted weight rest)
shown_width false weight rest w r = r
shown_width true weight rest w r = (label (codes "width") refl, (shown_decimal weight (small_wide weight 128 w.1 (lit< tt)), r))

shown_op : (op : Operation) → IsOperation op → AllShown (op_words op)
shown_op op w = (
  shown_decimal op.place (small_wide op.place 65535 w.place (lit< tt)),
  (
    shown_kind op.kind w.kind,
    (
      label (codes "delay") refl,
      (
        million_number op.node.delay w.node.delay,
        (
          label (codes "latency") refl,
          (
            time_number op.node.latency w.node.latency,
            shown_width op.weighted op.node.weight _ w.weight
                (label (codes "early") refl, (time_number op.node.early w.node.early, (label (codes "late") refl, (time_number op.node.late w.node.late, shown_time op.time w.time)))),
          ),
        ),
      ),
    ),
  ),
)

pub shown_item : (x : Item) → IsItem x → AllShown (item_words x)
shown_item (Title version) w = (label (codes "longnail") refl, (label (codes "report") refl, (shown_decimal version (small_wide version 2 w.1 (lit< tt)), tt)))
shown_item (Period period) w = (label (codes "period") refl, (million_number period w.1, tt))
shown_item (Behaviour name mode) w = (label (codes "behaviour") refl, (shown_name name w, (shown_mode mode, tt)))
shown_item (Op op) w = (label (codes "op") refl, shown_op op w)
shown_item (Edge i j) w = (label (codes "edge") refl, (wide_number i w.0, (wide_number j w.1, tt)))
shown_item (Cost cost) w = (label (codes "cost") refl, (great_number cost w, tt))
shown_item (Flow amount bound) w = (label (codes "flow") refl, (great_number amount w.1, shown_bound bound w.2))
shown_item (Cycle bound) w = (label (codes "cycle") refl, shown_bound bound w)
shown_item End w = (label (codes "end") refl, tt)

some_words : (x : Item) → item_words x ≢ []
some_words (Title version) = λ e. grind (arith, e)
some_words (Period period) = λ e. grind (arith, e)
some_words (Behaviour name mode) = λ e. grind (arith, e)
some_words (Op op) = λ e. grind (arith, e)
some_words (Edge i j) = λ e. grind (arith, e)
some_words (Cost cost) = λ e. grind (arith, e)
some_words (Flow amount bound) = λ e. grind (arith, e)
some_words (Cycle bound) = λ e. grind (arith, e)
some_words End = λ e. grind (arith, e)

-- the words of an item's line
pub item_cut : (x : Item) → IsItem x → slice_split (λ b. b == 32) (item_line x) ≡ item_words x
item_cut x w = cut_words (item_words x) (some_words x) (shown_item x w)

-- what was read of the words was read of the line
pub line_read_ok : {E : Type 0} (r : Result (Option Item) E) (line : Line) (words : List Line) → words ≡ slice_split (λ b. b == 32) line → IfOk r (λ found. IsReading IsItem item_words words found)
    → IfOk r (λ found. IsReading IsItem item_line line found)
line_read_ok r line words c h = read_ok IsItem item_words item_cut r line words c h

-- ---- no line feed in a line
pub plain_item : (x : Item) → IsItem x → Plain (item_line x)
plain_item x w = plain_joined (item_words x) (shown_item x w)
