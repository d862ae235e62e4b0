use Rattle.std.proofs.Common.{◌≡◌, ◌∙◌, ℕ, List, ◌∷◌, ◌++◌, [], length, set, sym, ap, subst, arith, length-set}
use Rattle.std.proofs.lemmas.Bool.{false≢true}
use Rattle.std.proofs.lemmas.List.{nil_from_length}
use Rattle.ix_net.specs.declared.ordering.Mark.{Mark}
use Rattle.ix_net.specs.declared.ordering.Mark.TheVariants.{New, Open, Done}
use Rattle.ix_net.specs.Order.{Reads, mark_at}
use Rattle.ix_net.proofs.OrderLemmas.{IsSearching, searching_first, searching_done, searching_on, searching_loop, searching_end, new_count-open, new_count-done, new_from, last_in}
use Rattle.ix_net.proofs.ordering.visit.Goals as goal

pub loop-cell-init : goal.loop-cell-init
loop-cell-init c =
    let P : List ℕ → Type 0 = λ path. IsSearching c.args.first c.args.gates.now c.args.marks.now (set c.args.marks.now c.args.root Open) c.args.order.now.items path c.args.root in
    let path : c.push.new.self.items ≡ c.args.root ∷ [] = c.in_ok-push.ensures.items ∙ ap (λ xs. xs ++ c.args.root ∷ []) c.new-path.ensures.items in
    subst P (sym path) (searching_first c.args.first c.args.gates.now c.args.marks.now c.args.order.now.items c.args.root c.requires.lengths c.requires.root_new c.requires.resting)

pub loop-cell-preserved-in-None : goal.loop-cell-preserved-in-None
loop-cell-preserved-in-None c =
    let marks = c.loop-cell.marks in
    let size : length c.loop-cell.marks ≡ length c.args.gates.now = omega (arith, length-set {A = Mark}, c.loop-cell.auto.marks, c.requires.lengths) in
    let path : c.loop-cell.path.items ≡ c.pop.new.self.items ++ c.in-Some.cell ∷ [] = c.in-Some.ensures.items in
    let order : c.push-in-None.new.self.items ≡ c.loop-cell.order.items ++ c.in-Some.cell ∷ [] = c.in_ok-push-in-None.ensures.items in
    let P : List ℕ → Type 0 = λ path. IsSearching c.args.first c.args.gates.now c.args.marks.now c.loop-cell.marks c.loop-cell.order.items path c.args.root in
    let Q : List ℕ → Type 0 = λ order. IsSearching c.args.first c.args.gates.now c.args.marks.now (set c.loop-cell.marks c.in-Some.cell Done) order c.pop.new.self.items c.args.root in
    subst Q (sym order)
    (searching_done c.args.first c.args.gates.now c.args.marks.now c.loop-cell.marks c.loop-cell.order.items c.pop.new.self.items c.args.root c.in-Some.cell size (subst P path c.loop-cell.invariant) c.in-None.ensures)

pub loop-cell-smaller-in-None : goal.loop-cell-smaller-in-None
loop-cell-smaller-in-None c = omega (arith, new_count-done c.loop-cell.marks c.in-Some.cell, c.in-Some.ensures.len)

pub returns-then-is_open : goal.returns-then-is_open
returns-then-is_open c =
    let size : length c.loop-cell.marks ≡ length c.args.gates.now = omega (arith, length-set {A = Mark}, c.loop-cell.auto.marks, c.requires.lengths) in
    let path : c.loop-cell.path.items ≡ c.pop.new.self.items ++ c.in-Some.cell ∷ [] = c.in-Some.ensures.items in
    let P : List ℕ → Type 0 = λ path. IsSearching c.args.first c.args.gates.now c.args.marks.now c.loop-cell.marks c.loop-cell.order.items path c.args.root in
    let s = subst P path c.loop-cell.invariant in
    let w = c.in-Some-waits_for.ensures in
    let r : Reads c.args.first c.args.gates.now c.in-Some-waits_for.next c.in-Some.cell = record { source = omega (arith, w.0); reader = last_in c.args.gates.now c.pop.new.self.items c.in-Some.cell s.cells; reads = w.1 } in
    (c.in-Some-waits_for.next, searching_loop c.args.first c.args.gates.now c.args.marks.now c.loop-cell.marks c.loop-cell.order.items c.pop.new.self.items c.args.root c.in-Some.cell c.in-Some-waits_for.next s r (c.is_open.ensures.0 c.if-is_open.true))

pub loop-cell-preserved : goal.loop-cell-preserved
loop-cell-preserved c =
    let size : length c.loop-cell.marks ≡ length c.args.gates.now = omega (arith, length-set {A = Mark}, c.loop-cell.auto.marks, c.requires.lengths) in
    let path : c.loop-cell.path.items ≡ c.pop.new.self.items ++ c.in-Some.cell ∷ [] = c.in-Some.ensures.items in
    let P : List ℕ → Type 0 = λ path. IsSearching c.args.first c.args.gates.now c.args.marks.now c.loop-cell.marks c.loop-cell.order.items path c.args.root in
    let s = subst P path c.loop-cell.invariant in
    let w = c.in-Some-waits_for.ensures in
    let r : Reads c.args.first c.args.gates.now c.in-Some-waits_for.next c.in-Some.cell = record { source = omega (arith, w.0); reader = last_in c.args.gates.now c.pop.new.self.items c.in-Some.cell s.cells; reads = w.1 } in
    let long : c.push-in-Some-waits_for-2.new.self.items ≡ (c.pop.new.self.items ++ c.in-Some.cell ∷ []) ++ c.in-Some-waits_for.next ∷ [] =
    c.in_ok-push-in-Some-waits_for-2.ensures.items ∙ ap (λ xs. xs ++ c.in-Some-waits_for.next ∷ []) c.in_ok-push-in-Some-waits_for.ensures.items in
    let Q : List ℕ → Type 0 = λ path. IsSearching c.args.first c.args.gates.now c.args.marks.now (set c.loop-cell.marks c.in-Some-waits_for.next Open) c.loop-cell.order.items path c.args.root in
    subst Q (sym long)
    (searching_on c.args.first c.args.gates.now c.args.marks.now c.loop-cell.marks c.loop-cell.order.items c.pop.new.self.items c.args.root c.in-Some.cell c.in-Some-waits_for.next size s r w.2)

pub loop-cell-smaller : goal.loop-cell-smaller
loop-cell-smaller c =
    let w = c.in-Some-waits_for.ensures in
    let new : mark_at c.loop-cell.marks c.in-Some-waits_for.next ≡ New = new_from (mark_at c.loop-cell.marks c.in-Some-waits_for.next) w.2 (λ h. false≢true (sym c.if-is_open.false ∙ c.is_open.ensures.1 h)) in
    omega (arith, new_count-open c.loop-cell.marks c.in-Some-waits_for.next w.0 new, c.in-Some.ensures.len, c.in_ok-push-in-Some-waits_for.ensures.len, c.in_ok-push-in-Some-waits_for-2.ensures.len)

pub returns : goal.returns
returns c =
    let s = c.loop-cell.invariant in
    (searching_end c.args.first c.args.gates.now c.args.marks.now c.loop-cell.marks c.loop-cell.order.items c.loop-cell.path.items c.args.root (nil_from_length c.loop-cell.path.items (omega (arith, c.loop-cell.path.ok.0, c.in_default.ensures.cases.0))) s, s.seen, s.root_seen)
