use Rattle.std.proofs.Common.{◌≡◌, ◌∙◌, ◌+◌, ◌≤◌, ◌++◌, ℕ, List, [], length, map, take, drop, get_or, arith, ap, sym, subst}
use Rattle.std.proofs.lemmas.List.{length-map, length-append, length-drop}
use Rattle.ix_bits.specs.declared.number.Bits.{Bits}
use Rattle.ix_net.specs.declared.gates.Gate.{Gate}
use Rattle.ix_neteval.specs.Wired.{FitWidths, KeepsOthers}
use Rattle.ix_neteval.proofs.LoadLemmas.{loaded_fits, loaded_front, loaded_end, kept_inputs, kept_banks}
use Rattle.ix_neteval.specs.Marked.{is_marked, IsMarked}
use Rattle.ix_neteval.proofs.Marking.{loaded_marked}
use Rattle.ix_neteval.proofs.running.settle_values.Goals as goal

pub run_gates-requires-clause-fit : goal.run_gates-requires-clause-fit
run_gates-requires-clause-fit c =
    let inputs : List Bits = c.args.inputs.now in
    let old : List ℕ = c.args.values.now in
    let banks : List ℕ = c.args.banks.now in
    let widths : List ℕ = c.args.wiring.now.widths.items in
    let m = length inputs + length c.args.wiring.now.gates.items in
    let em : length inputs + c.len.result ≡ m = omega (arith, c.len.ensures, c.args.wiring.now.gates.ok.0) in
    let raws : List ℕ = map (λ (b : Bits). b.raw) inputs in
    let made : c.load_banks.new.values ≡ take m (raws ++ drop (length inputs) old) ++ banks =
    c.load_banks.ensures ∙ ap (λ k. take k c.load_inputs.new.values ++ banks) em ∙ ap (λ vs. take m vs ++ banks) c.load_inputs.ensures in
    let size : m + length banks ≡ length old = omega (arith, c.requires.banks_fit.size, length-drop m widths, c.requires.wired.room, c.requires.fit.size) in
    let P : List ℕ → Type 0 = λ ws. FitWidths ws c.load_banks.new.values in
    subst P (sym c.deref-3.ensures.value)
    (loaded_fits widths inputs banks old c.load_banks.new.values m c.requires.fit (omega arith) size c.requires.inputs_fit c.requires.banks_fit made)

pub returns-clause-inputs : goal.returns-clause-inputs
returns-clause-inputs c =
    let inputs : List Bits = c.args.inputs.now in
    let old : List ℕ = c.args.values.now in
    let banks : List ℕ = c.args.banks.now in
    let widths : List ℕ = c.args.wiring.now.widths.items in
    let m = length inputs + length c.args.wiring.now.gates.items in
    let em : length inputs + c.len.result ≡ m = omega (arith, c.len.ensures, c.args.wiring.now.gates.ok.0) in
    let raws : List ℕ = map (λ (b : Bits). b.raw) inputs in
    let made : c.load_banks.new.values ≡ take m (raws ++ drop (length inputs) old) ++ banks =
    c.load_banks.ensures ∙ ap (λ k. take k c.load_inputs.new.values ++ banks) em ∙ ap (λ vs. take m vs ++ banks) c.load_inputs.ensures in
    let size_raws : length raws ≡ length inputs = length-map inputs (λ (b : Bits). b.raw) in
    let room : m ≤ length (raws ++ drop (length inputs) old) = omega (arith, length-append raws (drop (length inputs) old), length-drop (length inputs) old, c.requires.wired.room, c.requires.fit.size) in
    let front : take (length inputs) c.load_banks.new.values ≡ raws = ap (take (length inputs)) made ∙ loaded_front raws (drop (length inputs) old) banks (length inputs) m size_raws (omega arith) room in
    let K : List Gate → Type 0 = λ gs. KeepsOthers (length inputs) (length gs) c.load_banks.new.values c.run_gates.new.values in
    let kept : KeepsOthers (length inputs) (length c.args.wiring.now.gates.items) c.load_banks.new.values c.run_gates.new.values = subst K c.deref-2.ensures.value c.run_gates.ensures.others in
    let whole : length c.load_banks.new.values ≡ length old = c.load_banks.auto.values ∙ c.load_inputs.auto.values in
    kept_inputs (length inputs) (length c.args.wiring.now.gates.items) raws c.load_banks.new.values c.run_gates.new.values kept c.run_gates.auto.values size_raws
    (omega (arith, c.requires.wired.room, c.requires.fit.size)) front

pub returns-clause-banks : goal.returns-clause-banks
returns-clause-banks c =
    let inputs : List Bits = c.args.inputs.now in
    let old : List ℕ = c.args.values.now in
    let banks : List ℕ = c.args.banks.now in
    let widths : List ℕ = c.args.wiring.now.widths.items in
    let m = length inputs + length c.args.wiring.now.gates.items in
    let em : length inputs + c.len.result ≡ m = omega (arith, c.len.ensures, c.args.wiring.now.gates.ok.0) in
    let raws : List ℕ = map (λ (b : Bits). b.raw) inputs in
    let made : c.load_banks.new.values ≡ take m (raws ++ drop (length inputs) old) ++ banks =
    c.load_banks.ensures ∙ ap (λ k. take k c.load_inputs.new.values ++ banks) em ∙ ap (λ vs. take m vs ++ banks) c.load_inputs.ensures in
    let size_raws : length raws ≡ length inputs = length-map inputs (λ (b : Bits). b.raw) in
    let room : m ≤ length (raws ++ drop (length inputs) old) = omega (arith, length-append raws (drop (length inputs) old), length-drop (length inputs) old, c.requires.wired.room, c.requires.fit.size) in
    let K : List Gate → Type 0 = λ gs. KeepsOthers (length inputs) (length gs) c.load_banks.new.values c.run_gates.new.values in
    let kept : KeepsOthers (length inputs) (length c.args.wiring.now.gates.items) c.load_banks.new.values c.run_gates.new.values = subst K c.deref-2.ensures.value c.run_gates.ensures.others in
    let end' : drop m c.load_banks.new.values ≡ banks = ap (drop m) made ∙ loaded_end (raws ++ drop (length inputs) old) banks m room in
    kept_banks (length inputs) (length c.args.wiring.now.gates.items) banks c.load_banks.new.values c.run_gates.new.values kept c.run_gates.auto.values end'

pub run_gates-requires-clause-marked : goal.run_gates-requires-clause-marked
run_gates-requires-clause-marked c = λ old.
    let inputs : List Bits = c.args.inputs.now in
    let values : List ℕ = c.args.values.now in
    let banks : List ℕ = c.args.banks.now in
    let gates : List Gate = c.args.wiring.now.gates.items in
    let widths : List ℕ = c.args.wiring.now.widths.items in
    let n = length inputs in
    let m = n + length gates in
    let em : length inputs + c.len.result ≡ m = omega (arith, c.len.ensures, c.args.wiring.now.gates.ok.0) in
    let raws : List ℕ = map (λ (b : Bits). b.raw) inputs in
    let made : c.load_banks.new.values ≡ take m (raws ++ drop n values) ++ banks =
    c.load_banks.ensures ∙ ap (λ k. take k c.load_inputs.new.values ++ banks) em ∙ ap (λ vs. take m vs ++ banks) c.load_inputs.ensures in
    let size : m + length banks ≡ length values = omega (arith, c.requires.banks_fit.size, length-drop m widths, c.requires.wired.room, c.requires.fit.size) in
    let P : List Gate → Type 0 = λ gs. IsMarked n gs c.deref-3.result.now [] c.mark_banks.new.marks c.load_banks.new.values in
    let Q : List ℕ → Type 0 = λ ws. IsMarked n gates ws [] c.mark_banks.new.marks c.load_banks.new.values in
    subst P (sym c.deref-2.ensures.value)
    (subst Q (sym c.deref-3.ensures.value)
    (loaded_marked gates widths raws banks values c.load_banks.new.values c.mark_inputs.new.marks c.mark_banks.new.marks n (c.requires.settled old) (length-map inputs (λ (b : Bits). b.raw)) size made
    c.mark_inputs.ensures
    (λ s lt. c.mark_banks.ensures.kept s (omega (arith, lt, em)))
    (λ k lt unmarked. (let there : length inputs + c.len.result + k ≡ m + k = omega (arith, em) in
    ap (λ j. get_or values j 0) (sym there) ∙ c.mark_banks.ensures.marked k lt (ap (is_marked c.mark_banks.new.marks) there ∙ unmarked)))))
