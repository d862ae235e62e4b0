-- What a row drives where a cell at EX or later reads, and where one leaves RD: the value of the operation's term at the cell's place.
use Rattle.std.proofs.Common.{◌≡◌, ◌∙◌, refl, sym, ap, subst, ℕ, zero, suc, ◌+◌, ◌%◌, ◌^◌, ◌<◌, ◌≤◌, List, [], ◌∷◌, get_or, map, Some, None, true, false, arith}
use Rattle.std.specs.Prelude.{ℤ, slice_get, slice_index, is_some}
use Rattle.ix_bits.specs.declared.number.Bits.{Bits}
use Rattle.ix_graph.specs.declared.kind.Kind.{Kind}
use Rattle.ix_graph.specs.declared.kind.Kind.TheVariants.{RdInstr, RdRS1, RdRS2, RdPC, RdCustReg, RdMem}
use Rattle.ix_graph.specs.declared.graph.Op.{Op}
use Rattle.ix_graph.specs.declared.graph.Graph.{Graph}
use Rattle.ix_graph.specs.declared.role.Role.TheVariants.{Read}
use Rattle.ix_graph.specs.Graphs.{IsValidGraph}
use Rattle.ix_graph.specs.Roles.{role_of}
use Rattle.ix_graph_laws.specs.GraphEffects.{numbers_of, read_raw, values_under}
use Rattle.ix_graph_laws.specs.Laws.{HasValues, DoesTheSame}
use Rattle.ix_behaviour.specs.declared.which.Which.TheVariants as W
use Rattle.ix_mean.specs.Given.{raw_seen}
use Rattle.ix_mean.specs.Meaning.{Inputs}
use Rattle.ix_sheet.specs.Behaviours.{latency_of}
use Rattle.rv_core.specs.declared.Shape.{Shape}
use Rattle.rv_isa.specs.Fields.{rs1_of, rs2_of}
use Rattle.rv_seq.specs.declared.decoded.Decoded.TheVariants as D
use Rattle.rv_seq.specs.Decoding.{decoded_in}
use Rattle.rv_seq.specs.declared.arch.Arch.{Arch}
use Rattle.rv_seq.specs.States.{zero_bit, inputs_at}
use Rattle.rv_trace.specs.declared.row.Cell.{Cell}
use Rattle.rv_trace.specs.declared.row.Row.{Row}
use Rattle.rv_trace.specs.Trace.{has_serial, place, retirements}
use Rattle.rv_holds.specs.Holds.{operand_hold}
use Rattle.rv_lawful.specs.Settings as Lawful
use Rattle.rv_lawful.specs.Settings.{run_trial}
use Rattle.rv_lawful.specs.Future.{cell_in, future_file}
use Rattle.rv_lawful.specs.Outstanding.{architecture}
use Rattle.rv_lawful.specs.Sight.{asked}
use Rattle.rv_engine.specs.Settings.{Setting, Machine, shape_of, tree_of}
use Rattle.rv_engine.specs.Rows.{seen_by, IsRowOf}
use Rattle.rv_machine.specs.Owing.{judged}
use Rattle.rv_machine.specs.Placed.{run, count, IsReady, Inv, entries_of}
use Rattle.rv_machine.proofs.Standing.{At}
use Rattle.rv_ports.specs.Drives.{Drives, drives_of}
use Rattle.rv_ports.specs.Seats.{is_silent, seat_of, loaded, datum_of, cell_at, shown_by}
use Rattle.rv_ports.specs.Inputs.{read_by}
use Rattle.rv_machine.proofs.ReadsInput.{IsReadTerm}
use Rattle.rv_machine.proofs.ReadsPlan.{ReadsAt}
use Rattle.rv_machine.proofs.ReadsAsked.{AsksFor}
use Rattle.rv_machine.proofs.ReadsClear.{Clear, seen_clear, clear_rest}
use Rattle.rv_machine.proofs.ReadsLoad.{OneLoad, load_term}
use Rattle.rv_machine.proofs.ReadsNow as R

raw_of_custom : (xs : List Bits) (r : ℕ) → get_or (map raw_seen xs) r 0 ≡ raw_seen (get_or xs r zero_bit)
raw_of_custom [] r = refl
raw_of_custom (x ∷ xs) zero = refl
raw_of_custom (x ∷ xs) (suc r) = raw_of_custom xs r

-- when the result of a read is there that is at this time
abbrev pub ResultAt : Shape → Kind → ℕ → ℕ → Type 0
ResultAt shape kind time stage = time + latency_of shape kind ≡ stage

module _ (k : Setting) (ready : IsReady k) (earlier : List Row) (m : Machine) (row : Row) (inv : Inv k earlier m) (is : IsRowOf k m row)
    (file : future_file (judged k) earlier ≡ m.future) (clear : Clear k 0 m.slots)
    (n : ℕ) (c : Cell) (stands : Lawful.Stands (judged k) row n c) (alive : has_serial row.flushed c.serial ≡ false) (speaks : is_silent c.hold ≡ false) where
  abbrev d : Drives
  d = drives_of k.design k.image k.waits k.lines k.places

  -- its place
  abbrev p : ℕ
  p = retirements earlier + count (R.here k ready earlier m row inv is n c stands alive).older

  abbrev here : At k (retirements earlier) n c (seen_by k m)
  here = R.here k ready earlier m row inv is n c stands alive

  custom_shown : (shown_by d earlier row).custom ≡ future_file (judged k) earlier
  unfolding shown_by
  custom_shown = refl

  datum_shown : (shown_by d earlier row).datum ≡ datum_of d earlier row (cell_at (judged k) row (shape_of k).mem)
  unfolding shown_by
  datum_shown = refl

  module _ (g : Graph) (valid : IsValidGraph g) (j : ℕ) (op : Op) (there : slice_get g.ops j ≡ Some op) (reads : role_of op.kind ≡ Read) where
    -- with the values of the place
    abbrev IsDriven : ℕ → Type 0
    IsDriven q = read_by (shown_by d earlier row) (seat_of d earlier row n c) op.kind % 2 ^ op.ty.width ≡ values_under g (inputs_at c.word (run k q)) j

    abbrev inputs : Inputs
    inputs = inputs_at c.word (run k p)

    module _ (term : IsReadTerm g (inputs_at c.word (run k p)) j op) where
      abbrev numbers : List ℤ
      numbers = numbers_of g (values_under g inputs) op

      -- what is read is what the core has there
      plain : (kind : Kind) → op.kind ≡ kind → read_by (shown_by d earlier row) (seat_of d earlier row n c) kind ≡ read_raw inputs kind op.ty numbers → IsDriven p
      plain kind same e =
          ap (λ z. read_by (shown_by d earlier row) (seat_of d earlier row n c) z % 2 ^ op.ty.width) same
          ∙ ap (λ z. z % 2 ^ op.ty.width) (e ∙ ap (λ z. read_raw inputs z op.ty numbers) (sym same) ∙ sym term.gives)
          ∙ term.fits

      -- at EX and later
      module _ (past : (shape_of k).ex ≤ n) where
        free : n ≡ (shape_of k).ex → operand_hold (shape_of k) (suc n) here.older here.token.asks ≡ None
        free at =
            R.operand_free k ready earlier m row inv is n c stands alive speaks past at
            (λ lt. let z : 0 + n ≡ n = omega arith in
            subst (λ b. operand_hold (shape_of k) (suc b) here.older here.token.asks ≡ None) z (clear_rest k 0 n (seen_by k m) here.older here.token (seen_clear k ready earlier m row inv is clear) here.rest (omega (arith, lt))))

        at_execute : (time : ℕ) → time + 0 ≡ n → time ≤ (shape_of k).ex → n ≡ (shape_of k).ex
        at_execute time e le = omega (arith, e, le, past)

        -- what an instruction of the extension loads
        abbrev pub Loads : Type 0
        Loads = (own : ℕ) × (decoded_in (tree_of k) c.word ≡ Some (D.Own own)) × DoesTheSame (tree_of k) (W.Instruction own) inputs g (values_under g inputs) × OneLoad g

        memory_driven : op.kind ≡ RdMem → n ≡ (shape_of k).mem → (asked k.design c.word).loads ≡ true → HasValues g inputs → Loads → IsDriven p
        memory_driven same at loads values own =
            let after = ready.ex_mem in
            let place_is = R.place_is k ready earlier m row inv is n c stands alive in
            let cell : cell_at (judged k) row (shape_of k).mem ≡ Some c = ap (λ i. cell_in (slice_get (Lawful.stages_of (judged k) row) i)) (sym at) ∙ ap cell_in stands in
            let datum : (shown_by d earlier row).datum ≡ loaded m.arch.mem (run_trial (tree_of k) k.image (entries_of k) p).load =
            datum_shown ∙ ap (datum_of d earlier row) cell
            ∙ ap (λ (s : Arch). loaded s.mem (run_trial (tree_of k) k.image (entries_of k) (place (row ∷ earlier) c.serial)).load) inv.state
            ∙ ap (λ q. loaded m.arch.mem (run_trial (tree_of k) k.image (entries_of k) q).load) place_is in
            ap (λ z. read_by (shown_by d earlier row) (seat_of d earlier row n c) z % 2 ^ op.ty.width) same
            ∙ ap (λ v. v % 2 ^ op.ty.width) datum
            ∙ load_term k p c.word own.0 (R.word_there k ready earlier m row inv is n c stands alive speaks past) own.1 (R.no_stop k ready earlier m row inv is n c stands alive (omega (arith, after, at)))
            g (values_under g inputs) m.arch.mem valid values.meaning own.2 own.3 (R.memory_is k ready earlier m row inv is n c stands alive speaks past at loads) j op there same
            ∙ ap (λ z. read_raw inputs z op.ty numbers) (sym same) ∙ sym term.gives

        by_kind : HasValues g inputs → (kind : Kind) → op.kind ≡ kind → role_of kind ≡ Read → (time : ℕ) → ReadsAt (shape_of k) kind time → ResultAt (shape_of k) kind time n → AsksFor (asked k.design c.word) c.word kind → (kind ≡ RdMem → Loads)
            → IsDriven p
        by_kind values RdInstr same role time at result asks own = plain RdInstr same refl
        by_kind values RdPC same role time at result asks own = plain RdPC same (R.address k ready earlier m row inv is n c stands alive speaks past)
        by_kind values RdRS1 same role time at result asks own =
            let ex = at_execute time result at.1 in
            plain RdRS1 same (R.first_now k ready earlier m row inv is n c stands alive speaks past ex (free ex) asks)
        by_kind values RdRS2 same role time at result asks own =
            let ex = at_execute time result at.1 in
            plain RdRS2 same (R.second_now k ready earlier m row inv is n c stands alive speaks past ex (free ex) asks)
        by_kind values (RdCustReg r) same role time at result asks own =
            let ex = at_execute time result (omega (arith, at)) in
            plain (RdCustReg r) same
            (ap (λ (l : List Bits). (get_or l r zero_bit).raw) (custom_shown ∙ file)
            ∙ ap raw_seen (R.custom_is k ready earlier m row inv is n c stands alive speaks past ex r asks.1)
            ∙ sym (raw_of_custom (run k p).custom r))
        by_kind values RdMem same role time at result asks own =
            let less = ready.ex_mem in
            memory_driven same (omega (arith, at, result, less)) asks values (own refl)
        by_kind values kind same role time at result asks own = cc

        -- it is the term's at its place
        pub driven_now : HasValues g inputs → (time : ℕ) → ReadsAt (shape_of k) op.kind time → ResultAt (shape_of k) op.kind time n → AsksFor (asked k.design c.word) c.word op.kind → (op.kind ≡ RdMem → Loads) → IsDriven (place (row ∷ earlier) c.serial)
        driven_now values time at result asks own =
            subst IsDriven (sym (R.place_is k ready earlier m row inv is n c stands alive)) (by_kind values op.kind refl reads time at result asks own)

      -- as it leaves RD below EX, where its address is the run's
      module _ (at_rd : n ≡ (shape_of k).rd) (early : n < (shape_of k).ex) (goes : is_some c.hold ≡ false) (address : c.at ≡ (run k (place (row ∷ earlier) c.serial)).pc) where
        early_kind : (kind : Kind) → op.kind ≡ kind → role_of kind ≡ Read → (time : ℕ) → ReadsAt (shape_of k) kind time → ResultAt (shape_of k) kind time n → AsksFor (asked k.design c.word) c.word kind
            → IsDriven p
        early_kind RdInstr same role time at result asks = plain RdInstr same refl
        early_kind RdPC same role time at result asks = plain RdPC same (address ∙ ap (λ q. (run k q).pc) (R.place_is k ready earlier m row inv is n c stands alive))
        early_kind RdRS1 same role time at result asks = plain RdRS1 same (R.first_early k ready earlier m row inv is n c stands alive speaks at_rd early goes asks)
        early_kind RdRS2 same role time at result asks = plain RdRS2 same (R.second_early k ready earlier m row inv is n c stands alive speaks at_rd early goes asks)
        early_kind (RdCustReg r) same role time at result asks = absurd (omega (arith, at, result, early))
        early_kind RdMem same role time at result asks = absurd (omega (arith, at, result, early))
        early_kind kind same role time at result asks = cc

        pub driven_early : (time : ℕ) → ReadsAt (shape_of k) op.kind time → ResultAt (shape_of k) op.kind time n → AsksFor (asked k.design c.word) c.word op.kind → IsDriven (place (row ∷ earlier) c.serial)
        driven_early time at result asks = subst IsDriven (sym (R.place_is k ready earlier m row inv is n c stands alive)) (early_kind op.kind refl reads time at result asks)
