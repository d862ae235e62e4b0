-- Of a token that is watched the inputs carry the values of the run.
use Rattle.std.proofs.Common.{◌≡◌, ◌≢◌, ◌∙◌, refl, sym, ap, subst, ℕ, suc, ◌+◌, ◌-◌, ◌%◌, ◌^◌, ◌<◌, ◌≤◌, List, [], ◌∷◌, ◌++◌, length, Option, Some, None, Bool, true, false, inl, inr, ◌⊎◌, arith}
use Rattle.std.specs.Prelude.{slice_get, slice_index, is_some, if◌then◌else◌, ◌==◌, ◌||◌, ◌&&◌}
use Rattle.std.proofs.lemmas.Bool.{cases_lt}
use Rattle.std.proofs.lemmas.Bool.Decides.{nat_tests}
use Rattle.std.proofs.lemmas.List.{append_assoc}
use Rattle.ix_extension.specs.Extensions.{ExtensionTree, view_extension}
use Rattle.ix_extension.specs.WellFormed.{IsOf}
use Rattle.ix_tree.specs.TypedTrees.{TypedTextTree}
use Rattle.ix_graph.specs.declared.graph.Mode.{Mode}
use Rattle.ix_graph.specs.declared.graph.Mode.TheVariants.{InPipeline, Tight, Decoupled, Always}
use Rattle.ix_graph.specs.declared.graph.Graph.{Graph}
use Rattle.ix_graph.specs.declared.graph.Op.{Op}
use Rattle.ix_graph.specs.declared.kind.Kind.{Kind}
use Rattle.ix_graph.specs.declared.kind.Kind.TheVariants.{RdInstr, RdRS1, RdRS2, RdPC, RdCustReg, RdMem}
use Rattle.ix_graph.specs.declared.role.Role.TheVariants.{Read}
use Rattle.ix_graph.specs.Graphs.{IsValidGraph}
use Rattle.ix_graph.specs.Roles.{role_of}
use Rattle.ix_graph_laws.specs.GraphEffects.{values_under}
use Rattle.ix_graph_laws.specs.Laws.{HasValues, DoesTheSame}
use Rattle.ix_graph_laws.specs.Operations.{IsGraphOf}
use Rattle.ix_behaviour.specs.declared.which.Which.{Which}
use Rattle.ix_behaviour.specs.declared.which.Which.TheVariants as W
use Rattle.ix_behaviour.specs.Behaviours.{HasBehaviour}
use Rattle.ix_net.specs.declared.netlist.Net.{Net}
use Rattle.ix_net.specs.Run.{cycle_at}
use Rattle.ix_net.specs.Valuation.{inputs_of, value_of}
use Rattle.ix_plan.specs.declared.design.Design.{Design}
use Rattle.ix_plan.specs.declared.design.Plan.{Plan}
use Rattle.ix_plan.specs.Service.{result_time}
use Rattle.ix_plan.specs.Units.{Slots as UnitSlots}
use Rattle.ix_ports.specs.Ports.{input_name}
use Rattle.ix_sheet.specs.Behaviours.{latency_of, IsModeOf}
use Rattle.ix_sheet.specs.declared.sheet.Sheet.{Sheet}
use Rattle.ix_standing.specs.Standing.{is_block, IsPlanned}
use Rattle.rv_core.specs.declared.Shape.{Shape}
use Rattle.rv_seq.specs.declared.decoded.Decoded.TheVariants as D
use Rattle.rv_seq.specs.Decoding.{decoded_in}
use Rattle.rv_seq.specs.declared.arch.Arch.{Arch}
use Rattle.rv_seq.specs.States.{inputs_at}
use Rattle.rv_trace.specs.declared.row.Cell.{Cell}
use Rattle.rv_trace.specs.declared.row.Hold.{Hold}
use Rattle.rv_trace.specs.declared.row.Hold.TheVariants as H
use Rattle.rv_trace.specs.declared.row.Row.{Row}
use Rattle.rv_trace.specs.Trace.{newest, has_serial, is_flushed, is_retired, place, retirements}
use Rattle.rv_holds.specs.declared.token.Token.{Token}
use Rattle.rv_lawful.specs.Entering.{places}
use Rattle.rv_lawful.specs.Settings as Lawful
use Rattle.rv_lawful.specs.Settings.{Stands, stages_of, tailed, is_tail, has_tail}
use Rattle.rv_lawful.specs.Future.{future_file}
use Rattle.rv_lawful.specs.Sight.{asked}
use Rattle.rv_unit.proofs.Numbered.{apart_law}
use Rattle.rv_engine.specs.Settings.{Setting, Machine, setting, shape_of}
use Rattle.rv_engine.specs.Rows.{waited, loaded_by, seen_by, machine_after, IsRowOf}
use Rattle.rv_machine.specs.Owing.{judged}
use Rattle.rv_machine.specs.Placed.{run, at_places, IsReady, Inv}
use Rattle.rv_machine.specs.Running.{AreRows, machine_at}
use Rattle.rv_machine.specs.Told.{NoStops}
use Rattle.rv_machine.proofs.Flushing as F
use Rattle.rv_machine.proofs.NextRow as N
use Rattle.rv_machine.proofs.Places.{one_token, lone_stage, unflushed_before}
use Rattle.rv_machine.proofs.Carried.{row_at}
use Rattle.rv_machine.proofs.Promised.{Sights, ready_of}
use Rattle.rv_ports.specs.declared.shown.Seat.{Seat}
use Rattle.rv_ports.specs.Drives.{Drives, drives_of, own_number}
use Rattle.rv_ports.specs.Driven.{IsDriven}
use Rattle.rv_ports.specs.Inputs.{module_of, is_number, is_token, inputs_by, read_by}
use Rattle.rv_ports.specs.Seats.{is_silent, time_of, seat_of, shown_by}
use Rattle.rv_machine.specs.Promise.{IsInUnit}
use Rattle.rv_machine.specs.Lives.{IsCellAt, IsTokenAt, IsWatchedCell, IsWatched, IsDrivenBy, CarriesRun, HasRead, ReadsLaw}
use Rattle.rv_machine.proofs.InputsOver.{driven_at}
use Rattle.rv_machine.proofs.ReadsInput.{read_at, carries_one, IsReadTerm, read_term}
use Rattle.rv_machine.proofs.ReadsPlan.{IsNumbered, Behaves, behaves, ReadsAt, IsReadTime, read_time}
use Rattle.rv_machine.proofs.ReadsAsked.{AsksFor, own_word, own_asked, ReadsCustoms, block_asked}
use Rattle.rv_machine.proofs.ReadsSeat.{stage_inside, time_stage, token_is}
use Rattle.rv_machine.proofs.LivesFrame.{time_there, same_units}
use Rattle.rv_machine.proofs.ReadsClear.{Clear, clear_at, IsGoing, going_of}
use Rattle.rv_machine.proofs.ReadsInputs.{GraphLaws, graph_of, run_inputs}
use Rattle.rv_machine.proofs.ReadsKinds as K
use Rattle.rv_machine.proofs.ReadsLoad.{OneLoad}
use Rattle.rv_machine.proofs.ReadsNow as R
use Rattle.rv_machine.proofs.ReadsStays as S
use Rattle.rv_machine.proofs.ReadsUnit.{in_unit, unit_word, not_both, word_before}

-- ---- modes

own_token : (g : Graph) (sheet : Sheet) (shape : Shape) (n : ℕ) (mode : Mode) (s : Seat) → IsModeOf g sheet false mode → is_token shape n mode s ≡ true → is_number s.behaviour n ≡ true
own_token g sheet shape n InPipeline s h e = e
own_token g sheet shape n Tight s h e = e
own_token g sheet shape n Decoupled s h e = e
own_token g sheet shape n Always s h e = cc

token_own : (g : Graph) (sheet : Sheet) (shape : Shape) (n : ℕ) (mode : Mode) (s : Seat) → IsModeOf g sheet false mode → is_number s.behaviour n ≡ true → is_token shape n mode s ≡ true
token_own g sheet shape n InPipeline s h e = e
token_own g sheet shape n Tight s h e = e
token_own g sheet shape n Decoupled s h e = e
token_own g sheet shape n Always s h e = cc

block_mode : (g : Graph) (sheet : Sheet) (mode : Mode) → IsModeOf g sheet true mode → mode ≡ Always
block_mode g sheet Always h = refl
block_mode g sheet InPipeline h = (let x : true ≡ false = h.0 in cc)
block_mode g sheet Tight h = (let x : true ≡ false = h.0 in cc)
block_mode g sheet Decoupled h = (let x : true ≡ false = h.0 in cc)

is_number_of : (m n : ℕ) → m ≡ n → is_number (Some m) n ≡ true
is_number_of m n e = grind (arith, nat_tests)

-- the result of a read is there by the last stage
result_inside : (s : Setting) → IsReady s → (kind : Kind) → role_of kind ≡ Read → (time : ℕ) → ReadsAt (shape_of s) kind time → ((shape_of s).rd ≤ time + latency_of (shape_of s) kind) × (time + latency_of (shape_of s) kind < (shape_of s).stages)
result_inside s ready RdInstr e time h = let a = h.0 in let b = h.1 in (omega (arith, a), omega (arith, b))
result_inside s ready RdPC e time h = let a = h.0 in let b = h.1 in (omega (arith, a), omega (arith, b))
result_inside s ready RdRS1 e time h = let a = h.0 in let b = h.1 in let c = ready.ex_last in (omega (arith, a), omega (arith, b, c))
result_inside s ready RdRS2 e time h = let a = h.0 in let b = h.1 in let c = ready.ex_last in (omega (arith, a), omega (arith, b, c))
result_inside s ready (RdCustReg r) e time h = let a = ready.rd_ex in let c = ready.ex_last in (omega (arith, h, a), omega (arith, h, c))
result_inside s ready RdMem e time h = let a = ready.rd_ex in let b = ready.ex_mem in let c = ready.mem_last in (omega (arith, h, a, b), omega (arith, h, b, c))
result_inside s ready kind e time h = cc

-- what reads at EX has its result there at the earliest
result_late : (s : Setting) → (kind : Kind) (time n : ℕ) → time ≡ (shape_of s).ex → time + latency_of (shape_of s) kind ≡ n → (shape_of s).ex ≤ n
result_late s kind time n e h = omega (arith, e, h)

same_time : (a b : ℕ) → a ≡ b → (a == b) ≡ true
same_time a b e = grind (arith, nat_tests)

block_result : (s : Setting) (kind : Kind) → ReadsCustoms kind → (time : ℕ) → time ≡ (shape_of s).ex → time + latency_of (shape_of s) kind ≡ (shape_of s).ex
block_result s RdMem h time e = absurd h
block_result s kind h time e = omega (arith, e)

-- ---- lists of rows

split_rows : (newer base : List Row) (row : Row) (earlier : List Row) → row ∷ earlier ≡ newer ++ base → (x : Row) (rest : List Row) → base ≡ x ∷ rest → (mid : List Row) × (earlier ≡ mid ++ rest)
split_rows [] base row earlier e x rest f = (let same : row ∷ earlier ≡ x ∷ rest = e ∙ f in let z : earlier ≡ rest = cc in ([], z))
split_rows (y ∷ newer) base row earlier e x rest f =
    let z : earlier ≡ newer ++ base = cc in
    (newer ++ (x ∷ []), z ∙ ap (λ l. newer ++ l) f ∙ sym (append_assoc newer (x ∷ []) rest))

unflushed_rest : (newer base : List Row) (s : ℕ) → is_flushed (newer ++ base) s ≡ false → is_flushed base s ≡ false
unflushed_rest [] base s h = h
unflushed_rest (row ∷ newer) base s h = unflushed_rest newer base s (unflushed_before row (newer ++ base) s h)

unflushed_row : (row : Row) (rows : List Row) (s : ℕ) → is_flushed (row ∷ rows) s ≡ false → has_serial row.flushed s ≡ false
unfolding is_flushed
unflushed_row row rows s h = by_flag (has_serial row.flushed s) h where
  by_flag : (b : Bool) → (b || is_flushed rows s) ≡ false → b ≡ false
  by_flag true q = cc
  by_flag false q = refl

-- ---- a cell that is held has its time still

silent_no_tail : (o : Option Hold) → is_silent o ≡ true → is_tail o ≡ false
silent_no_tail None e = cc
silent_no_tail (Some (H.Operand r j)) e = refl
silent_no_tail (Some (H.Board t j)) e = refl
silent_no_tail (Some (H.Custom r j)) e = refl
silent_no_tail (Some (H.Late j)) e = refl
silent_no_tail (Some H.Trap) e = refl
silent_no_tail (Some (H.Drain j)) e = refl
silent_no_tail (Some (H.Wait left)) e = refl
silent_no_tail (Some (H.StoreAhead j)) e = refl
silent_no_tail (Some (H.Tail left)) e = cc
silent_no_tail (Some (H.UnitFull u)) e = refl
silent_no_tail (Some (H.Port j)) e = refl
silent_no_tail (Some H.Behind) e = refl

free_speaks : (o : Option Hold) → is_some o ≡ false → is_silent o ≡ false
free_speaks None e = refl
free_speaks (Some x) e = cc

-- one that shows no Tail was held no more by it
tailed_same : (s : Lawful.Setting) (past : Row) (older : List Row) (stage : ℕ) (c : Cell) (serial : ℕ) → Stands s past stage c → suc stage ≡ s.shape.stages → is_tail c.hold ≡ false → tailed s (past ∷ older) serial ≡ tailed s older serial
unfolding tailed
tailed_same s past older stage c serial stands last e =
    let at : s.shape.stages - 1 ≡ stage = omega (arith, last) in
    ap (λ (b : Bool). if b then suc (tailed s older serial) else tailed s older serial)
    (ap (λ i. has_tail (slice_get (stages_of s past) i) serial) at ∙ ap (λ q. has_tail q serial) stands ∙ ap (λ (b : Bool). (c.serial == serial) && b) e ∙ never (c.serial == serial)) where
      never : (b : Bool) → (b && false) ≡ false
      never true = refl
      never false = refl

time_held : (s : Lawful.Setting) (past : Row) (older : List Row) (stage : ℕ) (c e : Cell) → Stands s past stage c → e.serial ≡ c.serial → is_tail c.hold ≡ false → time_of s (past ∷ older) stage e ≡ time_of s older stage c
time_held s past older stage c e stands same untailed = by_case (suc stage == s.shape.stages) refl where
  by_case : (b : Bool) → (suc stage == s.shape.stages) ≡ b → (if b then stage + tailed s (past ∷ older) e.serial else stage) ≡ (if b then stage + tailed s older c.serial else stage)
  by_case true q =
      let last : suc stage ≡ s.shape.stages = grind (arith, nat_tests) in
      ap (λ i. stage + tailed s (past ∷ older) i) same ∙ ap (λ i. stage + i) (tailed_same s past older stage c c.serial stands last untailed)
  by_case false q = refl

-- below the last stage a cell's time is its stage
time_low : (s : Lawful.Setting) (rows : List Row) (stage : ℕ) (c : Cell) → suc stage < s.shape.stages → time_of s rows stage c ≡ stage
time_low s rows stage c lt =
    let less : (suc stage == s.shape.stages) ≡ false = grind (arith, nat_tests) in
    ap (λ (b : Bool). if b then stage + tailed s rows c.serial else stage) less

-- ---- a plan, with its net and the rows that drive it

module _ (sights : Sights) (laws : GraphLaws) (d : Design) (image waits : List ℕ) (lines : Option (List ℕ)) (n : ℕ) (p : Plan) (net : Net) (row : Row) (earlier : List Row) (cycles : List (List ℕ)) (h : IsDrivenBy d image waits lines n p net (row ∷ earlier) cycles) where
  abbrev base : Setting
  base = setting d image waits lines

  -- the row after these is judged so
  abbrev at_rows : List Row → Setting
  at_rows rows = at_places base (places rows)

  abbrev tree : ExtensionTree
  tree = view_extension d.extension

  -- and drives the module so
  abbrev driving_at : List Row → Drives
  driving_at rows = drives_of d image waits lines (places rows)

  abbrev driving : Drives
  driving = drives_of d image waits lines (places earlier)

  abbrev text : TypedTextTree
  text = h.runnable.stands.well_formed.0

  of_text : IsOf text tree
  of_text = h.runnable.stands.well_formed.1

  readies : (ps : List ℕ) → IsReady (at_places base ps)
  readies = ready_of sights d image waits lines h.runnable

  ready : IsReady base
  ready = readies []

  ready_at : (rows : List Row) → IsReady (at_places base (places rows))
  ready_at rows = readies (places rows)

  goes_at : IsGoing base
  goes_at = going_of base readies

  b : Behaves d n p net
  b = behaves d h.runnable.stands n p net h.plan h.net_is

  graph : (w : Which) → IsPlanned tree d.sheet w p → IsGraphOf tree w p.graph
  graph w planned = graph_of tree d.sheet w p planned

  valid : IsValidGraph p.graph
  valid = laws.valid text tree b.which p.graph of_text b.has (graph b.which b.built.planned)

  values_at : (rows : List Row) (word q : ℕ) → word < 2 ^ 32 → HasValues p.graph (inputs_at word (run (at_rows rows) q))
  values_at rows word q few =
      laws.values text tree b.which p.graph of_text b.has (graph b.which b.built.planned) (inputs_at word (run (at_rows rows) q))
      (run_inputs (at_rows rows) (ready_at rows) b.which word q few)

  -- a word of the behaviour: its own, where it is no block
  abbrev IsOwn : Which → ℕ → Type 0
  IsOwn (W.Instruction m) word = is_number (own_number (decoded_in tree word)) n ≡ true
  IsOwn (W.Block m) word = Unit {0}

  -- a token's word is one of the behaviour
  token_word : (w : Which) → IsModeOf p.graph d.sheet (is_block w) p.mode → (s : Seat) (word : ℕ) → s.behaviour ≡ own_number (decoded_in tree word) → is_token d.sheet.shape n p.mode s ≡ true → IsOwn w word
  token_word (W.Instruction m) mode s word same e = ap (λ i. is_number i n) (sym same) ∙ own_token p.graph d.sheet d.sheet.shape n p.mode s mode e
  token_word (W.Block m) mode s word same e = tt

  -- in this cycle the input of an operation has its term's value in a state of the run
  abbrev Carried : ℕ → ℕ → ℕ → Arch → Type 0
  Carried at j a s = value_of net (cycle_at cycles at) (input_name j) ≡ values_under p.graph (inputs_at a s) j

  -- ---- an operation that reads
  module _ (j : ℕ) (op : Op) (there : slice_get p.graph.ops j ≡ Some op) (reads : role_of op.kind ≡ Read) where
    time : IsReadTime d.sheet.shape p.mode op.kind (slice_index p.times j)
    time = read_time p.graph d.sheet p.mode valid h.runnable.stands.sheet p.times b.built.planned.schedule j op there reads

    inside : (d.sheet.shape.rd ≤ result_time d.sheet.shape p.times j op) × (result_time d.sheet.shape p.times j op < d.sheet.shape.stages)
    inside = result_inside base ready op.kind reads (slice_index p.times j) time.reads

    -- what a token's word is asked for, and what it loads
    record IsAsked (rows : List Row) (word : ℕ) : Type 0 where
      asks : AsksFor (asked d word) word op.kind
      loads : (q : ℕ) → word < 2 ^ 32 → op.kind ≡ RdMem → (own : ℕ) × (decoded_in tree word ≡ Some (D.Own own))
          × DoesTheSame tree (W.Instruction own) (inputs_at word (run (at_rows rows) q)) p.graph (values_under p.graph (inputs_at word (run (at_rows rows) q))) × OneLoad p.graph

    asked_of : (rows : List Row) (w : Which) → IsNumbered d n w → HasBehaviour tree w → IsPlanned tree d.sheet w p → (word : ℕ) → IsOwn w word → IsAsked rows word
    asked_of rows (W.Instruction m) number has planned word own =
        let is = own_word d word n own in
        let there_own : HasBehaviour tree (W.Instruction n) = subst (λ i. HasBehaviour tree (W.Instruction i)) number has in
        let g : IsGraphOf tree (W.Instruction n) p.graph = subst (λ i. IsGraphOf tree (W.Instruction i) p.graph) number (graph (W.Instruction m) planned) in
        record {
          asks = own_asked d word n p h.plan is valid j op there;
          loads = λ q few same. (
            n,
            is,
            (let v = values_at rows word q few in
                laws.effect text tree (W.Instruction n) p.graph of_text there_own g (inputs_at word (run (at_rows rows) q))
                (values_under p.graph (inputs_at word (run (at_rows rows) q))) (run_inputs (at_rows rows) (ready_at rows) (W.Instruction n) word q few) v.meaning v.reads),
            laws.alone text tree (W.Instruction n) p.graph of_text there_own g,
          );
        }
    asked_of rows (W.Block m) number has planned word own =
        let plain = laws.blocks text tree m p.graph of_text has (graph (W.Block m) planned) j op there in
        record {
          asks = block_asked d word n m p number h.plan valid j op there plain;
          loads = λ q few same. absurd (subst ReadsCustoms same plain);
        }

    -- and whoever has such a word, at the time of the read, is a token
    word_token : (w : Which) → HasBehaviour tree w → IsPlanned tree d.sheet w p → (s : Seat) (word : ℕ) → s.behaviour ≡ own_number (decoded_in tree word)
        → s.time ≡ result_time d.sheet.shape p.times j op → IsOwn w word → is_token d.sheet.shape n p.mode s ≡ true
    word_token (W.Instruction m) has planned s word same at own = token_own p.graph d.sheet d.sheet.shape n p.mode s planned.mode (ap (λ i. is_number i n) same ∙ own)
    word_token (W.Block m) has planned s word same at own =
        let plain = laws.blocks text tree m p.graph of_text has (graph (W.Block m) planned) j op there in
        let always = block_mode p.graph d.sheet p.mode planned.mode in
        ap (λ i. is_token d.sheet.shape n i s) always ∙ same_time s.time d.sheet.shape.ex (at ∙ block_result base op.kind plain (slice_index p.times j) (time.always always))

  -- ---- rows
  record RowFacts (older : List Row) (past : Row) : Type 0 where
    inv : Inv (at_rows older) older (machine_at base older)
    is : IsRowOf (at_rows older) (machine_at base older) past
    goes : (newest older).stop ≡ None
    file : future_file (judged (at_rows older)) older ≡ (machine_at base older).future
    clear : Clear (at_rows older) 0 (machine_at base older).slots
    inputs : inputs_of net (cycle_at cycles (length older)) ≡ inputs_by (module_of (driving_at older) n p) p (shown_by (driving_at older) older past)

  row_facts : (newer older : List Row) (past : Row) → row ∷ earlier ≡ newer ++ (past ∷ older) → RowFacts older past
  row_facts newer older past e =
      let are : AreRows base (past ∷ older) = S.rows_rest base newer (past ∷ older) (subst (λ l. AreRows base l) e h.are_rows) in
      record {
        inv = goes_at older are.2 are.1;
        is = row_at base (places older) (machine_at base older) past are.0;
        goes = are.1;
        file = (goes_at older are.2 are.1).file;
        clear = clear_at base readies goes_at (places older) older are.2 are.1;
        inputs = driven_at (drives_of d image waits lines) n p net newer older past cycles (subst (λ l. IsDriven (drives_of d image waits lines) n p net l cycles) e h.driven);
      }

  -- ---- a cell of a row
  module _ (older : List Row) (past : Row) (f : RowFacts older past) (stage : ℕ) (c : Cell) (stands : Stands (judged (at_rows older)) past stage c)
      (alive : has_serial past.flushed c.serial ≡ false) (speaks : is_silent c.hold ≡ false) where
    abbrev m : Machine
    m = machine_at base older

    cell_word : c.word < 2 ^ 32
    cell_word = R.word_few (at_rows older) (ready_at older) older (machine_at base older) past f.inv f.is stage c stands alive

    module _ (j : ℕ) (op : Op) (there : slice_get p.graph.ops j ≡ Some op) (reads : role_of op.kind ≡ Read) (own : IsOwn b.which c.word) where
      facts : IsAsked j op there reads older c.word
      facts = asked_of j op there reads older b.which b.number b.has b.built.planned c.word own

      term_at : (q : ℕ) → IsReadTerm p.graph (inputs_at c.word (run (at_rows older) q)) j op
      term_at q = read_term p.graph (inputs_at c.word (run (at_rows older) q)) (values_at older c.word q cell_word) j op there reads

      -- its input
      input_is : time_of (judged (at_rows older)) older stage c ≡ result_time d.sheet.shape p.times j op → (v : ℕ) → read_by (shown_by (driving_at older) older past) (seat_of (driving_at older) older past stage c) op.kind % 2 ^ op.ty.width ≡ v
          → value_of net (cycle_at cycles (length older)) (input_name j) ≡ v
      input_is at v e =
          let s = seat_of (driving_at older) older past stage c in
          let token = word_token j op there reads b.which b.has b.built.planned s c.word refl at own in
          read_at (module_of (driving_at older) n p) p (shown_by (driving_at older) older past) net (cycle_at cycles (length older)) b.built.valid b.built.serves.inputs f.inputs j op there reads
          ∙ carries_one (module_of (driving_at older) n p) p.times (shown_by (driving_at older) older past) j op s v
          (token_is (driving_at older) older past stage c stands ready.most (module_of (driving_at older) n p) (result_time d.sheet.shape p.times j op) at (inside j op there reads).1 token)
          speaks e

      -- at EX and later it carries the term at the cell's place
      now_carries : time_of (judged (at_rows older)) older stage c ≡ result_time d.sheet.shape p.times j op → d.sheet.shape.ex ≤ stage → stage ≡ result_time d.sheet.shape p.times j op
          → value_of net (cycle_at cycles (length older)) (input_name j) ≡ values_under p.graph (inputs_at c.word (run (at_rows older) (place (past ∷ older) c.serial))) j
      now_carries at late result =
          let q = R.p (at_rows older) (ready_at older) older (machine_at base older) past f.inv f.is stage c stands alive in
          input_is at (values_under p.graph (inputs_at c.word (run (at_rows older) (place (past ∷ older) c.serial))) j)
          (K.driven_now (at_rows older) (ready_at older) older (machine_at base older) past f.inv f.is f.file f.clear stage c stands alive speaks p.graph valid j op there reads (term_at q) late (values_at older c.word q cell_word)
          (slice_index p.times j) (time j op there reads).reads (sym result) facts.asks (λ same. facts.loads q cell_word same))

      -- and so below EX, as it leaves RD with the address of the run
      early_carries : time_of (judged (at_rows older)) older stage c ≡ result_time d.sheet.shape p.times j op → stage ≡ d.sheet.shape.rd → stage < d.sheet.shape.ex → is_some c.hold ≡ false → stage ≡ result_time d.sheet.shape p.times j op
          → c.at ≡ (run (at_rows older) (place (past ∷ older) c.serial)).pc
          → value_of net (cycle_at cycles (length older)) (input_name j) ≡ values_under p.graph (inputs_at c.word (run (at_rows older) (place (past ∷ older) c.serial))) j
      early_carries at reading early leaves result address =
          let q = R.p (at_rows older) (ready_at older) older (machine_at base older) past f.inv f.is stage c stands alive in
          input_is at (values_under p.graph (inputs_at c.word (run (at_rows older) (place (past ∷ older) c.serial))) j)
          (K.driven_early (at_rows older) (ready_at older) older (machine_at base older) past f.inv f.is f.file f.clear stage c stands alive speaks p.graph valid j op there reads (term_at q) reading early leaves address
          (slice_index p.times j) (time j op there reads).reads (sym result) facts.asks)

  -- ---- what is watched

  abbrev m0 : Machine
  m0 = machine_at base earlier

  facts_now : RowFacts earlier row
  facts_now = row_facts [] earlier row refl

  module _ (s word t : ℕ) (w : IsWatched driving (module_of driving n p) earlier row s word t) where
    -- its word is one of the behaviour
    watch_own : IsOwn b.which word
    watch_own = by_watch w where
      cell_own : (v : IsWatchedCell driving (module_of driving n p) earlier row s word t) → IsOwn b.which word
      cell_own v =
          subst (λ i. IsOwn b.which i) v.word_is
          (token_word b.which b.built.planned.mode (seat_of driving earlier row v.in_stage.stage v.cell) v.cell.word refl v.in_stage.token)

      unit_own : (q : Which) → IsInUnit driving (module_of driving n p) earlier row t s word → IsOwn q word
      unit_own (W.Block i) v = tt
      unit_own (W.Instruction i) v =
          let r = in_unit (at_rows earlier) earlier (machine_at base earlier) facts_now.inv v.unit v.slots v.after s v.at v.stands in
          let y = unit_word d r.word v.unit r.unit in
          let same : y.0 ≡ n = apart_law d.plans y.0 n v.unit y.2 v.own in
          let named : word ≡ r.word = r.only word (word_before (at_rows earlier) (ready_at earlier) earlier (machine_at base earlier) row facts_now.inv facts_now.is s word r.retired v.word_is) in
          ap (λ z. is_number (own_number (decoded_in tree z)) n) named ∙ ap (λ z. is_number (own_number z) n) y.1 ∙ is_number_of y.0 n same

      by_watch : IsWatched driving (module_of driving n p) earlier row s word t → IsOwn b.which word
      by_watch (inl v) = cell_own v
      by_watch (inr v) = unit_own b.which v

    watch_alive : is_flushed (row ∷ earlier) s ≡ false
    watch_alive = by_watch w where
      by_watch : IsWatched driving (module_of driving n p) earlier row s word t → is_flushed (row ∷ earlier) s ≡ false
      by_watch (inl v) =
          ap (λ i. is_flushed (row ∷ earlier) i) (sym v.serial)
          ∙ R.unflushed (at_rows earlier) (ready_at earlier) earlier (machine_at base earlier) row facts_now.inv facts_now.is v.in_stage.stage v.cell v.in_stage.stands v.in_stage.unflushed
      by_watch (inr v) =
          let r = in_unit (at_rows earlier) earlier (machine_at base earlier) facts_now.inv v.unit v.slots v.after s v.at v.stands in
          F.kept_alive (at_rows earlier) (ready_at earlier) earlier (machine_at base earlier) row facts_now.inv facts_now.is s r.alive r.retired

    -- where it is at EX or later, or was retired, its address is the run's
    watch_address : (at other : ℕ) → S.Fate (at_rows earlier) earlier (machine_at base earlier).slots d.sheet.shape.ex s at other → at ≡ (run (at_rows earlier) (place (row ∷ earlier) s)).pc
    watch_address at other fate = by_fate fate where
      place_same : place (row ∷ earlier) s ≡ place earlier s
      place_same = S.place_next (at_rows earlier) (ready_at earlier) earlier (machine_at base earlier) row facts_now.inv facts_now.is d.sheet.shape.ex s at other watch_alive fate

      in_slots : S.InSlots (machine_at base earlier).slots d.sheet.shape.ex s at other → IsWatched driving (module_of driving n p) earlier row s word t → at ≡ (run (at_rows earlier) (place (row ∷ earlier) s)).pc
      in_slots y (inr v) =
          let r = in_unit (at_rows earlier) earlier (machine_at base earlier) facts_now.inv v.unit v.slots v.after s v.at v.stands in
          absurd
          (not_both (at_rows earlier) earlier (machine_at base earlier) facts_now.inv (machine_at base earlier).slots facts_now.inv.serials y.stage y.token y.there
          (ap (λ i. is_retired earlier i) y.serial ∙ r.retired))
      in_slots y (inl v) =
          let c = v.cell in
          let st = v.in_stage in
          let m1 = machine_at base earlier in
          let inv = facts_now.inv in
          let is = facts_now.is in
          let x = S.in_row (at_rows earlier) (ready_at earlier) earlier m1 row inv is y.stage y.token y.there in
          let here = R.here (at_rows earlier) (ready_at earlier) earlier m1 row inv is st.stage c st.stands st.unflushed in
          let loaded = (F.left_from (at_rows earlier) (ready_at earlier) earlier m1 row inv is st.stage here.token (R.seen_here (at_rows earlier) (ready_at earlier) earlier m1 row inv is st.stage c st.stands st.unflushed)).1 in
          let serials : x.token.cell.serial ≡ here.token.cell.serial = x.alike.serial ∙ y.serial ∙ sym v.serial ∙ ap (λ (z : Cell). z.serial) (sym here.is) in
          let stage = lone_stage earlier (retirements earlier) (loaded_by (at_rows earlier) m1) y.stage st.stage x.token here.token (F.loaded_serials (at_rows earlier) (ready_at earlier) earlier m1 row inv is) x.loaded loaded serials in
          let token = one_token earlier (retirements earlier) y.stage st.stage (loaded_by (at_rows earlier) m1) x.token here.token (F.loaded_serials (at_rows earlier) (ready_at earlier) earlier m1 row inv is) x.loaded loaded serials in
          let low = y.low in
          let address = R.address (at_rows earlier) (ready_at earlier) earlier m1 row inv is st.stage c st.stands st.unflushed st.speaks (omega (arith, low, stage)) in
          sym y.at_is ∙ sym x.alike.at ∙ ap (λ (z : Token). z.cell.at) token ∙ ap (λ (z : Cell). z.at) here.is ∙ address
          ∙ ap (λ q. (run (at_rows earlier) q).pc) (sym (R.place_is (at_rows earlier) (ready_at earlier) earlier m1 row inv is st.stage c st.stands st.unflushed) ∙ ap (λ i. place (row ∷ earlier) i) v.serial)

      by_fate : S.Fate (at_rows earlier) earlier (machine_at base earlier).slots d.sheet.shape.ex s at other → at ≡ (run (at_rows earlier) (place (row ∷ earlier) s)).pc
      by_fate (inl y) = in_slots y w
      by_fate (inr y) = y.at_is ∙ ap (λ q. (run (at_rows earlier) q).pc) (sym place_same)

    -- ---- now, from EX on
    watch_now : d.sheet.shape.ex ≤ t → CarriesRun driving p net (cycle_at cycles (length earlier)) t word (place (row ∷ earlier) s)
    watch_now late j op there reads result = by_watch w where
      inside_now : (d.sheet.shape.rd ≤ result_time d.sheet.shape p.times j op) × (result_time d.sheet.shape p.times j op < d.sheet.shape.stages)
      inside_now = inside j op there reads

      by_watch : IsWatched driving (module_of driving n p) earlier row s word t → Carried (length earlier) j word (run (at_rows earlier) (place (row ∷ earlier) s))
      by_watch (inr v) = let lt = inside_now.1 in let time = v.time in absurd (omega (arith, lt, time, result))
      by_watch (inl v) =
          let st = v.in_stage in
          let lt = inside_now.1 in
          let inside_stage = stage_inside (judged (at_rows earlier)) row st.stage v.cell st.stands in
          let at : t ≡ st.stage = time_stage (judged (at_rows earlier)) earlier st.stage v.cell t inside_stage st.time (omega (arith, lt, result)) in
          subst (λ a. Carried (length earlier) j a (run (at_rows earlier) (place (row ∷ earlier) s))) v.word_is
          (subst (λ q. Carried (length earlier) j v.cell.word (run (at_rows earlier) (place (row ∷ earlier) q))) v.serial
          (now_carries earlier row facts_now st.stage v.cell st.stands st.unflushed st.speaks j op there reads (subst (λ i. IsOwn b.which i) (sym v.word_is) watch_own) (st.time ∙ sym result) (omega (arith, at, late)) (sym at ∙ sym result)))

    -- ---- as it left a time
    module _ (newer older : List Row) (next past : Row) (u v : ℕ) (rows : row ∷ earlier ≡ newer ++ (next ∷ past ∷ older))
        (there_next : IsTokenAt driving (module_of driving n p) (past ∷ older) next s word v) (differs : u ≢ v)
        (z : IsCellAt driving older past s word u) where
      abbrev m1 : Machine
      m1 = machine_at base older

      facts_past : RowFacts older past
      facts_past = row_facts (newer ++ (next ∷ [])) older past (rows ∙ sym (append_assoc newer (next ∷ []) (past ∷ older)))

      facts_next : RowFacts (past ∷ older) next
      facts_next = row_facts newer (past ∷ older) next rows

      unflushed_past : is_flushed (past ∷ older) s ≡ false
      unflushed_past =
          unflushed_rest (newer ++ (next ∷ [])) (past ∷ older) s
          (ap (λ l. is_flushed l s) (append_assoc newer (next ∷ []) (past ∷ older) ∙ sym rows) ∙ watch_alive)

      alive_past : has_serial past.flushed z.cell.serial ≡ false
      alive_past = ap (λ i. has_serial past.flushed i) z.serial ∙ unflushed_row past older s unflushed_past

      machine_step : machine_at base (past ∷ older) ≡ machine_after (at_rows older) (machine_at base older)
      unfolding machine_at
      machine_step = refl

      token_past : Token
      token_past = (R.here (at_rows older) (ready_at older) older (machine_at base older) past facts_past.inv facts_past.is z.stage z.cell z.stands alive_past).token

      token_cell : token_past.cell ≡ z.cell
      unfolding token_past
      token_cell = (R.here (at_rows older) (ready_at older) older (machine_at base older) past facts_past.inv facts_past.is z.stage z.cell z.stands alive_past).is

      none_past : NoStops (at_rows older) 0 (seen_by (at_rows older) (machine_at base older))
      none_past = N.no_stop (at_rows older) (ready_at older) older (machine_at base older) past facts_past.inv facts_past.is facts_next.goes

      abbrev Held : Type 0
      Held = (is_some token_past.cell.hold ≡ true) × (slice_get (machine_after (at_rows older) (machine_at base older)).slots z.stage ≡ Some (Some (waited token_past)))

      abbrev Goes : Type 0
      Goes = (is_some token_past.cell.hold ≡ false)
          × S.Fate (at_rows older) (past ∷ older) (machine_after (at_rows older) (machine_at base older)).slots (suc z.stage) token_past.cell.serial token_past.cell.at token_past.cell.word

      moved : Held ⊎ Goes
      unfolding token_past
      moved =
          S.fate_seen (at_rows older) (ready_at older) older (machine_at base older) past facts_past.inv facts_past.is none_past z.stage token_past
          (R.seen_here (at_rows older) (ready_at older) older (machine_at base older) past facts_past.inv facts_past.is z.stage z.cell z.stands alive_past)

      serial_past : token_past.cell.serial ≡ s
      serial_past = ap (λ (c : Cell). c.serial) token_cell ∙ z.serial

      -- one that is held stands there still
      held_stage : Held → (a : IsCellAt driving (past ∷ older) next s word v) → z.stage ≡ a.stage
      held_stage q a =
          let m2 = machine_at base (past ∷ older) in
          let there : slice_get m2.slots z.stage ≡ Some (Some (waited token_past)) = ap (λ (m : Machine). slice_get m.slots z.stage) machine_step ∙ q.1 in
          let x = S.in_row (at_rows (past ∷ older)) (ready_at (past ∷ older)) (past ∷ older) m2 next facts_next.inv facts_next.is z.stage (waited token_past) there in
          let y = F.shown_at (at_rows (past ∷ older)) (ready_at (past ∷ older)) (past ∷ older) m2 next facts_next.inv facts_next.is a.stage a.cell a.stands in
          lone_stage (past ∷ older) (retirements (past ∷ older)) (loaded_by (at_rows (past ∷ older)) m2) z.stage a.stage x.token y.token (F.loaded_serials (at_rows (past ∷ older)) (ready_at (past ∷ older)) (past ∷ older) m2 next facts_next.inv facts_next.is) x.loaded y.here_is
          (x.alike.serial ∙ serial_past ∙ sym a.serial ∙ sym y.serial)

      held_unit : Held → IsInUnit driving (module_of driving n p) (past ∷ older) next v s word → ⊥
      held_unit q a =
          let m2 = machine_at base (past ∷ older) in
          let there : slice_get m2.slots z.stage ≡ Some (Some (waited token_past)) = ap (λ (m : Machine). slice_get m.slots z.stage) machine_step ∙ q.1 in
          let r = in_unit (at_rows (past ∷ older)) (past ∷ older) m2 facts_next.inv a.unit a.slots a.after s (ap (λ (us : List UnitSlots). slice_get us a.unit) (same_units d image waits lines (places (past ∷ older)) (places earlier) (past ∷ older)) ∙ a.at) a.stands in
          not_both (at_rows (past ∷ older)) (past ∷ older) m2 facts_next.inv m2.slots facts_next.inv.serials z.stage (waited token_past) there (ap (λ i. is_retired (past ∷ older) i) serial_past ∙ r.retired)

      held_time : Held → is_tail z.cell.hold ≡ false → ⊥
      held_time q untailed = by_next there_next where
        by_next : IsTokenAt driving (module_of driving n p) (past ∷ older) next s word v → ⊥
        by_next (inr a) = held_unit q a
        by_next (inl a) =
            let same = held_stage q a in
            let kept : time_of (judged (at_rows earlier)) (past ∷ older) z.stage a.cell ≡ time_of (judged (at_rows earlier)) older z.stage z.cell =
            time_held (judged (at_rows earlier)) past older z.stage z.cell a.cell z.stands (a.serial ∙ sym z.serial) untailed in
            differs (sym z.time ∙ sym kept ∙ ap (λ i. time_of (judged (at_rows earlier)) (past ∷ older) i a.cell) same ∙ a.time)

      speaks_past : is_silent z.cell.hold ≡ false
      speaks_past = by_moved moved where
        by_silent : Held → (c : Bool) → is_silent z.cell.hold ≡ c → is_silent z.cell.hold ≡ false
        by_silent q false e = e
        by_silent q true e = absurd (held_time q (silent_no_tail z.cell.hold e))

        by_moved : Held ⊎ Goes → is_silent z.cell.hold ≡ false
        by_moved (inl q) = by_silent q (is_silent z.cell.hold) refl
        by_moved (inr q) = free_speaks z.cell.hold (ap (λ (c : Cell). is_some c.hold) (sym token_cell) ∙ q.0)

      -- below the last stage it went on
      goes_past : suc z.stage < d.sheet.shape.stages → Goes
      goes_past low = by_moved moved where
        by_next : Held → IsTokenAt driving (module_of driving n p) (past ∷ older) next s word v → ⊥
        by_next q (inr a) = held_unit q a
        by_next q (inl a) =
            let same = held_stage q a in
            let one = time_low (judged (at_rows earlier)) older z.stage z.cell low in
            let two = time_low (judged (at_rows earlier)) (past ∷ older) z.stage a.cell low in
            differs (sym z.time ∙ one ∙ sym two ∙ ap (λ i. time_of (judged (at_rows earlier)) (past ∷ older) i a.cell) same ∙ a.time)

        by_moved : Held ⊎ Goes → Goes
        by_moved (inl q) = absurd (by_next q there_next)
        by_moved (inr q) = q

      -- what became of it up to now
      record Tracked (least : ℕ) : Type 0 where
        fate : S.Fate (at_rows earlier) earlier (machine_at base earlier).slots least s token_past.cell.at token_past.cell.word
        run_is : run (at_rows earlier) (place (row ∷ earlier) s) ≡ run (at_rows older) (place (past ∷ older) s)

      track : (least : ℕ) → S.Fate (at_rows older) (past ∷ older) (machine_after (at_rows older) (machine_at base older)).slots least token_past.cell.serial token_past.cell.at token_past.cell.word → Tracked least
      track least fate =
          let mid = split_rows newer (next ∷ past ∷ older) row earlier rows next (past ∷ older) refl in
          let P : List Row → Type 0 = λ l. S.Fate (at_rows l) l (machine_at base l).slots least s token_past.cell.at token_past.cell.word in
          let before = unflushed_before row earlier s watch_alive in
          let step =
          S.carried_fate (at_rows older) (ready_at older) older (machine_at base older) past facts_past.inv facts_past.is least s token_past.cell.at token_past.cell.word unflushed_past
          (subst (λ i. S.Fate (at_rows older) (past ∷ older) (machine_after (at_rows older) (machine_at base older)).slots least i token_past.cell.at token_past.cell.word) serial_past fate) in
          let start : P (past ∷ older) = subst (λ (m : Machine). S.Fate (at_rows (past ∷ older)) (past ∷ older) m.slots least s token_past.cell.at token_past.cell.word) (sym machine_step) step.fate in
          let f =
          S.follows base readies goes_at mid.0 (past ∷ older) (subst (λ l. AreRows base l) mid.1 h.are_rows.2) (subst (λ l. (newest l).stop ≡ None) mid.1 h.are_rows.1) least s token_past.cell.at token_past.cell.word
          (subst (λ l. is_flushed l s ≡ false) mid.1 before) start in
          let now : P earlier = subst P (sym mid.1) f.fate in
          record {
            fate = now;
            run_is =
                ap (λ q. run (at_rows earlier) q)
                (S.place_next (at_rows earlier) (ready_at earlier) earlier (machine_at base earlier) row facts_now.inv facts_now.is least s token_past.cell.at token_past.cell.word watch_alive now)
                ∙ ap (λ l. run (at_rows l) (place l s)) mid.1 ∙ f.run_is ∙ step.run_is;
          }

      tracked : Tracked z.stage
      tracked = by_moved moved where
        weaker : Goes → S.Fate (at_rows older) (past ∷ older) (machine_after (at_rows older) (machine_at base older)).slots z.stage token_past.cell.serial token_past.cell.at token_past.cell.word
        weaker q = elim q.1 [
          | inl y ↦ (let low = y.low in inl (record { stage = y.stage; token = y.token; there = y.there; low = omega (arith, low); serial = y.serial; at_is = y.at_is; word_is = y.word_is }))
          | inr y ↦ inr y
        ]

        by_moved : Held ⊎ Goes → Tracked z.stage
        by_moved (inl q) = track z.stage (inl (record { stage = z.stage; token = waited token_past; there = q.1; low = omega arith; serial = refl; at_is = refl; word_is = refl }))
        by_moved (inr q) = track z.stage (weaker q)

      left_carries : CarriesRun driving p net (cycle_at cycles (length older)) u word (place (row ∷ earlier) s)
      left_carries j op there reads result = elim (cases_lt z.stage d.sheet.shape.ex) [
        | inl early ↦ to_now (early_value early)
        | inr late ↦ to_now (now_carries older past facts_past z.stage z.cell z.stands alive_past speaks_past j op there reads own_past (time_past ∙ sym result) late (sym at ∙ sym result))
      ] where
        inside_past : (d.sheet.shape.rd ≤ result_time d.sheet.shape p.times j op) × (result_time d.sheet.shape p.times j op < d.sheet.shape.stages)
        inside_past = inside j op there reads

        at : u ≡ z.stage
        at =
            let lt = inside_past.1 in
            time_stage (judged (at_rows earlier)) older z.stage z.cell u (stage_inside (judged (at_rows earlier)) past z.stage z.cell z.stands) z.time (omega (arith, lt, result))

        time_past : time_of (judged (at_rows older)) older z.stage z.cell ≡ u
        time_past = time_there d image waits lines (places older) (places earlier) older z.stage z.cell ∙ z.time

        own_past : IsOwn b.which z.cell.word
        own_past = subst (λ i. IsOwn b.which i) (sym z.word_is) watch_own

        to_now : Carried (length older) j z.cell.word (run (at_rows older) (place (past ∷ older) z.cell.serial)) → Carried (length older) j word (run (at_rows earlier) (place (row ∷ earlier) s))
        to_now e = subst (λ a. Carried (length older) j a (run (at_rows earlier) (place (row ∷ earlier) s))) z.word_is (subst (λ q. Carried (length older) j z.cell.word q) (ap (λ i. run (at_rows older) (place (past ∷ older) i)) z.serial ∙ sym tracked.run_is) e)

        early_value : z.stage < d.sheet.shape.ex → Carried (length older) j z.cell.word (run (at_rows older) (place (past ∷ older) z.cell.serial))
        early_value early =
            let low = inside_past.0 in
            let near = ready.ex_rd in
            let last = ready.ex_last in
            let reading : z.stage ≡ d.sheet.shape.rd = omega (arith, low, near, early, at, result) in
            let goes = goes_past (omega (arith, early, last)) in
            let follow = track (suc z.stage) goes.1 in
            let ex_is : suc z.stage ≡ d.sheet.shape.ex = omega (arith, near, early, reading) in
            let fate = subst (λ i. S.Fate (at_rows earlier) earlier (machine_at base earlier).slots i s token_past.cell.at token_past.cell.word) ex_is follow.fate in
            let address : z.cell.at ≡ (run (at_rows older) (place (past ∷ older) z.cell.serial)).pc =
            ap (λ (c : Cell). c.at) (sym token_cell) ∙ watch_address token_past.cell.at token_past.cell.word fate
            ∙ ap (λ (a : Arch). a.pc) (follow.run_is ∙ ap (λ i. run (at_rows older) (place (past ∷ older) i)) (sym z.serial)) in
            early_carries older past facts_past z.stage z.cell z.stands alive_past speaks_past j op there reads own_past (time_past ∙ sym result) reading early (ap (λ (c : Cell). is_some c.hold) (sym token_cell) ∙ goes.0) (sym at ∙ sym result) address

    -- ---- both
    has_read : HasRead driving (module_of driving n p) p net earlier row cycles s word t
    has_read =
        record {
          now = watch_now;
          left = λ newer older next past u v rows at_past at_next differs. by_past newer older next past u v rows at_past at_next differs;
        } where
          by_past : (newer older : List Row) (next past : Row) (u v : ℕ) → row ∷ earlier ≡ newer ++ (next ∷ past ∷ older) → IsTokenAt driving (module_of driving n p) older past s word u
              → IsTokenAt driving (module_of driving n p) (past ∷ older) next s word v → u ≢ v → CarriesRun driving p net (cycle_at cycles (length older)) u word (place (row ∷ earlier) s)
          by_past newer older next past u v rows (inl z) at_next differs = left_carries newer older next past u v rows at_next differs z
          by_past newer older next past u v rows (inr z) at_next differs = λ j op there reads result. (let lt = (inside j op there reads).1 in let time = z.time in absurd (omega (arith, lt, time, result)))

-- so for all
pub reads_law : Sights → GraphLaws → ReadsLaw
reads_law sights laws d image waits lines n p net row earlier cycles h s word t w = has_read sights laws d image waits lines n p net row earlier cycles h s word t w
