-- What holds of each module of a text, line by line.
use Rattle.std.proofs.Common.{inl, inr, ◌+◌, List, [], ◌∷◌, ◌++◌, length, Option, Some, None, sym, subst, append_assoc}
use Rattle.std.specs.Prelude.{All, Contains}
use Rattle.std.proofs.lemmas.Option.{slice_get_within, get_or_from_slice_get}
use Rattle.std.proofs.lemmas.List.{map-append}
use Rattle.std.proofs.lemmas.List.Elements.{Contains-append_cases, All-nil, All-push, All-append, All-contains, All-weaker, Contains-append_left, Contains-append_right}
use Rattle.ix_net.specs.declared.netlist.Port.{Port}
use Rattle.ix_net.specs.Valid.{names, IsWidth}
use Rattle.ix_verilog.specs.declared.source.Source.{Source}
use Rattle.ix_verilog.specs.declared.source.Stage.{Stage}
use Rattle.ix_verilog.specs.declared.source.Stage.TheVariants.{Ports, Lines, Clocked, Ended}
use Rattle.ix_verilog.specs.declared.source.Assign.{Assign}
use Rattle.ix_verilog.specs.declared.source.Update.{Update}
use Rattle.ix_verilog.specs.Words.{Word}
use Rattle.ix_verilog.specs.Lines.{Line, head, port, heading, input, output, wire, register, assign, always, update, done, finish}
use Rattle.ix_verilog.specs.Subset.{State, start, Leads, MayStandIn, MayStand, after_in, with_line, fresh, assigned, Names, IsShortName, MayDeclare, IsDriven, IsNext, AreModules}
use Rattle.ix_vnets.specs.Finished.{IsFinished}

-- what a line says of the module that it stands in
abbrev pub MayDeclareNext : Source → Port → Type 0
MayDeclareNext s p = IsNext s p.name × IsWidth p.width

abbrev pub Says : Source → Line → Type 0
Says s (head n) = Unit {0}
Says s (port n) = IsShortName n
Says s heading = Unit {0}
Says s (input p) = MayDeclareNext s p
Says s (output p) = MayDeclareNext s p
Says s (wire p) = MayDeclare p
Says s (register p) = MayDeclare p
Says s (assign a) = Names (assigned s) a.target
Says s always = Unit {0}
Says s (update u) = Names s.registers u.target
Says s done = Unit {0}
Says s finish = IsDriven s

pub says : (s : Source) (t : Stage) (l : Line) → MayStandIn s t l → Says s l
says s t (head n) h = tt
says s Ports (port n) h = h
says s Lines (port n) h = absurd h
says s Clocked (port n) h = absurd h
says s Ended (port n) h = absurd h
says s t heading h = tt
says s Ports (input p) h = absurd h
says s Lines (input p) h = (h.0, h.1)
says s Clocked (input p) h = absurd h
says s Ended (input p) h = absurd h
says s Ports (output p) h = absurd h
says s Lines (output p) h = h
says s Clocked (output p) h = absurd h
says s Ended (output p) h = absurd h
says s Ports (wire p) h = absurd h
says s Lines (wire p) h = h.1
says s Clocked (wire p) h = absurd h
says s Ended (wire p) h = absurd h
says s Ports (register p) h = absurd h
says s Lines (register p) h = h.1
says s Clocked (register p) h = absurd h
says s Ended (register p) h = absurd h
says s Ports (assign a) h = absurd h
says s Lines (assign a) h = h.1.declared_so
says s Clocked (assign a) h = absurd h
says s Ended (assign a) h = absurd h
says s t always h = tt
says s Ports (update u) h = absurd h
says s Lines (update u) h = absurd h
says s Clocked (update u) h = h.1.declared_so
says s Ended (update u) h = absurd h
says s t done h = tt
says s Ports finish h = absurd h
says s Lines finish h = h.1
says s Clocked finish h = absurd h
says s Ended finish h = h

-- what holds of a module that has not ended
pub record IsGoing (s : Source) : Type 0 where
  pub named : IsShortName s.name
  pub ports : All IsShortName s.ports
  pub inputs : All MayDeclare s.inputs
  pub outputs : All MayDeclare s.outputs
  pub wires : All MayDeclare s.wires
  pub registers : All MayDeclare s.registers
  pub assigns : All (λ (a : Assign). Names (assigned s) a.target) s.assigns
  pub updates : All (λ (u : Update). Names s.registers u.target) s.updates

-- a port has one of the names in the list of ports
pub next_may : (s : Source) → All IsShortName s.ports → (p : Port) → MayDeclareNext s p → MayDeclare p
next_may s h p n =
    let k = length s.inputs + length s.outputs in
    let c : Contains s.ports p.name = (k, slice_get_within s.ports k p.name n.0, get_or_from_slice_get s.ports k p.name p.name n.0) in
    (All-contains IsShortName s.ports p.name h c, n.1)

-- more names
names_left : (ps qs : List Port) (n : Word) → Names ps n → Names (ps ++ qs) n
names_left ps qs n c = subst (λ z. Contains z n) (sym (map-append (λ (p : Port). p.name) ps qs)) (Contains-append_left (names ps) (names qs) n c)

names_middle : (ps qs rs : List Port) (n : Word) → Names (ps ++ qs) n → Names ((ps ++ rs) ++ qs) n
names_middle ps qs rs n c = elim (Contains-append_cases (names ps) (names qs) n (subst (λ z. Contains z n) (map-append (λ (p : Port). p.name) ps qs) c)) [
  | inl a ↦ names_left (ps ++ rs) qs n (names_left ps rs n a)
  | inr b ↦ subst (λ z. Contains z n) (sym (map-append (λ (p : Port). p.name) (ps ++ rs) qs)) (Contains-append_right (names (ps ++ rs)) (names qs) n b)
]

names_last : (ps qs rs : List Port) (n : Word) → Names (ps ++ qs) n → Names (ps ++ (qs ++ rs)) n
names_last ps qs rs n c = subst (λ z. Names z n) (append_assoc ps qs rs) (names_left (ps ++ qs) rs n c)

pub keep : (s : Source) (l : Line) → IsGoing s → Says s l → IsGoing (with_line s l)
keep s (head n) g h = g
keep s (port n) g h = record { named = g.named; ports = All-push IsShortName s.ports n g.ports h; inputs = g.inputs; outputs = g.outputs; wires = g.wires; registers = g.registers; assigns = g.assigns; updates = g.updates }
keep s heading g h = record { named = g.named; ports = g.ports; inputs = g.inputs; outputs = g.outputs; wires = g.wires; registers = g.registers; assigns = g.assigns; updates = g.updates }
keep s (input p) g h = record { named = g.named; ports = g.ports; inputs = All-push MayDeclare s.inputs p g.inputs (next_may s g.ports p h); outputs = g.outputs; wires = g.wires; registers = g.registers; assigns = g.assigns; updates = g.updates }
keep s (output p) g h = record { named = g.named; ports = g.ports; inputs = g.inputs; outputs = All-push MayDeclare s.outputs p g.outputs (next_may s g.ports p h); wires = g.wires; registers = g.registers; assigns = All-weaker (λ (a : Assign). Names (assigned s) a.target) (λ (a : Assign). Names ((s.outputs ++ p ∷ []) ++ s.wires) a.target) (λ a c. names_middle s.outputs s.wires (p ∷ []) a.target c) s.assigns g.assigns; updates = g.updates }
keep s (wire p) g h = record { named = g.named; ports = g.ports; inputs = g.inputs; outputs = g.outputs; wires = All-push MayDeclare s.wires p g.wires h; registers = g.registers; assigns = All-weaker (λ (a : Assign). Names (assigned s) a.target) (λ (a : Assign). Names (s.outputs ++ (s.wires ++ p ∷ [])) a.target) (λ a c. names_last s.outputs s.wires (p ∷ []) a.target c) s.assigns g.assigns; updates = g.updates }
keep s (register p) g h = record { named = g.named; ports = g.ports; inputs = g.inputs; outputs = g.outputs; wires = g.wires; registers = All-push MayDeclare s.registers p g.registers h; assigns = g.assigns; updates = All-weaker (λ (u : Update). Names s.registers u.target) (λ (u : Update). Names (s.registers ++ p ∷ []) u.target) (λ u c. names_left s.registers (p ∷ []) u.target c) s.updates g.updates }
keep s (assign a) g h = record { named = g.named; ports = g.ports; inputs = g.inputs; outputs = g.outputs; wires = g.wires; registers = g.registers; assigns = All-push (λ (a : Assign). Names (assigned s) a.target) s.assigns a g.assigns h; updates = g.updates }
keep s always g h = record { named = g.named; ports = g.ports; inputs = g.inputs; outputs = g.outputs; wires = g.wires; registers = g.registers; assigns = g.assigns; updates = g.updates }
keep s (update u) g h = record { named = g.named; ports = g.ports; inputs = g.inputs; outputs = g.outputs; wires = g.wires; registers = g.registers; assigns = g.assigns; updates = All-push (λ (u : Update). Names s.registers u.target) s.updates u g.updates h }
keep s done g h = record { named = g.named; ports = g.ports; inputs = g.inputs; outputs = g.outputs; wires = g.wires; registers = g.registers; assigns = g.assigns; updates = g.updates }
keep s finish g h = g

starts : (n : Word) → IsShortName n → IsGoing (fresh n)
starts n h = record {
  named = h;
  ports = All-nil IsShortName;
  inputs = All-nil MayDeclare;
  outputs = All-nil MayDeclare;
  wires = All-nil MayDeclare;
  registers = All-nil MayDeclare;
  assigns = All-nil (λ (a : Assign). Names (assigned (fresh n)) a.target);
  updates = All-nil (λ (u : Update). Names [] u.target);
}

finished : (s : Source) → IsGoing s → IsDriven s → IsFinished s
finished s g d = record {
  named = g.named;
  declares = All-append MayDeclare (s.inputs ++ assigned s) s.registers (All-append MayDeclare s.inputs (assigned s) g.inputs (All-append MayDeclare s.outputs s.wires g.outputs g.wires)) g.registers;
  assigns = g.assigns;
  updates = g.updates;
  driven = d;
}

-- ---- texts
abbrev pub IsOpen : Option Source → Type 0
IsOpen None = Unit {0}
IsOpen (Some s) = IsGoing s

abbrev pub IsFine : State → Type 0
IsFine st = All IsFinished st.modules × IsOpen st.open_module

pub step : (modules : List Source) (o : Option Source) (l : Line) → All IsFinished modules → IsOpen o → MayStand o l → IsFine (after_in modules o l)
step modules None (head n) m g h = (m, starts n h)
step modules None (port n) m g h = absurd h
step modules None heading m g h = absurd h
step modules None (input p) m g h = absurd h
step modules None (output p) m g h = absurd h
step modules None (wire p) m g h = absurd h
step modules None (register p) m g h = absurd h
step modules None (assign a) m g h = absurd h
step modules None always m g h = absurd h
step modules None (update u) m g h = absurd h
step modules None done m g h = absurd h
step modules None finish m g h = absurd h
step modules (Some s) (head n) m g h = (m, keep s (head n) g (says s s.stage (head n) h))
step modules (Some s) (port n) m g h = (m, keep s (port n) g (says s s.stage (port n) h))
step modules (Some s) heading m g h = (m, keep s heading g (says s s.stage heading h))
step modules (Some s) (input p) m g h = (m, keep s (input p) g (says s s.stage (input p) h))
step modules (Some s) (output p) m g h = (m, keep s (output p) g (says s s.stage (output p) h))
step modules (Some s) (wire p) m g h = (m, keep s (wire p) g (says s s.stage (wire p) h))
step modules (Some s) (register p) m g h = (m, keep s (register p) g (says s s.stage (register p) h))
step modules (Some s) (assign a) m g h = (m, keep s (assign a) g (says s s.stage (assign a) h))
step modules (Some s) always m g h = (m, keep s always g (says s s.stage always h))
step modules (Some s) (update u) m g h = (m, keep s (update u) g (says s s.stage (update u) h))
step modules (Some s) done m g h = (m, keep s done g (says s s.stage done h))
step modules (Some s) finish m g h = (All-push IsFinished modules s m (finished s g (says s s.stage finish h)), tt)

walk : (lines : List Line) (st end : State) → Leads st lines end → IsFine st → IsFine end
walk [] st end h f = subst IsFine h f
walk (l ∷ lines) st end h f = walk lines (after_in st.modules st.open_module l) end h.1 (step st.modules st.open_module l f.0 f.1 h.0)

pub fine_start : IsFine start
fine_start = (All-nil IsFinished, tt)

-- each module of a text is as its lines say
pub modules_finished : (words : List Word) (modules : List Source) → AreModules words modules → All IsFinished modules
modules_finished words modules a = (walk a.lines start (record { modules = modules; open_module = None }) a.leads fine_start).0
