-- Which text denotes which nets (IEEE 1364-2005, 12, modules; the order of the lines, and that each name is declared before it is
-- used, are this project's choice).
use Rattle.std.specs.Prelude.{◌≡◌, ◌≢◌, ℕ, ◌+◌, ◌<◌, ◌≤◌, zero, suc, List, [], ◌∷◌, ◌++◌, length, map, take, All, AllPairs, Contains, Option, Some, None, slice_get}
use Rattle.std.specs.List.{flat_map, AllZip}
use Rattle.ix_net.specs.declared.netlist.Port.{Port}
use Rattle.ix_net.specs.declared.netlist.Net.{Net}
use Rattle.ix_net.specs.declared.netlist.Cell.{Cell}
use Rattle.ix_net.specs.declared.netlist.Bank.{Bank}
use Rattle.ix_net.specs.Name.{IsName}
use Rattle.ix_net.specs.Signals.{cell_port, bank_port}
use Rattle.ix_net.specs.Valid.{IsValid, IsWidth, names}
use Rattle.ix_verilog.specs.declared.source.Assign.{Assign}
use Rattle.ix_verilog.specs.declared.source.Update.{Update}
use Rattle.ix_verilog.specs.declared.source.Source.{Source}
use Rattle.ix_verilog.specs.declared.source.Stage.{Stage}
use Rattle.ix_verilog.specs.declared.source.Stage.TheVariants.{Ports, Lines, Clocked, Ended}
use Rattle.ix_verilog.specs.declared.token.Token.{Token}
use Rattle.ix_verilog.specs.Words.{Word, Spells, words_of}
use Rattle.ix_verilog.specs.Lines.{Line, head, port, heading, input, output, wire, register, assign, always, update, done, finish, line_words, right_of, IsRight}

-- ---- what a module has declared
abbrev pub assigned : Source → List Port
assigned s = s.outputs ++ s.wires

abbrev pub declared : Source → List Port
declared s = s.inputs ++ assigned s ++ s.registers

abbrev pub Names : List Port → Word → Type 0
Names ports n = Contains (names ports) n

-- a name that a module may have or declare
abbrev pub IsShortName : Word → Type 0
IsShortName n = IsName n × (length n ≤ 80)

abbrev pub MayDeclare : Port → Type 0
MayDeclare p = IsShortName p.name × IsWidth p.width

-- the port that is declared next
abbrev pub IsNext : Source → Word → Type 0
IsNext s n = slice_get s.ports (length s.inputs + length s.outputs) ≡ Some n

-- all ports are declared
abbrev pub HasPorts : Source → Type 0
HasPorts s = length s.ports ≡ length s.inputs + length s.outputs

pub record IsOperand (s : Source) (n : Word) : Type 0 where
  pub named : IsName n
  pub declared_so : Names (declared s) n

-- a name that is declared twice keeps its first role
pub record IsTarget (s : Source) (n : Word) : Type 0 where
  pub named : IsName n
  pub declared_so : Names (assigned s) n
  pub no_input : Names s.inputs n → ⊥

pub record IsRegister (s : Source) (n : Word) : Type 0 where
  pub named : IsName n
  pub declared_so : Names s.registers n
  pub no_other : Names (s.inputs ++ assigned s) n → ⊥

-- each output, wire and register is driven
pub record IsDriven (s : Source) : Type 0 where
  pub assigns : All (λ (p : Port). Contains (map (λ (a : Assign). a.target) s.assigns) p.name) (assigned s)
  pub updates : All (λ (p : Port). Contains (map (λ (u : Update). u.target) s.updates) p.name) s.registers

-- ---- the line may stand behind those that made the module what it is
abbrev pub MayStandIn : Source → Stage → Line → Type 0
MayStandIn s Ports (port n) = IsShortName n
MayStandIn s Ports heading = Unit {0}
MayStandIn s Lines (input p) = IsNext s p.name × IsWidth p.width × (s.outputs ≡ [])
MayStandIn s Lines (output p) = IsNext s p.name × IsWidth p.width
MayStandIn s Lines (wire p) = HasPorts s × MayDeclare p × (s.registers ≡ []) × (s.assigns ≡ [])
MayStandIn s Lines (register p) = HasPorts s × MayDeclare p × (s.assigns ≡ [])
MayStandIn s Lines (assign a) = HasPorts s × IsTarget s a.target × IsRight (IsOperand s) a.right
MayStandIn s Lines always = HasPorts s × (s.registers ≢ [])
MayStandIn s Lines finish = HasPorts s × IsDriven s
MayStandIn s Clocked (update u) = IsOperand s u.enable × IsRegister s u.target × IsOperand s u.source
MayStandIn s Clocked done = Unit {0}
MayStandIn s Ended finish = IsDriven s
MayStandIn s stage line = ⊥

-- a module of which no line but the first stands
abbrev pub fresh : Word → Source
fresh n = record {
  name = n;
  ports = [];
  inputs = [];
  outputs = [];
  wires = [];
  registers = [];
  assigns = [];
  updates = [];
  stage = Ports;
}

-- the module with one more line
abbrev pub with_line : Source → Line → Source
with_line s (port n) = record s { ports = s.ports ++ n ∷ [] }
with_line s heading = record s { stage = Lines }
with_line s (input p) = record s { inputs = s.inputs ++ p ∷ [] }
with_line s (output p) = record s { outputs = s.outputs ++ p ∷ [] }
with_line s (wire p) = record s { wires = s.wires ++ p ∷ [] }
with_line s (register p) = record s { registers = s.registers ++ p ∷ [] }
with_line s (assign a) = record s { assigns = s.assigns ++ a ∷ [] }
with_line s always = record s { stage = Clocked }
with_line s (update u) = record s { updates = s.updates ++ u ∷ [] }
with_line s done = record s { stage = Ended }
with_line s (head n) = s
with_line s finish = s

-- ---- texts: the modules that have ended, and the one that has not
pub record State : Type 0 where
  pub modules : List Source
  pub open_module : Option Source

abbrev pub start : State
start = record { modules = []; open_module = None }

abbrev pub MayStand : Option Source → Line → Type 0
MayStand None (head n) = IsShortName n
MayStand None line = ⊥
MayStand (Some s) line = MayStandIn s s.stage line

abbrev pub after_in : List Source → Option Source → Line → State
after_in modules None (head n) = record { modules = modules; open_module = Some (fresh n) }
after_in modules None line = record { modules = modules; open_module = None }
after_in modules (Some s) finish = record { modules = modules ++ s ∷ []; open_module = None }
after_in modules (Some s) line = record { modules = modules; open_module = Some (with_line s line) }

abbrev pub after : State → Line → State
after st line = after_in st.modules st.open_module line

-- each line may stand behind those before it, and they lead from the first state to the last
abbrev pub Leads : State → List Line → State → Type 0
Leads st [] end = st ≡ end
Leads st (line ∷ lines) end = MayStand st.open_module line × Leads (after st line) lines end

-- the words are those of whole modules
pub record AreModules (words : List Word) (modules : List Source) : Type 0 where
  pub lines : List Line
  pub leads : Leads start lines (record { modules = modules; open_module = None })
  pub are : words ≡ flat_map line_words lines

-- ---- the first byte with which a text leaves the subset
-- the words are the first of lines that may stand one behind the other
pub record Begins (words : List Word) : Type 0 where
  pub lines : List Line
  pub end : State
  pub leads : Leads start lines end
  pub rest : List Word
  pub are : words ++ rest ≡ flat_map line_words lines

-- the place of a token by number, or the end of the text
abbrev pub place_of_token : ℕ → ℕ → List Token → ℕ
place_of_token end k [] = end
place_of_token end zero (t ∷ ts) = t.place
place_of_token end (suc k) (t ∷ ts) = place_of_token end k ts

-- The words before one begin a text; with it they begin none, or, where there is none, they are no whole modules.
pub record LeavesAt (text : List ℕ) (byte : ℕ) : Type 0 where
  pub tokens : List Token
  pub spelled : Spells 0 text tokens
  pub before : ℕ
  pub within : before ≤ length tokens
  pub front : Begins (take before (words_of tokens))
  pub next : before < length tokens → Begins (take (suc before) (words_of tokens)) → ⊥
  pub end : before ≡ length tokens → (modules : List Source) → AreModules (words_of tokens) modules → ⊥
  pub place : byte ≡ place_of_token (length text) before tokens

-- the text is that of the modules
pub record IsWritten (text : List ℕ) (modules : List Source) : Type 0 where
  pub tokens : List Token
  pub spelled : Spells 0 text tokens
  pub are : AreModules (words_of tokens) modules

-- ---- nets
-- the net is what the module says: operations have the width with which their target is declared
pub record IsNetOf (s : Source) (net : Net) : Type 0 where
  pub named : net.name ≡ s.name
  pub inputs : net.inputs ≡ s.inputs
  pub outputs : net.outputs ≡ s.outputs
  pub targets : map (λ (c : Cell). c.target) net.cells ≡ map (λ (a : Assign). a.target) s.assigns
  pub rights : map (λ (c : Cell). right_of c.form) net.cells ≡ map (λ (a : Assign). a.right) s.assigns
  pub cell_widths : All (λ (c : Cell). Contains (assigned s) (cell_port c)) net.cells
  pub updates : map (λ (b : Bank). record { enable = b.enable; target = b.target; source = b.source }) net.banks ≡ s.updates
  pub bank_widths : All (λ (b : Bank). Contains s.registers (bank_port b)) net.banks
  -- no name is declared twice, and the net is valid: nothing is driven twice, widths agree, no assignment depends on itself
  pub once : AllPairs (λ x y. x ≢ y) (s.name ∷ names (declared s))
  pub valid : IsValid net

-- no two modules have one name
abbrev pub AreNamedApart : List Net → Type 0
AreNamedApart nets = AllPairs (λ x y. x ≢ y) (map (λ (net : Net). net.name) nets)

-- the text denotes the nets
pub record Denotes (text : List ℕ) (nets : List Net) : Type 0 where
  pub modules : List Source
  pub written : IsWritten text modules
  -- one net for each module
  pub nets_of : AllZip IsNetOf modules nets
  pub apart : AreNamedApart nets
