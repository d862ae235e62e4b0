-- The lines of a valid net may stand one behind the other.
use Rattle.std.proofs.Common.{◌≡◌, ℕ, ◌+◌, List, [], ◌∷◌, ◌++◌, length, map, Some, refl, ap, sym, ◌∙◌, subst, append_assoc, arith}
use Rattle.std.specs.Prelude.{All, Contains, slice_get, codes, decimal}
use Rattle.std.proofs.lemmas.List.{append-nil, length-append}
use Rattle.std.proofs.lemmas.List.Elements.{All-head, All-tail}
use Rattle.ix_net.specs.declared.netlist.Port.{Port}
use Rattle.ix_net.specs.declared.netlist.Cell.{Cell}
use Rattle.ix_net.specs.declared.netlist.Bank.{Bank}
use Rattle.ix_net.specs.declared.netlist.Form.{Form}
use Rattle.ix_net.specs.declared.netlist.Form.TheVariants.{Hex, Copy, Add, Sub, Mul, And, Or, Xor, Not, Eq, Lt, LtSigned, Join, Range, Choose}
use Rattle.ix_net.specs.Name.{IsName}
use Rattle.ix_net.specs.Forms.{operands}
use Rattle.ix_net.specs.Valid.{IsWidth, names}
use Rattle.ix_verilog.specs.declared.source.Assign.{Assign}
use Rattle.ix_verilog.specs.declared.source.Update.{Update}
use Rattle.ix_verilog.specs.declared.source.Source.{Source}
use Rattle.ix_verilog.specs.declared.source.Stage.{Stage}
use Rattle.ix_verilog.specs.declared.source.Stage.TheVariants.{Ports, Lines, Clocked}
use Rattle.ix_verilog.specs.Words.{Word}
use Rattle.ix_verilog.specs.declared.right.RightSide.{RightSide}
use Rattle.ix_verilog.specs.declared.right.RightSide.TheVariants as side
use Rattle.ix_verilog.specs.Lines.{Line, input, output, wire, register, right_of, IsRight, hex}
use Rattle.ix_verilog.specs.Subset.{State, Leads, after, IsShortName, MayDeclare, IsOperand}
use Rattle.ix_verilog.proofs.Digits.{decimal_is_number, hex_are_digits}
use Rattle.ix_verilog.proofs.OneNet.{IsSmall, raw_small}
use Rattle.ix_vprint.proofs.Spelled.{assign_of, update_of, port_of}
use Rattle.ix_vprint.proofs.Sources.{Names}

-- ---- one list of lines behind the other
pub leads_then : (a b c : State) (ls ms : List Line) → Leads a ls b → Leads b ms c → Leads a (ls ++ ms) c
leads_then a b c [] ms e k = subst (λ (z : State). Leads z ms c) (sym e) k
leads_then a b c (l ∷ ls) ms h k = (h.0, leads_then (after a l) b c ls ms h.1 k)

-- ---- modules in the making
abbrev pub source : (name : Word) (ports : List Word) (ins outs wires regs : List Port) (assigns : List Assign) (updates : List Update) → Stage → Source
source name ports ins outs wires regs assigns updates stage = record {
  name = name;
  ports = ports;
  inputs = ins;
  outputs = outs;
  wires = wires;
  registers = regs;
  assigns = assigns;
  updates = updates;
  stage = stage;
}

abbrev pub opened : List Source → Source → State
opened ms s = record { modules = ms; open_module = Some s }

-- the port list
pub ports_lead : (ms : List Source) (n : Word) (before : List Word) (ps : List Port) → All (λ (p : Port). IsShortName p.name) ps
    → Leads (opened ms (source n before [] [] [] [] [] [] Ports)) (map port_of ps) (opened ms (source n (before ++ names ps) [] [] [] [] [] [] Ports))
ports_lead ms n before [] h = ap (λ z. opened ms (source n z [] [] [] [] [] [] Ports)) (sym (append-nil before))
ports_lead ms n before (p ∷ ps) h =
    let P : List Word → Type 0 = λ z. Leads (opened ms (source n (before ++ p.name ∷ []) [] [] [] [] [] [] Ports)) (map port_of ps) (opened ms (source n z [] [] [] [] [] [] Ports)) in
    (All-head (λ (p : Port). IsShortName p.name) p ps h, subst P (append_assoc before (p.name ∷ []) (names ps)) (ports_lead ms n (before ++ p.name ∷ []) ps (All-tail (λ (p : Port). IsShortName p.name) p ps h)))

-- the port that is declared next
next_is : (before : List Port) (p : Port) (rest : List Port) → slice_get (names (before ++ p ∷ rest)) (length before) ≡ Some p.name
next_is [] p rest = refl
next_is (q ∷ before) p rest = next_is before p rest

pub inputs_lead : (ms : List Source) (n : Word) (ports : List Word) (before ps rest : List Port) → ports ≡ names (before ++ (ps ++ rest)) → All (λ (p : Port). IsWidth p.width) ps
    → Leads (opened ms (source n ports before [] [] [] [] [] Lines)) (map input ps) (opened ms (source n ports (before ++ ps) [] [] [] [] [] Lines))
inputs_lead ms n ports before [] rest e h = ap (λ z. opened ms (source n ports z [] [] [] [] [] Lines)) (sym (append-nil before))
inputs_lead ms n ports before (p ∷ ps) rest e h =
    let P : List Port → Type 0 = λ z. Leads (opened ms (source n ports (before ++ p ∷ []) [] [] [] [] [] Lines)) (map input ps) (opened ms (source n ports z [] [] [] [] [] Lines)) in
    let k : length before + 0 ≡ length before = omega arith in
    let next : slice_get ports (length before + 0) ≡ Some p.name = ap (λ z. slice_get ports z) k ∙ ap (λ z. slice_get z (length before)) e ∙ next_is before p (ps ++ rest) in
    let f : ports ≡ names ((before ++ p ∷ []) ++ (ps ++ rest)) = e ∙ ap names (sym (append_assoc before (p ∷ []) (ps ++ rest))) in (
      (next, All-head (λ (p : Port). IsWidth p.width) p ps h, refl),
      subst P (append_assoc before (p ∷ []) ps) (inputs_lead ms n ports (before ++ p ∷ []) ps rest f (All-tail (λ (p : Port). IsWidth p.width) p ps h)),
    )

pub outputs_lead : (ms : List Source) (n : Word) (ports : List Word) (ins before ps : List Port) → ports ≡ names (ins ++ (before ++ ps)) → All (λ (p : Port). IsWidth p.width) ps
    → Leads (opened ms (source n ports ins before [] [] [] [] Lines)) (map output ps) (opened ms (source n ports ins (before ++ ps) [] [] [] [] Lines))
outputs_lead ms n ports ins before [] e h = ap (λ z. opened ms (source n ports ins z [] [] [] [] Lines)) (sym (append-nil before))
outputs_lead ms n ports ins before (p ∷ ps) e h =
    let P : List Port → Type 0 = λ z. Leads (opened ms (source n ports ins (before ++ p ∷ []) [] [] [] [] Lines)) (map output ps) (opened ms (source n ports ins z [] [] [] [] Lines)) in
    let g : ports ≡ names ((ins ++ before) ++ p ∷ ps) = e ∙ ap names (sym (append_assoc ins before (p ∷ ps))) in
    let k : length ins + length before ≡ length (ins ++ before) = sym (length-append ins before) in
    let next : slice_get ports (length ins + length before) ≡ Some p.name = ap (λ z. slice_get ports z) k ∙ ap (λ z. slice_get z (length (ins ++ before))) g ∙ next_is (ins ++ before) p ps in
    let f : ports ≡ names (ins ++ ((before ++ p ∷ []) ++ ps)) = e ∙ ap (λ z. names (ins ++ z)) (sym (append_assoc before (p ∷ []) ps)) in (
      (next, All-head (λ (p : Port). IsWidth p.width) p ps h),
      subst P (append_assoc before (p ∷ []) ps) (outputs_lead ms n ports ins (before ++ p ∷ []) ps f (All-tail (λ (p : Port). IsWidth p.width) p ps h)),
    )

pub wires_lead : (ms : List Source) (n : Word) (ports : List Word) (ins outs before ps : List Port) → length ports ≡ length ins + length outs → All MayDeclare ps
    → Leads (opened ms (source n ports ins outs before [] [] [] Lines)) (map wire ps) (opened ms (source n ports ins outs (before ++ ps) [] [] [] Lines))
wires_lead ms n ports ins outs before [] e h = ap (λ z. opened ms (source n ports ins outs z [] [] [] Lines)) (sym (append-nil before))
wires_lead ms n ports ins outs before (p ∷ ps) e h =
    let P : List Port → Type 0 = λ z. Leads (opened ms (source n ports ins outs (before ++ p ∷ []) [] [] [] Lines)) (map wire ps) (opened ms (source n ports ins outs z [] [] [] Lines)) in
    ((e, All-head MayDeclare p ps h, refl, refl), subst P (append_assoc before (p ∷ []) ps) (wires_lead ms n ports ins outs (before ++ p ∷ []) ps e (All-tail MayDeclare p ps h)))

pub registers_lead : (ms : List Source) (n : Word) (ports : List Word) (ins outs wires before ps : List Port) → length ports ≡ length ins + length outs → All MayDeclare ps
    → Leads (opened ms (source n ports ins outs wires before [] [] Lines)) (map register ps) (opened ms (source n ports ins outs wires (before ++ ps) [] [] Lines))
registers_lead ms n ports ins outs wires before [] e h = ap (λ z. opened ms (source n ports ins outs wires z [] [] Lines)) (sym (append-nil before))
registers_lead ms n ports ins outs wires before (p ∷ ps) e h =
    let P : List Port → Type 0 = λ z. Leads (opened ms (source n ports ins outs wires (before ++ p ∷ []) [] [] Lines)) (map register ps) (opened ms (source n ports ins outs wires z [] [] Lines)) in
    ((e, All-head MayDeclare p ps h, refl), subst P (append_assoc before (p ∷ []) ps) (registers_lead ms n ports ins outs wires (before ++ p ∷ []) ps e (All-tail MayDeclare p ps h)))

-- ---- assignments
-- a name that is declared
abbrev pub IsOf : List Port → Word → Type 0
IsOf ports n = IsName n × Names ports n

-- a right side over other names
right_map : (N M : Word → Type 0) → ((n : Word) → N n → M n) → (r : RightSide) → IsRight N r → IsRight M r
right_map N M f (side.Literal w) l = l
right_map N M f (side.Copy a) h = f a h
right_map N M f (side.Both s a b) h = (f a h.0, f b h.1)
right_map N M f (side.Turned a) h = f a h
right_map N M f (side.Signed a b) h = (f a h.0, f b h.1)
right_map N M f (side.Joined a b) h = (f a h.0, f b h.1)
right_map N M f (side.Range a h l) k = (f a k.0, k.1, k.2)
right_map N M f (side.Choice c a b) h = (f c h.0, f a h.1, f b h.2)

-- the operands are declared, and the target is an output or a wire
pub record MayAssign (ins outs wires regs : List Port) (c : Cell) : Type 0 where
  pub named : IsName c.target
  pub target : Names (outs ++ wires) c.target
  pub no_input : Names ins c.target → ⊥
  pub right : IsRight (IsOf (ins ++ (outs ++ wires) ++ regs)) (right_of c.form)

abbrev pub to_assign : Cell → Assign
to_assign c = record { target = c.target; right = right_of c.form }

pub assigns_lead : (ms : List Source) (n : Word) (ports : List Word) (ins outs wires regs : List Port) (before : List Assign) (cs : List Cell) → length ports ≡ length ins + length outs
    → All (MayAssign ins outs wires regs) cs
    → Leads (opened ms (source n ports ins outs wires regs before [] Lines)) (map assign_of cs) (opened ms (source n ports ins outs wires regs (before ++ map to_assign cs) [] Lines))
assigns_lead ms n ports ins outs wires regs before [] e h = ap (λ z. opened ms (source n ports ins outs wires regs z [] Lines)) (sym (append-nil before))
assigns_lead ms n ports ins outs wires regs before (c ∷ cs) e h =
    let P : List Assign → Type 0 = λ z. Leads (opened ms (source n ports ins outs wires regs (before ++ to_assign c ∷ []) [] Lines)) (map assign_of cs) (opened ms (source n ports ins outs wires regs z [] Lines)) in
    let m : MayAssign ins outs wires regs c = All-head (MayAssign ins outs wires regs) c cs h in (
      (e, record { named = m.named; declared_so = m.target; no_input = m.no_input }, right_map (IsOf (ins ++ (outs ++ wires) ++ regs)) (IsOperand (source n ports ins outs wires regs before [] Lines)) (λ n h. record { named = h.0; declared_so = h.1 }) (right_of c.form) m.right),
      subst P (append_assoc before (to_assign c ∷ []) (map to_assign cs)) (assigns_lead ms n ports ins outs wires regs (before ++ to_assign c ∷ []) cs e (All-tail (MayAssign ins outs wires regs) c cs h)),
    )

pub record MayUpdate (ins outs wires regs : List Port) (b : Bank) : Type 0 where
  pub enable : IsOf (ins ++ (outs ++ wires) ++ regs) b.enable
  pub named : IsName b.target
  pub target : Names regs b.target
  pub no_other : Names (ins ++ (outs ++ wires)) b.target → ⊥
  pub source_of : IsOf (ins ++ (outs ++ wires) ++ regs) b.source

abbrev pub to_update : Bank → Update
to_update b = record { enable = b.enable; target = b.target; source = b.source }

pub updates_lead : (ms : List Source) (n : Word) (ports : List Word) (ins outs wires regs : List Port) (assigns : List Assign) (before : List Update) (bs : List Bank)
    → All (MayUpdate ins outs wires regs) bs
    → Leads (opened ms (source n ports ins outs wires regs assigns before Clocked)) (map update_of bs) (opened ms (source n ports ins outs wires regs assigns (before ++ map to_update bs) Clocked))
updates_lead ms n ports ins outs wires regs assigns before [] h = ap (λ z. opened ms (source n ports ins outs wires regs assigns z Clocked)) (sym (append-nil before))
updates_lead ms n ports ins outs wires regs assigns before (b ∷ bs) h =
    let P : List Update → Type 0 = λ z. Leads (opened ms (source n ports ins outs wires regs assigns (before ++ to_update b ∷ []) Clocked)) (map update_of bs) (opened ms (source n ports ins outs wires regs assigns z Clocked)) in
    let m : MayUpdate ins outs wires regs b = All-head (MayUpdate ins outs wires regs) b bs h in (
      (record { named = m.enable.0; declared_so = m.enable.1 }, record { named = m.named; declared_so = m.target; no_other = m.no_other }, record { named = m.source_of.0; declared_so = m.source_of.1 }),
      subst P (append_assoc before (to_update b ∷ []) (map to_update bs)) (updates_lead ms n ports ins outs wires regs assigns (before ++ to_update b ∷ []) bs (All-tail (MayUpdate ins outs wires regs) b bs h)),
    )

-- ---- right sides
abbrev All3 : (Word → Type 0) → List Word → Type 0
All3 N [] = Unit {0}
All3 N (n ∷ ns) = N n × All3 N ns

pub named_all : (N : Word → Type 0) (ns : List Word) → All N ns → All3 N ns
named_all N [] h = tt
named_all N (n ∷ ns) h = (All-head N n ns h, named_all N ns (All-tail N n ns h))

pub right_side : (N : Word → Type 0) (f : Form) → All3 N (operands f) → IsSmall f → IsRight N (right_of f)
right_side N (Hex d) h s = record { width = decimal d.width; digits = hex d.raw; wide = decimal_is_number d.width (omega (arith, d.most_width)); are = hex_are_digits 31 d.raw (raw_small d); is = refl }
right_side N (Copy a) h s = h.0
right_side N (Add a b) h s = (h.0, h.1.0)
right_side N (Sub a b) h s = (h.0, h.1.0)
right_side N (Mul a b) h s = (h.0, h.1.0)
right_side N (And a b) h s = (h.0, h.1.0)
right_side N (Or a b) h s = (h.0, h.1.0)
right_side N (Xor a b) h s = (h.0, h.1.0)
right_side N (Not a) h s = h.0
right_side N (Eq a b) h s = (h.0, h.1.0)
right_side N (Lt a b) h s = (h.0, h.1.0)
right_side N (LtSigned a b) h s = (h.0, h.1.0)
right_side N (Join a b) h s = (h.0, h.1.0)
right_side N (Range a hi lo) h s = (h.0, decimal_is_number hi s.0, decimal_is_number lo s.1)
right_side N (Choose c a b) h s = (h.0, h.1.0, h.1.1.0)
