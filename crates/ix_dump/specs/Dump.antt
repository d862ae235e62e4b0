-- The text of a value change dump of the ports of modules (IEEE 1364-2005, section 18.2).
use Rattle.std.specs.Prelude.{ℕ, zero, suc, ◌+◌, ◌/◌, ◌%◌, List, [], ◌∷◌, ◌++◌, length, map, Option, Some, None, slice_get, if◌then◌else◌, ◌==◌, codes, decimal}
use Rattle.std.specs.List.{flat_map}
use Rattle.ix_bits.specs.declared.number.Bits.{Bits}
use Rattle.ix_net.specs.declared.netlist.Port.{Port}
use Rattle.ix_net.specs.declared.netlist.Net.{Net}

-- ---- ports
-- the ports of a module but its clock: its inputs, then its outputs (this project's choice)
abbrev pub module_ports : Net → List Port
module_ports net = net.inputs ++ net.outputs

-- the ports of all modules; the place of a port in this list is its number (this project's choice)
abbrev pub dump_ports : List Net → List Port
dump_ports nets = flat_map module_ports nets

-- the widths of all ports, in the order of their numbers (this project's choice)
abbrev pub dump_widths : List Net → List ℕ
dump_widths nets = map (λ (p : Port). p.width) (dump_ports nets)

-- patterns as their numbers and their widths (this project's choice)
abbrev pub raws : List Bits → List ℕ
raws values = map (λ (b : Bits). b.raw) values

abbrev pub widths : List Bits → List ℕ
widths values = map (λ (b : Bits). b.width) values

-- ---- head
-- the code that stands for port k (IEEE 1364-2005, section 18.2.1, identifier code)
abbrev pub port_code : ℕ → List ℕ
port_code k = codes "p" ++ decimal k

-- the line that declares port k (IEEE 1364-2005, section 18.2.3, $var)
abbrev pub port_line : ℕ → Port → List ℕ
port_line k port = codes "$var wire " ++ decimal port.width ++ codes " " ++ port_code k ++ codes " " ++ port.name ++ codes " $end\n"

-- the lines of ports, the first of which has this number (this project's choice)
abbrev pub port_lines : ℕ → List Port → List ℕ
port_lines k [] = []
port_lines k (port ∷ ports) = port_line k port ++ port_lines (suc k) ports

-- the line that begins the ports of a module (IEEE 1364-2005, section 18.2.3, $scope)
abbrev pub scope_line : List ℕ → List ℕ
scope_line name = codes "$scope module " ++ name ++ codes " $end\n"

-- a module, whose first port has this number (IEEE 1364-2005, section 18.2.3, $scope and $upscope)
abbrev pub module_text : ℕ → Net → List ℕ
module_text k net = scope_line net.name ++ (port_lines k (module_ports net) ++ codes "$upscope $end\n")

-- modules, whose first port has this number (this project's choice)
abbrev pub modules_text : ℕ → List Net → List ℕ
modules_text k [] = []
modules_text k (net ∷ nets) = module_text k net ++ modules_text (k + length (module_ports net)) nets

-- all that stands above the values (IEEE 1364-2005, section 18.2.3, $timescale and $enddefinitions)
abbrev pub head_text : List Net → List ℕ
head_text nets = codes "$timescale 1ns $end\n" ++ (modules_text 0 nets ++ codes "$enddefinitions $end\n")

-- ---- values
-- so many binary digits of a number, the most significant first (IEEE 1364-2005, section 18.2.2, vectors)
unfoldable pub binary_digits : ℕ → ℕ → List ℕ
binary_digits zero value = []
binary_digits (suc count) value = binary_digits count (value / 2) ++ (48 + value % 2) ∷ []

-- a value of this width: its bit, or `b`, all its bits and a space (IEEE 1364-2005, section 18.2.1, value change)
abbrev pub value_text : ℕ → ℕ → List ℕ
value_text width value = if width == 1 then binary_digits 1 value else codes "b" ++ binary_digits width value ++ codes " "

-- the line that gives port k a value (IEEE 1364-2005, section 18.2.1, value change)
abbrev pub value_line : ℕ → ℕ → ℕ → List ℕ
value_line k width value = value_text width value ++ port_code k ++ codes "\n"

-- the values of the row before, which row 0 has not (this project's choice)
abbrev pub row_before : ℕ → List ℕ → Option (List ℕ)
row_before zero values = None
row_before (suc number) values = Some values

-- a value of the row before, which row 0 has not (this project's choice)
abbrev pub number_before : ℕ → ℕ → Option ℕ
number_before zero value = None
number_before (suc number) value = Some value

-- the value of port k there, if there is one (this project's choice)
abbrev pub value_before : Option (List ℕ) → ℕ → Option ℕ
value_before None k = None
value_before (Some values) k = slice_get values k

-- port k in a row: nothing where it has the value of the row before (IEEE 1364-2005, section 18.2)
abbrev pub change_text : ℕ → ℕ → Option ℕ → ℕ → List ℕ
change_text k width None value = value_line k width value
change_text k width (Some old) value = if old == value then [] else value_line k width value

-- ports in a row, by their widths and values, the first of which has this number (this project's choice)
abbrev pub changes_text : Option (List ℕ) → ℕ → List ℕ → List ℕ → List ℕ
changes_text before k [] values = []
changes_text before k (width ∷ more) [] = []
changes_text before k (width ∷ more) (value ∷ values) = change_text k width (value_before before k) value ++ changes_text before (suc k) more values

-- the line of a row's time (IEEE 1364-2005, section 18.2.1, simulation time)
abbrev pub row_line : ℕ → List ℕ
row_line number = codes "#" ++ decimal number ++ codes "\n"

-- a row: its time, and the ports that have another value than in the row before (this project's choice)
abbrev pub row_text : List ℕ → ℕ → Option (List ℕ) → List ℕ → List ℕ
row_text wide number before now = row_line number ++ changes_text before 0 wide now

-- rows behind a row, the first of which has this number (this project's choice)
abbrev pub rows_text : List ℕ → ℕ → Option (List ℕ) → List (List ℕ) → List ℕ
rows_text wide number before [] = []
rows_text wide number before (now ∷ rows) = row_text wide number before now ++ rows_text wide (suc number) (Some now) rows

-- the dump of modules whose ports have these values row by row, the oldest row first (this project's choice)
unfoldable pub dump_text : List Net → List (List ℕ) → List ℕ
dump_text nets rows = head_text nets ++ rows_text (dump_widths nets) 0 None rows
