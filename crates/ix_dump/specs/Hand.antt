-- A dump that was written out by hand: two modules and three rows, in the last of which no port changes.
use Rattle.std.specs.Prelude.{ℕ, List, [], ◌∷◌, ◌++◌, codes}
use Rattle.ix_net.specs.declared.netlist.Net.{Net}
use Rattle.ix_net.specs.declared.netlist.Form.TheVariants.{Copy, Not}

-- a module that shows an input of four bits, and one that shows the other bit of its input
abbrev pub two_nets : List Net
two_nets =
    record {
      name = codes "ixt_same";
      inputs = record { name = codes "en1"; width = 1 } ∷ record { name = codes "in0"; width = 4 } ∷ [];
      cells = record { target = codes "out1_v"; width = 4; form = Copy (codes "in0") } ∷ [];
      banks = [];
      outputs = record { name = codes "out1_v"; width = 4 } ∷ [];
    }
    ∷ record {
      name = codes "ixt_turn";
      inputs = record { name = codes "in0"; width = 1 } ∷ [];
      cells = record { target = codes "out1_c"; width = 1; form = Not (codes "in0") } ∷ [];
      banks = [];
      outputs = record { name = codes "out1_c"; width = 1 } ∷ [];
    }
    ∷ []

-- the values of the five ports in three rows
abbrev pub three_rows : List (List ℕ)
three_rows =
    (0 ∷ 5 ∷ 5 ∷ 1 ∷ 0 ∷ [])
    ∷ (1 ∷ 5 ∷ 5 ∷ 0 ∷ 1 ∷ [])
    ∷ (1 ∷ 5 ∷ 5 ∷ 0 ∷ 1 ∷ [])
    ∷ []

abbrev pub hand_head : List ℕ
hand_head =
    codes "$timescale 1ns $end\n"
    ++ codes "$scope module ixt_same $end\n"
    ++ codes "$var wire 1 p0 en1 $end\n"
    ++ codes "$var wire 4 p1 in0 $end\n"
    ++ codes "$var wire 4 p2 out1_v $end\n"
    ++ codes "$upscope $end\n"
    ++ codes "$scope module ixt_turn $end\n"
    ++ codes "$var wire 1 p3 in0 $end\n"
    ++ codes "$var wire 1 p4 out1_c $end\n"
    ++ codes "$upscope $end\n"
    ++ codes "$enddefinitions $end\n"

-- their dump
abbrev pub hand_text : List ℕ
hand_text =
    hand_head
    ++ codes "#0\n0p0\nb0101 p1\nb0101 p2\n1p3\n0p4\n"
    ++ codes "#1\n1p0\n0p3\n1p4\n"
    ++ codes "#2\n"

-- one byte of it is another: the last port shows 0 in row 1
abbrev pub other_byte : List ℕ
other_byte =
    hand_head
    ++ codes "#0\n0p0\nb0101 p1\nb0101 p2\n1p3\n0p4\n"
    ++ codes "#1\n1p0\n0p3\n0p4\n"
    ++ codes "#2\n"

-- a port is printed again in a row in which it did not change
abbrev pub shown_again : List ℕ
shown_again =
    hand_head
    ++ codes "#0\n0p0\nb0101 p1\nb0101 p2\n1p3\n0p4\n"
    ++ codes "#1\n1p0\nb0101 p1\n0p3\n1p4\n"
    ++ codes "#2\n"
