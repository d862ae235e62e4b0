-- Rows that are written out, as they are printed (this project's choice).
use Rattle.std.specs.Prelude.{List, ℕ, codes, ◌++◌}

-- those beside an empty image
abbrev pub beside_empty_text : List ℕ
beside_empty_text =
    codes "0 a0@00000000 - -\n"
    ++ codes "1 - a0@00000000 - stop b Fetch\n"
    ++ codes "2 a1@00000004 - a0@00000000 ra0\n=a 0 00000000 00500093 x1=00000005\n"
    ++ codes "3 - a1@00000004 -\n"
    ++ codes "4 a2@00000008 - a1@00000004 ra1\n=a 1 00000004 00700113 x2=00000007\n"
    ++ codes "5 - a2@00000008 -\n"
    ++ codes "6 a3@0000000c - a2@00000008 ra2\n=a 2 00000008 002081b3 x3=0000000c\n"
    ++ codes "7 - a3@0000000c - stop a Ebreak\n"

-- those with two units, of which each hart has its own
abbrev pub sharing_text : List ℕ
sharing_text =
    codes "0 a0@00000000 - -\n"
    ++ codes "1 b0@00000000 a0@00000000 -\n"
    ++ codes "2 a1@00000004 b0@00000000 a0@00000000 ra0\n=a 0 00000000 00400313 x6=later\n"
    ++ codes "3 b1@00000004 a1@00000004/Unit(1,0) b0@00000000 wa0 rb0\n+a 0 x6=00000004\n=b 0 00000000 00300293 x5=later\n"
    ++ codes "4 a2@00000004 b1@00000004 -\n"
    ++ codes "5 - a2@00000004 b1@00000004 rb1\n=b 1 00000004 00400313 x6=later\n"
    ++ codes "6 - - a2@00000004 ra2 wb1\n=a 2 00000004 00600413 x8=later\n+b 1 x6=00000004\n"
    ++ codes "7 - - - wa2\n+a 2 x8=00000006\n"
    ++ codes "8 - - - stop a Fetch wb0\n+b 0 x5=00000003\n"
    ++ codes "9 - - - stop b Fetch\n"

-- those of two harts whose jumps come late, on five stages
abbrev pub late_text : List ℕ
late_text =
    codes "0 a0@00000000 - - - -\n"
    ++ codes "1 b0@00000000 a0@00000000 - - -\n"
    ++ codes "2 a1@00000004 b0@00000000 a0@00000000 - -\n"
    ++ codes "3 b1@00000004 a1@00000004 b0@00000000 a0@00000000 -\n"
    ++ codes "4 a2@00000008 b1@00000004 a1@00000004 b0@00000000 a0@00000000 ra0 fa1 fa2 pa00000008\n=a 0 00000000 0080006f pc=00000008\n"
    ++ codes "5 - - b1@00000004/Late(0) - b0@00000000 rb0\n=b 0 00000000 0040006f\n"
    ++ codes "6 a3@00000008 - - - -\n"
    ++ codes "7 b2@00000004 a3@00000008 - - -\n"
    ++ codes "8 - b2@00000004 a3@00000008 - - stop a Ebreak\n"
    ++ codes "9 - - b2@00000004 - - stop b Ebreak\n"
