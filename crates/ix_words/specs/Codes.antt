-- The exit status of each answer (this project's choice).
use Rattle.std.specs.Prelude.{ℕ}
use Rattle.ix_words.specs.declared.status.Status.{Status}
use Rattle.ix_words.specs.declared.status.Status.TheVariants.{Ok, Usage, ReadFault, WriteFault, TooLong, Extension, Sheet, Image, NoSchedule, Certificate, Memory, Source, Waits, Lines, Trace, Barrel}

-- the exit status of each answer
abbrev pub code_of : Status → ℕ
code_of Ok = 0
code_of Usage = 2
code_of ReadFault = 4
code_of WriteFault = 5
code_of TooLong = 6
code_of Extension = 7
code_of Sheet = 8
code_of Image = 9
code_of NoSchedule = 10
code_of Certificate = 11
code_of Memory = 12
code_of Source = 13
code_of Waits = 14
code_of Lines = 15
code_of Trace = 16
code_of Barrel = 17
