use Rattle.std.proofs.Common.{◌≡◌, drop}
use Rattle.ix_io.specs.Shelf.{file_named}
use Rattle.ix_io.proofs.files.find.Given as goal

-- the files that are left give the answer
abbrev pub invariant-loop-file : goal.invariant-loop-file
invariant-loop-file l = file_named (drop l.file-index l.files) l.name ≡ file_named l.files l.name
