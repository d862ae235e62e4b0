use Rattle.std.proofs.Common.{◌≡◌, ◌+◌, ℕ, length, take, refl, ap, ◌∙◌}
use Rattle.ix_verilog.specs.Words.{words_of}
use Rattle.ix_verilog.proofs.OneSpelling.{one_spelling}
use Rattle.ix_vnets.specs.Drives.{drives, DriveFits, IsFirstNot}
use Rattle.ix_vread.specs.Told.{line_at}
use Rattle.ix_vread.specs.Spots.{drive_place}
use Rattle.ix_vread.proofs.Spots.{drive_stands, place_small}
use Rattle.ix_vread.proofs.reading.misfit.Goals as goal

pub line_at-requires-clause-within : goal.line_at-requires-clause-within
line_at-requires-clause-within c = (place_small c.args.bytes.now c.args.tokens.now (length (drives (take c.args.before c.args.modules.now)) + c.args.drive) c.in-Ok.place c.requires.small c.requires.spelled c.in-Ok.ensures).0

pub line_at-requires-clause-small : goal.line_at-requires-clause-small
line_at-requires-clause-small c = (place_small c.args.bytes.now c.args.tokens.now (length (drives (take c.args.before c.args.modules.now)) + c.args.drive) c.in-Ok.place c.requires.small c.requires.spelled c.in-Ok.ensures).1

pub returns-in-Ok : goal.returns-in-Ok
returns-in-Ok c =
    let w = c.requires.written in
    let k : ℕ = length (drives (take c.args.before c.args.modules.now)) + c.args.drive in
    let f : IsFirstNot DriveFits (drives c.args.modules.now) k = c.nets_laws.ensures.misfit c.args.modules.now c.args.before c.args.drive c.requires.misfit in
    let t = drive_stands c.args.bytes.now c.args.modules.now w k (c.nets_laws.ensures.numbered (words_of w.tokens) c.args.modules.now w.are) f in
    let same : c.args.tokens.now ≡ w.tokens = one_spelling c.requires.spelled c.args.bytes.now refl w.spelled in
    record {
      modules = c.args.modules.now;
      written = w;
      once = c.requires.once;
      number = k;
      misfit = f;
      word = t.0;
      begins = t.1;
      is = c.line_at.ensures ∙ ap (line_at c.args.bytes.now) (c.in-Ok.ensures ∙ ap (λ z. drive_place z k) same ∙ t.2);
    }
