use Rattle.std.proofs.Common.{refl, codes, decimal}
use Rattle.std.specs.String.{string_bytes}
use Rattle.ix_diagnose.specs.Refusals.{before}
use Rattle.ix_diagnose.proofs.WordLemmas.{word_of}
use Rattle.ix_diagnose.proofs.LineLemmas.{told_line}
use Rattle.ix_diagnose.proofs.diagnosis.diagnose.Goals as goal

pub returns-in-Some-clause-extension : goal.returns-in-Some-clause-extension
returns-in-Some-clause-extension c kind from to w low high within e =
    let found = c.in-Some.ensures (codes "Extension") (before kind (before (decimal from) (decimal to))) (word_of (codes "Extension") refl) e in
    c.tell.ensures.at from to (c.finding_of.ensures.extension kind from to w low high (found.0.extension refl) found.1) within

pub returns-in-Some-clause-image : goal.returns-in-Some-clause-image
returns-in-Some-clause-image c n line e =
    let found = c.in-Some.ensures (codes "Image") (decimal n) (word_of (codes "Image") refl) e in
    told_line string_bytes c.args.name.now c.args.bytes.now n c.finding_of.result.place c.tell.result (c.finding_of.ensures.image n line (found.0.image refl) found.1) c.tell.ensures.at

pub returns-in-Some-clause-certificate : goal.returns-in-Some-clause-certificate
returns-in-Some-clause-certificate c kind n line e =
    let found = c.in-Some.ensures (codes "Certificate") (before (decimal n) kind) (word_of (codes "Certificate") refl) e in
    told_line string_bytes c.args.name.now c.args.bytes.now n c.finding_of.result.place c.tell.result (c.finding_of.ensures.certificate kind n line (found.0.certificate refl) found.1) c.tell.ensures.at

pub returns-in-Some-clause-source : goal.returns-in-Some-clause-source
returns-in-Some-clause-source c kind n w line e =
    let found = c.in-Some.ensures (codes "Source") (before kind (decimal n)) (word_of (codes "Source") refl) e in
    told_line string_bytes c.args.name.now c.args.bytes.now n c.finding_of.result.place c.tell.result (c.finding_of.ensures.source kind n w line (found.0.source refl) found.1) c.tell.ensures.at

pub returns-in-Some-clause-trace : goal.returns-in-Some-clause-trace
returns-in-Some-clause-trace c kind n line e =
    let found = c.in-Some.ensures (codes "Trace") (before (decimal n) kind) (word_of (codes "Trace") refl) e in
    told_line string_bytes c.args.name.now c.args.bytes.now n c.finding_of.result.place c.tell.result (c.finding_of.ensures.trace kind n line (found.0.trace refl) found.1) c.tell.ensures.at

pub returns-in-None-clause-extension : goal.returns-in-None-clause-extension
returns-in-None-clause-extension c kind from to w low high within e =
    absurd (c.in-None.ensures (codes "Extension") (before kind (before (decimal from) (decimal to))) (word_of (codes "Extension") refl) e)

pub returns-in-None-clause-image : goal.returns-in-None-clause-image
returns-in-None-clause-image c n line e = absurd (c.in-None.ensures (codes "Image") (decimal n) (word_of (codes "Image") refl) e)

pub returns-in-None-clause-certificate : goal.returns-in-None-clause-certificate
returns-in-None-clause-certificate c kind n line e = absurd (c.in-None.ensures (codes "Certificate") (before (decimal n) kind) (word_of (codes "Certificate") refl) e)

pub returns-in-None-clause-source : goal.returns-in-None-clause-source
returns-in-None-clause-source c kind n w line e = absurd (c.in-None.ensures (codes "Source") (before kind (decimal n)) (word_of (codes "Source") refl) e)

pub returns-in-None-clause-trace : goal.returns-in-None-clause-trace
returns-in-None-clause-trace c kind n line e = absurd (c.in-None.ensures (codes "Trace") (before (decimal n) kind) (word_of (codes "Trace") refl) e)
