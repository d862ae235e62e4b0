use Rattle.std.proofs.Common.{◌≡◌, set, sym, subst, ◌∙◌}
use Rattle.std.proofs.lemmas.Bool.{false≢true}
use Rattle.ix_vread.specs.declared.mark.Mark.TheVariants.{Free}
use Rattle.ix_vread.specs.Searches.{AreKnown}
use Rattle.ix_vread.proofs.Knowing.{known_looped, known_free}
use Rattle.ix_vread.proofs.search.look_at.Goals as goal
use Rattle.ix_vread.proofs.search.look_at.Goals.{then-is_new, else-is_new}

pub returns : goal.returns
returns c = λ order place o lp er k.
    let readers = c.args.readers.now in
    let old = c.args.marks.now in
    let new = c.search.new.marks in
    let root = c.args.root in
    elim c.if-is_new.branch [
      | then-is_new w ↦ (let e : c.if-is_new.marks ≡ set c.search.new.marks c.args.root Free = cc (w.marks-is) in known_free readers order place root old new o lp er k c.in_ok-search.ensures c.if-is_new.marks e (c.is_new-2.ensures.0 w.if-is_new.true))
      | else-is_new w ↦ (let e : c.if-is_new.marks ≡ c.search.new.marks = cc (w.marks-is) in subst (AreKnown readers order place) (sym e) (known_looped readers order place root old new o lp er k c.in_ok-search.ensures (λ n. false≢true (sym w.if-is_new.false ∙ c.is_new-2.ensures.1 n))))
    ]
