use Rattle.std.proofs.Common.{◌≡◌, ◌∙◌, sym, ap, subst, ℕ, List}
use Rattle.ix_extension.specs.Extensions.{view_extension}
use Rattle.ix_io.specs.Sink.{Appends, AppendsFront}
use Rattle.ix_plan.specs.declared.design.Design.{Design}
use Rattle.rv_text.specs.Telling.{Told}
use Rattle.rv_text.proofs.Parts.{at_ok, at_err, told_first}
use Rattle.rv_barrel_text.specs.BarrelText.{barrel_text}
use Rattle.rv_barrel_text.proofs.Rows.{text_from, from_first}
use Rattle.rv_barrel_text.proofs.Steps.{ends_there}
use Rattle.ix_tool.proofs.turning.tell.Goals as goal

pub returns-in-Ok-clause-whole : goal.returns-in-Ok-clause-whole
returns-in-Ok-clause-whole g c =
    let d = c.args.barrel.now.design in
    let a = c.args.barrel.now.first in
    let b = c.args.barrel.now.second in
    let k = c.write_rows.new.barrel in
    let before = g.S.Sink.written c.args.sink.now in
    let all = text_from d a b c.args.cycles 0 in
    let x = view_extension c.args.design.now.extension in
    let ends = ends_there d k.design a b k.first k.second c.write_rows.ensures.design c.write_rows.ensures.images.0 c.write_rows.ensures.images.1 k.made x c.as_slice.result.now c.as_slice-in-Ok.result.now c.arch.result.now c.arch-in-Ok.result.now
    (ap (λ (z : Design). view_extension z.extension) c.requires.design) (c.as_slice.ensures.value ∙ c.list_outstanding.ensures.list) (c.as_slice-in-Ok.ensures.value ∙ c.list_outstanding-in-Ok.ensures.list) c.arch.ensures c.arch-in-Ok.ensures in
    let is : all ≡ barrel_text c.args.design.now a b c.args.cycles = from_first d a b c.args.cycles ∙ ap (λ z. barrel_text z a b c.args.cycles) (sym c.requires.design) in
    at_ok c.write_ends.result
    (λ f.
    subst (λ (l : List ℕ). Appends before (g.S.Sink.written c.write_ends.new.sink) l) is
    (f x (sym c.len.ensures) before all
    (subst (λ (l : List ℕ). Told before (g.S.Sink.written c.write_rows.new.sink) c.write_rows.new.out l all) ends (c.in-Ok.ensures.carries before all (told_first before c.args.out.now all c.requires.empty)))))
    c.write_ends.ensures.whole

pub returns-in-Ok-clause-front : goal.returns-in-Ok-clause-front
returns-in-Ok-clause-front g c =
    let d = c.args.barrel.now.design in
    let a = c.args.barrel.now.first in
    let b = c.args.barrel.now.second in
    let k = c.write_rows.new.barrel in
    let before = g.S.Sink.written c.args.sink.now in
    let all = text_from d a b c.args.cycles 0 in
    let x = view_extension c.args.design.now.extension in
    let ends = ends_there d k.design a b k.first k.second c.write_rows.ensures.design c.write_rows.ensures.images.0 c.write_rows.ensures.images.1 k.made x c.as_slice.result.now c.as_slice-in-Ok.result.now c.arch.result.now c.arch-in-Ok.result.now
    (ap (λ (z : Design). view_extension z.extension) c.requires.design) (c.as_slice.ensures.value ∙ c.list_outstanding.ensures.list) (c.as_slice-in-Ok.ensures.value ∙ c.list_outstanding-in-Ok.ensures.list) c.arch.ensures c.arch-in-Ok.ensures in
    let is : all ≡ barrel_text c.args.design.now a b c.args.cycles = from_first d a b c.args.cycles ∙ ap (λ z. barrel_text z a b c.args.cycles) (sym c.requires.design) in
    at_err c.write_ends.result
    (λ f.
    subst (λ (l : List ℕ). AppendsFront before (g.S.Sink.written c.write_ends.new.sink) l) is
    (f x (sym c.len.ensures) before all
    (subst (λ (l : List ℕ). Told before (g.S.Sink.written c.write_rows.new.sink) c.write_rows.new.out l all) ends (c.in-Ok.ensures.carries before all (told_first before c.args.out.now all c.requires.empty)))))
    c.write_ends.ensures.front

pub returns-in-Err-clause-front : goal.returns-in-Err-clause-front
returns-in-Err-clause-front g c =
    let d = c.args.barrel.now.design in
    let a = c.args.barrel.now.first in
    let b = c.args.barrel.now.second in
    let before = g.S.Sink.written c.args.sink.now in
    let all = text_from d a b c.args.cycles 0 in
    let is : all ≡ barrel_text c.args.design.now a b c.args.cycles = from_first d a b c.args.cycles ∙ ap (λ z. barrel_text z a b c.args.cycles) (sym c.requires.design) in
    subst (λ (l : List ℕ). AppendsFront before (g.S.Sink.written c.write_rows.new.sink) l) is (c.in-Err.ensures.breaks before all (told_first before c.args.out.now all c.requires.empty))
