use Rattle.std.proofs.lemmas.List.{get_or_default}
use Rattle.rv_asm.specs.Forms.{form_of, forms}
use Rattle.rv_asm.specs.declared.form.Form.TheVariants.{Registers, Bare}
use Rattle.rv_asm.proofs.form.form_of.Goals as goal

-- the code's read past the end, which no place below 45 meets, has another default
pub returns : goal.returns
unfolding form_of forms
returns c = get_or_default forms c.args.place Registers Bare c.requires
