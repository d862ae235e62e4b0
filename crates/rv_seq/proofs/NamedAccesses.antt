-- The access of a step, by names.
use Rattle.std.proofs.Common.{ap, Option, option_map}
use Rattle.std.specs.Option.{option_or}
use Rattle.ix_behaviour.specs.declared.which.Which.TheVariants as W
use Rattle.ix_behaviour.specs.Behaviours.{statement_at, stored_type, effect_by_name}
use Rattle.ix_eval.specs.Evaluated.{store_of, written, effect_at, NamedLoadLaw}
use Rattle.ix_eval.specs.declared.access.Access.{Access}
use Rattle.rv_seq.specs.Accesses.{AccessLaw}
use Rattle.rv_seq.specs.Runs.{stored_at}
use Rattle.rv_seq.specs.States.{inputs_at}
use Rattle.rv_seq.specs.WordEffects.{effect_of}

pub named_access_law : NamedLoadLaw → AccessLaw
unfolding effect_of effect_at
named_access_law law t x n word s h b less =
    let i = inputs_at word s in
    let w = W.Instruction n in
    ap (λ (o : Option Access). option_or o (option_map stored_at (option_map (store_of (stored_type (statement_at x w))) (written (effect_by_name x w i) 0)))) (law t x w i h b less)
