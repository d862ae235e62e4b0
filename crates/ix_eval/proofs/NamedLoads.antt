-- What an effect loads, by names.
use Rattle.std.proofs.Common.{ap, List, option_map}
use Rattle.ix_mean.specs.Meaning.{Access}
use Rattle.ix_behaviour.specs.Laws.{BehaviourReadsLaw}
use Rattle.ix_eval.specs.Evaluated.{read_of, effect_at, NamedLoadLaw}
use Rattle.ix_eval.specs.Readings.{first_of}

pub named_load_law : BehaviourReadsLaw → NamedLoadLaw
unfolding effect_at
named_load_law law t x w i h b word = ap (λ (rs : List Access). option_map read_of (first_of rs)) (law t x w i h b word)
