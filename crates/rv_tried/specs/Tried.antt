-- What a word comes to with what it sees, wherever that is from: a state of the sequential run, or the stages of a pipeline. The instruction and all
-- always-blocks see the same; an instruction that stops writes nothing and accesses nothing (the stops are this project's choice).
use Rattle.std.specs.Prelude.{ℕ, List, length, map, replicate, Option, Some, None, Bool, false, ◌&&◌, is_some, is_none}
use Rattle.ix_bits.specs.declared.number.Bits.{Bits}
use Rattle.ix_extension.specs.Extensions.{ExtensionTree}
use Rattle.ix_mean.specs.declared.evaluate.State.{State}
use Rattle.ix_mean.specs.Given.{inputs_of}
use Rattle.ix_eval.specs.declared.access.Access.{Access}
use Rattle.ix_eval.specs.declared.effect.Effect.{Effect}
use Rattle.rv_seq.specs.declared.decoded.Decoded.{Decoded}
use Rattle.rv_seq.specs.Memory.{peeked}
use Rattle.rv_seq.specs.WordEffects.{effect_of, over, blocks_effect}
use Rattle.rv_seq.specs.declared.answer.StepAnswer.TheVariants.{Done, Stopped}
use Rattle.rv_seq.specs.declared.commit.Stop.{Stop}
use Rattle.rv_seq.specs.declared.commit.Stop.TheVariants.{Illegal}
use Rattle.rv_seq.specs.Commits.{commit_of}
use Rattle.rv_seq.specs.Runs.{access_in}
use Rattle.rv_seq.specs.Steps.{return_effect, unless_stopped}
use Rattle.rv_seq.specs.Stops.{stop_of}
use Rattle.rv_tried.specs.declared.trial.Trial.{Trial}

-- the effect of an instruction with what it sees
abbrev pub effect_seen : ExtensionTree → State → List ℕ → Decoded → Effect
effect_seen x s memory d = effect_of x d (inputs_of s (peeked memory))

-- the effect of all always-blocks
abbrev pub blocks_seen : ExtensionTree → State → List ℕ → Effect
blocks_seen x s memory = blocks_effect x (inputs_of s (peeked memory)) (length x.blocks)

-- its effect behind that of all always-blocks
abbrev pub whole_seen : ExtensionTree → State → List ℕ → Decoded → Effect
whole_seen x s memory d = over (effect_seen x s memory d) (blocks_seen x s memory)

-- no custom register is written
abbrev pub no_customs : List (Option Bits)
no_customs = replicate 16 None

-- the custom registers that are written
abbrev pub marked : List (Option Bits) → List Bool
marked customs = map is_some customs

-- these writes, where the instruction does not stop
abbrev pub unless_stopping : Option Stop → List (Option Bits) → List (Option Bits)
unless_stopping None customs = customs
unless_stopping (Some stop) customs = no_customs

-- this load, where the instruction does not stop
abbrev pub load_unless : Option Stop → Option Access → Option Access
load_unless None load = load
load_unless (Some stop) load = None

-- what an instruction comes to
unfoldable pub tried_instruction : ExtensionTree → State → List ℕ → Decoded → Trial
tried_instruction x s memory d =
    record {
      answer = unless_stopped (stop_of d (effect_seen x s memory d)) (Done (commit_of s.pc s.word (whole_seen x s memory d)));
      accesses = is_none (stop_of d (effect_seen x s memory d)) && is_some (access_in (effect_seen x s memory d));
      load = load_unless (stop_of d (effect_seen x s memory d)) (effect_seen x s memory d).load;
      blocks = unless_stopping (stop_of d (effect_seen x s memory d)) (blocks_seen x s memory).custom;
      own = marked (unless_stopping (stop_of d (effect_seen x s memory d)) (effect_seen x s memory d).custom);
    }

-- what a return to this address comes to: it goes on there, with the always-blocks beside it
unfoldable pub tried_return : ExtensionTree → State → List ℕ → ℕ → Trial
tried_return x s memory at =
    record {
      answer = Done (commit_of s.pc s.word (over (return_effect at) (blocks_seen x s memory)));
      accesses = false;
      load = None;
      blocks = (blocks_seen x s memory).custom;
      own = marked no_customs;
    }

-- what a word that stops comes to
abbrev pub no_trial : Trial
no_trial = record { answer = Stopped Illegal; accesses = false; load = None; blocks = no_customs; own = marked no_customs }

-- what a word that is no instruction comes to: it stops, unless it returns to this address
abbrev pub tried_unknown : ExtensionTree → State → List ℕ → Option ℕ → Trial
tried_unknown x s memory None = no_trial
tried_unknown x s memory (Some at) = tried_return x s memory at

-- what a word comes to, which returns to this address where it is a return
unfoldable pub tried : ExtensionTree → State → List ℕ → Option ℕ → Option Decoded → Trial
tried x s memory back None = tried_unknown x s memory back
tried x s memory back (Some d) = tried_instruction x s memory d
