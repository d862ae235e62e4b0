-- The sequential step: one instruction with the always-blocks (RISC-V Unprivileged ISA, RV32I; CoreDSL 2, always-blocks; the stops and the order of the writes are
-- this project's choice). The instruction and all blocks see the state before. There are no cycles in it.
use Rattle.std.specs.Prelude.{ℕ, ◌/◌, ◌%◌, List, length, replicate, Option, Some, None, if◌then◌else◌, nat_eq, slice_get}
use Rattle.ix_extension.specs.Extensions.{ExtensionTree}
use Rattle.ix_eval.specs.declared.effect.Effect.{Effect}
use Rattle.rv_seq.specs.declared.decoded.Decoded.{Decoded}
use Rattle.rv_seq.specs.Decoding.{decoded_in}
use Rattle.rv_seq.specs.WordEffects.{effect_of, over, blocks_effect}
use Rattle.rv_seq.specs.declared.arch.Arch.{Arch}
use Rattle.rv_seq.specs.declared.answer.StepAnswer.{StepAnswer}
use Rattle.rv_seq.specs.declared.answer.StepAnswer.TheVariants.{Done, Stopped}
use Rattle.rv_seq.specs.declared.commit.Stop.{Stop}
use Rattle.rv_seq.specs.declared.commit.Stop.TheVariants.{Fetch, Illegal}
use Rattle.rv_seq.specs.States.{inputs_at}
use Rattle.rv_seq.specs.Commits.{commit_of, applied}
use Rattle.rv_seq.specs.Stops.{stop_of}
use Rattle.rv_seq.specs.Interrupts.{return_to, is_return, resumed}

-- the word at an address of the image, where the address is divisible by 4 and inside it
abbrev pub word_at : List ℕ → ℕ → Option ℕ
word_at image at = if nat_eq (at % 4) 0 then slice_get image (at / 4) else None

-- the effect of the instruction of a word in a state
abbrev pub own_effect : ExtensionTree → Arch → ℕ → Decoded → Effect
own_effect x s word d = effect_of x d (inputs_at word s)

-- its effect behind that of all always-blocks
abbrev pub whole_effect : ExtensionTree → Arch → ℕ → Decoded → Effect
whole_effect x s word d = over (own_effect x s word d) (blocks_effect x (inputs_at word s) (length x.blocks))

-- a stopping instruction writes nothing, and no block acts with it
abbrev pub unless_stopped : Option Stop → StepAnswer → StepAnswer
unless_stopped (Some stop) done = Stopped stop
unless_stopped None done = done

unfoldable pub attempted : ExtensionTree → Arch → ℕ → Decoded → StepAnswer
attempted x s word d = unless_stopped (stop_of d (own_effect x s word d)) (Done (commit_of s.pc word (whole_effect x s word d)))

-- a return goes on at this address, and does nothing else
abbrev pub return_effect : ℕ → Effect
return_effect at = record { rd = None; pc = Some at; custom = replicate 16 None; load = None; store = None }

-- what a word that is no instruction comes to: it stops, unless it goes on at this address, with the always-blocks beside it
unfoldable pub of_return : ExtensionTree → Arch → ℕ → Option ℕ → StepAnswer
of_return x s word None = Stopped Illegal
of_return x s word (Some at) = Done (commit_of s.pc word (over (return_effect at) (blocks_effect x (inputs_at word s) (length x.blocks))))

-- what a word comes to
abbrev pub of_decoded : ExtensionTree → Arch → ℕ → Option Decoded → StepAnswer
of_decoded x s word None = of_return x s word (return_to word s.trap)
of_decoded x s word (Some d) = attempted x s word d

-- what a fetch comes to; one outside the image, or between words, stops
abbrev pub of_word : ExtensionTree → Arch → Option ℕ → StepAnswer
of_word x s None = Stopped Fetch
of_word x s (Some word) = of_decoded x s word (decoded_in x word)

-- a step of the state
unfoldable pub step : ExtensionTree → List ℕ → Arch → StepAnswer
step x image s = of_word x s (word_at image s.pc)

-- the state after a step; a stop leaves it as it was
abbrev pub after : ExtensionTree → Arch → StepAnswer → Arch
after x s (Done c) = resumed (is_return x c.word) (applied c s)
after x s (Stopped stop) = s
