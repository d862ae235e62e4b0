use Rattle.std.proofs.Common.{◌≡◌, ◌∙◌, ◌+◌, ◌<◌, sym, ap, ℕ, zero, suc, List, [], ◌∷◌, length, drop, get_or, true, false, Some, arith}
use Rattle.std.specs.Prelude.{if◌then◌else◌}
use Rattle.ix_words.specs.declared.command.Command.{Command}
use Rattle.ix_words.specs.declared.command.Command.TheVariants.{RunImage}
use Rattle.ix_words.specs.CommandLine.{first_command, is_command, commands, bytes_of}
use Rattle.ix_words.proofs.command.command_of.Goals as goal

-- a command whose words they are not
passed : (list : List Command) (k : ℕ) (d : Command) (words : List (List ℕ)) → k < length list → false ≡ is_command (get_or list k d) words → first_command (drop k list) words ≡ first_command (drop (suc k) list) words
passed [] k d words h e = absurd (omega (arith, h))
passed (c ∷ rest) zero d words h e = ap (λ b. if b then Some c else first_command rest words) (sym e)
passed (c ∷ rest) (suc k) d words h e = passed rest k d words (omega (arith, h)) e

pub loop-command-preserved : goal.loop-command-preserved
loop-command-preserved c =
    let words = bytes_of c.args.words.now in
    let next : suc c.loop-command.command-index ≡ c.loop-command.command-index + 1 = omega arith in
    c.loop-command.invariant
    ∙ passed commands c.loop-command.command-index RunImage words (omega (arith, c.loop-command-test.true)) (sym c.if-is_command.false ∙ c.is_command.ensures)
    ∙ ap (λ j. first_command (drop j commands) words) next

-- a command whose words they are
found : (list : List Command) (k : ℕ) (d : Command) (words : List (List ℕ)) → k < length list → true ≡ is_command (get_or list k d) words → first_command (drop k list) words ≡ Some (get_or list k d)
found [] k d words h e = absurd (omega (arith, h))
found (c ∷ rest) zero d words h e = ap (λ b. if b then Some c else first_command rest words) (sym e)
found (c ∷ rest) (suc k) d words h e = found rest k d words (omega (arith, h)) e

pub returns-then-is_command : goal.returns-then-is_command
returns-then-is_command c =
    let words = bytes_of c.args.words.now in
    sym (c.loop-command.invariant ∙ found commands c.loop-command.command-index RunImage words (omega (arith, c.loop-command-test.true)) (sym c.if-is_command.true ∙ c.is_command.ensures))
