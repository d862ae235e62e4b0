use Rattle.row_laws.proofs.GuessingRows.{over_lawful, next_word_refused, next_word_lawful, jump_fetched_refused, back_lawful, never_guessed_refused, guessed_ahead_refused, miss_kept_refused}
use Rattle.row_laws.proofs.laws.guessing_run.Goals as goal

pub returns-clause-over : goal.returns-clause-over
returns-clause-over c = over_lawful

pub returns-clause-next_word_fetched : goal.returns-clause-next_word_fetched
returns-clause-next_word_fetched c = next_word_refused

pub returns-clause-plain : goal.returns-clause-plain
returns-clause-plain c = next_word_lawful

pub returns-clause-jump_fetched : goal.returns-clause-jump_fetched
returns-clause-jump_fetched c = jump_fetched_refused

pub returns-clause-back : goal.returns-clause-back
returns-clause-back c = back_lawful

pub returns-clause-never_guessed : goal.returns-clause-never_guessed
returns-clause-never_guessed c = never_guessed_refused

pub returns-clause-guessed_ahead : goal.returns-clause-guessed_ahead
returns-clause-guessed_ahead c = guessed_ahead_refused

pub returns-clause-miss_kept : goal.returns-clause-miss_kept
returns-clause-miss_kept c = miss_kept_refused
