use Rattle.row_laws.proofs.InterruptingOthers.{never_taken_refused, taken_unraised_refused, trap_unraised_refused, taken_early_refused, taken_at_retired_refused, taken_at_youngest_refused, trap_left_out_refused, behind_alone_refused, below_unflushed_refused, ex_unflushed_refused, above_flushed_refused, no_redirect_refused, other_redirect_refused, taken_again_refused, taken_in_handler_refused, trap_again_refused, trap_in_handler_refused, answers_in_time, answers_late_refused, stopped_before_refused}
use Rattle.row_laws.proofs.InterruptingRows.{interrupted_lawful}
use Rattle.row_laws.proofs.InterruptingStates.{interrupted_agrees, undiverted_refused}
use Rattle.row_laws.proofs.InterruptingTwice.{again_lawful}
use Rattle.row_laws.proofs.laws.interrupted_run.Goals as goal

pub returns-clause-rows : goal.returns-clause-rows
returns-clause-rows c = interrupted_lawful

pub returns-clause-agrees : goal.returns-clause-agrees
returns-clause-agrees c = interrupted_agrees

pub returns-clause-again : goal.returns-clause-again
returns-clause-again c = again_lawful

pub returns-clause-never_taken : goal.returns-clause-never_taken
returns-clause-never_taken c = never_taken_refused

pub returns-clause-taken_unraised : goal.returns-clause-taken_unraised
returns-clause-taken_unraised c = taken_unraised_refused

pub returns-clause-trap_unraised : goal.returns-clause-trap_unraised
returns-clause-trap_unraised c = trap_unraised_refused

pub returns-clause-taken_early : goal.returns-clause-taken_early
returns-clause-taken_early c = taken_early_refused

pub returns-clause-taken_at_retired : goal.returns-clause-taken_at_retired
returns-clause-taken_at_retired c = taken_at_retired_refused

pub returns-clause-taken_at_youngest : goal.returns-clause-taken_at_youngest
returns-clause-taken_at_youngest c = taken_at_youngest_refused

pub returns-clause-trap_left_out : goal.returns-clause-trap_left_out
returns-clause-trap_left_out c = trap_left_out_refused

pub returns-clause-behind_alone : goal.returns-clause-behind_alone
returns-clause-behind_alone c = behind_alone_refused

pub returns-clause-below_unflushed : goal.returns-clause-below_unflushed
returns-clause-below_unflushed c = below_unflushed_refused

pub returns-clause-ex_unflushed : goal.returns-clause-ex_unflushed
returns-clause-ex_unflushed c = ex_unflushed_refused

pub returns-clause-above_flushed : goal.returns-clause-above_flushed
returns-clause-above_flushed c = above_flushed_refused

pub returns-clause-no_redirect : goal.returns-clause-no_redirect
returns-clause-no_redirect c = no_redirect_refused

pub returns-clause-other_redirect : goal.returns-clause-other_redirect
returns-clause-other_redirect c = other_redirect_refused

pub returns-clause-taken_again : goal.returns-clause-taken_again
returns-clause-taken_again c = taken_again_refused

pub returns-clause-taken_in_handler : goal.returns-clause-taken_in_handler
returns-clause-taken_in_handler c = taken_in_handler_refused

pub returns-clause-trap_again : goal.returns-clause-trap_again
returns-clause-trap_again c = trap_again_refused

pub returns-clause-trap_in_handler : goal.returns-clause-trap_in_handler
returns-clause-trap_in_handler c = trap_in_handler_refused

pub returns-clause-undiverted : goal.returns-clause-undiverted
returns-clause-undiverted c = undiverted_refused

pub returns-clause-answers : goal.returns-clause-answers
returns-clause-answers c = answers_in_time

pub returns-clause-answers_late : goal.returns-clause-answers_late
returns-clause-answers_late c = answers_late_refused

pub returns-clause-stopped_before : goal.returns-clause-stopped_before
returns-clause-stopped_before c = stopped_before_refused
