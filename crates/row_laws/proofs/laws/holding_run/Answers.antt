use Rattle.row_laws.proofs.HoldingRows.{holding_lawful, untrue_hold_refused, later_hold_refused, tail_one_more_refused, tail_one_less_refused, tail_left_out_refused, custom_left_out_refused, skipped_word_refused, wrong_stop_refused, missing_stop_refused, untrue_trap_refused, taken_unasked_refused}
use Rattle.row_laws.proofs.laws.holding_run.Goals as goal

pub returns-clause-rows : goal.returns-clause-rows
returns-clause-rows c = holding_lawful

pub returns-clause-untrue_hold : goal.returns-clause-untrue_hold
returns-clause-untrue_hold c = untrue_hold_refused

pub returns-clause-later_hold : goal.returns-clause-later_hold
returns-clause-later_hold c = later_hold_refused

pub returns-clause-tail_one_more : goal.returns-clause-tail_one_more
returns-clause-tail_one_more c = tail_one_more_refused

pub returns-clause-tail_one_less : goal.returns-clause-tail_one_less
returns-clause-tail_one_less c = tail_one_less_refused

pub returns-clause-tail_left_out : goal.returns-clause-tail_left_out
returns-clause-tail_left_out c = tail_left_out_refused

pub returns-clause-custom_left_out : goal.returns-clause-custom_left_out
returns-clause-custom_left_out c = custom_left_out_refused

pub returns-clause-skipped_word : goal.returns-clause-skipped_word
returns-clause-skipped_word c = skipped_word_refused

pub returns-clause-wrong_stop : goal.returns-clause-wrong_stop
returns-clause-wrong_stop c = wrong_stop_refused

pub returns-clause-missing_stop : goal.returns-clause-missing_stop
returns-clause-missing_stop c = missing_stop_refused

pub returns-clause-untrue_trap : goal.returns-clause-untrue_trap
returns-clause-untrue_trap c = untrue_trap_refused

pub returns-clause-taken_unasked : goal.returns-clause-taken_unasked
returns-clause-taken_unasked c = taken_unasked_refused
