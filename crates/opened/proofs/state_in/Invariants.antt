-- What each part of the state is read as.
use Rattle.kinds.specs.Rows.{dim_in, trial_in, candidate_in, member_in}
use Rattle.opened.proofs.state_in.Given as goal

abbrev pub ghost-read_rows : goal.ghost-read_rows
ghost-read_rows a = dim_in

abbrev pub ghost-read_rows-2 : goal.ghost-read_rows-2
ghost-read_rows-2 a = trial_in

abbrev pub ghost-read_rows-3 : goal.ghost-read_rows-3
ghost-read_rows-3 a = member_in a.read.0.now

abbrev pub ghost-read_rows-4 : goal.ghost-read_rows-4
ghost-read_rows-4 a = candidate_in a.read.0.now
