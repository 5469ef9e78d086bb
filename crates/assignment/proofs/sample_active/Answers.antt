-- `sample_active` meets its contract: what its calls return is put together; a new candidate has drawn little. Assumes nothing.
use Rattle.std.proofs.Common.{rules, arith}
use Rattle.assignment.proofs.Laws.{assigned-few}
use Rattle.assignment.proofs.sample_active.Goals as goal

pub setting_for-setting-requires : goal.setting_for-setting-requires
setting_for-setting-requires c = (search rules, search rules, omega (arith, assigned-few c.args.state.now _ _ _ _ c.requires.few_dims c.assign_candidate-candidate.ensures))
