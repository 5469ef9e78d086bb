-- `state_in` meets its contract: each field is the definition's (Opening).
use Rattle.std.proofs.Common.{◌∙◌, ℕ, min, ap, arith}
use Rattle.rng_util.specs.Many.{pad_to, listed}
use Rattle.distribution.specs.declared.DimensionInfo.{DimensionInfo}
use Rattle.state.specs.declared.TrialProgress.{TrialProgress}
use Rattle.kinds.specs.Rows.{trial_in}
use Rattle.kinds.specs.Opened.{words_at, row, dim_at}
use Rattle.opened.proofs.Opening.{parents_fit, candidates_fit, opened}
use Rattle.opened.proofs.state_in.Goals as goal

pub prove-unreachable-requires : goal.prove-unreachable-requires
prove-unreachable-requires c = omega (arith, parents_fit c.min-n_parents.result c.min-d.result (omega arith) (omega arith))

pub prove-unreachable-requires-2 : goal.prove-unreachable-requires-2
prove-unreachable-requires-2 c = omega (arith, candidates_fit c.min-n_candidates.result c.min-d.result (omega arith) (omega arith))

pub returns : goal.returns
returns c =
    let ts = words_at c.args.tables.now in
    let dims = c.read_rows-dims.ensures ∙ ap (λ (b : DimensionInfo). pad_to 16 b (listed (dim_at (ts 2)) c.min-d.result 0)) c.blank.ensures in
    let trials = c.read_rows-trials.ensures ∙ ap (λ (b : TrialProgress). pad_to 224 b (listed (λ i. trial_in (row (ts 3) 2 i)) c.min.result 0)) c.blank-2.ensures in
    let parents = c.min-n_parents.ensures ∙ ap (λ (k : ℕ). min k 160) c.parent_count.ensures in
    let candidates = c.min-n_candidates.ensures ∙ ap (λ (k : ℕ). min k 224) c.candidate_count.ensures in
    opened (ts 0) (ts 1) (ts 2) (ts 3) (ts 4) (ts 5) _ _ _ _ _ _ _ _ _ _ _ _ c.setup_in.ensures c.word_option.ensures c.min-d.ensures
    dims c.min.ensures trials parents c.blank_member-2.ensures c.read_rows-state.ensures candidates c.blank-4.ensures c.read_rows-state-2.ensures
