-- `candidate_fits` meets its contract: entries and choices by the limits are those of the definition (`fits_by`).
use Rattle.std.proofs.Common.{rules}
use Rattle.state.proofs.Fitting.{fits_by}
use Rattle.state.proofs.places.candidate_fits.Goals as goal

pub returns : goal.returns
returns c = fits_by c.args.c.now c.args.limits.now (record { x = search rules; choices = search rules }) c.entries_fit.ensures c.choices_fit.ensures
