-- What is made, as the code's arrays hold it: unused places as in a fresh state.
use Rattle.std.specs.Prelude.{List}
use Rattle.rng_util.specs.Many.{pad_to}
use Rattle.common.specs.Bounds.{zero_f}
use Rattle.candidates.specs.Candidate.{blank_candidate}
use Rattle.evolution.specs.declared.Member.{Member}

-- a slot that is unused
abbrev pub blank_member : Member
blank_member = record { candidate = blank_candidate; value = zero_f }

-- N slots
abbrev pub members_rec : List Member → List Member
members_rec = pad_to 160 blank_member
