-- The end of discovery: what the calls of `finalize_discovery` return, put together.
use Rattle.std.proofs.Common.{◌≡◌, ap, ◌∙◌, ℕ, ◌≤◌, true, List}
use Rattle.rng_util.specs.Gen.{made}
use Rattle.rng_util.specs.Many.{padded}
use Rattle.rng_util.specs.declared.Gen.{Gen}
use Rattle.candidates.specs.Candidate.{blank_candidate}
use Rattle.candidates.specs.Random.{random_candidates}
use Rattle.candidates.specs.Space.{space_of}
use Rattle.candidates.specs.declared.Candidate.{Candidate}
use Rattle.candidates.specs.declared.Space.{Space}
use Rattle.selection.specs.Size.{size_of}
use Rattle.state.specs.declared.State.{State}
use Rattle.state.specs.View.{dims_of}
use Rattle.assignment.specs.Raw.{slot_count, begun_with, raw_begin}

module _ (s : State) (space : Space) (N : ℕ) (p : space ≡ space_of (dims_of s)) (q : N ≡ size_of s.setup.population_size space.n) where
  size_is : N ≡ slot_count s
  unfolding space_of
  size_is = q ∙ ap (λ (x : Space). size_of s.setup.population_size x.n) p

  pub size_few : slot_count s ≤ 160 → N ≤ 160
  size_few h = rw size_is h

  -- N random candidates were drawn
  module _ (g g' : Gen) (cs : List Candidate) (e : made cs g' ≡ padded 224 blank_candidate (random_candidates space N g)) where
    begun-is : begun_with s N (random_candidates space N g) ≡ raw_begin s g
    unfolding raw_begin
    begun-is = rw (size_is, p)

    -- the state as the code puts it together
    abbrev with-candidates : List Candidate → State
    with-candidates ys =
        record {
          setup = s.setup;
          first = s.first;
          discovered = true;
          n = N;
          n_dims = s.n_dims;
          dims = s.dims;
          candidates = ys;
          parents = s.parents;
          n_trials = s.n_trials;
          trials = s.trials;
          best = s.best;
          word = s.word;
          closed = s.closed;
          idle = s.idle;
        }

    pub begun-so : made (with-candidates cs) g' ≡ raw_begin s g
    begun-so = (λ i. made (with-candidates (e i).out) (e i).after) ∙ begun-is
