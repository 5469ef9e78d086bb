-- The sample call: step 1, the refusals in their order, and what comes of a call. This is demand 2's definition, but for the kernel.
use Rattle.ledger.specs.Words.{or_else, refuse_if, has}
use Rattle.ledger.specs.Kernel.{Gen, Made, Kernel}
use Rattle.ledger.specs.Call.{Call, call_refusal}
use Rattle.ledger.specs.State.{numbers, State, start_gen, given, Returned, refuse}
use Rattle.ledger.specs.Closing.{counted, close}
use Rattle.ledger.specs.Assignment.{place_in, Accepted, assign}
use Rattle.ledger.specs.Soundness.{sound_test}
use Rattle.std.specs.Prelude.{Bool, true, false, not, ◌&&◌, cond, List, [], ◌∷◌, ◌++◌, ℕ, ◌+◌, leb, eqb, length, Option, Some, None, is_none, slice_get}

-- before discovery ends, by the first trial's number: the call is of discovery, since it names the first trial or is that trial's
abbrev pub discovers : Option ℕ → ℕ → Bool
discovers None n = true
discovers (Some t) n = eqb t n

module _ (K : Kernel) where
  open K use {Setup, Setting, Candidate, Word, size_of, random, firsts}

  -- ---- steps 5 and 6: a call after discovery, or the one that ends it: closing, then assignment
  unfoldable pub sampling : Setup → ℕ → State K → Call K → Gen Word → Accepted K
  sampling S N s c g =
      let m = close K S s g (counted K N (numbers s.trials) c.history) in
      assign K S m.out c m.gen (slice_get m.out.candidates (place_in (numbers m.out.trials) c.number))

  -- ---- step 1: discovery

  -- "The first trial's calls each append a dimension and answer `sample_random`."
  abbrev pub discover : State K → Call K → Made Word Setting → Accepted K
  discover s c m =
      record {
        setting = m.out;
        draws = m.gen.draws;
        state =
            record {
              word = m.gen.word;
              first = Some c.number;
              dims = s.dims ++ (c.distribution ∷ []);
              size = None;
              candidates = s.candidates;
              trials = s.trials;
              slots = s.slots;
            };
      }

  -- discovery has ended: N is fixed, and there are candidates
  abbrev pub begin : State K → ℕ → List Candidate → State K
  begin s N cs = record { word = s.word; first = s.first; dims = s.dims; size = Some N; candidates = cs; trials = s.trials; slots = s.slots }

  -- by whether the call is of discovery: "A call with another trial number fixes N, fills N random candidates and is then served as below."
  unfoldable pub discovery : Setup → Bool → State K → Call K → Accepted K
  discovery S true s c = discover s c (random c.distribution (start_gen K s))
  discovery S false s c =
      let N = size_of S s.dims in
      let m = firsts S s.dims N (start_gen K s) in
      sampling S N (begin s N m.out) c m.gen

  -- ---- refusals: "The first that applies, in this order, is given, and only then."

  -- 9, before discovery ends: "a 17th dimension of the first trial"; 10, after it: "no generation closes, the trial has no candidate, 64 extras given"
  unfoldable pub state_refusal : Option ℕ → State K → Call K → Option ℕ
  state_refusal None s c = refuse_if (discovers s.first c.number && leb 16 (length s.dims)) 9
  state_refusal (Some N) s c =
      refuse_if (is_none (counted K N (numbers s.trials) c.history) && (not (has (numbers s.trials) c.number) && leb (N + 64) (length s.trials))) 10

  -- what the call makes if 4 to 10 don't refuse it, by N
  unfoldable pub accept : Setup → Option ℕ → State K → Call K → Accepted K
  accept S None s c = discovery S (discovers s.first c.number) s c
  accept S (Some N) s c = sampling S N s c (start_gen K s)

  -- by the first of 4 to 10, and by what the call makes
  abbrev pub outcome : State K → Option ℕ → Accepted K → Returned K (State K)
  outcome s (Some r) a = refuse K r s
  outcome s None a = record { answer = given a.setting; draws = a.draws; state = a.state }

  -- a sample call on a sound state
  unfoldable pub step : Setup → State K → Call K → Returned K (State K)
  step S s c = outcome s (or_else (call_refusal K c) (state_refusal s.size s c)) (accept S s.size s c)

  -- 0: "sample or look: the state isn't sound". The whole sample call:
  unfoldable pub sample : Setup → State K → Call K → Returned K (State K)
  sample S s c = cond (sound_test K S s) (step S s c) (refuse K 0 s)
