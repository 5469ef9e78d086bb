-- A sample call by what it reads of its history is the definition's: after the history is read, no part of the call looks at it again.
use Rattle.std.specs.Prelude.{Option, Some, None, is_ok}
use Prim.Native.Nat.{ℕ, ◌≤◌}
use mathlib.Core.Path.{◌≡◌, refl, ap, ◌∙◌}
use mathlib.Core.Bool.{Bool, true, false, ◌&&◌, cond}
use mathlib.Core.List.{List, []}
use native.Mathlib.Omega.{arith}
use borrow.Author.Tests.{lt-leb}
use lib.Dec.{ltb}
use lib.Ieee.{Float}
use lib.ListN.{length}
use Rattle.distribution.specs.declared.Distribution.{Distribution}
use Rattle.candidates.specs.declared.Candidate.{Candidate}
use Rattle.evolution.specs.declared.Setup.{Setup}
use Rattle.history.specs.declared.CompletedTrial.{CompletedTrial}
use Rattle.ledger.specs.Kernel.{Gen, Laws}
use Rattle.ledger.specs.Call.{any_bad}
use Rattle.ledger.specs.State.{numbers, State as Plain, start_gen}
use Rattle.ledger.specs.Sample.{discovers, sampling, discovery, state_refusal, accept, step, begin}
use Rattle.ledger.specs.Assignment.{setting_of, hand_out, serve, next_in, assign}
use Rattle.ledger.specs.Closing.{close, counted}
use Rattle.ledger.specs.Soundness.{Sound, sound_test}
use Rattle.ledger.proofs.SoundTest.{sound-test}
use Rattle.ledger.proofs.Lists.{true→T}
use Rattle.kernel.specs.De.{de}
use Rattle.kernel.specs.Setup.{setup_verdict}
use Rattle.state.specs.Sound.{clean_test, sound_state}
use Rattle.state.specs.View.{view}
use Rattle.state.specs.declared.State.{State}
use Rattle.de.specs.Sample.{sample_of, call_of, laid_result, unsound}
use Rattle.de.specs.Gathered.{sampling_on, discovery_on, refusal_on, accept_on, refusal, step_on, sampled_on, row_for}

setting-bare : (b : Bool) (m : Plain de) (n : ℕ) (d : Distribution) (h : List CompletedTrial) (k : ℕ) (y : Candidate) (g : Gen ℕ) → setting_of de b m (call_of n d h) k y g ≡ setting_of de b m (call_of n d []) k y g
setting-bare true m n d h k y g = refl
setting-bare false m n d h k y g = refl

serve-bare : (m : Plain de) (n : ℕ) (d : Distribution) (h : List CompletedTrial) (cs : List Candidate) (y : Candidate) (g : Gen ℕ) → serve de m (call_of n d h) cs y g ≡ serve de m (call_of n d []) cs y g
serve-bare m n d h cs y g = ap (hand_out de m (call_of n d []) cs) (setting-bare (ltb (next_in m.trials n) (length m.dims)) m n d h (next_in m.trials n) y g)

assign-bare : (S : Setup) (m : Plain de) (n : ℕ) (d : Distribution) (h : List CompletedTrial) (g : Gen ℕ) (o : Option Candidate) → assign de S m (call_of n d h) g o ≡ assign de S m (call_of n d []) g o
unfolding assign
assign-bare S m n d h g None = serve-bare m n d h _ _ _
assign-bare S m n d h g (Some y) = serve-bare m n d h _ _ _

sampling-on : (S : Setup) (N : ℕ) (m : Plain de) (n : ℕ) (d : Distribution) (h : List CompletedTrial) (g : Gen ℕ) → sampling de S N m (call_of n d h) g ≡ sampling_on S m n d (counted de N (numbers m.trials) h) g
unfolding sampling sampling_on
sampling-on S N m n d h g = let k = close de S m g (counted de N (numbers m.trials) h) in assign-bare S k.out n d h k.gen _

module _ (L : Laws de) where
  discovery-on : (S : Setup) (b : Bool) (m : Plain de) (n : ℕ) (d : Distribution) (h : List CompletedTrial) → m.trials ≡ [] → discovery de S b m (call_of n d h) ≡ discovery_on S b m n d
  unfolding discovery discovery_on counted
  discovery-on S true m n d h e = refl
  discovery-on S false m n d h e =
      let N = de.size_of S m.dims in
      let four : 4 ≤ N = L.sized S m.dims in
      let c : counted de N (numbers m.trials) h ≡ None = rw (e, lt-leb N 0 (omega arith)) in
      let k = de.firsts S m.dims N (start_gen de m) in
      sampling-on S N (begin de m N k.out) n d h k.gen ∙ ap (λ (r : Option (List Float)). sampling_on S (begin de m N k.out) n d r k.gen) c

  pub step-on : (S : Setup) (m : Plain de) (n : ℕ) (d : Distribution) (h : List CompletedTrial) → Sound de S m → step de S m (call_of n d h) ≡ step_on S m n d (any_bad de h) (row_for m.size m h)
  unfolding step step_on refusal
  step-on S m n d h v = rw (refusals m.size, accepts m.size refl)
    where
      refusals : (z : Option ℕ) → state_refusal de z m (call_of n d h) ≡ refusal_on z m n (row_for z m h)
      refusals None = unfold state_refusal refusal_on in refl
      refusals (Some N) = unfold state_refusal refusal_on in refl

      accepts : (z : Option ℕ) → m.size ≡ z → accept de S z m (call_of n d h) ≡ accept_on S z m n d (row_for z m h)
      accepts None e = unfold accept accept_on in discovery-on S (discovers m.first n) m n d h (v.before e).no_trials
      accepts (Some N) e = unfold accept accept_on in sampling-on S N m n d h (start_gen de m)

  -- the call that reads its history is the one on what it reads
  pub sampled-on : (s : State) (d : Distribution) (n : ℕ) (h : List CompletedTrial) → sample_of s d n h ≡ sampled_on s d n (any_bad de h) (row_for (view s).size (view s) h)
  unfolding sample_of sampled_on sound_state
  sampled-on s d n h = go (clean_test s) (is_ok (setup_verdict s.setup)) (sound_test de s.setup (view s)) refl
    where
      go : (a b c : Bool) → sound_test de s.setup (view s) ≡ c
          → cond (a && (b && c)) (laid_result s.setup (step de s.setup (view s) (call_of n d h))) (unsound s)
          ≡ cond (a && (b && c)) (laid_result s.setup (step_on s.setup (view s) n d (any_bad de h) (row_for (view s).size (view s) h))) (unsound s)
      go false b c x = refl
      go true false c x = refl
      go true true false x = refl
      go true true true x = ap (laid_result s.setup) (step-on s.setup (view s) n d h ((sound-test de L s.setup (view s)).0 (true→T _ x)))
