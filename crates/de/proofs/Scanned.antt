-- The call over a history: what `ask` wants is gathered, and the call on what is gathered is the call on the history, for every state, sound or not.
use Prim.Native.Nat.{ℕ}
use mathlib.Core.Path.{◌≡◌, refl, sym, subst, ◌∙◌}
use mathlib.Core.Bool.{Bool, true, false}
use mathlib.Core.List.{List}
use Rattle.distribution.specs.declared.Distribution.{Distribution}
use Rattle.history.specs.Scan.{nothing, gathered}
use Rattle.history.specs.declared.CompletedTrial.{CompletedTrial}
use Rattle.history.specs.declared.Gathered.{Gathered}
use Rattle.kernel.proofs.Kernel.{de-laws}
use Rattle.state.specs.Sound.{sound_state}
use Rattle.state.specs.declared.State.{State}
use Rattle.state.proofs.Measured.{Measured}
use Rattle.state.proofs.Tidy.{sound-few}
use Rattle.de.specs.Ask.{wanted_count, first_numbers, least_of, most_of, asked_of}
use Rattle.de.specs.Gathered.{sampled_on, row_in}
use Rattle.de.specs.Sample.{sample_of}
use Rattle.de.specs.Whole.{Numbers}
use Rattle.de.specs.declared.ask.Asked.{Asked}
use Rattle.de.proofs.Gather.{gathered-call, gathered-numbers}

module _ (s : State) (mm : Measured s) (h : List CompletedTrial) (q : Asked) (eq : q ≡ asked_of (first_numbers s.trials (wanted_count s.discovered s.n s.n_trials)))
    (wanted : List ℕ) (ew : wanted ≡ q.numbers) (from : Gathered) (ef : from ≡ nothing) (g : Gathered) (eg : g ≡ gathered q.lo q.hi wanted h from) where
  abbrev ns : List ℕ
  ns = first_numbers s.trials (wanted_count s.discovered s.n s.n_trials)

  whole : gathered (least_of ns) (most_of ns) ns h nothing ≡ g
  unfolding asked_of
  whole =
      sym (eg ∙ (λ i. gathered q.lo q.hi (ew i) h (ef i)) ∙ (λ i. gathered (eq i).lo (eq i).hi (eq i).numbers h nothing))

  pub numbers : Numbers s g
  numbers e =
      let few = sound-few s e mm in
      subst (λ (x : Gathered). Numbers s x) whole (λ _. gathered-numbers de-laws s h few.slots few.trials mm.trials) e

  pub called : (d : Distribution) (n : ℕ) → sampled_on s d n g.nan (row_in s g.values) ≡ sample_of s d n h
  called d n = go (sound_state s) refl
    where
      go : (b : Bool) → sound_state s ≡ b → sampled_on s d n g.nan (row_in s g.values) ≡ sample_of s d n h
      go true e =
          let few = sound-few s e mm in
          subst (λ (x : Gathered). sampled_on s d n x.nan (row_in s x.values) ≡ sample_of s d n h) whole (gathered-call de-laws s h few.slots few.trials mm.trials d n)
      go false e = unfold sampled_on sample_of in rw e
