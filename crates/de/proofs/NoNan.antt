-- NO NAN (document 02, W8): no sample call makes a NaN entry. Idea: a call on a sound state leaves a sound state, and all entries of a sound state are small.
use mathlib.Core.Path.{◌≡◌}
use mathlib.Core.Bool.{true}
use mathlib.Core.List.{List}
use Prim.Native.Nat.{ℕ}
use Rattle.distribution.specs.declared.Distribution.{Distribution}
use Rattle.history.specs.declared.CompletedTrial.{CompletedTrial}
use Rattle.state.specs.Small.{SmallEntries, LargeEntry}
use Rattle.state.specs.Sound.{sound_state}
use Rattle.state.specs.declared.State.{State}
use Rattle.state.proofs.Small.{sound-small, large-unsound}
use Rattle.de.specs.Sample.{unsound, sample_of}
use Rattle.de.proofs.Refused.{sampled-sound}

module _ (s : State) (d : Distribution) (n : ℕ) (h : List CompletedTrial) where
  -- "with F in 0..2 and the bounds of document 01 no sample call on a sound state, fresh, restored or handed in, makes a NaN entry, with clamp and with midpoint".
  -- A sound state's set-up passes 1 to 3 and its dimensions 4 to 7; its bounds rule is the one or the other. It is fresh (`fresh-state-sound` of state), or the reader
  -- gave it (`read-taken` of saved), or refusal 0 lets it through.
  pub no-nan : sound_state s ≡ true → SmallEntries (sample_of s d n h).state
  no-nan e = sound-small (sample_of s d n h).state (sampled-sound s d n h e)

  -- "A state with an entry over 4e300 in size is no longer sound, so a sample .. call gives 0 for it": no setting, no draw, the state that came in
  pub large-refused : LargeEntry s → sample_of s d n h ≡ unsound s
  unfolding sample_of
  large-refused l = rw (large-unsound s l)
