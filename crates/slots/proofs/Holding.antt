-- What a slot holds, by the tests of the call: a parent of the view is a member of the state.
use Rattle.std.proofs.Common.{◌≡◌, ◌∙◌, refl, sym, ap, true, false, ℕ, ◌≤◌, ◌<◌, List, length, Ok, Err, Some, None, Option, option_map, slice_get, get_or}
use Rattle.std.proofs.lemmas.Option.{slice_get-map, slice_get_read, slice_get_past}
use borrow.Author.Tests.{lt-ltb, le-ltb}
use Rattle.distribution.specs.declared.DimensionInfo.{DimensionInfo}
use Rattle.distribution.specs.declared.ParamValue.{ParamValue}
use Rattle.distribution.specs.declared.Refusal.TheVariants.{StateNotSound}
use Rattle.evolution.specs.declared.Member.{Member}
use Rattle.kernel.specs.De.{decode_of}
use Rattle.state.specs.Sound.{sound_state}
use Rattle.state.specs.View.{view, parent_of, dims_of, members_of}
use Rattle.state.specs.declared.State.{State}
use Rattle.slots.specs.Held.{held_by, held_of}

module _ (s : State) (e : sound_state s ≡ true) (i k : ℕ) where
  held-is : (o : Option Member) → slice_get (members_of s) i ≡ o → held_of s i k ≡ held_by (view s) k (option_map parent_of o)
  unfolding held_of view
  held-is o q = rw (e, slice_get-map parent_of (members_of s) i, q)

  module _ (ms : List Member) (e-ms : ms ≡ members_of s) where
    -- before the first closing too: then no slot is held
    pub no-slot : length ms ≤ i → Ok None ≡ held_of s i k
    no-slot h = sym (held-is None (ap (λ (l : List Member). slice_get l i) (sym e-ms) ∙ slice_get_past ms i h))

    module _ (m : Member) (h : i < length ms) (q : m ≡ get_or ms i m) (ds : List DimensionInfo) (e-ds : ds ≡ dims_of s) where
      at : slice_get (members_of s) i ≡ Some m
      at = ap (λ (l : List Member). slice_get l i) (sym e-ms) ∙ slice_get_read ms _ i m refl h q

      pub no-dimension : length ds ≤ k → Ok None ≡ held_of s i k
      unfolding view
      no-dimension l = sym (held-is (Some m) at ∙ rw (← e-ds, le-ltb k (length ds) l))

      pub held : k < length ds → (x : ParamValue) → x ≡ decode_of ds k m.candidate → Ok (Some x) ≡ held_of s i k
      unfolding view
      held l x w = ap (λ (y : ParamValue). Ok (Some y)) w ∙ sym (held-is (Some m) at ∙ rw (← e-ds, lt-ltb k (length ds) l))

pub not-sound : (s : State) (i k : ℕ) → sound_state s ≡ false → Err StateNotSound ≡ held_of s i k
unfolding held_of
not-sound s i k e = rw e

pub ruleset ways = (not-sound, no-slot, no-dimension, held)
