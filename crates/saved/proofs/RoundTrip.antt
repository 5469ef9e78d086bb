-- "Restoring a save yields the very state that was saved", and "equal states have equal bytes", different ones different.
use Rattle.std.specs.Prelude.{Err}
use Prim.Native.Nat.{ℕ, ◌^◌, ◌≤◌, ◌<◌}
use native.Mathlib.Omega.{arith}
use mathlib.Core.List.Permᴰ
use mathlib.Core.Path.{◌≡◌, sym, ap, ◌∙◌}
use mathlib.Core.Bool.{true, cond, Bool}
use lib.ListN.{length}
use Rattle.ledger.specs.Words.{All}
use Rattle.state.specs.Sound.{sound_state}
use Rattle.state.specs.declared.State.{State}
use Rattle.records.specs.Chain.{file_of_pieces, chain_of}
use Rattle.records.proofs.Fits.{Small, chain-all, file-fits}
use Rattle.records.proofs.Sections.{sections-fit}
use Rattle.records.proofs.Written.{Fit}
use Rattle.kinds.specs.Typed.{TypedState, TypedNumbers}
use Rattle.kinds.specs.Kinds.{has_place, kind_words, Roomy}
use Rattle.kinds.proofs.Typed.{measured-of}
use Rattle.kinds.proofs.Small.{kinds-small}
use Rattle.kinds.proofs.Few.{kind-few}
use Rattle.saved.specs.File.{pieces_of, file_of}
use Rattle.saved.specs.Restore.{taken, chained, state_read, handed_back, restore_of}
use Rattle.saved.specs.declared.FileRefusal.TheVariants.{BadFile}
use Rattle.saved.specs.declared.Restored.{Restored}
use Rattle.saved.proofs.Wrote.{pieces-few, roomy, total}
use Rattle.saved.proofs.Content.{own-taken}

-- a state that can be saved: sound, with a place in the file, of the machine, and every word has 64 bits
pub record Savable (s : State) : Type 0 where
  pub sound : sound_state s ≡ true
  pub place : has_place s ≡ true
  pub typed : TypedState s
  pub small : (kind : ℕ) → 1 ≤ kind → kind ≤ 6 → Small (kind_words s kind)

-- so it is of every sound state of the machine with clamp
pub typed-savable : (s : State) → sound_state s ≡ true → has_place s ≡ true → TypedState s → TypedNumbers s → Savable s
typed-savable s e h p c = record { sound = e; place = h; typed = p; small = λ kind a b. kinds-small s e p c kind }

module _ (s : State) (v : Savable s) where
  abbrev p : TypedState s
  p = v.typed

  room : Roomy s
  room = roomy s (measured-of s p) v.sound

  some-pieces : 1 ≤ length (pieces_of s)
  some-pieces = omega (arith, total s (measured-of s p) room)

  few-pieces : length (pieces_of s) < 256 ^ 2
  few-pieces = omega (arith, pieces-few s (measured-of s p) room)

  all_fit : All Fit (pieces_of s)
  unfolding pieces_of
  all_fit = sections-fit (kind_words s) 6 (omega arith) (kind-few s (measured-of s p) room) v.small

  -- THE ROUND TRIP, whatever was there before
  pub restored-save : (old : State) → restore_of old (file_of s) ≡ taken s
  unfolding restore_of state_read file_of
  restored-save old =
      ap (handed_back old)
      (ap (λ (b : Bool). cond b (Err BadFile) (chained (chain_of (file_of_pieces (pieces_of s))))) (file-fits (pieces_of s) some-pieces)
      ∙ ap chained (chain-all (pieces_of s) some-pieces few-pieces all_fit)
      ∙ own-taken s v.sound v.place p (pieces_of s) (Permᴰ.refl (pieces_of s)))

-- "so equal states have equal bytes": that is `file_of` being a definition. And different ones have different bytes:
pub bytes-tell : (s t : State) → Savable s → Savable t → file_of s ≡ file_of t → s ≡ t
bytes-tell s t v w e = ap (λ (r : Restored). r.state) (sym (restored-save s v s) ∙ ap (restore_of s) e ∙ restored-save t w s)
