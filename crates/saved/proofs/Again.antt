-- Whatever the reader takes from a file of bytes can be saved again, and the file so written is read as the same state: the CANONICAL file of what was read.
use Prim.Native.Nat.{ℕ}
use mathlib.Core.List.Permᴰ
use mathlib.Core.List.{List}
use mathlib.Core.Path.{◌≡◌}
use Rattle.ledger.specs.Words.{All}
use Rattle.state.specs.declared.State.{State}
use Rattle.records.specs.Bytes.{Bytes}
use Rattle.records.proofs.Written.{Fit}
use Rattle.records.proofs.Orders.{all-rearranged}
use Rattle.records.proofs.ReadFits.{records-fit, section-small}
use Rattle.kinds.specs.Kinds.{kind_words}
use Rattle.saved.specs.File.{pieces_of, file_of}
use Rattle.saved.specs.Saves.{Saves}
use Rattle.saved.specs.Restore.{taken, restore_of}
use Rattle.saved.proofs.RoundTrip.{Savable, restored-save}
use Rattle.saved.proofs.Answers.{answer-taken}
use Rattle.saved.proofs.Thirteen.{within}

module _ (f : List ℕ) (bytes : Bytes f) (s : State) (v : Saves f s) where
  own-fit : All Fit (pieces_of s)
  own-fit = all-rearranged Fit (Permᴰ.symm v.of.records) (records-fit f bytes v.indices)

  saves-savable : Savable s
  saves-savable =
      record {
        sound = v.of.sound;
        place = v.of.place;
        typed = v.of.typed;
        small = λ kind a b. section-small kind (kind_words s kind) (λ p m. own-fit p (within s kind a b m));
      }

-- RESTORED, SAVED AGAIN, RESTORED: the same state
pub taken-savable : (old : State) (f : List ℕ) (s : State) → Bytes f → restore_of old f ≡ taken s → Savable s
taken-savable old f s b e = saves-savable f b s ((answer-taken old f s).0 e)

pub again : (old other : State) (f : List ℕ) (s : State) → Bytes f → restore_of old f ≡ taken s → restore_of other (file_of s) ≡ taken s
again old other f s b e = restored-save s (taken-savable old f s b e) other
