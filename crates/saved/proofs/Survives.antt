-- "Restoring a save yields the very state that was saved", of every State that a function is handed: where `save` answers a length n, `restore` of the lent
-- file's first n bytes hands that state back, whatever state it is called with. There is no hypothesis on the state but its type.
use Rattle.std.specs.Prelude.{Ok}
use Prim.Native.Nat.{ℕ}
use mathlib.Core.Path.{◌≡◌, sym, ap, ◌∙◌}
use mathlib.Core.Bool.{true}
use mathlib.Core.List.{List}
use mathlib.Core.Logic.{◌↔◌}
use mir.Val.{Val}
use denote.Laws.{Is}
use lib.ListN.{length, take}
use Rattle.state.specs.Sound.{sound_state}
use Rattle.state.specs.declared.State.{State}
use Rattle.state.specs.contracts.State as S
use Rattle.kinds.specs.Kinds.{has_place}
use Rattle.kinds.proofs.Types.{typed-state, typed-numbers}
use Rattle.saved.specs.Restore.{taken, restore_of}
use Rattle.saved.specs.Save.{save_of, saved_in}
use Rattle.saved.specs.File.{file_of}
use Rattle.saved.proofs.RoundTrip.{Savable, typed-savable, bytes-tell}
use Rattle.saved.proofs.Contracts.{is-sound, in-place, bytes-written, restored}

-- every sound state with clamp that a function is handed can be saved
pub savable : (s : State) (vs : List Val) → Is S.the_row s vs → sound_state s ≡ true → has_place s ≡ true → Savable s
savable s vs p e h = typed-savable s e h (typed-state s vs p) (typed-numbers s vs p)

pub survives : (s old : State) (vs : List Val) → Is S.the_row s vs → (f : List ℕ) (n : ℕ) → save_of s (length f) ≡ Ok n → restore_of old (take n (saved_in s f)) ≡ taken s
survives s old vs p f n e = restored s f n e old (savable s vs p (is-sound s f n e) (in-place s f n e))

-- "equal states have equal bytes", and different ones different bytes: of what two saves leave in lent files
pub bytes-exactly : (s t : State) (vs ws : List Val) → Is S.the_row s vs → Is S.the_row t ws → (f g : List ℕ) (n m : ℕ) → save_of s (length f) ≡ Ok n → save_of t (length g) ≡ Ok m
    → (take n (saved_in s f) ≡ take m (saved_in t g)) ↔ (s ≡ t)
bytes-exactly s t vs ws p q f g n m e d = (
  λ b. bytes-tell s t (savable s vs p (is-sound s f n e) (in-place s f n e)) (savable t ws q (is-sound t g m d) (in-place t g m d)) (sym (bytes-written s f n e) ∙ b ∙ bytes-written t g m d),
  λ k. bytes-written s f n e ∙ ap file_of k ∙ sym (bytes-written t g m d),
)
