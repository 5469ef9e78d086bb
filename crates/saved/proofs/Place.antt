-- What a file has no place for: "the saved file has no place for midpoint yet, so its writer gives 13 for such a state" (document 02, W7), and "the saved
-- file's writer and reader give 13 for a ladder" (W9). Of every other state writer and reader are as they were.
use Rattle.std.specs.Prelude.{Ok, Err}
use Rattle.std.specs.List.{list_all}
use Prim.Native.Nat.{ℕ, ◌<◌}
use native.Mathlib.Omega.{arith}
use mathlib.Core.List.{List}
use mathlib.Core.Bool.{Bool, true≢false, ◌&&◌}
use mathlib.Core.Path.{◌≡◌, sym, ap, subst, ◌∙◌}
use lib.ListN.{length}
use Rattle.std.proofs.Math.Bool.{and-true}
use Rattle.evolution.specs.declared.BoundsRule.{BoundsRule}
use Rattle.evolution.specs.declared.BoundsRule.TheVariants.{Clamp, Midpoint}
use Rattle.state.specs.Sound.{sound_state}
use Rattle.state.specs.declared.State.{State}
use Rattle.records.proofs.Broken.{kept-exactly}
use Rattle.records.specs.Chain.{records_at}
use Rattle.records.specs.declared.Piece.{Piece}
use Rattle.kinds.specs.Kinds.{dims_of, dims_words, kind_words}
use Rattle.kinds.specs.Opened.{row}
use Rattle.kinds.specs.Rows.{rule_has_place, dim_has_place, dim_words}
use Rattle.kinds.proofs.Back.{rule-back}
use Rattle.kinds.proofs.Place.{placed, setup-placed, dims-placed, ladder-not-placed, no-ladder-placed}
use Rattle.kinds.proofs.RowAt.{row-at}
use Rattle.kinds.proofs.Saving.{dims-count, dims-return}
use Rattle.saved.specs.Ladder.{HasLadder, OtherWordsFile}
use Rattle.saved.specs.Restore.{content_of, state_read}
use Rattle.saved.specs.Save.{is_savable, save_of, saved_in}
use Rattle.saved.specs.declared.FileRefusal.TheVariants.{BadContent}
use Rattle.saved.proofs.Answers.{kept-content, read-taken}
use Rattle.saved.proofs.Content.{words, read, refused-unless, taken-exactly}
use Rattle.saved.proofs.Reader.{no-place, not-savable}

-- ---- midpoint

-- MIDPOINT IS REFUSED BY 13, also where the lent file is too short (12), sound or not, and nothing is written
pub midpoint-unsaved : (s : State) (f : List ℕ) → s.setup.bounds_rule ≡ Midpoint → (save_of s (length f) ≡ Err BadContent) × (saved_in s f ≡ f)
midpoint-unsaved s f e =
    let w = not-savable s f (no-place s f (ap (λ (r : BoundsRule). rule_has_place r && list_all dim_has_place (dims_of s)) e)) in
    (sym w.0, sym w.1)

-- what is read has clamp
pub read-clamp : (f : List ℕ) (s : State) → state_read f ≡ Ok s → s.setup.bounds_rule ≡ Clamp
read-clamp f s e = sym (rule-back s.setup.bounds_rule (setup-placed s ((read-taken f s).0 e).of.place))

-- ---- ladders

-- A LADDER IS REFUSED BY 13, likewise
pub ladder-unsaved : (s : State) (f : List ℕ) → HasLadder s → (save_of s (length f) ≡ Err BadContent) × (saved_in s f ≡ f)
ladder-unsaved s f l = let w = not-savable s f (no-place s f (ladder-not-placed s l)) in (sym w.0, sym w.1)

-- what is read has no ladder
pub read-no-ladder : (f : List ℕ) (s : State) → state_read f ≡ Ok s → HasLadder s → ⊥
read-no-ladder f s e l = true≢false (sym ((read-taken f s).0 e).of.place ∙ ladder-not-placed s l)

-- THE READER'S 13: no words are a ladder's
pub ladder-read : (f : List ℕ) → OtherWordsFile f → state_read f ≡ Err BadContent
ladder-read f l = kept-content f ((kept-exactly f).0 l.kept).0 l.indices l.chain ∙ refused-unless (records_at f l.indices) of-no-state
  where
    rs : List Piece
    rs = records_at f l.indices

    -- the row of each of a state's dimensions is that of one without the log flag
    of-no-state : (s : State) → content_of rs ≡ Ok s → ⊥
    of-no-state s e = unfold kind_words dims_words in
        let o = (taken-exactly rs s).0 e in
        let within = subst (λ (t : State). l.place < t.n_dims) (read rs s e).is l.within in
        let few : l.place < length (dims_of s) = omega (arith, dims-count s o.sound o.typed o.place) in
        let at = row-at dim_words 5 (dims_of s) _ l.place (λ d m. (dims-return s o.sound o.typed o.place d m).width) few in
        l.words at.part (dims-placed s o.place at.part at.of)
        (ap (λ (ws : List ℕ). row ws 5 l.place) (words s o.sound o.place o.typed rs o.records 3 (omega arith) (omega arith)) ∙ at.words)

-- ---- and no other state is refused for its place

-- with clamp and without ladders the states that can be saved are the sound ones, as before
pub clamp-savable : (s : State) → s.setup.bounds_rule ≡ Clamp → (HasLadder s → ⊥) → is_savable s ≡ sound_state s
clamp-savable s e n = ap (λ (b : Bool). sound_state s && b) (placed s (ap rule_has_place e) (no-ladder-placed s n)) ∙ and-true (sound_state s)
