-- "A state with an entry over 4e300 in size is no longer sound, so .. the reader [gives] 13" (document 02, W8), and so does the writer.
use Rattle.std.specs.Prelude.{Ok, Err}
use Prim.Native.Nat.{ℕ}
use mathlib.Core.Path.{◌≡◌, sym, ap, ◌∙◌}
use mathlib.Core.Bool.{Bool, cond, ◌&&◌}
use mathlib.Core.List.{List}
use lib.ListN.{length}
use Rattle.state.specs.Small.{SmallEntries, LargeEntry}
use Rattle.state.specs.declared.State.{State}
use Rattle.state.proofs.Small.{sound-small, large-unsound}
use Rattle.records.specs.Chain.{records_at}
use Rattle.records.specs.Tables.{agrees}
use Rattle.records.proofs.Broken.{kept-exactly}
use Rattle.kinds.specs.Kinds.{kind_words}
use Rattle.saved.specs.Large.{LargeFile}
use Rattle.saved.specs.Restore.{state_on, content_of, state_read}
use Rattle.saved.specs.Save.{save_of, saved_in}
use Rattle.saved.specs.declared.FileRefusal.TheVariants.{BadContent}
use Rattle.saved.proofs.Answers.{kept-content, read-taken}
use Rattle.saved.proofs.Reader.{unsound, not-savable}

-- WHAT IS READ HAS SMALL ENTRIES
pub read-small : (f : List ℕ) (s : State) → state_read f ≡ Ok s → SmallEntries s
read-small f s e = sound-small s ((read-taken f s).0 e).of.sound

-- THE READER'S 13
pub large-read : (f : List ℕ) → LargeFile f → state_read f ≡ Err BadContent
large-read f l = kept-content f ((kept-exactly f).0 l.kept).0 l.indices l.chain ∙ large-content
  where
    large-content : content_of (records_at f l.indices) ≡ Err BadContent
    large-content = unfold content_of in
        let s = state_on (records_at f l.indices) in
        ap (λ (t : Bool). cond (t && agrees 6 (records_at f l.indices) (kind_words s)) (Ok s) (Err BadContent)) (large-unsound s l.large)

-- THE WRITER'S 13, also where the lent file is too short (12), and nothing is written
pub large-unsaved : (s : State) (f : List ℕ) → LargeEntry s → (save_of s (length f) ≡ Err BadContent) × (saved_in s f ≡ f)
large-unsaved s f l = let w = not-savable s f (unsound s f (large-unsound s l)) in (sym w.0, sym w.1)
