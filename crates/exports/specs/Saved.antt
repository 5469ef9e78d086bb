-- "Tuning that survives a restart", of the library: what a save call and the restore call of its file do together, in the memory that callers hold.
use Rattle.std.specs.Prelude.{ℕ, ◌≡◌, List, [], ◌∷◌, length, take, drop}
use Rattle.edge.specs.declared.answers.DeAnswer.{DeAnswer}
use Rattle.edge.specs.declared.flat.DeState.{DeState}
use Rattle.files.specs.File.{restored_file, save_answer, save_file}
use Rattle.edge.specs.Flat.{open_of, flat_of}
use Rattle.edge.specs.Held.{held_at}
use Rattle.edge.specs.Look.{look_at}
use Rattle.exports.specs.Calls.{restore_answer, restore_state}
use Rattle.exports.specs.Program.{Sent, answer_to, leaves}

-- what the library answers to a list of sample calls, from memory f on
unfoldable pub answers_from : DeState → List Sent → List DeAnswer
answers_from f [] = []
answers_from f (q ∷ qs) = answer_to f q ∷ answers_from (leaves f q) qs

-- f is saved to the lent file, in its first n bytes; these are restored to g
pub record Survives (f : DeState) (file : List ℕ) (n : ℕ) (g : DeState) : Type 0 where
  -- the restore call answers restored,
  pub answer : restore_answer (take n (save_file f file)) ≡ restored_file
  -- leaves in g the state that f stands for, in numbers,
  pub holds : restore_state g (take n (save_file f file)) ≡ flat_of (open_of f)
  -- and every list of sample calls is then answered as from f,
  pub goes_on : (qs : List Sent) → answers_from (restore_state g (take n (save_file f file))) qs ≡ answers_from f qs
  -- as are the calls that look
  pub looks : look_at (restore_state g (take n (save_file f file))) ≡ look_at f
  pub slots : (i k : ℕ) → held_at (restore_state g (take n (save_file f file))) i k ≡ held_at f i k
  -- and the save call
  pub saves : (lent : List ℕ) → (save_answer (restore_state g (take n (save_file f file))) (length lent) ≡ save_answer f (length lent))
      × (save_file (restore_state g (take n (save_file f file))) lent ≡ save_file f lent)
  -- the save call touched nothing past the n bytes
  pub past : drop n (save_file f file) ≡ drop n file
