-- What a scan of the history gathers: entry by entry, from the first to the last. proofs/Meaning says what comes of it, by the words of History.
use Rattle.std.specs.Prelude.{ℕ, suc, ◌<◌, ◌≤◌, min, Bool, false, ◌&&◌, ◌||◌, cond, List, [], ◌∷◌, eqb, ltb, leb, Float, Some, None, length, get_or, replicate}
use Rattle.history.specs.Entry.{is_bad, counted_value}
use Rattle.history.specs.declared.CompletedTrial.{CompletedTrial}
use Rattle.history.specs.declared.Gathered.{Gathered}
use Rattle.history.specs.declared.TrialState.{TrialState}

-- ---- what is wanted
-- how many of the 160 places are used where these numbers are wanted
abbrev pub wanted : List ℕ → ℕ
wanted ns = min (length ns) 160

-- the number that place i wants
abbrev pub number_at : List ℕ → ℕ → ℕ
number_at ns i = get_or ns i 0

-- each wanted number is from lo to hi
abbrev pub Within : ℕ → ℕ → List ℕ → Type 0
Within lo hi ns = (i : ℕ) → i < wanted ns → (lo ≤ number_at ns i) × (number_at ns i ≤ hi)

-- place i is among the first k, and its number is m
abbrev pub wants : ℕ → List ℕ → ℕ → ℕ → Bool
wants k numbers m i = ltb i k && eqb m (get_or numbers i 0)

-- place i wants the number m
abbrev pub wanting : List ℕ → ℕ → ℕ → Bool
wanting ns m = wants (wanted ns) ns m

-- before the first entry: no value is NaN, and no number is found
abbrev pub nothing : Gathered
nothing = record { nan = false; values = replicate 160 None }

-- ---- one entry
-- v at each place that passes the test, and the other places as they are
unfoldable pub put_where : {A : Type 0} → (ℕ → Bool) → A → List A → List A
put_where test v [] = []
put_where test v (x ∷ xs) = cond (test 0) v x ∷ put_where (λ i. test (suc i)) v xs

-- A bad entry is noted. Each place that wants the entry's number holds its value, whatever an earlier entry gave: "its last entry counts".
unfoldable pub absorbed : List ℕ → Gathered → CompletedTrial → Gathered
absorbed ns g e = record { nan = is_bad e || g.nan; values = put_where (wanting ns e.number) (Some (counted_value e)) g.values }

-- an entry whose number is from lo to hi, or that is bad
unfoldable pub may_matter : ℕ → ℕ → CompletedTrial → Bool
may_matter lo hi e = (leb lo e.number && leb e.number hi) || is_bad e

-- ---- the scan
-- every entry that may matter, in turn
unfoldable pub gathered : ℕ → ℕ → List ℕ → List CompletedTrial → Gathered → Gathered
gathered lo hi ns [] g = g
gathered lo hi ns (e ∷ es) g = gathered lo hi ns es (cond (may_matter lo hi e) (absorbed ns g e) g)

-- every entry: the same, where each wanted number is from lo to hi (proofs/Meaning, nothing-lost)
unfoldable pub gathered_all : List ℕ → List CompletedTrial → Gathered → Gathered
gathered_all ns [] g = g
gathered_all ns (e ∷ es) g = gathered_all ns es (absorbed ns g e)

-- the entries of a list of numbers, one of values and one of states, side by side: as many as the shortest list has
unfoldable pub trials_of : List ℕ → List Float → List TrialState → List CompletedTrial
trials_of [] vs ss = []
trials_of (n ∷ ns) [] ss = []
trials_of (n ∷ ns) (v ∷ vs) [] = []
trials_of (n ∷ ns) (v ∷ vs) (s ∷ ss) = record { number = n; value = v; state = s } ∷ trials_of ns vs ss
