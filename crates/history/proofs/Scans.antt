-- The scan goes by the entries so far, one more at a time. What an iterator of entries gives is scanned, and two slices make such an iterator.
use Rattle.std.proofs.Common.{◌≡◌, ℕ, cond, List, [], ◌∷◌, ◌++◌, map, Option, refl, ap, sym, ◌∙◌}
use Rattle.std.specs.Prelude.{Float}
use Rattle.std.specs.Iterator.{Drains}
use Rattle.std.specs.List.{zip}
use Rattle.std.proofs.lemmas.List.{map-id}
use Rattle.std.proofs.lemmas.Iterator.{YieldsList, items_from_drains}
use Rattle.history.specs.Scan.{absorbed, may_matter, gathered, trials_of}
use Rattle.history.specs.declared.CompletedTrial.{CompletedTrial}
use Rattle.history.specs.declared.Gathered.{Gathered}
use Rattle.history.specs.declared.TrialState.{TrialState}

pub scan-none : (lo hi : ℕ) (ns : List ℕ) (g : Gathered) → gathered lo hi ns [] g ≡ g
unfolding gathered
scan-none lo hi ns g = refl

-- one entry more
pub scan-more : (lo hi : ℕ) (ns : List ℕ) (es : List CompletedTrial) (e : CompletedTrial) (g : Gathered)
    → gathered lo hi ns (es ++ (e ∷ [])) g ≡ cond (may_matter lo hi e) (absorbed ns (gathered lo hi ns es g) e) (gathered lo hi ns es g)
unfolding gathered
scan-more lo hi ns [] e g = refl
scan-more lo hi ns (x ∷ es) e g = scan-more lo hi ns es e (cond (may_matter lo hi x) (absorbed ns g x) g)

pub ruleset scans = (scan-none, scan-more)

-- what an iterator gives is known, and so is what its scan gathers
pub scanned : {S : Type 0} {steps : S → Option CompletedTrial → S → Type 0} {s : S} {all : List CompletedTrial} (lo hi : ℕ) (ns : List ℕ) (g r : Gathered)
    → (es : List CompletedTrial) × Drains steps s es × (r ≡ gathered lo hi ns es g) → YieldsList steps (λ x. x) s all → r ≡ gathered lo hi ns all g
scanned lo hi ns g r (es, (u, (t, ran, ended)), is) gives =
    is ∙ ap (λ (xs : List CompletedTrial). gathered lo hi ns xs g) (sym (map-id es) ∙ items_from_drains es (t, ran, λ _. (u, ended)) gives)

-- a number, a value and a state, as an entry
abbrev pub entry_of : (ℕ × Float) × TrialState → CompletedTrial
entry_of p = record { number = p.0.0; value = p.0.1; state = p.1 }

pub trials-zip : (ns : List ℕ) (vs : List Float) (ss : List TrialState) → map entry_of (zip (zip ns vs) ss) ≡ trials_of ns vs ss
unfolding trials_of
trials-zip [] vs ss = refl
trials-zip (n ∷ ns) [] ss = refl
trials-zip (n ∷ ns) (v ∷ vs) [] = refl
trials-zip (n ∷ ns) (v ∷ vs) (s ∷ ss) = ap (λ (es : List CompletedTrial). record { number = n; value = v; state = s } ∷ es) (trials-zip ns vs ss)
