-- The script's reader takes a row that is written as the entry that it was written of, and a refusal as no line of a script: the row is cut into its
-- words, and each word is read back as the number that it was written of (numbers' RoundTrip).
use Prim.Native.Nat.{ℕ, zero, suc, ◌+◌, ◌^◌, ◌≤◌, ◌<◌}
use Prim.Native.Char.{code}
use mathlib.Core.Path.{◌≡◌, refl, ap, ◌∙◌}
use mathlib.Core.Bool.{Bool, true, false, cond}
use mathlib.Core.List.{List, [], ◌∷◌, ◌++◌}
use native.Mathlib.Omega.{arith}
use lib.Dec.{T, ltb}
use lib.Ieee.{Float, fits, to_bits, binary64}
use borrow.Author.Tests.{ltb-true}
use Rattle.numbers.specs.Numbers.{whole_of, double_of}
use Rattle.std.specs.Prelude.{Some, None}
use Rattle.numbers.proofs.RoundTrip.{decimal-read-back, double-read-back}
use Rattle.metrics.specs.declared.ExportRefusal.{ExportRefusal}
use Rattle.metrics.specs.declared.ExportRefusal.TheVariants.{MalformedLine, ShortHistory}
use Rattle.history.specs.declared.TrialState.TheVariants.{Complete}
use Rattle.script.specs.Words.{words_of}
use Rattle.script.specs.Commands.{command_of, line_of, pair_line, told, file_line}
use Rattle.script.specs.declared.command.Command.TheVariants.{Tell}
use Rattle.tells.specs.Text.{places_from, whole_text, pattern_text, tell_row, refused_row}
use Rattle.tells.proofs.Joined.{fourteen, fifteen}
use Rattle.tells.proofs.Spaced.{Spaceless, digits-spaceless, word-then, word-alone}

-- ---- the number's digits are enough

not-fewer : (more k n : ℕ) → k ≤ places_from k more n
unfolding places_from
not-fewer zero k n = omega arith
not-fewer (suc more) k n = go (ltb n (10 ^ k)) (not-fewer more (suc k) n)
  where
    go : (t : Bool) → suc k ≤ places_from (suc k) more n → k ≤ cond t k (places_from (suc k) more n)
    go true h = omega arith
    go false h = omega arith

enough : (more k n : ℕ) → n < 10 ^ (k + more) → n < 10 ^ places_from k more n
unfolding places_from
enough zero k n h = let z : k + 0 ≡ k = omega arith in rw z at h
enough (suc more) k n h =
    let s : k + suc more ≡ suc k + more = omega arith in
    go (ltb n (10 ^ k)) refl (enough more (suc k) n (rw s at h))
  where
    go : (t : Bool) → ltb n (10 ^ k) ≡ t → n < 10 ^ places_from (suc k) more n → n < 10 ^ cond t k (places_from (suc k) more n)
    go true e h = ltb-true n (10 ^ k) e
    go false e h = h

whole_back : (n : ℕ) → n < 2 ^ 64 → whole_of (whole_text n) ≡ Some n
unfolding whole_text
whole_back n h = decimal-read-back (places_from 1 19 n) n (omega (arith, not-fewer 19 1 n)) (enough 19 1 n (omega arith)) h

double-back : (x : Float) → T (fits binary64 x) → double_of (pattern_text x) ≡ Some x
unfolding pattern_text
double-back x f = double-read-back x f

-- ---- the words of a row

whole-spaceless : (n : ℕ) → Spaceless (whole_text n)
unfolding whole_text
whole-spaceless n = digits-spaceless 10 (places_from 1 19 n) n

pattern-spaceless : (x : Float) → Spaceless (pattern_text x)
unfolding pattern_text
pattern-spaceless x = digits-spaceless 16 16 (to_bits binary64 x)

tell-words : (n : ℕ) (x : Float) → words_of (whole_text n ++ (code " " ∷ pattern_text x)) ≡ whole_text n ∷ pattern_text x ∷ []
tell-words n x =
    word-then (whole_text n) (pattern_text x) (whole-spaceless n)
    ∙ ap (λ (ws : List (List ℕ)). whole_text n ∷ ws) (word-alone (pattern_text x) (pattern-spaceless x))

-- ---- the reader's answers

-- A `tell` row is read as the `tell` of the complete entry of its number and its value, which is the export's (metrics Grammar). Every u64 and every f64 meets the two premises.
pub told_back : (n : ℕ) (x : Float) → n < 2 ^ 64 → T (fits binary64 x) → command_of (tell_row n x) ≡ Some (Tell (record { number = n; value = x; state = Complete }))
unfolding tell_row command_of line_of pair_line told words_of
told_back n x h f = rw (tell-words n x, whole_back n h, double-back x f)

-- a refusal is no line of a script, so that a script that holds it is malformed there
pub refused-malformed : (why : ExportRefusal) → command_of (refused_row why) ≡ None
unfolding refused_row command_of line_of pair_line file_line words_of
refused-malformed (MalformedLine k) = rw (fourteen, word-alone (whole_text k) (whole-spaceless k))
refused-malformed ShortHistory = rw fifteen
