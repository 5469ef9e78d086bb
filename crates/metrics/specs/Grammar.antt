-- The metrics export as a grammar and a meaning (document 02, W3): "text lines: trial number, comma, value, line feed".
-- The reader's definition (Export) takes exactly the texts of this grammar, with this meaning: proofs/Grammar.
use Rattle.std.specs.Prelude.{ℕ, ◌+◌, ◌≤◌, ◌<◌, ◌^◌, ◌≡◌, Bool, true, cond, List, [], ◌∷◌, ◌++◌, map, eqb, length}
use Prim.Native.Char.{code}
use Rattle.history.specs.declared.CompletedTrial.{CompletedTrial}
use Rattle.history.specs.declared.TrialState.TheVariants.{Complete}
use Rattle.numbers.specs.Numbers.{all_digits, spelt_after}
use Rattle.metrics.specs.Nearest.{nearest_double}

-- ---- the grammar

-- the parts of a line, as bytes: the number's digits, whether there is a minus, the digits before the point and those behind it
pub record Parts : Type 0 where
  pub number : List ℕ
  pub minus : Bool
  pub whole : List ℕ
  pub fraction : List ℕ

-- what the parts may be
pub record Lawful (p : Parts) : Type 0 where
  -- "A trial number is 1 to 20 digits and at most 2^64 - 1"
  pub number_digits : all_digits 10 p.number ≡ true
  pub some_number : 1 ≤ length p.number
  pub few_number : length p.number ≤ 20
  pub number_fits : spelt_after 10 0 p.number < 2 ^ 64
  -- "A value is an optional minus, 1 to 15 digits in all"; a digit stands before the point, or there is no point
  pub digits : all_digits 10 (p.whole ++ p.fraction) ≡ true
  pub some : 1 ≤ length p.whole
  pub few : length (p.whole ++ p.fraction) ≤ 15

abbrev pub sign_of : Bool → List ℕ
sign_of minus = cond minus (code "-" ∷ []) []

-- "at most one point, between two of them": no digit behind it, no point
abbrev pub point_of : List ℕ → List ℕ
point_of [] = []
point_of (b ∷ bs) = code "." ∷ b ∷ bs

abbrev pub value_text : Parts → List ℕ
value_text p = sign_of p.minus ++ (p.whole ++ point_of p.fraction)

-- "trial number, comma, value", and with its "line feed"
abbrev pub body_text : Parts → List ℕ
body_text p = p.number ++ code "," ∷ value_text p

abbrev pub line_text : Parts → List ℕ
line_text p = body_text p ++ code "\n" ∷ []

-- "The last line needs its line feed too; an empty file gives no entries"
abbrev pub text_of : List Parts → List ℕ
text_of [] = []
text_of (p ∷ ps) = line_text p ++ text_of ps

abbrev pub AllLawful : List Parts → Type 0
AllLawful [] = Unit {0}
AllLawful (p ∷ ps) = Lawful p × AllLawful ps

-- ---- the meaning

-- The decimal is ± m / 10^k, m what all its digits spell and k how many of them stand behind the point.
-- "Lines of the metrics export are read as complete" (W6).
abbrev pub meant : Parts → CompletedTrial
meant p =
    record {
      number = spelt_after 10 0 p.number;
      value = nearest_double p.minus (spelt_after 10 0 (p.whole ++ p.fraction)) (length p.fraction);
      state = Complete;
    }

-- ---- what is read and what is refused

-- the text is lines of the grammar, and the entries are what they mean, "in the file's order"
abbrev pub Accepted : List ℕ → List CompletedTrial → Type 0
Accepted text ts = (ps : List Parts) × (AllLawful ps × (text ≡ text_of ps) × (ts ≡ map meant ps))

-- a text that is not empty and does not begin with a line of the grammar
pub record NoLine (text : List ℕ) : Type 0 where
  pub something : text ≡ [] → ⊥
  pub no_line : (p : Parts) (rest : List ℕ) → Lawful p → text ≡ line_text p ++ rest → ⊥

-- "14, the first malformed line, carries its number from 1": lines of the grammar, and then none
abbrev pub MalformedAt : List ℕ → ℕ → Type 0
MalformedAt text k = (ps : List Parts) × (rest : List ℕ) × (AllLawful ps × (text ≡ text_of ps ++ rest) × NoLine rest × (k ≡ length ps + 1))

-- how many line feeds a text has; one that is read has as many entries (proofs/Counted)
unfoldable pub line_feeds : List ℕ → ℕ
line_feeds [] = 0
line_feeds (b ∷ bs) = cond (eqb b (code "\n")) (line_feeds bs + 1) (line_feeds bs)
