-- A line and its parts: a line of the grammar is read as what it means, and a line that is read is one of the grammar.
-- Idea: a separator stands nowhere among digits, so the line is cut where its parts meet (Joined).
use Prim.Native.Nat.{ℕ, ◌^◌, ◌≤◌, ◌<◌}
use Prim.Native.Char.{code}
use mathlib.Core.Path.{◌≡◌, refl, sym, ap, ◌∙◌}
use mathlib.Core.Bool.{Bool, true, false, ◌&&◌, cond}
use mathlib.Core.List.{List, [], ◌∷◌, ◌++◌, append-nil}
use native.Mathlib.Omega.{arith}
use lib.Dec.{leb, ltb, eqb}
use lib.Ieee.{Float}
use lib.ListN.{length}
use borrow.Author.Tests.{le-leb, lt-ltb, leb-true, ltb-true, eqb-true}
use Rattle.history.specs.declared.CompletedTrial.{CompletedTrial}
use Rattle.history.specs.declared.TrialState.TheVariants.{Complete}
use Rattle.std.specs.Prelude.{Option, Some, None}
use Rattle.numbers.specs.Numbers.{digit_of, all_digits, spelt_after}
use Rattle.metrics.specs.Pieces.{Halves, whole, halves, split_at}
use Rattle.metrics.specs.Value.{decimal_of, pointed, unsigned_of, value_word}
use Rattle.metrics.specs.Nearest.{nearest_double}
use Rattle.metrics.specs.Line.{trial_number, trial, fields, line_of}
use Rattle.metrics.specs.Grammar.{Parts, Lawful, sign_of, point_of, value_text, body_text, meant}
use Rattle.std.proofs.lemmas.Bool.{and_parts}
use Rattle.metrics.proofs.Decimals.{digits_append}
use Rattle.metrics.proofs.Joined.{Clear, clear-append, digits-clear, split-clear, whole-clear, SplitBack, split-back}

no_digit : (digit_of (code ",") ≡ None) × (digit_of (code ".") ≡ None) × (digit_of (code "-") ≡ None) × (digit_of (code "\n") ≡ None)
unfolding digit_of
no_digit = (refl, refl, refl, refl)

-- ---- a value of the grammar is read
-- what the digits w before the point and f behind it must be
abbrev Digits : List ℕ → List ℕ → Type 0
Digits w f = (all_digits 10 (w ++ f) ≡ true) × (1 ≤ length w) × (length (w ++ f) ≤ 15)

module _ (minus : Bool) (w f : List ℕ) where
  abbrev nearest_to : Float
  nearest_to = nearest_double minus (spelt_after 10 0 (w ++ f)) (length f)

  decimal-taken : Digits w f → decimal_of minus w f ≡ Some nearest_to
  unfolding decimal_of
  decimal-taken d = rw (le-leb 1 (length w) d.1, le-leb (length (w ++ f)) 15 d.2, d.0)

  decimal-back : (x : Float) → decimal_of minus w f ≡ Some x → Digits w f × (x ≡ nearest_to)
  unfolding decimal_of
  decimal-back x e = go (leb 1 (length w)) (leb (length (w ++ f)) 15) (all_digits 10 (w ++ f)) refl refl refl e
    where
      go : (a b d : Bool) → leb 1 (length w) ≡ a → leb (length (w ++ f)) 15 ≡ b → all_digits 10 (w ++ f) ≡ d
          → cond (a && b && d) (Some nearest_to) None ≡ Some x → Digits w f × (x ≡ nearest_to)
      go true true true p q r h = let same : x ≡ nearest_to = cc in ((r, leb-true 1 (length w) p, leb-true (length (w ++ f)) 15 q), same)
      go true true false p q r h = cc
      go true false d p q r h = cc
      go false b d p q r h = cc

whole-digits : (w f : List ℕ) → all_digits 10 (w ++ f) ≡ true → all_digits 10 w ≡ true
whole-digits w f e = (and_parts (all_digits 10 w) (all_digits 10 f) (sym (digits_append w f) ∙ e)).0

fraction-digits : (w f : List ℕ) → all_digits 10 (w ++ f) ≡ true → all_digits 10 f ≡ true
fraction-digits w f e = (and_parts (all_digits 10 w) (all_digits 10 f) (sym (digits_append w f) ∙ e)).1

unsigned-taken : (minus : Bool) (w f : List ℕ) → Digits w f → unsigned_of minus (w ++ point_of f) ≡ Some (nearest_to minus w f)
unfolding unsigned_of
unsigned-taken minus w [] d =
    let clear = digits-clear (code ".") no_digit.1 w (whole-digits w [] d.0) in
    ap (λ (s : List ℕ). pointed minus (split_at (code ".") s)) (append-nil w) ∙ ap (pointed minus) (whole-clear (code ".") w clear) ∙ decimal-taken minus w [] d
unsigned-taken minus w (b ∷ bs) d =
    let clear = digits-clear (code ".") no_digit.1 w (whole-digits w (b ∷ bs) d.0) in
    ap (pointed minus) (split-clear (code ".") w (b ∷ bs) clear) ∙ rw (le-leb 1 (length (b ∷ bs)) (omega arith)) (decimal-taken minus w (b ∷ bs) d)

value_taken : (minus : Bool) (w f : List ℕ) → Digits w f → value_word (sign_of minus ++ (w ++ point_of f)) ≡ Some (nearest_to minus w f)
unfolding value_word
value_taken true w f d = unsigned-taken true w f d
value_taken false [] f d = absurd (omega (arith, d.1))
value_taken false (b ∷ w) f d =
    let clear = digits-clear (code "-") no_digit.2 (b ∷ w) (whole-digits (b ∷ w) f d.0) in
    rw clear.0 (unsigned-taken false (b ∷ w) f d)

-- ---- a value that is read is one of the grammar
abbrev Value : List ℕ → Float → Type 0
Value s x = (minus : Bool) × (w : List ℕ) × (f : List ℕ) × ((s ≡ sign_of minus ++ (w ++ point_of f)) × Digits w f × (x ≡ nearest_to minus w f))

unsigned_back : (minus : Bool) (s : List ℕ) (x : Float) → unsigned_of minus s ≡ Some x
    → (w : List ℕ) × (f : List ℕ) × ((s ≡ w ++ point_of f) × Digits w f × (x ≡ nearest_to minus w f))
unfolding unsigned_of
unsigned_back minus s x e = go (split_at (code ".") s) (split-back (code ".") s) e
  where
    behind : (w f : List ℕ) (t : Bool) → leb 1 (length f) ≡ t → s ≡ w ++ code "." ∷ f → cond t (decimal_of minus w f) None ≡ Some x
        → (w : List ℕ) × (f : List ℕ) × ((s ≡ w ++ point_of f) × Digits w f × (x ≡ nearest_to minus w f))
    behind w (b ∷ bs) true p q h = let d = decimal-back minus w (b ∷ bs) x h in (w, b ∷ bs, (q, d.0, d.1))
    behind w [] true p q h = absurd (omega (arith, leb-true 1 0 p))
    behind w f false p q h = cc

    go : (h : Halves) → SplitBack (code ".") h s → pointed minus h ≡ Some x → (w : List ℕ) × (f : List ℕ) × ((s ≡ w ++ point_of f) × Digits w f × (x ≡ nearest_to minus w f))
    go (whole w) b h = let d = decimal-back minus w [] x h in (w, [], (b ∙ sym (append-nil w), d.0, d.1))
    go (halves w f) b h = behind w f (leb 1 (length f)) refl b h

value-back : (s : List ℕ) (x : Float) → value_word s ≡ Some x → Value s x
unfolding value_word
value-back [] x e = cc
value-back (b ∷ bs) x e = go (eqb b (code "-")) refl e
  where
    go : (t : Bool) → eqb b (code "-") ≡ t → cond t (unsigned_of true bs) (unsigned_of false (b ∷ bs)) ≡ Some x → Value (b ∷ bs) x
    go true z h =
        let u = unsigned_back true bs x h in
        (true, u.0, u.1, (ap (λ (y : ℕ). y ∷ bs) (eqb-true b (code "-") z) ∙ ap (λ (y : List ℕ). code "-" ∷ y) u.2.0, u.2.1, u.2.2))
    go false z h = let u = unsigned_back false (b ∷ bs) x h in (false, u.0, u.1, (u.2.0, u.2.1, u.2.2))

-- ---- a trial number
number-taken : (s : List ℕ) → all_digits 10 s ≡ true → 1 ≤ length s → length s ≤ 20 → spelt_after 10 0 s < 2 ^ 64 → trial_number s ≡ Some (spelt_after 10 0 s)
unfolding trial_number
number-taken s d some few fits =
    let low : ltb (spelt_after 10 0 s) (2 ^ 64) ≡ true = lt-ltb (spelt_after 10 0 s) (2 ^ 64) fits in
    rw (le-leb 1 (length s) some, le-leb (length s) 20 few, d, low)

abbrev Number : List ℕ → ℕ → Type 0
Number s k = (all_digits 10 s ≡ true) × (1 ≤ length s) × (length s ≤ 20) × (spelt_after 10 0 s < 2 ^ 64) × (k ≡ spelt_after 10 0 s)

number-back : (s : List ℕ) (k : ℕ) → trial_number s ≡ Some k → Number s k
unfolding trial_number
number-back s k e = go (leb 1 (length s)) (leb (length s) 20) (all_digits 10 s) (ltb (spelt_after 10 0 s) (2 ^ 64)) refl refl refl refl e
  where
    go : (a b d c : Bool) → leb 1 (length s) ≡ a → leb (length s) 20 ≡ b → all_digits 10 s ≡ d → ltb (spelt_after 10 0 s) (2 ^ 64) ≡ c
        → cond (a && b) (cond (d && c) (Some (spelt_after 10 0 s)) None) None ≡ Some k → Number s k
    go true true true true p q r t h =
        let same : k ≡ spelt_after 10 0 s = cc in
        (r, leb-true 1 (length s) p, leb-true (length s) 20 q, ltb-true (spelt_after 10 0 s) (2 ^ 64) t, same)
    go true true true false p q r t h = cc
    go true true false c p q r t h = cc
    go true false d c p q r t h = cc
    go false b d c p q r t h = cc

-- ---- a line
pub line_taken : (p : Parts) → Lawful p → line_of (body_text p) ≡ Some (meant p)
unfolding line_of
line_taken p l =
    let clear = digits-clear (code ",") no_digit.0 p.number l.number_digits in
    let number = number-taken p.number l.number_digits l.some_number l.few_number l.number_fits in
    let value = value_taken p.minus p.whole p.fraction (l.digits, l.some, l.few) in
    ap fields (split-clear (code ",") p.number (value_text p) clear) ∙ rw (number, value)

-- no line feed stands within a line
pub line_clear : (p : Parts) → Lawful p → Clear (code "\n") (body_text p)
line_clear p l =
    clear-append (code "\n") p.number (code "," ∷ value_text p) (digits-clear (code "\n") no_digit.3 p.number l.number_digits) (
      refl,
      clear-append (code "\n") (sign_of p.minus) (p.whole ++ point_of p.fraction) (sign p.minus)
          (clear-append (code "\n") p.whole (point_of p.fraction) (digits-clear (code "\n") no_digit.3 p.whole (whole-digits p.whole p.fraction l.digits))
          (point p.fraction (fraction-digits p.whole p.fraction l.digits))),
    )
  where
    sign : (m : Bool) → Clear (code "\n") (sign_of m)
    sign true = (refl, tt)
    sign false = tt

    point : (f : List ℕ) → all_digits 10 f ≡ true → Clear (code "\n") (point_of f)
    point [] e = tt
    point (b ∷ bs) e = (refl, digits-clear (code "\n") no_digit.3 (b ∷ bs) e)

pub line-back : (line : List ℕ) (t : CompletedTrial) → line_of line ≡ Some t → (p : Parts) × (Lawful p × (line ≡ body_text p) × (t ≡ meant p))
unfolding line_of
line-back line t e = go (split_at (code ",") line) (split-back (code ",") line) e
  where
    parts : (n v : List ℕ) (k : ℕ) (x : Float) → line ≡ n ++ code "," ∷ v → Number n k → Value v x → Some (record { number = k; value = x; state = Complete }) ≡ Some t
        → (p : Parts) × (Lawful p × (line ≡ body_text p) × (t ≡ meant p))
    parts n v k x q a b h =
        let p : Parts = record { number = n; minus = b.0; whole = b.1; fraction = b.2 } in
        let same : t ≡ record { number = k; value = x; state = Complete } = cc in (
          p,
          (
            record {
              number_digits = a.0;
              some_number = a.1;
              few_number = a.2;
              number_fits = a.3;
              digits = b.3.1.0;
              some = b.3.1.1;
              few = b.3.1.2;
            },
            q ∙ ap (λ (y : List ℕ). n ++ code "," ∷ y) b.3.0,
            same ∙ ap (λ (y : ℕ). record { number = y; value = x; state = Complete }) a.4 ∙ ap (λ (y : Float). record { number = spelt_after 10 0 n; value = y; state = Complete }) b.3.2,
          ),
        )

    both : (n v : List ℕ) → line ≡ n ++ code "," ∷ v → (i : Option ℕ) → trial_number n ≡ i → (d : Option Float) → value_word v ≡ d → trial i d ≡ Some t
        → (p : Parts) × (Lawful p × (line ≡ body_text p) × (t ≡ meant p))
    both n v q (Some k) a (Some x) b h = parts n v k x q (number-back n k a) (value-back v x b) h
    both n v q (Some k) a None b h = cc
    both n v q None a d b h = cc

    go : (h : Halves) → SplitBack (code ",") h line → fields h ≡ Some t → (p : Parts) × (Lawful p × (line ≡ body_text p) × (t ≡ meant p))
    go (whole w) b h = cc
    go (halves n v) b h = both n v b (trial_number n) refl (value_word v) refl h
