-- How long an export can be that is read well: a line of the grammar has 39 bytes at most, 20 digits, a comma, a minus, 15 digits with a point and a
-- line feed. So more than 65,536 times 39 bytes, which are answered with `too long`, are never read into 65,536 places.
use Prim.Native.Nat.{ℕ, ◌+◌, ◌*◌, ◌≤◌}
use Prim.Native.Char.{code}
use mathlib.Core.Path.{◌≡◌, ap, ◌∙◌}
use mathlib.Core.Bool.{Bool, true, false}
use mathlib.Core.List.{List, [], ◌∷◌, ◌++◌}
use native.Mathlib.Omega.{arith}
use lib.ListN.{length, length-append, length-map}
use Rattle.history.specs.declared.CompletedTrial.{CompletedTrial}
use Rattle.metrics.specs.Grammar.{Parts, Lawful, AllLawful, sign_of, point_of, value_text, body_text, line_text, text_of, meant}
use Rattle.metrics.specs.Export.{well, export_of}
use Rattle.metrics.proofs.Grammar.{accepted-exactly}

sign-short : (minus : Bool) → length (sign_of minus) ≤ 1
sign-short true = omega arith
sign-short false = omega arith

point-short : (f : List ℕ) → length (point_of f) ≤ length f + 1
point-short [] = omega arith
point-short (b ∷ bs) = omega arith

line-short : (p : Parts) → Lawful p → length (line_text p) ≤ 39
line-short p l =
    omega (
      arith,
      length-append (body_text p) (code "\n" ∷ []),
      length-append p.number (code "," ∷ value_text p),
      length-append (sign_of p.minus) (p.whole ++ point_of p.fraction),
      length-append p.whole (point_of p.fraction),
      length-append p.whole p.fraction,
      sign-short p.minus,
      point-short p.fraction,
      l.few_number,
      l.few,
    )

text-short : (ps : List Parts) → AllLawful ps → length (text_of ps) ≤ 39 * length ps
text-short [] l = omega arith
text-short (p ∷ ps) l = omega (arith, length-append (line_text p) (text_of ps), line-short p l.0, text-short ps l.1)

pub not-too-long : (text : List ℕ) (ts : List CompletedTrial) → export_of text ≡ well ts → length ts ≤ 65536 → length text ≤ 2555904
not-too-long text ts e few =
    let a = (accepted-exactly text ts).0 e in
    let long : length text ≡ length (text_of a.0) = ap (length {A = ℕ}) a.1.1 in
    let count : length ts ≡ length a.0 = ap (length {A = CompletedTrial}) a.1.2 ∙ length-map a.0 meant in
    omega (arith, text-short a.0 a.1.0)
