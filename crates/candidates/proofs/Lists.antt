-- Laws on lists that this crate's proofs and those above cite.
use Prim.Native.Nat.{ℕ, ◌+◌, ◌<◌, ◌≤◌}
use Rattle.std.proofs.lemmas.List.{take_more, map-append}
use native.Mathlib.Numerals.{add-one}
use native.Mathlib.Omega.{arith}
use mathlib.Core.Path.{◌≡◌, sym, ap, ◌∙◌}
use mathlib.Core.List.{List, [], ◌∷◌, ◌++◌, map}
use lib.ListN.{length, get_or, set, drop, take, length-map}
use lib.Seq.{drop-cons, length-take-le}
use Rattle.rng_util.specs.Many.{pad_to}
use Rattle.rng_util.proofs.Parts.{pad-put}

-- the next of a list
pub next-drop : {A : Type 0} (xs : List A) (i : ℕ) (z : A) → i < length xs → drop i xs ≡ get_or xs i z ∷ drop (i + 1) xs
next-drop xs i z h = rw (add-one, drop-cons xs i z)

-- one place more of a list that is mapped into an array
pub map-put : {A B : Type 0} (N : ℕ) (z : B) (f : A → B) (xs : List A) (x : A) (arr : List B) (n : ℕ) → n ≡ length xs → n < N → arr ≡ pad_to N z (map f xs) → set arr n (f x) ≡ pad_to N z (map f (xs ++ (x ∷ [])))
map-put N z f xs x arr n e h q =
    let l : n ≡ length (map f xs) = e ∙ sym (length-map xs f) in
    (λ i. set (q i) (l i) (f x)) ∙ pad-put N z (f x) (map f xs) (omega (arith, l)) ∙ ap (pad_to N z) (sym (map-append f xs (x ∷ [])))

-- a loop that stores f of each element in an array of N places, the others d: one place more
pub pad-map_more : {A B : Type 0} (f : A → B) (N : ℕ) (d : B) (xs : List A) (i : ℕ) (z : A) (arr : List B) (v : B) → i < length xs → length xs ≤ N → v ≡ f (get_or xs i z) → arr ≡ pad_to N d (map f (take i xs))
    → set arr i v ≡ pad_to N d (map f (take (i + 1) xs))
pad-map_more {A} f N d xs i z arr v h few e q =
    ap (set arr i) e
    ∙ map-put N d f (take i xs) (get_or xs i z) arr i (sym (length-take-le i xs (omega arith))) (omega arith) q
    ∙ ap (λ (l : List A). pad_to N d (map f l)) (sym (take_more xs i z h))
