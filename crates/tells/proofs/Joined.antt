-- Rows put together of the texts that were put into a block one behind the other, and rows one behind the other.
use Rattle.std.proofs.Common.{◌≡◌, ◌+◌, ◌*◌, ◌/◌, ◌≤◌, min, ℕ, zero, suc, List, [], ◌∷◌, ◌++◌, refl, sym, ap, ◌∙◌, append_assoc, length, length-append, take, drop, arith}
use Rattle.std.specs.Prelude.{Float, codes}
use Rattle.std.proofs.lemmas.List.{append-nil, take_min, length-take}
use Rattle.std.proofs.Math.Seq.{take-length}
use mathlib.Core.Bool.{Bool, true, false}
use lib.Dec.{leb}
use borrow.Author.Tests.{leb-true, leb-false}
use Rattle.metrics.specs.declared.ExportRefusal.{ExportRefusal}
use Rattle.metrics.specs.declared.ExportRefusal.TheVariants.{MalformedLine, ShortHistory}
use Rattle.metrics.specs.Export.{export_refusal_number}
use Rattle.tells.specs.Text.{places_from, whole_text, pattern_text, tell_row, tell_text, carried, refused_row, refused_text, tell_texts}

-- `tell`, the number, the pattern and the line feed, each behind what was there
pub tell-is : (n : ℕ) (x : Float) (front : List ℕ) → front ++ codes "tell " ++ whole_text n ++ codes " " ++ pattern_text x ++ codes "\n" ≡ front ++ tell_text n x
unfolding tell_text tell_row
tell-is n x front = simp append_assoc

pub ruleset told = (tell-is)

pub fourteen : whole_text 14 ≡ codes "14"
unfolding whole_text places_from
fourteen = refl

pub fifteen : whole_text 15 ≡ codes "15"
unfolding whole_text places_from
fifteen = refl

-- a refusal's number has two digits
pub two-digits : (why : ExportRefusal) → length (whole_text (export_refusal_number why)) ≡ 2
two-digits (MalformedLine line) = ap length fourteen
two-digits ShortHistory = ap length fifteen

joined : (why : ExportRefusal) → ((codes "refused " ++ whole_text (export_refusal_number why)) ++ carried why) ++ codes "\n" ≡ refused_text why
unfolding refused_text refused_row
joined why = simp append_assoc

pub refused-is : (why : ExportRefusal) (n : ℕ) → n ≡ export_refusal_number why
    → ((codes "refused " ++ whole_text n) ++ carried why) ++ codes "\n" ≡ refused_text why
refused-is why n e = ap (λ (k : ℕ). ((codes "refused " ++ whole_text k) ++ carried why) ++ codes "\n") e ∙ joined why

pub ruleset refused = (two-digits, refused-is, length-append)

-- no entry, no row
pub texts-none : (xs : List Float) → tell_texts [] xs ≡ []
unfolding tell_texts
texts-none xs = refl

texts-suc : (n : ℕ) (ns ms : List ℕ) (xs ys : List Float) (k : ℕ) (x : Float) → drop n ns ≡ k ∷ ms → drop n xs ≡ x ∷ ys
    → tell_texts (take (suc n) ns) xs ≡ tell_texts (take n ns) xs ++ tell_text k x
unfolding tell_texts
texts-suc zero [] ms xs ys k x e f = cc
texts-suc (suc n) [] ms xs ys k x e f = cc
texts-suc zero (m ∷ ns) ms [] ys k x e f = cc
texts-suc (suc n) (m ∷ ns) ms [] ys k x e f = cc
texts-suc zero (m ∷ ns) ms (y ∷ xs) ys k x e f =
    let a : m ≡ k = cc in
    let b : y ≡ x = cc in
    rw (a, b, append-nil)
texts-suc (suc n) (m ∷ ns) ms (y ∷ xs) ys k x e f =
    ap (λ (t : List ℕ). tell_text m y ++ t) (texts-suc n ns ms xs ys k x e f)
    ∙ sym (append_assoc (tell_text m y) (tell_texts (take n ns) xs) (tell_text k x))

-- the rows of the first entries, and that of the next
pub texts-next : (n : ℕ) (ns ms : List ℕ) (xs ys : List Float) (k : ℕ) (x : Float) → drop n ns ≡ k ∷ ms → drop n xs ≡ x ∷ ys
    → tell_texts (take (n + 1) ns) xs ≡ tell_texts (take n ns) xs ++ tell_text k x
texts-next n ns ms xs ys k x e f = let s : n + 1 ≡ suc n = omega arith in rw s (texts-suc n ns ms xs ys k x e f)

drop-suc : {A : Type 0} (n : ℕ) (xs ys : List A) (x : A) → drop n xs ≡ x ∷ ys → drop (suc n) xs ≡ ys
drop-suc zero [] ys x e = cc
drop-suc (suc n) [] ys x e = cc
drop-suc zero (y ∷ xs) ys x e = cc
drop-suc (suc n) (y ∷ xs) ys x e = drop-suc n xs ys x e

-- what is left behind the next entry
pub drop-next : {A : Type 0} (n : ℕ) (xs ys : List A) (x : A) → drop n xs ≡ x ∷ ys → drop (n + 1) xs ≡ ys
drop-next n xs ys x e = let s : n + 1 ≡ suc n = omega arith in rw s (drop-suc n xs ys x e)

-- there is a next entry
pub drop-more : {A : Type 0} (n : ℕ) (xs ys : List A) (x : A) → drop n xs ≡ x ∷ ys → n + 1 ≤ length xs
drop-more zero [] ys x e = cc
drop-more (suc n) [] ys x e = cc
drop-more zero (y ∷ xs) ys x e = omega arith
drop-more (suc n) (y ∷ xs) ys x e = omega (arith, drop-more n xs ys x e)

pub ruleset up = (texts-none, texts-next, drop-next, drop-more)

-- once there is no entry left, more of them are no more rows
texts-all : (r k : ℕ) (ns : List ℕ) (xs : List Float) → r ≤ k → min (length ns) (length xs) ≤ r → tell_texts (take r ns) xs ≡ tell_texts (take k ns) xs
unfolding tell_texts
texts-all zero zero ns xs h e = refl
texts-all (suc r) zero ns xs h e = absurd (omega arith)
texts-all zero (suc k) [] xs h e = refl
texts-all (suc r) (suc k) [] xs h e = refl
texts-all zero (suc k) (n ∷ ns) [] h e = refl
texts-all (suc r) (suc k) (n ∷ ns) [] h e = refl
texts-all zero (suc k) (n ∷ ns) (x ∷ xs) h e = absurd (omega arith)
texts-all (suc r) (suc k) (n ∷ ns) (x ∷ xs) h e = ap (λ (t : List ℕ). tell_text n x ++ t) (texts-all r k ns xs (omega arith) (omega arith))

-- a block that is filled up with the entries for whose longest rows it has room holds the rows of them all
pub all-fit : (room first r : ℕ) (ns : List ℕ) (xs : List Float) (block : List ℕ) → first ≡ min (room / 43) (length ns) → r ≤ length (take first ns)
    → length block ≤ 43 * r → (length block + 43 ≤ room → r ≡ min (length (take first ns)) (length xs)) → block ≡ tell_texts (take r (take first ns)) xs
    → block ≡ tell_texts (take (room / 43) ns) xs
all-fit room first r ns xs block f h few most text =
    text ∙ texts-all r (length (take first ns)) (take first ns) xs h (go (leb (length block + 43) room) refl)
    ∙ ap (λ (t : List ℕ). tell_texts t xs) (take-length (take first ns) ∙ ap (λ (k : ℕ). take k ns) f ∙ take_min (room / 43) ns)
  where
    go : (t : Bool) → leb (length block + 43) room ≡ t → min (length (take first ns)) (length xs) ≤ r
    go true e = omega (arith, most (leb-true (length block + 43) room e))
    go false e = omega (arith, leb-false (length block + 43) room e, length-take first ns)

pub ruleset behind = (all-fit)
