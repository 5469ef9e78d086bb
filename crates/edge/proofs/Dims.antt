-- Dimension by dimension: what `map` of an array gave, and a `try_map` that opens each while all are known.
use Rattle.std.proofs.Common.{◌≡◌, ◌∙◌, ◌<◌, arith, refl, sym, ap, ℕ, List, [], ◌∷◌, map, length, get_or}
use Rattle.std.proofs.Common.{Bool, true, false, ◌&&◌, Result, Ok, Err, is_ok, is_err}
use Rattle.std.proofs.lemmas.List.{ext_get_or, get_or-map}
use Rattle.std.specs.Array.{IsMapOf, AllZipBelow}
use Rattle.std.specs.List.{AllZip, IsAmong}
use Rattle.std.specs.Prelude.{IfOk, IfErr}
use Rattle.std.specs.Fn.{Called, Mut}
use Rattle.std.specs.Result.{result_unwrap_or}
use Prim.Native.Nat.{zero, suc}
use native.Mathlib.Nat.{not-suc-le-zero, le_of_suc-le-suc}
use mathlib.Core.Bool.{true≢false}
use lib.ListN.{length-map}
use Rattle.ledger.specs.Words.{all}
use Rattle.state.proofs.Flags.{and-true}
use Rattle.edge.specs.declared.flat.Unnamed.{Unnamed}
use Rattle.edge.specs.Known.{named}

-- ---- what was opened, and whether its numbers name cases

pub known : {A : Type 0} (b : Bool) (x y : A) → Ok y ≡ named b x → b ≡ true
known true x y e = refl
known false x y e = absurd (true≢false (ap is_ok e))

pub opened : {A : Type 0} (b : Bool) (x y : A) → Ok y ≡ named b x → y ≡ x
opened true x y e = ap (λ r. result_unwrap_or r x) e
opened false x y e = absurd (true≢false (ap is_ok e))

pub unknown : {A : Type 0} (b : Bool) (x : A) (e : Unnamed) → Err e ≡ named b x → b ≡ false
unknown true x e h = absurd (true≢false (sym (ap is_ok h)))
unknown false x e h = refl

pub unnamed : {A : Type 0} (r : Result A Unnamed) → is_err r ≡ true → r ≡ Err (record {})
unnamed (Ok x) h = absurd (true≢false (sym h))
unnamed (Err e) h = refl

-- ---- one that is unknown

module _ {A : Type 0} (p : A → Bool) where
  and-false : (b : Bool) → (b && false) ≡ false
  and-false true = refl
  and-false false = refl

  pub one-unknown : (xs : List A) (i : ℕ) (z : A) → i < length xs → p (get_or xs i z) ≡ false → all p xs ≡ false
  unfolding all
  one-unknown [] i z h e = absurd (not-suc-le-zero h)
  one-unknown (x ∷ xs) zero z h e = ap (λ (b : Bool). b && all p xs) e
  one-unknown (x ∷ xs) (suc i) z h e = ap (λ (b : Bool). p x && b) (one-unknown xs i z (le_of_suc-le-suc h) e) ∙ and-false (p x)

-- ---- `map` of an array, where each call gave h of its element

pub mapped : {F A B : Type 0} (g : Mut F (A × Unit {0}) B) (f : F) (h : A → B) (xs : List A) (ys : List B) (n : ℕ) (d : A) (e : B)
    → length xs ≡ n → IsMapOf g f xs ys n → ((p q : F) (x : A) (y : B) → Called g p (x, tt) y q → y ≡ h x) → ys ≡ map h xs
mapped g f h xs ys n d e long m says =
    ext_get_or e ys (map h xs) (m.long ∙ sym long ∙ sym (length-map xs h)) (λ i low.
    let (p, q, k) = m.at i d e (omega (arith, m.long, low)) in
    says p q (get_or xs i d) (get_or ys i e) k ∙ sym (get_or-map h xs i d e (omega (arith, m.long, long, low))))

-- ---- `try_map` of an array, where each call answered h of its element, if that is known

module _ {F A B : Type 0} (g : Mut F (A × Unit {0}) (Result B Unnamed)) (p : A → Bool) (h : A → B) (says : (f k : F) (x : A) (r : Result B Unnamed) → Called g f (x, tt) r k → r ≡ named (p x) (h x)) where
  each_opened : (xs : List A) (ys : List B) → AllZip (λ x y. (f : F) × (k : F) × Called g f (x, tt) (Ok y) k) xs ys → Ok ys ≡ named (all p xs) (map h xs)
  unfolding all
  each_opened [] [] z = refl
  each_opened [] (y ∷ ys) z = absurd z
  each_opened (x ∷ xs) [] z = absurd z
  each_opened (x ∷ xs) (y ∷ ys) ((f, k, c), z) =
      let e = says f k x (Ok y) c in
      let es = each_opened xs ys z in
      ap Ok (ap (λ (o : B). o ∷ ys) (opened (p x) (h x) y e) ∙ ap (λ (os : List B). h x ∷ os) (opened (all p xs) (map h xs) ys es))
      ∙ ap (λ (b : Bool). named b (h x ∷ map h xs)) (sym (and-true (known (p x) (h x) y e) (known (all p xs) (map h xs) ys es)))

  pub tried : (xs : List A) (n : ℕ) (r : Result (List B) Unnamed) → IfOk r (λ ys. AllZipBelow (λ x y. (f : F) × (k : F) × Called g f (x, tt) (Ok y) k) xs ys n)
      → IfErr r (λ e. (x : A) × IsAmong xs x × (f : F) × (k : F) × Called g f (x, tt) (Err e) k) → r ≡ named (all p xs) (map h xs)
  tried xs n (Ok ys) all-ok none = each_opened xs ys all-ok.whole
  tried xs n (Err e) all-ok (x, (i, (low, is)), f, k, c) =
      unnamed {A = List B} (Err e) refl
      ∙ ap (λ (b : Bool). named b (map h xs)) (sym (one-unknown p xs i x low (ap p (sym is) ∙ unknown (p x) (h x) e (says f k x (Err e) c))))
