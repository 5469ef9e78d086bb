-- The running best of the Rust is the document's best slot, the first least value's, 0 if all are +infinity: for values that are not NaN.
use Prim.Native.Nat.{ℕ, zero, suc, ◌+◌, ◌<◌, ◌≤◌}
use mathlib.Core.Path.{◌≡◌, refl, sym, ◌∙◌, subst}
use mathlib.Core.Logic.{◌≢◌}
use mathlib.Core.Bool.{Bool, true, false, cond, ◌&&◌}
use mathlib.Core.List.Memᴰ
use mathlib.Core.List.{List, [], ◌∷◌}
use native.Mathlib.Omega.{arith}
use lib.Dec.{T}
use lib.Ieee.{Float, nan, inf, fin, lt, le, eq}
use lib.ListN.{length}
use Rattle.selection.specs.Best.{best_from, best_slot}
use Rattle.ledger.specs.Words.{All}
use Rattle.ledger.specs.Closing.{at_most, best_of}
use Rattle.ledger.proofs.Lists.{T→true, true→T}
use Rattle.ledger.proofs.Tests.{and_split, and-join}
use Rattle.ledger.proofs.Order.{le_trans, le_lt_trans, lt_irrefl, not-le→lt}

-- no value is NaN
abbrev pub Numbers : List Float → Type 0
Numbers = All (λ (v : Float). v ≢ nan)

head-number : (v : Float) (vs : List Float) → Numbers (v ∷ vs) → v ≢ nan
head-number v vs h = h v (Memᴰ.head refl)

rest-numbers : (v : Float) (vs : List Float) → Numbers (v ∷ vs) → Numbers vs
rest-numbers v vs h a m = h a (Memᴰ.tail m)

-- strictly less: not at most
lt_not_le : (v w : Float) → T (lt w v) → T (le v w) → ⊥
lt_not_le v w l h = lt_irrefl v (le_lt_trans v w v h l)

-- what is at most w is at most all that w is at most
down_to : (v w : Float) (ws : List Float) → T (le v w) → T (at_most w ws) → T (at_most v ws)
unfolding at_most
down_to v w [] l h = tt
down_to v w (u ∷ us) l h = and-join (le v u) (at_most v us) (le_trans v w u l (and_split (le w u) (at_most w us) h).0) (down_to v w us l (and_split (le w u) (at_most w us) h).1)

-- v, of slot b, is the least so far; from slot i on the values are ws
run : (ws : List Float) (i : ℕ) (v : Float) (b : ℕ) → v ≢ nan → Numbers ws → best_from ws i v b ≡ cond (at_most v ws) b (i + best_of ws)
unfolding best_from at_most best_of
run [] i v b p q = refl
run (w ∷ ws) i v b p q = go (lt w v) (le v w) (at_most v ws) (at_most w ws) refl refl refl refl (run ws (i + 1) w i (head-number w ws q) (rest-numbers w ws q)) (run ws (i + 1) v b p (rest-numbers w ws q))
  where
    go : (t l a c : Bool) → lt w v ≡ t → le v w ≡ l → at_most v ws ≡ a → at_most w ws ≡ c
        → best_from ws (i + 1) w i ≡ cond (at_most w ws) i (i + 1 + best_of ws) → best_from ws (i + 1) v b ≡ cond (at_most v ws) b (i + 1 + best_of ws)
        → cond t (best_from ws (i + 1) w i) (best_from ws (i + 1) v b) ≡ cond (l && a) b (i + cond c zero (suc (best_of ws)))
    go true true a c e f g h m n = absurd (lt_not_le v w (true→T (lt w v) e) (true→T (le v w) f))
    go true false a true e f g h m n = m ∙ rw h (omega arith)
    go true false a false e f g h m n = m ∙ rw h (omega arith)
    go false false a c e f g h m n = absurd (subst T e (not-le→lt v w p (head-number w ws q) f))
    go false true true c e f g h m n = n ∙ rw g
    go false true false true e f g h m n = absurd (subst T g (down_to v w ws (true→T (le v w) f) (true→T (at_most w ws) h)))
    go false true false false e f g h m n = n ∙ rw g (omega arith)

-- +infinity is at least every number
top : (v : Float) → v ≢ nan → T (le v (inf false))
unfolding le lt eq
top nan p = absurd (p refl)
top (inf true) p = tt
top (inf false) p = tt
top (fin s m e) p = tt

first : (ws : List Float) → Numbers ws → T (at_most (inf false) ws) → best_of ws ≡ 0
unfolding best_of at_most
first [] r h = refl
first (v ∷ vs) r h = rw (T→true (at_most v vs) (down_to v (inf false) vs (top v (head-number v vs r)) (and_split (le (inf false) v) (at_most (inf false) vs) h).1))

pub best-is : (vs : List Float) → Numbers vs → best_slot vs ≡ best_of vs
unfolding best_slot
best-is vs q = run vs 0 (inf false) 0 (λ e. absurd (inf-nan e)) q ∙ all-top vs q
  where
    inf-nan : inf false ≡ nan → ⊥
    inf-nan e = let z : ◌≡◌ {A = ℕ} 0 1 = cc in omega arith

    zero_or : (t : Bool) (n : ℕ) → (T t → n ≡ 0) → cond t 0 (0 + n) ≡ n
    zero_or true n h = sym (h tt)
    zero_or false n h = omega arith

    all-top : (ws : List Float) → Numbers ws → cond (at_most (inf false) ws) 0 (0 + best_of ws) ≡ best_of ws
    all-top ws r = zero_or (at_most (inf false) ws) (best_of ws) (first ws r)

-- and it is a slot, if there is one
below-from : (ws : List Float) (i : ℕ) (v : Float) (b n : ℕ) → i + length ws ≤ n → b < n → best_from ws i v b < n
unfolding best_from
below-from [] i v b n h l = l
below-from (w ∷ ws) i v b n h l = go (lt w v) (below-from ws (i + 1) w i n (omega arith) (omega arith)) (below-from ws (i + 1) v b n (omega arith) l)
  where
    go : (t : Bool) → best_from ws (i + 1) w i < n → best_from ws (i + 1) v b < n → cond t (best_from ws (i + 1) w i) (best_from ws (i + 1) v b) < n
    go true p q = p
    go false p q = q

pub best-below : (vs : List Float) → 1 ≤ length vs → best_slot vs < length vs
unfolding best_slot
best-below vs h = below-from vs 0 (inf false) 0 (length vs) (omega arith) (omega arith)
