-- The rule of the table: a list that has it at each place has it as a whole, and one list alone has it.
use Rattle.std.proofs.Common.{ℕ, suc, ◌+◌, ◌^◌, ◌<◌, ◌≡◌, T, Bool, List, [], ◌∷◌, length, get_or, sym, ◌∙◌, subst, arith, eqb, leb, ltb, le→leb, lt→ltb, add-zero, add-suc, suc-add, zero-add}
use Rattle.std.proofs.lemmas.List.{ext_get_or}
use Rattle.std.proofs.lemmas.Nat.{pow_below}
use Rattle.rounding.specs.Table.{every}
use lib.Ieee.Fits.{and_i, eq→eqb}
use Rattle.ladder.specs.Rungs.{WholePart}
use Rattle.ladder.specs.Table.{has_rule, is_ladder_table}
use Rattle.ladder.proofs.Entries.{long, entry-is}
use Rattle.ladder.proofs.Powers.{pow-mul}

-- two lists that have it are one
pub one-table : (s t : List ℕ) → T (is_ladder_table s) → T (is_ladder_table t) → s ≡ t
one-table s t a b =
    ext_get_or 0 s t (long s a ∙ sym (long t b))
    (λ i h. let k : i < 256 = subst (λ (n : ℕ). i < n) (long s a) h in entry-is s a i k ∙ sym (entry-is t b i k))

-- a test that holds at each place holds as a whole
every-from : (f : ℕ → ℕ → Bool) (xs : List ℕ) (i : ℕ) → ((k : ℕ) → k < length xs → T (f (i + k) (get_or xs k 0))) → T (every f i xs)
every-from f [] i h = tt
every-from f (x ∷ xs) i h =
    and_i (f i x) (every f (suc i) xs) (subst (λ (m : ℕ). T (f m x)) (add-zero i) (h 0 (omega arith)))
    (every-from f xs (suc i) (λ k l. subst (λ (m : ℕ). T (f m (get_or xs k 0))) (add-suc i k ∙ sym (suc-add i k)) (h (suc k) (omega arith))))

rule : (k t : ℕ) → WholePart (7936 + k) t → T (has_rule k t)
rule k t w =
    and_i (leb (t ^ 256) (2 ^ (7936 + k))) (ltb (2 ^ (7936 + k)) ((t + 1) ^ 256)) (le→leb (t ^ 256) (2 ^ (7936 + k)) w.at_most)
    (lt→ltb (2 ^ (7936 + k)) ((t + 1) ^ 256) w.below)

pub table-is : (xs : List ℕ) → length xs ≡ 256 → ((k : ℕ) → k < 256 → WholePart (7936 + k) (get_or xs k 0)) → T (is_ladder_table xs)
unfolding is_ladder_table
table-is xs l h =
    and_i (eqb (length xs) 256) (every has_rule 0 xs) (eq→eqb l)
    (every-from has_rule xs 0 (λ k m. subst (λ (n : ℕ). T (has_rule n (get_or xs k 0))) (sym (zero-add k)) (rule k (get_or xs k 0) (h k (omega arith)))))

-- the 256th power of 2^32 is above 2^e
pub room : (e : ℕ) → e < 8192 → 2 ^ e < (2 ^ 32) ^ 256
room e h = subst (λ (n : ℕ). 2 ^ e < n) (sym (pow-mul 2 32 256)) (pow_below e 8192 h)
