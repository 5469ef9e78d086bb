-- Step 3's indices: "Indices are drawn below N, rejected if equal to i or already taken: three for Rand1, two otherwise."
use Rattle.std.specs.Prelude.{ℕ, zero, suc, Bool, true, false, cond, List, [], ◌∷◌, eqb}
use Rattle.rng_util.specs.Draws.{usize_of}
use Rattle.rng_util.specs.Gen.{draw_of, Made, made}
use Rattle.rng_util.specs.declared.Gen.{Gen}
use Rattle.evolution.specs.declared.Indices.{Indices}
use Rattle.evolution.specs.declared.DEStrategy.{DEStrategy}
use Rattle.evolution.specs.declared.DEStrategy.TheVariants.{Rand1, Best1, CurrentToBest1}

-- r is none of those taken
unfoldable pub is_free : List ℕ → ℕ → Bool
is_free [] r = true
is_free (t ∷ ts) r = cond (eqb r t) false (is_free ts r)

-- "the lowest allowed index": at most three are taken, so it is one of the first four
unfoldable pub lowest_free : List ℕ → ℕ
lowest_free ts = cond (is_free ts 0) 0 (cond (is_free ts 1) 1 (cond (is_free ts 2) 2 3))

-- an index below N that is none of those taken, by at most k draws; where all k are rejected, the lowest allowed
unfoldable pub select_from : ℕ → List ℕ → ℕ → Gen → Made ℕ
select_from N ts zero g = made (lowest_free ts) g
select_from N ts (suc k) g =
    cond (is_free ts (usize_of (draw_of g).out N)) (made (usize_of (draw_of g).out N) (draw_of g).after) (select_from N ts k (draw_of g).after)

-- "after 1,024 rejected draws for one index the lowest allowed index is taken"
abbrev pub select_index : ℕ → List ℕ → Gen → Made ℕ
select_index N ts g = select_from N ts 1024 g

-- "three for Rand1, two otherwise"
abbrev pub index_count : DEStrategy → ℕ
index_count Rand1 = 3
index_count Best1 = 2
index_count CurrentToBest1 = 2

-- "rejected if equal to i or already taken": the first index of slot i may not be i, the second neither i nor the first
abbrev pub first_index : ℕ → ℕ → Gen → Made ℕ
first_index N i g = select_index N (i ∷ []) g

abbrev pub second_index : ℕ → ℕ → Made ℕ → Made ℕ
second_index N i a = select_index N (i ∷ a.out ∷ []) a.after

-- the third none of i, the first and the second; where only two are drawn, slot i stands in its place, which nothing uses
abbrev pub third_index : ℕ → ℕ → ℕ → Made ℕ → Made ℕ → Made ℕ
third_index count N i a b = cond (eqb count 3) (select_index N (i ∷ a.out ∷ b.out ∷ []) b.after) (made i b.after)

-- together, with the generator after them
abbrev pub three_of : Made ℕ → Made ℕ → Made ℕ → Made Indices
three_of a b c = made (record { r1 = a.out; r2 = b.out; r3 = c.out }) c.after

-- the indices of slot i, of N slots
unfoldable pub indices_of : ℕ → ℕ → ℕ → Gen → Made Indices
indices_of count N i g =
    let a = first_index N i g in
    let b = second_index N i a in
    three_of a b (third_index count N i a b)
