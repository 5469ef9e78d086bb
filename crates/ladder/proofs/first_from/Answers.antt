-- `first_from` meets its contract: x has k + 1 binary digits, so it lies in the octave 2^k to 2^(k + 1).
use Rattle.std.proofs.Common.{◌≡◌, ℕ, suc, ◌-◌, ◌*◌, ◌<◌, ◌≤◌, ◌^◌, ltb, true, false, ltb-true, ltb-false, Bool, refl, sym, subst, arith, rules, pow_mono, le_trans}
use Rattle.std.proofs.lemmas.Nat.{leading_top}
use Rattle.std.proofs.lemmas.List.Sorted.{IsPartitionPoint-from_clause}
use Rattle.std.specs.Int.Count.{count_leading_zeros}
use Rattle.ladder.proofs.Entries.{long}
use Rattle.ladder.proofs.Scaled.{parted, searched}
use Rattle.ladder.proofs.first_from.Goals as goal

few : (j x : ℕ) → 2 ^ j ≤ x → x ≤ 2147483648 → j ≤ 31
few j x l h = go (ltb 31 j) refl
  where
    go : (a : Bool) → ltb 31 j ≡ a → j ≤ 31
    go false e = ltb-false 31 j e
    go true e = let more : 2 ^ 32 ≤ 2 ^ j = pow_mono (ltb-true 31 j e) in omega (arith, le_trans more l)

-- the octave of x
pub octave : (x z : ℕ) → 1 ≤ x → x ≤ 2147483648 → z ≡ count_leading_zeros 64 x → (63 - z ≤ 31) × (2 ^ (63 - z) ≤ x) × (x < 2 ^ suc (63 - z))
octave x z l h e =
    let top = leading_top 64 x l (omega arith) in
    let k : top.0 ≡ 63 - z = omega (arith, top.1, e) in
    subst (λ (n : ℕ). (n ≤ 31) × (2 ^ n ≤ x) × (x < 2 ^ suc n)) k (few top.0 x top.2 h, top.2, top.3)

pub overflow_sub-scaled : goal.overflow_sub-scaled
overflow_sub-scaled c = (octave c.args.x c.from-k.result c.requires.0 c.requires.1 c.from-k.ensures).0

pub returns : goal.returns
returns c =
    let x = c.args.x in
    let z = c.from-k.result in
    let table = c.table.result.now in
    let o = octave x z c.requires.0 c.requires.1 c.from-k.ensures in
    let scaled : ℕ = x * 2 ^ (31 - (63 - z)) in
    let point = IsPartitionPoint-from_clause (λ (e : ℕ). ltb e scaled) table _ c.partition_point.ensures.partitioned (parted table c.table.ensures scaled) (λ a r q k. search rules) in
    sym (searched table c.table.ensures x (63 - z) c.partition_point.result c.requires.1 o.0 o.1 o.2 (omega (arith, long table c.table.ensures, c.partition_point.ensures.bound)) point)
