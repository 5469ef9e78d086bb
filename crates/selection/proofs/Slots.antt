-- The slots of a closing, one by one: what goes into slot i, and what all slots hold.
use Rattle.std.proofs.Common.{◌≡◌, ℕ, ◌+◌, ◌<◌, ◌≤◌, List, [], ◌∷◌, length, map, get_or, set, take, refl, sym, ap, ◌∙◌, arith}
use Rattle.std.specs.List.{zip, enumerate_from}
use Rattle.std.proofs.lemmas.List.{take_more, take_all, get_or_default}
use Rattle.std.proofs.lemmas.List.FromFn.{length-enumerate_from, get_or-enumerate_from}
use lib.Ieee.{Float}
use lib.ListN.{length-map, get_or-map}
use lib.Seq.{length-take-le}
use Rattle.rng_util.proofs.Parts.{pad-put}
use Rattle.candidates.specs.declared.Candidate.{Candidate}
use Rattle.evolution.specs.Mutant.{no_member}
use Rattle.evolution.specs.declared.Member.{Member}
use Rattle.selection.specs.Records.{blank_member, members_rec}
use Rattle.selection.specs.Select.{survivor_of, selected, stored}

-- slot i is filled
slots-more : (ms : List Member) (i : ℕ) (m : Member) (population : List Member) → i < length ms → i < 160 → m ≡ get_or ms i no_member → population ≡ members_rec (take i ms) → set population i m ≡ members_rec (take (i + 1) ms)
slots-more ms i m population h k e p =
    let at : i ≡ length (take i ms) = sym (length-take-le i ms (omega arith)) in
    (λ t. set (p t) (at t) (e t))
    ∙ pad-put 160 blank_member (get_or ms i no_member) (take i ms) (omega (arith, at))
    ∙ ap members_rec (sym (take_more ms i no_member h))

-- a turn of the loop over what the slots are made of: the place that comes with it is the next slot's
pub slots-turn : {X : Type 0} (made : X → Member) (ys : List X) (k : ℕ) (x : ℕ × X) (population : List Member) → length ys ≤ 160
    → (k < length (enumerate_from 0 ys)) × (x ≡ get_or (enumerate_from 0 ys) k x) → population ≡ members_rec (take k (map made ys))
    → (x.0 < 160) × (set population x.0 (made x.1) ≡ members_rec (take (k + 1) (map made ys)))
slots-turn {X} made ys k x population few turn p = (omega (arith, i, below), rw i (slots-more (map made ys) k (made x.1) population (rw length-map below) (omega (arith, below)) read p))
  where
    below : k < length ys
    below = rw length-enumerate_from at turn.0

    own : x ≡ (0 + k, get_or ys k x.1)
    own = turn.1 ∙ get_or-enumerate_from 0 ys k x below

    i : x.0 ≡ k
    i = let z : 0 + k ≡ k = omega arith in ap (λ (y : ℕ × X). y.0) own ∙ z

    read : made x.1 ≡ get_or (map made ys) k no_member
    read = ap (λ (y : ℕ × X). made y.1) own ∙ sym (get_or-map made ys k x.1) ∙ get_or_default (map made ys) k (made x.1) no_member (rw length-map below)

-- all turns are done
pub slots-end : {X : Type 0} (made : X → Member) (ys : List X) (k : ℕ) (population : List Member) → k ≡ length (enumerate_from 0 ys) → population ≡ members_rec (take k (map made ys)) → population ≡ members_rec (map made ys)
slots-end made ys k population e p = p ∙ ap members_rec (take_all k (map made ys) (rw (length-map, e, length-enumerate_from) (omega arith)))

-- ---- what a slot is made of

abbrev pub stored_one : Candidate × Float → Member
stored_one p = record { candidate = p.0; value = p.1 }

pub stored-zip : (cs : List Candidate) (rs : List Float) → map stored_one (zip cs rs) ≡ stored cs rs
unfolding stored
stored-zip [] rs = refl
stored-zip (c ∷ cs) [] = refl
stored-zip (c ∷ cs) (r ∷ rs) = ap (λ (ms : List Member). record { candidate = c; value = r } ∷ ms) (stored-zip cs rs)

abbrev pub selected_one : (Member × Candidate) × Float → Member
selected_one p = survivor_of p.0.0 p.0.1 p.1

pub selected-zip : (ps : List Member) (cs : List Candidate) (rs : List Float) → map selected_one (zip (zip ps cs) rs) ≡ selected ps cs rs
unfolding selected
selected-zip [] cs rs = refl
selected-zip (p ∷ ps) [] rs = refl
selected-zip (p ∷ ps) (c ∷ cs) [] = refl
selected-zip (p ∷ ps) (c ∷ cs) (r ∷ rs) = ap (λ (ms : List Member). survivor_of p c r ∷ ms) (selected-zip ps cs rs)
