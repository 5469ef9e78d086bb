-- The ledger's laws hold of document 01's kernel, so demand 3 holds of the definition over it. Idea: an accepted set-up has F from 0 to 2, so its later candidates fit as their parents do (Fit).
use Rattle.std.specs.Prelude.{Option, Some, None, Result, is_ok, ⊤}
use mathlib.Core.Path.{◌≡◌, refl, sym, ◌∙◌}
use mathlib.Core.Bool.{Bool, true, false, true≢false}
use mathlib.Core.List.Memᴰ
use mathlib.Core.List.{List, [], ◌∷◌, map}
use Prim.Native.Nat.{ℕ, ◌≤◌}
use native.Mathlib.Omega.{arith}
use lib.Dec.{T}
use lib.ListN.{length-map}
use Rattle.distribution.specs.Validate.{refused_if}
use Rattle.distribution.specs.declared.DimensionInfo.{DimensionInfo}
use Rattle.distribution.specs.declared.Refusal.{Refusal}
use Rattle.distribution.specs.declared.Refusal.TheVariants.{MutationFactor}
use Rattle.history.proofs.Meaning.{counted-not-nan}
use Rattle.candidates.specs.declared.Candidate.{Candidate}
use Rattle.evolution.specs.declared.Setup.{Setup}
use Rattle.selection.specs.Size.{size_of}
use Rattle.ledger.specs.Words.{All}
use Rattle.ledger.specs.Kernel as L
use Rattle.ledger.specs.Call.{Call}
use Rattle.ledger.specs.Sampler.{definition}
use Rattle.ledger.specs.Claim.{Demand3}
use Rattle.ledger.proofs.Lists.{all_nil}
use Rattle.ledger.proofs.Theorem.{demand3}
use Rattle.kernel.specs.Fits.{fits}
use Rattle.kernel.specs.Setup.{factor_fails, setup_verdict}
use Rattle.kernel.specs.De.{code_gen, member_of, firsts_of, extra_of, nexts_of, de}
use Rattle.kernel.proofs.Fit as F

-- N is 4 at least
four : (size : Option ℕ) (n : ℕ) → 4 ≤ size_of size n
four None n = omega arith
four (Some k) n = omega arith

-- ---- an accepted set-up

-- a row that does not refuse hands on to the next
pub row : (t : Bool) (r : Refusal) (v : Result ⊤ Refusal) → is_ok (refused_if t r v) ≡ true → (t ≡ false) × (is_ok v ≡ true)
row true r v e = absurd (true≢false (sym e))
row false r v e = (refl, e)

-- F from 0 to 2
factor-passes : (S : Setup) → is_ok (setup_verdict S) ≡ true → factor_fails S.mutation_factor ≡ false
unfolding setup_verdict
factor-passes S e = (row (factor_fails S.mutation_factor) MutationFactor _ e).0

-- ---- the laws

-- the parents as the code's members
members-fit : (ds : List DimensionInfo) (ps : List (L.Parent Candidate)) → All (λ p. T (fits ds p.candidate)) ps → All (F.MemberFits ds) (map member_of ps)
members-fit ds [] h = all_nil (F.MemberFits ds)
members-fit ds (p ∷ ps) h = F.all_cons (F.MemberFits ds) (member_of p) (map member_of ps) (h p (Memᴰ.head refl)) (members-fit ds ps (λ a t. h a (Memᴰ.tail t)))

pub de-laws : L.Laws de
unfolding firsts_of extra_of nexts_of
de-laws =
    record {
      sized = λ S ds. four S.population_size _;
      firsts_length = λ S ds n g. F.firsts_length ds _ (code_gen g);
      nexts_length = λ S ds ps b g. F.nexts_length ds S (map member_of ps) _ (code_gen g) ∙ length-map ps member_of;
      fits_exact = λ ds y. (λ t. t, λ t. t);
      counts = counted-not-nan;
      firsts_fit = λ S ds n g h. F.firsts_fit ds h _ (code_gen g);
      extra_fits = λ S ds g h. F.random-fits ds h (code_gen g);
      nexts_fit = λ S ds ps b g ok h k size below.
          F.nexts_fit ds h S (factor-passes S ok) (map member_of ps) _ (code_gen g) (members-fit ds ps k) (omega (arith, length-map ps member_of)) (omega (arith, length-map ps member_of));
    }

-- DEMAND 3 of the definition over this kernel, for every accepted set-up and every list of calls
pub de-demand3 : (S : Setup) → is_ok (setup_verdict S) ≡ true → (cs : List (Call de)) → Demand3 de (definition de S) S cs
de-demand3 S ok cs = demand3 de de-laws S ok cs
