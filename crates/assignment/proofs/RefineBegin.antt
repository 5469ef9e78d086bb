-- Step 1 on a state that is laid out is the ledger's, laid out: a dimension is put after the others, and the first candidates are the kernel's.
use Rattle.std.specs.Prelude.{None}
use Prim.Native.Nat.{ℕ, ◌+◌, ◌<◌}
use mathlib.Core.Path.{◌≡◌, ap}
use mathlib.Core.List.{List, [], ◌∷◌, ◌++◌}
use native.Mathlib.Omega.{arith}
use lib.ListN.{length, set}
use Rattle.rng_util.specs.Many.{pad_to}
use Rattle.rng_util.proofs.Parts.{pad-put}
use Rattle.distribution.specs.declared.DimensionInfo.{DimensionInfo}
use Rattle.candidates.specs.Random.{random_candidates}
use Rattle.candidates.specs.Space.{space_of}
use Rattle.evolution.specs.declared.Setup.{Setup}
use Rattle.ledger.specs.Kernel as K
use Rattle.ledger.specs.Call.{Call}
use Rattle.ledger.specs.State as Plain
use Rattle.ledger.specs.Sample.{discover}
use Rattle.ledger.proofs.Lists.{snoc-length}
use Rattle.kernel.specs.De.{de, code_gen, population_size_of, firsts_of}
use Rattle.state.specs.Blank.{blank_dim}
use Rattle.state.specs.View.{laid}
use Rattle.assignment.specs.Raw.{raw_discovery, begun_with, raw_begin}
use Rattle.assignment.specs.Laid.{laid_given, laid_begun}
use Rattle.assignment.proofs.Refine.{dims-laid}

-- The theorem for a call of discovery: `sample_discovery` on a state laid out is the ledger's `discover`.
pub discovery-laid : (S : Setup) (m : Plain.State de) (c : Call de) (g : K.Gen ℕ) → m.size ≡ None → length m.dims < 16
    → raw_discovery (laid S m) c.distribution.distribution c.number (code_gen g) ≡ laid_given S (discover de m c (de.random c.distribution g))
unfolding raw_discovery laid
discovery-laid S m c g e h =
    let a : set (pad_to 16 blank_dim m.dims) (length m.dims) c.distribution ≡ pad_to 16 blank_dim (m.dims ++ (c.distribution ∷ [])) = pad-put 16 blank_dim c.distribution m.dims h in
    let b : length m.dims + 1 ≡ length (m.dims ++ (c.distribution ∷ [])) = omega (arith, snoc-length m.dims c.distribution) in
    rw (a, b, e)

-- The theorem for the end of discovery: `finalize_discovery` on a state laid out is the ledger's `begin`, with the kernel's first candidates.
pub begin-laid : (S : Setup) (m : Plain.State de) (g : K.Gen ℕ) → raw_begin (laid S m) (code_gen g) ≡ laid_begun S m (de.size_of S m.dims) (de.firsts S m.dims (de.size_of S m.dims) g)
unfolding raw_begin firsts_of laid
begin-laid S m g =
    ap (λ (ds : List DimensionInfo). begun_with (laid S m) (population_size_of S ds) (random_candidates (space_of ds) (population_size_of S ds) (code_gen g))) (dims-laid S m)
