-- The whole call by its tests: which refusal is given, and that what is returned is the definition's, laid out.
use Rattle.std.specs.Prelude.{Option, Some, None, Result, Ok, Err, ⊤, is_none, is_some, unwrap_or}
use Rattle.std.specs.Result.{result_and}
use Prim.Native.Nat.{ℕ, suc, ◌+◌}
use mathlib.Core.Path.{◌≡◌, refl, sym, ap, subst, ◌∙◌}
use mathlib.Core.Bool.{Bool, true, false, not, ◌&&◌, cond, true≢false}
use mathlib.Core.List.{List, [], ◌∷◌}
use native.Mathlib.Omega.{arith}
use borrow.Author.Tests.{le-leb, lt-leb}
use lib.Dec.{leb, eqb}
use lib.Ieee.{Float}
use lib.ListN.{length, take, length-map}
use Rattle.distribution.specs.Refusals.{refusal_number}
use Rattle.distribution.specs.Validate.{judged, verdict_of, refusal_of, refused_if}
use Rattle.distribution.specs.declared.Distribution.{Distribution}
use Rattle.distribution.specs.declared.Refusal.{Refusal}
use Rattle.distribution.specs.declared.Refusal.TheVariants.{StateNotSound, HistoryNan, Dimensions, ExtraTrials}
use Rattle.distribution.specs.declared.ParamValue.{ParamValue}
use Rattle.evolution.specs.declared.Setup.{Setup}
use Rattle.history.specs.declared.Gathered.{Gathered}
use Rattle.ledger.specs.Words.{or_else, refuse_if, has}
use Rattle.ledger.specs.State as Plain
use Rattle.ledger.specs.State.{refuse}
use Rattle.ledger.specs.Assignment.{place_in}
use Rattle.ledger.specs.Sample.{discovers, outcome}
use Rattle.ledger.proofs.Lists.{none≢some}
use Rattle.ledger.proofs.Trials.{place-in}
use Rattle.kernel.specs.De.{de}
use Rattle.state.specs.Sound.{sound_state}
use Rattle.state.specs.View.{view, laid, size_in}
use Rattle.state.specs.declared.State.{State}
use Rattle.state.proofs.Tidy as Tidy
use Rattle.assignment.specs.Raw.{place_of, Given, given as taken}
use Rattle.assignment.specs.Laid.{laid_given}
use Rattle.assignment.proofs.Refine.{place-laid}
use Rattle.closing.specs.Raw.{closes_now}
use Rattle.common.specs.Bounds.{zero_f}
use Rattle.de.specs.Answer.{numbered, sampled}
use Rattle.de.specs.Refusing.{count_refusal, first_refusal}
use Rattle.de.specs.Sample.{laid_result}
use Rattle.de.specs.Gathered.{refusal_on, accept_on, accepted_on, counted_in, closing_results, refusal, step_on, sampled_on, row_if, row_in, results_in}
use Rattle.de.specs.Whole.{Counted, Acceptable, Handed}

-- ---- numbers of refusals

if-number : (b : Bool) (r : Refusal) → refusal_of (refused_if b r (Ok tt)) ≡ refuse_if b (refusal_number r)
if-number true r = refl
if-number false r = refl

first-number : (v : Result ⊤ Refusal) (b : Bool) (w : Result ⊤ Refusal) → refusal_of (result_and v (refused_if b HistoryNan w)) ≡ or_else (or_else (refusal_of v) (refuse_if b 8)) (refusal_of w)
first-number (Err r) b w = refl
first-number (Ok tt) true w = refl
first-number (Ok tt) false w = refl

no_row : (b : Bool) (xs : List Float) → is_none (row_if b xs) ≡ not b
no_row true xs = refl
no_row false xs = refl

some_row : (b : Bool) (xs : List Float) → is_some (row_if b xs) ≡ b
some_row true xs = refl
some_row false xs = refl

counted_row : (s : State) (b : Bool) (xs : List Float) → counted_in s (row_if b xs) ≡ row_if b (take s.n xs)
counted_row s true xs = refl
counted_row s false xs = refl

-- what is there is the row
row_there : (b : Bool) (xs ys : List Float) → row_if b xs ≡ Some ys → (b ≡ true) × (xs ≡ ys)
row_there true xs ys e = (refl, cc)
row_there false xs ys e = absurd (none≢some e)

-- a trial that is not open has the next place
place_out : (ns : List ℕ) (n : ℕ) → has ns n ≡ false → place_in ns n ≡ length ns
unfolding place_in has
place_out [] n e = refl
place_out (k ∷ ns) n e = go (eqb k n) (place_out ns n) e
  where
    go : (b : Bool) → (has ns n ≡ false → place_in ns n ≡ length ns) → cond b true (has ns n) ≡ false → cond b 0 (suc (place_in ns n)) ≡ suc (length ns)
    go true ih x = absurd (true≢false x)
    go false ih x = ap suc (ih x)

new-place : (ns : List ℕ) (n : ℕ) → leb (length ns) (place_in ns n) ≡ not (has ns n)
new-place ns n = go (has ns n) refl
  where
    go : (b : Bool) → has ns n ≡ b → leb (length ns) (place_in ns n) ≡ not b
    go true h = lt-leb (length ns) (place_in ns n) (place-in ns n h)
    go false h = le-leb (length ns) (place_in ns n) (omega (arith, place_out ns n h))

-- ---- the refusal

module _ (s : State) (g : Gathered) (h : Handed s g) (e : sound_state s ≡ true) (d : Distribution) (n : ℕ) where
  abbrev S : Setup
  S = s.setup

  abbrev m : Plain.State de
  m = view s

  is : s ≡ laid S m
  is = Tidy.is-laid s e h.arrays

  abbrev row : Option (List Float)
  row = row_in s g.values

  abbrev closes : Bool
  closes = closes_now s.discovered s.n s.n_trials g.values

  dims-are : s.n_dims ≡ length m.dims
  unfolding laid
  dims-are = ap (λ (x : State). x.n_dims) is

  trials-are : s.n_trials ≡ length m.trials
  unfolding laid
  trials-are = ap (λ (x : State). x.n_trials) is

  place_is : place_of s n ≡ place_in (Plain.numbers m.trials) n
  place_is = ap (λ (x : State). place_of x n) is ∙ place-laid S m n

  numbers-many : length (Plain.numbers m.trials) ≡ length m.trials
  numbers-many = length-map m.trials (λ (t : Plain.Trial). t.number)

  full_is : leb s.n_trials (place_of s n) ≡ not (has (Plain.numbers m.trials) n)
  full_is = ap (λ (k : ℕ). leb s.n_trials k) place_is ∙ ap (λ (k : ℕ). leb k (place_in (Plain.numbers m.trials) n)) (trials-are ∙ sym numbers-many) ∙ new-place (Plain.numbers m.trials) n

  counts-are : (b : Bool) → s.discovered ≡ b
      → refusal_of (count_refusal b (discovers s.first n) s.n_dims closes (place_of s n) s.n s.n_trials) ≡ refusal_on (size_in b s.n) m n row
  unfolding count_refusal refusal_on view
  counts-are true q =
      if-number (not closes && (leb s.n_trials (place_of s n) && leb (s.n + 64) s.n_trials)) ExtraTrials
      ∙ (λ i. refuse_if (sym (no_row closes (take s.n (results_in g.values))) i && (full_is i && leb (s.n + 64) (trials-are i))) 10)
  counts-are false q =
      if-number (discovers s.first n && leb 16 s.n_dims) Dimensions
      ∙ ap (λ (k : ℕ). refuse_if (discovers s.first n && leb 16 k) 9) dims-are

  module _ (results : Option (List Float)) (er : results ≡ closing_results s g.values) (cl : Bool) (el : cl ≡ is_some results) (place : ℕ) (ep : place ≡ place_of s n) (first : Bool) (ef : first ≡ discovers s.first n) (counts : Result ⊤ Refusal)
      (en : counts ≡ count_refusal s.discovered first s.n_dims cl place s.n s.n_trials) (verdict : Result ⊤ Refusal) (ev : verdict ≡ first_refusal d g.nan counts) where
    ec : cl ≡ closes
    ec = el ∙ ap (λ (o : Option (List Float)). is_some o) er ∙ some_row closes (results_in g.values)

    row_is : counted_in s results ≡ row
    row_is = ap (λ (o : Option (List Float)). counted_in s o) er ∙ counted_row s closes (results_in g.values)

    refusal_is : refusal_of verdict ≡ refusal m n d g.nan row
    unfolding first_refusal refusal view
    refusal_is =
        ap refusal_of ev ∙ first-number (verdict_of d) g.nan counts
        ∙ ap (or_else (or_else (judged d) (refuse_if g.nan 8)))
        (ap refusal_of en ∙ (λ i. refusal_of (count_refusal s.discovered (ef i) s.n_dims (ec i) (ep i) s.n s.n_trials)) ∙ counts-are s.discovered refl)

    sampled-is : (o : Option ℕ) → refusal m n d g.nan row ≡ o → sampled_on s d n g.nan row ≡ laid_result S (outcome de m o (accept_on S m.size m n d row))
    unfolding sampled_on step_on
    sampled-is o q = rw (e, q)

    -- refused
    pub refused : (r : Refusal) → verdict ≡ Err r → numbered (sampled (Err r) s) ≡ sampled_on s d n g.nan row
    refused r q =
        sym (sampled-is (Some (refusal_number r)) (sym refusal_is ∙ ap refusal_of q) ∙ ap (refuse de (refusal_number r)) (sym is))

    -- accepted
    module _ (q : verdict ≡ (Ok tt)) where
      unrefused : refusal m n d g.nan row ≡ None
      unrefused = sym refusal_is ∙ ap refusal_of q

      no_nan : g.nan ≡ false
      unfolding refusal
      no_nan = go g.nan (judged d) (refusal_on m.size m n row) unrefused
        where
          go : (b : Bool) (o p : Option ℕ) → or_else (or_else o (refuse_if b 8)) p ≡ None → b ≡ false
          go true None p x = absurd (none≢some (sym x))
          go true (Some r) p x = absurd (none≢some (sym x))
          go false o p x = refl

      pub acceptable : Acceptable s d n results
      acceptable =
          record {
            arrays = h.arrays;
            sound = e;
            unrefused = (λ i. refusal m n d (sym no_nan i) (row_is i)) ∙ unrefused;
            closing = λ rs y.
                let there = row_there closes (results_in g.values) rs (sym er ∙ y) in
                subst (λ (xs : List Float). Counted s xs) there.1 (counted there.0);
          }
        where
          found : (b : Bool) → closes_now b s.n s.n_trials g.values ≡ true → b ≡ true
          found true x = refl
          found false x = unfold closes_now in absurd (true≢false (sym x))

          counted : closes ≡ true → Counted s (results_in g.values)
          counted y =
              record {
                places = length-map g.values (λ (v : Option Float). unwrap_or v zero_f) ∙ h.places;
                closing = found s.discovered y;
                numbers = h.numbers e no_nan y;
              }

      accepted-on : accepted_on s d n results ≡ accept_on S m.size m n d row
      accepted-on = ap (λ (o : Option (List Float)). accept_on S m.size m n d o) row_is

      pub given : (x : ParamValue × ℕ) (t : State) → taken x t ≡ laid_given S (accepted_on s d n results) → numbered (sampled (Ok x) t) ≡ sampled_on s d n g.nan row
      given x t e =
          ap (λ (z : Given). numbered (sampled (Ok (z.setting, z.draws)) z.state)) (e ∙ ap (laid_given S) accepted-on)
          ∙ sym (sampled-is None unrefused)

-- refusal 0
pub not-sound : (s : State) (d : Distribution) (n : ℕ) (b : Bool) (o : Option (List Float)) → sound_state s ≡ false → numbered (sampled (Err StateNotSound) s) ≡ sampled_on s d n b o
unfolding sampled_on
not-sound s d n b o e = rw e
