-- What a scan gathers is what the history has: place by place the last entry of a wanted number, so the counted results are the definition's.
use Rattle.std.specs.Prelude.{Option, Some, None, is_some, unwrap_or}
use Prim.Native.Nat.{ℕ, zero, suc, ◌≤◌, ◌<◌}
use mathlib.Core.Path.{◌≡◌, refl, sym, ap, ◌∙◌}
use mathlib.Core.Logic.{◌≢◌}
use mathlib.Core.Bool.{Bool, true, false, ◌&&◌, ◌||◌, cond}
use mathlib.Core.List.{List, [], ◌∷◌, map}
use native.Mathlib.Nat.{not-suc-le-zero, le_of_suc-le-suc}
use native.Mathlib.Omega.{arith}
use borrow.Author.Tests.{leb-true, le-leb}
use lib.Dec.{leb, eqb}
use lib.Ieee.{Float, nan}
use lib.ListN.{length, get_or, take, length-map, get_or-map}
use lib.Seq.{get_or-take, length-take-le}
use Rattle.std.proofs.lemmas.List.{get_or-replicate}
use Rattle.distribution.specs.declared.Distribution.{Distribution}
use Rattle.history.specs.Entry.{is_bad, counted_value}
use Rattle.history.specs.History.{any_nan, latest, last_value}
use Rattle.history.specs.Scan.{Within, nothing, gathered}
use Rattle.history.specs.declared.CompletedTrial.{CompletedTrial}
use Rattle.history.specs.declared.Gathered.{Gathered}
use Rattle.history.proofs.Meaning.{gathered-nan, gathered-last, values_length}
use Rattle.ledger.specs.Words.{◌>>=◌, All}
use Rattle.std.specs.List.{list_all}
use Rattle.ledger.proofs.Lists.{none≢some}
use Rattle.ledger.proofs.Results.{counted_is}
use Rattle.ledger.specs.Kernel.{Laws}
use Rattle.ledger.specs.Call.{any_bad}
use Rattle.ledger.specs.State.{Trial, numbers}
use Rattle.ledger.specs.Closing.{scan, results_of, counted}
use Rattle.kernel.specs.De.{de}
use Rattle.state.specs.Blank.{blank_trial}
use Rattle.state.specs.View.{view, size_in, trial_of}
use Rattle.state.specs.declared.State.{State}
use Rattle.state.specs.declared.TrialProgress.{TrialProgress}
use Rattle.de.specs.Sample.{sample_of}
use Rattle.common.specs.Bounds.{zero_f}
use Rattle.closing.specs.Raw.{closes_now}
use Rattle.de.specs.Gathered.{sampled_on, row_for, row_if, results_in, row_in}
use Rattle.de.specs.Ask.{wanted_count, number_at, first_numbers, least_of, most_of}
use Rattle.de.proofs.On.{sampled-on}
use Rattle.rng_util.proofs.Parts.{listed-length, listed-read}
use Rattle.de.proofs.Asking.{between}

-- the history's readers are the ledger's
pub same-bad : (h : List CompletedTrial) → any_nan h ≡ any_bad de h
unfolding any_nan any_bad
same-bad [] = refl
same-bad (e ∷ es) = ap (λ (b : Bool). is_bad e || b) (same-bad es)

same-latest : (n : ℕ) (h : List CompletedTrial) (o : Option Float) → latest (λ (e : CompletedTrial). Some (counted_value e)) n h o ≡ scan de h n o
unfolding latest scan
same-latest n [] o = refl
same-latest n (e ∷ es) o = same-latest n es (cond (eqb e.number n) (Some (counted_value e)) o)

pub same-value : (n : ℕ) (h : List CompletedTrial) → last_value n h ≡ scan de h n None
same-value n h = same-latest n h None

or-false : (b : Bool) → (b || false) ≡ b
or-false true = refl
or-false false = refl

-- each of the first N numbers is looked up right
rows : (h : List CompletedTrial) (N : ℕ) (ns : List ℕ) (vs : List (Option Float)) → N ≤ length ns → N ≤ length vs → ((i : ℕ) → i < N → scan de h (get_or ns i 0) None ≡ get_or vs i None)
    → results_of de h (take N ns) ≡ row_if (list_all is_some (take N vs)) (take N (results_in vs))
unfolding results_of
rows h zero ns vs a b g = refl
rows h (suc N) [] vs a b g = absurd (not-suc-le-zero a)
rows h (suc N) (n ∷ ns) [] a b g = absurd (not-suc-le-zero b)
rows h (suc N) (n ∷ ns) (v ∷ vs) a b g =
    rw (g 0 (omega arith), rows h N ns vs (le_of_suc-le-suc a) (le_of_suc-le-suc b) (λ i k. g (suc i) (omega arith))) (go v (list_all is_some (take N vs)))
  where
    go : (v : Option Float) (r : Bool) → (v >>= λ x. row_if r (take N (results_in vs)) >>= λ xs. Some (x ∷ xs)) ≡ row_if (is_some v && r) (unwrap_or v zero_f ∷ take N (results_in vs))
    go (Some x) true = refl
    go (Some x) false = refl
    go None r = refl

-- the i-th open trial's number, as `ask` copies it out and as the view has it
asked-number : (ts : List TrialProgress) (n T i : ℕ) → n ≤ T → T ≤ length ts → i < n → get_or (first_numbers ts n) i 0 ≡ get_or (numbers (map trial_of (take T ts))) i 0
asked-number ts n T i a b h =
    listed-read (number_at ts) n 0 i 0 h ∙ ap (number_at ts) (omega arith)
    ∙ sym (get_or-map (λ (t : Trial). t.number) (map trial_of (take T ts)) i (trial_of blank_trial)
    ∙ ap (λ (t : Trial). t.number) (get_or-map trial_of (take T ts) i blank_trial)
    ∙ ap (λ (t : TrialProgress). t.number) (get_or-take T ts i blank_trial (omega arith)))

module _ (L : Laws de) (s : State) (h : List CompletedTrial) (few : s.n ≤ 160) (open-few : s.n_trials ≤ 224) (long : length s.trials ≡ 224) where
  abbrev k : ℕ
  k = wanted_count s.discovered s.n s.n_trials

  abbrev ns : List ℕ
  ns = first_numbers s.trials k

  abbrev g : Gathered
  g = gathered (least_of ns) (most_of ns) ns h nothing

  found-nan : g.nan ≡ any_bad de h
  found-nan = gathered-nan (least_of ns) (most_of ns) ns h nothing ∙ or-false (any_nan h) ∙ same-bad h

  numbers-long : length (numbers (view s).trials) ≡ s.n_trials
  unfolding view
  numbers-long = length-map (map trial_of (take s.n_trials s.trials)) (λ (t : Trial). t.number) ∙ length-map (take s.n_trials s.trials) trial_of ∙ length-take-le s.n_trials s.trials (omega arith)

  -- where all results are wanted, each place has the last entry of its trial
  looked-up : k ≡ s.n → s.n ≤ s.n_trials → (i : ℕ) → i < s.n → scan de h (get_or (numbers (view s).trials) i 0) None ≡ get_or g.values i None
  unfolding view
  looked-up e r i l =
      let many : length ns ≡ k = listed-length (number_at s.trials) k 0 in
      let in-range : Within (least_of ns) (most_of ns) ns = λ j q. between ns j (omega arith) in
      sym (gathered-last (least_of ns) (most_of ns) ns h nothing in-range i (omega arith) (omega arith) (get_or-replicate 160 i None None (omega arith))
      ∙ same-value (get_or ns i 0) h
      ∙ ap (λ (x : ℕ). scan de h x None) (ap (λ (x : ℕ). get_or (first_numbers s.trials x) i 0) e ∙ asked-number s.trials s.n s.n_trials i r (omega arith) l))

  row_by : (d : Bool) → s.discovered ≡ d → row_if (closes_now d s.n s.n_trials g.values) (take s.n (results_in g.values)) ≡ row_for (size_in d s.n) (view s) h
  unfolding closes_now counted view
  row_by false q = refl
  row_by true q = go (leb s.n s.n_trials) refl ∙ sym (ap (λ (x : ℕ). cond (leb s.n x) (results_of de h (take s.n (numbers (view s).trials))) None) numbers-long)
    where
      go : (b : Bool) → leb s.n s.n_trials ≡ b → row_if (b && list_all is_some (take s.n g.values)) (take s.n (results_in g.values)) ≡ cond b (results_of de h (take s.n (numbers (view s).trials))) None
      go true e =
          sym (rows h s.n (numbers (view s).trials) g.values (omega (arith, leb-true s.n s.n_trials e, numbers-long))
          (omega (arith, values_length (least_of ns) (most_of ns) ns h nothing))
          (looked-up (rw (q, e, le-leb s.n 160 few)) (leb-true s.n s.n_trials e)))
      go false e = refl

  -- THE CALL ON THE HISTORY
  pub gathered-call : (d : Distribution) (n : ℕ) → sampled_on s d n g.nan (row_in s g.values) ≡ sample_of s d n h
  unfolding view
  gathered-call d n = (λ i. sampled_on s d n (found-nan i) (row_by s.discovered refl i)) ∙ sym (sampled-on L s d n h)

  -- and where it closes, the counted results are numbers
  pub gathered-numbers : g.nan ≡ false → closes_now s.discovered s.n s.n_trials g.values ≡ true → All (λ v. v ≢ nan) (take s.n (results_in g.values))
  unfolding view
  gathered-numbers e y = go (view s).size (sym (ap (λ (b : Bool). row_if b (take s.n (results_in g.values))) y) ∙ row_by s.discovered refl)
    where
      go : (z : Option ℕ) → Some (take s.n (results_in g.values)) ≡ row_for z (view s) h → All (λ v. v ≢ nan) (take s.n (results_in g.values))
      go None x = absurd (none≢some (sym x))
      go (Some N) x = (counted_is de L N (numbers (view s).trials) h (take s.n (results_in g.values)) (sym found-nan ∙ e) (sym x)).good
