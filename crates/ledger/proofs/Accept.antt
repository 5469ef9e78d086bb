-- An accepted call keeps the invariant: closing (or not), then assignment; in discovery a dimension more, or its end. The state between closing and
-- assignment meets the invariant too, so the two are shown apart (Close, Serve).
use Rattle.std.specs.Prelude.{Option, Some, None}
use Rattle.ledger.specs.Kernel.{Gen, Kernel, Laws}
use Rattle.ledger.specs.Call.{Call, any_bad}
use Rattle.ledger.specs.State.{Trial, numbers, State, start_gen}
use Rattle.ledger.specs.Closing.{counted, settle, reopen, close}
use Rattle.ledger.specs.Assignment.{place_in, Accepted}
use Rattle.ledger.specs.Soundness.{Sound}
use Rattle.ledger.specs.Sample.{discovers, sampling, begin, discovery, accept}
use Rattle.ledger.specs.Ledger.{OpenTrial, is_first, Ledger, end_discovery, close_generation, add_call, sampled, discovered, accepted}
use Rattle.ledger.specs.Sampler.{Sampler}
use Rattle.ledger.specs.Claim.{Moment}
use Rattle.ledger.proofs.Lists.{snoc-length, length-map}
use Rattle.ledger.proofs.Trials.{place-le, move-length}
use Rattle.ledger.proofs.Results.{counted_is}
use Rattle.ledger.proofs.Agree.{trial-numbers, same_first, same_row}
use Rattle.ledger.proofs.Steps.{close-sound, closing, Assigned, assign_on, assigned}
use Rattle.ledger.proofs.Sound.{begin-sound, first-named}
use Rattle.ledger.proofs.Invariant.{Inv, Seen}
use Rattle.ledger.proofs.Close.{close-ok}
use Rattle.ledger.proofs.Serve.{Done, begin-ok, discover-ok, serve-ok}
use mathlib.Core.Path.{◌≡◌, refl, sym, ap, subst, ◌∙◌}
use mathlib.Core.Logic.{◌↔◌}
use mathlib.Core.Bool.{Bool, true, false}
use mathlib.Core.List.{List, []}
use Prim.Native.Nat.{ℕ, suc, ◌≤◌, ◌<◌, max}
use native.Mathlib.Omega.{arith}
use lib.ListN.{length, drop}
use lib.Ieee.{Float}

module _ (K : Kernel) (L : Laws K) (X : Sampler K) where
  open K use {Setup, Distribution, Word, accepts, size_of, random, firsts}
  open L use {sized, firsts_length, firsts_fit}

  -- what is shown of it: the invariant, its setting, and that it closes a generation on the state where it does on the ledger
  pub record Full (S : Setup) (ms : List (Moment K X S)) (s : State K) (l : Ledger K) (n : ℕ) (a : Accepted K) (l' : Ledger K) : Type 0 where
    pub done : Done K L X S ms n a l'
    pub closes : (length a.state.trials < length s.trials) ↔ (length l.generations < length l'.generations)

  module _ (S : Setup) (ok : accepts S ≡ true) (ms : List (Moment K X S)) where
    sampling-ok : (s : State K) (l : Ledger K) → Inv K L X S ms s l → Sound K S s → (N : ℕ) → l.size ≡ Some N → (N ≤ length l.open_trials → Seen K L X S ms l)
        → (c : Call K) → any_bad K c.history ≡ false → (g : Gen Word) → Sound K S (sampling K S N s c g).state
        → Full S ms s l c.number (sampling K S N s c g) (sampled K N l c)
    unfolding sampling
    sampling-ok s l v u N sz seen c b g f =
        subst (λ (o : Option (List Float)). Full S ms s l c.number (sampling K S N s c g) (add_call K (close_generation K N l o) c.number)) (same_row K L N s l c v.corr)
        (go (counted K N (numbers s.trials) c.history) refl f)
      where
        ss : s.size ≡ Some N
        ss = v.corr.size ∙ sz

        after : (t : State K) (a : Accepted K) → Assigned K L N t c a → length a.state.trials ≡ max (length t.trials) (suc (place_in (numbers t.trials) c.number))
        after t a d = ap (λ (x : Accepted K). length x.state.trials) d.is ∙ move-length (length t.dims) t.trials c.number

        go : (o : Option (List Float)) → counted K N (numbers s.trials) c.history ≡ o
            → (let m = close K S s g o in let a = assign_on K L S c m.gen m.out in Sound K S a.state → Full S ms s l c.number a (add_call K (close_generation K N l o) c.number))
        go None x = unfold close in still
          where
            still : Sound K S (assign_on K L S c g s).state → Full S ms s l c.number (assign_on K L S c g s) (add_call K l c.number)
            still f =
                let a = assign_on K L S c g s in
                let d = assigned K L S N s u ss c g in
                record { done = serve-ok K L X S ms s l v N sz c a d f; closes = (λ h. absurd (omega (arith, after s a d)), λ h. absurd (omega arith)) }
        go (Some row) x =
            let q = counted_is K L N (numbers s.trials) c.history row b x in
            let many = length (numbers s.trials) in
            let m = close K S s g (Some row) in
            let r = closing K L S ok N s u ss many row q g in
            let t = reopen K s (settle K s.slots s.candidates row) r.cs in
            let w = close-sound K L S N s u ss many row q r.cs r.many r.fit in
            let a = assign_on K L S c m.gen t in
            let d = assigned K L S N t w ss c m.gen in
            let few : length s.trials ≡ many = sym (length-map (λ (k : Trial). k.number) s.trials) in
            let had : Seen K L X S ms l = seen (omega (arith, q.enough, ap length (trial-numbers K L s l v.corr), length-map (λ (o : OpenTrial). o.number) l.open_trials)) in
            let i = close-ok K L X S ms s l N many row v (u.after N ss) had sz q r.cs in
            let four : 4 ≤ N = subst (λ (n : ℕ). 4 ≤ n) (sym (u.after N ss).sized) (sized S s.dims) in
            let l' = add_call K (close_generation K N l (Some row)) c.number in
            subst (λ (y : State K). Sound K S (assign_on K L S c m.gen y).state → Full S ms s l c.number (assign_on K L S c m.gen y) l') (sym r.is)
            (λ f.
            record {
              done = serve-ok K L X S ms t (close_generation K N l (Some row)) i N sz c a d f;
              closes = (λ h. omega (arith, snoc-length l.generations (record { results = row; extras = drop N l.open_trials })), λ h. omega (arith, after t a d, place-le [] c.number, q.enough));
            })

    pub accept-ok : (s : State K) (l : Ledger K) → Inv K L X S ms s l → Sound K S s → Seen K L X S ms l → (c : Call K) → any_bad K c.history ≡ false
        → (z : Option ℕ) → l.size ≡ z → Sound K S (accept K S z s c).state → Full S ms s l c.number (accept K S z s c) (accepted K S z l c)
    unfolding accept accepted discovery discovered
    accept-ok s l v u seen c b (Some N) sz f = sampling-ok s l v u N sz (λ h. seen) c b (start_gen K s) f
    accept-ok s l v u seen c b None sz f =
        subst (λ (t : Bool). Full S ms s l c.number (discovery K S (discovers s.first c.number) s c) (discovered K S t l c)) first
        (go (discovers s.first c.number) refl f)
      where
        ss : s.size ≡ None
        ss = v.corr.size ∙ sz

        first : discovers s.first c.number ≡ is_first l.first c.number
        first = same_first K L s.first l.first c.number v.corr.first

        go : (t : Bool) → discovers s.first c.number ≡ t → Sound K S (discovery K S t s c).state → Full S ms s l c.number (discovery K S t s c) (discovered K S t l c)
        go true h f =
            record { done = discover-ok K L X S ms s l v sz c (random c.distribution (start_gen K s)); closes = (λ h. absurd (omega arith), λ h. absurd (omega arith)) }
        go false h f =
            let N = size_of S s.dims in
            let g = start_gen K s in
            let m = firsts S s.dims N g in
            let i = begin-ok K L X S ms s l v sz N m.out in
            let named = first-named K L s.first c.number h in
            let w = begin-sound K L S s u ss named m.out (firsts_length S s.dims N g) (firsts_fit S s.dims N g u.dims_pass) in
            let r = sampling-ok (begin K s N m.out) (end_discovery K l N) i w N refl (λ h. absurd (omega (arith, sized S s.dims, ap length (v.before sz).0))) c b m.gen f in
            let a = sampling K S N (begin K s N m.out) c m.gen in
            subst (λ (ds : List Distribution). Full S ms s l c.number a (sampled K (size_of S ds) (end_discovery K l (size_of S ds)) c)) v.corr.dims
            (record { done = r.done; closes = r.closes })
