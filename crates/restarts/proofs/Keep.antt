-- What a call keeps, for every kernel: where the generator's words, the candidates, the distributions, the values and the trial numbers that come in are of some kind, and the kernel makes only such, those of the state
-- stay of that kind. It is said of the machine's numbers (Made).
use Rattle.std.specs.Prelude.{Option, Some, None}
use Prim.Native.Nat.{ℕ, zero, suc, ◌≤◌, min}
use mathlib.Core.Path.{◌≡◌, refl, sym, subst}
use mathlib.Core.Bool.{Bool, true, false, cond}
use mathlib.Core.List.Memᴰ
use mathlib.Core.List.{List, [], ◌∷◌, ◌++◌}
use lib.Dec.{leb, ltb, eqb}
use lib.Ieee.{Float, le}
use lib.ListN.{length, take}
use Rattle.ledger.specs.Words.{All, or_else}
use Rattle.ledger.specs.Kernel.{Gen, Parent, Kernel}
use Rattle.ledger.specs.Call.{Call, call_refusal}
use Rattle.ledger.specs.State.{Trial, numbers, State, fresh, start_gen}
use Rattle.ledger.specs.Closing.{scan, results_of, counted, store, select, new_parents, settle, close}
use Rattle.ledger.specs.Assignment.{next_in, move, setting_of, serve, assign}
use Rattle.ledger.specs.Sample.{discovers, sampling, begin, discovery, state_refusal, accept, outcome, step}
use Rattle.ledger.proofs.Lists.{none≢some, some_inj, bind-some, all_nil, all_snoc}

all_cons : {A : Type 0} (P : A → Type 0) (x : A) (xs : List A) → P x → All P xs → All P (x ∷ xs)
all_cons P x xs p h a (Memᴰ.head e) = subst P (sym e) p
all_cons P x xs p h a (Memᴰ.tail t) = h a t

all_tail : {A : Type 0} {P : A → Type 0} {x : A} {xs : List A} → All P (x ∷ xs) → All P xs
all_tail h a m = h a (Memᴰ.tail m)

module _ (K : Kernel) (W : K.Word → Type 0) (P : K.Candidate → Type 0) (Q : K.Distribution → Type 0) (F : Float → Type 0) (N : ℕ → Type 0) where
  open K use {Setup, Distribution, Setting, Candidate, Word, Entry, seed, size_of, random, firsts, extra, nexts, value_of}

  -- of a parent, a trial, a call
  abbrev pub FineParent : Parent Candidate → Type 0
  FineParent p = P p.candidate × F p.value

  pub record FineCall (c : Call K) : Type 0 where
    pub number : N c.number
    pub distribution : Q c.distribution
    pub history : All (λ e. F (value_of e)) c.history

  pub record Fine (s : State K) : Type 0 where
    pub word : W s.word
    pub first : (n : ℕ) → s.first ≡ Some n → N n
    pub dims : All Q s.dims
    pub candidates : All P s.candidates
    pub trials : All (λ (t : Trial). N t.number) s.trials
    pub parents : All FineParent s.slots.parents

  -- the kernel makes only such
  pub record Makes (S : Setup) : Type 0 where
    pub of_seed : W (seed S)
    pub of_random : (d : Distribution) (g : Gen Word) → W g.word → W (random d g).gen.word
    pub of_firsts : (ds : List Distribution) (n : ℕ) (g : Gen Word) → length ds ≤ 16 → All Q ds → W g.word → let m = firsts S ds n g in All P m.out × W m.gen.word
    pub of_extra : (ds : List Distribution) (g : Gen Word) → length ds ≤ 16 → All Q ds → W g.word → let m = extra S ds g in P m.out × W m.gen.word
    pub of_nexts : (ds : List Distribution) (ps : List (Parent Candidate)) (b : ℕ) (g : Gen Word) → length ds ≤ 16 → All Q ds → All FineParent ps → W g.word
        → let m = nexts S ds ps b g in All P m.out × W m.gen.word

  -- ---- the counted results

  scan-fine : (es : List Entry) (n : ℕ) (o : Option Float) → All (λ e. F (value_of e)) es → ((v : Float) → o ≡ Some v → F v) → (v : Float) → scan K es n o ≡ Some v → F v
  unfolding scan
  scan-fine [] n o h k v e = k v e
  scan-fine (x ∷ es) n o h k v e = scan-fine es n (cond (eqb (K.number_of x) n) (Some (value_of x)) o) (all_tail h) (go (eqb (K.number_of x) n)) v e
    where
      go : (b : Bool) (w : Float) → cond b (Some (value_of x)) o ≡ Some w → F w
      go true w d = subst F (some_inj d) (h x (Memᴰ.head refl))
      go false w d = k w d

  results_fine : (h : List Entry) (ns : List ℕ) → All (λ e. F (value_of e)) h → (vs : List Float) → results_of K h ns ≡ Some vs → All F vs
  unfolding results_of
  results_fine h [] k vs e = subst (All F) (some_inj e) (all_nil F)
  results_fine h (n ∷ ns) k vs e =
      let p = bind-some (scan K h n None) _ vs e in
      let q = bind-some (results_of K h ns) _ vs p.2 in
      subst (All F) (some_inj q.2) (all_cons F p.0 q.0 (scan-fine h n None k (λ v d. absurd (none≢some d)) p.0 p.1) (results_fine h ns k q.0 q.1))

  counted-fine : (n : ℕ) (ns : List ℕ) (h : List Entry) → All (λ e. F (value_of e)) h → (vs : List Float) → counted K n ns h ≡ Some vs → All F vs
  unfolding counted
  counted-fine n ns h k vs e = go (leb n (length ns)) e
    where
      go : (b : Bool) → cond b (results_of K h (take n ns)) None ≡ Some vs → All F vs
      go true d = results_fine h (take n ns) k vs d
      go false d = absurd (none≢some d)

  -- ---- the slots

  store-fine : (cs : List Candidate) (rs : List Float) → All P cs → All F rs → All FineParent (store K cs rs)
  unfolding store
  store-fine [] rs h k = all_nil FineParent
  store-fine (c ∷ cs) [] h k = all_nil FineParent
  store-fine (c ∷ cs) (r ∷ rs) h k = all_cons FineParent _ _ (h c (Memᴰ.head refl), k r (Memᴰ.head refl)) (store-fine cs rs (all_tail h) (all_tail k))

  select-fine : (ps : List (Parent Candidate)) (cs : List Candidate) (rs : List Float) → All FineParent ps → All P cs → All F rs → All FineParent (select K ps cs rs)
  unfolding select
  select-fine [] cs rs g h k = all_nil FineParent
  select-fine (p ∷ ps) [] rs g h k = all_nil FineParent
  select-fine (p ∷ ps) (c ∷ cs) [] g h k = all_nil FineParent
  select-fine (p ∷ ps) (c ∷ cs) (r ∷ rs) g h k = all_cons FineParent _ _ (go (le r p.value)) (select-fine ps cs rs (all_tail g) (all_tail h) (all_tail k))
    where
      go : (b : Bool) → FineParent (cond b (record { candidate = c; value = r }) p)
      go true = (h c (Memᴰ.head refl), k r (Memᴰ.head refl))
      go false = g p (Memᴰ.head refl)

  parents-fine : (k : ℕ) (ps : List (Parent Candidate)) (cs : List Candidate) (rs : List Float) → All FineParent ps → All P cs → All F rs → All FineParent (new_parents K k ps cs rs)
  parents-fine zero ps cs rs g h k = store-fine cs rs h k
  parents-fine (suc n) ps cs rs g h k = select-fine ps cs rs g h k

  move-fine : (D : ℕ) (ts : List Trial) (n : ℕ) → N n → All (λ (t : Trial). N t.number) ts → All (λ (t : Trial). N t.number) (move D ts n)
  unfolding move
  move-fine D [] n p h = all_cons (λ (t : Trial). N t.number) _ [] p (all_nil (λ (t : Trial). N t.number))
  move-fine D (t ∷ ts) n p h = go (eqb t.number n) (move-fine D ts n p (all_tail h))
    where
      go : (b : Bool) → All (λ (t : Trial). N t.number) (move D ts n) → All (λ (t : Trial). N t.number) (cond b (record { number = t.number; next = min (suc t.next) D } ∷ ts) (t ∷ move D ts n))
      go true r = all_cons (λ (t : Trial). N t.number) _ ts (h t (Memᴰ.head refl)) (all_tail h)
      go false r = all_cons (λ (t : Trial). N t.number) t _ (h t (Memᴰ.head refl)) r

  -- ---- a call

  module _ (S : Setup) (M : Makes S) where
    close-fine : (s : State K) (g : Gen Word) (o : Option (List Float)) → length s.dims ≤ 16 → Fine s → W g.word → ((row : List Float) → o ≡ Some row → All F row)
        → let m = close K S s g o in Fine m.out × W m.gen.word × (length m.out.dims ≤ 16)
    unfolding close
    close-fine s g None few f w h = (f, w, few)
    close-fine s g (Some row) few f w h =
        let o = settle K s.slots s.candidates row in
        let ps : All FineParent o.parents = parents-fine s.slots.closed s.slots.parents s.candidates row f.parents f.candidates (h row refl) in
        let k = M.of_nexts s.dims o.parents o.best g few f.dims ps w in
        (record { word = f.word; first = f.first; dims = f.dims; candidates = k.0; trials = all_nil (λ (t : Trial). N t.number); parents = ps }, k.1, few)

    serve-fine : (s : State K) (c : Call K) (cs : List Candidate) (y : Candidate) (g : Gen Word) → Fine s → FineCall c → All P cs → W g.word → Fine (serve K s c cs y g).state
    serve-fine s c cs y g f d h w =
        record {
          word = go (ltb (next_in s.trials c.number) (length s.dims));
          first = f.first;
          dims = f.dims;
          candidates = h;
          trials = move-fine (length s.dims) s.trials c.number d.number f.trials;
          parents = f.parents;
        }
      where
        go : (b : Bool) → W (setting_of K b s c (next_in s.trials c.number) y g).gen.word
        go true = w
        go false = M.of_random c.distribution g w

    assign-fine : (s : State K) (c : Call K) (g : Gen Word) (o : Option Candidate) → length s.dims ≤ 16 → Fine s → FineCall c → W g.word → Fine (assign K S s c g o).state
    unfolding assign
    assign-fine s c g (Some y) few f d w = serve-fine s c s.candidates y g f d f.candidates w
    assign-fine s c g None few f d w =
        let m = extra S s.dims g in
        let k = M.of_extra s.dims g few f.dims w in
        serve-fine s c (s.candidates ++ (m.out ∷ [])) m.out m.gen f d (all_snoc P s.candidates m.out f.candidates k.0) k.1

    sampling-fine : (n : ℕ) (s : State K) (c : Call K) (g : Gen Word) → length s.dims ≤ 16 → Fine s → FineCall c → W g.word → Fine (sampling K S n s c g).state
    unfolding sampling
    sampling-fine n s c g few f d w =
        let o = counted K n (numbers s.trials) c.history in
        let m = close K S s g o in
        let k = close-fine s g o few f w (λ row q. counted-fine n (numbers s.trials) c.history d.history row q) in
        assign-fine m.out c m.gen _ k.2 k.0 d k.1

    accept-fine : (s : State K) (c : Call K) (z : Option ℕ) → length s.dims ≤ 16 → Fine s → FineCall c → Fine (accept K S z s c).state
    unfolding accept discovery
    accept-fine s c (Some n) few f d = sampling-fine n s c (start_gen K s) few f d f.word
    accept-fine s c None few f d = go (discovers s.first c.number)
      where
        go : (b : Bool) → Fine (discovery K S b s c).state
        go true =
            record {
              word = M.of_random c.distribution (start_gen K s) f.word;
              first = λ n t. subst N (some_inj t) d.number;
              dims = all_snoc Q s.dims c.distribution f.dims d.distribution;
              candidates = f.candidates;
              trials = f.trials;
              parents = f.parents;
            }
        go false =
            let n = size_of S s.dims in
            let m = firsts S s.dims n (start_gen K s) in
            let k = M.of_firsts s.dims n (start_gen K s) few f.dims f.word in
            sampling-fine n (begin K s n m.out) c m.gen few (record { word = f.word; first = f.first; dims = f.dims; candidates = k.0; trials = f.trials; parents = f.parents }) d k.1

    pub step-fine : (s : State K) (c : Call K) → length s.dims ≤ 16 → Fine s → FineCall c → Fine (step K S s c).state
    unfolding step
    step-fine s c few f d = go (or_else (call_refusal K c) (state_refusal K s.size s c))
      where
        go : (r : Option ℕ) → Fine (outcome K s r (accept K S s.size s c)).state
        go (Some r) = f
        go None = accept-fine s c s.size few f d

    pub fresh-fine : Fine (fresh K S)
    unfolding fresh
    fresh-fine =
        record {
          word = M.of_seed;
          first = λ n e. absurd (none≢some e);
          dims = all_nil Q;
          candidates = all_nil P;
          trials = all_nil (λ (t : Trial). N t.number);
          parents = all_nil FineParent;
        }
