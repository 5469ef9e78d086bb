-- ONE LIST, for whatever keeps a state and is called, with every writer and reader: a campaign with saves and reboots is the campaign of its surviving calls, so what is
-- said of a list of calls, the share and the least result among it, is said of it. The idea: what the gateway holds and which calls count go along, event by event (`Agree`).
use Rattle.std.specs.Prelude.{Option, Some, None, unwrap_or, slice_get}
use Prim.Native.Nat.{ℕ, zero, suc}
use mathlib.Core.Bool.{Bool, true, false, cond}
use mathlib.Core.List.Memᴰ
use mathlib.Core.List.{List, [], ◌∷◌, ◌++◌}
use mathlib.Core.Path.{◌≡◌, refl, sym, ap, ◌∙◌, subst}
use Rattle.ledger.specs.Words.{All, ◌>>=◌}
use Rattle.ledger.specs.Call as Ledger
use Rattle.ledger.specs.Claim.{Claim, Demand3, Point, moment, after, start, moments_from, end_from}
use Rattle.ledger.specs.Kernel.{Kernel}
use Rattle.ledger.specs.Sampler.{Sampler}
use Rattle.ledger.proofs.Lists.{all_nil, all_snoc}
use Rattle.restarts.specs.Restart.{more, Event, call, save, reboot, Counted, counted_after, surviving, led_to, OnGateway, held_after, state_after}

module _ (Kept Call : Type 0) (makes : List Call → List ℕ → Bool) where
  counted-more : (es : List (Event Kept Call)) (k : Counted Kept Call) (c : Call)
      → (counted_after Kept Call makes k (es ++ (call c ∷ []))).calls ≡ (counted_after Kept Call makes k es).calls ++ (c ∷ [])
  unfolding counted_after
  counted-more [] k c = refl
  counted-more (call d ∷ es) k c = counted-more es _ c
  counted-more (save lent ∷ es) k c = counted-more es _ c
  counted-more (reboot n left ∷ es) k c = counted-more es _ c

  -- a call survives as the last, whatever was lost before it
  pub call-survives : (es : List (Event Kept Call)) (c : Call) → surviving Kept Call makes (es ++ (call c ∷ [])) ≡ surviving Kept Call makes es ++ (c ∷ [])
  call-survives es c = counted-more es (record { calls = []; saved = [] }) c

  -- where all saves of states that good calls lead to make files, or none does, each counts, or none
  module _ (Good : Event Kept Call → Type 0) (b : Bool) (alike : (cs : List Call) → All (λ (c : Call). Good (call c)) cs → (lent : List ℕ) → Good (save lent) → makes cs lent ≡ b) where
    abbrev GoodCalls : List Call → Type 0
    GoodCalls = All (λ (c : Call). Good (call c))

    saved-at : (css : List (List Call)) (n : ℕ) → All GoodCalls css → GoodCalls (unwrap_or (slice_get css n) [])
    saved-at [] n h = all_nil (λ (c : Call). Good (call c))
    saved-at (cs ∷ css) zero h = h cs (Memᴰ.head refl)
    saved-at (cs ∷ css) (suc n) h = saved-at css n (λ a m. h a (Memᴰ.tail m))

    more-saved : (t : Bool) (css : List (List Call)) (cs : List Call) → All GoodCalls css → GoodCalls cs → All GoodCalls (cond t (css ++ (cs ∷ [])) css)
    more-saved true css cs h k = all_snoc GoodCalls css cs h k
    more-saved false css cs h k = h

    counted-alike : (es : List (Event Kept Call)) (k : Counted Kept Call) → All Good es → GoodCalls k.calls → All GoodCalls k.saved
        → counted_after Kept Call makes k es ≡ counted_after Kept Call (λ cs lent. b) k es
    unfolding counted_after
    counted-alike [] k g c s = refl
    counted-alike (call d ∷ es) k g c s = counted-alike es _ (λ x m. g x (Memᴰ.tail m)) (all_snoc (λ (c : Call). Good (call c)) k.calls d c (g (call d) (Memᴰ.head refl))) s
    counted-alike (save lent ∷ es) k g c s =
        ap (λ (t : Bool). counted_after Kept Call makes (record { calls = k.calls; saved = cond t (k.saved ++ (k.calls ∷ [])) k.saved }) es) (alike k.calls c lent (g (save lent) (Memᴰ.head refl)))
        ∙ counted-alike es _ (λ x m. g x (Memᴰ.tail m)) c (more-saved b k.saved k.calls s c)
    counted-alike (reboot n left ∷ es) k g c s = counted-alike es _ (λ x m. g x (Memᴰ.tail m)) (saved-at k.saved n s) s

    pub saves-alike : (es : List (Event Kept Call)) → All Good es → surviving Kept Call makes es ≡ surviving Kept Call (λ cs lent. b) es
    saves-alike es g = ap (λ (k : Counted Kept Call). k.calls) (counted-alike es (record { calls = []; saved = [] }) g (all_nil (λ (c : Call). Good (call c))) (all_nil GoodCalls))

module _ (Kept Call : Type 0) where
  pub led-more : (step : Kept → Call → Kept) (s : Kept) (cs : List Call) (c : Call) → led_to Kept Call step s (cs ++ (c ∷ [])) ≡ step (led_to Kept Call step s cs) c
  unfolding led_to
  led-more step s [] c = refl
  led-more step s (d ∷ cs) c = led-more step (step s d) cs c

  module _ (step : Kept → Call → Kept) (anew : Kept → Kept) (write : Kept → List ℕ → Option (List ℕ)) (read : Kept → List ℕ → Option Kept) (s : Kept) (Good : Event Kept Call → Type 0) where
    abbrev led : List Call → Kept
    led cs = led_to Kept Call step s cs

    abbrev GoodCall : Call → Type 0
    GoodCall c = Good (call c)

    -- a file of the state that calls lead to, whatever stands in the state's place when it is read
    abbrev FileOf : List ℕ → List Call → Type 0
    FileOf f cs = All GoodCall cs × ((left : Kept) → read left f ≡ Some (led cs))

    -- the files are those of the saved lists, one by one
    abbrev Match : List (List ℕ) → List (List Call) → Type 0
    Match [] [] = Unit {0}
    Match [] (cs ∷ css) = ⊥
    Match (f ∷ fs) [] = ⊥
    Match (f ∷ fs) (cs ∷ css) = FileOf f cs × Match fs css

    match-more : (fs : List (List ℕ)) (css : List (List Call)) (f : List ℕ) (cs : List Call) → Match fs css → FileOf f cs → Match (fs ++ (f ∷ [])) (css ++ (cs ∷ []))
    match-more [] [] f cs m h = (h, tt)
    match-more [] (x ∷ css) f cs m h = absurd m
    match-more (x ∷ fs) [] f cs m h = absurd m
    match-more (x ∷ fs) (y ∷ css) f cs m h = (m.0, match-more fs css f cs m.1 h)

    -- what a reboot finds at a place
    abbrev Found : Option (List ℕ) → Option (List Call) → Type 0
    Found None None = Unit {0}
    Found None (Some cs) = ⊥
    Found (Some f) None = ⊥
    Found (Some f) (Some cs) = FileOf f cs

    match-at : (fs : List (List ℕ)) (css : List (List Call)) (n : ℕ) → Match fs css → Found (slice_get fs n) (slice_get css n)
    match-at [] [] n m = tt
    match-at [] (x ∷ css) n m = absurd m
    match-at (x ∷ fs) [] n m = absurd m
    match-at (x ∷ fs) (y ∷ css) zero m = m.0
    match-at (x ∷ fs) (y ∷ css) (suc n) m = match-at fs css n m.1

    -- a save that makes a file writes it so that it is read back; one that is refused writes none
    abbrev pub Back : Bool → List Call → List ℕ → Type 0
    Back true cs lent = (file : List ℕ) × (write (led cs) lent ≡ Some file) × ((left : Kept) → read left file ≡ Some (led cs))
    Back false cs lent = write (led cs) lent ≡ None

    -- the set-up made anew is the first one, and so is each state saved that good calls lead to
    module _
        (makes : List Call → List ℕ → Bool)
        (same : (left : Kept) → anew left ≡ s)
        (back : (cs : List Call) → All GoodCall cs → (lent : List ℕ) → Good (save lent) → Back (makes cs lent) cs lent)
      where
        record Agree (k : Counted Kept Call) (h : OnGateway Kept Call) : Type 0 where
          pub calls : All GoodCall k.calls
          pub state : h.state ≡ led k.calls
          pub files : Match h.files k.saved

        new-file : (x : Kept) (cs : List Call) → All GoodCall cs → x ≡ led cs → (lent : List ℕ) → Good (save lent) → (fs : List (List ℕ)) (css : List (List Call)) → Match fs css
            → Match (more fs (write x lent)) (cond (makes cs lent) (css ++ (cs ∷ [])) css)
        new-file x cs g e lent w fs css m = go (makes cs lent) (back cs g lent w)
          where
            go : (b : Bool) → Back b cs lent → Match (more fs (write x lent)) (cond b (css ++ (cs ∷ [])) css)
            go true b =
                subst (λ (o : Option (List ℕ)). Match (more fs o) (css ++ (cs ∷ []))) (sym (ap (λ (y : Kept). write y lent) e ∙ b.1)) (match-more fs css b.0 cs m (g, b.2))
            go false b = subst (λ (o : Option (List ℕ)). Match (more fs o) css) (sym (ap (λ (y : Kept). write y lent) e ∙ b)) m

        rebooted : (left : Kept) (o : Option (List ℕ)) (p : Option (List Call)) → Found o p → (unwrap_or (o >>= read left) (anew left) ≡ led (unwrap_or p [])) × All GoodCall (unwrap_or p [])
        unfolding led_to
        rebooted left None None a = (same left, all_nil GoodCall)
        rebooted left None (Some cs) a = absurd a
        rebooted left (Some f) None a = absurd a
        rebooted left (Some f) (Some cs) a = (ap (λ (r : Option Kept). unwrap_or r (anew left)) (a.1 left), a.0)

        agree : (es : List (Event Kept Call)) (k : Counted Kept Call) (h : OnGateway Kept Call) → All Good es → Agree k h → Agree (counted_after Kept Call makes k es) (held_after Kept Call step anew write read h es)
        unfolding counted_after held_after
        agree [] k h g a = a
        agree (call c ∷ es) k h g a =
            agree es _ _ (λ x m. g x (Memᴰ.tail m)) (record {
              calls = all_snoc GoodCall k.calls c a.calls (g (call c) (Memᴰ.head refl));
              state = ap (λ (x : Kept). step x c) a.state ∙ sym (led-more step s k.calls c);
              files = a.files;
            })
        agree (save lent ∷ es) k h g a =
            agree es _ _ (λ x m. g x (Memᴰ.tail m)) (record {
              calls = a.calls;
              state = a.state;
              files = new-file h.state k.calls a.calls a.state lent (g (save lent) (Memᴰ.head refl)) h.files k.saved a.files;
            })
        agree (reboot n left ∷ es) k h g a =
            let r = rebooted left (slice_get h.files n) (slice_get k.saved n) (match-at h.files k.saved n a.files) in
            agree es _ _ (λ x m. g x (Memᴰ.tail m)) (record { calls = r.1; state = r.0; files = a.files })

        -- THE LAW: the state after any events is the state that the surviving calls lead to
        pub one_list : (es : List (Event Kept Call)) → All Good es → state_after Kept Call step anew write read s es ≡ led (surviving Kept Call makes es)
        unfolding led_to
        one_list es g = (agree es (record { calls = []; saved = [] }) (record { state = s; files = [] }) g (record { calls = all_nil GoodCall; state = refl; files = tt })).state

-- ---- demand 3 of a sampler

module _ (K : Kernel) (X : Sampler K) (S : K.Setup) where
  -- where a list of calls ends, the state is the one that they lead to
  pub end-led : (p : Point K X S) (cs : List (Ledger.Call K)) → (end_from K X S p cs).state ≡ led_to X.Kept (Ledger.Call K) (λ x c. (X.call x c).state) p.state cs
  unfolding end_from led_to
  end-led p [] = refl
  end-led p (c ∷ cs) = end-led (after K X S (moment K X S p c)) cs

  -- so the claim is one about whatever holds that state
  pub one-claim : (cs : List (Ledger.Call K)) (x : X.Kept) → x ≡ (end_from K X S (start K X S) cs).state → Demand3 K X S cs
      → (let end = end_from K X S (start K X S) cs in Claim K X S (moments_from K X S (start K X S) cs) (X.view x) end.defined end.ledger)
  one-claim cs x e d =
      let end = end_from K X S (start K X S) cs in
      subst (λ (y : X.Kept). Claim K X S (moments_from K X S (start K X S) cs) (X.view y) end.defined end.ledger) (sym e) d
