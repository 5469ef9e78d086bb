-- THE READER'S ANSWER FOR EVERY FILE, in document 02's words: 12 exactly where the chain's rule is broken, 13 exactly where it is not and no sound state has
-- exactly the records on the chain, and else the one state that has.
use Rattle.std.specs.Prelude.{Option, Some, None, Ok, Err, Result, ⊤}
use Prim.Native.Nat.{ℕ}
use native.Mathlib.Omega.{arith}
use mathlib.Core.Logic.{◌↔◌, ◌⊎◌, inl, inr, ⊎_elim}
use mathlib.Core.Path.{◌≡◌, refl, sym, ap, ◌∙◌}
use mathlib.Core.Bool.{true, cond, Bool, false}
use mathlib.Core.List.{List, Permᴰ}
use Rattle.state.specs.declared.State.{State}
use Rattle.records.specs.declared.Piece.{Piece}
use Rattle.records.specs.Chain.{Broken, records_at, misfits, chain_of, Follows}
use Rattle.records.proofs.Exact.{chain-exactly}
use Rattle.records.proofs.Broken.{broken-or-not, chain-unbroken, kept-exactly}
use Rattle.saved.specs.Saves.{Saves}
use Rattle.saved.specs.Restore.{taken, refuse, content_of, chained, state_read, handed_back, restore_of}
use Rattle.saved.specs.declared.FileRefusal.{FileRefusal}
use Rattle.saved.specs.declared.FileRefusal.TheVariants.{BadFile, BadContent}
use Rattle.saved.specs.declared.Restored.{Restored}
use Rattle.saved.proofs.Content.{apart, content-cases, refused-exactly, taken-exactly, any_order}

other-refusal : {S : Type 0} → ◌≡◌ {A = Result S FileRefusal} (Err BadContent) (Err BadFile) → ⊥
other-refusal e = let z : ◌≡◌ {A = ℕ} 0 1 = cc in omega arith

-- ---- what a file holds

module _ (f : List ℕ) where
  pub kept-content : misfits f ≡ false → (ks : List ℕ) → Follows f 0 ks → state_read f ≡ content_of (records_at f ks)
  unfolding state_read
  kept-content e ks c = ap (λ (b : Bool). cond b (Err BadFile) (chained (chain_of f))) e ∙ ap chained ((chain-exactly f (records_at f ks)).1 (ks, c, refl))

  broken-file : Broken f → state_read f ≡ Err BadFile
  unfolding state_read
  broken-file b = go (misfits f) refl
    where
      inner : misfits f ≡ false → (o : Option (List Piece)) → chain_of f ≡ o → chained o ≡ Err BadFile
      inner e None q = refl
      inner e (Some ps) q = let c = (chain-exactly f ps).0 q in absurd (chain-unbroken f e c.0 c.1 b)

      go : (b : Bool) → misfits f ≡ b → cond b (Err BadFile) (chained (chain_of f)) ≡ Err BadFile
      go true e = refl
      go false e = inner e (chain_of f) refl

  not-bad-file : (rs : List Piece) → content_of rs ≡ Err BadFile → ⊥
  not-bad-file rs e = ⊎_elim (λ d. apart BadFile (sym e ∙ d)) (λ d. other-refusal (sym d ∙ e)) (content-cases rs)

  -- 12 EXACTLY WHERE THE CHAIN'S RULE IS BROKEN
  pub read-12 : (state_read f ≡ Err BadFile) ↔ Broken f
  read-12 = (
    λ e. ⊎_elim (λ b. b) (λ k. absurd (not-bad-file (records_at f k.1) (sym (kept-content k.0 k.1 k.2) ∙ e))) (broken-or-not f),
    broken-file,
  )

  -- A STATE EXACTLY WHERE THE FILE IS OF THAT STATE
  pub read-taken : (s : State) → (state_read f ≡ Ok s) ↔ Saves f s
  read-taken s = (
    λ e. ⊎_elim
        (λ b. absurd (apart BadFile (sym (broken-file b) ∙ e)))
        (λ k. record {
          kept = chain-unbroken f k.0 k.1 k.2;
          indices = k.1;
          chain = k.2;
          of = (taken-exactly (records_at f k.1) s).0 (sym (kept-content k.0 k.1 k.2) ∙ e);
        })
        (broken-or-not f),
    λ v. ⊎_elim
        (λ b. absurd (v.kept b))
        (λ k. kept-content k.0 v.indices v.chain ∙ (taken-exactly (records_at f v.indices) s).1 v.of)
        (broken-or-not f),
  )

  -- 13 EXACTLY WHERE IT IS KEPT AND THE FILE IS OF NO STATE
  pub read-13 : (state_read f ≡ Err BadContent) ↔ ((Broken f → ⊥) × ((s : State) → Saves f s → ⊥))
  read-13 = (
    λ e. (
      λ b. other-refusal (sym e ∙ broken-file b),
      λ s v. apart BadContent (sym e ∙ (read-taken s).1 v),
    ),
    λ h. ⊎_elim
        (λ b. absurd (h.0 b))
        (λ k. kept-content k.0 k.1 k.2
        ∙ (refused-exactly (records_at f k.1)).1 (λ s o. h.1 s (record { kept = h.0; indices = k.1; chain = k.2; of = o })))
        (broken-or-not f),
  )

  three-reads : (state_read f ≡ Err BadFile) ⊎ ((state_read f ≡ Err BadContent) ⊎ ((s : State) × (state_read f ≡ Ok s)))
  three-reads = ⊎_elim
      (λ b. inl (broken-file b))
      (λ k. let c = kept-content k.0 k.1 k.2 in ⊎_elim (λ e. inr (inr (_, c ∙ e))) (λ e. inr (inl (c ∙ e))) (content-cases (records_at f k.1)))
      (broken-or-not f)

-- ---- and what the reader answers

module _ (old : State) where
  handed-taken : (r : Result State FileRefusal) (s : State) → handed_back old r ≡ taken s → r ≡ Ok s
  handed-taken (Ok t) s e = ap (λ (r : Restored). Ok r.state) e
  handed-taken (Err w) s e = absurd (apart w (ap (λ (r : Restored). r.answer) e))

  handed-refused : (r : Result State FileRefusal) (w : FileRefusal) → handed_back old r ≡ refuse w old → r ≡ Err w
  handed-refused (Ok t) w e = absurd (apart w (sym (ap (λ (r : Restored). r.answer) e)))
  handed-refused (Err v) w e = let d : ◌≡◌ {A = Result ⊤ FileRefusal} (Err v) (Err w) = ap (λ (r : Restored). r.answer) e in let q : v ≡ w = cc in ap Err q

module _ (old : State) (f : List ℕ) where
  pub answer-12 : (restore_of old f ≡ refuse BadFile old) ↔ Broken f
  unfolding restore_of
  answer-12 = (λ e. (read-12 f).0 (handed-refused old (state_read f) BadFile e), λ b. ap (handed_back old) ((read-12 f).1 b))

  pub answer-taken : (s : State) → (restore_of old f ≡ taken s) ↔ Saves f s
  unfolding restore_of
  answer-taken s = (λ e. (read-taken f s).0 (handed-taken old (state_read f) s e), λ v. ap (handed_back old) ((read-taken f s).1 v))

  pub answer-13 : (restore_of old f ≡ refuse BadContent old) ↔ ((Broken f → ⊥) × ((s : State) → Saves f s → ⊥))
  unfolding restore_of
  answer-13 = (λ e. (read-13 f).0 (handed-refused old (state_read f) BadContent e), λ h. ap (handed_back old) ((read-13 f).1 h))

  -- and there is no fourth answer
  pub three-answers : (restore_of old f ≡ refuse BadFile old) ⊎ ((restore_of old f ≡ refuse BadContent old) ⊎ ((s : State) × (restore_of old f ≡ taken s)))
  unfolding restore_of
  three-answers = ⊎_elim
      (λ e. inl (ap (handed_back old) e))
      (λ d. ⊎_elim (λ e. inr (inl (ap (handed_back old) e))) (λ v. inr (inr (v.0, ap (handed_back old) v.1))) d)
      (three-reads f)

-- a file is of one state at most
pub one-saved : (f : List ℕ) (s t : State) → Saves f s → Saves f t → s ≡ t
one-saved f s t a b = ap (λ (r : Restored). r.state) (sym ((answer-taken s f s).1 a) ∙ (answer-taken s f t).1 b)

-- "records off the chain are ignored": the answer goes by the records on the chain alone
pub off-the-chain : (old : State) (f g : List ℕ) → (Broken f → ⊥) → (Broken g → ⊥) → chain_of f ≡ chain_of g → restore_of old f ≡ restore_of old g
unfolding restore_of state_read
off-the-chain old f g a b e =
    let p = ((kept-exactly f).0 a).0 in
    let q = ((kept-exactly g).0 b).0 in
    ap (handed_back old)
    (ap (λ (t : Bool). cond t (Err BadFile) (chained (chain_of f))) p ∙ ap chained e ∙ sym (ap (λ (t : Bool). cond t (Err BadFile) (chained (chain_of g))) q))

-- "The reader follows the chain wherever its records stand": two files whose chains carry the same records, wherever these stand and in whatever order, are read the same
pub same-records : (old : State) (f g : List ℕ) → (Broken f → ⊥) → (Broken g → ⊥) → (ks js : List ℕ) → Follows f 0 ks → Follows g 0 js → Permᴰ (records_at f ks) (records_at g js)
    → restore_of old f ≡ restore_of old g
unfolding restore_of
same-records old f g a b ks js c d r =
    ap (handed_back old) (kept-content f ((kept-exactly f).0 a).0 ks c ∙ any_order (records_at f ks) (records_at g js) r ∙ sym (kept-content g ((kept-exactly g).0 b).0 js d))
