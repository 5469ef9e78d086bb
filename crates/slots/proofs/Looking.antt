-- The look call by its tests: the values copied out are those of the view's slots.
use Rattle.std.proofs.Common.{◌≡◌, ◌∙◌, ◌+◌, ◌<◌, ◌≤◌, refl, sym, ap, Bool, true, false, cond, ℕ, List, [], ◌∷◌, map, length, get_or, set, take, eqb, Float, Ok, Err, Some, None}
use borrow.Author.Tests.{eq-eqb, ne_eqb}
use lib.ListN.{length-map}
use Rattle.rng_util.specs.Many.{pad_to}
use Rattle.candidates.proofs.Lists.{pad-map_more}
use Rattle.common.specs.Bounds.{zero_f}
use Rattle.distribution.specs.declared.Refusal.TheVariants.{StateNotSound}
use Rattle.evolution.specs.declared.Member.{Member}
use Rattle.selection.specs.Best.{values}
use Rattle.ledger.specs.State as Plain
use Rattle.kernel.specs.De.{de}
use Rattle.state.specs.Sound.{sound_state}
use Rattle.state.specs.View.{view, parent_of, members_of}
use Rattle.state.specs.declared.State.{State}
use Rattle.slots.specs.Look.{bare, seen, look_of}

same-values : (ms : List Member) → values ms ≡ Plain.values de (map parent_of ms)
same-values [] = refl
same-values (m ∷ ms) = ap (λ (l : List Float). m.value ∷ l) (same-values ms)

-- one value more
pub value-more : (ms : List Member) (i : ℕ) (z : Member) (vs : List Float) → i < length ms → length ms ≤ 160 → vs ≡ pad_to 160 zero_f (values (take i ms))
    → set vs i (get_or ms i z).value ≡ pad_to 160 zero_f (values (take (i + 1) ms))
value-more ms i z vs h few q = pad-map_more (λ (p : Member). p.value) 160 zero_f ms i z vs _ h few refl q

pub ruleset turns = (value-more)

module _ (s : State) (e : sound_state s ≡ true) where
  looked : (b : Bool) → eqb s.closed 0 ≡ b → look_of s ≡ cond b (bare (Ok None)) (seen (view s).slots)
  unfolding look_of view
  looked b q = rw (e, q)

  pub nothing : s.closed ≡ 0 → bare (Ok None) ≡ look_of s
  nothing q = sym (looked true (eq-eqb s.closed 0 q))

  pub shown : (s.closed ≡ 0 → ⊥) → (ms : List Member) (vs : List Float) → ms ≡ members_of s → vs ≡ pad_to 160 zero_f (values ms)
      → record { look = Ok (Some s.best); n = length ms; values = vs; closed = s.closed; idle = s.idle } ≡ look_of s
  unfolding view
  shown q ms vs e w =
      let v-is : vs ≡ pad_to 160 zero_f (Plain.values de (map parent_of (members_of s))) = w ∙ ap (λ (l : List Member). pad_to 160 zero_f (values l)) e ∙ ap (pad_to 160 zero_f) (same-values (members_of s)) in
      let n-is : length ms ≡ length (map parent_of (members_of s)) = ap length e ∙ sym (length-map (members_of s) parent_of) in
      (λ i. record { look = Ok (Some s.best); n = n-is i; values = v-is i; closed = s.closed; idle = s.idle })
      ∙ sym (looked false (ne_eqb s.closed 0 q))

pub not-sound : (s : State) → sound_state s ≡ false → bare (Err StateNotSound) ≡ look_of s
unfolding look_of
not-sound s e = rw e

pub ruleset looks = (nothing, shown, not-sound)
