-- A closing on a state that is laid out is the ledger's closing, laid out. Field by field: the first N places of each array are the plain state's lists.
use Rattle.std.specs.Prelude.{Some}
use mathlib.Core.Path.{◌≡◌, refl, sym, ap, ap₂, ◌∙◌}
use mathlib.Core.Logic.{◌≢◌}
use mathlib.Core.Bool.{cond}
use mathlib.Core.List.{List, map}
use Prim.Native.Nat.{ℕ, zero, suc, ◌-◌, ◌≤◌}
use native.Mathlib.Omega.{arith}
use borrow.Author.Tests.{ne_eqb}
use lib.Ieee.{Float, nan, lt}
use lib.ListN.{length, take, replicate, length-map}
use lib.Seq.{take_at, take-append-le, length-take-le}
use Rattle.rng_util.specs.Gen.{Made, made}
use Rattle.rng_util.specs.Many.{pad_to}
use Rattle.candidates.specs.Candidate.{blank_candidate}
use Rattle.candidates.specs.Space.{space_of}
use Rattle.candidates.specs.declared.Candidate.{Candidate}
use Rattle.evolution.specs.Trial.{next_candidates}
use Rattle.evolution.specs.declared.Member.{Member}
use Rattle.evolution.specs.declared.Setup.{Setup}
use Rattle.selection.specs.Best.{values, best_slot, least_value}
use Rattle.selection.specs.Records.{blank_member}
use Rattle.selection.specs.Select.{selected, stored}
use Rattle.ledger.specs.Kernel as K
use Rattle.ledger.specs.State as Plain
use Rattle.ledger.specs.Closing as L
use Rattle.ledger.specs.Soundness.{Running}
use Rattle.ledger.specs.Words.{All}
use Rattle.ledger.proofs.Slots.{store-all, select-all}
use Rattle.kernel.specs.De.{de, code_gen, member_of, nexts_of}
use Rattle.kernel.proofs.Link.{link-store, link-select, link-best, link-least}
use Rattle.state.specs.Blank.{blank_dim}
use Rattle.state.specs.View.{laid, size_number}
use Rattle.state.specs.declared.State.{State}
use Rattle.closing.specs.Raw.{parents_after, became_smaller, settled, raw_parents, raw_slots, raw_nexts, reopened, closed_with, raw_close}
use Rattle.closing.specs.declared.Slots.{Slots}
use Rattle.closing.proofs.Extras.{stored-take, selected-take}

-- what the ledger's closing gives, laid out
abbrev pub laid_closed : Setup → K.Made ℕ (Plain.State de) → Made State
laid_closed S c = made (laid S c.out) (code_gen c.gen)

module _ (S : Setup) (m : Plain.State de) (N : ℕ) (sized : m.size ≡ Some N) (run : Running de S N m) (rs : List Float) (many : N ≤ length rs) (numbers : All (λ r. r ≢ nan) (take N rs)) where
  abbrev row : List Float
  row = take N rs

  abbrev cs : List Candidate
  cs = m.candidates

  abbrev olds : List (K.Parent Candidate)
  olds = m.slots.parents

  abbrev news : List (K.Parent Candidate)
  news = L.new_parents de m.slots.closed olds cs row

  abbrev slots : Plain.Slots de
  slots = L.settle de m.slots cs row

  n-is : size_number m.size ≡ N
  n-is = ap size_number sized

  row-few : length row ≤ N
  row-few = omega (arith, length-take-le N rs many)

  -- ---- the first N places

  first-candidates : take N (pad_to 224 blank_candidate cs) ≡ take N cs
  first-candidates = take-append-le N cs (replicate (224 - length cs) blank_candidate) (omega (arith, run.candidates))

  first-parents : 1 ≤ m.slots.closed → take N (pad_to 160 blank_member (map member_of olds)) ≡ map member_of olds
  first-parents h = take_at (map member_of olds) (replicate (160 - length (map member_of olds)) blank_member) N (length-map olds member_of ∙ run.parents h)

  all-dims : take (length m.dims) (pad_to 16 blank_dim m.dims) ≡ m.dims
  all-dims = take_at m.dims (replicate (16 - length m.dims) blank_dim) (length m.dims) refl

  -- ---- what each part of the code makes

  parents-by : (k : ℕ) → m.slots.closed ≡ k
      → parents_after k (take N (pad_to 160 blank_member (map member_of olds))) (take N (pad_to 224 blank_candidate cs)) row ≡ map member_of (L.new_parents de k olds cs row)
  unfolding parents_after
  parents-by zero e = ap (λ (l : List Candidate). stored l row) first-candidates ∙ stored-take N cs row row-few ∙ sym (link-store cs row)
  parents-by (suc k) e =
      rw (ne_eqb (suc k) 0 (λ z. omega arith))
      (ap (λ (l : List Member). selected l (take N (pad_to 224 blank_candidate cs)) row) (first-parents (omega (arith, e)))
      ∙ ap (λ (l : List Candidate). selected (map member_of olds) l row) first-candidates
      ∙ selected-take N (map member_of olds) cs row row-few
      ∙ sym (link-select olds cs row))

  parents-are : raw_parents (laid S m) rs ≡ map member_of news
  unfolding laid
  parents-are =
      ap (λ (n : ℕ). parents_after m.slots.closed (take n (pad_to 160 blank_member (map member_of olds))) (take n (pad_to 224 blank_candidate cs)) (take n rs)) n-is
      ∙ parents-by m.slots.closed refl

  news-numbers : (k : ℕ) → All (λ p. p.value ≢ nan) (L.new_parents de k olds cs row)
  news-numbers zero p h = (store-all de (λ c. Unit {0}) (λ r. r ≢ nan) cs row (λ c q. tt) numbers p h).1
  news-numbers (suc k) p h = (select-all de (λ c. Unit {0}) (λ r. r ≢ nan) olds cs row (λ q j. (tt, run.good q j)) (λ c q. tt) numbers p h).1

  best-is : best_slot (values (map member_of news)) ≡ slots.best
  best-is = link-best news (news-numbers m.slots.closed)

  idle-by : (k : ℕ) → m.slots.closed ≡ k
      → L.new_idle k m.slots.idle (became_smaller (take N (pad_to 160 blank_member (map member_of olds))) (map member_of news))
      ≡ L.new_idle k m.slots.idle (L.became_smaller (Plain.values de olds) (Plain.values de news))
  idle-by zero e = refl
  idle-by (suc k) e =
      ap₂ (λ (v w : Float). cond (lt v w) 0 (L.up m.slots.idle)) (link-least news (news-numbers m.slots.closed))
      (ap (λ (l : List Member). least_value (values l)) (first-parents (omega (arith, e))) ∙ link-least olds run.good)

  idle-is : L.new_idle m.slots.closed m.slots.idle (became_smaller (take (size_number m.size) (pad_to 160 blank_member (map member_of olds))) (raw_parents (laid S m) rs)) ≡ slots.idle
  idle-is =
      ap₂ (λ (n : ℕ) (l : List Member). L.new_idle m.slots.closed m.slots.idle (became_smaller (take n (pad_to 160 blank_member (map member_of olds))) l)) n-is parents-are
      ∙ idle-by m.slots.closed refl

  -- the new candidates of the code, and of the ledger's kernel
  abbrev nexts : K.Gen ℕ → Made (List Candidate)
  nexts g = next_candidates S (map member_of news) slots.best (space_of m.dims) (code_gen g)

  nexts-are : (g : K.Gen ℕ) → raw_nexts (laid S m) (map member_of news) (code_gen g) ≡ nexts g
  unfolding laid
  nexts-are g = λ i. next_candidates S (map member_of news) (best-is i) (space_of (all-dims i)) (code_gen g)

  slots-are : raw_slots (laid S m) rs ≡ record { parents = pad_to 160 blank_member (map member_of news); best = slots.best; closed = slots.closed; idle = slots.idle }
  unfolding laid settled
  slots-are = λ i. record { parents = pad_to 160 blank_member (parents-are i); best = (ap (λ (l : List Member). best_slot (values l)) parents-are ∙ best-is) i; closed = L.up m.slots.closed; idle = idle-is i }

  reopened-is : (ys : List Candidate) → reopened (laid S m) (raw_slots (laid S m) rs) ys ≡ laid S (L.reopen de m slots ys)
  unfolding laid
  reopened-is ys = ap (λ (o : Slots). reopened (laid S m) o ys) slots-are

  -- ---- THE CLOSING

  pub close-is : (g : K.Gen ℕ) → raw_close (laid S m) rs (code_gen g) ≡ laid_closed S (L.close de S m g (Some (take N rs)))
  unfolding raw_close L.close nexts_of laid
  close-is g =
      ap (closed_with (laid S m) (raw_slots (laid S m) rs)) (ap (λ (ps : List Member). raw_nexts (laid S m) ps (code_gen g)) parents-are ∙ nexts-are g)
      ∙ ap (λ (s : State). made s (nexts g).after) (reopened-is (nexts g).out)
