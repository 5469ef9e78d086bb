-- A small kernel that meets the laws, so that demand 3 is not said of nothing: candidates, settings and the generator's word are numbers.
use Rattle.std.specs.Prelude.{Some, None}
use Rattle.ledger.specs.Kernel.{Parent, Kernel, Laws}
use Rattle.ledger.proofs.Lists.{length-map}
use mathlib.Core.Path.{◌≡◌, refl, sym, ap}
use mathlib.Core.Logic.{◌≢◌}
use mathlib.Core.Bool.{Bool, true, false, true≢false}
use mathlib.Core.List.{List, [], ◌∷◌, map}
use Prim.Native.Nat.{ℕ, zero, suc, ◌+◌, ◌*◌, max}
use native.Mathlib.Omega.{arith}
use lib.ListN.{length}
use lib.Ieee.{Float, nan, inf, fin}

pub record Entry : Type 0 where
  pub number : ℕ
  pub value : Float

abbrev pub is_nan : Float → Bool
is_nan nan = true
is_nan (inf s) = false
is_nan (fin s m e) = false

pub not-nan : (x : Float) → is_nan x ≡ false → x ≢ nan
not-nan nan e z = true≢false e
not-nan (inf s) e z = true≢false (sym (ap is_nan z))
not-nan (fin s m e) h z = true≢false (sym (ap is_nan z))

-- n numbers from w
abbrev pub from : ℕ → ℕ → List ℕ
from w zero = []
from w (suc n) = w ∷ from (suc w) n

pub from-length : (w n : ℕ) → length (from w n) ≡ n
from-length w zero = refl
from-length w (suc n) = ap suc (from-length (suc w) n)

-- the parents' candidates, each 100 more
abbrev pub later : List (Parent ℕ) → List ℕ
later = map (λ (p : Parent ℕ). p.candidate + 100)

-- A candidate is the word itself, a later one its slot's parent and 100; the setting of dimension k is ten times the candidate and k; a random setting is
-- the distribution itself, and 0 is refused by 7.
abbrev pub toy : Kernel
toy =
    record {
      Setup = ℕ;
      Distribution = ℕ;
      Setting = ℕ;
      Candidate = ℕ;
      Word = ℕ;
      Entry = Entry;
      accepts = λ S. true;
      seed = λ S. 7;
      judged = λ d. elim d [ zero ↦ Some 7 | suc k ↦ None ];
      size_of = λ S ds. max 4 S;
      random = λ d g. record { out = d; gen = record { word = suc g.word; draws = suc g.draws } };
      firsts = λ S ds n g. record { out = from g.word n; gen = record { word = n + g.word; draws = n + g.draws } };
      extra = λ S ds g. record { out = g.word; gen = record { word = suc g.word; draws = suc g.draws } };
      nexts = λ S ds ps b g. record { out = later ps; gen = g };
      decode = λ ds k y. y * 10 + k;
      number_of = λ e. e.number;
      value_of = λ e. e.value;
      is_bad = λ e. is_nan e.value;
      fits = λ ds y. true;
      Fits = λ ds y. Unit {0};
    }

abbrev pub toy-laws : Laws toy
toy-laws =
    record {
      sized = λ S ds. omega arith;
      firsts_length = λ S ds n g. from-length g.word n;
      nexts_length = λ S ds ps b g. length-map (λ (p : Parent ℕ). p.candidate + 100) ps;
      fits_exact = λ ds y. (λ t. tt, λ t. tt);
      counts = λ e h. not-nan e.value h;
      firsts_fit = λ S ds n g h y t. tt;
      extra_fits = λ S ds g h. tt;
      nexts_fit = λ S ds ps b g ok h k four l y t. tt;
    }
