-- What a line says, by what its words say.
use Rattle.std.proofs.Common.{◌≡◌, ℕ, ◌<◌, ◌≤◌, List, [], ◌∷◌, length, get_or, take, map, refl, arith, Some, None, Bor}
use Prim.Native.Char.{code}
use Rattle.std.specs.List.{range_with_len}
use Rattle.std.proofs.lemmas.Bool.{eq-eqb, ne_eqb}
use Rattle.std.proofs.lemmas.List.{take-map}
use Rattle.script.specs.Words.{words_of, word_at}
use Rattle.script.specs.Commands.{line_of, command_of}
use Rattle.script.specs.declared.command.Command.TheVariants.{Skip}

-- an empty line, and a comment
pub empty-line : (line : List ℕ) → length line < 1 → Some Skip ≡ command_of line
unfolding command_of
empty-line [] e = refl
empty-line (b ∷ bs) e = absurd (omega arith)

pub comment : (line : List ℕ) → 1 ≤ length line → get_or line 0 0 ≡ code "#" → Some Skip ≡ command_of line
unfolding command_of
comment [] h e = absurd (omega arith)
comment (b ∷ bs) h e = rw (eq-eqb b (code "#") e)

-- any other line
pub said : (line : List ℕ) → 1 ≤ length line → (get_or line 0 0 ≡ code "#" → ⊥) → line_of (words_of line) ≡ command_of line
unfolding command_of
said [] h g = absurd (omega arith)
said (b ∷ bs) h g = rw (ne_eqb b (code "#") g)

all : (ws : List (List ℕ)) → length ws ≤ 7 → take (length ws) (map (λ k. get_or ws k []) (range_with_len 0 7)) ≡ ws
all [] h = refl
all (a ∷ []) h = refl
all (a ∷ b ∷ []) h = refl
all (a ∷ b ∷ c ∷ []) h = refl
all (a ∷ b ∷ c ∷ d ∷ []) h = refl
all (a ∷ b ∷ c ∷ d ∷ e ∷ []) h = refl
all (a ∷ b ∷ c ∷ d ∷ e ∷ f ∷ []) h = refl
all (a ∷ b ∷ c ∷ d ∷ e ∷ f ∷ g ∷ []) h = refl
all (a ∷ b ∷ c ∷ d ∷ e ∷ f ∷ g ∷ i ∷ ws) h = absurd (omega arith)

-- the first seven words, up to the last, are the words
pub all-words : (line : List ℕ) (xs : List (Bor (List ℕ))) (n : ℕ) → map (λ w. w.now) xs ≡ map (word_at line) (range_with_len 0 7) → n ≡ length (words_of line) → n ≤ 7
    → map (λ w. w.now) (take n xs) ≡ words_of line
unfolding word_at
all-words line xs n e size h = rw (← take-map, e, size) (all (words_of line) (omega arith))

-- no rule has more
pub too_many : (ws : List (List ℕ)) → 7 < length ws → line_of ws ≡ None
unfolding line_of
too_many [] h = refl
too_many (a ∷ []) h = absurd (omega arith)
too_many (a ∷ b ∷ []) h = absurd (omega arith)
too_many (a ∷ b ∷ c ∷ []) h = absurd (omega arith)
too_many (a ∷ b ∷ c ∷ d ∷ []) h = absurd (omega arith)
too_many (a ∷ b ∷ c ∷ d ∷ e ∷ []) h = refl
too_many (a ∷ b ∷ c ∷ d ∷ e ∷ f ∷ []) h = absurd (omega arith)
too_many (a ∷ b ∷ c ∷ d ∷ e ∷ f ∷ g ∷ []) h = absurd (omega arith)
too_many (a ∷ b ∷ c ∷ d ∷ e ∷ f ∷ g ∷ i ∷ ws) h = refl
