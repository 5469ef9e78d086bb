-- Reading on: a word is read as what it must be, and the line goes on with that. A word that is no such thing makes the line malformed.
use Rattle.std.specs.Prelude.{Option, option_and_then}

infixl 10 ◌>>=◌
abbrev pub ◌>>=◌ : {A B : Type 0} → Option A → (A → Option B) → Option B
word >>= go = option_and_then go word
