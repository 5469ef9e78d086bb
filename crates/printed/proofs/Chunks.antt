-- Rows of 32 bytes: where a loop over them stands.
use Rattle.std.proofs.Common.{◌≡◌, ℕ, ◌+◌, ◌*◌, ◌<◌, min, List, [], ◌∷◌, ◌++◌, length, take, drop, map, refl, sym, ap, ◌∙◌, arith, length-append, drop-drop}
use Rattle.std.specs.List.{range_with_len}
use Rattle.std.specs.Fork.{slice_chunk}
use Rattle.std.specs.Slice.Iter.{chunk_count}
use Rattle.std.proofs.Math.ListN.{drop_of_length-le}
use Rattle.std.proofs.lemmas.List.{take_at, drop_at, take_min}
use Rattle.std.proofs.lemmas.List.FromFn.{map-range_with_len_more}

-- rows have come, and rest is left
pub record Cut (bytes : List ℕ) (rows : List (List ℕ)) (rest : List ℕ) : Type 0 where
  pub come : rows ≡ map (slice_chunk bytes 32) (range_with_len 0 (length rows))
  pub left : rest ≡ drop (length rows * 32) bytes
  pub count : length rows + chunk_count (length rest) 32 ≡ chunk_count (length bytes) 32

past : (n : ℕ) (row more : List ℕ) → length row ≡ min n (length (row ++ more)) → more ≡ drop n (row ++ more)
past n row [] h = sym (drop_of_length-le (row ++ []) (omega (arith, length-append row [])))
past n row (b ∷ more) h = sym (drop_at row (b ∷ more) n (omega (arith, length-append row (b ∷ more))))

module _ (bytes : List ℕ) (rows : List (List ℕ)) (rest : List ℕ) (now : Cut bytes rows rest) (row more : List ℕ) (e : rest ≡ row ++ more) (size : length row ≡ min 32 (length rest)) where
  row-is : row ≡ slice_chunk bytes 32 (length rows)
  row-is =
      sym (take_at row more (length row) refl) ∙ ap (take (length row)) (sym e) ∙ ap (λ (n : ℕ). take n rest) size ∙ take_min 32 rest ∙ ap (take 32) now.left

  pub cut-more : 0 < length rest → Cut bytes (rows ++ row ∷ []) more
  cut-more some =
      let long : length (rows ++ row ∷ []) ≡ length rows + 1 = length-append rows (row ∷ []) in
      let next : length rows * 32 + 32 ≡ length (rows ++ row ∷ []) * 32 = omega (arith, long) in
      let part = slice_chunk bytes 32 in
      record {
        come =
            ap (λ (l : List (List ℕ)). l ++ row ∷ []) now.come ∙ ap (λ (r : List ℕ). map part (range_with_len 0 (length rows)) ++ r ∷ []) row-is
            ∙ sym (map-range_with_len_more part 0 (length rows) (length rows) (omega arith)) ∙ sym (ap (λ (n : ℕ). map part (range_with_len 0 n)) long);
        left =
            past 32 row more (size ∙ ap (λ (l : List ℕ). min 32 (length l)) e) ∙ ap (drop 32) (sym e ∙ now.left) ∙ drop-drop 32 (length rows * 32) bytes
            ∙ ap (λ (n : ℕ). drop n bytes) next;
        count = omega (arith, now.count, ap length e, length-append row more, size, long);
      }
