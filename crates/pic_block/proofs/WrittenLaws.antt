-- A list of which a part is written: what is read of it, and how long it is.
use Rattle.std.proofs.Common.{◌≡◌, ℕ, ◌+◌, ◌-◌, ◌<◌, ◌≤◌, List, ◌++◌, length, take, slice_index_or, ◌∙◌, ap, arith}
use Rattle.std.proofs.lemmas.List.{get_or-take, get_or_append_left, get_or-append_right, length-append, length-take-le}

module _ {A : Type 0} (row part rest : List A) (start : ℕ) (room : start ≤ length row)
  where
    abbrev written : List A
    written = take start row ++ (part ++ rest)

    front : length (take start row) ≡ start
    front = length-take-le start row room

    -- in front of the part it is as it was,
    pub written_before : (k : ℕ) (d : A) → k < start → slice_index_or written k d ≡ slice_index_or row k d
    written_before k d less = get_or_append_left (take start row) (part ++ rest) d k (omega (arith, front)) ∙ get_or-take start row k d less

    -- the part stands in it,
    pub written_part : (k : ℕ) (d : A) → start ≤ k → k - start < length part → slice_index_or written k d ≡ slice_index_or part (k - start) d
    written_part k d least inside =
        get_or-append_right (take start row) (part ++ rest) start k d front least
        ∙ get_or_append_left part rest d (k - start) inside

    -- and it has as many elements as its three pieces
    pub written_long : length written ≡ start + (length part + length rest)
    written_long = length-append (take start row) (part ++ rest) ∙ ap (λ n. n + length (part ++ rest)) front
        ∙ ap (λ n. start + n) (length-append part rest)
