-- The words of a generator: PCG32 of M. E. O'Neill (pcg-random.org), as the crate rand_pcg has it.
use Rattle.std.specs.Prelude.{ℕ, zero, suc}
use Rattle.rand_pcg.specs.Lcg.{Lcg, started, increment_of}
use Rattle.rand_pcg.specs.Pcg.{multiplier_64, pcg32}

-- the generator of a seed and a stream
unfoldable pub generator : ℕ → ℕ → Lcg
generator seed stream = started 64 multiplier_64 seed (increment_of 64 stream)

-- the generator after so many words
unfoldable pub after : ℕ → Lcg → Lcg
after zero g = g
after (suc n) g = (pcg32 (after n g)).1

-- its word of a number, from 0 on
unfoldable pub word : ℕ → Lcg → ℕ
word n g = (pcg32 (after n g)).0
