-- What a reading took, piece by piece.
use Rattle.std.proofs.Common.{◌≡◌, ℕ, ◌+◌, ◌≤◌, List, ◌++◌, length, take, Option, Some, None, sym, ◌∙◌, ap, subst, refl, arith, length-append}
use Rattle.std.specs.Prelude.{IfSome}
use Rattle.std.proofs.Math.Seq.{take-append_seam, take-length}
use Rattle.std.proofs.lemmas.List.{length-take}
use Rattle.pic_io.specs.Told.{Told, Calm}
use Rattle.pic_io.specs.Source.{with_front, Took}
use Rattle.pic_io.proofs.Takes.{given_twice}
use Rattle.pic_open.specs.DeckReading.{TakesAtMost, TookAll}

-- one more piece, within the limit
pub taken_more : (a b c : Told) (bytes room : List ℕ) (n most limit : ℕ) → a.bytes ≡ with_front bytes b.bytes
    → Took b c room n → n ≤ most → length bytes + most ≤ limit → TakesAtMost limit a c
taken_more a b c bytes room n most limit before took small fits =
    let short = length-take n room in
    record {
      front = bytes ++ take n room;
      most = omega (arith, short, small, fits, length-append bytes (take n room));
      taken = given_twice a b c bytes (take n room) before took.moved;
    }

-- as many bytes as the limit are a front of what was held
pub took_full : (a b : Told) (limit : ℕ) (bytes : List ℕ) (rest : Option (List ℕ)) → a.bytes ≡ with_front bytes rest
    → Calm a b → length bytes ≡ limit → TookAll a b limit bytes
took_full a b limit bytes None e calm full = record {
  held = bytes;
  gave = (calm, subst (λ (known : Option (List ℕ)). IfSome known (λ held. held ≡ bytes)) (sym e) tt);
  front = ap (λ n. take n bytes) (sym full) ∙ take-length bytes;
  end = λ short. absurd (omega (arith, short, full));
}
took_full a b limit bytes (Some rest) e calm full = record {
  held = bytes ++ rest;
  gave = (calm, subst (λ (known : Option (List ℕ)). IfSome known (λ held. held ≡ bytes ++ rest)) (sym e) refl);
  front = ap (λ n. take n (bytes ++ rest)) (sym full) ∙ take-append_seam bytes rest;
  end = λ short. absurd (omega (arith, short, full));
}
