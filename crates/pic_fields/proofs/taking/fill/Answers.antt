-- What a take gave stands behind what was there.
use Rattle.std.proofs.Common.{◌≡◌, ◌-◌, ◌+◌, ◌≤◌, ◌++◌, ℕ, List, length, take, refl, sym, ap, ◌∙◌, arith, length-append}
use Rattle.std.proofs.lemmas.List.{length-take, length-take-le, take-take}
use Rattle.std.proofs.lemmas.Slice.{take-put_mid}
use Rattle.pic_io.specs.Told.{Told, Calm}
use Rattle.pic_io.specs.Source.{with_front}
use Rattle.pic_io.proofs.Puts.{take-past}
use Rattle.pic_io.proofs.Takes.{given_twice}
use Rattle.pic_fields.proofs.Fronts.{Fronts}
use Rattle.pic_fields.proofs.taking.fill.Goals as goal
use borrow.Rule.Slice.PartMut.{put_mid}

fronts_more : (x y z : Told) (room part : List ℕ) (count more : ℕ) → Fronts x y room count → more ≤ length part
    → y.bytes ≡ with_front (take more part) z.bytes → Calm y z → Fronts x z (put_mid count (length room - count) room part) (count + more)
fronts_more x y z room part count more so_far most given calm =
    let all = put_mid count (length room - count) room part in
    let front = take count room in
    let size : length front ≡ count = length-take-le count room so_far.most in
    let whole : take (count + length part) all ≡ front ++ part = take-put_mid count (length room - count) room part (count + length part) refl so_far.most in
    let long = ap length whole ∙ length-append front part in
    let cut = length-take (count + length part) all in
    let seen : take (count + more) all ≡ front ++ take more part =
    sym (take-take (count + more) (count + length part) all (omega (arith, most)))
    ∙ ap (take (count + more)) whole
    ∙ ap (λ n. take (n + more) (front ++ part)) (sym size)
    ∙ take-past front part more in
    record {
      most = omega (arith, long, cut, size, most);
      taken = given_twice x y z front (take more part) so_far.taken given ∙ ap (λ l. with_front l z.bytes) (sym seen);
      calm = calm ∙ so_far.calm;
    }

pub loop-count-init : goal.loop-count-init
loop-count-init g c = record { most = c.in-Ok.ensures.bound; taken = c.in-Ok.ensures.bytes.moved; calm = c.in-Ok.ensures.cause.ok }

pub loop-count-preserved : goal.loop-count-preserved
loop-count-preserved g c =
    fronts_more _ _ _ c.loop-count.room c.take-in-loop-count.new.room c.loop-count.count c.in-Ok-take.more c.loop-count.invariant
    c.in-Ok-take.ensures.bound c.in-Ok-take.ensures.bytes.moved c.in-Ok-take.ensures.cause.ok
