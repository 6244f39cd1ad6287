use Rattle.std.proofs.Common.{◌≡◌, ◌<◌, ◌*◌, ◌^◌, ◌+ℤ◌, ◌-ℤ◌, ◌*ℤ◌, ℕ, ℤ, pos, to_z, of_z, ap, ◌∙◌, arith}
use mir.Syntax.{w64}
use Rattle.std.proofs.lemmas.Int.{to_z-of_z, fits_signed_from_abs}
use Rattle.pic_num.specs.Sizes.{IsAtMost}
use Rattle.pic_num.specs.Space.{next_axis}
use Rattle.pic_num.proofs.SizeLaws.{at_most_more}
use Rattle.pic_flux.specs.Spans.{ends_on, both_of}
use Rattle.pic_flux.specs.declared.spans.Ends.{Ends}
use Rattle.pic_flux.proofs.four.four_of.Goals as goal

-- a number as the code passes it on
held : (x : ℤ) (n : ℕ) → IsAtMost x n → n < 2 ^ 63 → to_z w64 (of_z w64 x) ≡ x
held x n h few = let size = h.size in to_z-of_z w64 x (fits_signed_from_abs w64 x (omega (arith, size, few)))

-- and its size
small : (x : ℤ) (n : ℕ) → IsAtMost x n → n < 2 ^ 63 → IsAtMost (to_z w64 (of_z w64 x)) n
small x n h few = let size = h.size in rw (held x n h few) (record { size = size })

pub both_high-both-requires : goal.both_high-both-requires
both_high-both-requires c =
    let a = c.on-a.ensures.short c.requires.short in
    let b = c.on-b.ensures.short c.requires.short in
    record {
      a = small c.on-a.result.sum (2 ^ 15) a.sum (omega arith);
      b = small c.on-b.result.sum (2 ^ 15) b.sum (omega arith);
      way_a = small c.on-a.result.way (2 ^ 14) a.way (omega arith);
      way_b = small c.on-b.result.way (2 ^ 14) b.way (omega arith);
    }

pub one_high-high_a-requires : goal.one_high-high_a-requires
one_high-high_a-requires c =
    let a = c.on-a.ensures.short c.requires.short in
    record {
      part = small c.on-a.result.part (3 * 2 ^ 30) a.part (omega arith);
      both = small c.both_high-both.result (2 ^ 32) c.both_high-both.ensures.size (omega arith);
    }

pub one_high-high_b-requires : goal.one_high-high_b-requires
one_high-high_b-requires c =
    let b = c.on-b.ensures.short c.requires.short in
    record {
      part = small c.on-b.result.part (3 * 2 ^ 30) b.part (omega arith);
      both = small c.both_high-both.result (2 ^ 32) c.both_high-both.ensures.size (omega arith);
    }

pub none_high-none-requires : goal.none_high-none-requires
none_high-none-requires c = record {
  whole = small c.args.spans.now.whole (3 * 2 ^ 30) c.requires.short.whole (omega arith);
  high_a = small c.one_high-high_a.result (2 ^ 33) c.one_high-high_a.ensures.size (omega arith);
  high_b = small c.one_high-high_b.result (2 ^ 33) c.one_high-high_b.ensures.size (omega arith);
  both = small c.both_high-both.result (2 ^ 32) c.both_high-both.ensures.size (omega arith);
}

pub carried-requires : goal.carried-requires
carried-requires c = record {
  q = small c.args.q (2 ^ 31) c.requires.charge (omega arith);
  way = small c.on.result.way (2 ^ 14) (c.on.ensures.short c.requires.short).way (omega arith);
}

pub returns-clause-small : goal.returns-clause-small
returns-clause-small c = record {
  by = small c.carried.result (2 ^ 45) c.carried.ensures.size (omega arith);
  low_low = small c.none_high-none.result (2 ^ 35) c.none_high-none.ensures.size (omega arith);
  high_low = small c.one_high-high_a.result (2 ^ 35) (at_most_more _ _ _ (omega arith) c.one_high-high_a.ensures.size) (omega arith);
  low_high = small c.one_high-high_b.result (2 ^ 35) (at_most_more _ _ _ (omega arith) c.one_high-high_b.ensures.size) (omega arith);
  high_high = small c.both_high-both.result (2 ^ 35) (at_most_more _ _ _ (omega arith) c.both_high-both.ensures.size) (omega arith);
}

pub returns-clause-value : goal.returns-clause-value
returns-clause-value c =
    let p = c.args.spans.now in
    let axis = c.args.axis in
    let second = c.next-second.ensures in
    let third = c.next.ensures ∙ ap next_axis second in
    let a = ends_on p (next_axis axis) in
    let b = ends_on p (next_axis (next_axis axis)) in
    let a_is : c.on-a.result ≡ a = c.on-a.ensures.value ∙ ap (ends_on p) second in
    let b_is : c.on-b.result ≡ b = c.on-b.ensures.value ∙ ap (ends_on p) third in
    let a_short = c.on-a.ensures.short c.requires.short in
    let b_short = c.on-b.ensures.short c.requires.short in
    let a_sum = held c.on-a.result.sum (2 ^ 15) a_short.sum (omega arith) ∙ ap (λ (e : Ends). e.sum) a_is in
    let b_sum = held c.on-b.result.sum (2 ^ 15) b_short.sum (omega arith) ∙ ap (λ (e : Ends). e.sum) b_is in
    let a_way = held c.on-a.result.way (2 ^ 14) a_short.way (omega arith) ∙ ap (λ (e : Ends). e.way) a_is in
    let b_way = held c.on-b.result.way (2 ^ 14) b_short.way (omega arith) ∙ ap (λ (e : Ends). e.way) b_is in
    let a_part = held c.on-a.result.part (3 * 2 ^ 30) a_short.part (omega arith) ∙ ap (λ (e : Ends). e.part) a_is in
    let b_part = held c.on-b.result.part (3 * 2 ^ 30) b_short.part (omega arith) ∙ ap (λ (e : Ends). e.part) b_is in
    let whole = held p.whole (3 * 2 ^ 30) c.requires.short.whole (omega arith) in
    let both : to_z w64 (of_z w64 c.both_high-both.result) ≡ both_of a b =
    held c.both_high-both.result (2 ^ 32) c.both_high-both.ensures.size (omega arith) ∙ c.both_high-both.ensures.value
    ∙ (λ i. pos 3 *ℤ a_sum i *ℤ b_sum i +ℤ a_way i *ℤ b_way i) in
    let high_a : to_z w64 (of_z w64 c.one_high-high_a.result) ≡ a.part -ℤ both_of a b =
    held c.one_high-high_a.result (2 ^ 33) c.one_high-high_a.ensures.size (omega arith) ∙ c.one_high-high_a.ensures.value ∙ (λ i. a_part i -ℤ both i) in
    let high_b : to_z w64 (of_z w64 c.one_high-high_b.result) ≡ b.part -ℤ both_of a b =
    held c.one_high-high_b.result (2 ^ 33) c.one_high-high_b.ensures.size (omega arith) ∙ c.one_high-high_b.ensures.value ∙ (λ i. b_part i -ℤ both i) in
    let none : to_z w64 (of_z w64 c.none_high-none.result) ≡ p.whole -ℤ (a.part -ℤ both_of a b) -ℤ (b.part -ℤ both_of a b) -ℤ both_of a b =
    held c.none_high-none.result (2 ^ 35) c.none_high-none.ensures.size (omega arith) ∙ c.none_high-none.ensures.value
    ∙ (λ i. whole i -ℤ high_a i -ℤ high_b i -ℤ both i) in
    let way = held c.on.result.way (2 ^ 14) (c.on.ensures.short c.requires.short).way (omega arith) ∙ ap (λ (e : Ends). e.way) c.on.ensures.value in
    let charge = held c.args.q (2 ^ 31) c.requires.charge (omega arith) in
    let carried : to_z w64 (of_z w64 c.carried.result) ≡ c.args.q *ℤ (ends_on p axis).way =
    held c.carried.result (2 ^ 45) c.carried.ensures.size (omega arith) ∙ c.carried.ensures.value ∙ (λ i. charge i *ℤ way i) in
    λ i. record { by = carried i; low_low = none i; high_low = high_a i; low_high = high_b i; high_high = both i }
