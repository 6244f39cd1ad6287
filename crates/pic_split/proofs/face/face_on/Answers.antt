use Rattle.std.proofs.Common.{◌≡◌, ℕ, ℤ, pos, ◌^◌, ◌+ℤ◌, ◌-ℤ◌, ◌*ℤ◌, ◌∙◌, ap, sym, subst, Some, to_z, of_z, w32, SFits, arith}
use Rattle.std.proofs.lemmas.Int.{to_z-of_z}
use Rattle.std.specs.Int.{int_max}
use Rattle.pic_num.specs.Sizes.{IsAtMost}
use Rattle.pic_grid.specs.Path.{floor_of}
use Rattle.pic_split.proofs.CrossingLaws.{crossing_none, crossing_some, way_size}
use Rattle.pic_split.proofs.face.face_on.Goals as goal
use Rattle.pic_split.proofs.face.face_on.Goals.{After-cell_of-after, After-max}

-- what the code's cells are, without its casts

before_is : (side : ℕ) (p c : ℤ) → SFits w32 p → c ≡ floor_of side (to_z w32 (of_z w32 p)) → c ≡ floor_of side p
before_is side p c p_fits is = is ∙ ap (floor_of side) (to_z-of_z w32 p p_fits)

after_is : (side : ℕ) (p d e c : ℤ) → SFits w32 p → SFits w32 d → SFits w32 e → e ≡ to_z w32 (of_z w32 p) +ℤ to_z w32 (of_z w32 d)
    → c ≡ floor_of side (to_z w32 (of_z w32 e)) → c ≡ floor_of side (p +ℤ d)
after_is side p d e c p_fits d_fits e_fits end is =
    is ∙ ap (floor_of side) (to_z-of_z w32 e e_fits ∙ end ∙ (λ i. to_z-of_z w32 p p_fits i +ℤ to_z-of_z w32 d d_fits i))

same_bits : (b a : ℤ) → SFits w32 b → SFits w32 a → of_z w32 b ≡ of_z w32 a → b ≡ a
same_bits b a b_fits a_fits same = sym (to_z-of_z w32 b b_fits) ∙ ap (to_z w32) same ∙ to_z-of_z w32 a a_fits

larger_is : (b a m : ℤ) → SFits w32 b → SFits w32 a → SFits w32 m → m ≡ int_max (to_z w32 (of_z w32 b)) (to_z w32 (of_z w32 a))
    → to_z w32 (of_z w32 m) ≡ int_max b a
larger_is b a m b_fits a_fits m_fits is =
    to_z-of_z w32 m m_fits ∙ is ∙ (λ i. int_max (to_z-of_z w32 b b_fits i) (to_z-of_z w32 a a_fits i))

-- the two cells as the code has them
record Cells (c : After-cell_of-after) : Type 0 where
  before_fits : SFits w32 c.cell_of-before.result
  after_fits : SFits w32 c.cell_of-after.result
  before : c.cell_of-before.result ≡ floor_of c.args.sub c.args.p
  after : c.cell_of-after.result ≡ floor_of c.args.sub (c.args.p +ℤ c.args.d)

cells : (c : After-cell_of-after) → Cells c
cells c =
    let p = c.args.p in
    let d = c.args.d in
    record {
      before_fits = record { sfits = c.cell_of-before.type_inv };
      after_fits = record { sfits = c.cell_of-after.type_inv };
      before = before_is c.args.sub p c.cell_of-before.result c.ranges.p c.cell_of-before.ensures.value;
      after = after_is c.args.sub p d c.end_on.result c.cell_of-after.result c.ranges.p c.ranges.d
          (record { sfits = c.end_on.type_inv }) c.end_on.ensures.value c.cell_of-after.ensures.value;
    }

pub returns-then-before-after : goal.returns-then-before-after
returns-then-before-after c =
    let two = cells (goal.at.returns-then-before-after c).After-cell_of-after in
    let same = same_bits c.cell_of-before.result c.cell_of-after.result two.before_fits two.after_fits c.if-before-after.true in
    crossing_none c.args.sub c.args.axis c.args.p c.args.d (sym two.before ∙ same ∙ two.after)

-- where they differ, the face is at the larger
record Face (c : After-max) : Type 0 where
  larger : to_z w32 (of_z w32 c.max.result) ≡ int_max c.cell_of-before.result c.cell_of-after.result
  place : to_z w32 (of_z w32 c.max.result) ≡ int_max (floor_of c.args.sub c.args.p) (floor_of c.args.sub (c.args.p +ℤ c.args.d))
  differ : floor_of c.args.sub c.args.p ≡ floor_of c.args.sub (c.args.p +ℤ c.args.d) → ⊥

face : (c : After-max) → Face c
face c =
    let two = cells (goal.at.After-max c).After-cell_of-after in
    let larger = larger_is c.cell_of-before.result c.cell_of-after.result c.max.result two.before_fits two.after_fits
    (record { sfits = c.max.type_inv }) c.max.ensures.value in
    record {
      larger = larger;
      place = larger ∙ (λ i. int_max (two.before i) (two.after i));
      differ = λ same. c.if-before-after.false (ap (of_z w32) (two.before ∙ same ∙ sym two.after));
    }

-- the side that the code passes on
side_is : (c : After-max) → pos c.side-side.result ≡ pos c.args.sub
side_is c = ap pos c.side-side.ensures.value

pub way_to-way-requires-clause-near : goal.way_to-way-requires-clause-near
way_to-way-requires-clause-near c =
    let at = face c in
    let p_is = to_z-of_z w32 c.args.p c.ranges.p in
    let near = way_size c.args.sub c.args.axis c.args.p c.args.d (omega (arith, c.side-side.ensures.least)) c.requires.small.size at.differ in
    let few = c.side-side.ensures.most in
    subst (λ (z : ℤ). IsAtMost z (2 ^ 14)) (sym (λ i. at.place i *ℤ side_is c i -ℤ p_is i))
    (record { size = omega (arith, near.size, few) })

pub returns : goal.returns
returns c =
    let at = face (goal.at.returns c).After-max in
    let p_is = to_z-of_z w32 c.args.p c.ranges.p in
    let d_is = to_z-of_z w32 c.args.d c.ranges.d in
    let way = to_z-of_z w32 c.way_to-way.result (record { sfits = c.way_to-way.type_inv }) ∙ c.way_to-way.ensures
    ∙ (λ i. at.place i *ℤ side_is (goal.at.returns c).After-max i -ℤ p_is i) in
    (λ i. Some (record { axis = c.args.axis; way = way i; whole = d_is i }))
    ∙ crossing_some c.args.sub c.args.axis c.args.p c.args.d at.differ
