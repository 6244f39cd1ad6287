use Rattle.std.proofs.Common.{◌≡◌, ℕ, ◌+◌, ◌<◌, Bool, true, false, not, nat_eq, inl, inr, sym, ◌∙◌, ap, subst, refl, arith, eq-eqb, eqb-true, true≢false}
use Rattle.atomic_table.specs.declared.shared.Seat.{Seat}
use Rattle.pic_tile.specs.Directions.{directions, here}
use Rattle.pic_tile.specs.Tile.{TileValue}
use Rattle.pic_yard.specs.declared.view.View.{View}
use Rattle.pic_yard.specs.Contents.{Slot, IsShut}
use Rattle.pic_yard.specs.Steps.{gave_back}
use Rattle.pic_yard.specs.Yards.{IsReceived, mail_of, opening_of, view_of}
use Rattle.pic_crew.specs.Finishing.{Takes}
use Rattle.pic_crew.proofs.Turns.{IsTaking, finished_up_to, none_done}
use Rattle.pic_crew.proofs.TakeLaws.{can_take, first_more, here_done, next_more, taking_none, taking_more, taking_past, taking_all, mail_kept}
use Rattle.pic_crew.proofs.finishing.finish.Goals as goal
use Rattle.pic_crew.proofs.finishing.finish.Goals.{then-ne, else-ne}

not_here : (b : Bool) (d : ℕ) → b ≡ not (nat_eq d here) → b ≡ true → d ≡ here → ⊥
not_here b d is on same = true≢false (sym on ∙ is ∙ ap not (eq-eqb d here same))

is_here : (b : Bool) (d : ℕ) → b ≡ not (nat_eq d here) → b ≡ false → d ≡ here
is_here b d is off = go (nat_eq d here) refl (sym is ∙ off)
  where
    go : (v : Bool) → nat_eq d here ≡ v → not v ≡ false → d ≡ here
    go true e h = eqb-true d here e
    go false e h = absurd (true≢false h)

pub take_one-requires-clause-can : goal.take_one-requires-clause-can
take_one-requires-clause-can c =
    let none = taking_none c.args.yard.now c.args.right c.args.seat.now c.bare-tile.result c.requires.serves c.requires.mail
    (c.bare-tile.ensures.number ∙ c.tile.ensures) c.bare-tile.ensures.none in
    can_take c.args.yard.now c.args.right c.args.seat.now none_done here c.args.seat.now c.bare-tile.result none refl (inl refl)

pub loop-number-init : goal.loop-number-init
loop-number-init c =
    let e = c.take_one.ensures in
    let none = taking_none c.args.yard.now c.args.right c.args.seat.now c.bare-tile.result c.requires.serves c.requires.mail
    (c.bare-tile.ensures.number ∙ c.tile.ensures) c.bare-tile.ensures.none in (
      e.right,
      taking_more c.args.yard.now c.args.right c.args.seat.now none_done (finished_up_to 0) here c.args.seat.now c.take_one.new.seat c.bare-tile.result
          c.take_one.new.tile none (inl refl) first_more e.serves e.view e.received e.others e.tile,
    )

pub loop-number-preserved : goal.loop-number-preserved
loop-number-preserved c =
    let y = c.args.yard.now in
    let r = c.args.right in
    let s0 = c.args.seat.now in
    let s = c.loop-number.seat in
    let t = c.loop-number.tile in
    let d = c.loop-number.number in
    let taking = c.loop-number.invariant.1 in
    let dir : c.ne.result ≡ not (nat_eq d here) = subst (λ (k : ℕ). c.ne.result ≡ not (nat_eq k here)) c.of-dir.ensures c.ne.ensures in
    elim c.if-ne.branch [
      | then-ne w ↦ (
          let below : d < directions = c.loop-number-test.true in
          let apart : d ≡ here → ⊥ = not_here c.ne.result d dir w.if-ne.true in
          let e = w.take_one-then-ne.ensures in
          let kept = c.loop-number.invariant.0 in
          let k_is = c.of-dir.ensures in
          let u = w.take_one-then-ne.new.seat in
          let x = w.take_one-then-ne.new.tile in
          let received : IsReceived u r d =
          subst (λ (k : ℕ). IsReceived u k d) kept (subst (λ (k : ℕ). IsReceived u c.loop-number.right k) k_is e.received) in
          let others : (q f : ℕ) → f < directions → ((q ≡ r) × (f ≡ d) → ⊥) → mail_of u q f ≡ mail_of s q f = λ q f inside other.
          e.others q f inside (λ same. other (same.0 ∙ kept, same.1 ∙ k_is)) in
          let takes : Takes (opening_of y) r d t x =
          subst (λ (k : ℕ). Takes (opening_of y) k d t x) kept (subst (λ (k : ℕ). Takes (opening_of y) c.loop-number.right k t x) k_is e.tile) in (
            w.right-is ∙ e.right ∙ kept,
            subst (λ (v : Seat Slot View). IsTaking y r (finished_up_to (d + 1)) s0 v c.if-ne.tile) (sym w.seat-is)
                (subst (λ (v : TileValue). IsTaking y r (finished_up_to (d + 1)) s0 u v) (sym w.tile-is)
                (taking_more y r s0 (finished_up_to d) (finished_up_to (d + 1)) d s u t x taking (inr (here_done d)) (next_more d below apart)
                e.serves e.view received others
                takes)),
          )
          )
      | else-ne w ↦ (
        w.right-is ∙ c.loop-number.invariant.0,
        subst (λ (u : Seat Slot View). IsTaking y r (finished_up_to (d + 1)) s0 u c.if-ne.tile) (sym w.seat-is)
            (subst (λ (x : TileValue). IsTaking y r (finished_up_to (d + 1)) s0 s x) (sym w.tile-is)
            (taking_past y r s0 d s t (is_here c.ne.result d dir w.if-ne.false) taking)),
      )
    ]

pub give_back-requires-clause-finished : goal.give_back-requires-clause-finished
give_back-requires-clause-finished c =
    let y = c.args.yard.now in
    let all = taking_all y c.args.right c.args.seat.now c.loop-number.number c.loop-number.seat c.loop-number.tile (omega arith) c.loop-number.invariant.1 in
    subst (λ (r : ℕ). IsShut (opening_of y) r c.shut.new.tile) (sym c.loop-number.invariant.0)
    (subst (λ (t : TileValue). IsShut (opening_of y) c.args.right t) (sym c.shut.ensures.same) all.1)

pub returns-clause-kept : goal.returns-clause-kept
returns-clause-kept c =
    mail_kept c.args.yard.now c.args.right c.args.seat.now (finished_up_to c.loop-number.number) c.loop-number.seat c.give_back.new.seat c.loop-number.tile
    c.loop-number.invariant.1 (c.give_back.ensures.view ∙ ap (λ (k : ℕ). gave_back k (view_of c.loop-number.seat)) c.loop-number.invariant.0)
    c.give_back.ensures.kept
