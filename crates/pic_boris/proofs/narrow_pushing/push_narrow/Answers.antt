use Rattle.std.proofs.Common.{◌≡◌, Ok, refl, subst, sym, ◌∙◌}
use Rattle.std.specs.Prelude.{IfSome, IsOk, Result}
use Rattle.pic_num.specs.Push.{Shift, Halting, each, plus, turned, pushed}
use Rattle.pic_num.specs.Rounding.{scaled}
use Rattle.pic_num.specs.Space.{Spot, spot, AreAtMost}
use Rattle.pic_boris.specs.Narrow.{narrow_spot}
use Rattle.pic_boris.specs.Pushes.{arrived, shift_of}
use Rattle.pic_boris.specs.SmallPush.{IsSmallPush, most_small_speed, most_small_turn}
use Rattle.pic_boris.proofs.MoveLaws.{slow_arrives}
use Rattle.pic_boris.proofs.narrow_pushing.push_narrow.Goals as goal
use Rattle.pic_boris.proofs.narrow_pushing.push_narrow.Goals.{After-arrive_narrow}

-- the velocity after half of the kick
kicked_is : (c : After-arrive_narrow) → narrow_spot c.narrow_sum-kicked.result ≡ plus (spot c.args.v) (each (λ n. scaled n c.args.kick) (spot c.args.e))
kicked_is c = c.narrow_sum-kicked.ensures.value ∙ (λ i. plus (c.narrow_of.ensures.value i) (c.scaled_narrow-half_kick.ensures.value i))

-- the numbers of the push are small
small : (c : After-arrive_narrow) → IsSmallPush (spot c.args.v) (spot c.args.e) (spot c.args.b) c.args.kick c.args.turn
small c = record {
  electric = c.if-not-is_small_field.ensures.0 refl;
  magnetic = c.if-not-is_small_field-2.ensures.0 refl;
  speed = subst (λ (p : Spot). AreAtMost p most_small_speed) (kicked_is c) (c.if-not-is_small.ensures.0 refl);
  turn_by = subst (λ (p : Spot). AreAtMost p most_small_turn) c.scaled_narrow-turn_by.ensures.value (c.if-not-is_small-2.ensures.0 refl);
}

-- the push leads where its new velocity does
leads : (c : After-arrive_narrow)
    → pushed c.args.sub (spot c.args.v) (spot c.args.e) (spot c.args.b) c.args.kick c.args.turn ≡ arrived c.args.sub (narrow_spot c.narrow_sum.result)
leads c =
    let half_kick = c.scaled_narrow-half_kick.ensures.value in
    let new_v = c.narrow_sum.ensures.value ∙ (λ i. plus (c.narrow_turned.ensures.value i) (half_kick i))
    ∙ (λ i. plus (turned (kicked_is c i) (c.scaled_narrow-turn_by.ensures.value i)) (each (λ n. scaled n c.args.kick) (spot c.args.e))) in
    slow_arrives c.args.sub (spot c.args.v) (spot c.args.e) (spot c.args.b) c.args.kick c.args.turn (small c).speed (small c).turn_by
    ∙ sym (λ i. arrived c.args.sub (new_v i))

pub returns-clause-some : goal.returns-clause-some
returns-clause-some c =
    let ends = c.arrive_narrow.ensures.some in
    (λ some. (small c, subst IsOk (sym (leads c)) (ends.0 some)), λ both. ends.1 (subst IsOk (leads c) both.1))

pub returns-clause-pushed : goal.returns-clause-pushed
returns-clause-pushed c =
    subst (λ (r : Result Shift Halting). IfSome c.arrive_narrow.result (λ m. r ≡ Ok (shift_of m))) (sym (leads c)) c.arrive_narrow.ensures.pushed
