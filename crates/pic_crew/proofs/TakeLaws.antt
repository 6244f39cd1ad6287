-- A tile is finished: its parcels are received and merged, that of no step first and then the others in order.
use Rattle.std.proofs.Common.{◌≡◌, ℕ, ◌+◌, ◌<◌, eqb, eq-eqb, Bool, true, false, Some, None, refl, sym, ◌∙◌, ap, subst, arith, true≢false}
use Rattle.std.proofs.Math.Decide.{ℕ_discrete}
use Rattle.std.proofs.lemmas.Bool.Decides.{nat_tests}
use Rattle.atomic_table.specs.declared.shared.Seat.{Seat}
use Rattle.pic_num.specs.Limits.{most_particles}
use Rattle.pic_grid.specs.Traces.{most_flux, traces, IsFluxAtMost}
use Rattle.pic_tile.specs.declared.parcel.Parcel.{Parcel}
use Rattle.pic_tile.specs.CoreState.{IsOpening, IsSoundFrame}
use Rattle.pic_tile.specs.Directions.{directions, here}
use Rattle.pic_tile.specs.Frame.{felt_in}
use Rattle.pic_tile.specs.Parcels.{IsParcel}
use Rattle.pic_tile.specs.Receiving.{Merged, IsOneMore}
use Rattle.pic_tile.specs.Tile.{TileValue, parcel_at}
use Rattle.pic_tile.proofs.OpeningLaws.{opening_few, felt_side}
use Rattle.pic_tile.proofs.ReceivedLaws.{MayMerge, may_merge}
use Rattle.pic_tile.proofs.ReceivingLaws.{receiving_none, receiving_more}
use Rattle.pic_push.proofs.TraceSizeLaws.{flux_size}
use Rattle.pic_yard.specs.declared.opening.Opening.{Opening}
use Rattle.pic_yard.specs.declared.view.View.{View}
use Rattle.pic_yard.specs.declared.yard.Yard.{Yard}
use Rattle.pic_yard.specs.Contents.{Slot, IsShut, from_of, start_at, tiles_in}
use Rattle.pic_yard.specs.Members.{In}
use Rattle.pic_yard.specs.Steps.{gave_back}
use Rattle.pic_yard.specs.Yards.{AreReceived, IsReceived, IsSentBy, KeepsMail, MailWaits, Serves, mail_of, opening_of, view_of}
use Rattle.pic_yard.proofs.MemberLaws.{unseen_in}
use Rattle.pic_crew.specs.Finishing.{CanTake, IsInOrder, IsReceivingOf, Takes}
use Rattle.pic_crew.proofs.Turns.{IsTaking, finished_up_to, none_done}

-- what is done at first, with one more, and in the end
none_yet : (d : ℕ) → d < directions → none_done d ≡ false
none_yet d below = grind (arith, nat_tests)

pub first_more : IsOneMore here none_done (finished_up_to 0)
first_more = record {
  before = refl;
  now = refl;
  others = λ d apart. others d apart;
}
  where
    others : (d : ℕ) → (d ≡ here → ⊥) → finished_up_to 0 d ≡ none_done d
    others d apart = grind (arith, nat_tests)

next_before : (d : ℕ) → d < directions → (d ≡ here → ⊥) → finished_up_to d d ≡ false
next_before d below apart = grind (arith, nat_tests)

next_now : (d : ℕ) → finished_up_to (d + 1) d ≡ true
next_now d = grind (arith, nat_tests)

next_others : (d e : ℕ) → (e ≡ d → ⊥) → finished_up_to (d + 1) e ≡ finished_up_to d e
next_others d e apart = grind (arith, nat_tests)

pub next_more : (d : ℕ) → d < directions → (d ≡ here → ⊥) → IsOneMore d (finished_up_to d) (finished_up_to (d + 1))
next_more d below apart = record { before = next_before d below apart; now = next_now d; others = λ e differ. next_others d e differ }

past_here : (d e : ℕ) → d ≡ here → finished_up_to d e ≡ finished_up_to (d + 1) e
past_here d e is = grind (arith, nat_tests)

last_done : (n d : ℕ) → n ≡ directions → finished_up_to n d ≡ true
last_done n d is = grind (arith, nat_tests)

pub here_done : (n : ℕ) → finished_up_to n here ≡ true
here_done n = refl

same_parcel : (p q : Parcel) → Some p ≡ Some q → q ≡ p
same_parcel p q is = cc

-- a parcel that is there, as the push of its sender sends it
pub sent_parcel : (o : Opening) (t d : ℕ) (p : Parcel) → IsSentBy o t d (Some p) → IsParcel (felt_in o.frame) o.frame.map (start_at o t) t d p
sent_parcel o t d p sent =
    subst (λ (q : Parcel). IsParcel (felt_in o.frame) o.frame.map (start_at o t) t d q) (same_parcel p sent.parcel sent.there) sent.is

module _ (o : Opening) (sound : IsSoundFrame o.frame) (opens : IsOpening o.frame o.tiles.items) (r d : ℕ) (tile : TileValue) (p : Parcel)
    (among : r < tiles_in o)
    (below : d < directions) (sent : IsSentBy o (from_of o r d) d (Some p))
  where
    sends_most : (t : ℕ) → IsFluxAtMost most_flux (traces (felt_in o.frame) (start_at o t))
    sends_most t =
        let side = felt_side o.frame sound in
        let least = sound.least in
        let most = sound.most in
        flux_size (felt_in o.frame) (start_at o t) most_particles (omega (arith, side, least)) (omega (arith, side, most)) sound.frame.kinds_are.limits
        (opening_few o.frame o.tiles.items opens t)

    -- what a merge asks for
    pub can_merge : CanTake o r d tile → MayMerge p tile
    unfolding from_of
    can_merge can =
        may_merge (felt_in o.frame) o.frame.map (start_at o) can.done r d p tile most_flux sound.map among below (omega arith) sends_most can.receives can.free
        can.order (sent_parcel o (from_of o r d) d p sent)

    pub one_taken : (new : TileValue) → Merged p tile new → Takes o r d tile new
    unfolding from_of
    one_taken new merged done more receives order one =
        receiving_more (felt_in o.frame) o.frame.map (start_at o) r d done more p tile new sound.map.thick among below one receives
        (sent_parcel o (from_of o r d) d p sent) merged order

module _ (yard : Yard) (r : ℕ) (old : Seat Slot View) where
  pub taking_none : (tile : TileValue) → Serves yard old → ((d : ℕ) → d < directions → MailWaits (opening_of yard) old r d) → tile.number ≡ r
      → ((d : ℕ) → parcel_at tile d ≡ None) → IsTaking yard r none_done old old tile
  taking_none tile serves mail number bare =
      let o = opening_of yard in
      record {
        serves = serves;
        view = refl;
        waits = λ d below undone. mail d below;
        received = λ d below is. absurd (let none = none_yet d below in true≢false (sym is ∙ none));
        receives = receiving_none (felt_in o.frame) o.frame.map (start_at o) none_done r tile number none_yet (λ d below. bare d);
        others = λ q d apart below. refl;
      }

  -- the tile of the right is ready for one more
  pub can_take : (done : ℕ → Bool) (d : ℕ) (seat : Seat Slot View) (tile : TileValue) → IsTaking yard r done old seat tile → done d ≡ false → IsInOrder done d
      → CanTake (opening_of yard) r d tile
  can_take done d seat tile taking free order = record { done = done; receives = taking.receives; free = free; order = order }

  -- one more is received and merged
  pub taking_more : (done more : ℕ → Bool) (d : ℕ) (seat new : Seat Slot View) (tile tile' : TileValue) → IsTaking yard r done old seat tile
      → IsInOrder done d → IsOneMore d done more → Serves yard new → view_of new ≡ view_of seat → IsReceived new r d
      → ((q e : ℕ) → e < directions → ((q ≡ r) × (e ≡ d) → ⊥) → mail_of new q e ≡ mail_of seat q e) → Takes (opening_of yard) r d tile tile'
      → IsTaking yard r more old new tile'
  taking_more done more d seat new tile tile' taking order one serves view received others takes = record {
    serves = serves;
    view = view ∙ taking.view;
    waits = λ e below undone.
        let apart : e ≡ d → ⊥ = λ is. true≢false (sym one.now ∙ ap more (sym is) ∙ undone) in
        let w = taking.waits e below (sym (one.others e apart) ∙ undone) in
        record { parcel = w.parcel; there = others r e below (λ is. apart is.1) ∙ w.there; is = w.is };
    received = λ e below is. elim (ℕ_discrete e d) [
      | yes same ↦ subst (λ (k : ℕ). IsReceived new r k) (sym same) received
      | no apart ↦ others r e below (λ both. apart both.1) ∙ taking.received e below (sym (one.others e apart) ∙ is)
    ];
    receives = takes done more taking.receives order one;
    others = λ q e apart below. others q e below (λ is. apart is.0) ∙ taking.others q e apart below;
  }

  -- or it was that of no step
  pub taking_past : (d : ℕ) (seat : Seat Slot View) (tile : TileValue) → d ≡ here → IsTaking yard r (finished_up_to d) old seat tile
      → IsTaking yard r (finished_up_to (d + 1)) old seat tile
  taking_past d seat tile is taking =
      let same : finished_up_to d ≡ finished_up_to (d + 1) = (λ i e. past_here d e is i) in
      subst (λ (done : ℕ → Bool). IsTaking yard r done old seat tile) same taking

  -- all are done
  pub taking_all : (n : ℕ) (seat : Seat Slot View) (tile : TileValue) → n ≡ directions → IsTaking yard r (finished_up_to n) old seat tile
      → AreReceived seat r × IsShut (opening_of yard) r tile
  taking_all n seat tile all taking =
      let same : finished_up_to n ≡ (λ d. true) = (λ i e. last_done n e all i) in
      (λ d below. taking.received d below (last_done n d all), subst (λ (done : ℕ → Bool). IsReceivingOf (opening_of yard) done r tile) same taking.receives)

  -- the tile is given back: the mail of the other rights is as it was
  pub mail_kept : (done : ℕ → Bool) (seat new : Seat Slot View) (tile : TileValue) → IsTaking yard r done old seat tile
      → view_of new ≡ gave_back r (view_of seat) → KeepsMail (view_of new) seat new → KeepsMail (view_of new) old new
  mail_kept done seat new tile taking view kept q e is below =
      let left : In q (gave_back r (view_of seat)).rights = subst (λ (v : View). In q v.rights) view is in
      let apart : q ≡ r → ⊥ = λ same. true≢false (sym (eq-eqb r q (sym same)) ∙ unseen_in (eqb r) q (view_of seat).rights left) in
      kept q e is below ∙ taking.others q e apart below
