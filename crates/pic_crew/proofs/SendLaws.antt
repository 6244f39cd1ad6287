-- What a seat owes while it posts the parcels of its claim.
use Rattle.std.proofs.Common.{
  ◌≡◌,
  ℕ,
  suc,
  ◌+◌,
  ◌<◌,
  ◌≤◌,
  inl,
  inr,
  List,
  [],
  ◌∷◌,
  ◌++◌,
  Bool,
  eqb,
  eq-eqb,
  ne_eqb,
  if◌then◌else◌,
  None,
  refl,
  sym,
  ◌∙◌,
  ap,
  subst,
  arith,
}
use Rattle.std.proofs.lemmas.List.{get_or-set_other}
use Rattle.atomic_table.specs.declared.shared.Seat.{Seat}
use Rattle.pic_tile.specs.Directions.{directions}
use Rattle.pic_tile.specs.Tile.{TileValue, parcel_at, with_parcel}
use Rattle.pic_yard.specs.declared.opening.Opening.{Opening}
use Rattle.pic_yard.specs.declared.view.View.{View}
use Rattle.pic_yard.specs.declared.yard.Yard.{Yard}
use Rattle.pic_yard.specs.Claims.{ClaimValue}
use Rattle.pic_yard.specs.Contents.{Slot, tiles_in, to_of}
use Rattle.pic_yard.specs.Members.{In, same_pair, without}
use Rattle.pic_yard.specs.Seats.{HoldsNothing}
use Rattle.pic_yard.specs.Steps.{boxes_of, did_claim, did_post, gave_back}
use Rattle.pic_yard.specs.Yards.{IsSentBy, Serves, opening_of, view_of}
use Rattle.pic_yard.proofs.MemberLaws.{in_left, in_parts, in_boxes, boxes_in, kept, was_in, unseen_in, pair_apart, pair_other}
use Rattle.pic_crew.specs.Posting.{HasPostedAll, HasPostedSome, HasSent, OwesAll, OwesFrom, posted}
use Rattle.pic_crew.proofs.Turns.{IsSending}

-- after a claim by a seat that lists nothing
pub owes_claim : (o : Opening) (n : ℕ) (old new : View) → n < tiles_in o → HoldsNothing old → new ≡ did_claim (to_of o) directions n old → OwesAll o n new
owes_claim o n old new below idle is =
    let owes : new.owes ≡ boxes_of (to_of o n) directions ++ [] =
    ap (λ (v : View). v.owes) is ∙ ap (λ (ps : List (ℕ × ℕ)). boxes_of (to_of o n) directions ++ ps) idle.owes in
    record {
      tile = below;
      lists = λ r e had.
          let mine = in_parts (r, e) (boxes_of (to_of o n) directions) [] (subst (λ (ps : List (ℕ × ℕ)). In (r, e) ps) owes had) in
          let box : (e < directions) × (r ≡ to_of o n e) = elim mine [ inl own ↦ boxes_in (to_of o n) r e directions own | inr more ↦ elim more [ ] ] in
          (omega arith, box.0, box.1);
      all = λ e from under.
          subst (λ (ps : List (ℕ × ℕ)). In (to_of o n e, e) ps) (sym owes)
          (in_left (to_of o n e, e) (boxes_of (to_of o n) directions) [] (in_boxes (to_of o n) e directions under));
      rights = ap (λ (v : View). v.rights) is ∙ idle.rights;
    }

-- a post that is counted takes one step
pub sent_one : (r d n : ℕ) (old new : View) → new ≡ did_post directions r d n old → suc n < directions → HasSent r d old new
sent_one r d n old new is few =
    let Now : List ℕ → View = λ rights. record old {
      owes = without (same_pair r d) old.owes;
      rights = rights;
      steps = suc old.steps;
    } in
    let now : new ≡ posted r d (suc old.steps) old =
    is ∙ ap (λ (b : Bool). Now (if b then r ∷ old.rights else old.rights)) (ne_eqb (suc n) directions (λ e. omega (arith, e, few))) in
    subst (λ (v : View). HasSent r d old v) (sym now) (record { steps = inl refl; view = refl })

-- where it was the last, and the tile is given back, there are two; a seat that had no right has none
pub sent_two : (r d n q : ℕ) (old mid new : View) → old.rights ≡ [] → mid ≡ did_post directions r d n old → (suc n ≡ directions) × (q ≡ r)
    → new ≡ gave_back q mid → HasSent r d old new
sent_two r d n q old mid new none is last back =
    let Now : List ℕ → View = λ rights. record old {
      owes = without (same_pair r d) old.owes;
      rights = rights;
      steps = suc (suc old.steps);
    } in
    let rights : without (eqb q) (r ∷ old.rights) ≡ old.rights =
    ap (λ (b : Bool). if b then without (eqb q) old.rights else r ∷ without (eqb q) old.rights) (eq-eqb q r last.1)
    ∙ ap (λ (rs : List ℕ). without (eqb q) rs) none ∙ sym none in
    let now : new ≡ posted r d (suc (suc old.steps)) old =
    back ∙ ap (λ (v : View). gave_back q v) is
    ∙ ap (λ (b : Bool). Now (without (eqb q) (if b then r ∷ old.rights else old.rights))) (eq-eqb (suc n) directions last.0) ∙ ap Now rights in
    subst (λ (v : View). HasSent r d old v) (sym now) (record { steps = inr refl; view = refl })

-- one is posted
owes_more : (o : Opening) (t d : ℕ) (v new : View) → OwesFrom o t d v → HasSent (to_of o t d) d v new → OwesFrom o t (d + 1) new
owes_more o t d v new owes sent =
    subst (λ (u : View). OwesFrom o t (d + 1) u) (sym sent.view)
    (record {
      tile = owes.tile;
      lists = λ r e had.
          let was = owes.lists r e (was_in (same_pair (to_of o t d) d) (r, e) v.owes had) in
          let above : d ≤ e = was.0 in
          let apart : e ≡ d → ⊥ = λ same. pair_apart (to_of o t d) d r e (unseen_in (same_pair (to_of o t d) d) (r, e) v.owes had)
          (was.2 ∙ ap (λ (k : ℕ). to_of o t k) same, same) in
          (omega (arith, above, apart), was.1, was.2);
      all = λ e from under.
          kept (same_pair (to_of o t d) d) (to_of o t e, e) v.owes (owes.all e (omega (arith, from)) under)
          (pair_other (to_of o t d) d (to_of o t e) e (λ same. let is_d = same.1 in omega (arith, is_d, from)));
      rights = owes.rights;
    })

-- all are
pub owes_over : (o : Opening) (t d : ℕ) (v : View) → OwesFrom o t d v → directions ≤ d → v.owes ≡ []
owes_over o t d v owes past = none v.owes (λ r e had. owes.lists r e had)
  where
    none : (ps : List (ℕ × ℕ)) → ((r e : ℕ) → In (r, e) ps → (d ≤ e) × (e < directions) × (r ≡ to_of o t e)) → ps ≡ []
    none [] all = refl
    none (p ∷ ps) all =
        let first = all p.0 p.1 (inl refl) in
        let above : d ≤ p.1 = first.0 in
        let under : p.1 < directions = first.1 in
        absurd (omega (arith, past, above, under))

-- the parcels that are still to be posted stay as they are
pub worked_more : (o : Opening) (t d e : ℕ) (old new : TileValue) → new ≡ with_parcel old d None → (e ≡ d → ⊥) → IsSentBy o t e (parcel_at old e)
    → IsSentBy o t e (parcel_at new e)
worked_more o t d e old new is apart sent =
    subst (λ (u : TileValue). IsSentBy o t e (parcel_at u e)) (sym is)
    (subst (λ p. IsSentBy o t e p) (sym (get_or-set_other old.parcels d e None None apart)) sent)

pub some_none : (v : View) → HasPostedSome v v
some_none v = record { same = record { number = refl; taken = refl; unmade = refl }; drawn = refl; told = refl }

some_more : (r d : ℕ) (old v new : View) → HasPostedSome old v → HasSent r d v new → HasPostedSome old new
some_more r d old v new some sent = let is = sent.view in record {
  same = record {
    number = ap (λ (u : View). u.number) is ∙ some.same.number;
    taken = ap (λ (u : View). u.taken) is ∙ some.same.taken;
    unmade = ap (λ (u : View). u.unmade) is ∙ some.same.unmade;
  };
  drawn = ap (λ (u : View). u.drawn) is ∙ some.drawn;
  told = ap (λ (u : View). u.told) is ∙ some.told;
}

module _ (yard : Yard) (t : ℕ) (old : Seat Slot View) where
  pub sending_none : (claim : ClaimValue) → Serves yard old → claim.number ≡ t → OwesAll (opening_of yard) t (view_of old)
      → ((e : ℕ) → e < directions → IsSentBy (opening_of yard) t e (parcel_at claim.held e)) → IsSending yard t 0 old old claim
  sending_none claim serves number owes worked = record {
    serves = serves;
    number = number;
    owes = owes;
    worked = λ e from under. worked e under;
    some = some_none (view_of old);
  }

  pub sending_more : (d dir : ℕ) (seat new : Seat Slot View) (claim after : ClaimValue) → dir ≡ d → IsSending yard t d old seat claim → Serves yard new
      → HasSent (to_of (opening_of yard) claim.number dir) dir (view_of seat) (view_of new) → after.number ≡ claim.number
      → after.held ≡ with_parcel claim.held dir None → IsSending yard t (d + 1) old new after
  sending_more d dir seat new claim after is sending serves sent number taken =
      let o = opening_of yard in
      let post : HasSent (to_of o t d) d (view_of seat) (view_of new) =
      subst (λ (k : ℕ). HasSent (to_of o k d) d (view_of seat) (view_of new)) sending.number
      (subst (λ (e : ℕ). HasSent (to_of o claim.number e) e (view_of seat) (view_of new)) is sent) in
      record {
        serves = serves;
        number = number ∙ sending.number;
        owes = owes_more o t d (view_of seat) (view_of new) sending.owes post;
        worked = λ e from under.
            worked_more o t d e claim.held after.held (subst (λ (k : ℕ). after.held ≡ with_parcel claim.held k None) is taken) (omega (arith, from))
            (sending.worked e (omega (arith, from)) under);
        some = some_more (to_of o t d) d (view_of old) (view_of seat) (view_of new) sending.some post;
      }

  pub sending_all : (d : ℕ) (seat : Seat Slot View) (claim : ClaimValue) → directions ≤ d → IsSending yard t d old seat claim
      → HasPostedAll (view_of old) (view_of seat)
  sending_all d seat claim past sending = record {
    some = sending.some;
    idle = record { owes = owes_over (opening_of yard) t d (view_of seat) sending.owes past; rights = sending.owes.rights };
  }
