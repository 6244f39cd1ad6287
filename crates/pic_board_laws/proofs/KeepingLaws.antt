-- That a state ends a history of the board is kept as its rule is.
use Rattle.std.proofs.Common.{◌≡◌, List, [], ◌∷◌, ◌++◌, refl, sym, ◌∙◌, subst}
use Rattle.atomic_table.specs.Table.{State}
use Rattle.atomic_table.proofs.Lists.{set_else}
use Rattle.pic_yard.specs.declared.opening.Opening.{Opening}
use Rattle.pic_yard.specs.declared.view.View.{View}
use Rattle.pic_yard.specs.Contents.{Slot}
use Rattle.pic_yard.specs.Rule.{Rule}
use Rattle.pic_yard.proofs.ArrivedLaws.{post_allowed}
use Rattle.pic_yard.proofs.DrawLaws.{draw_allowed}
use Rattle.pic_yard.proofs.ReturnLaws.{back_allowed}
use Rattle.pic_yard.proofs.TeamLaws.{split_allowed, join_allowed}
use Rattle.pic_board_laws.specs.BoardSteps.{IsStep}
use Rattle.pic_board_laws.specs.BoardSteps as steps
use Rattle.pic_board_laws.specs.Histories.{Follow, last_of, EndsHistory, EachStateEndsAHistory}

-- one step more
follow_more : (o : Opening) (start : State Slot View) (between : List (State Slot View)) (s next : State Slot View) → Follow o start between
    → last_of start between ≡ s → Rule o s → IsStep o s next → Follow o start (between ++ next ∷ [])
follow_more o start [] s next way last rule step =
    (subst (λ (z : State Slot View). Rule o z) (sym last) rule, subst (λ (z : State Slot View). IsStep o z next) (sym last) step, tt)
follow_more o start (first ∷ between) s next way last rule step =
    (way.0, way.1, follow_more o first between s next way.2 last rule step)

last_more : (start : State Slot View) (between : List (State Slot View)) (next : State Slot View) → last_of start (between ++ next ∷ []) ≡ next
last_more start [] next = refl
last_more start (first ∷ between) next = last_more first between next

goes_on : (o : Opening) (start s next : State Slot View) → EndsHistory o start s → Rule o next → IsStep o s next → EndsHistory o start next
goes_on o start s next x rule step = record {
  between = x.between ++ next ∷ [];
  way = follow_more o start x.between s next x.way x.last x.rule step;
  last = last_more start x.between next;
  rule = rule;
}

pub history_kept : EachStateEndsAHistory
history_kept o start = record {
  begins = λ rule. record { between = []; way = tt; last = refl; rule = rule };
  draw = λ slots id me sits fresh s x long there small.
      let found = draw_allowed o slots id me sits fresh s x.rule long there small in (
        found.0,
        found.1,
        found.2,
        goes_on o start s _ x found.3
            (steps.draws id me (record { there = there; sits = sits; after = found.0; act = found.1; told = found.4; is = refl })),
        found.4,
      );
  post = λ slots id me r d parcel list ready s x long there small.
      let found = post_allowed o slots id me r d parcel list ready s x.rule long there small in (
        found.0,
        found.1,
        found.2,
        goes_on o start s _ x found.3
            (steps.posts id me r d parcel list (record { there = there; ready = ready; after = found.0; act = found.1; told = found.4; is = refl })),
        found.4,
      );
  back = λ slots id me r tile list ready s x long there small.
      let found = back_allowed o slots id me r tile list ready s x.rule long there small in (
        found.0,
        found.1,
        found.2,
        goes_on o start s _ x found.3
            (steps.returns id me r tile list (record { there = there; ready = ready; after = found.0; act = found.1; told = found.4; is = refl })),
        found.4,
      );
  split = λ id v x live opened unmade s h there.
      goes_on o start s _ h (split_allowed o id v x live opened unmade s h.rule there)
      (steps.splits id v x (record { there = there; live = live; opened = opened; unmade = unmade; is = refl }));
  join = λ id v other u live opened taken_live told owes rights s h there apart taken.
      goes_on o start s _ h (join_allowed o id v other u live opened taken_live told owes rights s h.rule there apart taken)
      (steps.joins id v other u (record {
        there = there;
        live = live;
        opened = opened;
        apart = apart;
        taken = sym (set_else s.views id other _ apart) ∙ taken;
        taken_live = taken_live;
        told = told;
        owes = owes;
        rights = rights;
        is = refl;
      }));
}
