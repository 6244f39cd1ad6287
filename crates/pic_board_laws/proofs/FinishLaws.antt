-- The parcels of a tile are merged, that of no step first, and the tile is shut.
use Rattle.std.proofs.Common.{◌≡◌, ℕ, zero, suc, ◌+◌, ◌<◌, ◌≤◌, inl, inr, Bool, true, false, List, [], ◌∷◌, ◌++◌}
use Rattle.std.proofs.Common.{if◌then◌else◌, refl, sym, ap, ◌∙◌, subst, arith, ne_eqb}
use Rattle.std.proofs.Math.Decide.{ℕ_discrete}
use Rattle.pic_tile.specs.CoreState.{CoreState, Stands}
use Rattle.pic_tile.specs.Directions.{directions, here}
use Rattle.pic_core.specs.declared.event.Event.{Event}
use Rattle.pic_core.specs.declared.event.Event.TheVariants.{Merge, Shut}
use Rattle.pic_core.specs.Events.{Ran}
use Rattle.pic_core.specs.InTurn.{finishing, merging, merging_at}
use Rattle.pic_core.proofs.RunLaws.{ran_append, ran_lists}
use Rattle.pic_core.proofs.WorkerLaws.{passed_ran}
use Rattle.pic_yard.specs.declared.opening.Opening.{Opening}
use Rattle.pic_yard.specs.Contents.{tiles_in}
use Rattle.pic_yard.proofs.CountLaws.{at_else, at_here, at_other}
use Rattle.pic_yard.proofs.PostLaws.{posts, posts_it, posts_other, posts_row}
use Rattle.pic_board_laws.proofs.EventLaws.{HasMarks, Leads, marks_same, no_event, merge_leads, shut_leads}

module _ (o : Opening) (f : ℕ → Bool) (p m : ℕ → ℕ → Bool) (h : ℕ → Bool) (r : ℕ) (below : r < tiles_in o)
    (all : (e : ℕ) → e < directions → p r e ≡ true) (none : (e : ℕ) → e < directions → m r e ≡ false) where
  -- that of no step is merged, and those of the directions below i
  record IsMerging (c : CoreState) (i : ℕ) : Type 0 where
    done : ℕ → ℕ → Bool
    way : Leads o c (merging r i) f p done h
    others : (q : ℕ) → (q ≡ r → ⊥) → done q ≡ m q
    first : done r here ≡ true
    before : (e : ℕ) → e < i → done r e ≡ true
    after : (e : ℕ) → i ≤ e → e < directions → (e ≡ here → ⊥) → done r e ≡ false

  -- the next one is passed over, or merged
  merging_next : (c : CoreState) (i : ℕ) → i < directions → IsMerging c i → IsMerging c (i + 1)
  merging_next c i dir x = elim (ℕ_discrete i here) [
    | yes is ↦ record {
      done = x.done;
      way = record {
        next = x.way.next;
        ran = ran_lists c (merging_at r) i x.way.next x.way.next x.way.ran (passed_ran x.way.next r i is);
        stands = x.way.stands;
        marks = x.way.marks;
      };
      others = x.others;
      first = x.first;
      before = λ e less. elim (ℕ_discrete e i) [
        | yes same ↦ ap (x.done r) (same ∙ is) ∙ x.first
        | no apart ↦ x.before e (omega (arith, less, apart))
      ];
      after = λ e past inside other. x.after e (omega (arith, past)) inside other;
    }
    | no other ↦
        let one : Leads o x.way.next (Merge r i ∷ []) f p (posts x.done r i) h =
        merge_leads o x.way.next x.way.stands f p x.done h x.way.marks r i below dir all (x.after i (omega arith) dir other) (inr x.first) in
        let ran : Ran x.way.next (merging_at r i) one.next =
        subst (λ (es : List Event). Ran x.way.next es one.next)
        (ap (λ (b : Bool). if b then [] else Merge r i ∷ []) (sym (ne_eqb i here other))) one.ran in
        record {
          done = posts x.done r i;
          way = record {
            next = one.next;
            ran = ran_lists c (merging_at r) i x.way.next one.next x.way.ran ran;
            stands = one.stands;
            marks = one.marks;
          };
          others = λ q apart. posts_row x.done r i q apart ∙ x.others q apart;
          first = posts_other x.done r i r here (λ same. other (sym same.1)) ∙ x.first;
          before = λ e less. elim (ℕ_discrete e i) [
            | yes same ↦ posts_it x.done r i r e (refl, same)
            | no apart ↦ posts_other x.done r i r e (λ both. apart both.1) ∙ x.before e (omega (arith, less, apart))
          ];
          after = λ e past inside step.
              posts_other x.done r i r e (λ both. let same : e ≡ i = both.1 in omega (arith, past, same))
              ∙ x.after e (omega (arith, past)) inside step;
        }
  ]

  merging_all : (c : CoreState) → IsMerging c 0 → (i : ℕ) → i ≤ directions → IsMerging c i
  merging_all c start zero most = start
  merging_all c start (suc i) most =
      subst (λ (k : ℕ). IsMerging c k) (let e : i + 1 ≡ suc i = omega arith in e)
      (merging_next c i (omega (arith, most)) (merging_all c start i (omega (arith, most))))

  -- when all are merged
  merged_now : (c : CoreState) (x : IsMerging c directions) (q d : ℕ) → d < directions → x.done q d ≡ at_else r (λ e. true) m q d
  merged_now c x q d inside = elim (ℕ_discrete q r) [
    | yes same ↦
        ap (λ (k : ℕ). x.done k d) same ∙ x.before d inside ∙ sym (ap (λ (g : ℕ → Bool). g d) (at_here r q (λ e. true) m same))
    | no apart ↦ ap (λ (g : ℕ → Bool). g d) (x.others q apart ∙ sym (at_other r q (λ e. true) m apart))
  ]

  -- the tile is shut
  shut_next : (c : CoreState) → IsMerging c directions → h r ≡ false
      → Leads o c (merging r directions ++ (Shut r ∷ [])) f p (at_else r (λ e. true) m) (at_else r true h)
  shut_next c x free =
      let end : Leads o x.way.next (Shut r ∷ []) f p x.done (at_else r true h) =
      shut_leads o x.way.next x.way.stands f p x.done h x.way.marks r below x.before free in
      record {
        next = end.next;
        ran = ran_append c (merging r directions) (Shut r ∷ []) x.way.next end.next x.way.ran end.ran;
        stands = end.stands;
        marks = marks_same o end.next f f p p x.done (at_else r (λ e. true) m) (at_else r true h) (at_else r true h)
            (λ k less. refl) (λ q d less inside. refl) (λ q d less inside. merged_now c x q d inside) (λ k less. refl) end.marks;
      }

  pub finish_leads : (c : CoreState) → Stands c → HasMarks o c f p m h → h r ≡ false
      → Leads o c (finishing r) f p (at_else r (λ e. true) m) (at_else r true h)
  finish_leads c stands marks free =
      let one : Leads o c (Merge r here ∷ []) f p (posts m r here) h =
      merge_leads o c stands f p m h marks r here below (omega arith) all (none here (omega arith)) (inl refl) in
      let rest : Leads o one.next (merging r directions ++ (Shut r ∷ [])) f p (at_else r (λ e. true) m) (at_else r true h) =
      shut_next one.next (merging_all one.next (record {
        done = posts m r here;
        way = no_event o one.next one.stands f p (posts m r here) h one.marks;
        others = λ q apart. posts_row m r here q apart;
        first = posts_it m r here r here (refl, refl);
        before = λ e less. absurd (omega (arith, less));
        after = λ e past inside other. posts_other m r here r e (λ both. other both.1) ∙ none e inside;
      }) directions (omega arith)) free in
      record {
        next = rest.next;
        ran = ran_append c (Merge r here ∷ []) (merging r directions ++ (Shut r ∷ [])) one.next rest.next one.ran rest.ran;
        stands = rest.stands;
        marks = rest.marks;
      }
