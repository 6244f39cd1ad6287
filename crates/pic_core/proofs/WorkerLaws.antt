-- One worker's events, joined: what each of its functions does.
use Rattle.std.proofs.Common.{◌≡◌, ℕ, ◌+◌, ◌<◌, inl, inr, Bool, true, false, ◌||◌, nat_eq, nat_lt, List}
use Rattle.std.proofs.Common.{[], ◌∷◌, ◌++◌, cond, flat_map, refl, sym, ap, ◌∙◌, subst, arith, eq-eqb, ne_eqb}
use Rattle.std.proofs.lemmas.Bool.{false≢true}
use Rattle.std.specs.List.{range_with_len}
use Rattle.pic_tile.specs.CoreEvents.{CanClaim, CanPost, CanMerge, CanShut, Claims, Merges, after_post, after_shut}
use Rattle.pic_tile.specs.CoreState.{CoreState, Stands, tile_count, slot_of, mark}
use Rattle.pic_tile.specs.Directions.{directions, here}
use Rattle.pic_tile.specs.Frame.{FrameValue}
use Rattle.pic_tile.specs.Tiling.{neighbour_of}
use Rattle.pic_tile.proofs.AllTilesLaws.{neighbour_below}
use Rattle.pic_block.specs.Cells.{count_of}
use Rattle.pic_core.specs.declared.event.Event.{Event}
use Rattle.pic_core.specs.declared.event.Event.TheVariants.{Claim, Post, Merge, Shut}
use Rattle.pic_core.specs.Events.{Ran}
use Rattle.pic_core.specs.InTurn.{IsAt, IsFinishing, finishing, is_complete, merging, merging_at, posting, tiling, turn_of, up_to}
use Rattle.pic_core.proofs.AtLaws.{posted_all, next_merge, merged_next, next_shut, shut_next}
use Rattle.pic_core.proofs.RunLaws.{ran_none, ran_event, ran_append}
use Rattle.pic_core.proofs.TurnLaws.{lt_true, lt_false, lt_more, all_at, all_of}

-- the tile to which a parcel is posted
abbrev goal_of : CoreState → ℕ → ℕ → ℕ
goal_of s t d = neighbour_of s.frame.map.tiles t d

pub goal_same : (s now : CoreState) (t d : ℕ) → now.frame ≡ s.frame → goal_of now t d ≡ goal_of s t d
goal_same s now t d same = ap (λ (f : FrameValue). neighbour_of f.map.tiles t d) same

pub count_same : (s now : CoreState) (t : ℕ) → now.frame ≡ s.frame → t < tile_count s → t < tile_count now
count_same s now t same below = subst (λ (f : FrameValue). t < count_of f.map.tiles) (sym same) below

-- the directions that are done
up_here : (i : ℕ) → up_to i here ≡ true
up_here i = ap (λ (b : Bool). b || nat_lt here i) (eq-eqb here here refl)

up_at : (i : ℕ) → (i ≡ here → ⊥) → up_to i i ≡ false
up_at i apart = (λ k. ne_eqb i here apart k || lt_false i i (omega arith) k)

up_now : (i : ℕ) → up_to (i + 1) i ≡ true
up_now i = either (nat_eq i here) (nat_lt i (i + 1)) (lt_true i (i + 1) (omega arith))
  where
    either : (a b : Bool) → b ≡ true → (a || b) ≡ true
    either true b is = refl
    either false b is = is

up_other : (i e : ℕ) → (e ≡ i → ⊥) → up_to (i + 1) e ≡ up_to i e
up_other i e apart = ap (λ (b : Bool). nat_eq e here || b) (lt_more e i apart)

up_first : (e : ℕ) → (e ≡ here → ⊥) → up_to 0 e ≡ false
up_first e apart = (λ k. ne_eqb e here apart k || lt_false e 0 (omega arith) k)

up_all : (e : ℕ) → e < directions → up_to directions e ≡ true
up_all e below = either (nat_eq e here) (nat_lt e directions) (lt_true e directions below)
  where
    either : (a b : Bool) → b ≡ true → (a || b) ≡ true
    either true b is = refl
    either false b is = is

-- A merge.
module _ (s : CoreState) (t d to : ℕ) (is : to ≡ goal_of s t d) (below : t < tile_count s) (within : d < directions) where
  pub finish_can : IsFinishing t d (λ e. false) s → CanMerge s to here
  finish_can at =
      subst (λ (k : ℕ). CanMerge s k here) (sym is) (next_merge s t d (λ e. false) below within at here (omega arith) refl (inl refl))

  pub finish_begun : (next : CoreState) → IsFinishing t d (λ e. false) s → Stands s → Merges s to here next → IsFinishing t d (up_to 0) next
  finish_begun next at stands merges =
      merged_next s t d (λ e. false) below within at here (up_to 0) next stands.places (omega arith) (subst (λ (k : ℕ). Merges s k here next) is merges)
      (up_here 0) (λ f inside apart. up_first f apart)

  pub merge_can : (i e : ℕ) → e ≡ i → i < directions → (i ≡ here → ⊥) → IsFinishing t d (up_to i) s → CanMerge s to e
  merge_can i e same among apart at =
      subst (λ (j : ℕ). CanMerge s to j) (sym same) (subst (λ (k : ℕ). CanMerge s k i) (sym is)
      (next_merge s t d (up_to i) below within at i among (up_at i apart) (inr (up_here i))))

  pub merge_did : (i e : ℕ) (next : CoreState) → e ≡ i → i < directions → IsFinishing t d (up_to i) s → Stands s → Merges s to e next
      → IsFinishing t d (up_to (i + 1)) next
  merge_did i e next same among at stands merges =
      merged_next s t d (up_to i) below within at i (up_to (i + 1)) next stands.places among
      (subst (λ (k : ℕ). Merges s k i next) is (subst (λ (j : ℕ). Merges s to j next) same merges)) (up_now i) (λ f inside apart. up_other i f apart)

  pub merge_ran : (i e : ℕ) (next : CoreState) → e ≡ i → (i ≡ here → ⊥) → CanMerge s to e → Merges s to e next → Stands next → Ran s (merging_at to i) next
  merge_ran i e next same apart can merges stands =
      let one : Ran s (Merge to e ∷ []) next = ran_event s (Merge to e) next can merges stands in
      let list : Merge to e ∷ [] ≡ merging_at to i =
      ap (λ (j : ℕ). Merge to j ∷ []) same ∙ ap (λ (b : Bool). cond b [] (Merge to i ∷ [])) (sym (ne_eqb i here apart)) in
      subst (λ (es : List Event). Ran s es next) list one

  pub shut_can : IsFinishing t d (up_to directions) s → CanShut s to
  shut_can at = subst (λ (k : ℕ). CanShut s k) (sym is) (next_shut s t d (up_to directions) below within at up_all)

  pub shut_did : (next : CoreState) → IsFinishing t d (up_to directions) s → Stands s → next ≡ after_shut s to
      → IsAt (t + 1) (slot_of t d + 1) (slot_of t d + 1) next
  shut_did next at stands done =
      shut_next s t d (up_to directions) below within at next stands.places up_all (done ∙ ap (after_shut s) is)

-- that of no step is passed over
pub passed_ran : (s : CoreState) (r i : ℕ) → i ≡ here → Ran s (merging_at r i) s
passed_ran s r i same =
    subst (λ (es : List Event). Ran s es s) (ap (λ (b : Bool). cond b [] (Merge r i ∷ [])) (sym (eq-eqb i here same))) (ran_none s)

-- all merges of a tile and its shutting
pub finish_ran : (s one two next : CoreState) (to : ℕ) → CanMerge s to here → Merges s to here one → Stands one → Ran one (merging to directions) two
    → CanShut two to → next ≡ after_shut two to → Stands next → Ran s (finishing to) next
finish_ran s one two next to can merges stands ran shut done last =
    let end : Ran two (Shut to ∷ []) next = ran_event two (Shut to) next shut done last in
    ran_append s (Merge to here ∷ []) (merging to directions ++ (Shut to ∷ [])) one next (ran_event s (Merge to here) one can merges stands)
    (ran_append one (merging to directions) (Shut to ∷ []) two next ran end)

-- After a post all that lead to its tile are posted exactly where the tile is complete.
module _ (s : CoreState) (t d to : ℕ) (marks : List Bool) (below : t < tile_count s) (within : d < directions) (at : IsAt (t + 1) (slot_of t d) (slot_of t d) s)
    (stands : Stands s) (is : to ≡ goal_of s t d) (marks_are : marks ≡ (after_post s t d).posted)
  where
    marked : (e : ℕ) → e < directions → mark marks (slot_of to e) ≡ nat_lt (turn_of s.frame.map (goal_of s t d) e) (slot_of t d + 1)
    marked e inside =
        (λ i. mark (marks_are i) (slot_of (is i) e))
        ∙ posted_all s t d below within at stands.places (goal_of s t d) e (neighbour_below s.frame.map.tiles t d below) inside

    pub marked_all : ((e : ℕ) → e < directions → mark marks (slot_of to e) ≡ true) → is_complete s.frame.map (slot_of t d + 1) (goal_of s t d) ≡ true
    marked_all on =
        all_of directions (λ e. nat_lt (turn_of s.frame.map (goal_of s t d) e) (slot_of t d + 1)) (λ e inside. sym (marked e inside) ∙ on e inside)

    pub marked_not : (((e : ℕ) → e < directions → mark marks (slot_of to e) ≡ true) → false ≡ true)
        → is_complete s.frame.map (slot_of t d + 1) (goal_of s t d) ≡ false
    marked_not off = by_test (is_complete s.frame.map (slot_of t d + 1) (goal_of s t d)) refl
      where
        by_test : (b : Bool) → is_complete s.frame.map (slot_of t d + 1) (goal_of s t d) ≡ b → is_complete s.frame.map (slot_of t d + 1) (goal_of s t d) ≡ false
        by_test false all = all
        by_test true all = absurd (false≢true (off (λ e inside.
            marked e inside ∙ all_at directions (λ f. nat_lt (turn_of s.frame.map (goal_of s t d) f) (slot_of t d + 1)) e all inside)))

-- A post, and what follows it.
pub post_ran_last : (s one next : CoreState) (t d to : ℕ) → to ≡ goal_of s t d → CanPost s t d → one ≡ after_post s t d → Stands one
    → is_complete s.frame.map (slot_of t d + 1) (goal_of s t d) ≡ true → Ran one (finishing to) next → Ran s (posting s.frame.map t d) next
post_ran_last s one next t d to is can done stands all ran =
    let rest : Ran one (finishing (goal_of s t d)) next = subst (λ (k : ℕ). Ran one (finishing k) next) is ran in
    let both : Ran s (Post t d ∷ finishing (goal_of s t d)) next =
    ran_append s (Post t d ∷ []) (finishing (goal_of s t d)) one next (ran_event s (Post t d) one can done stands) rest in
    subst (λ (b : Bool). Ran s (Post t d ∷ cond b (finishing (goal_of s t d)) []) next) (sym all) both

pub post_ran_more : (s next : CoreState) (t d : ℕ) → CanPost s t d → next ≡ after_post s t d → Stands next
    → is_complete s.frame.map (slot_of t d + 1) (goal_of s t d) ≡ false → Ran s (posting s.frame.map t d) next
post_ran_more s next t d can done stands more =
    subst (λ (b : Bool). Ran s (Post t d ∷ cond b (finishing (goal_of s t d)) []) next) (sym more) (ran_event s (Post t d) next can done stands)

-- A claim, and the posts that follow it.
pub tile_ran : (s one next : CoreState) (t : ℕ) → CanClaim s t → Claims s t one → Stands one
    → Ran one (flat_map (posting one.frame.map t) (range_with_len 0 directions)) next → Ran s (tiling s.frame.map t) next
tile_ran s one next t can claims stands ran =
    let same : one.frame ≡ s.frame = ap (λ (z : CoreState). z.frame) claims.is in
    let rest : Ran one (flat_map (posting s.frame.map t) (range_with_len 0 directions)) next =
    subst (λ (f : FrameValue). Ran one (flat_map (posting f.map t) (range_with_len 0 directions)) next) same ran in
    ran_append s (Claim t ∷ []) (flat_map (posting s.frame.map t) (range_with_len 0 directions)) one next (ran_event s (Claim t) one can claims stands) rest
