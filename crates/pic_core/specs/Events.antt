-- The table of the events: where each is allowed, and what it changes; and events one after another.
use Rattle.std.specs.Prelude.{◌≡◌, ℕ, ◌<◌, List, [], ◌∷◌, length, take, slice_index_or}
use Rattle.pic_tile.specs.CoreState.{CoreState, Stands}
use Rattle.pic_tile.specs.CoreEvents.{CanClaim, CanPost, CanMerge, CanShut, Claims, Merges, after_post, after_shut}
use Rattle.pic_core.specs.declared.event.Event.{Event}
use Rattle.pic_core.specs.declared.event.Event.TheVariants.{Claim, Post, Merge, Shut}

abbrev pub Allowed : CoreState → Event → Type 0
Allowed s (Claim t) = CanClaim s t
Allowed s (Post t d) = CanPost s t d
Allowed s (Merge r d) = CanMerge s r d
Allowed s (Shut r) = CanShut s r

abbrev pub Applied : CoreState → Event → CoreState → Type 0
Applied s (Claim t) new = Claims s t new
Applied s (Post t d) new = new ≡ after_post s t d
Applied s (Merge r d) new = Merges s r d new
Applied s (Shut r) new = new ≡ after_shut s r

-- each event of a list is allowed when it comes, and leads to a state that stands
unfoldable pub Ran : CoreState → List Event → CoreState → Type 0
Ran s [] new = new ≡ s
Ran s (event ∷ events) new =
    (next : CoreState) × Allowed s event × Applied s event next × Stands next × Ran next events new

-- the events before that of the number i have come, and that one, the event e, isn't allowed then
pub record IsRefusedAt (s : CoreState) (events : List Event) (i : ℕ) (e : Event) (new : CoreState) : Type 0 where
  pub inside : i < length events
  pub event : slice_index_or events i e ≡ e
  pub before : Ran s (take i events) new
  pub refused : Allowed new e → ⊥
