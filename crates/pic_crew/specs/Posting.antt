-- The parcels of a worked tile are posted one after another.
use Rattle.std.specs.Prelude.{◌≡◌, ℕ, suc, ◌<◌, ◌≤◌, ◌⊎◌, []}
use Rattle.pic_tile.specs.Directions.{directions}
use Rattle.pic_yard.specs.declared.opening.Opening.{Opening}
use Rattle.pic_yard.specs.declared.view.View.{View}
use Rattle.pic_yard.specs.Contents.{tiles_in, to_of}
use Rattle.pic_yard.specs.Members.{In, same_pair, without}
use Rattle.pic_yard.specs.Seats.{HoldsNothing}

-- a seat that posted the parcel (r, d), after so many steps on words in all; its rights are as before
abbrev pub posted : ℕ → ℕ → ℕ → View → View
posted r d steps v = record v { owes = without (same_pair r d) v.owes; steps = steps }

-- it posted it by one step, or by two where the second gave back the tile that was finished by it
pub record HasSent (r d : ℕ) (old new : View) : Type 0 where
  pub steps : (new.steps ≡ suc old.steps) ⊎ (new.steps ≡ suc (suc old.steps))
  pub view : new ≡ posted r d new.steps old

-- a seat whose one claim is that of the tile t, of which it owes the parcels from the direction d
-- on; it has no right
pub record OwesFrom (o : Opening) (t d : ℕ) (v : View) : Type 0 where
  pub tile : t < tiles_in o
  pub lists : (r e : ℕ) → In (r, e) v.owes → (d ≤ e) × (e < directions) × (r ≡ to_of o t e)
  pub all : (e : ℕ) → d ≤ e → e < directions → In (to_of o t e, e) v.owes
  pub rights : v.rights ≡ []

-- all of them
abbrev pub OwesAll : Opening → ℕ → View → Type 0
OwesAll o t = OwesFrom o t 0

-- a seat that posts has the same numbers and draws as before
pub record IsSameSeat (old new : View) : Type 0 where
  pub number : new.number ≡ old.number
  pub taken : new.taken ≡ old.taken
  pub unmade : new.unmade ≡ old.unmade

-- a seat before and after some posts of parcels of its claim
pub record HasPostedSome (old new : View) : Type 0 where
  pub same : IsSameSeat old new
  pub drawn : new.drawn ≡ old.drawn
  pub told : new.told ≡ old.told

-- or of all: it lists nothing then
pub record HasPostedAll (old new : View) : Type 0 where
  pub some : HasPostedSome old new
  pub idle : HoldsNothing new
