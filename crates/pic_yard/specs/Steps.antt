-- What each step on a word does to the view of its seat.
use Rattle.std.specs.Prelude.{ℕ, zero, suc, ◌+◌, ◌-◌, max, List, [], ◌∷◌, ◌++◌, Bool, true, false, eqb}
use Rattle.std.specs.Prelude.{if◌then◌else◌, Some, None}
use Rattle.pic_yard.specs.declared.opening.Opening.{Opening}
use Rattle.pic_yard.specs.declared.view.View.{View}
use Rattle.pic_yard.specs.Members.{without, same_pair}

-- a view after one more step on a word, with other draws, and other claims and rights
abbrev pub now_has : View → ℕ → Bool → List (ℕ × ℕ) → List ℕ → View
now_has v drawn told owes rights = record v {
  drawn = drawn;
  told = told;
  owes = owes;
  rights = rights;
  steps = suc v.steps;
}

-- the mailboxes of a claim: in each direction that of the tile to which it leads
unfoldable pub boxes_of : (ℕ → ℕ) → ℕ → List (ℕ × ℕ)
boxes_of to zero = []
boxes_of to (suc d) = (to d, d) ∷ boxes_of to d

-- a draw of the number n: it is that of a tile, which is claimed
abbrev pub did_claim : (ℕ → ℕ → ℕ) → ℕ → ℕ → View → View
did_claim to dirs n v = now_has v (suc n) v.told (boxes_of (to n) dirs ++ v.owes) v.rights

-- or it is past the last tile
abbrev pub was_told : ℕ → View → View
was_told n v = now_has v (suc n) true v.owes v.rights

-- a post to the mailbox (r, d), where n parcels for r were posted before: the last one gives the
-- right
abbrev pub did_post : ℕ → ℕ → ℕ → ℕ → View → View
did_post dirs r d n v =
    now_has v v.drawn v.told (without (same_pair r d) v.owes)
    (if eqb (suc n) dirs then r ∷ v.rights else v.rights)

-- the finished tile r given back
abbrev pub gave_back : ℕ → View → View
gave_back r v = now_has v v.drawn v.told v.owes (without (eqb r) v.rights)

-- a seat that gives away its number x, which was still to be made, and the seat that is made of it
abbrev pub gave_number : ℕ → View → View
gave_number x v = record v { unmade = without (eqb x) v.unmade }

abbrev pub newcomer : View → ℕ → View
newcomer v x =
    record v {
      number = x;
      taken = [];
      unmade = [];
      drawn = 0;
      told = false;
      owes = [];
      rights = [];
      steps = 0;
    }

-- a seat that takes in another, which is spent
abbrev pub took_in : View → View → View
took_in v u =
    record v {
      taken = u.number ∷ (v.taken ++ u.taken);
      unmade = v.unmade ++ u.unmade;
      drawn = max v.drawn u.drawn;
      steps = v.steps + u.steps;
    }

abbrev pub spent_view : View
spent_view =
    record {
      live = false;
      opening = None;
      number = 0;
      taken = [];
      unmade = [];
      drawn = 0;
      told = false;
      owes = [];
      rights = [];
      steps = 0;
    }

-- the n numbers from k on
unfoldable pub ahead : ℕ → ℕ → List ℕ
ahead k zero = []
ahead k (suc n) = k ∷ ahead (suc k) n

-- the view of the first seat, which is still to make all others
abbrev pub first_view : Opening → View
first_view o =
    record {
      live = true;
      opening = Some o;
      number = 0;
      taken = [];
      unmade = ahead 1 (o.seats - 1);
      drawn = 0;
      told = false;
      owes = [];
      rights = [];
      steps = 0;
    }
