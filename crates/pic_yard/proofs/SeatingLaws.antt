-- What lies with a seat that makes another, and with one that lists nothing.
use Rattle.std.proofs.Common.{◌≡◌, ℕ, List, [], ◌∷◌, true, Bool, eq-eqb, if◌then◌else◌, Some, refl, sym, ap, subst}
use mathlib.Core.Option.{some, some-ne-none}
use Rattle.pic_yard.specs.Fronts.{seek}
use Rattle.pic_tile.specs.CoreState.{IsOpening, IsSoundFrame}
use Rattle.pic_tile.specs.Directions.{here}
use Rattle.pic_yard.specs.declared.opening.Opening.{Opening}
use Rattle.pic_yard.specs.declared.view.View.{View}
use Rattle.pic_yard.specs.Contents.{Slot}
use Rattle.pic_yard.specs.Members.{In}
use Rattle.pic_yard.specs.Seats.{HoldsNothing}
use Rattle.pic_yard.specs.Sits.{Carries, IsMine, Sits}

-- two views that list the same let a seat move the same slots
mine_same : (v u : View) → u.owes ≡ v.owes → u.rights ≡ v.rights → (slot : ℕ) → IsMine v slot → IsMine u slot
mine_same v u owes rights slot (IsMine.a_box r d dir at is) =
    IsMine.a_box r d dir at (subst (λ (ps : List (ℕ × ℕ)). In (r, d) ps) (sym owes) is)
mine_same v u owes rights slot (IsMine.a_home t at is) = IsMine.a_home t at (subst (λ (ps : List (ℕ × ℕ)). In (t, here) ps) (sym owes) is)
mine_same v u owes rights slot (IsMine.of_right r k inside at is) =
    IsMine.of_right r k inside at (subst (λ (rs : List ℕ). In r rs) (sym rights) is)

pub sits_same : (o : Opening) (v u : View) (slots : List (ℕ × Slot)) → Sits o (v, slots) → u.live ≡ true → u.opening ≡ Some o → u.owes ≡ v.owes
    → u.rights ≡ v.rights → Sits o (u, slots)
sits_same o v u slots sits live opened owes rights =
    let c = sits.carries in
    record {
      sound = sits.sound;
      opens = sits.opens;
      live = live;
      opened = opened;
      carries = record {
        near = λ r d is. c.near r d (subst (λ (ps : List (ℕ × ℕ)). In (r, d) ps) owes is);
        inside = λ r is. c.inside r (subst (λ (rs : List ℕ). In r rs) rights is);
        apart = λ r d is had. c.apart r d (subst (λ (ps : List (ℕ × ℕ)). In (r, d) ps) owes is) (subst (λ (rs : List ℕ). In r rs) rights had);
        box = λ r d is. c.box r d (subst (λ (ps : List (ℕ × ℕ)). In (r, d) ps) owes is);
        home = λ t is. c.home t (subst (λ (ps : List (ℕ × ℕ)). In (t, here) ps) owes is);
        mail = λ r d is. c.mail r d (subst (λ (rs : List ℕ). In r rs) rights is);
        right = λ r is. c.right r (subst (λ (rs : List ℕ). In r rs) rights is);
        only = λ slot y there. mine_same v u owes rights slot (c.only slot y there);
        once = c.once;
      };
    }

-- a new seat has no slots
pub new_sits : (o : Opening) (v : View) → IsSoundFrame o.frame → IsOpening o.frame o.tiles.items → v.live ≡ true → v.opening ≡ Some o → v.owes ≡ []
    → v.rights ≡ [] → Sits o (v, [])
new_sits o v sound opens live opened owes rights =
    let none_owed : (r d : ℕ) → In (r, d) v.owes → ⊥ = λ r d is. subst (λ (ps : List (ℕ × ℕ)). In (r, d) ps) owes is in
    let no_right : (r : ℕ) → In r v.rights → ⊥ = λ r is. subst (λ (rs : List ℕ). In r rs) rights is in
    record {
      sound = sound;
      opens = opens;
      live = live;
      opened = opened;
      carries = record {
        near = λ r d is. absurd (none_owed r d is);
        inside = λ r is. absurd (no_right r is);
        apart = λ r d is had. absurd (no_right r had);
        box = λ r d is. absurd (none_owed r d is);
        home = λ t is. absurd (none_owed t here is);
        mail = λ r d is. absurd (no_right r is);
        right = λ r is. absurd (no_right r is);
        only = λ slot y there. absurd (some-ne-none y (sym there));
        once = tt;
      };
    }

none_mine : (v : View) → HoldsNothing v → (slot : ℕ) → IsMine v slot → ⊥
none_mine v idle slot (IsMine.a_box r d dir at is) = subst (λ (ps : List (ℕ × ℕ)). In (r, d) ps) idle.owes is
none_mine v idle slot (IsMine.a_home t at is) = subst (λ (ps : List (ℕ × ℕ)). In (t, here) ps) idle.owes is
none_mine v idle slot (IsMine.of_right r k inside at is) = subst (λ (rs : List ℕ). In r rs) idle.rights is

-- nor has one that lists nothing
pub idle_empty : (o : Opening) (v : View) (slots : List (ℕ × Slot)) → Carries o v slots → HoldsNothing v → slots ≡ []
idle_empty o v [] c idle = refl
idle_empty o v (x ∷ xs) c idle =
    let found : seek x.0 (x ∷ xs) ≡ some x.1 = ap (λ (b : Bool). if b then some x.1 else seek x.0 xs) (eq-eqb x.0 x.0 refl) in
    absurd (none_mine v idle x.0 (c.only x.0 x.1 found))
