-- What lies in the slots, and which are away, through a claim and where a finished tile is given
-- back.
use Rattle.std.proofs.Common.{◌≡◌, ℕ, suc, ◌<◌, ◌≤◌, List, Bool, true, false, eqb, eq-eqb, ne_eqb, if◌then◌else◌, refl, sym, ap, ◌∙◌, subst, arith}
use Rattle.std.proofs.Common.{true≢false}
use Rattle.std.proofs.Math.Decide.{ℕ_discrete}
use mathlib.Core.Option.{Option, none, some}
use lib.ListN.{get_elem?}
use Rattle.pic_yard.specs.Marks.{Board}
use Rattle.pic_yard.specs.Members.{count_below}
use Rattle.pic_yard.proofs.Ways.{AreWays}
use Rattle.pic_yard.specs.Places.{slot_in, IsHome, Kinds, Places, Aways}
use Rattle.pic_yard.proofs.CountLaws.{at_else, at_here, at_other, count_all}
use Rattle.pic_yard.proofs.CollectLaws.{slot_row, slot_place, cleared, Collected, collect}

pub own_from : (tiles dirs here : ℕ) (to from : ℕ → ℕ → ℕ) → AreWays tiles dirs here to from → (t : ℕ) → t < tiles → from t here ≡ t
own_from tiles dirs here to from ways t tile = ap (λ (r : ℕ). from r here) (sym (ways.stays t tile)) ∙ ways.back t here tile ways.here_below

pub home_still : {S : Type 0} (homes later : List (Option S)) (at : ℕ) (P : S → Type 0) → get_elem? later at ≡ get_elem? homes at → IsHome homes at P
    → IsHome later at P
home_still homes later at P same h = record { value = h.value; there = same ∙ h.there; is = h.is }

-- what holds of the slots of a board, and of its marks what they need
pub record SlotsHold {S : Type 0} (kinds : Kinds S) (b : Board) (to : ℕ → ℕ → ℕ) : Type 0 where
  pub homes : List (Option S)
  pub ways : AreWays b.tiles b.dirs b.here to b.from
  pub came : (r d : ℕ) → r < b.tiles → d < b.dirs → b.posted r d ≡ true → b.from r d < b.ticket
  pub whole : (r : ℕ) → r < b.tiles → b.shut r ≡ true → count_below (b.posted r) b.dirs ≡ b.dirs
  pub places : Places kinds b homes
  pub aways : Aways b homes

module _ {S : Type 0} {kinds : Kinds S} {b : Board} {to : ℕ → ℕ → ℕ} (h : SlotsHold kinds b to) where
  open b use {tiles, dirs, here, ticket, from, posted, shut}
  open h use {ways, homes, came, whole, places, aways}

  -- of a tile whose parcels are all posted all senders are claimed, and it is claimed itself
  pub senders_claimed : (r d : ℕ) → r < tiles → d < dirs → count_below (posted r) dirs ≡ dirs → from r d < ticket
  senders_claimed r d tile dir full = came r d tile dir (count_all (posted r) dirs d full dir)

  pub tile_claimed : (r : ℕ) → r < tiles → posted r here ≡ true → r < ticket
  tile_claimed r tile is = subst (λ (k : ℕ). k < ticket) (own_from tiles dirs here to from ways r tile) (came r here tile ways.here_below is)

  pub shut_claimed : (r d : ℕ) → r < tiles → d < dirs → shut r ≡ true → from r d < ticket
  shut_claimed r d tile dir closed = senders_claimed r d tile dir (whole r tile closed)

  pub shut_own : (r : ℕ) → r < tiles → shut r ≡ true → r < ticket
  shut_own r tile closed = tile_claimed r tile (count_all (posted r) dirs here (whole r tile closed) ways.here_below)

  -- The slots of a claim: the mailboxes to which the tile's parcels go, and its home slot.
  unfoldable pub claim_slot : ℕ → ℕ
  claim_slot k = slot_in dirs (if eqb k dirs then ticket else to ticket k) k

  abbrev kind_by : Bool → S → Type 0
  kind_by true = kinds.IsTile ticket
  kind_by false = kinds.IsEmpty

  unfoldable pub claim_kind : ℕ → S → Type 0
  claim_kind k = kind_by (eqb k dirs)

  pub claim_home : claim_slot dirs ≡ slot_in dirs ticket dirs
  unfolding claim_slot
  claim_home = ap (λ (b : Bool). slot_in dirs (if b then ticket else to ticket dirs) dirs) (eq-eqb dirs dirs refl)

  pub claim_box : (k : ℕ) → (k ≡ dirs → ⊥) → claim_slot k ≡ slot_in dirs (to ticket k) k
  unfolding claim_slot
  claim_box k apart = ap (λ (b : Bool). slot_in dirs (if b then ticket else to ticket k) k) (ne_eqb k dirs apart)

  pub kind_home : claim_kind dirs ≡ kinds.IsTile ticket
  unfolding claim_kind
  kind_home = ap (λ (b : Bool). kind_by b) (eq-eqb dirs dirs refl)

  pub kind_box : (k : ℕ) → (k ≡ dirs → ⊥) → claim_kind k ≡ kinds.IsEmpty
  unfolding claim_kind
  kind_box k apart = ap (λ (b : Bool). kind_by b) (ne_eqb k dirs apart)

  claim_one : (k l : ℕ) → k < suc dirs → l < suc dirs → claim_slot k ≡ claim_slot l → k ≡ l
  unfolding claim_slot
  claim_one k l first second same =
      slot_place dirs (if eqb k dirs then ticket else to ticket k) k (if eqb l dirs then ticket else to ticket l) l first second same

  claim_there : ticket < tiles → (k : ℕ) → k < suc dirs → IsHome homes (claim_slot k) (claim_kind k)
  unfolding claim_kind
  claim_there tile k below = elim (ℕ_discrete k dirs) [
    | yes is ↦
        let kind : kinds.IsTile ticket ≡ claim_kind k = sym (ap (λ (b : Bool). kind_by b) (eq-eqb k dirs is)) in
        let at : claim_slot k ≡ slot_in dirs ticket dirs = ap claim_slot is ∙ claim_home in
        subst (λ (P : S → Type 0). IsHome homes (claim_slot k) P) kind
        (subst (λ (s : ℕ). IsHome homes s (kinds.IsTile ticket)) (sym at) (places.opening ticket tile (omega arith)))
    | no apart ↦
        let dir : k < dirs = omega (arith, below, apart) in
        let kind : kinds.IsEmpty ≡ claim_kind k = sym (ap (λ (b : Bool). kind_by b) (ne_eqb k dirs apart)) in
        let sender : from (to ticket k) k ≡ ticket = ways.back ticket k tile dir in
        subst (λ (P : S → Type 0). IsHome homes (claim_slot k) P) kind
        (subst (λ (s : ℕ). IsHome homes s kinds.IsEmpty) (sym (claim_box k apart)) (places.bare (to ticket k) k (ways.to_below ticket k tile dir) dir
        (omega (arith, sender))))
  ]

  -- all of them are at home
  pub claim_takes : ticket < tiles → S → Collected homes (suc dirs) claim_slot claim_kind
  claim_takes tile y = collect homes (suc dirs) claim_slot claim_kind (claim_there tile) claim_one y

  module _ (tile : ticket < tiles) (got : Collected homes (suc dirs) claim_slot claim_kind) where
    abbrev later : List (Option S)
    later = cleared homes got.list

    -- a mailbox of another sender, and the home slot of another tile
    box_same : (r d : ℕ) → r < tiles → d < dirs → (from r d ≡ ticket → ⊥) → get_elem? later (slot_in dirs r d) ≡ get_elem? homes (slot_in dirs r d)
    box_same r d inside dir differs = got.others (slot_in dirs r d) (λ k below same. elim (ℕ_discrete k dirs) [
      | yes is ↦
          let at : slot_in dirs r d ≡ slot_in dirs ticket dirs = same ∙ ap claim_slot is ∙ claim_home in
          let e : d ≡ dirs = slot_place dirs r d ticket dirs (omega arith) (omega arith) at in omega (arith, e, dir)
      | no apart ↦
          let at : slot_in dirs r d ≡ slot_in dirs (to ticket k) k = same ∙ claim_box k apart in
          let row : r ≡ to ticket k = slot_row dirs r d (to ticket k) k (omega arith) below at in
          let e : d ≡ k = slot_place dirs r d (to ticket k) k (omega arith) below at in
          differs (ap (λ (q : ℕ). from q d) row ∙ ap (λ (l : ℕ). from (to ticket k) l) e ∙ ways.back ticket k tile (omega (arith, below, apart)))
    ])

    home_same : (t : ℕ) → (t ≡ ticket → ⊥) → get_elem? later (slot_in dirs t dirs) ≡ get_elem? homes (slot_in dirs t dirs)
    home_same t differs = got.others (slot_in dirs t dirs) (λ k below same. elim (ℕ_discrete k dirs) [
      | yes is ↦
          let at : slot_in dirs t dirs ≡ slot_in dirs ticket dirs = same ∙ ap claim_slot is ∙ claim_home in
          differs (slot_row dirs t dirs ticket dirs (omega arith) (omega arith) at)
      | no apart ↦
          let at : slot_in dirs t dirs ≡ slot_in dirs (to ticket k) k = same ∙ claim_box k apart in
          apart (sym (slot_place dirs t dirs (to ticket k) k (omega arith) below at))
    ])

    pub claim_places : Places kinds (record b { ticket = suc b.ticket }) later
    claim_places = record {
      bare = λ r d inside dir sender.
          home_still homes later (slot_in dirs r d) kinds.IsEmpty (box_same r d inside dir (λ e. omega (arith, sender, e))) (places.bare r d inside dir
          (omega arith));
      full = λ r d inside dir is few. let less : from r d < ticket = came r d inside dir is in
          home_still homes later (slot_in dirs r d) (kinds.IsParcel (from r d) d) (box_same r d inside dir (λ e. omega (arith, less, e)))
          (places.full r d inside dir is few);
      emptied = λ r d inside dir closed. let less : from r d < ticket = shut_claimed r d inside dir closed in
          home_still homes later (slot_in dirs r d) kinds.IsEmpty (box_same r d inside dir (λ e. omega (arith, less, e)))
          (places.emptied r d inside dir closed);
      opening = λ t inside above.
          home_still homes later (slot_in dirs t dirs) (kinds.IsTile t) (home_same t (λ e. omega (arith, above, e))) (places.opening t inside (omega arith));
      between = λ t inside is few. let less : t < ticket = tile_claimed t inside is in
          home_still homes later (slot_in dirs t dirs) kinds.IsVacant (home_same t (λ e. omega (arith, less, e))) (places.between t inside is few);
      finished = λ r inside closed. let less : r < ticket = shut_own r inside closed in
          home_still homes later (slot_in dirs r dirs) (kinds.IsFinished r) (home_same r (λ e. omega (arith, less, e))) (places.finished r inside closed);
    }

    pub claim_aways : Aways (record b { ticket = suc b.ticket }) later
    claim_aways = record {
      lent = λ r d inside dir sender free. elim (ℕ_discrete (from r d) ticket) [
        | yes is ↦
            let apart : d ≡ dirs → ⊥ = λ e. omega (arith, e, dir) in
            let row : to ticket d ≡ r = ap (λ (t : ℕ). to t d) (sym is) ∙ ways.forth r d inside dir in
            subst (λ (s : ℕ). get_elem? later s ≡ some none) (claim_box d apart ∙ ap (λ (q : ℕ). slot_in dirs q d) row) (got.away d (omega arith))
        | no apart ↦ got.stays (slot_in dirs r d) (aways.lent r d inside dir (omega (arith, sender, apart)) free)
      ];
      left = λ t inside below free. elim (ℕ_discrete t ticket) [
        | yes is ↦
            subst (λ (s : ℕ). get_elem? later s ≡ some none) (claim_home ∙ ap (λ (q : ℕ). slot_in dirs q dirs) (sym is)) (got.away dirs (omega arith))
        | no apart ↦ got.stays (slot_in dirs t dirs) (aways.left t inside (omega (arith, below, apart)) free)
      ];
      held = λ r k inside below full open_yet. got.stays (slot_in dirs r k) (aways.held r k inside below full open_yet);
    }

  -- a draw past the last tile moves no slot
  pub told_places : tiles ≤ ticket → Places kinds (record b { ticket = suc b.ticket }) homes
  told_places past = record {
    bare = λ r d inside dir sender. places.bare r d inside dir (omega arith);
    full = places.full;
    emptied = places.emptied;
    opening = λ t inside above. places.opening t inside (omega arith);
    between = places.between;
    finished = places.finished;
  }

  pub told_aways : tiles ≤ ticket → Aways (record b { ticket = suc b.ticket }) homes
  told_aways past = record {
    lent = λ r d inside dir sender free. let less : from r d < tiles = ways.from_below r d inside dir in aways.lent r d inside dir (omega
        (arith, less, past)) free;
    left = λ t inside below free. aways.left t inside (omega (arith, inside, past)) free;
    held = aways.held;
  }

  -- A finished tile is given back: its mailboxes come home empty, its home slot with the tile.
  pub record ComesBack (r : ℕ) (later : List (Option S)) : Type 0 where
    pub boxes : (d : ℕ) → d < dirs → IsHome later (slot_in dirs r d) kinds.IsEmpty
    pub home : IsHome later (slot_in dirs r dirs) (kinds.IsFinished r)
    pub others : (q k : ℕ) → (q ≡ r → ⊥) → k < suc dirs → get_elem? later (slot_in dirs q k) ≡ get_elem? homes (slot_in dirs q k)

  module _ (r : ℕ) (inside : r < tiles) (full : count_below (posted r) dirs ≡ dirs) (later : List (Option S)) (back : ComesBack r later) where
    abbrev after : ℕ → Bool
    after = at_else r true shut

    was : (q : ℕ) → (q ≡ r → ⊥) → after q ≡ true → shut q ≡ true
    was q apart closed = sym (at_other r q true shut apart) ∙ closed

    pub back_places : Places kinds (record b { shut = after }) later
    back_places = record {
      bare = λ q d tile dir sender.
          let apart : q ≡ r → ⊥ = λ e. let less : from q d < ticket = senders_claimed q d tile dir (ap (λ (k : ℕ). count_below (posted k) dirs) e
          ∙ full) in omega (arith, less, sender) in
          home_still homes later (slot_in dirs q d) kinds.IsEmpty (back.others q d apart (omega arith)) (places.bare q d tile dir sender);
      full = λ q d tile dir is few.
          let apart : q ≡ r → ⊥ = λ e. let all : count_below (posted q) dirs ≡ dirs = ap (λ (k : ℕ). count_below (posted k) dirs) e
          ∙ full in omega (arith, all, few) in
          home_still homes later (slot_in dirs q d) (kinds.IsParcel (from q d) d) (back.others q d apart (omega arith)) (places.full q d tile dir is few);
      emptied = λ q d tile dir closed. elim (ℕ_discrete q r) [
        | yes is ↦ subst (λ (k : ℕ). IsHome later (slot_in dirs k d) kinds.IsEmpty) (sym is) (back.boxes d dir)
        | no apart ↦ home_still homes later (slot_in dirs q d) kinds.IsEmpty (back.others q d apart (omega arith)) (places.emptied q d tile dir
            (was q apart closed))
      ];
      opening = λ t tile above.
          let apart : t ≡ r → ⊥ = λ e. let less : r < ticket = tile_claimed r inside (count_all (posted r) dirs here full ways.here_below) in omega
          (arith, less, above, e) in
          home_still homes later (slot_in dirs t dirs) (kinds.IsTile t) (back.others t dirs apart (omega arith)) (places.opening t tile above);
      between = λ t tile is few.
          let apart : t ≡ r → ⊥ = λ e. let all : count_below (posted t) dirs ≡ dirs = ap (λ (k : ℕ). count_below (posted k) dirs) e
          ∙ full in omega (arith, all, few) in
          home_still homes later (slot_in dirs t dirs) kinds.IsVacant (back.others t dirs apart (omega arith)) (places.between t tile is few);
      finished = λ q tile closed. elim (ℕ_discrete q r) [
        | yes is ↦ subst (λ (k : ℕ). IsHome later (slot_in dirs k dirs) (kinds.IsFinished k)) (sym is) back.home
        | no apart ↦ home_still homes later (slot_in dirs q dirs) (kinds.IsFinished q) (back.others q dirs apart (omega arith)) (places.finished q tile
            (was q apart closed))
      ];
    }

    pub back_aways : Aways (record b { shut = after }) later
    back_aways = record {
      lent = λ q d tile dir sender free.
          let apart : q ≡ r → ⊥ = λ e. true≢false (sym (ap (λ (k : ℕ). posted k d) e ∙ count_all (posted r) dirs d full dir) ∙ free) in
          back.others q d apart (omega arith) ∙ aways.lent q d tile dir sender free;
      left = λ t tile below free.
          let apart : t ≡ r → ⊥ = λ e. true≢false (sym (ap (λ (k : ℕ). posted k here) e ∙ count_all (posted r) dirs here full ways.here_below) ∙ free) in
          back.others t dirs apart (omega arith) ∙ aways.left t tile below free;
      held = λ q k tile below all open_yet.
          let apart : q ≡ r → ⊥ = λ e. true≢false (sym (at_here r q true shut e) ∙ open_yet) in
          back.others q k apart below ∙ aways.held q k tile below all (sym (at_other r q true shut apart) ∙ open_yet);
    }
