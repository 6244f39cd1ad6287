-- The state before the first event stands.
use Rattle.std.proofs.Common.{◌≡◌, ℕ, ◌*◌, ◌<◌, Bool, false, List, [], ◌∷◌, length, get_or, sum_by, replicate, Option, None, refl, sym, ap, ◌∙◌, subst, arith}
use Rattle.std.proofs.lemmas.List.{length-replicate, get_or_default}
use Rattle.std.proofs.lemmas.List.Folds.{sum_by-replicate}
use Rattle.std.proofs.lemmas.List.Sums.{sum_by-cons}
use Rattle.pic_num.specs.declared.motion.Particle.{Particle}
use Rattle.pic_tile.proofs.SameLaws.{sum_by-map, sum_by-together, sum_by_agree}
use Rattle.pic_tile.proofs.StandForLaws.{stands_together}
use Rattle.pic_tile.specs.declared.parcel.Parcel.{Parcel}
use Rattle.pic_tile.specs.CoreState.{CoreState, Stands, HasCensus, HasPlaces, IsInPlace, IsInTurn, IsOpening, IsSoundFrame, tile_count, slot_of}
use Rattle.pic_tile.specs.CoreState.{mark, is_claimed, is_posted, is_merged, is_shut, mail_at, all_particles, first_particles, held}
use Rattle.pic_tile.specs.Directions.{directions, here}
use Rattle.pic_tile.specs.Frame.{felt_in}
use Rattle.pic_tile.specs.Held.{chains_of}
use Rattle.pic_tile.specs.Owners.{tile_of}
use Rattle.pic_tile.specs.Tile.{TileValue, chain_of, chain_at, no_tile, tile_in}
use Rattle.pic_tile.proofs.HeldLaws.{fresh_stand}
use Rattle.pic_tile.proofs.OpeningLaws.{opening_inside}
use Rattle.pic_tile.proofs.ReceivingLaws.{receiving_none}
use Rattle.pic_tile.proofs.TileLaws.{same_there}
use Rattle.pic_core.specs.AtStart.{AreBare, IsAtStart}
use Rattle.pic_push.proofs.IdentityLaws.{census_of, tile_weight, ready_weight}
use Rattle.pic_core.proofs.SlotLaws.{not_both, bounded}
use Rattle.pic_core.proofs.WeightLaws.{mail_weight, weight_is}

zero_sum : (ts : List TileValue) → sum_by (λ (t : TileValue). 0) ts ≡ 0
zero_sum [] = refl
zero_sum (t ∷ ts) =
    let rest = zero_sum ts in
    let all = sum_by-cons (λ (u : TileValue). 0) t ts in
    omega (arith, rest, all)

-- tiles without parcels weigh nothing
bare_weight : (v : Particle → ℕ) (n : ℕ) (ts : List TileValue) → AreBare n ts → sum_by (tile_weight v) ts ≡ 0
bare_weight v n ts bare =
    sum_by_agree (tile_weight v) (λ t. 0) ts (λ k d within.
    let below : k < n = subst (λ (m : ℕ). k < m) bare.long within in
    ap (tile_weight v) (get_or_default ts k d no_tile within)
    ∙ ready_weight v (tile_in ts k) (λ e inside apart. ap chain_of (bare.none k e below inside))
    ∙ ap (λ (found : Option Parcel). sum_by v (chain_of found)) (bare.none k here below (omega arith)))
    ∙ zero_sum ts

module _ (s : CoreState) (o : IsAtStart s.frame s.opening s) (sound : IsSoundFrame s.frame) (opens : IsOpening s.frame s.opening) where
  unclaimed : (t : ℕ) → is_claimed s t ≡ false
  unclaimed t = ap (λ (ms : List Bool). mark ms t) o.marks.claimed ∙ same_there (tile_count s) t false

  unposted : (r d : ℕ) → is_posted s r d ≡ false
  unposted r d = ap (λ (ms : List Bool). mark ms (slot_of r d)) o.marks.posted ∙ same_there (tile_count s * directions) (slot_of r d) false

  unmerged : (r d : ℕ) → is_merged s r d ≡ false
  unmerged r d = ap (λ (ms : List Bool). mark ms (slot_of r d)) o.marks.merged ∙ same_there (tile_count s * directions) (slot_of r d) false

  unshut : (r : ℕ) → is_shut s r ≡ false
  unshut r = ap (λ (ms : List Bool). mark ms r) o.marks.shut ∙ same_there (tile_count s) r false

  no_mail : (r d : ℕ) → mail_at s r d ≡ None
  no_mail r d = ap (λ (ps : List (Option Parcel)). get_or ps (slot_of r d) None) o.mail ∙ same_there (tile_count s * directions) (slot_of r d) None

  places : HasPlaces s
  places = record {
    tiles = ap length o.tiles_are ∙ opens.fresh.count;
    mail = ap length o.mail ∙ length-replicate (tile_count s * directions) None;
    received = o.received.long;
    claimed = ap length o.marks.claimed ∙ length-replicate (tile_count s) false;
    posted = ap length o.marks.posted ∙ length-replicate (tile_count s * directions) false;
    merged = ap length o.marks.merged ∙ length-replicate (tile_count s * directions) false;
    shut = ap length o.marks.shut ∙ length-replicate (tile_count s) false;
  }

  turn : IsInTurn s
  turn = record {
    came = λ r d below within on. absurd (not_both (is_posted s r d) on (unposted r d));
    ready = λ r d below within on. absurd (not_both (is_merged s r d) on (unmerged r d));
    over = λ r below on. absurd (not_both (is_shut s r) on (unshut r));
  }

  place : IsInPlace s
  place = record {
    waits = λ t below off. ap (λ (ts : List TileValue). tile_in ts t) o.tiles_are;
    held = λ t d below within on free. absurd (not_both (is_claimed s t) on (unclaimed t));
    gone = λ t d below within on. absurd (not_both _ on (unposted _ d));
    clear = λ r d below within off. no_mail r d;
    sent = λ r d below within on free. absurd (not_both (is_posted s r d) on (unposted r d));
    taken = λ r d below within on. no_mail r d;
    receives = λ r below. receiving_none (felt_in s.frame) s.frame.map (first_particles s) _ r (tile_in s.received r) (o.received.numbers r below)
        (λ d within. bounded d (is_merged s r d) within ∙ unmerged r d) (λ d within. o.received.none r d below within);
  }

  -- the tiles weigh what the list does
  tiles_weight : (v : Particle → ℕ) → sum_by (tile_weight v) s.tiles ≡ sum_by v (all_particles s.opening)
  tiles_weight v =
      let ts = s.opening in
      let some : 0 < s.frame.map.side = (let least = sound.least in omega (arith, least)) in
      let stand = fresh_stand s.frame.map (all_particles ts) ts some sound.map.thick (opening_inside s.frame ts opens) opens.fresh in
      let same = stands_together (tile_of s.frame.map) (chains_of ts) (all_particles ts) stand in
      ap (sum_by (tile_weight v)) o.tiles_are
      ∙ sum_by_agree (tile_weight v) (λ t. sum_by v (chain_at t here)) ts (λ k d within.
      let below : k < tile_count s = subst (λ (n : ℕ). k < n) opens.fresh.count within in
      subst (λ (t : TileValue). tile_weight v t ≡ sum_by v (chain_at t here)) (sym (get_or_default ts k d no_tile within))
      (ready_weight v (tile_in ts k) (opens.fresh.fresh k below).ready.chains))
      ∙ sym (sum_by-map (λ (xs : List Particle). sum_by v xs) (λ (t : TileValue). chain_at t here) ts)
      ∙ sym (sum_by-together v (chains_of ts))
      ∙ same.sums v

  census : HasCensus s
  census = record {
    rearranged =
        let xs = all_particles s.opening in
        census_of (held s) (length xs) (record {
          sums = λ v.
              let by : Particle → ℕ = λ x. v x.id in
              let parts = weight_is by s in
              let tiles = tiles_weight by in
              let mail : sum_by (mail_weight by) s.mail ≡ tile_count s * directions * 0 =
              ap (sum_by (mail_weight by)) o.mail ∙ sum_by-replicate (mail_weight by) (tile_count s * directions) None in
              let received = bare_weight by (tile_count s) s.received o.received in
              let whole : sum_by by (held s) ≡ sum_by by xs = omega (arith, parts, tiles, mail, received) in
              sum_by-map v (λ (x : Particle). x.id) (held s) ∙ whole ∙ sym (sum_by-map v (λ (x : Particle). x.id) xs) ∙ ap (sum_by v) opens.ordered.identities;
        });
  }

  pub opened_stands : Stands s
  opened_stands = record { frame = sound; opening = opens; places = places; turn = turn; place = place; census = census }

-- so does the state that is made of these parts
pub opened_made : (s : CoreState) (ts : List TileValue) (n : ℕ) → n ≡ tile_count s → s.opening ≡ ts → s.tiles ≡ ts → s.mail ≡ replicate (n * directions) None
    → AreBare n s.received → s.claimed ≡ replicate n false → s.posted ≡ replicate (n * directions) false → s.merged ≡ replicate (n * directions) false
    → s.shut ≡ replicate n false → IsSoundFrame s.frame → IsOpening s.frame ts → Stands s
opened_made s ts n count opening tiles mail received claimed posted merged shut sound opens =
    opened_stands s (record {
      frame = refl;
      opening = refl;
      tiles_are = tiles ∙ sym opening;
      mail = mail ∙ ap (λ (k : ℕ). replicate (k * directions) None) count;
      received = subst (λ (k : ℕ). AreBare k s.received) count received;
      marks = record {
        claimed = claimed ∙ ap (λ (k : ℕ). replicate k false) count;
        posted = posted ∙ ap (λ (k : ℕ). replicate (k * directions) false) count;
        merged = merged ∙ ap (λ (k : ℕ). replicate (k * directions) false) count;
        shut = shut ∙ ap (λ (k : ℕ). replicate k false) count;
      };
    }) sound (subst (λ (us : List TileValue). IsOpening s.frame us) (sym opening) opens)
