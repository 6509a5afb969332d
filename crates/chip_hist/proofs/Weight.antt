-- The weight of a history, as the crates above know it: it begins at nothing, it never falls, and an entry adds so much at most. And
-- what follows for a history that is not full, and for one that has room for so much.
use Rattle.std.proofs.Common.{◌≡◌, ◌≤◌, ◌<◌, ◌+◌, ◌||◌, ℕ, Bool, true, false, [], ◌∷◌, leb, length, refl, ap, arith}
use Rattle.std.proofs.lemmas.Bool.{leb-false}
use Rattle.chip_sheet.specs.declared.event.Entry.{Entry}
use Rattle.chip_sheet.specs.declared.event.Entry.TheVariants.{Bus, Link, Rest}
use Rattle.chip_sheet.specs.Past.{Past}
use Rattle.chip_hist.specs.declared.limits.TheConstants.{MOST_EVENTS}
use Rattle.chip_hist.specs.Log.{Log, entry_weight, weight_of, most_weight, is_full, IsLightBy, HasRoom}

pub weight_begins : weight_of [] ≡ 0
unfolding weight_of
weight_begins = refl

entry_most : (entry : Entry) → entry_weight entry ≤ most_weight entry
unfolding entry_weight
entry_most Rest = omega arith
entry_most (Bus e a) = omega arith
entry_most (Link n what) = omega arith

pub weight_never_falls : (entry : Entry) (past : Past) → weight_of past ≤ weight_of (entry ∷ past)
unfolding weight_of
weight_never_falls entry past = omega arith

pub weight_rises : (entry : Entry) (past : Past) → weight_of (entry ∷ past) ≤ weight_of past + most_weight entry
unfolding weight_of
weight_rises entry past = let most = entry_most entry in omega (arith, most)

neither : (a b : Bool) → (a || b) ≡ false → (a ≡ false) × (b ≡ false)
neither true b h = cc
neither false b h = (refl, h)

-- A history that is not full weighs less than its limit, and has fewer events than the most.
pub open_light : (log : Log) → is_full log ≡ false → weight_of log.past < log.limit
open_light log open_ = leb-false log.limit (weight_of log.past) (neither (leb log.limit (weight_of log.past)) (leb MOST_EVENTS (length log.past)) open_).0

pub open_short : (log : Log) → is_full log ≡ false → length log.past < MOST_EVENTS
open_short log open_ = leb-false MOST_EVENTS (length log.past) (neither (leb log.limit (weight_of log.past)) (leb MOST_EVENTS (length log.past)) open_).1

-- A step that began where it was not full goes past the limit by no more than the entry's data.
pub light_after : (old new : Log) (entry : Entry) (units : ℕ) → is_full old ≡ false → most_weight entry ≤ units + 1 → new.past ≡ entry ∷ old.past → new.limit ≡ old.limit → IsLightBy units new
light_after old new entry units open_ few is limit =
    let below = open_light old open_ in
    let rises = weight_rises entry old.past in
    let weight = ap weight_of is in
    omega (arith, below, rises, few, limit, weight)

-- A past that began at nothing has all of its room.
pub room_begins : (units limit : ℕ) → units ≤ limit → HasRoom [] units limit
room_begins units limit few = record { weight = omega (arith, weight_begins, few); few = omega (arith, few) }

-- An entry takes as much of the room as it adds at most.
pub room_after : (past : Past) (entry : Entry) (units more limit : ℕ) → HasRoom past units limit → most_weight entry + more ≤ units → HasRoom (entry ∷ past) more limit
room_after past entry units more limit room takes =
    let rises = weight_rises entry past in
    record { weight = omega (arith, room.weight, rises, takes); few = omega (arith, room.few, takes) }

pub room_less : (past : Past) (units fewer limit : ℕ) → HasRoom past units limit → fewer ≤ units → HasRoom past fewer limit
room_less past units fewer limit room less = record { weight = omega (arith, room.weight, less); few = omega (arith, room.few, less) }
