-- A step adds to the weight at most half of the bytes of its token and of one behind it.
use Rattle.std.proofs.Common.{arith, ◌≡◌, ◌==◌, ℕ, ◌+◌, ◌*◌, ◌/◌, ◌≤◌, Bool, true, false, cond, List, [], ◌∷◌, length, Option, None, Some, Result, Ok, Err, option_map, refl, sym, ap, ◌∙◌, subst}
use Rattle.std.specs.List.{slice_split, onto_first}
use Rattle.hex.specs.Hex.{decode_of, decode_sized}
use Rattle.hex.specs.declared.error.FromHexError.{FromHexError}
use Rattle.hex.proofs.HexLemmas.{decode_of-ok}
use Rattle.board_bus.specs.declared.event.BusEvent.{BusEvent}
use Rattle.board_bus.specs.declared.event.BusEvent.TheVariants.{Select, Look}
use Rattle.chip_sheet.specs.declared.event.Addr.{Addr}
use Rattle.chip_sheet.specs.declared.event.Entry.{Entry}
use Rattle.chip_sheet.specs.declared.event.Entry.TheVariants.{Bus, Link}
use Rattle.chip_sheet.specs.declared.event.LinkEntry.{LinkEntry}
use Rattle.chip_sheet.specs.declared.event.LinkEntry.TheVariants.{Linked, Accepted, Refused, TimedOut, Took, Got, Datagram, Ended, Shut, Failed, Dropped}
use Rattle.chip_sheet.specs.Replay.{Step, Asks, Happens}
use Rattle.board_bus.specs.declared.event.BusAnswer.{BusAnswer}
use Rattle.chip_sheet.specs.Past.{Past}
use Rattle.chip_sheet.specs.Answers.{answer}
use Rattle.chip_sheet.specs.Streams.{Starts}
use Rattle.chip_hist.specs.Log.{begun, link_data, most_weight}
use Rattle.chip_hist.proofs.Weight.{room_begins, room_after, room_less}
use Rattle.board_gen.specs.Session.{Takes}
use Rattle.board_gen.specs.SessionState.{HasTextRoom}
use Rattle.board_gen.specs.declared.session.TheConstants.{WEIGHT_LIMIT}
use Rattle.board_gen.specs.Links.{bare, peer, datagram_of, what, socket, happens, link_parts}
use Rattle.board_read.specs.Bytes.{bytes_read}
use Rattle.board_read.specs.Numbers.{count}
use Rattle.board_gen.specs.Tokens.{byte_read, token_step}

-- What a step adds to the weight of a history.
abbrev pub step_weight : Step → ℕ
step_weight (Asks e) = 1
step_weight (Happens n what) = begun (length (link_data what)) + 1

-- no part is longer than this
Within : ℕ → List (List ℕ) → Type 0
Within n [] = Unit {0}
Within n (part ∷ parts) = (length part ≤ n) × Within n parts

within_more : (n : ℕ) (parts : List (List ℕ)) → Within n parts → Within (n + 1) parts
unfolding Within
within_more n [] h = tt
within_more n (part ∷ parts) (first, rest) = (omega (arith, first), within_more n parts rest)

onto_within : (n x : ℕ) (parts : List (List ℕ)) → Within n parts → Within (n + 1) (onto_first x parts)
unfolding Within
onto_within n x [] h = (omega arith, tt)
onto_within n x (part ∷ parts) (first, rest) = (omega (arith, first), within_more n parts rest)

choice_within : (n x : ℕ) (b : Bool) (parts : List (List ℕ)) → Within n parts → Within (n + 1) (cond b ([] ∷ parts) (onto_first x parts))
unfolding Within
choice_within n x true parts h = (omega arith, within_more n parts h)
choice_within n x false parts h = onto_within n x parts h

-- the parts of a text are no longer than it
split_within : (p : ℕ → Bool) (n : ℕ) (xs : List ℕ) → length xs ≡ n → Within n (slice_split p xs)
unfolding Within
split_within p n [] is = (omega arith, tt)
split_within p n (x ∷ xs) is =
    let whole : length xs + 1 ≡ n = omega (arith, is) in
    rw (← whole) (choice_within (length xs) x (p x) (slice_split p xs) (split_within p (length xs) xs refl))

-- the data of a link event are no longer than half of this
Light : ℕ → LinkEntry → Type 0
Light n entry = 2 * length (link_data entry) ≤ n

pick : (n : ℕ) (entry : LinkEntry) (b : Bool) (x y : Option LinkEntry) → (x ≡ Some entry → Light n entry) → (y ≡ Some entry → Light n entry) → cond b x y ≡ Some entry → Light n entry
pick n entry true x y first second is = first is
pick n entry false x y first second is = second is

sure : (n : ℕ) (entry e : LinkEntry) → length (link_data e) ≡ 0 → Some e ≡ Some entry → Light n entry
unfolding Light
sure n entry e none is =
    let same : e ≡ entry = cc in
    let len = ap (λ (e : LinkEntry). length (link_data e)) same in omega (arith, len, none)

nothing : (n : ℕ) (entry : LinkEntry) → None ≡ Some entry → Light n entry
nothing n entry is = absurd (cc is)

bare_light : (n : ℕ) (word : List ℕ) (entry : LinkEntry) → bare word ≡ Some entry → Light n entry
bare_light n word entry =
    pick n entry _ _ _ (sure n entry Linked refl) (
    pick n entry _ _ _ (sure n entry Refused refl) (
    pick n entry _ _ _ (sure n entry TimedOut refl) (
    pick n entry _ _ _ (sure n entry Ended refl) (
    pick n entry _ _ _ (sure n entry Shut refl) (
    pick n entry _ _ _ (sure n entry Failed refl) (
    pick n entry _ _ _ (sure n entry Dropped refl) (nothing n entry)))))))

took_light : (n : ℕ) (entry : LinkEntry) (o : Option ℕ) → option_map Took o ≡ Some entry → Light n entry
took_light n entry None is = absurd (cc is)
took_light n entry (Some k) is = sure n entry (Took k) refl is

accepted_light : (n : ℕ) (entry : LinkEntry) (o : Option Addr) → option_map Accepted o ≡ Some entry → Light n entry
accepted_light n entry None is = absurd (cc is)
accepted_light n entry (Some from) is = sure n entry (Accepted from) refl is

-- data that were read
data_light : (n : ℕ) (entry e : LinkEntry) (field body : List ℕ) → length field ≤ n → decode_of field ≡ Ok body → link_data e ≡ body → Some e ≡ Some entry → Light n entry
unfolding Light
data_light n entry e field body short read holds is =
    let same : e ≡ entry = cc in
    let len : length (link_data entry) ≡ length body = ap (λ (e : LinkEntry). length (link_data e)) (sym same) ∙ ap length holds in
    omega (arith, len, short, (decode_of-ok field body read).2)

got_light : (n : ℕ) (entry : LinkEntry) (field : List ℕ) (r : Result (List ℕ) FromHexError) → decode_of field ≡ r → length field ≤ n → option_map Got (bytes_read r) ≡ Some entry → Light n entry
got_light n entry field (Err e) read short is = absurd (cc is)
got_light n entry field (Ok body) read short is = data_light n entry (Got body) field body short read refl is

datagram_light : (n : ℕ) (entry : LinkEntry) (field : List ℕ) (from : Option Addr) (r : Result (List ℕ) FromHexError) → decode_of field ≡ r → length field ≤ n → datagram_of from (bytes_read r) ≡ Some entry → Light n entry
datagram_light n entry field None r read short is = absurd (cc is)
datagram_light n entry field (Some from) (Err e) read short is = absurd (cc is)
datagram_light n entry field (Some from) (Ok body) read short is = data_light n entry (Datagram from body) field body short read refl is

what_light : (n : ℕ) (parts : List (List ℕ)) (entry : LinkEntry) → Within n parts → what parts ≡ Some entry → Light n entry
unfolding Within
what_light n [] entry within is = absurd (cc is)
what_light n (word ∷ []) entry within is = bare_light n word entry is
what_light n (word ∷ field ∷ []) entry within is =
    pick n entry _ _ _ (took_light n entry (count field)) (pick n entry _ _ _ (got_light n entry field (decode_of field) refl within.1.0) (nothing n entry)) is
what_light n (word ∷ addr ∷ number ∷ []) entry within is =
    pick n entry _ _ _ (accepted_light n entry (peer addr number)) (nothing n entry) is
what_light n (word ∷ addr ∷ number ∷ hex ∷ []) entry within is =
    pick n entry _ _ _ (datagram_light n entry hex (peer addr number) (decode_of hex) refl within.1.1.1.0) (nothing n entry) is
what_light n (word ∷ addr ∷ number ∷ hex ∷ more ∷ others) entry within is = absurd (cc is)

-- a link token of three bytes or more
weighs : (n : ℕ) (step : Step) (sn : ℕ) (entry : LinkEntry) → 3 ≤ n → Light n entry → Some (Happens sn entry) ≡ Some step → 2 * step_weight step ≤ n + 1
unfolding Light
weighs n step sn entry long light is =
    let same : Happens sn entry ≡ step = cc in
    let weight = ap step_weight same in omega (arith, long, light, weight)

happens_light : (n : ℕ) (step : Step) (sn : Option ℕ) (parts : List (List ℕ)) (o : Option LinkEntry) → what parts ≡ o → Within n parts → 3 ≤ n → happens sn o ≡ Some step → 2 * step_weight step ≤ n + 1
happens_light n step None parts o is within long h = absurd (cc h)
happens_light n step (Some sn) parts None is within long h = absurd (cc h)
happens_light n step (Some sn) parts (Some entry) is within long h = weighs n step sn entry long (what_light n parts entry within is) h

link_light : (n : ℕ) (parts : List (List ℕ)) (step : Step) → Within n parts → 3 ≤ n → link_parts parts ≡ Some step → 2 * step_weight step ≤ n + 1
unfolding Within
link_light n [] step within long is = absurd (cc is)
link_light n (place ∷ parts) step within long is = happens_light n step (socket place) parts (what parts) refl within.1 long is

-- an event of the bus
one : (n : ℕ) (step : Step) (e : BusEvent) → 1 ≤ n → Some (Asks e) ≡ Some step → 2 * step_weight step ≤ n + 1
one n step e some is =
    let same : Asks e ≡ step = cc in
    let weight = ap step_weight same in omega (arith, some, weight)

none : (n : ℕ) (step : Step) → None ≡ Some step → 2 * step_weight step ≤ n + 1
none n step is = absurd (cc is)

one_of : (n : ℕ) (step : Step) (e : BusEvent) (b : Bool) (other : Option Step) → 1 ≤ n → (other ≡ Some step → 2 * step_weight step ≤ n + 1) → cond b (Some (Asks e)) other ≡ Some step → 2 * step_weight step ≤ n + 1
one_of n step e true other some rest is = one n step e some is
one_of n step e false other some rest is = rest is

byte_light : (n : ℕ) (step : Step) (r : Result (List ℕ) FromHexError) → 1 ≤ n → byte_read r ≡ Some step → 2 * step_weight step ≤ n + 1
byte_light n step (Err e) some is = absurd (cc is)
byte_light n step (Ok body) some is = one n step _ some is

pub step_light : (text : List ℕ) (step : Step) → token_step text ≡ Some step → 2 * step_weight step ≤ length text + 1
step_light [] step is = absurd (cc is)
step_light (c ∷ []) step is =
    let some : 1 ≤ length (c ∷ []) = omega arith in
    one_of (length (c ∷ [])) step (Select true) (c == 76) _ some (one_of (length (c ∷ [])) step (Select false) (c == 72) _ some (one_of (length (c ∷ [])) step Look (c == 63) _ some (none (length (c ∷ [])) step))) is
step_light (a ∷ b ∷ []) step is = byte_light (length (a ∷ b ∷ [])) step (decode_sized (a ∷ b ∷ []) 1) (omega arith) is
step_light (a ∷ b ∷ c ∷ more) step is =
    let text = a ∷ b ∷ c ∷ more in link_light (length text) _ step (split_within (λ x. x == 58) (length text) text refl) (omega arith) is

-- the room for text, at the start, for a shorter text, and behind an entry for which two bytes or more of it stand for each unit
pub text_begins : (bytes : ℕ) → bytes ≤ 2 * WEIGHT_LIMIT → HasTextRoom [] bytes
text_begins bytes short = room_begins ((bytes + 1) / 2) WEIGHT_LIMIT (omega (arith, short))

pub text_less : (past : Past) (bytes fewer : ℕ) → HasTextRoom past bytes → fewer ≤ bytes → HasTextRoom past fewer
text_less past bytes fewer room less = room_less past ((bytes + 1) / 2) ((fewer + 1) / 2) WEIGHT_LIMIT room (omega (arith, less))

pub text_after : (old new : Past) (entry : Entry) (bytes more : ℕ) → new ≡ entry ∷ old → HasTextRoom old bytes → 2 * most_weight entry + more ≤ bytes → HasTextRoom new more
text_after old new entry bytes more is room takes =
    let left : most_weight entry + (more + 1) / 2 ≤ (bytes + 1) / 2 = omega (arith, takes) in
    subst (λ (p : Past). HasTextRoom p more) (sym is) (room_after old entry ((bytes + 1) / 2) ((more + 1) / 2) WEIGHT_LIMIT room left)

-- what a taken step leaves of it
pub text_taken : (starts : Starts) (old new : Past) (step : Step) (a : Option BusAnswer) (bytes more : ℕ) → Takes starts old step a new → HasTextRoom old bytes → 2 * step_weight step + more ≤ bytes → HasTextRoom new more
text_taken starts old new (Asks e) (Some a) bytes more takes room few = text_after old new (Bus e (answer starts old e)) bytes more takes.2 room (omega (arith, few))
text_taken starts old new (Asks e) None bytes more takes room few = absurd takes
text_taken starts old new (Happens n did) (Some a) bytes more takes room few = absurd takes
text_taken starts old new (Happens n did) None bytes more takes room few = text_after old new (Link n did) bytes more takes.1 room (omega (arith, few))
