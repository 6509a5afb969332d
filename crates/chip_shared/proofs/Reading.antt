-- A read, on plain values: what it may be answered, and the chip whose room was read into.
use Rattle.std.proofs.Common.{◌≡◌, ◌≤◌, ◌<◌, ◌/◌, ℕ, true, leb, List, ◌∷◌, length, take, refl, sym, ap, ◌∙◌, subst, arith}
use Rattle.std.proofs.lemmas.Bool.{le-leb, and_from}
use Rattle.std.proofs.lemmas.List.{length-take-le}
use Rattle.chip_sheet.specs.declared.event.ConnId.{ConnId}
use Rattle.chip_sheet.specs.declared.event.LinkEntry.{LinkEntry}
use Rattle.chip_sheet.specs.declared.event.Entry.{Entry}
use Rattle.chip_sheet.specs.declared.event.Entry.TheVariants.{Link}
use Rattle.chip_sheet.specs.declared.socket.Due.TheVariants as due
use Rattle.chip_sheet.specs.Past.{Past}
use Rattle.chip_sheet.specs.Life.{status}
use Rattle.chip_sheet.specs.Streams.{Starts, is_open}
use Rattle.chip_sheet.specs.Windows.{flight, offered_length, room_length}
use Rattle.chip_sheet.specs.LinkCalls.{due_at, fits, one_to}
use Rattle.chip_sheet.specs.LinkAnswers.{entry_by, may_answer}
use Rattle.chip_sheet.specs.Legal.{FitsAfter}
use Rattle.chip_sheet.proofs.AnswerLaws.{answer_fits}
use Rattle.chip_core.specs.declared.chip.Chip.{Chip}
use Rattle.chip_core.specs.Chip.{Stands, fits_here}
use Rattle.link_trait.specs.declared.links.Reading.{Reading}
use Rattle.link_trait.specs.declared.links.Reading.TheVariants as has_read
use Rattle.link_trait.specs.declared.links.Receiving.{Receiving}
use Rattle.link_trait.specs.declared.links.Receiving.TheVariants as received
use Rattle.link_trait.specs.Calls.{reading, receiving, ReadFits, ReceiveFits}
use Rattle.chip_shared.proofs.DueFacts.{of_socket, told_of}

-- The socket of a stream that is read is open.
pub read_open : (starts : Starts) (past : Past) (place : ℕ) (c : ConnId) → due_at starts past place ≡ due.Read c → is_open (status past (place / 2)) ≡ true
read_open starts past place c is = (told_of starts past place (due.Read c) is).1.0

some_of : (count most : ℕ) (bytes : List ℕ) → (1 ≤ count) × (count ≤ length bytes) → length bytes ≡ most → one_to most (length (take count bytes)) ≡ true
some_of count most bytes fits long =
    let from = fits.0 in
    let to = fits.1 in
    let is = length-take-le count bytes to in
    and_from (leb 1 (length (take count bytes))) (leb (length (take count bytes)) most) (le-leb 1 (length (take count bytes)) (omega (arith, from, is))) (le-leb (length (take count bytes)) most (omega (arith, to, is, long)))

-- What a read, or a receipt, may be answered, where so many bytes are offered and there is so much room.
pub read_may : (c : ConnId) (many room : ℕ) (answer : Reading) (bytes : List ℕ) → ReadFits answer bytes → length bytes ≡ room → may_answer (due.Read c) many room (reading answer bytes) ≡ true
read_may c many room (has_read.Done count) bytes fits long = some_of count room bytes fits long
read_may c many room has_read.NotYet bytes fits long = refl
read_may c many room has_read.End bytes fits long = refl
read_may c many room has_read.Failed bytes fits long = refl

pub away_may : (c : ConnId) (many room : ℕ) (answer : Reading) (bytes : List ℕ) → ReadFits answer bytes → length bytes ≡ 1472 → may_answer (due.ReadAway c) many room (reading answer bytes) ≡ true
away_may c many room (has_read.Done count) bytes fits long = some_of count 1472 bytes fits long
away_may c many room has_read.NotYet bytes fits long = refl
away_may c many room has_read.End bytes fits long = refl
away_may c many room has_read.Failed bytes fits long = refl

pub receive_may : (c : ConnId) (port many room : ℕ) (answer : Receiving) (bytes : List ℕ) → ReceiveFits answer → length bytes ≡ 1472 → may_answer (due.RecvFrom c port) many room (receiving answer bytes) ≡ true
receive_may c port many room (received.Done count from) bytes fits long =
    let is = length-take-le count bytes (omega (arith, fits, long)) in
    le-leb (length (take count bytes)) 1472 (omega (arith, fits, is))
receive_may c port many room received.NotYet bytes fits long = refl
receive_may c port many room received.Failed bytes fits long = refl

-- A read brings the same entry whatever is in flight.
same_entry : (n fl : ℕ) (c d : ConnId) (answer : Reading) (bytes : List ℕ) → entry_by n fl (due.Read c) (reading answer bytes) ≡ entry_by n 0 (due.Read d) (reading answer bytes)
same_entry n fl c d (has_read.Done count) bytes = refl
same_entry n fl c d has_read.NotYet bytes = refl
same_entry n fl c d has_read.End bytes = refl
same_entry n fl c d has_read.Failed bytes = refl

-- What was read fits the chip whose room holds it.
pub kept_fits : (starts : Starts) (past : Past) (chip : Chip) (place : ℕ) (c : ConnId) (answer : Reading) (kept bytes : List ℕ)
    → ((starts_ : Starts) (chip_ : Chip) (past_ : Past) (n : ℕ) (what : LinkEntry) → n < 8 → Stands starts_ chip_ past_ → fits_here chip_ n what ≡ fits starts_ past_ n what)
    → place < 16 → Stands starts chip past → due_at starts past place ≡ due.Read c → kept ≡ bytes
    → may_answer (due.Read c) (offered_length starts past (place / 2)) (room_length starts past (place / 2)) (reading answer bytes) ≡ true
    → (d : ConnId) (what : LinkEntry) → entry_by (place / 2) 0 (due.Read d) (reading answer kept) ≡ Link (place / 2) what → fits_here chip (place / 2) what ≡ true
kept_fits starts past chip place c answer kept bytes agrees few stands is same may d what entry =
    let n = place / 2 in
    let below : n < 8 = omega (arith, few) in
    let came = same_entry n (flight starts past n) c d answer bytes ∙ ap (λ (b : List ℕ). entry_by n 0 (due.Read d) (reading answer b)) (sym same) ∙ entry in
    agrees starts chip past n what below stands ∙ (subst (FitsAfter starts past) came (answer_fits starts past n (due.Read c) (reading answer bytes) below (of_socket starts past place (due.Read c) is) may)).1

-- The chip that took it stands for the past with its entry.
pub kept_stands : (starts : Starts) (past : Past) (new : Chip) (n fl : ℕ) (c : ConnId) (answer : Reading) (kept bytes : List ℕ) (entry : Entry) → kept ≡ bytes → entry ≡ entry_by n fl (due.Read c) (reading answer bytes)
    → Stands starts new (entry_by n fl (due.Read c) (reading answer kept) ∷ past) → Stands starts new (entry ∷ past)
kept_stands starts past new n fl c answer kept bytes entry same is stands =
    subst (λ (e : Entry). Stands starts new (e ∷ past)) (ap (λ (b : List ℕ). entry_by n fl (due.Read c) (reading answer b)) same ∙ sym is) stands
