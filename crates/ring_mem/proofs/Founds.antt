-- Where an address is found among positions.
use Rattle.std.proofs.Common.{inl, inr, ◌≡◌, ◌≢◌, ◌≤◌, ◌<◌, ℕ, zero, suc, ◌+◌, ◌-◌, ◌%◌, Bool, true, false, eqb, if◌then◌else◌, Option, Some, None, List, get_or, refl, sym, ap, ◌∙◌, arith}
use Rattle.std.proofs.lemmas.Bool.{cases_lt}
use Rattle.std.proofs.lemmas.Bool.Decides.{nat_tests}
use Rattle.chip_sheet.specs.Sending.{Sending, first_in_flight, next_to_send, in_flight_at}
use Rattle.chip_sheet.specs.Receiving.{Receiving, first_unread, next_to_receive, rx_byte, unread_byte}
use Rattle.chip_sheet.specs.Positions.{place_among, found_among}
use Rattle.ring_mem.specs.Parts.{is_size}
use Rattle.ring_mem.specs.TxHolds.{Part, Stands}
use Rattle.ring_mem.specs.RxHolds.{RxPart, Keeps}
use Rattle.ring_mem.proofs.Places.{from_place, places_apart}
use Rattle.ring_mem.proofs.Writes.{at_distance}

here_then : (t : Bool) (a b : Option ℕ) → t ≡ true → (if t then a else b) ≡ a
here_then true a b e = refl
here_then false a b e = absurd (grind (arith, nat_tests))

not_then : (t : Bool) (a b : Option ℕ) → t ≡ false → (if t then a else b) ≡ b
not_then true a b e = absurd (grind (arith, nat_tests))
not_then false a b e = refl

same_is : (a b : ℕ) → a ≡ b → eqb a b ≡ true
same_is a b h = grind (arith, nat_tests)

apart_is : (a b : ℕ) → a ≢ b → eqb a b ≡ false
apart_is a b h = grind (arith, nat_tests)

-- the one position at this place is found, if it is among them
place_some : (size first d addr : ℕ) → is_size size ≡ true → d < size → (first + d) % size ≡ addr % size → (count : ℕ) → d < count → count ≤ size → place_among first count size addr ≡ Some d
place_some size first d addr known short at zero below few = absurd (omega (arith, below))
place_some size first d addr known short at (suc count) below few = elim (cases_lt d count) [
  | inl less ↦
      not_then _ (Some count) _ (apart_is _ _ (λ e. let i : d ≡ count = places_apart size first d count known short (omega (arith, few)) (at ∙ sym e) in omega (arith, i, less)))
      ∙ place_some size first d addr known short at count less (omega (arith, few))
  | inr more ↦ let i : d ≡ count = omega (arith, more, below) in
      here_then _ (Some count) _ (same_is _ _ (ap (λ k. (first + k) % size) (sym i) ∙ at)) ∙ ap (λ k. Some k) (sym i)
]

place_none : (size first d addr : ℕ) → is_size size ≡ true → d < size → (first + d) % size ≡ addr % size → (count : ℕ) → count ≤ d → place_among first count size addr ≡ None
place_none size first d addr known short at zero far = refl
place_none size first d addr known short at (suc count) far =
    not_then _ (Some count) _ (apart_is _ _ (λ e. let i : d ≡ count = places_apart size first d count known short (omega (arith, far, short)) (at ∙ sym e) in omega (arith, i, far)))
    ∙ place_none size first d addr known short at count (omega (arith, far))

found_is : (first count size addr : ℕ) → 0 < size → found_among first count size addr ≡ place_among first count size addr
found_is first count zero addr some = absurd (omega (arith, some))
found_is first count (suc most) addr some = refl

pub found_some : (size first d addr count : ℕ) → is_size size ≡ true → 0 < size → d ≡ (addr % size + size - first % size) % size → d < count → count ≤ size → found_among first count size addr ≡ Some d
found_some size first d addr count known some is near few =
    found_is first count size addr some
    ∙ place_some size first d addr known (omega (arith, near, few)) (ap (λ k. (first + k) % size) is ∙ at_distance size first addr known some) count near few

pub found_none : (size first d addr count : ℕ) → is_size size ≡ true → 0 < size → d < size → d ≡ (addr % size + size - first % size) % size → count ≤ d → found_among first count size addr ≡ None
found_none size first d addr count known some short is far =
    found_is first count size addr some ∙ place_none size first d addr known short (ap (λ k. (first + k) % size) is ∙ at_distance size first addr known some) count far

pub found_nowhere : (first count size addr : ℕ) → size ≡ 0 → found_among first count size addr ≡ None
found_nowhere first count zero addr e = refl
found_nowhere first count (suc most) addr e = absurd (omega (arith, e))

pub reads_none : (p : RxPart) (memory : List ℕ) (g : Receiving) (addr d : ℕ) → is_size p.size ≡ true → 0 < p.size → p.unread ≤ p.size → d < p.size → d ≡ (addr % p.size + p.size - (p.end + (65536 - p.unread)) % 65536 % p.size) % p.size
    → p.unread ≤ d → Keeps p memory g → 0 ≡ rx_byte g addr
reads_none p memory g addr d known some fits short is far h =
    let from = from_place p.size p.end p.unread (next_to_receive g) (first_unread g) known some fits (omega (arith, h.unread, h.within)) h.end in
    sym (ap (unread_byte g) (ap (λ k. found_among (first_unread g) g.unread k addr) h.size ∙ found_none p.size (first_unread g) d addr g.unread known some short (rw from at is) (omega (arith, far, h.unread))))

pub reads_some : (p : RxPart) (memory : List ℕ) (g : Receiving) (addr d : ℕ) → is_size p.size ≡ true → 0 < p.size → p.unread ≤ p.size → d ≡ (addr % p.size + p.size - (p.end + (65536 - p.unread)) % 65536 % p.size) % p.size
    → d < p.unread → Keeps p memory g → get_or memory (p.start + addr % p.size) 0 ≡ rx_byte g addr
reads_some p memory g addr d known some fits is near h =
    let from = from_place p.size p.end p.unread (next_to_receive g) (first_unread g) known some fits (omega (arith, h.unread, h.within)) h.end in
    let at = ap (λ k. (first_unread g + k) % p.size) (rw from at is) ∙ at_distance p.size (first_unread g) addr known some in
    ap (λ k. get_or memory (p.start + k) 0) (sym at) ∙ h.kept d (omega (arith, near, h.unread))
    ∙ sym (ap (unread_byte g) (ap (λ k. found_among (first_unread g) g.unread k addr) h.size ∙ found_some p.size (first_unread g) d addr g.unread known some (rw from at is) (omega (arith, near, h.unread)) (omega (arith, h.unread, fits))))

pub reads_nowhere : (p : RxPart) (memory : List ℕ) (g : Receiving) (addr : ℕ) → p.size ≡ 0 → Keeps p memory g → 0 ≡ rx_byte g addr
reads_nowhere p memory g addr none h = sym (ap (unread_byte g) (found_nowhere (first_unread g) g.unread g.size addr (h.size ∙ none)))

pub over_some : (p : Part) (memory : List ℕ) (signs : List Bool) (s : Sending) (addr d : ℕ) → is_size p.size ≡ true → 0 < p.size → p.flight ≤ p.size
    → d ≡ (addr % p.size + p.size - (p.end + (65536 - p.flight)) % 65536 % p.size) % p.size → d < p.flight → Stands p memory signs s → in_flight_at s addr ≡ Some d
over_some p memory signs s addr d known some fits is near h =
    let from = from_place p.size p.end p.flight (next_to_send s) (first_in_flight s) known some fits (omega (arith, h.flight, h.within)) h.end in
    ap (λ k. found_among (first_in_flight s) s.flight k addr) h.size ∙ found_some p.size (first_in_flight s) d addr s.flight known some (rw from at is) (omega (arith, near, h.flight)) (omega (arith, h.flight, fits))

pub over_none : (p : Part) (memory : List ℕ) (signs : List Bool) (s : Sending) (addr d : ℕ) → is_size p.size ≡ true → 0 < p.size → p.flight ≤ p.size → d < p.size
    → d ≡ (addr % p.size + p.size - (p.end + (65536 - p.flight)) % 65536 % p.size) % p.size → p.flight ≤ d → Stands p memory signs s → in_flight_at s addr ≡ None
over_none p memory signs s addr d known some fits short is far h =
    let from = from_place p.size p.end p.flight (next_to_send s) (first_in_flight s) known some fits (omega (arith, h.flight, h.within)) h.end in
    ap (λ k. found_among (first_in_flight s) s.flight k addr) h.size ∙ found_none p.size (first_in_flight s) d addr s.flight known some short (rw from at is) (omega (arith, far, h.flight))

pub over_nowhere : (p : Part) (memory : List ℕ) (signs : List Bool) (s : Sending) (addr : ℕ) → p.size ≡ 0 → Stands p memory signs s → in_flight_at s addr ≡ None
over_nowhere p memory signs s addr none h = found_nowhere (first_in_flight s) s.flight s.size addr (h.size ∙ none)
