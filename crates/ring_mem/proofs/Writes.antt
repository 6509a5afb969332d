-- What a write of a byte does to a part.
use Rattle.std.proofs.Common.{inl, inr, ◌≡◌, ◌≤◌, ◌<◌, ℕ, ◌+◌, ◌-◌, ◌%◌, Bool, true, ◌&&◌, eqb, ltb, if◌then◌else◌, List, length, get_or, set, ap, ◌∙◌, arith}
use Rattle.std.proofs.lemmas.List.{get_or-set_other}
use Rattle.std.proofs.lemmas.Bool.{cases_eq}
use Rattle.std.proofs.lemmas.Bool.Decides.{nat_tests}
use Rattle.std.proofs.lemmas.Grind.{get_or-set_at}
use Rattle.chip_sheet.specs.Sending.{Sending, first_in_flight, next_to_send, written_byte, after_write}
use Rattle.ring_mem.specs.Parts.{is_size}
use Rattle.ring_mem.specs.TxHolds.{Part, Stands}
use Rattle.ring_mem.proofs.Places.{from_place}

-- an address is the place of a byte in flight
abbrev pub Overwrites : Sending → ℕ → Type 0
Overwrites s addr = (j : ℕ) × (j < s.flight) × ((first_in_flight s + j) % s.size ≡ addr % s.size)

distance_is : (size first j addr : ℕ) → is_size size ≡ true → j < size → (first + j) % size ≡ addr % size → (addr % size + size - first % size) % size ≡ j
distance_is size first j addr known below same = grind (arith, nat_tests)

pub not_over : (p : Part) (memory : List ℕ) (signs : List Bool) (s : Sending) (addr : ℕ) → is_size p.size ≡ true → 0 < p.size → p.flight ≤ p.size
    → p.flight ≤ (addr % p.size + p.size - (p.end + (65536 - p.flight)) % 65536 % p.size) % p.size → Stands p memory signs s → Overwrites s addr → ⊥
not_over p memory signs s addr known some fits far h (j, below, same) =
    let from = from_place p.size p.end p.flight (next_to_send s) (first_in_flight s) known some fits (omega (arith, h.flight, h.within)) h.end in
    let near = distance_is p.size (first_in_flight s) j addr known (omega (arith, below, h.flight, fits)) (rw h.size at same) in
    omega (arith, far, rw from at far, near, below, h.flight)

pub at_distance : (size first addr : ℕ) → is_size size ≡ true → 0 < size → (first + (addr % size + size - first % size) % size) % size ≡ addr % size
at_distance size first addr known some = grind (arith, nat_tests)

pub is_over : (p : Part) (memory : List ℕ) (signs : List Bool) (s : Sending) (addr d : ℕ) → is_size p.size ≡ true → 0 < p.size → p.flight ≤ p.size
    → d ≡ (addr % p.size + p.size - (p.end + (65536 - p.flight)) % 65536 % p.size) % p.size → d < p.flight → Stands p memory signs s → Overwrites s addr
is_over p memory signs s addr d known some fits is near h =
    let from = from_place p.size p.end p.flight (next_to_send s) (first_in_flight s) known some fits (omega (arith, h.flight, h.within)) h.end in
    (d, omega (arith, near, h.flight), rw h.size (ap (λ k. (first_in_flight s + k) % p.size) (rw from at is) ∙ at_distance p.size (first_in_flight s) addr known some))

written_at : (memory : List ℕ) (start size at addr b before : ℕ) → 0 < size → start + size ≤ length memory → get_or memory (start + at % size) 0 ≡ before
    → get_or (set memory (start + addr % size) b) (start + at % size) 0 ≡ (if ltb 0 size && eqb (at % size) (addr % size) then b else before)
written_at memory start size at addr b before some part is = elim (cases_eq (at % size) (addr % size)) [
  | inl here ↦ grind (arith, nat_tests, get_or-set_at memory (start + addr % size) (start + at % size) b 0)
  | inr other ↦ grind (arith, nat_tests, get_or-set_other memory (start + addr % size) (start + at % size) b 0)
]

unwritten : (size at addr b before : ℕ) → (at % size ≡ addr % size → ⊥) → (if ltb 0 size && eqb (at % size) (addr % size) then b else before) ≡ before
unwritten size at addr b before other = grind (arith, nat_tests)

-- a buffer of size 0 takes nothing
no_byte : (s : Sending) (addr b at : ℕ) → s.size ≡ 0 → written_byte s addr b at ≡ s.tx at
no_byte s addr b at none = grind (arith, nat_tests)

pub takes_none : (p : Part) (memory : List ℕ) (signs : List Bool) (s : Sending) (addr b : ℕ) → p.size ≡ 0 → Stands p memory signs s → Stands p memory signs (after_write s addr b)
takes_none p memory signs s addr b none h = record {
  size = h.size;
  bytes = λ at some. absurd (omega (arith, none, some));
  none = λ z at. no_byte s addr b at (h.size ∙ none) ∙ h.none z at;
  flight = h.flight;
  within = h.within;
  end = h.end;
  wr = h.wr;
  high = h.high;
  low = h.low;
  kept = λ j below. no_byte s addr b (first_in_flight s + j) (h.size ∙ none) ∙ h.kept j below;
  marks = h.marks;
  ended = h.ended;
  last = h.last;
}

pub own_byte : (p : Part) (memory : List ℕ) (signs : List Bool) (s : Sending) (addr b : ℕ) → 0 < p.size → p.start + p.size ≤ length memory → (Overwrites s addr → ⊥)
    → Stands p memory signs s → Stands p (set memory (p.start + addr % p.size) b) signs (after_write s addr b)
own_byte p memory signs s addr b some part free h = record {
  size = h.size;
  bytes = λ at _. rw h.size (written_at memory p.start p.size at addr b (s.tx at) some part (h.bytes at some));
  none = λ z. absurd (omega (arith, z, some));
  flight = h.flight;
  within = h.within;
  end = h.end;
  wr = h.wr;
  high = h.high;
  low = h.low;
  kept = λ j below. unwritten s.size (first_in_flight s + j) addr b (s.tx (first_in_flight s + j)) (λ same. free (j, below, same)) ∙ h.kept j below;
  marks = h.marks;
  ended = h.ended;
  last = h.last;
}
