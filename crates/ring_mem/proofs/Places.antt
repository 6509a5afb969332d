-- Places in a buffer whose size divides 65536.
use Rattle.std.proofs.Common.{inl, inr, ◌≡◌, ◌≤◌, ◌<◌, ℕ, ◌+◌, ◌-◌, ◌%◌, true, List, ◌++◌, length, length-append, take, drop, length-drop, get_or, sym, ap, ◌∙◌, arith}
use Rattle.std.proofs.lemmas.Bool.Decides.{nat_tests}
use Rattle.std.proofs.lemmas.Bool.{cases_lt}
use Rattle.std.proofs.lemmas.List.{get_or-take, get_or-drop, get_or_append_left, get_or-append_right, length-take-le}
use Rattle.std.proofs.lemmas.Grind.{same_number_lists}
use Rattle.ring_mem.specs.Parts.{is_size}
use Rattle.chip_sheet.specs.Sending.{Sending, first_in_flight, next_to_send}

-- a pointer and the position that it shows name one place
pub same_place : (size at : ℕ) → is_size size ≡ true → 0 < size → at % 65536 % size ≡ at % size
same_place size at known some = grind (arith, nat_tests)

pub place_near : (size at k : ℕ) → is_size size ≡ true → 0 < size → at % size + k < size → (at + k) % size ≡ at % size + k
place_near size at k known some within = grind (arith, nat_tests)

pub place_wrapped : (size at k : ℕ) → is_size size ≡ true → 0 < size → size ≤ at % size + k → k < size → (at + k) % size ≡ at % size + k - size
place_wrapped size at k known some past within = grind (arith, nat_tests)

pub places_apart : (size at j k : ℕ) → is_size size ≡ true → j < size → k < size → (at + j) % size ≡ (at + k) % size → j ≡ k
places_apart size at j k known lj lk same = grind (arith, nat_tests)

pub from_place : (size end flight next first : ℕ) → is_size size ≡ true → 0 < size → flight ≤ size → first + flight ≡ next → end ≡ next % 65536
    → (end + (65536 - flight)) % 65536 % size ≡ first % size
from_place size end flight next first known some fits within at = grind (arith, nat_tests)

pub place_below : (size at : ℕ) → 0 < size → at % size < size
place_below size at some = omega (arith, some)

-- what stands in the memory from a place on, for each byte in flight
abbrev pub InMemory : List ℕ → List ℕ → ℕ → ℕ → ℕ → ℕ → ℕ → Type 0
InMemory memory sent start size first gone flight =
    (k : ℕ) → k < flight → get_or memory (start + (first + k) % size) 0 ≡ get_or sent (gone + k) 0

pub one_part : (memory sent : List ℕ) (start size first flight gone from count : ℕ) → is_size size ≡ true → 0 < size → start + size ≤ length memory
    → length sent ≡ gone + flight → from ≡ start + first % size → first % size + flight ≤ size → count ≡ flight → InMemory memory sent start size first gone flight
    → take count (drop from memory) ≡ drop gone sent
one_part memory sent start size first flight gone from count known some part total at within same there =
    let left : length (drop from memory) ≡ length memory - from = length-drop from memory in
    let long : length (take count (drop from memory)) ≡ flight = length-take-le count (drop from memory) (omega (arith, left)) ∙ same in
    same_number_lists _ _ (omega (arith, long, length-drop gone sent)) (λ k below.
    get_or-take count (drop from memory) k 0 (omega (arith, long, below))
    ∙ get_or-drop from memory k 0
    ∙ ap (λ i. get_or memory i 0) (let near : (first + k) % size ≡ first % size + k = place_near size first k known some (omega (arith, long, below)) in omega (arith, near, at))
    ∙ there k (omega (arith, long, below))
    ∙ sym (get_or-drop gone sent k 0))

pub two_parts : (memory sent : List ℕ) (start size first flight gone from room rest : ℕ) → is_size size ≡ true → 0 < size → start + size ≤ length memory
    → length sent ≡ gone + flight → from ≡ start + first % size → room ≡ start + size - from → room ≤ flight → flight ≤ size → rest ≡ flight - room → InMemory memory sent start size first gone flight
    → take room (drop from memory) ++ take rest (drop start memory) ≡ drop gone sent
two_parts memory sent start size first flight gone from room rest known some part total at is more fits rest_is there =
    let short : first % size < size = grind (arith, nat_tests) in
    let room_is : room ≡ size - first % size = omega (arith, short) in
    let long₁ : length (take room (drop from memory)) ≡ room = length-take-le room (drop from memory) (omega (arith, length-drop from memory, short)) in
    let long₂ : length (take rest (drop start memory)) ≡ rest = length-take-le rest (drop start memory) (omega (arith, length-drop start memory, short)) in
    let long : length (take room (drop from memory) ++ take rest (drop start memory)) ≡ flight = omega (arith, length-append (take room (drop from memory)) (take rest (drop start memory)), long₁, long₂) in
    same_number_lists _ _ (omega (arith, long, length-drop gone sent)) (λ k below.
    elim (cases_lt k room) [
      | inl near ↦
          get_or_append_left (take room (drop from memory)) (take rest (drop start memory)) 0 k (omega (arith, long₁, near))
          ∙ get_or-take room (drop from memory) k 0 near
          ∙ get_or-drop from memory k 0
          ∙ ap (λ i. get_or memory i 0) (let e : (first + k) % size ≡ first % size + k = place_near size first k known some (omega (arith, near, room_is)) in omega (arith, e, at))
          ∙ there k (omega (arith, long, below))
          ∙ sym (get_or-drop gone sent k 0)
      | inr far ↦
          get_or-append_right (take room (drop from memory)) (take rest (drop start memory)) room k 0 long₁ far
          ∙ get_or-take rest (drop start memory) (k - room) 0 (omega (arith, long, below, far))
          ∙ get_or-drop start memory (k - room) 0
          ∙ ap (λ i. get_or memory i 0) (let e : (first + k) % size ≡ first % size + k - size = place_wrapped size first k known some (omega (arith, far, room_is)) (omega (arith, long, below)) in omega (arith, e, far, room_is, short))
          ∙ there k (omega (arith, long, below))
          ∙ sym (get_or-drop gone sent k 0)
    ])

pub first_last : (s : Sending) (flight : ℕ) → s.flight ≡ flight → s.flight ≤ length s.sent → first_in_flight s + flight ≡ next_to_send s
first_last s flight same within = omega arith
