-- What the two directions show is what the definitions over a past show.
use Rattle.std.proofs.Common.{◌≡◌, ◌≤◌, ◌<◌, ℕ, ◌+◌, ◌-◌, ◌%◌, zero, suc, Bool, true, false, cond, min, List, [], length, drop, Option, None, Some, inl, inr, refl, sym, ap, ◌∙◌, subst, arith, get_or}
use Rattle.std.proofs.lemmas.Bool.{cond-true, cond-false, cases_Bool, cases_eq}
use Rattle.chip_sheet.specs.Past.{Past}
use Rattle.chip_sheet.specs.Life.{status, lives}
use Rattle.chip_sheet.specs.Positions.{shown, byte_of, found_among, ahead}
use Rattle.chip_sheet.specs.Sizes.{tx_size, rx_size}
use Rattle.chip_sheet.specs.Streams.{Starts, sent, taken, got, released, tx_base, rx_base, is_open}
use Rattle.chip_sheet.specs.Streams as streams
use Rattle.chip_sheet.specs.Windows as windows
use Rattle.chip_sheet.specs.Windows.{flight, unread, is_opened}
use Rattle.chip_sheet.specs.Sending as sends
use Rattle.chip_sheet.specs.Receiving as receives
use Rattle.chip_sheet.specs.Buffers.{sending, receiving}
use Rattle.chip_sheet.specs.SocketBlock.{socket_place, socket_register}
use Rattle.chip_sheet.specs.Legal.{Legal}
use Rattle.chip_sheet.proofs.Within.{taken_within, released_within}
use Rattle.chip_steps.proofs.Going.{opened_open, open_not_closed}

-- The places of the registers of the windows and the pointers, one by one.
pub six_places : (P : ℕ → Type 0) (low : ℕ) → P low → P (low + 1) → P (low + 2) → P (low + 3) → P (low + 4) → P (low + 5) → (addr : ℕ) → low ≤ addr → addr < low + 6 → P addr
six_places P low a b c d e f addr from below =
    elim (cases_eq addr low) [
      | inl is ↦ subst P (sym is) a
      | inr not0 ↦ elim (cases_eq addr (low + 1)) [
        | inl is ↦ subst P (sym is) b
        | inr not1 ↦ elim (cases_eq addr (low + 2)) [
          | inl is ↦ subst P (sym is) c
          | inr not2 ↦ elim (cases_eq addr (low + 3)) [
            | inl is ↦ subst P (sym is) d
            | inr not3 ↦ elim (cases_eq addr (low + 4)) [
              | inl is ↦ subst P (sym is) e
              | inr not4 ↦ subst P (let last : low + 5 ≡ addr = omega (arith, from, below, not0, not1, not2, not3, not4) in last) f
            ]
          ]
        ]
      ]
    ]

-- The end of what was sent or received, where a life was opened.
pub end_is : (b : Bool) (base : ℕ) (all : List ℕ) → cond b (shown (base + length all)) 0 ≡ shown (cond b base 0 + length (cond b all []))
end_is true base all = refl
end_is false base all = refl

pub shows_sending : (starts : Starts) (past : Past) (n addr : ℕ) → 0x20 ≤ addr → addr < 0x26 → socket_register starts past n addr ≡ sends.tx_pointer (sending starts past n) addr
unfolding socket_place
shows_sending starts past n addr from below =
    let s = sending starts past n in
    let end = end_is (is_opened past n) (tx_base starts past n (lives past n)) (sent starts past n (lives past n)) in
    six_places (λ (at : ℕ). socket_register starts past n at ≡ sends.tx_pointer s at) 0x20 refl refl (ap (byte_of 0) end) (ap (byte_of 1) end) refl refl addr from below

pub shows_receiving : (starts : Starts) (past : Past) (n addr : ℕ) → 0x26 ≤ addr → addr < 0x2C → socket_register starts past n addr ≡ receives.rx_pointer (receiving starts past n) addr
unfolding socket_place
shows_receiving starts past n addr from below =
    let g = receiving starts past n in
    let end = end_is (is_opened past n) (rx_base starts past n (lives past n)) (got starts past n (lives past n)) in
    six_places (λ (at : ℕ). socket_register starts past n at ≡ receives.rx_pointer g at) 0x26 refl refl refl refl (ap (byte_of 0) end) (ap (byte_of 1) end) addr from below

none_found : (first size addr : ℕ) → found_among first 0 size addr ≡ None
none_found first zero addr = refl
none_found first (suc most) addr = refl

back : (all out gone : ℕ) → gone ≤ all → out ≡ all - gone → all - out ≡ gone
back all out gone h is = omega (arith, h, is)

-- Where the bytes in flight begin.
pub taken_is : (starts : Starts) (past : Past) (n : ℕ) → Legal starts past → is_open (status past n) ≡ true
    → (sends.first_in_flight (sending starts past n) ≡ windows.first_in_flight starts past n) × (sends.taken_count (sending starts past n) ≡ taken past n (lives past n))
taken_is starts past n legal live =
    let l = lives past n in
    let all = sent starts past n l in
    let t = taken past n l in
    let base = tx_base starts past n l in
    let f = flight starts past n in
    let flying : f ≡ length all - t = cond-true (is_open (status past n)) (length all - t) 0 live in
    let is = back (length all) f t (taken_within starts past n l legal) flying in
    let opened = opened_open past n (open_not_closed (status past n) live) in (
      subst (λ (b : Bool). cond b base 0 + (length (cond b all []) - f) ≡ base + t) (sym opened) (ap (λ (k : ℕ). base + k) is),
      subst (λ (b : Bool). length (cond b all []) - f ≡ t) (sym opened) is,
    )

pub released_is : (starts : Starts) (past : Past) (n : ℕ) → Legal starts past → is_open (status past n) ≡ true
    → (receives.first_unread (receiving starts past n) ≡ rx_base starts past n (lives past n) + released starts past n (lives past n))
    × (receives.released_count (receiving starts past n) ≡ released starts past n (lives past n))
released_is starts past n legal live =
    let l = lives past n in
    let all = got starts past n l in
    let r = released starts past n l in
    let base = rx_base starts past n l in
    let u = unread starts past n in
    let there : u ≡ length all - r = cond-true (is_open (status past n)) (length all - r) 0 live in
    let is = back (length all) u r (released_within starts past n l legal) there in
    let opened = opened_open past n (open_not_closed (status past n) live) in (
      subst (λ (b : Bool). cond b base 0 + (length (cond b all []) - u) ≡ base + r) (sym opened) (ap (λ (k : ℕ). base + k) is),
      subst (λ (b : Bool). length (cond b all []) - u ≡ r) (sym opened) is,
    )

none_flying : (starts : Starts) (past : Past) (n : ℕ) → is_open (status past n) ≡ false → flight starts past n ≡ 0
none_flying starts past n shut = cond-false (is_open (status past n)) _ 0 shut

none_unread : (starts : Starts) (past : Past) (n : ℕ) → is_open (status past n) ≡ false → unread starts past n ≡ 0
none_unread starts past n shut = cond-false (is_open (status past n)) _ 0 shut

both_none : (first other count size addr : ℕ) → count ≡ 0 → found_among first count size addr ≡ found_among other count size addr
both_none first other count size addr h =
    ap (λ (k : ℕ). found_among first k size addr) h ∙ none_found first size addr ∙ sym (ap (λ (k : ℕ). found_among other k size addr) h ∙ none_found other size addr)

pub in_flight_at_is : (starts : Starts) (past : Past) (n addr : ℕ) → Legal starts past → sends.in_flight_at (sending starts past n) addr ≡ windows.in_flight_at starts past n addr
in_flight_at_is starts past n addr legal =
    elim (cases_Bool (is_open (status past n))) [
      | inl live ↦ ap (λ (first : ℕ). found_among first (flight starts past n) (tx_size past n) addr) (taken_is starts past n legal live).0
      | inr shut ↦ both_none (sends.first_in_flight (sending starts past n)) (windows.first_in_flight starts past n) (flight starts past n) (tx_size past n) addr (none_flying starts past n shut)
    ]

byte_same : (all more : List ℕ) (r q : ℕ) (o p : Option ℕ) → all ≡ more → r ≡ q → o ≡ p
    → elim o as (λ x. ℕ) [ None ↦ 0 | Some j ↦ get_or all (r + j) 0 ] ≡ elim p as (λ x. ℕ) [ None ↦ 0 | Some j ↦ get_or more (q + j) 0 ]
byte_same all more r q o p e f h = λ i. elim (h i) as (λ x. ℕ) [ None ↦ 0 | Some j ↦ get_or (e i) (f i + j) 0 ]

unread_same : (starts : Starts) (past : Past) (n : ℕ) (o : Option ℕ) (g : receives.Receiving) → g.got ≡ got starts past n (lives past n)
    → receives.released_count g ≡ released starts past n (lives past n) → receives.unread_byte g o ≡ windows.unread_byte starts past n o
unread_same starts past n None g all r = refl
unread_same starts past n (Some j) g all r = λ i. get_or (all i) (r i + j) 0

pub rx_byte_is : (starts : Starts) (past : Past) (n addr : ℕ) → Legal starts past → receives.rx_byte (receiving starts past n) addr ≡ windows.rx_byte starts past n addr
rx_byte_is starts past n addr legal =
    let g = receiving starts past n in
    let u = unread starts past n in
    let size = rx_size past n in
    let first = receives.first_unread g in
    let other = rx_base starts past n (lives past n) + released starts past n (lives past n) in
    elim (cases_Bool (is_open (status past n))) [
      | inl live ↦
          let is = released_is starts past n legal live in
          let opened = opened_open past n (open_not_closed (status past n) live) in
          ap (λ (at : ℕ). receives.unread_byte g (found_among at u size addr)) is.0
          ∙ unread_same starts past n (found_among other u size addr) g (cond-true (is_opened past n) (got starts past n (lives past n)) [] opened) is.1
      | inr shut ↦
          let none = none_unread starts past n shut in
          ap (receives.unread_byte g) (ap (λ (k : ℕ). found_among first k size addr) none ∙ none_found first size addr)
          ∙ sym (ap (windows.unread_byte starts past n) (ap (λ (k : ℕ). found_among other k size addr) none ∙ none_found other size addr))
    ]

-- How far a SEND and a RECV go.
pub range_is : (starts : Starts) (past : Past) (n : ℕ) → is_open (status past n) ≡ true
    → sends.range_length (sending starts past n) ≡ streams.range_length starts past n (length (sent starts past n (lives past n)))
range_is starts past n live =
    let l = lives past n in
    let all = sent starts past n l in
    let base = tx_base starts past n l in
    let wr = streams.tx_wr starts past n in
    subst (λ (b : Bool). ahead (cond b base 0 + length (cond b all [])) wr ≡ ahead (base + length all) wr) (sym (opened_open past n (open_not_closed (status past n) live))) refl

pub release_is : (starts : Starts) (past : Past) (n : ℕ) → Legal starts past → is_open (status past n) ≡ true
    → receives.release_length (receiving starts past n) ≡ streams.release_length starts past n (released starts past n (lives past n))
release_is starts past n legal live = ap (λ (at : ℕ). ahead at (streams.rx_rd starts past n)) (released_is starts past n legal live).0

-- What is lent to the link.
pub offered_is : (starts : Starts) (past : Past) (n : ℕ) → Legal starts past → is_open (status past n) ≡ true
    → (sends.in_flight (sending starts past n) ≡ windows.in_flight starts past n) × (sends.offered_length (sending starts past n) ≡ windows.offered_length starts past n)
offered_is starts past n legal live =
    let l = lives past n in
    let all = sent starts past n l in
    let is = taken_is starts past n legal live in
    let f = flight starts past n in
    let size = tx_size past n in
    let opened = opened_open past n (open_not_closed (status past n) live) in (
      (λ i. drop (is.1 i) (cond-true (is_opened past n) all [] opened i)) ∙ sym (cond-true (is_open (status past n)) (drop (taken past n l) all) [] live),
      ap (λ (first : ℕ). min f (size - first % size)) is.0,
    )

pub room_is : (starts : Starts) (past : Past) (n : ℕ) → is_open (status past n) ≡ true → receives.room_length (receiving starts past n) ≡ windows.room_length starts past n
room_is starts past n live =
    let l = lives past n in
    let all = got starts past n l in
    let base = rx_base starts past n l in
    let size = rx_size past n in
    let free = windows.rx_free starts past n in
    subst (λ (b : Bool). min free (min 1472 (size - (cond b base 0 + length (cond b all [])) % size)) ≡ min free (min 1472 (size - (base + length all) % size)))
    (sym (opened_open past n (open_not_closed (status past n) live))) refl
