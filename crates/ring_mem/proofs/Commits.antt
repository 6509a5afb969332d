-- What SEND adds.
use Rattle.std.proofs.Common.{inl, inr, ◌≡◌, ◌≤◌, ◌<◌, ℕ, zero, suc, ◌+◌, ◌-◌, ◌%◌, Bool, true, false, ◌||◌, ◌&&◌, eqb, ltb, List, [], ◌∷◌, ◌++◌, length, length-append, get_or, refl, sym, ap, ap₂, ◌∙◌, arith}
use Rattle.std.proofs.lemmas.Bool.{cases_lt, false≢true}
use Rattle.std.proofs.lemmas.Bool.Decides.{nat_tests}
use Rattle.std.proofs.lemmas.List.{get_or_append_left, get_or-append_right}
use Rattle.chip_sheet.specs.Sending.{Sending, taken_count, first_in_flight, next_to_send, range_length, bytes_from, after_commit}
use Rattle.ring_mem.specs.Parts.{is_size}
use Rattle.ring_mem.specs.Marks.{Marked}
use Rattle.ring_mem.specs.TxHolds.{is_end}
use Rattle.ring_mem.proofs.Places.{same_place, places_apart}

pub length-bytes_from : (tx : ℕ → ℕ) (at count : ℕ) → length (bytes_from tx at count) ≡ count
length-bytes_from tx at zero = refl
length-bytes_from tx at (suc count) = ap suc (length-bytes_from tx (at + 1) count)

get_or-bytes_from : (tx : ℕ → ℕ) (at count i : ℕ) → i < count → get_or (bytes_from tx at count) i 0 ≡ tx (at + i)
get_or-bytes_from tx at zero i below = absurd (omega (arith, below))
get_or-bytes_from tx at (suc count) zero below = ap tx (omega arith)
get_or-bytes_from tx at (suc count) (suc i) below = get_or-bytes_from tx (at + 1) count i (omega (arith, below)) ∙ ap tx (omega arith)

pub sent_more : (s : Sending) → length (after_commit s).sent ≡ length s.sent + range_length s
sent_more s = length-append s.sent (bytes_from s.tx (next_to_send s) (range_length s)) ∙ ap (λ n. length s.sent + n) (length-bytes_from s.tx (next_to_send s) (range_length s))

pub gone_same : (s : Sending) → s.flight ≤ length s.sent → taken_count (after_commit s) ≡ taken_count s
gone_same s within = omega (arith, sent_more s)

pub kept_more : (s : Sending) → s.flight ≤ length s.sent → ((j : ℕ) → j < s.flight → s.tx (first_in_flight s + j) ≡ get_or s.sent (taken_count s + j) 0)
    → (j : ℕ) → j < s.flight + range_length s → s.tx (first_in_flight s + j) ≡ get_or (after_commit s).sent (taken_count s + j) 0
kept_more s within kept j below = elim (cases_lt j s.flight) [
  | inl old ↦ kept j old ∙ sym (get_or_append_left s.sent (bytes_from s.tx (next_to_send s) (range_length s)) 0 (taken_count s + j) (omega (arith, old)))
  | inr new ↦
      ap s.tx (omega (arith, new))
      ∙ sym (get_or-bytes_from s.tx (next_to_send s) (range_length s) (taken_count s + j - length s.sent) (omega (arith, below, new)))
      ∙ sym (get_or-append_right s.sent (bytes_from s.tx (next_to_send s) (range_length s)) (length s.sent) (taken_count s + j) 0 refl (omega (arith, new)))
]

or_false : (b : Bool) → (b || false) ≡ b
or_false true = refl
or_false false = refl

or_true : (b : Bool) → (b || true) ≡ true
or_true true = refl
or_true false = refl

or_assoc : (a b c : Bool) → (a || (b || c)) ≡ ((a || b) || c)
or_assoc true b c = refl
or_assoc false b c = refl

not_same : (a b : ℕ) → a < b → eqb a b ≡ false
not_same a b h = grind (arith, nat_tests)

pub is_end-append : (xs : List ℕ) (y at : ℕ) → is_end (xs ++ y ∷ []) at ≡ (is_end xs at || eqb y at)
is_end-append [] y at = or_false (eqb y at)
is_end-append (x ∷ xs) y at = ap (λ b. eqb x at || b) (is_end-append xs y at) ∙ or_assoc (eqb x at) (is_end xs at) (eqb y at)

pub last_place : (size wr next n : ℕ) → is_size size ≡ true → 0 < size → 0 < n → wr ≡ (next + n) % 65536 → (wr + (65536 - 1)) % 65536 % size ≡ (next + n - 1) % size
last_place size wr next n known some more at =
    let e : (wr + (65536 - 1)) % 65536 ≡ (next + n - 1) % 65536 = omega (arith, at, more) in
    ap (λ i. i % size) e ∙ same_place size (next + n - 1) known some

same_test : (a b c d : ℕ) → (a ≡ b → c ≡ d) → (c ≡ d → a ≡ b) → eqb a b ≡ eqb c d
same_test a b c d to from = grind (arith, nat_tests)

no_new : (a b : Bool) → (b ≡ true → a ≡ true) → (a || false) ≡ (a || b)
no_new true b h = refl
no_new false true h = absurd (false≢true (h refl))
no_new false false h = refl

same_number : (a b : ℕ) → eqb a b ≡ true → a ≡ b
same_number a b h = grind (arith, nat_tests)

and_more : (m : ℕ) (b : Bool) → (ltb 0 (suc m) && b) ≡ b
and_more m b = let e : ltb 0 (suc m) ≡ true = grind (arith, nat_tests) in ap (λ x. x && b) e

none_yet : (b : Bool) → (ltb 0 zero && b) ≡ false
none_yet b = refl

pub marks_more : (ends : List ℕ) (old new : List Bool) (start size first gone len flight n place : ℕ) → is_size size ≡ true → n + flight ≤ size → len ≡ gone + flight
    → Marked old new (start + place) (ltb 0 n) → (0 < n → place ≡ (first + (flight + n - 1)) % size)
    → ((j : ℕ) → j < size → get_or old (start + (first + j) % size) false ≡ is_end ends (gone + j + 1)) → (0 < flight → is_end ends len ≡ true)
    → (j : ℕ) → j < size → get_or new (start + (first + j) % size) false ≡ is_end (ends ++ (len + n) ∷ []) (gone + j + 1)
marks_more ends old new start size first gone len flight zero place known fits total marked at marks last j below =
    marked (start + (first + j) % size) ∙ ap (λ b. b || false) (marks j below)
    ∙ no_new (is_end ends (gone + j + 1)) (eqb (len + 0) (gone + j + 1)) (λ e.
    let here : len + 0 ≡ gone + j + 1 = same_number _ _ e in
    ap (is_end ends) (omega (arith, here)) ∙ last (omega (arith, here, total)))
    ∙ sym (is_end-append ends (len + 0) (gone + j + 1))
marks_more ends old new start size first gone len flight (suc m) place known fits total marked at marks last j below =
    marked (start + (first + j) % size) ∙ ap₂ (λ a b. a || b) (marks j below)
    (and_more m (eqb (start + (first + j) % size) (start + place)) ∙ same_test (start + (first + j) % size) (start + place) (len + suc m) (gone + j + 1)
    (λ e. let apart = places_apart size first j (flight + suc m - 1) known below (omega (arith, fits)) (omega (arith, e, at (omega arith))) in omega (arith, apart, total))
    (λ e. let here : j ≡ flight + suc m - 1 = omega (arith, e, total) in ap (λ i. start + (first + i) % size) here ∙ ap (λ p. start + p) (sym (at (omega arith)))))
    ∙ sym (is_end-append ends (len + suc m) (gone + j + 1))

pub ends_more : (ends : List ℕ) (len n e : ℕ) → ((e : ℕ) → len < e → is_end ends e ≡ false) → len + n < e → is_end (ends ++ (len + n) ∷ []) e ≡ false
ends_more ends len n e none far = is_end-append ends (len + n) e ∙ ap₂ (λ a b. a || b) (none e (omega (arith, far))) (not_same (len + n) e far)

pub end_there : (ends : List ℕ) (at : ℕ) → is_end (ends ++ at ∷ []) at ≡ true
end_there ends at = is_end-append ends at at ∙ ap (λ b. is_end ends at || b) (grind (arith, nat_tests)) ∙ or_true (is_end ends at)
