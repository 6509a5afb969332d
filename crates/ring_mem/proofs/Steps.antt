-- What commit and taken do to a part.
use Rattle.std.proofs.Common.{◌≡◌, ◌≤◌, ◌<◌, ℕ, ◌+◌, ◌-◌, ◌%◌, Bool, true, false, ltb, List, length, get_or, sym, ap, ◌∙◌, arith, subst}
use Rattle.chip_sheet.specs.Sending.{Sending, taken_count, first_in_flight, next_to_send, range_length, after_commit, after_taken, passes_end}
use Rattle.ring_mem.specs.Parts.{is_size}
use Rattle.ring_mem.specs.Marks.{Marked, Cleared, any_marked}
use Rattle.ring_mem.specs.TxHolds.{Part, Stands, is_end}
use Rattle.ring_mem.proofs.Commits.{sent_more, gone_same, kept_more, marks_more, last_place, ends_more, end_there}
use Rattle.ring_mem.proofs.Takes.{place_shift, wrapped_first, any_is, marks_left, size_most}

pub range_is : (p : Part) (memory : List ℕ) (signs : List Bool) (s : Sending) → Stands p memory signs s → (p.wr + (65536 - p.end)) % 65536 ≡ range_length s
range_is p memory signs s h = omega (arith, h.end, h.wr, h.high, h.low)

pub commits : (p : Part) (memory : List ℕ) (signs signs₂ : List Bool) (s : Sending) (n : ℕ) → is_size p.size ≡ true → p.flight ≤ p.size → n ≤ p.size - p.flight → n ≡ range_length s
    → Marked signs signs₂ (p.start + (p.wr + (65536 - 1)) % 65536 % p.size) (ltb 0 n) → Stands p memory signs s
    → Stands (record p { flight = p.flight + n; end = p.wr }) memory signs₂ (after_commit s)
commits p memory signs signs₂ s n known fits few is marked h =
    let m = range_length s in
    let total : range_length s + s.flight ≤ p.size = omega (arith, few, is, h.flight, fits) in
    let l = sent_more s in
    let g = gone_same s h.within in
    let at : p.wr ≡ (next_to_send s + range_length s) % 65536 = omega (arith, h.end, h.wr, h.high, h.low) in
    record {
      size = h.size;
      bytes = h.bytes;
      none = h.none;
      flight = omega (arith, h.flight, is);
      within = omega (arith, l, h.within);
      end = omega (arith, l, at);
      wr = h.wr;
      high = h.high;
      low = h.low;
      kept = λ j below. ap (λ k. s.tx (s.base + k + j)) g ∙ kept_more s h.within h.kept j below ∙ ap (λ k. get_or (after_commit s).sent (k + j) 0) (sym g);
      marks = λ j below.
          ap (λ k. get_or signs₂ (p.start + (s.base + k + j) % p.size) false) g
          ∙ marks_more s.ends signs signs₂ p.start p.size (first_in_flight s) (taken_count s) (length s.sent) s.flight m ((p.wr + (65536 - 1)) % 65536 % p.size)
          known total (omega (arith, h.within)) (subst (λ k. Marked signs signs₂ (p.start + (p.wr + (65536 - 1)) % 65536 % p.size) (ltb 0 k)) is marked)
          (λ more. last_place p.size p.wr (next_to_send s) m known (omega (arith, total, more)) more at ∙ ap (λ k. k % p.size) (omega (arith, h.within, more)))
          h.marks h.last j below
          ∙ ap (λ k. is_end (after_commit s).ends (k + j + 1)) (sym g);
      ended = λ e far. ends_more s.ends (length s.sent) m e h.ended (omega (arith, far, l));
      last = λ some. ap (is_end (after_commit s).ends) l ∙ end_there s.ends (length s.sent + m);
    }

shifts : (p : Part) (memory : List ℕ) (signs : List Bool) (s : Sending) → is_size p.size ≡ true → p.flight ≤ p.size → Stands p memory signs s
    → (j : ℕ) → j < p.size → ((p.end + (65536 - p.flight)) % 65536 + j) % p.size ≡ (first_in_flight s + j) % p.size
shifts p memory signs s known fits h j below = place_shift p.size ((p.end + (65536 - p.flight)) % 65536) (first_in_flight s) j known below
    (wrapped_first p.end p.flight (first_in_flight s) (next_to_send s) (size_most p.size p.flight known fits) (omega (arith, h.flight, h.within)) h.end)

pub passes : (p : Part) (memory : List ℕ) (signs : List Bool) (s : Sending) (k : ℕ) → is_size p.size ≡ true → p.flight ≤ p.size → k ≤ p.flight → Stands p memory signs s
    → any_marked signs p.start p.size ((p.end + (65536 - p.flight)) % 65536) k ≡ passes_end s k
passes p memory signs s k known fits few h =
    any_is signs s.ends p.start p.size ((p.end + (65536 - p.flight)) % 65536) (first_in_flight s) (taken_count s) (shifts p memory signs s known fits h) h.marks k (omega (arith, few, fits))

pub takes : (p : Part) (memory : List ℕ) (signs signs₂ : List Bool) (s : Sending) (k : ℕ) → is_size p.size ≡ true → p.flight ≤ p.size → k ≤ p.flight
    → Cleared signs signs₂ p.start p.size ((p.end + (65536 - p.flight)) % 65536) k → Stands p memory signs s
    → Stands (record p { flight = p.flight - k }) memory signs₂ (after_taken s k)
takes p memory signs signs₂ s k known fits small cleared h =
    let few : k ≤ s.flight = omega (arith, small, h.flight) in
    let g : taken_count (after_taken s k) ≡ taken_count s + k = omega (arith, few, h.within) in
    record {
      size = h.size;
      bytes = h.bytes;
      none = h.none;
      flight = ap (λ n. n - k) h.flight;
      within = omega (arith, h.within);
      end = h.end;
      wr = h.wr;
      high = h.high;
      low = h.low;
      kept = λ j below. ap s.tx (omega (arith, g)) ∙ h.kept (k + j) (omega (arith, below)) ∙ ap (λ n. get_or s.sent n 0) (omega (arith, g));
      marks = λ j below.
          ap (λ n. get_or signs₂ (p.start + n % p.size) false) (omega (arith, g))
          ∙ marks_left signs signs₂ s.ends p.start p.size ((p.end + (65536 - p.flight)) % 65536) (first_in_flight s) (taken_count s) p.flight (length s.sent) k
          known small fits (omega (arith, h.within, h.flight)) (shifts p memory signs s known fits h) h.marks h.ended cleared j below
          ∙ ap (is_end s.ends) (omega (arith, g));
      ended = h.ended;
      last = λ some. h.last (omega (arith, some));
    }
