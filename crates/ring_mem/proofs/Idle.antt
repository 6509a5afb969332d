-- A part of which nothing is in flight.
use Rattle.std.proofs.Common.{inl, inr, ◌∷◌, ◌*◌, ◌≡◌, ◌<◌, ℕ, ◌+◌, ◌-◌, ◌%◌, Bool, true, false, List, [], length, get_or, replicate, refl, sym, ap, ◌∙◌, arith}
use Rattle.std.proofs.lemmas.Bool.{cases_lt}
use Rattle.std.proofs.lemmas.List.{get_or-replicate}
use Rattle.std.proofs.Math.ListN.{get_or-eq_default}
use Rattle.chip_sheet.specs.Sizes.{size_among}
use Rattle.chip_sheet.specs.Sending.{Sending, taken_count, first_in_flight, next_to_send, tx_wr, after_begin, after_resize, fresh}
use Rattle.ring_mem.specs.Parts.{is_size}
use Rattle.ring_mem.specs.TxHolds.{Part, Stands, is_end}
use Rattle.ring_mem.proofs.Filled.{get_or-filled}
use Rattle.ring_mem.proofs.Places.{place_below}
use Rattle.ring_mem.proofs.Writes.{at_distance}

pub idle : (p : Part) (memory : List ℕ) (signs : List Bool) (s : Sending) → s.size ≡ p.size → ((at : ℕ) → 0 < p.size → get_or memory (p.start + at % p.size) 0 ≡ s.tx at) → (p.size ≡ 0 → (at : ℕ) → s.tx at ≡ 0)
    → p.flight ≡ 0 → s.flight ≡ 0 → p.end ≡ next_to_send s % 65536 → tx_wr s ≡ p.wr → s.wr_high < 256 → s.wr_low < 256 → ((o : ℕ) → o < p.size → get_or signs (p.start + o) false ≡ false)
    → ((e : ℕ) → length s.sent < e → is_end s.ends e ≡ false) → Stands p memory signs s
idle p memory signs s size bytes none rest idles end wr high low marks ended = record {
  size = size;
  bytes = bytes;
  none = none;
  flight = omega (arith, rest, idles);
  within = omega (arith, idles);
  end = end;
  wr = wr;
  high = high;
  low = low;
  kept = λ j below. absurd (omega (arith, below, idles));
  marks = λ j below. marks ((first_in_flight s + j) % p.size) (place_below p.size _ (omega (arith, below))) ∙ sym (ended (taken_count s + j + 1) (omega (arith, idles)));
  ended = ended;
  last = λ some. absurd (omega (arith, some, idles));
}

in_part : (size o : ℕ) → o < size → o % size ≡ o
in_part size o below = grind arith

pub idle_marks : (p : Part) (memory : List ℕ) (signs : List Bool) (s : Sending) → is_size p.size ≡ true → Stands p memory signs s → s.flight ≡ 0 → (o : ℕ) → o < p.size → get_or signs (p.start + o) false ≡ false
idle_marks p memory signs s known h idles o below =
    let some : 0 < p.size = omega (arith, below) in
    let j = (o % p.size + p.size - first_in_flight s % p.size) % p.size in
    ap (λ k. get_or signs (p.start + k) false) (sym (at_distance p.size (first_in_flight s) o known some ∙ in_part p.size o below))
    ∙ h.marks j (place_below p.size _ some) ∙ h.ended (taken_count s + j + 1) (omega (arith, idles))

pub begins : (p : Part) (memory : List ℕ) (signs : List Bool) (s : Sending) (base : ℕ) → is_size p.size ≡ true → base < 65536 → s.flight ≡ 0 → Stands p memory signs s
    → Stands (record p { end = base; wr = base }) memory signs (after_begin s base)
begins p memory signs s base known short idles h =
    idle (record p { end = base; wr = base }) memory signs (after_begin s base) h.size h.bytes h.none (omega (arith, h.flight, idles)) refl (omega (arith, short)) (omega (arith, short)) (omega arith) (omega arith) (idle_marks p memory signs s known h idles) (λ e far. refl)

pub resizes : (p q : Part) (memory memory₂ : List ℕ) (signs signs₂ : List Bool) (s : Sending) (v : ℕ) → memory₂ ≡ replicate 16384 0 → signs₂ ≡ replicate 16384 false
    → p.flight ≡ 0 → q.size ≡ v → q.flight ≡ p.flight → q.end ≡ p.end → q.wr ≡ p.wr → Stands p memory signs s → Stands q memory₂ signs₂ (after_resize s v)
resizes p q memory memory₂ signs signs₂ s v zero₁ zero₂ rest size flight end wr h =
    idle q memory₂ signs₂ (after_resize s v) (sym size) (λ at some. ap (λ l. get_or l (q.start + at % q.size) 0) zero₁ ∙ get_or-filled 16384 (q.start + at % q.size) 0) (λ z at. refl)
    (omega (arith, rest, flight)) (omega (arith, rest, h.flight)) (omega (arith, end, h.end)) (h.wr ∙ sym wr) h.high h.low
    (λ o below. ap (λ l. get_or l (q.start + o) false) zero₂ ∙ get_or-filled 16384 (q.start + o) false) h.ended

pub new_stands : (p : Part) (memory : List ℕ) (signs : List Bool) (size : ℕ) → memory ≡ replicate 16384 0 → signs ≡ replicate 16384 false → p.size ≡ size → p.flight ≡ 0 → p.end ≡ 0 → p.wr ≡ 0
    → Stands p memory signs (fresh size)
new_stands p memory signs size zero₁ zero₂ is rest end wr =
    idle p memory signs (fresh size) (sym is) (λ at some. ap (λ l. get_or l (p.start + at % p.size) 0) zero₁ ∙ get_or-filled 16384 (p.start + at % p.size) 0) (λ z at. refl)
    rest refl end (sym wr) (omega arith) (omega arith) (λ o below. ap (λ l. get_or l (p.start + o) false) zero₂ ∙ get_or-filled 16384 (p.start + o) false) (λ e far. refl)

pub all_zero : (xs : List ℕ) → length xs ≡ 8 → ((n : ℕ) → n < 8 → get_or xs n 0 ≡ 0) → (n : ℕ) → get_or xs n 0 ≡ 0
all_zero xs long each n = elim (cases_lt n 8) [
  | inl less ↦ each n less
  | inr more ↦ get_or-eq_default xs 0 (omega (arith, more, long))
]

pub zeros : (n : ℕ) → get_or {A = ℕ} (0 ∷ 0 ∷ 0 ∷ 0 ∷ 0 ∷ 0 ∷ 0 ∷ 0 ∷ []) n 0 ≡ 0
zeros n = get_or-filled 8 n 0

pub twos : (n : ℕ) → n < 8 → size_among (2 ∷ 2 ∷ 2 ∷ 2 ∷ 2 ∷ 2 ∷ 2 ∷ 2 ∷ []) n ≡ 2048
twos n below = ap (λ k. k * 1024) (get_or-replicate 8 n 2 0 below)
