-- A part stands for its lists while its pointers, its bytes and its marks stay.
use Rattle.std.proofs.Common.{inl, inr, ◌⊎◌, ◌||◌, ◌&&◌, eqb, ltb, zero, suc, ◌≡◌, ◌≢◌, ◌≤◌, ◌<◌, ℕ, ◌+◌, ◌%◌, Bool, true, false, not, List, length, get_or, set, refl, sym, ap, ◌∙◌, arith, subst}
use Rattle.std.proofs.lemmas.List.{get_or-set_other}
use Rattle.chip_sheet.specs.Sending.{Sending, first_in_flight}
use Rattle.ring_mem.specs.declared.sends.Sends.{Sends}
use Rattle.ring_mem.specs.Parts.{SameBytesOutside, SameMarksOutside}
use Rattle.ring_mem.specs.Marks.{Marked, Cleared, is_among}
use Rattle.ring_mem.specs.declared.layout.Layout.{Layout}
use Rattle.ring_mem.proofs.Marks as marking
use Rattle.ring_mem.specs.TxHolds.{Part, Stands}
use Rattle.ring_mem.proofs.Apart.{outside, part_within}
use Rattle.ring_mem.proofs.Places.{place_below}

pub same_stands : (p : Part) (memory memory₂ : List ℕ) (signs signs₂ : List Bool) (s : Sending)
    → ((o : ℕ) → o < p.size → get_or memory₂ (p.start + o) 0 ≡ get_or memory (p.start + o) 0)
    → ((o : ℕ) → o < p.size → get_or signs₂ (p.start + o) false ≡ get_or signs (p.start + o) false)
    → Stands p memory signs s → Stands p memory₂ signs₂ s
same_stands p memory memory₂ signs signs₂ s bytes marks h = record {
  size = h.size;
  bytes = λ at some. bytes (at % p.size) (place_below p.size at some) ∙ h.bytes at some;
  none = h.none;
  flight = h.flight;
  within = h.within;
  end = h.end;
  wr = h.wr;
  high = h.high;
  low = h.low;
  kept = h.kept;
  marks = λ j below. marks ((first_in_flight s + j) % p.size) (place_below p.size _ (omega (arith, below))) ∙ h.marks j below;
  ended = h.ended;
  last = h.last;
}

pub same_part : (a b : Part) → a.start ≡ b.start → a.size ≡ b.size → a.flight ≡ b.flight → a.end ≡ b.end → a.wr ≡ b.wr → a ≡ b
same_part a b e₁ e₂ e₃ e₄ e₅ = λ i. record { start = e₁ i; size = e₂ i; flight = e₃ i; end = e₄ i; wr = e₅ i }

-- the other parts stand while memory and marks change within one part only
pub others_stand : (l : Layout) (i n : ℕ) (p q : Part) (memory memory₂ : List ℕ) (signs signs₂ : List Bool) (s : Sending) → i < 8 → n < 8 → n ≢ i
    → p.start ≡ get_or l.starts n 0 → p.size ≡ get_or l.sizes n 0 → q ≡ p
    → SameBytesOutside memory memory₂ (get_or l.starts i 0) (get_or l.sizes i 0) → SameMarksOutside signs signs₂ (get_or l.starts i 0) (get_or l.sizes i 0)
    → Stands p memory signs s → Stands q memory₂ signs₂ s
others_stand l i n p q memory memory₂ signs signs₂ s li ln other start size same bytes marks h =
    let out : (o : ℕ) → o < p.size → (p.start + o < get_or l.starts i 0) ⊎ (get_or l.starts i 0 + get_or l.sizes i 0 ≤ p.start + o) =
    λ o lo. outside l i n o (p.start + o) li ln other (omega (arith, lo, size)) (omega (arith, start)) in
    subst (λ q. Stands q memory₂ signs₂ s) (sym same)
    (same_stands p memory memory₂ signs signs₂ s (λ o lo. bytes (p.start + o) (out o lo)) (λ o lo. marks (p.start + o) (out o lo)) h)

pub set_outside : (memory : List ℕ) (start size at b : ℕ) → 0 < size → SameBytesOutside memory (set memory (start + at % size) b) start size
set_outside memory start size at b some k (inl less) = get_or-set_other memory (start + at % size) k b 0 (λ e. omega (arith, less, e))
set_outside memory start size at b some k (inr more) = let within : at % size < size = place_below size at some in get_or-set_other memory (start + at % size) k b 0 (λ e. omega (arith, more, e, within))

and_right : (a b : Bool) → b ≡ false → (a && b) ≡ false
and_right true b e = e
and_right false b e = refl

or_right : (a b : Bool) → b ≡ false → (a || b) ≡ a
or_right true b e = refl
or_right false b e = e

elsewhere : (at start size k : ℕ) → 0 < size → (at < start) ⊎ (start + size ≤ at) → eqb at (start + k % size) ≡ false
elsewhere at start size k some (inl less) = marking.apart at (start + k % size) (λ e. omega (arith, less, e))
elsewhere at start size k some (inr more) = let within : k % size < size = place_below size k some in marking.apart at (start + k % size) (λ e. omega (arith, more, e, within))

pub marked_outside : (old new : List Bool) (start size last n : ℕ) → n ≤ size → Marked old new (start + last % size) (ltb 0 n) → SameMarksOutside old new start size
marked_outside old new start size last zero few marked at out = marked at ∙ or_right (get_or old at false) false refl
marked_outside old new start size last (suc m) few marked at out =
    marked at ∙ or_right (get_or old at false) _ (and_right (ltb 0 (suc m)) _ (elsewhere at start size last (omega (arith, few)) out))

not_among : (start size first at : ℕ) → (at < start) ⊎ (start + size ≤ at) → (k : ℕ) → k ≤ size → is_among start size first k at ≡ false
not_among start size first at out zero few = refl
not_among start size first at out (suc k) few =
    or_right (is_among start size first k at) _ (elsewhere at start size (first + k) (omega (arith, few)) out) ∙ not_among start size first at out k (omega (arith, few))

pub cleared_outside : (old new : List Bool) (start size first k : ℕ) → k ≤ size → Cleared old new start size first k → SameMarksOutside old new start size
cleared_outside old new start size first k few cleared at out =
    cleared at ∙ ap (λ b. get_or old at false && not b) (not_among start size first at out k few) ∙ sym (marking.and_true (get_or old at false))

pub part_in_memory : (r : Sends) (n : ℕ) → n < 8 → get_or r.layout.starts n 0 + get_or r.layout.sizes n 0 ≤ length r.memory.items
part_in_memory r n below = omega (arith, part_within r.layout n below, r.memory_len, r.memory.ok.0)
