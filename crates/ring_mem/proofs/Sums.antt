-- Sizes that fit a memory.
use Rattle.std.proofs.Common.{inl, inr, ◌≡◌, ◌≤◌, ◌<◌, ℕ, zero, suc, ◌+◌, ◌*◌, Bool, true, false, ◌&&◌, leb, List, [], ◌∷◌, length, get_or, set, refl, sym, ap, ◌∙◌, arith}
use Rattle.std.proofs.lemmas.Bool.{cases_lt}
use Rattle.std.proofs.lemmas.Bool.Decides.{nat_tests}
use Rattle.std.proofs.lemmas.List.{get_or-set_other}
use Rattle.std.proofs.lemmas.Grind.{get_or-set_at}
use Rattle.std.proofs.Math.ListN.{get_or-eq_default}
use Rattle.ring_mem.specs.Parts.{is_size, sum_below}
use Rattle.chip_sheet.specs.Sizes as sheet
use Rattle.chip_sheet.specs.Sizes.{all_sizes, total, are_valid}

and_left : (a b : Bool) → (a && b) ≡ true → a ≡ true
and_left true b e = refl
and_left false b e = e

and_rest : (a b : Bool) → (a && b) ≡ true → b ≡ true
and_rest true b e = e
and_rest false b e = absurd (grind (arith, nat_tests))

pub each_size : (ks : List ℕ) (n : ℕ) → all_sizes ks ≡ true → sheet.is_size (get_or ks n 0) ≡ true
each_size [] n e = refl
each_size (k ∷ ks) zero e = and_left (sheet.is_size k) (all_sizes ks) e
each_size (k ∷ ks) (suc n) e = each_size ks n (and_rest (sheet.is_size k) (all_sizes ks) e)

sum_front : (k : ℕ) (ks : List ℕ) (n : ℕ) → sum_below (k ∷ ks) (suc n) ≡ k + sum_below ks n
sum_front k ks zero = omega arith
sum_front k ks (suc n) = let e = sum_front k ks n in omega (arith, e)

pub total_is : (ks : List ℕ) → total ks ≡ sum_below ks (length ks)
total_is [] = refl
total_is (k ∷ ks) = ap (λ t. k + t) (total_is ks) ∙ sym (sum_front k ks (length ks))

pub sum_times : (sizes ks : List ℕ) (n : ℕ) → ((m : ℕ) → m < n → get_or sizes m 0 ≡ get_or ks m 0 * 1024) → sum_below sizes n ≡ sum_below ks n * 1024
sum_times sizes ks zero each = refl
sum_times sizes ks (suc n) each = let e = sum_times sizes ks n (λ m below. each m (omega (arith, below))) in omega (arith, e, each n (omega arith))

pub size_is : (k : ℕ) → sheet.is_size k ≡ true → is_size (k * 1024) ≡ true
size_is k known = grind (arith, nat_tests)

small : (k : ℕ) → sheet.is_size k ≡ true → k ≤ 16
small k known = grind (arith, nat_tests)

pub few_is : (ks : List ℕ) → are_valid ks ≡ true → total ks ≤ 16
few_is ks e = let f : leb (total ks) 16 ≡ true = and_rest (all_sizes ks) (leb (total ks) 16) e in grind (arith, nat_tests)

pub all_is : (ks : List ℕ) → are_valid ks ≡ true → all_sizes ks ≡ true
all_is ks e = and_left (all_sizes ks) (leb (total ks) 16) e

pub done_more : (xs : List ℕ) (n v : ℕ) (f : ℕ → ℕ) → n < length xs → v ≡ f n → ((m : ℕ) → m < n → get_or xs m 0 ≡ f m) → (m : ℕ) → m < n + 1 → get_or (set xs n v) m 0 ≡ f m
done_more xs n v f within is done m below = elim (cases_lt m n) [
  | inl less ↦ get_or-set_other xs n m v 0 (λ e. omega (arith, less, e)) ∙ done m less
  | inr more ↦ let e : m ≡ n = omega (arith, below, more) in get_or-set_at xs n m v 0 e within ∙ is ∙ ap f (sym e)
]

pub sum_next : (sizes : List ℕ) (n : ℕ) → sum_below sizes (n + 1) ≡ sum_below sizes n + get_or sizes n 0
sum_next sizes n = ap (sum_below sizes) (let e : n + 1 ≡ suc n = omega arith in e)

pub sized_all : (sizes ks : List ℕ) → length sizes ≡ 8 → are_valid ks ≡ true → ((m : ℕ) → m < 8 → get_or sizes m 0 ≡ get_or ks m 0 * 1024) → (n : ℕ) → is_size (get_or sizes n 0) ≡ true
sized_all sizes ks long valid each n = elim (cases_lt n 8) [
  | inl less ↦ ap is_size (each n less) ∙ size_is (get_or ks n 0) (each_size ks n (all_is ks valid))
  | inr more ↦ ap is_size (get_or-eq_default sizes 0 (omega (arith, more, long)))
]

pub kilobytes_small : (ks : List ℕ) (n : ℕ) → are_valid ks ≡ true → get_or ks n 0 ≤ 16
kilobytes_small ks n valid = let known = each_size ks n (all_is ks valid) in small (get_or ks n 0) known

pub total_fits : (sizes ks : List ℕ) → length ks ≡ 8 → are_valid ks ≡ true → ((m : ℕ) → m < 8 → get_or sizes m 0 ≡ get_or ks m 0 * 1024) → sum_below sizes 8 ≤ 16384
total_fits sizes ks long valid each =
    let t : total ks ≡ sum_below ks 8 = total_is ks ∙ ap (sum_below ks) long in
    let e = sum_times sizes ks 8 each in
    let few = few_is ks valid in
    omega (arith, t, e, few)
