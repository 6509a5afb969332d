-- What a binary search finds among cells whose places rise.
use Rattle.std.proofs.Common.{◌≡◌, ℕ, zero, suc, ◌<◌, ◌≤◌, List, [], ◌∷◌, length, get_or, Some, None, Result, Ok, Err, MatchResult, sym, ap, arith}
use Rattle.std.specs.List.{AllPairs}
use Rattle.std.specs.List.Sorted.{IsSearchInRange, IsBinarySearchResult, IsNonDecreasingBy}
use Rattle.std.specs.Ordering.{nat_cmp, ordering_index}
use Rattle.std.proofs.lemmas.Cmp.{ranked}
use Rattle.std.proofs.lemmas.List.Sorted.{IsNonDecreasingBy-from_default}
use Rattle.std.proofs.lemmas.Bool.Decides.{nat_tests}
use Rattle.chip_hist.specs.declared.kept.Kept.TheVariants as kept
use Rattle.chip_hist.specs.declared.kept.Cell.{Cell}
use Rattle.chip_hist.specs.Kept.{kept_at}
use Rattle.chip_hist.proofs.Places.{kept_at-none}

-- a cell, where antt asks for a default
blank : Cell
blank = record { place = 0; kept = kept.Linked 0 }

-- a cell is found at its place
found : (cells : List Cell) (at : ℕ) (d : Cell) → AllPairs (λ (a b : Cell). a.place < b.place) cells → at < length cells → kept_at cells (get_or cells at d).place ≡ Some (get_or cells at d).kept
found [] at d rising lt = absurd (omega (arith, lt))
found (first ∷ cells) zero d rising lt = grind (arith, nat_tests)
found (first ∷ cells) (suc at) d rising lt =
    let above : first.place < (get_or cells at d).place = rising zero (suc at) d (omega arith) lt in
    let rest : kept_at cells (get_or cells at d).place ≡ Some (get_or cells at d).kept = found cells at d (λ i j e less within. rising (suc i) (suc j) e (omega (arith, less)) (omega (arith, within))) (omega (arith, lt)) in
    grind (arith, nat_tests)

module _ (cells : List Cell) (rising : AllPairs (λ (a b : Cell). a.place < b.place) cells) (place : ℕ) where
  -- the comparisons with the place rise along the cells, as a binary search asks
  comparisons_rise : IsNonDecreasingBy (λ (cell : Cell). ordering_index (nat_cmp cell.place place)) cells
  comparisons_rise = IsNonDecreasingBy-from_default (λ (cell : Cell). ordering_index (nat_cmp cell.place place)) cells blank (λ i j le within.
      let places_rise : (get_or cells i blank).place ≤ (get_or cells j blank).place = grind (arith, rising i j blank, λ (same : i ≡ j). ap (λ k. (get_or cells k blank).place) same) in
      grind (arith, nat_tests))

  -- a binary search by place ends at what is kept there, or nothing is
  pub searched : (r : Result ℕ ℕ) → IsSearchInRange r (length cells) → IsBinarySearchResult (λ (cell : Cell). nat_cmp cell.place place) cells r
      → MatchResult r (λ at. (d : Cell) → kept_at cells place ≡ Some (get_or cells at d).kept) (λ _. kept_at cells place ≡ None)
  searched (Ok at) within equal = λ d.
      let same : (get_or cells at d).place ≡ place = ranked _ place _ (sym (equal d)) in
      rw (← same) (found cells at d rising within)
  searched (Err at) within parted = kept_at-none cells place (λ k d lt same.
      let below : k < at → (get_or cells k d).place < place = λ less. ranked _ place _ (sym ((parted comparisons_rise).0 k d (omega arith) less)) in
      let above : at ≤ k → place < (get_or cells k d).place = λ le. ranked _ place _ (sym ((parted comparisons_rise).1 k d le lt)) in
      grind (arith, below, above))
