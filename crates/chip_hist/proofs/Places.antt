-- What is kept at a place, where a cell or bytes are added.
use Rattle.std.proofs.Common.{◌≡◌, ◌≢◌, ◌⊎◌, inl, inr, ⊎_elim, ℕ, zero, suc, ◌-◌, ◌<◌, ◌≤◌, List, [], ◌∷◌, ◌++◌, length, take, drop, Bool, true, false, if◌then◌else◌, ◌==◌, Option, Some, None, IfSome, refl, sym, ap, ap₂, ◌∙◌, arith, length-drop, reverse, slice_get, All}
use Rattle.std.proofs.lemmas.Bool.Decides.{nat_tests}
use Rattle.std.proofs.lemmas.List.{take-append-le, drop-append-le, length-reverse, reverse-append}
use Rattle.std.proofs.lemmas.List.Elements.{All-head, All-tail, All-weaker}
use Rattle.chip_sheet.specs.Past.{Past}
use Rattle.chip_sheet.specs.declared.event.Entry.{Entry}
use Rattle.chip_sheet.specs.declared.event.LinkEntry.TheVariants as link
use Rattle.chip_sheet.specs.declared.event.Entry.TheVariants.{Link}
use Rattle.chip_hist.specs.declared.kept.Kept.{Kept}
use Rattle.chip_hist.specs.declared.kept.Kept.TheVariants as kept
use Rattle.chip_hist.specs.declared.kept.Cell.{Cell}
use Rattle.chip_hist.specs.Kept.{piece, entry_kept, IsWithin, kept_at, entry_found, past_of}

-- a fact of both choices is one of the choice
pub either : {A : Type 0} (P : A → Type 0) (b : Bool) (x y : A) → P x → P y → P (if b then x else y)
either P true x y p q = p
either P false x y p q = q

-- a cell at another place changes nothing at this one
pub kept_at-other : (cells : List Cell) (cell : Cell) (place : ℕ) → cell.place ≢ place → kept_at (cells ++ cell ∷ []) place ≡ kept_at cells place
kept_at-other [] cell place differs = grind (arith, nat_tests)
kept_at-other (first ∷ cells) cell place differs = ap (λ (r : Option Kept). if first.place == place then Some first.kept else r) (kept_at-other cells cell place differs)

-- nothing is kept at a place that no cell has
pub kept_at-none : (cells : List Cell) (place : ℕ) → All (λ (cell : Cell). cell.place ≢ place) cells → kept_at cells place ≡ None
kept_at-none [] place none = refl
kept_at-none (first ∷ cells) place none =
    let differs : first.place ≢ place = All-head (λ (cell : Cell). cell.place ≢ place) first cells none in
    let rest : kept_at cells place ≡ None = kept_at-none cells place (All-tail (λ (cell : Cell). cell.place ≢ place) first cells none) in
    grind (arith, nat_tests)

-- the last cell is found at its place, where no other has it
pub kept_at-last : (cells : List Cell) (cell : Cell) (place : ℕ) → cell.place ≡ place → All (λ (cell : Cell). cell.place ≢ place) cells → kept_at (cells ++ cell ∷ []) place ≡ Some cell.kept
kept_at-last [] cell place same none = grind (arith, nat_tests)
kept_at-last (first ∷ cells) cell place same none =
    let differs : first.place ≢ place = All-head (λ (cell : Cell). cell.place ≢ place) first cells none in
    let rest : kept_at (cells ++ cell ∷ []) place ≡ Some cell.kept = kept_at-last cells cell place same (All-tail (λ (cell : Cell). cell.place ≢ place) first cells none) in
    grind (arith, nat_tests)

-- cells below a number have no place at or above it
pub all_differ : (cells : List Cell) (place : ℕ) → All (λ (cell : Cell). cell.place < place) cells → All (λ (cell : Cell). cell.place ≢ place) cells
all_differ cells place below = All-weaker (λ (cell : Cell). cell.place < place) (λ (cell : Cell). cell.place ≢ place) (λ cell lt same. omega (arith, lt, same)) cells below

-- what is found lies within the bytes, where all that is kept does
pub kept_at-within : (count : ℕ) (cells : List Cell) (place : ℕ) → All (λ (cell : Cell). IsWithin count cell.kept) cells → IfSome (kept_at cells place) (IsWithin count)
kept_at-within count [] place within = tt
kept_at-within count (first ∷ cells) place within =
    either (λ (r : Option Kept). IfSome r (IsWithin count)) (first.place == place) (Some first.kept) (kept_at cells place)
    (All-head (λ (cell : Cell). IsWithin count cell.kept) first cells within)
    (kept_at-within count cells place (All-tail (λ (cell : Cell). IsWithin count cell.kept) first cells within))

-- a piece within the bytes stays where bytes are added behind
piece-more : (bytes more : List ℕ) (from to : ℕ) → from ≤ to → to ≤ length bytes → piece (bytes ++ more) from to ≡ piece bytes from to
piece-more bytes more from to order within =
    let first : from ≤ length bytes = omega (arith, order, within) in
    let few : to - from ≤ length (drop from bytes) = omega (arith, length-drop from bytes, order, within) in
    ap (λ l. take (to - from) l) (drop-append-le from bytes more first) ∙ take-append-le (to - from) (drop from bytes) more few

-- and so does an entry
pub entry_kept-more : (bytes more : List ℕ) (what : Kept) → IsWithin (length bytes) what → entry_kept (bytes ++ more) what ≡ entry_kept bytes what
entry_kept-more bytes more (kept.Got n from to) w = ap (λ l. Link n (link.Got l)) (piece-more bytes more from to w.0 w.1)
entry_kept-more bytes more (kept.Datagram n peer from to) w = ap (λ l. Link n (link.Datagram peer l)) (piece-more bytes more from to w.0 w.1)
entry_kept-more bytes more what w = refl

entry_found-more : (bytes more : List ℕ) (found : Option Kept) → IfSome found (IsWithin (length bytes)) → entry_found (bytes ++ more) found ≡ entry_found bytes found
entry_found-more bytes more None w = refl
entry_found-more bytes more (Some what) w = entry_kept-more bytes more what w

-- what is kept of fewer bytes lies within more
pub within-more : (few many : ℕ) (what : Kept) → few ≤ many → IsWithin few what → IsWithin many what
within-more few many (kept.Got n from to) le w = (w.0, omega (arith, w.1, le))
within-more few many (kept.Datagram n peer from to) le w = (w.0, omega (arith, w.1, le))
within-more few many (kept.Bus event answer) le w = tt
within-more few many (kept.Linked n) le w = tt
within-more few many (kept.Accepted n peer) le w = tt
within-more few many (kept.Refused n) le w = tt
within-more few many (kept.TimedOut n) le w = tt
within-more few many (kept.Took n count) le w = tt
within-more few many (kept.Ended n) le w = tt
within-more few many (kept.Shut n) le w = tt
within-more few many (kept.Failed n) le w = tt
within-more few many (kept.Dropped n) le w = tt

-- what came before a place stays, where bytes and a cell at that place or behind it are added
pub past_of-more : (bytes more : List ℕ) (cells : List Cell) (cell : Cell) (count : ℕ) → count ≤ cell.place → All (λ (cell : Cell). IsWithin (length bytes) cell.kept) cells
    → past_of (bytes ++ more) (cells ++ cell ∷ []) count ≡ past_of bytes cells count
past_of-more bytes more cells cell zero le within = refl
past_of-more bytes more cells cell (suc count) le within =
    let differs : cell.place ≢ count = λ same. omega (arith, le, same) in
    ap₂ (λ (e : Entry) (l : List Entry). e ∷ l)
    (ap (entry_found (bytes ++ more)) (kept_at-other cells cell count differs) ∙ entry_found-more bytes more (kept_at cells count) (kept_at-within (length bytes) cells count within))
    (past_of-more bytes more cells cell count (omega (arith, le)) within)

-- a past has so many events
pub length-past_of : (bytes : List ℕ) (cells : List Cell) (count : ℕ) → length (past_of bytes cells count) ≡ count
length-past_of bytes cells zero = refl
length-past_of bytes cells (suc count) = ap suc (length-past_of bytes cells count)

-- a number below a next one is below it or it
below_or_at : (place count : ℕ) → place < suc count → (place < count) ⊎ (place ≡ count)
below_or_at zero zero lt = inr refl
below_or_at zero (suc count) lt = inl (omega arith)
below_or_at (suc place) zero lt = absurd (omega (arith, lt))
below_or_at (suc place) (suc count) lt = ⊎_elim (λ (less : place < count). inl (omega (arith, less))) (λ (same : place ≡ count). inr (ap suc same)) (below_or_at place count (omega (arith, lt)))

-- a past that has so few events was made of so few
pub few_made : (past : Past) (bytes : List ℕ) (cells : List Cell) (count most : ℕ) → past_of bytes cells count ≡ past → length past ≤ most → count ≤ most
few_made past bytes cells count most is few = omega (arith, few, sym (ap length is) ∙ length-past_of bytes cells count)

at_left : {A : Type 0} (l : List A) (x : A) (i : ℕ) → i < length l → slice_get (l ++ x ∷ []) i ≡ slice_get l i
at_left [] x i lt = absurd (omega (arith, lt))
at_left (a ∷ l) x zero lt = refl
at_left (a ∷ l) x (suc i) lt = at_left l x i (omega (arith, lt))

at_end : {A : Type 0} (l : List A) (x : A) (i : ℕ) → i ≡ length l → slice_get (l ++ x ∷ []) i ≡ Some x
at_end [] x zero same = refl
at_end [] x (suc i) same = absurd (omega (arith, same))
at_end (a ∷ l) x zero same = absurd (omega (arith, same))
at_end (a ∷ l) x (suc i) same = at_end l x i (omega (arith, same))

-- the entry at a place, the oldest first, is what was found there
pub slice_get-past_of : (bytes : List ℕ) (cells : List Cell) (count place : ℕ) → place < count → slice_get (reverse (past_of bytes cells count)) place ≡ Some (entry_found bytes (kept_at cells place))
slice_get-past_of bytes cells zero place lt = absurd (omega (arith, lt))
slice_get-past_of bytes cells (suc count) place lt =
    let last : Entry = entry_found bytes (kept_at cells count) in
    let older : List Entry = reverse (past_of bytes cells count) in
    let size : length older ≡ count = length-reverse (past_of bytes cells count) ∙ length-past_of bytes cells count in
    let here : place ≡ count → slice_get (older ++ last ∷ []) place ≡ Some (entry_found bytes (kept_at cells place)) = λ same. at_end older last place (same ∙ sym size) ∙ ap (λ n. Some (entry_found bytes (kept_at cells n))) (sym same) in
    let there : place < count → slice_get (older ++ last ∷ []) place ≡ Some (entry_found bytes (kept_at cells place)) = λ less. at_left older last place (omega (arith, less, size)) ∙ slice_get-past_of bytes cells count place less in
    let cut : reverse (past_of bytes cells (suc count)) ≡ older ++ last ∷ [] = reverse-append (last ∷ []) (past_of bytes cells count) in
    let is : slice_get (older ++ last ∷ []) place ≡ Some (entry_found bytes (kept_at cells place)) = ⊎_elim there here (below_or_at place count lt) in
    ap (λ (l : List Entry). slice_get l place) cut ∙ is
