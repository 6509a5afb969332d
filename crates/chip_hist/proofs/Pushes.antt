-- A history after an event more.
use Rattle.std.proofs.Common.{◌≡◌, ℕ, suc, ◌+◌, ◌-◌, ◌<◌, ◌≤◌, List, [], ◌∷◌, ◌++◌, length, take, Option, refl, sym, ap, ap₂, ◌∙◌, subst, arith, length-append}
use Rattle.std.proofs.lemmas.List.{append-nil}
use Rattle.std.proofs.Math.Seq.{drop-append_seam, take-length}
use Rattle.std.proofs.lemmas.List.Elements.{All-weaker, All-push}
use Rattle.std.proofs.lemmas.List.Quantifiers.{all_pairs_push}
use Rattle.chip_sheet.specs.Past.{Past}
use Rattle.chip_sheet.specs.declared.event.Entry.{Entry}
use Rattle.chip_sheet.specs.declared.event.LinkEntry.{LinkEntry}
use Rattle.chip_sheet.specs.declared.event.LinkEntry.TheVariants as link
use Rattle.chip_sheet.specs.declared.event.Entry.TheVariants.{Bus, Link, Rest}
use Rattle.chip_hist.specs.declared.kept.Kept.{Kept}
use Rattle.chip_hist.specs.declared.kept.Kept.TheVariants as kept
use Rattle.chip_hist.specs.declared.kept.Cell.{Cell}
use Rattle.board_bus.specs.declared.event.BusEvent.{BusEvent}
use Rattle.board_bus.specs.declared.event.BusAnswer.{BusAnswer}
use Rattle.chip_hist.specs.declared.limits.TheConstants.{MOST_EVENTS, MARGIN}
use Rattle.chip_hist.specs.Log.{begun, entry_weight, weight_of, link_data}
use Rattle.chip_hist.specs.Kept.{piece, entry_kept, kept_link, IsWithin, entry_found, past_of, IsSound}
use Rattle.chip_hist.proofs.Places.{kept_at-none, kept_at-last, all_differ, within-more, past_of-more}

-- The fields stand for one entry more.
pub record Pushed (bytes : List ℕ) (cells : List Cell) (count weight limit : ℕ) (entry : Entry) (past : Past) : Type 0 where
  pub sound : IsSound bytes cells count weight limit
  pub is : past_of bytes cells count ≡ entry ∷ past

pub rested : (bytes : List ℕ) (cells : List Cell) (count count' weight limit : ℕ) → IsSound bytes cells count weight limit → count ≤ MOST_EVENTS + MARGIN → count' ≡ count + 1
    → Pushed bytes cells count' weight limit Rest (past_of bytes cells count)
unfolding weight_of entry_weight
rested bytes cells count count' weight limit sound few next =
    let is : past_of bytes cells (suc count) ≡ Rest ∷ past_of bytes cells count =
    ap (λ (r : Option Kept). entry_found bytes r ∷ past_of bytes cells count) (kept_at-none cells count (all_differ cells count sound.below)) in
    let next_weight : weight_of (past_of bytes cells (suc count)) ≡ 0 + weight_of (past_of bytes cells count) = ap weight_of is in
    let heavier : weight ≡ weight_of (past_of bytes cells (suc count)) = omega (arith, sound.weighed, next_weight) in
    let over : suc count ≡ count' = omega (arith, next) in
    subst (λ n. Pushed bytes cells n weight limit Rest (past_of bytes cells count)) over (record {
      sound = record {
        limited = sound.limited;
        short = omega (arith, few);
        rising = sound.rising;
        below = All-weaker (λ (cell : Cell). cell.place < count) (λ (cell : Cell). cell.place < suc count) (λ cell lt. omega (arith, lt)) cells sound.below;
        within = sound.within;
        weighed = heavier;
      };
      is = is;
    })

pub pushed : (bytes more : List ℕ) (cells : List Cell) (count weight limit : ℕ) (what : Kept) (entry : Entry)
    → IsSound bytes cells count weight limit → count ≤ MOST_EVENTS + MARGIN
    → IsWithin (length (bytes ++ more)) what → entry_kept (bytes ++ more) what ≡ entry
    → Pushed (bytes ++ more) (cells ++ record { place = count; kept = what } ∷ []) (suc count) (entry_weight entry + weight) limit entry (past_of bytes cells count)
unfolding weight_of entry_weight
pushed bytes more cells count weight limit what entry sound few within stands =
    let cell : Cell = record { place = count; kept = what } in
    let is : past_of (bytes ++ more) (cells ++ cell ∷ []) (suc count) ≡ entry ∷ past_of bytes cells count =
    ap₂ (λ (e : Entry) (l : List Entry). e ∷ l)
    (ap (entry_found (bytes ++ more)) (kept_at-last cells cell count refl (all_differ cells count sound.below)) ∙ stands)
    (past_of-more bytes more cells cell count (omega arith) sound.within) in
    let longer : length bytes ≤ length (bytes ++ more) = omega (arith, length-append bytes more) in
    record {
      sound = record {
        limited = sound.limited;
        short = omega (arith, few);
        rising = all_pairs_push (λ (a b : Cell). a.place < b.place) cells cell sound.rising (λ k d lt. sound.below k d lt);
        below = All-push (λ (c : Cell). c.place < suc count) cells cell (All-weaker (λ (c : Cell). c.place < count) (λ (c : Cell). c.place < suc count) (λ c lt. omega (arith, lt)) cells sound.below) (omega arith);
        within = All-push (λ (c : Cell). IsWithin (length (bytes ++ more)) c.kept) cells cell (All-weaker (λ (c : Cell). IsWithin (length bytes) c.kept) (λ (c : Cell). IsWithin (length (bytes ++ more)) c.kept) (λ c w. within-more (length bytes) (length (bytes ++ more)) c.kept longer w) cells sound.within) within;
        weighed = ap (λ w. entry_weight entry + w) sound.weighed ∙ sym (ap weight_of is);
      };
      is = is;
    }

-- the same, as the calls that make the fields say them
pub pushed_by : (bytes more bytes' : List ℕ) (cells cells' : List Cell) (count count' weight weight' limit : ℕ) (what : Kept) (entry : Entry)
    → IsSound bytes cells count weight limit → count ≤ MOST_EVENTS + MARGIN
    → IsWithin (length (bytes ++ more)) what → entry_kept (bytes ++ more) what ≡ entry
    → bytes' ≡ bytes ++ more → cells' ≡ cells ++ record { place = count; kept = what } ∷ [] → count' ≡ count + 1 → weight' ≡ entry_weight entry + weight
    → Pushed bytes' cells' count' weight' limit entry (past_of bytes cells count)
pushed_by bytes more bytes' cells cells' count count' weight weight' limit what entry sound few within stands with_bytes with_cell next heavier =
    let all = pushed bytes more cells count weight limit what entry sound few within stands in
    let over : suc count ≡ count' = omega (arith, next) in
    let past = past_of bytes cells count in
    let one = subst (λ (b : List ℕ). Pushed b (cells ++ record { place = count; kept = what } ∷ []) (suc count) (entry_weight entry + weight) limit entry past) (sym with_bytes) all in
    let two = subst (λ (l : List Cell). Pushed bytes' l (suc count) (entry_weight entry + weight) limit entry past) (sym with_cell) one in
    let three = subst (λ n. Pushed bytes' cells' n (entry_weight entry + weight) limit entry past) over two in
    subst (λ w. Pushed bytes' cells' count' w limit entry past) (sym heavier) three

-- the data of what a link did, behind the bytes
piece_behind : (bytes more : List ℕ) → piece (bytes ++ more) (length bytes) (length bytes + length more) ≡ more
piece_behind bytes more =
    let size : length bytes + length more - length bytes ≡ length more = omega arith in
    ap₂ (λ (n : ℕ) (l : List ℕ). take n l) size (drop-append_seam bytes more) ∙ take-length more

pub link_stands : (bytes : List ℕ) (n : ℕ) (what : LinkEntry) → entry_kept (bytes ++ link_data what) (kept_link n what (length bytes) (length bytes + length (link_data what))) ≡ Link n what
link_stands bytes n (link.Got more) = ap (λ l. Link n (link.Got l)) (piece_behind bytes more)
link_stands bytes n (link.Datagram peer more) = ap (λ l. Link n (link.Datagram peer l)) (piece_behind bytes more)
link_stands bytes n link.Linked = refl
link_stands bytes n (link.Accepted peer) = refl
link_stands bytes n link.Refused = refl
link_stands bytes n link.TimedOut = refl
link_stands bytes n (link.Took count) = refl
link_stands bytes n link.Ended = refl
link_stands bytes n link.Shut = refl
link_stands bytes n link.Failed = refl
link_stands bytes n link.Dropped = refl

pub link_within : (bytes : List ℕ) (n : ℕ) (what : LinkEntry) → IsWithin (length (bytes ++ link_data what)) (kept_link n what (length bytes) (length bytes + length (link_data what)))
link_within bytes n (link.Got more) = (omega arith, omega (arith, length-append bytes more))
link_within bytes n (link.Datagram peer more) = (omega arith, omega (arith, length-append bytes more))
link_within bytes n link.Linked = tt
link_within bytes n (link.Accepted peer) = tt
link_within bytes n link.Refused = tt
link_within bytes n link.TimedOut = tt
link_within bytes n (link.Took count) = tt
link_within bytes n link.Ended = tt
link_within bytes n link.Shut = tt
link_within bytes n link.Failed = tt
link_within bytes n link.Dropped = tt

-- after an event of the bus
pub bus_pushed : (bytes : List ℕ) (cells cells' : List Cell) (count weight limit : ℕ) (event : BusEvent) (answer : BusAnswer)
    → IsSound bytes cells count weight limit → count ≤ MOST_EVENTS + MARGIN → cells' ≡ cells ++ record { place = count; kept = kept.Bus event answer } ∷ []
    → Pushed bytes cells' (count + 1) (weight + 1) limit (Bus event answer) (past_of bytes cells count)
unfolding entry_weight
bus_pushed bytes cells cells' count weight limit event answer sound few put =
    pushed_by bytes [] bytes cells cells' count (count + 1) weight (weight + 1) limit (kept.Bus event answer) (Bus event answer) sound few tt refl (sym (append-nil bytes)) put refl (omega arith)

-- after an event of a link
pub link_pushed : (bytes more bytes' : List ℕ) (cells cells' : List Cell) (count weight limit n from units : ℕ) (what : LinkEntry) (stored : Kept)
    → IsSound bytes cells count weight limit → count ≤ MOST_EVENTS + MARGIN
    → more ≡ link_data what → bytes' ≡ bytes ++ more → from ≡ length bytes → stored ≡ kept_link n what from (from + length more)
    → cells' ≡ cells ++ record { place = count; kept = stored } ∷ [] → units ≡ begun (length more)
    → Pushed bytes' cells' (count + 1) (weight + (1 + units)) limit (Link n what) (past_of bytes cells count)
unfolding entry_weight
link_pushed bytes more bytes' cells cells' count weight limit n from units what stored sound few its_data put_bytes at is_stored put weighs =
    let where_it_stands : kept_link n what (length bytes) (length bytes + length (link_data what)) ≡ stored =
    ap₂ (λ (f : ℕ) (d : List ℕ). kept_link n what f (f + length d)) (sym at) (sym its_data) ∙ sym is_stored in
    let within : IsWithin (length (bytes ++ link_data what)) stored = subst (λ (k : Kept). IsWithin (length (bytes ++ link_data what)) k) where_it_stands (link_within bytes n what) in
    let stands : entry_kept (bytes ++ link_data what) stored ≡ Link n what = ap (λ (k : Kept). entry_kept (bytes ++ link_data what) k) (sym where_it_stands) ∙ link_stands bytes n what in
    let units_are : units ≡ begun (length (link_data what)) = weighs ∙ ap (λ (d : List ℕ). begun (length d)) its_data in
    let heavier : weight + (1 + units) ≡ entry_weight (Link n what) + weight = omega (arith, units_are) in
    pushed_by bytes (link_data what) bytes' cells cells' count (count + 1) weight (weight + (1 + units)) limit stored (Link n what) sound few within stands (put_bytes ∙ ap (λ (d : List ℕ). bytes ++ d) its_data) put refl heavier
