-- While a socket is not closed, the sizes of the buffers stay.
use Rattle.std.proofs.Common.{◌≡◌, ◌<◌, ℕ, ◌*◌, Bool, true, false, not, ◌&&◌, ◌||◌, cond, eqb, List, [], ◌∷◌, map, Option, None, Some, inl, inr, refl, sym, ap, ◌∙◌, subst}
use Rattle.std.specs.Option.{unwrap_or, option_or}
use Rattle.std.proofs.lemmas.Bool.{cases_Bool, and_parts, eqb-true, agree_below_at, or_right, or_left, not_from_false, false_from_ne_true, false≢true}
use Rattle.chip_sheet.specs.declared.phase.Access.{Access}
use Rattle.chip_sheet.specs.declared.phase.Access.TheVariants.{NoAccess, Read, Write}
use Rattle.chip_sheet.specs.declared.block.Block.{Block}
use Rattle.chip_sheet.specs.declared.block.Block.TheVariants.{Registers}
use Rattle.chip_sheet.specs.declared.socket.Status.{Status}
use Rattle.chip_sheet.specs.declared.socket.Status.TheVariants.{Closed}
use Rattle.chip_sheet.specs.declared.socket.Cause.{Cause}
use Rattle.chip_sheet.specs.declared.socket.Cause.TheVariants as because
use Rattle.chip_sheet.specs.declared.stop.ChipStop.TheVariants.{SizeWhileOpen}
use Rattle.chip_sheet.specs.declared.event.Entry.{Entry}
use Rattle.chip_sheet.specs.declared.event.Entry.TheVariants.{Bus, Link, Rest}
use Rattle.chip_sheet.specs.declared.event.LinkEntry.{LinkEntry}
use Rattle.chip_sheet.specs.declared.event.LinkEntry.TheVariants.{Linked}
use Rattle.chip_sheet.specs.Past.{Past}
use Rattle.chip_sheet.specs.Frames.{access, access_of}
use Rattle.chip_sheet.specs.Blocks.{sockets, block_of, registers_of}
use Rattle.chip_sheet.specs.Registers.{is_reset, last_written, written_after}
use Rattle.chip_sheet.specs.Life.{facts_of, Facts, Life, life, life_after, next, cause, happening, status, is_closed}
use Rattle.chip_sheet.specs.Sizes.{kilobytes, size, are_valid, rx_sizes, tx_sizes, rx_size, tx_size, resizes, resizes_block}
use Rattle.chip_sheet.specs.Streams.{Starts}
use Rattle.chip_sheet.specs.Stops.{Writes, block_access, size_while_open, any_open}
use Rattle.chip_sheet.specs.Legal.{Legal}
use Rattle.chip_sheet.proofs.StopRows.{no_row, none_there, registers_block, commands}
use Rattle.chip_sheet.proofs.ResetLaws.{reset_closes}

-- A write that does not change a size leaves it.
kept : (reset here : Bool) (v : ℕ) (earlier : Option ℕ) → reset ≡ false → (here ≡ true → v ≡ unwrap_or earlier 2)
    → unwrap_or (cond reset None (option_or (cond here (Some v) None) earlier)) 2 ≡ unwrap_or earlier 2
kept true here v earlier on stays = cc
kept false true v earlier on stays = stays refl
kept false false v earlier on stays = refl

not_other : (here same : Bool) → (here && not same) ≡ false → here ≡ true → same ≡ true
not_other true true h k = refl
not_other true false h k = cc
not_other false same h k = cc

kept_by : (past : Past) (made : Access) (sizes k : ℕ) → is_reset made ≡ false → resizes past sizes made ≡ false
    → unwrap_or (written_after made (last_written past (registers_of k) sizes) (registers_of k) sizes) 2 ≡ kilobytes past sizes k
kept_by past NoAccess sizes k on h = refl
kept_by past (Read block addr) sizes k on h = refl
kept_by past (Write block addr v) sizes k on h =
    kept (is_reset (Write block addr v)) (eqb block (registers_of k) && eqb addr sizes) v (last_written past (registers_of k) sizes) on
    (λ here.
    let at = and_parts (eqb block (registers_of k)) (eqb addr sizes) here in
    let is_block = ap block_of (eqb-true block (registers_of k) at.0) ∙ registers_block k in
    eqb-true v (kilobytes past sizes k)
    (not_other (eqb addr sizes) (eqb v (kilobytes past sizes k)) (sym (ap (λ (b : Block). resizes_block past sizes b addr v) is_block) ∙ h) at.1))

pub kilobytes_kept : (past : Past) (entry : Entry) (sizes k : ℕ) → is_reset (access_of past entry) ≡ false → resizes past sizes (access_of past entry) ≡ false
    → kilobytes (entry ∷ past) sizes k ≡ kilobytes past sizes k
kilobytes_kept past entry sizes k on h = kept_by past (access_of past entry) sizes k on h

map_same : (f g : ℕ → ℕ) (ns : List ℕ) → ((n : ℕ) → f n ≡ g n) → map f ns ≡ map g ns
map_same f g [] h = refl
map_same f g (n ∷ more) h = ap (λ (x : ℕ). x ∷ map f more) (h n) ∙ ap (λ (xs : List ℕ). g n ∷ xs) (map_same f g more h)

pub size_kept : (past : Past) (entry : Entry) (sizes k : ℕ) → is_reset (access_of past entry) ≡ false → resizes past sizes (access_of past entry) ≡ false
    → size (entry ∷ past) sizes k ≡ size past sizes k
size_kept past entry sizes k on h =
    ap (λ (ks : List ℕ). cond (are_valid ks) (kilobytes (entry ∷ past) sizes k * 1024) 0)
    (map_same (kilobytes (entry ∷ past) sizes) (kilobytes past sizes) sockets (λ n. kilobytes_kept past entry sizes n on h))
    ∙ ap (λ (x : ℕ). cond (are_valid (map (kilobytes past sizes) sockets)) (x * 1024) 0) (kilobytes_kept past entry sizes k on h)

-- Both directions' sizes are those of the past before.
pub record SizesStay (past : Past) (entry : Entry) : Type 0 where
  pub tx : (k : ℕ) → tx_size (entry ∷ past) k ≡ tx_size past k
  pub rx : (k : ℕ) → rx_size (entry ∷ past) k ≡ rx_size past k

-- While a socket is open, the row of sizes lets no write through that changes one.
neither : (rx tx any : Bool) → ((rx || tx) && any) ≡ false → any ≡ true → (rx ≡ false) × (tx ≡ false)
neither false false any h k = (refl, refl)
neither true tx any h k = cc
neither false true any h k = cc

resizes_none : (past : Past) (bits : ℕ) (block : Block) (addr v : ℕ) → size_while_open past (Writes bits block addr v) ≡ None → any_open past sockets ≡ true
    → (resizes_block past rx_sizes block addr v ≡ false) × (resizes_block past tx_sizes block addr v ≡ false)
resizes_none past bits (Registers n) addr v h some =
    neither (resizes_block past rx_sizes (Registers n) addr v) (resizes_block past tx_sizes (Registers n) addr v) (any_open past sockets)
    (none_there ((resizes_block past rx_sizes (Registers n) addr v || resizes_block past tx_sizes (Registers n) addr v) && any_open past sockets) (SizeWhileOpen n) h) some
resizes_none past bits block addr v h some = (refl, refl)

resizes_no : (past : Past) (made : Access) → size_while_open past (block_access made) ≡ None → any_open past sockets ≡ true
    → (resizes past rx_sizes made ≡ false) × (resizes past tx_sizes made ≡ false)
resizes_no past (Write bits addr v) h some = resizes_none past bits (block_of bits) addr v h some
resizes_no past made h some = (refl, refl)

-- An open socket is among the eight.
abbrev pub is_listed : ℕ → List ℕ → Bool
is_listed m [] = false
is_listed m (n ∷ more) = eqb m n || is_listed m more

pub is_socket : (m : ℕ) → m < 8 → is_listed m sockets ≡ true
is_socket m below = agree_below_at (λ (i : ℕ). is_listed i sockets) (λ (i : ℕ). true) 8 m refl below

one_open : (past : Past) (m n : ℕ) (listed more : Bool) → is_closed (status past m) ≡ false → (eqb m n || listed) ≡ true → (listed ≡ true → more ≡ true)
    → (not (is_closed (status past n)) || more) ≡ true
one_open past m n listed more on h rest =
    elim (cases_Bool (eqb m n)) [
      | inl here ↦ or_left (not (is_closed (status past n))) more (not_from_false (is_closed (status past n)) (subst (λ (k : ℕ). is_closed (status past k) ≡ false) (eqb-true m n here) on))
      | inr away ↦ or_right (not (is_closed (status past n))) more (rest (sym (ap (λ (b : Bool). b || listed) away) ∙ h))
    ]

open_listed : (past : Past) (m : ℕ) (ns : List ℕ) → is_closed (status past m) ≡ false → is_listed m ns ≡ true → any_open past ns ≡ true
open_listed past m [] on h = cc
open_listed past m (n ∷ more) on h = one_open past m n (is_listed m more) (any_open past more) on h (λ k. open_listed past m more on k)

pub some_open : (past : Past) (m : ℕ) → m < 8 → is_closed (status past m) ≡ false → any_open past sockets ≡ true
some_open past m below on = open_listed past m sockets on (is_socket m below)

resizes_entry : (starts : Starts) (past : Past) (entry : Entry) → Legal starts (entry ∷ past) → any_open past sockets ≡ true
    → (resizes past rx_sizes (access_of past entry) ≡ false) × (resizes past tx_sizes (access_of past entry) ≡ false)
resizes_entry starts past (Bus e a) legal some = resizes_no past (access past e) (no_row starts past (block_access (access past e)) legal.0.0).size some
resizes_entry starts past (Link m what) legal some = (refl, refl)
resizes_entry starts past Rest legal some = (refl, refl)

-- An entry that finds a socket open, and is no reset.
pub sizes_before : (starts : Starts) (past : Past) (entry : Entry) (m : ℕ) → m < 8 → Legal starts (entry ∷ past) → is_closed (status past m) ≡ false
    → is_reset (access_of past entry) ≡ false → SizesStay past entry
sizes_before starts past entry m below legal on kept =
    let none = resizes_entry starts past entry legal (some_open past m below on) in
    record { tx = λ k. size_kept past entry tx_sizes k kept none.1; rx = λ k. size_kept past entry rx_sizes k kept none.0 }

-- An entry that leaves a socket open: it found it so, or it opened it.
is_opening : Cause → Bool
is_opening because.OpenTcp = true
is_opening because.OpenUdp = true
is_opening why = false

next_closed : (why : Cause) (facts : Facts) → is_opening why ≡ false → next Closed why facts ≡ Closed
unfolding is_opening
next_closed because.OpenTcp facts other = cc
next_closed because.OpenUdp facts other = cc
next_closed why facts other = refl

closed_life : (at : Life) (why : Cause) → is_opening why ≡ false → (life_after at why).status ≡ next at.status why (facts_of why at)
unfolding is_opening
closed_life at because.OpenTcp other = cc
closed_life at because.OpenUdp other = cc
closed_life at why other = refl

closed_stays : (at : Life) (why : Cause) → at.status ≡ Closed → is_opening why ≡ false → (life_after at why).status ≡ Closed
closed_stays at why closed other =
    closed_life at why other ∙ ap (λ (s : Status). next s why (facts_of why at)) closed ∙ next_closed why _ other

no_link : (asked : Cause) (what : LinkEntry) → is_opening asked ≡ true → happening what ≡ asked → ⊥
unfolding is_opening
no_link because.OpenTcp Linked opens h = cc
no_link because.OpenTcp what opens h = cc
no_link because.OpenUdp Linked opens h = cc
no_link because.OpenUdp what opens h = cc
no_link asked what opens h = cc

link_opens : (b : Bool) (asked : Cause) (what : LinkEntry) → is_opening asked ≡ true → cond b (happening what) because.Nothing ≡ asked → ⊥
unfolding is_opening
link_opens true asked what opens h = no_link asked what opens h
link_opens false because.OpenTcp what opens h = cc
link_opens false because.OpenUdp what opens h = cc
link_opens false asked what opens h = cc

no_reset_opens : (asked : Cause) → is_opening asked ≡ true → because.Reset ≡ asked → ⊥
unfolding is_opening
no_reset_opens asked opens h = false≢true (ap is_opening h ∙ opens)

nothing_opens : (asked : Cause) → is_opening asked ≡ true → because.Nothing ≡ asked → ⊥
unfolding is_opening
nothing_opens asked opens h = false≢true (ap is_opening h ∙ opens)

resizes_command : (past : Past) (m v : ℕ) → (resizes past rx_sizes (Write (registers_of m) 0x01 v) ≡ false) × (resizes past tx_sizes (Write (registers_of m) 0x01 v) ≡ false)
resizes_command past m v =
    (ap (λ (b : Block). resizes_block past rx_sizes b 0x01 v) (registers_block m), ap (λ (b : Block). resizes_block past tx_sizes b 0x01 v) (registers_block m))

resizes_open : (past : Past) (entry : Entry) (m : ℕ) → is_opening (cause past m entry) ≡ true
    → (resizes past rx_sizes (access_of past entry) ≡ false) × (resizes past tx_sizes (access_of past entry) ≡ false)
resizes_open past (Bus e a) m h =
    let asked = cause past m (Bus e a) in
    let it = commands past m (access past e) asked (no_reset_opens asked h) (nothing_opens asked h) refl in
    subst (λ (made : Access). (resizes past rx_sizes made ≡ false) × (resizes past tx_sizes made ≡ false)) (sym it.is) (resizes_command past m it.byte)
resizes_open past (Link k what) m h = absurd (link_opens (eqb k m) (cause past m (Link k what)) what h refl)
resizes_open past Rest m h = absurd (nothing_opens because.Nothing h refl)

open_is : (at : Status) → is_closed at ≡ false → at ≡ Closed → ⊥
open_is Closed h same = cc
open_is at h same = cc

closed_is : (at : Status) → is_closed at ≡ true → at ≡ Closed
closed_is Closed h = refl
closed_is at h = cc

resizes_after : (starts : Starts) (past : Past) (entry : Entry) (m : ℕ) → m < 8 → Legal starts (entry ∷ past) → is_closed (status (entry ∷ past) m) ≡ false
    → (resizes past rx_sizes (access_of past entry) ≡ false) × (resizes past tx_sizes (access_of past entry) ≡ false)
resizes_after starts past entry m below legal on =
    elim (cases_Bool (is_closed (status past m))) [
      | inr before ↦ resizes_entry starts past entry legal (some_open past m below before)
      | inl closed ↦ elim (cases_Bool (is_opening (cause past m entry))) [
        | inl opens ↦ resizes_open past entry m opens
        | inr other ↦ absurd (open_is _ on (closed_stays (life past m) (cause past m entry) (closed_is _ closed) other))
      ]
    ]

no_reset_after : (past : Past) (entry : Entry) (m : ℕ) → is_closed (status (entry ∷ past) m) ≡ false → is_reset (access_of past entry) ≡ false
no_reset_after past entry m on = false_from_ne_true _ (λ h. open_is _ on (reset_closes past entry m h))

pub sizes_after : (starts : Starts) (past : Past) (entry : Entry) (m : ℕ) → m < 8 → Legal starts (entry ∷ past) → is_closed (status (entry ∷ past) m) ≡ false → SizesStay past entry
sizes_after starts past entry m below legal on =
    let none = resizes_after starts past entry m below legal on in
    let kept = no_reset_after past entry m on in
    record { tx = λ k. size_kept past entry tx_sizes k kept none.1; rx = λ k. size_kept past entry rx_sizes k kept none.0 }
