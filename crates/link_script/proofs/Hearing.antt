-- What was read of a peer, after one more read.
use Rattle.std.proofs.Common.{◌≡◌, ◌≤◌, ◌<◌, ◌+◌, ◌-◌, ◌^◌, ◌==◌, ℕ, zero, suc, Bool, true, false, not, refl, sym, ap, ◌∙◌, List, [], ◌∷◌, ◌++◌, length, take, drop, get_or, min, Option, Some, if◌then◌else◌, append_assoc, append-nil, zero-add, length-append, length-drop, length-take}
use Rattle.std.proofs.Common.{arith}
use Rattle.std.specs.List.{position}
use Rattle.std.proofs.lemmas.List.{take_all, take_rest, get_or-drop}
use Rattle.std.proofs.lemmas.List.Quantifiers.{position-Some}
use Rattle.link_script.specs.declared.peer.PeerKind.{PeerKind}
use Rattle.link_script.specs.Scripts.{Said}
use Rattle.link_script.specs.Acting.{Acting, is_void, no_chunk, front, chunk_at, read_of, is_udp, part, moved_to, moved, fed_by, fed}

-- lists

take_nil : (n : ℕ) → take {A = ℕ} n [] ≡ []
take_nil zero = refl
take_nil (suc n) = refl

drop_nil : (n : ℕ) → drop {A = Said} n [] ≡ []
drop_nil zero = refl
drop_nil (suc n) = refl

take_sum : (xs : List ℕ) (m n : ℕ) → take (m + n) xs ≡ take m xs ++ take n (drop m xs)
take_sum xs zero n = rw (zero-add n) refl
take_sum [] (suc m) n = let e : suc m + n ≡ suc (m + n) = omega arith in rw (e, take_nil n) refl
take_sum (x ∷ xs) (suc m) n = let e : suc m + n ≡ suc (m + n) = omega arith in rw e (ap (λ l. x ∷ l) (take_sum xs m n))

take_own : (count : ℕ) (ys : List ℕ) → take (length (take count ys)) ys ≡ take count ys
take_own zero ys = refl
take_own (suc n) [] = refl
take_own (suc n) (y ∷ ys) = ap (λ l. y ∷ l) (take_own n ys)

-- the part of the bytes before a place, and so many more
take_more_of : (b : List ℕ) (at count : ℕ)
    → take (at + length (take count (drop at b))) b ≡ take at b ++ take count (drop at b)
take_more_of b at count = take_sum b at (length (take count (drop at b))) ∙ ap (λ l. take at b ++ l) (take_own count (drop at b))

take_whole : (b : List ℕ) (n : ℕ) → n ≡ length b → take n b ≡ b
take_whole b n e = take_all n b (omega (arith, e))

-- chunks

abbrev shows : PeerKind → Said → List ℕ → List ℕ
shows kind s bytes = if is_void kind s then [] else bytes

void_shows : (kind : PeerKind) (s : Said) (bytes : List ℕ) → not (is_void kind s) ≡ false → shows kind s bytes ≡ []
void_shows kind s bytes h = grind (arith, h)

full_shows : (kind : PeerKind) (s : Said) (bytes : List ℕ) → not (is_void kind s) ≡ true → shows kind s bytes ≡ bytes
full_shows kind s bytes h = grind (arith, h)

same_if : (v : Bool) (l : List ℕ) → (if v then l else l) ≡ l
same_if true l = refl
same_if false l = refl

none_shows : (kind : PeerKind) (s : Said) → shows kind s [] ≡ []
none_shows kind s = same_if (is_void kind s) []

pub fed_none : (kind : PeerKind) (say : List Said) → fed_by kind say 0 0 ≡ []
fed_none kind [] = refl
fed_none kind (s ∷ ss) = none_shows kind s

pub heard_none : (kind : PeerKind) (say : List Said) → 0 ≡ min (length (fed_by kind say 0 0)) (2 ^ 64 - 1)
heard_none kind say = rw (fed_none kind say) refl

-- the chunks before one, whole
abbrev whole : PeerKind → List Said → ℕ → List ℕ
whole kind [] next = []
whole kind (s ∷ say) zero = []
whole kind (s ∷ say) (suc next) = shows kind s s.bytes ++ whole kind say next

whole_then : (kind : PeerKind) (say : List Said) (next m at : ℕ)
    → fed_by kind say (next + m) at ≡ whole kind say next ++ fed_by kind (drop next say) m at
whole_then kind [] next m at = rw (drop_nil next) refl
whole_then kind (s ∷ say) zero m at = rw (zero-add m) refl
whole_then kind (s ∷ say) (suc next) m at =
    let n : (suc next + m) ≡ suc (next + m) = omega arith in
    rw n (ap (λ l. shows kind s s.bytes ++ l) (whole_then kind say next m at)
    ∙ sym (append_assoc (shows kind s s.bytes) (whole kind say next) (fed_by kind (drop next say) m at)))

-- the first chunk that is not passed over, where so many bytes of it are read, and where all are
record Stands (kind : PeerKind) (say : List Said) (passed : ℕ) : Type 0 where
  below : passed < length say
  full : not (is_void kind (get_or say passed no_chunk)) ≡ true
  before : (k : ℕ) → k < passed → not (is_void kind (get_or say k no_chunk)) ≡ false

further : (kind : PeerKind) (s : Said) (say : List Said) (passed : ℕ) → Stands kind (s ∷ say) (suc passed) → Stands kind say passed
further kind s say passed h = record { below = omega (arith, h.below); full = h.full; before = λ k l. h.before (suc k) (omega (arith, l)) }

fed_part : (kind : PeerKind) (say : List Said) (passed n : ℕ) → Stands kind say passed
    → fed_by kind say passed n ≡ take n (get_or say passed no_chunk).bytes
fed_part kind [] passed n h = absurd (omega (arith, h.below))
fed_part kind (s ∷ say) zero n h = full_shows kind s (take n s.bytes) h.full
fed_part kind (s ∷ say) (suc passed) n h =
    rw (void_shows kind s s.bytes (h.before 0 (omega arith))) (fed_part kind say passed n (further kind s say passed h))

fed_whole : (kind : PeerKind) (say : List Said) (passed : ℕ) → Stands kind say passed
    → fed_by kind say (suc passed) 0 ≡ (get_or say passed no_chunk).bytes
fed_whole kind [] passed h = absurd (omega (arith, h.below))
fed_whole kind (s ∷ say) zero h =
    rw (full_shows kind s s.bytes h.full, fed_none kind say) (append-nil s.bytes)
fed_whole kind (s ∷ say) (suc passed) h =
    rw (void_shows kind s s.bytes (h.before 0 (omega arith))) (fed_whole kind say passed (further kind s say passed h))

-- what was read before it
fed_before : (kind : PeerKind) (say : List Said) (passed at : ℕ) → Stands kind say passed
    → fed_by kind say 0 at ≡ take (if passed == 0 then at else 0) (get_or say passed no_chunk).bytes
fed_before kind [] passed at h = absurd (omega (arith, h.below))
fed_before kind (s ∷ say) zero at h = full_shows kind s (take at s.bytes) h.full
fed_before kind (s ∷ say) (suc passed) at h =
    let e : (suc passed == 0) ≡ false = grind arith in
    rw e (void_shows kind s (take at s.bytes) (h.before 0 (omega arith)))

stands : (p : Acting) (passed : ℕ) → front p ≡ Some passed → Stands p.script.kind (drop p.next p.script.say) passed
stands p passed h =
    let at = position-Some (λ chunk. not (is_void p.script.kind chunk)) (drop p.next p.script.say) passed no_chunk h in
    record { below = at.0; full = at.1; before = at.2 }

-- what is read, once a place is moved to
by_place : (kind : PeerKind) (say : List Said) (chunk at : ℕ) (v : Bool) (l : List ℕ) → (v ≡ true → fed_by kind say (chunk + 1) 0 ≡ l)
    → fed_by kind say chunk at ≡ l → fed_by kind say (if v then chunk + 1 else chunk) (if v then 0 else at) ≡ l
by_place kind say chunk at true l all some = all refl
by_place kind say chunk at false l all some = some

fed_to : (p : Acting) (chunk at most : ℕ) (l : List ℕ) → (at ≡ most → fed_by p.script.kind p.script.say (chunk + 1) 0 ≡ l)
    → fed_by p.script.kind p.script.say chunk at ≡ l → fed (moved_to p chunk at most) ≡ l
fed_to p chunk at most l all some =
    by_place p.script.kind p.script.say chunk at (at == most) l (λ e. all (grind (arith, e))) some

pub fed_moved : (p : Acting) (passed count : ℕ) → front p ≡ Some passed
    → fed (moved p passed (length (part p passed count))) ≡ fed p ++ part p passed count
fed_moved p passed count h =
    let at = stands p passed h in
    let kind = p.script.kind in
    let say = p.script.say in
    let rest = drop p.next say in
    let b = (chunk_at p passed).bytes in
    let r = read_of p passed in
    let ahead = whole kind say p.next in
    let n = r + length (part p passed count) in
    let was : fed p ≡ ahead ++ take r b =
    let e : p.next + 0 ≡ p.next = omega arith in
    ap (λ m. fed_by kind say m p.at) (sym e) ∙ whole_then kind say p.next 0 p.at ∙ ap (λ l. ahead ++ l) (fed_before kind rest passed p.at at) in
    let more : ahead ++ take n b ≡ fed p ++ part p passed count =
    ap (λ l. ahead ++ l) (take_more_of b r count) ∙ sym (append_assoc ahead (take r b) (part p passed count))
    ∙ ap (λ l. l ++ part p passed count) (sym was) in
    let all : n ≡ length b → fed_by kind say (p.next + passed + 1) 0 ≡ fed p ++ part p passed count = λ e.
    let m : p.next + passed + 1 ≡ p.next + suc passed = omega arith in
    ap (λ m. fed_by kind say m 0) m ∙ whole_then kind say p.next (suc passed) 0
    ∙ ap (λ l. ahead ++ l) (fed_whole kind rest passed at ∙ sym (take_whole b n e)) ∙ more in
    let some : fed_by kind say (p.next + passed) n ≡ fed p ++ part p passed count =
    whole_then kind say p.next passed n ∙ ap (λ l. ahead ++ l) (fed_part kind rest passed n at) ∙ more in
    fed_to p (p.next + passed) n (length b) (fed p ++ part p passed count) all some

pub heard_more : (heard : ℕ) (old more new : List ℕ) → heard ≡ min (length old) (2 ^ 64 - 1) → new ≡ old ++ more
    → min (heard + length more) (2 ^ 64 - 1) ≡ min (length new) (2 ^ 64 - 1)
heard_more heard old more new h e = rw (h, e, length-append old more) (grind arith)

-- what is left of the chunk that is read next
pub chunk_there : (p : Acting) (passed : ℕ) → front p ≡ Some passed
    → (p.next + passed < length p.script.say) × (chunk_at p passed ≡ get_or p.script.say (p.next + passed) no_chunk)
chunk_there p passed h =
    let at = stands p passed h in
    (grind (arith, at.below, length-drop p.next p.script.say), get_or-drop p.next p.script.say passed no_chunk)

-- the place of reading stays within the script

some_left : (kind : PeerKind) (say : List Said) (passed at : ℕ) → not (is_void kind (get_or say passed no_chunk)) ≡ true
    → at ≤ length (get_or say 0 no_chunk).bytes - 1 → is_udp kind ≡ false
    → (if passed == 0 then at else 0) < length (get_or say passed no_chunk).bytes
some_left kind say zero at full h tcp = grind (arith, full, h, tcp)
some_left kind say (suc passed) at full h tcp =
    let e : (suc passed == 0) ≡ false = grind arith in rw e (grind (arith, full, tcp))

either_place : (chunk most : ℕ) (v : Bool) → chunk < most → (if v then chunk + 1 else chunk) ≤ most
either_place chunk most true l = omega (arith, l)
either_place chunk most false l = omega (arith, l)

at_place : (say : List Said) (chunk at : ℕ) (b : List ℕ) (v : Bool) → (at == length b) ≡ v → (get_or (drop chunk say) 0 no_chunk).bytes ≡ b
    → at ≤ length b → (if v then 0 else at) ≤ length (get_or (drop (if v then chunk + 1 else chunk) say) 0 no_chunk).bytes - 1
at_place say chunk at b true e here l = omega arith
at_place say chunk at b false e here l = rw here (grind (arith, e, l))

read_within : (p : Acting) (passed : ℕ) → p.at ≤ length (get_or (drop p.next p.script.say) 0 no_chunk).bytes - 1
    → read_of p passed ≤ length (chunk_at p passed).bytes
read_within p zero h = omega (arith, h)
read_within p (suc passed) h = let e : (suc passed == 0) ≡ false = grind arith in rw e (omega arith)

within_chunk : (b : List ℕ) (r count : ℕ) → count ≡ length (take count (drop r b)) → r ≤ length b → r + count ≤ length b
within_chunk b r count e l = grind (arith, e, l, length-take count (drop r b), length-drop r b)

pub chunk_some : (p : Acting) (passed : ℕ) → front p ≡ Some passed
    → p.at ≤ length (get_or (drop p.next p.script.say) 0 no_chunk).bytes - 1 → is_udp p.script.kind ≡ false
    → read_of p passed < length (chunk_at p passed).bytes
chunk_some p passed h at tcp =
    some_left p.script.kind (drop p.next p.script.say) passed p.at (stands p passed h).full at tcp

pub kept_next : (p : Acting) (passed count : ℕ) → front p ≡ Some passed → (moved p passed count).next ≤ length p.script.say
kept_next p passed count h =
    let there = (chunk_there p passed h).0 in
    either_place (p.next + passed) (length p.script.say) (read_of p passed + count == length (chunk_at p passed).bytes) there

pub kept_at : (p : Acting) (passed count : ℕ) → front p ≡ Some passed → count ≡ length (part p passed count)
    → p.at ≤ length (get_or (drop p.next p.script.say) 0 no_chunk).bytes - 1
    → (moved p passed count).at ≤ length (get_or (drop (moved p passed count).next p.script.say) 0 no_chunk).bytes - 1
kept_at p passed count h e at =
    let b = (chunk_at p passed).bytes in
    let r = read_of p passed in
    let here : get_or (drop (p.next + passed) p.script.say) 0 no_chunk ≡ chunk_at p passed =
    let z : p.next + passed + 0 ≡ p.next + passed = omega arith in
    get_or-drop (p.next + passed) p.script.say 0 no_chunk ∙ ap (λ n. get_or p.script.say n no_chunk) z ∙ sym (chunk_there p passed h).1 in
    at_place p.script.say (p.next + passed) (r + count) b (r + count == length b) refl (ap (λ s. s.bytes) here)
    (within_chunk b r count e (read_within p passed at))

pub kept_heard : (p : Acting) (passed count heard : ℕ) → front p ≡ Some passed → count ≡ length (part p passed count)
    → heard ≡ min (length (fed p)) (2 ^ 64 - 1) → min (heard + count) (2 ^ 64 - 1) ≡ min (length (fed (moved p passed count))) (2 ^ 64 - 1)
kept_heard p passed count heard h e is =
    let new : fed (moved p passed count) ≡ fed p ++ part p passed count =
    ap (λ n. fed (moved p passed n)) e ∙ fed_moved p passed count h in
    ap (λ n. min (heard + n) (2 ^ 64 - 1)) e ∙ heard_more heard (fed p) (part p passed count) (fed (moved p passed count)) is new

-- a count of bytes that a longer read gave is what a read of that count gives
pub part_own : (p : Acting) (passed most count : ℕ) → count ≡ length (part p passed most) → count ≡ length (part p passed count)
part_own p passed most count e =
    let bytes = drop (read_of p passed) (chunk_at p passed).bytes in
    e ∙ ap length (sym (take_own most bytes)) ∙ ap (λ n. length (take n bytes)) (sym e)

pub read_fits : (p : Acting) (passed count : ℕ) → count ≡ length (part p passed count)
    → read_of p passed ≤ length (chunk_at p passed).bytes → read_of p passed + count ≤ length (chunk_at p passed).bytes
read_fits p passed count e l = within_chunk (chunk_at p passed).bytes (read_of p passed) count e l

pub front_is : (r : Option ℕ) (kind kind' : PeerKind) (say say' : List Said) (next : ℕ)
    → r ≡ position (λ chunk. not (is_void kind chunk)) (take (length say - next) (drop next say)) → kind ≡ kind' → say ≡ say'
    → r ≡ position (λ chunk. not (is_void kind' chunk)) (drop next say')
front_is r kind kind' say say' next h k s =
    h ∙ ap (λ l. position (λ chunk. not (is_void kind chunk)) l) (take_rest say next)
    ∙ ap (λ k. position (λ chunk. not (is_void k chunk)) (drop next say)) k
    ∙ ap (λ l. position (λ chunk. not (is_void kind' chunk)) (drop next l)) s
