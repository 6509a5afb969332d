-- Data bytes written into an image.
use Rattle.std.proofs.Common.{◌≡◌, ◌⊎◌, ◌≢◌, inl, inr, ℕ, ◌+◌, ◌<◌, ◌≤◌, Bool, true, false, cond, ◌||◌, eqb, leb, List, [], ◌∷◌, ◌++◌, length, get_or, drop, set, refl, sym, ap, ◌∙◌, arith}
use Rattle.std.proofs.lemmas.List.{drop_more, drop_all, get_or-set_same, get_or-set_other, length-set, get_or-replicate}
use Rattle.std.proofs.lemmas.Bool.{eq-eqb, cases_lt, false≢true}
use Rattle.std.proofs.lemmas.Bool.Decides.{eqb_tells}
use Rattle.std.proofs.lemmas.Grind.{common_steps}
use Rattle.flash.specs.Image.{filled, erased}
use Rattle.ihex.specs.Flash.{Placed, placed, written, last_byte, bytes_at, flash_byte}
use Rattle.ihex.specs.Record.{is_outside, record_data, type_of, address_of, data_of}

-- one more byte is written
pub written_more : (image : List ℕ) (at i : ℕ) (bs : List ℕ) → i < length bs → written image (placed (at + i) (drop i bs)) ≡ written (set image (at + i) (get_or bs i 0)) (placed (at + (i + 1)) (drop (i + 1) bs))
written_more image at i bs below =
    let e : at + i + 1 ≡ at + (i + 1) = omega arith in
    ap (λ (rest : List ℕ). written image (placed (at + i) rest)) (drop_more bs i 0 below)
    ∙ ap (λ (n : ℕ). written (set image (at + i) (get_or bs i 0)) (placed n (drop (i + 1) bs))) e

pub written_all : (image : List ℕ) (at i : ℕ) (bs : List ℕ) → length bs ≤ i → written image (placed at (drop i bs)) ≡ image
written_all image at i bs last = ap (λ (rest : List ℕ). written image (placed at rest)) (drop_all i bs last)

pub written-append : (image : List ℕ) (xs ys : List Placed) → written image (xs ++ ys) ≡ written (written image xs) ys
written-append image [] ys = refl
written-append image (x ∷ xs) ys = written-append (set image x.place x.byte) xs ys

or_true : (b : Bool) → (b || true) ≡ true
or_true true = refl
or_true false = refl

pub outside_yes : (at : ℕ) (bs : List ℕ) → 0 < length bs → 32768 < at + length bs → is_outside (placed at bs) ≡ true
unfolding is_outside
outside_yes at [] some far = absurd (omega (arith, some))
outside_yes at (b ∷ []) some far =
    let e : leb 32768 at ≡ true = grind (arith, far) in rw e refl
outside_yes at (b ∷ c ∷ more) some far =
    let ih : is_outside (placed (at + 1) (c ∷ more)) ≡ true = outside_yes (at + 1) (c ∷ more) (omega arith) (omega (arith, far)) in
    ap (λ (o : Bool). leb 32768 at || o) ih ∙ or_true (leb 32768 at)

pub outside_no : (at : ℕ) (bs : List ℕ) → at + length bs ≤ 32768 → is_outside (placed at bs) ≡ false
unfolding is_outside
outside_no at [] near = refl
outside_no at (b ∷ more) near =
    let e : leb 32768 at ≡ false = grind (arith, near) in
    let ih : is_outside (placed (at + 1) more) ≡ false = outside_no (at + 1) more (omega (arith, near)) in
    rw e ih

pub outside_none : (at : ℕ) (bs : List ℕ) → length bs ≡ 0 → is_outside (placed at bs) ≡ false
unfolding is_outside
outside_none at [] e = refl
outside_none at (b ∷ more) e = absurd (omega (arith, e))

within : (n m : ℕ) (b : Bool) → b ≡ false → (m < n → b ≡ true) → n ≤ m
within n m b stays leaves =
    elim (cases_lt m n) [ inl far ↦ absurd (false≢true (sym stays ∙ leaves far)) | inr near ↦ near ]

-- what does not leave flash fits
inside : (at : ℕ) (bs : List ℕ) → is_outside (placed at bs) ≡ false → 0 < length bs → at + length bs ≤ 32768
inside at bs stays some = within (at + length bs) 32768 (is_outside (placed at bs)) stays (λ far. outside_yes at bs some far)

-- the bytes of a data record that does not leave flash fit
pub data_fits : (base : ℕ) (bytes : List ℕ) (at : ℕ) (bs : List ℕ) → is_outside (record_data base bytes) ≡ false → type_of bytes ≡ 0 → at ≡ base + address_of bytes → bs ≡ data_of bytes → 0 < length bs → at + length bs ≤ 32768
unfolding record_data
data_fits base bytes at bs stays zero_type place is some =
    let e : is_outside (placed (base + address_of bytes) (data_of bytes)) ≡ false =
    ap (λ (b : Bool). is_outside (cond b (placed (base + address_of bytes) (data_of bytes)) [])) (sym (eq-eqb (type_of bytes) 0 zero_type)) ∙ stays in
    inside at bs (rw (place, is) e) some

no_data : (base : ℕ) (bytes : List ℕ) → ((eqb (type_of bytes) 0 ≡ true) × (type_of bytes ≡ 0)) ⊎ ((eqb (type_of bytes) 0 ≡ false) × (type_of bytes ≢ 0)) → (type_of bytes ≡ 0 → ⊥)
    → eqb (type_of bytes) 0 ≡ is_outside (record_data base bytes)
unfolding record_data is_outside
no_data base bytes (inl h) other = absurd (other h.1)
no_data base bytes (inr h) other = rw h.0 refl

-- a record of another type puts nothing into flash
pub not_data : (base : ℕ) (bytes : List ℕ) → (type_of bytes ≡ 0 → ⊥) → eqb (type_of bytes) 0 ≡ is_outside (record_data base bytes)
not_data base bytes other = no_data base bytes (eqb_tells (type_of bytes) 0) other

length-written : (image : List ℕ) (ps : List Placed) → length (written image ps) ≡ length image
length-written image [] = refl
length-written image (p ∷ ps) = length-written (set image p.place p.byte) ps ∙ length-set image p.place p.byte

here : (image : List ℕ) (p : Placed) (ps : List Placed) (a : ℕ) → a < length image → ((eqb p.place a ≡ true) × (p.place ≡ a)) ⊎ ((eqb p.place a ≡ false) × (p.place ≢ a))
    → last_byte (get_or (set image p.place p.byte) a 0) (bytes_at a ps) ≡ last_byte (get_or image a 0) (bytes_at a (p ∷ ps))
here image p ps a below (inl h) =
    rw h.0 (ap (λ (v : ℕ). last_byte v (bytes_at a ps)) (rw h.1 (get_or-set_same image a p.byte 0 below)))
here image p ps a below (inr h) =
    rw h.0 (ap (λ (v : ℕ). last_byte v (bytes_at a ps)) (get_or-set_other image p.place a p.byte 0 (λ e. h.1 (sym e))))

-- a byte of an image with bytes over it is the last of those at its place
written_at : (image : List ℕ) (ps : List Placed) (a : ℕ) → a < length image → get_or (written image ps) a 0 ≡ last_byte (get_or image a 0) (bytes_at a ps)
written_at image [] a below = refl
written_at image (p ∷ ps) a below =
    written_at (set image p.place p.byte) ps a (rw (length-set image p.place p.byte) below) ∙ here image p ps a below (eqb_tells p.place a)

length-erased : length erased ≡ 32768
unfolding filled
length-erased = search (arith, common_steps)

erased_at : (a : ℕ) → a < 32768 → get_or erased a 0 ≡ 255
unfolding filled
erased_at a below = get_or-replicate 32768 a 255 0 below

pub flash_at : (ps : List Placed) (a : ℕ) → a < 32768 → get_or (written erased ps) a 0 ≡ flash_byte ps a
flash_at ps a below =
    written_at erased ps a (rw length-erased below) ∙ ap (λ (v : ℕ). last_byte v (bytes_at a ps)) (erased_at a below)
