-- What a step of the code makes of the bytes.
use Rattle.std.proofs.Common.{◌≡◌, ◌-◌, ◌%◌, ◌/◌, ℕ, ◌<◌, true, false, eqb, cond, List, length, get_or, set, refl, sym, ap, ◌∙◌, subst, arith, inl, inr}
use lib.Bits.{bit_and}
use Rattle.std.specs.Prelude.{bit_or}
use Rattle.std.proofs.lemmas.Bool.{cases_eq, cond-true, cond-false, eq-eqb, ne_eqb}
use Rattle.std.proofs.lemmas.List.{get_or-set_same, get_or-set_other, length-set}
use Rattle.std.proofs.lemmas.Nat.{and-not, and_comm}
use Rattle.chip_sheet.specs.declared.event.Addr.{Addr}
use Rattle.chip_sheet.specs.SocketBlock.{socket_place}
use Rattle.sock_regs.specs.Places.{is_kept, is_stored, after_write, after_raise, after_peer, address_in}
use Rattle.sock_regs.proofs.PlaceTable.{kept_is, bits_is, peer_is, peer_in_ranges}

abbrev pub Holds : List ℕ → (ℕ → ℕ) → Type 0
Holds bytes f = (at : ℕ) → is_kept (socket_place at).shows ≡ true → get_or bytes at 0 ≡ f at

-- one byte is written
one_written : (bytes : List ℕ) (f after : ℕ → ℕ) (i x : ℕ) → i < length bytes → Holds bytes f → (is_kept (socket_place i).shows ≡ true → x ≡ after i)
    → ((at : ℕ) → (i ≡ at → ⊥) → after at ≡ f at) → Holds (set bytes i x) after
one_written bytes f after i x inside held same others at here =
    elim (cases_eq i at) [
      | inl is ↦
          ap (λ (k : ℕ). get_or (set bytes i x) k 0) (sym is) ∙ get_or-set_same bytes i x 0 inside
          ∙ same (subst (λ (k : ℕ). is_kept (socket_place k).shows ≡ true) (sym is) here) ∙ ap after is
      | inr other ↦ get_or-set_other bytes i at x 0 (λ e. other (sym e)) ∙ held at here ∙ sym (others at other)
    ]

without : (b v : ℕ) → b < 256 → v < 256 → bit_and b (255 - v) ≡ b - bit_and b v
without b v low below =
    let whole = and-not 8 v b below low in
    let turned = and_comm b (255 - v) in
    let mask = and_comm b v in
    omega (arith, whole, turned, mask)

interrupts_kept : is_kept (socket_place 2).shows ≡ true
unfolding socket_place
interrupts_kept = refl

elsewhere : (addr v : ℕ) (f : ℕ → ℕ) (at : ℕ) → (addr ≡ at → ⊥) → after_write addr v f at ≡ f at
elsewhere addr v f at other = cond-false _ _ _ (ne_eqb addr at other)

-- a write of Sn_IR
pub clears_bits : (bytes : List ℕ) (f : ℕ → ℕ) (addr v : ℕ) → addr ≡ 2 → length bytes ≡ 48 → get_or bytes 2 0 < 256 → v < 256 → Holds bytes f
    → Holds (set bytes 2 (bit_and (get_or bytes 2 0) (255 - v))) (after_write addr v f)
clears_bits bytes f addr v is len low below held =
    one_written bytes f (after_write addr v f) 2 _ (omega (arith, len)) held
    (λ here. without (get_or bytes 2 0) v low below ∙ ap (λ (b : ℕ). b - bit_and b v) (held 2 here)
    ∙ sym (cond-true _ _ _ (eq-eqb addr 2 is) ∙ kept_is 2 v (f 2)))
    (λ at other. elsewhere addr v f at (λ e. other (sym is ∙ e)))

not_interrupts : (addr : ℕ) → (addr ≡ 2 → ⊥) → eqb 2 addr ≡ false
not_interrupts addr other = ne_eqb 2 addr (λ e. other (sym e))

-- a byte that is kept as it is
pub stores_byte : (bytes : List ℕ) (f : ℕ → ℕ) (addr v : ℕ) → (addr ≡ 2 → ⊥) → is_stored addr ≡ true → addr < length bytes → Holds bytes f
    → Holds (set bytes addr v) (after_write addr v f)
stores_byte bytes f addr v other stored inside held =
    one_written bytes f (after_write addr v f) addr v inside held
    (λ here. sym (cond-true _ _ _ (eq-eqb addr addr refl) ∙ kept_is addr v (f addr) ∙ cond-false _ _ _ (not_interrupts addr other) ∙ cond-true _ _ _ stored))
    (λ at apart. elsewhere addr v f at apart)

-- a byte of which nothing is kept
pub keeps_all : (bytes : List ℕ) (f : ℕ → ℕ) (addr v : ℕ) → (addr ≡ 2 → ⊥) → is_stored addr ≡ false → Holds bytes f → Holds bytes (after_write addr v f)
keeps_all bytes f addr v other stored held at here =
    held at here
    ∙ sym (elim (cases_eq addr at) [
      | inl is ↦
          cond-true _ _ _ (eq-eqb addr at is) ∙ kept_is at v (f at)
          ∙ cond-false _ _ _ (not_interrupts at (λ e. other (is ∙ e))) ∙ cond-false _ _ _ (ap is_stored (sym is) ∙ stored)
      | inr apart ↦ elsewhere addr v f at apart
    ])

-- bits of Sn_IR are raised
pub raises_bits : (bytes : List ℕ) (f : ℕ → ℕ) (bits : ℕ) → length bytes ≡ 48 → Holds bytes f
    → Holds (set bytes 2 (bit_or (get_or bytes 2 0) bits)) (after_raise bits f)
raises_bits bytes f bits len held =
    one_written bytes f (after_raise bits f) 2 _ (omega (arith, len)) held
    (λ here. ap (λ (b : ℕ). bit_or b bits) (held 2 here) ∙ sym (bits_is 2 bits (f 2)))
    (λ at other. bits_is at bits (f at) ∙ cond-false _ _ _ (ne_eqb 2 at other))

-- a byte of a list after a write
put : (l : List ℕ) (i x at : ℕ) → i < length l → get_or (set l i x) at 0 ≡ cond (eqb i at) x (get_or l at 0)
put l i x at inside =
    elim (cases_eq i at) [
      | inl is ↦ ap (λ (k : ℕ). get_or (set l i x) k 0) (sym is) ∙ get_or-set_same l i x 0 inside ∙ sym (cond-true _ _ _ (eq-eqb i at is))
      | inr other ↦ get_or-set_other l i at x 0 (λ e. other (sym e)) ∙ sym (cond-false _ _ _ (ne_eqb i at other))
    ]

six_written : (l : List ℕ) (a b c d high low at : ℕ) → length l ≡ 48
    → get_or (set (set (set (set (set (set l 12 a) 13 b) 14 c) 15 d) 16 high) 17 low) at 0
    ≡ cond (eqb 17 at) low (cond (eqb 16 at) high (cond (eqb 15 at) d (cond (eqb 14 at) c (cond (eqb 13 at) b (cond (eqb 12 at) a (get_or l at 0))))))
six_written l a b c d high low at len =
    let l1 = set l 12 a in
    let l2 = set l1 13 b in
    let l3 = set l2 14 c in
    let l4 = set l3 15 d in
    let l5 = set l4 16 high in
    let n1 : length l1 ≡ 48 = length-set l 12 a ∙ len in
    let n2 : length l2 ≡ 48 = length-set l1 13 b ∙ n1 in
    let n3 : length l3 ≡ 48 = length-set l2 14 c ∙ n2 in
    let n4 : length l4 ≡ 48 = length-set l3 15 d ∙ n3 in
    let n5 : length l5 ≡ 48 = length-set l4 16 high ∙ n4 in
    put l5 17 low at (omega (arith, n5))
    ∙ ap (λ (x : ℕ). cond (eqb 17 at) low x) (put l4 16 high at (omega (arith, n4))
    ∙ ap (λ (x : ℕ). cond (eqb 16 at) high x) (put l3 15 d at (omega (arith, n3))
    ∙ ap (λ (x : ℕ). cond (eqb 15 at) d x) (put l2 14 c at (omega (arith, n2))
    ∙ ap (λ (x : ℕ). cond (eqb 14 at) c x) (put l1 13 b at (omega (arith, n1))
    ∙ ap (λ (x : ℕ). cond (eqb 13 at) b x) (put l 12 a at (omega (arith, len)))))))

-- the address of a peer is written
pub peer_written : (bytes : List ℕ) (f : ℕ → ℕ) (from : Addr) → length bytes ≡ 48 → from.port < 65536 → Holds bytes f
    → Holds (set (set (set (set (set (set bytes 12 (get_or from.ip 0 0)) 13 (get_or from.ip 1 0)) 14 (get_or from.ip 2 0)) 15 (get_or from.ip 3 0)) 16 (from.port / 256)) 17 (from.port % 256))
    (after_peer from f)
peer_written bytes f from len low held at here =
    let high : from.port / 256 ≡ from.port / 256 % 256 = omega (arith, low) in
    six_written bytes (get_or from.ip 0 0) (get_or from.ip 1 0) (get_or from.ip 2 0) (get_or from.ip 3 0) (from.port / 256) (from.port % 256) at len
    ∙ ap (λ (h : ℕ). cond (eqb 17 at) (from.port % 256) (cond (eqb 16 at) h
    (cond (eqb 15 at) (get_or from.ip 3 0) (cond (eqb 14 at) (get_or from.ip 2 0)
    (cond (eqb 13 at) (get_or from.ip 1 0) (cond (eqb 12 at) (get_or from.ip 0 0) (get_or bytes at 0))))))) high
    ∙ ap (λ (b : ℕ). peer_in_ranges from b at) (held at here)
    ∙ sym (peer_is at from (f at))

pub record Answered (bytes : List ℕ) (f : ℕ → ℕ) : Type 0 where
  pub mode : get_or bytes 0x00 0 ≡ f 0x00
  pub interrupts : get_or bytes 0x02 0 ≡ f 0x02
  pub port_high : get_or bytes 0x04 0 ≡ f 0x04
  pub port_low : get_or bytes 0x05 0 ≡ f 0x05
  pub ip0 : get_or bytes 0x0C 0 ≡ f 0x0C
  pub ip1 : get_or bytes 0x0D 0 ≡ f 0x0D
  pub ip2 : get_or bytes 0x0E 0 ≡ f 0x0E
  pub ip3 : get_or bytes 0x0F 0 ≡ f 0x0F
  pub to_high : get_or bytes 0x10 0 ≡ f 0x10
  pub to_low : get_or bytes 0x11 0 ≡ f 0x11
  pub rx : get_or bytes 0x1E 0 ≡ f 0x1E
  pub tx : get_or bytes 0x1F 0 ≡ f 0x1F
  pub mask : get_or bytes 0x2C 0 ≡ f 0x2C

pub by_name : (bytes : List ℕ) (f : ℕ → ℕ) → Holds bytes f → Answered bytes f
unfolding socket_place
by_name bytes f held = record {
  mode = held 0x00 refl;
  interrupts = held 0x02 refl;
  port_high = held 0x04 refl;
  port_low = held 0x05 refl;
  ip0 = held 0x0C refl;
  ip1 = held 0x0D refl;
  ip2 = held 0x0E refl;
  ip3 = held 0x0F refl;
  to_high = held 0x10 refl;
  to_low = held 0x11 refl;
  rx = held 0x1E refl;
  tx = held 0x1F refl;
  mask = held 0x2C refl;
}

-- the destination
pub address_is : (bytes : List ℕ) (f : ℕ → ℕ) → Holds bytes f → address_in (λ at. get_or bytes at 0) ≡ address_in f
address_is bytes f held =
    let h = by_name bytes f held in
    rw (h.ip0, h.ip1, h.ip2, h.ip3, h.to_high, h.to_low) refl
