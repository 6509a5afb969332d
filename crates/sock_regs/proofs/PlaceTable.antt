-- The table of a socket's registers, as the code has it.
use Rattle.std.proofs.Common.{◌≡◌, ◌-◌, ◌%◌, ◌/◌, ℕ, ◌+◌, ◌≤◌, ◌<◌, Bool, true, false, ◌&&◌, eqb, leb, cond, List, [], ◌∷◌, length, get_or, refl, sym, ap, ◌∙◌, arith, inl, inr}
use lib.Bits.{bit_and}
use Rattle.std.specs.Prelude.{bit_or}
use Rattle.std.proofs.lemmas.Bool.{and_parts, cases_lt, cond-false, eqb-true, ne_eqb}
use Rattle.std.proofs.lemmas.Bool.Decides.{nat_tests}
use Rattle.std.proofs.lemmas.List.{get_or_past}
use Rattle.chip_sheet.specs.declared.event.Addr.{Addr}
use Rattle.chip_sheet.specs.SocketBlock.{Shows, Raised, Register, Place, reserved, socket_registers, place_in, socket_place}
use Rattle.sock_regs.specs.declared.registers.TheConstants.{RESET}
use Rattle.sock_regs.specs.Places.{is_kept, kept, with_bits, with_peer, is_here, is_stored}
use Rattle.chip_sheet.proofs.Tables.{table, same_at, outside}

-- each register ends below n
abbrev end_below : List Register → ℕ → Bool
end_below [] n = true
end_below (r ∷ rs) n = leb (r.place + length r.reset) n && end_below rs n

-- behind the last register all is reserved
past_the_registers : (rs : List Register) (n addr : ℕ) → end_below rs n ≡ true → n ≤ addr → place_in rs addr ≡ reserved
past_the_registers [] n addr h above = refl
past_the_registers (r ∷ rs) n addr h above =
    let both = and_parts _ _ h in
    cond-false _ _ _ (outside r.place (r.place + length r.reset) addr n both.0 above) ∙ past_the_registers rs n addr both.1 above

past_the_block : (addr : ℕ) → 48 ≤ addr → socket_place addr ≡ reserved
unfolding socket_place
past_the_block addr above = past_the_registers socket_registers 48 addr refl above

-- what is so at each place of the block, and behind it, is so everywhere
everywhere : {B : Type 0} (of : ℕ → Place → B) (g : ℕ → B) → table (λ k. of k (socket_place k)) 0 48 ≡ table g 0 48
    → ((at : ℕ) → 48 ≤ at → g at ≡ of at reserved) → (at : ℕ) → of at (socket_place at) ≡ g at
everywhere of g tables past at =
    elim (cases_lt at 48) [
      | inl below ↦ same_at (λ k. of k (socket_place k)) g 0 48 tables at (omega arith) (omega arith)
      | inr above ↦ ap (of at) (past_the_block at above) ∙ sym (past at above)
    ]

stored_past : (at : ℕ) → 48 ≤ at → is_stored at ≡ false
stored_past at above = grind (arith, nat_tests)

here_past : (at : ℕ) → 48 ≤ at → is_here at ≡ true
here_past at above = grind (arith, nat_tests)

other_past : (k at : ℕ) → k < 48 → 48 ≤ at → eqb k at ≡ false
other_past k at low above = ne_eqb k at (λ e. omega (arith, e, low, above))

here_table : table (λ k. is_kept (socket_place k).shows) 0 48 ≡ table is_here 0 48
unfolding socket_place
here_table = refl

-- for which places the registers answer
pub here_is : (at : ℕ) → is_kept (socket_place at).shows ≡ is_here at
here_is at = everywhere (λ k p. is_kept p.shows) is_here here_table here_past at

abbrev pub kept_in_ranges : ℕ → ℕ → ℕ → ℕ
kept_in_ranges v b at = cond (eqb 2 at) (b - bit_and b v) (cond (is_stored at) v b)

kept_table : (v b : ℕ) → table (λ k. kept (socket_place k).shows v b) 0 48 ≡ table (kept_in_ranges v b) 0 48
unfolding socket_place
kept_table v b = refl

-- what each place keeps of a byte
pub kept_is : (at v b : ℕ) → kept (socket_place at).shows v b ≡ kept_in_ranges v b at
kept_is at v b = everywhere (λ k p. kept p.shows v b) (kept_in_ranges v b) (kept_table v b)
    (λ k above. cond-false _ _ _ (other_past 2 k (omega arith) above) ∙ cond-false _ _ _ (stored_past k above)) at

abbrev pub bits_in_ranges : ℕ → ℕ → ℕ → ℕ
bits_in_ranges bits b at = cond (eqb 2 at) (bit_or b bits) b

bits_table : (bits b : ℕ) → table (λ k. with_bits (socket_place k).shows bits b) 0 48 ≡ table (bits_in_ranges bits b) 0 48
unfolding socket_place
bits_table bits b = refl

-- where bits are raised
pub bits_is : (at bits b : ℕ) → with_bits (socket_place at).shows bits b ≡ bits_in_ranges bits b at
bits_is at bits b = everywhere (λ k p. with_bits p.shows bits b) (bits_in_ranges bits b) (bits_table bits b)
    (λ k above. cond-false _ _ _ (other_past 2 k (omega arith) above)) at

abbrev pub peer_in_ranges : Addr → ℕ → ℕ → ℕ
peer_in_ranges from b at =
    cond (eqb 17 at) (from.port % 256) (cond (eqb 16 at) (from.port / 256 % 256)
    (cond (eqb 15 at) (get_or from.ip 3 0) (cond (eqb 14 at) (get_or from.ip 2 0)
    (cond (eqb 13 at) (get_or from.ip 1 0) (cond (eqb 12 at) (get_or from.ip 0 0) b)))))

peer_table : (from : Addr) (b : ℕ) → table (λ k. with_peer (socket_place k).shows from k b) 0 48 ≡ table (peer_in_ranges from b) 0 48
unfolding socket_place
peer_table from b = refl

peer_past : (from : Addr) (b at : ℕ) → 48 ≤ at → peer_in_ranges from b at ≡ b
peer_past from b at above =
    cond-false _ _ _ (other_past 17 at (omega arith) above) ∙ cond-false _ _ _ (other_past 16 at (omega arith) above)
    ∙ cond-false _ _ _ (other_past 15 at (omega arith) above) ∙ cond-false _ _ _ (other_past 14 at (omega arith) above)
    ∙ cond-false _ _ _ (other_past 13 at (omega arith) above) ∙ cond-false _ _ _ (other_past 12 at (omega arith) above)

-- where a peer's address stands
pub peer_is : (at : ℕ) (from : Addr) (b : ℕ) → with_peer (socket_place at).shows from at b ≡ peer_in_ranges from b at
peer_is at from b = everywhere (λ k p. with_peer p.shows from k b) (peer_in_ranges from b) (peer_table from b) (peer_past from b) at

reset_table : table (λ k. (socket_place k).reset) 0 48 ≡ table (λ k. get_or RESET k 0) 0 48
unfolding socket_place
reset_table = refl

-- what the registers hold after a reset
pub reset_is : (at : ℕ) → (socket_place at).reset ≡ get_or RESET at 0
reset_is at = everywhere (λ k p. p.reset) (λ k. get_or RESET k 0) reset_table (λ k above. get_or_past RESET k 0 (omega (arith, above))) at

abbrev pub is_raised : Shows → Bool
is_raised Raised = true
is_raised shows = false

raised_table : table (λ k. is_raised (socket_place k).shows) 0 48 ≡ table (eqb 2) 0 48
unfolding socket_place
raised_table = refl

-- Sn_IR alone shows interrupts
pub raised_is : (at : ℕ) → is_raised (socket_place at).shows ≡ eqb 2 at
raised_is at = everywhere (λ k p. is_raised p.shows) (eqb 2) raised_table (λ k above. other_past 2 k (omega arith) above) at

none_at_reset : (socket_place 2).reset ≡ 0
unfolding socket_place
none_at_reset = refl

-- and none after a reset
pub raised_reset : (at : ℕ) → is_raised (socket_place at).shows ≡ true → (socket_place at).reset ≡ 0
raised_reset at h =
    let is : 2 ≡ at = eqb-true 2 at (sym (raised_is at) ∙ h) in
    ap (λ (k : ℕ). (socket_place k).reset) (sym is) ∙ none_at_reset
