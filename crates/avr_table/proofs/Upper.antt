-- The words that begin with 1011, 1100, 1101 and 1111.
use Rattle.std.proofs.Common.{◌≡◌, ℕ, ◌/◌, ◌⊎◌, inl, inr, refl}
use Rattle.std.specs.Prelude.{Ok}
use Rattle.avr_table.specs.Decoded.{decoded}
use Rattle.avr_table.proofs.Alike.{Agrees, at_each}
use Rattle.avr_table.specs.Nest.{input_or_output_of, relative_of, branch_or_bit_of}

input_or_output_agrees : Agrees (λ w next. Ok (input_or_output_of w)) 11
input_or_output_agrees next = refl

pub same_input_or_output : (w next : ℕ) → w / 4096 ≡ 11 → Ok (input_or_output_of w) ≡ decoded w next
same_input_or_output w next h = at_each (λ w next. Ok (input_or_output_of w)) 11 input_or_output_agrees w next h

jumps_agree : Agrees (λ w next. Ok (relative_of w)) 12
jumps_agree next = refl

calls_agree : Agrees (λ w next. Ok (relative_of w)) 13
calls_agree next = refl

pub same_relative : (w next : ℕ) → (w / 4096 ≡ 12) ⊎ (w / 4096 ≡ 13) → Ok (relative_of w) ≡ decoded w next
same_relative w next (inl h) = at_each (λ w next. Ok (relative_of w)) 12 jumps_agree w next h
same_relative w next (inr h) = at_each (λ w next. Ok (relative_of w)) 13 calls_agree w next h

branch_or_bit_agrees : Agrees (λ w next. branch_or_bit_of w) 15
branch_or_bit_agrees next = refl

pub same_branch_or_bit : (w next : ℕ) → w / 4096 ≡ 15 → branch_or_bit_of w ≡ decoded w next
same_branch_or_bit w next h = at_each (λ w next. branch_or_bit_of w) 15 branch_or_bit_agrees w next h
