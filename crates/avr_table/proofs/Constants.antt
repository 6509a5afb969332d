-- The words that begin with 0011 to 0111 and with 1110.
use Rattle.std.proofs.Common.{◌≡◌, ℕ, ◌/◌, ◌<◌, ◌≤◌, inl, inr, refl, arith}
use Rattle.std.specs.Prelude.{Ok}
use Rattle.avr_table.specs.Decoded.{decoded}
use Rattle.avr_table.proofs.Alike.{Agrees, at_each}
use Rattle.std.proofs.lemmas.Bool.{cases_lt}
use Rattle.avr_table.specs.Nest.{with_constant_of}

cpi_agrees : Agrees (λ w next. Ok (with_constant_of w)) 3
cpi_agrees next = refl

sbci_agrees : Agrees (λ w next. Ok (with_constant_of w)) 4
sbci_agrees next = refl

subi_agrees : Agrees (λ w next. Ok (with_constant_of w)) 5
subi_agrees next = refl

ori_agrees : Agrees (λ w next. Ok (with_constant_of w)) 6
ori_agrees next = refl

andi_agrees : Agrees (λ w next. Ok (with_constant_of w)) 7
andi_agrees next = refl

ldi_agrees : Agrees (λ w next. Ok (with_constant_of w)) 14
ldi_agrees next = refl

-- The words below 1000.
same_below : (w next : ℕ) → 3 ≤ w / 4096 → w / 4096 < 8 → Ok (with_constant_of w) ≡ decoded w next
same_below w next low high = elim (cases_lt (w / 4096) 4) [
  | inl is ↦ at_each (λ w next. Ok (with_constant_of w)) 3 cpi_agrees w next (omega arith)
  | inr from_4 ↦ elim (cases_lt (w / 4096) 5) [
    | inl is ↦ at_each (λ w next. Ok (with_constant_of w)) 4 sbci_agrees w next (omega arith)
    | inr from_5 ↦ elim (cases_lt (w / 4096) 6) [
      | inl is ↦ at_each (λ w next. Ok (with_constant_of w)) 5 subi_agrees w next (omega arith)
      | inr from_6 ↦ elim (cases_lt (w / 4096) 7) [
        | inl is ↦ at_each (λ w next. Ok (with_constant_of w)) 6 ori_agrees w next (omega arith)
        | inr from_7 ↦ at_each (λ w next. Ok (with_constant_of w)) 7 andi_agrees w next (omega arith)
      ]
    ]
  ]
]

pub same_with_constant : (w next : ℕ) → (w / 4096 < 8 → 3 ≤ w / 4096) → (8 ≤ w / 4096 → w / 4096 ≡ 14)
    → Ok (with_constant_of w) ≡ decoded w next
same_with_constant w next low high = elim (cases_lt (w / 4096) 8) [
  | inl below ↦ same_below w next (low below) below
  | inr above ↦ at_each (λ w next. Ok (with_constant_of w)) 14 ldi_agrees w next (high above)
]
