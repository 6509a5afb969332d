-- The words that begin with 1000, 1001 and 1010.
use Rattle.std.proofs.Common.{◌≡◌, ℕ, ◌/◌, ◌⊎◌, inl, inr, refl}
use Rattle.std.specs.Prelude.{Ok}
use Rattle.avr_table.specs.Decoded.{decoded}
use Rattle.avr_table.proofs.Alike.{Agrees, at_each}
use Rattle.avr_table.specs.Nest.{displaced_of, special_of}

displaced_agrees : Agrees (λ w next. Ok (displaced_of w)) 8
displaced_agrees next = refl

far_displaced_agrees : Agrees (λ w next. Ok (displaced_of w)) 10
far_displaced_agrees next = refl

pub same_displaced : (w next : ℕ) → (w / 4096 ≡ 8) ⊎ (w / 4096 ≡ 10) → Ok (displaced_of w) ≡ decoded w next
same_displaced w next (inl h) = at_each (λ w next. Ok (displaced_of w)) 8 displaced_agrees w next h
same_displaced w next (inr h) = at_each (λ w next. Ok (displaced_of w)) 10 far_displaced_agrees w next h

special_agrees : Agrees special_of 9
special_agrees next = refl

pub same_special : (w next : ℕ) → w / 4096 ≡ 9 → special_of w next ≡ decoded w next
same_special w next h = at_each special_of 9 special_agrees w next h
