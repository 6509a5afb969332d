-- Bytes that are written as hexadecimal digits and read again.
use Rattle.std.proofs.Common.{arith, ◌≡◌, ◌≢◌, ◌==◌, ◌<◌, ◌&&◌, ◌/◌, ◌%◌, ◌⊎◌, inl, inr, ℕ, zero, suc, Bool, true, false, List, [], ◌∷◌, Some, refl, sym, ap, subst, ◌∙◌}
use Rattle.std.specs.Prelude.{slice_index}
use Rattle.std.proofs.lemmas.Bool.{eqb-true}
use Rattle.std.proofs.lemmas.Bool.Decides.{eqb_tells}
use Rattle.hex.specs.Hex.{IsBytes, decode_of, decode_pairs, encode_upper, encode_with, upper_digits}
use Rattle.hex.proofs.HexLemmas.{IsDigits-upper_digits, decode_of-encode_upper, decode_pairs-encode_with}
use Rattle.board_read.specs.Bytes.{bytes, bytes_read}
use Rattle.board_text.specs.Answers.{digit}
use Rattle.board_text.specs.Entries.{byte_text, bytes_text}
use Rattle.board_judge.specs.Entries.{byte_of, two_digits}
use Rattle.trace_laws.specs.Fitting.{AreBytes}
use Rattle.trace_laws.proofs.Passing.{Passes, both, passes_then}

-- each number below this one passes
abbrev pub all_below : (ℕ → Bool) → ℕ → Bool
all_below q zero = true
all_below q (suc n) = q n && all_below q n

last_or_before : (q : ℕ → Bool) (n d : ℕ) → q n ≡ true → (d < n → q d ≡ true) → d < suc n → ((d == n) ≡ true) × (d ≡ n) ⊎ ((d == n) ≡ false) × (d ≢ n) → q d ≡ true
last_or_before q n d last before small (inl is) = subst (λ (x : ℕ). q x ≡ true) (sym is.1) last
last_or_before q n d last before small (inr not) = before (omega (arith, small, not.1))

below_at : (q : ℕ → Bool) (n d : ℕ) → all_below q n ≡ true → d < n → q d ≡ true
below_at q zero d all small = absurd (omega (arith, small))
below_at q (suc n) d all small =
    let k = both (q n) (all_below q n) all in last_or_before q n d k.0 (below_at q n d k.1) small (eqb_tells d n)

same : ℕ → Bool
same d = digit d == slice_index upper_digits d

digit_is : (d : ℕ) → d < 16 → digit d ≡ slice_index upper_digits d
unfolding same
digit_is d small = eqb-true (digit d) (slice_index upper_digits d) (below_at same 16 d refl small)

text_is : (bs : List ℕ) → AreBytes bs → bytes_text bs ≡ encode_upper bs
unfolding encode_with
text_is [] small = refl
text_is (v ∷ more) (small, rest) = λ i. digit_is (v / 16) (omega (arith, small)) i ∷ digit_is (v % 16) (omega arith) i ∷ text_is more rest i

are_bytes : (bs : List ℕ) → AreBytes bs → IsBytes bs
are_bytes [] small i = omega arith
are_bytes (v ∷ more) (small, rest) zero = small
are_bytes (v ∷ more) (small, rest) (suc i) = are_bytes more rest i

pub bytes_back : (bs : List ℕ) → AreBytes bs → bytes (bytes_text bs) ≡ Some bs
bytes_back bs small = ap bytes_read (ap decode_of (text_is bs small) ∙ decode_of-encode_upper bs (are_bytes bs small))

pub byte_back : (v : ℕ) → v < 256 → two_digits (byte_text v) ≡ Some v
byte_back v small =
    let one : AreBytes (v ∷ []) = (small, tt) in
    ap byte_of (ap (decode_pairs 0) (text_is (v ∷ []) one) ∙ decode_pairs-encode_with upper_digits IsDigits-upper_digits 0 (v ∷ []) (are_bytes (v ∷ []) one))

-- the digits of bytes pass what each of the sixteen does
pub bytes_pass : (q : ℕ → Bool) (bs : List ℕ) → ((n : ℕ) → n < 16 → q (digit n) ≡ true) → AreBytes bs → Passes q (bytes_text bs)
bytes_pass q [] each small = refl
bytes_pass q (v ∷ more) each (small, rest) =
    passes_then q (digit (v / 16)) (digit (v % 16) ∷ bytes_text more) (each (v / 16) (omega (arith, small)))
    (passes_then q (digit (v % 16)) (bytes_text more) (each (v % 16) (omega arith)) (bytes_pass q more each rest))

-- each of the sixteen digits passes
pub digit_passes : (q : ℕ → Bool) → all_below (λ n. q (digit n)) 16 ≡ true → (n : ℕ) → n < 16 → q (digit n) ≡ true
digit_passes q all n small = below_at (λ d. q (digit d)) 16 n all small
