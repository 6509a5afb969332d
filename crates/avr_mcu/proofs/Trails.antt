-- Of many addresses that are noted the last 16 are enough.
use Rattle.std.proofs.Common.{◌≡◌, ℕ, zero, suc, ◌+◌, ◌-◌, ◌<◌, ◌≤◌, List, [], ◌∷◌, ◌++◌, length, drop, inl, inr, refl, ap, sym, subst, ◌∙◌, append_assoc, length-append, length-drop, arith}
use Rattle.std.proofs.lemmas.Bool.{cases_lt}
use Rattle.std.proofs.lemmas.List.{drop-drop, drop_at, drop-append-le}
use Rattle.avr_mcu.specs.State.{noted}
use Rattle.avr_mcu.specs.Stretch.{noted_all}

last_16 : List ℕ → List ℕ
last_16 xs = drop (length xs - 16) xs

noted-is : (trail : List ℕ) (at : ℕ) → noted trail at ≡ last_16 (trail ++ at ∷ [])
unfolding noted last_16
noted-is trail at = refl

-- The last 16 of the last 16 and more.
last-last : (ys zs : List ℕ) → last_16 (last_16 ys ++ zs) ≡ last_16 (ys ++ zs)
unfolding last_16
last-last ys zs =
    let n : ℕ = length ys - 16 in
    let joined : drop n ys ++ zs ≡ drop n (ys ++ zs) = sym (drop-append-le n ys zs (omega arith)) in
    let whole : ℕ = length (ys ++ zs) in
    let long : whole ≡ length ys + length zs = length-append ys zs in
    let left : length (drop n (ys ++ zs)) ≡ whole - n = length-drop n (ys ++ zs) in
    let places : n + (whole - n - 16) ≡ whole - 16 = omega (arith, long) in
    ap (λ xs. drop (length xs - 16) xs) joined
    ∙ (ap (λ k. drop (k - 16) (drop n (ys ++ zs))) left
    ∙ (drop-drop (whole - n - 16) n (ys ++ zs) ∙ ap (λ k. drop k (ys ++ zs)) places))

-- The last 16 of all.
all-noted : (trail xs : List ℕ) (x : ℕ) → noted_all trail (x ∷ xs) ≡ last_16 (trail ++ x ∷ xs)
all-noted trail [] x = noted-is trail x
all-noted trail (y ∷ ys) x =
    all-noted (noted trail x) ys y
    ∙ (ap (λ t. last_16 (t ++ y ∷ ys)) (noted-is trail x)
    ∙ (last-last (trail ++ x ∷ []) (y ∷ ys) ∙ ap last_16 (append_assoc trail (x ∷ []) (y ∷ ys))))

long-noted : (trail xs : List ℕ) → 16 ≤ length xs → noted_all trail xs ≡ drop (length xs - 16) xs
unfolding last_16
long-noted trail [] long = absurd (omega arith)
long-noted trail (x ∷ xs) long =
    let all : List ℕ = x ∷ xs in
    let n : ℕ = length all - 16 in
    let count : length (trail ++ all) ≡ length trail + length all = length-append trail all in
    let place : length (trail ++ all) - 16 ≡ length trail + n = omega (arith, count, long) in
    all-noted trail xs x
    ∙ (ap (λ k. drop k (trail ++ all)) place
    ∙ (sym (drop-drop n (length trail) (trail ++ all)) ∙ ap (drop n) (drop_at trail all (length trail) refl)))

pub last-are-enough : (trail xs : List ℕ) (from : ℕ) → from ≡ length xs - 16 → noted_all trail (drop from xs) ≡ noted_all trail xs
last-are-enough trail xs from is = elim (cases_lt (length xs) 16) [
  | inl short ↦ let none : from ≡ 0 = omega (arith, is, short) in ap (λ n. noted_all trail (drop n xs)) none
  | inr long ↦
      let some : 16 ≤ length (drop from xs) = omega (arith, is, long, length-drop from xs) in
      let none : length (drop from xs) - 16 ≡ 0 = omega (arith, is, long, length-drop from xs) in
      long-noted trail (drop from xs) some
      ∙ (ap (λ n. drop n (drop from xs)) none
      ∙ (ap (λ n. drop n xs) is ∙ sym (long-noted trail xs long)))
]
