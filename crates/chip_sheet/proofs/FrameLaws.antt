-- How the frame in progress goes on with one more byte.
use Rattle.std.proofs.Common.{◌≡◌, ℕ, zero, suc, ◌+◌, ◌<◌, ◌≤◌, true, false, cond, List, [], ◌∷◌, ◌++◌, length, drop, get_or, refl, sym, ap, ◌∙◌, arith, inl, inr, add-one}
use Rattle.std.proofs.lemmas.List.{length-append, length-drop, drop-append-le, get_or_append_left}
use Rattle.std.proofs.Math.ListN.{drop_of_length-le}
use Rattle.std.proofs.lemmas.Bool.{cases_Bool, and_parts, and_from, cases_lt, false≢true, false_from_ne_true, ltb-true, leb-true, lt-ltb, le-leb, cond-true, cond-false}
use Rattle.chip_sheet.specs.Frames.{data_length, has_ended, cut, current}

-- the frame after one more byte
abbrev pub next_frame : List ℕ → ℕ → List ℕ
next_frame frame v = cond (has_ended (frame ++ v ∷ [])) [] (frame ++ v ∷ [])

abbrev size : List ℕ → ℕ
size bytes = 3 + data_length (get_or bytes 2 0)

-- a whole frame stands at the front
record Ended (bytes : List ℕ) : Type 0 where
  fixed : 0 < data_length (get_or bytes 2 0)
  whole : 3 + data_length (get_or bytes 2 0) ≤ length bytes

ended_is : (bytes : List ℕ) → has_ended bytes ≡ true → Ended bytes
ended_is bytes h = let p = and_parts _ _ h in record { fixed = ltb-true _ _ p.0; whole = leb-true _ _ p.1 }

ended_from : (bytes : List ℕ) → Ended bytes → has_ended bytes ≡ true
ended_from bytes h = and_from _ _ (lt-ltb _ _ h.fixed) (le-leb _ _ h.whole)

at_two : (bytes : List ℕ) (v : ℕ) → 2 < length bytes → get_or (bytes ++ v ∷ []) 2 0 ≡ get_or bytes 2 0
at_two bytes v h = get_or_append_left bytes (v ∷ []) 0 2 h

ended_longer : (bytes : List ℕ) (v : ℕ) → Ended bytes → Ended (bytes ++ v ∷ [])
ended_longer bytes v h =
    let same = at_two bytes v (omega arith) in
    record { fixed = rw same h.fixed; whole = rw (same, length-append) (omega arith) }

-- what is cut off a whole frame leaves the byte behind it
rest_longer : (bytes : List ℕ) (v : ℕ) → Ended bytes → drop (size (bytes ++ v ∷ [])) (bytes ++ v ∷ []) ≡ drop (size bytes) bytes ++ v ∷ []
rest_longer bytes v h =
    let same = at_two bytes v (omega arith) in
    rw (same, drop-append-le (size bytes) bytes (v ∷ []) h.whole) refl

-- the byte that ends a frame leaves nothing behind it
ends_here : (bytes : List ℕ) (v : ℕ) → (Ended bytes → ⊥) → Ended (bytes ++ v ∷ []) → length (bytes ++ v ∷ []) ≤ size (bytes ++ v ∷ [])
ends_here bytes v on h =
    elim (cases_lt 2 (length bytes)) [
      | inl long ↦
          let same = at_two bytes v long in
          elim (cases_lt (length bytes) (size bytes)) [
            | inl short ↦ rw (same, length-append) (omega arith)
            | inr whole ↦ absurd (on (record { fixed = rw same at h.fixed; whole = whole }))
          ]
      | inr short ↦ rw length-append (omega arith)
    ]

rest_ended : (bytes : List ℕ) (v : ℕ) → (Ended bytes → ⊥) → Ended (bytes ++ v ∷ []) → drop (size (bytes ++ v ∷ [])) (bytes ++ v ∷ []) ≡ []
rest_ended bytes v on h = drop_of_length-le _ (ends_here bytes v on h)

cut_ended : (n : ℕ) (bytes : List ℕ) → has_ended bytes ≡ true → cut (suc n) bytes ≡ cut n (drop (size bytes) bytes)
unfolding cut
cut_ended n bytes h = cond-true _ _ _ h

cut_open : (n : ℕ) (bytes : List ℕ) → has_ended bytes ≡ false → cut n bytes ≡ bytes
unfolding cut
cut_open zero bytes h = refl
cut_open (suc n) bytes h = cond-false _ _ _ h

not_ended : (bytes : List ℕ) → has_ended bytes ≡ false → Ended bytes → ⊥
not_ended bytes e h = false≢true (sym e ∙ ended_from bytes h)

none_ended : (bytes : List ℕ) → length bytes ≤ 0 → has_ended bytes ≡ false
none_ended bytes h = false_from_ne_true _ (λ e. omega (arith, (ended_is bytes e).whole))

-- a frame that goes on takes the byte, or ends with it
push_open : (n : ℕ) (bytes : List ℕ) (v : ℕ) → has_ended bytes ≡ false → cut (suc n) (bytes ++ v ∷ []) ≡ next_frame (cut n bytes) v
push_open n bytes v on =
    rw (cut_open n bytes on) (elim (cases_Bool (has_ended (bytes ++ v ∷ []))) [
      | inl ends ↦ cut_ended n _ ends ∙ ap (cut n) (rest_ended bytes v (not_ended bytes on) (ended_is _ ends)) ∙ cut_open n [] refl ∙ sym (cond-true _ _ _ ends)
      | inr goes ↦ cut_open (suc n) _ goes ∙ sym (cond-false _ _ _ goes)
    ])

cut_push : (n : ℕ) (bytes : List ℕ) (v : ℕ) → length bytes ≤ n → cut (suc n) (bytes ++ v ∷ []) ≡ next_frame (cut n bytes) v
cut_push zero bytes v h = push_open zero bytes v (none_ended bytes h)
cut_push (suc n) bytes v h =
    elim (cases_Bool (has_ended bytes)) [
      | inl whole ↦
          let w = ended_is bytes whole in
          cut_ended (suc n) _ (ended_from _ (ended_longer bytes v w))
          ∙ ap (cut (suc n)) (rest_longer bytes v w)
          ∙ cut_push n (drop (size bytes) bytes) v (rw length-drop (omega arith))
          ∙ ap (λ f. next_frame f v) (sym (cut_ended n bytes whole))
      | inr on ↦ push_open (suc n) bytes v on
    ]

-- The frame in progress after one more byte depends on the frame before it alone.
pub current-push : (bytes : List ℕ) (v : ℕ) → current (bytes ++ v ∷ []) ≡ next_frame (current bytes) v
unfolding current
current-push bytes v = rw (length-append bytes (v ∷ []), add-one) (cut_push (length bytes) bytes v (omega arith))

pub current-empty : current [] ≡ []
unfolding current cut
current-empty = refl

cut_leaves : (n : ℕ) (bytes : List ℕ) → length bytes ≤ n → has_ended (cut n bytes) ≡ false
cut_leaves zero bytes h = rw (cut_open zero bytes (none_ended bytes h)) (none_ended bytes h)
cut_leaves (suc n) bytes h =
    elim (cases_Bool (has_ended bytes)) [
      | inl whole ↦ rw (cut_ended n bytes whole) (cut_leaves n (drop (size bytes) bytes) (rw length-drop (omega arith)))
      | inr on ↦ rw (cut_open (suc n) bytes on) on
    ]

-- The frame in progress has not ended.
pub current-open : (bytes : List ℕ) → has_ended (current bytes) ≡ false
unfolding current
current-open bytes = cut_leaves (length bytes) bytes (omega arith)
