-- What the peer says: a byte and the rest, a chunk and the rest.
use Rattle.std.proofs.Common.{◌≡◌, ℕ, zero, suc, ◌+◌, ◌-◌, ◌/◌, ◌<◌, ◌≤◌, List, [], ◌∷◌, ◌++◌, length, take, drop, min, inl, inr, refl, sym, ap, ◌∙◌, arith, append_assoc}
use Rattle.std.proofs.lemmas.Bool.{cases_lt}
use Rattle.std.proofs.lemmas.List.{take_all}
use Rattle.link_script.specs.Scripts.{Said}
use Rattle.board_echo.specs.Generator.{next_state, byte_of, bytes_behind, state_behind, at_once, in_chunks}

-- bytes

pub no_bytes : (x : ℕ) → bytes_behind x 0 ≡ []
unfolding bytes_behind
no_bytes x = refl

pub one_byte : (x n : ℕ) → bytes_behind x (suc n) ≡ byte_of (next_state x) ∷ bytes_behind (next_state x) n
unfolding bytes_behind
one_byte x n = refl

pub no_state : (x : ℕ) → state_behind x 0 ≡ x
unfolding state_behind
no_state x = refl

pub one_state : (x n : ℕ) → state_behind x (suc n) ≡ state_behind (next_state x) n
unfolding state_behind
one_state x n = refl

-- behind a step of the generator

pub next_of_state : (y x rest left : ℕ) → y ≡ next_state x → left ≡ suc rest → state_behind y rest ≡ state_behind x left
next_of_state y x rest left is all =
    ap (λ z. state_behind z rest) is ∙ sym (one_state x rest) ∙ ap (λ n. state_behind x n) (sym all)

pub next_of_bytes : (done : List ℕ) (y x b rest left : ℕ) → y ≡ next_state x → b ≡ byte_of (next_state x) → left ≡ suc rest
    → (done ++ b ∷ []) ++ bytes_behind y rest ≡ done ++ bytes_behind x left
next_of_bytes done y x b rest left is byte all =
    append_assoc done (b ∷ []) (bytes_behind y rest)
    ∙ ap (λ z. done ++ b ∷ bytes_behind z rest) is
    ∙ ap (λ v. done ++ v ∷ bytes_behind (next_state x) rest) byte
    ∙ ap (λ l. done ++ l) (sym (one_byte x rest) ∙ ap (λ n. bytes_behind x n) (sym all))

many_bytes : (x n : ℕ) → length (bytes_behind x n) ≡ n
unfolding bytes_behind
many_bytes x zero = refl
many_bytes x (suc n) = ap suc (many_bytes (next_state x) n)

front : (x many n : ℕ) → many ≤ n → take many (bytes_behind x n) ≡ bytes_behind x many
unfolding bytes_behind
front x zero n few = refl
front x (suc many) zero few = absurd (omega (arith, few))
front x (suc many) (suc n) few = ap (λ l. byte_of (next_state x) ∷ l) (front (next_state x) many n (omega (arith, few)))

the_rest : (n rest : ℕ) → n ≡ 0 + rest → n ≡ rest
the_rest n rest is = omega (arith, is)

back : (x many rest n : ℕ) → n ≡ many + rest → drop many (bytes_behind x n) ≡ bytes_behind (state_behind x many) rest
unfolding bytes_behind state_behind
back x zero rest n is = ap (λ k. bytes_behind x k) (the_rest n rest is)
back x (suc many) rest zero is = absurd (omega (arith, is))
back x (suc many) rest (suc n) is = back (next_state x) many rest n (omega (arith, is))

-- chunks

abbrev pub chunk : ℕ → ℕ → Said
chunk x many = at_once (bytes_behind x many)

whole : (size x left n : ℕ) → size ≤ left
    → in_chunks size (bytes_behind x left) (suc n) ≡ chunk x size ∷ in_chunks size (bytes_behind (state_behind x size) (left - size)) n
whole size x left n enough =
    ap (λ l. at_once l ∷ in_chunks size (drop size (bytes_behind x left)) n) (front x size left enough)
    ∙ ap (λ l. chunk x size ∷ in_chunks size l n) (back x size (left - size) left (omega (arith, enough)))

last : (size x left : ℕ) → left ≤ size → in_chunks size (bytes_behind x left) 1 ≡ chunk x left ∷ []
last size x left few =
    ap (λ l. at_once l ∷ []) (take_all size (bytes_behind x left) (let all = many_bytes x left in omega (arith, all, few)))

pub no_chunk : (x : ℕ) → in_chunks 1000 (bytes_behind x 0) ((0 + 999) / 1000) ≡ []
no_chunk x = refl

pub one_chunk : (x left many : ℕ) → 0 < left → many ≡ min left 1000
    → in_chunks 1000 (bytes_behind x left) ((left + 999) / 1000)
    ≡ chunk x many ∷ in_chunks 1000 (bytes_behind (state_behind x many) (left - many)) ((left - many + 999) / 1000)
one_chunk x left many some is = elim (cases_lt left 1000) [
  | inl below ↦
      let all : many ≡ left = omega (arith, is, below) in
      let one : (left + 999) / 1000 ≡ 1 = omega (arith, some, below) in
      let none : left - left ≡ 0 = omega arith in
      ap (λ n. in_chunks 1000 (bytes_behind x left) n) one
      ∙ last 1000 x left (omega (arith, below))
      ∙ ap (λ n. chunk x left ∷ in_chunks 1000 (bytes_behind (state_behind x left) n) ((n + 999) / 1000)) (sym none)
      ∙ ap (λ n. chunk x n ∷ in_chunks 1000 (bytes_behind (state_behind x n) (left - n)) ((left - n + 999) / 1000)) (sym all)
  | inr above ↦
      let size : many ≡ 1000 = omega (arith, is, above) in
      let more : (left + 999) / 1000 ≡ suc ((left - 1000 + 999) / 1000) = omega (arith, above) in
      ap (λ n. in_chunks 1000 (bytes_behind x left) n) more
      ∙ whole 1000 x left ((left - 1000 + 999) / 1000) (omega (arith, above))
      ∙ ap (λ n. chunk x n ∷ in_chunks 1000 (bytes_behind (state_behind x n) (left - n)) ((left - n + 999) / 1000)) (sym size)
]

-- behind a chunk

pub next_of_chunks : (done : List Said) (y x left many : ℕ) (said : List ℕ) → 0 < left → many ≡ min left 1000 → y ≡ state_behind x many → said ≡ bytes_behind x many
    → (done ++ at_once said ∷ []) ++ in_chunks 1000 (bytes_behind y (left - many)) ((left - many + 999) / 1000)
    ≡ done ++ in_chunks 1000 (bytes_behind x left) ((left + 999) / 1000)
next_of_chunks done y x left many said some is state bytes =
    append_assoc done (at_once said ∷ []) (in_chunks 1000 (bytes_behind y (left - many)) ((left - many + 999) / 1000))
    ∙ ap (λ z. done ++ at_once said ∷ in_chunks 1000 (bytes_behind z (left - many)) ((left - many + 999) / 1000)) state
    ∙ ap (λ l. done ++ at_once l ∷ in_chunks 1000 (bytes_behind (state_behind x many) (left - many)) ((left - many + 999) / 1000)) bytes
    ∙ ap (λ l. done ++ l) (sym (one_chunk x left many some is))
