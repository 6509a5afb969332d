-- The words up to the last one other than FFFF, looked for from the end.
use Rattle.std.proofs.Common.{◌≡◌, ◌≢◌, ◌<◌, ◌≤◌, ◌-◌, ℕ, zero, suc, List, refl, sym, arith, sub-one, inl, inr, eq-or-lt_of_le}
use Rattle.std.proofs.lemmas.Bool.{cond-true, cond-false, cases_eq, eq-eqb, ne_eqb}
use Rattle.flash.specs.Image.{word_at}
use Rattle.board_list.specs.Listing.{EndsBehindTheLastWord, IsEnd, used, used_below}

pub used_whole : (image : List ℕ) → used_below image 16384 ≡ used image
unfolding used
used_whole image = refl

pub used_none : (image : List ℕ) → used_below image 0 ≡ 0
unfolding used_below
used_none image = refl

skips : (image : List ℕ) (n : ℕ) → word_at image n ≡ 65535 → used_below image (suc n) ≡ used_below image n
unfolding used_below
skips image n erased = cond-true _ _ _ (eq-eqb _ _ erased)

keeps : (image : List ℕ) (n : ℕ) → word_at image n ≢ 65535 → used_below image (suc n) ≡ suc n
unfolding used_below
keeps image n other = cond-false _ _ _ (ne_eqb _ _ other)

-- an erased word behind the others
pub used_skip : (image : List ℕ) (n : ℕ) → 0 < n → word_at image (n - 1) ≡ 65535 → used_below image (n - 1) ≡ used_below image n
used_skip image zero some erased = absurd (omega (arith, some))
used_skip image (suc n) some erased = rw sub-one (sym (skips image n (rw sub-one at erased)))

-- a word other than FFFF behind the others
pub used_keep : (image : List ℕ) (n : ℕ) → 0 < n → word_at image (n - 1) ≢ 65535 → used_below image n ≡ n
used_keep image zero some other = absurd (omega (arith, some))
used_keep image (suc n) some other = keeps image n (λ e. other (rw sub-one e))

end_skips : (image : List ℕ) (m : ℕ) → word_at image m ≡ 65535 → IsEnd image m (used_below image m) → IsEnd image (suc m) (used_below image (suc m))
end_skips image m is so_far = rw (skips image m is) (record {
  within = omega (arith, so_far.within);
  last = so_far.last;
  erased = λ at from below. elim (eq-or-lt_of_le (let near : at ≤ m = omega (arith, below) in near)) [
    | inl same ↦ rw same is
    | inr before ↦ so_far.erased at from before
  ];
})

end_keeps : (image : List ℕ) (m : ℕ) → word_at image m ≢ 65535 → IsEnd image (suc m) (used_below image (suc m))
end_keeps image m other = rw (keeps image m other) (record {
  within = omega arith;
  last = λ some e. other (rw sub-one at e);
  erased = λ at from below. absurd (omega (arith, from, below));
})

end_below : (image : List ℕ) (m : ℕ) → IsEnd image m (used_below image m)
end_below image zero = rw (used_none image) (record {
  within = omega arith;
  last = λ some. absurd (omega (arith, some));
  erased = λ at from below. absurd (omega (arith, below));
})
end_below image (suc m) = elim (cases_eq (word_at image m) 65535) [
  | inl is ↦ end_skips image m is (end_below image m)
  | inr other ↦ end_keeps image m other
]

pub used_ends : EndsBehindTheLastWord
used_ends image = rw (← used_whole image) (end_below image 16384)
