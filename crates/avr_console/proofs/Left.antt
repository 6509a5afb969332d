-- The bytes that the console has not sent, as the rest of a list.
use Rattle.std.proofs.Common.{◌≡◌, ℕ, ◌<◌, ◌≤◌, true, false, List, length, drop, ap, drop-cons}
use Rattle.std.proofs.lemmas.List.{drop_all}
use Rattle.avr_console.specs.Console.{is_more}

pub more_left : (n : ℕ) (bytes : List ℕ) → n < length bytes → is_more (drop n bytes) ≡ true
more_left n bytes within = ap is_more (drop-cons bytes n 0 within)

pub none_left : (n : ℕ) (bytes : List ℕ) → length bytes ≤ n → is_more (drop n bytes) ≡ false
none_left n bytes past = ap is_more (drop_all n bytes past)
