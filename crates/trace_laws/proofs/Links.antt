-- What a link did, written and read.
use Rattle.std.proofs.Common.{arith, ◌≡◌, ◌==◌, ◌≤◌, ◌<◌, ◌&&◌, ◌^◌, ◌+◌, ◌-◌, ℕ, Bool, true, not, List, [], ◌∷◌, ◌++◌, cond, None, Some, option_map, refl, sym, ap, subst, ◌∙◌}
use Rattle.std.specs.Prelude.{codes}
use Rattle.std.specs.Fmt.{decimal}
use Rattle.std.specs.List.{slice_split}
use Rattle.std.proofs.lemmas.Bool.{le-leb, ne_eqb}
use Rattle.std.proofs.lemmas.Fmt.{decimal_digit}
use Rattle.chip_sheet.specs.declared.event.Addr.{Addr}
use Rattle.chip_sheet.specs.declared.event.LinkEntry.{LinkEntry}
use Rattle.chip_sheet.specs.declared.event.LinkEntry.TheVariants.{Linked, Accepted, Refused, TimedOut, Took, Got, Datagram, Ended, Shut, Failed, Dropped}
use Rattle.chip_sheet.specs.Replay.{Happens}
use Rattle.board_read.specs.Numbers.{address}
use Rattle.board_text.specs.Answers.{digit}
use Rattle.board_text.specs.Entries.{address_text, what_parts, with_colons}
use Rattle.board_gen.specs.Links.{datagram_of, happens, link, link_parts, peer, peer_of, socket, what}
use Rattle.trace_laws.specs.Fitting.{AreFour, FitsWhat, IsAddress}
use Rattle.trace_laws.proofs.Passing.{EachPasses, Passes, other, passes_joined, passes_then, split_first, split_joined}
use Rattle.trace_laws.proofs.Decimals.{address_back, at_most_back, decimal_passes}
use Rattle.trace_laws.proofs.Digits.{bytes_back, bytes_pass, digit_passes}

address_is : (ip : List ℕ) → AreFour ip → address (address_text ip) ≡ Some ip
address_is [] four = absurd four
address_is (a ∷ []) four = absurd four
address_is (a ∷ b ∷ []) four = absurd four
address_is (a ∷ b ∷ c ∷ []) four = absurd four
address_is (a ∷ b ∷ c ∷ d ∷ []) (small_a, (small_b, (small_c, (small_d, u)))) = address_back a b c d small_a small_b small_c small_d
address_is (a ∷ b ∷ c ∷ d ∷ e ∷ more) four = absurd four

peer_back : (from : Addr) → IsAddress from → peer (address_text from.ip) (decimal from.port) ≡ Some from
peer_back from (four, small) = λ i. peer_of (address_is from.ip four i) (at_most_back 65535 from.port (omega (arith, small)) (omega (arith, small)) i)

what_back : (did : LinkEntry) → FitsWhat did → what (what_parts did) ≡ Some did
what_back Linked fits = refl
what_back (Accepted from) fits = ap (option_map Accepted) (peer_back from fits)
what_back Refused fits = refl
what_back TimedOut fits = refl
what_back (Took k) fits = ap (option_map Took) (at_most_back 4294967295 k (omega (arith, fits)) fits)
what_back (Got bytes) fits = ap (option_map Got) (bytes_back bytes fits)
what_back (Datagram from bytes) (peer, small) = λ i. datagram_of (peer_back from peer i) (bytes_back bytes small i)
what_back Ended fits = refl
what_back Shut fits = refl
what_back Failed fits = refl
what_back Dropped fits = refl

-- bytes of a text that pass wherever digits, capital letters, dots and words do
pub record PassesText (q : ℕ → Bool) : Type 0 where
  pub digits : (c : ℕ) → 48 ≤ c → c ≤ 57 → q c ≡ true
  pub hexadecimal : (n : ℕ) → n < 16 → q (digit n) ≡ true
  pub dot : q 46 ≡ true
  pub words : EachPasses q (codes "linked" ∷ codes "accepted" ∷ codes "refused" ∷ codes "timedout" ∷ codes "took" ∷ codes "got" ∷ codes "datagram" ∷ codes "ended" ∷ codes "shut" ∷ codes "failed" ∷ codes "dropped" ∷ [])

address_passes : (q : ℕ → Bool) → PassesText q → (ip : List ℕ) → AreFour ip → Passes q (address_text ip)
address_passes q text [] four = absurd four
address_passes q text (a ∷ []) four = absurd four
address_passes q text (a ∷ b ∷ []) four = absurd four
address_passes q text (a ∷ b ∷ c ∷ []) four = absurd four
address_passes q text (a ∷ b ∷ c ∷ d ∷ []) (small_a, (small_b, (small_c, (small_d, u)))) =
    let pass : (n : ℕ) → n < 256 → Passes q (decimal n) = λ n small. decimal_passes q n (omega (arith, small)) text.digits in
    passes_joined q 46 (decimal a ∷ decimal b ∷ decimal c ∷ decimal d ∷ []) text.dot (pass a small_a, (pass b small_b, (pass c small_c, (pass d small_d, tt))))
address_passes q text (a ∷ b ∷ c ∷ d ∷ e ∷ more) four = absurd four

number_passes : (q : ℕ → Bool) → PassesText q → (n : ℕ) → n < 2 ^ 32 → Passes q (decimal n)
number_passes q text n small = decimal_passes q n (omega (arith, small)) text.digits

pub parts_pass : (q : ℕ → Bool) → PassesText q → (did : LinkEntry) → FitsWhat did → EachPasses q (what_parts did)
parts_pass q text Linked fits = (text.words.0, tt)
parts_pass q text (Accepted from) (four, small) = (text.words.1.0, (address_passes q text from.ip four, (number_passes q text from.port (omega (arith, small)), tt)))
parts_pass q text Refused fits = (text.words.1.1.0, tt)
parts_pass q text TimedOut fits = (text.words.1.1.1.0, tt)
parts_pass q text (Took k) fits = (text.words.1.1.1.1.0, (number_passes q text k fits, tt))
parts_pass q text (Got bytes) fits = (text.words.1.1.1.1.1.0, (bytes_pass q bytes text.hexadecimal fits, tt))
parts_pass q text (Datagram from bytes) ((four, small), fits) =
    (text.words.1.1.1.1.1.1.0, (address_passes q text from.ip four, (number_passes q text from.port (omega (arith, small)), (bytes_pass q bytes text.hexadecimal fits, tt))))
parts_pass q text Ended fits = (text.words.1.1.1.1.1.1.1.0, tt)
parts_pass q text Shut fits = (text.words.1.1.1.1.1.1.1.1.0, tt)
parts_pass q text Failed fits = (text.words.1.1.1.1.1.1.1.1.1.0, tt)
parts_pass q text Dropped fits = (text.words.1.1.1.1.1.1.1.1.1.1.0, tt)

no_colon : PassesText (other 58)
no_colon = record {
  digits = λ c low high. ap not (ne_eqb c 58 (λ e. omega (arith, high, e)));
  hexadecimal = digit_passes (other 58) refl;
  dot = refl;
  words = (refl, (refl, (refl, (refl, (refl, (refl, (refl, (refl, (refl, (refl, (refl, tt)))))))))));
}

-- there is a word at least
some_part : (did : LinkEntry) → (part : List ℕ) × (parts : List (List ℕ)) × (what_parts did ≡ part ∷ parts)
some_part Linked = (_, _, refl)
some_part (Accepted from) = (_, _, refl)
some_part Refused = (_, _, refl)
some_part TimedOut = (_, _, refl)
some_part (Took k) = (_, _, refl)
some_part (Got bytes) = (_, _, refl)
some_part (Datagram from bytes) = (_, _, refl)
some_part Ended = (_, _, refl)
some_part Shut = (_, _, refl)
some_part Failed = (_, _, refl)
some_part Dropped = (_, _, refl)

place_free : (n : ℕ) → n < 8 → Passes (other 58) (64 ∷ decimal n)
place_free n small = passes_then (other 58) 64 (decimal n) refl (decimal_passes (other 58) n (omega (arith, small)) no_colon.digits)

cut : (n : ℕ) (parts : List (List ℕ)) (part : List ℕ) (more : List (List ℕ)) → n < 8 → parts ≡ part ∷ more → EachPasses (other 58) parts
    → slice_split (λ b. b == 58) (64 ∷ (decimal n ++ 58 ∷ with_colons parts)) ≡ (64 ∷ decimal n) ∷ parts
cut n parts part more small is each =
    split_first 58 (64 ∷ decimal n) (with_colons parts) (place_free n small)
    ∙ ap (λ (ps : List (List ℕ)). (64 ∷ decimal n) ∷ slice_split (λ b. b == 58) (with_colons ps)) is
    ∙ ap (λ (ps : List (List ℕ)). (64 ∷ decimal n) ∷ ps) (split_joined 58 part more (subst (λ (ps : List (List ℕ)). EachPasses (other 58) ps) is each) ∙ sym is)

socket_back : (n : ℕ) → n < 8 → socket (64 ∷ decimal n) ≡ Some n
socket_back n small =
    let low : 48 ≤ 48 + n = omega arith in
    let high : 48 + n ≤ 55 = omega (arith, small) in
    let same : 48 + n - 48 ≡ n = omega arith in
    ap (λ (ds : List ℕ). socket (64 ∷ ds)) (decimal_digit n (omega (arith, small)))
    ∙ ap (λ b. cond b (Some (48 + n - 48)) None) (λ i. le-leb 48 (48 + n) low i && le-leb (48 + n) 55 high i)
    ∙ ap Some same

pub link_back : (n : ℕ) (did : LinkEntry) → n < 8 → FitsWhat did → link (64 ∷ (decimal n ++ 58 ∷ with_colons (what_parts did))) ≡ Some (Happens n did)
link_back n did small fits =
    let some = some_part did in
    ap link_parts (cut n (what_parts did) some.0 some.1 small some.2 (parts_pass (other 58) no_colon did fits))
    ∙ (λ i. happens (socket_back n small i) (what_back did fits i))
