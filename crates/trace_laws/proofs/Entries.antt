-- Entries, written and read.
use Rattle.std.proofs.Common.{arith, ◌≡◌, ◌<◌, ◌+◌, ℕ, Bool, true, false, not, List, [], ◌∷◌, ◌++◌, Some, refl, sym, ap, subst, ◌∙◌}
use Rattle.std.specs.Prelude.{nat_lt}
use Rattle.std.specs.Fmt.{decimal}
use Rattle.std.proofs.lemmas.Bool.{lt-ltb}
use Rattle.std.proofs.lemmas.Fmt.{decimal_digit}
use Rattle.board_bus.specs.declared.event.BusEvent.{BusEvent}
use Rattle.board_bus.specs.declared.event.BusEvent.TheVariants.{Select, Byte, Look}
use Rattle.board_bus.specs.declared.event.BusAnswer.{BusAnswer}
use Rattle.board_bus.specs.declared.event.BusAnswer.TheVariants.{Out, Level}
use Rattle.chip_sheet.specs.declared.event.Entry.{Entry}
use Rattle.chip_sheet.specs.declared.event.Entry.TheVariants.{Bus, Link, Rest}
use Rattle.chip_sheet.specs.declared.event.LinkEntry.{LinkEntry}
use Rattle.chip_sheet.specs.Past.{Past}
use Rattle.chip_sheet.specs.Streams.{Starts}
use Rattle.chip_sheet.specs.Answers.{answer, byte_out}
use Rattle.chip_sheet.specs.Frames.{access}
use Rattle.chip_sheet.specs.Interrupts.{interrupt_low}
use Rattle.chip_sheet.specs.Legal.{FitsAfter}
use Rattle.board_text.specs.Entries.{byte_text, bus_text, entry_text, what_parts, with_colons}
use Rattle.board_gen.specs.Links.{link}
use Rattle.board_judge.specs.Entries.{entry_read, exchanged, happened, longer}
use Rattle.trace_laws.specs.Fitting.{Fits, FitsAnswer, FitsEvent, FitsWhat}
use Rattle.trace_laws.proofs.Passing.{Passes, passes_both, passes_joined, passes_then}
use Rattle.trace_laws.proofs.Decimals.{decimal_passes}
use Rattle.trace_laws.proofs.Digits.{byte_back, bytes_pass, digit_passes}
use Rattle.trace_laws.proofs.Links.{PassesText, link_back, parts_pass}

-- a line that is no exchange of bytes
long_read : (a b : ℕ) (rest : List ℕ) → entry_read (a ∷ b ∷ 58 ∷ rest) ≡ happened (link (a ∷ b ∷ 58 ∷ rest))
long_read a b [] = refl
long_read a b (c ∷ []) = refl
long_read a b (c ∷ d ∷ []) = refl
long_read a b (c ∷ d ∷ e ∷ more) = refl

link_read : (n : ℕ) (did : LinkEntry) → n < 8 → FitsWhat did → entry_read (64 ∷ (decimal n ++ 58 ∷ with_colons (what_parts did))) ≡ Some (Link n did)
link_read n did small fits =
    let one = decimal_digit n (omega (arith, small)) in
    ap (λ (ds : List ℕ). entry_read (64 ∷ (ds ++ 58 ∷ with_colons (what_parts did)))) one
    ∙ long_read 64 (48 + n) (with_colons (what_parts did))
    ∙ ap (λ (ds : List ℕ). happened (link (64 ∷ (ds ++ 58 ∷ with_colons (what_parts did))))) (sym one)
    ∙ ap happened (link_back n did small fits)

byte_read : (v w : ℕ) → v < 256 → w < 256 → entry_read (byte_text v ++ 62 ∷ byte_text w) ≡ Some (Bus (Byte v) (Out w))
byte_read v w small_v small_w = λ i. longer (exchanged (byte_back v small_v i) (byte_back w small_w i)) (link (byte_text v ++ 62 ∷ byte_text w))

look_read : (high : Bool) → entry_read (bus_text Look (Level high)) ≡ Some (Bus Look (Level high))
look_read true = refl
look_read false = refl

-- an answer of the chip
bus_read : (starts : Starts) (past : Past) (e : BusEvent) → FitsEvent e → FitsAnswer (answer starts past e) → entry_read (bus_text e (answer starts past e)) ≡ Some (Bus e (answer starts past e))
bus_read starts past (Select true) fits small = refl
bus_read starts past (Select false) fits small = refl
bus_read starts past (Byte v) fits small = byte_read v _ fits small
bus_read starts past Look fits small = look_read (not (interrupt_low starts past))

pub entry_back : (starts : Starts) (past : Past) (entry : Entry) → FitsAfter starts past entry → Fits entry → entry_read (entry_text entry) ≡ Some entry
entry_back starts past (Bus e a) (allowed, is) (event, small) =
    subst (λ (x : BusAnswer). entry_read (bus_text e x) ≡ Some (Bus e x)) (sym is) (bus_read starts past e event (subst FitsAnswer is small))
entry_back starts past (Link n did) (few, due) fits = link_read n did few fits
entry_back starts past Rest allowed fits = refl

-- each byte is past the line ends
abbrev pub plain : ℕ → Bool
plain x = nat_lt 13 x

pub text_plain : PassesText plain
text_plain = record {
  digits = λ c low high. lt-ltb 13 c (omega (arith, low));
  hexadecimal = digit_passes plain refl;
  dot = refl;
  words = (refl, (refl, (refl, (refl, (refl, (refl, (refl, (refl, (refl, (refl, (refl, tt)))))))))));
}

digits_plain : (v : ℕ) → v < 256 → Passes plain (byte_text v)
digits_plain v small = bytes_pass plain (v ∷ []) text_plain.hexadecimal (small, tt)

byte_plain : (v w : ℕ) → v < 256 → w < 256 → Passes plain (byte_text v ++ 62 ∷ byte_text w)
byte_plain v w small_v small_w =
    passes_both plain (byte_text v) (62 ∷ byte_text w) (digits_plain v small_v) (passes_then plain 62 (byte_text w) refl (digits_plain w small_w))

look_plain : (high : Bool) → Passes plain (bus_text Look (Level high))
look_plain true = refl
look_plain false = refl

bus_plain : (starts : Starts) (past : Past) (e : BusEvent) → FitsEvent e → FitsAnswer (answer starts past e) → Passes plain (bus_text e (answer starts past e))
bus_plain starts past (Select true) fits small = refl
bus_plain starts past (Select false) fits small = refl
bus_plain starts past (Byte v) fits small = byte_plain v (byte_out starts past (access past (Byte v))) fits small
bus_plain starts past Look fits small = look_plain (not (interrupt_low starts past))

link_plain : (n : ℕ) (did : LinkEntry) → n < 8 → FitsWhat did → Passes plain (64 ∷ (decimal n ++ 58 ∷ with_colons (what_parts did)))
link_plain n did few fits =
    let said = with_colons (what_parts did) in
    passes_then plain 64 (decimal n ++ 58 ∷ said) refl (passes_both plain (decimal n) (58 ∷ said) (decimal_passes plain n (omega (arith, few)) text_plain.digits)
    (passes_then plain 58 said refl (passes_joined plain 58 (what_parts did) refl (parts_pass plain text_plain did fits))))

pub entry_plain : (starts : Starts) (past : Past) (entry : Entry) → FitsAfter starts past entry → Fits entry → Passes plain (entry_text entry)
entry_plain starts past (Bus e a) (allowed, is) (event, small) =
    subst (λ (x : BusAnswer). Passes plain (bus_text e x)) (sym is) (bus_plain starts past e event (subst FitsAnswer is small))
entry_plain starts past (Link n did) (few, due) fits = link_plain n did few fits
entry_plain starts past Rest allowed fits = refl
