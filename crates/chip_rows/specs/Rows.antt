-- Worked rows: the lines of a script, and beside each the line that it prints, both as docs/FORMATS.md has them. A row's text is
-- read by the definition that the reader of scripts is proved to meet.
use Prim.Native.String.{String}
use Rattle.std.specs.Prelude.{◌≡◌, ℕ, zero, suc, List, [], ◌∷◌, ◌++◌, length, Option, None, Some, codes}
use Rattle.chip_sheet.specs.declared.event.Addr.{Addr}
use Rattle.chip_sheet.specs.declared.socket.Due.{Due}
use Rattle.chip_sheet.specs.declared.stop.ChipStop.{ChipStop}
use Rattle.chip_sheet.specs.Past.{Past}
use Rattle.chip_sheet.specs.Streams.{Starts, sent, destinations, got, supplied}
use Rattle.chip_sheet.specs.LinkCalls.{due_at}
use Rattle.board_text.specs.Answers.{with_end}
use Rattle.board_text.specs.Stops.{stop_line}
use Rattle.board_gen.specs.declared.end.ScriptStop.{ScriptStop}
use Rattle.board_gen.specs.declared.end.ScriptStop.TheVariants.{Done, Fault, Chip}
use Rattle.board_gen.specs.declared.fault.ScriptKind.TheVariants.{NotDue}
use Rattle.board_gen.specs.Shown.{Shown, script_starts, shown}

-- A line of a script, and what it prints.
pub record Line : Type 0 where
  pub script : List ℕ
  pub text : List ℕ

infix 70 ◌prints◌
abbrev pub ◌prints◌ : String → String → Line
script prints text = record { script = codes script; text = codes text }

-- A line whose text is not looked at.
abbrev pub line : String → Line
line script = record { script = codes script; text = [] }

-- Socket 0, and socket 7, opened for TCP.
abbrev pub opened : Line
opened = "L 00 00 0C 01 H L 00 01 0C 01 H" prints "00 00 00 00 00 00 00 00"

abbrev pub opened_7 : Line
opened_7 = "L 00 00 EC 01 H L 00 01 EC 01 H" prints "00 00 00 00 00 00 00 00"

-- Socket 7, opened for UDP on port 5000.
abbrev pub opened_for_udp_7 : Line
opened_for_udp_7 = "L 00 00 EC 02 H L 00 04 EC 13 88 H L 00 01 EC 01 H" prints "00 00 00 00 00 00 00 00 00 00 00 00 00"

-- Socket 0, and socket 7, connected and linked.
abbrev pub connected : Line
connected = "L 00 00 0C 01 H L 00 01 0C 01 H L 00 01 0C 04 H @0:linked" prints "00 00 00 00 00 00 00 00 00 00 00 00"

abbrev pub connected_7 : Line
connected_7 = "L 00 00 EC 01 H L 00 01 EC 01 H L 00 01 EC 04 H @7:linked" prints "00 00 00 00 00 00 00 00 00 00 00 00"

-- So many bytes, each 55, as hexadecimal digits.
abbrev pub many : ℕ → List ℕ
many zero = []
many (suc count) = codes "55" ++ many count

-- A token that ends with so many bytes, alone on its line.
abbrev pub long : String → ℕ → Line
long token count = record { script = codes token ++ many count; text = [] }

-- The text of a script of these lines, and the text that they should print.
abbrev pub script_text : List Line → List ℕ
script_text [] = []
script_text (line ∷ more) = line.script ++ 10 ∷ script_text more

abbrev pub printed_text : List Line → List ℕ
printed_text [] = []
printed_text (line ∷ more) = with_end line.text ++ printed_text more

-- What a script prints, and how it ends.
pub record Row : Type 0 where
  pub text : List ℕ
  pub end : ScriptStop

abbrev pub row_of : Shown → Row
row_of it = record { text = it.text; end = it.end }

-- A script of these lines prints what stands beside them and then this, and comes to this end.
abbrev pub EndsWith : List Line → List ℕ → ScriptStop → Type 0
EndsWith lines last end =
    row_of (shown (script_text lines)) ≡ record { text = printed_text lines ++ last; end = end }

-- A script of these lines prints what stands beside them, and comes to its end.
abbrev pub Prints : List Line → Type 0
Prints lines = EndsWith lines [] Done

-- It prints what stands beside them, and then this stop.
abbrev pub Stops : List Line → ChipStop → Type 0
Stops lines stop = EndsWith lines (stop_line stop) (Chip stop)

-- It prints what stands beside them; the last of them has a link event that does not fit.
abbrev pub IsNotDue : List Line → Type 0
IsNotDue lines = EndsWith lines [] (Fault (record { line = length lines; kind = NotDue }))

-- What a definition says once a script of these lines has run, whatever it prints; nothing where it does not come to its end.
abbrev pub if_done : {A : Type 0} → ScriptStop → A → Option A
if_done Done a = Some a
if_done end a = None

abbrev pub after : {A : Type 0} → List Line → (Starts → Past → A) → Option A
after lines ask =
    let text = script_text lines in
    let it = shown text in if_done it.end (ask (script_starts text) it.past)

-- The link call that is due at a place.
abbrev pub due_after : List Line → ℕ → Option Due
due_after lines place = after lines (λ starts past. due_at starts past place)

-- What a life of socket n sent, received, and was supplied with.
abbrev pub sent_after : List Line → ℕ → ℕ → Option (List ℕ)
sent_after lines n life = after lines (λ starts past. sent starts past n life)

abbrev pub got_after : List Line → ℕ → ℕ → Option (List ℕ)
got_after lines n life = after lines (λ starts past. got starts past n life)

abbrev pub supplied_after : List Line → ℕ → ℕ → Option (List ℕ)
supplied_after lines n life = after lines (λ starts past. supplied past n life)

-- Where its datagrams go.
abbrev pub destinations_after : List Line → ℕ → ℕ → Option (List Addr)
destinations_after lines n life = after lines (λ starts past. destinations starts past n life)
