-- The lines of the report.
use Rattle.std.proofs.Common.{◌≡◌, ℕ, ◌+◌, ◌-◌, ◌^◌, ◌<◌, false, true, List, [], ◌++◌, sym, ap, ◌∙◌, append_assoc, append-nil, add-one, codes, count_by, Option}
use Rattle.std.specs.Fmt.{digits, padded_integral, format_spec}
use Rattle.std.proofs.lemmas.Fmt.{hex_byte}
use Rattle.chip_sheet.specs.Past.{Past}
use Rattle.chip_sheet.specs.Streams.{Starts}
use Rattle.chip_core.specs.declared.tally.Tally.{Tally}
use Rattle.chip_core.specs.Chip.{tally_at}
use Rattle.board_text.specs.Entries.{byte_text}
use Rattle.board_sim.specs.declared.end.RunEnd.{RunEnd}
use Rattle.board_sim.specs.Report.{end_line, is_bus, is_failed, is_link, line_end, number_line, report_of, socket_text, sockets_text, trail_text}

-- a byte in two digits
pub hex_pair : (n : ℕ) → n < 256 → padded_integral (format_spec 32 0 4 2 (2 ^ 64 - 1)) false [] (digits 16 true n) ≡ byte_text n
hex_pair n below = hex_byte true n below

-- no socket
pub sockets_none : (starts : Starts) (past : Past) (text : List ℕ) → text ≡ text ++ sockets_text starts past 0
unfolding sockets_text
sockets_none starts past text = sym (append-nil text)

-- one more socket
pub sockets_more : (starts : Starts) (past : Past) (n : ℕ) (t : Tally) (first before after : List ℕ) → t ≡ tally_at starts past n
    → before ≡ first ++ sockets_text starts past n → after ≡ before ++ socket_text n t → after ≡ first ++ sockets_text starts past (n + 1)
unfolding sockets_text
sockets_more starts past n t first before after is so_far more =
    more ∙ ap (λ (text : List ℕ). text ++ socket_text n t) so_far ∙ append_assoc first (sockets_text starts past n) (socket_text n t)
    ∙ ap (λ (tally : Tally). first ++ (sockets_text starts past n ++ socket_text n tally)) is ∙ ap (λ (k : ℕ). first ++ sockets_text starts past k) (sym (add-one n))

-- eight pieces, one after another
joined : (a b c d e f g h t0 t1 t2 t3 t4 t5 t6 t7 t8 : List ℕ) → t0 ≡ [] → t1 ≡ t0 ++ a → t2 ≡ t1 ++ b → t3 ≡ t2 ++ c → t4 ≡ t3 ++ d → t5 ≡ t4 ++ e
    → t6 ≡ t5 ++ f → t7 ≡ t6 ++ g → t8 ≡ t7 ++ h → t8 ≡ a ++ b ++ c ++ d ++ e ++ f ++ g ++ h
joined a b c d e f g h t0 t1 t2 t3 t4 t5 t6 t7 t8 e0 e1 e2 e3 e4 e5 e6 e7 e8 = cc

-- the report from its lines
pub report_whole : (starts : Starts) (past : Past) (last : Option ℕ) (cycles : ℕ) (trail : List ℕ) (end : RunEnd) (n bus link faults : ℕ)
    (t0 t1 t2 t3 t4 t5 t6 t7 t8 : List ℕ) → n ≡ cycles → bus ≡ count_by is_bus past → link ≡ count_by is_link past → faults ≡ count_by is_failed past
    → t0 ≡ [] → t1 ≡ t0 ++ line_end last → t2 ≡ t1 ++ end_line end → t3 ≡ t2 ++ number_line (codes "== cycles ") n
    → t4 ≡ t3 ++ number_line (codes "== bus ") bus → t5 ≡ t4 ++ number_line (codes "== link ") link → t6 ≡ t5 ++ sockets_text starts past 8
    → t7 ≡ t6 ++ number_line (codes "== faults ") faults → t8 ≡ t7 ++ trail_text end trail
    → t8 ≡ report_of starts past last cycles trail end
unfolding report_of
report_whole starts past last cycles trail end n bus link faults t0 t1 t2 t3 t4 t5 t6 t7 t8 cycles_are bus_are link_are faults_are e0 e1 e2 e3 e4 e5 e6 e7 e8 =
    let line : List ℕ → List ℕ → ℕ → List ℕ = λ (text head : List ℕ) (k : ℕ). text ++ number_line head k in
    joined (line_end last) (end_line end) (number_line (codes "== cycles ") cycles) (number_line (codes "== bus ") (count_by is_bus past))
    (number_line (codes "== link ") (count_by is_link past)) (sockets_text starts past 8) (number_line (codes "== faults ") (count_by is_failed past)) (trail_text end trail)
    t0 t1 t2 t3 t4 t5 t6 t7 t8 e0 e1 e2 (e3 ∙ ap (line t2 (codes "== cycles ")) cycles_are) (e4 ∙ ap (line t3 (codes "== bus ")) bus_are)
    (e5 ∙ ap (line t4 (codes "== link ")) link_are) e6 (e7 ∙ ap (line t6 (codes "== faults ")) faults_are) e8
