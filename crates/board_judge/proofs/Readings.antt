-- What a text comes to, by what was found of it.
use Rattle.std.proofs.Common.{arith, ◌≡◌, ℕ, List, [], Option, Ok, Err, append-nil, sym, ap, ◌∙◌}
use Rattle.chip_sheet.specs.declared.event.Entry.TheVariants.{Rest}
use Rattle.wz_base.proofs.Gathered.{appends_none}
use Rattle.board_gen.specs.declared.fault.ScriptFault.{ScriptFault}
use Rattle.board_judge.specs.declared.check.Beginning.{Beginning}
use Rattle.board_judge.specs.declared.end.JudgeStop.TheVariants.{Fault, NoMemory}
use Rattle.board_judge.specs.Entries.{entry_read}
use Rattle.board_judge.specs.Trace.{trace_lines, trace_of, traced}
use Rattle.board_judge.specs.Judged.{judged}
use Rattle.board_judge.specs.Run.{AllRead, entries_in}
use Rattle.board_judge.specs.Shown.{Shown, Shows, shown, shown_of, starts_in, told, trace_starts}
use Rattle.board_judge.specs.Views.{starts_said, trace_begun}
use Rattle.board_gen.proofs.EachLine.{read_lines}

begun_read : (b : Beginning) → AllRead (trace_lines b.rest.now) → trace_begun b ≡ Ok (record { starts = starts_said b.starts; entries = entries_in b.rest.now })
begun_read b read = ap (traced (starts_said b.starts)) (read_lines entry_read Rest 2 (trace_lines b.rest.now) read)

-- a text that is a trace
pub shown_read : (text : List ℕ) (b : Beginning) → trace_of text ≡ trace_begun b → AllRead (trace_lines b.rest.now) → told (judged (starts_said b.starts) [] (entries_in b.rest.now)) ≡ shown text
shown_read text b is read = sym (ap shown_of (is ∙ begun_read b read))

pub starts_read : (text : List ℕ) (b : Beginning) → trace_of text ≡ trace_begun b → AllRead (trace_lines b.rest.now) → starts_said b.starts ≡ trace_starts text
starts_read text b is read = sym (ap starts_in (is ∙ begun_read b read))

-- a text that is none
pub shown_fault : (text : List ℕ) (fault : ScriptFault) (old : Option (List ℕ)) → trace_of text ≡ Err fault → Shows (shown text) (Fault fault) [] old old
shown_fault text fault old is =
    let whole : shown text ≡ record { text = []; past = []; end = Fault fault } = ap shown_of is in (
      sym (ap (λ (s : Shown). s.end) whole),
      sym (ap (λ (s : Shown). s.past) whole),
      rw (ap (λ (s : Shown). s.text) whole) (appends_none old),
    )

-- nothing is a front of all
pub shown_nothing : (whole : Shown) (old : Option (List ℕ)) → Shows whole NoMemory [] old old
shown_nothing whole old = ((whole.past, sym (append-nil whole.past)), (0, omega arith, appends_none old))
