-- What a text comes to, by what was found of it.
use Rattle.std.proofs.Common.{◌≡◌, ℕ, List, [], append-nil, Option, Ok, Err, sym, ap, ◌∙◌, arith}
use Rattle.wz_base.proofs.Gathered.{appends_none}
use Rattle.board_gen.specs.declared.fault.ScriptFault.{ScriptFault}
use Rattle.board_gen.specs.declared.head.Beginning.{Beginning}
use Rattle.board_gen.specs.declared.end.ScriptStop.TheVariants.{Fault, NoMemory}
use Rattle.board_gen.specs.Faults.{AllRead}
use Rattle.board_gen.specs.Heads.{script_begun, starts_said}
use Rattle.board_gen.specs.Run.{lines_in}
use Rattle.board_gen.specs.Script.{script_lines, script_of, scripted}
use Rattle.board_gen.specs.Shown.{Shown, script_starts, shown, shown_from, shown_of, starts_in, Shows}
use Rattle.board_gen.specs.Tokens.{line_steps}
use Rattle.board_gen.proofs.EachLine.{read_lines}

begun_read : (b : Beginning) → AllRead (script_lines b.rest.now) → script_begun b ≡ Ok (record { starts = starts_said b; number = b.number; lines = lines_in b.rest.now })
begun_read b read = ap (scripted (starts_said b) b.number) (read_lines line_steps [] b.number (script_lines b.rest.now) read)

-- a text that is a script
pub shown_read : (text : List ℕ) (b : Beginning) → script_of text ≡ script_begun b → AllRead (script_lines b.rest.now) → shown_from (starts_said b) [] b.number (lines_in b.rest.now) ≡ shown text
shown_read text b is read = sym (ap shown_of (is ∙ begun_read b read))

pub starts_read : (text : List ℕ) (b : Beginning) → script_of text ≡ script_begun b → AllRead (script_lines b.rest.now) → starts_said b ≡ script_starts text
starts_read text b is read = sym (ap starts_in (is ∙ begun_read b read))

-- a text that is none
pub shown_fault : (text : List ℕ) (fault : ScriptFault) (old : Option (List ℕ)) → script_of text ≡ Err fault → Shows (shown text) (Fault fault) [] old old
shown_fault text fault old is =
    let whole : shown text ≡ record { text = []; past = []; end = Fault fault } = ap shown_of is in (
      sym (ap (λ (s : Shown). s.end) whole),
      sym (ap (λ (s : Shown). s.past) whole),
      rw (ap (λ (s : Shown). s.text) whole) (appends_none old),
    )

-- nothing is a front of all
pub shown_nothing : (whole : Shown) (old : Option (List ℕ)) → Shows whole NoMemory [] old old
shown_nothing whole old = ((whole.past, sym (append-nil whole.past)), (0, omega arith, appends_none old))
