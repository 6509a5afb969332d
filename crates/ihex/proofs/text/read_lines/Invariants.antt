use Rattle.std.proofs.Common.{◌≡◌, ◌+◌, ◌≤◌, length}
use Rattle.std.specs.Str.Lines.{lines}
use Rattle.ihex.specs.Flash.{written}
use Rattle.ihex.specs.Reading.{above_of}
use Rattle.ihex.specs.Text.{fault_behind, data_behind}
use Rattle.ihex.proofs.text.read_lines.Given as goal

abbrev pub invariant-lines : goal.invariant-lines
invariant-lines l =
    record {
      few : l.number + length l.rest ≤ 67108864;
      faults : fault_behind l.number (above_of l.reader) (lines l.rest) ≡ fault_behind 0 (above_of l.fn.reader) (lines l.text);
      image : written l.reader.image (data_behind (above_of l.reader) (lines l.rest)) ≡ written l.fn.reader.image (data_behind (above_of l.fn.reader) (lines l.text));
    }

abbrev pub decreases-lines : goal.decreases-lines
decreases-lines l = length l.rest
