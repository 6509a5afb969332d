use Rattle.std.proofs.Common.{◌≡◌, ◌+◌, ◌++◌, length, take}
use Rattle.avr_enc.proofs.line.Line.push_str.Given as goal

abbrev pub invariant-loop-byte : goal.invariant-loop-byte
invariant-loop-byte l =
    record {
      so_far : l.self ≡ l.fn.self ++ take l.byte-index l.byte-items;
      long : length l.self ≡ length l.fn.self + l.byte-index;
      whole : l.byte-items ≡ l.text;
    }
