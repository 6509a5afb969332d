use Rattle.std.proofs.Common.{◌≡◌, ◌≢◌, ◌≤◌, ◌<◌, ◌+◌, ℕ, length, take, get_or}
use Rattle.chip_sheet.specs.Receiving.{Receiving, after_got}
use Rattle.ring_mem.specs.Parts.{SameBytesOutside}
use Rattle.ring_mem.specs.RxHolds.{RxHolds}
use Rattle.ring_mem.proofs.receives.Receives.put.Given as goal

abbrev pub invariant-loop-i : goal.invariant-loop-i
invariant-loop-i l =
    record {
      count : l.i ≤ length l.bytes;
      layout : l.self.layout ≡ l.fn.self.layout;
      more : get_or l.self.unread l.sn 0 ≡ get_or l.fn.self.unread l.sn 0 + l.i;
      outside : SameBytesOutside l.fn.self.memory.items l.self.memory.items (get_or l.fn.self.layout.starts l.sn 0) (get_or l.fn.self.layout.sizes l.sn 0);
      stands : (g : Receiving) → RxHolds l.fn.self l.sn g → RxHolds l.self l.sn (after_got g (take l.i l.bytes));
      others : (n : ℕ) (g : Receiving) → n < 8 → n ≢ l.sn → RxHolds l.fn.self n g → RxHolds l.self n g;
    }
