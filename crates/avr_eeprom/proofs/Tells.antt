-- The cells tell the writes that began, so far as they are complete.
use Rattle.std.proofs.Common.{◌≡◌, ℕ, ◌+◌, ◌<◌, ◌≤◌, ◌==◌, ◌&&◌, Bool, true, false, not, ◌*◌, ◌/◌, ◌%◌, refl, sym, ap, ◌∙◌, subst, arith, inl, inr, List, [], ◌∷◌, length, Option, Some, None}
use Rattle.std.specs.Prelude.{if◌then◌else◌, is_some, nat_le, slice_index, slice_set}
use Rattle.std.proofs.lemmas.Bool.{cases_eq, cases_lt, false≢true}
use Rattle.std.proofs.lemmas.Bool.Decides.{nat_tests}
use Rattle.std.proofs.lemmas.Grind.{common_steps, get_or-set_at}
use Rattle.std.proofs.lemmas.List.{get_or-replicate, get_or-set_other, length-replicate, length-set}
use Rattle.avr_sheet.specs.Registers.{EECR, EEDR, EEARL, EEARH}
use Rattle.avr_eeprom.specs.declared.control.Control.{Control}
use Rattle.avr_eeprom.specs.declared.writing.Writing.{Writing}
use Rattle.avr_eeprom.specs.Cells.{CellWrite, cell_byte, filled}
use Rattle.avr_eeprom.specs.Eeprom.{WRITE_CYCLES, EepromState, address, begins, bit_control, byte_control, completed, control_written, controlled, is_enabled, is_writing, reset_eeprom}
use Rattle.avr_eeprom.specs.Laws.{Operation, Write, WriteBit, Pass, after, beginning, begun, complete, done, starts, starts_by}

-- from a cycle count on no further of these writes becomes complete
abbrev Settled : ℕ → List Writing → Type 0
Settled cycle ws = (now : ℕ) → cycle ≤ now → complete now ws ≡ complete cycle ws

-- the write that runs is the newest, its cell is one of the 1,024, it is not complete, and all before it are settled
record Runs (cycle : ℕ) (w : Writing) (ws : List Writing) : Type 0 where
  earlier : List Writing
  newest : ws ≡ w ∷ earlier
  cell : w.address < 1024
  running : cycle < w.began + WRITE_CYCLES
  settled : Settled cycle earlier

abbrev Running : Option Writing → ℕ → List Writing → Type 0
Running None cycle ws = Settled cycle ws
Running (Some w) cycle ws = Runs cycle w ws

-- the cells hold the writes that are complete
record Tells (s : EepromState) (ws : List Writing) : Type 0 where
  len : length s.cells ≡ 1024
  holds : (at : ℕ) → at < 1024 → slice_index s.cells at ≡ cell_byte (complete s.cycle ws) at
  running : Running s.writing s.cycle ws

over : (began now : ℕ) → began + WRITE_CYCLES ≤ now → nat_le (began + WRITE_CYCLES) now ≡ true
over began now h = grind (arith, nat_tests)

not_over : (began now : ℕ) → now < began + WRITE_CYCLES → nat_le (began + WRITE_CYCLES) now ≡ false
not_over began now h = grind (arith, nat_tests)

-- a write that begins changes no cell yet
begins-tells : (s : EepromState) (c : Control) (ws : List Writing) → s.writing ≡ None → Tells s ws →
    Tells (record (controlled s c) { writing = Some (beginning s) }) (beginning s ∷ ws)
begins-tells s c ws free t =
    let here : nat_le (s.cycle + WRITE_CYCLES) s.cycle ≡ false = not_over s.cycle s.cycle (omega arith) in
    let settled : Settled s.cycle ws = subst (λ (o : Option Writing). Running o s.cycle ws) free t.running in
    record {
      len = t.len;
      holds = λ at within. rw here (t.holds at within);
      running = record { earlier = ws; newest = refl; cell = omega arith; running = omega arith; settled = settled };
    }

-- what a write of EECR leaves, by what it does
abbrev left : Bool → Bool → Bool → EepromState → Control → EepromState
left begins offered reads s c =
    if begins && not offered then s
    else if begins then record (controlled s c) { writing = Some (beginning s) }
    else if reads then record (controlled s c) { eedr = slice_index s.cells (address s) }
    else controlled s c

left-tells : (b z r : Bool) (s : EepromState) (c : Control) (ws : List Writing) → (b ≡ true → s.writing ≡ None) → Tells s ws →
    Tells (left b z r s c) (if b && z then beginning s ∷ ws else ws)
left-tells true true r s c ws free t = begins-tells s c ws (free refl) t
left-tells true false r s c ws free t = t
left-tells false z true s c ws free t = record { len = t.len; holds = t.holds; running = t.running }
left-tells false z false s c ws free t = record { len = t.len; holds = t.holds; running = t.running }

none-runs : (a b : Bool) (o : Option Writing) → (a && (b && not (is_some o))) ≡ true → o ≡ None
none-runs a b None h = refl
none-runs true true (Some w) h = absurd (false≢true h)
none-runs true false (Some w) h = absurd (false≢true h)
none-runs false b (Some w) h = absurd (false≢true h)

control-tells : (s : EepromState) (c : Control) (ws : List Writing) → Tells s ws →
    Tells (control_written s c) (if starts s c then beginning s ∷ ws else ws)
control-tells s c ws t =
    left-tells (begins s c) (c.mode == 0) (c.reads && not (is_writing s)) s c ws (none-runs c.writes (is_enabled s) s.writing) t

-- a write of another register changes nothing of this
registers-tell : (b l h d : Bool) (at v : ℕ) (s : EepromState) (ws : List Writing) → Tells s ws →
    Tells (if d then record s { eedr = v } else if l then record s { eear = s.eear / 256 * 256 + v }
    else if h then record s { eear = 256 * v + s.eear % 256 } else s) ws
registers-tell b l h true at v s ws t = record { len = t.len; holds = t.holds; running = t.running }
registers-tell b true h false at v s ws t = record { len = t.len; holds = t.holds; running = t.running }
registers-tell b false true false at v s ws t = record { len = t.len; holds = t.holds; running = t.running }
registers-tell b false false false at v s ws t = t

write-tells : (b : Bool) (at v : ℕ) (s : EepromState) (ws : List Writing) → Tells s ws →
    Tells (if b then control_written s (byte_control v)
    else if at == EEDR then record s { eedr = v }
    else if at == EEARL then record s { eear = s.eear / 256 * 256 + v }
    else if at == EEARH then record s { eear = 256 * v + s.eear % 256 }
    else s) (if b && starts s (byte_control v) then beginning s ∷ ws else ws)
write-tells true at v s ws t = control-tells s (byte_control v) ws t
write-tells false at v s ws t = registers-tell false (at == EEARL) (at == EEARH) (at == EEDR) at v s ws t

-- time goes by: no write runs
idle-tells : (n : ℕ) (s : EepromState) (ws : List Writing) → Tells s ws → Settled s.cycle ws → s.writing ≡ None →
    Tells (record s { cycle = s.cycle + n }) ws
idle-tells n s ws t settled free =
    let later : complete (s.cycle + n) ws ≡ complete s.cycle ws = settled (s.cycle + n) (omega arith) in
    record {
      len = t.len;
      holds = λ at within. rw later (t.holds at within);
      running = subst (λ (o : Option Writing). Running o (s.cycle + n) ws) (sym free)
          (λ now order. settled now (omega (arith, order)) ∙ sym later);
    }

-- a write runs on
on-tells : (n : ℕ) (s : EepromState) (w : Writing) (ws : List Writing) → Tells s ws → Runs s.cycle w ws → s.writing ≡ Some w →
    s.cycle + n < w.began + WRITE_CYCLES → Tells (record s { cycle = s.cycle + n }) ws
on-tells n s w ws t r is soon =
    let before : complete s.cycle ws ≡ complete s.cycle r.earlier =
    ap (λ (l : List Writing). complete s.cycle l) r.newest ∙ rw (not_over w.began s.cycle r.running) refl in
    let after : complete (s.cycle + n) ws ≡ complete s.cycle r.earlier =
    ap (λ (l : List Writing). complete (s.cycle + n) l) r.newest
    ∙ rw (not_over w.began (s.cycle + n) soon) (r.settled (s.cycle + n) (omega arith)) in
    record {
      len = t.len;
      holds = λ at within. rw (after ∙ sym before) (t.holds at within);
      running = subst (λ (o : Option Writing). Running o (s.cycle + n) ws) (sym is) (record {
        earlier = r.earlier;
        newest = r.newest;
        cell = r.cell;
        running = soon;
        settled = λ now order.
            r.settled now (omega (arith, order)) ∙ sym (r.settled (s.cycle + n) (omega arith));
      });
    }

-- a cell after a write of a cell
cell-set : (cells : List ℕ) (at place byte : ℕ) (earlier : List CellWrite) → length cells ≡ 1024 → place < 1024 →
    slice_index cells at ≡ cell_byte earlier at →
    slice_index (slice_set cells place byte) at ≡ cell_byte (record { address = place; byte = byte } ∷ earlier) at
cell-set cells at place byte earlier len within was =
    elim (cases_eq at place) [
      | inl same ↦ grind (arith, nat_tests, common_steps, get_or-set_at)
      | inr other ↦ grind (arith, nat_tests, common_steps, get_or-set_other)
    ]

-- a write is complete
over-tells : (n : ℕ) (s : EepromState) (w : Writing) (ws : List Writing) → Tells s ws → Runs s.cycle w ws →
    w.began + WRITE_CYCLES ≤ s.cycle + n →
    Tells (record s { cycle = s.cycle + n; writing = None; cells = slice_set s.cells w.address w.byte }) ws
over-tells n s w ws t r past =
    let before : complete s.cycle ws ≡ complete s.cycle r.earlier =
    ap (λ (l : List Writing). complete s.cycle l) r.newest ∙ rw (not_over w.began s.cycle r.running) refl in
    let kept : complete (s.cycle + n) r.earlier ≡ complete s.cycle r.earlier = r.settled (s.cycle + n) (omega arith) in
    let after : complete (s.cycle + n) ws ≡ record { address = w.address; byte = w.byte } ∷ complete s.cycle r.earlier =
    ap (λ (l : List Writing). complete (s.cycle + n) l) r.newest ∙ rw (over w.began (s.cycle + n) past) (rw kept refl) in
    record {
      len = length-set s.cells w.address w.byte ∙ t.len;
      holds = λ at within. rw after (cell-set s.cells at w.address w.byte (complete s.cycle r.earlier) t.len r.cell
          (t.holds at within ∙ ap (λ (l : List CellWrite). cell_byte l at) before));
      running = λ now order.
          ap (λ (l : List Writing). complete now l) r.newest
          ∙ rw (over w.began now (omega (arith, order, past))) (rw (r.settled now (omega (arith, order))) (sym after));
    }

-- time goes by, whatever runs
pass-tells : (n : ℕ) (o : Option Writing) (s : EepromState) (ws : List Writing) → s.writing ≡ o → Tells s ws →
    Tells (completed (s.cycle + n) o (record s { cycle = s.cycle + n })) ws
pass-tells n None s ws is t =
    idle-tells n s ws t (subst (λ (o : Option Writing). Running o s.cycle ws) is t.running) is
pass-tells n (Some w) s ws is t =
    let runs : Runs s.cycle w ws = subst (λ (o : Option Writing). Running o s.cycle ws) is t.running in
    elim (cases_lt (s.cycle + n) (w.began + WRITE_CYCLES)) [
      | inl soon ↦ rw (not_over w.began (s.cycle + n) soon) (on-tells n s w ws t runs is soon)
      | inr past ↦ rw (over w.began (s.cycle + n) past) (over-tells n s w ws t runs past)
    ]

done-tells : (operation : Operation) (s : EepromState) (ws : List Writing) → Tells s ws →
    Tells (done operation s) (if starts_by operation s then beginning s ∷ ws else ws)
done-tells (Write at v) s ws t = write-tells (at == EECR) at v s ws t
done-tells (WriteBit bit set) s ws t = control-tells s (bit_control s bit set) ws t
done-tells (Pass cycles) s ws t = pass-tells cycles s.writing s ws refl t

reset-tells : Tells reset_eeprom []
unfolding filled
reset-tells = record {
  len = length-replicate {A = ℕ} 1024 255;
  holds = λ at within. get_or-replicate 1024 at 255 _ within;
  running = λ now order. refl;
}

told : (operations : List Operation) → Tells (after operations) (begun operations)
told [] = reset-tells
told (operation ∷ earlier) = done-tells operation (after earlier) (begun earlier) (told earlier)

-- so each cell is the last complete write of it
pub cells-are-writes : (operations : List Operation) (at : ℕ) → at < 1024 →
    slice_index (after operations).cells at ≡ cell_byte (complete (after operations).cycle (begun operations)) at
cells-are-writes operations at within = (told operations).holds at within

-- and EEDR is, after a reading
reads-by : (b z r : Bool) (s : EepromState) (c : Control) → b ≡ false → r ≡ true →
    (left b z r s c).eedr ≡ slice_index s.cells (address s)
reads-by true z r s c idle reads = absurd (false≢true (sym idle))
reads-by false z true s c idle reads = refl
reads-by false z false s c idle reads = absurd (false≢true reads)

pub reads-last-write : (s : EepromState) (c : Control) → begins s c ≡ false → c.reads ≡ true → is_writing s ≡ false →
    (control_written s c).eedr ≡ slice_index s.cells (address s)
reads-last-write s c idle reads free =
    reads-by (begins s c) (c.mode == 0) (c.reads && not (is_writing s)) s c idle (rw (reads, free) refl)
