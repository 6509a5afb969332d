-- Which flags rise.
use Rattle.std.proofs.Common.{◌≡◌, ℕ, ◌<◌, Bool, true, false, Option, Some, None, refl, ap, arith, sym, ◌∙◌}
use Rattle.std.specs.Prelude.{◌&&◌, ◌||◌, not, ◌^◌, if◌then◌else◌}
use mathlib.Core.Bool.{beq}
use Rattle.avr_sheet.specs.BitNames.{PD2, PD3}
use Rattle.avr_sheet.specs.Bits.{is_set, differ}
use Rattle.avr_ports.specs.declared.external.External.{External}
use Rattle.avr_ports.specs.declared.external.Sense.{Sense}
use Rattle.avr_ports.specs.declared.external.Sense.TheVariants.{LowLevel, AnyChange, FallingEdge, RisingEdge}
use Rattle.avr_ports.specs.declared.port.Port.{Port}
use Rattle.avr_ports.specs.declared.port.PortName.{PortName}
use Rattle.avr_ports.specs.declared.port.PortName.TheVariants.{B, C, D}
use Rattle.avr_ports.specs.declared.register.Register.{Register}
use Rattle.avr_ports.specs.declared.register.Register.TheVariants.{Pin, Ddr, ChangeMask, ChangeFlags, ChangeControl, ExternalFlags, ExternalMask, ExternalControl}
use Rattle.avr_ports.specs.declared.register.Register.TheVariants as registers
use Rattle.avr_ports.specs.Bits.{any_bit}
use Rattle.avr_ports.specs.Levels.{level, is_pin_changed, int0_sense, int1_sense, with_edges}
use Rattle.avr_ports.specs.Ports.{PortsState, port_of, with_port}
use Rattle.avr_ports.specs.Registers.{register_at, io_register}
use Rattle.avr_ports.specs.Sense.{is_edge}
use Rattle.avr_ports.specs.Writes.{register_value, driven, written_register, written_register_bit, written_at, written_bit_at, with_change_flags_cleared, with_external_flags_cleared}
use Rattle.avr_ports.specs.Laws.{rises, RisesAtEdges, FlagsRiseAtEdges, StillPinsRaiseNothing}

differ-same : (a : Bool) → differ a a ≡ false
differ-same true = refl
differ-same false = refl

and-false : (a b : Bool) → b ≡ false → (a && b) ≡ false
and-false true b is = is
and-false false b is = refl

or-false : (a : Bool) → (a || false) ≡ a
or-false true = refl
or-false false = refl

-- a level that stays is no edge
edge-same : (sense : Sense) (was now : Bool) → now ≡ was → is_edge sense was now ≡ false
edge-same LowLevel was now is = refl
edge-same AnyChange was now is = ap (differ was) is ∙ differ-same was
edge-same FallingEdge true now is = ap not is
edge-same FallingEdge false now is = refl
edge-same RisingEdge true now is = refl
edge-same RisingEdge false now is = is

-- levels that stay are no change
changes-none : (mask was now : ℕ → Bool) → ((k : ℕ) → now k ≡ was k) → any_bit (λ k. mask k && differ (was k) (now k)) ≡ false
unfolding any_bit
changes-none mask was now same =
    let at : (k : ℕ) → (mask k && differ (was k) (now k)) ≡ false = λ k. and-false (mask k) (differ (was k) (now k)) (ap (differ (was k)) (same k) ∙ differ-same (was k)) in
    rw (at 0, at 1, at 2, at 3, at 4, at 5, at 6, at 7) refl

rises-or : (f e : Bool) → rises f (f || e) ≡ (not f && e)
rises-or true e = refl
rises-or false e = refl

rises-and : (f e : Bool) → rises f (f && e) ≡ false
rises-and true e = refl
rises-and false e = refl

rises-same : (f : Bool) → rises f f ≡ false
rises-same true = refl
rises-same false = refl

-- raising flags leaves the levels as they are
level-kept : (was now : PortsState) (name : PortName) (k : ℕ) → level (with_edges was now) name k ≡ level now name k
unfolding level with_edges
level-kept was now B k = refl
level-kept was now C k = refl
level-kept was now D k = refl

-- the same flags before any rise
pub record SameFlags (s t : PortsState) : Type 0 where
  pub int0 : t.external.int0_flag ≡ s.external.int0_flag
  pub int1 : t.external.int1_flag ≡ s.external.int1_flag
  pub change : (name : PortName) → (port_of t name).changed ≡ (port_of s name).changed

change-rises : (s t : PortsState) → SameFlags s t → (name : PortName) → rises (port_of s name).changed (port_of (with_edges s t) name).changed
    ≡ (not (port_of s name).changed && any_bit (λ k. is_set (port_of (with_edges s t) name).pcmsk k && differ (level s name k) (level (with_edges s t) name k)))
unfolding with_edges is_pin_changed level
change-rises s t same B = ap (λ (f : Bool). rises s.b.changed (f || is_pin_changed s t B)) (same.change B) ∙ rises-or s.b.changed (is_pin_changed s t B)
change-rises s t same C = ap (λ (f : Bool). rises s.c.changed (f || is_pin_changed s t C)) (same.change C) ∙ rises-or s.c.changed (is_pin_changed s t C)
change-rises s t same D = ap (λ (f : Bool). rises s.d.changed (f || is_pin_changed s t D)) (same.change D) ∙ rises-or s.d.changed (is_pin_changed s t D)

-- flags rise as `with_edges` has them
edges-rise : (s t : PortsState) → SameFlags s t → RisesAtEdges s (with_edges s t)
unfolding with_edges level
edges-rise s t same =
    let e0 : Bool = is_edge (int0_sense t) (level s D PD2) (level t D PD2) in
    let e1 : Bool = is_edge (int1_sense t) (level s D PD3) (level t D PD3) in
    record {
      int0 = ap (λ (f : Bool). rises s.external.int0_flag (f || e0)) same.int0 ∙ rises-or s.external.int0_flag e0;
      int1 = ap (λ (f : Bool). rises s.external.int1_flag (f || e1)) same.int1 ∙ rises-or s.external.int1_flag e1;
      change = change-rises s t same;
    }

-- where no level changes and no flag rises
pub record IsStill (s t : PortsState) : Type 0 where
  pub levels : (name : PortName) (k : ℕ) → level t name k ≡ level s name k
  pub int0 : rises s.external.int0_flag t.external.int0_flag ≡ false
  pub int1 : rises s.external.int1_flag t.external.int1_flag ≡ false
  pub change : (name : PortName) → rises (port_of s name).changed (port_of t name).changed ≡ false

still-rises : (s t : PortsState) → IsStill s t → RisesAtEdges s t
still-rises s t still = record {
  int0 = still.int0 ∙ sym (and-false (not s.external.int0_flag) _ (edge-same _ (level s D PD2) (level t D PD2) (still.levels D PD2)));
  int1 = still.int1 ∙ sym (and-false (not s.external.int1_flag) _ (edge-same _ (level s D PD3) (level t D PD3) (still.levels D PD3)));
  change = λ name. still.change name ∙ sym (and-false (not (port_of s name).changed) _
      (changes-none (is_set (port_of t name).pcmsk) (level s name) (level t name) (still.levels name)));
}

still-same : (s : PortsState) → IsStill s s
still-same s = record { levels = λ name k. refl; int0 = rises-same s.external.int0_flag; int1 = rises-same s.external.int1_flag; change = λ name. rises-same (port_of s name).changed }

-- a port whose registers change keeps the flags
pub change-kept : (s : PortsState) (name : PortName) (p : Port) → p.changed ≡ (port_of s name).changed
    → (other : PortName) → (port_of (with_port s name p) other).changed ≡ (port_of s other).changed
change-kept s B p is B = is
change-kept s B p is C = refl
change-kept s B p is D = refl
change-kept s C p is B = refl
change-kept s C p is C = is
change-kept s C p is D = refl
change-kept s D p is B = refl
change-kept s D p is C = refl
change-kept s D p is D = is

pub int0-kept : (s : PortsState) (name : PortName) (p : Port) → (with_port s name p).external.int0_flag ≡ s.external.int0_flag
int0-kept s B p = refl
int0-kept s C p = refl
int0-kept s D p = refl

pub int1-kept : (s : PortsState) (name : PortName) (p : Port) → (with_port s name p).external.int1_flag ≡ s.external.int1_flag
int1-kept s B p = refl
int1-kept s C p = refl
int1-kept s D p = refl

driven-rises : (s : PortsState) (name : PortName) (p : Port) → p.changed ≡ (port_of s name).changed → RisesAtEdges s (driven s name p)
driven-rises s name p is =
    edges-rise s (with_port s name p) (record { int0 = int0-kept s name p; int1 = int1-kept s name p; change = change-kept s name p is })

-- another mask changes no level
mask-level : (s : PortsState) (name : PortName) (v : ℕ) (other : PortName) (k : ℕ)
    → level (with_port s name (record (port_of s name) { pcmsk = v })) other k ≡ level s other k
unfolding level
mask-level s B v B k = refl
mask-level s B v C k = refl
mask-level s B v D k = refl
mask-level s C v B k = refl
mask-level s C v C k = refl
mask-level s C v D k = refl
mask-level s D v B k = refl
mask-level s D v C k = refl
mask-level s D v D k = refl

same-change : (f g : Bool) → g ≡ f → rises f g ≡ false
same-change f g is = ap (rises f) is ∙ rises-same f

mask-still : (s : PortsState) (name : PortName) (v : ℕ) → IsStill s (with_port s name (record (port_of s name) { pcmsk = v }))
mask-still s name v =
    let p : Port = record (port_of s name) { pcmsk = v } in record {
      levels = mask-level s name v;
      int0 = same-change s.external.int0_flag _ (int0-kept s name p);
      int1 = same-change s.external.int1_flag _ (int1-kept s name p);
      change = λ other. same-change (port_of s other).changed _ (change-kept s name p refl other);
    }

-- other interrupt registers and flags change no level
rest-level : (s : PortsState) (control : ℕ) (e : External) (name : PortName) (k : ℕ) → level (record s { pcicr = control; external = e }) name k ≡ level s name k
unfolding level
rest-level s control e B k = refl
rest-level s control e C k = refl
rest-level s control e D k = refl

same-changes : (s : PortsState) (control : ℕ) (e : External) (name : PortName)
    → rises (port_of s name).changed (port_of (record s { pcicr = control; external = e }) name).changed ≡ false
same-changes s control e B = rises-same s.b.changed
same-changes s control e C = rises-same s.c.changed
same-changes s control e D = rises-same s.d.changed

cleared-level : (s : PortsState) (v : ℕ) (name : PortName) (k : ℕ) → level (with_change_flags_cleared s v) name k ≡ level s name k
unfolding level
cleared-level s v B k = refl
cleared-level s v C k = refl
cleared-level s v D k = refl

cleared-change : (s : PortsState) (v : ℕ) (name : PortName) → rises (port_of s name).changed (port_of (with_change_flags_cleared s v) name).changed ≡ false
cleared-change s v B = rises-and s.b.changed _
cleared-change s v C = rises-and s.c.changed _
cleared-change s v D = rises-and s.d.changed _

cleared-still : (s : PortsState) (v : ℕ) → IsStill s (with_change_flags_cleared s v)
cleared-still s v = record {
  levels = cleared-level s v;
  int0 = rises-same s.external.int0_flag;
  int1 = rises-same s.external.int1_flag;
  change = cleared-change s v;
}

rest-still : (s : PortsState) (control : ℕ) (e : External) → rises s.external.int0_flag e.int0_flag ≡ false → rises s.external.int1_flag e.int1_flag ≡ false
    → IsStill s (record s { pcicr = control; external = e })
rest-still s control e int0 int1 = record { levels = rest-level s control e; int0 = int0; int1 = int1; change = same-changes s control e }

external-cleared-still : (s : PortsState) (v : ℕ) → IsStill s (with_external_flags_cleared s v)
external-cleared-still s v = rest-still s s.pcicr _ (rises-and s.external.int0_flag _) (rises-and s.external.int1_flag _)

-- a write of a register
register-rises : (s : PortsState) (r : Register) (v : ℕ) → RisesAtEdges s (written_register s r v)
register-rises s (Pin name) v = driven-rises s name _ refl
register-rises s (Ddr name) v = driven-rises s name _ refl
register-rises s (registers.Port name) v = driven-rises s name _ refl
register-rises s (ChangeMask name) v = still-rises s _ (mask-still s name v)
register-rises s ChangeFlags v = still-rises s _ (cleared-still s v)
register-rises s ChangeControl v = still-rises s _ (rest-still s v s.external (rises-same s.external.int0_flag) (rises-same s.external.int1_flag))
register-rises s ExternalFlags v = still-rises s _ (external-cleared-still s v)
register-rises s ExternalMask v =
    still-rises s _ (rest-still s s.pcicr (record s.external { eimsk = v }) (rises-same s.external.int0_flag) (rises-same s.external.int1_flag))
register-rises s ExternalControl v =
    still-rises s _ (rest-still s s.pcicr (record s.external { eicra = v }) (rises-same s.external.int0_flag) (rises-same s.external.int1_flag))

either-way : (s x y : PortsState) (set : Bool) → RisesAtEdges s x → RisesAtEdges s y → RisesAtEdges s (if set then x else y)
either-way s x y true when_set when_clear = when_set
either-way s x y false when_set when_clear = when_clear

-- a write of one bit of a register
bit-rises : (s : PortsState) (r : Register) (k : ℕ) (set : Bool) → RisesAtEdges s (written_register_bit s r k set)
bit-rises s (Pin name) k set = either-way s _ s set (driven-rises s name _ refl) (still-rises s s (still-same s))
bit-rises s (Ddr name) k set = register-rises s (Ddr name) _
bit-rises s (registers.Port name) k set = register-rises s (registers.Port name) _
bit-rises s (ChangeMask name) k set = register-rises s (ChangeMask name) _
bit-rises s ChangeFlags k set = either-way s _ s set (still-rises s _ (cleared-still s (2 ^ k))) (still-rises s s (still-same s))
bit-rises s ChangeControl k set = register-rises s ChangeControl _
bit-rises s ExternalFlags k set = either-way s _ s set (still-rises s _ (external-cleared-still s (2 ^ k))) (still-rises s s (still-same s))
bit-rises s ExternalMask k set = register-rises s ExternalMask _
bit-rises s ExternalControl k set = register-rises s ExternalControl _

write-rises : (s : PortsState) (r : Option Register) (v : ℕ) → RisesAtEdges s (written_at s r v)
write-rises s None v = still-rises s s (still-same s)
write-rises s (Some r) v = register-rises s r v

write_bit-rises : (s : PortsState) (r : Option Register) (k : ℕ) (set : Bool) → RisesAtEdges s (written_bit_at s r k set)
write_bit-rises s None k set = still-rises s s (still-same s)
write_bit-rises s (Some r) k set = bit-rises s r k set

line-change : (s : PortsState) (high : Bool) (name : PortName) → (port_of (record s { int_high = high }) name).changed ≡ (port_of s name).changed
line-change s high B = refl
line-change s high C = refl
line-change s high D = refl

pub flags-rise_at_edges : FlagsRiseAtEdges
flags-rise_at_edges = record {
  write = λ s addr v. write-rises s (register_at addr) v;
  write_bit = λ s io k set. write_bit-rises s (io_register io) k set;
  line = λ s high. edges-rise s (record s { int_high = high }) (record { int0 = refl; int1 = refl; change = line-change s high });
}

pub still_pins-raise_nothing : StillPinsRaiseNothing
still_pins-raise_nothing before after rises_so same = (
  (λ name. rises_so.change name ∙ and-false (not (port_of before name).changed) _
      (changes-none (is_set (port_of after name).pcmsk) (level before name) (level after name) (same name))),
  rises_so.int0 ∙ and-false (not before.external.int0_flag) _ (edge-same _ (level before D PD2) (level after D PD2) (same D PD2)),
  rises_so.int1 ∙ and-false (not before.external.int1_flag) _ (edge-same _ (level before D PD3) (level after D PD3) (same D PD3)),
)

with-change_none : (s : PortsState) (name : PortName) → ((port_of s name).changed || is_pin_changed s s name) ≡ (port_of s name).changed
unfolding is_pin_changed
with-change_none s name =
    ap (λ (b : Bool). (port_of s name).changed || b) (changes-none (is_set (port_of s name).pcmsk) (level s name) (level s name) (λ k. refl)) ∙ or-false (port_of s name).changed

-- raising flags where nothing has changed leaves all as it is
pub edges-none : (s : PortsState) → s ≡ with_edges s s
unfolding with_edges
edges-none s =
    sym (rw (
      with-change_none s B,
      with-change_none s C,
      with-change_none s D,
      edge-same (int0_sense s) (level s D PD2) (level s D PD2) refl,
      edge-same (int1_sense s) (level s D PD3) (level s D PD3) refl,
      or-false s.external.int0_flag,
      or-false s.external.int1_flag,
    ) refl)

same-of : (a b : Bool) → not (beq a b) ≡ false → a ≡ b
same-of true true is = refl
same-of true false is = is
same-of false true is = sym is
same-of false false is = refl

-- the line goes to the level that it has
pub line-stays : (s : PortsState) (high was : Bool) → not (beq high was) ≡ false → was ≡ s.int_high → s ≡ with_edges s (record s { int_high = high })
line-stays s high was stays is =
    edges-none s ∙ ap (λ (b : Bool). with_edges s (record s { int_high = b })) (sym (same-of high was stays ∙ is))
