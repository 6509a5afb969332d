-- What a write of one bit leaves as it was.
use Rattle.std.proofs.Common.{◌≡◌, ◌≢◌, ◌⊎◌, ℕ, ◌*◌, ◌/◌, ◌%◌, ◌+◌, ◌<◌, Bool, true, false, Option, Some, None, refl, ap, arith, sym, ◌∙◌, subst, inl, inr}
use Rattle.std.specs.Prelude.{◌&&◌, ◌||◌, not, ◌^◌, ◌==◌, if◌then◌else◌}
use Rattle.std.proofs.lemmas.Bool.{false≢true}
use Rattle.std.proofs.lemmas.Bool.Decides.{eqb_tells}
use Rattle.avr_sheet.specs.BitNames.{INTF0, INTF1, PCIF0, PCIF1, PCIF2}
use Rattle.avr_sheet.specs.Bits.{is_set, with_bit}
use Rattle.avr_sheet.proofs.BitTables.{one_bit_changes}
use Rattle.avr_sheet.proofs.Table.{table, same_at}
use Rattle.avr_ports.specs.declared.external.External.{External}
use Rattle.avr_ports.specs.declared.port.Port.{Port}
use Rattle.avr_ports.specs.declared.port.PortName.{PortName}
use Rattle.avr_ports.specs.declared.port.PortName.TheVariants.{B, C, D}
use Rattle.avr_ports.specs.declared.register.Register.{Register}
use Rattle.avr_ports.specs.declared.register.Register.TheVariants.{Pin, Ddr, ChangeMask, ChangeFlags, ChangeControl, ExternalFlags, ExternalMask, ExternalControl}
use Rattle.avr_ports.specs.declared.register.Register.TheVariants as registers
use Rattle.avr_ports.specs.Levels.{with_edges}
use Rattle.avr_ports.specs.Ports.{PortsState, port_of, with_port}
use Rattle.avr_ports.specs.Registers.{io_register}
use Rattle.avr_ports.specs.Writes.{driven, written_register_bit, written_bit_at, with_change_flags_cleared, with_external_flags_cleared}
use Rattle.avr_ports.specs.Laws.{IsHeld, stored, changed_by, change_flag, OneBitAlone, OtherFlagsStay}
use Rattle.avr_ports.proofs.Edges.{change-kept, int0-kept, int1-kept}

unlike-by : (j k : ℕ) → (((j == k) ≡ true) × (j ≡ k)) ⊎ (((j == k) ≡ false) × (j ≢ k)) → j ≢ k → (j == k) ≡ false
unlike-by j k (inl same) apart = absurd (apart same.1)
unlike-by j k (inr other) apart = other.0

unlike : (j k : ℕ) → j ≢ k → (j == k) ≡ false
unlike j k apart = unlike-by j k (eqb_tells j k) apart

-- the stored registers of a port
record Plain : Type 0 where
  ddr : ℕ
  port : ℕ
  pcmsk : ℕ

plain : Port → Plain
plain p = record { ddr = p.ddr; port = p.port; pcmsk = p.pcmsk }

-- One port's stored registers become those of another, and all else stays.
record Sets (s t : PortsState) (name : PortName) (p : Port) : Type 0 where
  at : (other : PortName) → ((name ≡ other) × (plain (port_of t other) ≡ plain p)) ⊎ (plain (port_of t other) ≡ plain (port_of s other))
  pcicr : t.pcicr ≡ s.pcicr
  eimsk : t.external.eimsk ≡ s.external.eimsk
  eicra : t.external.eicra ≡ s.external.eicra

driven-at : (s : PortsState) (name : PortName) (p : Port) (other : PortName)
    → ((name ≡ other) × (plain (port_of (driven s name p) other) ≡ plain p)) ⊎ (plain (port_of (driven s name p) other) ≡ plain (port_of s other))
unfolding with_edges plain
driven-at s B p B = inl (refl, refl)
driven-at s B p C = inr refl
driven-at s B p D = inr refl
driven-at s C p B = inr refl
driven-at s C p C = inl (refl, refl)
driven-at s C p D = inr refl
driven-at s D p B = inr refl
driven-at s D p C = inr refl
driven-at s D p D = inl (refl, refl)

driven-sets : (s : PortsState) (name : PortName) (p : Port) → Sets s (driven s name p) name p
unfolding with_edges
driven-sets s B p = record { at = driven-at s B p; pcicr = refl; eimsk = refl; eicra = refl }
driven-sets s C p = record { at = driven-at s C p; pcicr = refl; eimsk = refl; eicra = refl }
driven-sets s D p = record { at = driven-at s D p; pcicr = refl; eimsk = refl; eicra = refl }

put-at : (s : PortsState) (name : PortName) (p : Port) (other : PortName)
    → ((name ≡ other) × (plain (port_of (with_port s name p) other) ≡ plain p)) ⊎ (plain (port_of (with_port s name p) other) ≡ plain (port_of s other))
unfolding plain
put-at s B p B = inl (refl, refl)
put-at s B p C = inr refl
put-at s B p D = inr refl
put-at s C p B = inr refl
put-at s C p C = inl (refl, refl)
put-at s C p D = inr refl
put-at s D p B = inr refl
put-at s D p C = inr refl
put-at s D p D = inl (refl, refl)

put-sets : (s : PortsState) (name : PortName) (p : Port) → Sets s (with_port s name p) name p
put-sets s B p = record { at = put-at s B p; pcicr = refl; eimsk = refl; eicra = refl }
put-sets s C p = record { at = put-at s C p; pcicr = refl; eimsk = refl; eicra = refl }
put-sets s D p = record { at = put-at s D p; pcicr = refl; eimsk = refl; eicra = refl }

-- A register is as it was, or it is the one that is written, with bit k as given.
abbrev Alone : PortsState → PortsState → ℕ → Register → Register → Type 0
Alone s t k written other =
    (stored t other ≡ stored s other) ⊎ ((written ≡ other) × ((b : Bool) × (stored t other ≡ with_bit (stored s other) k b)))

-- a field that the new registers have as the old ones
field-stays : (s t : PortsState) (name : PortName) (p : Port) → Sets s t name p → (get : Plain → ℕ) → get (plain p) ≡ get (plain (port_of s name))
    → (other : PortName) → get (plain (port_of t other)) ≡ get (plain (port_of s other))
field-stays s t name p sets get same other =
    elim (sets.at other) [
      | inl here ↦ ap get here.1 ∙ same ∙ ap (λ (n : PortName). get (plain (port_of s n))) here.0
      | inr there ↦ ap get there
    ]

-- a field of which bit k is given
field-changes : (s t : PortsState) (name : PortName) (p : Port) → Sets s t name p → (get : Plain → ℕ) (k : ℕ) (b : Bool)
    → get (plain p) ≡ with_bit (get (plain (port_of s name))) k b
    → (other : PortName) → (get (plain (port_of t other)) ≡ get (plain (port_of s other)))
    ⊎ ((name ≡ other) × (get (plain (port_of t other)) ≡ with_bit (get (plain (port_of s other))) k b))
field-changes s t name p sets get k b is other =
    elim (sets.at other) [
      | inl here ↦ inr (here.0, ap get here.1 ∙ is ∙ ap (λ (n : PortName). with_bit (get (plain (port_of s n))) k b) here.0)
      | inr there ↦ inl (ap get there)
    ]

get_ddr : Plain → ℕ
get_ddr p = p.ddr

get_port : Plain → ℕ
get_port p = p.port

get_pcmsk : Plain → ℕ
get_pcmsk p = p.pcmsk

named : (s t : PortsState) (k : ℕ) (b : Bool) (name other : PortName) (make : PortName → Register) (x y : ℕ)
    → stored t (make other) ≡ x → stored s (make other) ≡ y → (x ≡ y) ⊎ ((name ≡ other) × (x ≡ with_bit y k b)) → Alone s t k (make name) (make other)
named s t k b name other make x y is was (inl stays) = inl (is ∙ stays ∙ sym was)
named s t k b name other make x y is was (inr here) = inr (ap make here.0, (b, is ∙ here.1 ∙ ap (λ (v : ℕ). with_bit v k b) (sym was)))

ddr-alone : (s t : PortsState) (name : PortName) (k : ℕ) (b : Bool) → Sets s t name (record (port_of s name) { ddr = with_bit (port_of s name).ddr k b })
    → (other : Register) → Alone s t k (Ddr name) other
unfolding plain get_ddr get_port get_pcmsk
ddr-alone s t name k b sets (Pin other) = inl refl
ddr-alone s t name k b sets (Ddr other) =
    named s t k b name other (λ n. Ddr n) (port_of t other).ddr (port_of s other).ddr refl refl (field-changes s t name _ sets get_ddr k b refl other)
ddr-alone s t name k b sets (registers.Port other) = inl (field-stays s t name _ sets get_port refl other)
ddr-alone s t name k b sets (ChangeMask other) = inl (field-stays s t name _ sets get_pcmsk refl other)
ddr-alone s t name k b sets ChangeFlags = inl refl
ddr-alone s t name k b sets ChangeControl = inl sets.pcicr
ddr-alone s t name k b sets ExternalFlags = inl refl
ddr-alone s t name k b sets ExternalMask = inl sets.eimsk
ddr-alone s t name k b sets ExternalControl = inl sets.eicra

port-alone : (s t : PortsState) (name : PortName) (k : ℕ) (b : Bool) → Sets s t name (record (port_of s name) { port = with_bit (port_of s name).port k b })
    → (other : Register) → Alone s t k (registers.Port name) other
unfolding plain get_ddr get_port get_pcmsk
port-alone s t name k b sets (Pin other) = inl refl
port-alone s t name k b sets (Ddr other) = inl (field-stays s t name _ sets get_ddr refl other)
port-alone s t name k b sets (registers.Port other) =
    named s t k b name other (λ n. registers.Port n) (port_of t other).port (port_of s other).port refl refl (field-changes s t name _ sets get_port k b refl other)
port-alone s t name k b sets (ChangeMask other) = inl (field-stays s t name _ sets get_pcmsk refl other)
port-alone s t name k b sets ChangeFlags = inl refl
port-alone s t name k b sets ChangeControl = inl sets.pcicr
port-alone s t name k b sets ExternalFlags = inl refl
port-alone s t name k b sets ExternalMask = inl sets.eimsk
port-alone s t name k b sets ExternalControl = inl sets.eicra

mask-alone : (s t : PortsState) (name : PortName) (k : ℕ) (b : Bool) → Sets s t name (record (port_of s name) { pcmsk = with_bit (port_of s name).pcmsk k b })
    → (other : Register) → Alone s t k (ChangeMask name) other
unfolding plain get_ddr get_port get_pcmsk
mask-alone s t name k b sets (Pin other) = inl refl
mask-alone s t name k b sets (Ddr other) = inl (field-stays s t name _ sets get_ddr refl other)
mask-alone s t name k b sets (registers.Port other) = inl (field-stays s t name _ sets get_port refl other)
mask-alone s t name k b sets (ChangeMask other) =
    named s t k b name other (λ n. ChangeMask n) (port_of t other).pcmsk (port_of s other).pcmsk refl refl (field-changes s t name _ sets get_pcmsk k b refl other)
mask-alone s t name k b sets ChangeFlags = inl refl
mask-alone s t name k b sets ChangeControl = inl sets.pcicr
mask-alone s t name k b sets ExternalFlags = inl refl
mask-alone s t name k b sets ExternalMask = inl sets.eimsk
mask-alone s t name k b sets ExternalControl = inl sets.eicra

-- other interrupt registers change no port
rest-port : (s : PortsState) (control : ℕ) (e : External) (name : PortName) → port_of (record s { pcicr = control; external = e }) name ≡ port_of s name
rest-port s control e B = refl
rest-port s control e C = refl
rest-port s control e D = refl

-- where one of three registers of no port becomes another byte
rest-alone : (s : PortsState) (control : ℕ) (e : External) (k : ℕ) (written : Register)
    → Alone s (record s { pcicr = control; external = e }) k written ChangeControl
    → Alone s (record s { pcicr = control; external = e }) k written ExternalMask
    → Alone s (record s { pcicr = control; external = e }) k written ExternalControl
    → (other : Register) → Alone s (record s { pcicr = control; external = e }) k written other
rest-alone s control e k written x y z (Pin other) = inl refl
rest-alone s control e k written x y z (Ddr other) = inl (ap (λ (p : Port). p.ddr) (rest-port s control e other))
rest-alone s control e k written x y z (registers.Port other) = inl (ap (λ (p : Port). p.port) (rest-port s control e other))
rest-alone s control e k written x y z (ChangeMask other) = inl (ap (λ (p : Port). p.pcmsk) (rest-port s control e other))
rest-alone s control e k written x y z ChangeFlags = inl refl
rest-alone s control e k written x y z ChangeControl = x
rest-alone s control e k written x y z ExternalFlags = inl refl
rest-alone s control e k written x y z ExternalMask = y
rest-alone s control e k written x y z ExternalControl = z

-- flags of pin changes are cleared
cleared-plain : (s : PortsState) (v : ℕ) (name : PortName) → plain (port_of (with_change_flags_cleared s v) name) ≡ plain (port_of s name)
unfolding plain
cleared-plain s v B = refl
cleared-plain s v C = refl
cleared-plain s v D = refl

cleared-alone : (s : PortsState) (v k : ℕ) (written other : Register) → Alone s (with_change_flags_cleared s v) k written other
unfolding plain
cleared-alone s v k written (Pin other) = inl refl
cleared-alone s v k written (Ddr other) = inl (ap (λ (p : Plain). p.ddr) (cleared-plain s v other))
cleared-alone s v k written (registers.Port other) = inl (ap (λ (p : Plain). p.port) (cleared-plain s v other))
cleared-alone s v k written (ChangeMask other) = inl (ap (λ (p : Plain). p.pcmsk) (cleared-plain s v other))
cleared-alone s v k written ChangeFlags = inl refl
cleared-alone s v k written ChangeControl = inl refl
cleared-alone s v k written ExternalFlags = inl refl
cleared-alone s v k written ExternalMask = inl refl
cleared-alone s v k written ExternalControl = inl refl

either-alone : (s x y : PortsState) (set : Bool) (k : ℕ) (written other : Register) → Alone s x k written other → Alone s y k written other
    → Alone s (if set then x else y) k written other
either-alone s x y true k written other when_set when_clear = when_set
either-alone s x y false k written other when_set when_clear = when_clear

-- a write of one bit of a register
bit-alone : (s : PortsState) (r : Register) (k : ℕ) (set : Bool) (other : Register) → Alone s (written_register_bit s r k set) k (changed_by r) other
bit-alone s (Pin name) k set other =
    either-alone s _ s set k (registers.Port name) other
    (port-alone s _ name k (not (is_set (port_of s name).port k)) (driven-sets s name _) other) (inl refl)
bit-alone s (Ddr name) k set other = ddr-alone s _ name k set (driven-sets s name _) other
bit-alone s (registers.Port name) k set other = port-alone s _ name k set (driven-sets s name _) other
bit-alone s (ChangeMask name) k set other = mask-alone s _ name k set (put-sets s name _) other
bit-alone s ChangeFlags k set other =
    either-alone s _ s set k ChangeFlags other (cleared-alone s (2 ^ k) k ChangeFlags other) (inl refl)
bit-alone s ChangeControl k set other =
    rest-alone s (with_bit s.pcicr k set) s.external k ChangeControl (inr (refl, (set, refl))) (inl refl) (inl refl) other
bit-alone s ExternalFlags k set other =
    either-alone s _ s set k ExternalFlags other
    (rest-alone s s.pcicr (with_external_flags_cleared s (2 ^ k)).external k ExternalFlags (inl refl) (inl refl) (inl refl) other) (inl refl)
bit-alone s ExternalMask k set other =
    rest-alone s s.pcicr (record s.external { eimsk = with_bit s.external.eimsk k set }) k ExternalMask (inl refl) (inr (refl, (set, refl))) (inl refl) other
bit-alone s ExternalControl k set other =
    rest-alone s s.pcicr (record s.external { eicra = with_bit s.external.eicra k set }) k ExternalControl (inl refl) (inl refl) (inr (refl, (set, refl))) other

other-bit : (v k : ℕ) (b : Bool) (j : ℕ) → v < 256 → k < 8 → j < 8 → j ≢ k → is_set (with_bit v k b) j ≡ is_set v j
other-bit v k b j v_in k_in j_in apart =
    (one_bit_changes v k b v_in k_in).bits j j_in ∙ ap (λ (same : Bool). if same then b else is_set v j) (unlike j k apart)

stored-small : (s : PortsState) → IsHeld s → (other : Register) → stored s other < 256
stored-small s held (Pin name) = omega arith
stored-small s held (Ddr name) = held.ddr name
stored-small s held (registers.Port name) = held.port name
stored-small s held (ChangeMask name) = held.pcmsk name
stored-small s held ChangeFlags = omega arith
stored-small s held ChangeControl = held.pcicr
stored-small s held ExternalFlags = omega arith
stored-small s held ExternalMask = held.eimsk
stored-small s held ExternalControl = held.eicra

alone-bit : (s t : PortsState) (k j : ℕ) (written other : Register) → Alone s t k written other → stored s other < 256 → k < 8 → j < 8
    → (written ≡ other → j ≢ k) → is_set (stored t other) j ≡ is_set (stored s other) j
alone-bit s t k j written other (inl same) small k_in j_in apart = ap (λ (v : ℕ). is_set v j) same
alone-bit s t k j written other (inr here) small k_in j_in apart =
    ap (λ (v : ℕ). is_set v j) here.1.1 ∙ other-bit (stored s other) k here.1.0 j small k_in j_in (apart here.0)

alone-at : (s : PortsState) (o : Option Register) (k : ℕ) (set : Bool) → IsHeld s → k < 8 → (other : Register) (j : ℕ) → j < 8
    → ((r : Register) → o ≡ Some r → changed_by r ≡ other → j ≢ k) → is_set (stored (written_bit_at s o k set) other) j ≡ is_set (stored s other) j
alone-at s None k set held k_in other j j_in apart = refl
alone-at s (Some r) k set held k_in other j j_in apart =
    alone-bit s (written_register_bit s r k set) k j (changed_by r) other (bit-alone s r k set other) (stored-small s held other) k_in j_in (apart r refl)

pub one_bit-alone : OneBitAlone
one_bit-alone s io k set held k_in other j j_in apart = alone-at s (io_register io) k set held k_in other j j_in apart

-- the one bit of a mask
mask-bit : (k i : ℕ) → k < 8 → i < 8 → i ≢ k → is_set (2 ^ k) i ≡ false
mask-bit k i k_in i_in apart =
    let at_place = same_at (λ (x : ℕ) w. is_set (2 ^ (w / 8)) (w % 8)) (λ x w. w % 8 == w / 8) 0 0 64 refl (k * 8 + i) (omega arith) (omega arith) in
    let mask : (k * 8 + i) / 8 ≡ k = omega arith in
    let place : (k * 8 + i) % 8 ≡ i = omega arith in
    (rw (mask, place) at at_place) ∙ unlike i k apart

or-kept : (f e : Bool) → f ≡ true → (f || e) ≡ true
or-kept true e is = refl
or-kept false e is = absurd (false≢true is)

and-kept : (f e : Bool) → f ≡ true → e ≡ false → (f && not e) ≡ true
and-kept f e is clear = rw (is, clear) refl

-- flags that stay set: of INT0 and INT1, and of each port
record Keeps (s t : PortsState) : Type 0 where
  int0 : s.external.int0_flag ≡ true → t.external.int0_flag ≡ true
  int1 : s.external.int1_flag ≡ true → t.external.int1_flag ≡ true
  change : (name : PortName) → (port_of s name).changed ≡ true → (port_of t name).changed ≡ true

edges-change : (s t : PortsState) (name : PortName) → (port_of t name).changed ≡ true → (port_of (with_edges s t) name).changed ≡ true
unfolding with_edges
edges-change s t B is = or-kept _ _ is
edges-change s t C is = or-kept _ _ is
edges-change s t D is = or-kept _ _ is

edges-int0 : (s t : PortsState) → t.external.int0_flag ≡ true → (with_edges s t).external.int0_flag ≡ true
unfolding with_edges
edges-int0 s t is = or-kept _ _ is

edges-int1 : (s t : PortsState) → t.external.int1_flag ≡ true → (with_edges s t).external.int1_flag ≡ true
unfolding with_edges
edges-int1 s t is = or-kept _ _ is

put-keeps : (s : PortsState) (name : PortName) (p : Port) → p.changed ≡ (port_of s name).changed → Keeps s (with_port s name p)
put-keeps s name p is = record {
  int0 = λ set. int0-kept s name p ∙ set;
  int1 = λ set. int1-kept s name p ∙ set;
  change = λ other set. change-kept s name p is other ∙ set;
}

driven-keeps : (s : PortsState) (name : PortName) (p : Port) → p.changed ≡ (port_of s name).changed → Keeps s (driven s name p)
driven-keeps s name p is =
    let put = put-keeps s name p is in record {
      int0 = λ set. edges-int0 s (with_port s name p) (put.int0 set);
      int1 = λ set. edges-int1 s (with_port s name p) (put.int1 set);
      change = λ other set. edges-change s (with_port s name p) other (put.change other set);
    }

same-keeps : (s : PortsState) → Keeps s s
same-keeps s = record { int0 = λ set. set; int1 = λ set. set; change = λ name set. set }

rest-keeps : (s : PortsState) (control : ℕ) (e : External) → (s.external.int0_flag ≡ true → e.int0_flag ≡ true) → (s.external.int1_flag ≡ true → e.int1_flag ≡ true)
    → Keeps s (record s { pcicr = control; external = e })
rest-keeps s control e int0 int1 = record {
  int0 = int0;
  int1 = int1;
  change = λ name set. ap (λ (p : Port). p.changed) (rest-port s control e name) ∙ set;
}

cleared-change : (s : PortsState) (k : ℕ) (name : PortName) → k < 8 → change_flag name ≢ k → (port_of s name).changed ≡ true
    → (port_of (with_change_flags_cleared s (2 ^ k)) name).changed ≡ true
cleared-change s k B k_in apart set = and-kept s.b.changed _ set (mask-bit k PCIF0 k_in (omega arith) apart)
cleared-change s k C k_in apart set = and-kept s.c.changed _ set (mask-bit k PCIF1 k_in (omega arith) apart)
cleared-change s k D k_in apart set = and-kept s.d.changed _ set (mask-bit k PCIF2 k_in (omega arith) apart)

-- What a write of bit k of a register keeps of the flags, as the law has it.
record KeepsAt (s t : PortsState) (o : Option Register) (k : ℕ) (set : Bool) : Type 0 where
  int0 : (o ≡ Some ExternalFlags → set ≡ true → INTF0 ≢ k) → s.external.int0_flag ≡ true → t.external.int0_flag ≡ true
  int1 : (o ≡ Some ExternalFlags → set ≡ true → INTF1 ≢ k) → s.external.int1_flag ≡ true → t.external.int1_flag ≡ true
  change : (name : PortName) → (o ≡ Some ChangeFlags → set ≡ true → change_flag name ≢ k) → (port_of s name).changed ≡ true
      → (port_of t name).changed ≡ true

all-kept : (s t : PortsState) (o : Option Register) (k : ℕ) (set : Bool) → Keeps s t → KeepsAt s t o k set
all-kept s t o k set keeps = record {
  int0 = λ apart. keeps.int0;
  int1 = λ apart. keeps.int1;
  change = λ name apart. keeps.change name;
}

flags-kept : (s : PortsState) (o : Option Register) (k : ℕ) (set : Bool) → k < 8 → KeepsAt s (written_bit_at s o k set) o k set
flags-kept s None k set k_in = all-kept s s None k set (same-keeps s)
flags-kept s (Some (Pin name)) k true k_in = all-kept s _ _ k true (driven-keeps s name _ refl)
flags-kept s (Some (Pin name)) k false k_in = all-kept s s _ k false (same-keeps s)
flags-kept s (Some (Ddr name)) k set k_in = all-kept s _ _ k set (driven-keeps s name _ refl)
flags-kept s (Some (registers.Port name)) k set k_in = all-kept s _ _ k set (driven-keeps s name _ refl)
flags-kept s (Some (ChangeMask name)) k set k_in = all-kept s _ _ k set (put-keeps s name _ refl)
flags-kept s (Some ChangeFlags) k true k_in = record {
  int0 = λ apart set. set;
  int1 = λ apart set. set;
  change = λ name apart set. cleared-change s k name k_in (apart refl refl) set;
}
flags-kept s (Some ChangeFlags) k false k_in = all-kept s s _ k false (same-keeps s)
flags-kept s (Some ChangeControl) k set k_in = all-kept s _ _ k set (rest-keeps s _ s.external (λ is. is) (λ is. is))
flags-kept s (Some ExternalFlags) k true k_in = record {
  int0 = λ apart set. and-kept s.external.int0_flag _ set (mask-bit k INTF0 k_in (omega arith) (apart refl refl));
  int1 = λ apart set. and-kept s.external.int1_flag _ set (mask-bit k INTF1 k_in (omega arith) (apart refl refl));
  change = λ name apart set. ap (λ (p : Port). p.changed) (rest-port s s.pcicr (with_external_flags_cleared s (2 ^ k)).external name) ∙ set;
}
flags-kept s (Some ExternalFlags) k false k_in = all-kept s s _ k false (same-keeps s)
flags-kept s (Some ExternalMask) k set k_in =
    all-kept s _ _ k set (rest-keeps s s.pcicr (record s.external { eimsk = with_bit s.external.eimsk k set }) (λ is. is) (λ is. is))
flags-kept s (Some ExternalControl) k set k_in =
    all-kept s _ _ k set (rest-keeps s s.pcicr (record s.external { eicra = with_bit s.external.eicra k set }) (λ is. is) (λ is. is))

pub other_flags-stay : OtherFlagsStay
other_flags-stay s io k set k_in =
    let kept = flags-kept s (io_register io) k set k_in in
    record { int0 = kept.int0; int1 = kept.int1; change = kept.change }
