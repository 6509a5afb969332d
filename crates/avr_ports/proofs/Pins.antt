-- The pins of each port.
use Rattle.std.proofs.Common.{◌≡◌, ℕ, ◌<◌, ◌≤◌, Bool, true, false, refl, ap, arith, sym, ◌∙◌}
use Rattle.std.specs.Prelude.{if◌then◌else◌, bit_and, bit_xor, not, ◌==◌, ◌&&◌}
use Rattle.std.proofs.lemmas.Nat.{and_le_r}
use Rattle.avr_ports.specs.declared.port.Port.{Port}
use Rattle.avr_ports.specs.declared.port.PortName.{PortName}
use Rattle.avr_ports.specs.declared.port.PortName.TheVariants.{B, C, D}
use Rattle.avr_sheet.specs.Bits.{is_set, with_bit, differ}
use Rattle.avr_ports.specs.Ports.{PortsState, port_of}
use Rattle.avr_ports.specs.Levels.{level, pins, is_pin_changed}
use Rattle.avr_ports.proofs.Bytes.{byte-bit, byte-with_bit, byte-same, any_bit-same, nonzero, bit-selected, bits-byte}

-- a choice between two equal values
pub same_arms : (b x : Bool) → (if b then x else x) ≡ x
same_arms true x = refl
same_arms false x = refl

pins-B : (s : PortsState) → s.b.port < 256 → pins s B ≡ s.b.port
unfolding level
pins-B s small =
    byte-same (level s B) (is_set s.b.port) (same_arms _ _) (same_arms _ _) (same_arms _ _) (same_arms _ _) (same_arms _ _) (same_arms _ _) (same_arms _ _) (same_arms _ _)
    ∙ byte-bit s.b.port small

pins-C : (s : PortsState) → s.c.port < 256 → pins s C ≡ s.c.port
unfolding level
pins-C s small =
    byte-same (level s C) (is_set s.c.port) (same_arms _ _) (same_arms _ _) (same_arms _ _) (same_arms _ _) (same_arms _ _) (same_arms _ _) (same_arms _ _) (same_arms _ _)
    ∙ byte-bit s.c.port small

pins-D : (s : PortsState) → s.d.port < 256 → pins s D ≡ with_bit s.d.port 2 (level s D 2)
unfolding level
pins-D s small =
    byte-same (level s D) (λ i. if i == 2 then level s D 2 else is_set s.d.port i) (same_arms _ _) (same_arms _ _) refl (same_arms _ _) (same_arms _ _) (same_arms _ _) (same_arms _ _) (same_arms _ _)
    ∙ byte-with_bit (level s D 2) s.d.port small

-- the pins that differ under the mask, as the code has them
pub changed-pins : (was now : PortsState) (name : PortName) (a b m : ℕ) → a ≡ pins was name → b ≡ pins now name
    → m ≡ (port_of now name).pcmsk → m < 256 → not (bit_and (bit_xor a b) m == 0) ≡ is_pin_changed was now name
unfolding is_pin_changed
changed-pins was now name a b m before after mask small =
    let x = bit_and (bit_xor a b) m in
    let p = bits-byte (level was name) in
    let q = bits-byte (level now name) in
    let at : (k : ℕ) → is_set a k ≡ level was name k → is_set b k ≡ level now name k
    → is_set x k ≡ (is_set (port_of now name).pcmsk k && differ (level was name k) (level now name k)) =
    λ k e f. bit-selected a b m k ∙ rw (e, f, mask) refl in
    nonzero x (let low : x ≤ m = and_le_r (bit_xor a b) m in omega arith)
    ∙ any_bit-same (is_set x) (λ k. is_set (port_of now name).pcmsk k && differ (level was name k) (level now name k))
    (at 0 (rw before p.0) (rw after q.0)) (at 1 (rw before p.1) (rw after q.1)) (at 2 (rw before p.2) (rw after q.2)) (at 3 (rw before p.3) (rw after q.3))
    (at 4 (rw before p.4) (rw after q.4)) (at 5 (rw before p.5) (rw after q.5)) (at 6 (rw before p.6) (rw after q.6)) (at 7 (rw before p.7) (rw after q.7))

-- the same at the port that the code has read
pub port-pins-B : (s : PortsState) (name : PortName) (p : Port) → name ≡ B → p ≡ port_of s name → p.port < 256 → p.port ≡ pins s name
port-pins-B s name p at is small =
    let same : p.port ≡ s.b.port = ap (λ (q : Port). q.port) (is ∙ ap (port_of s) at) in
    same ∙ sym (pins-B s (omega arith)) ∙ ap (pins s) (sym at)

pub port-pins-C : (s : PortsState) (name : PortName) (p : Port) → name ≡ C → p ≡ port_of s name → p.port < 256 → p.port ≡ pins s name
port-pins-C s name p at is small =
    let same : p.port ≡ s.c.port = ap (λ (q : Port). q.port) (is ∙ ap (port_of s) at) in
    same ∙ sym (pins-C s (omega arith)) ∙ ap (pins s) (sym at)

pub port-pins-D : (s : PortsState) (name : PortName) (p : Port) (pd2 : Bool) → name ≡ D → p ≡ port_of s name → pd2 ≡ level s D 2 → p.port < 256
    → with_bit p.port 2 pd2 ≡ pins s name
port-pins-D s name p pd2 at is level_is small =
    let same : p.port ≡ s.d.port = ap (λ (q : Port). q.port) (is ∙ ap (port_of s) at) in
    ap (λ (n : ℕ). with_bit n 2 pd2) same ∙ ap (λ (b : Bool). with_bit s.d.port 2 b) level_is ∙ sym (pins-D s (omega arith)) ∙ ap (pins s) (sym at)
