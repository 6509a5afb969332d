use Rattle.std.proofs.Common.{◌≡◌, rules}
use Rattle.avr_core.specs.Ask.{Plays}
use Rattle.avr_core.specs.Meaning.{meaning}
use Rattle.avr_space.proofs.Through.{plays-through, plays-weaken, plays-keep}
use Rattle.avr_core.proofs.Trees.{plays-all}
use Rattle.avr_space.proofs.DeviceCalls.{through-cycles}
use Rattle.avr_space.specs.Devices.{device, handled}
use Rattle.avr_space.specs.Through.{through}
use Rattle.avr_space.proofs.core_bus.run_instruction.Goals as goal

pub returns-clause-plays : goal.returns-clause-plays
returns-clause-plays g c =
    let devices_name = plays-keep (λ d. d.devices.ghost_name) _ (λ s k a t it. it.1) (meaning c.args.code.now c.args.core.now) _ _ _ c.run.ensures.meaning in
    let peer_name = plays-keep (λ d. d.peer.ghost_name) _ (λ s k a t it. it.2) (meaning c.args.code.now c.args.core.now) _ _ _ c.run.ensures.meaning in
    let plain = plays-weaken _ (λ s k a t. Plays g.B.BusPeer.did s.peer.now (device k s.devices.now) (handled a t.devices.now) t.peer.now) (λ s k a t it. it.0) (meaning c.args.code.now c.args.core.now) _ _ _ c.run.ensures.meaning in
    let it = plays-through g.B.BusPeer.did (λ d. d.devices.now) (λ d. d.peer.now) (meaning c.args.code.now c.args.core.now) _ _ _ plain in search (rules, it, devices_name, peer_name)

pub returns-clause-cycles : goal.returns-clause-cycles
returns-clause-cycles g c =
    let devices_name = plays-keep (λ d. d.devices.ghost_name) _ (λ s k a t it. it.1) (meaning c.args.code.now c.args.core.now) _ _ _ c.run.ensures.meaning in
    let peer_name = plays-keep (λ d. d.peer.ghost_name) _ (λ s k a t it. it.2) (meaning c.args.code.now c.args.core.now) _ _ _ c.run.ensures.meaning in
    let plain = plays-weaken _ (λ s k a t. Plays g.B.BusPeer.did s.peer.now (device k s.devices.now) (handled a t.devices.now) t.peer.now) (λ s k a t it. it.0) (meaning c.args.code.now c.args.core.now) _ _ _ c.run.ensures.meaning in
    let it = plays-through g.B.BusPeer.did (λ d. d.devices.now) (λ d. d.peer.now) (meaning c.args.code.now c.args.core.now) _ _ _ plain in
    let kept = plays-all (λ h. h.devices.cycles ≡ c.args.devices.now.cycles) g.B.BusPeer.did (through (meaning c.args.code.now c.args.core.now) c.args.devices.now) _ _ _ (through-cycles (meaning c.args.code.now c.args.core.now) c.args.devices.now) it in search (rules, kept, devices_name, peer_name)
