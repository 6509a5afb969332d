-- Which command in which status has which effect.
use Rattle.std.proofs.Common.{inl, inr, refl}
use Rattle.chip_sheet.specs.declared.socket.Status.{Status}
use Rattle.chip_sheet.specs.declared.socket.Status.TheVariants.{Closed, Init, Listen, SynSent, Established, CloseWait, Udp}
use Rattle.chip_sheet.specs.declared.socket.Cause.{Cause}
use Rattle.chip_sheet.specs.declared.socket.Cause.TheVariants as because
use Rattle.sock_cmd.specs.Effects.{effect_of, Means}

pub means : (why : Cause) (s : Status) → Means (effect_of s why) why s
means because.OpenTcp Closed = refl
means because.OpenTcp s = λ facts. refl
means because.OpenUdp Closed = refl
means because.OpenUdp s = λ facts. refl
means because.Listen Init = (refl, refl)
means because.Listen s = λ facts. refl
means because.Connect Init = (refl, refl)
means because.Connect s = λ facts. refl
means because.Disconnect Established = (refl, inl refl)
means because.Disconnect CloseWait = (refl, inr refl)
means because.Disconnect s = λ facts. refl
means because.Close Closed = refl
means because.Close s = (refl, refl)
means because.Send Established = (refl, refl)
means because.Send CloseWait = (refl, refl)
means because.Send Udp = (refl, refl)
means because.Send s = refl
means because.Receive Closed = refl
means because.Receive Init = refl
means because.Receive Listen = refl
means because.Receive SynSent = refl
means because.Receive s = (refl, refl)
means why s = tt
