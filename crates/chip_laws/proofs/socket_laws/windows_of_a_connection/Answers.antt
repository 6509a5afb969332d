use Rattle.std.proofs.Common.{inl, inr, refl}
use Rattle.chip_sheet.specs.declared.socket.Status.TheVariants.{Established, FinWait, CloseWait, LastAck, Udp}
use Rattle.chip_sheet.proofs.SendLaws.{flight_due}
use Rattle.chip_laws.proofs.Written.{flight_of, unread_of}
use Rattle.chip_laws.proofs.socket_laws.windows_of_a_connection.Goals as goal

pub returns : goal.returns
returns c = record {
  flight = λ starts past n h. elim h [
    | inl a ↦ flight_of starts past n Established refl a
    | inr (inl a) ↦ flight_of starts past n FinWait refl a
    | inr (inr (inl a)) ↦ flight_of starts past n CloseWait refl a
    | inr (inr (inr (inl a))) ↦ flight_of starts past n LastAck refl a
    | inr (inr (inr (inr a))) ↦ flight_of starts past n Udp refl a
  ];
  unread = λ starts past n h. elim h [
    | inl a ↦ unread_of starts past n Established refl a
    | inr (inl a) ↦ unread_of starts past n FinWait refl a
    | inr (inr (inl a)) ↦ unread_of starts past n CloseWait refl a
    | inr (inr (inr (inl a))) ↦ unread_of starts past n LastAck refl a
    | inr (inr (inr (inr a))) ↦ unread_of starts past n Udp refl a
  ];
  due = flight_due;
}
