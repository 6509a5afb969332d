use Rattle.std.proofs.Common.{◌≡◌, ◌++◌, ◌∙◌, ℕ, true, length, length-append, refl, sym, ap, subst}
use Rattle.chip_sheet.specs.declared.event.Addr.{Addr}
use Rattle.chip_sheet.specs.declared.event.ConnId.{ConnId}
use Rattle.chip_sheet.specs.declared.socket.Due.TheVariants as due
use Rattle.chip_sheet.specs.LinkAnswers.{Done, entry_by, may_answer}
use Rattle.link_trait.specs.declared.links.Accepting.{Accepting}
use Rattle.link_trait.specs.declared.links.Accepting.TheVariants as accepts
use Rattle.link_trait.specs.declared.links.Linking.{Linking}
use Rattle.link_trait.specs.declared.links.Linking.TheVariants as links
use Rattle.link_trait.specs.declared.links.Shutting.{Shutting}
use Rattle.link_trait.specs.declared.links.Shutting.TheVariants as shuts
use Rattle.link_trait.specs.Calls.{Read, RecvFrom, accepting, linking, reading, receiving, sending, shutting, writing}
use Rattle.link_trait.specs.Shown.{Counts, Lists, Makes}
use Rattle.chip_shared.proofs.Offers.{send_may, write_may}
use Rattle.chip_shared.proofs.Reading.{away_may, receive_may}
use Rattle.chip_shared.proofs.making.make.Goals as goal

connect_may : (c : ConnId) (to : Addr) (answer : Linking) (offered room : ℕ) → may_answer (due.Connect c to) offered room (linking answer) ≡ true
connect_may c to links.Done offered room = refl
connect_may c to links.NotYet offered room = refl
connect_may c to links.Refused offered room = refl
connect_may c to links.TimedOut offered room = refl
connect_may c to links.Failed offered room = refl

accept_may : (c : ConnId) (port : ℕ) (answer : Accepting) (offered room : ℕ) → may_answer (due.Accept c port) offered room (accepting answer) ≡ true
accept_may c port (accepts.Done from) offered room = refl
accept_may c port accepts.NotYet offered room = refl
accept_may c port accepts.Failed offered room = refl

shut_may : (c : ConnId) (answer : Shutting) (offered room : ℕ) → may_answer (due.Shut c) offered room (shutting answer) ≡ true
shut_may c shuts.Done offered room = refl
shut_may c shuts.Failed offered room = refl

pub returns-in-Drop : goal.returns-in-Drop
returns-in-Drop g c = rw c.in-Drop.is (record {
  answer = Done;
  does = λ room. record { so = c.drop_conn.ensures.effect; counts = c.drop_conn.ensures.counts };
  lists = λ room. c.drop_conn.ensures.lists;
  makes = λ room. c.drop_conn.ensures.makes;
  may = λ room. refl;
  entry = λ n. c.dropped.ensures.entry n (length (c.args.head.now ++ c.args.tail.now)) c.in-Drop.c;
  did = c.dropped.ensures.did;
})

pub returns-in-Connect : goal.returns-in-Connect
returns-in-Connect g c = rw c.in-Connect.is (record {
  answer = linking c.connect.result;
  does = λ room. record { so = c.connect.ensures.effect; counts = c.connect.ensures.counts };
  lists = λ room. c.connect.ensures.lists;
  makes = λ room. c.connect.ensures.makes;
  may = λ room. connect_may c.in-Connect.c c.in-Connect.to c.connect.result (length c.args.head.now) room;
  entry = λ n. c.linked.ensures.entry n (length (c.args.head.now ++ c.args.tail.now)) c.in-Connect.c c.in-Connect.to;
  did = c.linked.ensures.did;
})

pub returns-in-Write : goal.returns-in-Write
returns-in-Write g c = rw c.in-Write.is (record {
  answer = writing c.write.result;
  does = λ room. record { so = c.write.ensures.effect; counts = c.write.ensures.counts };
  lists = λ room. c.write.ensures.lists;
  makes = λ room. c.write.ensures.makes;
  may = λ room. write_may c.in-Write.c c.write.result c.args.head.now (length c.args.head.now) room c.write.ensures.fits refl;
  entry = λ n. c.written.ensures.entry n (length (c.args.head.now ++ c.args.tail.now)) c.in-Write.c;
  did = c.written.ensures.did;
})

pub returns-in-SendTo : goal.returns-in-SendTo
returns-in-SendTo g c = rw c.in-SendTo.is (record {
  answer = sending c.send_to.result;
  does = λ room. record { so = c.send_to.ensures.effect; counts = c.send_to.ensures.counts };
  lists = λ room. c.send_to.ensures.lists;
  makes = λ room. c.send_to.ensures.makes;
  may = λ room. send_may c.in-SendTo.c c.in-SendTo.port c.in-SendTo.to c.send_to.result (length c.args.head.now) room;
  entry = λ n. c.sent.ensures.entry n c.in-SendTo.port c.in-SendTo.c c.in-SendTo.to
      ∙ ap (λ (k : ℕ). entry_by n k (due.SendTo c.in-SendTo.c c.in-SendTo.port c.in-SendTo.to) (sending c.send_to.result)) (sym (length-append c.args.head.now c.args.tail.now));
  did = c.sent.ensures.did;
})

pub returns-in-Shut : goal.returns-in-Shut
returns-in-Shut g c = rw c.in-Shut.is (record {
  answer = shutting c.shut.result;
  does = λ room. record { so = c.shut.ensures.effect; counts = c.shut.ensures.counts };
  lists = λ room. c.shut.ensures.lists;
  makes = λ room. c.shut.ensures.makes;
  may = λ room. shut_may c.in-Shut.c c.shut.result (length c.args.head.now) room;
  entry = λ n. c.shut-in-Shut.ensures.entry n (length (c.args.head.now ++ c.args.tail.now)) c.in-Shut.c;
  did = c.shut-in-Shut.ensures.did;
})

pub returns-in-Accept : goal.returns-in-Accept
returns-in-Accept g c = rw c.in-Accept.is (record {
  answer = accepting c.accept.result;
  does = λ room. record { so = c.accept.ensures.effect; counts = c.accept.ensures.counts };
  lists = λ room. c.accept.ensures.lists;
  makes = λ room. c.accept.ensures.makes;
  may = λ room. accept_may c.in-Accept.c c.in-Accept.port c.accept.result (length c.args.head.now) room;
  entry = λ n. c.accepted.ensures.entry n (length (c.args.head.now ++ c.args.tail.now)) c.in-Accept.c c.in-Accept.port;
  did = c.accepted.ensures.did;
})

pub returns-in-ReadAway : goal.returns-in-ReadAway
returns-in-ReadAway g c = rw c.in-ReadAway.is (record {
  answer = reading c.read-answer.result c.read-answer.new.buf;
  does = λ room. record {
    so = subst (λ (k : ℕ). g.L.Links.effect c.args.links.now (Read c.in-ReadAway.c k) (reading c.read-answer.result c.read-answer.new.buf) c.read-answer.new.self) c.requires.room c.read-answer.ensures.effect;
    counts = subst (λ (k : ℕ). Counts (g.L.Links.shown c.args.links.now) (Read c.in-ReadAway.c k) (reading c.read-answer.result c.read-answer.new.buf) (g.L.Links.shown c.read-answer.new.self)) c.requires.room c.read-answer.ensures.counts;
  };
  lists = λ room. subst (λ (k : ℕ). Lists (g.L.Links.shown c.args.links.now) (Read c.in-ReadAway.c k) (reading c.read-answer.result c.read-answer.new.buf) (g.L.Links.shown c.read-answer.new.self)) c.requires.room c.read-answer.ensures.lists;
  makes = λ room. subst (λ (k : ℕ). Makes (g.L.Links.shown c.args.links.now) (Read c.in-ReadAway.c k) (reading c.read-answer.result c.read-answer.new.buf) (g.L.Links.shown c.read-answer.new.self)) c.requires.room c.read-answer.ensures.makes;
  may = λ room. away_may c.in-ReadAway.c (length c.args.head.now) room c.read-answer.result c.read-answer.new.buf c.read-answer.ensures.fits (c.read-answer.auto.buf ∙ c.requires.room);
  entry = λ n. c.had_read.ensures.away n (length (c.args.head.now ++ c.args.tail.now)) c.in-ReadAway.c;
  did = c.had_read.ensures.did;
})

pub returns-in-RecvFrom : goal.returns-in-RecvFrom
returns-in-RecvFrom g c = rw c.in-RecvFrom.is (record {
  answer = receiving c.recv_from-answer.result c.recv_from-answer.new.buf;
  does = λ room. record {
    so = subst (λ (k : ℕ). g.L.Links.effect c.args.links.now (RecvFrom c.in-RecvFrom.c c.in-RecvFrom.port k) (receiving c.recv_from-answer.result c.recv_from-answer.new.buf) c.recv_from-answer.new.self) c.requires.room c.recv_from-answer.ensures.effect;
    counts = subst (λ (k : ℕ). Counts (g.L.Links.shown c.args.links.now) (RecvFrom c.in-RecvFrom.c c.in-RecvFrom.port k) (receiving c.recv_from-answer.result c.recv_from-answer.new.buf) (g.L.Links.shown c.recv_from-answer.new.self)) c.requires.room c.recv_from-answer.ensures.counts;
  };
  lists = λ room. subst (λ (k : ℕ). Lists (g.L.Links.shown c.args.links.now) (RecvFrom c.in-RecvFrom.c c.in-RecvFrom.port k) (receiving c.recv_from-answer.result c.recv_from-answer.new.buf) (g.L.Links.shown c.recv_from-answer.new.self)) c.requires.room c.recv_from-answer.ensures.lists;
  makes = λ room. subst (λ (k : ℕ). Makes (g.L.Links.shown c.args.links.now) (RecvFrom c.in-RecvFrom.c c.in-RecvFrom.port k) (receiving c.recv_from-answer.result c.recv_from-answer.new.buf) (g.L.Links.shown c.recv_from-answer.new.self)) c.requires.room c.recv_from-answer.ensures.makes;
  may = λ room. receive_may c.in-RecvFrom.c c.in-RecvFrom.port (length c.args.head.now) room c.recv_from-answer.result c.recv_from-answer.new.buf c.recv_from-answer.ensures.fits (c.recv_from-answer.auto.buf ∙ c.requires.room);
  entry = λ n. c.received.ensures.entry n (length (c.args.head.now ++ c.args.tail.now)) c.in-RecvFrom.port c.in-RecvFrom.c;
  did = c.received.ensures.did;
})
