-- The first member of a list that passes a test, and the list in which it is changed.
use Rattle.std.proofs.Common.{◌≡◌, ◌<◌, ℕ, zero, suc, Bool, true, false, refl, sym, ap, ◌∙◌, List, [], ◌∷◌, length, set, get_or, Some, None}
use Rattle.std.proofs.Common.{arith}
use Rattle.std.specs.List.{find, position}
use Rattle.std.proofs.lemmas.List.Quantifiers.{position-Some}
use Rattle.link_script.specs.Acting.{Acting}
use Rattle.link_trait.specs.Calls.{Call}
use Rattle.chip_sheet.specs.LinkAnswers.{LinkAnswer, TimedOut}
use Rattle.chip_sheet.specs.declared.event.ConnId.{ConnId}
use Rattle.link_script.specs.Acting.{peer_after, peer_answer, is_serving, asked}
use Rattle.link_script.specs.Play.{Played, acted_by, lost_after, change_first, server_in, peers_by, answer_or, met_by, refused_by, suits}
use Rattle.link_script.specs.declared.wanted.Wanted.{Wanted}
use Rattle.link_script.specs.Start.{start_of}
use Rattle.link_script.specs.declared.peer.PeerKind.TheVariants.{Client}
use Rattle.link_script.specs.declared.peer.Connects.TheVariants.{Fine}
use Rattle.std.proofs.lemmas.Grind.{common_steps}

-- by the place of the first that passes
at_place : (test : Acting → Bool) (f : Acting → Acting) (ps : List Acting) (i : ℕ) (d : Acting) → i < length ps → test (get_or ps i d) ≡ true
    → ((k : ℕ) → k < i → test (get_or ps k d) ≡ false)
    → (change_first test f ps ≡ set ps i (f (get_or ps i d))) × (find test ps ≡ Some (get_or ps i d))
at_place test f [] i d l h b = absurd (omega (arith, l))
at_place test f (p ∷ ps) zero d l h b = (rw h refl, rw h refl)
at_place test f (p ∷ ps) (suc i) d l h b =
    let off : test p ≡ false = b 0 (omega arith) in
    let rest = at_place test f ps i d (omega (arith, l)) h (λ k m. b (suc k) (omega (arith, m))) in
    (rw off (ap (λ l. p ∷ l) rest.0), rw off rest.1)

pub change_at : (test : Acting → Bool) (f : Acting → Acting) (ps : List Acting) (i : ℕ) (d : Acting) → position test ps ≡ Some i
    → change_first test f ps ≡ set ps i (f (get_or ps i d))
change_at test f ps i d h = let at = position-Some test ps i d h in (at_place test f ps i d at.0 at.1 at.2).0

pub find_there : (test : Acting → Bool) (ps : List Acting) (i : ℕ) (d : Acting) → position test ps ≡ Some i → find test ps ≡ Some (get_or ps i d)
find_there test ps i d h = let at = position-Some test ps i d h in (at_place test (λ p. p) ps i d at.0 at.1 at.2).1

-- at a first member that passes, it is there
past_first : (test : Acting → Bool) (p : Acting) (ps : List Acting) → position test (p ∷ ps) ≡ None → test p ≡ true → ⊥
past_first test p ps h here = grind (arith, common_steps, h, here)

past_rest : (test : Acting → Bool) (p : Acting) (ps : List Acting) → position test (p ∷ ps) ≡ None → test p ≡ false → position test ps ≡ None
past_rest test p ps h off = grind (arith, common_steps, h, off)

none_passes : (test : Acting → Bool) (f : Acting → Acting) (ps : List Acting) → position test ps ≡ None
    → (change_first test f ps ≡ ps) × (find test ps ≡ None)
none_passes test f [] h = (refl, refl)
none_passes test f (p ∷ ps) h =
    let go : (v : Bool) → test p ≡ v → (change_first test f (p ∷ ps) ≡ p ∷ ps) × (find test (p ∷ ps) ≡ None) = elim [
      | true ↦ (λ e. absurd (past_first test p ps h e))
      | false ↦ (λ e. let rest = none_passes test f ps (past_rest test p ps h e) in (rw e (ap (λ l. p ∷ l) rest.0), rw e rest.1))
    ] in
    go (test p) refl

pub change_none : (test : Acting → Bool) (f : Acting → Acting) (ps : List Acting) → position test ps ≡ None → change_first test f ps ≡ ps
change_none test f ps h = (none_passes test f ps h).0

pub find_none : (test : Acting → Bool) (ps : List Acting) → position test ps ≡ None → find test ps ≡ None
find_none test ps h = (none_passes test (λ p. p) ps h).1

-- A call on a connection, by the place of the peer that serves it.

pub left_there : (ps : List Acting) (c : ConnId) (call : Call) (i : ℕ) (d new : Acting) → Some i ≡ position (is_serving c) ps
    → d ≡ get_or ps i d → new ≡ peer_after d call → set ps i new ≡ peers_by ps c call (server_in ps c)
left_there ps c call i d new at is e =
    rw (find_there (is_serving c) ps i d (sym at))
    (ap (λ q. set ps i q) (e ∙ ap (λ q. peer_after q call) is) ∙ sym (change_at (is_serving c) (λ q. peer_after q call) ps i d (sym at)))

pub answer_there : (otherwise : LinkAnswer) (ps : List Acting) (c : ConnId) (call : Call) (i : ℕ) (d : Acting) (a : LinkAnswer)
    → Some i ≡ position (is_serving c) ps → d ≡ get_or ps i d → a ≡ peer_answer d call → a ≡ answer_or otherwise call (server_in ps c)
answer_there otherwise ps c call i d a at is e =
    rw (find_there (is_serving c) ps i d (sym at)) (e ∙ ap (λ q. peer_answer q call) is)

pub answer_at : (otherwise : LinkAnswer) (ps : List Acting) (c : ConnId) (call : Call) (i : ℕ) (d : Acting) (a : LinkAnswer)
    → Some i ≡ position (is_serving c) ps → a ≡ peer_answer (get_or ps i d) call → a ≡ answer_or otherwise call (server_in ps c)
answer_at otherwise ps c call i d a at e = rw (find_there (is_serving c) ps i d (sym at)) e

pub left_none : (ps : List Acting) (c : ConnId) (call : Call) → None ≡ position (is_serving c) ps → ps ≡ peers_by ps c call (server_in ps c)
left_none ps c call at = rw (find_none (is_serving c) ps (sym at)) refl

pub answer_none : (otherwise : LinkAnswer) (ps : List Acting) (c : ConnId) (call : Call) (a : LinkAnswer)
    → None ≡ position (is_serving c) ps → a ≡ otherwise → a ≡ answer_or otherwise call (server_in ps c)
answer_none otherwise ps c call a at e = rw (find_none (is_serving c) ps (sym at)) e

pub change_there : (test : Acting → Bool) (f : Acting → Acting) (ps : List Acting) (i : ℕ) (d new : Acting) → Some i ≡ position test ps
    → d ≡ get_or ps i d → new ≡ f d → set ps i new ≡ change_first test f ps
change_there test f ps i d new at is e = ap (λ q. set ps i q) (e ∙ ap f is) ∙ sym (change_at test f ps i d (sym at))

pub stays_none : (test : Acting → Bool) (f : Acting → Acting) (ps : List Acting) → None ≡ position test ps → ps ≡ change_first test f ps
stays_none test f ps at = sym (change_none test f ps (sym at))

nobody : Acting
nobody = start_of (record { kind = Client; addr = record { ip = 0 ∷ 0 ∷ 0 ∷ 0 ∷ []; port = 0 }; chip = 0; connect = Fine; takes = []; room = 0; say = []; end = None; fail = 0; lag = 0 })

pub met_there : (tells : Bool) (ps : List Acting) (c : ConnId) (wanted : Wanted) (i : ℕ) → Some i ≡ position (is_serving c) ps
    → ps ≡ met_by tells ps c wanted (server_in ps c)
met_there tells ps c wanted i at = rw (find_there (is_serving c) ps i (nobody) (sym at)) refl

pub met_none : (tells : Bool) (ps qs : List Acting) (c : ConnId) (wanted : Wanted) → None ≡ position (is_serving c) ps
    → qs ≡ change_first (suits wanted) (asked c tells) ps → qs ≡ met_by tells ps c wanted (server_in ps c)
met_none tells ps qs c wanted at e = rw (find_none (is_serving c) ps (sym at)) e

pub refused_there : (ps : List Acting) (wanted : Wanted) (i : ℕ) (d : Acting) (a : LinkAnswer) → Some i ≡ position (suits wanted) ps
    → d ≡ get_or ps i d → a ≡ refused_by (Some d) → a ≡ refused_by (find (suits wanted) ps)
refused_there ps wanted i d a at is e =
    rw (find_there (suits wanted) ps i d (sym at)) (e ∙ ap (λ q. refused_by (Some q)) is)

pub refused_none : (ps : List Acting) (wanted : Wanted) (a : LinkAnswer) → None ≡ position (suits wanted) ps → a ≡ TimedOut
    → a ≡ refused_by (find (suits wanted) ps)
refused_none ps wanted a at e = rw (find_none (suits wanted) ps (sym at)) e

pub acted_there : (s : Played) (c : ConnId) (call : Call) (i : ℕ) (t : Played) → Some i ≡ position (is_serving c) s.peers
    → t ≡ record s { peers = peers_by s.peers c call (server_in s.peers c) } → t ≡ acted_by s c call s.peers (server_in s.peers c)
acted_there s c call i t at e =
    e ∙ rw (find_there (is_serving c) s.peers i nobody (sym at)) refl

pub acted_none : (s : Played) (c : ConnId) (call : Call) (t : Played) → None ≡ position (is_serving c) s.peers
    → t ≡ record s { lost = lost_after s.lost call } → t ≡ acted_by s c call s.peers (server_in s.peers c)
acted_none s c call t at e = e ∙ rw (find_none (is_serving c) s.peers (sym at)) refl
