-- Which peer serves a connection, once one was met, and once a call was made on it.
use Rattle.std.proofs.Common.{◌≡◌, ◌&&◌, ◌⊎◌, inl, inr, Bool, true, false, not, cond, refl, sym, ap, subst, ◌∙◌, List, [], ◌∷◌, Option, Some, None, if◌then◌else◌}
use Rattle.std.specs.List.{find}
use Rattle.std.specs.Option.{option_map}
use Rattle.chip_sheet.specs.declared.event.ConnId.{ConnId}
use Rattle.link_trait.specs.Calls.{Call, same}
use Rattle.link_trait.proofs.Connections.{same_self, same_is}
use Rattle.link_script.specs.Scripts.{Script}
use Rattle.link_script.specs.Acting.{Acting, is_serving, is_unused, met, is_willing, begun, asked, keeps_waiting, lowered, fed, peer_after}
use Rattle.link_script.specs.Play.{Played, server_in, change_first, met_by, meeting, is_lost, peers_by, suits, is_wanted}
use Rattle.link_script.specs.declared.wanted.Wanted.{Wanted}
use Rattle.link_script.proofs.Goings.{peer_goes}
use Rattle.link_script.proofs.Hearing.{fed_none}

-- tests

and_left : (a b : Bool) → (a && b) ≡ true → a ≡ true
and_left true b h = refl
and_left false b h = h

met_both : (o : Option ConnId) (c d : ConnId) → met o c ≡ true → met o d ≡ true → same c d ≡ true
met_both None c d h k = absurd (cc)
met_both (Some e) c d h k = subst (λ x. same x d ≡ true) (same_is e c h) k

serves_both : (c d : ConnId) (p : Acting) → is_serving c p ≡ true → is_serving d p ≡ true → same c d ≡ true
serves_both c d p h k = met_both p.conn c d (and_left (met p.conn c) (is_willing p.script) h) (and_left (met p.conn d) (is_willing p.script) k)

serves_one : (c d : ConnId) (p : Acting) → same c d ≡ false → is_serving c p ≡ true → is_serving d p ≡ false
serves_one c d p off h =
    let go : (v : Bool) → is_serving d p ≡ v → v ≡ false = elim [
      | true ↦ (λ e. sym (serves_both c d p h e) ∙ off)
      | false ↦ (λ e. refl)
    ] in
    go (is_serving d p) refl

unused_serves : (c : ConnId) (o : Option ConnId) (script : Script) → is_unused o ≡ true → (met o c && is_willing script) ≡ false
unused_serves c None script h = refl
unused_serves c (Some d) script h = absurd (cc)

suits_unused : (wanted : Wanted) (c : ConnId) (p : Acting) → suits wanted p ≡ true → is_serving c p ≡ false
suits_unused wanted c p h = unused_serves c p.conn p.script (and_left (is_unused p.conn) (is_wanted wanted p.script) h)

begun_serves : (c d : ConnId) (tells : Bool) (p : Acting) → same c d ≡ false → is_serving d (begun c tells p) ≡ false
begun_serves c d tells p off = ap (λ v. v && is_willing p.script) off

asked_serves : (c d : ConnId) (tells : Bool) (p : Acting) → same c d ≡ false → is_serving d p ≡ false → is_serving d (asked c tells p) ≡ false
asked_serves c d tells p off none =
    let go : (v : Bool) → is_serving d (if v then lowered p else begun c tells p) ≡ false = elim [
      | true ↦ none
      | false ↦ begun_serves c d tells p off
    ] in
    go (keeps_waiting p)

-- a change of the first that serves a connection

served_mine : (c : ConnId) (f : Acting → Acting) → ((p : Acting) → is_serving c (f p) ≡ is_serving c p) → (ps : List Acting)
    → find (is_serving c) (change_first (is_serving c) f ps) ≡ option_map f (find (is_serving c) ps)
served_mine c f keeps [] = refl
served_mine c f keeps (p ∷ ps) =
    let go : (v : Bool) → is_serving c p ≡ v
    → find (is_serving c) (if v then f p ∷ ps else p ∷ change_first (is_serving c) f ps) ≡ option_map f (cond v (Some p) (find (is_serving c) ps)) = elim [
      | true ↦ (λ e. rw (keeps p, e) refl)
      | false ↦ (λ e. rw e (served_mine c f keeps ps))
    ] in
    go (is_serving c p) refl

served_other : (c d : ConnId) (f : Acting → Acting) → ((p : Acting) → is_serving d (f p) ≡ is_serving d p) → same c d ≡ false → (ps : List Acting)
    → find (is_serving d) (change_first (is_serving c) f ps) ≡ find (is_serving d) ps
served_other c d f keeps off [] = refl
served_other c d f keeps off (p ∷ ps) =
    let go : (v : Bool) → is_serving c p ≡ v
    → find (is_serving d) (if v then f p ∷ ps else p ∷ change_first (is_serving c) f ps) ≡ find (is_serving d) (p ∷ ps) = elim [
      | true ↦ (λ e. let none = serves_one c d p off e in rw (keeps p, none) refl)
      | false ↦ (λ e. ap (λ l. cond (is_serving d p) (Some p) l) (served_other c d f keeps off ps))
    ] in
    go (is_serving c p) refl

-- a peer that is asked

met_other : (c d : ConnId) (wanted : Wanted) (tells : Bool) → same c d ≡ false → (ps : List Acting)
    → find (is_serving d) (change_first (suits wanted) (asked c tells) ps) ≡ find (is_serving d) ps
met_other c d wanted tells off [] = refl
met_other c d wanted tells off (p ∷ ps) =
    let go : (v : Bool) → suits wanted p ≡ v
    → find (is_serving d) (if v then asked c tells p ∷ ps else p ∷ change_first (suits wanted) (asked c tells) ps) ≡ find (is_serving d) (p ∷ ps) = elim [
      | true ↦ (λ e. let none = suits_unused wanted d p e in rw (asked_serves c d tells p off none, none) refl)
      | false ↦ (λ e. ap (λ l. cond (is_serving d p) (Some p) l) (met_other c d wanted tells off ps))
    ] in
    go (suits wanted p) refl

-- what serves the connection itself then: a peer that begins, if any
pub record Begins (c : ConnId) (tells : Bool) (o : Option Acting) : Type 0 where
  pub peer : Acting
  pub is : o ≡ Some (begun c tells peer)

rest_none : (c : ConnId) (p : Acting) (ps : List Acting) → find (is_serving c) (p ∷ ps) ≡ None → (is_serving c p ≡ false) × (find (is_serving c) ps ≡ None)
rest_none c p ps h =
    let go : (v : Bool) → cond v (Some p) (find (is_serving c) ps) ≡ None → (v ≡ false) × (find (is_serving c) ps ≡ None) = elim [
      | true ↦ (λ e. absurd (cc))
      | false ↦ (λ e. (refl, e))
    ] in
    go (is_serving c p) h

begin_mine : (c : ConnId) (tells : Bool) (p : Acting) (ps : List Acting) (v : Bool) → is_willing p.script ≡ v → find (is_serving c) ps ≡ None
    → (find (is_serving c) (begun c tells p ∷ ps) ≡ None) ⊎ Begins c tells (find (is_serving c) (begun c tells p ∷ ps))
begin_mine c tells p ps true w h = inr (record { peer = p; is = rw (same_self c, w) refl })
begin_mine c tells p ps false w h = inl (rw (same_self c, w) h)

ask_mine : (c : ConnId) (tells : Bool) (p : Acting) (ps : List Acting) → is_serving c p ≡ false → find (is_serving c) ps ≡ None
    → (find (is_serving c) (asked c tells p ∷ ps) ≡ None) ⊎ Begins c tells (find (is_serving c) (asked c tells p ∷ ps))
ask_mine c tells p ps off h =
    let go : (v : Bool) → (find (is_serving c) ((if v then lowered p else begun c tells p) ∷ ps) ≡ None)
    ⊎ Begins c tells (find (is_serving c) ((if v then lowered p else begun c tells p) ∷ ps)) = elim [
      | true ↦ inl (rw off h)
      | false ↦ begin_mine c tells p ps (is_willing p.script) refl h
    ] in
    go (keeps_waiting p)

met_mine : (c : ConnId) (wanted : Wanted) (tells : Bool) (ps : List Acting) → find (is_serving c) ps ≡ None
    → (find (is_serving c) (change_first (suits wanted) (asked c tells) ps) ≡ None)
    ⊎ Begins c tells (find (is_serving c) (change_first (suits wanted) (asked c tells) ps))
met_mine c wanted tells [] h = inl refl
met_mine c wanted tells (p ∷ ps) h =
    let rest = rest_none c p ps h in
    let go : (v : Bool) → suits wanted p ≡ v
    → (find (is_serving c) (if v then asked c tells p ∷ ps else p ∷ change_first (suits wanted) (asked c tells) ps) ≡ None)
    ⊎ Begins c tells (find (is_serving c) (if v then asked c tells p ∷ ps else p ∷ change_first (suits wanted) (asked c tells) ps)) = elim [
      | true ↦ (λ e. ask_mine c tells p ps rest.0 rest.1)
      | false ↦ (λ e. rw rest.0 (met_mine c wanted tells ps rest.1))
    ] in
    go (suits wanted p) refl

-- all peers

pub other_met : (s : Played) (c d : ConnId) (wanted : Option Wanted) → same c d ≡ false
    → server_in (meeting s c wanted) d ≡ server_in s.peers d
other_met s c d None off = refl
other_met s c d (Some wanted) off =
    let tells = not (is_lost s.lost c) in
    let go : (o : Option Acting) → server_in (met_by tells s.peers c wanted o) d ≡ server_in s.peers d = elim [
      | None ↦ met_other c d wanted tells off s.peers
      | Some p ↦ refl
    ] in
    go (server_in s.peers c)

-- the connection itself: as before, or it was served by none and a peer begins
pub record Newly (s : Played) (c : ConnId) (o : Option Acting) : Type 0 where
  pub was : server_in s.peers c ≡ None
  pub begins : Begins c (not (is_lost s.lost c)) o

newly_or : (s : Played) (c : ConnId) → server_in s.peers c ≡ None → (qs : List Acting)
    → (server_in qs c ≡ None) ⊎ Begins c (not (is_lost s.lost c)) (server_in qs c)
    → (server_in qs c ≡ server_in s.peers c) ⊎ Newly s c (server_in qs c)
newly_or s c e qs h = elim h as (λ _. (server_in qs c ≡ server_in s.peers c) ⊎ Newly s c (server_in qs c)) [
  | inl none ↦ inl (none ∙ sym e)
  | inr begins ↦ inr (record { was = e; begins = begins })
]

pub mine_met : (s : Played) (c : ConnId) (wanted : Option Wanted)
    → (server_in (meeting s c wanted) c ≡ server_in s.peers c) ⊎ Newly s c (server_in (meeting s c wanted) c)
mine_met s c None = inl refl
mine_met s c (Some wanted) =
    let tells = not (is_lost s.lost c) in
    let go : (o : Option Acting) → server_in s.peers c ≡ o
    → (server_in (met_by tells s.peers c wanted o) c ≡ server_in s.peers c) ⊎ Newly s c (server_in (met_by tells s.peers c wanted o) c) = elim [
      | None ↦ (λ e. newly_or s c e (change_first (suits wanted) (asked c tells) s.peers) (met_mine c wanted tells s.peers e))
      | Some p ↦ (λ e. inl refl)
    ] in
    go (server_in s.peers c) refl

-- once a call was made

keeps_serving : (call : Call) (d : ConnId) (p : Acting) → is_serving d (peer_after p call) ≡ is_serving d p
keeps_serving call d p =
    let goes = peer_goes p call in
    ap (λ o. met o d && is_willing (peer_after p call).script) goes.conn ∙ ap (λ s. met p.conn d && is_willing s) goes.script

pub mine_after : (qs : List Acting) (c : ConnId) (call : Call)
    → server_in (peers_by qs c call (server_in qs c)) c ≡ option_map (λ q. peer_after q call) (server_in qs c)
mine_after qs c call =
    let go : (o : Option Acting) → server_in qs c ≡ o → server_in (peers_by qs c call o) c ≡ option_map (λ q. peer_after q call) o = elim [
      | None ↦ (λ e. e)
      | Some q ↦ (λ e. served_mine c (λ q. peer_after q call) (keeps_serving call c) qs ∙ ap (λ o. option_map (λ q. peer_after q call) o) e)
    ] in
    go (server_in qs c) refl

pub other_after : (qs : List Acting) (c d : ConnId) (call : Call) → same c d ≡ false
    → server_in (peers_by qs c call (server_in qs c)) d ≡ server_in qs d
other_after qs c d call off =
    let go : (o : Option Acting) → server_in (peers_by qs c call o) d ≡ server_in qs d = elim [
      | None ↦ refl
      | Some q ↦ served_other c d (λ q. peer_after q call) (keeps_serving call d) off qs
    ] in
    go (server_in qs c)

pub fed_start : (c : ConnId) (tells : Bool) (p : Acting) → fed (begun c tells p) ≡ []
fed_start c tells p = fed_none p.script.kind p.script.say
