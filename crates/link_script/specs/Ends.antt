-- How far a peer is, as callers see it.
use Rattle.std.specs.Prelude.{◌≡◌, ◌-◌, ◌^◌, min, length, Option, Some, None}
use Rattle.link_script.specs.declared.script_links.PeerEnd.{PeerEnd}
use Rattle.link_script.specs.Acting.{Acting, fed, faults_of}

-- The bytes that it was given, how many were read of it, and how many of its calls failed.
pub record EndOf (end : PeerEnd) (p : Acting) : Type 0 where
  pub met : end.conn ≡ p.conn
  pub bytes : end.given.now ≡ p.given
  pub count : end.fed ≡ min (length (fed p)) (2 ^ 64 - 1)
  pub failed : end.faults ≡ faults_of p

abbrev pub EndsOf : Option PeerEnd → Option Acting → Type 0
EndsOf None None = Unit {0}
EndsOf (Some end) (Some p) = EndOf end p
EndsOf end p = ⊥
