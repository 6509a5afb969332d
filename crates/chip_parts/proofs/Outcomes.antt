-- What follows of an outcome from what a call says of it.
use Rattle.std.specs.Prelude.{Result, Ok, Err, OnOk, IfOk, IfErr}

pub on_ok : {T E : Type 0} → (r : Result T E) (Q : T → Type 0) (P : Type 0) → IfOk r Q → ((x : T) → Q x → P) → OnOk r P
on_ok (Ok x) Q P h f = f x h
on_ok (Err e) Q P h f = h

pub if_ok : {T E : Type 0} → (r : Result T E) (Q P : T → Type 0) → IfOk r Q → ((x : T) → Q x → P x) → IfOk r P
if_ok (Ok x) Q P h f = f x h
if_ok (Err e) Q P h f = h

pub if_err : {T E : Type 0} → (r : Result T E) (Q P : E → Type 0) → IfErr r Q → ((e : E) → Q e → P e) → IfErr r P
if_err (Ok x) Q P h f = h
if_err (Err e) Q P h f = f e h

pub ok_ok : {T E : Type 0} → (r : Result T E) (Q P : Type 0) → OnOk r Q → (Q → P) → OnOk r P
ok_ok (Ok x) Q P h f = f h
ok_ok (Err e) Q P h f = h
