-- What follows for the value of a call that went well.
use Rattle.std.proofs.Common.{IfOk}
use Rattle.std.specs.Prelude.{Result, Ok, Err}

pub if_ok : {A E : Type 0} (P Q : A → Type 0) (r : Result A E) → IfOk r P → ((x : A) → P x → Q x) → IfOk r Q
if_ok P Q (Ok x) h f = f x h
if_ok P Q (Err e) h f = tt

pub if_both : {A E : Type 0} (P Q R : A → Type 0) (r : Result A E) → IfOk r P → IfOk r Q → ((x : A) → P x → Q x → R x) → IfOk r R
if_both P Q R (Ok x) h k f = f x h k
if_both P Q R (Err e) h k f = tt
