-- The bytes that a link gave, call by call.
use Rattle.std.proofs.Common.{◌≡◌, ℕ, List, [], ◌∷◌, ◌++◌, Option, Some, None, Result, Ok, Err, take, refl, sym, ◌∙◌, ap, subst, append_assoc, append-nil}
use Rattle.io_edge.specs.declared.edge.Failed.{Failed}
use Rattle.io_edge.specs.declared.link.Pulled.{Pulled}
use Rattle.io_edge.specs.declared.link.Pulled.TheVariants as pulled
use Rattle.io_edge.specs.Links.{Answer, piece, quiet, ended, Told, Tells, Gave as GaveAnswer, Pulls, PutsPiece, WasPut}
use Rattle.source_feed.specs.Serving.{bytes_in, GaveBytes}
use Rattle.source_feed.specs.Turns.{Gave}

bytes-append : (first second : List Answer) → bytes_in (first ++ second) ≡ bytes_in first ++ bytes_in second
bytes-append [] second = refl
bytes-append (piece bytes ∷ first) second =
    ap (λ (b : List ℕ). bytes ++ b) (bytes-append first second) ∙ sym (append_assoc bytes (bytes_in first) (bytes_in second))
bytes-append (quiet ∷ first) second = bytes-append first second
bytes-append (ended ∷ first) second = bytes-append first second

gave_here : (told : Told) → GaveBytes [] told told
gave_here told = record { answers = []; more = sym (append-nil told.answers); bytes = refl }

pub gave_none : (told : Option Told) → Gave [] told told
gave_none None = tt
gave_none (Some told) = gave_here told

pub gave_same : (old new : Option Told) → new ≡ old → Gave [] old new
gave_same old new e = subst (λ (t : Option Told). Gave [] old t) (sym e) (gave_none old)

both : (first second : List ℕ) (a b c : Told) → GaveBytes first a b → GaveBytes second b c → GaveBytes (first ++ second) a c
both first second a b c g h = record {
  answers = g.answers ++ h.answers;
  more = h.more ∙ ap (λ (l : List Answer). l ++ h.answers) g.more ∙ append_assoc a.answers g.answers h.answers;
  bytes = bytes-append g.answers h.answers ∙ ap (λ (l : List ℕ). l ++ bytes_in h.answers) g.bytes ∙ ap (λ (l : List ℕ). first ++ l) h.bytes;
}

pub gave_both : (first second : List ℕ) (a b c : Option Told) → Gave first a b → Gave second b c → Gave (first ++ second) a c
gave_both first second None b c g h = tt
gave_both first second (Some a) None c g h = absurd g
gave_both first second (Some a) (Some b) None g h = absurd h
gave_both first second (Some a) (Some b) (Some c) g h = both first second a b c g h

answered : (bytes : List ℕ) (answer : Answer) (old new : Told) → bytes_in (answer ∷ []) ≡ bytes → GaveAnswer answer old new → GaveBytes bytes old new
answered bytes answer old new e g = record { answers = answer ∷ []; more = g.answers; bytes = e }

answered_any : (bytes : List ℕ) (answer : Answer) (old new : Option Told) → bytes_in (answer ∷ []) ≡ bytes → Tells (GaveAnswer answer) old new → Gave bytes old new
answered_any bytes answer None new e g = tt
answered_any bytes answer (Some old) None e g = absurd g
answered_any bytes answer (Some old) (Some new) e g = answered bytes answer old new e g

-- a pull that answers bytes
pub gave_bytes : (old new : Option Told) (answer : Pulled) (count : ℕ) (buffer : List ℕ) → answer ≡ pulled.Bytes count → Pulls old new (Ok answer) buffer → Gave (take count buffer) old new
gave_bytes old new answer count buffer e h =
    answered_any (take count buffer) (piece (take count buffer)) old new (append-nil (take count buffer))
    (subst (λ (p : Pulled). Pulls old new (Ok p) buffer) e h)

-- and one that answers that nothing is there
pub gave_quiet : (old new : Option Told) (answer : Pulled) (buffer : List ℕ) → answer ≡ pulled.Quiet → Pulls old new (Ok answer) buffer → Gave [] old new
gave_quiet old new answer buffer e h = answered_any [] quiet old new refl (subst (λ (p : Pulled). Pulls old new (Ok p) buffer) e h)

pub gave_end : (old new : Option Told) (answer : Pulled) (buffer : List ℕ) → answer ≡ pulled.End → Pulls old new (Ok answer) buffer → Gave [] old new
gave_end old new answer buffer e h = answered_any [] ended old new refl (subst (λ (p : Pulled). Pulls old new (Ok p) buffer) e h)

pub gave_failed : (old new : Option Told) (failed : Failed) (buffer : List ℕ) → Pulls old new (Err failed) buffer → Gave [] old new
gave_failed old new failed buffer h = gave_same old new h

-- a put gives nothing
put_here : (bytes : List ℕ) (old new : Told) → WasPut bytes old new → GaveBytes [] old new
put_here bytes old new h = record { answers = []; more = ap (λ (t : Told). t.answers) h ∙ sym (append-nil old.answers); bytes = refl }

put_any : (bytes : List ℕ) (old new : Option Told) → Tells (WasPut bytes) old new → Gave [] old new
put_any bytes None new h = tt
put_any bytes (Some old) None h = absurd h
put_any bytes (Some old) (Some new) h = put_here bytes old new h

pub gave_put : {T E : Type 0} (old new : Option Told) (result : Result T E) (bytes : List ℕ) → PutsPiece old new result bytes → Gave [] old new
gave_put old new (Ok x) bytes h = put_any bytes old new h
gave_put old new (Err e) bytes h = put_any (take h.0 bytes) old new h.1
