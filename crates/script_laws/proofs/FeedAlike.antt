-- What the members of a feed were sent changes none of its commands.
use Rattle.std.proofs.Common.{◌≡◌, ℕ, zero, suc, ℤ, List, [], ◌∷◌, ◌++◌, map, slice_get, slice_set, unwrap_or, Result, Ok, Err, refl, ap, subst}
use Rattle.std.specs.List.{AllZip}
use Rattle.venue_words.specs.declared.config.Config.{Config}
use Rattle.session_core.specs.Machine.{Machine, on_clock}
use Rattle.session_core.specs.Alike.{AreAlike, GiveAlike}
use Rattle.session_core.specs.AlikeLaws.{clock-alike, connected-alike}
use Rattle.script_laws.specs.Alike.{SubmitAlike, ConnectionsAlike, FeedsAlike}
use Rattle.script_laws.proofs.DeskAlike.{reading_submits-alike}
use Rattle.member_gate.specs.Working.{work_of_reading}
use Rattle.script_text.specs.declared.body.Line.{Line}
use Rattle.script_text.specs.declared.body.Line.TheVariants.{Moment, Quote, Piece, Open}
use Rattle.script_text.specs.declared.fault.LineFault.{LineFault}
use Rattle.script_text.specs.Body.{read_of}
use Rattle.line_work.specs.FeedState.{FeedState, Connection, new_connection, connection_at}
use Rattle.line_work.specs.LineWork.{LineWork, ticked, fed, reading_behind, reconnected, work_of_bytes, work_of_line, work_of_read, work_of_text}

self_alike : (session : Machine) → AreAlike session session
self_alike session = record { member = refl; state = refl }

pub same_alike : (connections : List Connection) → AllZip ConnectionsAlike connections connections
same_alike [] = tt
same_alike (c ∷ cs) = (record { number = refl; stream = refl; sessions = self_alike c.session }, same_alike cs)

-- one member's connection
zip_found : (xs ys : List Connection) (number : ℕ) (a b : Connection) → ConnectionsAlike a b → AllZip ConnectionsAlike xs ys
    → ConnectionsAlike (unwrap_or (slice_get xs number) a) (unwrap_or (slice_get ys number) b)
zip_found [] [] number a b x h = x
zip_found [] (b0 ∷ ys) number a b x h = absurd h
zip_found (a0 ∷ xs) [] number a b x h = absurd h
zip_found (a0 ∷ xs) (b0 ∷ ys) zero a b x h = h.0
zip_found (a0 ∷ xs) (b0 ∷ ys) (suc number) a b x h = zip_found xs ys number a b x h.1

zip_with : (xs ys : List Connection) (number : ℕ) (a b : Connection) → ConnectionsAlike a b → AllZip ConnectionsAlike xs ys
    → AllZip ConnectionsAlike (slice_set xs number a) (slice_set ys number b)
zip_with [] [] number a b x h = tt
zip_with [] (b0 ∷ ys) number a b x h = absurd h
zip_with (a0 ∷ xs) [] number a b x h = absurd h
zip_with (a0 ∷ xs) (b0 ∷ ys) zero a b x h = (x, h.1)
zip_with (a0 ∷ xs) (b0 ∷ ys) (suc number) a b x h = (h.0, zip_with xs ys number a b x h.1)

at_alike : (a b : FeedState) (number : ℕ) → FeedsAlike a b → ConnectionsAlike (connection_at a number) (connection_at b number)
at_alike a b number x = zip_found a.connections b.connections number (new_connection a.config number) (new_connection b.config number)
    (subst (λ (k : Config). ConnectionsAlike (new_connection a.config number) (new_connection k number)) x.config
    (record { number = refl; stream = refl; sessions = self_alike (new_connection a.config number).session })) x.connections

-- ---- what each line does

ticked_alike : (moment : ℤ) (xs ys : List Connection) → AllZip ConnectionsAlike xs ys
    → AllZip ConnectionsAlike (map (ticked moment) xs) (map (ticked moment) ys)
ticked_alike moment [] [] h = tt
ticked_alike moment [] (b ∷ ys) h = absurd h
ticked_alike moment (a ∷ xs) [] h = absurd h
ticked_alike moment (a ∷ xs) (b ∷ ys) h =
    let given : GiveAlike (on_clock a.session moment) (on_clock b.session moment) = clock-alike a.session b.session moment h.0.sessions in
    (record { number = h.0.number; stream = h.0.stream; sessions = given.machines }, ticked_alike moment xs ys h.1)

bytes_alike : (config : Config) (moment : ℤ) (a b : Connection) (piece : List ℕ) → ConnectionsAlike a b
    → SubmitAlike (work_of_bytes config moment a piece) (work_of_bytes config moment b piece)
bytes_alike config moment a b piece x =
    let first = reading_submits-alike config a.number moment a.session b.session (reading_behind a.stream piece) x.sessions in
    subst (λ (n : ℕ). SubmitAlike (work_of_bytes config moment a piece) (work_of_reading config n moment b.session (reading_behind b.stream piece))) x.number
    (subst (λ (s : List ℕ). SubmitAlike (work_of_bytes config moment a piece) (work_of_reading config a.number moment b.session (reading_behind s piece))) x.stream first)

-- the same commands, and feeds that are alike
pub record WorkAlike (a b : LineWork) : Type 0 where
  pub states : FeedsAlike a.state b.state
  pub submissions : a.submissions ≡ b.submissions

line_alike : (a b : FeedState) (line : Line) → FeedsAlike a b → WorkAlike (work_of_line a line) (work_of_line b line)
line_alike a b (Moment moment) x = record {
  states = record { config = x.config; moment = refl; connections = ticked_alike moment a.connections b.connections x.connections };
  submissions = refl;
}
line_alike a b (Quote symbol command) x = record { states = x; submissions = refl }
line_alike a b (Piece number bytes) x =
    let c = at_alike a b number x in
    let mine : SubmitAlike (work_of_bytes a.config a.moment (connection_at a number) bytes) (work_of_bytes b.config b.moment (connection_at b number) bytes) =
    subst (λ (k : Config). SubmitAlike (work_of_bytes a.config a.moment (connection_at a number) bytes) (work_of_bytes k b.moment (connection_at b number) bytes)) x.config
    (subst (λ (m : ℤ). SubmitAlike (work_of_bytes a.config a.moment (connection_at a number) bytes) (work_of_bytes a.config m (connection_at b number) bytes)) x.moment
    (bytes_alike a.config a.moment (connection_at a number) (connection_at b number) bytes c)) in
    record {
      states = record {
        config = x.config;
        moment = x.moment;
        connections = zip_with a.connections b.connections number (fed a.config a.moment (connection_at a number) bytes) (fed b.config b.moment (connection_at b number) bytes)
            (record { number = c.number; stream = ap (λ (s : List ℕ). s ++ bytes) c.stream; sessions = mine.sessions }) x.connections;
      };
      submissions = mine.submissions;
    }
line_alike a b (Open number) x =
    let c = at_alike a b number x in
    record {
      states = record {
        config = x.config;
        moment = x.moment;
        connections = zip_with a.connections b.connections number (reconnected (connection_at a number)) (reconnected (connection_at b number))
            (record { number = c.number; stream = refl; sessions = connected-alike (connection_at a number).session (connection_at b number).session c.sessions }) x.connections;
      };
      submissions = refl;
    }

-- the text of a line does alike, or is refused alike
abbrev pub TextAlike : Result LineWork LineFault → Result LineWork LineFault → Type 0
TextAlike (Ok a) (Ok b) = WorkAlike a b
TextAlike (Ok a) (Err fault) = ⊥
TextAlike (Err fault) (Ok b) = ⊥
TextAlike (Err fault) (Err other) = fault ≡ other

read_alike : (a b : FeedState) (read : Result Line LineFault) → FeedsAlike a b → TextAlike (work_of_read a read) (work_of_read b read)
read_alike a b (Ok line) x = line_alike a b line x
read_alike a b (Err fault) x = refl

pub text_alike : (a b : FeedState) (text : List ℕ) → FeedsAlike a b → TextAlike (work_of_text a text) (work_of_text b text)
unfolding work_of_text
text_alike a b text x =
    subst (λ (k : Config). TextAlike (work_of_read a (read_of a.config text)) (work_of_read b (read_of k text))) x.config
    (read_alike a b (read_of a.config text) x)
