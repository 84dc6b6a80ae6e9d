-- At a line only the session of its own member comes up, and only if it was not up.
use Rattle.std.proofs.Common.{◌≡◌, ℕ, zero, suc, ◌+◌, ℤ, Bool, true, false, cond, List, [], ◌∷◌, map, slice_get, slice_set, unwrap_or, Option, Some, None, refl, sym, ◌∙◌, ap, subst, arith}
use Rattle.std.specs.List.{AllZip, range_with_len}
use Rattle.session_core.specs.Machine.{Machine, Outcome, IsUp, rests, ticks, on_clock}
use Rattle.session_core.specs.State.{is_up}
use Rattle.member_gate.specs.Desks.{DeskView}
use Rattle.script_text.specs.declared.body.Line.{Line}
use Rattle.script_text.specs.declared.body.Line.TheVariants.{Moment, Quote, Piece, Open}
use Rattle.line_work.specs.FeedState.{FeedState, Connection, new_connection}
use Rattle.line_work.specs.LineWork.{ticked, fed, reconnected, work_of_line}
use Rattle.line_work.specs.Standing.{IsDeskOf}
use Rattle.replay_core.specs.News.{own_of, KeepsDown}

-- what a session that is up gives, and another does not
pub where_up : (session : Machine) (up : Bool) (given : Outcome) → is_up session.state ≡ up
    → IsUp (cond up given (rests session)).machine → IsUp session
where_up session true given e h = e
where_up session false given e h = h

clock_down : (session : Machine) (moment : ℤ) → IsUp (on_clock session moment).machine → IsUp session
unfolding on_clock
clock_down session moment h = where_up session (is_up session.state) (ticks session moment) refl h

-- ---- connections

stays : (own : Option ℕ) (c : Connection) → KeepsDown own c c
stays own c = record { number = refl; down = λ other up. up }

zip_same : (own : Option ℕ) (cs : List Connection) → AllZip (KeepsDown own) cs cs
zip_same own [] = tt
zip_same own (c ∷ cs) = (stays own c, zip_same own cs)

zip_each : (own : Option ℕ) (f : Connection → Connection) (cs : List Connection) → ((c : Connection) → KeepsDown own c (f c))
    → AllZip (KeepsDown own) cs (map f cs)
zip_each own f [] h = tt
zip_each own f (c ∷ cs) h = (h c, zip_each own f cs h)

zip_put : (own : Option ℕ) (f : Connection → Connection) (cs : List Connection) (number : ℕ) (other : Connection)
    → ((c : Connection) → slice_get cs number ≡ Some c → KeepsDown own c (f c))
    → AllZip (KeepsDown own) cs (slice_set cs number (f (unwrap_or (slice_get cs number) other)))
zip_put own f [] number other h = tt
zip_put own f (c ∷ cs) zero other h = (h c refl, zip_same own cs)
zip_put own f (c ∷ cs) (suc number) other h = (stays own c, zip_put own f cs number other h)

-- the connection of a place has its number
number_from : (cs : List Connection) (a n i : ℕ) (c : Connection) → map (λ (c : Connection). c.number) cs ≡ range_with_len a n
    → slice_get cs i ≡ Some c → c.number ≡ a + i
number_from [] a n i c h e = absurd (cc)
number_from (c0 ∷ cs) a zero i c h e = absurd (cc)
number_from (c0 ∷ cs) a (suc n) zero c h e =
    let first : c0.number ≡ a = cc in
    let here : c0 ≡ c = cc in
    let same : c0.number ≡ c.number = ap (λ (x : Connection). x.number) here in
    omega arith
number_from (c0 ∷ cs) a (suc n) (suc i) c h e =
    let rest : map (λ (c : Connection). c.number) cs ≡ range_with_len (a + 1) n = cc in
    let more = number_from cs (a + 1) n i c rest e in
    omega arith

pub numbers_same : (ds : List DeskView) (cs : List Connection) → AllZip IsDeskOf ds cs
    → map (λ (d : DeskView). d.member) ds ≡ map (λ (c : Connection). c.number) cs
numbers_same [] [] h = refl
numbers_same [] (c ∷ cs) h = absurd h
numbers_same (d ∷ ds) [] h = absurd h
numbers_same (d ∷ ds) (c ∷ cs) h =
    let first = h.0.number in
    let rest = numbers_same ds cs h.1 in
    cc

-- the desk of a connection
found_desk : (ds : List DeskView) (cs : List Connection) (number : ℕ) (c : Connection) → AllZip IsDeskOf ds cs → slice_get cs number ≡ Some c
    → (d : DeskView) × (slice_get ds number ≡ Some d) × IsDeskOf d c
found_desk [] [] number c h e = absurd (cc)
found_desk [] (c0 ∷ cs) number c h e = absurd h
found_desk (d ∷ ds) [] number c h e = absurd h
found_desk (d ∷ ds) (c0 ∷ cs) zero c h e = let here : c0 ≡ c = cc in (d, refl, subst (λ (x : Connection). IsDeskOf d x) here h.0)
found_desk (d ∷ ds) (c0 ∷ cs) (suc number) c h e = found_desk ds cs number c h.1 e

-- ---- a line

-- this is the line's own member, or none where his session is up
pub record IsOwn (desks : List DeskView) (line : Line) (own : Option ℕ) : Type 0 where
  pub some : (member : ℕ) → own ≡ Some member → own_of line ≡ Some member
  pub none : (member : ℕ) (desk : DeskView) → own ≡ None → own_of line ≡ Some member → slice_get desks member ≡ Some desk → IsUp desk.session

piece_kept : (state : FeedState) (desks : List DeskView) (number n : ℕ) (bytes : List ℕ) (own : Option ℕ)
    → map (λ (c : Connection). c.number) state.connections ≡ range_with_len 0 n
    → AllZip IsDeskOf desks state.connections → IsOwn desks (Piece number bytes) own
    → (c : Connection) → slice_get state.connections number ≡ Some c
    → KeepsDown own c (fed state.config state.moment c bytes)
piece_kept state desks number n bytes None h zip is c e = record {
  number = refl;
  down = λ other up.
      let x = found_desk desks state.connections number c zip e in
      subst (λ (s : Machine). IsUp s) x.2.session (is.none number x.0 refl refl x.1);
}
piece_kept state desks number n bytes (Some member) h zip is c e = record {
  number = refl;
  down = λ other up. absurd (other (
      let place = number_from state.connections 0 n number c h e in
      let mine = is.some member refl in
      let same : number ≡ c.number = omega arith in
      sym mine ∙ ap Some same));
}

pub line_kept : (state : FeedState) (desks : List DeskView) (line : Line) (own : Option ℕ) (n : ℕ)
    → map (λ (c : Connection). c.number) state.connections ≡ range_with_len 0 n
    → AllZip IsDeskOf desks state.connections → IsOwn desks line own
    → AllZip (KeepsDown own) state.connections (work_of_line state line).state.connections
line_kept state desks (Moment moment) own n h zip is =
    zip_each own (ticked moment) state.connections (λ c. record { number = refl; down = λ other up. clock_down c.session moment up })
line_kept state desks (Quote symbol command) own n h zip is = zip_same own state.connections
line_kept state desks (Piece number bytes) own n h zip is =
    zip_put own (λ c. fed state.config state.moment c bytes) state.connections number (new_connection state.config number)
    (piece_kept state desks number n bytes own h zip is)
line_kept state desks (Open number) own n h zip is =
    zip_put own reconnected state.connections number (new_connection state.config number)
    (λ c e. record { number = refl; down = λ other up. absurd (cc) })
