-- A connection from its greeting to the desk that is given back.
use Rattle.std.proofs.Common.{◌≡◌, ◌∷◌, [], ℕ, zero, suc, List, Option, Some, None, slice_set, option_map, refl, sym, ◌∙◌, ap, inr}
use Rattle.std.specs.Prelude.{Ok, IfSome}
use Rattle.io_edge.specs.Links.{CountsEnds}
use Rattle.io_edge.specs.declared.link.Pulled.{Pulled}
use Rattle.io_edge.specs.declared.link.Pulled.TheVariants.{Bytes, Quiet, End}
use Rattle.member_gate.specs.Desks.{DeskView, connected_desk, desk_at}
use Rattle.line_work.proofs.DeskWork.{nothing_read}
use Rattle.serve_core.specs.Connections.{ToldDesks, served_by}
use Rattle.serve_core.specs.Rounds.{Serves}

-- a desk serves his member at a new connection
pub serves_new : (desk : DeskView) → Serves (connected_desk desk) (served_by desk)
serves_new desk = record {
  desk_is = record { number = refl; session = refl; stream = inr nothing_read };
  cursors_are = refl;
}

set_twice : {A : Type 0} (xs : List A) (k : ℕ) (x y : A) → slice_set (slice_set xs k x) k y ≡ slice_set xs k y
set_twice [] k x y = refl
set_twice (a ∷ xs) zero x y = refl
set_twice (a ∷ xs) (suc k) x y = ap (λ (ys : List _). a ∷ ys) (set_twice xs k x y)

-- the desk that is given stands where one was taken
pub given_back : (desks mid after : ToldDesks) (member : ℕ) (last : DeskView)
    → mid ≡ option_map (λ each. slice_set each member None) desks
    → after ≡ option_map (λ each. slice_set each member (Some last)) mid
    → after ≡ option_map (λ each. slice_set each member (Some last)) desks
given_back None mid after member last e k = k ∙ ap (option_map (λ (each : List (Option DeskView)). slice_set each member (Some last))) e
given_back (Some each) mid after member last e k =
    k ∙ ap (option_map (λ (xs : List (Option DeskView)). slice_set xs member (Some last))) e
    ∙ ap Some (set_twice each member None (Some last))

-- where the end was not answered the count of ends is as it was
pub no_more_ends : (before now : ℕ) (pulled : Pulled) → CountsEnds before now (Ok pulled) → (pulled ≡ End → ⊥) → now ≡ before
no_more_ends before now (Bytes n) counts not = counts
no_more_ends before now Quiet counts not = counts
no_more_ends before now End counts not = absurd (not refl)

-- the desk that was taken stood there
pub stood_at : (desks : ToldDesks) (member : ℕ) (result : Option DeskView) (desk : DeskView) → result ≡ Some desk
    → IfSome desks (λ each. result ≡ desk_at each member) → IfSome desks (λ each. desk_at each member ≡ Some desk)
stood_at None member result desk is at = tt
stood_at (Some each) member result desk is at = sym at ∙ is
