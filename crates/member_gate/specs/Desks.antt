-- A member's desk as it is seen.
use Rattle.std.specs.Prelude.{◌≡◌, ℕ, ℤ, List, [], ◌++◌, length, map, slice_index_or, Option, None, IfSome}
use Rattle.std.specs.List.{range_with_len}
use Rattle.fix_frames.specs.Reading.{reading_of}
use Rattle.venue_words.specs.declared.config.Config.{Config}
use Rattle.session_core.specs.Machine.{Machine, fresh, connected}
use Rattle.member_gate.specs.Answering.{Work, name_at}
use Rattle.member_gate.specs.Working.{work_of_reading}

-- a desk: its member's number, his session, the bytes of his stream that are unread, how many reports of each symbol
-- were gone through, and how many commands the last piece submitted
pub record DeskView : Type 0 where
  pub member : ℕ
  pub session : Machine
  pub unread : List ℕ
  pub cursors : List ℕ
  pub submitted : ℕ

-- the desk of a member, before his first connection
abbrev pub fresh_desk : Config → ℕ → DeskView
fresh_desk config member =
    record {
      member = member;
      session = fresh (name_at config.members member);
      unread = [];
      cursors = [];
      submitted = 0;
    }

-- a new connection: nothing is unread, and numbers, messages and cursors stay
abbrev pub connected_desk : DeskView → DeskView
connected_desk desk = record desk { session = connected desk.session; unread = [] }

-- the work of the next piece of the stream
abbrev pub work_of_piece : Config → ℤ → DeskView → List ℕ → Work
work_of_piece config moment desk piece =
    work_of_reading config desk.member moment desk.session (reading_of (desk.unread ++ piece))

-- ---- the desks of all members

-- those of a config, before any connection
abbrev pub fresh_desks : Config → List DeskView
fresh_desks config = map (fresh_desk config) (range_with_len 0 (length config.members))

-- a desk for each member, in their order
abbrev pub AreInOrder : List DeskView → Type 0
AreInOrder desks = map (λ desk. desk.member) desks ≡ range_with_len 0 (length desks)

-- the desk that stands at a member, where one does
abbrev pub desk_at : List (Option DeskView) → ℕ → Option DeskView
desk_at desks member = slice_index_or desks member None

-- a table of desks, and how often one was asked for that was not there
pub record DeskTableView : Type 0 where
  pub desks : List (Option DeskView)
  pub refused : ℕ

-- each desk stands at its own member
abbrev pub AreOwn : List (Option DeskView) → Type 0
AreOwn desks = (member : ℕ) → IfSome (desk_at desks member) (λ desk. desk.member ≡ member)
