-- What a command finds made ahead for it.
use Rattle.std.specs.Prelude.{◌≡◌, ℕ, List}
use Rattle.venue_words.specs.declared.command.Command.{Command}
use Rattle.venue_words.specs.declared.command.Command.TheVariants.{Quote, New, Cancel, Replace, Status}
use Rattle.symbol_book.specs.declared.room.CommandIds.{CommandIds}

-- a command's own id, and copies of it for the order and for the report
pub record CopiesOwn (member : ℕ) (id : List ℕ) (room : CommandIds) : Type 0 where
  pub owner : room.own.member ≡ member
  pub own : room.own.id ≡ id
  pub sender : room.copies.member ≡ member
  pub order : room.copies.order ≡ id
  pub shown : room.copies.shown ≡ id

-- a copy of the id that a command names an order by
pub record CopiesOrig (member : ℕ) (id : List ℕ) (room : CommandIds) : Type 0 where
  pub owner : room.copies.orig.member ≡ member
  pub orig : room.copies.orig.id ≡ id

-- the room has the ids that the command wants
abbrev pub IsRoomFor : Command → CommandIds → Type 0
IsRoomFor (Quote market bid offer) room = Unit {0}
IsRoomFor (New member id terms) room = CopiesOwn member id room
IsRoomFor (Cancel member id orig) room = CopiesOwn member id room × CopiesOrig member orig room
IsRoomFor (Replace member id orig terms) room = CopiesOwn member id room × CopiesOrig member orig room
IsRoomFor (Status member id side) room = CopiesOrig member id room
