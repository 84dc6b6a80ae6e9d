-- How a process holds the file that it has open.
use Rattle.std.specs.Prelude.{Bool, true, false, Result, Ok, Err, is_ok}
use Rattle.std.specs.declared.fs.TryLockError.{TryLockError}
use Rattle.std.specs.declared.fs.TryLockError.TheVariants.{Error as LockFault, WouldBlock}

pub record FileHold : Type 0 where
  -- it has the lock, so no other holder writes the file
  pub locked : Bool
  -- the folder was synced since the file was opened, so a crash does not lose the file's name
  pub named : Bool
  -- the last try to lock it found that another holds it
  pub elsewhere : Bool

-- a file that was just opened
abbrev pub just_opened : FileHold
just_opened = record { locked = false; named = false; elsewhere = false }

abbrev pub is_held_elsewhere : {A : Type 0} → Result A TryLockError → Bool
is_held_elsewhere (Ok done) = false
is_held_elsewhere (Err WouldBlock) = true
is_held_elsewhere (Err (LockFault error)) = false

-- how it is held after a try to lock it
abbrev pub after_lock : {A : Type 0} → FileHold → Result A TryLockError → FileHold
after_lock hold tried = record { locked = is_ok tried; named = hold.named; elsewhere = is_held_elsewhere tried }
