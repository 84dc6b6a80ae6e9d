-- What is sent again one number after the other is what is sent again as a whole.
use Rattle.std.proofs.Common.{◌≡◌, ℕ, ◌+◌, List, [], ◌∷◌, ◌++◌, Option, Some, None, refl, ap, sym, ◌∙◌}
use Rattle.std.specs.Prelude.{map, unwrap_or, ℤ}
use Rattle.session_core.specs.declared.message.Kept.{Kept}
use Rattle.session_core.specs.Resent.{Resent, Again, Gap, with_run, resent, resent_frame, frames_at, frames_from}

-- a run that has begun goes on into what comes behind it
abbrev pub after_run : Option ℕ → ℕ → List Resent → List Resent
after_run None number others = others
after_run (Some first) number others = with_run first number others

-- a run that goes on by one number
run_goes_on : (run : Option ℕ) (number : ℕ) (others : List Resent) →
    after_run (Some (unwrap_or run number)) (number + 1) others ≡ after_run run number (with_run number (number + 1) others)
run_goes_on None number others = refl
run_goes_on (Some first) number [] = refl
run_goes_on (Some first) number (Again place kept ∷ others) = refl
run_goes_on (Some first) number (Gap behind end ∷ others) = refl

-- the run before an application message
run_ends : (member : List ℕ) (moment : ℤ) (run : Option ℕ) (number : ℕ) (kept : Kept) (others : List Resent) →
    map (resent_frame member moment) (after_run run number (Again number kept ∷ others))
    ≡ frames_at member moment run number (Some kept) ++ map (resent_frame member moment) others
run_ends member moment None number kept others = refl
run_ends member moment (Some first) number kept others = refl

pub frames_after_run : (member : List ℕ) (moment : ℤ) (run : Option ℕ) (number : ℕ) (entries : List (Option Kept)) →
    frames_from member moment run number entries ≡ map (resent_frame member moment) (after_run run number (resent number entries))
unfolding frames_from
frames_after_run member moment None number [] = refl
frames_after_run member moment (Some first) number [] = refl
frames_after_run member moment run number (Some kept ∷ entries) =
    ap (λ rest. frames_at member moment run number (Some kept) ++ rest) (frames_after_run member moment None (number + 1) entries)
    ∙ sym (run_ends member moment run number kept (resent (number + 1) entries))
frames_after_run member moment run number (None ∷ entries) =
    frames_after_run member moment (Some (unwrap_or run number)) (number + 1) entries
    ∙ ap (map (resent_frame member moment)) (run_goes_on run number (resent (number + 1) entries))

pub frames_of_resent : (member : List ℕ) (moment : ℤ) (number : ℕ) (entries : List (Option Kept)) →
    frames_from member moment None number entries ≡ map (resent_frame member moment) (resent number entries)
frames_of_resent member moment number entries = frames_after_run member moment None number entries
