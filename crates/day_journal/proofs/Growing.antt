-- What a crash leaves while a file is made longer ahead of its lines.
use Rattle.std.proofs.Common.{◌≡◌, ℕ, ◌+◌, ◌-◌, ◌<◌, Bool, false, List, [], ◌++◌, length, take, drop, sym, ◌∙◌, ap, subst, arith, length-append, length-drop}
use Rattle.std.proofs.lemmas.List.{take-take, length-take-le}
use Rattle.day_journal.specs.Disk.{Told, Torn, Only, LeavesOnly, overwritten}
use Rattle.day_journal.specs.DiskLaws.{weaker, goes_on}
use Rattle.day_journal.specs.Log.{Reading, intact, reading, size_of, ReadsAs}
use Rattle.day_journal.specs.LogView.{IsAtRest, Rests}
use Rattle.day_journal.specs.LogLaws.{same_byte}
use Rattle.day_journal.proofs.Append.{torn_behind}
use Rattle.day_journal.proofs.Recorded.{torn_new}

abbrev made : List (List ℕ) → Bool → Reading
made lines damaged = record { lines = lines; damaged = damaged }

undamaged_is : (r : Reading) → r.damaged ≡ false → r ≡ intact r.lines
undamaged_is r fine = ap (made r.lines) fine

torn_end : (file c : List ℕ) (gate n : ℕ) → gate < length file → Torn (length file) n file c → Torn (gate + 1) (length file + n - (gate + 1)) file c
torn_end file c gate n inside torn =
    let end : length file + n ≡ gate + 1 + (length file + n - (gate + 1)) = omega (arith, inside) in
    record {
      before = sym (take-take (gate + 1) (length file) c (omega (arith, inside))) ∙ ap (λ (l : List ℕ). take (gate + 1) l) torn.before ∙ take-take (gate + 1) (length file) file (omega (arith, inside));
      after = subst (λ (k : ℕ). drop k c ≡ drop k file) end torn.after;
      no_shorter = torn.no_shorter;
      no_longer = omega (arith, torn.no_longer, end);
    }

-- a file that is torn at its end alone reads the same
end_reads : (disk : Told) (n : ℕ) (c : List ℕ) → Rests disk → Torn (length disk.seen) n disk.seen c → reading c ≡ reading disk.seen
end_reads disk n c rest torn =
    let gate = size_of (reading disk.seen).lines in
    torn_behind disk.seen gate rest.undamaged rest.size rest.inside rest.closed (length disk.seen + n - (gate + 1)) c (torn_end disk.seen c gate n rest.inside torn)
    ∙ sym (undamaged_is (reading disk.seen) rest.undamaged)

new_torn : (disk new : Told) (bytes : List ℕ) → new.seen ≡ overwritten disk.seen (length disk.seen) bytes → Torn (length disk.seen) (length bytes) disk.seen new.seen
new_torn disk new bytes is = subst (λ (f : List ℕ). Torn (length disk.seen) (length bytes) disk.seen f) (sym is) (torn_new disk.seen [] (length disk.seen) bytes (omega arith))

pub grown_reads : (disk new : Told) (bytes : List ℕ) → Rests disk → new.seen ≡ overwritten disk.seen (length disk.seen) bytes → reading new.seen ≡ reading disk.seen
grown_reads disk new bytes rest is = end_reads disk (length bytes) new.seen rest (new_torn disk new bytes is)

pub grown_rests : (disk new : Told) (bytes : List ℕ) → Rests disk → new.seen ≡ overwritten disk.seen (length disk.seen) bytes → Only new.seen new.may_leave → Rests new
grown_rests disk new bytes rest is only =
    let gate = size_of (reading disk.seen).lines in
    let torn = new_torn disk new bytes is in
    let reads : reading new.seen ≡ reading disk.seen = grown_reads disk new bytes rest is in
    let here : IsAtRest gate new = record {
      undamaged = ap (λ (r : Reading). r.damaged) reads ∙ rest.undamaged;
      size = ap (λ (r : Reading). size_of r.lines) reads;
      inside = omega (arith, torn.no_shorter, rest.inside);
      closed = λ one. rest.closed (sym (same_byte (length disk.seen) gate disk.seen new.seen rest.inside torn.before) ∙ one);
      durable = only;
    } in
    subst (λ (k : ℕ). IsAtRest k new) (sym here.size) here

pub grown_size : (disk new : Told) (bytes : List ℕ) → new.seen ≡ overwritten disk.seen (length disk.seen) bytes → length disk.seen + length bytes ≡ length new.seen
grown_size disk new bytes is =
    let file = disk.seen in
    let end = length file + length bytes in
    omega (arith, ap length is, length-take-le (length file) file (omega arith), length-append (take (length file) file) (bytes ++ drop end file), length-append bytes (drop end file), length-drop end file)

-- a call that writes nothing
pub quiet_reads : (old new : Told) → Only old.seen old.may_leave → LeavesOnly old new old.may_leave → LeavesOnly old new (ReadsAs (reading old.seen))
quiet_reads old new only run = weaker old new _ _ run (λ c may. ap reading (only c may))

-- one piece more
pub grown_crash : (old mid new : Told) (n : ℕ) → Rests mid → reading mid.seen ≡ reading old.seen → LeavesOnly old mid (ReadsAs (reading old.seen))
    → LeavesOnly mid new (λ c. Torn (length mid.seen) n mid.seen c) → LeavesOnly old new (ReadsAs (reading old.seen))
grown_crash old mid new n rest same first second = goes_on old mid new _ _ first second (λ c torn. end_reads mid n c rest torn ∙ same)
