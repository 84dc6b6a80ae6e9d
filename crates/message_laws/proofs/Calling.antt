-- The answers over any list of calls are those of the whole stream.
use Rattle.std.proofs.Common.{◌≡◌, ℕ, ◌+◌, List, [], ◌∷◌, ◌++◌, length, drop, refl, sym, ◌∙◌, ap, arith, append_assoc, length-append, length-drop}
use Rattle.std.proofs.lemmas.List.{append-nil, drop-drop, drop-append-le}
use Rattle.fix_frames.specs.Streams.{Stream, beginning, EndsWith, GoesOn}
use Rattle.fix_frames.specs.Reading.{none_yet, only_too_long, with_frames, reading_of}
use Rattle.fix_frames.specs.ReadingLaws.{reading-given, reading-waited, reading-none, reading-exceeded, reading-exceeded_on}
use Rattle.message_laws.specs.Calls.{Call, feeds, gave, waited, exceeded, Leads, bytes_fed, frames_given}

-- the frames of all bytes fed, whatever follows, are those that were given, and then those of the bytes kept
pub reading-calls : (calls : List Call) (old new : Stream) (more : List ℕ) → Leads old calls new → reading_of (old.kept ++ (bytes_fed calls ++ more)) ≡ with_frames (frames_given calls) (reading_of (new.kept ++ more))
reading-calls [] old new more h = ap (λ (s : Stream). reading_of (s.kept ++ more)) h
reading-calls (feeds piece ∷ calls) old new more h =
    ap (λ (x : List ℕ). reading_of (old.kept ++ x)) (append_assoc piece (bytes_fed calls) more) ∙ ap reading_of (sym (append_assoc old.kept piece (bytes_fed calls ++ more))) ∙ reading-calls calls _ new more h.1
reading-calls (gave frame ∷ calls) old new more h =
    reading-given old h.0 frame (bytes_fed calls ++ more) h.1 ∙ ap (with_frames (frame ∷ [])) (reading-calls calls h.0 new more h.2)
reading-calls (waited ∷ calls) old new more h = reading-waited old h.0 (bytes_fed calls ++ more) h.1 ∙ reading-calls calls h.0 new more h.2
reading-calls (exceeded ∷ calls) old new more h =
    reading-exceeded old h.0 (bytes_fed calls ++ more) h.1 ∙ sym (reading-exceeded_on old h.0 (bytes_fed calls ++ more) h.1) ∙ reading-calls calls h.0 new more h.2

-- the stream between two lists of calls
leads-append : (calls further : List Call) (old new : Stream) → Leads old (calls ++ further) new → (middle : Stream) × Leads old calls middle × Leads middle further new
leads-append [] further old new h = (old, refl, h)
leads-append (feeds piece ∷ calls) further old new h =
    let rest = leads-append calls further _ new h.1 in (rest.0, (h.0, rest.1), rest.2)
leads-append (gave frame ∷ calls) further old new h =
    let rest = leads-append calls further h.0 new h.2 in (rest.0, (h.0, h.1, rest.1), rest.2)
leads-append (waited ∷ calls) further old new h =
    let rest = leads-append calls further h.0 new h.2 in (rest.0, (h.0, h.1, rest.1), rest.2)
leads-append (exceeded ∷ calls) further old new h =
    let rest = leads-append calls further h.0 new h.2 in (rest.0, (h.0, h.1, rest.1), rest.2)

-- where the last answer is that there is no further frame yet, the frames that were given are all of the stream so far
pub reading-at_wait : (calls : List Call) (new : Stream) → Leads beginning (calls ++ waited ∷ []) new → reading_of (bytes_fed calls) ≡ with_frames (frames_given calls) none_yet
reading-at_wait calls new h =
    let split = leads-append calls (waited ∷ []) beginning new h in
    let middle = split.0 in
    ap reading_of (sym (append-nil (bytes_fed calls))) ∙ reading-calls calls beginning middle [] split.1
    ∙ ap (with_frames (frames_given calls)) (ap reading_of (append-nil middle.kept) ∙ reading-none middle split.2.0 split.2.1)

-- where it is that the next frame is too long, that frame comes behind those that were given, whatever follows
pub reading-at_limit : (calls : List Call) (new : Stream) (more : List ℕ) → Leads beginning (calls ++ exceeded ∷ []) new → reading_of (bytes_fed calls ++ more) ≡ with_frames (frames_given calls) only_too_long
reading-at_limit calls new more h =
    let split = leads-append calls (exceeded ∷ []) beginning new h in
    let middle = split.0 in
    reading-calls calls beginning middle more split.1 ∙ ap (with_frames (frames_given calls)) (reading-exceeded middle split.2.0 more split.2.1)

goes_on : (bytes : List ℕ) (old next : Stream) (n : ℕ) → EndsWith bytes old → GoesOn old next n → EndsWith bytes next
goes_on bytes old next n ends goes = record {
  passed = omega (arith, goes.passed, goes.inside, ap length ends.kept, length-drop old.passed bytes, ends.passed);
  kept =
      ap (λ (k : ℕ). drop k bytes) goes.passed ∙ sym (drop-drop n old.passed bytes) ∙ ap (drop n) ends.kept ∙ sym goes.kept;
}

ends-calls : (calls : List Call) (bytes : List ℕ) (old new : Stream) → EndsWith bytes old → Leads old calls new → EndsWith (bytes ++ bytes_fed calls) new
ends-calls [] bytes old new ends h =
    record { passed = omega (arith, ends.passed, ap (λ (s : Stream). s.passed) h, ap length (append-nil bytes)); kept = ap (λ (s : Stream). drop s.passed (bytes ++ [])) (sym h) ∙ ap (drop old.passed) (append-nil bytes) ∙ ends.kept ∙ ap (λ (s : Stream). s.kept) h }
ends-calls (feeds piece ∷ calls) bytes old new ends h =
    let more : EndsWith (bytes ++ piece) (record { passed = old.passed; kept = old.kept ++ piece; held = h.0 }) = record {
      passed = omega (arith, ends.passed, length-append bytes piece);
      kept = drop-append-le old.passed bytes piece ends.passed ∙ ap (λ (k : List ℕ). k ++ piece) ends.kept;
    } in
    let all = ends-calls calls (bytes ++ piece) _ new more h.1 in
    record { passed = omega (arith, all.passed, ap length (append_assoc bytes piece (bytes_fed calls))); kept = ap (drop new.passed) (sym (append_assoc bytes piece (bytes_fed calls))) ∙ all.kept }
ends-calls (gave frame ∷ calls) bytes old new ends h =
    ends-calls calls bytes h.0 new (goes_on bytes old h.0 (h.1.0 + length frame) ends h.1.1) h.2
ends-calls (waited ∷ calls) bytes old new ends h = ends-calls calls bytes h.0 new (goes_on bytes old h.0 h.1.0 ends h.1.1) h.2
ends-calls (exceeded ∷ calls) bytes old new ends h = ends-calls calls bytes h.0 new (goes_on bytes old h.0 h.1.0 ends h.1.1) h.2

-- what is kept is the end of all bytes fed, behind those that were passed over or given
pub kept-calls : (calls : List Call) (new : Stream) → Leads beginning calls new → EndsWith (bytes_fed calls) new
kept-calls calls new h = ends-calls calls [] beginning new (record { passed = omega arith; kept = refl }) h
