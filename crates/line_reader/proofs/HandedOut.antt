-- A line that is held is handed out.
use Rattle.std.proofs.Common.{◌≡◌, ℕ, ◌+◌, ◌-◌, ◌≤◌, List, Option, length, take, drop, slice_range, arith, length-take, nat_lt, refl, ap, subst}
use Rattle.std.proofs.lemmas.List.{take-take, drop-take, drop-drop}
use Rattle.line_reader.specs.Reading.{Reading, Reads, reading, holds}
use Rattle.line_reader.specs.Seeking.{HoldsLine}
use Rattle.line_reader.specs.NextLines.{HandsOut}

-- the front of a part
part_front : (items : List ℕ) (start end len : ℕ) → len ≤ end - start → take len (slice_range items start end) ≡ take len (drop start items)
part_front items start end len h = take-take len (end - start) (drop start items) h

-- the rest of a part
part_rest : (items : List ℕ) (start end n : ℕ) → n ≤ end - start → drop n (slice_range items start end) ≡ slice_range items (start + n) end
part_rest items start end n h =
    let split : end - start ≡ n + (end - (start + n)) = omega arith in
    rw (split, drop-take n (end - (start + n)) (drop start items), drop-drop n start items) refl

same_reading : (lines bytes most lines' bytes' most' : ℕ) (held : List ℕ) → lines ≡ lines' → bytes ≡ bytes' → most ≡ most'
    → (let x : Reading = record { lines = lines; bytes = bytes; most = most; held = held } in x)
    ≡ record { lines = lines'; bytes = bytes'; most = most'; held = held }
same_reading lines bytes most lines' bytes' most' held e f g = rw (e, f, g) refl

pub handed_out : (old : Reading) (items : List ℕ) (lines bytes most start end len : ℕ) (before left : Option (List ℕ))
    → reading lines bytes most items start end ≡ holds old (slice_range items start end)
    → Reads before left old.held (slice_range items start end) → HoldsLine (slice_range items start end) len
    → HandsOut old (reading (lines + 1) (bytes + (len + 1)) most items (start + len + 1) end) before left
    (take (start + len - start) (drop start items)) (nat_lt most (bytes + (len + 1)))
handed_out old items lines bytes most start end len before left same reads line =
    let size : length (slice_range items start end) ≤ end - start = omega (arith, length-take (end - start) (drop start items)) in
    let same_len : start + len - start ≡ len = omega arith in
    let text : take len (slice_range items start end) ≡ take (start + len - start) (drop start items) =
    rw same_len (part_front items start end len (omega (arith, line.inside, size))) in
    let place : start + len + 1 ≡ start + (len + 1) = omega arith in
    let rest : drop (len + 1) (slice_range items start end) ≡ slice_range items (start + len + 1) end =
    rw place (part_rest items start end (len + 1) (omega (arith, line.inside, size))) in
    let long : length (take (start + len - start) (drop start items)) ≡ len =
    rw (← text) (omega (arith, length-take len (slice_range items start end), line.inside)) in
    record {
      clear = rw (← text) line.clear;
      short = omega (arith, long, line.short);
      reads = subst (Reads before left old.held) (rw (← text, ← rest) line.whole) reads;
      next = same_reading _ _ _ _ _ _ (slice_range items (start + len + 1) end) (ap (λ (r : Reading). r.lines + 1) same)
          (omega (arith, long, ap (λ (r : Reading). r.bytes) same)) (ap (λ (r : Reading). r.most) same);
      over = ap (λ (r : Reading). nat_lt r.most (bytes + (len + 1))) same;
    }
