-- What a Vec holds once bytes in it were replaced in place.
use Rattle.std.proofs.Common.{◌≡◌, ℕ, ◌+◌, ◌-◌, ◌≤◌, ◌∙◌, true, List, [], Some, ◌++◌, map, length, take, drop, refl, sym, ap, arith, append-nil, length-append, length-drop}
use Rattle.std.proofs.Math.Seq.{take-append_seam, drop-append_seam}
use Rattle.std.proofs.lemmas.List.{drop_all, take_all, length-map}
use Rattle.std.specs.List.{list_all}
use Rattle.script_text.specs.Escaping.{is_plain_or, replaced, escape_text, text_of}
use Rattle.script_text.proofs.Texts.{plain_text, plain_bytes}
use borrow.Rule.Slice.PartMut.{mid_of, post_of, put_mid}

whole_written : (items ys : List ℕ) (n : ℕ) → length items ≤ length ys → length ys ≤ n → take n (ys ++ drop (length ys) items) ≡ ys
whole_written items ys n e h =
    let none : drop (length ys) items ≡ [] = drop_all (length ys) items e in
    rw (none, append-nil) (take_all n ys h)

end_written : (old row items ys : List ℕ) (start k n : ℕ) → take start row ≡ old → length row ≤ start + k → length items ≤ length old + length ys
    → length old + length ys ≤ n → take n (put_mid start k row ys ++ drop (length (put_mid start k row ys)) items) ≡ old ++ ys
end_written old row items ys start k n front whole few room =
    let post : post_of start k row ≡ [] = drop_all k (drop start row) (omega (arith, length-drop start row)) in
    let put : put_mid start k row ys ≡ old ++ ys = rw (post, append-nil, front) refl in
    rw put (whole_written items (old ++ ys) n (omega (arith, length-append old ys)) (omega (arith, length-append old ys)))

pub plain_pushed : (old bytes row items ys : List ℕ) (start n : ℕ) → row ≡ old ++ bytes → items ≡ row → start ≡ length old → n ≡ length old + length bytes
    → list_all (is_plain_or 1) bytes ≡ true → ys ≡ map (replaced 1 124) (mid_of start (length row - start) row)
    → take n (put_mid start (length row - start) row ys ++ drop (length (put_mid start (length row - start) row ys)) items) ≡ old ++ escape_text bytes
plain_pushed old bytes row items ys start n filled same begin room plain swap =
    let size : length row ≡ length old + length bytes = ap length filled ∙ length-append old bytes in
    let front : take start row ≡ old = rw (filled, begin) (take-append_seam old bytes) in
    let behind : drop start row ≡ bytes = rw (filled, begin) (drop-append_seam old bytes) in
    let part : mid_of start (length row - start) row ≡ bytes = rw behind (take_all (length row - start) bytes (omega arith)) in
    let text : ys ≡ map (replaced 1 124) bytes = swap ∙ ap (map (replaced 1 124)) part in
    let long : length ys ≡ length bytes = ap length text ∙ length-map bytes (replaced 1 124) in
    let held : length items ≡ length row = ap length same in
    end_written old row items ys start (length row - start) n front (omega arith) (omega arith) (omega arith)
    ∙ ap (λ more. old ++ more) (text ∙ sym (plain_text bytes plain))

pub plain_read : (text row items ys : List ℕ) (n : ℕ) → items ≡ text → row ≡ items → n ≡ length text
    → list_all (is_plain_or 124) text ≡ true → ys ≡ map (replaced 124 1) row
    → text_of text ≡ Some (take n (ys ++ drop (length ys) items))
plain_read text row items ys n same filled room plain swap =
    let bytes : ys ≡ map (replaced 124 1) text = swap ∙ ap (map (replaced 124 1)) (filled ∙ same) in
    let long : length ys ≡ length text = ap length bytes ∙ length-map text (replaced 124 1) in
    let held : length items ≡ length text = ap length same in
    plain_bytes text plain ∙ ap Some (sym bytes ∙ sym (whole_written items ys n (omega arith) (omega arith)))
