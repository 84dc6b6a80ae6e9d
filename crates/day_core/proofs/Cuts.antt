-- The lines of a text that goes on behind whole lines.
use Rattle.std.proofs.Common.{◌≡◌, ℕ, ◌+◌, ◌*◌, ◌≤◌, ◌==◌, Bool, true, false, cond, List, [], ◌∷◌, ◌++◌, length, refl, ◌∙◌, ap, arith}
use Rattle.day_journal.specs.Log.{size_of}
use Rattle.script_text.specs.Lines.{Cut, cut, has_end, onto_line}
use Rattle.script_text.specs.LinesLaws.{cut_first, cut_whole}
use Rattle.day_core.specs.Days.{lines_of}

-- lines, and then those of what stands behind them
abbrev then_lines : List (List ℕ) → Cut → Cut
then_lines lines more = record { lines = lines ++ more.lines; rest = more.rest }

onto_rest : (b : ℕ) (lines : List (List ℕ)) (rest : List ℕ) → (onto_line b lines rest).rest ≡ [] → rest ≡ []
onto_rest b [] rest e = absurd (cc)
onto_rest b (line ∷ lines) rest e = e

onto_more : (b : ℕ) (lines : List (List ℕ)) (rest : List ℕ) (more : Cut) → (onto_line b lines rest).rest ≡ []
    → onto_line b (lines ++ more.lines) more.rest ≡ then_lines (onto_line b lines rest).lines more
onto_more b [] rest more e = absurd (cc)
onto_more b (line ∷ lines) rest more e = refl

abbrev one_more : Bool → ℕ → Cut → Cut
one_more end b there = cond end (record { lines = [] ∷ there.lines; rest = there.rest }) (onto_line b there.lines there.rest)

goes_on : (end : Bool) (b : ℕ) (here there more : Cut) → (here.rest ≡ [] → there ≡ then_lines here.lines more)
    → (one_more end b here).rest ≡ [] → one_more end b there ≡ then_lines (one_more end b here).lines more
goes_on true b here there more h e = ap (one_more true b) (h e)
goes_on false b here there more h e =
    ap (one_more false b) (h (onto_rest b here.lines here.rest e)) ∙ onto_more b here.lines here.rest more e

pub cut_behind : (front more : List ℕ) → (cut front).rest ≡ [] → cut (front ++ more) ≡ then_lines (cut front).lines (cut more)
unfolding cut
cut_behind [] more e = refl
cut_behind (b ∷ front) more e = goes_on (b == 10) b (cut front) (cut (front ++ more)) (cut more) (cut_behind front more) e

pub lines_behind : (front more : List ℕ) → (cut front).rest ≡ [] → lines_of (front ++ more) ≡ lines_of front ++ lines_of more
lines_behind front more e = ap (λ (c : Cut). c.lines) (cut_behind front more e)

pub rest_behind : (front more : List ℕ) → (cut front).rest ≡ [] → (cut (front ++ more)).rest ≡ (cut more).rest
rest_behind front more e = ap (λ (c : Cut). c.rest) (cut_behind front more e)

-- a whole line
pub one_line : (line more : List ℕ) → has_end line ≡ false → lines_of (line ++ 10 ∷ more) ≡ line ∷ lines_of more
one_line line more clear = ap (λ (c : Cut). c.lines) (cut_first line more clear)

pub one_rest : (line : List ℕ) → has_end line ≡ false → (cut (line ++ 10 ∷ [])).rest ≡ []
unfolding cut
one_rest line clear = ap (λ (c : Cut). c.rest) (cut_first line [] clear)

pub one_alone : (line : List ℕ) → has_end line ≡ false → lines_of (line ++ 10 ∷ []) ≡ line ∷ []
unfolding cut
one_alone line clear = one_line line [] clear

-- no line ends in the text
pub no_line : (text : List ℕ) → has_end text ≡ false → lines_of text ≡ []
no_line text clear = ap (λ (c : Cut). c.lines) (cut_whole text clear)

-- the lines, and one more
pub lines_push : (front line : List ℕ) → (cut front).rest ≡ [] → has_end line ≡ false
    → lines_of (front ++ (line ++ 10 ∷ [])) ≡ lines_of front ++ line ∷ []
lines_push front line e clear =
    lines_behind front (line ++ 10 ∷ []) e ∙ ap (λ (l : List (List ℕ)). lines_of front ++ l) (one_alone line clear)

pub rest_push : (front line : List ℕ) → (cut front).rest ≡ [] → has_end line ≡ false → (cut (front ++ (line ++ 10 ∷ []))).rest ≡ []
rest_push front line e clear = rest_behind front (line ++ 10 ∷ []) e ∙ one_rest line clear

-- ---- how much room lines take in a journal

onto_size : (b : ℕ) (lines : List (List ℕ)) (rest : List ℕ) → size_of (onto_line b lines rest).lines ≤ size_of lines + 1
onto_size b [] rest = omega arith
onto_size b (line ∷ lines) rest = omega arith

more_size : (end : Bool) (b : ℕ) (there : Cut) (n : ℕ) → size_of there.lines ≤ 6 * n → size_of (one_more end b there).lines ≤ 6 * (n + 1)
more_size true b there n le = omega arith
more_size false b there n le = omega (arith, onto_size b there.lines there.rest, le)

-- each line has its LF
pub size_within : (text : List ℕ) → size_of (lines_of text) ≤ 6 * length text
unfolding cut
size_within [] = omega arith
size_within (b ∷ text) =
    let le = more_size (b == 10) b (cut text) (length text) (size_within text) in
    omega (arith, le)
