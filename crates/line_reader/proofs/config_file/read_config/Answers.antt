use Rattle.std.proofs.Common.{◌≡◌, ℕ, Ok, arith, refl, sym, ◌∙◌, ap, subst}
use Rattle.venue_words.specs.declared.config.Config.{Config}
use Rattle.script_text.specs.Header.{blank}
use Rattle.line_reader.specs.ConfigFile.{Answer, IsMeant, header_text, config_file}
use Rattle.line_reader.specs.Reading.{Reading}
use Rattle.line_reader.proofs.ToldFiles.{told_file, ahead_at_start}
use Rattle.line_reader.proofs.config_file.read_config.Goals as goal

counted : (config : Config) (a b : ℕ) → a ≡ b → (let x : Answer = Ok (config, a) in x) ≡ Ok (config, b)
counted config a b e = rw e refl

pub returns-in-Ok-read_end-clause-bytes : goal.returns-in-Ok-read_end-clause-bytes
returns-in-Ok-read_end-clause-bytes g c =
    let most = ap (λ (r : Reading). r.most) c.in_ok-reader.ensures in
    omega (arith, most, c.bytes.ensures, c.in-Ok-read_end.ensures.within, c.in-Ok-read_lines.ensures.most)

pub returns-in-Ok-read_end-clause-read : goal.returns-in-Ok-read_end-clause-read
returns-in-Ok-read_end-clause-read g c = told_file _ _ _ _ c.in-Ok.ensures.opens (λ text e.
    let start = ahead_at_start _ _ _ _ text c.in_ok-reader.ensures e in
    let first : header_text c.in_ok-reader.reader.most 0 c.in_ok-reader.reader.bytes blank text ≡ config_file c.args.most text =
    ap (λ (r : Reading). header_text r.most 0 r.bytes blank text) c.in_ok-reader.ensures in
    let said = c.in-Ok-read_lines.ensures.ok text start in
    sym first ∙ said.2 ∙ c.in-Ok-read_end.ensures.ok c.in-Ok-read_lines.config said.0 said.1 ∙ counted _ _ _ (sym c.bytes.ensures))

pub returns-in-Err-read_lines-clause-read : goal.returns-in-Err-read_lines-clause-read
returns-in-Err-read_lines-clause-read g c = told_file _ _ _ _ c.in-Ok.ensures.opens (λ text e.
    let start = ahead_at_start _ _ _ _ text c.in_ok-reader.ensures e in
    let first : header_text c.in_ok-reader.reader.most 0 c.in_ok-reader.reader.bytes blank text ≡ config_file c.args.most text =
    ap (λ (r : Reading). header_text r.most 0 r.bytes blank text) c.in_ok-reader.ensures in
    subst (λ (a : Answer). IsMeant a c.in-Err-read_lines.fault) first (c.in-Err-read_lines.ensures.err text start))

pub returns-clause-read : goal.returns-clause-read
returns-clause-read g c = told_file _ _ _ _ c.in-Ok.ensures.opens (λ text e.
    let start = ahead_at_start _ _ _ _ text c.in_ok-reader.ensures e in
    let first : header_text c.in_ok-reader.reader.most 0 c.in_ok-reader.reader.bytes blank text ≡ config_file c.args.most text =
    ap (λ (r : Reading). header_text r.most 0 r.bytes blank text) c.in_ok-reader.ensures in
    let said = c.in-Ok-read_lines.ensures.ok text start in
    subst (λ (a : Answer). IsMeant a c.in-Err-read_end.fault) (sym said.2 ∙ first)
    (c.in-Err-read_end.ensures.err c.in-Ok-read_lines.config said.0 said.1))
