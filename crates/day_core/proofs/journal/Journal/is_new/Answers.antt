use Rattle.std.proofs.Common.{◌≡◌, ℕ, ◌-◌, ◌<◌, true, false, List, [], length, get_or, Some, refl, sym, ◌∙◌, ap, subst}
use Rattle.std.proofs.lemmas.Bool.Decides.{Decides-eqb}
use Rattle.std.proofs.lemmas.Option.{slice_get-get_or}
use Rattle.std.proofs.lemmas.Slice.Eq.{slice_eq-Decides}
use Rattle.day_core.proofs.journal.Journal.is_new.Goals as goal

pub returns-then-eq-clause-ok : goal.returns-then-eq-clause-ok
returns-then-eq-clause-ok g c =
    let items = c.args.self.now.lines.items in
    let k = c.args.number - 1 in
    let test = slice_eq-Decides Decides-eqb _ _ _ c.eq.ensures in
    let text : c.in-Some.line.now ≡ c.args.text.now = sym c.as_slice.ensures ∙ test.0 c.if-eq.true in
    let inside : k < length items = subst (λ (l : List (List ℕ)). k < length l) c.deref.ensures.value c.in-Some.ensures.lookup.3.0 in
    let line : c.in-Some.line.now ≡ get_or items k [] =
    c.in-Some.ensures.lookup.3.1 [] ∙ ap (λ (l : List (List ℕ)). get_or l k []) c.deref.ensures.value in
    slice_get-get_or items k [] inside ∙ ap (λ (l : List ℕ). Some l) (sym line ∙ text)

pub returns-else-eq-clause-err : goal.returns-else-eq-clause-err
returns-else-eq-clause-err g c =
    let items = c.args.self.now.lines.items in
    let k = c.args.number - 1 in
    let test = slice_eq-Decides Decides-eqb _ _ _ c.eq.ensures in
    let inside : k < length items = subst (λ (l : List (List ℕ)). k < length l) c.deref.ensures.value c.in-Some.ensures.lookup.3.0 in
    let line : c.in-Some.line.now ≡ get_or items k [] =
    c.in-Some.ensures.lookup.3.1 [] ∙ ap (λ (l : List (List ℕ)). get_or l k []) c.deref.ensures.value in (
      refl,
      (
        c.in-Some.line.now,
        slice_get-get_or items k [] inside ∙ ap (λ (l : List ℕ). Some l) (sym line),
        λ same.
            let yes : c.eq.result ≡ true = test.1 (c.as_slice.ensures ∙ same) in
            let both : true ≡ false = sym yes ∙ c.if-eq.false in
            cc,
      ),
    )
