use Rattle.std.proofs.Common.{◌≡◌, ◌↔◌, ◌<◌, ◌∙◌, Bool, true, false, IsTrue, List, [], ◌∷◌, sym, refl, subst, ap, length, arith, rules}
use Rattle.venue_words.specs.declared.config.Config.{Config}
use Rattle.replay_core.specs.Stages.{Kept, StandsFor}
use Rattle.replay_core.proofs.Summing.{none_summed, summed}
use Rattle.replay_core.proofs.player.Player.summary.Goals as goal

not_empty : {A : Type 0} (b : Bool) (xs : List A) → (IsTrue b ↔ (xs ≡ [])) → b ≡ false → 0 < length xs
not_empty b [] h e = let contrary : false ≡ true = subst IsTrue e (h.1 refl) in absurd (cc)
not_empty b (x ∷ xs) h e = omega arith

pub returns-then-is_empty : goal.returns-then-is_empty
returns-then-is_empty g c playing s =
    let t = subst (λ (k : Kept g.row.F.Denot). StandsFor g.F.Floor.at k playing) (sym c.self.view_is) s in
    let empty : c.config.result.now.symbols ≡ [] = search rules in
    let none : length c.self.inside.worker.config.symbols ≡ 0 =
    ap (λ (k : Config). length k.symbols) (sym c.config.ensures.same) ∙ ap (λ (xs : List (List _)). length xs) empty in
    c.of.ensures ∙ none_summed g.F.Floor.at _ playing t none

pub returns : goal.returns
returns g c playing s =
    let t = subst (λ (k : Kept g.row.F.Denot). StandsFor g.F.Floor.at k playing) (sym c.self.view_is) s in
    let here : 0 < length c.config.result.now.symbols = not_empty c.is_empty.result _ c.is_empty.ensures c.if-is_empty.false in
    let some : 0 < length c.self.inside.worker.config.symbols =
    subst (λ (k : Config). 0 < length k.symbols) c.config.ensures.same here in
    let plain = c.self.invariant.1 in
    rw (c.of-2.ensures, c.events.ensures, c.reports.ensures, c.resting.ensures, c.groups.ensures)
    (summed g.F.Floor.at g.F.PlainFloor.state _ playing t some
    (record { reports = plain.reports c.self.inside.floor 0 refl some; state_is = plain.states c.self.inside.floor 0 refl some }))
