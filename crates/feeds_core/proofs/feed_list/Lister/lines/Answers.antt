-- Line by line.
use Rattle.std.proofs.Common.{◌≡◌, ℕ, ◌⊎◌, List, Option, length, refl, sym, ◌∙◌, ap, subst, arith, inl, inr}
use Rattle.script_text.specs.declared.fault.LineFault.{LineFault}
use Rattle.script_text.specs.declared.fault.LineFault.TheVariants.{NoMemory}
use Rattle.feeds_core.specs.FeedLists.{ComesTo}
use Rattle.feeds_core.specs.Listings.{timed_at}
use Rattle.feeds_core.specs.Passing.{InFeed}
use Rattle.feeds_core.proofs.Passing.{in_feed_first, in_feed_ends}
use Rattle.feeds_core.proofs.Stepping.{Cut, rest_size, line_next, line_stops}
use Rattle.feeds_core.proofs.feed_list.Lister.lines.Goals as goal

-- a fault that is no want of memory
stops_of : (fault : LineFault) (P : Type 0) → (fault ≡ NoMemory → ⊥) → (fault ≡ NoMemory) ⊎ P → P
stops_of fault P other (inl e) = absurd (other e)
stops_of fault P other (inr p) = p

pub loop-at-init : goal.loop-at-init
loop-at-init g c =
    let size = ap (length {A = ℕ}) c.as_slice-rest.ensures.value in
    record {
      inside = subst (λ (rest : List ℕ). InFeed c.args.self.now.worker.config c.args.text.now 0 c.args.text.now.already rest c.args.self.now.worker c.args.self.now.named.items c.args.self.now.floor.listed)
          (sym c.as_slice-rest.ensures.value)
          (in_feed_first c.args.self.now.worker.config c.args.text.now c.args.self.now.worker c.args.self.now.named.items c.args.self.now.floor.listed refl c.requires.stands c.requires.none.1 c.requires.none.0);
      config = refl;
      mark = refl;
      count = omega arith;
      bytes = omega arith;
    }

pub loop-at-preserved : goal.loop-at-preserved
loop-at-preserved g c =
    let i = c.loop-at.invariant in
    let cut : Cut c.loop-at.rest.now c.in-Some.at = record { within = c.in-Some.ensures.within.0; clear = c.in-Some.ensures.clear; whole = c.in-Some.ensures.whole } in
    let size = rest_size c.loop-at.rest.now c.in-Some.at cut.within in
    record {
      inside = line_next c.args.self.now.worker.config c.loop-at.self.worker.config c.args.text.now c.loop-at.place.number c.loop-at.place.bytes c.loop-at.rest.now c.in-Some.at
          c.loop-at.self.worker c.line.new.self.worker c.loop-at.self.named.items c.line.new.self.named.items c.loop-at.self.floor.listed c.line.new.self.floor.listed
          i.inside i.config cut c.in-Ok.ensures.stands c.in-Ok.ensures.listed c.in-Ok.ensures.goes c.in-Ok.ensures.names;
      config = c.in-Ok.ensures.config ∙ i.config;
      mark = c.in-Ok.ensures.setup ∙ i.mark;
      count = omega (arith, size, i.count);
      bytes = omega (arith, size, i.bytes);
    }

pub returns-clause-comes : goal.returns-clause-comes
returns-clause-comes g c =
    let i = c.loop-at.invariant in
    subst (λ (fault : Option LineFault). ComesTo c.args.self.now.worker.config c.args.text.now c.loop-at.self.named.items fault (λ symbol. timed_at symbol c.loop-at.self.floor.listed))
    (sym c.end_fault.ensures)
    (in_feed_ends c.args.self.now.worker.config c.args.text.now c.loop-at.place.number c.loop-at.place.bytes c.loop-at.rest.now c.loop-at.self.worker c.loop-at.self.named.items c.loop-at.self.floor.listed
    i.inside c.in_default.ensures.none)

pub returns-in-Err-2-clause-comes : goal.returns-in-Err-2-clause-comes
returns-in-Err-2-clause-comes g c =
    let i = c.loop-at.invariant in
    let cut : Cut c.loop-at.rest.now c.in-Some.at = record { within = c.in-Some.ensures.within.0; clear = c.in-Some.ensures.clear; whole = c.in-Some.ensures.whole } in
    line_stops c.args.self.now.worker.config c.loop-at.self.worker.config c.args.text.now c.loop-at.place.number c.loop-at.place.bytes c.loop-at.rest.now c.in-Some.at
    c.loop-at.self.worker c.loop-at.self.named.items c.line.new.self.named.items c.loop-at.self.floor.listed _ c.in-Err.fault
    i.inside i.config cut (stops_of c.in-Err.fault _ (λ (e : c.in-Err.fault ≡ NoMemory). grind (arith, c.eq.ensures, c.if-eq.false, e)) c.in-Err.ensures.stops)
