-- No frame has named the member, or the last turn's did, or it ended the connection.
use Rattle.std.proofs.Common.{◌≡◌, Ok, None, IfSome, refl, ◌∙◌, subst, arith, inl, inr, w64, to_z, of_z, rules}
use Rattle.link_work.specs.Turns.{LinkTurn, turn_of}
use Rattle.serve_core.specs.declared.greeting.Greeting.TheVariants.{Member}
use Rattle.serve_core.specs.Greeting.{greeting_of}
use Rattle.serve_core.specs.Naming.{Edge, NextUnnamed, Unnamed, edge}
use Rattle.serve_core.proofs.Connecting.{no_more_ends}
use Rattle.serve_core.proofs.NamingLaws.{edge_same, same_fresh, unnamed_fresh, unnamed_more}
use Rattle.serve_core.proofs.serving.greet.Goals as goal

pub turns-init : goal.turns-init
turns-init g c = record {
  later = omega arith;
  ends = refl;
  same = same_fresh c.args.config.now _ _ (search rules) (search rules);
  so_far = unnamed_fresh c.args.config.now _ (edge (g.K.Link.told c.args.link.now) (g.C.Clock.told c.args.clock.now)) (search rules);
}

pub greet_turn-requires-clause-heard : goal.greet_turn-requires-clause-heard
greet_turn-requires-clause-heard g c = c.turns.invariant.same

pub greet_turn-requires-clause-unnamed : goal.greet_turn-requires-clause-unnamed
greet_turn-requires-clause-unnamed g c = c.turns.invariant.so_far.unnamed

pub turns-preserved : goal.turns-preserved
turns-preserved g c =
    let inv = c.turns.invariant in
    let config = c.args.config.now in
    let before = edge (g.K.Link.told c.args.link.now) (g.C.Clock.told c.args.clock.now) in
    let after = edge (g.K.Link.told c.ask.new.link) (g.C.Clock.told c.ask.new.clock) in
    let turn : LinkTurn = turn_of c.in-Ok.asked c.ask.new.buffer in
    let next : NextUnnamed config c.turns.bytes.items turn before after = record {
      middle = edge (g.K.Link.told c.turns.link) (g.C.Clock.told c.turns.clock);
      unnamed = inv.so_far;
      told = c.in-Ok.ensures.asked;
    } in
    let none : c.greet_turn.result ≡ Ok None = (let is = c.in-Ok-None.is in let this = c.in-Ok-None.field-0-is in cc) in record {
      later = (let h = inv.later in let k = c.ask.ensures.cause.later in omega arith);
      ends =
          no_more_ends _ _ c.in-Ok.asked.pulled c.in-Ok.ensures.end
          (λ e. let peer = c.greet_turn.ensures.ended e in cc) ∙ inv.ends;
      same = c.greet_turn.ensures.on none;
      so_far = unnamed_more config c.turns.bytes.items c.greet_turn.new.bytes.items turn before after next
          c.in-Ok-None.ensures.bytes (c.greet_turn.ensures.unnamed none);
    }

pub returns-in-Err-clause-stranger : goal.returns-in-Err-clause-stranger
returns-in-Err-clause-stranger g c =
    let asked = c.in-Err.ensures.asked in
    let before = edge (g.K.Link.told c.args.link.now) (g.C.Clock.told c.args.clock.now) in
    inl (
      refl,
      c.turns.bytes.items,
      subst (λ (e : Edge). Unnamed c.args.config.now c.turns.bytes.items before e)
          (edge_same (g.K.Link.told c.turns.link) (g.K.Link.told c.ask.new.link) (g.C.Clock.told c.turns.clock)
          (g.C.Clock.told c.ask.new.clock) asked.0 asked.1) c.turns.invariant.so_far,
    )

pub returns-in-Ok-Some-clause-named : goal.returns-in-Ok-Some-clause-named
returns-in-Ok-Some-clause-named g c =
    let turn : LinkTurn = turn_of c.in-Ok.asked c.ask.new.buffer in
    let e : to_z w64 (of_z w64 c.in-Ok.asked.moment) ≡ c.in-Ok.asked.moment = search rules in record {
      earlier = c.turns.bytes.items;
      turn = turn;
      next = record {
        middle = edge (g.K.Link.told c.turns.link) (g.C.Clock.told c.turns.clock);
        unnamed = c.turns.invariant.so_far;
        told = c.in-Ok.ensures.asked;
      };
      moment_is = e;
      bytes_are = c.in-Ok-Some.ensures.bytes;
      named =
          subst (λ s. IfSome s (λ member. greeting_of c.args.config.now c.greet_turn.new.bytes.items ≡ Member member))
          c.in-Ok-Some.field-0-is c.in-Ok-Some.ensures.named;
    }

pub returns-in-Err-greet_turn-clause-stranger : goal.returns-in-Err-greet_turn-clause-stranger
returns-in-Err-greet_turn-clause-stranger g c = inr (record {
  earlier = c.turns.bytes.items;
  turn = turn_of c.in-Ok.asked c.ask.new.buffer;
  next = record {
    middle = edge (g.K.Link.told c.turns.link) (g.C.Clock.told c.turns.clock);
    unnamed = c.turns.invariant.so_far;
    told = c.in-Ok.ensures.asked;
  };
  ends = c.in-Err-greet_turn.ensures.ends;
})

-- no fault of the link is taken back

pub returns-in-Err-clause-later : goal.returns-in-Err-clause-later
returns-in-Err-clause-later g c = let h = c.turns.invariant.later in let k = c.ask.ensures.cause.later in omega arith

pub returns-in-Ok-Some-clause-later : goal.returns-in-Ok-Some-clause-later
returns-in-Ok-Some-clause-later g c = let h = c.turns.invariant.later in let k = c.ask.ensures.cause.later in omega arith

pub returns-in-Err-greet_turn-clause-later : goal.returns-in-Err-greet_turn-clause-later
returns-in-Err-greet_turn-clause-later g c = let h = c.turns.invariant.later in let k = c.ask.ensures.cause.later in omega arith
