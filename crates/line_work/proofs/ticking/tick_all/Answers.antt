use Rattle.std.proofs.Common.{◌≡◌, ◌<◌, ℤ, ◌++◌, ◌∙◌, subst, map, length, arith, w64, to_z, of_z, rules}
use Rattle.std.specs.List.{AllZip, flat_map}
use Rattle.std.proofs.lemmas.Slice.Zip.{AllZip-long}
use Rattle.member_gate.specs.Desks.{DeskView}
use Rattle.line_work.specs.LineWork.{ticked, tick_lines}
use Rattle.line_work.specs.Standing.{IsDeskOf}
use Rattle.line_work.specs.OneByOneLaws.{zip_more, text_more, zip_all, text_all, kept_step, number_at, read_twice}
use Rattle.line_work.proofs.ticking.tick_all.Goals as goal

pub tick_desk-requires : goal.tick_desk-requires
tick_desk-requires c =
    let l : c.loop-number.number < length c.loop-number.desks = omega arith in
    let own = number_at (λ (d : DeskView). d.member) _ c.loop-number.desks c.loop-number.number _
    (c.loop-number.invariant.numbers ∙ c.requires) l
    (read_twice c.loop-number.desks c.loop-number.number c.index-desks-number.result c.index-desks-number.is) in
    omega arith

pub loop-number-preserved : goal.loop-number-preserved
loop-number-preserved c =
    let l : c.loop-number.number < length c.loop-number.desks = omega arith in
    let at = read_twice c.loop-number.desks c.loop-number.number c.index-desks-number.result c.index-desks-number.is in
    record {
      desks = λ connections h. zip_more IsDeskOf (ticked (to_z w64 (of_z w64 c.args.moment))) c.loop-number.desks connections c.loop-number.number
          _ c.tick_desk.new.desk l at (λ m r. c.in_ok-tick_desk.ensures.desk m r) (c.loop-number.invariant.desks connections h);
      text = λ connections h. text_more IsDeskOf (ticked (to_z w64 (of_z w64 c.args.moment))) (tick_lines c.args.config.now (to_z w64 (of_z w64 c.args.moment)))
          c.loop-number.desks connections c.loop-number.number _ c.args.out.now.items c.loop-number.out.items c.tick_desk.new.out.items l at
          (λ m r. c.in_ok-tick_desk.ensures.text m r) (c.loop-number.invariant.desks connections h)
          (c.loop-number.invariant.text connections h);
      numbers = kept_step (λ (d : DeskView). d.member) c.loop-number.desks c.loop-number.number _ c.tick_desk.new.desk at
          c.in_ok-tick_desk.ensures.member ∙ c.loop-number.invariant.numbers;
      cursors = kept_step (λ (d : DeskView). d.cursors) c.loop-number.desks c.loop-number.number _ c.tick_desk.new.desk at
          c.in_ok-tick_desk.ensures.cursors ∙ c.loop-number.invariant.cursors;
    }

pub returns-clause-desks : goal.returns-clause-desks
returns-clause-desks c connections h =
    let e : to_z w64 (of_z w64 c.args.moment) ≡ c.args.moment = search rules in
    let long = AllZip-long IsDeskOf c.args.desks.now connections h in
    subst (λ (m : ℤ). AllZip IsDeskOf c.loop-number.desks (map (ticked m) connections)) e
    (zip_all IsDeskOf (ticked (to_z w64 (of_z w64 c.args.moment))) c.loop-number.desks connections c.loop-number.number
    (omega arith) (c.loop-number.invariant.desks connections h))

pub returns-clause-text : goal.returns-clause-text
returns-clause-text c connections h =
    let e : to_z w64 (of_z w64 c.args.moment) ≡ c.args.moment = search rules in
    let long = AllZip-long IsDeskOf c.args.desks.now connections h in
    subst (λ (m : ℤ). c.loop-number.out.items ≡ c.args.out.now.items ++ flat_map (tick_lines c.args.config.now m) connections) e
    (text_all (tick_lines c.args.config.now (to_z w64 (of_z w64 c.args.moment))) connections c.loop-number.number
    c.args.out.now.items c.loop-number.out.items (omega arith) (c.loop-number.invariant.text connections h))

pub returns-in_err-tick_desk-clause-numbers : goal.returns-in_err-tick_desk-clause-numbers
returns-in_err-tick_desk-clause-numbers c =
    let at = read_twice c.loop-number.desks c.loop-number.number c.index-desks-number.result c.index-desks-number.is in
    kept_step (λ (d : DeskView). d.member) c.loop-number.desks c.loop-number.number _ c.tick_desk.new.desk at
    c.in_err-tick_desk.ensures.member ∙ c.loop-number.invariant.numbers

pub returns-in_err-tick_desk-clause-cursors : goal.returns-in_err-tick_desk-clause-cursors
returns-in_err-tick_desk-clause-cursors c =
    let at = read_twice c.loop-number.desks c.loop-number.number c.index-desks-number.result c.index-desks-number.is in
    kept_step (λ (d : DeskView). d.cursors) c.loop-number.desks c.loop-number.number _ c.tick_desk.new.desk at
    c.in_err-tick_desk.ensures.cursors ∙ c.loop-number.invariant.cursors
