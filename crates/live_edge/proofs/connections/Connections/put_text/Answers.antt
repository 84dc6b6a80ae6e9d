use Rattle.std.proofs.Common.{rules}
use Rattle.std.proofs.lemmas.Grind.{common_steps}
use Rattle.std.proofs.Common.{arith}
use Rattle.live_words.specs.Lines.{text_of_lines}
use Rattle.live_edge.proofs.LineLaws.{part_more}
use Rattle.live_edge.proofs.connections.Connections.put_text.Goals as goal

pub loop-line-preserved : goal.loop-line-preserved
loop-line-preserved g c = record {
  part = part_more (text_of_lines c.args.self.now.story.tale.told) c.args.text.now c.loop-line.rest.now c.in-Some.behind.now c.in-Some.line.now c.loop-line.self.story.tale.told c.put_line.new.self.story.tale.told
      c.loop-line.invariant.part c.in_ok-put_line.ensures.told c.in-Some.ensures.whole;
  brought = search rules;
  joined = λ j. c.put_line.ensures.joined (c.loop-line.invariant.joined j);
  frames = λ f. c.put_line.ensures.frames (c.loop-line.invariant.frames f);
  later = grind (arith, common_steps, c.put_line.ensures.cause);
}
