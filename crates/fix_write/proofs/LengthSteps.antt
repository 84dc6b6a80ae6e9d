-- The laws on lengths, for goals of the code.
use Rattle.std.proofs.Common.{length-append}
use Rattle.fix_write.specs.Lengths.{length-first_sent_text, length-head_text}

pub ruleset lengths = (length-append, length-first_sent_text, length-head_text)
