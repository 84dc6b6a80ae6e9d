use Rattle.std.proofs.Common.{rules}
use Rattle.script_text.specs.Header.{member_line}
use Rattle.script_text.proofs.header.Header.member.Goals as goal

pub returns-then-len-ge-MAX_MEMBERS : goal.returns-then-len-ge-MAX_MEMBERS
unfolding member_line
returns-then-len-ge-MAX_MEMBERS c = search rules
