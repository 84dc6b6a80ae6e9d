-- The bytes so far stand there.
use Rattle.std.proofs.Common.{◌≡◌, ◌++◌, take}
use Rattle.audit_html.specs.Html.{html_text}
use Rattle.audit_html.proofs.texts.push_html.Given as goal

abbrev pub invariant-loop-byte : goal.invariant-loop-byte
invariant-loop-byte l = l.out.items ≡ l.initial.out.items ++ html_text (take l.byte-index l.text)
