use Rattle.std.proofs.Common.{◌≡◌, ◌≤◌, ◌+◌, ◌-◌, List, ℕ, Some, IsTrue}
use Rattle.script_text.specs.Header.{blank}
use Rattle.venue_words.specs.Conditions.{IsConfig}
use Rattle.line_reader.specs.Reading.{ahead}
use Rattle.line_reader.specs.ConfigFile.{header_text}
use Rattle.line_reader.proofs.config_file.read_lines.Given as goal

-- what is ahead says, behind the header so far, what the whole says
abbrev pub invariant-loop-text : goal.invariant-loop-text
invariant-loop-text g l = record {
  said : (text : List ℕ) → ahead l.initial.reader.held (g.H.Shelf.left l.initial.shelf) ≡ Some text →
      (more : List ℕ) × (ahead l.reader.held (g.H.Shelf.left l.shelf) ≡ Some more)
      × (header_text l.initial.reader.most 0 l.initial.reader.bytes blank text
      ≡ header_text l.reader.most l.reader.lines l.reader.bytes l.header more);
  most : l.reader.most ≡ l.initial.reader.most;
  within : l.reader.bytes ≤ l.reader.most;
  config : IsConfig l.header.config;
  told : g.H.Shelf.told l.shelf ≡ g.H.Shelf.told l.initial.shelf;
  begun : IsTrue (g.H.Shelf.begun l.shelf);
  later : g.H.Shelf.faults l.initial.shelf ≤ g.H.Shelf.faults l.shelf;
  sure : IsTrue (g.H.Shelf.sure l.initial.shelf) → IsTrue (g.H.Shelf.sure l.shelf);
}

abbrev pub decreases-loop-text : goal.decreases-loop-text
decreases-loop-text g l = l.reader.most + 1 - l.reader.bytes
