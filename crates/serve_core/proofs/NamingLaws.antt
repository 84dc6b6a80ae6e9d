-- One more turn of a connection whose member is not known.
use Rattle.std.proofs.Common.{◌≡◌, ◌++◌, ◌∷◌, [], ℕ, ℤ, List, Option, refl, sym, ◌∙◌, ap, subst, append-nil}
use Rattle.std.specs.List.{flat_map}
use Rattle.std.proofs.lemmas.Grind.{flat_map-append}
use Rattle.venue_words.specs.declared.config.Config.{Config}
use Rattle.link_work.specs.Turns.{LinkTurn}
use Rattle.link_work.proofs.Frames.{put_none}
use Rattle.serve_core.specs.declared.greeting.Greeting.TheVariants as greeting
use Rattle.fix_frames.specs.Reading.{reading_of}
use Rattle.io_edge.specs.Links.{Told}
use Rattle.serve_core.specs.Greeting.{SayTheSame, greeting_of}
use Rattle.serve_core.specs.Naming.{Edge, Unnamed, NextUnnamed, bytes_in, edge}
use Rattle.serve_core.proofs.SessionLaws.{answered_none, moments_none, told_more}

-- nothing is said yet
pub nothing_said : (config : Config) → greeting_of config [] ≡ greeting.Unnamed
unfolding reading_of
nothing_said config = refl

pub unnamed_none : (config : Config) (at : Edge) → greeting_of config [] ≡ greeting.Unnamed → Unnamed config [] at at
unnamed_none config at none = record {
  turns = [];
  bytes_are = refl;
  unnamed = none;
  told = record { link_told = answered_none at.link; clock_told = moments_none at.clock };
}

pub unnamed_more : (config : Config) (earlier bytes : List ℕ) (turn : LinkTurn) (before after : Edge)
    → NextUnnamed config earlier turn before after → bytes ≡ earlier ++ bytes_in turn.answer
    → greeting_of config bytes ≡ greeting.Unnamed → Unnamed config bytes before after
unnamed_more config earlier bytes turn before after next are none =
    let so = next.unnamed in
    let bytes_of : LinkTurn → List ℕ = λ t. bytes_in t.answer in record {
      turns = so.turns ++ turn ∷ [];
      bytes_are =
          are ∙ ap (λ (b : List ℕ). b ++ bytes_in turn.answer) so.bytes_are
          ∙ ap (λ (b : List ℕ). flat_map bytes_of so.turns ++ b) (sym (append-nil (bytes_in turn.answer)))
          ∙ sym (flat_map-append bytes_of so.turns (turn ∷ []));
      unnamed = none;
      told = told_more so.turns [] turn [] before.link next.middle.link after.link after.link before.clock next.middle.clock after.clock
          so.told next.told (put_none after.link);
    }

pub edge_same : (link link' : Option Told) (clock clock' : Option (List ℤ)) → link' ≡ link → clock' ≡ clock
    → edge link clock ≡ edge link' clock'
edge_same link link' clock clock' e k =
    ap (λ (l : Option Told). edge l clock) (sym e) ∙ ap (λ (m : Option (List ℤ)). edge link' m) (sym k)

pub same_fresh : (config : Config) (bytes kept : List ℕ) → bytes ≡ [] → kept ≡ [] → SayTheSame config bytes kept
same_fresh config bytes kept e k more = ap (λ (b : List ℕ). greeting_of config (b ++ more)) (e ∙ sym k)

pub unnamed_fresh : (config : Config) (bytes : List ℕ) (at : Edge) → bytes ≡ [] → Unnamed config bytes at at
unnamed_fresh config bytes at e = subst (λ (b : List ℕ). Unnamed config b at at) (sym e) (unnamed_none config at (nothing_said config))
