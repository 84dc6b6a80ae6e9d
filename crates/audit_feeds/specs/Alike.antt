-- When two commands are the same.
use Rattle.std.specs.Prelude.{Bool, false, ◌&&◌, ◌==◌, nat_eq}
use Rattle.std.specs.Option.{option_eq}
use Rattle.std.specs.Ordering.{int_eq}
use Rattle.std.specs.Str.{bytes_eq}
use Rattle.venue_words.specs.declared.command.Command.{Command}
use Rattle.venue_words.specs.declared.command.Command.TheVariants.{Quote, New, Cancel, Replace, Status}
use Rattle.venue_words.specs.declared.command.Event.{Event}
use Rattle.venue_words.specs.declared.terms.Terms.{Terms}
use Rattle.eager_meaning.specs.Interleaving.{Timed}

-- whether the fields of two orders are the same
unfoldable pub same_order_terms : Terms → Terms → Bool
same_order_terms x y =
    (x.side == y.side)
    && (int_eq x.quantity y.quantity
    && ((x.kind == y.kind)
    && (option_eq int_eq x.price y.price
    && (option_eq nat_eq x.force y.force && option_eq int_eq x.minimum y.minimum))))

unfoldable pub same_peg_terms : Terms → Terms → Bool
same_peg_terms x y =
    option_eq nat_eq x.method y.method
    && (option_eq nat_eq x.peg y.peg
    && (option_eq int_eq x.offset y.offset
    && (option_eq nat_eq x.offset_kind y.offset_kind
    && (option_eq nat_eq x.moves y.moves && option_eq nat_eq x.round y.round))))

abbrev pub same_terms : Terms → Terms → Bool
same_terms x y = same_order_terms x y && same_peg_terms x y

-- whether two commands are the same
unfoldable pub same_command : Command → Command → Bool
same_command (Quote market bid offer) (Quote other_market other_bid other_offer) =
    (market == other_market) && (option_eq nat_eq bid other_bid && option_eq nat_eq offer other_offer)
same_command (New member id terms) (New other other_id other_terms) =
    (member == other) && (bytes_eq id other_id && same_terms terms other_terms)
same_command (Cancel member id orig) (Cancel other other_id other_orig) =
    (member == other) && (bytes_eq id other_id && bytes_eq orig other_orig)
same_command (Replace member id orig terms) (Replace other other_id other_orig other_terms) =
    (member == other) && (bytes_eq id other_id && (bytes_eq orig other_orig && same_terms terms other_terms))
same_command (Status member id side) (Status other other_id other_side) =
    (member == other) && (bytes_eq id other_id && (side == other_side))
same_command _ _ = false

-- whether an event is a command at its moment
abbrev pub is_command : Event → Timed → Bool
is_command event timed = int_eq event.moment timed.0 && same_command event.command timed.1
