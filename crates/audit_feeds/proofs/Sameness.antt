-- A test of two commands tells whether they are equal.
use Rattle.std.proofs.Common.{◌≡◌, Bool, Option, None, Some, refl, sym, true≢false}
use Rattle.std.specs.Prelude.{◌&&◌, ◌==◌, nat_eq}
use Rattle.std.specs.Bool.{Decides}
use Rattle.std.specs.Option.{option_eq}
use Rattle.std.specs.Ordering.{int_eq}
use Rattle.std.specs.Str.{bytes_eq}
use Rattle.std.proofs.lemmas.Bool.Decides.{Decides-and, Decides-eqb, Decides-int_eq, Decides-like}
use Rattle.std.proofs.lemmas.Slice.Eq.{bytes_eq-Decides}
use Rattle.venue_words.specs.declared.command.Command.{Command}
use Rattle.venue_words.specs.declared.command.Command.TheVariants.{Quote, New, Cancel, Replace, Status}
use Rattle.venue_words.specs.declared.command.Event.{Event}
use Rattle.venue_words.specs.declared.terms.Terms.{Terms}
use Rattle.eager_meaning.specs.Interleaving.{Timed}
use Rattle.audit_feeds.specs.Alike.{is_command, same_command, same_order_terms, same_peg_terms, same_terms}

optional : {X : Type 0} (E : X → X → Bool) → ((a b : X) → Decides (E a b) (a ≡ b)) → (p q : Option X) → Decides (option_eq E p q) (p ≡ q)
optional E d None None = (λ e. refl, λ p. refl)
optional E d None (Some y) = (λ e. absurd (true≢false (sym e)), λ p. absurd (cc))
optional E d (Some x) None = (λ e. absurd (true≢false (sym e)), λ p. absurd (cc))
optional E d (Some x) (Some y) = Decides-like (E x y) (λ p k. Some (p k)) (λ p. let e : x ≡ y = cc in e) (d x y)

order_terms : (x y : Terms) → Decides (same_order_terms x y) ((x.side ≡ y.side) × ((x.quantity ≡ y.quantity) × ((x.kind ≡ y.kind) × ((x.price ≡ y.price) × ((x.force ≡ y.force) × (x.minimum ≡ y.minimum))))))
unfolding same_order_terms
order_terms x y =
    Decides-and (x.side == y.side) ((int_eq x.quantity y.quantity) && ((x.kind == y.kind) && ((option_eq int_eq x.price y.price) && ((option_eq nat_eq x.force y.force) && (option_eq int_eq x.minimum y.minimum)))))
    (Decides-eqb x.side y.side)
    (Decides-and (int_eq x.quantity y.quantity) ((x.kind == y.kind) && ((option_eq int_eq x.price y.price) && ((option_eq nat_eq x.force y.force) && (option_eq int_eq x.minimum y.minimum))))
    (Decides-int_eq x.quantity y.quantity)
    (Decides-and (x.kind == y.kind) ((option_eq int_eq x.price y.price) && ((option_eq nat_eq x.force y.force) && (option_eq int_eq x.minimum y.minimum)))
    (Decides-eqb x.kind y.kind)
    (Decides-and (option_eq int_eq x.price y.price) ((option_eq nat_eq x.force y.force) && (option_eq int_eq x.minimum y.minimum))
    (optional int_eq Decides-int_eq x.price y.price)
    (Decides-and (option_eq nat_eq x.force y.force) (option_eq int_eq x.minimum y.minimum)
    (optional nat_eq Decides-eqb x.force y.force)
    (optional int_eq Decides-int_eq x.minimum y.minimum)))))

peg_terms : (x y : Terms) → Decides (same_peg_terms x y) ((x.method ≡ y.method) × ((x.peg ≡ y.peg) × ((x.offset ≡ y.offset) × ((x.offset_kind ≡ y.offset_kind) × ((x.moves ≡ y.moves) × (x.round ≡ y.round))))))
unfolding same_peg_terms
peg_terms x y =
    Decides-and (option_eq nat_eq x.method y.method) ((option_eq nat_eq x.peg y.peg) && ((option_eq int_eq x.offset y.offset) && ((option_eq nat_eq x.offset_kind y.offset_kind) && ((option_eq nat_eq x.moves y.moves) && (option_eq nat_eq x.round y.round)))))
    (optional nat_eq Decides-eqb x.method y.method)
    (Decides-and (option_eq nat_eq x.peg y.peg) ((option_eq int_eq x.offset y.offset) && ((option_eq nat_eq x.offset_kind y.offset_kind) && ((option_eq nat_eq x.moves y.moves) && (option_eq nat_eq x.round y.round))))
    (optional nat_eq Decides-eqb x.peg y.peg)
    (Decides-and (option_eq int_eq x.offset y.offset) ((option_eq nat_eq x.offset_kind y.offset_kind) && ((option_eq nat_eq x.moves y.moves) && (option_eq nat_eq x.round y.round)))
    (optional int_eq Decides-int_eq x.offset y.offset)
    (Decides-and (option_eq nat_eq x.offset_kind y.offset_kind) ((option_eq nat_eq x.moves y.moves) && (option_eq nat_eq x.round y.round))
    (optional nat_eq Decides-eqb x.offset_kind y.offset_kind)
    (Decides-and (option_eq nat_eq x.moves y.moves) (option_eq nat_eq x.round y.round)
    (optional nat_eq Decides-eqb x.moves y.moves)
    (optional nat_eq Decides-eqb x.round y.round)))))

terms_Decides : (x y : Terms) → Decides (same_terms x y) (x ≡ y)
terms_Decides x y =
    Decides-like (same_order_terms x y && same_peg_terms x y)
    (λ h k. record { side = h.0.0 k; quantity = h.0.1.0 k; kind = h.0.1.1.0 k; price = h.0.1.1.1.0 k; force = h.0.1.1.1.1.0 k; minimum = h.0.1.1.1.1.1 k; method = h.1.0 k; peg = h.1.1.0 k; offset = h.1.1.1.0 k; offset_kind = h.1.1.1.1.0 k; moves = h.1.1.1.1.1.0 k; round = h.1.1.1.1.1.1 k })
    (λ p. ((λ k. (p k).side, (λ k. (p k).quantity, (λ k. (p k).kind, (λ k. (p k).price, (λ k. (p k).force, λ k. (p k).minimum))))), (λ k. (p k).method, (λ k. (p k).peg, (λ k. (p k).offset, (λ k. (p k).offset_kind, (λ k. (p k).moves, λ k. (p k).round)))))))
    (Decides-and (same_order_terms x y) (same_peg_terms x y) (order_terms x y) (peg_terms x y))

command_Decides : (x y : Command) → Decides (same_command x y) (x ≡ y)
unfolding same_command
command_Decides (Quote market bid offer) (Quote market' bid' offer') =
    Decides-like ((market == market') && ((option_eq nat_eq bid bid') && (option_eq nat_eq offer offer')))
    (λ h k. Quote (h.0 k) (h.1.0 k) (h.1.1 k))
    (λ p. let e0 : market ≡ market' = cc in let e1 : bid ≡ bid' = cc in let e2 : offer ≡ offer' = cc in (e0, (e1, e2)))
    (Decides-and (market == market') ((option_eq nat_eq bid bid') && (option_eq nat_eq offer offer')) (Decides-eqb market market')
    (Decides-and (option_eq nat_eq bid bid') (option_eq nat_eq offer offer') (optional nat_eq Decides-eqb bid bid')
    (optional nat_eq Decides-eqb offer offer')))
command_Decides (Quote market bid offer) (New member' id' terms') = (λ e. absurd (true≢false (sym e)), λ p. absurd (cc))
command_Decides (Quote market bid offer) (Cancel member' id' orig') = (λ e. absurd (true≢false (sym e)), λ p. absurd (cc))
command_Decides (Quote market bid offer) (Replace member' id' orig' terms') = (λ e. absurd (true≢false (sym e)), λ p. absurd (cc))
command_Decides (Quote market bid offer) (Status member' id' side') = (λ e. absurd (true≢false (sym e)), λ p. absurd (cc))
command_Decides (New member id terms) (Quote market' bid' offer') = (λ e. absurd (true≢false (sym e)), λ p. absurd (cc))
command_Decides (New member id terms) (New member' id' terms') =
    Decides-like ((member == member') && ((bytes_eq id id') && (same_terms terms terms')))
    (λ h k. New (h.0 k) (h.1.0 k) (h.1.1 k))
    (λ p. let e0 : member ≡ member' = cc in let e1 : id ≡ id' = cc in let e2 : terms ≡ terms' = cc in (e0, (e1, e2)))
    (Decides-and (member == member') ((bytes_eq id id') && (same_terms terms terms')) (Decides-eqb member member')
    (Decides-and (bytes_eq id id') (same_terms terms terms') (bytes_eq-Decides id id')
    (terms_Decides terms terms')))
command_Decides (New member id terms) (Cancel member' id' orig') = (λ e. absurd (true≢false (sym e)), λ p. absurd (cc))
command_Decides (New member id terms) (Replace member' id' orig' terms') = (λ e. absurd (true≢false (sym e)), λ p. absurd (cc))
command_Decides (New member id terms) (Status member' id' side') = (λ e. absurd (true≢false (sym e)), λ p. absurd (cc))
command_Decides (Cancel member id orig) (Quote market' bid' offer') = (λ e. absurd (true≢false (sym e)), λ p. absurd (cc))
command_Decides (Cancel member id orig) (New member' id' terms') = (λ e. absurd (true≢false (sym e)), λ p. absurd (cc))
command_Decides (Cancel member id orig) (Cancel member' id' orig') =
    Decides-like ((member == member') && ((bytes_eq id id') && (bytes_eq orig orig')))
    (λ h k. Cancel (h.0 k) (h.1.0 k) (h.1.1 k))
    (λ p. let e0 : member ≡ member' = cc in let e1 : id ≡ id' = cc in let e2 : orig ≡ orig' = cc in (e0, (e1, e2)))
    (Decides-and (member == member') ((bytes_eq id id') && (bytes_eq orig orig')) (Decides-eqb member member')
    (Decides-and (bytes_eq id id') (bytes_eq orig orig') (bytes_eq-Decides id id')
    (bytes_eq-Decides orig orig')))
command_Decides (Cancel member id orig) (Replace member' id' orig' terms') = (λ e. absurd (true≢false (sym e)), λ p. absurd (cc))
command_Decides (Cancel member id orig) (Status member' id' side') = (λ e. absurd (true≢false (sym e)), λ p. absurd (cc))
command_Decides (Replace member id orig terms) (Quote market' bid' offer') = (λ e. absurd (true≢false (sym e)), λ p. absurd (cc))
command_Decides (Replace member id orig terms) (New member' id' terms') = (λ e. absurd (true≢false (sym e)), λ p. absurd (cc))
command_Decides (Replace member id orig terms) (Cancel member' id' orig') = (λ e. absurd (true≢false (sym e)), λ p. absurd (cc))
command_Decides (Replace member id orig terms) (Replace member' id' orig' terms') =
    Decides-like ((member == member') && ((bytes_eq id id') && ((bytes_eq orig orig') && (same_terms terms terms'))))
    (λ h k. Replace (h.0 k) (h.1.0 k) (h.1.1.0 k) (h.1.1.1 k))
    (λ p. let e0 : member ≡ member' = cc in let e1 : id ≡ id' = cc in let e2 : orig ≡ orig' = cc in let e3 : terms ≡ terms' = cc in (e0, (e1, (e2, e3))))
    (Decides-and (member == member') ((bytes_eq id id') && ((bytes_eq orig orig') && (same_terms terms terms'))) (Decides-eqb member member')
    (Decides-and (bytes_eq id id') ((bytes_eq orig orig') && (same_terms terms terms')) (bytes_eq-Decides id id')
    (Decides-and (bytes_eq orig orig') (same_terms terms terms') (bytes_eq-Decides orig orig')
    (terms_Decides terms terms'))))
command_Decides (Replace member id orig terms) (Status member' id' side') = (λ e. absurd (true≢false (sym e)), λ p. absurd (cc))
command_Decides (Status member id side) (Quote market' bid' offer') = (λ e. absurd (true≢false (sym e)), λ p. absurd (cc))
command_Decides (Status member id side) (New member' id' terms') = (λ e. absurd (true≢false (sym e)), λ p. absurd (cc))
command_Decides (Status member id side) (Cancel member' id' orig') = (λ e. absurd (true≢false (sym e)), λ p. absurd (cc))
command_Decides (Status member id side) (Replace member' id' orig' terms') = (λ e. absurd (true≢false (sym e)), λ p. absurd (cc))
command_Decides (Status member id side) (Status member' id' side') =
    Decides-like ((member == member') && ((bytes_eq id id') && (side == side')))
    (λ h k. Status (h.0 k) (h.1.0 k) (h.1.1 k))
    (λ p. let e0 : member ≡ member' = cc in let e1 : id ≡ id' = cc in let e2 : side ≡ side' = cc in (e0, (e1, e2)))
    (Decides-and (member == member') ((bytes_eq id id') && (side == side')) (Decides-eqb member member')
    (Decides-and (bytes_eq id id') (side == side') (bytes_eq-Decides id id')
    (Decides-eqb side side')))

-- an event is a command at its moment where the test says so
pub is_command_Decides : (event : Event) (timed : Timed) → Decides (is_command event timed) ((event.moment, event.command) ≡ timed)
is_command_Decides event timed =
    Decides-like (int_eq event.moment timed.0 && same_command event.command timed.1)
    (λ h k. (h.0 k, h.1 k))
    (λ p. (λ k. (p k).0, λ k. (p k).1))
    (Decides-and (int_eq event.moment timed.0) (same_command event.command timed.1) (Decides-int_eq event.moment timed.0)
    (command_Decides event.command timed.1))
