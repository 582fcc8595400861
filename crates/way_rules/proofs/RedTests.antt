-- What V7, V8 and V9 mean at an entry.
use Rattle.std.proofs.Common.{◌≡◌, ◌≤◌, ◌+◌, ℕ, List, Some, sym, ◌∙◌, ap, subst, arith}
use Rattle.std.specs.Prelude.{slice_get}
use Rattle.std.proofs.lemmas.Option.{same_Some}
use Rattle.irt_base.specs.Cycle.{guard_time, wire_time, IsDue}
use Rattle.irt_base.specs.Periods.{period_at}
use Rattle.irt_base.specs.declared.blocks.Bundle.{Bundle}
use Rattle.irt_base.specs.declared.blocks.Entry.{Entry}
use Rattle.irt_base.specs.declared.blocks.Side.TheVariants.{Tx, Rx}
use Rattle.irt_base.specs.declared.plants.Plant.{Plant}
use Rattle.plan_rules.specs.Places.{place_of}
use Rattle.plan_rules.specs.Way.{Leaves}
use Rattle.plan_rules.specs.SendWindow.{SendWindow, slack_time}
use Rattle.plan_rules.specs.Plan.{setup_of, IsPlan}
use Rattle.irt_window.specs.declared.ports.TheConstants.{TX_BITS}
use Rattle.plan_rules.specs.Frames.{IsSentInRed, IsReceivedInRed, EndsInCycle, IsSending}
use Rattle.plan_rules.specs.Ways.{window_of}
use Rattle.plan_rules.specs.declared.way.Way.{Way}
use Rattle.way_rules.specs.Fits.{FitsRed}
use Rattle.way_rules.specs.Placed.{IsPlaced}
use Rattle.way_rules.proofs.Bits.{high_bit}
use Rattle.way_rules.proofs.Entries.{entry_at-valid}
use Rattle.way_rules.proofs.OneWay.{OneParent, OneWindow, one_entry, one_window, sending, forwarded, coming}

pub sent-from : (plant : Plant) (bundles : List Bundle) (device port until : ℕ) (e : Entry) (way : Way) (b : Bundle)
    → OneWindow (setup_of plant bundles) → IsPlaced plant bundles device e way → slice_get bundles device ≡ Some b
    → until ≡ way.hi + wire_time e.data_length + slack_time plant.window device way.anchor.0 → FitsRed b.periods port Tx e way.lo until
    → IsSentInRed plant bundles (place_of device port e.frame.0)
sent-from plant bundles device port until e way b windows p held limit test x window c phase tx sends at among due is =
    let same = one_entry plant bundles device e x way p sends.stands in
    let own = one_window plant bundles device e way windows p window sends.sends in
    let fits = test phase among tx (subst (λ (y : Entry). IsDue phase y.ratio y.phase) (sym same) due)
    (ap (λ (d : Bundle). period_at d.periods port phase Tx) (same_Some b c (sym held ∙ at)) ∙ is) in (
      omega (arith, fits.0, ap (λ (w : SendWindow). w.lo) own),
      omega (
        arith,
        fits.1,
        limit,
        ap (λ (w : SendWindow). w.hi) own,
        ap (λ (y : Entry). y.data_length) same,
        ap (λ (w : SendWindow). slack_time plant.window device w.anchor) own,
      ),
    )

pub sent-to : (plant : Plant) (bundles : List Bundle) (device port until : ℕ) (e : Entry) (way : Way) (b : Bundle)
    → IsPlaced plant bundles device e way → slice_get bundles device ≡ Some b → Leaves e port
    → until ≡ way.hi + wire_time e.data_length + slack_time plant.window device way.anchor.0
    → IsSentInRed plant bundles (place_of device port e.frame.0) → FitsRed b.periods port Tx e way.lo until
sent-to plant bundles device port until e way b p held leaves limit holds phase among tx due is =
    let (red, orange) = holds e (window_of way) b phase tx (sending plant bundles device port e way p leaves) held among due is in
    (red, omega (arith, orange, limit))

pub received-from : (plant : Plant) (bundles : List Bundle) (device port until : ℕ) (e : Entry) (way : Way) (b : Bundle)
    → OneParent (setup_of plant bundles) → OneWindow (setup_of plant bundles) → IsPlaced plant bundles device e way
    → slice_get bundles device ≡ Some b → until ≡ way.latest + wire_time e.data_length + guard_time plant.window
    → FitsRed b.periods port Rx e way.earliest until → IsReceivedInRed plant bundles (place_of device port e.frame.0)
received-from plant bundles device port until e way b parents windows p held limit test x hop window c phase rx comes at_port at among due is =
    let same = one_entry plant bundles device e x way p comes.stands in
    let (earliest, latest) = coming plant bundles device e way parents windows p x hop window comes in
    let fits = test phase among rx (subst (λ (y : Entry). IsDue phase y.ratio y.phase) (sym same) due)
    (ap (λ (d : Bundle). period_at d.periods port phase Rx) (same_Some b c (sym held ∙ at)) ∙ is) in (
      omega (arith, fits.0, earliest),
      omega (arith, fits.1, limit, latest, ap (λ (y : Entry). y.data_length) same),
    )

pub received-to : (plant : Plant) (bundles : List Bundle) (device port until : ℕ) (e : Entry) (way : Way) (b : Bundle)
    → IsPlaced plant bundles device e way → slice_get bundles device ≡ Some b → 1 ≤ port → e.rx_port ≡ port
    → until ≡ way.latest + wire_time e.data_length + guard_time plant.window
    → IsReceivedInRed plant bundles (place_of device port e.frame.0) → FitsRed b.periods port Rx e way.earliest until
received-to plant bundles device port until e way b p held from_one at_port limit holds phase among rx due is =
    let f = forwarded plant bundles device e way p (omega arith) in
    let (red, orange) = holds e f.hop f.window b phase rx f.comes at_port held among due is in
    (omega (arith, red, f.earliest), omega (arith, orange, limit, f.latest))

-- the frame leaves by no port past the last
pub sending-later : (plant : Plant) (bundles : List Bundle) (device port frame : ℕ) (e : Entry) (window : SendWindow) → IsPlan plant bundles → TX_BITS ≤ port
    → IsSending (setup_of plant bundles) device port frame e window → ⊥
sending-later plant bundles device port frame e window plan past sends =
    let valid = entry_at-valid plant bundles device frame e plan sends.stands in
    high_bit e.tx port (omega (arith, valid.tx)) past sends.leaves.bit

pub ends-later : (plant : Plant) (bundles : List Bundle) (device port frame : ℕ) → IsPlan plant bundles → TX_BITS ≤ port
    → EndsInCycle plant bundles (place_of device port frame)
ends-later plant bundles device port frame plan past e window hop sends hops =
    absurd (sending-later plant bundles device port frame e window plan past sends)
