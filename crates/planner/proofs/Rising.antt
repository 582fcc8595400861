-- Ends that rise by one item of a list after the other.
use Rattle.std.proofs.Common.{◌≡◌, ℕ, ◌+◌, ◌<◌, inl, inr, List, length, get_or, sym, ◌∙◌, ap, subst, arith}
use Rattle.std.proofs.lemmas.Bool.{cases_eq}
use Rattle.std.proofs.lemmas.List.{get_or_default}
use Rattle.irt_base.specs.declared.limits.TheConstants.{PHASES}
use Rattle.placement.specs.Layouts.{offset_at, end_of}
use Rattle.placement.specs.declared.layout.Layout.{Layout}
use Rattle.placement.specs.declared.layout.Limits.{Limits}
use Rattle.placement.specs.declared.layout.Rate.{Rate}
use Rattle.placement.specs.declared.layout.Sending.{Sending}
use Rattle.plan_blocks.specs.Ends.{Raises, IsDueEnd}
use Rattle.plan_blocks.proofs.Raising.{raises_both, raises_none}
use Rattle.frame_ways.specs.declared.frame_way.Arrival.{Arrival}
use Rattle.planner.specs.Ends.{IsSendingEnd, IsArrivalEnd, arrival_end}

-- the ends of the items before a place
pub record IsEndBefore {X : Type 0} (xs : List X) (rate : Rate) (device port end : X → ℕ) (below d p k x : ℕ) : Type 0 where
  pub place : ℕ
  pub item : X
  pub before : place < below
  pub inside : place < length xs
  pub has : get_or xs place item ≡ item
  pub is : IsDueEnd rate (device item) (port item) (end item) PHASES d p k x

module _ {X : Type 0} (xs : List X) (rate : Rate) (device port end : X → ℕ) (old : List ℕ) where
  no_end : Raises (IsEndBefore xs rate device port end 0) old old
  no_end = raises_none (IsEndBefore xs rate device port end 0) old (λ d p k x is. absurd (omega (arith, is.before)))

  one_end : (n : ℕ) (e : X) (mid new : List ℕ) → n < length xs → Raises (IsEndBefore xs rate device port end n) old mid →
      Raises (IsDueEnd rate (device (get_or xs n e)) (port (get_or xs n e)) (end (get_or xs n e)) PHASES) mid new →
      Raises (IsEndBefore xs rate device port end (n + 1)) old new
  one_end n e mid new inside first second =
      raises_both (IsEndBefore xs rate device port end n)
      (IsDueEnd rate (device (get_or xs n e)) (port (get_or xs n e)) (end (get_or xs n e)) PHASES)
      (IsEndBefore xs rate device port end (n + 1)) old mid new first second
      (λ d p k x is. record { place = is.place; item = is.item; before = omega (arith, is.before); inside = is.inside; has = is.has; is = is.is })
      (λ d p k x is. record {
        place = n;
        item = get_or xs n e;
        before = omega arith;
        inside = inside;
        has = get_or_default xs n (get_or xs n e) e inside;
        is = is;
      })
      (λ d p k x is. elim (cases_eq is.place n) [
        | inl same ↦
            let one : is.item ≡ get_or xs n e = sym is.has ∙ ap (λ (m : ℕ). get_or xs m is.item) same ∙ get_or_default xs n is.item e inside in
            inr (subst (λ (y : X). IsDueEnd rate (device y) (port y) (end y) PHASES d p k x) one is.is)
        | inr other ↦ inl (record { place = is.place; item = is.item; before = omega (arith, is.before, other); inside = is.inside; has = is.has; is = is.is })
      ])

raises_alike : (P R : ℕ → ℕ → ℕ → ℕ → Type 0) (old new : List ℕ) → ((d p k x : ℕ) → P d p k x → R d p k x) →
    ((d p k x : ℕ) → R d p k x → P d p k x) → Raises P old new → Raises R old new
raises_alike P R old new there back r = record {
  keeps = r.keeps;
  bound = λ d p k x place is. r.bound d p k x place (back d p k x is);
  some = λ d p k place. elim (r.some d p k place) [ inl same ↦ inl same | inr is ↦ inr (there d p k _ is) ];
}

-- the sendings of a layout, and the arrivals of a way
module _ (limits : Limits) (rate : Rate) (layout : Layout) (offsets : List ℕ) where
  abbrev pub AreSent : ℕ → List ℕ → List ℕ → Type 0
  AreSent n old new = Raises (IsEndBefore layout.sendings rate (λ (s : Sending). s.device.0) (λ (s : Sending). s.port.0)
      (λ (s : Sending). end_of limits layout.wire s (offset_at offsets s.anchor.0)) n) old new

  pub none_sent : (old : List ℕ) → AreSent 0 old old
  none_sent old = no_end layout.sendings rate (λ (s : Sending). s.device.0) (λ (s : Sending). s.port.0)
      (λ (s : Sending). end_of limits layout.wire s (offset_at offsets s.anchor.0)) old

  pub one_sent : (n : ℕ) (e : Sending) (old mid new : List ℕ) → n < length layout.sendings → AreSent n old mid →
      Raises (IsDueEnd rate (get_or layout.sendings n e).device.0 (get_or layout.sendings n e).port.0
      (end_of limits layout.wire (get_or layout.sendings n e) (offset_at offsets (get_or layout.sendings n e).anchor.0)) PHASES) mid new →
      AreSent (n + 1) old new
  one_sent n e old mid new inside first second = one_end layout.sendings rate (λ (s : Sending). s.device.0) (λ (s : Sending). s.port.0)
      (λ (s : Sending). end_of limits layout.wire s (offset_at offsets s.anchor.0)) old n e mid new inside first second

  pub all_sent : (n : ℕ) (old new : List ℕ) → n ≡ length layout.sendings → AreSent n old new → Raises (IsSendingEnd limits rate layout offsets) old new
  all_sent n old new all r = raises_alike _ (IsSendingEnd limits rate layout offsets) old new
      (λ d p k x is. record { sending = is.item; has = (is.place, is.inside, is.has); is = is.is })
      (λ d p k x is. record { place = is.has.0; item = is.sending; before = omega (arith, is.has.1, all); inside = is.has.1; has = is.has.2; is = is.is }) r

module _ (limits : Limits) (rate : Rate) (wire : ℕ) (arrivals : List Arrival) (offsets : List ℕ) where
  abbrev pub AreCome : ℕ → List ℕ → List ℕ → Type 0
  AreCome n old new = Raises (IsEndBefore arrivals rate (λ (a : Arrival). a.device.0) (λ (a : Arrival). a.port.0)
      (λ (a : Arrival). arrival_end limits wire a (offset_at offsets a.anchor.0)) n) old new

  pub none_come : (old : List ℕ) → AreCome 0 old old
  none_come old = no_end arrivals rate (λ (a : Arrival). a.device.0) (λ (a : Arrival). a.port.0)
      (λ (a : Arrival). arrival_end limits wire a (offset_at offsets a.anchor.0)) old

  pub one_come : (n : ℕ) (e : Arrival) (old mid new : List ℕ) → n < length arrivals → AreCome n old mid →
      Raises (IsDueEnd rate (get_or arrivals n e).device.0 (get_or arrivals n e).port.0
      (arrival_end limits wire (get_or arrivals n e) (offset_at offsets (get_or arrivals n e).anchor.0)) PHASES) mid new →
      AreCome (n + 1) old new
  one_come n e old mid new inside first second = one_end arrivals rate (λ (a : Arrival). a.device.0) (λ (a : Arrival). a.port.0)
      (λ (a : Arrival). arrival_end limits wire a (offset_at offsets a.anchor.0)) old n e mid new inside first second

  pub all_come : (n : ℕ) (old new : List ℕ) → n ≡ length arrivals → AreCome n old new → Raises (IsArrivalEnd limits rate wire arrivals offsets) old new
  all_come n old new all r = raises_alike _ (IsArrivalEnd limits rate wire arrivals offsets) old new
      (λ d p k x is. record { arrival = is.item; has = (is.place, is.inside, is.has); is = is.is })
      (λ d p k x is. record { place = is.has.0; item = is.arrival; before = omega (arith, is.has.1, all); inside = is.has.1; has = is.has.2; is = is.is }) r
