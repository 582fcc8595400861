-- A demand's frame has at most one plan in a phase, and one first fit.
use Rattle.std.proofs.Common.{◌≡◌, ℕ, ◌+◌, ◌≤◌, inl, inr, List, Option, Some, None, sym, ◌∙◌, ap, subst, arith, refl}
use Rattle.std.specs.Prelude.{option_map}
use Rattle.std.proofs.lemmas.Bool.{cases_order, cases_eq}
use Rattle.std.proofs.lemmas.List.{ext_get_or}
use Rattle.std.proofs.lemmas.Option.{same_Some}
use Rattle.irt_base.specs.Cycle.{guard_time}
use Rattle.irt_base.specs.Wiring.{hop_of}
use Rattle.irt_base.specs.declared.blocks.Entry.{Entry}
use Rattle.irt_base.specs.declared.plants.Demand.{Demand}
use Rattle.irt_base.specs.declared.plants.Plant.{Plant}
use Rattle.irt_route.specs.Trees.{Parents}
use Rattle.plan_rules.specs.Way.{entry_at, IsAnchor, IsParent}
use Rattle.plan_rules.specs.Tree.{IsReached, here, through}
use Rattle.plan_rules.specs.SendWindow.{SendWindow, HasWindow, at_anchor, behind}
use Rattle.fit_rules.specs.declared.frame_plan.FramePlan.{FramePlan}
use Rattle.fit_rules.specs.Shape.{alone, entry_of, IsRatioFor, HasShape}
use Rattle.fit_rules.specs.Fit.{IsLeastFrom, IsClearAt, IsReady, IsFitted, IsInPhase, IsLastEnd, IsFirstFit, IsNotWorse}
use Rattle.fit_rules.specs.Moves.{IsAlike, offset_at, AgreeAbove}
use Rattle.fit_rules.proofs.Alike.{clear_alike, ready_alike, twin_of, stands_alone, same_frame}
use Rattle.fit_rules.proofs.Entries.{no_entry, entry_from}
use Rattle.fit_rules.proofs.Routed.{IsRouted, reached}
use Rattle.fit_rules.proofs.Sliding.{way_anchor, way_of, flipped}

-- the least number of which either of two words holds that hold of the same numbers
pub least_is_one : (P Q : ℕ → Type 0) (from x y : ℕ) → ((n : ℕ) → P n → Q n) → ((n : ℕ) → Q n → P n) → IsLeastFrom P from x → IsLeastFrom Q from y → x ≡ y
least_is_one P Q from x y to back a b = elim (cases_order x y) [
  | inl same ↦ same
  | inr (inl less) ↦ absurd (b.least x a.reached less (to x a.holds))
  | inr (inr more) ↦ absurd (a.least y b.reached more (back y b.holds))
]

abbrev pub AreFitted : Plant → List FramePlan → FramePlan → Type 0
AreFitted plant placed plan = (device : ℕ) (e : Entry) → entry_at (alone plant plan) device plan.frame.0 ≡ Some e →
    IsAnchor (alone plant plan) device e → IsFitted plant placed plan device e

-- two plans of one shape, with the least offsets at their anchors
record ArePair (plant : Plant) (parents : Parents) (placed : List FramePlan) (demand : Demand) (ratio phase : ℕ) (plan other : FramePlan) : Type 0 where
  routed : IsRouted plant parents demand
  first : HasShape plant parents demand ratio phase plan
  second : HasShape plant parents demand ratio phase other
  fitted : AreFitted plant placed plan
  also : AreFitted plant placed other

abbrev AgreeAt : Plant → FramePlan → FramePlan → ℕ → Type 0
AgreeAt plant plan other device = (e : Entry) → entry_at (alone plant plan) device plan.frame.0 ≡ Some e → AgreeAbove plant plan other device e

same_entries : (e g : Entry) → IsAlike e g → e.send_offset ≡ g.send_offset → e ≡ g
same_entries e g alike offset =
    let frame = sym alike.frame in
    let size = sym alike.length in
    let ratio = sym alike.ratio in
    let phase = sym alike.phase in
    let rx = sym alike.rx_port in
    let tx = sym alike.tx in
    λ i. record { send_offset = offset i; data_length = size i; ratio = ratio i; phase = phase i; frame = frame i; rx_port = rx i; tx = tx i }

-- one greatest ratio
pub same_ratio : (plant : Plant) (demand : Demand) (r s : ℕ) → IsRatioFor plant demand r → IsRatioFor plant demand s → r ≡ s
same_ratio plant demand r s a b = omega (arith, a.greatest s b.is b.update, b.greatest r a.is a.update)

-- one last end
pub same_end : (plant : Plant) (plan : FramePlan) (n m : ℕ) → IsLastEnd plant plan n → IsLastEnd plant plan m → n ≡ m
same_end plant plan n m a b =
    let (d, p, e, w, sends, is) = a.some in
    let (v, q, f, u, also, at) = b.some in
    omega (arith, is, at, b.bound d p e w sends, a.bound v q f u also)

phases_agree : (end phase other_end other_phase : ℕ) → IsNotWorse end phase other_end other_phase → IsNotWorse other_end other_phase end phase → other_phase ≡ phase
phases_agree end phase other_end other_phase a b = elim a [
  | inl less ↦ elim b [ inl more ↦ absurd (omega arith) | inr tie ↦ absurd (omega (arith, tie.0)) ]
  | inr tie ↦ elim b [ inl more ↦ absurd (omega (arith, tie.0)) | inr again ↦ omega (arith, tie.1, again.1) ]
]

module _ (plant : Plant) (parents : Parents) (demand : Demand) (routed : IsRouted plant parents demand) where
  pub same_ready : (plan : FramePlan) (device : ℕ) (e : Entry) (r s : ℕ) →
      IsReady plant plan device e r → IsReady plant plan device e s → r ≡ s
  same_ready plan device e r s (inl (own, is)) (inl (also, at)) = is ∙ sym at
  same_ready plan device e r s (inl (own, is)) (inr when) = let received : 1 ≤ e.rx_port = when.comes.comes.received in absurd (omega arith)
  same_ready plan device e r s (inr when) (inl (own, is)) = let received : 1 ≤ e.rx_port = when.comes.comes.received in absurd (omega arith)
  same_ready plan device e r s (inr a) (inr b) =
      let (same, ports) = routed.known.parents (alone plant plan) routed.rules plan.frame.0 device e a.comes.parent a.comes.port b.comes.parent b.comes.port a.comes.comes b.comes.comes in
      let sends = subst (λ x. HasWindow (alone plant plan) plan.frame.0 x b.window) (sym same) b.comes.sends in
      let windows = routed.known.windows (alone plant plan) routed.rules plan.frame.0 a.comes.parent a.window b.window a.comes.sends sends in
      let hops = same_Some a.hop b.hop (sym a.comes.hops ∙ (λ i. hop_of plant (same i) (ports i)) ∙ b.comes.hops) in
      let devices = same_Some a.d b.d (sym a.held ∙ b.held) in
      a.is ∙ (λ i. (windows i).hi + hops i + (devices i).bmax + guard_time plant.window) ∙ sym b.is

  -- A fitted anchor has the same offset in both plans, where they agree above it.
  pub fitted_alike : (placed : List FramePlan) (ratio phase : ℕ) (plan other : FramePlan) →
      HasShape plant parents demand ratio phase plan → HasShape plant parents demand ratio phase other → (device : ℕ) (e g : Entry) →
      entry_of plan device ≡ Some e → entry_of other device ≡ Some g → AgreeAbove plant plan other device e →
      IsFitted plant placed plan device e → IsFitted plant placed other device g → e.send_offset ≡ g.send_offset
  fitted_alike placed ratio phase plan other first second device e g is at agree mine its =
      let moved = ready_alike plant parents demand ratio phase plan other first second device e g is at agree mine.ready mine.is_ready in
      let ready = same_ready other device g mine.ready its.ready moved its.is_ready in
      least_is_one (IsClearAt plant placed plan device) (IsClearAt plant placed other device) mine.ready e.send_offset g.send_offset
      (clear_alike plant parents demand ratio phase placed plan other first second device)
      (clear_alike plant parents demand ratio phase placed other plan second first device) mine.least
      (subst (λ r. IsLeastFrom (IsClearAt plant placed other device) r g.send_offset) (sym ready) its.least)

  -- Where nothing from the ready time on is clear in one plan, no plan that agrees above is fitted there.
  pub none_fitted : (placed : List FramePlan) (ratio phase : ℕ) (plan other : FramePlan) →
      HasShape plant parents demand ratio phase plan → HasShape plant parents demand ratio phase other → (device : ℕ) (e g : Entry) →
      entry_of plan device ≡ Some e → entry_of other device ≡ Some g → AgreeAbove plant plan other device e →
      (ready : ℕ) → IsReady plant plan device e ready → ((x : ℕ) → ready ≤ x → ¬ IsClearAt plant placed plan device x) → ¬ IsFitted plant placed other device g
  none_fitted placed ratio phase plan other first second device e g is at agree ready when none its =
      let moved = ready_alike plant parents demand ratio phase plan other first second device e g is at agree ready when in
      let same = same_ready other device g ready its.ready moved its.is_ready in
      none g.send_offset (subst (λ r. r ≤ g.send_offset) (sym same) its.least.reached)
      (clear_alike plant parents demand ratio phase placed other plan second first device g.send_offset its.least.holds)

module _ (plant : Plant) (parents : Parents) (placed : List FramePlan) (demand : Demand) (ratio phase : ℕ) (plan other : FramePlan)
    (pair : ArePair plant parents placed demand ratio phase plan other) where
  offset_same : (device : ℕ) (e : Entry) → entry_of plan device ≡ Some e →
      IsAnchor (alone plant plan) device e → AgreeAbove plant plan other device e → offset_at plan device ≡ offset_at other device
  offset_same device e is anchor agree =
      let (g, at, alike) = twin_of plant parents demand ratio phase plan other pair.first pair.second device e is in
      let mine = pair.fitted device e (stands_alone plant parents demand ratio phase plan pair.first device e is) anchor in
      let its = pair.also device g (stands_alone plant parents demand ratio phase other pair.second device g at)
      (way_anchor plant (alone plant plan).blocks (alone plant other).blocks device e g (way_of e g alike) anchor) in
      let offsets = fitted_alike plant parents demand pair.routed placed ratio phase plan other pair.first pair.second device e g is at agree mine its in
      ap (option_map (λ (x : Entry). x.send_offset)) is ∙ ap Some offsets ∙ sym (ap (option_map (λ (x : Entry). x.send_offset)) at)

  window_agrees : (device : ℕ) (w : SendWindow) → AgreeAt plant plan other device →
      HasWindow (alone plant plan) plan.frame.0 device w → offset_at plan w.anchor ≡ offset_at other w.anchor
  window_agrees _ _ agree (at_anchor d e is anchor) =
      offset_same d e (entry_from plant plan.entries d plan.frame.0 e is) anchor (agree e is)
  window_agrees _ _ agree (behind d e parent port hop w dev is off comes sends hops held) =
      agree e is hop w (record { parent = parent; port = port; stands = is; comes = comes; hops = hops; sends = sends })

  -- along the way from the provider the offsets agree
  agree_above : (provider device : ℕ) → provider ≡ demand.provider.0 →
      IsReached (alone plant plan) provider plan.frame.0 device → AgreeAt plant plan other device
  agree_above provider _ own here = λ e is hop w comes.
      let provided = (pair.first.each provider e (entry_from plant plan.entries provider plan.frame.0 e is)).provided own in
      let received : 1 ≤ e.rx_port = comes.comes.received in
      absurd (omega arith)
  agree_above provider _ own (through device f parent port stands from before) = λ e is hop w comes.
      let same : e ≡ f = same_Some e f (sym is ∙ stands) in
      let again = subst (λ x. IsParent (alone plant plan) plan.frame.0 device x comes.parent comes.port) same comes.comes in
      let (up, ports) = pair.routed.known.parents (alone plant plan) pair.routed.rules plan.frame.0 device f comes.parent comes.port parent port again from in
      window_agrees parent w
      (agree_above provider parent own before)
      (subst (λ x. HasWindow (alone plant plan) plan.frame.0 x w) up comes.sends)

  same_offset : (device : ℕ) (e g : Entry) → IsAlike e g → entry_of plan device ≡ Some e →
      entry_of other device ≡ Some g → e.send_offset ≡ g.send_offset
  same_offset device e g alike is at = elim (cases_eq e.send_offset g.send_offset) [
    | inl same ↦ same
    | inr differ ↦
        let on = (pair.first.each device e is).on in
        let agree = agree_above demand.provider.0 device refl
        (reached plant parents demand pair.routed ratio phase plan pair.first device on) in
        let idle : ¬ IsAnchor (alone plant plan) device e =
        λ anchor. differ (same_Some e.send_offset g.send_offset (sym (ap (option_map (λ (x : Entry). x.send_offset)) is)
        ∙ offset_same device e is anchor
        (agree e (stands_alone plant parents demand ratio phase plan pair.first device e is))
        ∙ ap (option_map (λ (x : Entry). x.send_offset)) at)) in
        let also : ¬ IsAnchor (alone plant other) device g =
        λ anchor. idle (way_anchor plant (alone plant other).blocks (alone plant plan).blocks device g e (way_of g e (flipped e g alike)) anchor) in
        pair.first.idle device e is idle ∙ sym (pair.second.idle device g at also)
  ]

  same_at : (device : ℕ) (o p : Option Entry) → entry_of plan device ≡ o →
      entry_of other device ≡ p → o ≡ p
  same_at device None None is at = refl
  same_at device None (Some g) is at =
      let (e, there, alike) = twin_of plant parents demand ratio phase other plan pair.second pair.first device g at in
      no_entry e (sym is ∙ there)
  same_at device (Some e) None is at =
      let (g, there, alike) = twin_of plant parents demand ratio phase plan other pair.first pair.second device e is in
      no_entry g (sym at ∙ there)
  same_at device (Some e) (Some g) is at =
      let (f, there, alike) = twin_of plant parents demand ratio phase plan other pair.first pair.second device e is in
      let twin : IsAlike e g = subst (IsAlike e) (same_Some f g (sym there ∙ at)) alike in
      ap Some (same_entries e g twin (same_offset device e g twin is at))

  same_plans : plan ≡ other
  same_plans =
      let frames = same_frame plant parents demand ratio phase plan other pair.first pair.second in
      let entries = ext_get_or None plan.entries other.entries (pair.first.count ∙ sym pair.second.count)
      (λ device within. same_at device (entry_of plan device) (entry_of other device) refl refl) in
      λ i. record { frame = frames i; entries = entries i }

module _ (plant : Plant) (parents : Parents) (demand : Demand) (routed : IsRouted plant parents demand) where
  -- In a phase a demand has at most one plan.
  pub one_in_phase : (placed : List FramePlan) (phase : ℕ) (plan other : FramePlan) →
      IsInPhase plant parents placed demand phase plan → IsInPhase plant parents placed demand phase other → plan ≡ other
  one_in_phase placed phase plan other a b =
      let ratios = same_ratio plant demand b.ratio a.ratio b.rate a.rate in
      same_plans plant parents placed demand a.ratio phase plan other (record {
        routed = routed;
        first = a.shape;
        second = subst (λ r. HasShape plant parents demand r phase other) ratios b.shape;
        fitted = a.fitted;
        also = b.fitted;
      })

  -- A demand has at most one first fit beside the frames placed.
  pub one_first_fit : (placed : List FramePlan) (plan other : FramePlan) →
      IsFirstFit plant parents placed demand plan → IsFirstFit plant parents placed demand other → plan ≡ other
  one_first_fit placed plan other a b =
      let phases = phases_agree a.end a.phase b.end b.phase (a.best b.phase b.end other b.is b.ends) (b.best a.phase a.end plan a.is a.ends) in
      one_in_phase placed a.phase plan other a.is (subst (λ p. IsInPhase plant parents placed demand p other) phases b.is)
