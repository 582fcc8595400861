-- Events are of demanded frames.
use Rattle.std.proofs.Common.{◌≡◌, ℕ, ◌≤◌, List, Option, Some, None, inl, refl, sym, subst}
use Rattle.std.specs.Prelude.{IsSome}
use Rattle.irt_base.specs.Cycle.{IsDue}
use Rattle.irt_base.specs.declared.blocks.Bundle.{Bundle}
use Rattle.irt_base.specs.declared.blocks.Entry.{Entry}
use Rattle.irt_base.specs.declared.limits.TheConstants.{MAX_DATA}
use Rattle.irt_base.specs.declared.plants.Demand.{Demand}
use Rattle.irt_base.specs.declared.plants.Plant.{Plant}
use Rattle.plan_rules.specs.Frames.{IsTreeAt}
use Rattle.plan_rules.specs.Network.{EntriesAreDemanded, EntriesAreAlike}
use Rattle.plan_rules.specs.Once.{IsDueFrame}
use Rattle.plan_rules.specs.Places.{IsAccepted, place_of}
use Rattle.plan_rules.specs.Plan.{setup_of}
use Rattle.plan_rules.specs.Tree.{demand_of}
use Rattle.plan_rules.specs.Way.{entry_at}
use Rattle.plan_rules.specs.World.{WorldRow}
use Rattle.cycle_events.specs.declared.events.Event.{Event}
use Rattle.cycle_events.specs.declared.events.What.{What}
use Rattle.cycle_events.specs.declared.events.What.TheVariants.{Start, Arrive}
use Rattle.cycle_events.specs.Events.{Happens, HappensAs}
use Rattle.cycle_events.specs.Run.{play_of}
use Rattle.switch_events.proofs.Lengths.{demanded_length}
use Rattle.net_turns.specs.Known.{IsDemanded}

some_of : {A : Type 0} (o : Option A) → IsSome o → (x : A) × (o ≡ Some x)
some_of None is = absurd (cc)
some_of (Some x) is = (x, refl)

module _ (plant : Plant) (bundles : List Bundle) (accepted : IsAccepted plant bundles) (row : WorldRow) (k : ℕ)
    (entries : EntriesAreDemanded (setup_of plant bundles)) (alike : EntriesAreAlike (setup_of plant bundles)) where
  -- the provider has an entry of the frame, which is alike
  frame_due : (sender frame : ℕ) (from : Entry) (demand : Demand) → demand_of plant frame ≡ Some demand →
      entry_at (setup_of plant bundles) sender frame ≡ Some from → IsDue k from.ratio from.phase → IsDueFrame (setup_of plant bundles) k frame demand
  frame_due sender frame from demand demanded stands due =
      let tree : IsTreeAt plant bundles (place_of demand.provider.0 0 frame) = accepted 2 (place_of demand.provider.0 0 frame) in
      let (own, there) = some_of (entry_at (setup_of plant bundles) demand.provider.0 frame) (tree.present demand demanded (inl refl)) in
      let same = alike frame sender demand.provider.0 from own stands there in
      record {
        own = own;
        demanded = demanded;
        stands = there;
        due = subst (λ ratio. IsDue k ratio own.phase) (sym same.ratio) (subst (IsDue k from.ratio) (sym same.phase) due);
      }

  by_entry : (e : Event) (sender : ℕ) (from : Entry) → entry_at (setup_of plant bundles) sender e.frame.0 ≡ Some from → IsDue k from.ratio from.phase →
      IsDemanded (play_of plant bundles row k) e
  by_entry e sender from stands due =
      let known = entries sender e.frame.0 from stands in
      let length = demanded_length plant bundles accepted sender e.frame.0 known.demand from known.demanded stands in
      let valid = known.valid.length.0.1 in
      record {
        demand = known.demand;
        frame = frame_due sender e.frame.0 from known.demand known.demanded stands due;
        short = subst (λ n. n ≤ MAX_DATA) length valid;
      }

  as_what : (e : Event) (what : What) → HappensAs (play_of plant bundles row k) e what → IsDemanded (play_of plant bundles row k) e
  as_what e Start is = by_entry e e.device.0 is.entry is.stands is.due
  as_what e Arrive (from, is) = by_entry e is.sender from is.stands is.due

  pub demanded : (e : Event) → Happens (play_of plant bundles row k) e → IsDemanded (play_of plant bundles row k) e
  demanded e is = as_what e e.what is
