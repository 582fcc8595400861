-- What the devices release is what a run begins with.
use Rattle.std.proofs.Common.{◌≡◌, ℕ, ◌+◌, ◌≤◌, ◌++◌, ◌∷◌, [], List, length, map, Some, None, option_map, slice_get, slice_index_or, inl, inr, refl, sym, ◌∙◌, ap, subst, arith, All, append-nil, length-append}
use Rattle.std.specs.List.Sorted.{IsPermutation}
use Rattle.std.proofs.lemmas.List.{length-map}
use Rattle.std.proofs.lemmas.List.Elements.{All-get_or}
use Rattle.std.proofs.lemmas.List.Sorted.{IsPermutation-refl, length_permutation}
use Rattle.std.proofs.lemmas.Option.{same_Some, slice_get-map, slice_get-get_or, slice_get_cases, get_or_from_slice_get}
use Rattle.irt_base.specs.Valid.{IsBundle}
use Rattle.plan_rules.specs.Plan.{setup_of}
use Rattle.plan_rules.specs.Way.{IsInRange}
use Rattle.plan_rules.specs.World.{is_in_step}
use Rattle.irt_switch.specs.Begin.{IsToRelease}
use Rattle.irt_switch.specs.State.{SwitchState}
use Rattle.irt_switch.specs.declared.action.Outgoing.{Outgoing}
use Rattle.irt_world.specs.declared.rows.Row.{Row}
use Rattle.irt_world.specs.Rows.{world_row}
use Rattle.cycle_events.specs.declared.events.Event.{Event}
use Rattle.cycle_events.specs.Events.{Play}
use Rattle.cycle_events.specs.Run.{IsBegun, ForPlays, RunsBegin, RunsAreShort}
use Rattle.event_queue.specs.Waiting.{Waiting}
use Rattle.switch_events.specs.Answered.{ForSwitches}
use Rattle.switch_events.specs.Released.{AreReleased, ReleasesAreFirst, first_from}
use Rattle.net_begin.specs.Begun.{HasSmallTimes, starts_of_all}
use Rattle.net_begin.specs.Clocks.{begin_of}
use Rattle.net_starts.specs.Released.{starts_from}
use Rattle.net_site.specs.Site.{SiteState, IsPlayedAt, bundles_of}
use Rattle.net_frames.specs.Begun.{AllHaveBegun}
use Rattle.net_frames.specs.Frames.{IsReadyFor, most_frames}
use Rattle.net_frames.specs.Playing.{IsStarted, play_by}
use Rattle.net_frames.proofs.Times.{released_small}

-- what stands at a place of a mapped list
pub at_mapped : {A B : Type 0} (f : A → B) (xs : List A) (n : ℕ) (y : B) → slice_get (map f xs) n ≡ Some y → (x : A) × (slice_get xs n ≡ Some x) × (f x ≡ y)
at_mapped {A} {B} f xs n y is =
    elim (slice_get_cases xs n).1 [
      | inl (x, below, held, same) ↦ (x, held, same_Some (f x) y (sym (ap (option_map f) held) ∙ (sym (slice_get-map f xs n) ∙ is)))
      | inr (past, none) ↦ absurd (let no : None ≡ Some y = sym (ap (option_map f) none) ∙ (sym (slice_get-map f xs n) ∙ is) in cc)
    ]

pub mapped_at : {A B : Type 0} (f : A → B) (xs : List A) (n : ℕ) (x : A) → slice_get xs n ≡ Some x → slice_get (map f xs) n ≡ Some (f x)
mapped_at f xs n x is = slice_get-map f xs n ∙ ap (option_map f) is

abbrev left_of : SwitchState → List Outgoing
left_of s = s.left

module _ (site : SiteState) (row : Row) (k : ℕ) (switches : List SwitchState) (plan : IsPlayedAt site (bundles_of switches) row)
    (range : IsInRange (setup_of site.plant (bundles_of switches)) (world_row site.plant (bundles_of switches) row))
    (begun : AllHaveBegun site.plant row k switches) where
  abbrev play : Play
  play = play_by site.plant switches row k

  first_is : (device : ℕ) (some : List SwitchState) → first_from play device (map left_of some) ≡ starts_of_all (begin_of site.plant row k) device some
  first_is device [] = refl
  first_is device (s ∷ more) = ap (λ ys. starts_from (begin_of site.plant row k device) device s.left ++ ys) (first_is (device + 1) more)

  are_released : AreReleased (bundles_of switches) play (map left_of switches)
  are_released = record {
    count = length-map switches left_of ∙ sym (length-map switches (λ (s : SwitchState). s.bundle));
    each = λ device bundle list held lists.
        let (s, there, same) = at_mapped (λ (s : SwitchState). s.bundle) switches device bundle held in
        let (t, here, left) = at_mapped left_of switches device list lists in
        let one : s ≡ t = same_Some s t (sym there ∙ here) in
        let release = (begun device s there).release in
        subst (λ b. IsToRelease b k (is_in_step play.setup.plant play.row device) list) same
        (subst (λ l. IsToRelease s.bundle k (is_in_step play.setup.plant play.row device) l) (ap left_of one ∙ left) release);
  }

  pub first_starts : ForSwitches ReleasesAreFirst → IsBegun play (starts_of_all (begin_of site.plant row k) 0 switches)
  first_starts law =
      subst (IsBegun play) (first_is 0 switches)
      (law site.plant (bundles_of switches) plan.plan plan.accepted play.row range k (map left_of switches) are_released)

  pub started : ForSwitches ReleasesAreFirst → (before after : Waiting) → before.events ≡ [] →
      IsPermutation (starts_of_all (begin_of site.plant row k) 0 switches ++ before.events) after.events → IsStarted play after.events
  started law before after none put = record {
    first = starts_of_all (begin_of site.plant row k) 0 switches;
    begun = first_starts law;
    same = subst (λ xs. IsPermutation xs after.events)
        (ap (λ ys. starts_of_all (begin_of site.plant row k) 0 switches ++ ys) none ∙ append-nil (starts_of_all (begin_of site.plant row k) 0 switches)) put;
  }

  pub starts_fit : ForSwitches ReleasesAreFirst → ForPlays RunsBegin → ForPlays RunsAreShort →
      length (starts_of_all (begin_of site.plant row k) 0 switches) ≤ most_frames site.plant (bundles_of switches)
  starts_fit law begin short =
      let first = starts_of_all (begin_of site.plant row k) 0 switches in
      let running = begin site.plant (bundles_of switches) plan.plan plan.accepted play.row range k first first (first_starts law) (IsPermutation-refl first) in
      short site.plant (bundles_of switches) plan.plan plan.accepted play.row range k first [] first (first_starts law) running

  pub small_times : All HasSmallTimes switches
  small_times device d below =
      let there = slice_get-get_or switches device d below in
      let s = slice_index_or switches device d in
      let has = begun device s there in
      let valid = All-get_or IsBundle (bundles_of switches) device s.bundle (omega (arith, below, length-map switches (λ (x : SwitchState). x.bundle))) plan.plan.blocks in
      let held : slice_get (bundles_of switches) device ≡ Some s.bundle =
      mapped_at (λ (x : SwitchState). x.bundle) switches device s there in
      let same = get_or_from_slice_get (bundles_of switches) device s.bundle s.bundle held in
      released_small s.bundle (subst IsBundle same valid) k _ s.left has.release

pub room_kept : (most : ℕ) (before after : Waiting) (starts : List Event) → IsReadyFor most before → IsPermutation (starts ++ before.events) after.events →
    before.room ≤ after.room + length starts → most ≤ after.room + length after.events
room_kept most before after starts ready put room =
    let ample = ready.room in
    let moved = length_permutation (starts ++ before.events) after.events put in
    let joined = length-append starts before.events in
    omega arith
