-- What is known of an event that happens.
use Rattle.std.proofs.Common.{◌≡◌, ℕ, ◌≤◌, ◌∷◌, [], List, option_map, unwrap_or, sym, ◌∙◌, ap, subst}
use Rattle.std.specs.Prelude.{pos, ◌+ℤ◌}
use Rattle.irt_base.specs.Cycle.{wire_time}
use Rattle.irt_base.specs.declared.limits.TheConstants.{MAX_DATA}
use Rattle.irt_base.specs.declared.plants.Demand.{Demand}
use Rattle.irt_switch.specs.State.{SwitchState}
use Rattle.irt_world.specs.declared.rows.Row.{Row}
use Rattle.cycle_rows.specs.declared.rows.JournalRow.TheVariants.{Occupy}
use Rattle.cycle_events.specs.declared.events.Event.{Event}
use Rattle.cycle_events.specs.declared.events.What.TheVariants.{Start}
use Rattle.cycle_events.specs.Events.{Play, rows_of}
use Rattle.cycle_events.specs.Run.{IsNearEvent}
use Rattle.switch_events.specs.Answered.{ForSwitches}
use Rattle.net_site.specs.Site.{SiteState}
use Rattle.net_turns.specs.Bytes.{bytes_of}
use Rattle.net_turns.specs.Known.{IsDemanded, EventsAreDemanded, StartsAreKnown}
use Rattle.net_frames.specs.Playing.{IsPlaying, play_by}
use Rattle.net_frames.proofs.Playing.{of_switches}

module _ (site : SiteState) (row : Row) (k : ℕ) (switches : List SwitchState) (frames : List (List ℕ)) (playing : IsPlaying site row k switches frames)
    (e : Event) (near : IsNearEvent (play_by site.plant switches row k) e) where
  abbrev play : Play
  play = play_by site.plant switches row k

  pub counted : (it : IsDemanded play e) → it.demand.length ≡ bytes_of site.plant e.frame.0
  counted it = sym (ap (λ o. unwrap_or (option_map (λ (d : Demand). d.length) o) 0) it.frame.demanded)

  pub bytes_short : ForSwitches EventsAreDemanded → bytes_of site.plant e.frame.0 ≤ MAX_DATA
  bytes_short law = let it = of_switches EventsAreDemanded law site row k switches frames playing e near.happens in subst (λ n. n ≤ MAX_DATA) (counted it) it.short

  -- a start gives one row
  pub start_given : ForSwitches StartsAreKnown → e.what ≡ Start →
      rows_of play e ≡ Occupy k e.device e.port e.frame e.at (e.at +ℤ pos (wire_time (bytes_of site.plant e.frame.0))) ∷ []
  start_given law what =
      let it = of_switches StartsAreKnown law site row k switches frames playing e what near.happens in
      it.row ∙ ap (λ n. Occupy k e.device e.port e.frame e.at (e.at +ℤ pos (wire_time n)) ∷ []) (counted it.known)
