-- What was loaded rests on the words taken in its cycle.
use Rattle.std.proofs.Common.{◌≡◌, ℕ, ◌<◌, List, [], Option, Some, None, replicate, refl, ◌∙◌, ap}
use Rattle.std.specs.Option.{option_map_or}
use Rattle.irt_base.specs.declared.plants.Demand.{Demand}
use Rattle.iso_rules.specs.Image.{app_on, sent_words, loaded_words}
use Rattle.iso_rules.specs.Station.{entries_at, provided_of, output_count, part_of}
use Rattle.plan_rules.specs.Plan.{setup_of}
use Rattle.plan_rules.specs.Tree.{demand_of}
use Rattle.plan_rules.specs.Way.{Setup}
use Rattle.plan_rules.specs.World.{WorldRow}
use Rattle.plant_stations.specs.Stations.{StationsState, HavePlayed}

map_or_same : {A B : Type 0} (f g : A → B) (o : Option A) (z : B) → ((x : A) → f x ≡ g x) → option_map_or f o z ≡ option_map_or g o z
map_or_same f g None z same = refl
map_or_same f g (Some x) z same = same x

pub same_loaded : (setup : Setup) (taken given : ℕ → ℕ → List ℕ) (k frame : ℕ) → ((app : ℕ) → taken app k ≡ given app k) →
    loaded_words setup taken k frame ≡ loaded_words setup given k frame
same_loaded setup taken given k frame same =
    map_or_same
    (λ (d : Demand). part_of (provided_of (entries_at setup d.provider.0)) frame (sent_words setup taken k d.provider.0))
    (λ (d : Demand). part_of (provided_of (entries_at setup d.provider.0)) frame (sent_words setup given k d.provider.0))
    (demand_of setup.plant frame) []
    (λ d. ap (part_of (provided_of (entries_at setup d.provider.0)) frame)
    (map_or_same (λ app. taken app k) (λ app. given app k) (app_on setup.plant d.provider.0) (replicate (output_count setup d.provider.0) 0) same))

pub still_played : (world : List WorldRow) (taken given : ℕ → ℕ → List ℕ) (done : ℕ) (s : StationsState) →
    ((app k : ℕ) → k < done → taken app k ≡ given app k) → HavePlayed world taken done s → HavePlayed world given done s
still_played world taken given done s same played = record {
  count = played.count;
  each = λ n app c at there.
      let has = played.each n app c at there in
      record {
        bundle = has.bundle;
        held = has.held;
        frames = has.frames;
        state = has.state;
        arrived = λ k e before is.
            let came = has.arrived k e before is in
            record {
              each = λ reach. came.each reach ∙ ap Some (same_loaded (setup_of s.plant s.bundles) taken given k e.frame.0 (λ a. same a k before));
              only = came.only;
            };
      };
}
