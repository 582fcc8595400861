-- All apps' cycle and their turns.
use Rattle.std.proofs.Common.{◌≡◌, ℕ, zero, suc, nat_lt, ◌+◌, ◌<◌, ◌^◌, Bool, true, false, if◌then◌else◌, List, [], ◌∷◌, ◌++◌, length, map, slice_get, Some, refl, sym, ◌∙◌, ap, subst, arith}
use Rattle.std.specs.Prelude.{◌==◌, slice_index_or, Result, Ok, Err, OnOk, IfOk}
use Rattle.std.proofs.lemmas.Bool.{false≢true, eq-eqb, eqb-true}
use Rattle.std.proofs.lemmas.List.{ext_get_or, length-map}
use Rattle.std.proofs.lemmas.Option.{same_Some, slice_get_within, slice_get-get_or, get_or_from_slice_get}
use Rattle.io_buffers.specs.Given.{Given, given}
use Rattle.io_buffers.specs.Passes.{publication}
use Rattle.io_buffers.specs.Plain.{taken_from}
use Rattle.io_buffers.specs.declared.taken.Taken.{Taken}
use Rattle.irt_base.specs.declared.plants.App.{App}
use Rattle.irt_base.specs.declared.plants.Plant.{Plant}
use Rattle.irt_world.specs.Rows.{world_rows}
use Rattle.iso_plant.specs.Replay.{PlantView, IsReplay, setup_in, world_in, takes_of, images_of}
use Rattle.iso_plant.specs.Step.{Steps, StepsApp}
use Rattle.iso_rules.specs.Image.{IsImage}
use Rattle.iso_rules.specs.Lockstep.{IsLockstep, played, words_taken, after_takes, after_cycle}
use Rattle.iso_rules.specs.Turns.{AppRun, outputs_published, newest_taken, after_take, after_image, after_turn}
use Rattle.iso_rules.proofs.Images.{one_image}
use Rattle.iso_rules.proofs.PlayedRuns.{mapped_at, map_at}
use Rattle.plan_rules.proofs.Held.{some_at}
use Rattle.plan_rules.specs.Plan.{setup_of}
use Rattle.plan_rules.specs.Way.{Setup}
use Rattle.plan_rules.specs.World.{WorldRow}
use Rattle.iso_run.specs.Apps.{with_input, with_offer, turned, IsReady, IsTurned}
use Rattle.iso_run.specs.Each.{AreEach, AreReady, IsEndOf}
use Rattle.iso_run.specs.Ends.{EndView, end_at, published_to}
use Rattle.iso_run.specs.InLockstep.{IsAppOf, IsInLockstep, ends_view}
use Rattle.iso_run.specs.declared.apps.LockstepApp.{LockstepApp}
use Rattle.iso_run.proofs.OneTurn.{one_turn}
use Rattle.iso_run.proofs.Places.{all_from_places}
use Rattle.iso_run.proofs.Stepping.{AreOffered, AreOfferedEnds, AreShown, stood, at_end, run_count, run_device, stepped_ready, offered_ready, shown_ready}

-- ---- the images of devices, as a function

abbrev image_at : List ℕ → List (List ℕ) → ℕ → List ℕ
image_at [] images device = []
image_at (d ∷ devices) [] device = []
image_at (d ∷ devices) (image ∷ images) device = if d == device then image else image_at devices images device

chosen : (P : List ℕ → Type 0) (b : Bool) (x y : List ℕ) → (b ≡ true → P x) → (b ≡ false → P y) → P (if b then x else y)
chosen P true x y first second = first refl
chosen P false x y first second = second refl

-- where each device has its image in the list, the function gives it one
image_found : (P : ℕ → List ℕ → Type 0) (devices : List ℕ) (images : List (List ℕ)) →
    ((n d : ℕ) (image : List ℕ) → slice_get devices n ≡ Some d → slice_get images n ≡ Some image → P d image) →
    (n d : ℕ) (image : List ℕ) → slice_get devices n ≡ Some d → slice_get images n ≡ Some image → P d (image_at devices images d)
image_found P [] images each n d image at there = absurd (cc)
image_found P (x ∷ devices) [] each n d image at there = absurd (cc)
image_found P (x ∷ devices) (i ∷ images) each zero d image at there =
    chosen (P d) (x == d) i (image_at devices images d)
    (λ equals. subst (λ y. P y i) (eqb-true x d equals) (each 0 x i refl refl))
    (λ differs. absurd (false≢true (sym differs ∙ eq-eqb x d (same_Some x d at))))
image_found P (x ∷ devices) (i ∷ images) each (suc n) d image at there =
    chosen (P d) (x == d) i (image_at devices images d)
    (λ equals. subst (λ y. P y i) (eqb-true x d equals) (each 0 x i refl refl))
    (λ differs. image_found P devices images (λ m. each (suc m)) n d image at there)

-- ---- lists

get_last : {X : Type 0} (xs : List X) (x : X) (k : ℕ) → length xs ≡ k → slice_get (xs ++ x ∷ []) k ≡ Some x
get_last [] x zero count = refl
get_last [] x (suc k) count = absurd (omega (arith, count))
get_last (y ∷ xs) x zero count = absurd (omega (arith, count))
get_last (y ∷ xs) x (suc k) count = get_last xs x k (omega (arith, count))

image_if : (b : Bool) (x y : List ℕ) → ◌≡◌ {A = List (List ℕ)} (if b then x ∷ [] else []) (y ∷ []) → x ≡ y
image_if true x y is = cc
image_if false x y is = absurd (cc)

image_of : (e : EndView) (image : List ℕ) → published_to e ≡ image ∷ [] → e.image ≡ image
image_of e image is = image_if e.is_shown e.image image is

-- what an output exchange with publication k gives
given_is : (t : Taken) (words : List ℕ) (k : ℕ) (held newest : ℕ) (ps : List ℕ) → t ≡ record { number = newest; fresh = nat_lt held newest; in_window = true } →
    newest ≡ k → nat_lt held k ≡ nat_lt 0 k → words ≡ ps → given t words ≡ given (newest_taken k) ps
given_is t words k held newest ps is number fresh same = cc

-- the runs after a cycle: their devices are as before, and their takes are those of the cycle
same_devices : {A : Type 0} (reply : A → List ℕ → ℕ → List ℕ) (next : A → List ℕ → ℕ → A) (setup : Setup) (k : ℕ) (image : ℕ → List ℕ) (runs : List (AppRun A)) →
    map (λ (r : AppRun A). r.device) (after_cycle reply next setup k image runs) ≡ map (λ (r : AppRun A). r.device) runs
same_devices reply next setup k image [] = refl
same_devices reply next setup k image (run ∷ runs) = ap (λ ds. run.device ∷ ds) (same_devices reply next setup k image runs)

same_takes : {A : Type 0} (reply : A → List ℕ → ℕ → List ℕ) (next : A → List ℕ → ℕ → A) (setup : Setup) (k : ℕ) (image : ℕ → List ℕ) (runs : List (AppRun A)) →
    map (λ (r : AppRun A). r.takes) (after_cycle reply next setup k image runs) ≡ map (λ (r : AppRun A). r.takes) (after_takes setup k runs)
same_takes reply next setup k image [] = refl
same_takes reply next setup k image (run ∷ runs) = ap (λ ts. (after_take setup k run).takes ∷ ts) (same_takes reply next setup k image runs)

cycle_at : {A : Type 0} (reply : A → List ℕ → ℕ → List ℕ) (next : A → List ℕ → ℕ → A) (setup : Setup) (k : ℕ) (image : ℕ → List ℕ) (runs : List (AppRun A))
    (n : ℕ) (run : AppRun A) → slice_get runs n ≡ Some run →
    slice_get (after_cycle reply next setup k image runs) n ≡ Some (after_turn reply next setup k (after_image (image run.device) (after_take setup k run)))
cycle_at {A} reply next setup k image runs n run at =
    map_at (λ (r : AppRun A). after_turn reply next setup k (after_image (image r.device) r)) (after_takes setup k runs) n (after_take setup k run)
    (map_at (after_take setup k) runs n run at)

module _ {A : Type 0} (reply : A → List ℕ → ℕ → List ℕ) (next : A → List ℕ → ℕ → A) (states : List A) (old new : PlantView)
    (apps offered shown turned_apps : List (LockstepApp A)) (ends before after : List EndView)
    (l : IsInLockstep reply next states old apps ends) (so : AreOffered apps offered) (set : AreOfferedEnds apps ends before)
    (step : Steps old new (ends_view before) (ends_view after)) (replay : IsReplay new) (showing : AreShown after offered shown)
    (turning : AreEach (λ n a b. IsTurned reply next new.done a b) shown turned_apps) (few : new.done < 2 ^ 60) where
  abbrev setup : Setup
  setup = setup_in old

  abbrev k : ℕ
  k = old.done

  abbrev runs : List (AppRun A)
  runs = l.runs

  counted : length runs ≡ length old.plant.apps
  counted = run_count runs old.plant.apps l.between.devices

  same_setup : setup_in new ≡ setup
  same_setup = ap (λ p. setup_of p new.bundles) step.same.plant ∙ ap (setup_of old.plant) step.same.bundles

  same_world : world_in new ≡ world_in old
  same_world =
      ap (λ p. world_rows p new.bundles new.world) step.same.plant
      ∙ ap (λ b. world_rows old.plant b new.world) step.same.bundles
      ∙ ap (λ w. world_rows old.plant old.bundles w) step.same.world

  -- what happened at a place
  record AtPlace (n : ℕ) (run : AppRun A) : Type 0 where
    a : LockstepApp A
    there : slice_get apps n ≡ Some a
    is : IsAppOf setup k run a
    now : StepsApp old new (ends_view before) (ends_view after) n
    offer : (end_at before n).offer ≡ given (newest_taken k) (publication (outputs_published setup run.device run.turns) k)

  place : (n : ℕ) (run : AppRun A) → slice_get runs n ≡ Some run → AtPlace n run
  place n run at =
      let (a, was) = stood apps runs n run (sym l.between.count) at in
      let (e, stands) = stood ends apps n a (sym l.between.ready.count) was in
      let (f, new_end) = stood before ends n e (sym set.count) stands in
      let is = l.between.each n run a at was in
      let published = is.published in
      let within = slice_get_within runs n run at in
      record {
        a = a;
        there = was;
        is = is;
        now = step.apps n (omega (arith, within, counted));
        offer = ap (λ (x : EndView). x.offer) (at_end before n f new_end ∙ set.each n e f stands new_end a was)
            ∙ given_is (taken_from a.output) a.output.newest_words k a.output.held a.output.newest
            (publication (outputs_published setup run.device run.turns) k) refl published.output published.fresh published.words;
      }

  takes_at : (n : ℕ) (run : AppRun A) → slice_get runs n ≡ Some run → takes_of n new ≡ (after_take setup k run).takes
  takes_at n run at =
      let p = place n run at in
      let were : takes_of n old ≡ run.takes =
      ap (λ ts. slice_index_or ts n []) l.between.takes ∙ get_or_from_slice_get _ n run.takes [] (map_at (λ (r : AppRun A). r.takes) runs n run at) in
      p.now.take ∙ ap (λ ts. ts ++ (end_at before n).offer ∷ []) were ∙ ap (λ t. run.takes ++ t ∷ []) p.offer

  images_at : (n : ℕ) (run : AppRun A) (at : slice_get runs n ≡ Some run) → images_of n new ≡ run.images ++ (place n run at).now.image ∷ []
  images_at n run at =
      let p = place n run at in
      let were : images_of n old ≡ run.images =
      ap (λ ts. slice_index_or ts n []) l.between.images ∙ get_or_from_slice_get _ n run.images [] (map_at (λ (r : AppRun A). r.images) runs n run at) in
      p.now.shown ∙ ap (λ ts. ts ++ p.now.image ∷ []) were

  image_there : (n : ℕ) (run : AppRun A) (at : slice_get runs n ≡ Some run) → slice_get (images_of n new) k ≡ Some (place n run at).now.image
  image_there n run at =
      let p = place n run at in
      ap (λ is. slice_get is k) (images_at n run at) ∙ get_last run.images p.now.image k p.is.image_count

  -- the same lists
  takes_are : new.takes ≡ map (λ (r : AppRun A). r.takes) (after_takes setup k runs)
  takes_are =
      let count : length new.takes ≡ length runs = replay.cycles.takes ∙ ap (λ (p : Plant). length p.apps) step.same.plant ∙ sym counted in
      ext_get_or [] new.takes (map (λ (r : AppRun A). r.takes) (after_takes setup k runs))
      (count ∙ sym (length-map (after_takes setup k runs) (λ (r : AppRun A). r.takes) ∙ length-map runs (after_take setup k)))
      (λ n within.
      let (run, at) = some_at runs n (omega (arith, count, within)) in
      takes_at n run at
      ∙ sym (get_or_from_slice_get _ n (after_take setup k run).takes []
      (map_at (λ (r : AppRun A). r.takes) (after_takes setup k runs) n (after_take setup k run) (map_at (after_take setup k) runs n run at))))

  -- each device's image is that of its apps
  abbrev devices : List ℕ
  devices = map (λ (r : AppRun A). r.device) runs

  abbrev images : List (List ℕ)
  images = map (λ is. slice_index_or is k []) new.images

  abbrev image : ℕ → List ℕ
  image = image_at devices images

  abbrev IsTrueImage : ℕ → List ℕ → Type 0
  IsTrueImage device words = IsImage (setup_in new) (world_in new) (words_taken new.takes) device k words

  image_count : length new.images ≡ length runs
  image_count = replay.cycles.images ∙ ap (λ (p : Plant). length p.apps) step.same.plant ∙ sym counted

  true_image : (n : ℕ) (run : AppRun A) (at : slice_get runs n ≡ Some run) → IsTrueImage run.device (place n run at).now.image
  true_image n run at =
      let (app, is) = stood old.plant.apps runs n run counted at in
      let device : run.device ≡ app.device.0 = run_device runs old.plant.apps n run app l.between.devices at is in
      subst (λ d. IsTrueImage d (place n run at).now.image) (sym device)
      (replay.images n k app (place n run at).now.image (ap (λ (p : Plant). slice_get p.apps n) step.same.plant ∙ is) (image_there n run at))

  listed : (n : ℕ) (run : AppRun A) (at : slice_get runs n ≡ Some run) → slice_get images n ≡ Some (place n run at).now.image
  listed n run at =
      let within = slice_get_within runs n run at in
      map_at (λ is. slice_index_or is k []) new.images n (images_of n new) (slice_get-get_or new.images n [] (omega (arith, within, image_count)))
      ∙ ap Some (get_or_from_slice_get (images_of n new) k (place n run at).now.image [] (image_there n run at))

  found : (n : ℕ) (run : AppRun A) (at : slice_get runs n ≡ Some run) → IsTrueImage run.device (image run.device)
  found n run at =
      image_found IsTrueImage devices images
      (λ m d words there is.
      let (r, stands, device) = mapped_at (λ (r : AppRun A). r.device) runs m d there in
      let words_are : (place m r stands).now.image ≡ words = same_Some _ words (sym (listed m r stands) ∙ is) in
      subst (λ w. IsTrueImage d w) words_are (subst (λ x. IsTrueImage x (place m r stands).now.image) device (true_image m r stands)))
      n run.device (place n run at).now.image (map_at (λ (r : AppRun A). r.device) runs n run at) (listed n run at)

  image_is : (n : ℕ) (run : AppRun A) (at : slice_get runs n ≡ Some run) → (place n run at).now.image ≡ image run.device
  image_is n run at = one_image (setup_in new) (world_in new) (words_taken new.takes) run.device k _ _ (true_image n run at) (found n run at)

  abbrev next_runs : List (AppRun A)
  next_runs = after_cycle reply next setup k image runs

  next_count : length next_runs ≡ length runs
  next_count = length-map (after_takes setup k runs) _ ∙ length-map runs (after_take setup k)

  next_done : new.done ≡ k + 1
  next_done = step.done

  played_on : IsLockstep reply next (setup_in new) (world_in new) states new.done next_runs
  played_on =
      let taken = words_taken (map (λ (r : AppRun A). r.takes) (after_takes setup k runs)) in
      let more : IsLockstep reply next setup (world_in old) states (suc k) next_runs =
      played k runs image l.played
      (all_from_places _ runs (λ n run at.
      subst (λ (s : Setup). IsImage s (world_in old) taken run.device k (image run.device)) same_setup
      (subst (λ (w : List WorldRow). IsImage (setup_in new) w taken run.device k (image run.device)) same_world
      (subst (λ (ts : List (List Given)). IsImage (setup_in new) (world_in new) (words_taken ts) run.device k (image run.device)) takes_are
      (found n run at))))) in
      let count : suc k ≡ new.done = omega (arith, next_done) in
      subst (λ (s : Setup). IsLockstep reply next s (world_in new) states new.done next_runs) (sym same_setup)
      (subst (λ (w : List WorldRow). IsLockstep reply next setup w states new.done next_runs) (sym same_world)
      (subst (λ m. IsLockstep reply next setup (world_in old) states m next_runs) count more))

  images_are : new.images ≡ map (λ (r : AppRun A). r.images) next_runs
  images_are =
      ext_get_or [] new.images (map (λ (r : AppRun A). r.images) next_runs) (image_count ∙ sym (length-map next_runs (λ (r : AppRun A). r.images) ∙ next_count))
      (λ n within.
      let (run, at) = some_at runs n (omega (arith, image_count, within)) in
      images_at n run at
      ∙ ap (λ words. run.images ++ words ∷ []) (image_is n run at)
      ∙ sym (get_or_from_slice_get _ n (run.images ++ image run.device ∷ []) []
      (map_at (λ (r : AppRun A). r.images) next_runs n _ (cycle_at reply next setup k image runs n run at))))

  -- an app after its turn
  record AtEnd (n : ℕ) (b : LockstepApp A) : Type 0 where
    run : AppRun A
    at : slice_get runs n ≡ Some run
    stands : IsAppOf (setup_in new) new.done (after_turn reply next setup k (after_image (image run.device) (after_take setup k run))) b
    ready : IsReady b
    fit : (f : EndView) → slice_get after n ≡ Some f → IsEndOf b f

  stepped : AreReady offered after
  stepped = stepped_ready old new offered before after (offered_ready apps offered ends before l.between.ready so set) step

  ended : (n : ℕ) (b : LockstepApp A) → slice_get turned_apps n ≡ Some b → AtEnd n b
  ended n b is =
      let (c, c_at) = stood shown turned_apps n b turning.count is in
      let (o, o_at) = stood offered shown n c showing.count c_at in
      let (a, a_at) = stood apps offered n o so.count o_at in
      let (run, at) = stood runs apps n a l.between.count a_at in
      let (f, f_at) = stood after offered n o (sym stepped.count) o_at in
      let words : f.image ≡ image run.device =
      image_of f (place n run at).now.image (ap published_to (sym (at_end after n f f_at)) ∙ (place n run at).now.published) ∙ image_is n run at in
      let c_from : c ≡ with_input f.image o = showing.each n o c o_at c_at f f_at in
      let c_is : c ≡ with_input (image run.device) (with_offer a) =
      c_from ∙ ap (λ w. with_input w o) words ∙ ap (with_input (image run.device)) (so.each n a o a_at o_at) in
      let turn : IsTurned reply next new.done c b = turning.each n c b c_at is in
      let stands : IsAppOf setup (k + 1) (after_turn reply next setup k (after_image (image run.device) (after_take setup k run))) b =
      one_turn reply next setup k run a b (image run.device) (l.between.each n run a at a_at)
      (subst (λ m. IsTurned reply next m (with_input (image run.device) (with_offer a)) b) next_done (subst (λ x. IsTurned reply next new.done x b) c_is turn)) in
      let number : (turned reply next new.done c).output.newest ≡ new.done =
      ap (λ (x : LockstepApp A). x.output.newest) (sym turn.turned) ∙ stands.published.output ∙ sym next_done in
      let b_is : b ≡ turned reply next new.done (with_input f.image o) = turn.turned ∙ ap (turned reply next new.done) c_from in
      record {
        run = run;
        at = at;
        stands = subst (λ (s : Setup). IsAppOf s new.done (after_turn reply next setup k (after_image (image run.device) (after_take setup k run))) b) (sym same_setup)
            (subst (λ m. IsAppOf setup m (after_turn reply next setup k (after_image (image run.device) (after_take setup k run))) b) (sym next_done) stands);
        ready = subst IsReady (sym turn.turned)
            (record { output = turn.width; input = (shown_ready offered shown after stepped showing n c c_at).input; room = subst (λ m. m < 2 ^ 60) (sym number) few });
        fit = λ e e_at.
            let fit = stepped.fit n o e o_at e_at in
            subst (λ (x : LockstepApp A). IsEndOf x e) (sym b_is) (record { words = fit.words; image = fit.image });
      }

  one_cycle : IsInLockstep reply next states new turned_apps after
  one_cycle = record {
    runs = next_runs;
    played = played_on;
    between = record {
      devices = same_devices reply next setup k image runs ∙ l.between.devices ∙ ap (λ (p : Plant). map (λ (x : App). x.device.0) p.apps) (sym step.same.plant);
      takes = takes_are ∙ sym (same_takes reply next setup k image runs);
      images = images_are;
      count = turning.count ∙ showing.count ∙ so.count ∙ l.between.count ∙ sym next_count;
      ready = record {
        count = stepped.count ∙ sym (turning.count ∙ showing.count);
        ready = λ n b is. (ended n b is).ready;
        room = λ n b is. subst (λ m. m < 2 ^ 60) (sym (ended n b is).stands.published.input) few;
        fit = λ n b f is at. (ended n b is).fit f at;
      };
      each = λ n run b at is.
          let end = ended n b is in
          subst (λ (r : AppRun A). IsAppOf (setup_in new) new.done r b)
          (same_Some _ run (sym (cycle_at reply next setup k image runs n end.run end.at) ∙ at)) end.stands;
    };
  }

-- where no turn failed
pub cycle_told : {A E : Type 0} (reply : A → List ℕ → ℕ → List ℕ) (next : A → List ℕ → ℕ → A) (states : List A) (old new : PlantView)
    (apps offered shown turned_apps : List (LockstepApp A)) (ends before after : List EndView) (found : ℕ) (r : Result (Unit {0}) E) →
    IsInLockstep reply next states old apps ends → AreOffered apps offered → AreOfferedEnds apps ends before →
    Steps old new (ends_view before) (ends_view after) → IsReplay new → AreShown after offered shown → found ≡ new.done →
    OnOk r (AreEach (λ n a b. IsTurned reply next found a b) shown turned_apps) → new.done < 2 ^ 60 →
    IfOk r (λ v. IsInLockstep reply next states new turned_apps after)
cycle_told reply next states old new apps offered shown turned_apps ends before after found (Ok v) l so set step replay showing same turning few =
    one_cycle reply next states old new apps offered shown turned_apps ends before after l so set step replay showing
    (subst (λ m. AreEach (λ n a b. IsTurned reply next m a b) shown turned_apps) same turning) few
cycle_told reply next states old new apps offered shown turned_apps ends before after found (Err e) l so set step replay showing same turning few = tt
