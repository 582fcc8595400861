-- What the apps of a lockstep run did, turn by turn, and that it is legal.
use Rattle.std.proofs.Common.{◌≡◌, ℕ, zero, suc, ◌+◌, ◌<◌, ◌≤◌, ◌⊎◌, List, [], ◌∷◌, ◌++◌, length, map, slice_get, Option, Some, None, replicate, inl, inr, refl, sym, ◌∙◌, ap, subst, arith}
use Rattle.std.specs.Prelude.{zip, option_map, unwrap_or}
use Rattle.std.specs.List.{last_or}
use Rattle.std.proofs.lemmas.List.{get_or_append_left, length_push, length-map, map_push}
use Rattle.std.proofs.lemmas.Option.{same_Some, slice_get_within, get_or_from_slice_get}
use Rattle.io_buffers.specs.Given.{Given, given}
use Rattle.io_buffers.specs.Passes.{publication}
use Rattle.irt_base.specs.declared.plants.App.{App}
use Rattle.iso_app.specs.Sealed.{sealed}
use Rattle.plan_rules.specs.Way.{Setup}
use Rattle.plan_rules.specs.World.{WorldRow}
use Rattle.iso_rules.specs.Image.{IsImage}
use Rattle.iso_rules.specs.Legal.{Replies}
use Rattle.iso_rules.specs.Lockstep.{words_taken, words_of_runs, after_takes, after_cycle, IsLockstep, begun, played}
use Rattle.iso_rules.specs.Station.{output_count, output_lengths}
use Rattle.iso_rules.specs.Turns.{AppRun, new_run, outputs_published, inputs_published, newest_taken, after_take, after_image, turn_after, after_turn}
use Rattle.iso_rules.specs.declared.turn.Turn.{Turn}
use Rattle.iso_rules.proofs.Recent.{past_image}

-- ---- lists

get_push : {X : Type 0} (xs : List X) (x : X) (j : ℕ) (y : X) → slice_get (xs ++ x ∷ []) j ≡ Some y →
    (slice_get xs j ≡ Some y) ⊎ ((j ≡ length xs) × (x ≡ y))
get_push [] x zero y is = inr (refl, same_Some x y is)
get_push [] x (suc j) y is = absurd (cc)
get_push (z ∷ xs) x zero y is = inl is
get_push (z ∷ xs) x (suc j) y is = elim (get_push xs x j y is) [
  | inl before ↦ inl before
  | inr last ↦ inr (ap suc last.0, last.1)
]

get_before : {X : Type 0} (xs : List X) (x : X) (j : ℕ) → j < length xs → slice_get (xs ++ x ∷ []) j ≡ slice_get xs j
get_before [] x j below = absurd (omega (arith, below))
get_before (z ∷ xs) x zero below = refl
get_before (z ∷ xs) x (suc j) below = get_before xs x j (omega (arith, below))

pub mapped_at : {X Y : Type 0} (f : X → Y) (xs : List X) (n : ℕ) (y : Y) → slice_get (map f xs) n ≡ Some y → (x : X) × (slice_get xs n ≡ Some x) × (f x ≡ y)
mapped_at f [] n y is = absurd (cc)
mapped_at f (x ∷ xs) zero y is = (x, refl, same_Some (f x) y is)
mapped_at f (x ∷ xs) (suc n) y is = mapped_at f xs n y is

pub map_at : {X Y : Type 0} (f : X → Y) (xs : List X) (n : ℕ) (x : X) → slice_get xs n ≡ Some x → slice_get (map f xs) n ≡ Some (f x)
map_at f [] n x is = absurd (cc)
map_at f (z ∷ xs) zero x is = ap (λ w. Some (f w)) (same_Some z x is)
map_at f (z ∷ xs) (suc n) x is = map_at f xs n x is

zip_at : {X Y : Type 0} (xs : List X) (ys : List Y) (n : ℕ) (x : X) (y : Y) → slice_get xs n ≡ Some x → slice_get ys n ≡ Some y → slice_get (zip xs ys) n ≡ Some (x, y)
zip_at [] ys n x y first second = absurd (cc)
zip_at (a ∷ xs) [] n x y first second = absurd (cc)
zip_at (a ∷ xs) (b ∷ ys) zero x y first second = ap (λ w. Some (w, b)) (same_Some a x first) ∙ ap (λ w. Some (x, w)) (same_Some b y second)
zip_at (a ∷ xs) (b ∷ ys) (suc n) x y first second = zip_at xs ys n x y first second

pub last_is : {X : Type 0} (xs : List X) (o : Option X) (m : ℕ) (x : X) → length xs ≡ suc m → slice_get xs m ≡ Some x → last_or o xs ≡ Some x
last_is [] o m x long is = absurd (cc)
last_is (a ∷ []) o zero x long is = is
last_is (a ∷ []) o (suc m) x long is = absurd (cc)
last_is (a ∷ b ∷ xs) o zero x long is = absurd (omega (arith, long))
last_is (a ∷ b ∷ xs) o (suc m) x long is = last_is (b ∷ xs) (Some a) m x (omega (arith, long)) is

-- a publication stays what it is as more are made
stays_published : (ps : List (List ℕ)) (words : List ℕ) (j : ℕ) → j < length ps → publication (ps ++ words ∷ []) j ≡ publication ps j
stays_published ps words j below = get_or_append_left ps (words ∷ []) [] j below

-- ---- one app

module _ {A : Type 0} (reply : A → List ℕ → ℕ → List ℕ) (next : A → List ℕ → ℕ → A) (setup : Setup) where
  -- the replies of an app that has come to a state
  abbrev pub RepliesTo : ℕ → A → List Turn → A → Type 0
  RepliesTo device first [] last = first ≡ last
  RepliesTo device first (t ∷ turns) last =
      (t.output ≡ sealed (output_lengths setup device) (reply first t.input (output_count setup device)))
      × RepliesTo device (next first t.input (output_count setup device)) turns last

  replies_more : (device : ℕ) (first : A) (turns : List Turn) (last : A) (t : Turn) → RepliesTo device first turns last →
      t.output ≡ sealed (output_lengths setup device) (reply last t.input (output_count setup device)) →
      RepliesTo device first (turns ++ t ∷ []) (next last t.input (output_count setup device))
  replies_more device first [] last t is new = (
    new ∙ ap (λ s. sealed (output_lengths setup device) (reply s t.input (output_count setup device))) (sym is),
    ap (λ s. next s t.input (output_count setup device)) is,
  )
  replies_more device first (u ∷ turns) last t is new = (is.0, replies_more device (next first u.input (output_count setup device)) turns last t is.1 new)

  pub only_replies : (device : ℕ) (first : A) (turns : List Turn) (last : A) → RepliesTo device first turns last → Replies reply next setup device first turns
  only_replies device first [] last is = tt
  only_replies device first (t ∷ turns) last is = (is.0, only_replies device (next first t.input (output_count setup device)) turns last is.1)

  -- take j and turn j, as they are in lockstep
  pub record IsTakeAt (device : ℕ) (turns : List Turn) (j : ℕ) (g : Given) : Type 0 where
    pub taken : g.taken ≡ newest_taken j
    pub words : g.words ≡ publication (outputs_published setup device turns) j

  pub record IsTurnAt (device : ℕ) (images : List (List ℕ)) (j : ℕ) (t : Turn) : Type 0 where
    pub found : t.found ≡ j + 1
    pub taken : t.taken ≡ newest_taken (j + 1)
    pub input : t.input ≡ publication (inputs_published setup device images) (j + 1)

  pub record IsPlayedRun (k : ℕ) (first : A) (run : AppRun A) : Type 0 where
    pub takes : length run.takes ≡ k
    pub images : length run.images ≡ k
    pub turns : length run.turns ≡ k
    pub each_take : (j : ℕ) (g : Given) → slice_get run.takes j ≡ Some g → IsTakeAt run.device run.turns j g
    pub each_turn : (j : ℕ) (t : Turn) → slice_get run.turns j ≡ Some t → IsTurnAt run.device run.images j t
    pub replies : RepliesTo run.device first run.turns run.state

  outputs_more : (device : ℕ) (turns : List Turn) (t : Turn) → outputs_published setup device (turns ++ t ∷ []) ≡ outputs_published setup device turns ++ t.output ∷ []
  outputs_more device turns t = ap (λ l. replicate (output_count setup device) 0 ∷ l) (map_push (λ (u : Turn). u.output) turns t)

  outputs_count : (device : ℕ) (turns : List Turn) → length (outputs_published setup device turns) ≡ suc (length turns)
  outputs_count device turns = ap suc (length-map turns (λ (u : Turn). u.output))

  take_stays : (device : ℕ) (turns : List Turn) (t : Turn) (j : ℕ) (g : Given) → j ≤ length turns → IsTakeAt device turns j g → IsTakeAt device (turns ++ t ∷ []) j g
  take_stays device turns t j g below is = record {
    taken = is.taken;
    words = is.words
        ∙ sym (ap (λ ps. publication ps j) (outputs_more device turns t)
        ∙ stays_published (outputs_published setup device turns) t.output j (let count = outputs_count device turns in omega (arith, count)));
  }

  turn_stays : (device : ℕ) (images : List (List ℕ)) (image : List ℕ) (j : ℕ) (t : Turn) → j < length images → IsTurnAt device images j t → IsTurnAt device (images ++ image ∷ []) j t
  turn_stays device images image j t below is = record {
    found = is.found;
    taken = is.taken;
    input = is.input ∙ sym (stays_published (inputs_published setup device images) image (j + 1) (omega arith));
  }

  -- one cycle, and the turn after it
  abbrev cycled : ℕ → (ℕ → List ℕ) → AppRun A → AppRun A
  cycled k image run = after_turn reply next setup k (after_image (image run.device) (after_take setup k run))

  played_more : (k : ℕ) (first : A) (image : ℕ → List ℕ) (run : AppRun A) → IsPlayedRun k first run → IsPlayedRun (suc k) first (cycled k image run)
  played_more k first image run is =
      let g : Given = given (newest_taken k) (publication (outputs_published setup run.device run.turns) k) in
      let before : AppRun A = after_image (image run.device) (after_take setup k run) in
      let t : Turn = turn_after reply setup k before in
      record {
        takes = let more = length_push run.takes g in let count = is.takes in omega (arith, more, count);
        images = let more = length_push run.images (image run.device) in let count = is.images in omega (arith, more, count);
        turns = let more = length_push run.turns t in let count = is.turns in omega (arith, more, count);
        each_take = λ j h at.
            elim (get_push run.takes g j h at) [
              | inl old ↦
                  let within = slice_get_within run.takes j h old in
                  let one = is.takes in let other = is.turns in
                  take_stays run.device run.turns t j h (omega (arith, within, one, other)) (is.each_take j h old)
              | inr new ↦
                  let here : j ≡ k = new.0 ∙ is.takes in
                  let one = is.turns in
                  subst (λ (x : Given). IsTakeAt run.device (run.turns ++ t ∷ []) j x) new.1
                  (take_stays run.device run.turns t j g (omega (arith, here, one))
                  (record { taken = ap newest_taken (sym here); words = ap (λ n. publication (outputs_published setup run.device run.turns) n) (sym here) }))
            ];
        each_turn = λ j u at.
            elim (get_push run.turns t j u at) [
              | inl old ↦
                  let within = slice_get_within run.turns j u old in
                  let one = is.images in let other = is.turns in
                  turn_stays run.device run.images (image run.device) j u (omega (arith, within, one, other)) (is.each_turn j u old)
              | inr new ↦
                  let here : j ≡ k = new.0 ∙ is.turns in
                  subst (λ (x : Turn). IsTurnAt run.device (run.images ++ image run.device ∷ []) j x) new.1
                  (subst (λ n. IsTurnAt run.device (run.images ++ image run.device ∷ []) n t) (sym here) (record { found = refl; taken = refl; input = refl }))
            ];
        replies = replies_more run.device first run.turns run.state t is.replies refl;
      }

  -- ---- all apps

  -- one of the apps after so many cycles
  pub record IsRunOf (k : ℕ) (app : App) (first : A) (run : AppRun A) : Type 0 where
    pub device : run.device ≡ app.device.0
    pub played : IsPlayedRun k first run

  module _ (world : List WorldRow) (states : List A) where
    abbrev Lockstep : ℕ → List (AppRun A) → Type 0
    Lockstep k runs = IsLockstep reply next setup world states k runs

    pub runs_at : (k : ℕ) (runs : List (AppRun A)) → Lockstep k runs → (n : ℕ) (app : App) (first : A) → slice_get setup.plant.apps n ≡ Some app →
        slice_get states n ≡ Some first → (run : AppRun A) × (slice_get runs n ≡ Some run) × IsRunOf k app first run
    runs_at _ _ begun n app first at own = (
      new_run app.device.0 first,
      map_at (λ (p : App × A). new_run p.0.device.0 p.1) (zip setup.plant.apps states) n (app, first) (zip_at setup.plant.apps states n app first at own),
      record {
        device = refl;
        played = record {
          takes = refl;
          images = refl;
          turns = refl;
          each_take = λ j g none. absurd (cc);
          each_turn = λ j t none. absurd (cc);
          replies = refl;
        };
      },
    )
    runs_at _ _ (played k runs image before images) n app first at own =
        let (run, there, is) = runs_at k runs before n app first at own in (
          cycled k image run,
          map_at (λ (r : AppRun A). after_turn reply next setup k (after_image (image r.device) r)) (after_takes setup k runs) n (after_take setup k run)
              (map_at (after_take setup k) runs n run there),
          record { device = is.device; played = played_more k first image run is.played },
        )

    -- what became of one app in a cycle
    one_before : (k : ℕ) (runs : List (AppRun A)) (image : ℕ → List ℕ) (n : ℕ) (run : AppRun A) →
        slice_get (after_cycle reply next setup k image runs) n ≡ Some run → (old : AppRun A) × (slice_get runs n ≡ Some old) × (cycled k image old ≡ run)
    one_before k runs image n run at =
        let (mid, there, is) = mapped_at (λ (r : AppRun A). after_turn reply next setup k (after_image (image r.device) r)) (after_takes setup k runs) n run at in
        let (old, here, was) = mapped_at (after_take setup k) runs n mid there in
        (old, here, ap (λ (r : AppRun A). after_turn reply next setup k (after_image (image r.device) r)) was ∙ is)

    pub record HasCounts (k : ℕ) (run : AppRun A) : Type 0 where
      pub takes : length run.takes ≡ k
      pub images : length run.images ≡ k

    counts : (k : ℕ) (runs : List (AppRun A)) → Lockstep k runs → (n : ℕ) (run : AppRun A) → slice_get runs n ≡ Some run → HasCounts k run
    counts _ _ begun n run at =
        let (p, there, is) = mapped_at (λ (p : App × A). new_run p.0.device.0 p.1) (zip setup.plant.apps states) n run at in
        subst (HasCounts 0) is (record { takes = refl; images = refl })
    counts _ _ (played k runs image before images) n run at =
        let (old, there, is) = one_before k runs image n run at in
        let so_far = counts k runs before n old there in
        subst (HasCounts (suc k)) is (record {
          takes = let more = length_push old.takes (given (newest_taken k) (publication (outputs_published setup old.device old.turns) k)) in
              let count = so_far.takes in omega (arith, more, count);
          images = let more = length_push old.images (image old.device) in let count = so_far.images in omega (arith, more, count);
        })

    -- the takes of later cycles leave those before
    words_before : (k : ℕ) (runs : List (AppRun A)) → ((n : ℕ) (run : AppRun A) → slice_get runs n ≡ Some run → HasCounts k run) →
        (app c : ℕ) → c < k → words_of_runs runs app c ≡ words_of_runs (after_takes setup k runs) app c
    words_before k [] counted app c below = refl
    words_before k (run ∷ runs) counted zero c below =
        let count = (counted 0 run refl).takes in
        ap (λ (o : Option Given). unwrap_or (option_map (λ (g : Given). g.words) o) [])
        (sym (get_before run.takes (given (newest_taken k) (publication (outputs_published setup run.device run.turns) k)) c (omega (arith, count, below))))
    words_before k (run ∷ runs) counted (suc app) c below = words_before k runs (λ n. counted (suc n)) app c below

    same_takes : (k : ℕ) (image : ℕ → List ℕ) (runs : List (AppRun A)) →
        map (λ (r : AppRun A). r.takes) (after_takes setup k runs) ≡ map (λ (r : AppRun A). r.takes) (after_cycle reply next setup k image runs)
    same_takes k image [] = refl
    same_takes k image (run ∷ runs) = ap (λ l. (after_take setup k run).takes ∷ l) (same_takes k image runs)

    pub true_images : (k : ℕ) (runs : List (AppRun A)) → Lockstep k runs → (n : ℕ) (run : AppRun A) → slice_get runs n ≡ Some run →
        (j : ℕ) (image : List ℕ) → slice_get run.images j ≡ Some image → IsImage setup world (words_of_runs runs) run.device j image
    true_images _ _ begun n run at j image there =
        let (p, here, is) = mapped_at (λ (p : App × A). new_run p.0.device.0 p.1) (zip setup.plant.apps states) n run at in
        let none : None ≡ Some image = subst (λ (r : AppRun A). slice_get r.images j ≡ Some image) (sym is) there in absurd (cc)
    true_images _ _ (played k runs image before images) n run at j shown there =
        let (old, here, is) = one_before k runs image n run at in
        let After : List (AppRun A) = after_cycle reply next setup k image runs in
        let same : words_of_runs (after_takes setup k runs) ≡ words_of_runs After = ap words_taken (same_takes k image runs) in
        let counted = counts k runs before in
        let Goal : AppRun A → Type 0 = λ r. IsImage setup world (words_of_runs After) r.device j shown in
        subst Goal is (elim (get_push old.images (image old.device) j shown (subst (λ (r : AppRun A). slice_get r.images j ≡ Some shown) (sym is) there)) [
          | inl past ↦
              let within = slice_get_within old.images j shown past in
              let count = (counted n old here).images in
              past_image setup world world (words_of_runs runs) (words_of_runs After) old.device j shown (λ c low. refl)
              (λ c app low. words_before k runs counted app c (omega (arith, within, count, low)) ∙ ap (λ (w : ℕ → ℕ → List ℕ). w app c) same)
              (true_images k runs before n old here j shown past)
          | inr now ↦
              let count = (counted n old here).images in
              let cycle : j ≡ k = now.0 ∙ count in
              let whole : IsImage setup world (words_of_runs (after_takes setup k runs)) old.device k (image old.device) =
              subst (λ (r : AppRun A). IsImage setup world (words_of_runs (after_takes setup k runs)) r.device k (image r.device))
              (get_or_from_slice_get runs n old old here) (images n old (slice_get_within runs n old here)) in
              subst (λ m. IsImage setup world (words_of_runs After) old.device m shown) (sym cycle)
              (subst (λ ws. IsImage setup world (words_of_runs After) old.device k ws) now.1
              (subst (λ (w : ℕ → ℕ → List ℕ). IsImage setup world w old.device k (image old.device)) same whole))
        ])
