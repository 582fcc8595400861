-- A generated plant meets the plant rules.
use Rattle.std.proofs.Common.{◌≡◌, ◌≢◌, ℕ, zero, suc, ◌+◌, ◌-◌, ◌*◌, ◌/◌, ◌%◌, ◌<◌, ◌≤◌, ◌==◌, ◌^◌, Bool, true, false, cond, List, [], ◌∷◌, ◌++◌, length, map, replicate, rules, mul-suc, mul-zero, Some, inl, inr, refl, sym, ap, subst, ◌∙◌, arith}
use Rattle.std.specs.Prelude.{slice_get, decimal, bytes_eq, unwrap_or, option_map, option_and_then}
use Rattle.std.specs.List.{AllByRecursion, IsDistinct, range_with_len}
use Rattle.std.proofs.lemmas.Bool.{cases_Bool, eqb-true}
use Rattle.std.proofs.lemmas.List.Sums.{sum_by-cons}
use Rattle.std.specs.Option.{option_map_or}
use Rattle.std.proofs.lemmas.Bool.Decides.{nat_tests}
use Rattle.std.proofs.lemmas.Fmt.{length-decimal-le, decimal_injective, decimal_by_steps}
use Rattle.std.proofs.lemmas.List.FromFn.{length-map-range_with_len, get_or-map-range_with_len}
use Rattle.std.proofs.lemmas.Map.Keys.{IsDistinct-from_apart}
use Rattle.std.proofs.lemmas.Option.{slice_get-get_or}
use Rattle.irt_base.specs.Cycle.{cycle_time}
use Rattle.irt_base.specs.Valid.{IsWithin, IsDataLength}
use Rattle.irt_base.specs.Wiring.{port_delays, tx_delay, rx_delay}
use Rattle.irt_base.specs.declared.blocks.PortDelay.{PortDelay}
use Rattle.irt_base.specs.declared.limits.TheConstants.{MAX_DEVICES, MAX_DEMANDS, MAX_WORDS}
use Rattle.irt_base.specs.declared.numbers.DevId.{DevId}
use Rattle.irt_base.specs.declared.plants.Device.{Device}
use Rattle.irt_base.specs.declared.plants.Demand.{Demand}
use Rattle.irt_base.specs.declared.plants.Plant.{Plant}
use Rattle.plant_rules.specs.Meets.{IsName, IsNameByte, IsDevice, IsLink, IsDemand, MeetsRules, FitsCycle, same_device}
use Rattle.plant_rules.specs.Words.{is_within, same_name, has_port, share_port, same_frame, same_app_device, demand_words, words_where, consumes, provides}
use Rattle.plant_gen.specs.Generated.{generated_device, generated_link, generated_provider, generated_demand, generated_update, generated_plant}
use Rattle.seed_draws.specs.Draws.{draw_of}

-- what holds of each made item
each_made : {X : Type 0} (P : X → Type 0) (f : ℕ → X) (a n : ℕ) → ((k : ℕ) → a ≤ k → k < a + n → P (f k)) → AllByRecursion P (map f (range_with_len a n))
each_made P f a zero each = tt
each_made P f a (suc n) each = (each a (omega arith) (omega arith), each_made P f (a + 1) n (λ k low high. each k (omega arith) (omega arith)))

-- made items that differ by a test
made_apart : {X : Type 0} (same : X → X → Bool) (f : ℕ → X) (a n : ℕ) → ((j k : ℕ) → a ≤ j → j < k → k < a + n → same (f j) (f k) ≡ false) →
    IsDistinct same (map f (range_with_len a n))
made_apart same f a n apart =
    IsDistinct-from_apart same (map f (range_with_len a n))
    (λ i j d before within.
    let short : j < n = omega (arith, length-map-range_with_len f a n) in
    rw (get_or-map-range_with_len f a n i (a + i) d (omega arith) refl, get_or-map-range_with_len f a n j (a + j) d short refl)
    (apart (a + i) (a + j) (omega arith) (omega arith) (omega arith)))

made_at : {X : Type 0} (f : ℕ → X) (n k : ℕ) → k < n → slice_get (map f (range_with_len 0 n)) k ≡ Some (f k)
made_at f n k below =
    slice_get-get_or (map f (range_with_len 0 n)) k (f k) (omega (arith, length-map-range_with_len f 0 n))
    ∙ ap (λ x. Some x) (get_or-map-range_with_len f 0 n k k (f k) below (omega arith))

eqb-from_differ : (a b : ℕ) → a ≢ b → a == b ≡ false
eqb-from_differ a b differ =
    elim (cases_Bool (a == b)) [
      | inl same ↦ absurd (differ (eqb-true a b same))
      | inr other ↦ other
    ]

bytes_eq-true : (xs ys : List ℕ) → bytes_eq xs ys ≡ true → xs ≡ ys
bytes_eq-true xs ys same = search rules

-- ---- names

letters_more : (bytes : List ℕ) (b : ℕ) → AllByRecursion IsNameByte bytes → IsNameByte b → AllByRecursion IsNameByte (bytes ++ b ∷ [])
letters_more [] b all last = (last, tt)
letters_more (x ∷ xs) b all last = (all.0, letters_more xs b all.1 last)

decimal_letters : (n : ℕ) → n < 2 ^ 64 → AllByRecursion IsNameByte (decimal n)
decimal_letters n small =
    decimal_by_steps (λ n ds. AllByRecursion IsNameByte ds)
    (λ n below. (inr (inl (omega arith, omega arith)), tt))
    (λ n ds above all. letters_more ds (48 + n % 10) all (inr (inl (omega arith, omega arith))))
    n small

name_of : (seed k : ℕ) → k < 64 → IsName (generated_device seed k).name
name_of seed k below = record {
  length = (omega arith, omega (arith, length-decimal-le 2 k (omega arith) (omega arith) (omega arith)));
  letters = (inl (omega arith, omega arith), decimal_letters k (omega arith));
}

device_of : (seed k : ℕ) → k < 64 → IsDevice (generated_device seed k)
device_of seed k below = record {
  name = name_of seed k below;
  port_count = (omega arith, omega arith);
  ports = search rules;
  bridge_order = omega arith;
  bridge = omega arith;
}

names_apart : (seed j k : ℕ) → j < k → k < 64 → same_name (generated_device seed j) (generated_device seed k) ≡ false
names_apart seed j k before below =
    elim (cases_Bool (bytes_eq (decimal j) (decimal k))) [
      | inl same ↦ absurd (omega (arith, decimal_injective j k (omega arith) (omega arith) (bytes_eq-true (decimal j) (decimal k) same)))
      | inr differ ↦ differ
    ]

-- ---- links

seven : {X : Type 0} (x : X) (i : ℕ) → i < 7 → slice_get (replicate 7 x) i ≡ Some x
seven x zero below = refl
seven x (suc zero) below = refl
seven x (suc (suc zero)) below = refl
seven x (suc (suc (suc zero))) below = refl
seven x (suc (suc (suc (suc zero)))) below = refl
seven x (suc (suc (suc (suc (suc zero))))) below = refl
seven x (suc (suc (suc (suc (suc (suc zero)))))) below = refl
seven x (suc (suc (suc (suc (suc (suc (suc i))))))) below = absurd (omega arith)

-- what links are asked of
record IsMade (plant : Plant) (seed n : ℕ) : Type 0 where
  factor : plant.factor ≡ 128
  window : plant.window ≡ 1000
  red_max : plant.red_max ≡ 3500000
  devices : plant.devices ≡ map (generated_device seed) (range_with_len 0 n)

device_at : (plant : Plant) (seed n k : ℕ) → IsMade plant seed n → k < n → slice_get plant.devices k ≡ Some (generated_device seed k)
device_at plant seed n k made below = ap (λ ds. slice_get ds k) made.devices ∙ made_at (generated_device seed) n k below

delays : (plant : Plant) (seed n k port : ℕ) → IsMade plant seed n → k < n → 1 ≤ port → port ≤ 7 →
    port_delays plant k port ≡ Some (record { tx = 100; rx = 200 })
delays plant seed n k port made below low high =
    ap (λ o. option_and_then (λ (d : Device). slice_get d.ports (port - 1)) o) (device_at plant seed n k made below)
    ∙ seven _ (port - 1) (omega arith)

tx_of : (plant : Plant) (k port : ℕ) → port_delays plant k port ≡ Some (record { tx = 100; rx = 200 }) → tx_delay plant k port ≡ 100
tx_of plant k port at = ap (λ o. unwrap_or (option_map (λ (p : PortDelay). p.tx) o) 0) at

rx_of : (plant : Plant) (k port : ℕ) → port_delays plant k port ≡ Some (record { tx = 100; rx = 200 }) → rx_delay plant k port ≡ 200
rx_of plant k port at = ap (λ o. unwrap_or (option_map (λ (p : PortDelay). p.rx) o) 0) at

has : (plant : Plant) (seed n k port : ℕ) → IsMade plant seed n → k < n → 1 ≤ port → port ≤ 7 → has_port plant k port ≡ true
has plant seed n k port made below low high =
    ap (λ o. option_map_or (λ (d : Device). is_within 1 (length d.ports) port) o false) (device_at plant seed n k made below)
    ∙ grind (arith, nat_tests)

fits : (plant : Plant) (seed n tx delay rx : ℕ) → IsMade plant seed n → tx ≡ 100 → delay ≤ 999 → rx ≡ 200 → FitsCycle plant (plant.red_max + (tx + delay + rx))
fits plant seed n tx delay rx made is_tx small is_rx = rw (made.factor, made.window, made.red_max, is_tx, is_rx) (omega arith)

link_of : (plant : Plant) (seed n k : ℕ) → IsMade plant seed n → n ≤ 64 → 1 ≤ k → k < n → IsLink plant (generated_link seed k)
link_of plant seed n k made small low below =
    let up : (k - 1) / 6 < n = omega arith in
    let out : 2 + (k - 1) % 6 ≤ 7 = omega arith in
    let there = delays plant seed n ((k - 1) / 6) (2 + (k - 1) % 6) made up (omega arith) out in
    let here = delays plant seed n k 1 made below (omega arith) (omega arith) in
    let short : (x : ℕ) → 500 + x % 500 ≤ 999 = λ x. omega arith in
    record {
      first_port = has plant seed n ((k - 1) / 6) (2 + (k - 1) % 6) made up (omega arith) out;
      second_port = has plant seed n k 1 made below (omega arith) (omega arith);
      two_devices = eqb-from_differ ((k - 1) / 6) k (λ same. omega arith);
      delay = less (draw_of seed 2 k 0);
      there = fits plant seed n _ _ _ made (tx_of plant _ _ there) (short (draw_of seed 2 k 0)) (rx_of plant k 1 here);
      back = fits plant seed n _ _ _ made (tx_of plant k 1 here) (short (draw_of seed 2 k 0)) (rx_of plant _ _ there);
    } where
      less : (x : ℕ) → 500 + x % 500 ≤ 100000
      less x = omega arith

links_apart : (seed j k : ℕ) → 1 ≤ j → j < k → share_port (generated_link seed j) (generated_link seed k) ≡ false
links_apart seed j k low before = grind (arith, nat_tests)

-- ---- demands

record IsChosen (plant : Plant) (seed n : ℕ) : Type 0 where
  factor : plant.factor ≡ 128
  count : length plant.devices ≡ n

goes_round : (p s n q r : ℕ) → p < n → s + 1 < n → n * q + r ≡ p + 1 + s → r < n → r ≢ p
goes_round p s n zero r here few is below = λ same. omega (arith, mul-zero n)
goes_round p s n (suc zero) r here few is below = λ same. omega (arith, mul-suc n 0, mul-zero n)
goes_round p s n (suc (suc q)) r here few is below = λ same. omega (arith, mul-suc n (suc q), mul-suc n q)

goes_on : (p s n : ℕ) → p < n → 2 ≤ n → (p + 1 + s % (n - 1)) % n ≢ p
goes_on p s n here some =
    let few : s % (n - 1) < n - 1 = omega arith in
    let below : (p + 1 + s % (n - 1)) % n < n = omega arith in
    let is : n * ((p + 1 + s % (n - 1)) / n) + (p + 1 + s % (n - 1)) % n ≡ p + 1 + s % (n - 1) = omega arith in
    goes_round p (s % (n - 1)) n ((p + 1 + s % (n - 1)) / n) ((p + 1 + s % (n - 1)) % n) here (omega arith) is below

below_of : (x n : ℕ) → 2 ≤ n → x % n < n
below_of x n some = omega arith

data_length : (x : ℕ) → IsDataLength (40 + 8 * (x % 4))
data_length x = ((omega arith, omega arith), omega arith)

often : (x : ℕ) → x < 4 → 4000000 ≤ 4000000 * 2 ^ x
often zero below = omega arith
often (suc zero) below = omega arith
often (suc (suc zero)) below = omega arith
often (suc (suc (suc zero))) below = omega arith
often (suc (suc (suc (suc x)))) below = absurd (omega arith)

demand_of : (plant : Plant) (seed n k : ℕ) → IsChosen plant seed n → 2 ≤ n → k < 512 → IsDemand plant (generated_demand seed n k)
demand_of plant seed n k chosen some below =
    let inside : (x : ℕ) → x % n < length plant.devices = λ x. subst (λ (m : ℕ). x % n < m) (sym chosen.count) (below_of x n some) in
    record {
      frame = (omega arith, omega arith);
      provider = inside (draw_of seed 3 k 0);
      some_consumer = omega arith;
      consumers = (record { device = inside (generated_provider seed n k + 1 + draw_of seed 3 k 1 % (n - 1)); other = eqb-from_differ _ _ (goes_on _ _ n (below_of (draw_of seed 3 k 0) n some) some) }, tt);
      consumers_differ = one_differs _;
      length = data_length (draw_of seed 3 k 2);
      update = subst (λ (f : ℕ). cycle_time f ≤ generated_update seed k) (sym chosen.factor) (often (draw_of seed 3 k 3 % 4) (four (draw_of seed 3 k 3)));
    } where
      one_differs : (d : DevId) → IsDistinct same_device (d ∷ [])
      one_differs d = IsDistinct-from_apart same_device (d ∷ []) (λ i j e before within. absurd (omega arith))

      four : (x : ℕ) → x % 4 < 4
      four x = omega arith

-- ---- words

eight : (x : ℕ) → (40 + 8 * (x % 4)) / 8 ≤ 8
eight x = omega arith

counted : (b : Bool) (w : ℕ) → w ≤ 8 → cond b w 0 ≤ 8
counted true w small = small
counted false w small = omega arith

few_words : (test : Demand → Bool) (seed n a k : ℕ) → words_where test (map (generated_demand seed n) (range_with_len a k)) ≤ 8 * k
few_words test seed n a zero = omega arith
few_words test seed n a (suc k) =
    let first = counted (test (generated_demand seed n a)) (demand_words (generated_demand seed n a)) (eight (draw_of seed 3 a 2)) in
    let rest = few_words test seed n (a + 1) k in
    let both = sum_by-cons (λ d. cond (test d) (demand_words d) 0) (generated_demand seed n a) (map (generated_demand seed n) (range_with_len (a + 1) k)) in
    (rw both (sum_small _ _ k first rest)) where
      sum_small : (x y k : ℕ) → x ≤ 8 → y ≤ 8 * k → x + y ≤ 8 * suc k
      sum_small x y k one more = omega arith

pub generated_meets : (seed n frames : ℕ) → IsWithin 2 MAX_DEVICES n → frames ≤ MAX_DEMANDS → MeetsRules (generated_plant seed n frames)
generated_meets seed n frames (some, few) short =
    let words : (test : Demand → Bool) → words_where test (map (generated_demand seed n) (range_with_len 0 frames)) ≤ MAX_WORDS
    = λ test. omega (arith, few_words test seed n 0 frames) in
    record {
      factor = (omega arith, omega arith);
      window = omega arith;
      periods = omega arith;
      device_count = (omega (arith, length-map-range_with_len (generated_device seed) 0 n), omega (arith, length-map-range_with_len (generated_device seed) 0 n));
      devices = each_made IsDevice (generated_device seed) 0 n (λ k low below. device_of seed k (omega arith));
      names_differ = made_apart same_name (generated_device seed) 0 n (λ j k low before below. names_apart seed j k before (omega arith));
      links = each_made (IsLink (generated_plant seed n frames)) (generated_link seed) 1 (n - 1) (λ k low below. link_of _ seed n k (record { factor = refl; window = refl; red_max = refl; devices = refl }) few low (omega arith));
      ports_differ = made_apart share_port (generated_link seed) 1 (n - 1) (λ j k low before below. links_apart seed j k low before);
      demand_count = omega (arith, length-map-range_with_len (generated_demand seed n) 0 frames);
      demands = each_made (IsDemand (generated_plant seed n frames)) (generated_demand seed n) 0 frames (λ k low below. demand_of _ seed n k (record { factor = refl; count = length-map-range_with_len (generated_device seed) 0 n }) some (omega arith));
      frames_differ = made_apart same_frame (generated_demand seed n) 0 frames (λ j k low before below. grind (arith, nat_tests));
      traffic_count = omega arith;
      traffic = tt;
      apps = tt;
      app_devices_differ = IsDistinct-from_apart same_app_device [] (λ i j d before within. absurd (omega arith));
      words = λ device below. record { consumed = words (consumes device); provided = words (provides device) };
      sync = record { send = (omega arith, omega arith); timeout = (omega arith, omega arith); drift = omega arith; stamp = omega arith; loss = inl refl };
      clocks = λ ptcp. absurd (cc);
    }
